-- "(c) gives only 0 to 5 and 10."
use Rattle.std.specs.Prelude.{Some, None, Ok, Err}
use mathlib.Core.Path.{◌≡◌, refl, sym, subst}
use mathlib.Core.List.{List}
use mathlib.Core.Bool.{Bool, true, false, ◌||◌, cond}
use Prim.Native.Nat.{ℕ, zero, suc}
use lib.Dec.{T, eqb, ltb, leb}
use lib.ListN.{length}
use Rattle.chars.specs.declared.Answer.{Answer}
use Rattle.chars.specs.declared.Class.TheVariants.{Ascii}
use Rattle.chars.specs.Chars.{is_class}
use Rattle.chars.specs.Runs.{past_run}
use Rattle.tokens.specs.Results.{Fit}
use Rattle.tokens.specs.Results.{Step}
use Rattle.tokens.specs.Results.{Whole}
use Rattle.tokens.specs.Blanks.{skip_all}
use Rattle.tokens.specs.Rules.{pair_at, refused, taken, or_else, token_at}
use Rattle.tokens.specs.Tokens.{step_at, whole_of, Listed, list_from, list_of, refusal, counted, ended, unless, is_given, answer_of}
use Rattle.tokens.proofs.Lists.{list_taken, list_refused}

-- a step refuses with 4, 5 or 11
abbrev is_stopped : ℕ → Bool
is_stopped n = leb n 5 || eqb n 11

abbrev Stopping : Step → Type 0
Stopping (Ok (w, a, next)) = Unit {0}
Stopping (Err r) = T (is_stopped r.number)

or_stops : (at : ℕ) (f : Fit) (d : Step) → Stopping d → Stopping (or_else at f d)
unfolding or_else taken
or_stops at (Some (e, w)) d h = tt
or_stops at None d h = h

pick_stops : (b : Bool) (x d : Step) → Stopping x → Stopping d → Stopping (cond b x d)
pick_stops true x d h k = h
pick_stops false x d h k = k

token_stops : (s : List ℕ) (at : ℕ) → Stopping (token_at s at)
unfolding token_at refused
token_stops s at =
    or_stops at _ _ (or_stops at _ _ (or_stops at _ _ (or_stops at _ _ (or_stops at _ _ (or_stops at _ _ (or_stops at _ _
    (pick_stops (pair_at s at 102 34) _ _ tt
    (or_stops at _ _ (or_stops at _ _ (or_stops at _ _ tt))))))))))

step_stops : (s : List ℕ) (at : ℕ) → Stopping (step_at s at)
unfolding step_at refused
step_stops s at = pick_stops (ltb (skip_all s at) (length s)) _ _ (token_stops s (skip_all s at)) tt

list_stops : (n : ℕ) (s : List ℕ) (at : ℕ) → T (is_stopped (list_from n s at).ending.number)
unfolding list_from
list_stops zero s at = tt
list_stops (suc n) s at = go (step_at s at) refl (step_stops s at) (λ next. list_stops n s next)
  where
    go : (x : Step) → step_at s at ≡ x → Stopping x → ((next : ℕ) → T (is_stopped (list_from n s next).ending.number)) → T (is_stopped (list_from (suc n) s at).ending.number)
    go (Ok (w, a, next)) e h rest = subst (λ (l : Listed). T (is_stopped l.ending.number)) (sym (list_taken n s at e)) (rest next.at)
    go (Err r) e h rest = subst (λ (l : Listed). T (is_stopped l.ending.number)) (sym (list_refused n s at e)) h

wider : (a b : Bool) → T (a || false) → T (a || b)
wider true b h = tt
wider false b h = absurd h

counted_given : (len n room : ℕ) → T (is_given (counted len n room).number)
counted_given len n room = go (leb n room)
  where
    go : (b : Bool) → T (is_given (cond {A = Answer} b (record { number = 0; start = 0; end = len; count = n }) (record { number = 10; start = 0; end = 0; count = n })).number)
    go true = tt
    go false = tt

ended_given : (len : ℕ) (l : Listed) (room : ℕ) → T (is_stopped l.ending.number) → T (is_given (ended len l room).number)
ended_given len l room h = go (eqb l.ending.number 11) refl
  where
    n : ℕ
    n = l.ending.number

    go : (b : Bool) → eqb n 11 ≡ b → T (is_given (cond {A = Answer} b (counted len (length l.tokens) room) (refusal l.ending)).number)
    go true e = counted_given len (length l.tokens) room
    go false e = wider (leb n 5) (eqb n 10) (subst (λ (b : Bool). T (leb n 5 || b)) e h)

abbrev Told : Whole → Type 0
Told (Ok tt) = Unit {0}
Told (Err r) = T (is_given r.number)

pick_told : (b : Bool) (x d : Whole) → Told x → Told d → Told (cond b x d)
pick_told true x d h k = h
pick_told false x d h k = k

whole_told : (s : List ℕ) → Told (whole_of s)
unfolding whole_of
whole_told s = pick_told (ltb 65535 (length s)) _ _ tt (pick_told (ltb (past_run (is_class Ascii) s 0) (length s)) _ _ tt (pick_told (pair_at s 0 35 33) _ _ tt tt))

pub only_given : (s : List ℕ) (room : ℕ) → T (is_given (answer_of s room).number)
unfolding answer_of list_of
only_given s room = go (whole_of s) (whole_told s)
  where
    go : (w : Whole) → Told w → T (is_given (unless w (ended (length s) (list_of s) room)).number)
    go (Ok tt) h = ended_given (length s) (list_of s) room (list_stops _ s 0)
    go (Err r) h = h
