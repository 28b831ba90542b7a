-- No refusal has the number 0; so where the source is refused, or its tokens exceed the room, the answer's number isn't 0.
use Rattle.std.specs.Prelude.{Some, None, Ok, Err}
use mathlib.Core.Path.{◌≡◌, refl, sym, ap, ◌∙◌, subst}
use Prim.Native.Nat.{ℕ, zero, suc, ◌+◌, ◌<◌}
use mathlib.Core.List.{List}
use mathlib.Core.Bool.{Bool, true, false, cond}
use native.Mathlib.Omega.{arith}
use lib.ListN.{length}
use lib.Dec.{eqb, ltb}
use borrow.Author.Tests.{ne_eqb, lt-leb}
use Rattle.chars.specs.declared.Class.TheVariants.{Ascii}
use Rattle.chars.specs.Chars.{is_class}
use Rattle.chars.specs.Runs.{past_run}
use Rattle.tokens.specs.Results.{Fit}
use Rattle.tokens.specs.declared.Refusal.{Refusal}
use Rattle.chars.specs.declared.Answer.{Answer}
use Rattle.tokens.specs.Results.{Step}
use Rattle.tokens.specs.Results.{Whole}
use Rattle.tokens.specs.Blanks.{skip_all}
use Rattle.tokens.specs.Rules.{or_else, taken, refused, pair_at, token_at, ipv6_at, ipv4_at, two_at, one_at, as_at, hex_at, number_at, quote_at, name_at}
use Rattle.tokens.specs.Tokens.{step_at, whole_of, Listed, list_from, list_of, refusal, counted, answer_of}
use Rattle.tokens.proofs.Lists.{list_taken, list_refused}

abbrev Numbered : Step → Type 0
Numbered (Ok (w, a, next)) = Unit {0}
Numbered (Err r) = r.number ≡ 0 → ⊥

or_numbered : (at : ℕ) (f : Fit) (d : Step) → Numbered d → Numbered (or_else at f d)
unfolding or_else taken
or_numbered at (Some (e, w)) d h = tt
or_numbered at None d h = h

pick_numbered : (t : Bool) (a b : Step) → Numbered a → Numbered b → Numbered (cond t a b)
pick_numbered true a b h k = h
pick_numbered false a b h k = k

token_numbered : (s : List ℕ) (at : ℕ) → Numbered (token_at s at)
unfolding token_at refused
token_numbered s at =
    or_numbered at (ipv6_at s at) _
    (or_numbered at (ipv4_at s at) _
    (or_numbered at (two_at s at) _
    (or_numbered at (one_at s at) _
    (or_numbered at (as_at s at) _
    (or_numbered at (hex_at s at) _
    (or_numbered at (number_at s at) _
    (pick_numbered (pair_at s at 102 34) _ _ (λ e. omega (arith, e))
    (or_numbered at (quote_at 34 9 s at) _
    (or_numbered at (quote_at 39 10 s at) _
    (or_numbered at (name_at s at) _ (λ e. omega (arith, e))))))))))))

step_numbered : (s : List ℕ) (at : ℕ) → Numbered (step_at s at)
unfolding step_at refused
step_numbered s at = pick_numbered (ltb (skip_all s at) (length s)) _ _ (token_numbered s (skip_all s at)) (λ e. omega (arith, e))

pub refusal_numbered : (s : List ℕ) (at : ℕ) {r : Refusal} → step_at s at ≡ Err r → r.number ≡ 0 → ⊥
refusal_numbered s at e = subst Numbered e (step_numbered s at)

ending_numbered : (n : ℕ) (s : List ℕ) (at : ℕ) → (list_from n s at).ending.number ≡ 0 → ⊥
unfolding list_from
ending_numbered zero s at = λ e. omega (arith, e)
ending_numbered (suc n) s at = go (step_at s at) refl (ending_numbered n s)
  where
    go : (x : Step) → step_at s at ≡ x → ((next : ℕ) → (list_from n s next).ending.number ≡ 0 → ⊥) → (list_from (suc n) s at).ending.number ≡ 0 → ⊥
    go (Ok (w, a, next)) e rest h = rest next.at (sym (ap (λ (l : Listed). l.ending.number) (list_taken n s at e)) ∙ h)
    go (Err r) e rest h = refusal_numbered s at e (sym (ap (λ (l : Listed). l.ending.number) (list_refused n s at e)) ∙ h)

abbrev WholeNumbered : Whole → Type 0
WholeNumbered (Ok tt) = Unit {0}
WholeNumbered (Err r) = r.number ≡ 0 → ⊥

pick_whole : (t : Bool) (a b : Whole) → WholeNumbered a → WholeNumbered b → WholeNumbered (cond t a b)
pick_whole true a b h k = h
pick_whole false a b h k = k

whole_numbered : (s : List ℕ) → WholeNumbered (whole_of s)
unfolding whole_of
whole_numbered s =
    pick_whole (ltb 65535 (length s)) _ _ (λ e. omega (arith, e))
    (pick_whole (ltb (past_run (is_class Ascii) s 0) (length s)) _ _ (λ e. omega (arith, e))
    (pick_whole (pair_at s 0 35 33) _ _ (λ e. omega (arith, e)) tt))

abbrev accepts : Answer → Bool
accepts a = eqb a.number 0

module _ (s : List ℕ) (n : ℕ) where
  pub whole_fails : {r : Refusal} → whole_of s ≡ Err r → eqb (answer_of s n).number 0 ≡ false
  unfolding answer_of
  whole_fails {r} e = rw e (ne_eqb _ _ (subst WholeNumbered e (whole_numbered s)))

  pub more_fails : whole_of s ≡ (Ok tt) → n < length (list_of s).tokens → eqb (answer_of s n).number 0 ≡ false
  unfolding answer_of list_of
  more_fails e h = rw e (go (eqb (list_of s).ending.number 11) refl)
    where
      go : (t : Bool) → eqb (list_of s).ending.number 11 ≡ t → accepts (cond t (counted (length s) (length (list_of s).tokens) n) (refusal (list_of s).ending)) ≡ false
      go true _ = rw (lt-leb (length (list_of s).tokens) n h) refl
      go false _ = ne_eqb _ _ (ending_numbered (length s + 1) s 0)
