-- What stands in the list, turn by turn of the writer; and that in the end it is what the contract says. With no machine in it.
use Rattle.std.specs.Prelude.{Option, Some, None, Ok, Err}
use mathlib.Core.Path.{◌≡◌, refl, sym, ap, ◌∙◌}
use Prim.Native.Nat.{ℕ, zero, suc, ◌+◌, ◌-◌, ◌<◌, ◌≤◌}
use mathlib.Core.List.{List, [], ◌∷◌, ◌++◌, append-nil}
use mathlib.Core.Bool.{Bool, true, false, cond}
use native.Mathlib.Numerals.{add-one}
use native.Mathlib.Nat.{sub-zero}
use native.Mathlib.Omega.{arith}
use lib.ListN.{length, set, length-set, take, drop, replicate, length-drop, take-append-drop}
use lib.Seq.{take-suc-set, take-set-le, take_at, drop_at, take_all}
use lib.Dec.{eqb, ltb}
use borrow.Author.Tests.{ne_eqb, le-leb, ltb-true, ltb-false}
use Rattle.tokens.specs.declared.Token.{Token}
use Rattle.tokens.specs.declared.Cursor.{Cursor}
use Rattle.tokens.specs.declared.Refusal.{Refusal}
use Rattle.tokens.specs.Results.{Step}
use Rattle.tokens.specs.Results.{Whole}
use Rattle.tokens.specs.Tokens.{step_at, whole_of, token_of, list_from, list_of, last_of, answer_of}
use Rattle.tokens.proofs.Steps.{taken_good}
use Rattle.tokens.proofs.Lists.{list_taken, list_refused, enough, Counted, none_counted, one_counted, all_counted}
use Rattle.list.specs.declared.State.{State}
use Rattle.list.specs.declared.Stored.{Stored}
use Rattle.list.specs.Filled.{zero_token, filled}
use Rattle.list.specs.States.{failed, complete, ended, onward, standing, begun_by, begun, read_by, zero_next, next_of}
use Rattle.list.proofs.Refusals.{refusal_numbered, whole_fails, more_fails}

-- the front of a list, one longer
one_more : (xs : List Token) (p : ℕ) {t : Token} {rest : List Token} → drop p xs ≡ t ∷ rest → (take (suc p) xs ≡ take p xs ++ t ∷ []) × (drop (suc p) xs ≡ rest)
one_more [] zero e = absurd (omega (arith, ap length e))
one_more [] (suc p) e = absurd (omega (arith, ap length e))
one_more (x ∷ xs) zero {t} {rest} e =
    let h : x ≡ t = cc in
    let k : xs ≡ rest = cc in
    (ap (λ y. y ∷ []) h, k)
one_more (x ∷ xs) (suc p) e = (ap (λ l. x ∷ l) (one_more xs p e).0, (one_more xs p e).1)

-- the same where a store makes it so
stored_more : (xs l : List Token) (p : ℕ) {t : Token} {rest : List Token} → drop p xs ≡ t ∷ rest → p < length l → take p l ≡ take p xs → take (suc p) (set l p t) ≡ take (suc p) xs
stored_more xs l p {t} e h same = take-suc-set l p t h ∙ ap (λ y. y ++ t ∷ []) same ∙ sym (one_more xs p e).0

-- the tokens from a place on
abbrev pub tokens_at : List ℕ → ℕ → List Token
tokens_at s at = (list_from (suc (length s - at)) s at).tokens

tokens_taken : (s : List ℕ) (at : ℕ) → at ≤ length s → {w a : ℕ} {next : Cursor} → step_at s at ≡ Ok (w, a, next) → tokens_at s at ≡ token_of w a next ∷ tokens_at s next.at
tokens_taken s at h {w} {a} {next} e =
    let f : (at ≤ a) × (a < next.at) × (next.at ≤ length s) = taken_good s at e in
    ap (λ l. l.tokens) (list_taken (length s - at) s at e) ∙ ap (λ l. token_of w a next ∷ l.tokens) (enough (length s - at) (suc (length s - next.at)) s next.at (omega (arith, f)) (omega (arith, f)) (omega (arith, f)))

tokens_refused : (s : List ℕ) (at : ℕ) {r : Refusal} → step_at s at ≡ Err r → tokens_at s at ≡ []
tokens_refused s at e = ap (λ l. l.tokens) (list_refused (length s - at) s at e)

all_tokens : (s : List ℕ) → (list_of s).tokens ≡ tokens_at s 0
unfolding list_of
all_tokens s = ap (λ l. l.tokens) (enough (length s + 1) (suc (length s - 0)) s 0 (omega arith) (omega arith) (omega arith))

module _ (s : List ℕ) (n : ℕ) where
  abbrev pub all : List Token
  all = (list_of s).tokens

  -- p tokens have been read, and the source up to a place
  pub record Read (at p : ℕ) : Type 0 where
    pub fine : whole_of s ≡ (Ok tt)
    pub counted : Counted s at p
    pub left : drop p all ≡ tokens_at s at

  -- tokens are read, and those so far stand first in the list
  pub record Reading (cursor : Cursor) (st : State) (l : List Token) : Type 0 where
    pub room : st.place < n
    pub read : Read cursor.at st.place
    pub same : take st.place l ≡ take st.place all

  -- the answer is known, and of what is to stand in the list only zero tokens are missing
  pub record Known (st : State) (l : List Token) : Type 0 where
    pub answered : st.answer ≡ answer_of s n
    pub within : st.place ≤ n
    pub zeros : drop st.place (filled s n) ≡ replicate (n - st.place) zero_token
    pub same : take st.place l ≡ take st.place (filled s n)

  abbrev pub GoodBy : Option Cursor → State → List Token → Type 0
  GoodBy (Some cursor) st l = Reading cursor st l
  GoodBy None st l = Known st l

  abbrev pub Good : State → List Token → Type 0
  Good st l = GoodBy st.cursor st l

  -- how many turns are left at most
  abbrev pub turns_by : Option Cursor → ℕ
  turns_by (Some cursor) = suc n
  turns_by None = 0

  abbrev pub turns : State → ℕ
  turns st = turns_by st.cursor + (n - st.place)

  failed_good : (l : List Token) → eqb (answer_of s n).number 0 ≡ false → Good (failed s n) l × (turns (failed s n) ≤ n)
  unfolding failed filled
  failed_good l h = (record { answered = refl; within = omega arith; zeros = rw h (ap (λ m. replicate m zero_token) (sym (sub-zero n))); same = refl }, omega arith)

  -- all p tokens are read
  module _ (p : ℕ) (h : p ≤ n) (l : List Token) (same : take p l ≡ take p all) where
    complete_good : length all ≡ p → (record { number = 0; start = 0; end = length s; count = p }) ≡ answer_of s n → Good (complete s p) l × (turns (complete s p) ≤ n)
    unfolding complete filled
    complete_good e a =
        (record { answered = a; within = h; zeros = rw (← a, e) (drop_at all _ p e); same = same ∙ rw (← a) (take_all p all (omega (arith, e)) ∙ sym (take_at all _ p e)) }, omega arith)

    ended_good : {at : ℕ} {f : Refusal} → Read at p → step_at s at ≡ Err f → Good (ended s n p (Err f)) l × (turns (ended s n p (Err f)) ≤ n)
    unfolding ended last_of
    ended_good {at} {f} k e = go (eqb f.number 11) refl
      where
        answer : last_of (Err f) (length s) p n ≡ answer_of s n
        answer = ap (λ x. last_of x (length s) p n) (sym e) ∙ all_counted s k.counted refl n e k.fine refl

        count : length all ≡ p
        count = omega (arith, k.counted.so_far, length-drop p all, ap length (k.left ∙ tokens_refused s at e))

        go : (t : Bool) → eqb f.number 11 ≡ t → Good (cond t (complete s p) (failed s n)) l × (turns (cond t (complete s p) (failed s n)) ≤ n)
        go true i = complete_good count (sym (rw (i, le-leb p n h)) ∙ answer)
        go false i = failed_good l (ap (λ a. eqb a.number 0) (sym answer) ∙ rw i (ne_eqb f.number 0 (refusal_numbered s at e)))

    -- p tokens stand in the list, and the source may go on
    standing_good : {c : Cursor} → Read c.at p → Good (standing s n c p) l × (turns (standing s n c p) ≤ suc n + (n - p))
    unfolding standing ended onward
    standing_good {c} k = go (ltb p n) refl
      where
        full_good : (x : Step) → step_at s c.at ≡ x → n ≤ p → Good (ended s n p x) l × (turns (ended s n p x) ≤ n)
        full_good (Ok (w, a, next)) e i = failed_good l (more_fails s n k.fine (omega (arith, i, length-drop p all, ap length (k.left ∙ tokens_taken s c.at k.counted.inside e))))
        full_good (Err f) e i = ended_good k e

        go : (t : Bool) → ltb p n ≡ t → Good (cond t (onward c p) (ended s n p (step_at s c.at))) l × (turns (cond t (onward c p) (ended s n p (step_at s c.at))) ≤ suc n + (n - p))
        go true i = (record { room = ltb-true p n i; read = k; same = same }, omega arith)
        go false i = let r = full_good (step_at s c.at) refl (ltb-false p n i) in (r.0, omega (arith, r.1))

  pub begun_good : (l : List Token) → Good (begun s n) l
  unfolding begun begun_by
  begun_good l = go (whole_of s) refl
    where
      go : (x : Whole) → whole_of s ≡ x → Good (begun_by s n x) l
      go (Ok tt) e = (standing_good 0 (omega arith) l refl (record { fine = e; counted = none_counted s refl; left = all_tokens s })).0
      go (Err r) e = (failed_good l (whole_fails s n e)).0

  -- what one turn leaves
  module _ (st : State) (l : List Token) (long : length l ≡ n) (room : st.place < n) where
    abbrev pub After : Stored → ℕ → Type 0
    After r most = Good r.state (set l st.place r.token) × (turns r.state < most)

    read_good : {cursor : Cursor} → Reading cursor st l → (x : Step) → step_at s cursor.at ≡ x → After (read_by s n st.place x) (suc n + (n - st.place))
    unfolding read_by
    read_good {cursor} g (Ok (w, a, next)) e =
        let t : Token = token_of w a next in
        let k : Counted s next.at (st.place + 1) × (cursor.at < next.at) = one_counted s g.read.counted refl e in
        let left : drop st.place all ≡ t ∷ tokens_at s next.at = g.read.left ∙ tokens_taken s cursor.at g.read.counted.inside e in
        let r : Good (standing s n next (st.place + 1)) (set l st.place t) × (turns (standing s n next (st.place + 1)) ≤ suc n + (n - (st.place + 1))) = standing_good (st.place + 1) (omega (arith, room)) (set l st.place t)
        (rw (add-one st.place) (stored_more all l st.place left (omega (arith, long, room)) g.same)) (record { fine = g.read.fine; counted = k.0; left = rw (add-one st.place) (one_more all st.place left).1 }) in
        (r.0, omega (arith, r.1, room))
    read_good g (Err f) e =
        let r : Good (ended s n st.place (Err f)) (set l st.place zero_token) × (turns (ended s n st.place (Err f)) ≤ n) = ended_good st.place (omega (arith, room)) (set l st.place zero_token) (take-set-le st.place l st.place zero_token (omega arith) ∙ g.same) g.read e in
        (r.0, omega (arith, r.1))

    zero_good : Known st l → After (zero_next st) (0 + (n - st.place))
    unfolding zero_next
    zero_good g =
        let m : ℕ = n - suc st.place in
        let some : n - st.place ≡ suc m = omega (arith, room) in
        let left : drop st.place (filled s n) ≡ zero_token ∷ replicate m zero_token = g.zeros ∙ ap (λ (k : ℕ). replicate k zero_token) some in
        (record { answered = g.answered; within = omega (arith, room); zeros = rw (add-one st.place) (one_more (filled s n) st.place left).1; same = rw (add-one st.place) (stored_more (filled s n) l st.place left (omega (arith, long, room)) g.same) }, omega (arith, room))

    after_by : (x : Option Cursor) → GoodBy x st l → After (elim x [ Some cursor ↦ read_by s n st.place (step_at s cursor.at) | None ↦ zero_next st ]) (turns_by x + (n - st.place))
    after_by (Some cursor) g = read_good g (step_at s cursor.at) refl
    after_by None g = zero_good g

    pub after : Good st l → After (next_of s n st) (turns st)
    unfolding next_of
    after g = after_by st.cursor g

  -- where no place is left
  pub done : (st : State) (l : List Token) → length l ≡ n → n ≤ st.place → Good st l → (st.answer ≡ answer_of s n) × (l ≡ filled s n)
  done st l long over g = go st.cursor g
    where
      go : (x : Option Cursor) → GoodBy x st l → (st.answer ≡ answer_of s n) × (l ≡ filled s n)
      go (Some cursor) g = absurd (omega (arith, g.room, over))
      go None g =
          let p : ℕ = st.place in
          let none : n - p ≡ 0 = omega (arith, over) in
          let nothing : drop p (filled s n) ≡ [] = g.zeros ∙ ap (λ (k : ℕ). replicate k zero_token) none in
          let whole : take p (filled s n) ≡ filled s n = sym (append-nil (take p (filled s n))) ∙ ap (λ x. take p (filled s n) ++ x) (sym nothing) ∙ take-append-drop p (filled s n) in
          (g.answered, sym (take_all p l (omega (arith, long, over))) ∙ g.same ∙ whole)

  -- where the writer stands: what a turn begins with
  pub record Stand : Type 0 where
    pub st : State
    pub list : List Token
    pub long : length list ≡ n
    pub good : Good st list

  abbrev pub first : (l : List Token) → length l ≡ n → Stand
  first l long = record { st = begun s n; list = l; long = long; good = begun_good l }

  abbrev pub onto : (x : Stand) → x.st.place < n → Stand
  onto x room = record { st = (next_of s n x.st).state; list = set x.list x.st.place (next_of s n x.st).token; long = length-set x.list x.st.place (next_of s n x.st).token ∙ x.long; good = (after x.st x.list x.long room x.good).0 }

  pub fewer : (x : Stand) (room : x.st.place < n) → turns (onto x room).st < turns x.st
  fewer x room = (after x.st x.list x.long room x.good).1

  pub stands_done : (x : Stand) → n ≤ x.st.place → (x.st.answer ≡ answer_of s n) × (x.list ≡ filled s n)
  stands_done x over = done x.st x.list x.long over x.good
