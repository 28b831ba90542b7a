-- The list of all tokens, token by token; and the loop that counts them.
use Rattle.std.specs.Prelude.{Ok, Err}
use mathlib.Core.Path.{◌≡◌, refl, sym, ap, ◌∙◌, subst}
use Prim.Native.Nat.{ℕ, zero, suc, ◌+◌, ◌-◌, ◌<◌, ◌≤◌}
use mathlib.Core.List.{List, []}
use native.Mathlib.Nat.{add-zero}
use native.Mathlib.Omega.{arith}
use lib.ListN.{length}
use Rattle.tokens.specs.declared.Cursor.{Cursor}
use Rattle.tokens.specs.declared.Refusal.{Refusal}
use Rattle.chars.specs.declared.Answer.{Answer}
use Rattle.tokens.specs.Results.{Step}
use Rattle.tokens.specs.Results.{Whole}
use Rattle.tokens.specs.Tokens.{step_at, whole_of, Listed, token_of, more, list_from, list_of, refusal, last_of, answer_of}
use Rattle.tokens.proofs.Steps.{taken_good}

module _ (n : ℕ) (s : List ℕ) (at : ℕ) where
  pub list_taken : {w a : ℕ} {next : Cursor} → step_at s at ≡ Ok (w, a, next) → list_from (suc n) s at ≡ more (token_of w a next) (list_from n s next.at)
  unfolding list_from
  list_taken e =
      ap (λ (x : Step). elim x [ Ok (w, a, next) ↦ more (token_of w a next) (list_from n s next.at) | Err r ↦ record { tokens = []; ending = r } ]) e

  pub list_refused : {r : Refusal} → step_at s at ≡ Err r → list_from (suc n) s at ≡ record { tokens = []; ending = r }
  unfolding list_from
  list_refused e =
      ap (λ (x : Step). elim x [ Ok (w, a, next) ↦ more (token_of w a next) (list_from n s next.at) | Err r ↦ record { tokens = []; ending = r } ]) e

-- any bound that is large enough gives the same list
pub enough : (n m : ℕ) (s : List ℕ) (at : ℕ) → at ≤ length s → length s < at + n → length s < at + m → list_from n s at ≡ list_from m s at
enough zero m s at k h g = absurd (omega (arith, k, h))
enough (suc n) zero s at k h g = absurd (omega (arith, k, g))
enough (suc n) (suc m) s at k h g = go (step_at s at) refl λ next. enough n m s next
  where
    go : (x : Step) → step_at s at ≡ x → ((next : ℕ) → next ≤ length s → length s < next + n → length s < next + m → list_from n s next ≡ list_from m s next) → list_from (suc n) s at ≡ list_from (suc m) s at
    go (Ok (w, a, next)) e rest =
        let f : (at ≤ a) × (a < next.at) × (next.at ≤ length s) = taken_good s at e in
        list_taken n s at e ∙ ap (more (token_of w a next)) (rest next.at (omega (arith, f)) (omega (arith, f, h)) (omega (arith, f, g))) ∙ sym (list_taken m s at e)
    go (Err r) e rest = list_refused n s at e ∙ sym (list_refused m s at e)

-- the tokens from a place on, with a bound that is large enough
pub list_at : List ℕ → ℕ → Listed
list_at s at = list_from (suc (length s - at)) s at

-- so many tokens have been counted, and these are left
pub record Counted (s : List ℕ) (at count : ℕ) : Type 0 where
  pub inside : at ≤ length s
  pub fewer : count ≤ at
  pub so_far : length (list_of s).tokens ≡ count + length (list_at s at).tokens
  pub ending : (list_of s).ending ≡ (list_at s at).ending

module _ (s : List ℕ) where
  pub none_counted : {at : ℕ} → at ≡ 0 → Counted s at 0
  unfolding list_of list_at
  none_counted {at} e = subst (λ n. Counted s n 0) (sym e) (record { inside = omega arith; fewer = omega arith; so_far = ap (λ l. length l.tokens) same_list ∙ omega arith; ending = ap (λ l. l.ending) same_list })
    where
      same_list : list_of s ≡ list_at s 0
      same_list = enough (length s + 1) (suc (length s - 0)) s 0 (omega arith) (omega arith) (omega arith)

  module _ {at count : ℕ} (k : Counted s at count) {x : Step} (answered : x ≡ step_at s at) where
    pub one_counted : {w a : ℕ} {next : Cursor} → x ≡ Ok (w, a, next) → Counted s next.at (count + 1) × (at < next.at)
    unfolding list_at
    one_counted {w} {a} {next} e =
        let f : (at ≤ a) × (a < next.at) × (next.at ≤ length s) = taken_good s at (sym answered ∙ e) in
        let here : list_at s at ≡ more (token_of w a next) (list_at s next.at) = list_taken (length s - at) s at (sym answered ∙ e) ∙ ap (more (token_of w a next)) (enough (length s - at) (suc (length s - next.at)) s next.at (omega (arith, f)) (omega (arith, f)) (omega (arith, f))) in
        (record { inside = omega (arith, f); fewer = omega (arith, f, k.fewer); so_far = k.so_far ∙ ap (λ l. count + length l.tokens) here ∙ omega arith; ending = k.ending ∙ ap (λ l. l.ending) here }, omega (arith, f))

    pub all_counted : {r : Refusal} (room : ℕ) → x ≡ Err r → whole_of s ≡ (Ok tt) → {a : Answer} → a ≡ last_of x (length s) count room → a ≡ answer_of s room
    unfolding answer_of last_of list_at
    all_counted {r} room e fine h =
        let here : list_at s at ≡ record { tokens = []; ending = r } = list_refused (length s - at) s at (sym answered ∙ e) in
        let n : length (list_of s).tokens ≡ count = k.so_far ∙ ap (λ l. count + length l.tokens) here ∙ add-zero count in
        let f : (list_of s).ending ≡ r = k.ending ∙ ap (λ l. l.ending) here in
        h ∙ ap (λ y. last_of y (length s) count room) e ∙ rw (fine, n, f) refl

pub refused_whole : (s : List ℕ) (room : ℕ) {x : Whole} {r : Refusal} {a : Answer} → x ≡ whole_of s → x ≡ Err r → a ≡ refusal r → a ≡ answer_of s room
unfolding answer_of
refused_whole s room e h g = rw (← e, h) g
