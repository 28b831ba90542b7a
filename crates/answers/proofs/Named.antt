-- C-24: the token that an answer names is one alone, and so is the first that can't go there; worked sources.
use Rattle.std.specs.Prelude.{None, Ok, Err}
use mathlib.Core.Path.{◌≡◌, refl, sym, ap, subst, ◌∙◌}
use mathlib.Core.List.{List, [], ◌∷◌, ◌++◌, append_assoc, head-eq_of_cons-eq, tail-eq_of_cons-eq}
use mathlib.Core.Bool.{Bool, true, false}
use Prim.Native.Nat.{ℕ, zero, suc, ◌+◌, ◌≤◌, ◌<◌}
use lib.ListN.{length}
use native.Mathlib.Omega.{arith}
use Rattle.chars.specs.Texts.{bytes}
use Rattle.chars.specs.declared.Answer.{Answer}
use Rattle.tokens.specs.Results.{Step}
use Rattle.tokens.specs.Tokens.{step_at, list_from, list_of}
use Rattle.tokens.proofs.Steps.{taken_good}
use Rattle.values.specs.Results.{Worth}
use Rattle.grammar.specs.Words.{name, '==', ':', 'test'}
use Rattle.grammar.specs.Grammar.{Token}
use Rattle.grammar.specs.Culprit.{FreeText}
use Rattle.answers.specs.Source.{token_for}
use Rattle.answers.specs.Entries.{Permitted}
use Rattle.answers.specs.Cases.{worked, cases}
use Rattle.answers.specs.Culprit.{tokens_from, tokens_of, Begins, Named, up_to, WorkedCulprits}
use Rattle.answers.proofs.Opened.{lexer, values}
use Rattle.answers.proofs.Worked.{worked_pairs, more_cases}
use Rattle.answers.proofs.Culprits.{tokens_taken, tokens_refused, true_culprit}

-- two ways to part a list at an item: the same, or one before the other
data Against (b r : List Token) (x : Token) (b' r' : List Token) (x' : Token) : Type 0 where
  alike : b ≡ b' → x ≡ x' → Against b r x b' r' x'
  before : (c : List Token) → b' ≡ b ++ (x ∷ c) → r ≡ c ++ (x' ∷ r') → Against b r x b' r' x'
  behind : (c : List Token) → b ≡ b' ++ (x' ∷ c) → r' ≡ c ++ (x ∷ r) → Against b r x b' r' x'

against_more : {b r b' r' : List Token} {x x' y y' : Token} → y ≡ y' → Against b r x b' r' x' → Against (y ∷ b) r x (y' ∷ b') r' x'
against_more {b} {r} {b'} {r'} {x} {x'} {y} {y'} e (alike f g) = alike (ap (λ (z : Token). z ∷ b) e ∙ ap (λ (l : List Token). y' ∷ l) f) g
against_more {b} {r} {b'} {r'} {x} {x'} {y} {y'} e (before c f g) = before c (ap (λ (l : List Token). y' ∷ l) f ∙ ap (λ (z : Token). z ∷ (b ++ (x ∷ c))) (sym e)) g
against_more {b} {r} {b'} {r'} {x} {x'} {y} {y'} e (behind c f g) = behind c (ap (λ (z : Token). z ∷ b) e ∙ ap (λ (l : List Token). y' ∷ l) f) g

against : (b r : List Token) (x : Token) (b' r' : List Token) (x' : Token) → b ++ (x ∷ r) ≡ b' ++ (x' ∷ r') → Against b r x b' r' x'
against [] r x [] r' x' e = alike refl (head-eq_of_cons-eq e)
against [] r x (y ∷ b') r' x' e = before b' (ap (λ (z : Token). z ∷ b') (sym (head-eq_of_cons-eq e))) (tail-eq_of_cons-eq e)
against (y ∷ b) r x [] r' x' e = behind b (ap (λ (z : Token). z ∷ b) (head-eq_of_cons-eq e)) (sym (tail-eq_of_cons-eq e))
against (y ∷ b) r x (y' ∷ b') r' x' e = against_more (head-eq_of_cons-eq e) (against b r x b' r' x' (tail-eq_of_cons-eq e))

-- tokens stand one behind the other
data Rising : ℕ → List Token → Type 0 where
  rising_end : {at : ℕ} → Rising at []
  rising_on : {at : ℕ} {x : Token} {ts : List Token} → at ≤ x.start → x.start < x.end → Rising x.end ts → Rising at (x ∷ ts)

rising : (s : List ℕ) (n at : ℕ) → Rising at (tokens_from n s at)
unfolding tokens_from
rising s zero at = rising_end
rising s (suc n) at = go (step_at s at) refl λ next. rising s n next
  where
    go : (x : Step) → step_at s at ≡ x → ((next : ℕ) → Rising next (tokens_from n s next)) → Rising at (tokens_from (suc n) s at)
    go (Ok (w, a, next)) e rest = let g = taken_good s at e in subst (Rising at) (sym (tokens_taken s n at e)) (rising_on g.0 g.1 (rest next.at))
    go (Err r) e rest = subst (Rising at) (sym (tokens_refused s n at e)) rising_end

-- so one that stands behind starts later
later : {at : ℕ} (b r : List Token) (x : Token) → Rising at (b ++ (x ∷ r)) → at ≤ x.start
later [] r x (rising_on h k u) = h
later (y ∷ b) r x (rising_on h k u) = let m = later b r x u in omega arith

behind_later : {at : ℕ} (b c r : List Token) (x y : Token) → Rising at (b ++ (x ∷ (c ++ (y ∷ r)))) → x.start < y.start
behind_later [] c r x y (rising_on h k u) = let m = later c r y u in omega arith
behind_later (z ∷ b) c r x y (rising_on h k u) = behind_later b c r x y u

module _ (s : List ℕ) where
  all_rising : Rising 0 (tokens_of s)
  unfolding tokens_of
  all_rising = rising s (length s + 1) 0

  -- the place says which token is named
  pub one_named : {a : Answer} (k : Named s a) (b r : List Token) (x : Token) → tokens_of s ≡ b ++ (x ∷ r) → x.start ≡ a.start → (k.before ≡ b) × (k.named ≡ x)
  one_named k b r x e h = go (against k.before k.behind k.named b r x (sym k.in_order ∙ e))
    where
      go : Against k.before k.behind k.named b r x → (k.before ≡ b) × (k.named ≡ x)
      go (alike f g) = (f, g)
      go (before c f g) =
          let m = behind_later k.before c r k.named x (subst (Rising 0) (k.in_order ∙ ap (λ (l : List Token). k.before ++ (k.named ∷ l)) g) all_rising) in
          let q = k.starts in absurd (omega (arith, m, q, h))
      go (behind c f g) =
          let m = behind_later b c k.behind x k.named (subst (Rising 0) (e ∙ ap (λ (l : List Token). b ++ (x ∷ l)) g) all_rising) in
          let q = k.starts in absurd (omega (arith, m, q, h))

module _ (tests tree : Bool) where
  -- what begins a text still does with less of it
  begins_less : (b c : List Token) (x : Token) {b' : List Token} → b' ≡ b ++ (x ∷ c) → Begins tests tree b' → Begins tests tree (b ++ (x ∷ []))
  begins_less b c x e o = (c ++ o.0, o.1, subst (λ (l : List Token). FreeText tests tree l o.1) (ap (λ (l : List Token). l ++ o.0) e ∙ append_assoc b (x ∷ c) o.0 ∙ sym (append_assoc b (x ∷ []) (c ++ o.0))) o.2)

  -- in a list of tokens one alone is the first that can't go there
  pub one_culprit : (b r : List Token) (x : Token) (b' r' : List Token) (x' : Token) → b ++ (x ∷ r) ≡ b' ++ (x' ∷ r') → Begins tests tree b → (Begins tests tree (b ++ (x ∷ [])) → ⊥) → Begins tests tree b' → (Begins tests tree (b' ++ (x' ∷ [])) → ⊥) → (b ≡ b') × (x ≡ x')
  one_culprit b r x b' r' x' e g n g' n' = go (against b r x b' r' x' e)
    where
      go : Against b r x b' r' x' → (b ≡ b') × (x ≡ x')
      go (alike f h) = (f, h)
      go (before c f h) = absurd (n (begins_less b c x f g'))
      go (behind c f h) = absurd (n' (begins_less b' c x' f g))

-- what a source's answer says of its tokens, by the text before the named one and the text with it
module _ (tests tree : Bool) (s before with_it : List ℕ) {size : ℕ} {a : Answer} {t : List ℕ} (p : Permitted tests tree s size a t) where
  parted : a.number ≡ 6 → (list_of s).ending.number ≡ 11 → (x : Token) (r : List Token) → tokens_of s ≡ tokens_of before ++ (x ∷ r) → tokens_of with_it ≡ tokens_of before ++ (x ∷ []) → x.start ≡ a.start → Begins tests tree (tokens_of before) × (Begins tests tree (tokens_of with_it) → ⊥)
  parted n h x r e f g =
      let w = (true_culprit tests tree s size).on_6 p (λ q. omega (arith, h, q)) n in
      let o = one_named s w.0 (tokens_of before) r x e g in
      let u : up_to w.0 ≡ tokens_of with_it = ap (λ (l : List Token). l ++ (w.0.named ∷ [])) o.0 ∙ ap (λ (y : Token). tokens_of before ++ (y ∷ [])) o.1 ∙ sym f in
      (subst (Begins tests tree) o.0 w.1, λ b. w.2 (subst (Begins tests tree) (sym u) b))

abbrev sign : ℕ → ℕ → ℕ → Token
sign w a e = token_for w a e None

pub worked_culprits : WorkedCulprits
unfolding lexer values list_of list_from tokens_of tokens_from worked cases bytes
worked_culprits = record {
  chained = parted false false (bytes "a==b==c") (bytes "a==b") (bytes "a==b==") worked_pairs.1.1.1.1.1.1.1.1.1.1.1.0 refl refl (sign '==' 4 6) (sign name 6 7 ∷ []) refl refl refl;
  head_record = parted false false (bytes "if x {y: 1} {}") (bytes "if x {y") (bytes "if x {y:") worked_pairs.1.1.1.1.1.1.1.1.1.1.1.1.0 refl refl (sign ':' 7 8) _ refl refl refl;
  left_over = parted false false (bytes "a b") (bytes "a") (bytes "a b") more_cases.1.1.1.1.1.1.1.1.1.1.1.1.1.1.1.1.1.1.1.1.1.1.1.1.1.1.1.1.1.0 refl refl (sign name 2 3) [] refl refl refl;
  no_test = parted false true (bytes "test a {}") [] (bytes "test") more_cases.1.1.1.1.1.1.1.1.1.1.0 refl refl (sign 'test' 0 4) _ refl refl refl;
  too_early = ((true_culprit false false (bytes "1+") _).on_11 more_cases.1.1.1.1.1.1.1.1.1.1.1.1.1.1.1.1.1.1.1.1.1.1.1.1.1.1.1.1.1.1.1.1.1.1.1.1.0 (λ q. omega (arith, q)) refl).1;
}
