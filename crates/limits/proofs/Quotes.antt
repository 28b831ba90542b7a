-- An f-string's text begins with `f"`.
use Rattle.std.specs.Prelude.{Some, None, Ok, Err}
use mathlib.Core.Path.{◌≡◌, refl, sym, ap, subst, ◌∙◌}
use mathlib.Core.List.{List}
use mathlib.Core.Bool.{Bool, true, false, ◌&&◌, cond}
use Prim.Native.Nat.{ℕ, ◌+◌, ◌≤◌, ◌<◌}
use native.Mathlib.Omega.{arith}
use lib.Dec.{eqb, ltb}
use lib.ListN.{length}
use lib.Seq.{slice}
use Rattle.chars.specs.Chars.{byte_at}
use Rattle.tokens.specs.Results.{Fit}
use Rattle.tokens.specs.Results.{Step}
use Rattle.tokens.specs.Blanks.{skip_all}
use Rattle.tokens.specs.Rules.{pair_at, ipv6_at, ipv4_at, two_at, one_at, as_at, hex_at, number_at, quote_at, name_at, taken, refused, or_else, token_at}
use Rattle.tokens.specs.Tokens.{step_at}
use Rattle.grammar.specs.Words.{f_quote}
use Rattle.grammar.specs.Grammar.{Token, found}
use Rattle.answers.specs.Source.{source}
use Rattle.answers.proofs.Ahead.{Steps, steps_token, step_goes}
use Rattle.literals.proofs.Parts.{byte_part}
use Rattle.respell.proofs.Looks.{Seen, by_rule, by_quote, seen, look_start}
use Rattle.limits.specs.Within.{quoted}

-- 5 is said of these two bytes alone
abbrev Paired : List ℕ → ℕ → Step → Type 0
Paired s i (Ok (w, a, n)) = Unit {0}
Paired s i (Err r) = r.number ≡ 5 → pair_at s i 102 34 ≡ true

module _ (s : List ℕ) (i : ℕ) where
  or_paired : (f : Fit) (d : Step) → Paired s i d → Paired s i (or_else i f d)
  unfolding or_else taken
  or_paired (Some (e, w)) d k = tt
  or_paired None d k = k

  cond_paired : (b : Bool) (d : Step) → pair_at s i 102 34 ≡ b → Paired s i d → Paired s i (cond b (refused 5 i (i + 2)) d)
  unfolding refused
  cond_paired true d e k = λ n. e
  cond_paired false d e k = k

  none_paired : (n a e : ℕ) → (n ≡ 5 → ⊥) → Paired s i (refused n a e)
  unfolding refused
  none_paired n a e h = λ k. absurd (h k)

  token_paired : Paired s i (token_at s i)
  unfolding token_at
  token_paired =
      or_paired (ipv6_at s i) _ (or_paired (ipv4_at s i) _ (or_paired (two_at s i) _ (or_paired (one_at s i) _ (or_paired (as_at s i) _ (or_paired (hex_at s i) _ (or_paired (number_at s i) _
      (cond_paired (pair_at s i 102 34) _ refl
      (or_paired (quote_at 34 9 s i) _ (or_paired (quote_at 39 10 s i) _ (or_paired (name_at s i) _ (none_paired 4 i (i + 1) (λ n. omega arith))))))))))))

step_paired : (s : List ℕ) (i : ℕ) → Paired s (skip_all s i) (step_at s i)
unfolding step_at
step_paired s i = by (ltb (skip_all s i) (length s))
  where
    by : (b : Bool) → Paired s (skip_all s i) (cond b (token_at s (skip_all s i)) (refused 11 (length s) (length s)))
    by true = token_paired s (skip_all s i)
    by false = none_paired s (skip_all s i) 11 (length s) (length s) (λ n. omega arith)

-- the two bytes of an f-string's first token
quote_bytes : (s : List ℕ) (i : ℕ) (x : Token) (j : ℕ) → (source s).look i ≡ found x j → x.word ≡ f_quote → pair_at s x.start 102 34 ≡ true
quote_bytes s i x j z w = by (seen s i x j z)
  where
    small : {v a : ℕ} {n : _} → Steps s i (Ok (v, a, n)) → v < 90
    small (steps_token h m p u) = u

    by : Seen s i x j → pair_at s x.start 102 34 ≡ true
    by (by_rule v a n e f u) = let c : v ≡ x.word = sym (ap (λ (o : Token). o.word) f) in let h = small (subst (Steps s i) e (step_goes s i)) in absurd (omega (arith, c, h, w))
    by (by_quote r e m f u) = ap (λ (a : ℕ). pair_at s a 102 34) (look_start s i x j z) ∙ subst (Paired s (skip_all s i)) e (step_paired s i) m

pub quote_text : (s : List ℕ) (i : ℕ) (x : Token) (j r : ℕ) → (source s).look i ≡ found x j → x.word ≡ f_quote → x.start + 1 < r → r ≤ length s → quoted (slice x.start r s) ≡ true
unfolding pair_at
quote_text s i x j r z w h k =
    let a = x.start in
    let b₀ = byte_part s a r k 0 (omega (arith, h)) in
    let b₁ = byte_part s a r k 1 h in
    ap (λ (c : ℕ). eqb c 102 && eqb (byte_at (slice a r s) 1) 34) (b₀ ∙ ap (byte_at s) (omega arith)) ∙ ap (λ (c : ℕ). eqb (byte_at s a) 102 && eqb c 34) b₁ ∙ quote_bytes s i x j z w
