-- The test that a grammar allows a predictive reader: at each place where a phrase may begin, what stands there asks for
-- one alternative at most, and what may stand behind a phrase is among the hints of its kind.
use mathlib.Core.List.{List, [], ◌∷◌}
use mathlib.Core.Bool.{Bool, true, false, not, ◌&&◌, ◌||◌}
use Prim.Native.Nat.{ℕ}
use lib.Dec.{T}
use Rattle.grammar.specs.Grammar.{Ask, plain, has_value, opens_bracket, closes_bracket, is_prefix, is_head, is_else_if, Symbol, token, phrase, unless, note, left_side, text, Rule, View, Language, one_of, alternatives, In}
use Rattle.grammar.specs.Choice.{hint_in, among, two, base, firsts, follows, first}
use Rattle.grammar.proofs.Bools.{implied}
use Rattle.grammar.proofs.Pass.{rules_pass, each_passes, passes_at}

abbrev pub subset : List View → List View → Bool
subset [] ys = true
subset (x ∷ xs) ys = among x ys && subset xs ys

abbrev pub apart : List View → List View → Bool
apart [] ys = true
apart (x ∷ xs) ys = not (among x ys) && apart xs ys

-- a token that is never refused by its test
abbrev pub sure : Ask → Bool
sure plain = true
sure has_value = false
sure opens_bracket = false
sure closes_bracket = true
sure is_prefix = false
sure is_head = false
sure is_else_if = false

-- none of these words is seen
abbrev pub unsigned : List View → List ℕ → Bool
unsigned [] w = true
unsigned (v ∷ vs) w = not (one_of (base v) w) && unsigned vs w

module _ (l : Language) where
  -- text stands next, so that no token is looked at
  abbrev pub blind : List Symbol → Bool
  blind [] = false
  blind (token g w ∷ s) = false
  blind (phrase o n ∷ s) = false
  blind (unless w ∷ s) = blind s
  blind (note k ∷ s) = blind s
  blind (left_side n n₁ ∷ s) = false
  blind (text n ∷ s) = true

  abbrev pub singles : List ℕ → Bool
  singles [] = true
  singles (c ∷ w) = not (two l.pairs c) && singles w

  -- what stands behind a part is among what may stand behind its kind
  abbrev pub closed : List Symbol → List View → Bool
  closed [] f = true
  closed (token g w ∷ s) f = (not (blind s) || singles w) && closed s f
  closed (phrase o n ∷ s) f = not (blind s) && (subset (first l s f) (follows l n) && closed s f)
  closed (unless w ∷ s) f = not (blind s) && closed s f
  closed (note k ∷ s) f = closed s f
  closed (left_side n n₁ ∷ s) f = not (blind s) && ((subset (firsts l n₁) (follows l n) && subset (first l s f) (follows l n₁)) && ((subset (first l s f) (follows l n) && unsigned (first l s f) l.assigns) && closed s f))
  closed (text n ∷ s) f = not (blind s) && (subset (first l s f) (follows l n) && closed s f)

  -- no two alternatives can begin at one view
  abbrev pub alone : List View → List (List Symbol) → List View → Bool
  alone a [] f = true
  alone a (s ∷ ss) f = apart a (first l s f) && alone a ss f

  abbrev pub good : List (List Symbol) → List View → List View → Bool
  good [] p f = true
  good (s ∷ ss) p f = (not (blind s) && closed s f) && (subset (first l s f) p && (alone (first l s f) ss f && good ss p f))

  -- each rule passes
  abbrev pub all_good : List Rule → Bool
  all_good = rules_pass (λ n ss. good ss (firsts l n) (follows l n))

  -- a list of symbols that has a token for certain, by the hints of its kinds; and the test of that hint
  abbrev pub full : ℕ → Bool
  full n = (hint_in l.hints n).full

  abbrev pub filled : List Symbol → Bool
  filled [] = false
  filled (token g w ∷ s) = true
  filled (phrase o n ∷ s) = full n || filled s
  filled (unless w ∷ s) = filled s
  filled (note k ∷ s) = filled s
  filled (left_side n n₁ ∷ s) = full n
  filled (text n ∷ s) = false

  abbrev pub all_full : List Rule → Bool
  all_full = each_passes (λ n a. not (full n) || filled a)

  pub full_filled : {a : List Symbol} (n : ℕ) → T (all_full l.rules) → In a (alternatives l n) → T (full n) → T (filled a)
  full_filled {a} n t i = implied (full n) (filled a) (passes_at (λ m b. not (full m) || filled b) l.rules n t i)
