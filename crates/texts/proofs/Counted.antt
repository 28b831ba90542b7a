-- The source is long enough to count the items: behind them none is left.
use mathlib.Core.Path.{◌≡◌, refl}
use mathlib.Core.List.{List, [], ◌∷◌}
use mathlib.Core.Option.{Option, none, some}
use mathlib.Core.Bool.{Bool, true, false, ◌||◌}
use Prim.Native.Nat.{ℕ, suc, ◌≤◌, ◌<◌}
use lib.Dec.{eqb}
use lib.ListN.{length, drop, length-drop}
use native.Mathlib.Omega.{arith}
use Rattle.texts.specs.Signs.{backslash, quote, open_brace, close_brace, small_u, capital_u}
use Rattle.texts.specs.Parts.{past_open, past_close, past_code, past_escape, past_item, past_items}

-- fewer bytes are left than there were
abbrev Fewer : ℕ → Option (List ℕ) → Type 0
Fewer n none = Unit {0}
Fewer n (some rest) = length rest < n

more : {n m : ℕ} (o : Option (List ℕ)) → n ≤ m → Fewer n o → Fewer m o
more none h k = tt
more (some rest) h k = omega arith

either : (n : ℕ) (t : Bool) (a b : Option (List ℕ)) → Fewer n a → Fewer n b → Fewer n (elim t [ true ↦ a | false ↦ b ])
either n true a b h k = h
either n false a b h k = k

past_open_lem : (l : List ℕ) → Fewer (length l) (past_open l)
unfolding past_open
past_open_lem [] = tt
past_open_lem (b ∷ l) = either (suc (length l)) (eqb b open_brace) (some l) none (omega arith) tt

past_close_lem : (l : List ℕ) → Fewer (length l) (past_close l)
unfolding past_close
past_close_lem [] = tt
past_close_lem (b ∷ l) = either (suc (length l)) (eqb b close_brace) (some l) (past_close l) (omega arith) (more (past_close l) (omega arith) (past_close_lem l))

past_code_lem : (l : List ℕ) → Fewer (length l) (past_code l)
unfolding past_code
past_code_lem l = go (past_open l) (past_open_lem l)
  where
    go : (o : Option (List ℕ)) → Fewer (length l) o → Fewer (length l) (elim o [ none ↦ none | some inside ↦ past_close inside ])
    go none h = tt
    go (some inside) h = more (past_close inside) (omega arith) (past_close_lem inside)

past_escape_lem : (l : List ℕ) → Fewer (length l) (past_escape l)
unfolding past_escape
past_escape_lem [] = tt
past_escape_lem (b ∷ l) = either (suc (length l)) (eqb b small_u || eqb b capital_u) (past_code l) (some l) (more (past_code l) (omega arith) (past_code_lem l)) (omega arith)

past_item_lem : (l : List ℕ) → Fewer (length l) (past_item l)
unfolding past_item
past_item_lem [] = tt
past_item_lem (b ∷ l) = either (suc (length l)) (eqb b backslash) (past_escape l) (elim (eqb b open_brace) [ true ↦ past_open l | false ↦ elim (eqb b quote) [ true ↦ none | false ↦ some l ] ]) (more (past_escape l) (omega arith) (past_escape_lem l)) (either (suc (length l)) (eqb b open_brace) (past_open l) (elim (eqb b quote) [ true ↦ none | false ↦ some l ]) (more (past_open l) (omega arith) (past_open_lem l)) (either (suc (length l)) (eqb b quote) none (some l) tt (omega arith)))

all_past : (count l : List ℕ) → length l ≤ length count → past_item (past_items count l) ≡ none
unfolding past_item past_items
all_past [] [] h = refl
all_past [] (b ∷ l) h = absurd (omega (arith, h))
all_past (x ∷ count) l h = go (past_item l) refl (past_item_lem l) (λ rest. all_past count rest)
  where
    go : (o : Option (List ℕ)) → past_item l ≡ o → Fewer (length l) o → ((rest : List ℕ) → length rest ≤ length count → past_item (past_items count rest) ≡ none) → past_item (elim o [ none ↦ l | some rest ↦ past_items count rest ]) ≡ none
    go none e k f = e
    go (some rest) e k f = f rest (omega arith)

pub no_item_left : (s : List ℕ) (at : ℕ) → past_item (past_items s (drop at s)) ≡ none
no_item_left s at = all_past s (drop at s) (omega (arith, length-drop at s))
