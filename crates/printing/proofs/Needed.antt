-- The print's own choice of pairs: it suits every tree, and what it writes is the print.
use mathlib.Core.Path.{◌∙◌, ◌≡◌, ap, refl, subst, sym}
use mathlib.Core.List.{List, [], ◌∷◌, ◌++◌}
use mathlib.Core.Bool.{Bool, true, false, not, cond}
use Prim.Native.Nat.{ℕ}
use lib.Dec.{T}
use Rattle.grammar.specs.Grammar.{one_of}
use Rattle.canon.specs.Trees.{copied}
use Rattle.canon.specs.Layout.{Layout, Place, Slot, empty, layout, needs}
use Rattle.canon.specs.Text.{Bit, copy, fill, inner, later, paired, place_of, signs, words_of}
use Rattle.printing.specs.Pairs.{Choice, choice, expr_at, in_pairs, within, served}
use Rattle.printing.specs.Groves.{Grove, Head, Suits, bits, by_needs, bytes_of, label_of, labelled, needed, nil, pairs_at, top}
use Rattle.printing.proofs.Spare.{Spare, layout_spare}

none_lost : (e b : Bool) → (e ≡ false → b ≡ false) → cond e (needed b) 0 ≡ needed b
none_lost true b h = refl
none_lost false b h = sym (ap needed (h refl))

module _ (s : List ℕ) where
  needed_here : (o : ℕ) (i : Bool) (c : Place) (h : Head) (k t : Grove) (x y : Choice) → (expr_at o i (empty (labelled s t)) h.kind ≡ false → needs c (label_of s h) (labelled s k) ≡ false) → pairs_at s o i h t (choice (needed (needs c (label_of s h) (labelled s k))) x y) ≡ needed (needs c (label_of s h) (labelled s k))
  needed_here o i c h k t x y f = none_lost (expr_at o i (empty (labelled s t)) h.kind) (needs c (label_of s h) (labelled s k)) f

  -- a row with its own part, by its number of pairs
  module _ (h : Head) (k : Grove) (c : Place) where
    abbrev inner_layout : Bool → Layout
    inner_layout b = layout (inner b c) (label_of s h) (labelled s k)

    abbrev own_choice : Bool → Choice
    own_choice b = by_needs s (inner_layout b).slots k

    abbrev Here : Bool → ℕ → Type 0
    Here b n = T (served n c (label_of s h) (labelled s k)) × Suits s h.kind true (layout (within n c) (label_of s h) (labelled s k)).slots k (own_choice b)

    suits_here : (b : Bool) → needs c (label_of s h) (labelled s k) ≡ b → Suits s h.kind true (inner_layout b).slots k (own_choice b) → Here b (needed b)
    suits_here true e u = (tt, u)
    suits_here false e u = (subst (λ (x : Bool). T (not x)) (sym e) tt, u)

    abbrev either : List Bit → List Bit
    either own = cond (one_of h.kind copied) (copy (bytes_of s h.kind h.tokens) ∷ []) own

    abbrev by_choice : Bool → ℕ → List Bit
    by_choice b n = let y = layout (within n c) (label_of s h) (labelled s k) in in_pairs n (either (bits s h.kind true y.slots y.last k (own_choice b)))

    abbrev print_of : Bool → List Bit
    print_of b = let y = inner_layout b in paired b (either (fill y.slots y.last (labelled s k)))

    bits_here : (b : Bool) → bits s h.kind true (inner_layout b).slots (inner_layout b).last k (own_choice b) ≡ fill (inner_layout b).slots (inner_layout b).last (labelled s k) → by_choice b (needed b) ≡ print_of b
    bits_here true e = ap (λ (z : List Bit). paired true (either z)) e
    bits_here false e = ap either e

  pub needed_suits : (o : ℕ) (i : Bool) (xs : List Slot) (g : Grove) → Spare o i xs (labelled s g) → Suits s o i xs g (by_needs s xs g)
  unfolding by_needs
  needed_suits o i xs nil f = tt
  needed_suits o i xs (top h k t) f =
      let c = place_of xs in
      let b = needs c (label_of s h) (labelled s k) in
      let u = subst (λ (n : ℕ). Here h k c b n) (sym (needed_here o i c h k t (own_choice h k c b) (by_needs s (later xs) t) f.0)) (suits_here h k c b refl (needed_suits h.kind true (inner_layout h k c b).slots k (layout_spare (inner b c) (label_of s h) (labelled s k)))) in
      (u.0, u.1, needed_suits o false (later xs) t f.1)

  pub needed_bits : (o : ℕ) (i : Bool) (xs : List Slot) (last : List ℕ) (g : Grove) → Spare o i xs (labelled s g) → bits s o i xs last g (by_needs s xs g) ≡ fill xs last (labelled s g)
  unfolding by_needs bits fill
  needed_bits o i xs last nil f = refl
  needed_bits o i xs last (top h k t) f =
      let c = place_of xs in
      let b = needs c (label_of s h) (labelled s k) in
      let y = inner_layout h k c b in
      let more = bits s o false (later xs) last t (by_needs s (later xs) t) in
      ap (λ (n : ℕ). signs (words_of xs) ++ (by_choice h k c b n ++ more)) (needed_here o i c h k t (own_choice h k c b) (by_needs s (later xs) t) f.0)
      ∙ ap (λ (z : List Bit). signs (words_of xs) ++ (z ++ more)) (bits_here h k c b (needed_bits h.kind true y.slots y.last k (layout_spare (inner b c) (label_of s h) (labelled s k))))
      ∙ ap (λ (z : List Bit). signs (words_of xs) ++ (print_of h k c b ++ z)) (needed_bits o false (later xs) last t f.1)
