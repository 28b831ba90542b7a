-- A choice of pairs on a source's trees, as the print's construction has it (printing/specs/Groves.antt).
use mathlib.Core.Path.{◌∙◌, ◌≡◌, ap, refl, subst, sym}
use mathlib.Core.List.{List, [], ◌∷◌, ◌++◌}
use mathlib.Core.Bool.{Bool, true, false, cond}
use Prim.Native.Nat.{ℕ, zero, suc}
use native.Mathlib.Omega.{arith}
use lib.Dec.{T}
use Rattle.grammar.specs.Grammar.{one_of}
use Rattle.canon.specs.Trees.{Label, Forest, none, tree, copied}
use Rattle.canon.specs.Layout.{Layout, Place, Slot, empty, layout}
use Rattle.canon.specs.Text.{Bit, copy, later, place_of, signs, words_of}
use Rattle.printing.specs.Pairs.{Choice, choice, expr_at, in_pairs, no_choice}
use Rattle.printing.specs.Groves.{Grove, Head, Suits, bits, label_of, labelled, nil, pairs_at, top}
use Rattle.forests.specs.Planted.{Marked, no_more, stands, unmarked}
use Rattle.forests.specs.Met.{Met, served, within}
use Rattle.exact.specs.Written.{OnExprs, may, written}

pub choice_of : Marked → Choice
choice_of no_more = no_choice
choice_of (stands n a kids ts) = choice n (choice_of kids) (choice_of ts)

-- no pair is left out where one may stand
all_counted : (e : Bool) (n : ℕ) → T (may e n) → cond e n 0 ≡ n
all_counted true n t = refl
all_counted false zero t = refl
all_counted false (suc n) t = absurd t

not_none : {a : Label} {kids ts : Forest} → tree a kids ts ≡ none → ⊥
not_none e = let z : ◌≡◌ {A = ℕ} 0 1 = cc in omega arith

none_not : {a : Label} {kids ts : Forest} → none ≡ tree a kids ts → ⊥
none_not e = let z : ◌≡◌ {A = ℕ} 0 1 = cc in omega arith

first_same : {a b : Label} {k k' t t' : Forest} → tree a k t ≡ tree b k' t' → a ≡ b
first_same e = cc

kids_same : {a b : Label} {k k' t t' : Forest} → tree a k t ≡ tree b k' t' → k ≡ k'
kids_same e = cc

rest_same : {a b : Label} {k k' t t' : Forest} → tree a k t ≡ tree b k' t' → t ≡ t'
rest_same e = cc

module _ (s : List ℕ) where
  -- the pairs that are written are the choice's
  number_kept : (o : ℕ) (i : Bool) (n : ℕ) (a : Label) (kids ts : Marked) (h : Head) (t : Grove) → a ≡ label_of s h → unmarked ts ≡ labelled s t → T (may (expr_at o i (empty (unmarked ts)) a.kind) n) → pairs_at s o i h t (choice n (choice_of kids) (choice_of ts)) ≡ n
  number_kept o i n a kids ts h t e f m = all_counted (expr_at o i (empty (labelled s t)) h.kind) n (subst (λ (b : Label). T (may (expr_at o i (empty (labelled s t)) b.kind) n)) e (subst (λ (w : Forest). T (may (expr_at o i (empty w) a.kind) n)) f m))

  same_layout : (c : Place) (n m : ℕ) (a : Label) (kids : Marked) (h : Head) (k : Grove) → m ≡ n → a ≡ label_of s h → unmarked kids ≡ labelled s k → layout (within n c) a (unmarked kids) ≡ layout (within m c) (label_of s h) (labelled s k)
  same_layout c n m a kids h k d e f = ap (λ (j : ℕ). layout (within j c) a (unmarked kids)) (sym d) ∙ ap (λ (b : Label). layout (within m c) b (unmarked kids)) e ∙ ap (λ (w : Forest). layout (within m c) (label_of s h) w) f

  -- a choice that is met suits the trees
  pub met_suits : (o : ℕ) (i : Bool) (xs : List Slot) (m : Marked) (g : Grove) → unmarked m ≡ labelled s g → OnExprs o i m → Met xs m → Suits s o i xs g (choice_of m)
  unfolding unmarked choice_of OnExprs Met
  met_suits o i xs no_more nil e p u = tt
  met_suits o i xs no_more (top h k t) e p u = absurd (none_not e)
  met_suits o i xs (stands n a kids ts) nil e p u = tt
  met_suits o i xs (stands n a kids ts) (top h k t) e p u =
      let c = place_of xs in
      let ea = first_same e in
      let ek = kids_same e in
      let en = number_kept o i n a kids ts h t ea (rest_same e) p.0 in
      let l = same_layout c n (pairs_at s o i h t (choice n (choice_of kids) (choice_of ts))) a kids h k en ea ek in (
        subst (λ (j : ℕ). T (served j c (label_of s h) (labelled s k))) (sym en) (subst (λ (b : Label). T (served n c b (labelled s k))) ea (subst (λ (w : Forest). T (served n c a w)) ek u.0)),
        met_suits h.kind true _ kids k ek (subst (λ (b : Label). OnExprs b.kind true kids) ea p.1) (subst (λ (y : Layout). Met y.slots kids) l u.1),
        met_suits o false (later xs) ts t (rest_same e) p.2 u.2,
      )

  -- and what it writes is what the construction writes
  abbrev own_part : Label → List Bit → List Bit
  own_part a own = cond (one_of a.kind copied) (copy a.text ∷ []) own

  pub chosen_bits : (o : ℕ) (i : Bool) (xs : List Slot) (last : List ℕ) (m : Marked) (g : Grove) → unmarked m ≡ labelled s g → OnExprs o i m → bits s o i xs last g (choice_of m) ≡ written xs last m
  unfolding unmarked choice_of OnExprs bits written
  chosen_bits o i xs last no_more nil e p = refl
  chosen_bits o i xs last no_more (top h k t) e p = absurd (none_not e)
  chosen_bits o i xs last (stands n a kids ts) nil e p = absurd (not_none e)
  chosen_bits o i xs last (stands n a kids ts) (top h k t) e p =
      let c = place_of xs in
      let ea = first_same e in
      let ek = kids_same e in
      let j = pairs_at s o i h t (choice n (choice_of kids) (choice_of ts)) in
      let en = number_kept o i n a kids ts h t ea (rest_same e) p.0 in
      let y = layout (within n c) a (unmarked kids) in
      let more = bits s o false (later xs) last t (choice_of ts) in
      let b = label_of s h in
      ap (λ (z : Layout). signs (words_of xs) ++ (in_pairs j (own_part b (bits s h.kind true z.slots z.last k (choice_of kids))) ++ more)) (sym (same_layout c n j a kids h k en ea ek))
      ∙ ap (λ (own : List Bit). signs (words_of xs) ++ (in_pairs j (own_part b own) ++ more)) (chosen_bits h.kind true y.slots y.last kids k ek (subst (λ (b : Label). OnExprs b.kind true kids) ea p.1))
      ∙ ap (λ (j : ℕ). signs (words_of xs) ++ (in_pairs j (own_part b (written y.slots y.last kids)) ++ more)) en
      ∙ ap (λ (b : Label). signs (words_of xs) ++ (in_pairs n (own_part b (written y.slots y.last kids)) ++ more)) (sym ea)
      ∙ ap (λ (z : List Bit). signs (words_of xs) ++ (in_pairs n (own_part a (written y.slots y.last kids)) ++ z)) (chosen_bits o false (later xs) last ts t (rest_same e) p.2)
