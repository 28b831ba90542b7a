-- What is claimed of each kind of phrase: the trees that it leaves stand as they may where the table lets the phrase stand. And the steps of such proofs.
use mathlib.Core.Path.{◌≡◌, refl, sym, ap, subst, ◌∙◌}
use mathlib.Core.List.{List, [], ◌∷◌, ◌++◌, append_assoc, append-nil}
use mathlib.Core.Bool.{Bool, true, false, cond}
use Prim.Native.Nat.{ℕ, suc}
use lib.Dec.{T, eqb}
use Rattle.grammar.specs.Grammar.{Symbol, Token, Parts, end, leaf, node, mark, one_of}
use Rattle.grammar.specs.Kinds.{PARENS}
use Rattle.grammar.specs.Table.{rest_kinds}
use Rattle.grammar.specs.Rows.{Row, row_of, is_text, text_row}
use Rattle.canon.specs.Trees.{label}
use Rattle.canon.specs.Layout.{whole}
use Rattle.forests.specs.Planted.{Marked, no_more, Twig, word, branch, items_of, trees_in, branches, Bough, bud, with_word, with_text, plant_token, with_trees, plant}
use Rattle.forests.proofs.Grown.{trees_append, plant_word, plant_phrase, plant_rest, plant_row, plant_part}
use Rattle.forests.proofs.Places.{Tree, top, Fits, Each, each_beside, fits_whole, fits_pair, met_none}
use Rattle.forests.proofs.Stands.{At}

abbrev pub bough : List Twig → ℕ → Bough
bough xs part = record { twigs = xs; part = part }

-- a phrase of its own that is no pair; the rest of a phrase
abbrev pub Own : ℕ → Type 0
Own n = (one_of n rest_kinds ≡ false) × (eqb n PARENS ≡ false)

abbrev pub Rest : ℕ → Type 0
Rest n = one_of n rest_kinds ≡ true

module _ (s : List ℕ) where
  -- ---- what a phrase leaves, and what the rest of a phrase makes of what the phrase has

  -- one tree
  pub record Leaves (Q : Tree → Type 0) (p : Parts) : Type 0 where
    pub row : Row
    pub pairs : ℕ
    pub kids : Marked
    pub left : branches false (plant s p bud).twigs ≡ branch row pairs kids ∷ []
    pub is : Q (top pairs (label s row) kids)

  pub record Makes (Q : Tree → Type 0) (xs : List Twig) (part : ℕ) (p : Parts) : Type 0 where
    pub row : Row
    pub pairs : ℕ
    pub kids : Marked
    pub made : (plant s p (bough xs part)).twigs ≡ branch row pairs kids ∷ []
    pub is : Q (top pairs (label s row) kids)

  -- the rest of an operator's chain: of a tree that may stand at places of level n, one that may at those of level i
  abbrev pub More : ℕ → ℕ → Bool → Bool → Parts → Type 0
  More n i r q p = (row : Row) (pairs : ℕ) (kids : Marked) (part u : ℕ) → At n r q u (top pairs (label s row) kids) → Makes (At i r q u) (branch row pairs kids ∷ []) part p

  -- trees behind those that the phrase has
  pub record Added (Q : Tree → Type 0) (xs : List Twig) (part : ℕ) (p : Parts) : Type 0 where
    pub more : List Twig
    pub part_now : ℕ
    pub added : plant s p (bough xs part) ≡ bough (xs ++ more) part_now
    pub are : Each Q (trees_in s more)

  abbrev pub Adds : (Tree → Type 0) → Parts → Type 0
  Adds Q p = (xs : List Twig) (part : ℕ) → Added Q xs part p

  abbrev pub Wholly : List Twig → Type 0
  Wholly xs = Each (Fits whole) (trees_in s xs)

  pub record Keeps (p : Parts) : Type 0 where
    pub kept : (xs : List Twig) (part : ℕ) → Wholly xs → Wholly (plant s p (bough xs part)).twigs

  -- ---- steps

  pub on_own : {Q : Tree → Type 0} {p : Parts} (n : ℕ) (a : List Symbol) (q : Parts) (xs : List Twig) (part : ℕ) → Own n → (h : Leaves Q p) → plant s (node n a p q) (bough xs part) ≡ plant s q (bough (xs ++ (branch h.row h.pairs h.kids ∷ [])) part)
  on_own {p = p} n a q xs part o h =
      plant_phrase s n a p q (bough xs part) o.0
      ∙ ap (λ (b : Bool). plant s q (with_trees b (plant s p bud) (bough xs part))) o.1
      ∙ ap (λ (ys : List Twig). plant s q (bough (xs ++ ys) part)) h.left

  pair_branches : (xs : List Twig) → branches true xs ≡ branches true (branches false xs)
  pair_branches [] = refl
  pair_branches (word x ∷ xs) = pair_branches xs
  pair_branches (branch r k m ∷ xs) = ap (λ (ys : List Twig). branch r (suc k) m ∷ ys) (pair_branches xs)

  pub on_pair : {Q : Tree → Type 0} {p : Parts} (a : List Symbol) (q : Parts) (xs : List Twig) (part : ℕ) → (h : Leaves Q p) → plant s (node PARENS a p q) (bough xs part) ≡ plant s q (bough (xs ++ (branch h.row (suc h.pairs) h.kids ∷ [])) part)
  on_pair {p = p} a q xs part h =
      plant_phrase s PARENS a p q (bough xs part) refl
      ∙ ap (λ (ys : List Twig). plant s q (bough (xs ++ ys) part)) (pair_branches (plant s p bud).twigs ∙ ap (branches true) h.left)

  pub on_word : (x : Token) (p : Parts) (xs : List Twig) (part : ℕ) → is_text x ≡ false → plant s (leaf x p) (bough xs part) ≡ plant s p (bough (xs ++ (word x ∷ [])) part)
  on_word x p xs part e = plant_word s x p (bough xs part) e

  pub on_rest : (n : ℕ) (a : List Symbol) (p q : Parts) (xs : List Twig) (part : ℕ) → Rest n → plant s (node n a p q) (bough xs part) ≡ plant s q (plant s p (bough xs part))
  on_rest n a p q xs part e = plant_rest s n a p q (bough xs part) e

  pub on_leaf : (x : Token) (p : Parts) (xs : List Twig) (part : ℕ) → plant s (leaf x p) (bough xs part) ≡ plant s p (bough (plant_token x (bough xs part)).twigs (plant_token x (bough xs part)).part)
  unfolding plant
  on_leaf x p xs part = refl

  pub on_end : (a : Bough) → plant s end a ≡ a
  unfolding plant
  on_end a = refl

  -- the last rest of a phrase
  pub on_last : (n : ℕ) (a : List Symbol) (p : Parts) (xs : List Twig) (part : ℕ) → Rest n → plant s (node n a p end) (bough xs part) ≡ plant s p (bough xs part)
  on_last n a p xs part e = on_rest n a p end xs part e ∙ on_end (plant s p (bough xs part))

  -- one branch made of a bough
  pub makes_from : {Q : Tree → Type 0} {xs ys : List Twig} {part now : ℕ} {p q : Parts} → plant s p (bough xs part) ≡ plant s q (bough ys now) → Makes Q ys now q → Makes Q xs part p
  makes_from e h = record { row = h.row; pairs = h.pairs; kids = h.kids; made = ap (λ (a : Bough). a.twigs) e ∙ h.made; is = h.is }

  pub leaves_made : {Q : Tree → Type 0} {p : Parts} → Makes Q [] 0 p → Leaves Q p
  leaves_made h = record { row = h.row; pairs = h.pairs; kids = h.kids; left = ap (branches false) h.made; is = h.is }

  pub makes_one : {Q : Tree → Type 0} (row : Row) (pairs : ℕ) (kids : Marked) (part : ℕ) → Q (top pairs (label s row) kids) → Makes Q (branch row pairs kids ∷ []) part end
  makes_one row pairs kids part h = record { row = row; pairs = pairs; kids = kids; made = ap (λ (a : Bough). a.twigs) (on_end (bough (branch row pairs kids ∷ []) part)); is = h }

  -- a row over all; the last
  pub makes_row : {Q : Tree → Type 0} (k : ℕ) (xs : List Twig) (part : ℕ) → eqb k 0 ≡ false → Q (top 0 (label s (row_of k (items_of xs) part)) (trees_in s xs)) → Makes Q xs part (mark k end)
  makes_row k xs part e h = makes_from (plant_row s k end (bough xs part) e) (makes_one (row_of k (items_of xs) part) 0 (trees_in s xs) 0 h)

  pub makes_as : {Q Q' : Tree → Type 0} {xs : List Twig} {part : ℕ} {p : Parts} → ((x : Tree) → Q x → Q' x) → Makes Q xs part p → Makes Q' xs part p
  makes_as f h = record { row = h.row; pairs = h.pairs; kids = h.kids; made = h.made; is = f (top h.pairs (label s h.row) h.kids) h.is }

  pub leaves_as : {Q Q' : Tree → Type 0} {p : Parts} → ((x : Tree) → Q x → Q' x) → Leaves Q p → Leaves Q' p
  leaves_as f h = record { row = h.row; pairs = h.pairs; kids = h.kids; left = h.left; is = f (top h.pairs (label s h.row) h.kids) h.is }

  -- ---- trees of a row

  each_branches : (Q : Tree → Type 0) (xs : List Twig) → Each Q (trees_in s (branches false xs)) → Each Q (trees_in s xs)
  each_branches Q [] h = tt
  each_branches Q (word x ∷ xs) h = each_branches Q xs h
  each_branches Q (branch r k m ∷ xs) h = (h.0, each_branches Q xs h.1)

  pub branches_each : (Q : Tree → Type 0) (xs : List Twig) → Each Q (trees_in s xs) → Each Q (trees_in s (branches false xs))
  branches_each Q [] h = tt
  branches_each Q (word x ∷ xs) h = branches_each Q xs h
  branches_each Q (branch r k m ∷ xs) h = (h.0, branches_each Q xs h.1)

  pub each_append : (Q : Tree → Type 0) (xs ys : List Twig) → Each Q (trees_in s xs) → Each Q (trees_in s ys) → Each Q (trees_in s (xs ++ ys))
  each_append Q xs ys h k = subst (Each Q) (sym (trees_append s xs ys)) (each_beside Q (trees_in s xs) (trees_in s ys) h k)

  pub leaves_each : {p : Parts} (Q : Tree → Type 0) → Leaves Q p → Each Q (trees_in s (plant s p bud).twigs)
  leaves_each {p} Q h = each_branches Q (plant s p bud).twigs (subst (λ (ys : List Twig). Each Q (trees_in s ys)) (sym h.left) (h.is, tt))

  pub wholes_pair : (b : Bool) (xs : List Twig) → Wholly xs → Wholly (branches b xs)
  wholes_pair b [] h = tt
  wholes_pair b (word x ∷ xs) h = wholes_pair b xs h
  wholes_pair true (branch r k m ∷ xs) h = (fits_pair whole k (label s r) m h.0, wholes_pair true xs h.1)
  wholes_pair false (branch r k m ∷ xs) h = (h.0, wholes_pair false xs h.1)

  -- ---- steps of `Adds`

  adds_from : {Q : Tree → Type 0} {xs : List Twig} {part now : ℕ} {p q : Parts} (ys : List Twig) → plant s p (bough xs part) ≡ plant s q (bough (xs ++ ys) now) → Each Q (trees_in s ys) → Added Q (xs ++ ys) now q → Added Q xs part p
  adds_from {Q} {xs} ys e k h = record {
    more = ys ++ h.more;
    part_now = h.part_now;
    added = e ∙ h.added ∙ ap (λ (zs : List Twig). bough zs h.part_now) (append_assoc xs ys h.more);
    are = each_append Q ys h.more k h.are;
  }

  pub adds_end : {Q : Tree → Type 0} → Adds Q end
  adds_end xs part = record { more = []; part_now = part; added = on_end (bough xs part) ∙ ap (λ (zs : List Twig). bough zs part) (sym (append-nil xs)); are = tt }

  pub adds_word : {Q : Tree → Type 0} {p : Parts} (x : Token) → is_text x ≡ false → Adds Q p → Adds Q (leaf x p)
  adds_word {p = p} x e h xs part = adds_from (word x ∷ []) (on_word x p xs part e) tt (h (xs ++ (word x ∷ [])) part)

  pub adds_part : {Q : Tree → Type 0} {p : Parts} → Adds Q p → Adds Q (mark 0 p)
  adds_part {p = p} h xs part =
      let k = h xs 1 in
      record { more = k.more; part_now = k.part_now; added = plant_part s p (bough xs part) ∙ k.added; are = k.are }

  pub adds_own : {Q : Tree → Type 0} {p q : Parts} (n : ℕ) (a : List Symbol) → Own n → Each Q (trees_in s (plant s p bud).twigs) → Adds Q q → Adds Q (node n a p q)
  adds_own {Q} {p} {q} n a o h k xs part =
      let ys = branches false (plant s p bud).twigs in
      adds_from ys (plant_phrase s n a p q (bough xs part) o.0 ∙ ap (λ (b : Bool). plant s q (with_trees b (plant s p bud) (bough xs part))) o.1) (branches_each Q (plant s p bud).twigs h) (k (xs ++ ys) part)

  pub adds_rest : {Q : Tree → Type 0} {p q : Parts} (n : ℕ) (a : List Symbol) → Rest n → Adds Q p → Adds Q q → Adds Q (node n a p q)
  adds_rest {Q} {p} {q} n a o h k xs part =
      let u = h xs part in
      adds_from u.more (on_rest n a p q xs part o ∙ ap (plant s q) u.added) u.are (k (xs ++ u.more) u.part_now)

  pub adds_keeps : {p : Parts} → Adds (Fits whole) p → Keeps p
  adds_keeps h = record { kept = λ xs part w. let k = h xs part in subst (λ (a : Bough). Wholly a.twigs) (sym k.added) (each_append (Fits whole) xs k.more w k.are) }

  pub adds_each : {p : Parts} (Q : Tree → Type 0) → Adds Q p → Each Q (trees_in s (plant s p bud).twigs)
  adds_each Q h = let k = h [] 0 in subst (λ (a : Bough). Each Q (trees_in s a.twigs)) (sym k.added) k.are

  -- ---- steps of `Keeps`

  pub keeps_token : (x : Token) (a : Bough) → Wholly a.twigs → Wholly (plant_token x a).twigs
  unfolding plant_token
  keeps_token x a h = go (is_text x) (eqb x.value 0)
    where
      row_text : Fits whole (top 0 (label s (text_row x)) no_more)
      row_text = fits_whole 0 (label s (text_row x)) no_more (met_none _)

      go : (b c : Bool) → Wholly (cond {A = Bough} b (cond {A = Bough} c (with_word x a) (with_text x a)) (with_word x a)).twigs
      go true true = each_append (Fits whole) a.twigs (word x ∷ []) h tt
      go true false = each_append (Fits whole) a.twigs (branch (text_row x) 0 no_more ∷ []) h (row_text, tt)
      go false c = each_append (Fits whole) a.twigs (word x ∷ []) h tt

  pub keeps_end : Keeps end
  unfolding plant
  keeps_end = record { kept = λ xs part h. h }

  pub keeps_leaf : {p : Parts} (x : Token) → Keeps p → Keeps (leaf x p)
  unfolding plant
  keeps_leaf x h = record { kept = λ xs part w. let a = plant_token x (bough xs part) in h.kept a.twigs a.part (keeps_token x (bough xs part) w) }

  pub keeps_part : {p : Parts} → Keeps p → Keeps (mark 0 p)
  keeps_part {p} h = record { kept = λ xs part w. subst (λ (a : Bough). Wholly a.twigs) (sym (plant_part s p (bough xs part))) (h.kept xs 1 w) }

  pub keeps_row : {p : Parts} (k : ℕ) → eqb k 0 ≡ false → ((xs : List Twig) (part : ℕ) → Wholly xs → Fits whole (top 0 (label s (row_of k (items_of xs) part)) (trees_in s xs))) → Keeps p → Keeps (mark k p)
  keeps_row {p} k e f h = record { kept = λ xs part w. subst (λ (a : Bough). Wholly a.twigs) (sym (plant_row s k p (bough xs part) e)) (h.kept (branch (row_of k (items_of xs) part) 0 (trees_in s xs) ∷ []) 0 (f xs part w, tt)) }

  pub keeps_own : {p q : Parts} (n : ℕ) (a : List Symbol) → one_of n rest_kinds ≡ false → Wholly (plant s p bud).twigs → Keeps q → Keeps (node n a p q)
  keeps_own {p} {q} n a e h k = record {
    kept = λ xs part w.
        let ys = branches (eqb n PARENS) (plant s p bud).twigs in
        subst (λ (b : Bough). Wholly b.twigs) (sym (plant_phrase s n a p q (bough xs part) e)) (k.kept (xs ++ ys) part (each_append (Fits whole) xs ys w (wholes_pair (eqb n PARENS) (plant s p bud).twigs h)));
  }

  pub keeps_rest : {p q : Parts} (n : ℕ) (a : List Symbol) → Rest n → Keeps p → Keeps q → Keeps (node n a p q)
  keeps_rest {p} {q} n a e h k = record {
    kept = λ xs part w.
        let b = plant s p (bough xs part) in
        subst (λ (b : Bough). Wholly b.twigs) (sym (on_rest n a p q xs part e)) (k.kept b.twigs b.part (h.kept xs part w));
  }

  -- ---- the claims

  -- behind the word of a return form: an expr, or nothing where records may stand
  pub data Returned (r : Bool) (x : Token) (part : ℕ) (p : Parts) : Type 0 where
    returns : {w : ℕ} (row : Row) (pairs : ℕ) (kids : Marked) → plant s p (bough (word x ∷ []) part) ≡ bough (word x ∷ branch row pairs kids ∷ []) part → At 0 r true w (top pairs (label s row) kids) → Returned r x part p
    nothing : T r → plant s p (bough (word x ∷ []) part) ≡ bough (word x ∷ []) part → Returned r x part p

  -- behind an arm's pattern: a guard or none; then, behind `=>`, the body and the other arms
  pub data Guarded (xs : List Twig) (part : ℕ) (p : Parts) : Type 0 where
    no_guard : plant s p (bough xs part) ≡ bough xs part → Guarded xs part p
    guards : (x : Token) (row : Row) (pairs : ℕ) (kids : Marked) → plant s p (bough xs part) ≡ bough (xs ++ (word x ∷ branch row pairs kids ∷ [])) 1 → Fits whole (top pairs (label s row) kids) → Guarded xs part p

  pub data Ready : List Twig → ℕ → Type 0 where
    bare : (x : Token) (row : Row) (pairs : ℕ) (kids : Marked) → Fits whole (top pairs (label s row) kids) → Ready (branch row pairs kids ∷ word x ∷ []) 0
    guarded : (x y : Token) (row row₂ : Row) (pairs pairs₂ : ℕ) (kids kids₂ : Marked) → Fits whole (top pairs (label s row) kids) → Fits whole (top pairs₂ (label s row₂) kids₂) → Ready (branch row pairs kids ∷ word x ∷ branch row₂ pairs₂ kids₂ ∷ word y ∷ []) 1
