-- Readings that leave the same trees have the same rows, spans set aside; and rows that say the same are the same trees.
use mathlib.Core.Path.{◌≡◌, refl, sym, ap, ◌∙◌}
use mathlib.Core.List.{List, [], ◌∷◌, ◌++◌, head-eq_of_cons-eq, tail-eq_of_cons-eq}
use mathlib.Core.Bool.{Bool}
use Prim.Native.Nat.{ℕ, suc, ◌+◌}
use lib.ListN.{length}
use native.Mathlib.Omega.{arith}
use Rattle.grammar.specs.Grammar.{Parts}
use Rattle.grammar.specs.Rows.{Row, rows}
use Rattle.printing.specs.Bare.{bare_row, bare_rows}
use Rattle.canon.specs.Trees.{Label, Forest, none, tree, text_of, label, adopt, grown}
use Rattle.forests.specs.Planted.{forest}
use Rattle.forests.specs.Told.{Told, told, trees, count, tells, bare_told, texts_told, textless, shape}
use Rattle.forests.proofs.Grown.{rows_told}

told_bare : (s : List ℕ) (rs : List Row) → bare_told (told s rs) ≡ bare_rows rs
told_bare s [] = refl
told_bare s (r ∷ rs) = ap (λ (z : List Row). bare_row r ∷ z) (told_bare s rs)

-- the texts of rows
abbrev pub texts : List ℕ → List Row → List (List ℕ)
texts s [] = []
texts s (r ∷ rs) = text_of s r ∷ texts s rs

told_texts : (s : List ℕ) (rs : List Row) → texts_told (told s rs) ≡ texts s rs
told_texts s [] = refl
told_texts s (r ∷ rs) = ap (λ (z : List (List ℕ)). text_of s r ∷ z) (told_texts s rs)

-- ---- what doesn't depend on texts

bare_append : (xs ys : List Told) → bare_told (xs ++ ys) ≡ bare_told xs ++ bare_told ys
bare_append [] ys = refl
bare_append (x ∷ xs) ys = ap (λ (z : List Row). record { kind = x.label.kind; start = 0; end = 0; children = x.children; value = x.label.value; detail = x.label.detail; size = x.size } ∷ z) (bare_append xs ys)

shape_trees : (f : Forest) → trees (shape f) ≡ trees f
unfolding trees shape
shape_trees none = refl
shape_trees (tree a kids ts) = ap suc (shape_trees ts)

shape_count : (f : Forest) → count (shape f) ≡ count f
unfolding count shape
shape_count none = refl
shape_count (tree a kids ts) = λ i. suc (shape_count kids i) + shape_count ts i

shape_tells : (f : Forest) → bare_told (tells (shape f)) ≡ bare_told (tells f)
unfolding tells shape
shape_tells none = refl
shape_tells (tree a kids ts) =
    bare_append (tells (shape kids)) (one (textless a) (trees (shape kids)) (count (shape kids)) ∷ tells (shape ts))
    ∙ (λ i. shape_tells kids i ++ (record { kind = a.kind; start = 0; end = 0; children = shape_trees kids i; value = a.value; detail = a.detail; size = suc (shape_count kids i) } ∷ shape_tells ts i))
    ∙ sym (bare_append (tells kids) (one a (trees kids) (count kids) ∷ tells ts))
  where
    one : Label → ℕ → ℕ → Told
    one b n m = record { label = b; children = n; size = suc m }

module _ (whole : Bool) (s s' : List ℕ) (len len' : ℕ) (p p' : Parts) where
  -- the same trees, texts left out: the same rows, spans set aside, sizes and all
  pub same_shape_rows : shape (forest s whole p) ≡ shape (forest s' whole p') → bare_rows (rows whole len p) ≡ bare_rows (rows whole len' p')
  same_shape_rows e =
      sym (told_bare s (rows whole len p)) ∙ ap bare_told (rows_told s whole len p) ∙ sym (shape_tells (forest s whole p))
      ∙ ap (λ (f : Forest). bare_told (tells f)) e
      ∙ shape_tells (forest s' whole p') ∙ sym (ap bare_told (rows_told s' whole len' p')) ∙ told_bare s' (rows whole len' p')

  pub same_rows : forest s whole p ≡ forest s' whole p' → bare_rows (rows whole len p) ≡ bare_rows (rows whole len' p')
  same_rows e = same_shape_rows (ap shape e)

  -- and with texts: row by row the same text, of each name, literal and f-string
  pub same_texts : forest s whole p ≡ forest s' whole p' → texts s (rows whole len p) ≡ texts s' (rows whole len' p')
  same_texts e =
      sym (told_texts s (rows whole len p)) ∙ ap texts_told (rows_told s whole len p)
      ∙ ap (λ (f : Forest). texts_told (tells f)) e
      ∙ sym (ap texts_told (rows_told s' whole len' p')) ∙ told_texts s' (rows whole len' p')

-- rows of two sources that say the same grow into the same trees
pub same_grown : (s s' : List ℕ) (rs rs' : List Row) (ts : Forest) → told s rs ≡ told s' rs' → grown s rs ts ≡ grown s' rs' ts
unfolding grown
same_grown s s' [] [] ts e = refl
same_grown s s' [] (r ∷ rs) ts e = let k : 0 ≡ suc (length (told s' rs)) = ap length e in absurd (omega (arith, k))
same_grown s s' (r ∷ rs) [] ts e = let k : suc (length (told s rs)) ≡ 0 = ap length e in absurd (omega (arith, k))
same_grown s s' (r ∷ rs) (r' ∷ rs') ts e =
    let h = head-eq_of_cons-eq e in
    ap (λ (x : Told). grown s rs (adopt x.label x.children none ts)) h ∙ same_grown s s' rs rs' (adopt (label s' r') r'.children none ts) (tail-eq_of_cons-eq e)
