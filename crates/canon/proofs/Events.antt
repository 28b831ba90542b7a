-- What is written row by row, in the table's order, is the print.
use mathlib.Core.Path.{◌≡◌, refl, sym, ap, ◌∙◌}
use mathlib.Core.List.{List, [], ◌∷◌, ◌++◌, append_assoc, append-nil}
use mathlib.Core.Bool.{Bool, true, false, cond}
use Prim.Native.Nat.{ℕ}
use Rattle.grammar.specs.Words.{open_paren, close_paren}
use Rattle.grammar.specs.Grammar.{one_of}
use Rattle.canon.specs.Trees.{Label, Forest, none, tree, copied}
use Rattle.canon.specs.Layout.{Place, needs, Slot, Layout, layout}
use Rattle.canon.specs.Text.{Bit, sign, copy, signs, paired, inner, place_of, words_of, later, fill}
use Rattle.canon.specs.Events.{opening, closing, entered, onward, left_behind}

around : (b : Bool) (xs : List Bit) → paired b xs ≡ opening b ++ (xs ++ closing b)
around true xs = refl
around false xs = sym (append-nil xs)

-- one row: its way down, its rows, its closing
one : (b k : Bool) (x : Bit) (e u own rest : List Bit) → own ≡ e ++ u → paired b (cond k (x ∷ []) own) ++ rest ≡ (opening b ++ cond k (x ∷ []) e) ++ (cond k [] u ++ (closing b ++ rest))
one b true x e u own rest h =
    ap (λ (z : List Bit). z ++ rest) (around b (x ∷ [])) ∙ append_assoc (opening b) ((x ∷ []) ++ closing b) rest
    ∙ sym (append_assoc (opening b) (x ∷ []) (closing b ++ rest))
one b false x e u own rest h =
    ap (λ (z : List Bit). paired b z ++ rest) h
    ∙ ap (λ (z : List Bit). z ++ rest) (around b (e ++ u))
    ∙ append_assoc (opening b) ((e ++ u) ++ closing b) rest
    ∙ ap (λ (z : List Bit). opening b ++ z) (append_assoc (e ++ u) (closing b) rest ∙ append_assoc e u (closing b ++ rest))
    ∙ sym (append_assoc (opening b) e (u ++ (closing b ++ rest)))

-- the way down into a row is its opening, and the way on to its first child
down : (c : Place) (a : Label) (kids : Forest) → entered c a kids ≡ opening (needs c a kids) ++ cond (one_of a.kind copied) (copy a.text ∷ []) (onward (layout (inner (needs c a kids) c) a kids).slots (layout (inner (needs c a kids) c) a kids).last kids)
unfolding entered onward
down c a none = refl
down c a (tree k kids ts) = refl

pub row_by_row : (xs : List Slot) (last : List ℕ) (t : Forest) → fill xs last t ≡ onward xs last t ++ left_behind xs last t
unfolding fill onward left_behind
row_by_row xs last none = sym (append-nil (signs last))
row_by_row xs last (tree a kids ts) =
    let c = place_of xs in
    let b = needs c a kids in
    let y = layout (inner b c) a kids in
    let k = one_of a.kind copied in
    let e = onward y.slots y.last kids in
    let u = left_behind y.slots y.last kids in
    let v = onward (later xs) last ts ++ left_behind (later xs) last ts in
    ap (λ (z : List Bit). signs (words_of xs) ++ z)
    (one b k (copy a.text) e u (fill y.slots y.last kids) (fill (later xs) last ts) (row_by_row y.slots y.last kids)
    ∙ ap (λ (z : List Bit). (opening b ++ cond k (copy a.text ∷ []) e) ++ (cond k [] u ++ (closing b ++ z))) (row_by_row (later xs) last ts)
    ∙ ap (λ (z : List Bit). z ++ (cond k [] u ++ (closing b ++ v))) (sym (down c a kids)))
    ∙ sym (append_assoc (signs (words_of xs)) (entered c a kids) (cond k [] u ++ (closing b ++ v)))
