-- The print row by row, in the table's order: what is written when a row is left. A row's words before its first child are
-- written when the row before its subtree is left, the outermost first.
use Rattle.std.specs.Prelude.{List, [], ◌∷◌, ◌++◌, Bool, true, false, cond, ℕ}
use Rattle.grammar.specs.Words.{open_paren, close_paren}
use Rattle.grammar.specs.Grammar.{one_of}
use Rattle.canon.specs.Trees.{Label, Forest, none, tree, copied}
use Rattle.canon.specs.Layout.{Place, needs, Slot, Layout, layout}
use Rattle.canon.specs.Text.{Bit, sign, copy, signs, inner, place_of, words_of, later}

abbrev pub opening : Bool → List Bit
opening true = sign open_paren ∷ []
opening false = []

abbrev pub closing : Bool → List Bit
closing true = sign close_paren ∷ []
closing false = []

-- the words before a row's first child; all its words, where it has none
abbrev pub before : Layout → Forest → List ℕ
before y none = y.last
before y (tree a kids ts) = words_of y.slots

-- on the way down to the first leaf of a row
unfoldable pub entered : Place → Label → Forest → List Bit
entered c a none =
    let b = needs c a none in
    let y = layout (inner b c) a none in
    opening b ++ cond (one_of a.kind copied) (copy a.text ∷ []) (signs y.last)
entered c a (tree k kids ts) =
    let b = needs c a (tree k kids ts) in
    let y = layout (inner b c) a (tree k kids ts) in
    opening b ++ cond (one_of a.kind copied) (copy a.text ∷ []) (signs (words_of y.slots) ++ entered (place_of y.slots) k kids)

-- behind a row: the words up to the next one of its siblings, and the way down into that; behind the last, the parent's last words
unfoldable pub onward : List Slot → List ℕ → Forest → List Bit
onward xs last none = signs last
onward xs last (tree a kids ts) = signs (words_of xs) ++ entered (place_of xs) a kids

-- the rows of a forest, in the table's order
unfoldable pub left_behind : List Slot → List ℕ → Forest → List Bit
left_behind xs last none = []
left_behind xs last (tree a kids ts) =
    let b = needs (place_of xs) a kids in
    let y = layout (inner b (place_of xs)) a kids in
    let under = left_behind y.slots y.last kids in
    cond (one_of a.kind copied) [] under ++ (closing b ++ (onward (later xs) last ts ++ left_behind (later xs) last ts))
