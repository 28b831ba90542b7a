-- The trees that a reading leaves, as `write` leaves rows (grammar/specs/Rows.antt): each with its label, the trees under it, and the number of
-- pairs of parentheses that stand round it.
use Rattle.std.specs.Prelude.{List, [], ◌∷◌, ◌++◌, Bool, true, false, cond, ℕ, suc, eqb}
use Rattle.rows.specs.Kinds as kinds
use Rattle.grammar.specs.Grammar.{Token, Parts, end, leaf, node, mark, one_of}
use Rattle.grammar.specs.Kinds.{PARENS}
use Rattle.grammar.specs.Table.{rest_kinds}
use Rattle.grammar.specs.Rows.{Row, Item, own, child, row_of, is_text, text_row}
use Rattle.canon.specs.Trees.{Label, Forest, none, tree, label}

-- Trees in a row: the pairs round the first, its label, the trees under it, the trees after it.
pub data Marked : Type 0 where
  no_more : Marked
  stands : ℕ → Label → Marked → Marked → Marked

-- the same trees without the pairs
unfoldable pub unmarked : Marked → Forest
unmarked no_more = none
unmarked (stands k a kids ts) = tree a (unmarked kids) (unmarked ts)

-- What a phrase has so far: words of its own; and trees without a parent, each with its row, the pairs round it and the trees under it.
pub data Twig : Type 0 where
  word : Token → Twig
  branch : Row → ℕ → Marked → Twig

abbrev pub items_of : List Twig → List Item
items_of [] = []
items_of (word x ∷ xs) = own x ∷ items_of xs
items_of (branch r k kids ∷ xs) = child r ∷ items_of xs

-- its trees, with their texts of the source s
abbrev pub trees_in : List ℕ → List Twig → Marked
trees_in s [] = no_more
trees_in s (word x ∷ xs) = trees_in s xs
trees_in s (branch r k kids ∷ xs) = stands k (label s r) kids (trees_in s xs)

-- its trees when it is left; `( expr )` puts a pair round them
abbrev pub branches : Bool → List Twig → List Twig
branches pair [] = []
branches pair (word x ∷ xs) = branches pair xs
branches pair (branch r k kids ∷ xs) = branch r (cond pair (suc k) k) kids ∷ branches pair xs

pub record Bough : Type 0 where
  pub twigs : List Twig
  pub part : ℕ

abbrev pub bud : Bough
bud = record { twigs = []; part = 0 }

-- a note: the part is there; or a row over all that the phrase has
abbrev pub with_row : List ℕ → ℕ → Bough → Bough
with_row s k a = record { twigs = branch (row_of k (items_of a.twigs) a.part) 0 (trees_in s a.twigs) ∷ []; part = 0 }

unfoldable pub plant_note : List ℕ → ℕ → Bough → Bough
plant_note s k a =
    let n : Bough = record { twigs = a.twigs; part = 1 } in
    let r : Bough = with_row s k a in
    cond (eqb k 0) n r

-- a word; or a piece of text, which is a row if it has a byte
abbrev pub with_word : Token → Bough → Bough
with_word x a = record { twigs = a.twigs ++ (word x ∷ []); part = a.part }

abbrev pub with_text : Token → Bough → Bough
with_text x a = record { twigs = a.twigs ++ (branch (text_row x) 0 no_more ∷ []); part = a.part }

unfoldable pub plant_token : Token → Bough → Bough
plant_token x a = cond (is_text x) (cond (eqb x.value 0) (with_word x a) (with_text x a)) (with_word x a)

-- a phrase in a phrase begins with nothing and leaves its trees; the rest of a phrase goes on with what the phrase has
abbrev pub enter : Bool → Bough → Bough
enter true a = a
enter false a = bud

abbrev pub with_trees : Bool → Bough → Bough → Bough
with_trees pair b a = record { twigs = a.twigs ++ branches pair b.twigs; part = a.part }

abbrev pub leave : Bool → Bool → Bough → Bough → Bough
leave true pair a b = b
leave false pair a b = with_trees pair b a

unfoldable pub plant : List ℕ → Parts → Bough → Bough
plant s end a = a
plant s (leaf x p) a = plant s p (plant_token x a)
plant s (node n t p q) a = let b = one_of n rest_kinds in plant s q (leave b (eqb n PARENS) a (plant s p (enter b a)))
plant s (mark k p) a = plant s p (plant_note s k a)

-- "Tree spans the source": its row comes last, over all others.
abbrev pub tree_label : Label
tree_label = record { kind = kinds.TREE; value = 0; detail = 0; text = [] }

unfoldable pub marked_from : Bool → Marked → Marked
marked_from true ts = stands 0 tree_label ts no_more
marked_from false ts = ts

-- The trees of a reading of s with their pairs, and without.
unfoldable pub marked : List ℕ → Bool → Parts → Marked
unfolding plant plant_note plant_token marked_from
marked s whole p = marked_from whole (trees_in s (plant s p bud).twigs)

abbrev pub forest : List ℕ → Bool → Parts → Forest
forest s whole p = unmarked (marked s whole p)
