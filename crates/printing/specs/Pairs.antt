-- A choice of pairs of parentheses for the rows of trees, and where the table has an expr, round which a pair may stand.
use Rattle.std.specs.Prelude.{List, [], ◌∷◌, ◌++◌, Bool, true, not, ◌&&◌, ◌||◌, ℕ, zero, suc, eqb}
use Rattle.rows.specs.Kinds as kinds
use Rattle.grammar.specs.Words.{open_paren, close_paren}
use Rattle.grammar.specs.Grammar.{one_of}
use Rattle.canon.specs.Trees.{Label, Forest}
use Rattle.canon.specs.Layout.{Place, whole, needs, is_four, is_expr}
use Rattle.canon.specs.Text.{Bit, sign}

-- Trees in a row: the pairs round the first, those under it, those after it.
pub data Choice : Type 0 where
  no_choice : Choice
  choice : ℕ → Choice → Choice → Choice

abbrev pub number : Choice → ℕ
number no_choice = 0
number (choice n k t) = n

abbrev pub under : Choice → Choice
under no_choice = no_choice
under (choice n k t) = k

abbrev pub after : Choice → Choice
after no_choice = no_choice
after (choice n k t) = t

-- Where the table has an expr: of a row of kind k, a child that is its first or not, its last or not, and of kind j itself. (One of the four as a
-- statement and a block as an arm's body are no exprs there. An f-string is copied, with the pairs in it.)
abbrev pub expr_at : ℕ → Bool → Bool → ℕ → Bool
expr_at k first last j =
    one_of k (kinds.BINARY ∷ kinds.NOT ∷ kinds.NEGATE ∷ kinds.CALL ∷ kinds.QUESTION ∷ kinds.ASSIGN ∷ kinds.RETURN ∷ kinds.F_STRING ∷ [])
    || ((one_of k (kinds.ACCESS ∷ kinds.IF ∷ kinds.WHILE ∷ kinds.MATCH ∷ []) && first)
    || ((one_of k (kinds.FIELD ∷ kinds.LET ∷ kinds.CONST ∷ []) && last)
    || ((one_of k (kinds.FOR ∷ kinds.ARM ∷ []) && (not first && not (last && eqb j kinds.BLOCK)))
    || (eqb k kinds.BLOCK && (not (is_four j) && is_expr j)))))

-- in a pair a row is a whole expr; a row without a pair doesn't need one
abbrev pub within : ℕ → Place → Place
within zero c = c
within (suc n) c = whole

abbrev pub served : ℕ → Place → Label → Forest → Bool
served zero c a kids = not (needs c a kids)
served (suc n) c a kids = true

-- tokens in pairs
abbrev pub in_pairs : ℕ → List Bit → List Bit
in_pairs zero xs = xs
in_pairs (suc n) xs = sign open_paren ∷ (in_pairs n xs ++ (sign close_paren ∷ []))
