-- No row of the table stands over nothing: where a row is made, the phrase has a word or a row by then. All by computation.
use mathlib.Core.List.{List, [], ◌∷◌}
use mathlib.Core.Bool.{Bool, true, false, not, ◌&&◌, ◌||◌, cond}
use Prim.Native.Nat.{ℕ}
use lib.Dec.{T, eqb}
use Rattle.grammar.specs.Grammar.{Symbol, token, phrase, unless, note, left_side, text, Rule, one_of}
use Rattle.grammar.specs.Kinds.{TREE, DECLARATIONS, BRACES_INSIDE, ARMS}
use Rattle.grammar.specs.Table.{rest_kinds}
use Rattle.grammar.specs.Language.{roto, start}
use Rattle.grammar.proofs.Pass.{each_passes}

-- each phrase of the kind leaves a row: all kinds but the tree, the arms of a match and what is the rest of a phrase; and the rest
-- behind `{`
abbrev pub leaves : ℕ → Bool
leaves n = eqb n BRACES_INSIDE || not (one_of n (TREE ∷ ARMS ∷ rest_kinds))

-- the rest of a phrase that has a word or a row by then: all but the declarations of a tree
abbrev pub goes_on : ℕ → Bool
goes_on n = one_of n rest_kinds && not (eqb n DECLARATIONS)

-- a phrase of the kind may begin here
abbrev pub begins : Bool → ℕ → Bool
begins b n = not (goes_on n) || b

-- Whether the parts of an alternative pass, where the phrase has an item by then (b), or a row (c); `need`: it has to leave a row.
abbrev pub filled : Bool → Bool → Bool → List Symbol → Bool
filled need b c [] = not need || c
filled need b c (token g w ∷ s) = filled need true c s
filled need b c (phrase o n ∷ s) = begins b n && filled need (b || leaves n) (c || leaves n) s
filled need b c (unless w ∷ s) = filled need b c s
filled need b c (note k ∷ s) = cond (eqb k 0) (filled need b c s) (b && filled need true true s)
filled need b c (left_side n m ∷ s) = begins b n && ((begins (b || leaves n) m && filled need ((b || leaves n) || leaves m) ((c || leaves n) || leaves m) s) && filled need (b || leaves n) (c || leaves n) s)
filled need b c (text n ∷ s) = (begins true n && filled need true (c || leaves n) s) && filled need true c s

abbrev pub fills : ℕ → List Symbol → Bool
fills n a = filled (leaves n) (goes_on n) false a

abbrev pub all_filled : List Rule → Bool
all_filled = each_passes fills

pub roto_filled : (b : Bool) → T (all_filled (roto b).rules)
unfolding roto
roto_filled true = tt
roto_filled false = tt

pub goal_filled : (c : Bool) → T (filled false false false (start c))
goal_filled true = tt
goal_filled false = tt
