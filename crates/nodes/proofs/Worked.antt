-- The decisions on C-15 (docs/DECISIONS.md, N1 to N6): tables, positions and their answers, by the search's own steps; 12 and 13 as document 02 has them.
use mathlib.Core.Path.{refl}
use mathlib.Core.List.{List, [], ◌∷◌, ◌++◌}
use Prim.Native.Nat.{ℕ}
use lib.ListN.{set}
use Rattle.nodes.specs.Nodes.{node_at}
use Rattle.nodes.specs.Search.{refusal, none, wrong, leaf, before, past, Permitted}

-- the table of `const A: u8 = 1;`
abbrev constant : List ℕ
constant =
    1 ∷ 6 ∷ 7 ∷ 0 ∷ 0 ∷ 0 ∷ 1 ∷
    1 ∷ 9 ∷ 11 ∷ 0 ∷ 0 ∷ 0 ∷ 1 ∷
    2 ∷ 9 ∷ 11 ∷ 1 ∷ 0 ∷ 0 ∷ 2 ∷
    6 ∷ 9 ∷ 11 ∷ 1 ∷ 0 ∷ 0 ∷ 3 ∷
    10 ∷ 14 ∷ 15 ∷ 0 ∷ 1 ∷ 0 ∷ 1 ∷
    40 ∷ 0 ∷ 16 ∷ 3 ∷ 0 ∷ 0 ∷ 6 ∷
    43 ∷ 0 ∷ 16 ∷ 1 ∷ 0 ∷ 0 ∷ 7 ∷
    []

-- the same with another size: of the type's row, the literal's, the tree's
abbrev type_size : ℕ → List ℕ
type_size size = set constant 27 size

abbrev literal_size : ℕ → List ℕ
literal_size size = set constant 34 size

abbrev tree_size : ℕ → List ℕ
tree_size size = set constant 48 size

pub name : Permitted constant 6 (record { number = 0; start = 6; end = 7; count = 0 })
unfolding node_at
name = before refl refl refl (before refl refl refl (past refl refl (past refl refl (leaf refl refl refl))))

pub behind_name : Permitted constant 7 (refusal 13)
unfolding node_at
behind_name = before refl refl refl (before refl refl refl (past refl refl (past refl refl (past refl refl none))))

pub type : Permitted constant 10 (record { number = 0; start = 9; end = 11; count = 1 })
unfolding node_at
type = before refl refl refl (before refl refl refl (past refl refl (before refl refl refl (before refl refl refl (leaf refl refl refl)))))

pub literal : Permitted constant 14 (record { number = 0; start = 14; end = 15; count = 4 })
unfolding node_at
literal = before refl refl refl (before refl refl refl (leaf refl refl refl))

pub behind_all : Permitted constant 16 (refusal 13)
unfolding node_at
behind_all = past refl refl none

pub no_row : Permitted (1 ∷ 2 ∷ 3 ∷ []) 0 (refusal 13)
no_row = none

pub zeros_left : Permitted (constant ++ (0 ∷ 0 ∷ 0 ∷ 0 ∷ 0 ∷ 0 ∷ 0 ∷ [])) 6 (refusal 12)
unfolding node_at
zeros_left = wrong refl

pub to_the_start : Permitted (type_size 4) 6 (refusal 13)
unfolding node_at
to_the_start = before refl refl refl (before refl refl refl (past refl refl (past refl refl none)))

pub before_the_start : Permitted (type_size 5) 6 (refusal 12)
unfolding node_at
before_the_start = before refl refl refl (before refl refl refl (past refl refl (wrong refl)))

pub large_leaf : Permitted (literal_size 2) 0 (refusal 12)
unfolding node_at
large_leaf = before refl refl refl (before refl refl refl (wrong refl))

pub never_seen : Permitted (literal_size 2) 16 (refusal 13)
unfolding node_at
never_seen = past refl refl none

pub small_tree : Permitted (tree_size 1) 14 (record { number = 0; start = 14; end = 15; count = 4 })
unfolding node_at
small_tree = before refl refl refl (before refl refl refl (leaf refl refl refl))
