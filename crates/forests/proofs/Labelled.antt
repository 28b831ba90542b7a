-- The trees that keep the tokens of what is copied (printing/specs/Groves.antt), labelled, are the trees that a reading leaves.
use mathlib.Core.Path.{◌≡◌, sym, ◌∙◌}
use mathlib.Core.List.{List}
use mathlib.Core.Bool.{Bool, true}
use Prim.Native.Nat.{ℕ}
use Rattle.grammar.specs.Grammar.{Ask, Token, Stream, Parts}
use Rattle.grammar.specs.Limits.{Counts}
use Rattle.grammar.specs.Readings.{ReadingBy}
use Rattle.grammar.specs.Language.{start}
use Rattle.printing.specs.Groves.{labelled}
use Rattle.printing.proofs.Lists.{l}
use Rattle.printing.proofs.ReadsBack.{grove_of}
use Rattle.printing.proofs.Labels.{rows_are_trees}
use Rattle.forests.specs.Planted.{forest}
use Rattle.forests.proofs.Grown.{rows_grow}

pub forest_labelled : (s : List ℕ) (S : Stream) (G : Ask → Counts → Token → Bool) {d : Counts} {i r : S.Place} {p : Parts} → ReadingBy S l G d (start true) i r p → forest s true p ≡ labelled s (grove_of p)
forest_labelled s S G {p = p} u = sym (rows_grow s 0 p) ∙ rows_are_trees s S G 0 u
