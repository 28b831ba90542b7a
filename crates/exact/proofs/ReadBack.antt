-- Over lists of tokens: the trees of an accepted source, with any choice of pairs that is met, are read back.
use mathlib.Core.Path.{◌∙◌, ◌≡◌, subst}
use mathlib.Core.List.{List, []}
use mathlib.Core.Bool.{true}
use Prim.Native.Nat.{ℕ}
use lib.ListN.{length}
use Rattle.rows.specs.Kinds as kinds
use Rattle.grammar.specs.Grammar.{Parts}
use Rattle.grammar.specs.Kinds.{TREE}
use Rattle.grammar.specs.Limits.{kept}
use Rattle.grammar.specs.Readings.{Text}
use Rattle.grammar.specs.Language.{roto}
use Rattle.answers.specs.Source.{source}
use Rattle.canon.specs.Text.{Bit, tokens}
use Rattle.printing.specs.Groves.{labelled}
use Rattle.printing.proofs.ReadsBack.{grove_of}
use Rattle.printing.proofs.Printed.{RoundTripOf}
use Rattle.printing.proofs.Sources.{source_chosen}
use Rattle.forests.specs.Planted.{Marked, forest, unmarked}
use Rattle.forests.specs.Met.{Met}
use Rattle.forests.proofs.Labelled.{forest_labelled}
use Rattle.exact.specs.Written.{OnExprs, written}
use Rattle.exact.proofs.Choices.{choice_of, chosen_bits, met_suits}

-- The trees of an accepted source with any pairs, round exprs of the table, that leave no row bare where it needs one: the tokens have a reading, with
-- the same rows and trees.
pub met_reads : (s : List ℕ) {p : Parts} → Text (source s) (roto true) TREE 0 p → (len' : ℕ) (m : Marked) → unmarked m ≡ forest s true p → OnExprs kinds.NONE true m → Met [] m → RoundTripOf (written [] [] m) (source s) kept s (length s) len' p
met_reads s {p} t len' m e o u =
    let f : unmarked m ≡ labelled s (grove_of p) = e ∙ forest_labelled s (source s) kept t.reads in
    subst (λ (w : List Bit). RoundTripOf w (source s) kept s (length s) len' p) (chosen_bits s kinds.NONE true [] [] m (grove_of p) f o) (source_chosen s len' t (choice_of m) (met_suits s kinds.NONE true [] m (grove_of p) f o u))
