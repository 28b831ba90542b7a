-- Document 01's worked pairs 1 to 12, from source bytes to answer and rows.
use mathlib.Core.Path.{◌≡◌, refl}
use mathlib.Core.Bool.{true, false}
use Rattle.chars.specs.Texts.{bytes}
use Rattle.grammar.specs.Grammar.{Parts}
use Rattle.answers.specs.Cases.{Each, worked, cases}
use Rattle.answers.specs.Decided.{decided}
use Rattle.answers.specs.Demands.{Reading}
use Rattle.answers.proofs.Determined.{accepted_reads}
use Rattle.answers.proofs.Opened.{lexer, values, reader}
use Rattle.answers.proofs.Computed.{computed, stated, each_means}

worked_computed : computed 1000 worked ≡ stated worked
unfolding lexer values reader computed stated worked
worked_computed = refl

pub worked_pairs : Each worked
worked_pairs = each_means 1000 worked worked_computed

-- the other pairs, the slips, and texts that have no reading
cases_computed : computed 3000 cases ≡ stated cases
unfolding lexer values reader computed stated cases
cases_computed = refl

pub more_cases : Each cases
more_cases = each_means 3000 cases cases_computed

-- what was decided where the documents' words leave room
decided_computed : computed 9000 decided ≡ stated decided
unfolding lexer values reader computed stated decided
decided_computed = refl

pub decisions : Each decided
decisions = each_means 9000 decided decided_computed

-- sources that have a reading: an expression and a tree
pub an_expression : (p : Parts) × Reading false false (bytes "1+2*3") p
unfolding bytes worked
an_expression = let k = accepted_reads false false _ _ worked_pairs.1.1.1.1.1.1.1.1.1.1.0 refl in (k.parts, k.text)

pub a_tree : (p : Parts) × Reading false true (bytes "const A: u8 = 1;") p
unfolding bytes cases
a_tree = let k = accepted_reads false true _ _ more_cases.1.1.0 refl in (k.parts, k.text)
