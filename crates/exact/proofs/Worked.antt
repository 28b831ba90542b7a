-- Complete answers of the printer, number by number.
use mathlib.Core.Path.{◌≡◌, refl, sym, ap, subst, ◌∙◌}
use mathlib.Core.List.{List, [], ◌∷◌, ◌++◌}
use mathlib.Core.Bool.{true}
use mathlib.Core.Logic.{◌≢◌}
use Prim.Native.Nat.{ℕ}
use native.Mathlib.Omega.{arith}
use lib.ListN.{length, replicate}
use Rattle.chars.specs.declared.Answer.{Answer}
use Rattle.chars.specs.Texts.{bytes}
use Rattle.grammar.specs.Grammar.{Parts}
use Rattle.grammar.specs.Rows.{Row, flat}
use Rattle.answers.specs.Entries.{Permitted}
use Rattle.answers.specs.Demands.{Reading, rows_of}
use Rattle.answers.proofs.Opened.{lexer, values, reader}
use Rattle.answers.proofs.Computed.{outcome_means}
use Rattle.answers.proofs.Determined.{accepted_reads}
use Rattle.canon.specs.Trees.{grown}
use Rattle.canon.specs.Layout.{layouts, layout}
use Rattle.canon.specs.Text.{fill, spaced, printed}
use Rattle.roundtrip.specs.ReadsBack.{print_of}
use Rattle.roundtrip.specs.Prints.{Judged, no_room, fits, tests_in, Prints, no_plan, refuses_print, prints}
use Rattle.roundtrip.proofs.Answers.{same_flat, Printable, accepted_prints}

abbrev answer : ℕ → ℕ → ℕ → ℕ → Answer
answer n a e c = record { number = n; start = a; end = e; count = c }

abbrev row : ℕ → ℕ → ℕ → ℕ → ℕ → Row
row k a e c n = record { kind = k; start = a; end = e; children = c; value = 0; detail = 0; size = n }

-- a test: a name, a block, the test, the tree
abbrev test : List ℕ
test = bytes "test t{}"

abbrev its_rows : List Row
its_rows = row 1 5 6 0 1 ∷ row 35 6 8 0 1 ∷ row 42 0 8 2 3 ∷ row 43 0 8 1 4 ∷ []

abbrev its_print : List ℕ
its_print = bytes "test t {\n}\n"

source_read : Permitted true true test 28 (answer 0 0 8 4) (flat its_rows)
unfolding lexer values reader
source_read = outcome_means test 28 400 true true {o = record { answer = answer 0 0 8 4; table = flat its_rows }} refl

print_read : (q : Parts) × Reading true true its_print q
unfolding lexer values reader
print_read = let k = accepted_reads true true its_print 28 (outcome_means its_print 28 400 true true {o = record { answer = answer 0 0 11 4; table = flat (row 1 5 6 0 1 ∷ row 35 7 10 0 1 ∷ row 42 0 10 2 3 ∷ row 43 0 11 1 4 ∷ []) }} refl) refl in (k.parts, k.text)

read : Printable test 28 (answer 0 0 8 4) (flat its_rows)
read = accepted_prints true test 28 source_read refl

rows_are : rows_of true test read.parts ≡ its_rows
rows_are = same_flat (rows_of true test read.parts) its_rows _ [] (sym read.count) (sym read.table)

printed_is : printed test its_rows ≡ its_print
unfolding lexer grown layouts layout fill spaced printed
printed_is = refl

print_is : print_of test read.parts ≡ its_print
print_is = ap (printed test) rows_are ∙ printed_is

one_test : tests_in (rows_of true test read.parts) ≡ 1
unfolding tests_in
one_test = ap tests_in rows_are

eleven : length its_print ≡ 11
unfolding lexer
eleven = refl

-- 11 bytes and one test, in a text of 12
pub a_print : Prints test 28 16 12 (answer 0 0 8 11) 1 (flat its_rows) (replicate 16 0) (its_print ++ (0 ∷ []))
unfolding lexer
a_print = subst (λ (n : ℕ). Prints test 28 16 12 (answer 0 0 8 11) n (flat its_rows) (replicate 16 0) (its_print ++ (0 ∷ []))) one_test (prints source_read refl (omega arith) read.reading (subst (λ (w : List ℕ). Judged 8 w 12 (answer 0 0 8 11) (its_print ++ (0 ∷ []))) (sym print_is) (fits (omega (arith, eleven)) print_read.1 (omega (arith, eleven)))) refl)

-- no room for the text, nor for the plan
pub no_text : Prints test 28 16 10 (answer 10 0 0 11) 0 (replicate 28 0) (replicate 16 0) (replicate 10 0)
unfolding lexer
no_text = refuses_print source_read refl (omega arith) read.reading (subst (λ (w : List ℕ). Judged 8 w 10 (answer 10 0 0 11) (replicate 10 0)) (sym print_is) (no_room (omega (arith, eleven)) print_read.1 (omega (arith, eleven)))) (λ e. omega (arith, e))

pub no_room_to_plan : Prints test 28 15 12 (answer 10 0 0 4) 0 (replicate 28 0) (replicate 15 0) (replicate 12 0)
no_room_to_plan = no_plan source_read refl (omega arith)
