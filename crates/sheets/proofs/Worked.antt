-- Worked files: the decisions T1 to T4 and V2 (docs/DECISIONS.md) as answers, so that 17, 18 and 19 are no other numbers, and tests are counted by kind 42. By `one_check` no other answer is permitted.
use mathlib.Core.Path.{refl}
use mathlib.Core.List.{List, [], ◌∷◌}
use mathlib.Core.Bool.{Bool, true, ◌&&◌}
use Prim.Native.Nat.{ℕ, ◌<◌}
use native.Mathlib.Omega.{arith}
use lib.Dec.{T, ltb, ltb→lt}
use lib.ListN.{replicate}
use Rattle.chars.specs.Texts.{bytes as text}
use Rattle.grammar.specs.Rows.{Row, flat}
use Rattle.grammar.specs.Subtrees.{Trees}
use Rattle.grammar.specs.Compute.{answer}
use Rattle.grammar.proofs.Bools.{and_l, and_r}
use Rattle.grammar.proofs.Computed.{answer_means}
use Rattle.answers.specs.Source.{source}
use Rattle.answers.specs.Compute.{outcome}
use Rattle.answers.proofs.Computed.{outcome_means}
use Rattle.answers.proofs.Opened.{lexer, values, reader}
use Rattle.sheets.specs.declared.Checked.{Checked}
use Rattle.sheets.specs.Files.{SHORT, LONG, most, File, Fit, none, more, bytes, words, written}
use Rattle.sheets.specs.Matches.{missing, too_many, Declares}
use Rattle.sheets.specs.Checks.{Makes, Checks}
use Rattle.sheets.specs.Checks as checks
use Rattle.sheets.specs.Places.{number_at}
use Rattle.sheets.proofs.Filled.{fills_filled}

-- numbers lent: room for seven rows
abbrev lent : ℕ
lent = 50

abbrev checked : ℕ → ℕ → ℕ → ℕ → ℕ → Checked
checked number start end count tests = record { number = number; start = start; end = end; count = count; tests = tests }

abbrev Refused : List ℕ → ℕ → ℕ → ℕ → Type 0
Refused b number start end = Checks true b lent (checked number start end 0 0) (replicate lent 0)

-- the row of a tree without declarations
abbrev alone : Row
alone = record { kind = 43; start = 0; end = 0; children = 0; value = 0; detail = 0; size = 1 }

alone_made : Makes true [] (alone ∷ [])
unfolding lexer values reader answer
alone_made = record { fine = refl; read = answer_means (source []) true true 0 50 refl }

abbrev nothing_of : List Row → List ℕ → File
nothing_of rs ids = record { source = []; rows = rs; indexes = ids }

none_declared : Declares (alone ∷ []) []
none_declared = record { below = []; top = alone; children = []; last = refl; kind = refl; trees = Trees.none; count = refl; named = refl }

-- T1: the empty file
pub empty_file : Refused [] 17 0 0
unfolding number_at
empty_file = checks.none (λ f x. let e = (fills_filled [] f x).0 in absurd (omega (arith, e)))

fit : (w a b c : ℕ) → a < most w → b < most w → c < most w → Fit w (a ∷ b ∷ c ∷ [])
fit w a b c x y z = more x (more y (more z none))

alone_fits : Fit LONG (flat (alone ∷ []))
alone_fits = let k : 0 < most LONG = omega arith in let o : 1 < most LONG = omega arith in let h : 43 < most LONG = omega arith in more h (more k (more k (more k (more k (more k (more o none))))))

-- T1: three counts of 0, the row of kind 43 is missing
pub no_rows : Refused (replicate 12 0) 18 0 1
unfolding bytes words written
no_rows = checks.row (record { sections = refl; counts = fit SHORT 0 0 0 (omega arith) (omega arith) (omega arith); rows = none; indexes = none }) alone_made (omega arith) missing

-- T4: an index too many
pub index_too_many : Refused (written (nothing_of (alone ∷ []) (0 ∷ []))) 19 0 1
index_too_many = checks.index (record { sections = refl; counts = fit SHORT 0 1 1 (omega arith) (omega arith) (omega arith); rows = alone_fits; indexes = more (let k : 0 < most SHORT = omega arith in k) none }) alone_made (omega arith) none_declared too_many

-- the file of the empty source
pub smallest : (t : List ℕ) × Checks true (written (nothing_of (alone ∷ []) [])) lent (checked 0 0 68 1 0) t
unfolding bytes words written
smallest = (_, checks.accepts (record { sections = refl; counts = fit SHORT 0 1 0 (omega arith) (omega arith) (omega arith); rows = alone_fits; indexes = none }) alone_made (omega arith) none_declared)

-- T2: the source's own refusal, placed in the source, before 18
pub source_first : Refused (written (record { source = text "const"; rows = []; indexes = [] })) 11 5 5
unfolding lexer values reader outcome
source_first = checks.refuses (record { sections = refl; counts = fit SHORT 5 0 0 (omega arith) (omega arith) (omega arith); rows = none; indexes = none }) (outcome_means (text "const") 49 50 true true refl) (λ e. omega (arith, e))

-- C-22, V2: the file of `test t{}`, whose third row is a test
abbrev plain : ℕ → ℕ → ℕ → ℕ → ℕ → Row
plain kind start end children size = record { kind = kind; start = start; end = end; children = children; value = 0; detail = 0; size = size }

abbrev name : Row
name = plain 1 5 6 0 1

abbrev block : Row
block = plain 35 6 8 0 1

abbrev test : Row
test = plain 42 0 8 2 3

abbrev tree : Row
tree = plain 43 0 8 1 4

test_made : Makes true (text "test t{}") (name ∷ block ∷ test ∷ tree ∷ [])
unfolding lexer values reader answer
test_made = record { fine = refl; read = answer_means (source (text "test t{}")) true true 8 200 refl }

test_declared : Declares (name ∷ block ∷ test ∷ tree ∷ []) (2 ∷ [])
test_declared = record {
  below = name ∷ block ∷ test ∷ [];
  top = tree;
  children = test ∷ [];
  last = refl;
  kind = refl;
  trees = Trees.more test Trees.none (Trees.more block (Trees.more name Trees.none Trees.none refl refl refl refl) Trees.none refl refl refl refl) refl refl refl refl;
  count = refl;
  named = refl;
}

abbrev small : List ℕ → Bool
small [] = true
small (n ∷ ns) = ltb n 256 && small ns

small_fit : (ns : List ℕ) → T (small ns) → Fit LONG ns
small_fit [] h = none
small_fit (n ∷ ns) h = let k = ltb→lt n 256 (and_l (ltb n 256) (small ns) h) in more {n = n} (omega (arith, k)) (small_fit ns (and_r (ltb n 256) (small ns) h))

pub one_test : (t : List ℕ) × Checks true (written (record { source = text "test t{}"; rows = name ∷ block ∷ test ∷ tree ∷ []; indexes = 2 ∷ [] })) lent (checked 0 0 248 4 1) t
unfolding text bytes words written
one_test = (_, checks.accepts (record { sections = refl; counts = fit SHORT 8 4 1 (omega arith) (omega arith) (omega arith); rows = small_fit (flat (name ∷ block ∷ test ∷ tree ∷ [])) tt; indexes = more (let k : 2 < most SHORT = omega arith in k) none }) test_made (omega arith) test_declared)
