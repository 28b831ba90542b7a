-- Document 01's worked pairs 1 to 12, three of them as document 02 changes them, and texts that tell the grammar from others, as tables: entry, source, answer, rows.
use Rattle.std.specs.Prelude.{List, [], ◌∷◌, ◌++◌, Bool, true, false, ℕ, ◌+◌, ◌-◌, ◌*◌, length, replicate}
use Prim.Native.String.{String}
use Rattle.chars.specs.Texts.{bytes}
use Rattle.chars.specs.declared.Answer.{Answer}
use Rattle.rows.specs.Rows.{width}
use Rattle.grammar.specs.Rows.{Row, flat}
use Rattle.answers.specs.Entries.{Permitted}

-- Whether `test` is a declaration, which entry, a source, how many numbers are lent; the answer, and the rows written.
pub record Case : Type 0 where
  pub tests : Bool
  pub tree : Bool
  pub source : List ℕ
  pub size : ℕ
  pub answer : Answer
  pub rows : List Row

abbrev pub row : ℕ → ℕ → ℕ → ℕ → ℕ → ℕ → ℕ → Row
row k a e c v d z = record { kind = k; start = a; end = e; children = c; value = v; detail = d; size = z }

abbrev pub case : Bool → Bool → List ℕ → ℕ → ℕ → ℕ → ℕ → ℕ → List Row → Case
case tests tree s size n a e count rs = record { tests = tests; tree = tree; source = s; size = size; answer = record { number = n; start = a; end = e; count = count }; rows = rs }

-- Room for as many rows as stand there and 8 more, and 5 numbers that are no row.
abbrev pub lent : List Row → ℕ
lent rs = width * (length rs + 8) + 5

-- "0: accepted: 0, length"; another number, with no rows.
abbrev pub has : Bool → List ℕ → List Row → Case
has tree s rs = case false tree s (lent rs) 0 0 (length s) (length rs) rs

abbrev pub tree_has : String → List Row → Case
tree_has t rs = has true (bytes t) rs

abbrev pub expr_has : String → List Row → Case
expr_has t rs = has false (bytes t) rs

abbrev pub tree_fails : String → ℕ → ℕ → ℕ → Case
tree_fails t n a e = case false true (bytes t) (lent []) n a e 0 []

abbrev pub expr_fails : String → ℕ → ℕ → ℕ → Case
expr_fails t n a e = case false false (bytes t) (lent []) n a e 0 []

-- A tree by the old grammar, as the source of a file of C-21 is read (C-22).
abbrev pub old_has : String → List Row → Case
old_has t rs = case true true (bytes t) (lent rs) 0 0 (length (bytes t)) (length rs) rs

abbrev pub old_fails : String → ℕ → ℕ → ℕ → Case
old_fails t n a e = case true true (bytes t) (lent []) n a e 0 []

-- The rows first and zeros behind.
abbrev pub table : ℕ → List Row → List ℕ
table size rs = flat rs ++ replicate (size - width * length rs) 0

-- Each case has its answer and its table.
abbrev pub Each : List Case → Type 0
Each [] = Unit {0}
Each (c ∷ cs) = Permitted c.tests c.tree c.source c.size c.answer (table c.size c.rows) × Each cs

-- "The first twelve are proved as one table under one statement."
unfoldable pub worked : List Case
unfolding bytes
worked =
    -- 1
    tree_has "" (row 43 0 0 0 0 0 1 ∷ []) ∷
    -- 2
    expr_has "AS4294967295" (row 13 0 12 0 4294967295 0 1 ∷ []) ∷
    -- 3
    expr_fails "AS4294967296" 7 0 12 ∷
    -- 4, by C-12: "now accepted"
    expr_has "18446744073709551615u64" (row 10 0 23 0 18446744073709551615 8 1 ∷ []) ∷
    -- 5, by C-12: "refused"
    expr_fails "300u8" 7 0 5 ∷
    -- 6
    expr_fails "1.2.3." 7 0 6 ∷
    -- 7
    expr_has "::1" (row 15 0 3 0 0 1 1 ∷ []) ∷
    -- 8, by C-16: "one row of kind 15"
    expr_has "::ffff:1.2.3.4" (row 15 0 14 0 0 281470698652420 1 ∷ []) ∷
    -- 9
    expr_fails "\"a\"" 4 0 1 ∷
    expr_has "\"a\" " (row 16 0 3 0 0 0 1 ∷ []) ∷
    -- 10
    expr_has "1+2*3" (row 10 0 1 0 1 0 1 ∷ row 10 2 3 0 2 0 1 ∷ row 10 4 5 0 3 0 1 ∷ row 20 2 5 2 0 11 3 ∷ row 20 0 5 2 0 9 5 ∷ []) ∷
    -- 11
    expr_fails "a==b==c" 6 4 6 ∷
    -- 12
    expr_fails "if x {y: 1} {}" 6 7 8 ∷
    []

-- The rest of the worked pairs; the three slips; texts that have no reading; the limits; which refusal comes first.
unfoldable pub cases : List Case
unfolding bytes
cases =
    -- 13: room for 2 rows
    case false false (bytes "1+2") 14 10 0 0 3 [] ∷
    -- 14: 33 of `(`
    expr_fails "(((((((((((((((((((((((((((((((((" 9 32 33 ∷
    -- the row printer's source
    tree_has "const A: u8 = 1;" (row 1 6 7 0 0 0 1 ∷ row 1 9 11 0 0 0 1 ∷ row 2 9 11 1 0 0 2 ∷ row 6 9 11 1 0 0 3 ∷ row 10 14 15 0 1 0 1 ∷ row 40 0 16 3 0 0 6 ∷ row 43 0 16 1 0 0 7 ∷ []) ∷
    -- "Parentheses round an expr give no row and widen no span: `-(a)` spans 0 to 3"
    expr_has "-(a)" (row 1 2 3 0 0 0 1 ∷ row 2 2 3 1 0 0 2 ∷ row 22 0 3 1 0 0 3 ∷ []) ∷
    -- the slips: numbers before addresses
    expr_has "1.2.3.4" (row 14 0 7 0 16909060 0 1 ∷ []) ∷
    -- the ban on records in call arguments
    expr_has "if f(x {y: 1}) {}"
    (row 1 3 4 0 0 0 1 ∷ row 2 3 4 1 0 0 2 ∷ row 1 5 6 0 0 0 1 ∷ row 2 5 6 1 0 0 2 ∷ row 1 8 9 0 0 0 1 ∷ row 10 11 12 0 1 0 1 ∷
    row 37 8 12 2 0 0 3 ∷ row 36 5 13 2 1 0 6 ∷ row 23 3 14 2 0 0 9 ∷ row 35 15 17 0 0 0 1 ∷ row 28 0 17 2 0 0 11 ∷ []) ∷
    -- `{if a {} -b}` as a subtraction
    expr_has "{if a {} -b}"
    (row 1 4 5 0 0 0 1 ∷ row 2 4 5 1 0 0 2 ∷ row 35 6 8 0 0 0 1 ∷ row 28 1 8 2 0 0 4 ∷ row 1 10 11 0 0 0 1 ∷ row 2 10 11 1 0 0 2 ∷
    row 22 9 11 1 0 0 3 ∷ row 35 0 12 2 1 0 8 ∷ []) ∷
    -- every form of an arm, and of what stands in a function
    expr_has "match a {b(c,)if d{e:1}=>(1),_=>{}g=>{}}"
    (row 1 6 7 0 0 0 1 ∷ row 2 6 7 1 0 0 2 ∷ row 1 9 10 0 0 0 1 ∷ row 1 11 12 0 0 0 1 ∷ row 34 9 14 2 1 0 3 ∷ row 1 17 18 0 0 0 1 ∷
    row 2 17 18 1 0 0 2 ∷ row 1 19 20 0 0 0 1 ∷ row 10 21 22 0 1 0 1 ∷ row 37 19 22 2 0 0 3 ∷ row 36 17 23 2 1 0 6 ∷
    row 10 26 27 0 1 0 1 ∷ row 32 9 27 3 1 0 11 ∷ row 33 29 30 0 0 0 1 ∷ row 35 32 34 0 0 0 1 ∷ row 32 29 34 2 0 0 3 ∷
    row 1 34 35 0 0 0 1 ∷ row 34 34 35 1 0 0 2 ∷ row 35 37 39 0 0 0 1 ∷ row 32 34 39 2 0 0 4 ∷ row 31 0 40 4 0 0 21 ∷ []) ∷
    tree_has "import a.{b.c,d}; fn f(a: u8?, b: m[x, {y: !}],) -> () { let z: u8 = (a) ; a.b.c += return_ ; if a {} else if b {}; {x: 1}.y(2)? }"
    (row 1 7 8 0 0 0 1 ∷ row 1 10 11 0 0 0 1 ∷ row 1 12 13 0 0 0 1 ∷ row 44 10 13 2 0 0 3 ∷ row 1 14 15 0 0 0 1 ∷ row 44 14 15 1 0 0 2 ∷
    row 44 7 16 3 0 0 7 ∷ row 39 7 16 1 0 0 8 ∷ row 1 21 22 0 0 0 1 ∷ row 1 23 24 0 0 0 1 ∷ row 1 26 28 0 0 0 1 ∷ row 2 26 28 1 0 0 2 ∷
    row 6 26 28 1 0 0 3 ∷ row 5 26 29 1 0 0 4 ∷ row 8 23 29 2 0 0 6 ∷ row 1 31 32 0 0 0 1 ∷ row 1 34 35 0 0 0 1 ∷ row 2 34 35 1 0 0 2 ∷
    row 1 36 37 0 0 0 1 ∷ row 2 36 37 1 0 0 2 ∷ row 6 36 37 1 0 0 3 ∷ row 1 40 41 0 0 0 1 ∷ row 3 43 44 0 0 0 1 ∷ row 8 40 44 2 0 0 3 ∷
    row 7 39 45 1 0 0 4 ∷ row 6 34 46 3 1 0 10 ∷ row 8 31 46 2 0 0 12 ∷ row 4 52 54 0 0 0 1 ∷ row 1 61 62 0 0 0 1 ∷ row 1 64 66 0 0 0 1 ∷
    row 2 64 66 1 0 0 2 ∷ row 6 64 66 1 0 0 3 ∷ row 1 70 71 0 0 0 1 ∷ row 2 70 71 1 0 0 2 ∷ row 38 57 74 3 1 0 7 ∷
    row 1 75 76 0 0 0 1 ∷ row 1 77 78 0 0 0 1 ∷ row 1 79 80 0 0 0 1 ∷ row 2 75 80 3 0 0 4 ∷ row 1 84 91 0 0 0 1 ∷ row 2 84 91 1 0 0 2 ∷
    row 26 75 91 2 0 1 7 ∷ row 1 97 98 0 0 0 1 ∷ row 2 97 98 1 0 0 2 ∷ row 35 99 101 0 0 0 1 ∷ row 1 110 111 0 0 0 1 ∷
    row 2 110 111 1 0 0 2 ∷ row 35 112 114 0 0 0 1 ∷ row 28 107 114 2 0 0 4 ∷ row 28 94 114 3 0 0 8 ∷ row 1 117 118 0 0 0 1 ∷
    row 10 120 121 0 1 0 1 ∷ row 37 117 121 2 0 0 3 ∷ row 36 116 122 1 0 0 4 ∷ row 1 123 124 0 0 0 1 ∷ row 24 116 124 2 0 0 6 ∷
    row 10 125 126 0 2 0 1 ∷ row 23 116 127 2 0 0 8 ∷ row 25 116 128 1 0 0 9 ∷ row 35 55 130 4 1 0 32 ∷ row 41 18 130 5 1 0 53 ∷
    row 43 0 130 2 0 0 62 ∷ []) ∷
    -- `test` is a declaration in the old grammar, and none in the new
    old_has "test a {}" (row 1 5 6 0 0 0 1 ∷ row 35 7 9 0 0 0 1 ∷ row 42 0 9 2 0 0 3 ∷ row 43 0 9 1 0 0 4 ∷ []) ∷
    tree_fails "test a {}" 6 0 4 ∷
    -- no reading: an if that goes on, a bare group, a return form as an operand, no item after a period
    expr_fails "{if a {} +b}" 6 9 10 ∷
    tree_fails "import {a};" 6 7 8 ∷
    tree_fails "import a.{};" 6 10 11 ∷
    tree_fails "import a.{b,};" 6 12 13 ∷
    tree_fails "import a.{b}.c;" 6 12 13 ∷
    expr_fails "x = return 1" 6 4 10 ∷
    expr_fails "!return" 6 1 7 ∷
    expr_fails "return+1" 6 6 7 ∷
    expr_fails "a.{}" 6 2 3 ∷
    expr_fails "a=b=c" 6 3 4 ∷
    expr_fails "()" 6 1 2 ∷
    expr_fails "{;}" 6 1 2 ∷
    expr_fails "{ {} {} }" 6 5 6 ∷
    expr_fails "if {x:1} {}" 6 5 6 ∷
    expr_fails "match a {_()=>1}" 6 10 11 ∷
    expr_fails "match a {b => if c {} d => 1}" 6 22 23 ∷
    tree_fails "fn f() {a: 1}" 6 9 10 ∷
    tree_fails "record a {}" 6 0 6 ∷
    expr_fails "a b" 6 2 3 ∷
    -- a left side that is no path
    expr_fails "1=2" 8 0 1 ∷
    expr_fails "f(x)+=1+" 8 0 4 ∷
    expr_fails "(a+b)=c" 8 1 4 ∷
    expr_fails "if a {}=1" 8 0 7 ∷
    expr_fails "{if a {}=1}" 6 8 9 ∷
    -- the source ends too early
    expr_fails "" 11 0 0 ∷
    expr_fails "1+" 11 2 2 ∷
    expr_fails "if return {}" 11 12 12 ∷
    -- limits: 33 prefixes in a row, 33 heads, 33 `else if`
    expr_fails "----------------!!!!!!!!!!!!!!!!!a" 9 32 33 ∷
    expr_fails "return return return return return return return return return return return return return return return return return return return return return return return return return return return return return return return return return " 9 224 230 ∷
    expr_fails "if if if if if if if if if if if if if if if if if if if if if if if if if if if if if if if if if " 9 96 98 ∷
    expr_fails "if a{}else if a{}else if a{}else if a{}else if a{}else if a{}else if a{}else if a{}else if a{}else if a{}else if a{}else if a{}else if a{}else if a{}else if a{}else if a{}else if a{}else if a{}else if a{}else if a{}else if a{}else if a{}else if a{}else if a{}else if a{}else if a{}else if a{}else if a{}else if a{}else if a{}else if a{}else if a{}else if a{}else if a{}" 9 363 365 ∷
    -- at one token 4 or 5, then 6 or 8, then 9, then 7; 3 before all
    tree_fails "#!" 3 0 2 ∷
    expr_fails "a $" 4 2 3 ∷
    -- C-11: strings with expressions inside
    expr_has "f\"peer {x} down\"" (row 47 2 7 0 5 0 1 ∷ row 1 8 9 0 0 0 1 ∷ row 2 8 9 1 0 0 2 ∷ row 47 10 15 0 5 0 1 ∷ row 46 0 15 3 0 0 5 ∷ []) ∷
    expr_has "f\"\"" (row 46 0 2 0 0 0 1 ∷ []) ∷
    expr_has "f\"}}}\"" (row 47 2 5 0 2 0 1 ∷ row 46 0 5 1 0 0 2 ∷ []) ∷
    expr_has "f\"\\u{7b}\\u{7b}\"" (row 47 2 14 0 1 0 1 ∷ row 46 0 14 1 0 0 2 ∷ []) ∷
    expr_has "{f\"a\"}" (row 47 3 4 0 1 0 1 ∷ row 46 1 4 1 0 0 2 ∷ row 35 0 6 1 1 0 3 ∷ []) ∷
    expr_has "f\"{f\"{a}\"}\" + b" (row 1 6 7 0 0 0 1 ∷ row 2 6 7 1 0 0 2 ∷ row 46 3 8 1 0 0 3 ∷ row 46 0 10 1 0 0 4 ∷ row 1 14 15 0 0 0 1 ∷ row 2 14 15 1 0 0 2 ∷ row 20 0 15 2 0 9 7 ∷ []) ∷
    expr_has "if f\"{x {y:1}}\" {}" (row 1 6 7 0 0 0 1 ∷ row 2 6 7 1 0 0 2 ∷ row 1 9 10 0 0 0 1 ∷ row 10 11 12 0 1 0 1 ∷ row 37 9 12 2 0 0 3 ∷ row 36 6 13 2 1 0 6 ∷ row 46 3 14 1 0 0 7 ∷ row 35 16 18 0 0 0 1 ∷ row 28 0 18 2 0 0 9 ∷ []) ∷
    expr_fails "f\"{}\"" 6 3 4 ∷
    expr_fails "f\"{a b}\"" 6 5 6 ∷
    expr_fails "f\"a" 11 3 3 ∷
    expr_fails "f\"{" 11 3 3 ∷
    expr_fails "f\"\\u\" $" 11 7 7 ∷
    expr_fails "f\"a\\q{x}\"" 7 2 5 ∷
    expr_fails "a f\"x\"" 6 2 4 ∷
    expr_fails "f\"{f\"{f\"{f\"{f\"{f\"{f\"{f\"{f\"{f\"{f\"{f\"{f\"{f\"{f\"{f\"{f\"{f\"{f\"{f\"{f\"{f\"{f\"{f\"{f\"{f\"{f\"{f\"{f\"{f\"{f\"{f\"{f\"{a" 9 98 99 ∷
    expr_fails ") \"x" 6 0 1 ∷
    expr_fails "99999999999999999999 $" 7 0 20 ∷
    expr_fails "a 99999999999999999999" 6 2 22 ∷
    expr_fails "1=$" 8 0 1 ∷
    []
