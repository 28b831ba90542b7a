-- Sources that tell C-23 from other readings of its words: what is dropped, with which refusal, and the text that is left.
use Rattle.std.specs.Prelude.{List, [], ◌∷◌, Bool, false, ℕ}
use Prim.Native.String.{String}
use Rattle.chars.specs.Texts.{bytes}
use Rattle.salvage.specs.Salvage.{Range, Salvage}

pub record Case : Type 0 where
  pub tests : Bool
  pub source : String
  pub ranges : List Range
  pub text : String

-- from, to, and the refusal's number and place
abbrev pub gone : ℕ → ℕ → ℕ → ℕ → ℕ → Range
gone a e n b c = record { start = a; end = e; refusal = record { number = n; start = b; end = c } }

-- by the grammar that has no `test`
abbrev pub leaves : String → List Range → String → Case
leaves s rs t = record { tests = false; source = s; ranges = rs; text = t }

abbrev pub Each : List Case → Type 0
Each [] = Unit {0}
Each (c ∷ cs) = Salvage c.tests (bytes c.source) 0 c.ranges (bytes c.text) × Each cs

unfoldable pub cases : List Case
cases =
    -- nothing is refused: nothing is dropped
    leaves "fn f() {}" [] "fn f() {}" ∷
    -- the next line may begin at the refused token itself
    leaves "fn f() {\nfn g() {}" (gone 0 9 6 9 11 ∷ []) "         fn g() {}" ∷
    -- "of the refused token where none has begun", right behind a whole declaration too
    leaves "fn f() {} + 1\nfn g() {}" (gone 10 14 6 10 11 ∷ []) "fn f() {}     fn g() {}" ∷
    -- 11's place is the end, so that no line follows
    leaves "fn f() {}\nfn g() {" (gone 10 18 11 18 18 ∷ []) "fn f() {}\n        " ∷
    -- 8's place begins at the left side: a line inside it will do
    leaves "const A: b = {\nimport a;\n} = 1;\nfn f() {}" (gone 0 15 8 13 26 ∷ gone 25 32 6 25 26 ∷ []) "               import a;\n       fn f() {}" ∷
    -- lines are bytes: one in the body of a broken function counts, and one behind an open quote
    leaves "fn f() { )\nimport a;\n}" (gone 0 11 6 9 10 ∷ gone 21 22 6 21 22 ∷ []) "           import a;\n " ∷
    leaves "const A: s = \"\nfn f() {}" (gone 0 15 4 13 14 ∷ []) "               fn f() {}" ∷
    -- an f-string without end takes the text behind it in, and its `{` begins a hole
    leaves "const A: s = f\"\nfn f() {}" (gone 0 25 6 24 25 ∷ []) "                         " ∷
    -- "the whole word", at the end too; not behind a blank, nor behind byte 13 alone
    leaves "x\nfnx\nfn1\nfn_\n fn\r\nimport" (gone 0 19 6 0 1 ∷ gone 19 25 11 25 25 ∷ []) "                         " ∷
    leaves "x\rfn f() {}" (gone 0 11 6 0 1 ∷ []) "           " ∷
    -- two ranges may touch
    leaves "fn fn\nfn fn\nfn f(){}" (gone 0 6 6 3 5 ∷ gone 6 12 6 9 11 ∷ []) "            fn f(){}" ∷
    -- C-22: `test` is refused, and is no word of the five
    leaves "test t {}\nfn f() {}" (gone 0 10 6 0 4 ∷ []) "          fn f() {}" ∷
    -- 7 and 4
    leaves "const A: u8 = 256u8;\nfilter f() {}" (gone 0 21 7 14 19 ∷ []) "                     filter f() {}" ∷
    leaves "$\nfiltermap f() {}" (gone 0 2 4 0 1 ∷ []) "  filtermap f() {}" ∷
    -- comments between are kept, those in a range go with it
    leaves "// a\nx // b\n// c\nfn f() {} // d" (gone 5 17 6 5 6 ∷ []) "// a\n            fn f() {} // d" ∷
    -- no declaration is kept
    leaves "x" (gone 0 1 6 0 1 ∷ []) " " ∷
    leaves "" [] "" ∷
    []
