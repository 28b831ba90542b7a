-- The words: which sign, which keyword, which kind of literal a token is. A word is a number, and has one code of document 01.
use Rattle.std.specs.Prelude.{cond, ℕ, List, [], ◌∷◌, ◌++◌, eqb, ltb}
use Prim.Native.String.{String}
use Rattle.chars.specs.Texts.{bytes, same}

-- a text and the word that it is
pub record Entry : Type 0 where
  pub text : List ℕ
  pub word : ℕ

infix 20 ◌is◌
abbrev pub ◌is◌ : String → ℕ → Entry
t is w = record { text = bytes t; word = w }

-- "Two signs: `== => != <= >= && || -> += -= *= /= %=`"
unfoldable pub two_signs : List Entry
unfolding bytes
two_signs =
    ("==" is 20) ∷ ("=>" is 21) ∷ ("!=" is 22) ∷ ("<=" is 23) ∷ (">=" is 24) ∷ ("&&" is 25) ∷ ("||" is 26) ∷ ("->" is 27) ∷
    ("+=" is 28) ∷ ("-=" is 29) ∷ ("*=" is 30) ∷ ("/=" is 31) ∷ ("%=" is 32) ∷ []

-- "One sign: `{ } ( ) [ ] : ; , . = ? ! - + * / % < >`"
unfoldable pub one_signs : List Entry
unfolding bytes
one_signs =
    ("{" is 40) ∷ ("}" is 41) ∷ ("(" is 42) ∷ (")" is 43) ∷ ("[" is 44) ∷ ("]" is 45) ∷ (":" is 46) ∷ (";" is 47) ∷ ("," is 48) ∷ ("." is 49) ∷
    ("=" is 50) ∷ ("?" is 51) ∷ ("!" is 52) ∷ ("-" is 53) ∷ ("+" is 54) ∷ ("*" is 55) ∷ ("/" is 56) ∷ ("%" is 57) ∷ ("<" is 58) ∷ (">" is 59) ∷ []

-- a line of the manual's page: how many letters, and the words that have so many
pub record Line : Type 0 where
  pub letters : ℕ
  pub words : List Entry

abbrev pub line : ℕ → List Entry → Line
line n ws = record { letters = n; words = ws }

-- "keywords are the 22 in `keyword_or_ident`", whose order gives the numbers: the page has them by length, and each length's by the alphabet
unfoldable pub page : List Line
unfolding bytes
page =
    line 2 (("fn" is 68) ∷ ("if" is 69) ∷ ("in" is 71) ∷ []) ∷
    line 3 (("dep" is 62) ∷ ("for" is 67) ∷ ("let" is 72) ∷ ("pkg" is 74) ∷ ("std" is 78) ∷ []) ∷
    line 4 (("else" is 63) ∷ ("enum" is 64) ∷ ("test" is 80) ∷ []) ∷
    line 5 (("const" is 61) ∷ ("match" is 73) ∷ ("super" is 79) ∷ ("while" is 81) ∷ []) ∷
    line 6 (("accept" is 60) ∷ ("filter" is 65) ∷ ("import" is 70) ∷ ("record" is 75) ∷ ("reject" is 76) ∷ ("return" is 77) ∷ []) ∷
    line 9 (("filtermap" is 66) ∷ []) ∷ []

-- all words of a page
unfoldable pub words_of : List Line → List Entry
words_of [] = []
words_of (l ∷ ls) = l.words ++ words_of ls

-- "`true` or `false`", and beside them the keywords: the words of the page
unfoldable pub keywords : List Entry
unfolding bytes page words_of
keywords = ("true" is 12) ∷ ("false" is 12) ∷ words_of page

-- the word that a text is in a table, or else another
unfoldable pub word_in : List Entry → List ℕ → ℕ → ℕ
word_in [] t d = d
word_in (x ∷ xs) t d = cond (same t x.text) x.word (word_in xs t d)

unfoldable pub two_sign : ℕ → ℕ → ℕ
two_sign a b = word_in two_signs (a ∷ b ∷ []) 0

unfoldable pub one_sign : ℕ → ℕ
one_sign b = word_in one_signs (b ∷ []) 0

-- a keyword, `true` or `false`, `_`, or another name
unfoldable pub name_word : List ℕ → ℕ
unfolding bytes
name_word t = cond (same t (bytes "_")) 14 (word_in keywords t 13)

-- a keyword is a word of the page; another text is a name
unfoldable pub keyword_of : List ℕ → ℕ
keyword_of t = word_in (words_of page) t 13

-- the words that a page has under a length
unfoldable pub under : ℕ → List Line → List Entry
under n [] = []
under n (l ∷ ls) = cond (eqb n l.letters) l.words [] ++ under n ls

-- the same choice among the words of one length
unfoldable pub keyword_under : ℕ → List ℕ → ℕ
keyword_under n t = word_in (under n page) t 13

-- "its number is the token's code": 3 two signs, 4 one sign, 11 a keyword, 13 a name; a literal's word is its code
unfoldable pub code_of : ℕ → ℕ
code_of w = cond (ltb w 20) (cond (eqb w 14) 13 w) (cond (ltb w 40) 3 (cond (ltb w 60) 4 11))
