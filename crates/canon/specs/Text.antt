-- The print of a tree: its tokens, then blanks.
use Rattle.std.specs.Prelude.{List, [], ◌∷◌, ◌++◌, Bool, true, false, cond, ℕ, eqb}
use Rattle.tokens.specs.Words.{Entry, two_signs, one_signs, keywords}
use Rattle.grammar.specs.Words.{open_paren, close_paren, open_brace, close_brace, semicolon}
use Rattle.grammar.specs.Grammar.{one_of}
use Rattle.grammar.specs.Rows.{Row}
use Rattle.canon.specs.Trees.{Label, Forest, none, tree, copied, tree_of}
use Rattle.canon.specs.Layout.{Place, whole, needs, Slot, Layout, layout}

-- A token of the print: a sign or a keyword, by its word; a name, a literal or an f-string, by its text.
pub data Bit : Type 0 where
  sign : ℕ → Bit
  copy : List ℕ → Bit

abbrev pub signs : List ℕ → List Bit
signs [] = []
signs (c ∷ w) = sign c ∷ signs w

abbrev pub paired : Bool → List Bit → List Bit
paired true xs = sign open_paren ∷ (xs ++ (sign close_paren ∷ []))
paired false xs = xs

abbrev pub inner : Bool → Place → Place
inner true c = whole
inner false c = c

abbrev pub place_of : List Slot → Place
place_of [] = whole
place_of (x ∷ xs) = x.place

abbrev pub words_of : List Slot → List ℕ
words_of [] = []
words_of (x ∷ xs) = x.words

abbrev pub later : List Slot → List Slot
later [] = []
later (x ∷ xs) = xs

-- the trees in their slots, and the words behind the last
unfoldable pub fill : List Slot → List ℕ → Forest → List Bit
fill xs last none = signs last
fill xs last (tree a kids ts) =
    let c = place_of xs in
    let b = needs c a kids in
    let y = layout (inner b c) a kids in
    let own = fill y.slots y.last kids in
    signs (words_of xs) ++ (paired b (cond (one_of a.kind copied) (copy a.text ∷ []) own) ++ fill (later xs) last ts)

abbrev pub tokens : Forest → List Bit
tokens t = fill [] [] t

-- the text of a sign or keyword
abbrev pub spelled : List Entry → ℕ → List ℕ
spelled [] c = []
spelled (x ∷ xs) c = let t = spelled xs c in cond (eqb c x.word) x.text t

abbrev pub spelling : Bit → List ℕ
spelling (sign c) = spelled (two_signs ++ (one_signs ++ keywords)) c
spelling (copy t) = t

-- "a newline alone after `;`, `{` and `}`"
abbrev pub ends_line : Bit → Bool
ends_line (sign c) = one_of c (semicolon ∷ open_brace ∷ close_brace ∷ [])
ends_line (copy t) = false

-- "one space between tokens, but a newline alone after `;`, `{` and `}`"
abbrev pub blank_between : Bool → List Bit → List ℕ
blank_between true xs = 10 ∷ []
blank_between false [] = []
blank_between false (x ∷ xs) = 32 ∷ []

unfoldable pub spaced : List Bit → List ℕ
spaced [] = []
spaced (x ∷ xs) = spelling x ++ (blank_between (ends_line x) xs ++ spaced xs)

-- the print of the rows of a source
unfoldable pub printed : List ℕ → List Row → List ℕ
printed s rs = spaced (tokens (tree_of s rs))
