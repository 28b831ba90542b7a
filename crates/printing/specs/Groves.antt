-- Trees that keep the tokens of what is copied: the tree that a reading leaves, and a tree's tokens at a place.
use Rattle.std.specs.Prelude.{List, [], ◌∷◌, ◌++◌, Bool, true, false, cond, ℕ, zero, suc, ◌+◌, T, eqb}
use Rattle.std.proofs.Math.Seq.{slice}
use Rattle.rows.specs.Kinds as kinds
use Rattle.grammar.specs.Words.{open_paren, close_paren}
use Rattle.grammar.specs.Grammar.{Token, Parts, end, leaf, node, mark, one_of}
use Rattle.grammar.specs.Table.{rest_kinds, literal_row}
use Rattle.grammar.specs.Rows.{detail_for, is_text}
use Rattle.canon.specs.Trees.{Label, Forest, none, tree, copied}
use Rattle.canon.specs.Layout.{Place, needs, empty, Slot, layout}
use Rattle.canon.specs.Text.{Bit, copy, signs, inner, place_of, words_of, later}
use Rattle.printing.specs.Pairs.{Choice, no_choice, choice, number, under, after, expr_at, within, served, in_pairs}

-- A row of a tree; the tokens of one that is copied.
pub record Head : Type 0 where
  pub kind : ℕ
  pub value : ℕ
  pub detail : ℕ
  pub tokens : List Token

pub data Grove : Type 0 where
  nil : Grove
  top : Head → Grove → Grove → Grove

abbrev pub beside : Grove → Grove → Grove
beside nil g = g
beside (top h k t) g = top h k (beside t g)

-- What a phrase has so far: its trees, the first word of its own, what it begins with, its part, all its tokens.
pub data Lead : Type 0 where
  nobody row : Lead
  word : Token → Lead

pub record State : Type 0 where
  pub kids : Grove
  pub sign : List ℕ
  pub lead : Lead
  pub part : ℕ
  pub read : List Token

abbrev pub fresh : State
fresh = record { kids = nil; sign = []; lead = nobody; part = 0; read = [] }

abbrev pub signed : List ℕ → ℕ → List ℕ
signed [] c = c ∷ []
signed (w ∷ ws) c = w ∷ ws

abbrev pub sign_in : List ℕ → ℕ
sign_in [] = 0
sign_in (w ∷ ws) = w

abbrev pub led : Lead → Lead → Lead
led nobody x = x
led row x = row
led (word y) x = word y

abbrev pub lead_of : Grove → Lead
lead_of nil = nobody
lead_of (top h k t) = row

abbrev pub with_word : Token → State → State
with_word x a = record { kids = a.kids; sign = signed a.sign x.word; lead = led a.lead (word x); part = a.part; read = a.read ++ (x ∷ []) }

abbrev pub text_head : Token → Head
text_head x = record { kind = kinds.TEXT; value = x.value; detail = 0; tokens = x ∷ [] }

abbrev pub with_text : Token → State → State
with_text x a = record { kids = beside a.kids (top (text_head x) nil nil); sign = a.sign; lead = led a.lead row; part = a.part; read = a.read ++ (x ∷ []) }

abbrev pub add : Token → State → State
add x a = cond (is_text x) (cond (eqb x.value 0) (with_word x a) (with_text x a)) (with_word x a)

abbrev pub first_head : Grove → Head
first_head nil = record { kind = kinds.NONE; value = 0; detail = 0; tokens = [] }
first_head (top h k t) = h

-- the numbers of a literal's row
abbrev pub literal_head : Lead → Grove → Head
literal_head nobody g = first_head nil
literal_head row g = first_head g
literal_head (word x) g = record { kind = x.kind; value = x.value; detail = x.detail; tokens = [] }

abbrev pub keep : Head → List Token → Head
keep h ts = record { kind = h.kind; value = h.value; detail = h.detail; tokens = cond (one_of h.kind copied) ts [] }

abbrev pub head_for : ℕ → State → Head
head_for k a = keep (cond (eqb k literal_row) (literal_head a.lead a.kids) (record { kind = k; value = a.part; detail = detail_for k (sign_in a.sign); tokens = [] })) a.read

abbrev pub noted : ℕ → State → State
noted k a = cond (eqb k 0) (record { kids = a.kids; sign = a.sign; lead = a.lead; part = 1; read = a.read }) (record { kids = top (head_for k a) a.kids nil; sign = []; lead = row; part = 0; read = a.read })

abbrev pub enter : Bool → State → State
enter true a = a
enter false a = fresh

abbrev pub leave : Bool → State → State → State
leave true a b = b
leave false a b = record { kids = beside a.kids b.kids; sign = a.sign; lead = led a.lead (lead_of b.kids); part = a.part; read = a.read ++ b.read }

-- the trees that a reading leaves
unfoldable pub grow : Parts → State → State
grow end a = a
grow (leaf x p) a = grow p (add x a)
grow (node n s p q) a = let b = one_of n rest_kinds in grow q (leave b a (grow p (enter b a)))
grow (mark k p) a = grow p (noted k a)

-- A tree's tokens: a sign is a token with no bytes.
abbrev pub token_of : ℕ → Token
token_of c = record { word = c; start = 0; end = 0; holds = false; kind = 0; value = 0; detail = 0 }

abbrev pub words : List ℕ → List Token → List Token
words [] z = z
words (c ∷ w) z = token_of c ∷ words w z

abbrev pub starts : List Token → ℕ
starts [] = 0
starts (x ∷ xs) = x.start

abbrev pub ends : List Token → ℕ
ends [] = 0
ends (x ∷ []) = x.end
ends (x ∷ y ∷ xs) = ends (y ∷ xs)

-- the bytes of what is copied; the tree of labels
abbrev pub bytes_of : List ℕ → ℕ → List Token → List ℕ
bytes_of s k ts = let t = slice (starts ts) (cond (eqb k kinds.F_STRING) (ends ts + 1) (ends ts)) s in cond (one_of k copied) t []

abbrev pub label_of : List ℕ → Head → Label
label_of s h = record { kind = h.kind; value = h.value; detail = h.detail; text = bytes_of s h.kind h.tokens }

abbrev pub labelled : List ℕ → Grove → Forest
labelled s nil = none
labelled s (top h k t) = tree (label_of s h) (labelled s k) (labelled s t)

abbrev pub pairs : ℕ → (List Token → List Token) → List Token → List Token
pairs zero f z = f z
pairs (suc n) f z = token_of open_paren ∷ pairs n f (token_of close_paren ∷ z)

-- the pairs round the first of these trees, which is the first of a row of kind o or not: none where the table has no expr
abbrev pub pairs_at : List ℕ → ℕ → Bool → Head → Grove → Choice → ℕ
pairs_at s o i h t χ = cond (expr_at o i (empty (labelled s t)) h.kind) (number χ) 0

-- the trees in their slots, as tokens, with the pairs of a choice and z behind them
unfoldable pub said : List ℕ → ℕ → Bool → List Slot → List ℕ → Grove → Choice → List Token → List Token
said s o i xs last nil χ z = words last z
said s o i xs last (top h k t) χ z =
    let c = place_of xs in
    let n = pairs_at s o i h t χ in
    let y = layout (within n c) (label_of s h) (labelled s k) in
    words (words_of xs) (pairs n (λ z'. cond (one_of h.kind copied) (h.tokens ++ z') (said s h.kind true y.slots y.last k (under χ) z')) (said s o false (later xs) last t (after χ) z))

-- the same as the print has them
unfoldable pub bits : List ℕ → ℕ → Bool → List Slot → List ℕ → Grove → Choice → List Bit
bits s o i xs last nil χ = signs last
bits s o i xs last (top h k t) χ =
    let c = place_of xs in
    let n = pairs_at s o i h t χ in
    let y = layout (within n c) (label_of s h) (labelled s k) in
    let own = bits s h.kind true y.slots y.last k (under χ) in
    signs (words_of xs) ++ (in_pairs n (cond (one_of h.kind copied) (copy (bytes_of s h.kind h.tokens) ∷ []) own) ++ bits s o false (later xs) last t (after χ))

-- no row stands without a pair where it needs one
abbrev pub Suits : List ℕ → ℕ → Bool → List Slot → Grove → Choice → Type 0
Suits s o i xs nil χ = Unit {0}
Suits s o i xs (top h k t) χ =
    let c = place_of xs in
    let n = pairs_at s o i h t χ in
    T (served n c (label_of s h) (labelled s k)) × Suits s h.kind true (layout (within n c) (label_of s h) (labelled s k)).slots k (under χ) × Suits s o false (later xs) t (after χ)

-- the print's own choice
abbrev pub needed : Bool → ℕ
needed true = 1
needed false = 0

unfoldable pub by_needs : List ℕ → List Slot → Grove → Choice
by_needs s xs nil = no_choice
by_needs s xs (top h k t) =
    let c = place_of xs in
    let b = needs c (label_of s h) (labelled s k) in
    choice (needed b) (by_needs s (layout (inner b c) (label_of s h) (labelled s k)).slots k) (by_needs s (later xs) t)

-- a tree without a pair at a place, and with n of them; what suits it
abbrev pub body : List ℕ → Place → Head → Grove → Choice → List Token → List Token
body s c h k χ z = let y = layout c (label_of s h) (labelled s k) in cond (one_of h.kind copied) (h.tokens ++ z) (said s h.kind true y.slots y.last k χ z)

abbrev pub Under : List ℕ → Place → Head → Grove → Choice → Type 0
Under s c h k χ = Suits s h.kind true (layout c (label_of s h) (labelled s k)).slots k χ

abbrev pub needs_pair : List ℕ → Place → Head → Grove → Bool
needs_pair s c h k = needs c (label_of s h) (labelled s k)

abbrev pub say : List ℕ → Place → ℕ → Head → Grove → Choice → List Token → List Token
say s c n h k χ z = pairs n (body s (within n c) h k χ) z

abbrev pub Suit : List ℕ → Place → ℕ → Head → Grove → Choice → Type 0
Suit s c n h k χ = T (served n c (label_of s h) (labelled s k)) × Under s (within n c) h k χ
