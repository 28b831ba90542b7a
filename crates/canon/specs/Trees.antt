-- A table's rows as trees, spans set aside: each row with its own text.
use Rattle.std.specs.Prelude.{List, [], ◌∷◌, Bool, cond, ℕ, zero, suc, ◌+◌, eqb}
use Rattle.std.proofs.Math.Seq.{slice}
use Rattle.rows.specs.Kinds as kinds
use Rattle.grammar.specs.Grammar.{one_of}
use Rattle.grammar.specs.Rows.{Row}

-- What a row says: kind, value, detail, and its text where the text is copied.
pub record Label : Type 0 where
  pub kind : ℕ
  pub value : ℕ
  pub detail : ℕ
  pub text : List ℕ

-- A row of trees: the first, what is under it, and the trees after it.
pub data Forest : Type 0 where
  none : Forest
  tree : Label → Forest → Forest → Forest

-- "names and literals copied from the source, an f-string copied whole with its quote" (its row ends before the quote); and `_`.
abbrev pub copied : List ℕ
copied = kinds.NAME ∷ kinds.INTEGER ∷ kinds.FLOAT ∷ kinds.BOOL ∷ kinds.ASN ∷ kinds.IPV4 ∷ kinds.IPV6 ∷ kinds.STRING ∷ kinds.CHAR ∷ kinds.ANY ∷ kinds.F_STRING ∷ []

abbrev pub text_of : List ℕ → Row → List ℕ
text_of s r = let t = slice r.start (cond (eqb r.kind kinds.F_STRING) (r.end + 1) r.end) s in cond (one_of r.kind copied) t []

abbrev pub label : List ℕ → Row → Label
label s r = record { kind = r.kind; value = r.value; detail = r.detail; text = text_of s r }

-- The last n of the trees so far, the last first, become the children of a new one.
abbrev pub adopt : Label → ℕ → Forest → Forest → Forest
adopt a zero kids ts = tree a kids ts
adopt a (suc n) kids none = tree a kids none
adopt a (suc n) kids (tree b ks ts) = adopt a n (tree b ks kids) ts

-- "Children come before their parent, left to right."
unfoldable pub grown : List ℕ → List Row → Forest → Forest
grown s [] ts = ts
grown s (r ∷ rs) ts = grown s rs (adopt (label s r) r.children none ts)

abbrev pub tree_of : List ℕ → List Row → Forest
tree_of s rs = grown s rs none
