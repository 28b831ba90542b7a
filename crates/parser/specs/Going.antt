-- What is true while a phrase is being read (`Going`), when it was read (`Whole`) and when it is refused (`Stopped`):
-- where the reader stands, what the grammar's table still asks for, the rows written so far, and what the lent table
-- holds then.
use Rattle.std.specs.Prelude.{Ok, Err, ◌≡◌, List, [], ◌∷◌, true, ℕ, ◌+◌, ◌*◌, ◌≤◌, length}
use Rattle.std.proofs.Math.Option.{Option, none, some}
use Rattle.std.proofs.Math.Seq.{slice}
use Rattle.tokens.specs.declared.Refusal.{Refusal}
use Rattle.tokens.specs.Words.{code_of}
use Rattle.values.specs.Literals.{literal_of}
use Rattle.rows.specs.declared.Row.{Row}
use Rattle.rows.specs.Rows.{put_row}
use Rattle.grammar.specs.Grammar.{same, Token, Language}
use Rattle.grammar.specs.Limits.{Counts}
use Rattle.grammar.specs.Language.{roto}
use Rattle.grammar.specs.Rows.{Item, child, Draft, sizes, children_of, detail_for}
use Rattle.grammar.specs.Rows as grammar
use Rattle.grammar.specs.Refusals.{Why, said}
use Rattle.grammar.specs.Phrases as phrases
use Rattle.grammar.proofs.Summary.{sum, sum_of, or_word, word_or_0}
use Rattle.grammar.proofs.Open.{Left, Open}
use Rattle.answers.specs.Source.{source, token_for}
use Rattle.parser.specs.declared.Here.{Here}
use Rattle.parser.specs.declared.Node.{Node}
use Rattle.parser.specs.Results.{Read}
use Rattle.parser.specs.Places.{word_of, start_of, end_of, next_of, here_at}

-- The grammar that every reader below a tree's follows: the old one of C-22, in which `test` is a declaration. Below a declaration both are the same.
abbrev pub language : Language
language = roto true

-- The token that a reader stands at, as the grammar knows tokens: its word, its span and what its literal is worth.
abbrev pub token_of : List ℕ → Here → Token
token_of s h = token_for (word_of h) (start_of h) (end_of h) (literal_of (code_of (word_of h)) (slice (start_of h) (end_of h) s))

-- A reader stands in a source that is not too long: what it sees is what the lexer shows at its place, and it has
-- written at most four rows for each byte up to behind the token there. So no count of rows comes near the greatest
-- number.
pub record Stands (s : List ℕ) (h : Here) : Type 0 where
  pub short : length s ≤ 65535
  pub seen : h ≡ here_at s h.place h.rows
  pub placed : h.place ≤ length s
  pub few : h.rows ≤ 4 * next_of h

-- A table into which rows were written, from row n on; those for which it has no room are left out.
abbrev pub as_row : grammar.Row → Row
as_row r = record { kind = r.kind; start = r.start; end = r.end; children = r.children; value = r.value; detail = r.detail }

unfoldable pub store : List ℕ → ℕ → List grammar.Row → List ℕ
store t n [] = t
store t n (r ∷ rs) = store (put_row t n (as_row r) r.size) (n + 1) rs

-- What a phrase has so far, as far as the row over it depends on it: nothing; one row and no word (its kind, start and
-- end); or whatever has a span (start, end, the number of rows, and the first word of its own if there is one).
pub data Tally : Type 0 where
  bare : Tally
  lone : ℕ → ℕ → ℕ → Tally
  many : ℕ → ℕ → ℕ → Option ℕ → Tally

abbrev pub Holds : Tally → List Item → Type 0
Holds bare xs = xs ≡ []
Holds (lone k a e) xs = (r : grammar.Row) × (xs ≡ child r ∷ []) × (r.kind ≡ k) × (r.start ≡ a) × (r.end ≡ e)
Holds (many a e c w) xs = sum_of xs ≡ sum a e c w

-- The same with one word of its own more; with one row more.
abbrev pub with_word : Tally → ℕ → ℕ → ℕ → Tally
with_word bare a' e' x = many a' e' 0 (some x)
with_word (lone k a e) a' e' x = many a e' 1 (some x)
with_word (many a e c w) a' e' x = many a e' c (or_word w x)

abbrev pub with_token : Tally → Here → Tally
with_token y h = with_word y (start_of h) (end_of h) (word_of h)

abbrev pub with_node : Tally → Node → Tally
with_node bare m = lone m.kind m.start m.end
with_node (lone k a e) m = many a m.end 2 none
with_node (many a e c w) m = many a m.end (c + 1) w

abbrev pub count_of : Tally → ℕ
count_of bare = 0
count_of (lone k a e) = 1
count_of (many a e c w) = c

-- The row of kind k over all that, with value v.
abbrev pub row_over : ℕ → Tally → ℕ → Row
row_over k bare v = record { kind = k; start = 0; end = 0; children = 0; value = v; detail = detail_for k 0 }
row_over k (lone j a e) v = record { kind = k; start = a; end = e; children = 1; value = v; detail = detail_for k 0 }
row_over k (many a e c w) v = record { kind = k; start = a; end = e; children = c; value = v; detail = detail_for k (word_or_0 w) }

-- A phrase to read: the source, how many brackets, prefixes, `else if`s and heads stand open before it, its kind, where
-- the reader stands at its first token, and the table as it is then.
pub record Phrase : Type 0 where
  pub text : List ℕ
  pub counts : Counts
  pub kind : ℕ
  pub from : Here
  pub table : List ℕ

-- The phrase f is being read and the reader stands at h. Left of it is ks: what remains of the rule followed last, then
-- of the rule around that, and so on. The table is t. The phrase has what y says; v is 1 if the part is there of which
-- its row's value tells, else 0. The bytes that the reader has come on since its start allow four rows each; k of these
-- at least are not written.
pub record Going (f : Phrase) (ks : List Left) (h : Here) (t : List ℕ) (y : Tally) (v k : ℕ) : Type 0 where
  pub draft : Draft
  pub opened : Open (source f.text) language f.counts same f.kind f.from.place ks h.place draft
  pub stands : Stands f.text h
  pub holds : Holds y draft.items
  pub part : draft.part ≡ v
  pub rows : h.rows ≡ f.from.rows + length draft.rows
  pub stored : t ≡ store f.table f.from.rows draft.rows
  pub sized : sizes draft.items ≡ length draft.rows
  pub began : f.from.rows ≤ 4 * next_of f.from
  pub counted : f.from.rows + count_of y ≤ h.rows
  pub spares : h.rows + k + 4 * next_of f.from ≤ f.from.rows + 4 * next_of h

-- The phrase f was read as the grammar reads it. It left one row, of which the node m tells kind and span; the reader
-- stands behind it at h; the table t holds its rows; k rows at least that its bytes allow, four each, are not written.
pub record Whole (f : Phrase) (k : ℕ) (m : Node) (h : Here) (t : List ℕ) : Type 0 where
  pub draft : Draft
  pub read : phrases.Read (source f.text) language f.counts same f.kind f.from.place h.place draft
  pub stands : Stands f.text h
  pub leaves : Holds (lone m.kind m.start m.end) (children_of draft.items)
  pub rows : h.rows ≡ f.from.rows + length draft.rows
  pub stored : t ≡ store f.table f.from.rows draft.rows
  pub counted : f.from.rows + 1 ≤ h.rows
  pub spares : h.rows + k + 4 * next_of f.from ≤ f.from.rows + 4 * next_of h

-- The phrase f is refused: a reader that follows the grammar stops at `place` for the reason `why`, and r is what
-- document 01 says of that, number and span. Rows of it may stand in the table t, whose length is the same as before.
pub record Stopped (f : Phrase) (r : Refusal) (t : List ℕ) : Type 0 where
  pub place : ℕ
  pub why : Why
  pub stops : phrases.Refused (source f.text) language f.counts same f.kind f.from.place place why
  pub says : said (length f.text) ((source f.text).look place) why ≡ record { number = r.number; start = r.start; end = r.end }
  pub kept : length t ≡ length f.table

-- What a reader of one kind of phrase promises: if it answers `Done`, the phrase was read; if `Refused`, it is refused
-- so.
abbrev pub Either : Phrase → ℕ → Read → List ℕ → Type 0
Either f k (Ok (m, h)) t = Whole f k m h t
Either f k (Err r) t = Stopped f r t

pub record Answers (f : Phrase) (k : ℕ) (r : Read) (t : List ℕ) : Type 0 where
  pub is : Either f k r t
