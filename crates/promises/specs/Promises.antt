-- What the readers promise. A reader of one kind of phrase promises `Answers`. A reader of a part of a phrase promises
-- for every phrase f that may be read around it: if f has come as far as this part (`Going`), then behind the part f
-- has come so far, or f is refused (`Partly`). In all of these s is the source, h where the reader stands, t the table
-- before, r the answer and t' the table behind it.
use Rattle.std.specs.Prelude.{Ok, Err, ◌≡◌, List, [], ◌∷◌, Bool, cond, ◌⊎◌, ◌≢◌, ℕ, zero, suc, ◌+◌, ◌≤◌, ◌<◌, T, eqb, ltb, length, get_or}
use Rattle.std.proofs.Math.Option.{Option, some}
use Rattle.rows.specs.Kinds as kinds
use Rattle.tokens.specs.declared.Refusal.{Refusal}
use Rattle.rows.specs.declared.Row.{Row}
use Rattle.grammar.specs.Words.{open_brace, close_brace, 'in', dot, ':', semicolon, '->', names}
use Rattle.grammar.specs.Grammar.{plain, closes_bracket, body, Symbol, one_of}
use Rattle.grammar.specs.Limits.{Counts, after, inside}
use Rattle.grammar.specs.Table.{a, behind, row, part, opens, closes}
use Rattle.grammar.specs.Kinds.{no_records, NAME, RESULT, LET_TYPE, IMPORTPATH_DOT, STATEMENTS, STATEMENT, AFTER_FOUR, AFTER_EXPR, FIELDS, FIELDS_MORE, FIELD, ELSE, ELSE_PART, BLOCK, ARMS, ARM_BODY, ARM_COMMA, ARM_NEXT, GUARD, EXPR, BINARY, AND, COMPARE, SUM, PRODUCT, OPERAND, POSTFIX, AFTER_PATH}
use Rattle.grammar.specs.Rows as grammar
use Rattle.grammar.specs.Answers.{accepted, refused}
use Rattle.grammar.specs.Answers as answers
use Rattle.grammar.proofs.Open.{Left}
use Rattle.grammar.proofs.Summary.{or_word}
use Rattle.answers.specs.Source.{source}
use Rattle.parser.specs.declared.Here.{Here}
use Rattle.parser.specs.declared.Limits.{Limits}
use Rattle.parser.specs.declared.Node.{Node}
use Rattle.parser.specs.Results.{Read}
use Rattle.parser.specs.Results.{StmtRead}
use Rattle.parser.specs.declared.Stmt.{Stmt}
use Rattle.parser.specs.Results.{ArmRead}
use Rattle.parser.specs.declared.Arm.{Arm}
use Rattle.parser.specs.Places.{word_of, start_of, end_of, next_of, passed, later, unused, expected, under, refusal_at, node_of, put_over, plain_row}
use Rattle.parser.specs.Counted.{counts, headed, Alike}
use Rattle.parser.specs.Going.{Stands, store, Tally, bare, lone, many, with_node, Phrase, Going, Stopped, Answers}
use Rattle.parser.proofs.Standing.{lexed}
use Rattle.parser.proofs.Going.{at}
use Rattle.parser.proofs.Sides.{Around}

-- The phrase of kind n from where a reader stands.
abbrev pub the : List ℕ → Counts → ℕ → Here → List ℕ → Phrase
the s d n h t = record { text = s; counts = d; kind = n; from = h; table = t }

-- A phrase in which nothing is counted: the same answer whatever stands open.
abbrev pub Anyhow : List ℕ → ℕ → Here → List ℕ → ℕ → Read → List ℕ → Type 0
Anyhow s n h t k r t' = (d : Counts) → Answers (the s d n h t) k r t'

-- A part of the phrase f: with the answer `Done m h`, G tells how far f has come; with `Refused e`, f is refused.
abbrev pub PartlyIs : Phrase → Read → List ℕ → (Node → Here → Type 0) → Type 0
PartlyIs f (Ok (m, h)) t G = G m h
PartlyIs f (Err e) t G = Stopped f e t

pub record Partly (f : Phrase) (r : Read) (t : List ℕ) (G : Node → Here → Type 0) : Type 0 where
  pub is : PartlyIs f r t G

-- The row of a token; the answer that goes past a token and writes a row; the same where the token has to be the word
-- w, else it is unusable.
abbrev pub item_row : Here → Row
item_row h = plain_row kinds.NAME (start_of h) (end_of h) 0

abbrev pub wrote : List ℕ → Here → Row → Read
wrote s h r = Ok (node_of r, later (passed s h))

-- The same at one of the words that the lexer takes, as every reader stands that asks for it.
abbrev pub Wrote : List ℕ → Here → List ℕ → Row → ℕ → Read → List ℕ → Type 0
Wrote s h t q since r t' = (w : List ℕ) → T (lexed w) → T (one_of (word_of h) w) → (r ≡ wrote s h q) × (t' ≡ put_over t h q since)

pub record Closed (s : List ℕ) (h : Here) (t : List ℕ) (w : ℕ) (q : Row) (since : ℕ) (r : Read) (t' : List ℕ) : Type 0 where
  pub closed : word_of h ≡ w → (r ≡ wrote s h q) × (t' ≡ put_over t h q since)
  pub other : word_of h ≢ w → (r ≡ unused h) × (t' ≡ t)

-- A list in brackets, o to c: what the phrase has behind it, m being the list's node (its span and number of items).
abbrev pub listed : Tally → ℕ → Node → Tally
listed bare w m = many m.start m.end m.children (some w)
listed (lone j a e) w m = many a m.end (m.children + 1) (some w)
listed (many a e c x) w m = many a m.end (c + m.children) (or_word x w)

abbrev pub Listed : List ℕ → Here → List ℕ → Limits → ℕ → ℕ → ℕ → Read → List ℕ → Type 0
Listed s h t l o LIST c r t' =
    (f : Phrase) (d : Counts) (ss : List Symbol) (ks : List Left) (y : Tally) (v k : ℕ) → f.text ≡ s → Alike d l
    → Going f (at d (opens o ∷ a LIST ∷ closes c ∷ ss) ∷ ks) h t y v k
    → Partly f r t' (λ m h'. Going f (at (after plain d) ss ∷ ks) h' t' (listed y o m) v (k + 4))

-- Behind a part that may be there: n is 1 if it is (one row more, and the value is 1), else 0.
pub record Perhaps (f : Phrase) (ks : List Left) (a c k n : ℕ) (h : Here) (t : List ℕ) : Type 0 where
  pub end : ℕ
  pub sign : Option ℕ
  pub one : n ≤ 1
  pub going : Going f ks h t (many a end (c + n) sign) n k

abbrev pub TypeSign : ℕ → ℕ → Type 0
TypeSign n sign = ((n ≡ RESULT) × (sign ≡ '->')) ⊎ ((n ≡ LET_TYPE) × (sign ≡ ':'))

abbrev pub Typing : List ℕ → Here → List ℕ → Limits → ℕ → Read → List ℕ → Type 0
Typing s h t l sign r t' =
    (f : Phrase) (d : Counts) (ss : List Symbol) (ks : List Left) (n x e c k : ℕ) (w : Option ℕ) → f.text ≡ s → d ≡ counts l → TypeSign n sign
    → Going f (at d (a n ∷ ss) ∷ ks) h t (many x e c w) 0 k
    → Partly f r t' (λ m h'. Perhaps f (at d ss ∷ ks) x c k m.children h' t')

abbrev pub Guarded : List ℕ → Here → List ℕ → Limits → Read → List ℕ → Type 0
Guarded s h t l r t' =
    (f : Phrase) (d : Counts) (ss : List Symbol) (ks : List Left) (x e c k : ℕ) (w : Option ℕ) → f.text ≡ s → d ≡ counts l
    → Going f (at d (a GUARD ∷ ss) ∷ ks) h t (many x e c w) 0 k
    → Partly f r t' (λ m h'. Perhaps f (at d ss ∷ ks) x c k m.children h' t')

-- The group `{ importpaths }` that ends an import path; behind it the path is whole. Its rows began at `since`, here and below.
abbrev pub Grouped : List ℕ → Here → List ℕ → Limits → ℕ → ℕ → ℕ → Read → List ℕ → Type 0
Grouped s h t l start items since r t' =
    (f : Phrase) (d : Counts) (e : ℕ) (w : Option ℕ) → f.text ≡ s → f.from.rows ≡ since → Alike d l
    → Going f (at d (a IMPORTPATH_DOT ∷ []) ∷ at f.counts (row kinds.IMPORT_PATH ∷ []) ∷ []) h t (many start e items w) 0 3
    → Answers f 2 r t'

-- The kind of phrase whose signs have this level, 1 `||` to 5 `* / %`; beyond that an operand.
abbrev pub LEVEL : ℕ → Bool → ℕ
LEVEL zero b = BINARY b
LEVEL (suc zero) b = BINARY b
LEVEL (suc (suc zero)) b = AND b
LEVEL (suc (suc (suc zero))) b = COMPARE b
LEVEL (suc (suc (suc (suc zero)))) b = SUM b
LEVEL (suc (suc (suc (suc (suc zero))))) b = PRODUCT b
LEVEL (suc (suc (suc (suc (suc (suc n)))))) b = OPERAND b

-- An operand that was read up to behind its atom, or behind some of what may follow that (`?`, a call, `. name`).
-- Behind a path that is the whole atom other rules hold: neither `.` nor, where a record may stand, `{` can be next.
pub record Postfixed (f : Phrase) (l : Limits) (b : Bool) (m : Node) (h : Here) (t : List ℕ) : Type 0 where
  pub at_counts : Counts
  pub alike : Alike at_counts l
  pub going : Going f (at at_counts (a (POSTFIX b) ∷ []) ∷ []) h t (lone m.kind m.start m.end) 0 1
      ⊎ (Going f (at at_counts (a (AFTER_PATH b) ∷ []) ∷ []) h t (lone m.kind m.start m.end) 0 1 × (word_of h ≢ dot) × (T b → word_of h ≢ open_brace))

abbrev pub Atom : List ℕ → Here → List ℕ → Limits → Bool → Read → List ℕ → Type 0
Atom s h t l b r t' = Partly (the s (counts l) (OPERAND b) h t) r t' (λ m h'. Postfixed (the s (counts l) (OPERAND b) h t) l b m h' t')

abbrev pub Behind : List ℕ → Node → Here → List ℕ → Limits → ℕ → Read → List ℕ → Type 0
Behind s m h t l since r t' = (f : Phrase) (b : Bool) → f.text ≡ s → f.from.rows ≡ since → Postfixed f l b m h t → Partly f r t' (λ m' h'. Postfixed f l b m' h' t')

abbrev pub AnyBehind : List ℕ → Node → Here → List ℕ → ℕ → Read → List ℕ → Type 0
AnyBehind s m h t since r t' = (l : Limits) → Behind s m h t l since r t'

-- The fields of a record, from behind its `{` to behind its `}`; `paths` is 1 if a path stands before the record.
abbrev pub fields_tail : ℕ → List Symbol → List Symbol
fields_tail zero ss = row kinds.RECORD ∷ ss
fields_tail (suc n) ss = part ∷ row kinds.RECORD ∷ ss

abbrev pub Fielded : List ℕ → Here → List ℕ → Limits → ℕ → ℕ → ℕ → Read → List ℕ → Type 0
Fielded s h t l start paths since r t' =
    (f : Phrase) (d : Counts) (ss : List Symbol) (ks : List Left) (e k : ℕ) (w : Option ℕ) → f.text ≡ s → f.from.rows ≡ since → d ≡ counts l
    → Going f (at d (a FIELDS ∷ closes close_brace ∷ fields_tail paths ss) ∷ ks) h t (many start e paths w) 0 k
    ⊎ (Going f (at d (a FIELD ∷ a FIELDS_MORE ∷ closes close_brace ∷ fields_tail paths ss) ∷ ks) h t (many start e paths w) 0 k × T (one_of (word_of h) names))
    → Partly f r t' (λ m h'. Going f (at (after closes_bracket d) ss ∷ ks) h' t' (lone m.kind m.start m.end) 0 k)

-- The rows of n phrases that each end with the next, over the answer of the innermost: kind k, c children, and by its
-- index where each starts, where its rows began, and its detail. A refusal stays what it is.
abbrev pub over_row : List ℕ → List ℕ → ℕ → ℕ → ℕ → Node → Row
over_row starts details k c n m = record { kind = k; start = get_or starts n 0; end = m.end; children = c; value = 0; detail = get_or details n 0 }

unfoldable pub over_read : List ℕ → List ℕ → ℕ → ℕ → ℕ → Read → Read
over_read starts details k c zero r = r
over_read starts details k c (suc n) (Ok (m, h)) = over_read starts details k c n (Ok (node_of (over_row starts details k c n m), later h))
over_read starts details k c (suc n) (Err e) = Err e

unfoldable pub over_table : List ℕ → List ℕ → List ℕ → ℕ → ℕ → ℕ → Read → List ℕ → List ℕ
over_table starts sinces details k c zero r t = t
over_table starts sinces details k c (suc n) (Ok (m, h)) t = over_table starts sinces details k c n (Ok (node_of (over_row starts details k c n m), later h)) (put_over t h (over_row starts details k c n m) (get_or sinces n 0))
over_table starts sinces details k c (suc n) (Err e) t = t

-- An `if`, `while`, `for` or `match` from behind that word, which starts at `start`, to its end; ss is what its rule asks for then.
abbrev pub Headed : List Symbol → List ℕ → Here → List ℕ → Limits → ℕ → Read → List ℕ → Type 0
Headed ss s h t l start r t' =
    (f : Phrase) (d : Counts) (e w : ℕ) → f.text ≡ s → d ≡ counts (headed l) → inside body d ≡ counts l
    → Going f (at d ss ∷ []) h t (many start e 0 (some w)) 0 4
    → Answers f 1 r t'

abbrev pub after_if : List Symbol
after_if = a (EXPR no_records) ∷ behind BLOCK ∷ behind ELSE ∷ row kinds.IF ∷ []

abbrev pub after_match : List Symbol
after_match = a (EXPR no_records) ∷ opens open_brace ∷ behind ARMS ∷ closes close_brace ∷ row kinds.MATCH ∷ []

-- `name in` behind a `for`: the name, and behind it the word.
pub record NamedIn (s : List ℕ) (h : Here) (t : List ℕ) (r : Read) (t' : List ℕ) : Type 0 where
  pub first : Read
  pub name : Anyhow s NAME h t 3 first t'
  pub stops : {e : Refusal} → first ≡ Err e → r ≡ first
  pub goes : {m : Node} {z : Here} → first ≡ Ok (m, z) → r ≡ expected s z 'in'

-- The expr and the block of one of the first three; the block behind an `else`; past the `if` there.
abbrev pub Tested : List ℕ → Here → List ℕ → Limits → Read → List ℕ → Type 0
Tested s h t l r t' =
    (f : Phrase) (d : Counts) (ss : List Symbol) (x e c w k : ℕ) → f.text ≡ s → d ≡ counts (headed l) → inside body d ≡ counts l
    → Going f (at d (a (EXPR no_records) ∷ behind BLOCK ∷ ss) ∷ []) h t (many x e c (some w)) 0 k
    → Partly f r t' (λ m h'. Going f (at d ss ∷ []) h' t' (many x m.end (c + 1 + 1) (some w)) 0 (k + 1 + 1))

abbrev pub Elsed : List ℕ → Here → List ℕ → Limits → ℕ → ℕ → Read → List ℕ → Type 0
Elsed s h t l start since r t' =
    (f : Phrase) (d : Counts) (e w k : ℕ) → f.text ≡ s → f.from.rows ≡ since
    → Going f (at (counts l) (a ELSE_PART ∷ []) ∷ at d (row kinds.IF ∷ []) ∷ []) h t (many start e 2 (some w)) 0 (k + 4)
    → Answers f 1 r t'

abbrev pub linked : List ℕ → Here → Limits → Read
linked s h l = under s h (cond (eqb l.chain 0) 0 l.heads)

-- The arms of a match, from behind its `{` to its end; one arm, and whether another may follow; an arm's body.
abbrev pub Matched : List ℕ → Here → List ℕ → Limits → ℕ → ℕ → Read → List ℕ → Type 0
Matched s h t l start since r t' =
    (f : Phrase) (d : Counts) (e : ℕ) (w : Option ℕ) → f.text ≡ s → f.from.rows ≡ since → inside body d ≡ counts l
    → Going f (at d (behind ARMS ∷ closes close_brace ∷ row kinds.MATCH ∷ []) ∷ []) h t (many start e 1 w) 0 1
    → Answers f 1 r t'

pub record Armed (f : Phrase) (ks : List Left) (h : Here) (t : List ℕ) : Type 0 where
  pub node : Node
  pub around : Around f ks h t node 1

abbrev pub ArmIs : Phrase → ArmRead → List ℕ → Type 0
ArmIs f (Ok (Arm.Followed h)) t = Armed f (at f.counts (a ARMS ∷ []) ∷ []) h t
ArmIs f (Ok (Arm.Last h)) t = Armed f [] h t
ArmIs f (Err e) t = Stopped f e t

pub record OneArm (f : Phrase) (r : ArmRead) (t : List ℕ) : Type 0 where
  pub is : ArmIs f r t

abbrev pub Bodied : List ℕ → Here → List ℕ → Limits → Read → List ℕ → Type 0
Bodied s h t l r t' =
    (f : Phrase) (d : Counts) (ks : List Left) (y : Tally) (v k : ℕ) → f.text ≡ s → d ≡ counts l
    → Going f (at d (a ARM_BODY ∷ []) ∷ ks) h t y v k
    → Partly f r t' (λ m h'. (word_of h ≡ open_brace → Going f (at d (row kinds.ARM ∷ a ARM_COMMA ∷ a ARMS ∷ []) ∷ at d [] ∷ ks) h' t' (with_node y m) v (k + 1)) × (word_of h ≢ open_brace → Going f (at d (row kinds.ARM ∷ a ARM_NEXT ∷ []) ∷ at d [] ∷ ks) h' t' (with_node y m) v (k + 1)))

-- The statements of a block, from behind its `{` to its end. One statement, and how it ended: with its `;`, as an `if`,
-- `while`, `for` or `match` without `;`, as another expr without `;`, which is the last.
abbrev pub Stated : List ℕ → Here → List ℕ → Limits → ℕ → Read → List ℕ → Type 0
Stated s h t l start r t' =
    (f : Phrase) (d : Counts) (ks : List Left) (e k : ℕ) (w : Option ℕ) → f.text ≡ s → d ≡ counts l
    → Going f (at d (a STATEMENTS ∷ closes close_brace ∷ row kinds.BLOCK ∷ []) ∷ ks) h t (many start e 0 w) 0 k
    → Partly f r t' (λ m h'. Going f (at (after closes_bracket d) [] ∷ ks) h' t' (lone m.kind m.start m.end) 0 k)

pub record Ended (f : Phrase) (d : Counts) (ks : List Left) (x c k n : ℕ) (h : Here) (t : List ℕ) : Type 0 where
  pub end : ℕ
  pub sign : Option ℕ
  pub going : Going f (at d (a n ∷ []) ∷ ks) h t (many x end (c + 1) sign) 0 k

abbrev pub StatementIs : Phrase → Counts → List Left → ℕ → ℕ → ℕ → StmtRead → List ℕ → Type 0
StatementIs f d ks x c k (Ok (Stmt.Ended h)) t = Ended f d ks x c k STATEMENTS h t
StatementIs f d ks x c k (Ok (Stmt.Four h)) t = Ended f d ks x c k AFTER_FOUR h t × (word_of h ≢ semicolon)
StatementIs f d ks x c k (Ok (Stmt.Last h)) t = Ended f d ks x c k AFTER_EXPR h t × (word_of h ≢ semicolon)
StatementIs f d ks x c k (Err e) t = Stopped f e t

pub record OneStatement (f : Phrase) (d : Counts) (ks : List Left) (x c k : ℕ) (r : StmtRead) (t : List ℕ) : Type 0 where
  pub is : StatementIs f d ks x c k r t

abbrev pub Statement : List ℕ → Here → List ℕ → Limits → StmtRead → List ℕ → Type 0
Statement s h t l r t' =
    (f : Phrase) (d : Counts) (ks : List Left) (x e c k : ℕ) (w : Option ℕ) → f.text ≡ s → d ≡ counts l
    → Going f (at d (a STATEMENT ∷ []) ∷ ks) h t (many x e c w) 0 k
    → OneStatement f d ks x c k r t'

-- A reader that has read a statement stands further on than before.
abbrev pub BeyondStatement : List ℕ → Here → StmtRead → Type 0
BeyondStatement s h (Ok (Stmt.Ended z)) = Stands s z × (next_of h < next_of z)
BeyondStatement s h (Ok (Stmt.Four z)) = Stands s z × (next_of h < next_of z)
BeyondStatement s h (Ok (Stmt.Last z)) = Stands s z × (next_of h < next_of z)
BeyondStatement s h (Err e) = Prim.Unit {0}

-- A reader that has answered `Done` stands further on than before.
abbrev pub Beyond : List ℕ → Here → Read → Type 0
Beyond s h (Ok (m, z)) = Stands s z × (next_of h < next_of z)
Beyond s h (Err e) = Prim.Unit {0}

-- A whole source: its rows and where they stand in the table, or the refusal that document 01 determines (1 where the
-- source is too long). `tests`: by the old grammar, in which `test` is a declaration (C-22).
abbrev pub FinishedIs : Bool → Bool → List ℕ → List ℕ → Read → List ℕ → Type 0
FinishedIs tests tree s t (Ok (m, h)) t' = (rs : List grammar.Row) × answers.Answers (source s) tests tree (length s) 0 (accepted rs) × (h.rows ≡ length rs) × (t' ≡ store t 0 rs)
FinishedIs tests tree s t (Err e) t' = answers.Answers (source s) tests tree (length s) 0 (refused (record { number = e.number; start = e.start; end = e.end })) × (length t' ≡ length t)

pub record Finished (tests tree : Bool) (s t : List ℕ) (r : Read) (t' : List ℕ) : Type 0 where
  pub short : length s ≤ 65535 → FinishedIs tests tree s t r t'
  pub long : T (ltb 65535 (length s)) → (r ≡ Err (refusal_at 1 65535 65535)) × (t' ≡ t)
