-- How each kind of row is written: which words stand before each child, which behind the last, and what the child's place
-- asks of it. And when a row is put in parentheses.
use Rattle.std.specs.Prelude.{List, [], ◌∷◌, ◌++◌, Bool, true, false, not, ◌&&◌, ◌||◌, cond, ℕ, suc, pred, eqb, ltb, leb}
use Rattle.rows.specs.Kinds as kinds
use Rattle.grammar.specs.Words.{'=>', '->', open_brace, close_brace, open_paren, close_paren, open_bracket, close_bracket, ':', semicolon, comma, dot, '=', '?', '!', '-', 'const', 'else', 'for', 'fn', 'if', 'import', 'in', 'let', 'match', 'test', 'while', assign_signs, binary_signs, return_words, filter_words, four_words}
use Rattle.grammar.specs.Grammar.{one_of}
use Rattle.canon.specs.Trees.{Label, Forest, none, tree}

-- What a place asks: a level at least; whether a record may stand; whether a path may; with which words nothing may begin
-- there; whether an arm follows.
pub record Place : Type 0 where
  pub level : ℕ
  pub records : Bool
  pub path : Bool
  pub unless : List ℕ
  pub more : Bool

abbrev pub asks : ℕ → Bool → List ℕ → Place
asks k r w = record { level = k; records = r; path = true; unless = w; more = false }

-- a whole expr, or what is no expr; the expr of a head; an expr as a statement; as an arm's body
abbrev pub whole : Place
whole = asks 0 true []

abbrev pub head : Place
head = asks 0 false []

-- the left part of a row at c, with which it begins; a later part
abbrev pub left : ℕ → Place → Place
left k c = asks k c.records c.unless

abbrev pub right : ℕ → Place → Place
right k c = asks k c.records []

abbrev pub pathless : Place → Place
pathless c = record { level = c.level; records = c.records; path = false; unless = c.unless; more = false }

abbrev pub with_more : Bool → Place
with_more b = record { level = 0; records = true; path = true; unless = []; more = b }

-- The level of a binary by its detail: `||` 1, `&&` 2, comparisons 3, `+ -` 4, `* / %` 5; of a row.
abbrev pub binary_level : ℕ → ℕ
binary_level d = cond (leb d 2) d (cond (leb d 8) 3 (cond (leb d 10) 4 5))

abbrev pub level : Label → ℕ
level a = let b = binary_level a.detail in cond (one_of a.kind (kinds.ASSIGN ∷ kinds.RETURN ∷ [])) 0 (cond (eqb a.kind kinds.BINARY) b (cond (one_of a.kind (kinds.NOT ∷ kinds.NEGATE ∷ [])) 6 7))

-- The word of its own with which a row begins, if `unless` can ask for it.
abbrev pub begins : Label → ℕ
begins a = cond (eqb a.kind kinds.IF) 'if' (cond (eqb a.kind kinds.WHILE) 'while' (cond (eqb a.kind kinds.FOR) 'for' (cond (eqb a.kind kinds.MATCH) 'match' (cond (eqb a.kind kinds.BLOCK || (eqb a.kind kinds.RECORD && eqb a.value 0)) open_brace 0))))

abbrev pub empty : Forest → Bool
empty none = true
empty (tree a k t) = false

-- A pair of parentheses: the row binds looser than its place asks; a path where none may stand; a record, or a return form
-- without an expr, in a head; a row that begins with a word with which nothing may begin there.
abbrev pub needs : Place → Label → Forest → Bool
needs c a kids =
    ltb (level a) c.level
    || ((not c.path && eqb a.kind kinds.PATH)
    || ((not c.records && (eqb a.kind kinds.RECORD || (eqb a.kind kinds.RETURN && empty kids)))
    || one_of (begins a) c.unless))

-- Words, then a child at a place; and the words behind the last.
pub record Slot : Type 0 where
  pub words : List ℕ
  pub place : Place

pub record Layout : Type 0 where
  pub slots : List Slot
  pub last : List ℕ

infix 60 ◌then◌
abbrev pub ◌then◌ : List ℕ → Place → Slot
w then c = record { words = w; place = c }

abbrev pub ends_with : List Slot → List ℕ → Layout
ends_with xs w = record { slots = xs; last = w }

abbrev pub and_then : Slot → Layout → Layout
and_then x y = record { slots = x ∷ y.slots; last = y.last }

-- each child after the same words; the first after others
abbrev pub each : List ℕ → Place → Forest → List Slot
each w c none = []
each w c (tree a k t) = (w then c) ∷ each w c t

abbrev pub joined : List ℕ → List ℕ → Place → Forest → List Slot
joined v w c none = []
joined v w c (tree a k t) = (v then c) ∷ each w c t

-- a list between brackets, "no comma that the tree can do without"
abbrev pub list_in : ℕ → ℕ → Place → Forest → Layout
list_in o e c ts = ends_with (joined (o ∷ []) (comma ∷ []) c ts) (cond (empty ts) (o ∷ e ∷ []) (e ∷ []))

abbrev pub rest : Forest → Forest
rest none = none
rest (tree a k t) = t

abbrev pub first_kind : Forest → ℕ
first_kind none = 0
first_kind (tree a k t) = a.kind

-- the nth word of a list, from 0
abbrev pub nth : List ℕ → ℕ → ℕ
nth [] n = 0
nth (c ∷ w) n = cond (eqb n 0) c (nth w (pred n))

-- the words before a block or a result: `)` behind params, `( )` where there are none
abbrev pub closing : Bool → List ℕ
closing true = open_paren ∷ close_paren ∷ []
closing false = close_paren ∷ []

-- params, perhaps a result, the block
abbrev pub headed : Bool → Bool → Forest → List Slot
headed result bare none = []
headed result bare (tree a k t) =
    let param = (cond bare (open_paren ∷ []) (comma ∷ []) then whole) ∷ headed result false t in
    let typed = (closing bare ++ ('->' ∷ []) then whole) ∷ ([] then whole) ∷ [] in
    let block = (closing bare then whole) ∷ [] in
    cond (eqb a.kind kinds.TYPED_NAME) param (cond result typed block)

-- statements: "No `;` that the tree can do without": behind an expr, but behind one of the four only where it ends a block that has no last
abbrev pub is_four : ℕ → Bool
is_four k = one_of k (kinds.IF ∷ kinds.WHILE ∷ kinds.FOR ∷ kinds.MATCH ∷ [])

abbrev pub is_expr : ℕ → Bool
is_expr k = not (one_of k (kinds.LET ∷ kinds.IMPORT ∷ []))

abbrev pub statement : ℕ → Place
statement k = cond (is_four k) whole (asks 0 true four_words)

abbrev pub between : ℕ → List ℕ
between k = cond (is_expr k && not (is_four k)) (semicolon ∷ []) []

abbrev pub behind : ℕ → ℕ → List ℕ
behind v k = cond (is_expr k && eqb v 0) (semicolon ∷ close_brace ∷ []) (close_brace ∷ [])

abbrev pub statements : ℕ → List ℕ → Forest → Layout
statements v w none = ends_with [] (w ++ (close_brace ∷ []))
statements v w (tree a k none) = ends_with ((w then statement a.kind) ∷ []) (behind v a.kind)
statements v w (tree a k (tree b j t)) = and_then (w then statement a.kind) (statements v (between a.kind) (tree b j t))

-- arms: each but the last knows that one follows
abbrev pub arms : List ℕ → Forest → List Slot
arms w none = []
arms w (tree a k t) = (w then with_more (not (empty t))) ∷ arms [] t

-- pattern, perhaps a guard, the body: a block as it stands, else an expr that doesn't begin with `{`, with its comma if an arm follows
abbrev pub body : Bool → ℕ → Layout
body more k = ends_with ((('=>' ∷ []) then cond (eqb k kinds.BLOCK) whole (asks 0 true (open_brace ∷ []))) ∷ []) (cond (more && not (eqb k kinds.BLOCK)) (comma ∷ []) [])

abbrev pub arm : Bool → ℕ → Forest → Layout
arm more v ts = let g = and_then (('if' ∷ []) then whole) (body more (first_kind (rest ts))) in and_then ([] then whole) (cond (eqb v 0) (body more (first_kind ts)) g)

-- import paths: items joined by `.`, then perhaps `. { paths }`
abbrev pub imports : Bool → Bool → Forest → Layout
imports first group none = ends_with [] (cond group (close_brace ∷ []) [])
imports first group (tree a k t) =
    let item = and_then (cond first [] (dot ∷ []) then whole) (imports false false t) in
    let path = and_then (cond group (comma ∷ []) (dot ∷ open_brace ∷ []) then whole) (imports false true t) in
    cond (eqb a.kind kinds.NAME) item path

-- the parts of a row of one to four children, each after its words
abbrev pub by : List ℕ → Place → Layout → Layout
by w c y = and_then (w then c) y

abbrev pub done : List ℕ → Layout
done w = ends_with [] w

abbrev pub only_if : Bool → Layout → Layout → Layout
only_if true y z = y
only_if false y z = z

-- a comparison isn't chained
abbrev pub left_level : ℕ → ℕ
left_level d = let k = binary_level d in cond (eqb k 3) 4 k

pub record Entry : Type 0 where
  pub kind : ℕ
  pub layout : Layout

infix 10 ◌writes◌
abbrev pub ◌writes◌ : ℕ → Layout → Entry
k writes y = record { kind = k; layout = y }

-- The layout of each kind of row at a place c, with value v, detail d and the children ts. (Those that are copied have none.)
unfoldable pub layouts : Place → ℕ → ℕ → Forest → List Entry
layouts c v d ts =
    (kinds.PATH writes ends_with (joined [] (dot ∷ []) whole ts) []) ∷
    (kinds.NEVER writes done ('!' ∷ [])) ∷
    (kinds.UNIT writes done (open_paren ∷ close_paren ∷ [])) ∷
    (kinds.OPTION writes by [] whole (done ('?' ∷ []))) ∷
    (kinds.PATH_TYPE writes by [] whole (only_if (eqb v 0) (done []) (list_in open_bracket close_bracket whole (rest ts)))) ∷
    (kinds.RECORD_TYPE writes list_in open_brace close_brace whole ts) ∷
    (kinds.TYPED_NAME writes by [] whole (by (':' ∷ []) whole (done []))) ∷
    (kinds.BINARY writes by [] (left (left_level d) c) (by (nth binary_signs (pred d) ∷ []) (right (suc (binary_level d)) c) (done []))) ∷
    (kinds.NOT writes by ('!' ∷ []) (right 6 c) (done [])) ∷
    (kinds.NEGATE writes by ('-' ∷ []) (right 6 c) (done [])) ∷
    (kinds.CALL writes by [] (left 7 c) (list_in open_paren close_paren whole (rest ts))) ∷
    (kinds.ACCESS writes by [] (pathless (left 7 c)) (by (dot ∷ []) whole (done []))) ∷
    (kinds.QUESTION writes by [] (left 7 c) (done ('?' ∷ []))) ∷
    (kinds.ASSIGN writes by [] whole (by (nth assign_signs d ∷ []) (right 1 c) (done []))) ∷
    (kinds.RETURN writes only_if (empty ts) (done (nth return_words (pred d) ∷ [])) (by (nth return_words (pred d) ∷ []) (right 0 c) (done []))) ∷
    (kinds.IF writes by ('if' ∷ []) head (by [] whole (only_if (empty (rest (rest ts))) (done []) (by ('else' ∷ []) whole (done []))))) ∷
    (kinds.WHILE writes by ('while' ∷ []) head (by [] whole (done []))) ∷
    (kinds.FOR writes by ('for' ∷ []) whole (by ('in' ∷ []) head (by [] whole (done [])))) ∷
    (kinds.MATCH writes by ('match' ∷ []) head (ends_with (arms (open_brace ∷ []) (rest ts)) (cond (empty (rest ts)) (open_brace ∷ close_brace ∷ []) (close_brace ∷ [])))) ∷
    (kinds.ARM writes arm c.more v (rest ts)) ∷
    (kinds.VARIANT writes by [] whole (only_if (eqb v 0) (done []) (list_in open_paren close_paren whole (rest ts)))) ∷
    (kinds.BLOCK writes statements v (open_brace ∷ []) ts) ∷
    (kinds.RECORD writes only_if (eqb v 0) (list_in open_brace close_brace whole ts) (by [] whole (list_in open_brace close_brace whole (rest ts)))) ∷
    (kinds.FIELD writes by [] whole (by (':' ∷ []) whole (done []))) ∷
    (kinds.LET writes by ('let' ∷ []) whole (only_if (eqb v 0) (by ('=' ∷ []) whole (done (semicolon ∷ []))) (by (':' ∷ []) whole (by ('=' ∷ []) whole (done (semicolon ∷ [])))))) ∷
    (kinds.IMPORT writes by ('import' ∷ []) whole (done (semicolon ∷ []))) ∷
    (kinds.CONST writes by ('const' ∷ []) whole (by (':' ∷ []) whole (by ('=' ∷ []) whole (done (semicolon ∷ []))))) ∷
    (kinds.FN writes by ('fn' ∷ []) whole (ends_with (headed (eqb v 1) true (rest ts)) [])) ∷
    (kinds.TEST writes by ('test' ∷ []) whole (by [] whole (done []))) ∷
    (kinds.TREE writes ends_with (each [] whole ts) []) ∷
    (kinds.IMPORT_PATH writes imports true false ts) ∷
    (kinds.FILTER writes by (nth filter_words (pred d) ∷ []) whole (ends_with (headed false true (rest ts)) [])) ∷
    []

abbrev pub layout_in : List Entry → ℕ → Layout
layout_in [] k = done []
layout_in (x ∷ xs) k = let y = layout_in xs k in cond (eqb k x.kind) x.layout y

unfoldable pub layout : Place → Label → Forest → Layout
unfolding layouts
layout c a ts = layout_in (layouts c a.value a.detail ts) a.kind
