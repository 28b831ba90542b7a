-- Document 01's grammar, "What may consist of what", line by line and in its order.
-- A kind of phrase stands in capitals. `row k` makes a row of kind k of all that the phrase has up to there; `part` says
-- that the part is there of which the row's value tells; a kind of `rest_kinds` is no phrase of its own but the rest of one.
use Rattle.std.specs.Prelude.{List, [], ◌∷◌, ◌++◌, Bool, not, cond, ℕ}
use Rattle.rows.specs.Kinds as kinds
use Rattle.grammar.specs.Words.{name, underscore, f_quote, '=>', '&&', '||', '->', open_brace, close_brace, open_paren, close_paren, open_bracket, close_bracket, ':', semicolon, comma, dot, '=', '?', '!', '-', 'const', 'else', 'for', 'fn', 'if', 'import', 'in', 'let', 'match', 'test', 'while', names, path_items, literals, assign_signs, compare_signs, sum_signs, product_signs, return_words, filter_words, four_words}
use Rattle.grammar.specs.Grammar.{plain, has_value, opens_bracket, closes_bracket, is_prefix, is_head, is_else_if, same, body, Symbol, token, phrase, unless, note, left_side, text, Rule}
use Rattle.grammar.specs.Kinds.{records, no_records, TREE, DECLARATIONS, DECLARATION, PARAMS, RESULT, TYPED_NAMES, TYPED_NAMES_MORE, TYPED_NAME, NAME, IMPORT, IMPORTED, IMPORTPATH, IMPORTPATH_REST, IMPORTPATH_DOT, IMPORTPATHS, IMPORTPATHS_MORE, PATH_ITEM, PATH, PATH_REST, TYPE, TYPE_MARKS, TYPE_BASE, TYPE_BRACKETS, TYPES, TYPES_MORE, BLOCK, STATEMENTS, STATEMENT, AFTER_FOUR, AFTER_EXPR, LET, LET_TYPE, LITERAL, F_STRING, HOLE, PARENS, BRACES, BRACES_INSIDE, FIELDS, FIELDS_MORE, FIELD, FIELD_NAME, EXPRS, EXPRS_MORE, FOUR, ELSE, ELSE_PART, ELSE_IF, ARMS, ARM, ARM_BODY, ARM_NEXT, ARM_COMMA, GUARD, PATTERN, VARIANT, VARIANT_NAMES, NAMES, NAMES_MORE, EXPR, RETURNED, ASSIGNED, BINARY, OR_MORE, AND, AND_MORE, COMPARE, COMPARE_MORE, SUM, SUM_MORE, PRODUCT, PRODUCT_MORE, OPERAND, POSTFIX, AFTER_PATH}

-- A word; one of several words; a word that opens or closes a bracket; a prefix; a head's word; a literal.
abbrev pub word : ℕ → Symbol
word c = token plain (c ∷ [])

abbrev pub one : List ℕ → Symbol
one w = token plain w

abbrev pub opens : ℕ → Symbol
opens c = token opens_bracket (c ∷ [])

abbrev pub closes : ℕ → Symbol
closes c = token closes_bracket (c ∷ [])

abbrev pub prefix : List ℕ → Symbol
prefix w = token is_prefix w

abbrev pub head : ℕ → Symbol
head c = token is_head (c ∷ [])

abbrev pub literal : List ℕ → Symbol
literal w = token has_value w

-- A phrase of a kind; one that stands behind its parent's head.
abbrev pub a : ℕ → Symbol
a n = phrase same n

abbrev pub behind : ℕ → Symbol
behind n = phrase body n

-- Nothing at all.
abbrev pub nothing : List Symbol
nothing = []

-- A row; a literal's row, as its token says; the part of which a row's value tells.
abbrev pub row : ℕ → Symbol
row k = note k

abbrev pub literal_row : ℕ
literal_row = 100

abbrev pub part : Symbol
part = note 0

-- `KIND ⟶ alternative ∣ alternative ∣ alternative when condition`.
infix 70 ◌⟶◌
infixl 69 ◌∣◌ ◌∣◌when◌
abbrev pub ◌⟶◌ : ℕ → List Symbol → Rule
n ⟶ s = record { kind = n; alternatives = s ∷ [] }

abbrev pub ◌∣◌ : Rule → List Symbol → Rule
r ∣ s = record { kind = r.kind; alternatives = r.alternatives ++ (s ∷ []) }

abbrev pub ◌∣◌when◌ : Rule → List Symbol → Bool → Rule
r ∣ s when b = cond b (r ∣ s) r

-- "List" means comma-separated, may be empty, one trailing comma allowed after an item.
abbrev pub list_of : ℕ → ℕ → ℕ → List Rule
list_of ITEM LIST MORE =
    LIST ⟶ nothing ∣ (a ITEM ∷ a MORE ∷ []) ∷
    MORE ⟶ nothing ∣ (word comma ∷ a LIST ∷ []) ∷
    []

unfoldable pub lists : List Rule
lists = list_of TYPED_NAME TYPED_NAMES TYPED_NAMES_MORE ++ (list_of TYPE TYPES TYPES_MORE ++ (list_of (EXPR records) EXPRS EXPRS_MORE ++ (list_of FIELD FIELDS FIELDS_MORE ++ list_of NAME NAMES NAMES_MORE)))

-- Declarations: `const name : type = expr ;`; `fn name (params) [-> type] block`; `filter` or `filtermap name (params)
-- block`; `test name block`; `import importpath ;`. Params: list of `name : type`. (`tests`: `test` is a declaration.)
unfoldable pub declarations : Bool → List Rule
declarations tests =
    TREE ⟶ (a DECLARATIONS ∷ []) ∷
    DECLARATIONS ⟶ nothing ∣ (a DECLARATION ∷ a DECLARATIONS ∷ []) ∷
    DECLARATION ⟶ (word 'const' ∷ a NAME ∷ word ':' ∷ a TYPE ∷ word '=' ∷ a (EXPR records) ∷ word semicolon ∷ row kinds.CONST ∷ [])
    ∣ (word 'fn' ∷ a NAME ∷ a PARAMS ∷ a RESULT ∷ a BLOCK ∷ row kinds.FN ∷ [])
    ∣ (one filter_words ∷ a NAME ∷ a PARAMS ∷ a BLOCK ∷ row kinds.FILTER ∷ [])
    ∣ (a IMPORT ∷ [])
    ∣ (word 'test' ∷ a NAME ∷ a BLOCK ∷ row kinds.TEST ∷ []) when tests ∷
    PARAMS ⟶ (opens open_paren ∷ a TYPED_NAMES ∷ closes close_paren ∷ []) ∷
    RESULT ⟶ nothing ∣ (word '->' ∷ a TYPE ∷ part ∷ []) ∷
    TYPED_NAME ⟶ (a NAME ∷ word ':' ∷ a TYPE ∷ row kinds.TYPED_NAME ∷ []) ∷
    NAME ⟶ (one names ∷ row kinds.NAME ∷ []) ∷
    IMPORT ⟶ (word 'import' ∷ a IMPORTED ∷ word semicolon ∷ []) ∷
    []

-- Importpath: items joined by `.`, at the end perhaps `. { importpaths }`, one or more, no trailing comma.
-- Path items: a name, `pkg`, `dep`, `super`, `std`. A path is never followed by `.`.
unfoldable pub paths : List Rule
paths =
    IMPORTED ⟶ (a IMPORTPATH ∷ row kinds.IMPORT ∷ []) ∷
    IMPORTPATH ⟶ (a PATH_ITEM ∷ a IMPORTPATH_REST ∷ row kinds.IMPORT_PATH ∷ []) ∷
    IMPORTPATH_REST ⟶ nothing ∣ (word dot ∷ a IMPORTPATH_DOT ∷ []) ∷
    IMPORTPATH_DOT ⟶ (a PATH_ITEM ∷ a IMPORTPATH_REST ∷ [])
    ∣ (opens open_brace ∷ a IMPORTPATHS ∷ closes close_brace ∷ []) ∷
    IMPORTPATHS ⟶ (a IMPORTPATH ∷ a IMPORTPATHS_MORE ∷ []) ∷
    IMPORTPATHS_MORE ⟶ nothing ∣ (word comma ∷ a IMPORTPATHS ∷ []) ∷
    PATH_ITEM ⟶ (one path_items ∷ row kinds.NAME ∷ []) ∷
    PATH ⟶ (a PATH_ITEM ∷ a PATH_REST ∷ row kinds.PATH ∷ []) ∷
    PATH_REST ⟶ nothing ∣ (word dot ∷ a PATH_ITEM ∷ a PATH_REST ∷ []) ∷
    []

-- Type: `!`, `()`, `{ list of name : type }`, or a path with perhaps `[ list of types ]`; then any number of `?`.
unfoldable pub types : List Rule
types =
    TYPE ⟶ (a TYPE_BASE ∷ a TYPE_MARKS ∷ []) ∷
    TYPE_MARKS ⟶ nothing ∣ (word '?' ∷ row kinds.OPTION ∷ a TYPE_MARKS ∷ []) ∷
    TYPE_BASE ⟶ (word '!' ∷ row kinds.NEVER ∷ [])
    ∣ (opens open_paren ∷ closes close_paren ∷ row kinds.UNIT ∷ [])
    ∣ (opens open_brace ∷ a TYPED_NAMES ∷ closes close_brace ∷ row kinds.RECORD_TYPE ∷ [])
    ∣ (a PATH ∷ a TYPE_BRACKETS ∷ []) ∷
    TYPE_BRACKETS ⟶ (row kinds.PATH_TYPE ∷ [])
    ∣ (opens open_bracket ∷ a TYPES ∷ closes close_bracket ∷ part ∷ row kinds.PATH_TYPE ∷ []) ∷
    []

-- Block: `{ statements [last] }`. Statements: import; `let name [: type] = expr ;`; an `if`, `match`, `while` or `for`,
-- its `;` optional; another expr and `;`. No expr statement begins with those four words, nor a last expression unless
-- it is one of the four and no more. One of the four directly before `}` is the last expression.
unfoldable pub blocks : List Rule
blocks =
    BLOCK ⟶ (opens open_brace ∷ a STATEMENTS ∷ closes close_brace ∷ row kinds.BLOCK ∷ []) ∷
    STATEMENTS ⟶ nothing ∣ (a STATEMENT ∷ []) ∷
    STATEMENT ⟶ (a IMPORT ∷ a STATEMENTS ∷ [])
    ∣ (a LET ∷ a STATEMENTS ∷ [])
    ∣ (a FOUR ∷ a AFTER_FOUR ∷ [])
    ∣ (unless four_words ∷ a (EXPR records) ∷ a AFTER_EXPR ∷ []) ∷
    AFTER_FOUR ⟶ (part ∷ [])
    ∣ (word semicolon ∷ a STATEMENTS ∷ [])
    ∣ (a STATEMENT ∷ []) ∷
    AFTER_EXPR ⟶ (part ∷ [])
    ∣ (word semicolon ∷ a STATEMENTS ∷ []) ∷
    LET ⟶ (word 'let' ∷ a NAME ∷ a LET_TYPE ∷ word '=' ∷ a (EXPR records) ∷ word semicolon ∷ row kinds.LET ∷ []) ∷
    LET_TYPE ⟶ nothing ∣ (word ':' ∷ a TYPE ∷ part ∷ []) ∷
    []

-- After `if`, `while`, `in`, `match` the expr holds no record, except inside its own brackets: `r` says that it may.
unfoldable pub exprs : Bool → List Rule
exprs r =
    -- Expr: a return form, or binary, or path `=` binary, or path `+= -= *= /= %=` binary. The path may stand in any
    -- number of pairs of parentheses. `return`, `accept`, `reject` take an expr exactly when the next token can begin
    -- one: with no record allowed `{` stands next, which begins a block, so that there is always one.
    EXPR r ⟶ (prefix return_words ∷ a (RETURNED r) ∷ row kinds.RETURN ∷ [])
    ∣ (left_side (BINARY r) (ASSIGNED r) ∷ []) ∷
    RETURNED r ⟶ (a (EXPR r) ∷ [])
    ∣ nothing when r ∷
    ASSIGNED r ⟶ nothing ∣ (one assign_signs ∷ a (BINARY r) ∷ row kinds.ASSIGN ∷ []) ∷
    -- Binary, loosest first: `||`; `&&`; `== != < <= > >=`, not chained; `+ -`; `* / %`. The others group to the left.
    BINARY r ⟶ (a (AND r) ∷ a (OR_MORE r) ∷ []) ∷
    OR_MORE r ⟶ nothing ∣ (word '||' ∷ a (AND r) ∷ row kinds.BINARY ∷ a (OR_MORE r) ∷ []) ∷
    AND r ⟶ (a (COMPARE r) ∷ a (AND_MORE r) ∷ []) ∷
    AND_MORE r ⟶ nothing ∣ (word '&&' ∷ a (COMPARE r) ∷ row kinds.BINARY ∷ a (AND_MORE r) ∷ []) ∷
    COMPARE r ⟶ (a (SUM r) ∷ a (COMPARE_MORE r) ∷ []) ∷
    COMPARE_MORE r ⟶ nothing ∣ (one compare_signs ∷ a (SUM r) ∷ row kinds.BINARY ∷ []) ∷
    SUM r ⟶ (a (PRODUCT r) ∷ a (SUM_MORE r) ∷ []) ∷
    SUM_MORE r ⟶ nothing ∣ (one sum_signs ∷ a (PRODUCT r) ∷ row kinds.BINARY ∷ a (SUM_MORE r) ∷ []) ∷
    PRODUCT r ⟶ (a (OPERAND r) ∷ a (PRODUCT_MORE r) ∷ []) ∷
    PRODUCT_MORE r ⟶ nothing ∣ (one product_signs ∷ a (OPERAND r) ∷ row kinds.BINARY ∷ a (PRODUCT_MORE r) ∷ []) ∷
    -- Operand: any `!` or `-`, then an atom with any `?`, `( list of exprs )`, `. name`. Atom: literal, path, `( expr )`,
    -- one of the four, a block or `{ list of name : expr }` with one field or more, `path { list of name : expr }`.
    OPERAND r ⟶ (prefix ('!' ∷ []) ∷ a (OPERAND r) ∷ row kinds.NOT ∷ [])
    ∣ (prefix ('-' ∷ []) ∷ a (OPERAND r) ∷ row kinds.NEGATE ∷ [])
    ∣ (a LITERAL ∷ a (POSTFIX r) ∷ [])
    ∣ (a F_STRING ∷ a (POSTFIX r) ∷ [])
    ∣ (a PATH ∷ a (AFTER_PATH r) ∷ [])
    ∣ (a PARENS ∷ a (POSTFIX r) ∷ [])
    ∣ (a FOUR ∷ a (POSTFIX r) ∷ [])
    ∣ (a BRACES ∷ a (POSTFIX r) ∷ []) when r
    ∣ (a BLOCK ∷ a (POSTFIX r) ∷ []) when (not r) ∷
    POSTFIX r ⟶ nothing ∣ (word '?' ∷ row kinds.QUESTION ∷ a (POSTFIX r) ∷ [])
    ∣ (opens open_paren ∷ a EXPRS ∷ closes close_paren ∷ row kinds.CALL ∷ a (POSTFIX r) ∷ [])
    ∣ (word dot ∷ a NAME ∷ row kinds.ACCESS ∷ a (POSTFIX r) ∷ []) ∷
    AFTER_PATH r ⟶ nothing ∣ (word '?' ∷ row kinds.QUESTION ∷ a (POSTFIX r) ∷ [])
    ∣ (opens open_paren ∷ a EXPRS ∷ closes close_paren ∷ row kinds.CALL ∷ a (POSTFIX r) ∷ [])
    ∣ (opens open_brace ∷ a FIELDS ∷ closes close_brace ∷ part ∷ row kinds.RECORD ∷ a (POSTFIX r) ∷ []) when r ∷
    []

-- Atom: literal, path, `( expr )`, block, `if expr block [else block or if]`, `while expr block`, `for name in expr
-- block`, `match expr { arms }`, `path { list of name : expr }`, `{ list of name : expr }` with one field or more.
unfoldable pub atoms : List Rule
atoms =
    LITERAL ⟶ (literal literals ∷ row literal_row ∷ []) ∷
    F_STRING ⟶ (word f_quote ∷ text HOLE ∷ row kinds.F_STRING ∷ []) ∷
    HOLE ⟶ (opens open_brace ∷ a (EXPR records) ∷ closes close_brace ∷ text HOLE ∷ []) ∷
    PARENS ⟶ (opens open_paren ∷ a (EXPR records) ∷ closes close_paren ∷ []) ∷
    BRACES ⟶ (opens open_brace ∷ a BRACES_INSIDE ∷ []) ∷
    BRACES_INSIDE ⟶ (a FIELD ∷ a FIELDS_MORE ∷ closes close_brace ∷ row kinds.RECORD ∷ [])
    ∣ (a STATEMENTS ∷ closes close_brace ∷ row kinds.BLOCK ∷ []) ∷
    FIELD ⟶ (a FIELD_NAME ∷ word ':' ∷ a (EXPR records) ∷ row kinds.FIELD ∷ []) ∷
    FIELD_NAME ⟶ (one names ∷ row kinds.NAME ∷ []) ∷
    FOUR ⟶ (head 'if' ∷ a (EXPR no_records) ∷ behind BLOCK ∷ behind ELSE ∷ row kinds.IF ∷ [])
    ∣ (head 'while' ∷ a (EXPR no_records) ∷ behind BLOCK ∷ row kinds.WHILE ∷ [])
    ∣ (head 'for' ∷ a NAME ∷ word 'in' ∷ a (EXPR no_records) ∷ behind BLOCK ∷ row kinds.FOR ∷ [])
    ∣ (head 'match' ∷ a (EXPR no_records) ∷ opens open_brace ∷ behind ARMS ∷ closes close_brace ∷ row kinds.MATCH ∷ []) ∷
    ELSE ⟶ nothing ∣ (word 'else' ∷ a ELSE_PART ∷ []) ∷
    ELSE_PART ⟶ (a BLOCK ∷ [])
    ∣ (a ELSE_IF ∷ []) ∷
    ELSE_IF ⟶ (token is_else_if ('if' ∷ []) ∷ a (EXPR no_records) ∷ behind BLOCK ∷ behind ELSE ∷ row kinds.IF ∷ []) ∷
    []

-- Arm: a name other than `_` with perhaps `( list of names )`, or `_` alone; perhaps `if expr`; `=>`; a body. A body that
-- begins with `{` is a block, comma optional; another is an expr and needs a comma unless `}` follows. A match guard may
-- hold a record.
unfoldable pub arms : List Rule
arms =
    ARMS ⟶ nothing ∣ (a ARM ∷ []) ∷
    ARM ⟶ (a PATTERN ∷ a GUARD ∷ word '=>' ∷ a ARM_BODY ∷ []) ∷
    ARM_BODY ⟶ (a BLOCK ∷ row kinds.ARM ∷ a ARM_COMMA ∷ a ARMS ∷ [])
    ∣ (unless (open_brace ∷ []) ∷ a (EXPR records) ∷ row kinds.ARM ∷ a ARM_NEXT ∷ []) ∷
    ARM_NEXT ⟶ nothing ∣ (word comma ∷ a ARMS ∷ []) ∷
    ARM_COMMA ⟶ nothing ∣ (word comma ∷ []) ∷
    GUARD ⟶ nothing ∣ (word 'if' ∷ a (EXPR records) ∷ part ∷ []) ∷
    PATTERN ⟶ (a VARIANT ∷ a VARIANT_NAMES ∷ [])
    ∣ (word underscore ∷ row kinds.ANY ∷ []) ∷
    VARIANT ⟶ (word name ∷ row kinds.NAME ∷ []) ∷
    VARIANT_NAMES ⟶ (row kinds.VARIANT ∷ [])
    ∣ (opens open_paren ∷ a NAMES ∷ closes close_paren ∷ part ∷ row kinds.VARIANT ∷ []) ∷
    []

unfoldable pub rules : Bool → List Rule
unfolding lists declarations paths types blocks exprs atoms arms
rules tests = lists ++ (declarations tests ++ (paths ++ (types ++ (blocks ++ (exprs records ++ (exprs no_records ++ (atoms ++ arms)))))))

-- The rest of a phrase, and no phrase itself: what it has counts as the phrase's own.
abbrev pub rest_kinds : List ℕ
rest_kinds =
    DECLARATIONS ∷ PARAMS ∷ RESULT ∷ TYPED_NAMES ∷ TYPED_NAMES_MORE ∷ IMPORTPATH_REST ∷ IMPORTPATH_DOT ∷ IMPORTPATHS ∷ IMPORTPATHS_MORE ∷ PATH_REST ∷
    TYPE_MARKS ∷ TYPE_BRACKETS ∷ TYPES ∷ TYPES_MORE ∷ STATEMENTS ∷ STATEMENT ∷ AFTER_FOUR ∷ AFTER_EXPR ∷ LET_TYPE ∷
    RETURNED records ∷ ASSIGNED records ∷ OR_MORE records ∷ AND_MORE records ∷ COMPARE_MORE records ∷ SUM_MORE records ∷ PRODUCT_MORE records ∷ POSTFIX records ∷ AFTER_PATH records ∷
    RETURNED no_records ∷ ASSIGNED no_records ∷ OR_MORE no_records ∷ AND_MORE no_records ∷ COMPARE_MORE no_records ∷ SUM_MORE no_records ∷ PRODUCT_MORE no_records ∷ POSTFIX no_records ∷ AFTER_PATH no_records ∷
    HOLE ∷ BRACES_INSIDE ∷ FIELDS ∷ FIELDS_MORE ∷ EXPRS ∷ EXPRS_MORE ∷ ELSE ∷ ELSE_PART ∷ ARM_BODY ∷ ARM_NEXT ∷ ARM_COMMA ∷ GUARD ∷ VARIANT_NAMES ∷ NAMES ∷ NAMES_MORE ∷ []
