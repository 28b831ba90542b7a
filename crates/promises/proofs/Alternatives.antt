-- The alternatives of each kind, and which of them is taken at which words: computed.
-- `kind-any`: whatever stands there; `kind-on`: at one of these words; `kind-off`: at no one of them.
use mathlib.Core.Path.{◌≡◌, refl, sym, ◌∙◌, subst}
use mathlib.Core.List.{List, [], ◌∷◌, ◌++◌}
use mathlib.Core.Bool.{Bool, true, false, ◌&&◌, ◌||◌}
use mathlib.Core.Option.{none, some}
use mathlib.Core.Logic.{◌⊎◌, inl, inr, ◌≢◌}
use Prim.Native.Nat.{ℕ}
use lib.Dec.{T, eqb, eqb→eq}
use Rattle.rows.specs.Kinds as kinds
use Rattle.grammar.specs.Words.{name, underscore, f_quote, '=>', '&&', '||', '->', open_brace, close_brace, open_paren, close_paren, open_bracket, close_bracket, ':', semicolon, comma, dot, '=', '?', '!', '-', 'const', 'else', 'for', 'fn', 'if', 'import', 'in', 'let', 'match', 'pkg', 'dep', 'super', 'std', 'test', 'while', names, path_items, literals, assign_signs, compare_signs, sum_signs, product_signs, return_words, filter_words, four_words}
use Rattle.grammar.specs.Grammar.{is_else_if, Symbol, token, unless, left_side, found, one as one_seen, pair, one_of}
use Rattle.grammar.specs.Table.{word, one, opens, closes, prefix, head, literal, a, behind, nothing, row, literal_row, part, rest_kinds}
use Rattle.grammar.specs.Kinds.{records, no_records, TREE, DECLARATIONS, DECLARATION, PARAMS, RESULT, TYPED_NAMES, TYPED_NAMES_MORE, TYPED_NAME, NAME, IMPORT, IMPORTED, IMPORTPATH, IMPORTPATH_REST, IMPORTPATH_DOT, IMPORTPATHS, IMPORTPATHS_MORE, PATH_ITEM, PATH, PATH_REST, TYPE, TYPE_MARKS, TYPE_BASE, TYPE_BRACKETS, TYPES, TYPES_MORE, BLOCK, STATEMENTS, STATEMENT, AFTER_FOUR, AFTER_EXPR, LET, LET_TYPE, LITERAL, F_STRING, PARENS, BRACES, BRACES_INSIDE, FIELDS, FIELDS_MORE, FIELD, FIELD_NAME, EXPRS, EXPRS_MORE, FOUR, ELSE, ELSE_PART, ELSE_IF, ARMS, ARM, ARM_BODY, ARM_NEXT, ARM_COMMA, GUARD, PATTERN, VARIANT, VARIANT_NAMES, NAMES, NAMES_MORE, EXPR, RETURNED, ASSIGNED, BINARY, OR_MORE, AND, AND_MORE, COMPARE, COMPARE_MORE, SUM, SUM_MORE, PRODUCT, PRODUCT_MORE, OPERAND, POSTFIX, AFTER_PATH}
use Rattle.grammar.specs.Language.{roto}
use Rattle.grammar.specs.Choice.{flag, chosen}
use Rattle.grammar.specs.Readings.{peek}
use Rattle.grammar.specs.Runs.{view}
use Rattle.grammar.proofs.Bools.{and_l, and_r, or_l, or_r, or_cases}
use Rattle.grammar.proofs.Picked.{picks_on, picks_off, picks_by, one_place, pair_place}
use Rattle.answers.specs.Source.{source}
use Rattle.parser.specs.declared.Here.{Here}
use Rattle.parser.specs.Places.{word_of, next_of, passed}
use Rattle.parser.specs.Going.{language, token_of, Stands}
use Rattle.parser.proofs.Standing.{peeks, is_token, goes_past, solid_word, the_word}
use Rattle.parser.proofs.Picks.{On, Off}
use Rattle.promises.specs.Firsts.{operand_firsts, expr_firsts, type_firsts, statement_firsts, declaration_firsts, postfix_signs}

-- what an expr begins with that begins with none of the four words; with no `{`
abbrev pub plain_firsts : List ℕ
plain_firsts = return_words ++ ('!' ∷ '-' ∷ open_paren ∷ open_brace ∷ f_quote ∷ (literals ++ path_items))

abbrev pub braceless : List ℕ
braceless = return_words ++ ('!' ∷ '-' ∷ open_paren ∷ f_quote ∷ (literals ++ (path_items ++ four_words)))

-- what stands behind the `{` of a block, but for a name
abbrev pub inside_firsts : List ℕ
inside_firsts = close_brace ∷ 'import' ∷ 'let' ∷ (return_words ++ ('!' ∷ '-' ∷ open_paren ∷ open_brace ∷ f_quote ∷ 'pkg' ∷ 'dep' ∷ 'super' ∷ 'std' ∷ (literals ++ four_words)))

abbrev covers : List ℕ → List ℕ → Bool
covers [] v = true
covers (c ∷ w) v = one_of c v && covers w v

-- a word of these is a word of those; of these or of those
pub within : (x : ℕ) (w v : List ℕ) → T (covers w v) → T (one_of x w) → T (one_of x v)
within x [] v t m = absurd m
within x (c ∷ w) v t m = elim (or_cases (eqb x c) (one_of x w) m) [
  | inl e ↦ subst (λ (y : ℕ). T (one_of y v)) (sym (eqb→eq x c e)) (and_l (one_of c v) (covers w v) t)
  | inr k ↦ within x w v (and_r (one_of c v) (covers w v) t) k
]

pub of_two : (x : ℕ) (w v : List ℕ) → T (one_of x (w ++ v)) → T (one_of x w) ⊎ T (one_of x v)
of_two x [] v m = inr m
of_two x (c ∷ w) v m = elim (or_cases (eqb x c) (one_of x (w ++ v)) m) [
  | inl e ↦ inl (or_l (eqb x c) (one_of x w) e)
  | inr k ↦ elim (of_two x w v k) [ inl j ↦ inl (or_r (eqb x c) (one_of x w) j) | inr j ↦ inr j ]
]

pub but_for : (x : ℕ) (w u v : List ℕ) → T (covers w (u ++ v)) → T (one_of x w) → (T (one_of x u) → ⊥) → T (one_of x v)
but_for x w u v t m n = elim (of_two x u v (within x w (u ++ v) t m)) [ inl k ↦ absurd (n k) | inr k ↦ k ]

pub plain_first : (x : ℕ) → T (one_of x expr_firsts) → (T (one_of x four_words) → ⊥) → T (one_of x plain_firsts)
plain_first x = but_for x expr_firsts four_words plain_firsts tt

pub brace_less : (x : ℕ) → T (one_of x expr_firsts) → x ≢ 40 → T (one_of x braceless)
brace_less x m n = but_for x expr_firsts (open_brace ∷ []) braceless tt m (λ k. n (the_word {x = x} {c = 40} k))

-- TYPED-NAMES
abbrev pub typed_names_is : List Symbol
typed_names_is = a TYPED_NAME ∷ a TYPED_NAMES_MORE ∷ []

pub typed_names_on : On TYPED_NAMES (some typed_names_is) names
unfolding roto picks_on
typed_names_on = record { computed = tt }

pub typed_names_off : Off TYPED_NAMES (some nothing) names
unfolding roto picks_off
typed_names_off = record { computed = tt }

-- TYPED-NAMES-MORE
abbrev pub typed_names_more_is : List Symbol
typed_names_more_is = word comma ∷ a TYPED_NAMES ∷ []

pub typed_names_more_on : On TYPED_NAMES_MORE (some typed_names_more_is) (comma ∷ [])
unfolding roto picks_on
typed_names_more_on = record { computed = tt }

pub typed_names_more_off : Off TYPED_NAMES_MORE (some nothing) (comma ∷ [])
unfolding roto picks_off
typed_names_more_off = record { computed = tt }

-- TYPES
abbrev pub types_is : List Symbol
types_is = a TYPE ∷ a TYPES_MORE ∷ []

pub types_on : On TYPES (some types_is) type_firsts
unfolding roto picks_on
types_on = record { computed = tt }

pub types_off : Off TYPES (some nothing) type_firsts
unfolding roto picks_off
types_off = record { computed = tt }

-- TYPES-MORE
abbrev pub types_more_is : List Symbol
types_more_is = word comma ∷ a TYPES ∷ []

pub types_more_on : On TYPES_MORE (some types_more_is) (comma ∷ [])
unfolding roto picks_on
types_more_on = record { computed = tt }

pub types_more_off : Off TYPES_MORE (some nothing) (comma ∷ [])
unfolding roto picks_off
types_more_off = record { computed = tt }

-- EXPRS
abbrev pub exprs_is : List Symbol
exprs_is = a (EXPR records) ∷ a EXPRS_MORE ∷ []

pub exprs_on : On EXPRS (some exprs_is) expr_firsts
unfolding roto picks_on
exprs_on = record { computed = tt }

pub exprs_off : Off EXPRS (some nothing) expr_firsts
unfolding roto picks_off
exprs_off = record { computed = tt }

-- EXPRS-MORE
abbrev pub exprs_more_is : List Symbol
exprs_more_is = word comma ∷ a EXPRS ∷ []

pub exprs_more_on : On EXPRS_MORE (some exprs_more_is) (comma ∷ [])
unfolding roto picks_on
exprs_more_on = record { computed = tt }

pub exprs_more_off : Off EXPRS_MORE (some nothing) (comma ∷ [])
unfolding roto picks_off
exprs_more_off = record { computed = tt }

-- FIELDS
abbrev pub fields_is : List Symbol
fields_is = a FIELD ∷ a FIELDS_MORE ∷ []

pub fields_on : On FIELDS (some fields_is) names
unfolding roto picks_on
fields_on = record { computed = tt }

pub fields_off : Off FIELDS (some nothing) names
unfolding roto picks_off
fields_off = record { computed = tt }

-- FIELDS-MORE
abbrev pub fields_more_is : List Symbol
fields_more_is = word comma ∷ a FIELDS ∷ []

pub fields_more_on : On FIELDS_MORE (some fields_more_is) (comma ∷ [])
unfolding roto picks_on
fields_more_on = record { computed = tt }

pub fields_more_off : Off FIELDS_MORE (some nothing) (comma ∷ [])
unfolding roto picks_off
fields_more_off = record { computed = tt }

-- NAMES
abbrev pub names_is : List Symbol
names_is = a NAME ∷ a NAMES_MORE ∷ []

pub names_on : On NAMES (some names_is) names
unfolding roto picks_on
names_on = record { computed = tt }

pub names_off : Off NAMES (some nothing) names
unfolding roto picks_off
names_off = record { computed = tt }

-- NAMES-MORE
abbrev pub names_more_is : List Symbol
names_more_is = word comma ∷ a NAMES ∷ []

pub names_more_on : On NAMES_MORE (some names_more_is) (comma ∷ [])
unfolding roto picks_on
names_more_on = record { computed = tt }

pub names_more_off : Off NAMES_MORE (some nothing) (comma ∷ [])
unfolding roto picks_off
names_more_off = record { computed = tt }

-- TREE
abbrev pub tree_is : List Symbol
tree_is = a DECLARATIONS ∷ []

pub tree_any : Off TREE (some tree_is) []
unfolding roto picks_off
tree_any = record { computed = tt }

-- DECLARATIONS
abbrev pub declarations_is : List Symbol
declarations_is = a DECLARATION ∷ a DECLARATIONS ∷ []

pub declarations_on : On DECLARATIONS (some declarations_is) declaration_firsts
unfolding roto picks_on
declarations_on = record { computed = tt }

pub declarations_off : Off DECLARATIONS (some nothing) declaration_firsts
unfolding roto picks_off
declarations_off = record { computed = tt }

-- DECLARATION
abbrev pub declaration_const : List Symbol
declaration_const = word 'const' ∷ a NAME ∷ word ':' ∷ a TYPE ∷ word '=' ∷ a (EXPR records) ∷ word semicolon ∷ row kinds.CONST ∷ []

pub declaration_const_on : On DECLARATION (some declaration_const) ('const' ∷ [])
unfolding roto picks_on
declaration_const_on = record { computed = tt }

abbrev pub declaration_fn : List Symbol
declaration_fn = word 'fn' ∷ a NAME ∷ a PARAMS ∷ a RESULT ∷ a BLOCK ∷ row kinds.FN ∷ []

pub declaration_fn_on : On DECLARATION (some declaration_fn) ('fn' ∷ [])
unfolding roto picks_on
declaration_fn_on = record { computed = tt }

abbrev pub declaration_filter : List Symbol
declaration_filter = one filter_words ∷ a NAME ∷ a PARAMS ∷ a BLOCK ∷ row kinds.FILTER ∷ []

pub declaration_filter_on : On DECLARATION (some declaration_filter) filter_words
unfolding roto picks_on
declaration_filter_on = record { computed = tt }

abbrev pub declaration_import : List Symbol
declaration_import = a IMPORT ∷ []

pub declaration_import_on : On DECLARATION (some declaration_import) ('import' ∷ [])
unfolding roto picks_on
declaration_import_on = record { computed = tt }

abbrev pub declaration_test : List Symbol
declaration_test = word 'test' ∷ a NAME ∷ a BLOCK ∷ row kinds.TEST ∷ []

pub declaration_test_on : On DECLARATION (some declaration_test) ('test' ∷ [])
unfolding roto picks_on
declaration_test_on = record { computed = tt }

pub declaration_off : Off DECLARATION none declaration_firsts
unfolding roto picks_off
declaration_off = record { computed = tt }

-- PARAMS
abbrev pub params_is : List Symbol
params_is = opens open_paren ∷ a TYPED_NAMES ∷ closes close_paren ∷ []

pub params_any : Off PARAMS (some params_is) []
unfolding roto picks_off
params_any = record { computed = tt }

-- RESULT
abbrev pub result_is : List Symbol
result_is = word '->' ∷ a TYPE ∷ part ∷ []

pub result_on : On RESULT (some result_is) ('->' ∷ [])
unfolding roto picks_on
result_on = record { computed = tt }

pub result_off : Off RESULT (some nothing) ('->' ∷ [])
unfolding roto picks_off
result_off = record { computed = tt }

-- TYPED-NAME
abbrev pub typed_name_is : List Symbol
typed_name_is = a NAME ∷ word ':' ∷ a TYPE ∷ row kinds.TYPED_NAME ∷ []

pub typed_name_any : Off TYPED_NAME (some typed_name_is) []
unfolding roto picks_off
typed_name_any = record { computed = tt }

-- NAME
abbrev pub name_is : List Symbol
name_is = one names ∷ row kinds.NAME ∷ []

pub name_any : Off NAME (some name_is) []
unfolding roto picks_off
name_any = record { computed = tt }

-- IMPORT
abbrev pub import_is : List Symbol
import_is = word 'import' ∷ a IMPORTED ∷ word semicolon ∷ []

pub import_any : Off IMPORT (some import_is) []
unfolding roto picks_off
import_any = record { computed = tt }

-- IMPORTED
abbrev pub imported_is : List Symbol
imported_is = a IMPORTPATH ∷ row kinds.IMPORT ∷ []

pub imported_any : Off IMPORTED (some imported_is) []
unfolding roto picks_off
imported_any = record { computed = tt }

-- IMPORTPATH
abbrev pub importpath_is : List Symbol
importpath_is = a PATH_ITEM ∷ a IMPORTPATH_REST ∷ row kinds.IMPORT_PATH ∷ []

pub importpath_any : Off IMPORTPATH (some importpath_is) []
unfolding roto picks_off
importpath_any = record { computed = tt }

-- IMPORTPATH-REST
abbrev pub importpath_rest_is : List Symbol
importpath_rest_is = word dot ∷ a IMPORTPATH_DOT ∷ []

pub importpath_rest_on : On IMPORTPATH_REST (some importpath_rest_is) (dot ∷ [])
unfolding roto picks_on
importpath_rest_on = record { computed = tt }

pub importpath_rest_off : Off IMPORTPATH_REST (some nothing) (dot ∷ [])
unfolding roto picks_off
importpath_rest_off = record { computed = tt }

-- IMPORTPATH-DOT
abbrev pub importpath_dot_item : List Symbol
importpath_dot_item = a PATH_ITEM ∷ a IMPORTPATH_REST ∷ []

pub importpath_dot_item_on : On IMPORTPATH_DOT (some importpath_dot_item) path_items
unfolding roto picks_on
importpath_dot_item_on = record { computed = tt }

abbrev pub importpath_dot_group : List Symbol
importpath_dot_group = opens open_brace ∷ a IMPORTPATHS ∷ closes close_brace ∷ []

pub importpath_dot_group_on : On IMPORTPATH_DOT (some importpath_dot_group) (open_brace ∷ [])
unfolding roto picks_on
importpath_dot_group_on = record { computed = tt }

pub importpath_dot_off : Off IMPORTPATH_DOT none (open_brace ∷ path_items)
unfolding roto picks_off
importpath_dot_off = record { computed = tt }

-- IMPORTPATHS
abbrev pub importpaths_is : List Symbol
importpaths_is = a IMPORTPATH ∷ a IMPORTPATHS_MORE ∷ []

pub importpaths_any : Off IMPORTPATHS (some importpaths_is) []
unfolding roto picks_off
importpaths_any = record { computed = tt }

-- IMPORTPATHS-MORE
abbrev pub importpaths_more_is : List Symbol
importpaths_more_is = word comma ∷ a IMPORTPATHS ∷ []

pub importpaths_more_on : On IMPORTPATHS_MORE (some importpaths_more_is) (comma ∷ [])
unfolding roto picks_on
importpaths_more_on = record { computed = tt }

pub importpaths_more_off : Off IMPORTPATHS_MORE (some nothing) (comma ∷ [])
unfolding roto picks_off
importpaths_more_off = record { computed = tt }

-- PATH-ITEM
abbrev pub path_item_is : List Symbol
path_item_is = one path_items ∷ row kinds.NAME ∷ []

pub path_item_any : Off PATH_ITEM (some path_item_is) []
unfolding roto picks_off
path_item_any = record { computed = tt }

-- PATH
abbrev pub path_is : List Symbol
path_is = a PATH_ITEM ∷ a PATH_REST ∷ row kinds.PATH ∷ []

pub path_any : Off PATH (some path_is) []
unfolding roto picks_off
path_any = record { computed = tt }

-- PATH-REST
abbrev pub path_rest_is : List Symbol
path_rest_is = word dot ∷ a PATH_ITEM ∷ a PATH_REST ∷ []

pub path_rest_on : On PATH_REST (some path_rest_is) (dot ∷ [])
unfolding roto picks_on
path_rest_on = record { computed = tt }

pub path_rest_off : Off PATH_REST (some nothing) (dot ∷ [])
unfolding roto picks_off
path_rest_off = record { computed = tt }

-- TYPE
abbrev pub type_is : List Symbol
type_is = a TYPE_BASE ∷ a TYPE_MARKS ∷ []

pub type_any : Off TYPE (some type_is) []
unfolding roto picks_off
type_any = record { computed = tt }

-- TYPE-MARKS
abbrev pub type_marks_is : List Symbol
type_marks_is = word '?' ∷ row kinds.OPTION ∷ a TYPE_MARKS ∷ []

pub type_marks_on : On TYPE_MARKS (some type_marks_is) ('?' ∷ [])
unfolding roto picks_on
type_marks_on = record { computed = tt }

pub type_marks_off : Off TYPE_MARKS (some nothing) ('?' ∷ [])
unfolding roto picks_off
type_marks_off = record { computed = tt }

-- TYPE-BASE
abbrev pub type_base_never : List Symbol
type_base_never = word '!' ∷ row kinds.NEVER ∷ []

pub type_base_never_on : On TYPE_BASE (some type_base_never) ('!' ∷ [])
unfolding roto picks_on
type_base_never_on = record { computed = tt }

abbrev pub type_base_unit : List Symbol
type_base_unit = opens open_paren ∷ closes close_paren ∷ row kinds.UNIT ∷ []

pub type_base_unit_on : On TYPE_BASE (some type_base_unit) (open_paren ∷ [])
unfolding roto picks_on
type_base_unit_on = record { computed = tt }

abbrev pub type_base_record : List Symbol
type_base_record = opens open_brace ∷ a TYPED_NAMES ∷ closes close_brace ∷ row kinds.RECORD_TYPE ∷ []

pub type_base_record_on : On TYPE_BASE (some type_base_record) (open_brace ∷ [])
unfolding roto picks_on
type_base_record_on = record { computed = tt }

abbrev pub type_base_path : List Symbol
type_base_path = a PATH ∷ a TYPE_BRACKETS ∷ []

pub type_base_path_on : On TYPE_BASE (some type_base_path) path_items
unfolding roto picks_on
type_base_path_on = record { computed = tt }

pub type_base_off : Off TYPE_BASE none type_firsts
unfolding roto picks_off
type_base_off = record { computed = tt }

-- TYPE-BRACKETS
abbrev pub type_brackets_is : List Symbol
type_brackets_is = opens open_bracket ∷ a TYPES ∷ closes close_bracket ∷ part ∷ row kinds.PATH_TYPE ∷ []

pub type_brackets_on : On TYPE_BRACKETS (some type_brackets_is) (open_bracket ∷ [])
unfolding roto picks_on
type_brackets_on = record { computed = tt }

abbrev pub type_brackets_none : List Symbol
type_brackets_none = row kinds.PATH_TYPE ∷ []

pub type_brackets_off : Off TYPE_BRACKETS (some type_brackets_none) (open_bracket ∷ [])
unfolding roto picks_off
type_brackets_off = record { computed = tt }

-- BLOCK
abbrev pub block_is : List Symbol
block_is = opens open_brace ∷ a STATEMENTS ∷ closes close_brace ∷ row kinds.BLOCK ∷ []

pub block_any : Off BLOCK (some block_is) []
unfolding roto picks_off
block_any = record { computed = tt }

-- STATEMENTS
abbrev pub statements_is : List Symbol
statements_is = a STATEMENT ∷ []

pub statements_on : On STATEMENTS (some statements_is) statement_firsts
unfolding roto picks_on
statements_on = record { computed = tt }

pub statements_off : Off STATEMENTS (some nothing) statement_firsts
unfolding roto picks_off
statements_off = record { computed = tt }

-- STATEMENT
abbrev pub statement_import : List Symbol
statement_import = a IMPORT ∷ a STATEMENTS ∷ []

pub statement_import_on : On STATEMENT (some statement_import) ('import' ∷ [])
unfolding roto picks_on
statement_import_on = record { computed = tt }

abbrev pub statement_let : List Symbol
statement_let = a LET ∷ a STATEMENTS ∷ []

pub statement_let_on : On STATEMENT (some statement_let) ('let' ∷ [])
unfolding roto picks_on
statement_let_on = record { computed = tt }

abbrev pub statement_four : List Symbol
statement_four = a FOUR ∷ a AFTER_FOUR ∷ []

pub statement_four_on : On STATEMENT (some statement_four) four_words
unfolding roto picks_on
statement_four_on = record { computed = tt }

abbrev pub statement_expr : List Symbol
statement_expr = unless four_words ∷ a (EXPR records) ∷ a AFTER_EXPR ∷ []

pub statement_expr_on : On STATEMENT (some statement_expr) plain_firsts
unfolding roto picks_on
statement_expr_on = record { computed = tt }

pub statement_off : Off STATEMENT none statement_firsts
unfolding roto picks_off
statement_off = record { computed = tt }

-- AFTER-FOUR
abbrev pub after_four_semicolon : List Symbol
after_four_semicolon = word semicolon ∷ a STATEMENTS ∷ []

pub after_four_semicolon_on : On AFTER_FOUR (some after_four_semicolon) (semicolon ∷ [])
unfolding roto picks_on
after_four_semicolon_on = record { computed = tt }

abbrev pub after_four_more : List Symbol
after_four_more = a STATEMENT ∷ []

pub after_four_more_on : On AFTER_FOUR (some after_four_more) statement_firsts
unfolding roto picks_on
after_four_more_on = record { computed = tt }

abbrev pub after_four_last : List Symbol
after_four_last = part ∷ []

pub after_four_off : Off AFTER_FOUR (some after_four_last) (semicolon ∷ statement_firsts)
unfolding roto picks_off
after_four_off = record { computed = tt }

-- AFTER-EXPR
abbrev pub after_expr_is : List Symbol
after_expr_is = word semicolon ∷ a STATEMENTS ∷ []

pub after_expr_on : On AFTER_EXPR (some after_expr_is) (semicolon ∷ [])
unfolding roto picks_on
after_expr_on = record { computed = tt }

abbrev pub after_expr_last : List Symbol
after_expr_last = part ∷ []

pub after_expr_off : Off AFTER_EXPR (some after_expr_last) (semicolon ∷ [])
unfolding roto picks_off
after_expr_off = record { computed = tt }

-- LET
abbrev pub let_is : List Symbol
let_is = word 'let' ∷ a NAME ∷ a LET_TYPE ∷ word '=' ∷ a (EXPR records) ∷ word semicolon ∷ row kinds.LET ∷ []

pub let_any : Off LET (some let_is) []
unfolding roto picks_off
let_any = record { computed = tt }

-- LET-TYPE
abbrev pub let_type_is : List Symbol
let_type_is = word ':' ∷ a TYPE ∷ part ∷ []

pub let_type_on : On LET_TYPE (some let_type_is) (':' ∷ [])
unfolding roto picks_on
let_type_on = record { computed = tt }

pub let_type_off : Off LET_TYPE (some nothing) (':' ∷ [])
unfolding roto picks_off
let_type_off = record { computed = tt }

-- LITERAL
abbrev pub literal_is : List Symbol
literal_is = literal literals ∷ row literal_row ∷ []

pub literal_any : Off LITERAL (some literal_is) []
unfolding roto picks_off
literal_any = record { computed = tt }

-- PARENS
abbrev pub parens_is : List Symbol
parens_is = opens open_paren ∷ a (EXPR records) ∷ closes close_paren ∷ []

pub parens_any : Off PARENS (some parens_is) []
unfolding roto picks_off
parens_any = record { computed = tt }

-- BRACES
abbrev pub braces_is : List Symbol
braces_is = opens open_brace ∷ a BRACES_INSIDE ∷ []

pub braces_any : Off BRACES (some braces_is) []
unfolding roto picks_off
braces_any = record { computed = tt }

-- FIELD
abbrev pub field_is : List Symbol
field_is = a FIELD_NAME ∷ word ':' ∷ a (EXPR records) ∷ row kinds.FIELD ∷ []

pub field_any : Off FIELD (some field_is) []
unfolding roto picks_off
field_any = record { computed = tt }

-- FIELD-NAME
abbrev pub field_name_is : List Symbol
field_name_is = one names ∷ row kinds.NAME ∷ []

pub field_name_any : Off FIELD_NAME (some field_name_is) []
unfolding roto picks_off
field_name_any = record { computed = tt }

-- FOUR
abbrev pub four_if : List Symbol
four_if = head 'if' ∷ a (EXPR no_records) ∷ behind BLOCK ∷ behind ELSE ∷ row kinds.IF ∷ []

pub four_if_on : On FOUR (some four_if) ('if' ∷ [])
unfolding roto picks_on
four_if_on = record { computed = tt }

abbrev pub four_while : List Symbol
four_while = head 'while' ∷ a (EXPR no_records) ∷ behind BLOCK ∷ row kinds.WHILE ∷ []

pub four_while_on : On FOUR (some four_while) ('while' ∷ [])
unfolding roto picks_on
four_while_on = record { computed = tt }

abbrev pub four_for : List Symbol
four_for = head 'for' ∷ a NAME ∷ word 'in' ∷ a (EXPR no_records) ∷ behind BLOCK ∷ row kinds.FOR ∷ []

pub four_for_on : On FOUR (some four_for) ('for' ∷ [])
unfolding roto picks_on
four_for_on = record { computed = tt }

abbrev pub four_match : List Symbol
four_match = head 'match' ∷ a (EXPR no_records) ∷ opens open_brace ∷ behind ARMS ∷ closes close_brace ∷ row kinds.MATCH ∷ []

pub four_match_on : On FOUR (some four_match) ('match' ∷ [])
unfolding roto picks_on
four_match_on = record { computed = tt }

pub four_off : Off FOUR none four_words
unfolding roto picks_off
four_off = record { computed = tt }

-- ELSE
abbrev pub else_is : List Symbol
else_is = word 'else' ∷ a ELSE_PART ∷ []

pub else_on : On ELSE (some else_is) ('else' ∷ [])
unfolding roto picks_on
else_on = record { computed = tt }

pub else_off : Off ELSE (some nothing) ('else' ∷ [])
unfolding roto picks_off
else_off = record { computed = tt }

-- ELSE-PART
abbrev pub elses_block : List Symbol
elses_block = a BLOCK ∷ []

pub elses_block_on : On ELSE_PART (some elses_block) (open_brace ∷ [])
unfolding roto picks_on
elses_block_on = record { computed = tt }

abbrev pub elses_if : List Symbol
elses_if = a ELSE_IF ∷ []

pub elses_if_on : On ELSE_PART (some elses_if) ('if' ∷ [])
unfolding roto picks_on
elses_if_on = record { computed = tt }

pub elses_off : Off ELSE_PART none ('if' ∷ open_brace ∷ [])
unfolding roto picks_off
elses_off = record { computed = tt }

-- ELSE-IF
abbrev pub else_if_is : List Symbol
else_if_is = token is_else_if ('if' ∷ []) ∷ a (EXPR no_records) ∷ behind BLOCK ∷ behind ELSE ∷ row kinds.IF ∷ []

pub else_if_any : Off ELSE_IF (some else_if_is) []
unfolding roto picks_off
else_if_any = record { computed = tt }

-- ARMS
abbrev pub arms_is : List Symbol
arms_is = a ARM ∷ []

pub arms_on : On ARMS (some arms_is) names
unfolding roto picks_on
arms_on = record { computed = tt }

pub arms_off : Off ARMS (some nothing) names
unfolding roto picks_off
arms_off = record { computed = tt }

-- ARM
abbrev pub arm_is : List Symbol
arm_is = a PATTERN ∷ a GUARD ∷ word '=>' ∷ a ARM_BODY ∷ []

pub arm_any : Off ARM (some arm_is) []
unfolding roto picks_off
arm_any = record { computed = tt }

-- ARM-BODY
abbrev pub arm_block : List Symbol
arm_block = a BLOCK ∷ row kinds.ARM ∷ a ARM_COMMA ∷ a ARMS ∷ []

pub arm_block_on : On ARM_BODY (some arm_block) (open_brace ∷ [])
unfolding roto picks_on
arm_block_on = record { computed = tt }

abbrev pub arm_expr : List Symbol
arm_expr = unless (open_brace ∷ []) ∷ a (EXPR records) ∷ row kinds.ARM ∷ a ARM_NEXT ∷ []

pub arm_expr_on : On ARM_BODY (some arm_expr) braceless
unfolding roto picks_on
arm_expr_on = record { computed = tt }

pub arm_off : Off ARM_BODY none expr_firsts
unfolding roto picks_off
arm_off = record { computed = tt }

-- ARM-NEXT
abbrev pub arm_next_is : List Symbol
arm_next_is = word comma ∷ a ARMS ∷ []

pub arm_next_on : On ARM_NEXT (some arm_next_is) (comma ∷ [])
unfolding roto picks_on
arm_next_on = record { computed = tt }

pub arm_next_off : Off ARM_NEXT (some nothing) (comma ∷ [])
unfolding roto picks_off
arm_next_off = record { computed = tt }

-- ARM-COMMA
abbrev pub arm_comma_is : List Symbol
arm_comma_is = word comma ∷ []

pub arm_comma_on : On ARM_COMMA (some arm_comma_is) (comma ∷ [])
unfolding roto picks_on
arm_comma_on = record { computed = tt }

pub arm_comma_off : Off ARM_COMMA (some nothing) (comma ∷ [])
unfolding roto picks_off
arm_comma_off = record { computed = tt }

-- GUARD
abbrev pub guard_is : List Symbol
guard_is = word 'if' ∷ a (EXPR records) ∷ part ∷ []

pub guard_on : On GUARD (some guard_is) ('if' ∷ [])
unfolding roto picks_on
guard_on = record { computed = tt }

pub guard_off : Off GUARD (some nothing) ('if' ∷ [])
unfolding roto picks_off
guard_off = record { computed = tt }

-- PATTERN
abbrev pub pattern_variant : List Symbol
pattern_variant = a VARIANT ∷ a VARIANT_NAMES ∷ []

pub pattern_variant_on : On PATTERN (some pattern_variant) (name ∷ [])
unfolding roto picks_on
pattern_variant_on = record { computed = tt }

abbrev pub pattern_underscore : List Symbol
pattern_underscore = word underscore ∷ row kinds.ANY ∷ []

pub pattern_underscore_on : On PATTERN (some pattern_underscore) (underscore ∷ [])
unfolding roto picks_on
pattern_underscore_on = record { computed = tt }

pub pattern_off : Off PATTERN none names
unfolding roto picks_off
pattern_off = record { computed = tt }

-- VARIANT
abbrev pub variant_is : List Symbol
variant_is = word name ∷ row kinds.NAME ∷ []

pub variant_any : Off VARIANT (some variant_is) []
unfolding roto picks_off
variant_any = record { computed = tt }

-- VARIANT-NAMES
abbrev pub variant_names_is : List Symbol
variant_names_is = opens open_paren ∷ a NAMES ∷ closes close_paren ∷ part ∷ row kinds.VARIANT ∷ []

pub variant_names_on : On VARIANT_NAMES (some variant_names_is) (open_paren ∷ [])
unfolding roto picks_on
variant_names_on = record { computed = tt }

abbrev pub variant_names_none : List Symbol
variant_names_none = row kinds.VARIANT ∷ []

pub variant_names_off : Off VARIANT_NAMES (some variant_names_none) (open_paren ∷ [])
unfolding roto picks_off
variant_names_off = record { computed = tt }

-- EXPR
abbrev pub expr_return : Bool → List Symbol
expr_return b = prefix return_words ∷ a (RETURNED b) ∷ row kinds.RETURN ∷ []

pub expr_return_on : (b : Bool) → On (EXPR b) (some (expr_return b)) return_words
unfolding roto picks_on
expr_return_on true = record { computed = tt }
expr_return_on false = record { computed = tt }

abbrev pub expr_side : Bool → List Symbol
expr_side b = left_side (BINARY b) (ASSIGNED b) ∷ []

pub expr_side_on : (b : Bool) → On (EXPR b) (some (expr_side b)) operand_firsts
unfolding roto picks_on
expr_side_on true = record { computed = tt }
expr_side_on false = record { computed = tt }

pub expr_off : (b : Bool) → Off (EXPR b) none expr_firsts
unfolding roto picks_off
expr_off true = record { computed = tt }
expr_off false = record { computed = tt }

-- RETURNED: without records always an expr
abbrev pub returned_is : Bool → List Symbol
returned_is b = a (EXPR b) ∷ []

pub returned_on : On (RETURNED true) (some (returned_is true)) expr_firsts
unfolding roto picks_on
returned_on = record { computed = tt }

pub returned_off : Off (RETURNED true) (some nothing) expr_firsts
unfolding roto picks_off
returned_off = record { computed = tt }

pub returned_any : Off (RETURNED false) (some (returned_is false)) []
unfolding roto picks_off
returned_any = record { computed = tt }

-- ASSIGNED
abbrev pub assigned_is : Bool → List Symbol
assigned_is b = one assign_signs ∷ a (BINARY b) ∷ row kinds.ASSIGN ∷ []

pub assigned_on : (b : Bool) → On (ASSIGNED b) (some (assigned_is b)) assign_signs
unfolding roto picks_on
assigned_on true = record { computed = tt }
assigned_on false = record { computed = tt }

pub assigned_off : (b : Bool) → Off (ASSIGNED b) (some nothing) assign_signs
unfolding roto picks_off
assigned_off true = record { computed = tt }
assigned_off false = record { computed = tt }

-- BINARY
abbrev pub binary_is : Bool → List Symbol
binary_is b = a (AND b) ∷ a (OR_MORE b) ∷ []

pub binary_any : (b : Bool) → Off (BINARY b) (some (binary_is b)) []
unfolding roto picks_off
binary_any true = record { computed = tt }
binary_any false = record { computed = tt }

-- OR-MORE
abbrev pub or_more_is : Bool → List Symbol
or_more_is b = word '||' ∷ a (AND b) ∷ row kinds.BINARY ∷ a (OR_MORE b) ∷ []

pub or_more_on : (b : Bool) → On (OR_MORE b) (some (or_more_is b)) ('||' ∷ [])
unfolding roto picks_on
or_more_on true = record { computed = tt }
or_more_on false = record { computed = tt }

pub or_more_off : (b : Bool) → Off (OR_MORE b) (some nothing) ('||' ∷ [])
unfolding roto picks_off
or_more_off true = record { computed = tt }
or_more_off false = record { computed = tt }

-- AND
abbrev pub and_is : Bool → List Symbol
and_is b = a (COMPARE b) ∷ a (AND_MORE b) ∷ []

pub and_any : (b : Bool) → Off (AND b) (some (and_is b)) []
unfolding roto picks_off
and_any true = record { computed = tt }
and_any false = record { computed = tt }

-- AND-MORE
abbrev pub and_more_is : Bool → List Symbol
and_more_is b = word '&&' ∷ a (COMPARE b) ∷ row kinds.BINARY ∷ a (AND_MORE b) ∷ []

pub and_more_on : (b : Bool) → On (AND_MORE b) (some (and_more_is b)) ('&&' ∷ [])
unfolding roto picks_on
and_more_on true = record { computed = tt }
and_more_on false = record { computed = tt }

pub and_more_off : (b : Bool) → Off (AND_MORE b) (some nothing) ('&&' ∷ [])
unfolding roto picks_off
and_more_off true = record { computed = tt }
and_more_off false = record { computed = tt }

-- COMPARE
abbrev pub compare_is : Bool → List Symbol
compare_is b = a (SUM b) ∷ a (COMPARE_MORE b) ∷ []

pub compare_any : (b : Bool) → Off (COMPARE b) (some (compare_is b)) []
unfolding roto picks_off
compare_any true = record { computed = tt }
compare_any false = record { computed = tt }

-- COMPARE-MORE
abbrev pub compare_more_is : Bool → List Symbol
compare_more_is b = one compare_signs ∷ a (SUM b) ∷ row kinds.BINARY ∷ []

pub compare_more_on : (b : Bool) → On (COMPARE_MORE b) (some (compare_more_is b)) compare_signs
unfolding roto picks_on
compare_more_on true = record { computed = tt }
compare_more_on false = record { computed = tt }

pub compare_more_off : (b : Bool) → Off (COMPARE_MORE b) (some nothing) compare_signs
unfolding roto picks_off
compare_more_off true = record { computed = tt }
compare_more_off false = record { computed = tt }

-- SUM
abbrev pub sum_is : Bool → List Symbol
sum_is b = a (PRODUCT b) ∷ a (SUM_MORE b) ∷ []

pub sum_any : (b : Bool) → Off (SUM b) (some (sum_is b)) []
unfolding roto picks_off
sum_any true = record { computed = tt }
sum_any false = record { computed = tt }

-- SUM-MORE
abbrev pub sum_more_is : Bool → List Symbol
sum_more_is b = one sum_signs ∷ a (PRODUCT b) ∷ row kinds.BINARY ∷ a (SUM_MORE b) ∷ []

pub sum_more_on : (b : Bool) → On (SUM_MORE b) (some (sum_more_is b)) sum_signs
unfolding roto picks_on
sum_more_on true = record { computed = tt }
sum_more_on false = record { computed = tt }

pub sum_more_off : (b : Bool) → Off (SUM_MORE b) (some nothing) sum_signs
unfolding roto picks_off
sum_more_off true = record { computed = tt }
sum_more_off false = record { computed = tt }

-- PRODUCT
abbrev pub product_is : Bool → List Symbol
product_is b = a (OPERAND b) ∷ a (PRODUCT_MORE b) ∷ []

pub product_any : (b : Bool) → Off (PRODUCT b) (some (product_is b)) []
unfolding roto picks_off
product_any true = record { computed = tt }
product_any false = record { computed = tt }

-- PRODUCT-MORE
abbrev pub product_more_is : Bool → List Symbol
product_more_is b = one product_signs ∷ a (OPERAND b) ∷ row kinds.BINARY ∷ a (PRODUCT_MORE b) ∷ []

pub product_more_on : (b : Bool) → On (PRODUCT_MORE b) (some (product_more_is b)) product_signs
unfolding roto picks_on
product_more_on true = record { computed = tt }
product_more_on false = record { computed = tt }

pub product_more_off : (b : Bool) → Off (PRODUCT_MORE b) (some nothing) product_signs
unfolding roto picks_off
product_more_off true = record { computed = tt }
product_more_off false = record { computed = tt }

-- OPERAND
abbrev pub operand_not : Bool → List Symbol
operand_not b = prefix ('!' ∷ []) ∷ a (OPERAND b) ∷ row kinds.NOT ∷ []

pub operand_not_on : (b : Bool) → On (OPERAND b) (some (operand_not b)) ('!' ∷ [])
unfolding roto picks_on
operand_not_on true = record { computed = tt }
operand_not_on false = record { computed = tt }

abbrev pub operand_minus : Bool → List Symbol
operand_minus b = prefix ('-' ∷ []) ∷ a (OPERAND b) ∷ row kinds.NEGATE ∷ []

pub operand_minus_on : (b : Bool) → On (OPERAND b) (some (operand_minus b)) ('-' ∷ [])
unfolding roto picks_on
operand_minus_on true = record { computed = tt }
operand_minus_on false = record { computed = tt }

abbrev pub operand_literal : Bool → List Symbol
operand_literal b = a LITERAL ∷ a (POSTFIX b) ∷ []

pub operand_literal_on : (b : Bool) → On (OPERAND b) (some (operand_literal b)) literals
unfolding roto picks_on
operand_literal_on true = record { computed = tt }
operand_literal_on false = record { computed = tt }

abbrev pub operand_string : Bool → List Symbol
operand_string b = a F_STRING ∷ a (POSTFIX b) ∷ []

pub operand_string_on : (b : Bool) → On (OPERAND b) (some (operand_string b)) (f_quote ∷ [])
unfolding roto picks_on
operand_string_on true = record { computed = tt }
operand_string_on false = record { computed = tt }

abbrev pub operand_path : Bool → List Symbol
operand_path b = a PATH ∷ a (AFTER_PATH b) ∷ []

pub operand_path_on : (b : Bool) → On (OPERAND b) (some (operand_path b)) path_items
unfolding roto picks_on
operand_path_on true = record { computed = tt }
operand_path_on false = record { computed = tt }

abbrev pub operand_parens : Bool → List Symbol
operand_parens b = a PARENS ∷ a (POSTFIX b) ∷ []

pub operand_parens_on : (b : Bool) → On (OPERAND b) (some (operand_parens b)) (open_paren ∷ [])
unfolding roto picks_on
operand_parens_on true = record { computed = tt }
operand_parens_on false = record { computed = tt }

abbrev pub operand_four : Bool → List Symbol
operand_four b = a FOUR ∷ a (POSTFIX b) ∷ []

pub operand_four_on : (b : Bool) → On (OPERAND b) (some (operand_four b)) four_words
unfolding roto picks_on
operand_four_on true = record { computed = tt }
operand_four_on false = record { computed = tt }

pub operand_off : (b : Bool) → Off (OPERAND b) none operand_firsts
unfolding roto picks_off
operand_off true = record { computed = tt }
operand_off false = record { computed = tt }

abbrev pub operand_braces : List Symbol
operand_braces = a BRACES ∷ a (POSTFIX records) ∷ []

pub operand_braces_on : On (OPERAND true) (some operand_braces) (open_brace ∷ [])
unfolding roto picks_on
operand_braces_on = record { computed = tt }

abbrev pub operand_block : List Symbol
operand_block = a BLOCK ∷ a (POSTFIX no_records) ∷ []

pub operand_block_on : On (OPERAND false) (some operand_block) (open_brace ∷ [])
unfolding roto picks_on
operand_block_on = record { computed = tt }

-- POSTFIX
abbrev pub postfix_question : Bool → List Symbol
postfix_question b = word '?' ∷ row kinds.QUESTION ∷ a (POSTFIX b) ∷ []

pub postfix_question_on : (b : Bool) → On (POSTFIX b) (some (postfix_question b)) ('?' ∷ [])
unfolding roto picks_on
postfix_question_on true = record { computed = tt }
postfix_question_on false = record { computed = tt }

abbrev pub postfix_call : Bool → List Symbol
postfix_call b = opens open_paren ∷ a EXPRS ∷ closes close_paren ∷ row kinds.CALL ∷ a (POSTFIX b) ∷ []

pub postfix_call_on : (b : Bool) → On (POSTFIX b) (some (postfix_call b)) (open_paren ∷ [])
unfolding roto picks_on
postfix_call_on true = record { computed = tt }
postfix_call_on false = record { computed = tt }

abbrev pub postfix_access : Bool → List Symbol
postfix_access b = word dot ∷ a NAME ∷ row kinds.ACCESS ∷ a (POSTFIX b) ∷ []

pub postfix_access_on : (b : Bool) → On (POSTFIX b) (some (postfix_access b)) (dot ∷ [])
unfolding roto picks_on
postfix_access_on true = record { computed = tt }
postfix_access_on false = record { computed = tt }

pub postfix_off : (b : Bool) → Off (POSTFIX b) (some nothing) postfix_signs
unfolding roto picks_off
postfix_off true = record { computed = tt }
postfix_off false = record { computed = tt }

-- AFTER-PATH
abbrev pub after_path_question : Bool → List Symbol
after_path_question b = word '?' ∷ row kinds.QUESTION ∷ a (POSTFIX b) ∷ []

pub after_path_question_on : (b : Bool) → On (AFTER_PATH b) (some (after_path_question b)) ('?' ∷ [])
unfolding roto picks_on
after_path_question_on true = record { computed = tt }
after_path_question_on false = record { computed = tt }

abbrev pub after_path_call : Bool → List Symbol
after_path_call b = opens open_paren ∷ a EXPRS ∷ closes close_paren ∷ row kinds.CALL ∷ a (POSTFIX b) ∷ []

pub after_path_call_on : (b : Bool) → On (AFTER_PATH b) (some (after_path_call b)) (open_paren ∷ [])
unfolding roto picks_on
after_path_call_on true = record { computed = tt }
after_path_call_on false = record { computed = tt }

abbrev pub after_path_record : List Symbol
after_path_record = opens open_brace ∷ a FIELDS ∷ closes close_brace ∷ part ∷ row kinds.RECORD ∷ a (POSTFIX records) ∷ []

pub after_path_record_on : On (AFTER_PATH true) (some after_path_record) (open_brace ∷ [])
unfolding roto picks_on
after_path_record_on = record { computed = tt }

pub after_path_off_records : Off (AFTER_PATH true) (some nothing) ('?' ∷ open_paren ∷ open_brace ∷ [])
unfolding roto picks_off
after_path_off_records = record { computed = tt }

pub after_path_off_none : Off (AFTER_PATH false) (some nothing) ('?' ∷ open_paren ∷ [])
unfolding roto picks_off
after_path_off_none = record { computed = tt }

-- which of the kinds that come twice are the rest of a phrase
pub rest_expr : (b : Bool) → one_of (EXPR b) rest_kinds ≡ false
rest_expr true = refl
rest_expr false = refl

pub rest_assigned : (b : Bool) → one_of (ASSIGNED b) rest_kinds ≡ true
rest_assigned true = refl
rest_assigned false = refl

pub rest_binary : (b : Bool) → one_of (BINARY b) rest_kinds ≡ false
rest_binary true = refl
rest_binary false = refl

pub rest_or_more : (b : Bool) → one_of (OR_MORE b) rest_kinds ≡ true
rest_or_more true = refl
rest_or_more false = refl

pub rest_and : (b : Bool) → one_of (AND b) rest_kinds ≡ false
rest_and true = refl
rest_and false = refl

pub rest_and_more : (b : Bool) → one_of (AND_MORE b) rest_kinds ≡ true
rest_and_more true = refl
rest_and_more false = refl

pub rest_compare : (b : Bool) → one_of (COMPARE b) rest_kinds ≡ false
rest_compare true = refl
rest_compare false = refl

pub rest_compare_more : (b : Bool) → one_of (COMPARE_MORE b) rest_kinds ≡ true
rest_compare_more true = refl
rest_compare_more false = refl

pub rest_sum : (b : Bool) → one_of (SUM b) rest_kinds ≡ false
rest_sum true = refl
rest_sum false = refl

pub rest_sum_more : (b : Bool) → one_of (SUM_MORE b) rest_kinds ≡ true
rest_sum_more true = refl
rest_sum_more false = refl

pub rest_product : (b : Bool) → one_of (PRODUCT b) rest_kinds ≡ false
rest_product true = refl
rest_product false = refl

pub rest_product_more : (b : Bool) → one_of (PRODUCT_MORE b) rest_kinds ≡ true
rest_product_more true = refl
rest_product_more false = refl

pub rest_operand : (b : Bool) → one_of (OPERAND b) rest_kinds ≡ false
rest_operand true = refl
rest_operand false = refl

pub rest_postfix : (b : Bool) → one_of (POSTFIX b) rest_kinds ≡ true
rest_postfix true = refl
rest_postfix false = refl

pub rest_after_path : (b : Bool) → one_of (AFTER_PATH b) rest_kinds ≡ true
rest_after_path true = refl
rest_after_path false = refl

-- BRACES-INSIDE: a name with `:` next begins a field
abbrev pub braces_inside_fields : List Symbol
braces_inside_fields = a FIELD ∷ a FIELDS_MORE ∷ closes close_brace ∷ row kinds.RECORD ∷ []

abbrev pub braces_inside_statements : List Symbol
braces_inside_statements = a STATEMENTS ∷ closes close_brace ∷ row kinds.BLOCK ∷ []

pub braces_inside_on : On BRACES_INSIDE (some braces_inside_statements) inside_firsts
unfolding roto picks_on
braces_inside_on = record { computed = tt }

pub braces_inside_off : Off BRACES_INSIDE none (close_brace ∷ statement_firsts)
unfolding roto picks_off
braces_inside_off = record { computed = tt }

inside_pair : T (picks_by language BRACES_INSIDE (some braces_inside_fields) pair names)
unfolding roto picks_by
inside_pair = tt

inside_one : T (picks_by language BRACES_INSIDE (some braces_inside_statements) one_seen names)
unfolding roto picks_by
inside_one = tt

flagged : (c d : ℕ) → T (one_of c names) → d ≡ 46 → T (flag language.pairs c d)
unfolding roto
flagged c d m e = subst (λ (x : ℕ). T (flag language.pairs c x)) (sym e) (elim (or_cases (eqb c 13) (one_of c (14 ∷ [])) m) [
  | inl k ↦ subst (λ (x : ℕ). T (flag language.pairs x 46)) (sym (eqb→eq c 13 k)) tt
  | inr k ↦ subst (λ (x : ℕ). T (flag language.pairs x 46)) (sym (the_word {x = c} {c = 14} k)) tt
])

unflagged : (c d : ℕ) → d ≢ 46 → T (flag language.pairs c d) → ⊥
unfolding roto
unflagged c d n t = n (eqb→eq d 46 (elim (or_cases (eqb c 13 && eqb d 46) ((eqb c 14 && eqb d 46) || false) t) [
  | inl k ↦ and_r (eqb c 13) (eqb d 46) k
  | inr k ↦ elim (or_cases (eqb c 14 && eqb d 46) false k) [ inl j ↦ and_r (eqb c 14) (eqb d 46) j | inr j ↦ absurd j ]
]))

module _ (s : List ℕ) {h h' : Here} (g : Stands s h) (m : T (one_of (word_of h) names)) (e : h' ≡ passed s h) where
  next_word : ((source s).look h.place ≡ found (token_of s h) (next_of h)) × (peek (source s) language (next_of h) ≡ word_of h')
  next_word =
      let w = solid_word (word_of h) names tt m in
      let k = goes_past g w.0 w.1 e in
      ((is_token g w.0 w.1).0, subst (λ (x : ℕ). peek (source s) language x ≡ word_of h') k.1 (peeks k.0))

  pub braces_inside_field : word_of h' ≡ 46 → chosen language BRACES_INSIDE (view (source s) language h.place) ≡ some braces_inside_fields
  braces_inside_field c = pair_place language BRACES_INSIDE (some braces_inside_fields) (source s) names h.place next_word.0 (flagged (word_of h) (peek (source s) language (next_of h)) m (next_word.1 ∙ c)) inside_pair m

  pub braces_inside_other : word_of h' ≢ 46 → chosen language BRACES_INSIDE (view (source s) language h.place) ≡ some braces_inside_statements
  braces_inside_other c = one_place language BRACES_INSIDE (some braces_inside_statements) (source s) names h.place next_word.0 (unflagged (word_of h) (peek (source s) language (next_of h)) (λ q. c (sym next_word.1 ∙ q))) inside_one m
