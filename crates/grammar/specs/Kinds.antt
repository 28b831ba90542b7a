-- A number for each kind of phrase. Which number is of no matter; no two kinds share one.
-- The kinds of exprs come twice: where a record may stand, and where none may (after `if`, `while`, `in`, `match`).
use Rattle.std.specs.Prelude.{Bool, true, false, ℕ}

abbrev pub records : Bool
records = true

abbrev pub no_records : Bool
no_records = false

abbrev pub TREE : ℕ
TREE = 0

abbrev pub DECLARATIONS : ℕ
DECLARATIONS = 1

abbrev pub DECLARATION : ℕ
DECLARATION = 2

abbrev pub PARAMS : ℕ
PARAMS = 3

abbrev pub RESULT : ℕ
RESULT = 4

abbrev pub TYPED_NAMES : ℕ
TYPED_NAMES = 5

abbrev pub TYPED_NAMES_MORE : ℕ
TYPED_NAMES_MORE = 6

abbrev pub TYPED_NAME : ℕ
TYPED_NAME = 7

abbrev pub NAME : ℕ
NAME = 8

abbrev pub IMPORT : ℕ
IMPORT = 9

abbrev pub IMPORTED : ℕ
IMPORTED = 10

abbrev pub IMPORTPATH : ℕ
IMPORTPATH = 11

abbrev pub IMPORTPATH_REST : ℕ
IMPORTPATH_REST = 12

abbrev pub IMPORTPATH_DOT : ℕ
IMPORTPATH_DOT = 13

abbrev pub IMPORTPATHS : ℕ
IMPORTPATHS = 14

abbrev pub IMPORTPATHS_MORE : ℕ
IMPORTPATHS_MORE = 15

abbrev pub PATH_ITEM : ℕ
PATH_ITEM = 16

abbrev pub PATH : ℕ
PATH = 17

abbrev pub PATH_REST : ℕ
PATH_REST = 18

abbrev pub TYPE : ℕ
TYPE = 19

abbrev pub TYPE_MARKS : ℕ
TYPE_MARKS = 20

abbrev pub TYPE_BASE : ℕ
TYPE_BASE = 21

abbrev pub TYPE_BRACKETS : ℕ
TYPE_BRACKETS = 22

abbrev pub TYPES : ℕ
TYPES = 23

abbrev pub TYPES_MORE : ℕ
TYPES_MORE = 24

abbrev pub BLOCK : ℕ
BLOCK = 25

abbrev pub STATEMENTS : ℕ
STATEMENTS = 26

abbrev pub STATEMENT : ℕ
STATEMENT = 27

abbrev pub AFTER_FOUR : ℕ
AFTER_FOUR = 28

abbrev pub AFTER_EXPR : ℕ
AFTER_EXPR = 29

abbrev pub LET : ℕ
LET = 30

abbrev pub LET_TYPE : ℕ
LET_TYPE = 31

abbrev pub LITERAL : ℕ
LITERAL = 32

abbrev pub F_STRING : ℕ
F_STRING = 89

abbrev pub HOLE : ℕ
HOLE = 90

abbrev pub PARENS : ℕ
PARENS = 33

abbrev pub BRACES : ℕ
BRACES = 34

abbrev pub BRACES_INSIDE : ℕ
BRACES_INSIDE = 35

abbrev pub FIELDS : ℕ
FIELDS = 36

abbrev pub FIELDS_MORE : ℕ
FIELDS_MORE = 37

abbrev pub FIELD : ℕ
FIELD = 38

abbrev pub FIELD_NAME : ℕ
FIELD_NAME = 39

abbrev pub EXPRS : ℕ
EXPRS = 40

abbrev pub EXPRS_MORE : ℕ
EXPRS_MORE = 41

abbrev pub FOUR : ℕ
FOUR = 42

abbrev pub ELSE : ℕ
ELSE = 43

abbrev pub ELSE_PART : ℕ
ELSE_PART = 44

abbrev pub ELSE_IF : ℕ
ELSE_IF = 45

abbrev pub ARMS : ℕ
ARMS = 46

abbrev pub ARM : ℕ
ARM = 47

abbrev pub ARM_BODY : ℕ
ARM_BODY = 48

abbrev pub ARM_NEXT : ℕ
ARM_NEXT = 49

abbrev pub ARM_COMMA : ℕ
ARM_COMMA = 50

abbrev pub GUARD : ℕ
GUARD = 51

abbrev pub PATTERN : ℕ
PATTERN = 52

abbrev pub VARIANT : ℕ
VARIANT = 53

abbrev pub VARIANT_NAMES : ℕ
VARIANT_NAMES = 54

abbrev pub NAMES : ℕ
NAMES = 55

abbrev pub NAMES_MORE : ℕ
NAMES_MORE = 56

abbrev pub EXPR : Bool → ℕ
EXPR true = 57
EXPR false = 73

abbrev pub RETURNED : Bool → ℕ
RETURNED true = 58
RETURNED false = 74

abbrev pub ASSIGNED : Bool → ℕ
ASSIGNED true = 59
ASSIGNED false = 75

abbrev pub BINARY : Bool → ℕ
BINARY true = 60
BINARY false = 76

abbrev pub OR_MORE : Bool → ℕ
OR_MORE true = 61
OR_MORE false = 77

abbrev pub AND : Bool → ℕ
AND true = 62
AND false = 78

abbrev pub AND_MORE : Bool → ℕ
AND_MORE true = 63
AND_MORE false = 79

abbrev pub COMPARE : Bool → ℕ
COMPARE true = 64
COMPARE false = 80

abbrev pub COMPARE_MORE : Bool → ℕ
COMPARE_MORE true = 65
COMPARE_MORE false = 81

abbrev pub SUM : Bool → ℕ
SUM true = 66
SUM false = 82

abbrev pub SUM_MORE : Bool → ℕ
SUM_MORE true = 67
SUM_MORE false = 83

abbrev pub PRODUCT : Bool → ℕ
PRODUCT true = 68
PRODUCT false = 84

abbrev pub PRODUCT_MORE : Bool → ℕ
PRODUCT_MORE true = 69
PRODUCT_MORE false = 85

abbrev pub OPERAND : Bool → ℕ
OPERAND true = 70
OPERAND false = 86

abbrev pub POSTFIX : Bool → ℕ
POSTFIX true = 71
POSTFIX false = 87

abbrev pub AFTER_PATH : Bool → ℕ
AFTER_PATH true = 72
AFTER_PATH false = 88
