-- The kinds of rows, as document 01 numbers them: "1 name; 2 path; 3 `!`; 4 `()`; 5 type `?`; 6 path type (1: brackets);
-- 7 record type; 8 name with type; 10 integer; 11 float; 12 bool; 13 AS; 14 IPv4; 15 IPv6; 16 string; 17 char; 20 binary
-- (detail 1 to 13); 21 `!`; 22 `-`; 23 call; 24 access; 25 `?`; 26 assign (detail 0, then 1 to 5); 27 return form (detail
-- 1, 2, 3); 28 if; 29 while; 30 for; 31 match; 32 arm (1: guard); 33 `_`; 34 variant (1: parentheses); 35 block (1: has
-- last); 36 record (1: path first); 37 field; 38 let (1: type); 39 import; 40 const; 41 fn (1: type); 42 test; 43 tree;
-- 44 importpath; 45 filter, filtermap (detail 1, 2)"; C-11: "46 for the string with its parts as children, 47 for a text
-- part". 0 is no row.
use Rattle.std.specs.Prelude.{ℕ}

abbrev pub NONE : ℕ
NONE = 0

abbrev pub NAME : ℕ
NAME = 1

abbrev pub PATH : ℕ
PATH = 2

abbrev pub NEVER : ℕ
NEVER = 3

abbrev pub UNIT : ℕ
UNIT = 4

abbrev pub OPTION : ℕ
OPTION = 5

abbrev pub PATH_TYPE : ℕ
PATH_TYPE = 6

abbrev pub RECORD_TYPE : ℕ
RECORD_TYPE = 7

abbrev pub TYPED_NAME : ℕ
TYPED_NAME = 8

abbrev pub INTEGER : ℕ
INTEGER = 10

abbrev pub FLOAT : ℕ
FLOAT = 11

abbrev pub BOOL : ℕ
BOOL = 12

abbrev pub ASN : ℕ
ASN = 13

abbrev pub IPV4 : ℕ
IPV4 = 14

abbrev pub IPV6 : ℕ
IPV6 = 15

abbrev pub STRING : ℕ
STRING = 16

abbrev pub CHAR : ℕ
CHAR = 17

abbrev pub BINARY : ℕ
BINARY = 20

abbrev pub NOT : ℕ
NOT = 21

abbrev pub NEGATE : ℕ
NEGATE = 22

abbrev pub CALL : ℕ
CALL = 23

abbrev pub ACCESS : ℕ
ACCESS = 24

abbrev pub QUESTION : ℕ
QUESTION = 25

abbrev pub ASSIGN : ℕ
ASSIGN = 26

abbrev pub RETURN : ℕ
RETURN = 27

abbrev pub IF : ℕ
IF = 28

abbrev pub WHILE : ℕ
WHILE = 29

abbrev pub FOR : ℕ
FOR = 30

abbrev pub MATCH : ℕ
MATCH = 31

abbrev pub ARM : ℕ
ARM = 32

abbrev pub ANY : ℕ
ANY = 33

abbrev pub VARIANT : ℕ
VARIANT = 34

abbrev pub BLOCK : ℕ
BLOCK = 35

abbrev pub RECORD : ℕ
RECORD = 36

abbrev pub FIELD : ℕ
FIELD = 37

abbrev pub LET : ℕ
LET = 38

abbrev pub IMPORT : ℕ
IMPORT = 39

abbrev pub CONST : ℕ
CONST = 40

abbrev pub FN : ℕ
FN = 41

abbrev pub TEST : ℕ
TEST = 42

abbrev pub TREE : ℕ
TREE = 43

abbrev pub IMPORT_PATH : ℕ
IMPORT_PATH = 44

abbrev pub FILTER : ℕ
FILTER = 45

abbrev pub F_STRING : ℕ
F_STRING = 46

abbrev pub TEXT : ℕ
TEXT = 47
