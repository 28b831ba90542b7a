-- The words: what a token is, as the grammar sees it. A literal, a name or `true`, `false` has its token code
-- of document 01; each sign and each keyword has a number of its own.
use Rattle.std.specs.Prelude.{List, [], ◌∷◌, ℕ}

-- the end of the source
abbrev pub the_end : ℕ
the_end = 0

-- codes 1 to 13 of document 01, and the name `_`
abbrev pub ipv6 : ℕ
ipv6 = 1

abbrev pub ipv4 : ℕ
ipv4 = 2

abbrev pub as_number : ℕ
as_number = 5

abbrev pub hex : ℕ
hex = 6

abbrev pub integer : ℕ
integer = 7

abbrev pub float : ℕ
float = 8

abbrev pub string : ℕ
string = 9

abbrev pub char : ℕ
char = 10

abbrev pub bool : ℕ
bool = 12

abbrev pub name : ℕ
name = 13

abbrev pub underscore : ℕ
underscore = 14

-- two signs, in document 01's order
abbrev pub '==' : ℕ
'==' = 20

abbrev pub '=>' : ℕ
'=>' = 21

abbrev pub '!=' : ℕ
'!=' = 22

abbrev pub '<=' : ℕ
'<=' = 23

abbrev pub '>=' : ℕ
'>=' = 24

abbrev pub '&&' : ℕ
'&&' = 25

abbrev pub '||' : ℕ
'||' = 26

abbrev pub '->' : ℕ
'->' = 27

abbrev pub '+=' : ℕ
'+=' = 28

abbrev pub '-=' : ℕ
'-=' = 29

abbrev pub '*=' : ℕ
'*=' = 30

abbrev pub '/=' : ℕ
'/=' = 31

abbrev pub '%=' : ℕ
'%=' = 32

-- one sign: `{ } ( ) [ ] : ; , . = ? ! - + * / % < >`
abbrev pub open_brace : ℕ
open_brace = 40

abbrev pub close_brace : ℕ
close_brace = 41

abbrev pub open_paren : ℕ
open_paren = 42

abbrev pub close_paren : ℕ
close_paren = 43

abbrev pub open_bracket : ℕ
open_bracket = 44

abbrev pub close_bracket : ℕ
close_bracket = 45

abbrev pub ':' : ℕ
':' = 46

abbrev pub semicolon : ℕ
semicolon = 47

abbrev pub comma : ℕ
comma = 48

abbrev pub dot : ℕ
dot = 49

abbrev pub '=' : ℕ
'=' = 50

abbrev pub '?' : ℕ
'?' = 51

abbrev pub '!' : ℕ
'!' = 52

abbrev pub '-' : ℕ
'-' = 53

abbrev pub '+' : ℕ
'+' = 54

abbrev pub '*' : ℕ
'*' = 55

abbrev pub '/' : ℕ
'/' = 56

abbrev pub '%' : ℕ
'%' = 57

abbrev pub '<' : ℕ
'<' = 58

abbrev pub '>' : ℕ
'>' = 59

-- the 22 keywords, in the order of `keyword_or_ident`
abbrev pub 'accept' : ℕ
'accept' = 60

abbrev pub 'const' : ℕ
'const' = 61

abbrev pub 'dep' : ℕ
'dep' = 62

abbrev pub 'else' : ℕ
'else' = 63

abbrev pub 'enum' : ℕ
'enum' = 64

abbrev pub 'filter' : ℕ
'filter' = 65

abbrev pub 'filtermap' : ℕ
'filtermap' = 66

abbrev pub 'for' : ℕ
'for' = 67

abbrev pub 'fn' : ℕ
'fn' = 68

abbrev pub 'if' : ℕ
'if' = 69

abbrev pub 'import' : ℕ
'import' = 70

abbrev pub 'in' : ℕ
'in' = 71

abbrev pub 'let' : ℕ
'let' = 72

abbrev pub 'match' : ℕ
'match' = 73

abbrev pub 'pkg' : ℕ
'pkg' = 74

abbrev pub 'record' : ℕ
'record' = 75

abbrev pub 'reject' : ℕ
'reject' = 76

abbrev pub 'return' : ℕ
'return' = 77

abbrev pub 'std' : ℕ
'std' = 78

abbrev pub 'super' : ℕ
'super' = 79

abbrev pub 'test' : ℕ
'test' = 80

abbrev pub 'while' : ℕ
'while' = 81

-- for C-11: `f"`, the text before a hole, the text before the closing quote
abbrev pub f_quote : ℕ
f_quote = 90

abbrev pub text_then_hole : ℕ
text_then_hole = 91

abbrev pub last_text : ℕ
last_text = 92

-- where no token starts
abbrev pub no_token : ℕ
no_token = 99

-- words that stand for one another
-- a name, `_` among them
abbrev pub names : List ℕ
names = name ∷ underscore ∷ []

-- path items: a name, `pkg`, `dep`, `super`, `std`
abbrev pub path_items : List ℕ
path_items = name ∷ underscore ∷ 'pkg' ∷ 'dep' ∷ 'super' ∷ 'std' ∷ []

-- literals
abbrev pub literals : List ℕ
literals = integer ∷ float ∷ hex ∷ as_number ∷ ipv4 ∷ ipv6 ∷ string ∷ char ∷ bool ∷ []

-- `=`, then `+= -= *= /= %=`
abbrev pub assign_signs : List ℕ
assign_signs = '=' ∷ '+=' ∷ '-=' ∷ '*=' ∷ '/=' ∷ '%=' ∷ []

-- `== != < <= > >=`
abbrev pub compare_signs : List ℕ
compare_signs = '==' ∷ '!=' ∷ '<' ∷ '<=' ∷ '>' ∷ '>=' ∷ []

-- `+ -`
abbrev pub sum_signs : List ℕ
sum_signs = '+' ∷ '-' ∷ []

-- `* / %`
abbrev pub product_signs : List ℕ
product_signs = '*' ∷ '/' ∷ '%' ∷ []

-- `|| && == != < <= > >= + - * / %`, the order of their details
abbrev pub binary_signs : List ℕ
binary_signs = '||' ∷ '&&' ∷ '==' ∷ '!=' ∷ '<' ∷ '<=' ∷ '>' ∷ '>=' ∷ '+' ∷ '-' ∷ '*' ∷ '/' ∷ '%' ∷ []

-- `return`, `accept`, `reject`, the order of their details
abbrev pub return_words : List ℕ
return_words = 'return' ∷ 'accept' ∷ 'reject' ∷ []

-- `filter`, `filtermap`, the order of their details
abbrev pub filter_words : List ℕ
filter_words = 'filter' ∷ 'filtermap' ∷ []

-- `if`, `match`, `while`, `for`
abbrev pub four_words : List ℕ
four_words = 'if' ∷ 'match' ∷ 'while' ∷ 'for' ∷ []
