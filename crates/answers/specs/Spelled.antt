-- Document 01's signs and keywords, each by its text, under the grammar's name for it: the lexer's lists are these (proofs/Spelled.antt).
use Rattle.std.specs.Prelude.{List, [], ◌∷◌}
use Rattle.chars.specs.Texts.{bytes}
use Rattle.tokens.specs.Words.{Entry, ◌is◌}
use Rattle.grammar.specs.Words.{bool, '==', '=>', '!=', '<=', '>=', '&&', '||', '->', '+=', '-=', '*=', '/=', '%=', open_brace, close_brace, open_paren, close_paren, open_bracket, close_bracket, ':', semicolon, comma, dot, '=', '?', '!', '-', '+', '*', '/', '%', '<', '>', 'accept', 'const', 'dep', 'else', 'enum', 'filter', 'filtermap', 'for', 'fn', 'if', 'import', 'in', 'let', 'match', 'pkg', 'record', 'reject', 'return', 'std', 'super', 'test', 'while'}

-- "`== => != <= >= && || -> += -= *= /= %=`"
unfoldable pub spelled_two : List Entry
unfolding bytes
spelled_two =
    ("==" is '==') ∷ ("=>" is '=>') ∷ ("!=" is '!=') ∷ ("<=" is '<=') ∷ (">=" is '>=') ∷ ("&&" is '&&') ∷ ("||" is '||') ∷ ("->" is '->') ∷
    ("+=" is '+=') ∷ ("-=" is '-=') ∷ ("*=" is '*=') ∷ ("/=" is '/=') ∷ ("%=" is '%=') ∷ []

-- "`{ } ( ) [ ] : ; , . = ? ! - + * / % < >`"
unfoldable pub spelled_one : List Entry
unfolding bytes
spelled_one =
    ("{" is open_brace) ∷ ("}" is close_brace) ∷ ("(" is open_paren) ∷ (")" is close_paren) ∷ ("[" is open_bracket) ∷ ("]" is close_bracket) ∷
    (":" is ':') ∷ (";" is semicolon) ∷ ("," is comma) ∷ ("." is dot) ∷ ("=" is '=') ∷ ("?" is '?') ∷ ("!" is '!') ∷ ("-" is '-') ∷
    ("+" is '+') ∷ ("*" is '*') ∷ ("/" is '/') ∷ ("%" is '%') ∷ ("<" is '<') ∷ (">" is '>') ∷ []

-- "`true` or `false`", and "the 22 in `keyword_or_ident`" as the manual prints them
unfoldable pub spelled_words : List Entry
unfolding bytes
spelled_words =
    ("true" is bool) ∷ ("false" is bool) ∷
    ("fn" is 'fn') ∷ ("if" is 'if') ∷ ("in" is 'in') ∷
    ("dep" is 'dep') ∷ ("for" is 'for') ∷ ("let" is 'let') ∷ ("pkg" is 'pkg') ∷ ("std" is 'std') ∷
    ("else" is 'else') ∷ ("enum" is 'enum') ∷ ("test" is 'test') ∷
    ("const" is 'const') ∷ ("match" is 'match') ∷ ("super" is 'super') ∷ ("while" is 'while') ∷
    ("accept" is 'accept') ∷ ("filter" is 'filter') ∷ ("import" is 'import') ∷ ("record" is 'record') ∷ ("reject" is 'reject') ∷ ("return" is 'return') ∷
    ("filtermap" is 'filtermap') ∷ []
