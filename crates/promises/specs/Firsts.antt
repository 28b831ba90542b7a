-- The words that a choice is made by, and the rows whose detail a word gives.
use Rattle.std.specs.Prelude.{Ok, Err, List, [], ◌∷◌, ◌++◌, Bool, true, false, not, cond, ◌≢◌, ℕ, ◌<◌, eqb}
use Rattle.rows.specs.Kinds as kinds
use Rattle.rows.specs.declared.Row.{Row}
use Rattle.grammar.specs.Words.{f_quote, open_brace, close_brace, open_paren, close_paren, '!', '-', dot, '?', 'import', 'let', 'const', 'fn', 'test', comma, '||', '&&', path_items, literals, four_words, compare_signs, sum_signs, product_signs, return_words, filter_words}
use Rattle.grammar.specs.Grammar.{one_of}
use Rattle.grammar.specs.Rows.{detail_for}
use Rattle.parser.specs.declared.Here.{Here}
use Rattle.parser.specs.declared.Node.{Node}
use Rattle.parser.specs.Results.{Read}
use Rattle.parser.specs.Results.{StmtRead}
use Rattle.parser.specs.declared.Stmt.{Stmt}
use Rattle.parser.specs.Results.{ArmRead}
use Rattle.parser.specs.declared.Arm.{Arm}
use Rattle.parser.specs.Places.{word_of, next_of, passed, later, node_of, put_over}

-- what an operand, an expr, a type, a statement, a declaration can begin with
abbrev pub operand_firsts : List ℕ
operand_firsts = '!' ∷ '-' ∷ open_paren ∷ open_brace ∷ f_quote ∷ (literals ++ (path_items ++ four_words))

abbrev pub expr_firsts : List ℕ
expr_firsts = return_words ++ operand_firsts

abbrev pub type_firsts : List ℕ
type_firsts = '!' ∷ open_paren ∷ open_brace ∷ path_items

abbrev pub statement_firsts : List ℕ
statement_firsts = 'import' ∷ 'let' ∷ expr_firsts

abbrev pub declaration_firsts : List ℕ
declaration_firsts = 'const' ∷ 'fn' ∷ 'import' ∷ 'test' ∷ filter_words

-- those of them by which a reader begins a declaration: `test` by the old grammar alone (C-22)
abbrev pub firsts_by : Bool → List ℕ
firsts_by true = declaration_firsts
firsts_by false = 'const' ∷ 'fn' ∷ 'import' ∷ filter_words

-- `?`, `( list of exprs )`, `. name` behind an atom
abbrev pub sign_words : List ℕ
sign_words = '!' ∷ '-' ∷ []

abbrev pub postfix_signs : List ℕ
postfix_signs = '?' ∷ open_paren ∷ dot ∷ []

-- "Binary, loosest first: `||`; `&&`; `== != < <= > >=`, not chained; `+ -`; `* / %`": its level, 0 for no such sign
abbrev pub level_of : ℕ → ℕ
level_of w = cond (eqb w '||') 1 (cond (eqb w '&&') 2 (cond (one_of w compare_signs) 3 (cond (one_of w sum_signs) 4 (cond (one_of w product_signs) 5 0))))

-- "`return`, `accept`, `reject` take an expr exactly when the next token can begin one"; where no record may stand, always
abbrev pub ends_return : ℕ → Bool → Bool
ends_return w true = not (one_of w expr_firsts)
ends_return w false = false

abbrev pub closing_of : ℕ → ℕ
closing_of w = cond (eqb w open_paren) close_paren close_brace

abbrev pub sign_kind : ℕ → ℕ
sign_kind w = cond (eqb w '!') kinds.NOT kinds.NEGATE

-- the row over two nodes with a sign between them; that of a return form
abbrev pub detail_row : ℕ → Node → Node → ℕ → Row
detail_row k m n w = record { kind = k; start = m.start; end = n.end; children = 2; value = 0; detail = detail_for k w }

abbrev pub return_row : ℕ → ℕ → ℕ → ℕ → Row
return_row a e c d = record { kind = kinds.RETURN; start = a; end = e; children = c; value = 0; detail = d }

-- a sign between two nodes: its row behind the right one, if that was read
unfoldable pub joined_read : Node → ℕ → Read → Read
joined_read m w (Ok (n, h)) = Ok (node_of (detail_row kinds.BINARY m n w), later h)
joined_read m w (Err e) = Err e

unfoldable pub joined_table : Node → ℕ → ℕ → Read → List ℕ → List ℕ
joined_table m w since (Ok (n, h)) t = put_over t h (detail_row kinds.BINARY m n w) since
joined_table m w since (Err e) t = t

-- how tight a sign may bind behind one of a level: comparisons are "not chained"
abbrev pub looser_than : ℕ → ℕ
looser_than n = cond (eqb n 3) 2 n

-- a part of a phrase that has so many rows
abbrev pub part_of : ℕ → Node
part_of n = record { kind = kinds.NONE; start = 0; end = 0; children = n }

-- a statement behind its `;`; an arm that none may follow
unfoldable pub ended_by : Read → StmtRead
ended_by (Ok (m, h)) = Ok (Stmt.Ended h)
ended_by (Err e) = Err e

unfoldable pub last_arm : Read → ArmRead
last_arm (Ok (m, h)) = Ok (Arm.Last h)
last_arm (Err e) = Err e

-- behind an arm whose body begins with a word: another may follow behind a comma, and behind a block
abbrev pub arm_end : List ℕ → Here → ℕ → ArmRead
arm_end s h begin = cond (eqb (word_of h) comma) (Ok (Arm.Followed (passed s h))) (cond (eqb begin open_brace) (Ok (Arm.Followed h)) (Ok (Arm.Last h)))

-- no `.` stands behind what was read
abbrev pub undotted : Read → Type 0
undotted (Ok (m, h)) = word_of h ≢ dot
undotted (Err e) = Prim.Unit {0}

-- the reader went on
abbrev pub onward : Here → Read → Type 0
onward h (Ok (m, z)) = next_of h < next_of z
onward h (Err e) = Prim.Unit {0}

-- what was read has few rows
abbrev pub few : Read → Type 0
few (Ok (m, h)) = m.children < 300000
few (Err e) = Prim.Unit {0}
