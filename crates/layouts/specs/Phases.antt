-- How far a row is written (its phase) and what comes next, child by child. Not to be believed: `phased` (proofs/) says that it comes to the print's `layout`.
-- A phase counts the children behind, up to 3, or says what the last one was: in a block 1 `let` or `import`, 2 one of the four, 3 another expr; in a function 1 its name,
-- 2 a param, 3 its result or block; in an import path 1 a name, 2 a path of its group; in an arm 3 a body that is a block, 4 another body.
use Rattle.std.specs.Prelude.{List, [], ◌∷◌, ◌++◌, Bool, false, not, ◌&&◌, cond, ℕ, pred, eqb, ltb}
use Rattle.rows.specs.Kinds as kinds
use Rattle.grammar.specs.Words.{'=>', '->', open_brace, close_brace, open_paren, close_paren, open_bracket, close_bracket, ':', semicolon, comma, dot, '=', '?', '!', '-', 'const', 'else', 'for', 'fn', 'if', 'import', 'in', 'let', 'match', 'test', 'while', assign_signs, binary_signs, return_words, filter_words}
use Rattle.grammar.specs.Grammar.{one_of}
use Rattle.canon.specs.Trees.{Label, Forest, none, tree, copied}
use Rattle.canon.specs.Layout as canon
use Rattle.canon.specs.Text.{Bit, copy, signs, paired, inner, fill}
use Rattle.places.specs.Under.{under}

-- in phase 0, 1, 2; in a later one
abbrev pub in_phase : {A : Type 0} → ℕ → A → A → A → A → A
in_phase p a b c d = cond (eqb p 0) a (cond (eqb p 1) b (cond (eqb p 2) c d))

-- The words before the next child, of this kind.

unfoldable pub before_type : ℕ → ℕ → ℕ → List ℕ
before_type k v p =
    cond (eqb k kinds.PATH) (in_phase p [] (dot ∷ []) (dot ∷ []) (dot ∷ []))
    (cond (eqb k kinds.PATH_TYPE) (cond (eqb v 0) [] (in_phase p [] (open_bracket ∷ []) (comma ∷ []) (comma ∷ [])))
    (cond (eqb k kinds.RECORD_TYPE) (in_phase p (open_brace ∷ []) (comma ∷ []) (comma ∷ []) (comma ∷ []))
    (cond (eqb k kinds.TYPED_NAME) (in_phase p [] (':' ∷ []) [] []) [])))

unfoldable pub before_operand : ℕ → ℕ → ℕ → List ℕ
before_operand k d p =
    cond (eqb k kinds.BINARY) (in_phase p [] (canon.nth binary_signs (pred d) ∷ []) [] [])
    (cond (eqb k kinds.NOT) (in_phase p ('!' ∷ []) [] [] [])
    (cond (eqb k kinds.NEGATE) (in_phase p ('-' ∷ []) [] [] [])
    (cond (eqb k kinds.CALL) (in_phase p [] (open_paren ∷ []) (comma ∷ []) (comma ∷ []))
    (cond (eqb k kinds.ACCESS) (in_phase p [] (dot ∷ []) [] [])
    (cond (eqb k kinds.ASSIGN) (in_phase p [] (canon.nth assign_signs d ∷ []) [] [])
    (cond (eqb k kinds.RETURN) (in_phase p (canon.nth return_words (pred d) ∷ []) [] [] []) []))))))

unfoldable pub before_part : ℕ → ℕ → ℕ → List ℕ
before_part k v p =
    cond (eqb k kinds.IF) (in_phase p ('if' ∷ []) [] ('else' ∷ []) [])
    (cond (eqb k kinds.WHILE) (in_phase p ('while' ∷ []) [] [] [])
    (cond (eqb k kinds.FOR) (in_phase p ('for' ∷ []) ('in' ∷ []) [] [])
    (cond (eqb k kinds.MATCH) (in_phase p ('match' ∷ []) (open_brace ∷ []) [] [])
    (cond (eqb k kinds.ARM) (cond (eqb v 0) (in_phase p [] ('=>' ∷ []) [] []) (in_phase p [] ('if' ∷ []) ('=>' ∷ []) []))
    (cond (eqb k kinds.VARIANT) (cond (eqb v 0) [] (in_phase p [] (open_paren ∷ []) (comma ∷ []) (comma ∷ [])))
    (cond (eqb k kinds.BLOCK) (in_phase p (open_brace ∷ []) [] [] (semicolon ∷ []))
    (cond (eqb k kinds.RECORD) (cond (eqb v 0) (in_phase p (open_brace ∷ []) (comma ∷ []) (comma ∷ []) (comma ∷ [])) (in_phase p [] (open_brace ∷ []) (comma ∷ []) (comma ∷ [])))
    (cond (eqb k kinds.FIELD) (in_phase p [] (':' ∷ []) [] []) []))))))))

-- behind a function's word: its name, params, and what isn't one
abbrev pub before_headed : ℕ → Bool → ℕ → ℕ → List ℕ
before_headed w result p child =
    cond (eqb child kinds.TYPED_NAME) (in_phase p (w ∷ []) (open_paren ∷ []) (comma ∷ []) [])
    (cond result (in_phase p (w ∷ []) (open_paren ∷ close_paren ∷ '->' ∷ []) (close_paren ∷ '->' ∷ []) []) (in_phase p (w ∷ []) (open_paren ∷ close_paren ∷ []) (close_paren ∷ []) []))

abbrev pub before_imported : ℕ → ℕ → List ℕ
before_imported p child = cond (eqb child kinds.NAME) (in_phase p [] (dot ∷ []) (dot ∷ []) (dot ∷ [])) (in_phase p (dot ∷ open_brace ∷ []) (dot ∷ open_brace ∷ []) (comma ∷ []) (dot ∷ open_brace ∷ []))

unfoldable pub before_item : ℕ → ℕ → ℕ → ℕ → ℕ → List ℕ
before_item k v d p child =
    cond (eqb k kinds.LET) (cond (eqb v 0) (in_phase p ('let' ∷ []) ('=' ∷ []) [] []) (in_phase p ('let' ∷ []) (':' ∷ []) ('=' ∷ []) []))
    (cond (eqb k kinds.IMPORT) (in_phase p ('import' ∷ []) [] [] [])
    (cond (eqb k kinds.CONST) (in_phase p ('const' ∷ []) (':' ∷ []) ('=' ∷ []) [])
    (cond (eqb k kinds.FN) (before_headed 'fn' (eqb v 1) p child)
    (cond (eqb k kinds.TEST) (in_phase p ('test' ∷ []) [] [] [])
    (cond (eqb k kinds.IMPORT_PATH) (before_imported p child)
    (cond (eqb k kinds.FILTER) (before_headed (canon.nth filter_words (pred d)) false p child) []))))))

unfoldable pub before : ℕ → ℕ → ℕ → ℕ → ℕ → List ℕ
before k v d p child = cond (ltb k kinds.BINARY) (before_type k v p) (cond (ltb k kinds.IF) (before_operand k d p) (cond (ltb k kinds.LET) (before_part k v p) (before_item k v d p child)))

-- The phase behind a child of this kind.

abbrev pub behind_part : ℕ → ℕ → ℕ → ℕ
behind_part v p child = let b : ℕ = cond (eqb child kinds.BLOCK) 3 4 in cond (eqb v 0) (in_phase p 1 b p p) (in_phase p 1 2 b p)

abbrev pub behind_statement : ℕ → ℕ
behind_statement child = cond (canon.is_expr child) (cond (canon.is_four child) 2 3) 1

abbrev pub behind_param : ℕ → ℕ → ℕ
behind_param p child = cond (eqb child kinds.TYPED_NAME) (in_phase p 1 2 2 3) (in_phase p 1 3 3 3)

unfoldable pub next : ℕ → ℕ → ℕ → ℕ → ℕ
next k v p child =
    cond (eqb k kinds.ARM) (behind_part v p child)
    (cond (eqb k kinds.BLOCK) (behind_statement child)
    (cond (eqb k kinds.FN) (behind_param p child)
    (cond (eqb k kinds.FILTER) (behind_param p child)
    (cond (eqb k kinds.IMPORT_PATH) (cond (eqb child kinds.NAME) 1 2) (in_phase p 1 2 3 3)))))

-- The words behind the last child; of a list, all its words where it has no child; of a list behind a child, too.

abbrev pub end_of_list : ℕ → ℕ → ℕ → List ℕ
end_of_list p o e = in_phase p (o ∷ e ∷ []) (e ∷ []) (e ∷ []) (e ∷ [])

abbrev pub end_behind : ℕ → ℕ → ℕ → List ℕ
end_behind p o e = in_phase p (o ∷ e ∷ []) (o ∷ e ∷ []) (e ∷ []) (e ∷ [])

unfoldable pub end_of_type : ℕ → ℕ → ℕ → List ℕ
end_of_type k v p =
    cond (eqb k kinds.NEVER) ('!' ∷ [])
    (cond (eqb k kinds.UNIT) (open_paren ∷ close_paren ∷ [])
    (cond (eqb k kinds.OPTION) ('?' ∷ [])
    (cond (eqb k kinds.PATH_TYPE) (cond (eqb v 0) [] (end_behind p open_bracket close_bracket))
    (cond (eqb k kinds.RECORD_TYPE) (end_of_list p open_brace close_brace) []))))

unfoldable pub end_of_operand : ℕ → ℕ → ℕ → List ℕ
end_of_operand k d p =
    cond (eqb k kinds.CALL) (end_behind p open_paren close_paren)
    (cond (eqb k kinds.QUESTION) ('?' ∷ [])
    (cond (eqb k kinds.RETURN) (in_phase p (canon.nth return_words (pred d) ∷ []) [] [] []) []))

unfoldable pub end_of_part : ℕ → ℕ → ℕ → Bool → List ℕ
end_of_part k v p more =
    cond (eqb k kinds.MATCH) (end_behind p open_brace close_brace)
    (cond (eqb k kinds.ARM) (cond (more && not (eqb p 3)) (comma ∷ []) [])
    (cond (eqb k kinds.VARIANT) (cond (eqb v 0) [] (end_behind p open_paren close_paren))
    (cond (eqb k kinds.BLOCK) (cond (eqb v 0) (in_phase p (open_brace ∷ close_brace ∷ []) (close_brace ∷ []) (semicolon ∷ close_brace ∷ []) (semicolon ∷ close_brace ∷ [])) (end_of_list p open_brace close_brace))
    (cond (eqb k kinds.RECORD) (cond (eqb v 0) (end_of_list p open_brace close_brace) (end_behind p open_brace close_brace)) []))))

unfoldable pub end_of_item : ℕ → ℕ → List ℕ
end_of_item k p =
    cond (one_of k (kinds.LET ∷ kinds.IMPORT ∷ kinds.CONST ∷ [])) (semicolon ∷ [])
    (cond (eqb k kinds.IMPORT_PATH) (in_phase p [] [] (close_brace ∷ []) []) [])

unfoldable pub behind : ℕ → ℕ → ℕ → ℕ → Bool → List ℕ
behind k v d p more = cond (ltb k kinds.BINARY) (end_of_type k v p) (cond (ltb k kinds.IF) (end_of_operand k d p) (cond (ltb k kinds.LET) (end_of_part k v p more) (end_of_item k p)))

-- A row at its place; the children of a at c, from a phase on, and the words behind them.

unfoldable pub one : canon.Place → Label → Forest → List Bit
one c b kids =
    let pair = canon.needs c b kids in
    let y = canon.layout (inner pair c) b kids in
    paired pair (cond (one_of b.kind copied) (copy b.text ∷ []) (fill y.slots y.last kids))

unfoldable pub going : canon.Place → Label → ℕ → Forest → List Bit
going c a p none = signs (behind a.kind a.value a.detail p c.more)
going c a p (tree b kids ts) =
    signs (before a.kind a.value a.detail p b.kind)
    ++ (one (under a.kind a.value a.detail c p b.kind (not (canon.empty ts))) b kids ++ going c a (next a.kind a.value p b.kind) ts)
