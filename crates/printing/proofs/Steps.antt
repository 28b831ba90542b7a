-- Each alternative of the grammar leaves trees that stand where they are put.
use mathlib.Core.Path.{◌∙◌, ◌≡◌, ap, refl, subst, sym}
use mathlib.Core.List.{List, [], ◌∷◌, ◌++◌}
use mathlib.Core.Bool.{Bool, true, false, not, ◌||◌, ◌&&◌, cond}
use Prim.Native.Nat.{ℕ, zero, suc, pred, ◌≤◌}
use lib.Dec.{T, eqb}
use Rattle.rows.specs.Kinds as kinds
use Rattle.grammar.specs.Words.{'!', '&&', '-', ':', '=', '=>', '?', 'const', 'else', 'fn', 'for', 'if', 'import', 'in', 'let', 'match', 'test', 'while', '||', assign_signs, binary_signs, close_brace, close_bracket, close_paren, comma, compare_signs, dot, f_quote, filter_words, four_words, literals, name, names, open_brace, open_bracket, open_paren, path_items, product_signs, return_words, semicolon, sum_signs, underscore}
use Rattle.grammar.specs.Grammar.{Ask, Parts, Stream, Symbol, Token, body, end, is_else_if, leaf, left_side, mark, node, one_of, phrase, same, text, token, unless}
use Rattle.grammar.specs.Kinds.{AFTER_EXPR, AFTER_FOUR, ARM, ARM_BODY, ARM_COMMA, ARM_NEXT, ARMS, BLOCK, BRACES_INSIDE, DECLARATION, DECLARATIONS, ELSE, ELSE_IF, ELSE_PART, EXPR, EXPRS, F_STRING, FIELD, FIELD_NAME, FIELDS, FIELDS_MORE, FOUR, GUARD, HOLE, IMPORT, IMPORTED, IMPORTPATH, IMPORTPATH_DOT, IMPORTPATH_REST, IMPORTPATHS, IMPORTPATHS_MORE, LET, LET_TYPE, NAME, NAMES, PARAMS, PATH_ITEM, PATH_REST, PATTERN, RESULT, STATEMENT, STATEMENTS, TYPE, TYPE_MARKS, TYPED_NAME, TYPED_NAMES, TYPED_NAMES_MORE, TYPES, VARIANT, VARIANT_NAMES, no_records, records}
use Rattle.grammar.specs.Limits.{Counts}
use Rattle.grammar.specs.Table.{a, one, word, opens, closes, prefix, head, literal, row, part, behind, rest_kinds, literal_row}
use Rattle.grammar.specs.Rows.{is_text, place_in}
use Rattle.grammar.specs.Language.{roto}
use Rattle.grammar.proofs.Frame.{no_text, plain_word}
use Rattle.canon.specs.Trees.{copied}
use Rattle.printing.specs.Groves.{Grove, Head, State, beside, first_head, fresh, grow, nil, signed, top}
use Rattle.printing.proofs.Lists.{Has, grow_leaf, has_end, has_put, has_rest, has_sub, has_tok, has_told, l, left_trees, only, row_over}
use Rattle.printing.proofs.Placed.{Each, Items, PathTree, Placed, each_of, more_items, name_head, no_items, path, row_head}
use Rattle.printing.proofs.Exprs.{access_row, beside_nil, beside_on, binary_head, binary_row, leaf_head, literal_kinds, literal_leaf, negate_row, not_row, path_row, question_row, two}
use Rattle.printing.proofs.Calls.{Listed, Says, assign_row, call_row, field_says, mid, no_more, one_more, path_record, record_row, return_alone, return_row, says_expr}
use Rattle.printing.proofs.Types.{ImportRest, Paths, import_end, import_group, import_item, import_path, import_says, list_type, more_paths, name_says, never_type, no_paths, option_type, path_type, record_type, says_type, typed_name, unit_type}
use Rattle.printing.proofs.Blocks.{Stmts, block_row, block_says, by_expr, by_import, by_last, by_let, no_stmts}
use Rattle.printing.proofs.Fours.{Arm, Arms, Else, any_head, any_says, else_block, else_if, else_if_says, for_row, guarded_arm, if_row, match_row, more_arms, no_arms, no_else, plain_arm, variant_of, variant_says, while_row}
use Rattle.printing.proofs.Decls.{Declared, Params, const_says, filter_says, fn_says, fn_typed, import_declared, let_says, let_typed, listed_params, more_decls, more_params, no_decls, no_params, test_says}
use Rattle.printing.proofs.Back.{All, Once, Rules, Step, all_end, all_note, all_phrase, all_side, all_token, all_unless, rule_at}
use Rattle.printing.proofs.Grown.{path_grown}
use Rattle.printing.proofs.Claims.{Adds, After, BlockOf, Bodied, Braced, Expr, Guarded, Joins, Knows, LetOf, More, Name, NoTrees, OfKind, On, Parted, PathsOf, Perhaps, Ret, Returned, Tree, Trees, TypeOk, Variants, claim_in, claims, is_there, keep_nil, no_trees, not_there, ret_none, ret_one, sh}

module _ (S : Stream) (G : Ask → Counts → Token → Bool) (s : List ℕ) where
  abbrev pub P : ℕ → List Symbol → Parts → Type 0
  P n a p = claim_in (claims s) n p

  abbrev pub Of : List Symbol → Parts → Type 0
  Of a p = All S l G Knows P a p

  -- lists
  list_none : {L : Grove → Type 0} {p : Parts} → L nil → Of [] p → Adds s L p
  list_none z all_end K c v = (nil, keep_nil K (c ∷ []) v, z)

  list_some : {X : Head → Grove → Type 0} {L : Grove → Type 0} {n m : ℕ} {p : Parts} → one_of n rest_kinds ≡ false → one_of m rest_kinds ≡ true → ((p : Parts) → claim_in (claims s) n p → Tree s X p) → ((p : Parts) → claim_in (claims s) m p → Adds s L p) → ((h : Head) (k g : Grove) → X h k → L g → L (top h k g)) → Of (phrase same n ∷ phrase same m ∷ []) p → Adds s L p
  list_some {p = node n' a' p' q'} i j f g o (all_phrase {p = p} u (all_phrase {p = q} w all_end)) K c v =
      let x = f p u in
      let y = g q w (beside K (top x.0 x.1 nil)) c v in
      (top x.0 x.1 y.0, subst (λ (t : Grove). Has (node n' a' p' q') (mid K c v) (mid t c v)) (beside_on K x.0 x.1 y.0) (has_sub i x.2 (has_rest j y.1 (has_end _))), o x.0 x.1 y.0 x.3 y.2)
  list_some {p = end} i j f g o x K c v = elim x [ ]
  list_some {p = leaf _ _} i j f g o x K c v = elim x [ ]
  list_some {p = mark _ _} i j f g o x K c v = elim x [ ]

  list_comma : {L : Grove → Type 0} {m : ℕ} {p : Parts} → one_of m rest_kinds ≡ true → ((p : Parts) → claim_in (claims s) m p → Adds s L p) → Of (word comma ∷ phrase same m ∷ []) p → Adds s L p
  list_comma j g (all_token {x = x} i y (all_phrase {p = q} w all_end)) K c v = let z = g q w K c v in (z.0, has_tok x (plain_word x (comma ∷ []) tt i) (has_rest j z.1 (has_end _)), z.2)

  as_listed : {n : ℕ} (h : Head) (k g : Grove) → Says s n h k → Listed s n g → Listed s n (top h k g)
  as_listed h k g f u = one_more f u

  -- a name of these words
  a_name : {p : Parts} (w : List ℕ) → T (no_text w) → Of (one w ∷ row kinds.NAME ∷ []) p → Name s w p
  unfolding grow
  a_name w t (all_token {x = x} i y (all_note all_end)) = (x, ap (λ (b : State). b.kids) (grow_leaf x (mark kinds.NAME end) fresh (plain_word x w t i)), i)

  -- a phrase and the rest of it
  chained : {X Y : Head → Grove → Type 0} {n m : ℕ} {p : Parts} → one_of n rest_kinds ≡ false → one_of m rest_kinds ≡ true → ((p : Parts) → claim_in (claims s) n p → Tree s X p) → ((p : Parts) → claim_in (claims s) m p → On s X Y p) → Of (phrase same n ∷ phrase same m ∷ []) p → Tree s Y p
  chained i j f g (all_phrase {p = p} u (all_phrase {p = q} w all_end)) =
      let x = f p u in
      let y = g q w x.0 x.1 x.3 in
      (y.0, y.1, left_trees (has_sub i x.2 (has_rest j y.2 (has_end _))), y.3)

  nothing_on : {X : Head → Grove → Type 0} {p : Parts} → Of [] p → On s X X p
  nothing_on all_end h k x = (h, k, has_end _, x)

  -- signs
  signed_more : {n m : ℕ} {w : List ℕ} {p : Parts} → T (no_text w) → ((c : ℕ) → T (one_of c w) → T (one_of c binary_signs)) → one_of n rest_kinds ≡ false → one_of m rest_kinds ≡ true → ((p : Parts) → claim_in (claims s) n p → Expr s p) → ((p : Parts) → claim_in (claims s) m p → More s p) → Of (one w ∷ phrase same n ∷ row kinds.BINARY ∷ phrase same m ∷ []) p → More s p
  signed_more {w = w} t b i j f g (all_token {x = x} e y (all_phrase {p = p} u (all_note (all_phrase {p = q} v all_end)))) h k z =
      let o = f p u in
      let r = g q v (binary_head (place_in x.word binary_signs)) (two h k o.0 o.1) (binary_row s h k o.0 o.1 z o.3 x.word (b x.word e)) in
      (r.0, r.1, has_tok x (plain_word x w t e) (has_sub i o.2 (has_put kinds.BINARY refl refl refl (has_rest j r.2 (has_end _)))), r.3)

  signed_once : {n : ℕ} {w : List ℕ} {p : Parts} → T (no_text w) → ((c : ℕ) → T (one_of c w) → T (one_of c binary_signs)) → one_of n rest_kinds ≡ false → ((p : Parts) → claim_in (claims s) n p → Expr s p) → Of (one w ∷ phrase same n ∷ row kinds.BINARY ∷ []) p → More s p
  signed_once {w = w} t b i f (all_token {x = x} e y (all_phrase {p = p} u (all_note all_end))) h k z =
      let o = f p u in
      (_, _, has_tok x (plain_word x w t e) (has_sub i o.2 (has_put kinds.BINARY refl refl refl (has_end _))), binary_row s h k o.0 o.1 z o.3 x.word (b x.word e))

  -- marks behind an operand
  question_on : {m : ℕ} {p : Parts} → one_of m rest_kinds ≡ true → ((p : Parts) → claim_in (claims s) m p → More s p) → Of (word '?' ∷ row kinds.QUESTION ∷ phrase same m ∷ []) p → More s p
  question_on j g (all_token {x = x} e y (all_note (all_phrase {p = q} v all_end))) h k z =
      let r = g q v _ _ (question_row s h k z) in
      (r.0, r.1, has_tok x (plain_word x ('?' ∷ []) tt e) (has_put kinds.QUESTION refl refl refl (has_rest j r.2 (has_end _))), r.3)

  call_on : {m : ℕ} {p : Parts} → one_of m rest_kinds ≡ true → ((p : Parts) → claim_in (claims s) m p → More s p) → Of (opens open_paren ∷ phrase same EXPRS ∷ closes close_paren ∷ row kinds.CALL ∷ phrase same m ∷ []) p → More s p
  call_on j g (all_token {x = x} e y (all_phrase {p = p} u (all_token {x = x'} e' y' (all_note (all_phrase {p = q} v all_end))))) h k z =
      let o = u (top h k nil) x.word 0 in
      let r = g q v _ _ (call_row s h k z o.0 o.2) in
      (r.0, r.1, has_tok x (plain_word x (open_paren ∷ []) tt e) (has_rest refl o.1 (has_tok x' (plain_word x' (close_paren ∷ []) tt e') (has_put kinds.CALL refl refl refl (has_rest j r.2 (has_end _))))), r.3)

  access_on : {m : ℕ} {p : Parts} → one_of m rest_kinds ≡ true → ((p : Parts) → claim_in (claims s) m p → More s p) → Of (word dot ∷ phrase same NAME ∷ row kinds.ACCESS ∷ phrase same m ∷ []) p → More s p
  access_on j g (all_token {x = x} e y (all_phrase {p = p} u (all_note (all_phrase {p = q} v all_end)))) h k z =
      let r = g q v _ _ (access_row s h k z u.0 u.2) in
      (r.0, r.1, has_tok x (plain_word x (dot ∷ []) tt e) (has_sub refl u.1 (has_put kinds.ACCESS refl refl refl (has_rest j r.2 (has_end _)))), r.3)

  record_on : {m : ℕ} {p : Parts} → one_of m rest_kinds ≡ true → ((p : Parts) → claim_in (claims s) m p → More s p) → Of (opens open_brace ∷ phrase same FIELDS ∷ closes close_brace ∷ part ∷ row kinds.RECORD ∷ phrase same m ∷ []) p → On s PathTree (Placed s) p
  record_on j g (all_token {x = x} e y (all_phrase {p = p} u (all_token {x = x'} e' y' (all_note (all_note (all_phrase {p = q} v all_end)))))) h k z =
      let o = u (top h k nil) x.word 0 in
      let r = g q v _ _ (path_record s h k o.0 z o.2) in
      (r.0, r.1, has_tok x (plain_word x (open_brace ∷ []) tt e) (has_rest refl o.1 (has_tok x' (plain_word x' (close_brace ∷ []) tt e') (has_told (has_put kinds.RECORD refl refl refl (has_rest j r.2 (has_end _)))))), r.3)

  -- a path is an expr
  from_path : {p : Parts} → More s p → On s PathTree (Placed s) p
  from_path f h k q = f h k (path_row s q)

  nothing_after : {p : Parts} → Of [] p → On s PathTree (Placed s) p
  nothing_after all_end h k q = (h, k, has_end _, path_row s q)

  -- prefixes
  not_of : {n : ℕ} {p : Parts} → one_of n rest_kinds ≡ false → ((p : Parts) → claim_in (claims s) n p → Expr s p) → Of (prefix ('!' ∷ []) ∷ phrase same n ∷ row kinds.NOT ∷ []) p → Expr s p
  not_of i f (all_token {x = x} e y (all_phrase {p = p} u (all_note all_end))) = let o = f p u in (_, _, left_trees (has_tok x (plain_word x ('!' ∷ []) tt e) (has_sub i o.2 (has_put kinds.NOT refl refl refl (has_end _)))), not_row s o.0 o.1 o.3)

  negate_of : {n : ℕ} {p : Parts} → one_of n rest_kinds ≡ false → ((p : Parts) → claim_in (claims s) n p → Expr s p) → Of (prefix ('-' ∷ []) ∷ phrase same n ∷ row kinds.NEGATE ∷ []) p → Expr s p
  negate_of i f (all_token {x = x} e y (all_phrase {p = p} u (all_note all_end))) = let o = f p u in (_, _, left_trees (has_tok x (plain_word x ('-' ∷ []) tt e) (has_sub i o.2 (has_put kinds.NEGATE refl refl refl (has_end _)))), negate_row s o.0 o.1 o.3)

  -- return forms and assignments
  return_of : {n : ℕ} {p : Parts} → one_of n rest_kinds ≡ true → ((p : Parts) → claim_in (claims s) n p → Returned s p) → Of (prefix return_words ∷ phrase same n ∷ row kinds.RETURN ∷ []) p → Expr s p
  return_of i f (all_token {x = x} e y (all_phrase {p = p} u (all_note all_end))) =
      let o = f p u x.word in
      (row_head kinds.RETURN 0 (place_in x.word return_words), o.0, left_trees (has_tok x (plain_word x return_words tt e) (has_rest i o.1 (has_put kinds.RETURN refl refl refl (has_end _)))), go o.2)
    where
      go : {g : Grove} → Ret s g → Placed s (row_head kinds.RETURN 0 (place_in x.word return_words)) g
      go ret_none = return_alone s x.word e
      go (ret_one {h = h} {k = k} q) = return_row s h k q x.word e

  returned_of : {n : ℕ} {p : Parts} → one_of n rest_kinds ≡ false → ((p : Parts) → claim_in (claims s) n p → Expr s p) → Of (phrase same n ∷ []) p → Returned s p
  returned_of i f (all_phrase {p = p} u all_end) c = let o = f p u in (top o.0 o.1 nil, has_sub i o.2 (has_end _), ret_one o.3)

  returns_none : {p : Parts} → Of [] p → Returned s p
  returns_none all_end c = (nil, has_end _, ret_none)

  assigned_of : {n : ℕ} {p : Parts} → one_of n rest_kinds ≡ false → ((p : Parts) → claim_in (claims s) n p → Expr s p) → Of (one assign_signs ∷ phrase same n ∷ row kinds.ASSIGN ∷ []) p → On s PathTree (Placed s) p
  assigned_of i f (all_token {x = x} e y (all_phrase {p = p} u (all_note all_end))) h k q =
      let o = f p u in
      (_, _, has_tok x (plain_word x assign_signs tt e) (has_sub i o.2 (has_put kinds.ASSIGN refl refl refl (has_end _))), assign_row s o.0 o.1 o.3 h k q x.word e)

  side_alone : (n : ℕ) (t : List Symbol) (p q : Parts) → one_of n rest_kinds ≡ false → Expr s p → Of [] q → Expr s (node n t p q)
  side_alone n t p q i o all_end = (o.0, o.1, left_trees (has_sub i o.2 (has_end _)), o.3)

  side_path : {m : ℕ} (n : ℕ) (t : List Symbol) (p q : Parts) → one_of n rest_kinds ≡ false → one_of m rest_kinds ≡ true → l.is_path p ≡ true → ((p : Parts) → claim_in (claims s) m p → On s PathTree (Placed s) p) → Expr s p → Of (phrase same m ∷ []) q → Expr s (node n t p q)
  unfolding roto
  side_path n t p r i j e g o (all_phrase {p = q} w all_end) =
      let is = ap (λ (t : Grove). eqb (first_head t).kind 2) (sym o.2) ∙ sym (path_grown p) ∙ e in
      let y = g q w o.0 o.1 (o.3.path (subst T (sym is) tt)) in
      (y.0, y.1, left_trees (has_sub i o.2 (has_rest j y.2 (has_end _))), y.3)

  side_of : {n m : ℕ} {p : Parts} → one_of n rest_kinds ≡ false → one_of m rest_kinds ≡ true → ((p : Parts) → claim_in (claims s) n p → Expr s p) → ((p : Parts) → claim_in (claims s) m p → On s PathTree (Placed s) p) → Of (left_side n m ∷ []) p → Expr s p
  side_of {n} {m} i j f g (all_side {a = t} {p = p} {q = q} u v) = go (l.is_path p) refl v
    where
      go : (b : Bool) → l.is_path p ≡ b → Of (cond b (phrase same m ∷ []) []) q → Expr s (node n t p q)
      go true e w = side_path n t p q i j e g (f p u) w
      go false e w = side_alone n t p q i (f p u) w

  -- atoms
  literal_of_lem : {p : Parts} → Of (literal literals ∷ row literal_row ∷ []) p → Expr s p
  unfolding grow
  literal_of_lem (all_token {x = x} i y (all_note all_end)) = (leaf_head x.kind x, nil, ap (λ (b : State). b.kids) (grow_leaf x (mark literal_row end) fresh (plain_word x literals tt i)) ∙ ap (λ (b : Bool). top (record { kind = x.kind; value = x.value; detail = x.detail; tokens = cond b (x ∷ []) [] }) nil nil) is, literal_leaf s x i y.0 (y.1 i))
    where
      is : one_of x.kind copied ≡ true
      is = each_of (λ k. one_of k copied ≡ true) literal_kinds x.kind (y.1 i) (refl, (refl, (refl, (refl, (refl, (refl, (refl, (refl, tt))))))))

  parens_of : {p : Parts} → Of (opens open_paren ∷ phrase same (EXPR records) ∷ closes close_paren ∷ []) p → Expr s p
  parens_of (all_token {x = x} e y (all_phrase u (all_token {x = x'} e' y' all_end))) = (u.0, u.1, left_trees (has_tok x (plain_word x (open_paren ∷ []) tt e) (has_sub refl u.2 (has_tok x' (plain_word x' (close_paren ∷ []) tt e') (has_end _)))), u.3)

  braces_of : {p : Parts} → Of (opens open_brace ∷ phrase same BRACES_INSIDE ∷ []) p → Expr s p
  braces_of (all_token {x = x} e y (all_phrase u all_end)) = let o = u x.word in (o.0, o.1, left_trees (has_tok x (plain_word x (open_brace ∷ []) tt e) (has_rest refl o.2 (has_end _))), o.3)

  fields_in : {p : Parts} → Of (phrase same FIELD ∷ phrase same FIELDS_MORE ∷ closes close_brace ∷ row kinds.RECORD ∷ []) p → Braced s p
  fields_in (all_phrase u (all_phrase v (all_token {x = x} e y (all_note all_end)))) c =
      let o = v (top u.0 u.1 nil) c 0 in
      (_, _, has_sub refl u.2 (has_rest refl o.1 (has_tok x (plain_word x (close_brace ∷ []) tt e) (has_put kinds.RECORD refl refl refl (has_end _)))), record_row s u.0 u.1 o.0 u.3 o.2)

  statements_in : {p : Parts} → Of (phrase same STATEMENTS ∷ closes close_brace ∷ row kinds.BLOCK ∷ []) p → Braced s p
  statements_in (all_phrase u (all_token {x = x} e y (all_note all_end))) c =
      let o = u nil c in
      (_, _, has_rest refl o.2 (has_tok x (plain_word x (close_brace ∷ []) tt e) (has_put kinds.BLOCK refl refl refl (has_end _))), block_row s o.3)

  field_of : {p : Parts} → Of (phrase same FIELD_NAME ∷ word ':' ∷ phrase same (EXPR records) ∷ row kinds.FIELD ∷ []) p → Tree s (Says s FIELD) p
  field_of (all_phrase u (all_token {x = x} e y (all_phrase v (all_note all_end)))) = (_, _, left_trees (has_sub refl u.1 (has_tok x (plain_word x (':' ∷ []) tt e) (has_sub refl v.2 (has_put kinds.FIELD refl refl refl (has_end _))))), field_says s u.0 v.0 v.1 u.2 v.3)

  -- the four
  if_of : {p : Parts} {q : Ask} → Of (token q ('if' ∷ []) ∷ phrase same (EXPR no_records) ∷ phrase body BLOCK ∷ phrase body ELSE ∷ row kinds.IF ∷ []) p → (h : Head) × (k : Grove) × (v : ℕ) × (g : Grove) × (e : Grove) × ((grow p fresh).kids ≡ row_over kinds.IF 0 0 (top h k (top (row_head kinds.BLOCK v 0) g e))) × Placed s h k × Stmts s v g × Else s e
  if_of (all_token {x = x} e y (all_phrase u (all_phrase v (all_phrase w (all_note all_end))))) =
      let o = w (two u.0 u.1 (row_head kinds.BLOCK v.0 0) v.1) x.word 0 in
      (u.0, u.1, v.0, v.1, o.0, left_trees (has_tok x (plain_word x ('if' ∷ []) tt e) (has_sub refl u.2 (has_sub refl v.2 (has_rest refl o.1 (has_put kinds.IF refl refl refl (has_end _)))))), u.3, v.3, o.2)

  four_if : {p : Parts} → Of (head 'if' ∷ phrase same (EXPR no_records) ∷ phrase body BLOCK ∷ phrase body ELSE ∷ row kinds.IF ∷ []) p → Expr s p
  four_if t = let o = if_of t in (_, _, o.5, if_row s o.0 o.1 o.6 (row_head kinds.BLOCK o.2 0) o.3 (block_says s o.7) o.4 o.8)

  else_if_of : {p : Parts} → Of (token is_else_if ('if' ∷ []) ∷ phrase same (EXPR no_records) ∷ phrase body BLOCK ∷ phrase body ELSE ∷ row kinds.IF ∷ []) p → Tree s (Says s ELSE_IF) p
  else_if_of t = let o = if_of t in (_, _, o.5, else_if_says s o.0 o.1 o.6 (row_head kinds.BLOCK o.2 0) o.3 (block_says s o.7) o.4 o.8)

  four_while : {p : Parts} → Of (head 'while' ∷ phrase same (EXPR no_records) ∷ phrase body BLOCK ∷ row kinds.WHILE ∷ []) p → Expr s p
  four_while (all_token {x = x} e y (all_phrase u (all_phrase v (all_note all_end)))) = (_, _, left_trees (has_tok x (plain_word x ('while' ∷ []) tt e) (has_sub refl u.2 (has_sub refl v.2 (has_put kinds.WHILE refl refl refl (has_end _))))), while_row s u.0 u.1 u.3 (row_head kinds.BLOCK v.0 0) v.1 (block_says s v.3))

  four_for : {p : Parts} → Of (head 'for' ∷ phrase same NAME ∷ word 'in' ∷ phrase same (EXPR no_records) ∷ phrase body BLOCK ∷ row kinds.FOR ∷ []) p → Expr s p
  four_for (all_token {x = x} e y (all_phrase w (all_token {x = x'} e' y' (all_phrase u (all_phrase v (all_note all_end)))))) = (_, _, left_trees (has_tok x (plain_word x ('for' ∷ []) tt e) (has_sub refl w.1 (has_tok x' (plain_word x' ('in' ∷ []) tt e') (has_sub refl u.2 (has_sub refl v.2 (has_put kinds.FOR refl refl refl (has_end _))))))), for_row s u.0 u.1 u.3 (row_head kinds.BLOCK v.0 0) v.1 (block_says s v.3) w.0 w.2 refl)

  four_match : {p : Parts} → Of (head 'match' ∷ phrase same (EXPR no_records) ∷ opens open_brace ∷ phrase body ARMS ∷ closes close_brace ∷ row kinds.MATCH ∷ []) p → Expr s p
  four_match (all_token {x = x} e y (all_phrase u (all_token {x = x'} e' y' (all_phrase v (all_token {x = x''} e'' y'' (all_note all_end)))))) = (_, _, left_trees (has_tok x (plain_word x ('match' ∷ []) tt e) (has_sub refl u.2 (has_tok x' (plain_word x' (open_brace ∷ []) tt e') (has_sub refl v.1 (has_tok x'' (plain_word x'' (close_brace ∷ []) tt e'') (has_put kinds.MATCH refl refl refl (has_end _))))))), match_row s u.0 u.1 v.0 u.3 v.2)

  else_of : {p : Parts} → Of (word 'else' ∷ phrase same ELSE_PART ∷ []) p → Adds s (Else s) p
  else_of (all_token {x = x} e y (all_phrase u all_end)) K c v = let o = u K c v in (o.0, has_tok x (plain_word x ('else' ∷ []) tt e) (has_rest refl o.1 (has_end _)), o.2)

  else_by_block : {p : Parts} → Of (phrase same BLOCK ∷ []) p → Adds s (Else s) p
  else_by_block (all_phrase u all_end) K c v = (_, has_sub refl u.2 (has_end _), else_block (block_says s u.3))

  else_by_if : {p : Parts} → Of (phrase same ELSE_IF ∷ []) p → Adds s (Else s) p
  else_by_if (all_phrase u all_end) K c v = (_, has_sub refl u.2 (has_end _), else_if u.3)

  -- arms
  no_arms_of : {p : Parts} → Of [] p → Trees s (Arms s) p
  no_arms_of all_end = (nil, left_trees (has_end (only nil)), no_arms)

  arms_of : {p : Parts} → Of (phrase same ARM ∷ []) p → Trees s (Arms s) p
  arms_of (all_phrase u all_end) = (u.0, left_trees (has_sub refl u.1 (has_end _)), u.2)

  arm_of : {p : Parts} → Of (phrase same PATTERN ∷ phrase same GUARD ∷ word '=>' ∷ phrase same ARM_BODY ∷ []) p → Trees s (Arms s) p
  arm_of (all_phrase u (all_phrase v (all_token {x = x} e y (all_phrase w all_end)))) =
      let o = v (top u.0 u.1 nil) in
      let b = w (beside (top u.0 u.1 nil) o.1) (signed o.2 x.word) o.0 (makes o.4) in
      (b.0, left_trees (has_sub refl u.2 (has_rest refl o.3 (has_tok x (plain_word x ('=>' ∷ []) tt e) (has_rest refl b.2 (has_end _))))), b.3)
    where
      makes : {v : ℕ} {g : Grove} → Perhaps s (Placed s) v g → (h : Head) (k : Grove) → Placed s h k → Arm s v (beside (beside (top u.0 u.1 nil) g) (top h k nil))
      makes not_there h k p = plain_arm u.3 p
      makes (is_there q) h k p = guarded_arm u.3 q p

  body_block : {p : Parts} → Of (phrase same BLOCK ∷ row kinds.ARM ∷ phrase same ARM_COMMA ∷ phrase same ARMS ∷ []) p → Bodied s p
  body_block (all_phrase u (all_note (all_phrase c (all_phrase w all_end)))) K i v f =
      let h = row_head kinds.BLOCK u.0 0 in
      let t = top (row_head kinds.ARM v 0) (beside K (top h u.1 nil)) nil in
      let o = c t [] in
      (beside (beside t o.0) w.0, o.1, has_sub refl u.2 (has_put kinds.ARM refl refl refl (has_rest refl o.2 (has_sub refl w.1 (has_end _)))), go o.3)
    where
      go : {g : Grove} → NoTrees g → Arms s (beside (beside (top (row_head kinds.ARM v 0) (beside K (top (row_head kinds.BLOCK u.0 0) u.1 nil)) nil) g) w.0)
      go no_trees = more_arms (f (row_head kinds.BLOCK u.0 0) u.1 (block_row s u.3)) w.2

  body_expr : {p : Parts} → Of (unless (open_brace ∷ []) ∷ phrase same (EXPR records) ∷ row kinds.ARM ∷ phrase same ARM_NEXT ∷ []) p → Bodied s p
  body_expr (all_unless (all_phrase u (all_note (all_phrase w all_end)))) K i v f =
      let o = w (top (row_head kinds.ARM v 0) (beside K (top u.0 u.1 nil)) nil) [] in
      (_, o.1, has_sub refl u.2 (has_put kinds.ARM refl refl refl (has_rest refl o.2 (has_end _))), more_arms (f u.0 u.1 u.3) o.3)

  next_none : {L : Grove → Type 0} {p : Parts} → L nil → Of [] p → Joins s L p
  next_none z all_end K w = (nil, w, keep_nil K w 0, z)

  next_arms : {p : Parts} → Of (word comma ∷ phrase same ARMS ∷ []) p → Joins s (Arms s) p
  next_arms (all_token {x = x} e y (all_phrase u all_end)) K w = (u.0, _, has_tok x (plain_word x (comma ∷ []) tt e) (has_sub refl u.1 (has_end _)), u.2)

  comma_of : {p : Parts} → Of (word comma ∷ []) p → Joins s NoTrees p
  comma_of (all_token {x = x} e y all_end) K w = (nil, signed w x.word, has_tok x (plain_word x (comma ∷ []) tt e) (keep_nil K (signed w x.word) 0), no_trees)

  guard_none : {p : Parts} → Of [] p → Guarded s p
  guard_none all_end K = (0, nil, [], keep_nil K [] 0, not_there)

  guard_of : {p : Parts} → Of (word 'if' ∷ phrase same (EXPR records) ∷ part ∷ []) p → Guarded s p
  guard_of (all_token {x = x} e y (all_phrase u (all_note all_end))) K = (1, _, _, has_tok x (plain_word x ('if' ∷ []) tt e) (has_sub refl u.2 (has_told (has_end _))), is_there u.3)

  pattern_of : {p : Parts} → Of (phrase same VARIANT ∷ phrase same VARIANT_NAMES ∷ []) p → Tree s (Says s PATTERN) p
  pattern_of (all_phrase u (all_phrase v all_end)) = let o = v u.0 u.2 in (o.0, o.1, left_trees (has_sub refl u.1 (has_rest refl o.2 (has_end _))), o.3)

  any_of : {p : Parts} → Of (word underscore ∷ row kinds.ANY ∷ []) p → Tree s (Says s PATTERN) p
  unfolding grow
  any_of (all_token {x = x} i y (all_note all_end)) = (any_head s x, nil, ap (λ (b : State). b.kids) (grow_leaf x (mark kinds.ANY end) fresh (plain_word x (underscore ∷ []) tt i)), any_says s x i)

  variant_none : {p : Parts} → Of (row kinds.VARIANT ∷ []) p → Variants s p
  variant_none (all_note all_end) x m = (_, _, has_put kinds.VARIANT refl refl refl (has_end _), variant_says s x m)

  variant_names : {p : Parts} → Of (opens open_paren ∷ phrase same NAMES ∷ closes close_paren ∷ part ∷ row kinds.VARIANT ∷ []) p → Variants s p
  variant_names (all_token {x = y} e z (all_phrase u (all_token {x = y'} e' z' (all_note (all_note all_end))))) x m =
      let o = u (top (name_head x) nil nil) y.word 0 in
      (_, _, has_tok y (plain_word y (open_paren ∷ []) tt e) (has_rest refl o.1 (has_tok y' (plain_word y' (close_paren ∷ []) tt e') (has_told (has_put kinds.VARIANT refl refl refl (has_end _))))), variant_of s x o.0 m o.2)

  -- types
  type_none : {p : Parts} → Of (word '!' ∷ row kinds.NEVER ∷ []) p → Tree s (TypeOk s) p
  type_none (all_token {x = x} e y (all_note all_end)) = (_, _, left_trees (has_tok x (plain_word x ('!' ∷ []) tt e) (has_put kinds.NEVER refl refl refl (has_end _))), (never_type s, refl))

  type_unit : {p : Parts} → Of (opens open_paren ∷ closes close_paren ∷ row kinds.UNIT ∷ []) p → Tree s (TypeOk s) p
  type_unit (all_token {x = x} e y (all_token {x = x'} e' y' (all_note all_end))) = (_, _, left_trees (has_tok x (plain_word x (open_paren ∷ []) tt e) (has_tok x' (plain_word x' (close_paren ∷ []) tt e') (has_put kinds.UNIT refl refl refl (has_end _)))), (unit_type s, refl))

  type_record : {p : Parts} → Of (opens open_brace ∷ phrase same TYPED_NAMES ∷ closes close_brace ∷ row kinds.RECORD_TYPE ∷ []) p → Tree s (TypeOk s) p
  type_record (all_token {x = x} e y (all_phrase u (all_token {x = x'} e' y' (all_note all_end)))) = let o = u nil x.word 0 in (_, _, left_trees (has_tok x (plain_word x (open_brace ∷ []) tt e) (has_rest refl o.1 (has_tok x' (plain_word x' (close_brace ∷ []) tt e') (has_put kinds.RECORD_TYPE refl refl refl (has_end _))))), (record_type s o.0 (listed_params s o.2), refl))

  brackets_none : {p : Parts} → Of (row kinds.PATH_TYPE ∷ []) p → On s PathTree (TypeOk s) p
  brackets_none (all_note all_end) h k q = (_, _, has_put kinds.PATH_TYPE refl refl refl (has_end _), (path_type s h k q, refl))

  brackets_of : {p : Parts} → Of (opens open_bracket ∷ phrase same TYPES ∷ closes close_bracket ∷ part ∷ row kinds.PATH_TYPE ∷ []) p → On s PathTree (TypeOk s) p
  brackets_of (all_token {x = x} e y (all_phrase u (all_token {x = x'} e' y' (all_note (all_note all_end))))) h k q = let o = u (top h k nil) x.word 0 in (_, _, has_tok x (plain_word x (open_bracket ∷ []) tt e) (has_rest refl o.1 (has_tok x' (plain_word x' (close_bracket ∷ []) tt e') (has_told (has_put kinds.PATH_TYPE refl refl refl (has_end _))))), (list_type s h k o.0 q o.2, refl))

  marks_of : {p : Parts} → Of (word '?' ∷ row kinds.OPTION ∷ phrase same TYPE_MARKS ∷ []) p → On s (TypeOk s) (TypeOk s) p
  marks_of (all_token {x = x} e y (all_note (all_phrase v all_end))) h k t = let r = v _ _ (option_type s h k t.0, refl) in (r.0, r.1, has_tok x (plain_word x ('?' ∷ []) tt e) (has_put kinds.OPTION refl refl refl (has_rest refl r.2 (has_end _))), r.3)

  typed_name_of : {p : Parts} → Of (phrase same NAME ∷ word ':' ∷ phrase same TYPE ∷ row kinds.TYPED_NAME ∷ []) p → OfKind s (row_head kinds.TYPED_NAME 0 0) (Says s TYPED_NAME (row_head kinds.TYPED_NAME 0 0)) p
  typed_name_of (all_phrase u (all_token {x = x} e y (all_phrase v (all_note all_end)))) = (_, left_trees (has_sub refl u.1 (has_tok x (plain_word x (':' ∷ []) tt e) (has_sub refl v.2 (has_put kinds.TYPED_NAME refl refl refl (has_end _))))), typed_name s u.0 v.0 v.1 u.2 v.3.0)

  type_there : {c : ℕ} {p : Parts} → T (no_text (c ∷ [])) → Of (word c ∷ phrase same TYPE ∷ part ∷ []) p → Parted s (Perhaps s (TypeOk s)) p
  type_there {c = c} t (all_token {x = x} e y (all_phrase u (all_note all_end))) K i = (1, _, has_tok x (plain_word x (c ∷ []) t e) (has_sub refl u.2 (has_told (has_end _))), is_there u.3)

  type_absent : {p : Parts} → Of [] p → Parted s (Perhaps s (TypeOk s)) p
  type_absent all_end K c = (0, nil, keep_nil K (c ∷ []) 0, not_there)

  -- paths
  path_of : {p : Parts} → Of (phrase same PATH_ITEM ∷ phrase same PATH_REST ∷ row kinds.PATH ∷ []) p → Tree s PathTree p
  path_of (all_phrase u (all_phrase v (all_note all_end))) = let o = v (top (name_head u.0) nil nil) [] in (_, _, left_trees (has_sub refl u.1 (has_rest refl o.2 (has_put kinds.PATH refl refl refl (has_end _)))), path u.0 u.2 o.3)

  items_of : {p : Parts} → Of (word dot ∷ phrase same PATH_ITEM ∷ phrase same PATH_REST ∷ []) p → Joins s Items p
  items_of {p = p} (all_token {x = x} e y (all_phrase u (all_phrase v all_end))) K w =
      let o = v (beside K (top (name_head u.0) nil nil)) (signed w x.word) in
      (top (name_head u.0) nil o.0, o.1, subst (λ (t : Grove). Has p (sh K w 0) (sh t o.1 0)) (beside_on K (name_head u.0) nil o.0) (has_tok x (plain_word x (dot ∷ []) tt e) (has_sub refl u.1 (has_rest refl o.2 (has_end _)))), more_items u.0 u.2 o.3)

  -- imports
  import_path_of : {p : Parts} → Of (phrase same PATH_ITEM ∷ phrase same IMPORTPATH_REST ∷ row kinds.IMPORT_PATH ∷ []) p → OfKind s (row_head kinds.IMPORT_PATH 0 0) (Says s IMPORTPATH (row_head kinds.IMPORT_PATH 0 0)) p
  import_path_of (all_phrase u (all_phrase v (all_note all_end))) = let o = v (top (name_head u.0) nil nil) [] in (_, left_trees (has_sub refl u.1 (has_rest refl o.2 (has_put kinds.IMPORT_PATH refl refl refl (has_end _)))), import_path s u.0 o.0 u.2 o.3)

  import_dot : {p : Parts} → Of (word dot ∷ phrase same IMPORTPATH_DOT ∷ []) p → Joins s (ImportRest s) p
  import_dot (all_token {x = x} e y (all_phrase v all_end)) K w = let o = v K (signed w x.word) in (o.0, o.1, has_tok x (plain_word x (dot ∷ []) tt e) (has_rest refl o.2 (has_end _)), o.3)

  import_on : {p : Parts} → Of (phrase same PATH_ITEM ∷ phrase same IMPORTPATH_REST ∷ []) p → Joins s (ImportRest s) p
  import_on {p = p} (all_phrase u (all_phrase v all_end)) K w =
      let o = v (beside K (top (name_head u.0) nil nil)) w in
      (top (name_head u.0) nil o.0, o.1, subst (λ (t : Grove). Has p (sh K w 0) (sh t o.1 0)) (beside_on K (name_head u.0) nil o.0) (has_sub refl u.1 (has_rest refl o.2 (has_end _))), import_item u.0 u.2 o.3)

  group_of : {p : Parts} → Of (opens open_brace ∷ phrase same IMPORTPATHS ∷ closes close_brace ∷ []) p → Joins s (ImportRest s) p
  group_of (all_token {x = x} e y (all_phrase v (all_token {x = x'} e' y' all_end))) K w = let o = v K (signed w x.word) in (_, _, has_tok x (plain_word x (open_brace ∷ []) tt e) (has_rest refl o.3 (has_tok x' (plain_word x' (close_brace ∷ []) tt e') (has_end _))), import_group o.4 o.5)

  import_paths : {p : Parts} → Of (phrase same IMPORTPATH ∷ phrase same IMPORTPATHS_MORE ∷ []) p → PathsOf s p
  import_paths {p = p} (all_phrase u (all_phrase v all_end)) K w =
      let h = row_head kinds.IMPORT_PATH 0 0 in
      let o = v (beside K (top h u.0 nil)) w in
      (u.0, o.0, o.1, subst (λ (t : Grove). Has p (sh K w 0) (sh t o.1 0)) (beside_on K h u.0 o.0) (has_sub refl u.1 (has_rest refl o.2 (has_end _))), u.2, o.3)

  paths_comma : {p : Parts} → Of (word comma ∷ phrase same IMPORTPATHS ∷ []) p → Joins s (Paths s) p
  paths_comma (all_token {x = x} e y (all_phrase v all_end)) K w = let o = v K (signed w x.word) in (_, _, has_tok x (plain_word x (comma ∷ []) tt e) (has_rest refl o.3 (has_end _)), more_paths o.4 o.5)

  imported_of : {p : Parts} → Of (phrase same IMPORTPATH ∷ row kinds.IMPORT ∷ []) p → OfKind s (row_head kinds.IMPORT 0 0) (Says s IMPORT (row_head kinds.IMPORT 0 0)) p
  imported_of (all_phrase u (all_note all_end)) = (_, left_trees (has_sub refl u.1 (has_put kinds.IMPORT refl refl refl (has_end _))), import_says s u.0 u.2)

  import_of : {p : Parts} → Of (word 'import' ∷ phrase same IMPORTED ∷ word semicolon ∷ []) p → OfKind s (row_head kinds.IMPORT 0 0) (Says s IMPORT (row_head kinds.IMPORT 0 0)) p
  import_of (all_token {x = x} e y (all_phrase u (all_token {x = x'} e' y' all_end))) = (u.0, left_trees (has_tok x (plain_word x ('import' ∷ []) tt e) (has_sub refl u.1 (has_tok x' (plain_word x' (semicolon ∷ []) tt e') (has_end _)))), u.2)

  -- blocks
  block_of : {p : Parts} → Of (opens open_brace ∷ phrase same STATEMENTS ∷ closes close_brace ∷ row kinds.BLOCK ∷ []) p → BlockOf s p
  block_of (all_token {x = x} e y (all_phrase u (all_token {x = x'} e' y' (all_note all_end)))) = let o = u nil x.word in (o.0, o.1, left_trees (has_tok x (plain_word x (open_brace ∷ []) tt e) (has_rest refl o.2 (has_tok x' (plain_word x' (close_brace ∷ []) tt e') (has_put kinds.BLOCK refl refl refl (has_end _))))), o.3)

  stmts_none : {p : Parts} → Of [] p → Parted s (Stmts s) p
  stmts_none all_end K c = (0, nil, keep_nil K (c ∷ []) 0, no_stmts)

  stmts_one : {p : Parts} → Of (phrase same STATEMENT ∷ []) p → Parted s (Stmts s) p
  stmts_one (all_phrase u all_end) K c = let o = u K c in (o.0, o.1, has_rest refl o.2 (has_end _), o.3)

  stmt_import : {p : Parts} → Of (phrase same IMPORT ∷ phrase same STATEMENTS ∷ []) p → Parted s (Stmts s) p
  stmt_import {p = p} (all_phrase u (all_phrase v all_end)) K c =
      let h = row_head kinds.IMPORT 0 0 in
      let o = v (beside K (top h u.0 nil)) c in
      (o.0, top h u.0 o.1, subst (λ (t : Grove). Has p (mid K c 0) (mid t c o.0)) (beside_on K h u.0 o.1) (has_sub refl u.1 (has_rest refl o.2 (has_end _))), by_import u.2 o.3)

  stmt_let : {p : Parts} → Of (phrase same LET ∷ phrase same STATEMENTS ∷ []) p → Parted s (Stmts s) p
  stmt_let {p = p} (all_phrase u (all_phrase v all_end)) K c =
      let h = row_head kinds.LET u.0 0 in
      let o = v (beside K (top h u.1 nil)) c in
      (o.0, top h u.1 o.1, subst (λ (t : Grove). Has p (mid K c 0) (mid t c o.0)) (beside_on K h u.1 o.1) (has_sub refl u.2 (has_rest refl o.2 (has_end _))), by_let u.3 o.3)

  stmt_four : {p : Parts} → Of (phrase same FOUR ∷ phrase same AFTER_FOUR ∷ []) p → Parted s (Stmts s) p
  stmt_four (all_phrase u (all_phrase v all_end)) K c = let o = v K c u.0 u.1 u.3 in (o.0, top u.0 u.1 o.1, has_sub refl u.2 (has_rest refl o.2 (has_end _)), o.3)

  stmt_expr : {p : Parts} → Of (unless four_words ∷ phrase same (EXPR records) ∷ phrase same AFTER_EXPR ∷ []) p → Parted s (Stmts s) p
  stmt_expr (all_unless (all_phrase u (all_phrase v all_end))) K c = let o = v K c u.0 u.1 u.3 in (o.0, top u.0 u.1 o.1, has_sub refl u.2 (has_rest refl o.2 (has_end _)), o.3)

  after_last : {p : Parts} → Of (part ∷ []) p → After s p
  after_last (all_note all_end) K c h k q = (1, nil, has_told (has_end _), by_last q)

  after_semi : {p : Parts} → Of (word semicolon ∷ phrase same STATEMENTS ∷ []) p → After s p
  after_semi {p = p} (all_token {x = x} e y (all_phrase v all_end)) K c h k q =
      let o = v (beside K (top h k nil)) c in
      (o.0, o.1, subst (λ (t : Grove). Has p (mid (beside K (top h k nil)) c 0) (mid t c o.0)) (beside_on K h k o.1) (has_tok x (plain_word x (semicolon ∷ []) tt e) (has_rest refl o.2 (has_end _))), by_expr q o.3)

  after_next : {p : Parts} → Of (phrase same STATEMENT ∷ []) p → After s p
  after_next {p = p} (all_phrase v all_end) K c h k q =
      let o = v (beside K (top h k nil)) c in
      (o.0, o.1, subst (λ (t : Grove). Has p (mid (beside K (top h k nil)) c 0) (mid t c o.0)) (beside_on K h k o.1) (has_rest refl o.2 (has_end _)), by_expr q o.3)

  let_of : {p : Parts} → Of (word 'let' ∷ phrase same NAME ∷ phrase same LET_TYPE ∷ word '=' ∷ phrase same (EXPR records) ∷ word semicolon ∷ row kinds.LET ∷ []) p → LetOf s p
  let_of (all_token {x = x} e y (all_phrase u (all_phrase v (all_token {x = x'} e' y' (all_phrase w (all_token {x = x''} e'' y'' (all_note all_end))))))) =
      let o = v (top (name_head u.0) nil nil) x.word in
      (o.0, _, left_trees (has_tok x (plain_word x ('let' ∷ []) tt e) (has_sub refl u.1 (has_rest refl o.2 (has_tok x' (plain_word x' ('=' ∷ []) tt e') (has_sub refl w.2 (has_tok x'' (plain_word x'' (semicolon ∷ []) tt e'') (has_put kinds.LET refl refl refl (has_end _)))))))), go o.3)
    where
      go : {v : ℕ} {g : Grove} → Perhaps s (TypeOk s) v g → Says s LET (row_head kinds.LET v 0) (beside (beside (top (name_head u.0) nil nil) g) (top w.0 w.1 nil))
      go not_there = let_says s u.0 w.0 w.1 u.2 w.3
      go (is_there {h = h} {k = k} t) = let_typed s u.0 h w.0 k w.1 u.2 t.0 w.3

  -- declarations
  const_of : {p : Parts} → Of (word 'const' ∷ phrase same NAME ∷ word ':' ∷ phrase same TYPE ∷ word '=' ∷ phrase same (EXPR records) ∷ word semicolon ∷ row kinds.CONST ∷ []) p → Tree s (Says s DECLARATION) p
  const_of (all_token {x = x} e y (all_phrase u (all_token {x = x₁} e₁ y₁ (all_phrase v (all_token {x = x₂} e₂ y₂ (all_phrase w (all_token {x = x₃} e₃ y₃ (all_note all_end)))))))) =
      (_, _, left_trees (has_tok x (plain_word x ('const' ∷ []) tt e) (has_sub refl u.1 (has_tok x₁ (plain_word x₁ (':' ∷ []) tt e₁) (has_sub refl v.2 (has_tok x₂ (plain_word x₂ ('=' ∷ []) tt e₂) (has_sub refl w.2 (has_tok x₃ (plain_word x₃ (semicolon ∷ []) tt e₃) (has_put kinds.CONST refl refl refl (has_end _))))))))), const_says s u.0 v.0 w.0 v.1 w.1 u.2 v.3.0 w.3)

  fn_of : {p : Parts} → Of (word 'fn' ∷ phrase same NAME ∷ phrase same PARAMS ∷ phrase same RESULT ∷ phrase same BLOCK ∷ row kinds.FN ∷ []) p → Tree s (Says s DECLARATION) p
  fn_of (all_token {x = x} e y (all_phrase u (all_phrase v (all_phrase w (all_phrase b (all_note all_end)))))) =
      let o = v (top (name_head u.0) nil nil) x.word 0 in
      let r = w (top (name_head u.0) nil o.0) x.word in
      (row_head kinds.FN r.0 0, _, left_trees (has_tok x (plain_word x ('fn' ∷ []) tt e) (has_sub refl u.1 (has_rest refl o.1 (has_rest refl r.2 (has_sub refl b.2 (has_put kinds.FN refl refl refl (has_end _))))))), go o.2 r.3)
    where
      go : {P' : Grove} {v : ℕ} {g : Grove} → Params s P' → Perhaps s (TypeOk s) v g → Says s DECLARATION (row_head kinds.FN v 0) (beside (beside (top (name_head u.0) nil P') g) (top (row_head kinds.BLOCK b.0 0) b.1 nil))
      go {P' = P'} m not_there = subst (λ (t : Grove). Says s DECLARATION (row_head kinds.FN 0 0) (top (name_head u.0) nil (beside t (top (row_head kinds.BLOCK b.0 0) b.1 nil)))) (sym (beside_nil P')) (fn_says s u.0 P' b.0 b.1 u.2 m (block_says s b.3))
      go {P' = P'} m (is_there {h = h} {k = k} t) = subst (λ (t : Grove). Says s DECLARATION (row_head kinds.FN 1 0) (top (name_head u.0) nil t)) (sym (beside_on P' h k (top (row_head kinds.BLOCK b.0 0) b.1 nil))) (fn_typed s u.0 P' h k (row_head kinds.BLOCK b.0 0) b.1 u.2 m t.1 t.0 (block_says s b.3))

  filter_of : {p : Parts} → Of (one filter_words ∷ phrase same NAME ∷ phrase same PARAMS ∷ phrase same BLOCK ∷ row kinds.FILTER ∷ []) p → Tree s (Says s DECLARATION) p
  filter_of (all_token {x = x} e y (all_phrase u (all_phrase v (all_phrase b (all_note all_end))))) =
      let o = v (top (name_head u.0) nil nil) x.word 0 in
      (_, _, left_trees (has_tok x (plain_word x filter_words tt e) (has_sub refl u.1 (has_rest refl o.1 (has_sub refl b.2 (has_put kinds.FILTER refl refl refl (has_end _)))))), filter_says s x.word e u.0 o.0 b.0 b.1 u.2 o.2 (block_says s b.3))

  test_of : {p : Parts} → Of (word 'test' ∷ phrase same NAME ∷ phrase same BLOCK ∷ row kinds.TEST ∷ []) p → Tree s (Says s DECLARATION) p
  test_of (all_token {x = x} e y (all_phrase u (all_phrase b (all_note all_end)))) = (_, _, left_trees (has_tok x (plain_word x ('test' ∷ []) tt e) (has_sub refl u.1 (has_sub refl b.2 (has_put kinds.TEST refl refl refl (has_end _))))), test_says s u.0 (row_head kinds.BLOCK b.0 0) b.1 u.2 (block_says s b.3))

  import_decl : {p : Parts} → Of (phrase same IMPORT ∷ []) p → Tree s (Says s DECLARATION) p
  import_decl (all_phrase u all_end) = (_, _, left_trees (has_sub refl u.1 (has_end _)), import_declared s u.0 u.2)

  params_of : {p : Parts} → Of (opens open_paren ∷ phrase same TYPED_NAMES ∷ closes close_paren ∷ []) p → Adds s (Params s) p
  params_of (all_token {x = x} e y (all_phrase u (all_token {x = x'} e' y' all_end))) K c v = let o = u K c v in (o.0, has_tok x (plain_word x (open_paren ∷ []) tt e) (has_rest refl o.1 (has_tok x' (plain_word x' (close_paren ∷ []) tt e') (has_end _))), o.2)

  decls_of : {p : Parts} → Of (phrase same DECLARATION ∷ phrase same DECLARATIONS ∷ []) p → Joins s (Declared s) p
  decls_of {p = p} (all_phrase u (all_phrase v all_end)) K w =
      let o = v (beside K (top u.0 u.1 nil)) w in
      (top u.0 u.1 o.0, o.1, subst (λ (t : Grove). Has p (sh K w 0) (sh t o.1 0)) (beside_on K u.0 u.1 o.0) (has_sub refl u.2 (has_rest refl o.2 (has_end _))), more_decls u.3 o.3)

  tree_of : {p : Parts} → Of (phrase same DECLARATIONS ∷ []) p → Trees s (Declared s) p
  tree_of (all_phrase v all_end) = let o = v nil [] in (o.0, left_trees (has_rest refl o.2 (has_end _)), o.3)

  -- params are names with types
  param_on : {p : Parts} → Of (phrase same TYPED_NAME ∷ phrase same TYPED_NAMES_MORE ∷ []) p → Adds s (Params s) p
  param_on {p = p} (all_phrase u (all_phrase v all_end)) K c i =
      let h = row_head kinds.TYPED_NAME 0 0 in
      let o = v (beside K (top h u.0 nil)) c i in
      (top h u.0 o.0, subst (λ (t : Grove). Has p (mid K c i) (mid t c i)) (beside_on K h u.0 o.0) (has_sub refl u.1 (has_rest refl o.1 (has_end _))), more_params u.2 o.2)

  says_typed : (p : Parts) → Tree s (TypeOk s) p → Tree s (Says s TYPE) p
  says_typed p u = (u.0, u.1, u.2, says_type s u.3.0)

  says_name : (p : Parts) → Name s names p → Tree s (Says s NAME) p
  says_name p u = (name_head u.0, nil, u.1, name_says s u.0 u.2)

  says_it : (p : Parts) → Expr s p → Tree s (Says s (EXPR records)) p
  says_it p u = (u.0, u.1, u.2, says_expr s u.3)

  block_expr : (p : Parts) → BlockOf s p → Expr s p
  block_expr p u = (row_head kinds.BLOCK u.0 0, u.1, u.2, block_row s u.3)

  -- a string with expressions inside is handed in
  abbrev pub text_alternative : List Symbol
  text_alternative = word f_quote ∷ text HOLE ∷ row kinds.F_STRING ∷ []

  abbrev pub C : ℕ → List Symbol → Type 0
  C n a = (p : Parts) → Once S l G Knows P a p → Of a p → P n a p

  module _ (texts : C F_STRING text_alternative) where
    among : (w : List ℕ) → Each (λ c. T (one_of c binary_signs)) w → (c : ℕ) → T (one_of c w) → T (one_of c binary_signs)
    among w h c m = each_of (λ c. T (one_of c binary_signs)) w c m h

    each : Rules C (roto true).rules
    unfolding roto
    each = (
      (λ p o h. list_none no_params h, (λ p o h. param_on h, tt)),
      (
        (λ p o h. list_none no_params h, (λ p o h. list_comma refl (λ p u. u) h, tt)),
        (
          (λ p o h. list_none no_more h, (λ p o h. list_some refl refl says_typed (λ p u. u) as_listed h, tt)),
          (
            (λ p o h. list_none no_more h, (λ p o h. list_comma refl (λ p u. u) h, tt)),
            (
              (λ p o h. list_none no_more h, (λ p o h. list_some refl refl says_it (λ p u. u) as_listed h, tt)),
              (
                (λ p o h. list_none no_more h, (λ p o h. list_comma refl (λ p u. u) h, tt)),
                (
                  (λ p o h. list_none no_more h, (λ p o h. list_some refl refl (λ p u. u) (λ p u. u) as_listed h, tt)),
                  (
                    (λ p o h. list_none no_more h, (λ p o h. list_comma refl (λ p u. u) h, tt)),
                    (
                      (λ p o h. list_none no_more h, (λ p o h. list_some refl refl says_name (λ p u. u) as_listed h, tt)),
                      (
                        (λ p o h. list_none no_more h, (λ p o h. list_comma refl (λ p u. u) h, tt)),
                        (
                          (λ p o h. tree_of h, tt),
                          (
                            (λ p o h. next_none no_decls h, (λ p o h. decls_of h, tt)),
                            (
                              (λ p o h. const_of h, (λ p o h. fn_of h, (λ p o h. filter_of h, (λ p o h. import_decl h, (λ p o h. test_of h, tt))))),
                              (
                                (λ p o h. params_of h, tt),
                                (
                                  (λ p o h. type_absent h, (λ p o h. type_there tt h, tt)),
                                  (
                                    (λ p o h. typed_name_of h, tt),
                                    (
                                      (λ p o h. a_name names tt h, tt),
                                      (
                                        (λ p o h. import_of h, tt),
                                        (
                                          (λ p o h. imported_of h, tt),
                                          (
                                            (λ p o h. import_path_of h, tt),
                                            (
                                              (λ p o h. next_none import_end h, (λ p o h. import_dot h, tt)),
                                              (
                                                (λ p o h. import_on h, (λ p o h. group_of h, tt)),
                                                (
                                                  (λ p o h. import_paths h, tt),
                                                  (
                                                    (λ p o h. next_none no_paths h, (λ p o h. paths_comma h, tt)),
                                                    (
                                                      (λ p o h. a_name path_items tt h, tt),
                                                      (
                                                        (λ p o h. path_of h, tt),
                                                        (
                                                          (λ p o h. next_none no_items h, (λ p o h. items_of h, tt)),
                                                          (
                                                            (λ p o h. chained refl refl (λ p u. u) (λ p u. u) h, tt),
                                                            (
                                                              (λ p o h. nothing_on h, (λ p o h. marks_of h, tt)),
                                                              (
                                                                (λ p o h. type_none h, (λ p o h. type_unit h, (λ p o h. type_record h, (λ p o h. chained refl refl (λ p u. u) (λ p u. u) h, tt)))),
                                                                (
                                                                  (λ p o h. brackets_none h, (λ p o h. brackets_of h, tt)),
                                                                  (
                                                                    (λ p o h. block_of h, tt),
                                                                    (
                                                                      (λ p o h. stmts_none h, (λ p o h. stmts_one h, tt)),
                                                                      (
                                                                        (λ p o h. stmt_import h, (λ p o h. stmt_let h, (λ p o h. stmt_four h, (λ p o h. stmt_expr h, tt)))),
                                                                        (
                                                                          (λ p o h. after_last h, (λ p o h. after_semi h, (λ p o h. after_next h, tt))),
                                                                          (
                                                                            (λ p o h. after_last h, (λ p o h. after_semi h, tt)),
                                                                            (
                                                                              (λ p o h. let_of h, tt),
                                                                              (
                                                                                (λ p o h. type_absent h, (λ p o h. type_there tt h, tt)),
                                                                                (
                                                                                  (λ p o h. return_of refl (λ p u. u) h, (λ p o h. side_of refl refl (λ p u. u) (λ p u. u) h, tt)),
                                                                                  (
                                                                                    (λ p o h. returned_of refl (λ p u. u) h, (λ p o h. returns_none h, tt)),
                                                                                    (
                                                                                      (λ p o h. nothing_after h, (λ p o h. assigned_of refl (λ p u. u) h, tt)),
                                                                                      (
                                                                                        (λ p o h. chained refl refl (λ p u. u) (λ p u. u) h, tt),
                                                                                        (
                                                                                          (λ p o h. nothing_on h, (λ p o h. signed_more tt (among ('||' ∷ []) (tt, tt)) refl refl (λ p u. u) (λ p u. u) h, tt)),
                                                                                          (
                                                                                            (λ p o h. chained refl refl (λ p u. u) (λ p u. u) h, tt),
                                                                                            (
                                                                                              (λ p o h. nothing_on h, (λ p o h. signed_more tt (among ('&&' ∷ []) (tt, tt)) refl refl (λ p u. u) (λ p u. u) h, tt)),
                                                                                              (
                                                                                                (λ p o h. chained refl refl (λ p u. u) (λ p u. u) h, tt),
                                                                                                (
                                                                                                  (λ p o h. nothing_on h, (λ p o h. signed_once tt (among compare_signs (tt, (tt, (tt, (tt, (tt, (tt, tt))))))) refl (λ p u. u) h, tt)),
                                                                                                  (
                                                                                                    (λ p o h. chained refl refl (λ p u. u) (λ p u. u) h, tt),
                                                                                                    (
                                                                                                      (λ p o h. nothing_on h, (λ p o h. signed_more tt (among sum_signs (tt, (tt, tt))) refl refl (λ p u. u) (λ p u. u) h, tt)),
                                                                                                      (
                                                                                                        (λ p o h. chained refl refl (λ p u. u) (λ p u. u) h, tt),
                                                                                                        (
                                                                                                          (λ p o h. nothing_on h, (λ p o h. signed_more tt (among product_signs (tt, (tt, (tt, tt)))) refl refl (λ p u. u) (λ p u. u) h, tt)),
                                                                                                          (
                                                                                                            (λ p o h. not_of refl (λ p u. u) h, (λ p o h. negate_of refl (λ p u. u) h, (λ p o h. chained refl refl (λ p u. u) (λ p u. u) h, (λ p o h. chained refl refl (λ p u. u) (λ p u. u) h, (λ p o h. chained refl refl (λ p u. u) (λ p u. u) h, (λ p o h. chained refl refl (λ p u. u) (λ p u. u) h, (λ p o h. chained refl refl (λ p u. u) (λ p u. u) h, (λ p o h. chained refl refl (λ p u. u) (λ p u. u) h, tt)))))))),
                                                                                                            (
                                                                                                              (λ p o h. nothing_on h, (λ p o h. question_on refl (λ p u. u) h, (λ p o h. call_on refl (λ p u. u) h, (λ p o h. access_on refl (λ p u. u) h, tt)))),
                                                                                                              (
                                                                                                                (λ p o h. nothing_after h, (λ p o h. from_path (question_on refl (λ p u. u) h), (λ p o h. from_path (call_on refl (λ p u. u) h), (λ p o h. record_on refl (λ p u. u) h, tt)))),
                                                                                                                (
                                                                                                                  (λ p o h. return_of refl (λ p u. u) h, (λ p o h. side_of refl refl (λ p u. u) (λ p u. u) h, tt)),
                                                                                                                  (
                                                                                                                    (λ p o h. returned_of refl (λ p u. u) h, tt),
                                                                                                                    (
                                                                                                                      (λ p o h. nothing_after h, (λ p o h. assigned_of refl (λ p u. u) h, tt)),
                                                                                                                      (
                                                                                                                        (λ p o h. chained refl refl (λ p u. u) (λ p u. u) h, tt),
                                                                                                                        (
                                                                                                                          (λ p o h. nothing_on h, (λ p o h. signed_more tt (among ('||' ∷ []) (tt, tt)) refl refl (λ p u. u) (λ p u. u) h, tt)),
                                                                                                                          (
                                                                                                                            (λ p o h. chained refl refl (λ p u. u) (λ p u. u) h, tt),
                                                                                                                            (
                                                                                                                              (λ p o h. nothing_on h, (λ p o h. signed_more tt (among ('&&' ∷ []) (tt, tt)) refl refl (λ p u. u) (λ p u. u) h, tt)),
                                                                                                                              (
                                                                                                                                (λ p o h. chained refl refl (λ p u. u) (λ p u. u) h, tt),
                                                                                                                                (
                                                                                                                                  (λ p o h. nothing_on h, (λ p o h. signed_once tt (among compare_signs (tt, (tt, (tt, (tt, (tt, (tt, tt))))))) refl (λ p u. u) h, tt)),
                                                                                                                                  (
                                                                                                                                    (λ p o h. chained refl refl (λ p u. u) (λ p u. u) h, tt),
                                                                                                                                    (
                                                                                                                                      (λ p o h. nothing_on h, (λ p o h. signed_more tt (among sum_signs (tt, (tt, tt))) refl refl (λ p u. u) (λ p u. u) h, tt)),
                                                                                                                                      (
                                                                                                                                        (λ p o h. chained refl refl (λ p u. u) (λ p u. u) h, tt),
                                                                                                                                        (
                                                                                                                                          (λ p o h. nothing_on h, (λ p o h. signed_more tt (among product_signs (tt, (tt, (tt, tt)))) refl refl (λ p u. u) (λ p u. u) h, tt)),
                                                                                                                                          (
                                                                                                                                            (λ p o h. not_of refl (λ p u. u) h, (λ p o h. negate_of refl (λ p u. u) h, (λ p o h. chained refl refl (λ p u. u) (λ p u. u) h, (λ p o h. chained refl refl (λ p u. u) (λ p u. u) h, (λ p o h. chained refl refl (λ p u. u) (λ p u. u) h, (λ p o h. chained refl refl (λ p u. u) (λ p u. u) h, (λ p o h. chained refl refl (λ p u. u) (λ p u. u) h, (λ p o h. chained refl refl block_expr (λ p u. u) h, tt)))))))),
                                                                                                                                            (
                                                                                                                                              (λ p o h. nothing_on h, (λ p o h. question_on refl (λ p u. u) h, (λ p o h. call_on refl (λ p u. u) h, (λ p o h. access_on refl (λ p u. u) h, tt)))),
                                                                                                                                              (
                                                                                                                                                (λ p o h. nothing_after h, (λ p o h. from_path (question_on refl (λ p u. u) h), (λ p o h. from_path (call_on refl (λ p u. u) h), tt))),
                                                                                                                                                (
                                                                                                                                                  (λ p o h. literal_of_lem h, tt),
                                                                                                                                                  (
                                                                                                                                                    (λ p o h. texts p o h, tt),
                                                                                                                                                    (
                                                                                                                                                      (λ p o h. tt, tt),
                                                                                                                                                      (
                                                                                                                                                        (λ p o h. parens_of h, tt),
                                                                                                                                                        (
                                                                                                                                                          (λ p o h. braces_of h, tt),
                                                                                                                                                          (
                                                                                                                                                            (λ p o h. fields_in h, (λ p o h. statements_in h, tt)),
                                                                                                                                                            (
                                                                                                                                                              (λ p o h. field_of h, tt),
                                                                                                                                                              (
                                                                                                                                                                (λ p o h. a_name names tt h, tt),
                                                                                                                                                                (
                                                                                                                                                                  (λ p o h. four_if h, (λ p o h. four_while h, (λ p o h. four_for h, (λ p o h. four_match h, tt)))),
                                                                                                                                                                  (
                                                                                                                                                                    (λ p o h. list_none no_else h, (λ p o h. else_of h, tt)),
                                                                                                                                                                    (
                                                                                                                                                                      (λ p o h. else_by_block h, (λ p o h. else_by_if h, tt)),
                                                                                                                                                                      (
                                                                                                                                                                        (λ p o h. else_if_of h, tt),
                                                                                                                                                                        (
                                                                                                                                                                          (λ p o h. no_arms_of h, (λ p o h. arms_of h, tt)),
                                                                                                                                                                          (
                                                                                                                                                                            (λ p o h. arm_of h, tt),
                                                                                                                                                                            (
                                                                                                                                                                              (λ p o h. body_block h, (λ p o h. body_expr h, tt)),
                                                                                                                                                                              (
                                                                                                                                                                                (λ p o h. next_none no_arms h, (λ p o h. next_arms h, tt)),
                                                                                                                                                                                (
                                                                                                                                                                                  (λ p o h. next_none no_trees h, (λ p o h. comma_of h, tt)),
                                                                                                                                                                                  (
                                                                                                                                                                                    (λ p o h. guard_none h, (λ p o h. guard_of h, tt)),
                                                                                                                                                                                    (
                                                                                                                                                                                      (λ p o h. pattern_of h, (λ p o h. any_of h, tt)),
                                                                                                                                                                                      (
                                                                                                                                                                                        (λ p o h. a_name (name ∷ []) tt h, tt),
                                                                                                                                                                                        (
                                                                                                                                                                                          (λ p o h. variant_none h, (λ p o h. variant_names h, tt)),
                                                                                                                                                                                          tt,
                                                                                                                                                                                        ),
                                                                                                                                                                                      ),
                                                                                                                                                                                    ),
                                                                                                                                                                                  ),
                                                                                                                                                                                ),
                                                                                                                                                                              ),
                                                                                                                                                                            ),
                                                                                                                                                                          ),
                                                                                                                                                                        ),
                                                                                                                                                                      ),
                                                                                                                                                                    ),
                                                                                                                                                                  ),
                                                                                                                                                                ),
                                                                                                                                                              ),
                                                                                                                                                            ),
                                                                                                                                                          ),
                                                                                                                                                        ),
                                                                                                                                                      ),
                                                                                                                                                    ),
                                                                                                                                                  ),
                                                                                                                                                ),
                                                                                                                                              ),
                                                                                                                                            ),
                                                                                                                                          ),
                                                                                                                                        ),
                                                                                                                                      ),
                                                                                                                                    ),
                                                                                                                                  ),
                                                                                                                                ),
                                                                                                                              ),
                                                                                                                            ),
                                                                                                                          ),
                                                                                                                        ),
                                                                                                                      ),
                                                                                                                    ),
                                                                                                                  ),
                                                                                                                ),
                                                                                                              ),
                                                                                                            ),
                                                                                                          ),
                                                                                                        ),
                                                                                                      ),
                                                                                                    ),
                                                                                                  ),
                                                                                                ),
                                                                                              ),
                                                                                            ),
                                                                                          ),
                                                                                        ),
                                                                                      ),
                                                                                    ),
                                                                                  ),
                                                                                ),
                                                                              ),
                                                                            ),
                                                                          ),
                                                                        ),
                                                                      ),
                                                                    ),
                                                                  ),
                                                                ),
                                                              ),
                                                            ),
                                                          ),
                                                        ),
                                                      ),
                                                    ),
                                                  ),
                                                ),
                                              ),
                                            ),
                                          ),
                                        ),
                                      ),
                                    ),
                                  ),
                                ),
                              ),
                            ),
                          ),
                        ),
                      ),
                    ),
                  ),
                ),
              ),
            ),
          ),
        ),
      ),
    )

    pub step : Step S l G Knows P
    unfolding roto
    step n a p o u h = rule_at C (roto true).rules n o each p u h
