-- Rows of exprs that stand where they are put: signs, marks, calls, paths, literals.
use mathlib.Core.Path.{◌∙◌, ◌≡◌, ap, refl, subst, sym}
use mathlib.Core.List.{List, [], ◌++◌, ◌∷◌}
use mathlib.Core.Bool.{Bool, ◌||◌, cond, false, not, true}
use Prim.Native.Nat.{ℕ, zero, suc, pred, ◌≤◌}
use lib.Dec.{T, eqb}
use Rattle.rows.specs.Kinds as kinds
use Rattle.grammar.specs.Words.{'!', '&&', '-', '?', '||', assign_signs, binary_signs, close_paren, compare_signs, dot, f_quote, four_words, literals, names, open_brace, open_paren, path_items, product_signs, return_words, sum_signs}
use Rattle.grammar.specs.Grammar.{In, Token, alternatives, end, here, leaf, mark, one_of, there}
use Rattle.grammar.specs.Kinds.{AFTER_PATH, AND_MORE, ASSIGNED, BINARY, COMPARE_MORE, EXPR, EXPRS, F_STRING, FOUR, LITERAL, NAME, OPERAND, OR_MORE, PATH, PATH_ITEM, PATH_REST, POSTFIX, PRODUCT_MORE, RETURNED, SUM_MORE}
use Rattle.grammar.specs.Readings.{peek, reads_end, reads_note, reads_token}
use Rattle.grammar.specs.Table.{a, one, word, opens, closes, prefix, row, literal_row}
use Rattle.grammar.specs.Rows.{is_text, place_in}
use Rattle.grammar.specs.Language.{roto}
use Rattle.grammar.specs.Culprit.{lists}
use Rattle.grammar.proofs.Frame.{no_text, plain_word}
use Rattle.canon.specs.Trees.{copied}
use Rattle.canon.specs.Layout.{Place, whole, left, right, pathless, each, joined, level, binary_level, left_level, is_four, is_expr, nth, layout, layouts}
use Rattle.printing.specs.Groves.{Grove, Head, State, Suit, Suits, beside, body, fresh, grow, labelled, nil, said, say, signed, token_of, top}
use Rattle.printing.specs.Pairs.{Choice, after, number, under}
use Rattle.printing.proofs.Lists.{Rest, Rst, Whole, binary, chain, compared, done, finish, grow_leaf, in_chain_compare, in_more_and, in_more_compare, in_more_or, in_more_product, in_more_sum, in_no_and, in_no_product, in_no_sum, l, more, more_after_path, more_and_more, more_compare_more, more_or_more, more_postfix, more_product_more, more_sum_more, none, own_and, own_compare, own_operand, own_product, own_sum, put, rest, sub, tok}
use Rattle.printing.proofs.Levels.{Level}
use Rattle.printing.proofs.Placed.{Barred, Fair, Items, PathTree, Placed, a_brace, apart, barred, each_of, more_items, name_head, natural, no_items, no_word, path, row_head, settle, the_four}

pub in_not : (r : Bool) → In (prefix ('!' ∷ []) ∷ a (OPERAND r) ∷ row kinds.NOT ∷ []) (alternatives l (OPERAND r))
unfolding roto
in_not true = here
in_not false = here

pub in_negate : (r : Bool) → In (prefix ('-' ∷ []) ∷ a (OPERAND r) ∷ row kinds.NEGATE ∷ []) (alternatives l (OPERAND r))
unfolding roto
in_negate true = there here
in_negate false = there here

pub in_literal : (r : Bool) → In (a LITERAL ∷ a (POSTFIX r) ∷ []) (alternatives l (OPERAND r))
unfolding roto
in_literal true = there (there here)
in_literal false = there (there here)

pub in_f_string : (r : Bool) → In (a F_STRING ∷ a (POSTFIX r) ∷ []) (alternatives l (OPERAND r))
unfolding roto
in_f_string true = there (there (there here))
in_f_string false = there (there (there here))

pub in_path : (r : Bool) → In (a PATH ∷ a (AFTER_PATH r) ∷ []) (alternatives l (OPERAND r))
unfolding roto
in_path true = there (there (there (there here)))
in_path false = there (there (there (there here)))

pub in_four : (r : Bool) → In (a FOUR ∷ a (POSTFIX r) ∷ []) (alternatives l (OPERAND r))
unfolding roto
in_four true = there (there (there (there (there (there here)))))
in_four false = there (there (there (there (there (there here)))))

pub in_question : (r : Bool) → In (word '?' ∷ row kinds.QUESTION ∷ a (POSTFIX r) ∷ []) (alternatives l (POSTFIX r))
unfolding roto
in_question true = there here
in_question false = there here

pub in_call : (r : Bool) → In (opens open_paren ∷ a EXPRS ∷ closes close_paren ∷ row kinds.CALL ∷ a (POSTFIX r) ∷ []) (alternatives l (POSTFIX r))
unfolding roto
in_call true = there (there here)
in_call false = there (there here)

pub in_access : (r : Bool) → In (word dot ∷ a NAME ∷ row kinds.ACCESS ∷ a (POSTFIX r) ∷ []) (alternatives l (POSTFIX r))
unfolding roto
in_access true = there (there (there here))
in_access false = there (there (there here))

pub in_path_question : (r : Bool) → In (word '?' ∷ row kinds.QUESTION ∷ a (POSTFIX r) ∷ []) (alternatives l (AFTER_PATH r))
unfolding roto
in_path_question true = there here
in_path_question false = there here

pub in_path_call : (r : Bool) → In (opens open_paren ∷ a EXPRS ∷ closes close_paren ∷ row kinds.CALL ∷ a (POSTFIX r) ∷ []) (alternatives l (AFTER_PATH r))
unfolding roto
in_path_call true = there (there here)
in_path_call false = there (there here)

pub in_return : (r : Bool) → In (prefix return_words ∷ a (RETURNED r) ∷ row kinds.RETURN ∷ []) (alternatives l (EXPR r))
unfolding roto
in_return true = here
in_return false = here

pub in_returned : (r : Bool) → In (a (EXPR r) ∷ []) (alternatives l (RETURNED r))
unfolding roto
in_returned true = here
in_returned false = here

pub in_assigned : (r : Bool) → In (one assign_signs ∷ a (BINARY r) ∷ row kinds.ASSIGN ∷ []) (alternatives l (ASSIGNED r))
unfolding roto
in_assigned true = there here
in_assigned false = there here

-- no barred word
pub free : (c : ℕ) (u : Barred) → T (not (one_of c (open_brace ∷ four_words))) → T (not (one_of c (barred u)))
free c no_word t = tt
free c the_four t = go (eqb c open_brace) (one_of c four_words) t
  where
    go : (b d : Bool) → T (not (b || d)) → T (not d)
    go true d t = absurd t
    go false d t = t
free c a_brace t = go (eqb c open_brace) (one_of c four_words) t
  where
    go : (b d : Bool) → T (not (b || d)) → T (not (b || false))
    go true d t = absurd t
    go false d t = tt

-- a name, where one of these words may stand
pub named : {n : ℕ} {y : List Token} (x : Token) (w : List ℕ) → In (one w ∷ row kinds.NAME ∷ []) (alternatives l n) → T (no_text w) → T (one_of x.word w) → Whole n (x ∷ y) y (top (name_head x) nil nil)
unfolding grow
named x w o t m = record { alt = _; takes = o; parts = leaf x (mark kinds.NAME end); reads = λ d. reads_token refl m tt (reads_note reads_end); leaves = ap (λ (a : State). a.kids) (grow_leaf x (mark kinds.NAME end) fresh (plain_word x w t m)) }

pub in_name : In (one names ∷ row kinds.NAME ∷ []) (alternatives l NAME)
unfolding roto
in_name = here

pub in_item : In (one path_items ∷ row kinds.NAME ∷ []) (alternatives l PATH_ITEM)
unfolding roto
in_item = here

pub beside_nil : (g : Grove) → beside g nil ≡ g
beside_nil nil = refl
beside_nil (top h k t) = ap (top h k) (beside_nil t)

pub beside_on : (g : Grove) (h : Head) (k t : Grove) → beside (beside g (top h k nil)) t ≡ beside g (top h k t)
beside_on nil h k t = refl
beside_on (top h' k' g) h k t = ap (top h' k') (beside_on g h k t)

abbrev pub binary_head : ℕ → Head
binary_head d = row_head kinds.BINARY 0 d

abbrev pub two : Head → Grove → Head → Grove → Grove
two h k h' k' = top h k (top h' k' nil)

abbrev pub sign_for : ℕ → Token
sign_for d = token_of (nth binary_signs (pred d))

-- the kinds of literals, and the heads of leaves
abbrev pub literal_kinds : List ℕ
literal_kinds = kinds.INTEGER ∷ kinds.FLOAT ∷ kinds.BOOL ∷ kinds.ASN ∷ kinds.IPV4 ∷ kinds.IPV6 ∷ kinds.STRING ∷ kinds.CHAR ∷ []

abbrev pub leaf_head : ℕ → Token → Head
leaf_head k x = record { kind = k; value = x.value; detail = x.detail; tokens = x ∷ [] }

abbrev pub text_row_head : ℕ → List Token → Head
text_row_head v ts = record { kind = kinds.F_STRING; value = v; detail = 0; tokens = ts }

module _ (s : List ℕ) where
  -- a row of two with a sign between: the sign's detail d, the levels that it asks
  module _ (h : Head) (k : Grove) (h' : Head) (k' : Grove) (p : Placed s h k) (q : Placed s h' k') where
    abbrev kids : Grove
    kids = two h k h' k'

    abbrev Left : ℕ → Place → Choice → Type 0
    Left j c χ = Suit s (left j c) (number χ) h k (under χ)

    abbrev Right : ℕ → Place → Choice → Type 0
    Right j c χ = Suit s (right j c) (number (after χ)) h' k' (under (after χ))

    left_at : (d i : ℕ) → left_level d ≡ i → (c : Place) → Fair (left i c) → (χ : Choice) → Left (left_level d) c χ → Level i c.records (say s (left (left_level d) c) (number χ) h k (under χ)) (top h k nil)
    left_at d i e c f χ = subst (λ (j : ℕ). Left j c χ → Level i c.records (say s (left j c) (number χ) h k (under χ)) (top h k nil)) (sym e) (p.stands (left i c) f (number χ) (under χ))

    abbrev right_said : ℕ → Place → Choice → List Token → List Token
    right_said j c χ z = say s (right j c) (number (after χ)) h' k' (under (after χ)) z

    right_at : (d i : ℕ) → suc (binary_level d) ≡ i → (c : Place) → Fair (right i c) → (χ : Choice) → Right (suc (binary_level d)) c χ → Level i c.records (right_said (suc (binary_level d)) c χ) (top h' k' nil)
    right_at d i e c f χ = subst (λ (j : ℕ). Right j c χ → Level i c.records (right_said j c χ) (top h' k' nil)) (sym e) (q.stands (right i c) f (number (after χ)) (under (after χ)))

    abbrev by_sign : ℕ → Place → Choice → List Token → List Token
    by_sign d c χ z = say s (left (left_level d) c) (number χ) h k (under χ) (sign_for d ∷ right_said (suc (binary_level d)) c χ z)

    abbrev Signs : ℕ → ℕ → Type 0
    Signs d n = (c : Place) (χ : Choice) → Left (left_level d) c χ → Right (suc (binary_level d)) c χ → Level n c.records (by_sign d c χ) (top (binary_head d) kids nil)

    -- it begins with its left part
    signed_row : (d n : ℕ) → natural s (binary_head d) ≡ n → Signs d n → Placed s (binary_head d) kids
    unfolding said layout layouts
    signed_row d n e u = settle s (binary_head d) kids (record {
      stands = λ c χ f t. subst (λ (i : ℕ). Level i c.records (by_sign d c χ) (top (binary_head d) kids nil)) (sym e) (u c χ (t.0, t.1) (t.2.0, t.2.1));
      begin = λ c u χ e t f z. p.begin (left (left_level d) c) u (number χ) (under χ) (t.0, t.1) f _;
      path = absurd;
      four = absurd;
      block = absurd;
      expr = tt;
    })

    abbrev Sign : ℕ → List ℕ → Type 0
    Sign d w = T (one_of (nth binary_signs (pred d)) w) × (place_in (nth binary_signs (pred d)) binary_signs ≡ d) × (is_text (sign_for d) ≡ false)

    or_row : (d : ℕ) → binary_level d ≡ 1 → left_level d ≡ 1 → Sign d ('||' ∷ []) → Placed s (binary_head d) kids
    or_row d e f m = signed_row d 1 (ap (λ (n : ℕ). cond (eqb n 7) 8 n) e) (λ c χ a b y z g v. left_at d 1 f c tt χ a _ _ _ (more (sign_for d) (in_more_or c.records) m.2 m.0 (own_and c.records) (more_or_more c.records) (right_at d 2 (ap suc e) c tt χ b y y _ (none (in_no_and c.records))) (subst (λ (i : ℕ). Rest (OR_MORE c.records) y z (binary i kids) g) (sym m.1) v)))

    and_row : (d : ℕ) → binary_level d ≡ 2 → left_level d ≡ 2 → Sign d ('&&' ∷ []) → Placed s (binary_head d) kids
    and_row d e f m = signed_row d 2 (ap (λ (n : ℕ). cond (eqb n 7) 8 n) e) (λ c χ a b y z g v. left_at d 2 f c tt χ a _ _ _ (more (sign_for d) (in_more_and c.records) m.2 m.0 (own_compare c.records) (more_and_more c.records) (right_at d 3 (ap suc e) c tt χ b y) (subst (λ (i : ℕ). Rest (AND_MORE c.records) y z (binary i kids) g) (sym m.1) v)))

    compare_row : (d : ℕ) → binary_level d ≡ 3 → left_level d ≡ 4 → Sign d compare_signs → Placed s (binary_head d) kids
    compare_row d e f m = signed_row d 3 (ap (λ (n : ℕ). cond (eqb n 7) 8 n) e) (λ c χ a b y. chain (in_chain_compare c.records) (own_sum c.records) (more_compare_more c.records) (left_at d 4 f c tt χ a _ _ _ (none (in_no_sum c.records)))
        (subst (λ (i : ℕ). Rest (COMPARE_MORE c.records) (sign_for d ∷ right_said (suc (binary_level d)) c χ y) y (top h k nil) (binary i kids)) m.1 (compared (sign_for d) (in_more_compare c.records) m.2 m.0 (own_sum c.records) (right_at d 4 (ap suc e) c tt χ b y y _ (none (in_no_sum c.records))))))

    sum_row : (d : ℕ) → binary_level d ≡ 4 → left_level d ≡ 4 → Sign d sum_signs → Placed s (binary_head d) kids
    sum_row d e f m = signed_row d 4 (ap (λ (n : ℕ). cond (eqb n 7) 8 n) e) (λ c χ a b y z g v. left_at d 4 f c tt χ a _ _ _ (more (sign_for d) (in_more_sum c.records) m.2 m.0 (own_product c.records) (more_sum_more c.records) (right_at d 5 (ap suc e) c tt χ b y y _ (none (in_no_product c.records))) (subst (λ (i : ℕ). Rest (SUM_MORE c.records) y z (binary i kids) g) (sym m.1) v)))

    product_row : (d : ℕ) → binary_level d ≡ 5 → left_level d ≡ 5 → Sign d product_signs → Placed s (binary_head d) kids
    product_row d e f m = signed_row d 5 (ap (λ (n : ℕ). cond (eqb n 7) 8 n) e) (λ c χ a b y z g v. left_at d 5 f c tt χ a _ _ _ (more (sign_for d) (in_more_product c.records) m.2 m.0 (own_operand c.records) (more_product_more c.records) (right_at d 6 (ap suc e) c tt χ b y) (subst (λ (i : ℕ). Rest (PRODUCT_MORE c.records) y z (binary i kids) g) (sym m.1) v)))

    pub binary_row : (c : ℕ) → T (one_of c binary_signs) → Placed s (binary_head (place_in c binary_signs)) kids
    binary_row c m = each_of (λ c. Placed s (binary_head (place_in c binary_signs)) kids) binary_signs c m
        (or_row 1 refl refl (tt, refl, refl), (and_row 2 refl refl (tt, refl, refl), (compare_row 3 refl refl (tt, refl, refl), (compare_row 4 refl refl (tt, refl, refl), (compare_row 5 refl refl (tt, refl, refl), (compare_row 6 refl refl (tt, refl, refl), (compare_row 7 refl refl (tt, refl, refl), (compare_row 8 refl refl (tt, refl, refl), (sum_row 9 refl refl (tt, refl, refl), (sum_row 10 refl refl (tt, refl, refl), (product_row 11 refl refl (tt, refl, refl), (product_row 12 refl refl (tt, refl, refl), (product_row 13 refl refl (tt, refl, refl), tt)))))))))))))

  -- a prefix
  module _ (h : Head) (k : Grove) (p : Placed s h k) where
    pub not_row : Placed s (row_head kinds.NOT 0 0) (top h k nil)
    unfolding said layout layouts
    not_row = settle s (row_head kinds.NOT 0 0) (top h k nil) (record {
      stands = λ c χ e t y. finish (in_not c.records) (tok (token_of '!') refl tt (λ d. tt) (sub (own_operand c.records) (p.stands (right 6 c) tt (number χ) (under χ) (t.0, t.1) y) (put kinds.NOT refl refl refl done)));
      begin = λ c u χ e t f z. free '!' u tt;
      path = absurd;
      four = absurd;
      block = absurd;
      expr = tt;
    })

    pub negate_row : Placed s (row_head kinds.NEGATE 0 0) (top h k nil)
    unfolding said layout layouts
    negate_row = settle s (row_head kinds.NEGATE 0 0) (top h k nil) (record {
      stands = λ c χ e t y. finish (in_negate c.records) (tok (token_of '-') refl tt (λ d. tt) (sub (own_operand c.records) (p.stands (right 6 c) tt (number χ) (under χ) (t.0, t.1) y) (put kinds.NEGATE refl refl refl done)));
      begin = λ c u χ e t f z. free '-' u tt;
      path = absurd;
      four = absurd;
      block = absurd;
      expr = tt;
    })

    -- a mark behind it; a name behind a dot
    pub question_row : Placed s (row_head kinds.QUESTION 0 0) (top h k nil)
    unfolding said layout layouts
    question_row = settle s (row_head kinds.QUESTION 0 0) (top h k nil) (record {
      stands = λ c χ e t y z g v.
          let on = tok (token_of '?') refl tt (λ d. tt) (put kinds.QUESTION refl refl refl (rest (more_postfix c.records) v done)) in
          p.stands (left 7 c) tt (number χ) (under χ) (t.0, t.1) _ _ _ (record { alt = _; takes = in_question c.records; goes = on }) (record { alt = _; takes = in_path_question c.records; goes = on });
      begin = λ c u χ e t f z. p.begin (left 7 c) u (number χ) (under χ) (t.0, t.1) f _;
      path = absurd;
      four = absurd;
      block = absurd;
      expr = tt;
    })

    pub access_row : (x : Token) → T (one_of x.word names) → Placed s (row_head kinds.ACCESS 0 0) (two h k (name_head x) nil)
    unfolding said layout layouts
    access_row x m = settle s (row_head kinds.ACCESS 0 0) (two h k (name_head x) nil) (record {
      stands = λ c χ e t y z g v. p.stands (pathless (left 7 c)) tt (number χ) (under χ) (t.0, t.1) _ _ _ (record { alt = _; takes = in_access c.records; goes = tok (token_of dot) refl tt (λ d. tt) (sub refl (named x names in_name tt m) (put kinds.ACCESS refl refl refl (rest (more_postfix c.records) v done))) });
      begin = λ c u χ e t f z. p.begin (pathless (left 7 c)) u (number χ) (under χ) (t.0, t.1) f _;
      path = absurd;
      four = absurd;
      block = absurd;
      expr = tt;
    })

  -- a path
  items : {g : Grove} (χ : Choice) (K : Grove) (w : List ℕ) (z : List Token) → Items g → (w' : List ℕ) × Rst PATH_REST (said s kinds.PATH false (each (dot ∷ []) whole (labelled s g)) [] g χ z) z (record { kids = K; sign = w; part = 0 }) (record { kids = beside K g; sign = w'; part = 0 })
  unfolding said roto
  items χ K w z no_items = (w, subst (λ (t : Grove). Rst PATH_REST z z (record { kids = K; sign = w; part = 0 }) (record { kids = t; sign = w; part = 0 })) (sym (beside_nil K)) (none here))
  items χ K w z (more_items x {g} m it) =
      let u = items (after χ) (beside K (top (name_head x) nil nil)) (signed w dot) z it in (
        u.0,
        subst (λ (t : Grove). Rst PATH_REST (token_of dot ∷ x ∷ said s kinds.PATH false (each (dot ∷ []) whole (labelled s g)) [] g (after χ) z) z (record { kids = K; sign = w; part = 0 }) (record { kids = t; sign = u.0; part = 0 })) (beside_on K (name_head x) nil g)
            (record { alt = _; takes = there here; goes = tok (token_of dot) refl tt (λ d. tt) (sub refl (named x path_items in_item tt m) (rest refl u.1 done)) }),
      )

  -- names need no pairs
  names_suit_on : {g : Grove} (χ : Choice) → Items g → Suits s kinds.PATH false (each (dot ∷ []) whole (labelled s g)) g χ
  unfolding layout layouts
  names_suit_on χ no_items = tt
  names_suit_on χ (more_items x m it) = (tt, tt, names_suit_on (after χ) it)

  pub names_suit : {g : Grove} (χ : Choice) → Items g → Suits s kinds.PATH true (joined [] (dot ∷ []) whole (labelled s g)) g χ
  unfolding layout layouts
  names_suit χ no_items = tt
  names_suit χ (more_items x m it) = (tt, tt, names_suit_on (after χ) it)

  pub path_whole : {h : Head} {k : Grove} (c : Place) (χ : Choice) (z : List Token) → PathTree h k → Whole PATH (body s c h k χ z) z (top h k nil)
  unfolding said layout layouts roto
  path_whole c χ z (path x m it) = finish here (sub refl (named x path_items in_item tt m) (rest refl (items (after χ) (top (name_head x) nil nil) [] z it).1 (put kinds.PATH refl refl refl done)))

  pub path_row : {h : Head} {k : Grove} → PathTree h k → Placed s h k
  unfolding said layout layouts
  path_row (path x {g} m it) = settle s (row_head kinds.PATH 0 0) (top (name_head x) nil g) (record {
    stands = λ c χ e t y z g' v w. chain (in_path c.records) refl (more_after_path c.records) (path_whole c χ y (path x m it)) w;
    begin = λ c u χ e t f z. free x.word u (apart path_items (open_brace ∷ four_words) x.word tt m);
    path = λ t. path x m it;
    four = absurd;
    block = absurd;
    expr = tt;
  })

  -- a literal
  literal_whole : (x : Token) (y : List Token) → T (one_of x.word literals) → T x.holds → one_of x.kind copied ≡ true → Whole LITERAL (x ∷ y) y (top (leaf_head x.kind x) nil nil)
  unfolding grow roto
  literal_whole x y m h e = record {
    alt = _;
    takes = here;
    parts = leaf x (mark literal_row end);
    reads = λ d. reads_token refl m h (reads_note reads_end);
    leaves = ap (λ (a : State). a.kids) (grow_leaf x (mark literal_row end) fresh (plain_word x literals tt m)) ∙ ap (λ (b : Bool). top (record { kind = x.kind; value = x.value; detail = x.detail; tokens = cond b (x ∷ []) [] }) nil nil) e;
  }

  copied_body : (c : Place) (h : Head) (k : Grove) (χ : Choice) (z : List Token) → one_of h.kind copied ≡ true → body s c h k χ z ≡ h.tokens ++ z
  copied_body c h k χ z e = rw e refl

  literal_as : (x : Token) → T (one_of x.word literals) → T x.holds → (k : ℕ) → x.kind ≡ k → one_of k copied ≡ true → natural s (leaf_head k x) ≡ 8 → (T (eqb k kinds.PATH) → ⊥) → (T (is_four k) → ⊥) → (T (eqb k kinds.BLOCK) → ⊥) → T (is_expr k) → Placed s (leaf_head k x) nil
  literal_as x m h k i e n f f' f'' f''' = settle s (leaf_head k x) nil (record {
    stands = λ c χ j t. subst (λ (o : ℕ). Level o c.records (body s c (leaf_head k x) nil χ) (top (leaf_head k x) nil nil)) (sym n)
        (λ y z g v. subst (λ (t : List Token). Whole (OPERAND c.records) t z g) (sym (copied_body c (leaf_head k x) nil χ y e)) (chain (in_literal c.records) refl (more_postfix c.records) (subst (λ (o : ℕ). Whole LITERAL (x ∷ y) y (top (leaf_head o x) nil nil)) i (literal_whole x y m h (ap (λ (o : ℕ). one_of o copied) i ∙ e))) v));
    begin = λ c u χ j t q z. subst (λ (t : List Token). T (not (one_of (peek lists l t) (barred u)))) (sym (copied_body c (leaf_head k x) nil χ z e)) (free x.word u (apart literals (open_brace ∷ four_words) x.word tt m));
    path = λ t. absurd (f t);
    four = λ t. absurd (f' t);
    block = λ t. absurd (f'' t);
    expr = f''';
  })

  pub literal_leaf : (x : Token) → T (one_of x.word literals) → T x.holds → T (one_of x.kind literal_kinds) → Placed s (leaf_head x.kind x) nil
  literal_leaf x m h i = each_of (λ k. x.kind ≡ k → Placed s (leaf_head k x) nil) literal_kinds x.kind i
      (λ e. literal_as x m h kinds.INTEGER e refl refl (λ t. t) (λ t. t) (λ t. t) tt, (λ e. literal_as x m h kinds.FLOAT e refl refl (λ t. t) (λ t. t) (λ t. t) tt, (λ e. literal_as x m h kinds.BOOL e refl refl (λ t. t) (λ t. t) (λ t. t) tt, (λ e. literal_as x m h kinds.ASN e refl refl (λ t. t) (λ t. t) (λ t. t) tt, (λ e. literal_as x m h kinds.IPV4 e refl refl (λ t. t) (λ t. t) (λ t. t) tt, (λ e. literal_as x m h kinds.IPV6 e refl refl (λ t. t) (λ t. t) (λ t. t) tt, (λ e. literal_as x m h kinds.STRING e refl refl (λ t. t) (λ t. t) (λ t. t) tt, (λ e. literal_as x m h kinds.CHAR e refl refl (λ t. t) (λ t. t) (λ t. t) tt, tt)))))))) refl

  -- a string with expressions inside, copied whole
  pub record CopiedText (v : ℕ) (ts : List Token) (k : Grove) : Type 0 where
    pub reads : (y : List Token) → Whole F_STRING (ts ++ y) y (top (text_row_head v ts) k nil)
    pub quote : (y : List Token) → peek lists l (ts ++ y) ≡ f_quote

  pub f_string_row : (v : ℕ) (ts : List Token) (k : Grove) → CopiedText v ts k → Placed s (text_row_head v ts) k
  f_string_row v ts k u = settle s (text_row_head v ts) k (record {
    stands = λ c χ e t y z g w. chain (in_f_string c.records) refl (more_postfix c.records) (u.reads y) w;
    begin = λ c b χ e t f z. subst (λ (o : ℕ). T (not (one_of o (barred b)))) (sym (u.quote z)) (free f_quote b tt);
    path = absurd;
    four = absurd;
    block = absurd;
    expr = tt;
  })
