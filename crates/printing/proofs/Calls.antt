-- Lists with commas, calls, records; assignments and return forms.
use mathlib.Core.Path.{◌∙◌, ◌≡◌, ap, refl, subst, sym}
use mathlib.Core.List.{List, [], ◌∷◌, ◌++◌}
use mathlib.Core.Bool.{Bool, true, false, not, ◌||◌, ◌&&◌, cond}
use Prim.Native.Nat.{ℕ, zero, suc, pred, ◌≤◌}
use lib.Dec.{T, T_not, eqb}
use Rattle.rows.specs.Kinds as kinds
use Rattle.grammar.specs.Words.{'%=', '*=', '+=', '-=', '/=', ':', 'accept', 'reject', 'return', assign_signs, close_brace, close_paren, comma, four_words, names, open_brace, open_paren, path_items, return_words}
use Rattle.grammar.specs.Grammar.{In, Token, alternatives, end, here, node, one_of, phrase, same, there}
use Rattle.grammar.specs.Kinds.{ASSIGNED, BINARY, BRACES, EXPR, EXPRS, EXPRS_MORE, FIELD, FIELDS, FIELDS_MORE, NAME, NAMES, NAMES_MORE, OPERAND, OR_MORE, PATH, POSTFIX, TYPE, TYPED_NAME, TYPED_NAMES, TYPED_NAMES_MORE, TYPES, TYPES_MORE, records}
use Rattle.grammar.specs.Readings.{ReadingBy, peek, reads_end, reads_phrase, reads_side}
use Rattle.grammar.specs.Table.{a, one, word, opens, closes, prefix, row, part, rest_kinds}
use Rattle.grammar.specs.Rows.{is_text, place_in}
use Rattle.grammar.specs.Language.{roto}
use Rattle.grammar.specs.Culprit.{lists}
use Rattle.canon.specs.Layout.{Place, whole, asks, left, right, each, joined, list_in, level, nth, layout, layouts}
use Rattle.printing.specs.Groves.{Grove, Head, Suit, Suits, Under, beside, body, first_head, fresh, grow, labelled, leave, nil, pairs_at, said, say, token_of, top}
use Rattle.printing.specs.Pairs.{Choice, after, number, under}
use Rattle.printing.proofs.Lists.{Rest, Rst, Shape, Whole, chain, done, finish, grow_phrase, grow_rest, held, in_no_or, in_side, l, more_assigned, more_postfix, more_returned, none, only, own_binary, own_expr, put, rest, row_over, shape, sub, tok, told}
use Rattle.printing.proofs.Placed.{Barred, PathTree, Placed, apart, barred, each_of, more_items, name_head, needs_begins, needs_records, path, row_head, settle}
use Rattle.printing.proofs.Exprs.{beside_nil, beside_on, free, in_assigned, in_call, in_path, in_path_call, in_return, in_returned, named, names_suit, path_row, path_whole, two}
use Rattle.printing.proofs.Grown.{path_grown}

-- items, lists, and what follows an item
pub record ListOf (n m k : ℕ) : Type 0 where
  pub item : one_of n rest_kinds ≡ false
  pub list : one_of m rest_kinds ≡ true
  pub tail : one_of k rest_kinds ≡ true
  pub in_none : In [] (alternatives l m)
  pub in_some : In (a n ∷ a k ∷ []) (alternatives l m)
  pub in_last : In [] (alternatives l k)
  pub in_more : In (word comma ∷ a m ∷ []) (alternatives l k)

pub typed_names : ListOf TYPED_NAME TYPED_NAMES TYPED_NAMES_MORE
unfolding roto
typed_names = record { item = refl; list = refl; tail = refl; in_none = here; in_some = there here; in_last = here; in_more = there here }

pub type_list : ListOf TYPE TYPES TYPES_MORE
unfolding roto
type_list = record { item = refl; list = refl; tail = refl; in_none = here; in_some = there here; in_last = here; in_more = there here }

pub expr_list : ListOf (EXPR records) EXPRS EXPRS_MORE
unfolding roto
expr_list = record { item = refl; list = refl; tail = refl; in_none = here; in_some = there here; in_last = here; in_more = there here }

pub field_list : ListOf FIELD FIELDS FIELDS_MORE
unfolding roto
field_list = record { item = refl; list = refl; tail = refl; in_none = here; in_some = there here; in_last = here; in_more = there here }

pub name_list : ListOf NAME NAMES NAMES_MORE
unfolding roto
name_list = record { item = refl; list = refl; tail = refl; in_none = here; in_some = there here; in_last = here; in_more = there here }

-- what a phrase has behind its first word
abbrev pub mid : Grove → ℕ → ℕ → Shape
mid g c v = record { kids = g; sign = c ∷ []; part = v }

pub not_off : (r : Bool) → (not r && true) ≡ false → r ≡ true
not_off true e = refl
not_off false e = absurd (subst T e tt)

module _ (s : List ℕ) where
  -- the tree stands as a phrase of kind n, whatever follows; in pairs if it is an expr
  abbrev pub admits : ℕ → ℕ → Bool
  admits n zero = true
  admits n (suc j) = eqb n (EXPR records)

  abbrev pub Says : ℕ → Head → Grove → Type 0
  Says n h k = (j : ℕ) → T (admits n j) → (χ : Choice) → Suit s whole j h k χ → (z : List Token) → Whole n (say s whole j h k χ z) z (top h k nil)

  pub alone : {n : ℕ} {h : Head} {k : Grove} → T (not (eqb n (EXPR records))) → ((χ : Choice) → Under s whole h k χ → (z : List Token) → Whole n (body s whole h k χ z) z (top h k nil)) → Says n h k
  alone e f zero b χ t z = f χ t.1 z
  alone {n = n} e f (suc j) b χ t z = absurd (T_not (eqb n (EXPR records)) e b)

  pub data Listed (n : ℕ) : Grove → Type 0 where
    no_more : Listed n nil
    one_more : {h : Head} {k g : Grove} → Says n h k → Listed n g → Listed n (top h k g)

  -- a list's tokens behind its bracket, in a row of kind w
  abbrev pub listing : ℕ → Bool → ℕ → Grove → Choice → List Token → List Token
  listing w i e nil χ z = token_of e ∷ z
  listing w i e (top h k t) χ z = say s whole (pairs_at s w i h t χ) h k (under χ) (said s w false (each (comma ∷ []) whole (labelled s t)) (e ∷ []) t (after χ) z)

  abbrev pub SuitsList : ℕ → Bool → ℕ → Grove → Choice → Type 0
  SuitsList w i o g χ = Suits s w i (joined (o ∷ []) (comma ∷ []) whole (labelled s g)) g χ

  pub said_list : (w : ℕ) (i : Bool) (o e : ℕ) (g : Grove) (χ : Choice) (z : List Token) → said s w i (list_in o e whole (labelled s g)).slots (list_in o e whole (labelled s g)).last g χ z ≡ token_of o ∷ listing w i e g χ z
  unfolding said
  said_list w i o e nil χ z = refl
  said_list w i o e (top h k t) χ z = refl

  -- pairs stand only where the items are exprs
  abbrev pub Admitted : ℕ → ℕ → Type 0
  Admitted n w = (i : Bool) (h : Head) (t : Grove) (χ : Choice) → T (admits n (pairs_at s w i h t χ))

  module _ {n m k : ℕ} (o : ListOf n m k) (w : ℕ) (ok : Admitted n w) where
    pub list_more : {g : Grove} (χ : Choice) (K : Grove) (c v e : ℕ) (z : List Token) → Listed n g → Suits s w false (each (comma ∷ []) whole (labelled s g)) g χ → Rst k (said s w false (each (comma ∷ []) whole (labelled s g)) (e ∷ []) g χ z) (token_of e ∷ z) (mid K c v) (mid (beside K g) c v)
    unfolding said
    list_more χ K c v e z no_more t = subst (λ (t : Grove). Rst k (token_of e ∷ z) (token_of e ∷ z) (mid K c v) (mid t c v)) (sym (beside_nil K)) (none o.in_last)
    list_more χ K c v e z (one_more {h = h} {k = j} {g = g} f u) t =
        subst (λ (a : Grove). Rst k (token_of comma ∷ listing w false e (top h j g) χ z) (token_of e ∷ z) (mid K c v) (mid a c v)) (beside_on K h j g)
        (record { alt = _; takes = o.in_more; goes = tok (token_of comma) refl tt (λ d. tt) (rest o.list (record { alt = _; takes = o.in_some; goes = sub o.item (f (pairs_at s w false h g χ) (ok false h g χ) (under χ) (t.0, t.1) _) (rest o.tail (list_more (after χ) (beside K (top h j nil)) c v e z u t.2) done) }) done) })

    pub list_all : {g : Grove} (i : Bool) (χ : Choice) (q : ℕ) (K : Grove) (c v e : ℕ) (z : List Token) → Listed n g → SuitsList w i q g χ → Rst m (listing w i e g χ z) (token_of e ∷ z) (mid K c v) (mid (beside K g) c v)
    list_all i χ q K c v e z no_more t = subst (λ (t : Grove). Rst m (token_of e ∷ z) (token_of e ∷ z) (mid K c v) (mid t c v)) (sym (beside_nil K)) (none o.in_none)
    list_all i χ q K c v e z (one_more {h = h} {k = j} {g = g} f u) t = subst (λ (a : Grove). Rst m (listing w i e (top h j g) χ z) (token_of e ∷ z) (mid K c v) (mid a c v)) (beside_on K h j g) (record { alt = _; takes = o.in_some; goes = sub o.item (f (pairs_at s w i h g χ) (ok i h g χ) (under χ) (t.0, t.1) _) (rest o.tail (list_more (after χ) (beside K (top h j nil)) c v e z u t.2) done) })

  any : (j : ℕ) → T (admits (EXPR records) j)
  any zero = tt
  any (suc j) = tt

  -- exprs in a list
  pub says_expr : {h : Head} {k : Grove} → Placed s h k → Says (EXPR records) h k
  says_expr p j a χ t z = p.stands whole tt j χ t z

  -- a path on the left of a sign
  path_binary : {h : Head} {k : Grove} (r : Bool) (j : ℕ) (χ : Choice) (y z : List Token) (g : Grove) → PathTree h k → Rest (OR_MORE r) y z (top h k nil) g → Whole (BINARY r) (say s whole j h k χ y) z g
  unfolding said layout layouts
  path_binary true zero χ y z g (path x m it) v = (path_row s (path x m it)).stands (asks 1 true []) tt 0 χ (tt, names_suit s χ (more_items x m it)) y z g v
  path_binary false zero χ y z g (path x m it) v = (path_row s (path x m it)).stands (asks 1 false []) tt 0 χ (tt, names_suit s χ (more_items x m it)) y z g v
  path_binary true (suc j) χ y z g (path x m it) v = (path_row s (path x m it)).stands (asks 1 true []) tt (suc j) χ (tt, names_suit s χ (more_items x m it)) y z g v
  path_binary false (suc j) χ y z g (path x m it) v = (path_row s (path x m it)).stands (asks 1 false []) tt (suc j) χ (tt, names_suit s χ (more_items x m it)) y z g v

  pub path_said : {h : Head} {k : Grove} (χ : Choice) (z : List Token) → PathTree h k → Whole PATH (body s whole h k χ z) z (top h k nil)
  path_said χ z q = path_whole s whole χ z q

  path_begin : {h : Head} {k : Grove} (u : Barred) (j : ℕ) (χ : Choice) (z : List Token) → PathTree h k → T (not (one_of (peek lists l (say s whole j h k χ z)) (barred u)))
  unfolding said layout layouts
  path_begin u zero χ z (path x m it) = free x.word u (apart path_items (open_brace ∷ four_words) x.word tt m)
  path_begin u (suc j) χ z (path x m it) = free open_paren u tt

  module _ (h : Head) (k : Grove) (p : Placed s h k) where
    -- a call
    pub call_row : (g : Grove) → Listed (EXPR records) g → Placed s (row_head kinds.CALL 0 0) (top h k g)
    unfolding said layout layouts
    call_row g u = settle s (row_head kinds.CALL 0 0) (top h k g) (record {
      stands = λ c χ e t y z g' v.
          let r = c.records in
          let on = tok (token_of open_paren) refl tt (λ d. tt) (rest refl (list_all expr_list kinds.CALL (λ i h t χ. any (number χ)) false (after χ) open_paren (top h k nil) open_paren 0 close_paren y u t.2) (tok (token_of close_paren) refl tt (λ d. tt) (put kinds.CALL refl refl refl (rest (more_postfix r) v done)))) in
          subst (λ (t : List Token). Whole (OPERAND r) (say s (left 7 c) (number χ) h k (under χ) t) z g') (sym (said_list kinds.CALL false open_paren close_paren g (after χ) y)) (p.stands (left 7 c) tt (number χ) (under χ) (t.0, t.1) _ _ _ (record { alt = _; takes = in_call r; goes = on }) (record { alt = _; takes = in_path_call r; goes = on }));
      begin = λ c u χ e t f z. p.begin (left 7 c) u (number χ) (under χ) (t.0, t.1) f _;
      path = absurd;
      four = absurd;
      block = absurd;
      expr = tt;
    })

    -- a return form with an expr
    pub return_row : (c : ℕ) → T (one_of c return_words) → Placed s (row_head kinds.RETURN 0 (place_in c return_words)) (top h k nil)
    unfolding said layout layouts
    return_row c m = each_of (λ c. Placed s (row_head kinds.RETURN 0 (place_in c return_words)) (top h k nil)) return_words c m (at 1 tt refl refl (λ u. free 'return' u tt), (at 2 tt refl refl (λ u. free 'accept' u tt), (at 3 tt refl refl (λ u. free 'reject' u tt), tt)))
      where
        at : (d : ℕ) → T (one_of (nth return_words (pred d)) return_words) → place_in (nth return_words (pred d)) return_words ≡ d → is_text (token_of (nth return_words (pred d))) ≡ false → ((u : Barred) → T (not (one_of (nth return_words (pred d)) (barred u)))) → Placed s (row_head kinds.RETURN 0 d) (top h k nil)
        at d i j t f = settle s (row_head kinds.RETURN 0 d) (top h k nil) (record {
          stands = λ c χ e a y. subst (λ (n : ℕ). Whole (EXPR c.records) (token_of (nth return_words (pred d)) ∷ say s (right 0 c) (number χ) h k (under χ) y) y (row_over kinds.RETURN 0 n (top h k nil))) j
              (finish (in_return c.records) (tok (token_of (nth return_words (pred d))) t i (λ d. tt) (rest (more_returned c.records) (record { alt = _; takes = in_returned c.records; goes = sub (own_expr c.records) (p.stands (right 0 c) tt (number χ) (under χ) (a.0, a.1) y) done }) (put kinds.RETURN refl refl refl done))));
          begin = λ c u χ e a g z. f u;
          path = absurd;
          four = absurd;
          block = absurd;
          expr = tt;
        })

    -- an assignment to a path
    module _ (h' : Head) (k' : Grove) (q : PathTree h' k') where
      path_kind : eqb h'.kind 2 ≡ true
      path_kind = go q
        where
          go : {i : Head} {j : Grove} → PathTree i j → eqb i.kind 2 ≡ true
          go (path x m it) = refl

      assigned : {c m z : List Token} {g : Grove} (r : Bool) → Whole (BINARY r) c m (top h' k' nil) → Rest (ASSIGNED r) m z (top h' k' nil) g → Whole (EXPR r) c z g
      unfolding roto grow
      assigned {m = m} {z = z} r u v = record {
        alt = _;
        takes = in_side r;
        parts = node (BINARY r) u.alt u.parts (node (ASSIGNED r) v.alt v.goes.parts end);
        reads = λ d. reads_side u.takes (u.reads d) tt (subst (λ (b : Bool). ReadingBy lists l held d (cond b (phrase same (ASSIGNED r) ∷ []) []) m z (node (ASSIGNED r) v.alt v.goes.parts end)) (sym is) (reads_phrase v.takes (v.goes.reads _) reads_end));
        leaves = ap (λ (t : Shape). t.kids) (ap shape (grow_phrase (BINARY r) u.alt u.parts (node (ASSIGNED r) v.alt v.goes.parts end) fresh (own_binary r) ∙ grow_rest (ASSIGNED r) v.alt v.goes.parts end (leave false fresh (grow u.parts fresh)) (more_assigned r)) ∙ v.goes.does.from (leave false fresh (grow u.parts fresh)) (ap only u.leaves));
      }
        where
          is : l.is_path u.parts ≡ true
          is = path_grown u.parts ∙ ap (λ (t : Grove). eqb (first_head t).kind 2) u.leaves ∙ path_kind

      pub assign_row : (c : ℕ) → T (one_of c assign_signs) → Placed s (row_head kinds.ASSIGN 0 (place_in c ('+=' ∷ '-=' ∷ '*=' ∷ '/=' ∷ '%=' ∷ []))) (two h' k' h k)
      unfolding said layout layouts
      assign_row c m = each_of (λ c. Placed s (row_head kinds.ASSIGN 0 (place_in c ('+=' ∷ '-=' ∷ '*=' ∷ '/=' ∷ '%=' ∷ []))) (two h' k' h k)) assign_signs c m (at 0 tt refl refl, (at 1 tt refl refl, (at 2 tt refl refl, (at 3 tt refl refl, (at 4 tt refl refl, (at 5 tt refl refl, tt))))))
        where
          at : (d : ℕ) → T (one_of (nth assign_signs d) assign_signs) → place_in (nth assign_signs d) ('+=' ∷ '-=' ∷ '*=' ∷ '/=' ∷ '%=' ∷ []) ≡ d → is_text (token_of (nth assign_signs d)) ≡ false → Placed s (row_head kinds.ASSIGN 0 d) (two h' k' h k)
          at d i j t = settle s (row_head kinds.ASSIGN 0 d) (two h' k' h k) (record {
            stands = λ c χ e a y. assigned c.records (path_binary c.records (number χ) (under χ) _ _ _ q (none (in_no_or c.records)))
                (subst (λ (n : ℕ). Rest (ASSIGNED c.records) (token_of (nth assign_signs d) ∷ say s (right 1 c) (number (after χ)) h k (under (after χ)) y) y (top h' k' nil) (row_over kinds.ASSIGN 0 n (two h' k' h k))) j
                (record { alt = _; takes = in_assigned c.records; goes = tok (token_of (nth assign_signs d)) t i (λ d. tt) (sub (own_binary c.records) (p.stands (right 1 c) tt (number (after χ)) (under (after χ)) (a.2.0, a.2.1) _ _ _ (none (in_no_or c.records))) (put kinds.ASSIGN refl refl refl done)) }));
            begin = λ c u χ e a f z. path_begin u (number χ) (under χ) _ q;
            path = absurd;
            four = absurd;
            block = absurd;
            expr = tt;
          })

  -- a return form alone: where no record may stand it is in a pair
  pub return_alone : (c : ℕ) → T (one_of c return_words) → Placed s (row_head kinds.RETURN 0 (place_in c return_words)) nil
  unfolding said layout layouts roto
  return_alone c m = each_of (λ c. Placed s (row_head kinds.RETURN 0 (place_in c return_words)) nil) return_words c m (at 1 tt refl refl (λ u. free 'return' u tt), (at 2 tt refl refl (λ u. free 'accept' u tt), (at 3 tt refl refl (λ u. free 'reject' u tt), tt)))
    where
      at : (d : ℕ) → T (one_of (nth return_words (pred d)) return_words) → place_in (nth return_words (pred d)) return_words ≡ d → is_text (token_of (nth return_words (pred d))) ≡ false → ((u : Barred) → T (not (one_of (nth return_words (pred d)) (barred u)))) → Placed s (row_head kinds.RETURN 0 d) nil
      at d i j t f = settle s (row_head kinds.RETURN 0 d) nil (record {
        stands = λ c χ e a y. subst (λ (r : Bool). Whole (EXPR r) (token_of (nth return_words (pred d)) ∷ y) y (row_over kinds.RETURN 0 d nil)) (sym (not_off c.records (needs_records s c (row_head kinds.RETURN 0 d) nil e)))
            (subst (λ (n : ℕ). Whole (EXPR true) (token_of (nth return_words (pred d)) ∷ y) y (row_over kinds.RETURN 0 n nil)) j
            (finish (in_return true) (tok (token_of (nth return_words (pred d))) t i (λ d. tt) (rest refl (none (there here)) (put kinds.RETURN refl refl refl done)))));
        begin = λ c u χ e a g z. f u;
        path = absurd;
        four = absurd;
        block = absurd;
        expr = tt;
      })

  -- a field; a record, with its path or without
  pub field_says : (x : Token) (h : Head) (k : Grove) → T (one_of x.word names) → Placed s h k → Says FIELD (row_head kinds.FIELD 0 0) (two (name_head x) nil h k)
  unfolding said layout layouts roto
  field_says x h k m p = alone tt (λ χ t z. finish here (sub refl (named x names here tt m) (tok (token_of ':') refl tt (λ d. tt) (sub refl (p.stands whole tt (number (after χ)) (under (after χ)) (t.2.0, t.2.1) z) (put kinds.FIELD refl refl refl done)))))

  pub own_begin : (w : ℕ) (c : Place) (u : Barred) → one_of w c.unless ≡ false → c.unless ≡ barred u → T (not (one_of w (barred u)))
  own_begin w c u e f = subst (λ (v : List ℕ). T (not (one_of w v))) f (subst (λ (b : Bool). T (not b)) (sym e) tt)

  pub record_row : (h : Head) (k g : Grove) → Says FIELD h k → Listed FIELD g → Placed s (row_head kinds.RECORD 0 0) (top h k g)
  unfolding said layout layouts roto
  record_row h k g f u = settle s (row_head kinds.RECORD 0 0) (top h k g) (record {
    stands = λ c χ e t y z g' v. go χ t c.records (not_off c.records (needs_records s c (row_head kinds.RECORD 0 0) (top h k g) e)) y z g' v;
    begin = λ c u χ e t f z. own_begin open_brace c u (needs_begins s c (row_head kinds.RECORD 0 0) (top h k g) e) f;
    path = absurd;
    four = absurd;
    block = absurd;
    expr = tt;
  })
    where
      go : (χ : Choice) → SuitsList kinds.RECORD true open_brace (top h k g) χ → (r : Bool) → r ≡ true → (y z : List Token) (g' : Grove) → Rest (POSTFIX r) y z (top (row_head kinds.RECORD 0 0) (top h k g) nil) g' → Whole (OPERAND r) (token_of open_brace ∷ listing kinds.RECORD true close_brace (top h k g) χ y) z g'
      go χ t true e y z g' v = chain {n = BRACES} (there (there (there (there (there (there (there here))))))) refl refl
          (finish here (tok (token_of open_brace) refl tt (λ d. tt) (rest refl (record { alt = _; takes = here; goes = sub refl (f 0 tt (under χ) (t.0, t.1) _) (rest refl (list_more field_list kinds.RECORD (λ i h t χ. tt) (after χ) (top h k nil) open_brace 0 close_brace y u t.2) (tok (token_of close_brace) refl tt (λ d. tt) (put kinds.RECORD refl refl refl done))) }) done)))
          v
      go χ t false e y z g' v = absurd (subst T (sym e) tt)

  pub path_record : (h : Head) (k g : Grove) → PathTree h k → Listed FIELD g → Placed s (row_head kinds.RECORD 1 0) (top h k g)
  unfolding said layout layouts roto
  path_record h k g q u = settle s (row_head kinds.RECORD 1 0) (top h k g) (record {
    stands = λ c χ e t y z g' v. subst (λ (t : List Token). Whole (OPERAND c.records) (body s whole h k (under χ) t) z g') (sym (said_list kinds.RECORD false open_brace close_brace g (after χ) y)) (go χ t.2 c.records (not_off c.records (needs_records s c (row_head kinds.RECORD 1 0) (top h k g) e)) y z g' v);
    begin = λ c u χ e t f z. path_begin u 0 (under χ) _ q;
    path = absurd;
    four = absurd;
    block = absurd;
    expr = tt;
  })
    where
      go : (χ : Choice) → SuitsList kinds.RECORD false open_brace g (after χ) → (r : Bool) → r ≡ true → (y z : List Token) (g' : Grove) → Rest (POSTFIX r) y z (top (row_head kinds.RECORD 1 0) (top h k g) nil) g' → Whole (OPERAND r) (body s whole h k (under χ) (token_of open_brace ∷ listing kinds.RECORD false close_brace g (after χ) y)) z g'
      go χ t true e y z g' v = chain {n = PATH} (in_path true) refl refl (path_said (under χ) _ q)
          (record { alt = _; takes = there (there (there here)); goes = tok (token_of open_brace) refl tt (λ d. tt) (rest refl (list_all field_list kinds.RECORD (λ i h t χ. tt) false (after χ) open_brace (top h k nil) open_brace 0 close_brace y u t) (tok (token_of close_brace) refl tt (λ d. tt) (told (put kinds.RECORD refl refl refl (rest refl v done))))) })
      go χ t false e y z g' v = absurd (subst T (sym e) tt)
