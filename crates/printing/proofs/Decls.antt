-- Lets and declarations, as they are put.
use mathlib.Core.Path.{◌≡◌, ap, refl, subst, sym}
use mathlib.Core.List.{List, [], ◌∷◌, ◌++◌}
use mathlib.Core.Bool.{Bool, true, false, not, ◌||◌, ◌&&◌, cond}
use Prim.Native.Nat.{ℕ, zero, suc, pred, ◌≤◌}
use lib.Dec.{T, eqb}
use Rattle.rows.specs.Kinds as kinds
use Rattle.grammar.specs.Words.{'->', ':', '=', 'const', 'fn', 'let', 'test', close_paren, comma, filter_words, names, open_paren, semicolon}
use Rattle.grammar.specs.Grammar.{Token, here, one_of, there}
use Rattle.grammar.specs.Kinds.{BLOCK, DECLARATION, DECLARATIONS, IMPORT, LET, LET_TYPE, PARAMS, RESULT, TREE, TYPED_NAME}
use Rattle.grammar.specs.Table.{a, one, word, opens, closes, prefix, row, part, rest_kinds}
use Rattle.grammar.specs.Rows.{is_text, place_in}
use Rattle.grammar.specs.Language.{roto}
use Rattle.grammar.specs.Culprit.{lists}
use Rattle.canon.specs.Layout.{◌then◌, closing, each, headed, layout, layouts, nth, whole}
use Rattle.printing.specs.Groves.{Grove, Head, Suit, Suits, beside, body, labelled, nil, said, token_of, top}
use Rattle.printing.specs.Pairs.{Choice, after, number, under}
use Rattle.printing.proofs.Lists.{Rst, Whole, done, finish, none, only, put, rest, row_over, sub, tok, told}
use Rattle.printing.proofs.Placed.{Placed, each_of, name_head, row_head}
use Rattle.printing.proofs.Exprs.{beside_nil, beside_on, in_name, named, two}
use Rattle.printing.proofs.Calls.{Admitted, Listed, Says, SuitsList, alone, list_all, listing, mid, no_more, one_more, typed_names}
use Rattle.printing.proofs.Types.{Typed, says_type}

module _ (s : List ℕ) where
  -- `let`, with a type or without
  pub let_says : (x : Token) (h : Head) (k : Grove) → T (one_of x.word names) → Placed s h k → Says s LET (row_head kinds.LET 0 0) (two (name_head x) nil h k)
  unfolding said layout layouts roto
  let_says x h k m p = alone s tt (λ χ b z. finish here (tok (token_of 'let') refl tt (λ d. tt) (sub refl (named x names in_name tt m) (rest refl (none {n = LET_TYPE} here) (tok (token_of '=') refl tt (λ d. tt) (sub refl (p.stands whole tt (number (after χ)) (under (after χ)) (b.2.0, b.2.1) _) (tok (token_of semicolon) refl tt (λ d. tt) (put kinds.LET refl refl refl done))))))))

  pub let_typed : (x : Token) (h h' : Head) (k k' : Grove) → T (one_of x.word names) → Typed s h k → Placed s h' k' → Says s LET (row_head kinds.LET 1 0) (top (name_head x) nil (two h k h' k'))
  unfolding said layout layouts roto
  let_typed x h h' k k' m t p = alone s tt (λ χ b z. finish here (tok (token_of 'let') refl tt (λ d. tt) (sub refl (named x names in_name tt m) (rest refl (record { alt = _; takes = there here; goes = tok (token_of ':') refl tt (λ d. tt) (sub refl (says_type s t 0 tt (under (after χ)) (b.2.0, b.2.1) _) (told done)) }) (tok (token_of '=') refl tt (λ d. tt) (sub refl (p.stands whole tt (number (after (after χ))) (under (after (after χ))) (b.2.2.0, b.2.2.1) _) (tok (token_of semicolon) refl tt (λ d. tt) (put kinds.LET refl refl refl done))))))))

  -- declarations
  pub const_says : (x : Token) (h h' : Head) (k k' : Grove) → T (one_of x.word names) → Typed s h k → Placed s h' k' → Says s DECLARATION (row_head kinds.CONST 0 0) (top (name_head x) nil (two h k h' k'))
  unfolding said layout layouts roto
  const_says x h h' k k' m t p = alone s tt (λ χ b z. finish here (tok (token_of 'const') refl tt (λ d. tt) (sub refl (named x names in_name tt m) (tok (token_of ':') refl tt (λ d. tt) (sub refl (says_type s t 0 tt (under (after χ)) (b.2.0, b.2.1) _) (tok (token_of '=') refl tt (λ d. tt) (sub refl (p.stands whole tt (number (after (after χ))) (under (after (after χ))) (b.2.2.0, b.2.2.1) _) (tok (token_of semicolon) refl tt (λ d. tt) (put kinds.CONST refl refl refl done)))))))))

  pub test_says : (x : Token) (h : Head) (k : Grove) → T (one_of x.word names) → Says s BLOCK h k → Says s DECLARATION (row_head kinds.TEST 0 0) (two (name_head x) nil h k)
  unfolding said layout layouts roto
  test_says x h k m q = alone s tt (λ χ b z. finish (there (there (there (there here)))) (tok (token_of 'test') refl tt (λ d. tt) (sub refl (named x names in_name tt m) (sub refl (q 0 tt (under (after χ)) (b.2.0, b.2.1) z) (put kinds.TEST refl refl refl done)))))

  pub import_declared : (k : Grove) → Says s IMPORT (row_head kinds.IMPORT 0 0) k → Says s DECLARATION (row_head kinds.IMPORT 0 0) k
  unfolding roto
  import_declared k f = alone s tt (λ χ b z. finish (there (there (there here))) (sub refl (f 0 tt χ (tt, b) z) done))

  -- params, and behind them perhaps a result, then the block
  pub data Params : Grove → Type 0 where
    no_params : Params nil
    more_params : {k g : Grove} → Says s TYPED_NAME (row_head kinds.TYPED_NAME 0 0) k → Params g → Params (top (row_head kinds.TYPED_NAME 0 0) k g)

  pub listed_params : {g : Grove} → Params g → Listed s TYPED_NAME g
  listed_params no_params = no_more
  listed_params (more_params f u) = one_more f (listed_params u)

  -- a function or a filter; behind its params
  abbrev fn_kind : Bool → ℕ
  fn_kind true = kinds.FN
  fn_kind false = kinds.FILTER

  abbrev back : Grove → Choice → Choice
  back nil χ = χ
  back (top h k t) χ = back t (after χ)

  module _ (h : Head) (k : Grove) (no-param : eqb h.kind kinds.TYPED_NAME ≡ false) where
    abbrev Block : Grove → Choice → Type 0
    Block g χ = Suit s whole 0 h k (under (back g χ))

    plain_later : {g : Grove} (w : Bool) (χ : Choice) (z : List Token) → Params g → said s (fn_kind w) false (headed false false (labelled s (beside g (top h k nil)))) [] (beside g (top h k nil)) χ z ≡ said s (fn_kind w) false (each (comma ∷ []) whole (labelled s g)) (close_paren ∷ []) g χ (body s whole h k (under (back g χ)) z)
    unfolding said
    plain_later true χ z no_params = rw no-param refl
    plain_later false χ z no_params = rw no-param refl
    plain_later true χ z (more_params {k = k'} f u) = ap (λ (t : List Token). token_of comma ∷ body s whole (row_head kinds.TYPED_NAME 0 0) k' (under χ) t) (plain_later true (after χ) z u)
    plain_later false χ z (more_params {k = k'} f u) = ap (λ (t : List Token). token_of comma ∷ body s whole (row_head kinds.TYPED_NAME 0 0) k' (under χ) t) (plain_later false (after χ) z u)

    plain_said : {g : Grove} (w : Bool) (χ : Choice) (z : List Token) → Params g → said s (fn_kind w) false (headed false true (labelled s (beside g (top h k nil)))) [] (beside g (top h k nil)) χ z ≡ token_of open_paren ∷ listing s (fn_kind w) false close_paren g χ (body s whole h k (under (back g χ)) z)
    unfolding said
    plain_said true χ z no_params = rw no-param refl
    plain_said false χ z no_params = rw no-param refl
    plain_said true χ z (more_params {k = k'} f u) = ap (λ (t : List Token). token_of open_paren ∷ body s whole (row_head kinds.TYPED_NAME 0 0) k' (under χ) t) (plain_later true (after χ) z u)
    plain_said false χ z (more_params {k = k'} f u) = ap (λ (t : List Token). token_of open_paren ∷ body s whole (row_head kinds.TYPED_NAME 0 0) k' (under χ) t) (plain_later false (after χ) z u)

    -- all stand at places that ask nothing
    at_block : (w bare : Bool) (χ : Choice) → Suits s (fn_kind w) false (headed false bare (labelled s (top h k nil))) (top h k nil) χ → Block nil χ
    at_block true bare χ b = let d = subst (λ (e : Bool). Suits s kinds.FN false (cond e ((cond bare (open_paren ∷ []) (comma ∷ []) then whole) ∷ []) ((closing bare then whole) ∷ [])) (top h k nil) χ) no-param b in (d.0, d.1)
    at_block false bare χ b = let d = subst (λ (e : Bool). Suits s kinds.FILTER false (cond e ((cond bare (open_paren ∷ []) (comma ∷ []) then whole) ∷ []) ((closing bare then whole) ∷ [])) (top h k nil) χ) no-param b in (d.0, d.1)

    plain_suits : {g : Grove} (w : Bool) (χ : Choice) → Params g → Suits s (fn_kind w) false (headed false false (labelled s (beside g (top h k nil)))) (beside g (top h k nil)) χ → Suits s (fn_kind w) false (each (comma ∷ []) whole (labelled s g)) g χ × Block g χ
    plain_suits w χ no_params b = (tt, at_block w false χ b)
    plain_suits true χ (more_params f u) b = let r = plain_suits true (after χ) u b.2 in ((b.0, b.1, r.0), r.1)
    plain_suits false χ (more_params f u) b = let r = plain_suits false (after χ) u b.2 in ((b.0, b.1, r.0), r.1)

    plain_all : {g : Grove} (w : Bool) (χ : Choice) → Params g → Suits s (fn_kind w) false (headed false true (labelled s (beside g (top h k nil)))) (beside g (top h k nil)) χ → SuitsList s (fn_kind w) false open_paren g χ × Block g χ
    plain_all w χ no_params b = (tt, at_block w true χ b)
    plain_all true χ (more_params f u) b = let r = plain_suits true (after χ) u b.2 in ((b.0, b.1, r.0), r.1)
    plain_all false χ (more_params f u) b = let r = plain_suits false (after χ) u b.2 in ((b.0, b.1, r.0), r.1)

    module _ (h' : Head) (k' : Grove) where
      abbrev Result : Grove → Choice → Type 0
      Result g χ = Suit s whole 0 h k (under (back g χ)) × Suit s whole 0 h' k' (under (after (back g χ)))

      typed_later : {g : Grove} (χ : Choice) (z : List Token) → Params g → said s kinds.FN false (headed true false (labelled s (beside g (two h k h' k')))) [] (beside g (two h k h' k')) χ z ≡ said s kinds.FN false (each (comma ∷ []) whole (labelled s g)) (close_paren ∷ []) g χ (token_of '->' ∷ body s whole h k (under (back g χ)) (body s whole h' k' (under (after (back g χ))) z))
      unfolding said
      typed_later χ z no_params = rw no-param refl
      typed_later χ z (more_params {k = i} f u) = ap (λ (t : List Token). token_of comma ∷ body s whole (row_head kinds.TYPED_NAME 0 0) i (under χ) t) (typed_later (after χ) z u)

      typed_said : {g : Grove} (χ : Choice) (z : List Token) → Params g → said s kinds.FN false (headed true true (labelled s (beside g (two h k h' k')))) [] (beside g (two h k h' k')) χ z ≡ token_of open_paren ∷ listing s kinds.FN false close_paren g χ (token_of '->' ∷ body s whole h k (under (back g χ)) (body s whole h' k' (under (after (back g χ))) z))
      unfolding said
      typed_said χ z no_params = rw no-param refl
      typed_said χ z (more_params {k = i} f u) = ap (λ (t : List Token). token_of open_paren ∷ body s whole (row_head kinds.TYPED_NAME 0 0) i (under χ) t) (typed_later (after χ) z u)

      at_result : (bare : Bool) (χ : Choice) → Suits s kinds.FN false (headed true bare (labelled s (two h k h' k'))) (two h k h' k') χ → Result nil χ
      at_result bare χ b = let d = subst (λ (e : Bool). Suits s kinds.FN false (cond e ((cond bare (open_paren ∷ []) (comma ∷ []) then whole) ∷ headed true false (labelled s (top h' k' nil))) ((closing bare ++ ('->' ∷ []) then whole) ∷ ([] then whole) ∷ [])) (two h k h' k') χ) no-param b in ((d.0, d.1), (d.2.0, d.2.1))

      typed_suits : {g : Grove} (χ : Choice) → Params g → Suits s kinds.FN false (headed true false (labelled s (beside g (two h k h' k')))) (beside g (two h k h' k')) χ → Suits s kinds.FN false (each (comma ∷ []) whole (labelled s g)) g χ × Result g χ
      typed_suits χ no_params b = (tt, at_result false χ b)
      typed_suits χ (more_params f u) b = let r = typed_suits (after χ) u b.2 in ((b.0, b.1, r.0), r.1)

      typed_all : {g : Grove} (χ : Choice) → Params g → Suits s kinds.FN false (headed true true (labelled s (beside g (two h k h' k')))) (beside g (two h k h' k')) χ → SuitsList s kinds.FN false open_paren g χ × Result g χ
      typed_all χ no_params b = (tt, at_result true χ b)
      typed_all χ (more_params f u) b = let r = typed_suits (after χ) u b.2 in ((b.0, b.1, r.0), r.1)

  no_pairs : (w : Bool) → Admitted s TYPED_NAME (fn_kind w)
  no_pairs true i h t χ = tt
  no_pairs false i h t χ = tt

  params_read : {g : Grove} (w : Bool) (χ : Choice) (x : Token) (i : ℕ) (z : List Token) → Params g → SuitsList s (fn_kind w) false open_paren g χ → Rst PARAMS (token_of open_paren ∷ listing s (fn_kind w) false close_paren g χ z) z (mid (top (name_head x) nil nil) i 0) (mid (top (name_head x) nil g) i 0)
  unfolding roto
  params_read w χ x i z u b = record { alt = _; takes = here; goes = tok (token_of open_paren) refl tt (λ d. tt) (rest refl (list_all s typed_names (fn_kind w) (no_pairs w) false χ open_paren (top (name_head x) nil nil) i 0 close_paren z (listed_params u) b) (tok (token_of close_paren) refl tt (λ d. tt) done)) }

  abbrev named_over : Token → Grove → Grove
  named_over x g = top (name_head x) nil g

  pub fn_says : (x : Token) (g : Grove) (v : ℕ) (k : Grove) → T (one_of x.word names) → Params g → Says s BLOCK (row_head kinds.BLOCK v 0) k → Says s DECLARATION (row_head kinds.FN 0 0) (named_over x (beside g (top (row_head kinds.BLOCK v 0) k nil)))
  unfolding said layout layouts roto
  fn_says x g v k m u q = alone s tt (λ χ b z.
      let r = plain_all (row_head kinds.BLOCK v 0) k refl true (after χ) u b.2 in
      subst (λ (t : List Token). Whole DECLARATION (token_of 'fn' ∷ x ∷ t) z (row_over kinds.FN 0 0 (named_over x (beside g (top (row_head kinds.BLOCK v 0) k nil))))) (sym (plain_said (row_head kinds.BLOCK v 0) k refl true (after χ) z u))
      (finish (there here) (tok (token_of 'fn') refl tt (λ d. tt) (sub refl (named x names in_name tt m) (rest refl (params_read true (after χ) x 'fn' _ u r.0) (rest refl (none {n = RESULT} here) (sub refl (q 0 tt (under (back g (after χ))) r.1 z) (put kinds.FN refl refl refl done))))))))

  pub fn_typed : (x : Token) (g : Grove) (h : Head) (k : Grove) (h' : Head) (k' : Grove) → T (one_of x.word names) → Params g → eqb h.kind kinds.TYPED_NAME ≡ false → Typed s h k → Says s BLOCK h' k' → Says s DECLARATION (row_head kinds.FN 1 0) (named_over x (beside g (two h k h' k')))
  unfolding said layout layouts roto
  fn_typed x g h k h' k' m u e t q = alone s tt (λ χ b z.
      let r = typed_all h k e h' k' (after χ) u b.2 in
      let d = back g (after χ) in
      subst (λ (y : List Token). Whole DECLARATION (token_of 'fn' ∷ x ∷ y) z (row_over kinds.FN 1 0 (named_over x (beside g (two h k h' k'))))) (sym (typed_said h k e h' k' (after χ) z u))
      (subst (λ (w : Grove). Whole DECLARATION (token_of 'fn' ∷ x ∷ token_of open_paren ∷ listing s kinds.FN false close_paren g (after χ) (token_of '->' ∷ body s whole h k (under d) (body s whole h' k' (under (after d)) z))) z (row_over kinds.FN 1 0 (named_over x w))) (beside_on g h k (top h' k' nil))
      (finish (there here) (tok (token_of 'fn') refl tt (λ d. tt) (sub refl (named x names in_name tt m) (rest refl (params_read true (after χ) x 'fn' _ u r.0) (rest refl (record { alt = _; takes = there here; goes = tok (token_of '->') refl tt (λ d. tt) (sub refl (says_type s t 0 tt (under d) r.1.0 _) (told done)) }) (sub refl (q 0 tt (under (after d)) r.1.1 z) (put kinds.FN refl refl refl done)))))))))

  pub filter_says : (c : ℕ) → T (one_of c filter_words) → (x : Token) (g : Grove) (v : ℕ) (k : Grove) → T (one_of x.word names) → Params g → Says s BLOCK (row_head kinds.BLOCK v 0) k → Says s DECLARATION (row_head kinds.FILTER 0 (place_in c filter_words)) (named_over x (beside g (top (row_head kinds.BLOCK v 0) k nil)))
  unfolding said layout layouts roto
  filter_says c i x g v k m u q = each_of (λ c. Says s DECLARATION (row_head kinds.FILTER 0 (place_in c filter_words)) (named_over x (beside g (top (row_head kinds.BLOCK v 0) k nil)))) filter_words c i (at 1 tt refl refl, (at 2 tt refl refl, tt))
    where
      at : (d : ℕ) → T (one_of (nth filter_words (pred d)) filter_words) → place_in (nth filter_words (pred d)) filter_words ≡ d → is_text (token_of (nth filter_words (pred d))) ≡ false → Says s DECLARATION (row_head kinds.FILTER 0 d) (named_over x (beside g (top (row_head kinds.BLOCK v 0) k nil)))
      at d o j t = alone s tt (λ χ b z.
          let r = plain_all (row_head kinds.BLOCK v 0) k refl false (after χ) u b.2 in
          let e = under (back g (after χ)) in
          subst (λ (t : List Token). Whole DECLARATION (token_of (nth filter_words (pred d)) ∷ x ∷ t) z (row_over kinds.FILTER 0 d (named_over x (beside g (top (row_head kinds.BLOCK v 0) k nil))))) (sym (plain_said (row_head kinds.BLOCK v 0) k refl false (after χ) z u))
          (subst (λ (n : ℕ). Whole DECLARATION (token_of (nth filter_words (pred d)) ∷ x ∷ token_of open_paren ∷ listing s kinds.FILTER false close_paren g (after χ) (body s whole (row_head kinds.BLOCK v 0) k e z)) z (row_over kinds.FILTER 0 n (named_over x (beside g (top (row_head kinds.BLOCK v 0) k nil))))) j
          (finish (there (there here)) (tok (token_of (nth filter_words (pred d))) t o (λ d. tt) (sub refl (named x names in_name tt m) (rest refl (params_read false (after χ) x (nth filter_words (pred d)) _ u r.0) (sub refl (q 0 tt e r.1 z) (put kinds.FILTER refl refl refl done))))))))

  -- a tree's declarations
  pub data Declared : Grove → Type 0 where
    no_decls : Declared nil
    more_decls : {h : Head} {k g : Grove} → Says s DECLARATION h k → Declared g → Declared (top h k g)

  declared : {g : Grove} (i : Bool) (χ : Choice) (K : Grove) → Declared g → Suits s kinds.TREE i (each [] whole (labelled s g)) g χ → Rst DECLARATIONS (said s kinds.TREE i (each [] whole (labelled s g)) [] g χ []) [] (only K) (only (beside K g))
  unfolding said roto
  declared i χ K no_decls b = subst (λ (t : Grove). Rst DECLARATIONS [] [] (only K) (only t)) (sym (beside_nil K)) (none here)
  declared i χ K (more_decls {h = h} {k = k} {g = g} f u) b = subst (λ (t : Grove). Rst DECLARATIONS (body s whole h k (under χ) (said s kinds.TREE false (each [] whole (labelled s g)) [] g (after χ) [])) [] (only K) (only t)) (beside_on K h k g) (record { alt = _; takes = there here; goes = sub refl (f 0 tt (under χ) (b.0, b.1) _) (rest refl (declared false (after χ) (beside K (top h k nil)) u b.2) done) })

  pub tree_read : {g : Grove} (χ : Choice) → Declared g → Suits s kinds.TREE true (each [] whole (labelled s g)) g χ → Whole TREE (said s kinds.TREE true (each [] whole (labelled s g)) [] g χ []) [] g
  unfolding roto
  tree_read χ u b = finish here (rest refl (declared true χ nil u b) done)
