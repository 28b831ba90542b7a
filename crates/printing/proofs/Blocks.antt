-- Statements and blocks, as they are put.
use mathlib.Core.Path.{◌∙◌, ◌≡◌, ap, refl, subst, sym}
use mathlib.Core.List.{List, [], ◌∷◌, ◌++◌}
use mathlib.Core.Bool.{Bool, true, false, not, ◌||◌, ◌&&◌, cond}
use Prim.Native.Nat.{ℕ, zero, suc, pred, ◌≤◌}
use lib.Dec.{T, eqb}
use Rattle.rows.specs.Kinds as kinds
use Rattle.grammar.specs.Words.{close_brace, four_words, open_brace, semicolon}
use Rattle.grammar.specs.Grammar.{Token, here, one_of, there}
use Rattle.grammar.specs.Kinds.{AFTER_EXPR, AFTER_FOUR, BLOCK, BRACES, FOUR, IMPORT, LET, OPERAND, POSTFIX, STATEMENT, STATEMENTS}
use Rattle.grammar.specs.Readings.{peek}
use Rattle.grammar.specs.Table.{a, one, word, opens, closes, prefix, row, part, rest_kinds}
use Rattle.grammar.specs.Rows.{is_text, place_in}
use Rattle.grammar.specs.Language.{roto}
use Rattle.grammar.specs.Culprit.{lists}
use Rattle.canon.specs.Layout.{Place, asks, behind, between, is_expr, is_four, layout, layouts, statement, statements, whole}
use Rattle.printing.specs.Groves.{Grove, Head, Suit, Suits, Under, beside, body, labelled, nil, pairs_at, said, say, token_of, top, words}
use Rattle.printing.specs.Pairs.{Choice, after, number, under}
use Rattle.printing.proofs.Lists.{Rest, Rst, Shape, Whole, bar, chain, done, finish, l, none, put, rest, row_over, sub, tok, told}
use Rattle.printing.proofs.Placed.{Placed, barred, needs_begins, path, row_head, settle, the_four}
use Rattle.printing.proofs.Exprs.{beside_nil, beside_on}
use Rattle.printing.proofs.Calls.{Says, alone, mid, own_begin}
use Rattle.grammar.proofs.Bools.{T→eq}

words_two : (w : List ℕ) (z : List Token) → words (w ++ (close_brace ∷ [])) z ≡ words w (token_of close_brace ∷ z)
words_two [] z = refl
words_two (c ∷ w) z = ap (λ (t : List Token). token_of c ∷ t) (words_two w z)

abbrev Empty : Grove → Type 0
Empty nil = Unit {0}
Empty (top h k t) = ⊥

abbrev Some : Grove → Type 0 → Type 0
Some nil X = Unit {0}
Some (top h k t) X = X

module _ (s : List ℕ) where
  pub data Stmts : ℕ → Grove → Type 0 where
    no_stmts : Stmts 0 nil
    by_import : {v : ℕ} {k g : Grove} → Says s IMPORT (row_head kinds.IMPORT 0 0) k → Stmts v g → Stmts v (top (row_head kinds.IMPORT 0 0) k g)
    by_let : {v w : ℕ} {k g : Grove} → Says s LET (row_head kinds.LET w 0) k → Stmts v g → Stmts v (top (row_head kinds.LET w 0) k g)
    by_expr : {v : ℕ} {h : Head} {k g : Grove} → Placed s h k → Stmts v g → Stmts v (top h k g)
    by_last : {h : Head} {k : Grove} → Placed s h k → Stmts 1 (top h k nil)

  zero_if : {v : ℕ} {g : Grove} → Stmts v g → Empty g → v ≡ 0
  zero_if no_stmts e = refl
  zero_if (by_import f u) e = absurd e
  zero_if (by_let f u) e = absurd e
  zero_if (by_expr p u) e = absurd e
  zero_if (by_last p) e = absurd e

  -- the pairs round a statement; the tokens behind a statement of a kind; behind a block's brace
  abbrev many : Head → Grove → Choice → ℕ
  many h t χ = pairs_at s kinds.BLOCK false h t χ

  abbrev tail_of : ℕ → ℕ → Grove → Choice → List Token → List Token
  tail_of v p nil χ z = words (behind v p) z
  tail_of v p (top h k t) χ z = words (between p) (say s (statement h.kind) (many h t χ) h k (under χ) (tail_of v h.kind t (after χ) z))

  abbrev pub stmts : ℕ → Grove → Choice → List Token → List Token
  stmts v nil χ z = token_of close_brace ∷ z
  stmts v (top h k t) χ z = say s (statement h.kind) (many h t χ) h k (under χ) (tail_of v h.kind t (after χ) z)

  said_tail : (v : ℕ) (w : List ℕ) (i : Bool) (h : Head) (k t : Grove) (χ : Choice) (z : List Token) → said s kinds.BLOCK i (statements v w (labelled s (top h k t))).slots (statements v w (labelled s (top h k t))).last (top h k t) χ z ≡ words w (stmts v (top h k t) χ z)
  unfolding said
  said_tail v w i h k nil χ z = refl
  said_tail v w i h k (top h' k' t) χ z = ap (λ (y : List Token). words w (say s (statement h.kind) (many h (top h' k' t) χ) h k (under χ) y)) (said_tail v (between h.kind) false h' k' t (after χ) z)

  said_stmts : (v : ℕ) (w : List ℕ) (i : Bool) (g : Grove) (χ : Choice) (z : List Token) → said s kinds.BLOCK i (statements v w (labelled s g)).slots (statements v w (labelled s g)).last g χ z ≡ words w (stmts v g χ z)
  unfolding said
  said_stmts v w i nil χ z = words_two w z
  said_stmts v w i (top h k t) χ z = said_tail v w i h k t χ z

  -- each statement has the pairs that it needs
  abbrev AllSuit : Grove → Choice → Type 0
  AllSuit nil χ = Unit {0}
  AllSuit (top h k t) χ = Suit s (statement h.kind) (many h t χ) h k (under χ) × AllSuit t (after χ)

  all_suit : (v : ℕ) (w : List ℕ) (i : Bool) (g : Grove) (χ : Choice) → Suits s kinds.BLOCK i (statements v w (labelled s g)).slots g χ → AllSuit g χ
  all_suit v w i nil χ b = tt
  all_suit v w i (top h k nil) χ b = ((b.0, b.1), tt)
  all_suit v w i (top h k (top h' k' t)) χ b = ((b.0, b.1), all_suit v (between h.kind) false (top h' k' t) (after χ) b.2)

  tail_import : (v : ℕ) (g : Grove) (χ : Choice) (z : List Token) → tail_of v kinds.IMPORT g χ z ≡ stmts v g χ z
  tail_import v nil χ z = refl
  tail_import v (top h k t) χ z = refl

  tail_let : (v : ℕ) (g : Grove) (χ : Choice) (z : List Token) → tail_of v kinds.LET g χ z ≡ stmts v g χ z
  tail_let v nil χ z = refl
  tail_let v (top h k t) χ z = refl

  -- behind an expr: a `;` if it isn't the last
  tail_expr : (v p : ℕ) (g : Grove) (χ : Choice) (z : List Token) → is_expr p ≡ true → is_four p ≡ false → (Empty g → v ≡ 0) → tail_of v p g χ z ≡ token_of semicolon ∷ stmts v g χ z
  tail_expr v p nil χ z e f o = ap (λ (b : Bool). words (cond (b && eqb v 0) (semicolon ∷ close_brace ∷ []) (close_brace ∷ [])) z) e ∙ ap (λ (n : ℕ). words (cond (eqb n 0) (semicolon ∷ close_brace ∷ []) (close_brace ∷ [])) z) (o tt)
  tail_expr v p (top h k t) χ z e f o = ap (λ (b : Bool). words (cond (b && not (is_four p)) (semicolon ∷ []) []) (stmts v (top h k t) χ z)) e ∙ ap (λ (b : Bool). words (cond (not b) (semicolon ∷ []) []) (stmts v (top h k t) χ z)) f

  tail_end : (p : ℕ) (χ : Choice) (z : List Token) → is_expr p ≡ true → tail_of 1 p nil χ z ≡ token_of close_brace ∷ z
  tail_end p χ z e = ap (λ (b : Bool). words (cond (b && false) (semicolon ∷ close_brace ∷ []) (close_brace ∷ [])) z) e

  -- behind one of the four: a `;` only at the end
  tail_four : (p : ℕ) (χ : Choice) (z : List Token) → is_expr p ≡ true → tail_of 0 p nil χ z ≡ token_of semicolon ∷ token_of close_brace ∷ z
  tail_four p χ z e = ap (λ (b : Bool). words (cond (b && true) (semicolon ∷ close_brace ∷ []) (close_brace ∷ [])) z) e

  tail_next : (v p : ℕ) (h : Head) (k t : Grove) (χ : Choice) (z : List Token) → is_expr p ≡ true → is_four p ≡ true → tail_of v p (top h k t) χ z ≡ stmts v (top h k t) χ z
  tail_next v p h k t χ z e f = ap (λ (b : Bool). words (cond (b && not (is_four p)) (semicolon ∷ []) []) (stmts v (top h k t) χ z)) e ∙ ap (λ (b : Bool). words (cond (not b) (semicolon ∷ []) []) (stmts v (top h k t) χ z)) f

  -- an expr as a statement, and one of the four, which is in no pair
  abbrev Stmt : List Token → List Token → Grove → ℕ → Grove → ℕ → Type 0
  Stmt c z K i g v = Rst STATEMENT c (token_of close_brace ∷ z) (mid K i 0) (mid (beside K g) i v)

  abbrev StmtList : List Token → List Token → Grove → ℕ → Grove → ℕ → Type 0
  StmtList c z K i g v = Rst STATEMENTS c (token_of close_brace ∷ z) (mid K i 0) (mid (beside K g) i v)

  abbrev place_if : Bool → Place
  place_if b = cond b whole (asks 0 true four_words)

  abbrev many_if : Bool → Head → Choice → ℕ
  many_if b h χ = cond (not b && is_expr h.kind) (number χ) 0

  say_four : (h : Head) (k t : Grove) (χ : Choice) (y : List Token) → is_four h.kind ≡ true → say s (statement h.kind) (many h t χ) h k (under χ) y ≡ body s whole h k (under χ) y
  say_four h k t χ y e = ap (λ (b : Bool). say s (place_if b) (many_if b h χ) h k (under χ) y) e

  suit_four : (h : Head) (k t : Grove) (χ : Choice) → is_four h.kind ≡ true → Suit s (statement h.kind) (many h t χ) h k (under χ) → Under s whole h k (under χ)
  suit_four h k t χ e b = (subst (λ (b : Bool). Suit s (place_if b) (many_if b h χ) h k (under χ)) e b).1

  four_read : (h : Head) (k t : Grove) (χ : Choice) → Placed s h k → Suit s (statement h.kind) (many h t χ) h k (under χ) → (y : List Token) → is_four h.kind ≡ true → Whole FOUR (say s (statement h.kind) (many h t χ) h k (under χ) y) y (top h k nil)
  four_read h k t χ p b y e = subst (λ (t : List Token). Whole FOUR t y (top h k nil)) (sym (say_four h k t χ y e)) (p.four (subst T (sym e) tt) (under χ) (suit_four h k t χ e b) y)

  as_asked : (h : Head) (k : Grove) (n : ℕ) (χ : Choice) (y : List Token) → is_four h.kind ≡ false → say s (statement h.kind) n h k χ y ≡ say s (asks 0 true four_words) n h k χ y
  as_asked h k n χ y e = ap (λ (b : Bool). say s (place_if b) n h k χ y) e

  suit_asked : (h : Head) (k : Grove) (n : ℕ) (χ : Choice) → is_four h.kind ≡ false → Suit s (statement h.kind) n h k χ → Suit s (asks 0 true four_words) n h k χ
  suit_asked h k n χ e b = subst (λ (b : Bool). Suit s (place_if b) n h k χ) e b

  module _ (z : List Token) (K : Grove) (i : ℕ) (h : Head) (k : Grove) (p : Placed s h k) where
    is_one : is_expr h.kind ≡ true
    is_one = T→eq (is_expr h.kind) p.expr

    abbrev K' : Grove
    K' = beside K (top h k nil)

    abbrev StmtSuit : Grove → Choice → Type 0
    StmtSuit g χ = Suit s (statement h.kind) (many h g χ) h k (under χ)

    as_expr : (t : List Token) (g : Grove) (χ : Choice) → StmtSuit g χ → (v : ℕ) → is_four h.kind ≡ false → Rst AFTER_EXPR t (token_of close_brace ∷ z) (mid K' i 0) (mid (beside K' g) i v) → Stmt (say s (statement h.kind) (many h g χ) h k (under χ) t) z K i (top h k g) v
    unfolding roto
    as_expr t g χ b v e u =
        let n = many h g χ in
        let f = suit_asked h k n (under χ) e b in
        subst (λ (c : List Token). Stmt c z K i (top h k g) v) (sym (as_asked h k n (under χ) t e)) (subst (λ (w : Grove). Rst STATEMENT (say s (asks 0 true four_words) n h k (under χ) t) (token_of close_brace ∷ z) (mid K i 0) (mid w i v)) (beside_on K h k g)
        (record { alt = _; takes = there (there (there here)); goes = bar (p.begin (asks 0 true four_words) the_four n (under χ) f refl t) (sub refl (p.stands (asks 0 true four_words) tt n (under χ) f t) (rest refl u done)) }))

    as_four : (t : List Token) (g : Grove) (χ : Choice) → StmtSuit g χ → (v : ℕ) → is_four h.kind ≡ true → Rst AFTER_FOUR t (token_of close_brace ∷ z) (mid K' i 0) (mid (beside K' g) i v) → Stmt (say s (statement h.kind) (many h g χ) h k (under χ) t) z K i (top h k g) v
    unfolding roto
    as_four t g χ b v e u = subst (λ (w : Grove). Rst STATEMENT (say s (statement h.kind) (many h g χ) h k (under χ) t) (token_of close_brace ∷ z) (mid K i 0) (mid w i v)) (beside_on K h k g)
        (record { alt = _; takes = there (there here); goes = sub refl (four_read h k g χ p b t e) (rest refl u done) })

    expr_last : (χ : Choice) → StmtSuit nil χ → (b : Bool) → is_four h.kind ≡ b → Stmt (stmts 1 (top h k nil) χ z) z K i (top h k nil) 1
    unfolding roto
    expr_last χ q true e = as_four (tail_of 1 h.kind nil (after χ) z) nil χ q 1 e (subst (λ (t : List Token). Rst AFTER_FOUR t (token_of close_brace ∷ z) (mid K' i 0) (mid (beside K' nil) i 1)) (sym (tail_end h.kind (after χ) z is_one)) (subst (λ (w : Grove). Rst AFTER_FOUR (token_of close_brace ∷ z) (token_of close_brace ∷ z) (mid K' i 0) (mid w i 1)) (sym (beside_nil K')) (record { alt = _; takes = here; goes = told done })))
    expr_last χ q false e = as_expr (tail_of 1 h.kind nil (after χ) z) nil χ q 1 e (subst (λ (t : List Token). Rst AFTER_EXPR t (token_of close_brace ∷ z) (mid K' i 0) (mid (beside K' nil) i 1)) (sym (tail_end h.kind (after χ) z is_one)) (subst (λ (w : Grove). Rst AFTER_EXPR (token_of close_brace ∷ z) (token_of close_brace ∷ z) (mid K' i 0) (mid w i 1)) (sym (beside_nil K')) (record { alt = _; takes = here; goes = told done })))

    expr_next : (b : Bool) → is_four h.kind ≡ b → (v : ℕ) (g : Grove) (χ : Choice) → StmtSuit g χ → (Empty g → v ≡ 0) → StmtList (stmts v g (after χ) z) z K' i g v → Some g (Stmt (stmts v g (after χ) z) z K' i g v) → Stmt (stmts v (top h k g) χ z) z K i (top h k g) v
    unfolding roto
    expr_next false e v g χ q o u w = as_expr (tail_of v h.kind g (after χ) z) g χ q v e (subst (λ (t : List Token). Rst AFTER_EXPR t (token_of close_brace ∷ z) (mid K' i 0) (mid (beside K' g) i v)) (sym (tail_expr v h.kind g (after χ) z is_one e o)) (record { alt = _; takes = there here; goes = tok (token_of semicolon) refl tt (λ d. tt) (rest refl u done) }))
    expr_next true e v (top h' k' g) χ q o u w = as_four (tail_of v h.kind (top h' k' g) (after χ) z) (top h' k' g) χ q v e (subst (λ (t : List Token). Rst AFTER_FOUR t (token_of close_brace ∷ z) (mid K' i 0) (mid (beside K' (top h' k' g)) i v)) (sym (tail_next v h.kind h' k' g (after χ) z is_one e)) (record { alt = _; takes = there (there here); goes = rest refl w done }))
    expr_next true e v nil χ q o u w = subst (λ (n : ℕ). Stmt (stmts n (top h k nil) χ z) z K i (top h k nil) n) (sym (o tt)) (as_four (tail_of 0 h.kind nil (after χ) z) nil χ q 0 e (subst (λ (t : List Token). Rst AFTER_FOUR t (token_of close_brace ∷ z) (mid K' i 0) (mid (beside K' nil) i 0)) (sym (tail_four h.kind (after χ) z is_one)) (record { alt = _; takes = there here; goes = tok (token_of semicolon) refl tt (λ d. tt) (rest refl (subst (λ (n : ℕ). StmtList (stmts n nil (after χ) z) z K' i nil n) (o tt) u) done) })))

  wrap : {c z : List Token} {x y : Shape} → Rst STATEMENT c z x y → Rst STATEMENTS c z x y
  unfolding roto
  wrap u = record { alt = _; takes = there here; goes = rest refl u done }

  import_on : (K : Grove) (i : ℕ) (z : List Token) (v : ℕ) (k g : Grove) (χ : Choice) → Says s IMPORT (row_head kinds.IMPORT 0 0) k → Suit s (statement (row_head kinds.IMPORT 0 0).kind) 0 (row_head kinds.IMPORT 0 0) k (under χ) → StmtList (stmts v g (after χ) z) z (beside K (top (row_head kinds.IMPORT 0 0) k nil)) i g v → Stmt (stmts v (top (row_head kinds.IMPORT 0 0) k g) χ z) z K i (top (row_head kinds.IMPORT 0 0) k g) v
  unfolding said layout layouts roto
  import_on K i z v k g χ f b u = subst (λ (w : Grove). Rst STATEMENT (stmts v (top (row_head kinds.IMPORT 0 0) k g) χ z) (token_of close_brace ∷ z) (mid K i 0) (mid w i v)) (beside_on K (row_head kinds.IMPORT 0 0) k g)
      (record { alt = _; takes = here; goes = sub refl (f 0 tt (under χ) (tt, b.1) _) (rest refl (subst (λ (t : List Token). StmtList t z (beside K (top (row_head kinds.IMPORT 0 0) k nil)) i g v) (sym (tail_import v g (after χ) z)) u) done) })

  let_on : (K : Grove) (i : ℕ) (z : List Token) (v w : ℕ) (k g : Grove) (χ : Choice) → Says s LET (row_head kinds.LET w 0) k → Suit s (statement (row_head kinds.LET w 0).kind) 0 (row_head kinds.LET w 0) k (under χ) → StmtList (stmts v g (after χ) z) z (beside K (top (row_head kinds.LET w 0) k nil)) i g v → Stmt (stmts v (top (row_head kinds.LET w 0) k g) χ z) z K i (top (row_head kinds.LET w 0) k g) v
  unfolding said layout layouts roto
  let_on K i z v w k g χ f b u = subst (λ (t : Grove). Rst STATEMENT (stmts v (top (row_head kinds.LET w 0) k g) χ z) (token_of close_brace ∷ z) (mid K i 0) (mid t i v)) (beside_on K (row_head kinds.LET w 0) k g)
      (record { alt = _; takes = there here; goes = sub refl (f 0 tt (under χ) (tt, b.1) _) (rest refl (subst (λ (t : List Token). StmtList t z (beside K (top (row_head kinds.LET w 0) k nil)) i g v) (sym (tail_let v g (after χ) z)) u) done) })

  statements_read : {v : ℕ} {g : Grove} (χ : Choice) (K : Grove) (i : ℕ) (z : List Token) → Stmts v g → AllSuit g χ → StmtList (stmts v g χ z) z K i g v × Some g (Stmt (stmts v g χ z) z K i g v)
  unfolding said layout layouts roto
  statements_read χ K i z no_stmts b = (subst (λ (w : Grove). Rst STATEMENTS (token_of close_brace ∷ z) (token_of close_brace ∷ z) (mid K i 0) (mid w i 0)) (sym (beside_nil K)) (none here), tt)
  statements_read χ K i z (by_import {v = v} {k = k} {g = g} f u) b =
      let r = statements_read (after χ) (beside K (top (row_head kinds.IMPORT 0 0) k nil)) i z u b.1 in
      let o = import_on K i z v k g χ f b.0 r.0 in
      (wrap o, o)
  statements_read χ K i z (by_let {v = v} {w = w} {k = k} {g = g} f u) b =
      let r = statements_read (after χ) (beside K (top (row_head kinds.LET w 0) k nil)) i z u b.1 in
      let o = let_on K i z v w k g χ f b.0 r.0 in
      (wrap o, o)
  statements_read χ K i z (by_expr {v = v} {h = h} {k = k} {g = g} p u) b =
      let r = statements_read (after χ) (beside K (top h k nil)) i z u b.1 in
      let o = expr_next z K i h k p (is_four h.kind) refl v g χ b.0 (zero_if u) r.0 r.1 in
      (wrap o, o)
  statements_read χ K i z (by_last {h = h} {k = k} p) b = let o = expr_last z K i h k p χ b.0 (is_four h.kind) refl in (wrap o, o)

  pub block_body : {v : ℕ} {g : Grove} (c : Place) (χ : Choice) (z : List Token) → Stmts v g → Under s c (row_head kinds.BLOCK v 0) g χ → Whole BLOCK (body s c (row_head kinds.BLOCK v 0) g χ z) z (row_over kinds.BLOCK v 0 g)
  unfolding said layout layouts roto
  block_body {v} {g} c χ z u b = subst (λ (t : List Token). Whole BLOCK t z (row_over kinds.BLOCK v 0 g)) (sym (said_stmts v (open_brace ∷ []) true g χ z))
      (finish here (tok (token_of open_brace) refl tt (λ d. tt) (rest refl (statements_read χ nil open_brace z u (all_suit v (open_brace ∷ []) true g χ b)).0 (tok (token_of close_brace) refl tt (λ d. tt) (put kinds.BLOCK refl refl refl done)))))

  pub block_says : {v : ℕ} {g : Grove} → Stmts v g → Says s BLOCK (row_head kinds.BLOCK v 0) g
  block_says u = alone s tt (λ χ b z. block_body whole χ z u b)

  pub block_row : {v : ℕ} {g : Grove} → Stmts v g → Placed s (row_head kinds.BLOCK v 0) g
  unfolding said layout layouts roto
  block_row {v} {g} u = settle s (row_head kinds.BLOCK v 0) g (record {
    stands = λ c χ e b y z g' w. go c χ b c.records y z g' w;
    begin = λ c a χ e b f z. subst (λ (t : List Token). T (not (one_of (peek lists l t) (barred a)))) (sym (said_stmts v (open_brace ∷ []) true g χ z)) (own_begin s open_brace c a (needs_begins s c (row_head kinds.BLOCK v 0) g e) f);
    path = absurd;
    four = absurd;
    block = λ t χ b z. block_body whole χ z u b;
    expr = tt;
  })
    where
      go : (c : Place) (χ : Choice) → Under s c (row_head kinds.BLOCK v 0) g χ → (r : Bool) (y z : List Token) (g' : Grove) → Rest (POSTFIX r) y z (top (row_head kinds.BLOCK v 0) g nil) g' → Whole (OPERAND r) (body s c (row_head kinds.BLOCK v 0) g χ y) z g'
      go c χ b true y z g' w = subst (λ (t : List Token). Whole (OPERAND true) t z g') (sym (said_stmts v (open_brace ∷ []) true g χ y)) (chain {n = BRACES} (there (there (there (there (there (there (there here))))))) refl refl
          (finish here (tok (token_of open_brace) refl tt (λ d. tt) (rest refl (record { alt = _; takes = there here; goes = rest refl (statements_read χ nil open_brace y u (all_suit v (open_brace ∷ []) true g χ b)).0 (tok (token_of close_brace) refl tt (λ d. tt) (put kinds.BLOCK refl refl refl done)) }) done))) w)
      go c χ b false y z g' w = chain {n = BLOCK} (there (there (there (there (there (there (there here))))))) refl refl (block_body c χ y u b) w
