-- The claims, alternative by alternative.
use mathlib.Core.Path.{◌≡◌, refl, sym, ap, subst, ◌∙◌}
use mathlib.Core.List.{List, [], ◌∷◌, ◌++◌, append_assoc}
use mathlib.Core.Bool.{Bool, true, false, not, cond}
use mathlib.Core.Logic.{inl, inr}
use Prim.Native.Nat.{ℕ, suc, ◌≤◌}
use lib.Dec.{T, eqb, eqb→eq}
use native.Mathlib.Omega.{arith}
use Rattle.rows.specs.Kinds as kinds
use Rattle.grammar.specs.Words.{open_brace, 'if', 'while', 'for', 'match', binary_signs}
use Rattle.grammar.specs.Grammar.{Ask, Scope, same, Symbol, token, phrase, unless, note, left_side, Token, Parts, end, leaf, node, mark, one_of}
use Rattle.grammar.specs.Kinds.{NAME, FIELD, FIELDS, FIELDS_MORE, BLOCK, STATEMENTS, BRACES_INSIDE, EXPRS, ELSE, ARMS, ARM, ARM_BODY, ARM_COMMA, GUARD, PATTERN, VARIANT, VARIANT_NAMES, PARENS}
use Rattle.grammar.specs.Table.{literal_row}
use Rattle.grammar.specs.Rows.{Row, own, child, row_of, place_in}
use Rattle.grammar.specs.Language.{roto}
use Rattle.grammar.proofs.Bools.{or_cases}
use Rattle.grammar.proofs.Frame.{no_text, plain_word}
use Rattle.canon.specs.Trees.{label}
use Rattle.canon.specs.Layout.{whole, binary_level, left_level, is_four}
use Rattle.forests.specs.Planted.{Marked, no_more, stands, Twig, word, branch, items_of, trees_in, branches, Bough, bud, plant}
use Rattle.forests.proofs.Grown.{plant_phrase, plant_row, plant_part}
use Rattle.forests.proofs.Peeked.{all_end, all_token, all_phrase, all_unless, all_note, all_side}
use Rattle.forests.proofs.Places.{Tree, top, Fits, Each}
use Rattle.forests.proofs.Stands.{At, at_whole, at_looser, at_any, at_path, at_first, at_pair, literal_at, record_at, path_record_at, binary_at, question_at, call_at, access_at, assign_at, returns_at, returned_at, Stated, block_at, if_at, while_at, for_at, match_at, Armed, Body, body_at, body_block, arm_at, guarded_at}
use Rattle.forests.proofs.Claims.{bough, Own, Rest, Leaves, Makes, More, Adds, Returned, returns, nothing, Guarded, no_guard, guards, Ready, bare, guarded, on_own, on_pair, on_word, on_rest, on_end, on_last, makes_from, leaves_made, makes_one, makes_row, makes_as, leaves_as, each_append, branches_each, wholes_pair, adds_end, adds_word, adds_part, adds_own, adds_rest, adds_each}
use Rattle.forests.proofs.Table.{Claims, Alls, closed}

-- a word's own number
pub word_is : (c k : ℕ) → T (one_of c (k ∷ [])) → c ≡ k
word_is c k t = elim (or_cases (eqb c k) false t) [ inl e ↦ eqb→eq c k e | inr z ↦ absurd z ]

module _ (s : List ℕ) (tests : Bool) where
  abbrev A : List Symbol → ℕ → Parts → Type 0
  A = Alls s tests

  abbrev C : ℕ → ℕ → Parts → Type 0
  C = Claims s

  abbrev twig : {Q : Tree → Type 0} {p : Parts} → Leaves s Q p → Twig
  twig h = branch h.row h.pairs h.kids

  -- ---- trees behind others

  pub adds_none : {Q : Tree → Type 0} {u : ℕ} {p : Parts} → A [] u p → Adds s Q p
  adds_none all_end = adds_end s

  pub adds_noted : {Q : Tree → Type 0} {u : ℕ} {p : Parts} → A (note 0 ∷ []) u p → Adds s Q p
  adds_noted (all_note all_end) = adds_part s (adds_end s)

  pub adds_one : {Q : Tree → Type 0} {o : Scope} {n u : ℕ} {p : Parts} → Own n → ((v : ℕ) (q : Parts) → C n v q → Each Q (trees_in s (plant s q bud).twigs)) → A (phrase o n ∷ []) u p → Adds s Q p
  adds_one {n = n} {u = u} on f (all_phrase {a = a} {p = p} c all_end) = adds_own s n a on (f u p c) (adds_end s)

  pub adds_on : {Q : Tree → Type 0} {o : Scope} {n u : ℕ} {p : Parts} → Rest n → ((v : ℕ) (q : Parts) → C n v q → Adds s Q q) → A (phrase o n ∷ []) u p → Adds s Q p
  adds_on {n = n} {u = u} on f (all_phrase {a = a} {p = p} c all_end) = adds_rest s n a on (f u p c) (adds_end s)

  pub adds_item : {Q : Tree → Type 0} {o o' : Scope} {n m u : ℕ} {p : Parts} → Own n → Rest m → ((v : ℕ) (q : Parts) → C n v q → Each Q (trees_in s (plant s q bud).twigs)) → ((v : ℕ) (q : Parts) → C m v q → Adds s Q q) → A (phrase o n ∷ phrase o' m ∷ []) u p → Adds s Q p
  adds_item {n = n} {m = m} {u = u} on om f g (all_phrase {a = a} {v = v} {p = p} c (all_phrase {a = b} {p = q} d all_end)) = adds_own s n a on (f u p c) (adds_rest s m b om (g v q d) (adds_end s))

  pub adds_behind : {Q : Tree → Type 0} {g : Ask} {o : Scope} {w : List ℕ} {n u : ℕ} {p : Parts} → T (no_text w) → Rest n → ((v : ℕ) (q : Parts) → C n v q → Adds s Q q) → A (token g w ∷ phrase o n ∷ []) u p → Adds s Q p
  adds_behind {w = w} {n = n} t on f (all_token {x = x} {v = v} m k e (all_phrase {a = a} {p = p} c all_end)) = adds_word s x (plain_word x w t m) (adds_rest s n a on (f v p c) (adds_end s))

  pub adds_comma : {Q : Tree → Type 0} {g : Ask} {w : List ℕ} {u : ℕ} {p : Parts} → T (no_text w) → A (token g w ∷ []) u p → Adds s Q p
  adds_comma {w = w} t (all_token {x = x} m k e all_end) = adds_word s x (plain_word x w t m) (adds_end s)

  pub adds_behind_own : {Q : Tree → Type 0} {g : Ask} {o : Scope} {w : List ℕ} {n u : ℕ} {p : Parts} → T (no_text w) → Own n → ((v : ℕ) (q : Parts) → C n v q → Each Q (trees_in s (plant s q bud).twigs)) → A (token g w ∷ phrase o n ∷ []) u p → Adds s Q p
  adds_behind_own {w = w} {n = n} t on f (all_token {x = x} {v = v} m k e (all_phrase {a = a} {p = p} c all_end)) = adds_word s x (plain_word x w t m) (adds_own s n a on (f v p c) (adds_end s))

  -- an expr that isn't to begin with these words
  pub adds_unless : {Q : Tree → Type 0} {o o' : Scope} {w : List ℕ} {n m u : ℕ} {p : Parts} → Own n → Rest m → ((v : ℕ) (q : Parts) → T (not (one_of v w)) → C n v q → Each Q (trees_in s (plant s q bud).twigs)) → ((v : ℕ) (q : Parts) → C m v q → Adds s Q q) → A (unless w ∷ phrase o n ∷ phrase o' m ∷ []) u p → Adds s Q p
  adds_unless {n = n} {m = m} {u = u} on om f g (all_unless t (all_phrase {a = a} {v = v} {p = p} c (all_phrase {a = b} {p = q} d all_end))) = adds_own s n a on (f u p t c) (adds_rest s m b om (g v q d) (adds_end s))

  -- ---- one tree

  pub around : {Q : Tree → Type 0} {g g' : Ask} {o : Scope} {w w' : List ℕ} {n u : ℕ} {p : Parts} → T (no_text w) → T (no_text w') → Own n → ((v : ℕ) (q : Parts) → C n v q → Leaves s Q q) → A (token g w ∷ phrase o n ∷ token g' w' ∷ []) u p → Leaves s Q p
  around {w = w} {w' = w'} {n = n} t t' on f (all_token {x = x} {v = v} m k e (all_phrase {a = a} {p = p} c (all_token {x = y} m' k' e' all_end))) =
      let h = f v p c in
      record {
        row = h.row;
        pairs = h.pairs;
        kids = h.kids;
        left = ap (λ (b : Bough). branches false b.twigs) (on_word s x (node n a p (leaf y end)) [] 0 (plain_word x w t m) ∙ on_own s n a (leaf y end) (word x ∷ []) 0 on h ∙ on_word s y end (word x ∷ twig h ∷ []) 0 (plain_word y w' t' m') ∙ on_end s (bough (word x ∷ twig h ∷ word y ∷ []) 0));
        is = h.is;
      }

  -- a phrase, then the rest of its chain
  pub chain : (j i : ℕ) (r q : Bool) {o o' : Scope} {n m u : ℕ} {p : Parts} → Own n → Rest m → ((v : ℕ) (x : Parts) → C n v x → Leaves s (At j r q v) x) → ((v : ℕ) (x : Parts) → C m v x → More s j i r q x) → A (phrase o n ∷ phrase o' m ∷ []) u p → Leaves s (At i r q u) p
  chain j i r q {n = n} {m = m} {u = u} on om f g (all_phrase {a = a} {v = v} {p = p} c (all_phrase {a = b} {p = x} d all_end)) =
      let h = f u p c in
      leaves_made s (makes_from s (on_own s n a (node m b x end) [] 0 on h ∙ on_last s m b x (twig h ∷ []) 0 om) (g v x d h.row h.pairs h.kids 0 u h.is))

  -- a pair, then the rest
  pub pair_chain : (r : Bool) {o o' : Scope} {m u : ℕ} {p : Parts} → Rest m → ((v : ℕ) (x : Parts) → C m v x → More s 7 7 r false x) → A (phrase o PARENS ∷ phrase o' m ∷ []) u p → Leaves s (At 7 r false u) p
  pair_chain r {m = m} {u = u} om g (all_phrase {a = a} {v = v} {p = p} c (all_phrase {a = b} {p = x} d all_end)) =
      leaves_made s (makes_from s (on_pair s a (node m b x end) [] 0 c ∙ on_last s m b x (branch c.row (suc c.pairs) c.kids ∷ []) 0 om) (g v x d c.row (suc c.pairs) c.kids 0 u (at_any r (at_pair 7 u c.pairs (label s c.row) c.kids c.is))))

  pub more_none : (n i : ℕ) (r q : Bool) {u : ℕ} {p : Parts} → i ≤ n → A [] u p → More s n i r q p
  more_none n i r q e all_end row pairs kids part u h = makes_one s row pairs kids part (at_looser i e h)

  -- a sign and what stands right of it
  abbrev Signed : List ℕ → ℕ → ℕ → Type 0
  Signed w n j = (c : ℕ) → T (one_of c w) → (binary_level (place_in c binary_signs) ≡ n) × (left_level (place_in c binary_signs) ≡ j)

  signed : {n j : ℕ} (w : List ℕ) (r : Bool) (v u part : ℕ) (row row₂ : Row) (pairs pairs₂ : ℕ) (kids kids₂ : Marked) (x : Token) → Signed w n j → T (one_of x.word w) → At j r true v (top pairs (label s row) kids) → At (suc n) r true u (top pairs₂ (label s row₂) kids₂)
      → At n r true v (top 0 (label s (row_of kinds.BINARY (child row ∷ own x ∷ child row₂ ∷ []) part)) (stands pairs (label s row) kids (stands pairs₂ (label s row₂) kids₂ no_more)))
  unfolding row_of
  signed {n = n} w r v u part row row₂ pairs pairs₂ kids kids₂ x f m h k =
      let e = f x.word m in
      binary_at (top pairs (label s row) kids) (top pairs₂ (label s row₂) kids₂) n part (place_in x.word binary_signs) [] e.0 (subst (λ (i : ℕ). At i r true v (top pairs (label s row) kids)) (sym e.1) h) k

  pub more_signed : (i : ℕ) (r : Bool) {g : Ask} {o o' : Scope} {w : List ℕ} {n m u : ℕ} {p : Parts} → T (no_text w) → Signed w i i → Own n → Rest m → ((v : ℕ) (x : Parts) → C n v x → Leaves s (At (suc i) r true v) x) → ((v : ℕ) (x : Parts) → C m v x → More s i i r true x) → A (token g w ∷ phrase o n ∷ note kinds.BINARY ∷ phrase o' m ∷ []) u p → More s i i r true p
  more_signed i r {w = w} {n = n} {m = m} t f on om g h (all_token {x = x} {v = v} y k e (all_phrase {a = a} {p = p} c (all_note {u = z} (all_phrase {a = b} {p = q} d all_end)))) row pairs kids part u l =
      let c' = g v p c in
      let xs = branch row pairs kids ∷ word x ∷ twig c' ∷ [] in
      makes_from s
      (on_word s x (node n a p (mark kinds.BINARY (node m b q end))) (branch row pairs kids ∷ []) part (plain_word x w t y)
      ∙ on_own s n a (mark kinds.BINARY (node m b q end)) (branch row pairs kids ∷ word x ∷ []) part on c'
      ∙ plant_row s kinds.BINARY (node m b q end) (bough xs part) refl
      ∙ on_last s m b q (branch (row_of kinds.BINARY (items_of xs) part) 0 (trees_in s xs) ∷ []) 0 om)
      (h z q d (row_of kinds.BINARY (items_of xs) part) 0 (trees_in s xs) 0 u (signed w r u v part row c'.row pairs c'.pairs kids c'.kids x f y l c'.is))

  pub once_signed : (i j : ℕ) (r : Bool) {g : Ask} {o : Scope} {w : List ℕ} {n u : ℕ} {p : Parts} → T (no_text w) → Signed w i j → Own n → ((v : ℕ) (x : Parts) → C n v x → Leaves s (At (suc i) r true v) x) → A (token g w ∷ phrase o n ∷ note kinds.BINARY ∷ []) u p → More s j i r true p
  once_signed i j r {w = w} {n = n} t f on g (all_token {x = x} {v = v} y k e (all_phrase {a = a} {p = p} c (all_note all_end))) row pairs kids part u l =
      let c' = g v p c in
      makes_from s
      (on_word s x (node n a p (mark kinds.BINARY end)) (branch row pairs kids ∷ []) part (plain_word x w t y) ∙ on_own s n a (mark kinds.BINARY end) (branch row pairs kids ∷ word x ∷ []) part on c')
      (makes_row s kinds.BINARY (branch row pairs kids ∷ word x ∷ twig c' ∷ []) part refl (signed w r u v part row c'.row pairs c'.pairs kids c'.kids x f y l c'.is))

  -- `path = binary`
  pub assigned : (r : Bool) {g : Ask} {o : Scope} {w : List ℕ} {n u : ℕ} {p : Parts} → T (no_text w) → Own n → ((v : ℕ) (x : Parts) → C n v x → Leaves s (At 1 r true v) x) → A (token g w ∷ phrase o n ∷ note kinds.ASSIGN ∷ []) u p → More s 1 0 r true p
  unfolding row_of
  assigned r {w = w} {n = n} t on g (all_token {x = x} {v = v} y k e (all_phrase {a = a} {p = p} c (all_note all_end))) row pairs kids part u l =
      let c' = g v p c in
      makes_from s
      (on_word s x (node n a p (mark kinds.ASSIGN end)) (branch row pairs kids ∷ []) part (plain_word x w t y) ∙ on_own s n a (mark kinds.ASSIGN end) (branch row pairs kids ∷ word x ∷ []) part on c')
      (makes_row s kinds.ASSIGN (branch row pairs kids ∷ word x ∷ twig c' ∷ []) part refl (assign_at (top pairs (label s row) kids) (top c'.pairs (label s c'.row) c'.kids) u part _ [] (at_whole l) c'.is))

  side : (b r : Bool) (m : ℕ) {v u : ℕ} {q : Parts} (row : Row) (pairs : ℕ) (kids : Marked) → Rest m → ((v : ℕ) (x : Parts) → C m v x → More s 1 0 r true x) → At 1 r true u (top pairs (label s row) kids) → A (cond b (phrase same m ∷ []) []) v q → Makes s (At 0 r true u) (branch row pairs kids ∷ []) 0 q
  side true r m {v = v} {u = u} row pairs kids om g l (all_phrase {a = a} {p = p} c all_end) = makes_from s (on_last s m a p (branch row pairs kids ∷ []) 0 om) (g v p c row pairs kids 0 u l)
  side false r m row pairs kids om g l all_end = makes_one s row pairs kids 0 (at_looser 0 (omega arith) l)

  pub sided : (r : Bool) {n m u : ℕ} {p : Parts} → Own n → Rest m → ((v : ℕ) (x : Parts) → C n v x → Leaves s (At 1 r true v) x) → ((v : ℕ) (x : Parts) → C m v x → More s 1 0 r true x) → A (left_side n m ∷ []) u p → Leaves s (At 0 r true u) p
  sided r {n = n} {m = m} {u = u} on om f g (all_side {a = a} {p = p} {q = q} c h) =
      let c' = f u p c in
      leaves_made s (makes_from s (on_own s n a q [] 0 on c') (side ((roto tests).is_path p) r m c'.row c'.pairs c'.kids om g c'.is h))

  -- a return form
  pub returned_expr : (r : Bool) {o : Scope} {n u : ℕ} {p : Parts} → Own n → ((v : ℕ) (x : Parts) → C n v x → Leaves s (At 0 r true v) x) → A (phrase o n ∷ []) u p → (x : Token) (part : ℕ) → Returned s r x part p
  returned_expr r {n = n} {u = u} on f (all_phrase {a = a} {p = p} c all_end) x part =
      let h = f u p c in
      returns h.row h.pairs h.kids (on_own s n a end (word x ∷ []) part on h ∙ on_end s (bough (word x ∷ twig h ∷ []) part)) h.is

  pub returned_none : {u : ℕ} {p : Parts} → A [] u p → (x : Token) (part : ℕ) → Returned s true x part p
  returned_none all_end x part = nothing tt (on_end s (bough (word x ∷ []) part))

  pub return_form : (r : Bool) {g : Ask} {o : Scope} {w : List ℕ} {m u : ℕ} {p : Parts} → T (no_text w) → Rest m → ((v : ℕ) (q : Parts) → C m v q → (x : Token) (part : ℕ) → Returned s r x part q) → A (token g w ∷ phrase o m ∷ note kinds.RETURN ∷ []) u p → Leaves s (At 0 r true u) p
  unfolding row_of
  return_form r {w = w} {m = m} {u = u} t om f (all_token {x = x} {v = v} y k e (all_phrase {a = a} {p = p} c (all_note all_end))) = leaves_made s (makes_from s (on_word s x (node m a p (mark kinds.RETURN end)) [] 0 (plain_word x w t y)) (go (f v p c x 0)))
    where
      on : plant s (node m a p (mark kinds.RETURN end)) (bough (word x ∷ []) 0) ≡ plant s (mark kinds.RETURN end) (plant s p (bough (word x ∷ []) 0))
      on = on_rest s m a p (mark kinds.RETURN end) (word x ∷ []) 0 om

      none_at : (r : Bool) → T r → Makes s (At 0 r true u) (word x ∷ []) 0 (mark kinds.RETURN end)
      none_at true h = makes_row s kinds.RETURN (word x ∷ []) 0 refl (returned_at u 0 _ [])
      none_at false h = absurd h

      go : Returned s r x 0 p → Makes s (At 0 r true u) (word x ∷ []) 0 (node m a p (mark kinds.RETURN end))
      go (returns row pairs kids h i) = makes_from s (on ∙ ap (plant s (mark kinds.RETURN end)) h) (makes_row s kinds.RETURN (word x ∷ branch row pairs kids ∷ []) 0 refl (returns_at (top pairs (label s row) kids) u 0 _ [] i))
      go (nothing h i) = makes_from s (on ∙ ap (plant s (mark kinds.RETURN end)) i) (none_at r h)

  -- ---- operands

  -- `!` and `-`
  pub prefixed : (k : ℕ) (r : Bool) {g : Ask} {o : Scope} {w : List ℕ} {n u : ℕ} {p : Parts} → T (no_text w) → eqb k 0 ≡ false → Own n → ((v : ℕ) (x : Parts) → C n v x → Leaves s (At 6 r true v) x)
      → ((v : ℕ) (x : Token) (row : Row) (pairs : ℕ) (kids : Marked) → At 6 r true v (top pairs (label s row) kids) → At 6 r true u (top 0 (label s (row_of k (own x ∷ child row ∷ []) 0)) (stands pairs (label s row) kids no_more)))
      → A (token g w ∷ phrase o n ∷ note k ∷ []) u p → Leaves s (At 6 r true u) p
  prefixed k r {w = w} {n = n} t z on f law (all_token {x = x} {v = v} y i e (all_phrase {a = a} {p = p} c (all_note all_end))) =
      let h = f v p c in
      leaves_made s (makes_from s (on_word s x (node n a p (mark k end)) [] 0 (plain_word x w t y) ∙ on_own s n a (mark k end) (word x ∷ []) 0 on h) (makes_row s k (word x ∷ twig h ∷ []) 0 z (law v x h.row h.pairs h.kids h.is)))

  -- whether it is a path or none
  as_path : (q : Bool) {r : Bool} {u : ℕ} {x : Tree} → At 7 r q u x → At 7 r true u x
  as_path true h = h
  as_path false h = at_path true h

  pub questioned : (r q : Bool) {g : Ask} {o : Scope} {w : List ℕ} {m u : ℕ} {p : Parts} → T (no_text w) → Rest m → ((v : ℕ) (x : Parts) → C m v x → More s 7 7 r false x) → A (token g w ∷ note kinds.QUESTION ∷ phrase o m ∷ []) u p → More s 7 7 r q p
  unfolding row_of
  questioned r q {w = w} {m = m} t om f (all_token {x = x} {v = v} y i e (all_note (all_phrase {a = a} {p = p} c all_end))) row pairs kids part u l =
      let xs = branch row pairs kids ∷ word x ∷ [] in
      makes_as s (λ z. at_path q) (makes_from s
      (on_word s x (mark kinds.QUESTION (node m a p end)) (branch row pairs kids ∷ []) part (plain_word x w t y)
      ∙ plant_row s kinds.QUESTION (node m a p end) (bough xs part) refl
      ∙ on_last s m a p (branch (row_of kinds.QUESTION (items_of xs) part) 0 (trees_in s xs) ∷ []) 0 om)
      (f v p c (row_of kinds.QUESTION (items_of xs) part) 0 (trees_in s xs) 0 u (question_at (top pairs (label s row) kids) part 0 [] (as_path q l))))

  pub called : (r q : Bool) {g g' : Ask} {o o' : Scope} {w w' : List ℕ} {m u : ℕ} {p : Parts} → T (no_text w) → T (no_text w') → Rest m → ((v : ℕ) (x : Parts) → C m v x → More s 7 7 r false x) → A (token g w ∷ phrase o EXPRS ∷ token g' w' ∷ note kinds.CALL ∷ phrase o' m ∷ []) u p → More s 7 7 r q p
  unfolding row_of
  called r q {w = w} {w' = w'} {m = m} t t' om f (all_token {x = x} y i e (all_phrase {a = a} {p = p} c (all_token {x = x'} {v = v} y' i' e' (all_note (all_phrase {a = b} {p = p'} d all_end))))) row pairs kids part u l =
      let h = c (branch row pairs kids ∷ word x ∷ []) part in
      let ts = h.more ++ (word x' ∷ []) in
      let xs = branch row pairs kids ∷ word x ∷ ts in
      makes_as s (λ z. at_path q) (makes_from s
      (on_word s x (node EXPRS a p (leaf x' (mark kinds.CALL (node m b p' end)))) (branch row pairs kids ∷ []) part (plain_word x w t y)
      ∙ on_rest s EXPRS a p (leaf x' (mark kinds.CALL (node m b p' end))) (branch row pairs kids ∷ word x ∷ []) part refl
      ∙ ap (plant s (leaf x' (mark kinds.CALL (node m b p' end)))) h.added
      ∙ on_word s x' (mark kinds.CALL (node m b p' end)) (branch row pairs kids ∷ word x ∷ h.more) h.part_now (plain_word x' w' t' y')
      ∙ plant_row s kinds.CALL (node m b p' end) (bough xs h.part_now) refl
      ∙ on_last s m b p' (branch (row_of kinds.CALL (items_of xs) h.part_now) 0 (trees_in s xs) ∷ []) 0 om)
      (f v p' d (row_of kinds.CALL (items_of xs) h.part_now) 0 (trees_in s xs) 0 u (call_at (top pairs (label s row) kids) (trees_in s ts) h.part_now 0 [] (as_path q l) (each_append s (Fits whole) h.more (word x' ∷ []) h.are tt))))

  pub accessed : (r : Bool) {g : Ask} {o o' : Scope} {w : List ℕ} {m u : ℕ} {p : Parts} → T (no_text w) → Rest m → ((v : ℕ) (x : Parts) → C m v x → More s 7 7 r false x) → A (token g w ∷ phrase o NAME ∷ note kinds.ACCESS ∷ phrase o' m ∷ []) u p → More s 7 7 r false p
  unfolding row_of
  accessed r {w = w} {m = m} t om f (all_token {x = x} y i e (all_phrase {a = a} {p = p} c (all_note {u = v} (all_phrase {a = b} {p = p'} d all_end)))) row pairs kids part u l =
      let xs = branch row pairs kids ∷ word x ∷ twig c ∷ [] in
      makes_from s
      (on_word s x (node NAME a p (mark kinds.ACCESS (node m b p' end))) (branch row pairs kids ∷ []) part (plain_word x w t y)
      ∙ on_own s NAME a (mark kinds.ACCESS (node m b p' end)) (branch row pairs kids ∷ word x ∷ []) part (refl, refl) c
      ∙ plant_row s kinds.ACCESS (node m b p' end) (bough xs part) refl
      ∙ on_last s m b p' (branch (row_of kinds.ACCESS (items_of xs) part) 0 (trees_in s xs) ∷ []) 0 om)
      (f v p' d (row_of kinds.ACCESS (items_of xs) part) 0 (trees_in s xs) 0 u (access_at (top pairs (label s row) kids) (top c.pairs (label s c.row) c.kids) part 0 [] l (at_whole c.is)))

  pub path_record : {g g' : Ask} {o o' : Scope} {w w' : List ℕ} {m u : ℕ} {p : Parts} → T (no_text w) → T (no_text w') → Rest m → ((v : ℕ) (x : Parts) → C m v x → More s 7 7 true false x) → A (token g w ∷ phrase o FIELDS ∷ token g' w' ∷ note 0 ∷ note kinds.RECORD ∷ phrase o' m ∷ []) u p → More s 7 7 true true p
  unfolding row_of
  path_record {w = w} {w' = w'} {m = m} t t' om f (all_token {x = x} y i e (all_phrase {a = a} {p = p} c (all_token {x = x'} y' i' e' (all_note (all_note {u = v} (all_phrase {a = b} {p = p'} d all_end)))))) row pairs kids part u l =
      let k = plant s p (bough (branch row pairs kids ∷ word x ∷ []) part) in
      let xs = k.twigs ++ (word x' ∷ []) in
      makes_as s (λ z. at_path true) (makes_from s
      (on_word s x (node FIELDS a p (leaf x' (mark 0 (mark kinds.RECORD (node m b p' end))))) (branch row pairs kids ∷ []) part (plain_word x w t y)
      ∙ on_rest s FIELDS a p (leaf x' (mark 0 (mark kinds.RECORD (node m b p' end)))) (branch row pairs kids ∷ word x ∷ []) part refl
      ∙ on_word s x' (mark 0 (mark kinds.RECORD (node m b p' end))) k.twigs k.part (plain_word x' w' t' y')
      ∙ plant_part s (mark kinds.RECORD (node m b p' end)) (bough xs k.part)
      ∙ plant_row s kinds.RECORD (node m b p' end) (bough xs 1) refl
      ∙ on_last s m b p' (branch (row_of kinds.RECORD (items_of xs) 1) 0 (trees_in s xs) ∷ []) 0 om)
      (f v p' d (row_of kinds.RECORD (items_of xs) 1) 0 (trees_in s xs) 0 u (at_first u (path_record_at 0 [] (trees_in s xs) (each_append s (Fits whole) k.twigs (word x' ∷ []) (c.kept (branch row pairs kids ∷ word x ∷ []) part (at_whole l, tt)) tt)))))

  -- ---- atoms

  pub literal : {w : List ℕ} {g : Ask} {u : ℕ} {p : Parts} → T (no_text w) → A (token g w ∷ note literal_row ∷ []) u p → Leaves s (At 7 false false 0) p
  unfolding row_of
  literal {w = w} t (all_token {x = x} y k e (all_note all_end)) = leaves_made s (makes_from s (on_word s x (mark literal_row end) [] 0 (plain_word x w t y)) (makes_row s literal_row (word x ∷ []) 0 refl (literal_at x.kind x.value x.detail _ k)))

  abbrev Block : ℕ → Tree → Type 0
  Block u x = At 7 false false u x × T (eqb x.label.kind kinds.BLOCK)

  -- behind `{`: statements and `}`
  pub inner_block : {g : Ask} {o : Scope} {w : List ℕ} {u : ℕ} {p : Parts} → T (no_text w) → A (phrase o STATEMENTS ∷ token g w ∷ note kinds.BLOCK ∷ []) u p → (x : Token) (part : ℕ) → Makes s (Block open_brace) (word x ∷ []) part p
  unfolding row_of
  inner_block {w = w} t (all_phrase {a = a} {p = p} c (all_token {x = y} m k e (all_note all_end))) x part =
      let h = c (word x ∷ []) part in
      let xs = h.more ++ (word y ∷ []) in
      makes_from s
      (on_rest s STATEMENTS a p (leaf y (mark kinds.BLOCK end)) (word x ∷ []) part refl
      ∙ ap (plant s (leaf y (mark kinds.BLOCK end))) h.added
      ∙ on_word s y (mark kinds.BLOCK end) (word x ∷ h.more) h.part_now (plain_word y w t m))
      (makes_row s kinds.BLOCK (word x ∷ xs) h.part_now refl (block_at h.part_now 0 [] (trees_in s xs) (each_append s Stated h.more (word y ∷ []) h.are tt), tt))

  pub a_block : {g g' : Ask} {o : Scope} {w : List ℕ} {u : ℕ} {p : Parts} → T (no_text w) → A (token g (open_brace ∷ []) ∷ phrase o STATEMENTS ∷ token g' w ∷ note kinds.BLOCK ∷ []) u p → Leaves s (Block u) p
  a_block t (all_token {x = x} {p = p} m k e h) = subst (λ (v : ℕ). Leaves s (Block v) (leaf x p)) (sym (word_is x.word open_brace m) ∙ e) (leaves_made s (makes_from s (on_word s x p [] 0 (plain_word x (open_brace ∷ []) tt m)) (inner_block t h x 0)))

  pub braces : {g : Ask} {o : Scope} {u : ℕ} {p : Parts} → A (token g (open_brace ∷ []) ∷ phrase o BRACES_INSIDE ∷ []) u p → Leaves s (At 7 true false u) p
  braces (all_token {x = x} m k e (all_phrase {a = a} {p = p} c all_end)) =
      subst (λ (v : ℕ). Leaves s (At 7 true false v) (leaf x (node BRACES_INSIDE a p end))) (sym (word_is x.word open_brace m) ∙ e)
      (leaves_made s (makes_from s (on_word s x (node BRACES_INSIDE a p end) [] 0 (plain_word x (open_brace ∷ []) tt m) ∙ on_last s BRACES_INSIDE a p (word x ∷ []) 0 refl) (c x 0)))

  pub inner_record : {g : Ask} {o o' : Scope} {w : List ℕ} {u : ℕ} {p : Parts} → A (phrase o FIELD ∷ phrase o' FIELDS_MORE ∷ token g w ∷ note kinds.RECORD ∷ []) u p → (x : Token) (part : ℕ) → Makes s (At 7 true false open_brace) (word x ∷ []) part p
  unfolding row_of
  inner_record h x part =
      let c = closed s tests kinds.RECORD tt h (word x ∷ []) part tt in
      makes_from s c.closing (makes_row s kinds.RECORD c.twigs_now c.part_now refl (record_at c.part_now 0 [] (trees_in s c.twigs_now) c.wholly))

  -- ---- the four

  abbrev Four : ℕ → Tree → Type 0
  Four u x = At 7 false false u x × T (is_four x.label.kind)

  pub an_if : {g : Ask} {o₁ o₂ o₃ : Scope} {n u : ℕ} {p : Parts} → Own n → ((v : ℕ) (x : Parts) → C n v x → Leaves s (At 0 false true v) x) → A (token g ('if' ∷ []) ∷ phrase o₁ n ∷ phrase o₂ BLOCK ∷ phrase o₃ ELSE ∷ note kinds.IF ∷ []) u p → Leaves s (Four u) p
  unfolding row_of
  an_if {n = n} on f (all_token {x = x} {v = v} m k e (all_phrase {a = a} {p = p} c (all_phrase {a = a₂} {p = p₂} b (all_phrase {a = a₃} {p = p₃} d (all_note all_end))))) =
      let h = f v p c in
      let l = d (word x ∷ twig h ∷ twig b ∷ []) 0 in
      subst (λ (w : ℕ). Leaves s (Four w) (leaf x (node n a p (node BLOCK a₂ p₂ (node ELSE a₃ p₃ (mark kinds.IF end)))))) (sym (word_is x.word 'if' m) ∙ e) (leaves_made s (makes_from s
      (on_word s x (node n a p (node BLOCK a₂ p₂ (node ELSE a₃ p₃ (mark kinds.IF end)))) [] 0 (plain_word x ('if' ∷ []) tt m)
      ∙ on_own s n a (node BLOCK a₂ p₂ (node ELSE a₃ p₃ (mark kinds.IF end))) (word x ∷ []) 0 on h
      ∙ on_own s BLOCK a₂ (node ELSE a₃ p₃ (mark kinds.IF end)) (word x ∷ twig h ∷ []) 0 (refl, refl) b
      ∙ on_rest s ELSE a₃ p₃ (mark kinds.IF end) (word x ∷ twig h ∷ twig b ∷ []) 0 refl
      ∙ ap (plant s (mark kinds.IF end)) l.added)
      (makes_row s kinds.IF (word x ∷ twig h ∷ twig b ∷ l.more) l.part_now refl (if_at (top h.pairs (label s h.row) h.kids) (stands b.pairs (label s b.row) b.kids (trees_in s l.more)) l.part_now 0 [] h.is (at_whole b.is.0, l.are), tt))))

  pub a_while : {g : Ask} {o₁ o₂ : Scope} {n u : ℕ} {p : Parts} → Own n → ((v : ℕ) (x : Parts) → C n v x → Leaves s (At 0 false true v) x) → A (token g ('while' ∷ []) ∷ phrase o₁ n ∷ phrase o₂ BLOCK ∷ note kinds.WHILE ∷ []) u p → Leaves s (Four u) p
  unfolding row_of
  a_while {n = n} on f (all_token {x = x} {v = v} m k e (all_phrase {a = a} {p = p} c (all_phrase {a = a₂} {p = p₂} b (all_note all_end)))) =
      let h = f v p c in
      subst (λ (w : ℕ). Leaves s (Four w) (leaf x (node n a p (node BLOCK a₂ p₂ (mark kinds.WHILE end))))) (sym (word_is x.word 'while' m) ∙ e) (leaves_made s (makes_from s
      (on_word s x (node n a p (node BLOCK a₂ p₂ (mark kinds.WHILE end))) [] 0 (plain_word x ('while' ∷ []) tt m)
      ∙ on_own s n a (node BLOCK a₂ p₂ (mark kinds.WHILE end)) (word x ∷ []) 0 on h
      ∙ on_own s BLOCK a₂ (mark kinds.WHILE end) (word x ∷ twig h ∷ []) 0 (refl, refl) b)
      (makes_row s kinds.WHILE (word x ∷ twig h ∷ twig b ∷ []) 0 refl (while_at (top h.pairs (label s h.row) h.kids) (stands b.pairs (label s b.row) b.kids no_more) 0 0 [] h.is (at_whole b.is.0, tt), tt))))

  pub a_for : {g g' : Ask} {o₁ o₂ o₃ : Scope} {w : List ℕ} {n u : ℕ} {p : Parts} → T (no_text w) → Own n → ((v : ℕ) (x : Parts) → C n v x → Leaves s (At 0 false true v) x) → A (token g ('for' ∷ []) ∷ phrase o₁ NAME ∷ token g' w ∷ phrase o₂ n ∷ phrase o₃ BLOCK ∷ note kinds.FOR ∷ []) u p → Leaves s (Four u) p
  unfolding row_of
  a_for {w = w} {n = n} t on f (all_token {x = x} m k e (all_phrase {a = a₁} {p = p₁} d (all_token {x = y} {v = v} m' k' e' (all_phrase {a = a} {p = p} c (all_phrase {a = a₂} {p = p₂} b (all_note all_end)))))) =
      let h = f v p c in
      subst (λ (i : ℕ). Leaves s (Four i) (leaf x (node NAME a₁ p₁ (leaf y (node n a p (node BLOCK a₂ p₂ (mark kinds.FOR end))))))) (sym (word_is x.word 'for' m) ∙ e) (leaves_made s (makes_from s
      (on_word s x (node NAME a₁ p₁ (leaf y (node n a p (node BLOCK a₂ p₂ (mark kinds.FOR end))))) [] 0 (plain_word x ('for' ∷ []) tt m)
      ∙ on_own s NAME a₁ (leaf y (node n a p (node BLOCK a₂ p₂ (mark kinds.FOR end)))) (word x ∷ []) 0 (refl, refl) d
      ∙ on_word s y (node n a p (node BLOCK a₂ p₂ (mark kinds.FOR end))) (word x ∷ twig d ∷ []) 0 (plain_word y w t m')
      ∙ on_own s n a (node BLOCK a₂ p₂ (mark kinds.FOR end)) (word x ∷ twig d ∷ word y ∷ []) 0 on h
      ∙ on_own s BLOCK a₂ (mark kinds.FOR end) (word x ∷ twig d ∷ word y ∷ twig h ∷ []) 0 (refl, refl) b)
      (makes_row s kinds.FOR (word x ∷ twig d ∷ word y ∷ twig h ∷ twig b ∷ []) 0 refl (for_at (top d.pairs (label s d.row) d.kids) (top h.pairs (label s h.row) h.kids) (stands b.pairs (label s b.row) b.kids no_more) 0 0 [] (at_whole d.is) h.is (at_whole b.is.0, tt), tt))))

  pub a_match : {g g' g'' : Ask} {o₁ o₂ : Scope} {w w' : List ℕ} {n u : ℕ} {p : Parts} → T (no_text w) → T (no_text w') → Own n → ((v : ℕ) (x : Parts) → C n v x → Leaves s (At 0 false true v) x) → A (token g ('match' ∷ []) ∷ phrase o₁ n ∷ token g' w ∷ phrase o₂ ARMS ∷ token g'' w' ∷ note kinds.MATCH ∷ []) u p → Leaves s (Four u) p
  unfolding row_of
  a_match {w = w} {w' = w'} {n = n} t t' on f (all_token {x = x} {v = v} m k e (all_phrase {a = a} {p = p} c (all_token {x = y} m₁ k₁ e₁ (all_phrase {a = a₂} {p = p₂} b (all_token {x = z} m₂ k₂ e₂ (all_note all_end)))))) =
      let h = f v p c in
      let ts = branches false (plant s p₂ bud).twigs ++ (word z ∷ []) in
      subst (λ (i : ℕ). Leaves s (Four i) (leaf x (node n a p (leaf y (node ARMS a₂ p₂ (leaf z (mark kinds.MATCH end))))))) (sym (word_is x.word 'match' m) ∙ e) (leaves_made s (makes_from s
      (on_word s x (node n a p (leaf y (node ARMS a₂ p₂ (leaf z (mark kinds.MATCH end))))) [] 0 (plain_word x ('match' ∷ []) tt m)
      ∙ on_own s n a (leaf y (node ARMS a₂ p₂ (leaf z (mark kinds.MATCH end)))) (word x ∷ []) 0 on h
      ∙ on_word s y (node ARMS a₂ p₂ (leaf z (mark kinds.MATCH end))) (word x ∷ twig h ∷ []) 0 (plain_word y w t m₁)
      ∙ plant_phrase s ARMS a₂ p₂ (leaf z (mark kinds.MATCH end)) (bough (word x ∷ twig h ∷ word y ∷ []) 0) refl
      ∙ on_word s z (mark kinds.MATCH end) (word x ∷ twig h ∷ word y ∷ branches false (plant s p₂ bud).twigs) 0 (plain_word z w' t' m₂))
      (makes_row s kinds.MATCH (word x ∷ twig h ∷ word y ∷ ts) 0 refl (match_at (top h.pairs (label s h.row) h.kids) (trees_in s ts) 0 0 [] h.is (each_append s Armed (branches false (plant s p₂ bud).twigs) (word z ∷ []) (branches_each s Armed (plant s p₂ bud).twigs b) tt), tt))))

  -- ---- arms

  pub no_arms : {u : ℕ} {p : Parts} → A [] u p → Each Armed (trees_in s (plant s p bud).twigs)
  no_arms h = adds_each s Armed (adds_none h)

  pub some_arms : {o : Scope} {u : ℕ} {p : Parts} → A (phrase o ARM ∷ []) u p → Each Armed (trees_in s (plant s p bud).twigs)
  some_arms h = adds_each s Armed (adds_one (refl, refl) (λ v q c. c) h)

  pub no_guards : {u : ℕ} {p : Parts} → A [] u p → (xs : List Twig) (part : ℕ) → Guarded s xs part p
  no_guards all_end xs part = no_guard (on_end s (bough xs part))

  pub some_guard : {g : Ask} {o : Scope} {w : List ℕ} {n u : ℕ} {p : Parts} → T (no_text w) → Own n → ((v : ℕ) (x : Parts) → C n v x → Leaves s (Fits whole) x) → A (token g w ∷ phrase o n ∷ note 0 ∷ []) u p → (xs : List Twig) (part : ℕ) → Guarded s xs part p
  some_guard {w = w} {n = n} t on f (all_token {x = x} {v = v} m k e (all_phrase {a = a} {p = p} c (all_note all_end))) xs part =
      let h = f v p c in
      guards x h.row h.pairs h.kids
      (on_word s x (node n a p (mark 0 end)) xs part (plain_word x w t m)
      ∙ on_own s n a (mark 0 end) (xs ++ (word x ∷ [])) part on h
      ∙ plant_part s end (bough ((xs ++ (word x ∷ [])) ++ (twig h ∷ [])) part)
      ∙ on_end s (bough ((xs ++ (word x ∷ [])) ++ (twig h ∷ [])) 1)
      ∙ ap (λ (ys : List Twig). bough ys 1) (append_assoc xs (word x ∷ []) (twig h ∷ [])))
      h.is

  pub an_arm : {g : Ask} {o₁ o₂ o₃ : Scope} {w : List ℕ} {u : ℕ} {p : Parts} → T (no_text w) → A (phrase o₁ PATTERN ∷ phrase o₂ GUARD ∷ token g w ∷ phrase o₃ ARM_BODY ∷ []) u p → Each Armed (trees_in s (plant s p bud).twigs)
  an_arm {w = w} t (all_phrase {a = a₁} {p = p₁} c (all_phrase {a = a₂} {p = p₂} d (all_token {x = x} m k e (all_phrase {a = a₃} {p = p₃} b all_end)))) = go (d (twig c ∷ []) 0)
    where
      body : Parts
      body = leaf x (node ARM_BODY a₃ p₃ end)

      on : plant s (node PATTERN a₁ p₁ (node GUARD a₂ p₂ body)) bud ≡ plant s body (plant s p₂ (bough (twig c ∷ []) 0))
      on = on_own s PATTERN a₁ (node GUARD a₂ p₂ body) [] 0 (refl, refl) c ∙ on_rest s GUARD a₂ p₂ body (twig c ∷ []) 0 refl

      behind : (xs : List Twig) (part : ℕ) → plant s body (bough xs part) ≡ plant s p₃ (bough (xs ++ (word x ∷ [])) part)
      behind xs part = on_word s x (node ARM_BODY a₃ p₃ end) xs part (plain_word x w t m) ∙ on_last s ARM_BODY a₃ p₃ (xs ++ (word x ∷ [])) part refl

      go : Guarded s (twig c ∷ []) 0 p₂ → Each Armed (trees_in s (plant s (node PATTERN a₁ p₁ (node GUARD a₂ p₂ body)) bud).twigs)
      go (no_guard h) = subst (λ (z : Bough). Each Armed (trees_in s z.twigs)) (sym (on ∙ ap (plant s body) h ∙ behind (twig c ∷ []) 0)) (b (twig c ∷ word x ∷ []) 0 (bare x c.row c.pairs c.kids (at_whole c.is)))
      go (guards y row pairs kids h i) =
          subst (λ (z : Bough). Each Armed (trees_in s z.twigs)) (sym (on ∙ ap (plant s body) h ∙ behind (twig c ∷ word y ∷ branch row pairs kids ∷ []) 1)) (b (twig c ∷ word y ∷ branch row pairs kids ∷ word x ∷ []) 1 (guarded y x c.row row c.pairs pairs c.kids kids (at_whole c.is) i))

  -- the body, its row, and the other arms
  with_body : {p q : Parts} (n : ℕ) (a : List Symbol) → Own n → Leaves s Body p → Adds s Armed q → (xs : List Twig) (part : ℕ) → Ready s xs part → Each Armed (trees_in s (plant s (node n a p (mark kinds.ARM q)) (bough xs part)).twigs)
  unfolding row_of
  with_body {p} {q} n a is-own h k xs part ready = go ready
    where
      behind : (row : Row) (m : Marked) (xs : List Twig) (part : ℕ) → plant s (node n a p (mark kinds.ARM q)) (bough xs part) ≡ plant s q (bough (branch row 0 m ∷ []) 0) → Armed (top 0 (label s row) m) → Each Armed (trees_in s (plant s (node n a p (mark kinds.ARM q)) (bough xs part)).twigs)
      behind row m xs part e r = let l = k (branch row 0 m ∷ []) 0 in subst (λ (z : Bough). Each Armed (trees_in s z.twigs)) (sym (e ∙ l.added)) (r, l.are)

      on : (xs : List Twig) (part : ℕ) → plant s (node n a p (mark kinds.ARM q)) (bough xs part) ≡ plant s q (bough (branch (row_of kinds.ARM (items_of (xs ++ (twig h ∷ []))) part) 0 (trees_in s (xs ++ (twig h ∷ []))) ∷ []) 0)
      on xs part = on_own s n a (mark kinds.ARM q) xs part is-own h ∙ plant_row s kinds.ARM q (bough (xs ++ (twig h ∷ [])) part) refl

      go : {xs : List Twig} {part : ℕ} → Ready s xs part → Each Armed (trees_in s (plant s (node n a p (mark kinds.ARM q)) (bough xs part)).twigs)
      go (bare x row pairs kids f) = behind _ _ (branch row pairs kids ∷ word x ∷ []) 0 (on (branch row pairs kids ∷ word x ∷ []) 0) (arm_at (top pairs (label s row) kids) (top h.pairs (label s h.row) h.kids) 0 [] f h.is)
      go (guarded x y row row₂ pairs pairs₂ kids kids₂ f i) = behind _ _ (branch row pairs kids ∷ word x ∷ branch row₂ pairs₂ kids₂ ∷ word y ∷ []) 1 (on (branch row pairs kids ∷ word x ∷ branch row₂ pairs₂ kids₂ ∷ word y ∷ []) 1) (guarded_at (top pairs (label s row) kids) (top pairs₂ (label s row₂) kids₂) (top h.pairs (label s h.row) h.kids) 0 [] f i h.is)

  pub block_body : {o₁ o₂ o₃ : Scope} {u : ℕ} {p : Parts} → A (phrase o₁ BLOCK ∷ note kinds.ARM ∷ phrase o₂ ARM_COMMA ∷ phrase o₃ ARMS ∷ []) u p → (xs : List Twig) (part : ℕ) → Ready s xs part → Each Armed (trees_in s (plant s p (bough xs part)).twigs)
  block_body (all_phrase {a = a} c (all_note (all_phrase {a = b} d (all_phrase {a = a₂} e all_end)))) = with_body BLOCK a (refl, refl) (leaves_as s (λ x k. body_block x k.1 (at_whole k.0)) c) (adds_rest s ARM_COMMA b refl d (adds_own s ARMS a₂ (refl, refl) e (adds_end s)))

  pub expr_body : {o₁ o₂ : Scope} {n m u : ℕ} {p : Parts} → Own n → Rest m → ((v : ℕ) (x : Parts) → C n v x → Leaves s (At 0 true true v) x) → ((v : ℕ) (x : Parts) → C m v x → Adds s Armed x) → A (unless (open_brace ∷ []) ∷ phrase o₁ n ∷ note kinds.ARM ∷ phrase o₂ m ∷ []) u p → (xs : List Twig) (part : ℕ) → Ready s xs part → Each Armed (trees_in s (plant s p (bough xs part)).twigs)
  expr_body {n = n} {m = m} {u = u} on om f g (all_unless t (all_phrase {a = a} {p = p} c (all_note {u = v} (all_phrase {a = b} {p = q} d all_end)))) = with_body n a on (leaves_as s (λ x k. body_at t k) (f u p c)) (adds_rest s m b om (g v q d) (adds_end s))

  pub a_variant : {o o' : Scope} {u : ℕ} {p : Parts} → A (phrase o VARIANT ∷ phrase o' VARIANT_NAMES ∷ []) u p → Leaves s (At 7 false false 0) p
  a_variant (all_phrase {a = a} {p = p} c (all_phrase {a = b} {p = q} d all_end)) =
      let ys = branches false (plant s p bud).twigs in
      leaves_made s (makes_from s (plant_phrase s VARIANT a p (node VARIANT_NAMES b q end) bud refl ∙ on_last s VARIANT_NAMES b q ys 0 refl) (d ys 0 (wholes_pair s false (plant s p bud).twigs (c.kept [] 0 tt))))
