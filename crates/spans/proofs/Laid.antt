-- The spans of a reading's rows: what a phrase has lies in order between the place where the phrase began and the one where its reader
-- stands, so that a row over it holds all its children.
use mathlib.Core.Path.{◌≡◌, refl, sym, ap, ◌∙◌, subst}
use mathlib.Core.List.{List, [], ◌∷◌, ◌++◌, append-nil}
use mathlib.Core.Bool.{Bool, true, false, not, ◌&&◌, ◌||◌, cond}
use mathlib.Core.Logic.{inl, inr}
use Prim.Native.Nat.{ℕ, ◌≤◌}
use lib.Dec.{T, eqb}
use native.Mathlib.Omega.{arith}
use Rattle.grammar.specs.Grammar.{Ask, Symbol, token, phrase, same, Token, found, Stream, Parts, end, leaf, node, mark, Language, one_of}
use Rattle.grammar.specs.Limits.{Counts}
use Rattle.grammar.specs.Readings.{Reads, reads_end, reads_token, reads_phrase, reads_unless, reads_note, reads_side, reads_text, Is}
use Rattle.grammar.specs.Kinds.{DECLARATIONS}
use Rattle.grammar.specs.Table.{rest_kinds}
use Rattle.grammar.specs.Rows.{Row, Item, own, child, children_of, row_of, Draft, blank, take_note, is_text, text_row, add_token, write}
use Rattle.grammar.proofs.Bools.{and_l, and_r, or_cases, implied}
use Rattle.grammar.proofs.Pass.{passes_at}
use Rattle.grammar.proofs.Frame.{write_phrase, write_rest}
use Rattle.grammar.proofs.Subtrees.{rows_in, rows_in_append, rows_in_children}
use Rattle.spans.specs.Nested.{nothing, Nested, none, more}
use Rattle.spans.proofs.Order.{nested_append, Within, within_append, within_children, some_item, some_child, child_item, row_span, row_within, row_nested}
use Rattle.spans.proofs.Table.{leaves, goes_on, begins, filled, fills, all_filled}

item_more : (xs ys : List Item) → T (some_item xs) → T (some_item (xs ++ ys))
item_more [] ys t = absurd t
item_more (x ∷ xs) ys t = tt

child_more : (xs ys : List Item) → T (some_child xs) → T (some_child (xs ++ ys))
child_more [] ys t = absurd t
child_more (own x ∷ xs) ys t = child_more xs ys t
child_more (child r ∷ xs) ys t = tt

child_behind : (xs ys : List Item) → T (some_child ys) → T (some_child (xs ++ ys))
child_behind [] ys t = t
child_behind (own x ∷ xs) ys t = child_behind xs ys t
child_behind (child r ∷ xs) ys t = tt

child_kept : (xs : List Item) → T (some_child xs) → T (some_child (children_of xs))
child_kept [] t = t
child_kept (own x ∷ xs) t = child_kept xs t
child_kept (child r ∷ xs) t = tt

item_last : (xs : List Item) (x : Item) → T (some_item (xs ++ (x ∷ [])))
item_last [] x = tt
item_last (y ∷ xs) x = tt

-- what a phrase has never goes: it gets more, or a row takes its place
module _ (has : List Item → Bool) (longer : (xs ys : List Item) → T (has xs) → T (has (xs ++ ys))) (one-row : (r : Row) → T (has (child r ∷ []))) where
  abbrev Has : Draft → Type 0
  Has a = T (has a.items)

  token_keeps : (x : Token) (a : Draft) → Has a → Has (add_token x a)
  unfolding add_token
  token_keeps x a h = go (is_text x) (eqb x.value 0)
    where
      go : (b d : Bool) → Has (cond {A = Draft} b (cond {A = Draft} d (record { rows = a.rows; items = a.items ++ (own x ∷ []); part = a.part }) (record { rows = a.rows ++ (text_row x ∷ []); items = a.items ++ (child (text_row x) ∷ []); part = a.part })) (record { rows = a.rows; items = a.items ++ (own x ∷ []); part = a.part }))
      go true true = longer a.items (own x ∷ []) h
      go true false = longer a.items (child (text_row x) ∷ []) h
      go false d = longer a.items (own x ∷ []) h

  note_keeps : (k : ℕ) (a : Draft) → Has a → Has (take_note k a)
  unfolding take_note
  note_keeps k a h = go (eqb k 0)
    where
      go : (b : Bool) → Has (cond {A = Draft} b (record { rows = a.rows; items = a.items; part = 1 }) (record { rows = a.rows ++ (row_of k a.items a.part ∷ []); items = child (row_of k a.items a.part) ∷ []; part = 0 }))
      go true = h
      go false = one-row (row_of k a.items a.part)

  pub keeps : (p : Parts) (a : Draft) → Has a → Has (write p a)
  unfolding write
  keeps end a h = h
  keeps (leaf x p) a h = keeps p (add_token x a) (token_keeps x a h)
  keeps (mark k p) a h = keeps p (take_note k a) (note_keeps k a h)
  keeps (node n s p q) a h = go (keeps q (write p a) (keeps p a h)) (keeps q (record { rows = a.rows ++ (write p blank).rows; items = a.items ++ children_of (write p blank).items; part = a.part }) (longer a.items (children_of (write p blank).items) h)) (one_of n rest_kinds) refl
    where
      go : Has (write q (write p a)) → Has (write q (record { rows = a.rows ++ (write p blank).rows; items = a.items ++ children_of (write p blank).items; part = a.part })) → (b : Bool) → one_of n rest_kinds ≡ b → Has (write (node n s p q) a)
      go x y true e = subst Has (sym (write_rest n s p q a e)) x
      go x y false e = subst Has (sym (write_phrase n s p q a e)) y

keeps_item : (p : Parts) (a : Draft) → T (some_item a.items) → T (some_item (write p a).items)
keeps_item = keeps some_item item_more (λ r. tt)

keeps_child : (p : Parts) (a : Draft) → T (some_child a.items) → T (some_child (write p a).items)
keeps_child = keeps some_child child_more (λ r. tt)

-- A draft between two places: its rows are nested, what the phrase has lies in order, and it has an item (b), or a row (c).
pub record Laid (lo hi : ℕ) (b c : Bool) (a : Draft) : Type 0 where
  pub nested : Nested a.rows (rows_in a.items)
  pub order : Within lo hi a.items
  pub item : T b → T (some_item a.items)
  pub row : T c → T (some_child a.items)

-- A token between two places of a source of `len` bytes.
pub record Lies (len i j : ℕ) (x : Token) : Type 0 where
  pub start : i ≤ x.start
  pub span : x.start ≤ x.end
  pub end : x.end ≤ j
  pub last : j ≤ len

laid_token : (len lo i j : ℕ) (b c : Bool) (x : Token) (a : Draft) → Lies len i j x → Laid lo i b c a → Laid lo j true c (add_token x a)
unfolding add_token
laid_token len lo i j b c x a l h = go (is_text x) (eqb x.value 0)
  where
    row_text : Row
    row_text = text_row x

    word : Laid lo j true c (record { rows = a.rows; items = a.items ++ (own x ∷ []); part = a.part })
    word = record {
      nested = subst (Nested a.rows) (sym (rows_in_append a.items (own x ∷ []) ∙ append-nil (rows_in a.items))) h.nested;
      order = within_append lo i j a.items (own x ∷ []) h.order (l.start, l.span, l.end);
      item = λ t. item_last a.items (own x);
      row = λ t. child_more a.items (own x ∷ []) (h.row t);
    }

    piece : Laid lo j true c (record { rows = a.rows ++ (text_row x ∷ []); items = a.items ++ (child (text_row x) ∷ []); part = a.part })
    piece = record {
      nested = more (text_row x) h.nested none refl refl nothing refl (rows_in_append a.items (child (text_row x) ∷ []));
      order = within_append lo i j a.items (child (text_row x) ∷ []) h.order (l.start, l.span, l.end);
      item = λ t. item_last a.items (child (text_row x));
      row = λ t. child_more a.items (child (text_row x) ∷ []) (h.row t);
    }

    go : (d e : Bool) → Laid lo j true c (cond {A = Draft} d (cond {A = Draft} e (record { rows = a.rows; items = a.items ++ (own x ∷ []); part = a.part }) (record { rows = a.rows ++ (text_row x ∷ []); items = a.items ++ (child (text_row x) ∷ []); part = a.part })) (record { rows = a.rows; items = a.items ++ (own x ∷ []); part = a.part }))
    go true true = word
    go true false = piece
    go false e = word

-- the part is there
laid_part : (lo i : ℕ) (b c : Bool) (k : ℕ) (a : Draft) → eqb k 0 ≡ true → Laid lo i b c a → Laid lo i b c (take_note k a)
unfolding take_note
laid_part lo i b c k a e h = go (eqb k 0) e
  where
    go : (d : Bool) → d ≡ true → Laid lo i b c (cond {A = Draft} d (record { rows = a.rows; items = a.items; part = 1 }) (record { rows = a.rows ++ (row_of k a.items a.part ∷ []); items = child (row_of k a.items a.part) ∷ []; part = 0 }))
    go true f = record { nested = h.nested; order = h.order; item = h.item; row = h.row }
    go false f = let z : ◌≡◌ {A = ℕ} 0 1 = cc in absurd (omega arith)

-- a row over what the phrase has
laid_row : (lo i : ℕ) (b c : Bool) (k : ℕ) (a : Draft) → eqb k 0 ≡ false → T b → Laid lo i b c a → Laid lo i true true (take_note k a)
unfolding take_note
laid_row lo i b c k a e t h = go (eqb k 0) e
  where
    go : (d : Bool) → d ≡ false → Laid lo i true true (cond {A = Draft} d (record { rows = a.rows; items = a.items; part = 1 }) (record { rows = a.rows ++ (row_of k a.items a.part ∷ []); items = child (row_of k a.items a.part) ∷ []; part = 0 }))
    go true f = let z : ◌≡◌ {A = ℕ} 0 1 = cc in absurd (omega arith)
    go false f =
        let s = row_span k a.items a.part in
        record {
          nested = row_nested k a.items a.part lo i h.nested h.order;
          order = row_within lo i (row_of k a.items a.part) a.items (h.item t) h.order s.0 s.1;
          item = λ u. tt;
          row = λ u. tt;
        }

-- a phrase in a phrase
laid_phrase : (lo i m : ℕ) (b c g : Bool) (a x : Draft) → Laid lo i b c a → Laid i m false g x → Laid lo m (b || g) (c || g) (record { rows = a.rows ++ x.rows; items = a.items ++ children_of x.items; part = a.part })
laid_phrase lo i m b c g a x h k = record {
  nested = subst (Nested (a.rows ++ x.rows)) (sym (rows_in_append a.items (children_of x.items) ∙ ap (λ (rs : List Row). rows_in a.items ++ rs) (rows_in_children x.items))) (nested_append h.nested k.nested);
  order = within_append lo i m a.items (children_of x.items) h.order (within_children i m x.items k.order);
  item = λ t. elim (or_cases b g t) [ inl u ↦ item_more a.items (children_of x.items) (h.item u) | inr u ↦ child_item (a.items ++ children_of x.items) (child_behind a.items (children_of x.items) (child_kept x.items (k.row u))) ];
  row = λ t. elim (or_cases c g t) [ inl u ↦ child_more a.items (children_of x.items) (h.row u) | inr u ↦ child_behind a.items (children_of x.items) (child_kept x.items (k.row u)) ];
}

-- the rest of a phrase
laid_rest : (lo i m : ℕ) (b c g : Bool) (p : Parts) (a : Draft) → Laid lo i b c a → Laid lo m false g (write p a) → Laid lo m (b || g) (c || g) (write p a)
laid_rest lo i m b c g p a h k = record {
  nested = k.nested;
  order = k.order;
  item = λ t. elim (or_cases b g t) [ inl u ↦ keeps_item p a (h.item u) | inr u ↦ child_item (write p a).items (k.row u) ];
  row = λ t. elim (or_cases c g t) [ inl u ↦ keeps_child p a (h.row u) | inr u ↦ k.row u ];
}

abbrev joined : Draft → Draft → Draft
joined a x = record { rows = a.rows ++ x.rows; items = a.items ++ children_of x.items; part = a.part }

-- what passes with a phrase in front and without it
abbrev either : Bool → Bool → Bool → ℕ → List Symbol → Bool
either need b c n s = (begins b n && filled need (b || leaves n) (c || leaves n) s) && filled need b c s

forked : (k need b c : Bool) (n : ℕ) (s : List Symbol) → T (either need b c n s) → T (filled need b c (cond k (phrase same n ∷ s) s))
forked true need b c n s t = and_l (begins b n && filled need (b || leaves n) (c || leaves n) s) (filled need b c s) t
forked false need b c n s t = and_r (begins b n && filled need (b || leaves n) (c || leaves n) s) (filled need b c s) t

module _ (l : Language) (fine : T (all_filled l.rules)) (S : Stream) (len : ℕ) (at : S.Place → ℕ) (tokens_lie : (x : Token) (i j : S.Place) → S.look i ≡ found x j → Lies len (at i) (at j) x) (pieces_lie : (x : Token) (i j : S.Place) → S.piece i ≡ found x j → Lies len (at i) (at j) x) where
  -- what the parts of a phrase give a draft that is laid where they begin
  abbrev Gives : List Symbol → S.Place → S.Place → Parts → Type 0
  Gives s i r p = (need b c : Bool) → T (filled need b c s) → (lo : ℕ) (a : Draft) → at i ≤ len → Laid lo (at i) b c a → (at r ≤ len) × Laid lo (at r) false need (write p a)

  one_note : (k : ℕ) (s : List Symbol) (i r : S.Place) (p : Parts) → Gives s i r p → (need b c : Bool) → T (cond (eqb k 0) (filled need b c s) (b && filled need true true s)) → (lo : ℕ) (a : Draft) → at i ≤ len → Laid lo (at i) b c a → (at r ≤ len) × Laid lo (at r) false need (write p (take_note k a))
  one_note k s i r p rest need b c t lo a v h = go (eqb k 0) refl t
    where
      go : (d : Bool) → eqb k 0 ≡ d → T (cond d (filled need b c s) (b && filled need true true s)) → (at r ≤ len) × Laid lo (at r) false need (write p (take_note k a))
      go true e f = rest need b c f lo (take_note k a) v (laid_part lo (at i) b c k a e h)
      go false e f = rest need true true (and_r b (filled need true true s) f) lo (take_note k a) v (laid_row lo (at i) b c k a e (and_l b (filled need true true s) f) h)

  one_phrase : (n : ℕ) (s a : List Symbol) (i m r : S.Place) (p q : Parts) → T (fills n a) → Gives a i m p → Gives s m r q
      → (need b c : Bool) → T (begins b n) → T (filled need (b || leaves n) (c || leaves n) s) → (lo : ℕ) (x : Draft) → at i ≤ len → Laid lo (at i) b c x → (at r ≤ len) × Laid lo (at r) false need (write (node n a p q) x)
  one_phrase n s a i m r p q f inner rest need b c g t lo x v h = go (one_of n rest_kinds) refl
    where
      go : (k : Bool) → one_of n rest_kinds ≡ k → (at r ≤ len) × Laid lo (at r) false need (write (node n a p q) x)
      go true e =
          let u = inner (leaves n) (goes_on n) false f lo x v (record { nested = h.nested; order = h.order; item = λ w. h.item (implied (goes_on n) b g w); row = λ w. absurd w }) in
          let y = rest need (b || leaves n) (c || leaves n) t lo (write p x) u.0 (laid_rest lo (at i) (at m) b c (leaves n) p x h u.1) in
          subst (λ (z : Draft). (at r ≤ len) × Laid lo (at r) false need z) (sym (write_rest n a p q x e)) y
      go false e =
          let none_yet : T (goes_on n) → T false = λ w. subst (λ (k : Bool). T k) e (and_l (one_of n rest_kinds) (not (eqb n DECLARATIONS)) w) in
          let u = inner (leaves n) (goes_on n) false f (at i) blank v (record { nested = none; order = omega arith; item = none_yet; row = λ w. w }) in
          let y = rest need (b || leaves n) (c || leaves n) t lo (joined x (write p blank)) u.0 (laid_phrase lo (at i) (at m) b c (leaves n) x (write p blank) h u.1) in
          subst (λ (z : Draft). (at r ≤ len) × Laid lo (at r) false need z) (sym (write_phrase n a p q x e)) y

  pub laid : {G : Ask → Counts → Token → Bool} {W : Bool → ℕ → Bool} {d : Counts} {s : List Symbol} {i r : S.Place} {p : Parts} → Reads S l G W (Is S l) d s i r p → Gives s i r p
  unfolding write
  laid reads_end need b c t lo a v h = (v, record { nested = h.nested; order = h.order; item = λ w. absurd w; row = λ w. h.row (implied need c t w) })
  laid (reads_token {x = x} {i = i} {j = j} e m k u) need b c t lo a v h =
      let z = tokens_lie x i j e in
      laid u need true c t lo (add_token x a) z.last (laid_token len lo (at i) (at j) b c x a z h)
  laid (reads_phrase {n = n} {a = a} {s = s} {i = i} {m = m} {r = r} {p = p} {q = q} k u w) need b c t lo x v h =
      one_phrase n s a i m r p q (passes_at fills l.rules n fine k) (laid u) (laid w) need b c (and_l (begins b n) (filled need (b || leaves n) (c || leaves n) s) t) (and_r (begins b n) (filled need (b || leaves n) (c || leaves n) s) t) lo x v h
  laid (reads_unless g u) need b c t lo a v h = laid u need b c t lo a v h
  laid (reads_note {k = k} {s = s} {i = i} {r = r} {p = p} u) need b c t lo a v h = one_note k s i r p (laid u) need b c t lo a v h
  laid (reads_side {n = n} {n₁ = n₁} {a = a} {s = s} {i = i} {m = m} {r = r} {p = p} {q = q} k u g w) need b c t lo x v h =
      one_phrase n (cond (l.is_path p) (phrase same n₁ ∷ s) s) a i m r p q (passes_at fills l.rules n fine k) (laid u) (laid w) need b c (and_l (begins b n) (either need (b || leaves n) (c || leaves n) n₁ s) t) (forked (l.is_path p) need (b || leaves n) (c || leaves n) n₁ s (and_r (begins b n) (either need (b || leaves n) (c || leaves n) n₁ s) t)) lo x v h
  laid (reads_text {n = n} {s = s} {x = x} {i = i} {j = j} e k u) need b c t lo a v h =
      let z = pieces_lie x i j e in
      laid u need true c (forked (eqb x.word l.hole) need true c n s t) lo (add_token x a) z.last (laid_token len lo (at i) (at j) b c x a z h)
