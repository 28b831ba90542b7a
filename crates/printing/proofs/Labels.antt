-- A reading's rows, read as trees, are the trees that it leaves: the text of what is copied is that of its tokens.
use mathlib.Core.Path.{◌∙◌, ◌≡◌, ap, refl, subst, sym}
use mathlib.Core.List.{List, [], ◌∷◌, ◌++◌, append_assoc, append-nil}
use mathlib.Core.Bool.{Bool, true, false, not, ◌||◌, ◌&&◌, cond}
use Prim.Native.Nat.{ℕ, zero, suc, ◌+◌}
use native.Mathlib.Omega.{arith}
use lib.Dec.{T, eqb}
use lib.Seq.{slice}
use Rattle.rows.specs.Kinds as kinds
use Rattle.grammar.specs.Words.{close_brace, f_quote, literals, name, names, open_brace, path_items, underscore}
use Rattle.grammar.specs.Grammar.{Ask, Parts, Stream, Symbol, Token, end, leaf, mark, node, note, one_of, phrase, same, text, token}
use Rattle.grammar.specs.Kinds.{AFTER_EXPR, AFTER_FOUR, AFTER_PATH, AND, AND_MORE, ARM, ARM_BODY, ARM_COMMA, ARM_NEXT, ARMS, ASSIGNED, BINARY, BLOCK, BRACES, BRACES_INSIDE, COMPARE, COMPARE_MORE, DECLARATION, DECLARATIONS, ELSE, ELSE_IF, ELSE_PART, EXPR, EXPRS, EXPRS_MORE, FIELD, FIELDS, FIELDS_MORE, FOUR, GUARD, HOLE, IMPORT, IMPORTED, IMPORTPATH, IMPORTPATH_DOT, IMPORTPATH_REST, IMPORTPATHS, IMPORTPATHS_MORE, LET, LET_TYPE, NAMES, NAMES_MORE, OPERAND, OR_MORE, PARAMS, PARENS, PATH, PATH_REST, PATTERN, POSTFIX, PRODUCT, PRODUCT_MORE, RESULT, RETURNED, STATEMENT, STATEMENTS, SUM, SUM_MORE, TREE, TYPE, TYPE_BASE, TYPE_BRACKETS, TYPE_MARKS, TYPED_NAME, TYPED_NAMES, TYPED_NAMES_MORE, TYPES, TYPES_MORE, VARIANT_NAMES, no_records, records}
use Rattle.grammar.specs.Limits.{Counts}
use Rattle.grammar.specs.Table.{a, one, word, opens, closes, row, rest_kinds, literal_row}
use Rattle.grammar.specs.Rows.{Row, Item, own, child, end_of, Draft, count, children_of, sizes, sign_of, detail_for, literal_of_lem, row_of, add_row, take_note, is_text, text_row, add_token, write, blank, tree_row, rows_from, rows}
use Rattle.grammar.specs.Rows as item
use Rattle.grammar.specs.Readings.{ReadingBy}
use Rattle.grammar.specs.Language.{roto, start}
use Rattle.grammar.proofs.Bools.{and_l, and_r}
use Rattle.grammar.proofs.Frame.{no_text, plain_word, with_own, write_phrase, write_rest, write_token}
use Rattle.grammar.proofs.Open.{with_phrase}
use Rattle.canon.specs.Trees.{Label, Forest, none, tree, copied, text_of, label, adopt, grown}
use Rattle.canon.specs.Trees as trees
use Rattle.printing.specs.Bare.{bare_row}
use Rattle.printing.specs.Groves.{Head, Grove, nil, top, beside, Lead, State, fresh, with_word, with_text, add, text_head, head_for, noted, leave, grow, starts, ends, bytes_of, label_of, labelled}
use Rattle.printing.specs.Groves as groves
use Rattle.printing.proofs.Lists.{l, grow_phrase, grow_rest, grow_leaf}
use Rattle.printing.proofs.Grown.{Sim, blank_sim, note_sim, phrase_sim, row_for, row_sim, token_sim, tree_head, wide, width}
use Rattle.printing.proofs.Back.{All, Known, Once, Rules, Step, all_end, all_note, all_phrase, all_side, all_text, all_token, all_unless, by_alternatives, rule_at}
use Rattle.printing.specs.Spelled.{leaves}
use Rattle.printing.proofs.Notes.{plain_note, plain_notes, plain_if, not_copied}
use Rattle.printing.proofs.Texts.{grown_read}
use Rattle.printing.proofs.ReadsBack.{grove_of}

-- a row's label and how many children it has
pub record Tag : Type 0 where
  pub label : Label
  pub children : ℕ

-- trees that are grown from tags
planted : List Tag → Forest → Forest
planted [] ts = ts
planted (t ∷ us) ts = planted us (adopt t.label t.children none ts)

abbrev onto : Forest → Forest → Forest
onto none ts = ts
onto (tree x k t) ts = onto t (tree x k ts)

abbrev join : Forest → Forest → Forest
join none ts = ts
join (tree x k t) ts = tree x k (join t ts)

join_none : (f : Forest) → join f none ≡ f
join_none none = refl
join_none (tree x k t) = ap (tree x k) (join_none t)

ends_last : (xs : List Item) (i : Item) → item.ends (xs ++ (i ∷ [])) ≡ end_of i
ends_last [] i = refl
ends_last (x ∷ []) i = refl
ends_last (x ∷ y ∷ xs) i = ends_last (y ∷ xs) i

pub last_end : (xs : List Token) (x : Token) → ends (xs ++ (x ∷ [])) ≡ x.end
last_end [] x = refl
last_end (y ∷ []) x = refl
last_end (y ∷ z ∷ xs) x = last_end (z ∷ xs) x

-- a row's span is that of the items
literal_start : (xs : List Item) (c z : ℕ) → (literal_of_lem xs c z).start ≡ item.starts xs
literal_start [] c z = refl
literal_start (own x ∷ xs) c z = refl
literal_start (child r ∷ xs) c z = refl

literal_end : (xs : List Item) (c z : ℕ) → (literal_of_lem xs c z).end ≡ item.ends xs
literal_end [] c z = refl
literal_end (own x ∷ xs) c z = refl
literal_end (child r ∷ xs) c z = refl

row_start : (k : ℕ) (xs : List Item) (v : ℕ) → (row_of k xs v).start ≡ item.starts xs
unfolding row_of
row_start k xs v = go (eqb k literal_row)
  where
    go : (b : Bool) → (cond {A = Row} b (literal_of_lem xs (count xs) (suc (sizes xs))) (record { kind = k; start = item.starts xs; end = item.ends xs; children = count xs; value = v; detail = detail_for k (sign_of xs); size = suc (sizes xs) })).start ≡ item.starts xs
    go true = literal_start xs (count xs) (suc (sizes xs))
    go false = refl

row_end : (k : ℕ) (xs : List Item) (v : ℕ) → (row_of k xs v).end ≡ item.ends xs
unfolding row_of
row_end k xs v = go (eqb k literal_row)
  where
    go : (b : Bool) → (cond {A = Row} b (literal_of_lem xs (count xs) (suc (sizes xs))) (record { kind = k; start = item.starts xs; end = item.ends xs; children = count xs; value = v; detail = detail_for k (sign_of xs); size = suc (sizes xs) })).end ≡ item.ends xs
    go true = literal_end xs (count xs) (suc (sizes xs))
    go false = refl

module _ (s : List ℕ) where
  abbrev tags : List Row → List Tag
  tags [] = []
  tags (r ∷ rs) = record { label = label s r; children = r.children } ∷ tags rs

  abbrev tagged : Grove → List Tag
  tagged nil = []
  tagged (top h k t) = tagged k ++ (record { label = label_of s h; children = width k } ∷ tagged t)

  grown_tags : (rs : List Row) (ts : Forest) → grown s rs ts ≡ planted (tags rs) ts
  unfolding grown planted
  grown_tags [] ts = refl
  grown_tags (r ∷ rs) ts = grown_tags rs (adopt (label s r) r.children none ts)

  adopted : (x : Label) (g : Grove) (n : ℕ) (f ts : Forest) → adopt x (width g + n) f (onto (labelled s g) ts) ≡ adopt x n (join (labelled s g) f) ts
  adopted x nil n f ts = ap (λ (m : ℕ). adopt x m f ts) plus
    where
      plus : 0 + n ≡ n
      plus = omega arith
  adopted x (top h k t) n f ts = ap (λ (m : ℕ). adopt x m f (onto (labelled s t) (tree (label_of s h) (labelled s k) ts))) plus ∙ adopted x t (suc n) f (tree (label_of s h) (labelled s k) ts)
    where
      plus : suc (width t) + n ≡ width t + suc n
      plus = omega arith

  adopt_all : (x : Label) (g : Grove) (ts : Forest) → adopt x (width g) none (onto (labelled s g) ts) ≡ tree x (labelled s g) ts
  adopt_all x g ts = ap (λ (m : ℕ). adopt x m none (onto (labelled s g) ts)) plus ∙ adopted x g 0 none ts ∙ ap (λ (f : Forest). tree x f ts) (join_none (labelled s g))
    where
      plus : width g ≡ width g + 0
      plus = omega arith

  planted_tagged : (g : Grove) (us : List Tag) (ts : Forest) → planted (tagged g ++ us) ts ≡ planted us (onto (labelled s g) ts)
  unfolding planted
  planted_tagged nil us ts = refl
  planted_tagged (top h k t) us ts =
      ap (λ (w : List Tag). planted w ts) (append_assoc (tagged k) (record { label = label_of s h; children = width k } ∷ tagged t) us)
      ∙ planted_tagged k (record { label = label_of s h; children = width k } ∷ (tagged t ++ us)) ts
      ∙ ap (planted (tagged t ++ us)) (adopt_all (label_of s h) k ts)
      ∙ planted_tagged t us (tree (label_of s h) (labelled s k) ts)

  tags_two : (xs ys : List Row) → tags (xs ++ ys) ≡ tags xs ++ tags ys
  tags_two [] ys = refl
  tags_two (x ∷ xs) ys = ap (λ (w : List Tag). record { label = label s x; children = x.children } ∷ w) (tags_two xs ys)

  tagged_two : (g k : Grove) → tagged (beside g k) ≡ tagged g ++ tagged k
  tagged_two nil k = refl
  tagged_two (top h j t) k = ap (λ (w : List Tag). tagged j ++ (record { label = label_of s h; children = width j } ∷ w)) (tagged_two t k) ∙ sym (append_assoc (tagged j) (record { label = label_of s h; children = width j } ∷ tagged t) (tagged k))

  record Same (d : Draft) (b : State) : Type 0 where
    base : Sim d b
    labels : tags d.rows ≡ tagged b.kids

  blank_same : Same blank fresh
  blank_same = record { base = blank_sim; labels = refl }

  module _ {d : Draft} {b : State} (u : Same d b) where
    token_same : (x : Token) → Same (add_token x d) (add x b)
    unfolding add_token
    token_same x = record { base = token_sim u.base x; labels = go (is_text x) (eqb x.value 0) }
      where
        go : (p q : Bool) → tags (cond {A = Draft} p (cond {A = Draft} q (with_own x d) (record { rows = d.rows ++ (text_row x ∷ []); items = d.items ++ (child (text_row x) ∷ []); part = d.part })) (with_own x d)).rows ≡ tagged (cond {A = State} p (cond {A = State} q (with_word x b) (with_text x b)) (with_word x b)).kids
        go true true = u.labels
        go true false = tags_two d.rows (text_row x ∷ []) ∙ ap (λ (w : List Tag). w ++ tags (text_row x ∷ [])) u.labels ∙ sym (tagged_two b.kids (top (text_head x) nil nil))
        go false q = u.labels

    phrase_same : {e : Draft} {c : State} → Same e c → Same (with_phrase e d) (leave false b c)
    phrase_same {e} {c} v = record { base = phrase_sim u.base v.base; labels = tags_two d.rows e.rows ∙ ap (λ (w : List Tag). w ++ tags e.rows) u.labels ∙ ap (λ (w : List Tag). tagged b.kids ++ w) v.labels ∙ sym (tagged_two b.kids c.kids) }

    -- a row, whose span is that of its tokens if it is copied
    note_same : (k : ℕ) → (one_of (head_for k b).kind copied ≡ true → (item.starts d.items ≡ starts b.read) × (item.ends d.items ≡ ends b.read)) → Same (take_note k d) (noted k b)
    unfolding take_note
    note_same k f = record { base = note_sim u.base k; labels = go (eqb k 0) }
      where
        r : Row
        r = row_of k d.items d.part

        h : Head
        h = head_for k b

        is : bare_row r ≡ row_for h b.kids
        is = row_sim u.base k

        words_of : (p : Bool) → one_of h.kind copied ≡ p → cond p (slice r.start (cond (eqb h.kind kinds.F_STRING) (r.end + 1) r.end) s) [] ≡ cond p (slice (starts (cond p b.read [])) (cond (eqb h.kind kinds.F_STRING) (ends (cond p b.read []) + 1) (ends (cond p b.read []))) s) []
        words_of true e = let m = f e in ap (λ (i : ℕ). slice i (cond (eqb h.kind kinds.F_STRING) (r.end + 1) r.end) s) (row_start k d.items d.part ∙ m.0) ∙ ap (λ (i : ℕ). slice (starts b.read) (cond (eqb h.kind kinds.F_STRING) (i + 1) i) s) (row_end k d.items d.part ∙ m.1)
        words_of false e = refl

        text_is : text_of s r ≡ bytes_of s h.kind h.tokens
        text_is = ap (λ (n : ℕ). cond (one_of n copied) (slice r.start (cond (eqb n kinds.F_STRING) (r.end + 1) r.end) s) []) (ap (λ (o : Row). o.kind) is) ∙ words_of (one_of h.kind copied) refl

        tag_is : ◌≡◌ {A = Tag} (record { label = label s r; children = r.children }) (record { label = label_of s h; children = width b.kids })
        tag_is = ap (λ (t : List ℕ). record { label = record { kind = r.kind; value = r.value; detail = r.detail; text = t }; children = r.children }) text_is ∙ ap (λ (o : Row). record { label = record { kind = o.kind; value = o.value; detail = o.detail; text = bytes_of s h.kind h.tokens }; children = o.children }) is

        go : (p : Bool) → tags (cond {A = Draft} p (record { rows = d.rows; items = d.items; part = 1 }) (add_row r d)).rows ≡ tagged (cond {A = State} p (record { kids = b.kids; sign = b.sign; lead = b.lead; part = 1; read = b.read }) (record { kids = top h b.kids nil; sign = []; lead = groves.row; part = 0; read = b.read })).kids
        go true = u.labels
        go false = tags_two d.rows (r ∷ []) ∙ ap (λ (w : List Tag). w ++ tags (r ∷ [])) u.labels ∙ ap (λ (t : Tag). tagged b.kids ++ (t ∷ [])) tag_is

  -- one item for a token, which ends where the token does
  item_of : (x : Token) (d : Draft) → (i : Item) × ((add_token x d).items ≡ d.items ++ (i ∷ [])) × (end_of i ≡ x.end)
  unfolding add_token
  item_of x d = go (is_text x) (eqb x.value 0)
    where
      go : (p q : Bool) → (i : Item) × ((cond {A = Draft} p (cond {A = Draft} q (with_own x d) (record { rows = d.rows ++ (text_row x ∷ []); items = d.items ++ (child (text_row x) ∷ []); part = d.part })) (with_own x d)).items ≡ d.items ++ (i ∷ [])) × (end_of i ≡ x.end)
      go true true = (own x, refl, refl)
      go true false = (child (text_row x), refl, refl)
      go false q = (own x, refl, refl)

  own_item : (x : Token) → is_text x ≡ false → add_token x blank ≡ with_own x blank
  unfolding add_token
  own_item x e = rw e refl

  -- what is behind a hole ends with a piece of text
  record Closes (p : Parts) : Type 0 where
    before : Draft → List Item
    last : Draft → Item
    earlier : List Token
    final : Token
    items : (d : Draft) → (write p d).items ≡ (d.items ++ before d) ++ (last d ∷ [])
    tokens : leaves p ≡ earlier ++ (final ∷ [])
    ends_there : (d : Draft) → end_of (last d) ≡ final.end

  abbrev Keeps : Bool → Parts → Type 0
  Keeps true p = (d : Draft) (b : State) → Same d b → Same (write p d) (grow p b)
  Keeps false p = Same (write p blank) (grow p fresh)

  abbrev Ending : Bool → Parts → Type 0
  Ending true p = Closes p
  Ending false p = Unit {0}

  module _ (S : Stream) (G : Ask → Counts → Token → Bool) where
    abbrev Any : Ask → Token → Type 0
    Any g x = Unit {0}

    abbrev Q : ℕ → List Symbol → Parts → Type 0
    Q n t p = Keeps (one_of n rest_kinds) p × Ending (eqb n HOLE) p

    abbrev Of : List Symbol → Parts → Type 0
    Of t p = All S l G Any Q t p

    keeps_phrase : (n : ℕ) (t : List Symbol) (p q : Parts) (b : Bool) → one_of n rest_kinds ≡ b → Keeps b p → ((d : Draft) (c : State) → Same d c → Same (write q d) (grow q c)) → (d : Draft) (c : State) → Same d c → Same (write (node n t p q) d) (grow (node n t p q) c)
    keeps_phrase n t p q true e k f d c u = subst (λ (x : Draft). Same x (grow (node n t p q) c)) (sym (write_rest n t p q d e)) (subst (λ (x : State). Same (write q (write p d)) x) (sym (grow_rest n t p q c e)) (f (write p d) (grow p c) (k d c u)))
    keeps_phrase n t p q false e k f d c u = subst (λ (x : Draft). Same x (grow (node n t p q) c)) (sym (write_phrase n t p q d e)) (subst (λ (x : State). Same (write q (with_phrase (write p blank) d)) x) (sym (grow_phrase n t p q c e)) (f (with_phrase (write p blank) d) (leave false c (grow p fresh)) (phrase_same u k)))

    keeps_all : {t : List Symbol} {p : Parts} → T (plain_notes t) → Of t p → (d : Draft) (b : State) → Same d b → Same (write p d) (grow p b)
    unfolding write grow
    keeps_all h all_end d b u = u
    keeps_all h (all_token {x = x} i y v) d b u = keeps_all h v (add_token x d) (add x b) (token_same u x)
    keeps_all h (all_phrase {n = n} {a = t} {p = p} {q = q} w v) d b u = keeps_phrase n t p q (one_of n rest_kinds) refl w.0 (λ d' b' u'. keeps_all h v d' b' u') d b u
    keeps_all h (all_unless v) d b u = keeps_all h v d b u
    keeps_all h (all_note {k = k} {s = t} v) d b u = keeps_all (and_r (plain_note k) (plain_notes t) h) v (take_note k d) (noted k b) (note_same u k (not_copied k b (and_l (plain_note k) (plain_notes t) h)))
    keeps_all h (all_side {n = n} {n₁ = m} {a = t} {s = r} {p = p} {q = q} w v) d b u = keeps_phrase n t p q (one_of n rest_kinds) refl w.0 (λ d' b' u'. keeps_all (plain_if (l.is_path p) m r h) v d' b' u') d b u
    keeps_all h (all_text {n = n} {s = t} {x = x} i v) d b u = keeps_all (plain_if (eqb x.word l.hole) n t h) v (add_token x d) (add x b) (token_same u x)

    plain_of : (n : ℕ) {t : List Symbol} {p : Parts} → T (plain_notes t) → T (not (eqb n HOLE)) → Of t p → Q n t p
    plain_of n {t} {p} h i v = (go (one_of n rest_kinds), at (eqb n HOLE) i)
      where
        go : (b : Bool) → Keeps b p
        go true = keeps_all h v
        go false = keeps_all h v blank fresh blank_same

        at : (b : Bool) → T (not b) → Ending b p
        at true j = absurd j
        at false j = tt

    -- a row of one token
    leaf_of : {g : Ask} {k : ℕ} {p : Parts} (w : List ℕ) → T (no_text w) → Of (token g w ∷ note k ∷ []) p → Keeps false p × Unit {0}
    unfolding write grow
    leaf_of {k = k} w t (all_token {x = x} i y (all_note all_end)) = (note_same (token_same blank_same x) k (λ e. (ap (λ (d : Draft). item.starts d.items) (own_item x (plain_word x w t i)) ∙ sym (ap starts (grown_read (leaf x end) fresh)), ap (λ (d : Draft). item.ends d.items) (own_item x (plain_word x w t i)) ∙ sym (ap ends (grown_read (leaf x end) fresh)))), tt)

    -- a hole and what is behind it
    hole_items : (x x' y : Token) (t : List Symbol) (e : Parts) (d : Draft) → (zs : List Item) × (i : Item) × ((add_token y (add_token x' (with_phrase (write e blank) (add_token x d)))).items ≡ (d.items ++ zs) ++ (i ∷ [])) × (end_of i ≡ y.end)
    hole_items x x' y t e d =
        let a = item_of x d in
        let b = item_of x' (with_phrase (write e blank) (add_token x d)) in
        let c = item_of y (add_token x' (with_phrase (write e blank) (add_token x d))) in
        let cs = children_of (write e blank).items in (
          (a.0 ∷ []) ++ (cs ++ (b.0 ∷ [])),
          c.0,
          c.1 ∙ ap (λ (z : List Item). z ++ (c.0 ∷ [])) (b.1 ∙ ap (λ (z : List Item). (z ++ cs) ++ (b.0 ∷ [])) a.1 ∙ append_assoc (d.items ++ (a.0 ∷ [])) cs (b.0 ∷ []) ∙ append_assoc d.items (a.0 ∷ []) (cs ++ (b.0 ∷ []))),
          c.2,
        )

    closes_last : (x x' y : Token) (t : List Symbol) (e : Parts) → Closes (leaf x (node (EXPR records) t e (leaf x' (leaf y end))))
    unfolding write
    closes_last x x' y t e = record {
      before = λ d. (hole_items x x' y t e d).0;
      last = λ d. (hole_items x x' y t e d).1;
      earlier = x ∷ (leaves e ++ (x' ∷ []));
      final = y;
      items = λ d. ap (λ (b : Draft). b.items) (write_phrase (EXPR records) t e (leaf x' (leaf y end)) (add_token x d) refl) ∙ (hole_items x x' y t e d).2;
      tokens = ap (λ (z : List Token). x ∷ z) (sym (append_assoc (leaves e) (x' ∷ []) (y ∷ [])));
      ends_there = λ d. (hole_items x x' y t e d).3;
    }

    abbrev on : Token → Token → Token → Parts → Draft → Draft
    on x x' y e d = add_token y (add_token x' (with_phrase (write e blank) (add_token x d)))

    closes_more : (x x' y : Token) (t r : List Symbol) (e q : Parts) → Closes q → Closes (leaf x (node (EXPR records) t e (leaf x' (leaf y (node HOLE r q end)))))
    unfolding write
    closes_more x x' y t r e q c =
        record {
          before = λ d. (hole_items x x' y t e d).0 ++ (((hole_items x x' y t e d).1 ∷ []) ++ c.before (on x x' y e d));
          last = λ d. c.last (on x x' y e d);
          earlier = x ∷ (leaves e ++ (x' ∷ y ∷ c.earlier));
          final = c.final;
          items = λ d. ap (λ (b : Draft). b.items) (write_phrase (EXPR records) t e (leaf x' (leaf y (node HOLE r q end))) (add_token x d) refl)
              ∙ c.items (on x x' y e d)
              ∙ ap (λ (z : List Item). (z ++ c.before (on x x' y e d)) ++ (c.last (on x x' y e d) ∷ [])) (hole_items x x' y t e d).2
              ∙ ap (λ (z : List Item). z ++ (c.last (on x x' y e d) ∷ [])) (append_assoc (d.items ++ (hole_items x x' y t e d).0) ((hole_items x x' y t e d).1 ∷ []) (c.before (on x x' y e d)) ∙ append_assoc d.items (hole_items x x' y t e d).0 (((hole_items x x' y t e d).1 ∷ []) ++ c.before (on x x' y e d)));
          tokens = ap (λ (z : List Token). x ∷ (leaves e ++ (x' ∷ y ∷ z))) (append-nil (leaves q) ∙ c.tokens) ∙ ap (λ (z : List Token). x ∷ z) (sym (append_assoc (leaves e) (x' ∷ y ∷ c.earlier) (c.final ∷ [])));
          ends_there = λ d. c.ends_there (on x x' y e d);
        }

    hole_ends : (x x' y : Token) (t : List Symbol) (e q : Parts) (b : Bool) → Of (cond b (phrase same HOLE ∷ []) []) q → Closes (leaf x (node (EXPR records) t e (leaf x' (leaf y q))))
    hole_ends x x' y t e q true (all_phrase {a = r} {p = q'} w all_end) = closes_more x x' y t r e q' w.1
    hole_ends x x' y t e q false all_end = closes_last x x' y t e

    hole_of : {p : Parts} → Of (opens open_brace ∷ phrase same (EXPR records) ∷ closes close_brace ∷ text HOLE ∷ []) p → Q HOLE (opens open_brace ∷ phrase same (EXPR records) ∷ closes close_brace ∷ text HOLE ∷ []) p
    hole_of v = (keeps_all tt v, go v)
      where
        go : {p : Parts} → Of (opens open_brace ∷ phrase same (EXPR records) ∷ closes close_brace ∷ text HOLE ∷ []) p → Closes p
        go (all_token {x = x} i y (all_phrase {a = t} {p = e} w (all_token {x = x'} i' y' (all_text {x = z} {p = q} k u)))) = hole_ends x x' z t e q (eqb z.word l.hole) u

    -- a string with expressions inside: from its quote to its last piece of text
    text_last : (x y : Token) → is_text x ≡ false → Same (write (leaf x (leaf y (mark kinds.F_STRING end))) blank) (grow (leaf x (leaf y (mark kinds.F_STRING end))) fresh)
    unfolding write grow
    text_last x y t = note_same (token_same (token_same blank_same x) y) kinds.F_STRING (λ e. (ap item.starts are ∙ sym (ap starts have), ap item.ends are ∙ ends_last (own x ∷ []) i.0 ∙ i.2 ∙ sym (ap ends have)))
      where
        i : (j : Item) × ((add_token y (add_token x blank)).items ≡ (add_token x blank).items ++ (j ∷ [])) × (end_of j ≡ y.end)
        i = item_of y (add_token x blank)

        are : (add_token y (add_token x blank)).items ≡ (own x ∷ []) ++ (i.0 ∷ [])
        are = i.1 ∙ ap (λ (d : Draft). d.items ++ (i.0 ∷ [])) (own_item x t)

        have : (add y (add x fresh)).read ≡ x ∷ y ∷ []
        have = grown_read (leaf x (leaf y end)) fresh

    text_hole : (x y : Token) (r : List Symbol) (q : Parts) → is_text x ≡ false → Keeps true q → Closes q → Same (write (leaf x (leaf y (node HOLE r q (mark kinds.F_STRING end)))) blank) (grow (leaf x (leaf y (node HOLE r q (mark kinds.F_STRING end)))) fresh)
    unfolding write grow
    text_hole x y r q t k c = note_same (k d (add y (add x fresh)) (token_same (token_same blank_same x) y)) kinds.F_STRING (λ e. (ap item.starts are ∙ sym (ap starts have), ap item.ends are ∙ ends_last (((own x ∷ []) ++ (i.0 ∷ [])) ++ c.before d) (c.last d) ∙ c.ends_there d ∙ sym (ap ends have ∙ last_end (x ∷ y ∷ c.earlier) c.final)))
      where
        d : Draft
        d = add_token y (add_token x blank)

        i : (j : Item) × (d.items ≡ (add_token x blank).items ++ (j ∷ [])) × (end_of j ≡ y.end)
        i = item_of y (add_token x blank)

        are : (write q d).items ≡ (((own x ∷ []) ++ (i.0 ∷ [])) ++ c.before d) ++ (c.last d ∷ [])
        are = c.items d ∙ ap (λ (z : List Item). (z ++ c.before d) ++ (c.last d ∷ [])) (i.1 ∙ ap (λ (b : Draft). b.items ++ (i.0 ∷ [])) (own_item x t))

        have : (grow q (add y (add x fresh))).read ≡ (x ∷ y ∷ c.earlier) ++ (c.final ∷ [])
        have = grown_read q (add y (add x fresh)) ∙ ap (λ (z : List Token). z ++ leaves q) (grown_read (leaf x (leaf y end)) fresh) ∙ ap (λ (z : List Token). x ∷ y ∷ z) c.tokens

    text_ends : (x y : Token) (q : Parts) (b : Bool) → is_text x ≡ false → Of (cond b (phrase same HOLE ∷ row kinds.F_STRING ∷ []) (row kinds.F_STRING ∷ [])) q → Same (write (leaf x (leaf y q)) blank) (grow (leaf x (leaf y q)) fresh)
    text_ends x y q true t (all_phrase {a = r} {p = q'} w (all_note all_end)) = text_hole x y r q' t w.0 w.1
    text_ends x y q false t (all_note all_end) = text_last x y t

    quoted_of : {p : Parts} → Of (word f_quote ∷ text HOLE ∷ row kinds.F_STRING ∷ []) p → Keeps false p × Unit {0}
    quoted_of (all_token {x = x} i y (all_text {x = z} {p = q} k u)) = (text_ends x z q (eqb z.word l.hole) (plain_word x (f_quote ∷ []) tt i) u, tt)

    abbrev C : ℕ → List Symbol → Type 0
    C n t = (p : Parts) → Once S l G Any Q t p → Of t p → Q n t p

    each : Rules C (roto true).rules
    unfolding roto
    each = (
      (λ p o h. plain_of TYPED_NAMES tt tt h, (λ p o h. plain_of TYPED_NAMES tt tt h, tt)),
      (
        (λ p o h. plain_of TYPED_NAMES_MORE tt tt h, (λ p o h. plain_of TYPED_NAMES_MORE tt tt h, tt)),
        (
          (λ p o h. plain_of TYPES tt tt h, (λ p o h. plain_of TYPES tt tt h, tt)),
          (
            (λ p o h. plain_of TYPES_MORE tt tt h, (λ p o h. plain_of TYPES_MORE tt tt h, tt)),
            (
              (λ p o h. plain_of EXPRS tt tt h, (λ p o h. plain_of EXPRS tt tt h, tt)),
              (
                (λ p o h. plain_of EXPRS_MORE tt tt h, (λ p o h. plain_of EXPRS_MORE tt tt h, tt)),
                (
                  (λ p o h. plain_of FIELDS tt tt h, (λ p o h. plain_of FIELDS tt tt h, tt)),
                  (
                    (λ p o h. plain_of FIELDS_MORE tt tt h, (λ p o h. plain_of FIELDS_MORE tt tt h, tt)),
                    (
                      (λ p o h. plain_of NAMES tt tt h, (λ p o h. plain_of NAMES tt tt h, tt)),
                      (
                        (λ p o h. plain_of NAMES_MORE tt tt h, (λ p o h. plain_of NAMES_MORE tt tt h, tt)),
                        (
                          (λ p o h. plain_of TREE tt tt h, tt),
                          (
                            (λ p o h. plain_of DECLARATIONS tt tt h, (λ p o h. plain_of DECLARATIONS tt tt h, tt)),
                            (
                              (λ p o h. plain_of DECLARATION tt tt h, (λ p o h. plain_of DECLARATION tt tt h, (λ p o h. plain_of DECLARATION tt tt h, (λ p o h. plain_of DECLARATION tt tt h, (λ p o h. plain_of DECLARATION tt tt h, tt))))),
                              (
                                (λ p o h. plain_of PARAMS tt tt h, tt),
                                (
                                  (λ p o h. plain_of RESULT tt tt h, (λ p o h. plain_of RESULT tt tt h, tt)),
                                  (
                                    (λ p o h. plain_of TYPED_NAME tt tt h, tt),
                                    (
                                      (λ p o h. leaf_of names tt h, tt),
                                      (
                                        (λ p o h. plain_of IMPORT tt tt h, tt),
                                        (
                                          (λ p o h. plain_of IMPORTED tt tt h, tt),
                                          (
                                            (λ p o h. plain_of IMPORTPATH tt tt h, tt),
                                            (
                                              (λ p o h. plain_of IMPORTPATH_REST tt tt h, (λ p o h. plain_of IMPORTPATH_REST tt tt h, tt)),
                                              (
                                                (λ p o h. plain_of IMPORTPATH_DOT tt tt h, (λ p o h. plain_of IMPORTPATH_DOT tt tt h, tt)),
                                                (
                                                  (λ p o h. plain_of IMPORTPATHS tt tt h, tt),
                                                  (
                                                    (λ p o h. plain_of IMPORTPATHS_MORE tt tt h, (λ p o h. plain_of IMPORTPATHS_MORE tt tt h, tt)),
                                                    (
                                                      (λ p o h. leaf_of path_items tt h, tt),
                                                      (
                                                        (λ p o h. plain_of PATH tt tt h, tt),
                                                        (
                                                          (λ p o h. plain_of PATH_REST tt tt h, (λ p o h. plain_of PATH_REST tt tt h, tt)),
                                                          (
                                                            (λ p o h. plain_of TYPE tt tt h, tt),
                                                            (
                                                              (λ p o h. plain_of TYPE_MARKS tt tt h, (λ p o h. plain_of TYPE_MARKS tt tt h, tt)),
                                                              (
                                                                (λ p o h. plain_of TYPE_BASE tt tt h, (λ p o h. plain_of TYPE_BASE tt tt h, (λ p o h. plain_of TYPE_BASE tt tt h, (λ p o h. plain_of TYPE_BASE tt tt h, tt)))),
                                                                (
                                                                  (λ p o h. plain_of TYPE_BRACKETS tt tt h, (λ p o h. plain_of TYPE_BRACKETS tt tt h, tt)),
                                                                  (
                                                                    (λ p o h. plain_of BLOCK tt tt h, tt),
                                                                    (
                                                                      (λ p o h. plain_of STATEMENTS tt tt h, (λ p o h. plain_of STATEMENTS tt tt h, tt)),
                                                                      (
                                                                        (λ p o h. plain_of STATEMENT tt tt h, (λ p o h. plain_of STATEMENT tt tt h, (λ p o h. plain_of STATEMENT tt tt h, (λ p o h. plain_of STATEMENT tt tt h, tt)))),
                                                                        (
                                                                          (λ p o h. plain_of AFTER_FOUR tt tt h, (λ p o h. plain_of AFTER_FOUR tt tt h, (λ p o h. plain_of AFTER_FOUR tt tt h, tt))),
                                                                          (
                                                                            (λ p o h. plain_of AFTER_EXPR tt tt h, (λ p o h. plain_of AFTER_EXPR tt tt h, tt)),
                                                                            (
                                                                              (λ p o h. plain_of LET tt tt h, tt),
                                                                              (
                                                                                (λ p o h. plain_of LET_TYPE tt tt h, (λ p o h. plain_of LET_TYPE tt tt h, tt)),
                                                                                (
                                                                                  (λ p o h. plain_of (EXPR records) tt tt h, (λ p o h. plain_of (EXPR records) tt tt h, tt)),
                                                                                  (
                                                                                    (λ p o h. plain_of (RETURNED records) tt tt h, (λ p o h. plain_of (RETURNED records) tt tt h, tt)),
                                                                                    (
                                                                                      (λ p o h. plain_of (ASSIGNED records) tt tt h, (λ p o h. plain_of (ASSIGNED records) tt tt h, tt)),
                                                                                      (
                                                                                        (λ p o h. plain_of (BINARY records) tt tt h, tt),
                                                                                        (
                                                                                          (λ p o h. plain_of (OR_MORE records) tt tt h, (λ p o h. plain_of (OR_MORE records) tt tt h, tt)),
                                                                                          (
                                                                                            (λ p o h. plain_of (AND records) tt tt h, tt),
                                                                                            (
                                                                                              (λ p o h. plain_of (AND_MORE records) tt tt h, (λ p o h. plain_of (AND_MORE records) tt tt h, tt)),
                                                                                              (
                                                                                                (λ p o h. plain_of (COMPARE records) tt tt h, tt),
                                                                                                (
                                                                                                  (λ p o h. plain_of (COMPARE_MORE records) tt tt h, (λ p o h. plain_of (COMPARE_MORE records) tt tt h, tt)),
                                                                                                  (
                                                                                                    (λ p o h. plain_of (SUM records) tt tt h, tt),
                                                                                                    (
                                                                                                      (λ p o h. plain_of (SUM_MORE records) tt tt h, (λ p o h. plain_of (SUM_MORE records) tt tt h, tt)),
                                                                                                      (
                                                                                                        (λ p o h. plain_of (PRODUCT records) tt tt h, tt),
                                                                                                        (
                                                                                                          (λ p o h. plain_of (PRODUCT_MORE records) tt tt h, (λ p o h. plain_of (PRODUCT_MORE records) tt tt h, tt)),
                                                                                                          (
                                                                                                            (λ p o h. plain_of (OPERAND records) tt tt h, (λ p o h. plain_of (OPERAND records) tt tt h, (λ p o h. plain_of (OPERAND records) tt tt h, (λ p o h. plain_of (OPERAND records) tt tt h, (λ p o h. plain_of (OPERAND records) tt tt h, (λ p o h. plain_of (OPERAND records) tt tt h, (λ p o h. plain_of (OPERAND records) tt tt h, (λ p o h. plain_of (OPERAND records) tt tt h, tt)))))))),
                                                                                                            (
                                                                                                              (λ p o h. plain_of (POSTFIX records) tt tt h, (λ p o h. plain_of (POSTFIX records) tt tt h, (λ p o h. plain_of (POSTFIX records) tt tt h, (λ p o h. plain_of (POSTFIX records) tt tt h, tt)))),
                                                                                                              (
                                                                                                                (λ p o h. plain_of (AFTER_PATH records) tt tt h, (λ p o h. plain_of (AFTER_PATH records) tt tt h, (λ p o h. plain_of (AFTER_PATH records) tt tt h, (λ p o h. plain_of (AFTER_PATH records) tt tt h, tt)))),
                                                                                                                (
                                                                                                                  (λ p o h. plain_of (EXPR no_records) tt tt h, (λ p o h. plain_of (EXPR no_records) tt tt h, tt)),
                                                                                                                  (
                                                                                                                    (λ p o h. plain_of (RETURNED no_records) tt tt h, tt),
                                                                                                                    (
                                                                                                                      (λ p o h. plain_of (ASSIGNED no_records) tt tt h, (λ p o h. plain_of (ASSIGNED no_records) tt tt h, tt)),
                                                                                                                      (
                                                                                                                        (λ p o h. plain_of (BINARY no_records) tt tt h, tt),
                                                                                                                        (
                                                                                                                          (λ p o h. plain_of (OR_MORE no_records) tt tt h, (λ p o h. plain_of (OR_MORE no_records) tt tt h, tt)),
                                                                                                                          (
                                                                                                                            (λ p o h. plain_of (AND no_records) tt tt h, tt),
                                                                                                                            (
                                                                                                                              (λ p o h. plain_of (AND_MORE no_records) tt tt h, (λ p o h. plain_of (AND_MORE no_records) tt tt h, tt)),
                                                                                                                              (
                                                                                                                                (λ p o h. plain_of (COMPARE no_records) tt tt h, tt),
                                                                                                                                (
                                                                                                                                  (λ p o h. plain_of (COMPARE_MORE no_records) tt tt h, (λ p o h. plain_of (COMPARE_MORE no_records) tt tt h, tt)),
                                                                                                                                  (
                                                                                                                                    (λ p o h. plain_of (SUM no_records) tt tt h, tt),
                                                                                                                                    (
                                                                                                                                      (λ p o h. plain_of (SUM_MORE no_records) tt tt h, (λ p o h. plain_of (SUM_MORE no_records) tt tt h, tt)),
                                                                                                                                      (
                                                                                                                                        (λ p o h. plain_of (PRODUCT no_records) tt tt h, tt),
                                                                                                                                        (
                                                                                                                                          (λ p o h. plain_of (PRODUCT_MORE no_records) tt tt h, (λ p o h. plain_of (PRODUCT_MORE no_records) tt tt h, tt)),
                                                                                                                                          (
                                                                                                                                            (λ p o h. plain_of (OPERAND no_records) tt tt h, (λ p o h. plain_of (OPERAND no_records) tt tt h, (λ p o h. plain_of (OPERAND no_records) tt tt h, (λ p o h. plain_of (OPERAND no_records) tt tt h, (λ p o h. plain_of (OPERAND no_records) tt tt h, (λ p o h. plain_of (OPERAND no_records) tt tt h, (λ p o h. plain_of (OPERAND no_records) tt tt h, (λ p o h. plain_of (OPERAND no_records) tt tt h, tt)))))))),
                                                                                                                                            (
                                                                                                                                              (λ p o h. plain_of (POSTFIX no_records) tt tt h, (λ p o h. plain_of (POSTFIX no_records) tt tt h, (λ p o h. plain_of (POSTFIX no_records) tt tt h, (λ p o h. plain_of (POSTFIX no_records) tt tt h, tt)))),
                                                                                                                                              (
                                                                                                                                                (λ p o h. plain_of (AFTER_PATH no_records) tt tt h, (λ p o h. plain_of (AFTER_PATH no_records) tt tt h, (λ p o h. plain_of (AFTER_PATH no_records) tt tt h, tt))),
                                                                                                                                                (
                                                                                                                                                  (λ p o h. leaf_of literals tt h, tt),
                                                                                                                                                  (
                                                                                                                                                    (λ p o h. quoted_of h, tt),
                                                                                                                                                    (
                                                                                                                                                      (λ p o h. hole_of h, tt),
                                                                                                                                                      (
                                                                                                                                                        (λ p o h. plain_of PARENS tt tt h, tt),
                                                                                                                                                        (
                                                                                                                                                          (λ p o h. plain_of BRACES tt tt h, tt),
                                                                                                                                                          (
                                                                                                                                                            (λ p o h. plain_of BRACES_INSIDE tt tt h, (λ p o h. plain_of BRACES_INSIDE tt tt h, tt)),
                                                                                                                                                            (
                                                                                                                                                              (λ p o h. plain_of FIELD tt tt h, tt),
                                                                                                                                                              (
                                                                                                                                                                (λ p o h. leaf_of names tt h, tt),
                                                                                                                                                                (
                                                                                                                                                                  (λ p o h. plain_of FOUR tt tt h, (λ p o h. plain_of FOUR tt tt h, (λ p o h. plain_of FOUR tt tt h, (λ p o h. plain_of FOUR tt tt h, tt)))),
                                                                                                                                                                  (
                                                                                                                                                                    (λ p o h. plain_of ELSE tt tt h, (λ p o h. plain_of ELSE tt tt h, tt)),
                                                                                                                                                                    (
                                                                                                                                                                      (λ p o h. plain_of ELSE_PART tt tt h, (λ p o h. plain_of ELSE_PART tt tt h, tt)),
                                                                                                                                                                      (
                                                                                                                                                                        (λ p o h. plain_of ELSE_IF tt tt h, tt),
                                                                                                                                                                        (
                                                                                                                                                                          (λ p o h. plain_of ARMS tt tt h, (λ p o h. plain_of ARMS tt tt h, tt)),
                                                                                                                                                                          (
                                                                                                                                                                            (λ p o h. plain_of ARM tt tt h, tt),
                                                                                                                                                                            (
                                                                                                                                                                              (λ p o h. plain_of ARM_BODY tt tt h, (λ p o h. plain_of ARM_BODY tt tt h, tt)),
                                                                                                                                                                              (
                                                                                                                                                                                (λ p o h. plain_of ARM_NEXT tt tt h, (λ p o h. plain_of ARM_NEXT tt tt h, tt)),
                                                                                                                                                                                (
                                                                                                                                                                                  (λ p o h. plain_of ARM_COMMA tt tt h, (λ p o h. plain_of ARM_COMMA tt tt h, tt)),
                                                                                                                                                                                  (
                                                                                                                                                                                    (λ p o h. plain_of GUARD tt tt h, (λ p o h. plain_of GUARD tt tt h, tt)),
                                                                                                                                                                                    (
                                                                                                                                                                                      (λ p o h. plain_of PATTERN tt tt h, (λ p o h. leaf_of (underscore ∷ []) tt h, tt)),
                                                                                                                                                                                      (
                                                                                                                                                                                        (λ p o h. leaf_of (name ∷ []) tt h, tt),
                                                                                                                                                                                        (
                                                                                                                                                                                          (λ p o h. plain_of VARIANT_NAMES tt tt h, (λ p o h. plain_of VARIANT_NAMES tt tt h, tt)),
                                                                                                                                                                                          tt,
                                                                                                                                                                                        ),
                                                                                                                                                                                      ),
                                                                                                                                                                                    ),
                                                                                                                                                                                  ),
                                                                                                                                                                                ),
                                                                                                                                                                              ),
                                                                                                                                                                            ),
                                                                                                                                                                          ),
                                                                                                                                                                        ),
                                                                                                                                                                      ),
                                                                                                                                                                    ),
                                                                                                                                                                  ),
                                                                                                                                                                ),
                                                                                                                                                              ),
                                                                                                                                                            ),
                                                                                                                                                          ),
                                                                                                                                                        ),
                                                                                                                                                      ),
                                                                                                                                                    ),
                                                                                                                                                  ),
                                                                                                                                                ),
                                                                                                                                              ),
                                                                                                                                            ),
                                                                                                                                          ),
                                                                                                                                        ),
                                                                                                                                      ),
                                                                                                                                    ),
                                                                                                                                  ),
                                                                                                                                ),
                                                                                                                              ),
                                                                                                                            ),
                                                                                                                          ),
                                                                                                                        ),
                                                                                                                      ),
                                                                                                                    ),
                                                                                                                  ),
                                                                                                                ),
                                                                                                              ),
                                                                                                            ),
                                                                                                          ),
                                                                                                        ),
                                                                                                      ),
                                                                                                    ),
                                                                                                  ),
                                                                                                ),
                                                                                              ),
                                                                                            ),
                                                                                          ),
                                                                                        ),
                                                                                      ),
                                                                                    ),
                                                                                  ),
                                                                                ),
                                                                              ),
                                                                            ),
                                                                          ),
                                                                        ),
                                                                      ),
                                                                    ),
                                                                  ),
                                                                ),
                                                              ),
                                                            ),
                                                          ),
                                                        ),
                                                      ),
                                                    ),
                                                  ),
                                                ),
                                              ),
                                            ),
                                          ),
                                        ),
                                      ),
                                    ),
                                  ),
                                ),
                              ),
                            ),
                          ),
                        ),
                      ),
                    ),
                  ),
                ),
              ),
            ),
          ),
        ),
      ),
    )

    step : Step S l G Any Q
    unfolding roto
    step n t p o u h = rule_at C (roto true).rules n o each p u h

    any_known : Known S l G Any Q
    any_known = record { looks = λ g d i j x e k. tt; pieces = λ d i j x e k. tt }

    tree_same : {p : Parts} → Of (start true) p → Same (write p blank) (grow p fresh)
    tree_same v = keeps_all tt v blank fresh blank_same

    -- the rows, as trees, are the trees that the reading leaves
    pub rows_are_trees : {d : Counts} {i r : S.Place} {p : Parts} (len : ℕ) → ReadingBy S l G d (start true) i r p → trees.tree_of s (rows true len p) ≡ labelled s (grove_of p)
    unfolding rows rows_from planted
    rows_are_trees {p = p} len u =
        let v = tree_same (by_alternatives S l G Any Q any_known step u) in
        let n = tree_row len (write p blank) in
        grown_tags (rows true len p) none
        ∙ ap (λ (w : List Tag). planted w none) (tags_two (write p blank).rows (n ∷ []) ∙ ap (λ (w : List Tag). w ++ tags (n ∷ [])) v.labels ∙ ap (λ (m : ℕ). tagged (grow p fresh).kids ++ (record { label = label_of s tree_head; children = m } ∷ [])) (wide v.base))
        ∙ ap (λ (w : List Tag). planted w none) (sym (append-nil (tagged (grove_of p))))
        ∙ planted_tagged (grove_of p) [] none
