-- The trees that a reading leaves are those of its rows.
use mathlib.Core.Path.{◌∙◌, ◌≡◌, ap, refl, subst, sym}
use mathlib.Core.List.{List, [], ◌∷◌, ◌++◌, append_assoc, append-nil}
use mathlib.Core.Bool.{Bool, true, false, cond}
use Prim.Native.Nat.{ℕ, suc, ◌+◌}
use native.Mathlib.Omega.{arith}
use lib.Dec.{eqb}
use Rattle.rows.specs.Kinds as kinds
use Rattle.grammar.specs.Grammar.{Parts, Token, end, leaf, mark, node, one_of}
use Rattle.grammar.specs.Table.{rest_kinds, literal_row}
use Rattle.grammar.specs.Rows.{Row, Item, own, child, Draft, starts, ends, count, children_of, sizes, sign_of, detail_for, literal_of_lem, row_of, add_row, take_note, is_text, text_row, add_token, write, blank, tree_row, rows_from, rows, first_row, phrase_row, is_path}
use Rattle.grammar.proofs.Frame.{with_own, write_phrase, write_rest}
use Rattle.grammar.proofs.Open.{with_phrase}
use Rattle.printing.specs.Bare.{bare_items, bare_row, bare_rows}
use Rattle.printing.specs.Groves.{nobody, word, Lead, Head, Grove, nil, top, beside, State, fresh, signed, sign_in, led, lead_of, with_word, with_text, add, text_head, first_head, literal_head, keep, head_for, noted, leave, grow}
use Rattle.printing.specs.Groves as groves
use Rattle.printing.proofs.Bare.{count_same, items_two, rows_two, sizes_same}
use Rattle.printing.proofs.Lists.{grow_phrase, grow_rest}

-- how many trees, how many rows
abbrev pub width : Grove → ℕ
width nil = 0
width (top h k t) = suc (width t)

abbrev pub weight : Grove → ℕ
weight nil = 0
weight (top h k t) = suc (weight k) + weight t

-- the row of a tree, and all its rows, spans set aside
abbrev pub row_for : Head → Grove → Row
row_for h k = record { kind = h.kind; start = 0; end = 0; children = width k; value = h.value; detail = h.detail; size = suc (weight k) }

abbrev pub listed : Grove → List Row
listed nil = []
listed (top h k t) = listed k ++ (row_for h k ∷ listed t)

abbrev pub tops : Grove → List Item
tops nil = []
tops (top h k t) = child (row_for h k) ∷ tops t

-- the first word of its own; what it begins with
abbrev pub signs : List Item → List ℕ
signs [] = []
signs (own x ∷ xs) = x.word ∷ []
signs (child r ∷ xs) = signs xs

abbrev pub leads : List Item → Lead
leads [] = nobody
leads (own x ∷ xs) = word x
leads (child r ∷ xs) = groves.row

pub record Sim (d : Draft) (a : State) : Type 0 where
  pub all : bare_rows d.rows ≡ listed a.kids
  pub roots : bare_items (children_of d.items) ≡ tops a.kids
  pub sign : signs d.items ≡ a.sign
  pub lead : leads d.items ≡ a.lead
  pub part : d.part ≡ a.part

pub blank_sim : Sim blank fresh
blank_sim = record { all = refl; roots = refl; sign = refl; lead = refl; part = refl }

-- lists that are put together
listed_two : (g k : Grove) → listed (beside g k) ≡ listed g ++ listed k
listed_two nil k = refl
listed_two (top h j t) k = ap (λ (z : List Row). listed j ++ (row_for h j ∷ z)) (listed_two t k) ∙ sym (append_assoc (listed j) (row_for h j ∷ listed t) (listed k))

tops_two : (g k : Grove) → tops (beside g k) ≡ tops g ++ tops k
tops_two nil k = refl
tops_two (top h j t) k = ap (λ (z : List Item). child (row_for h j) ∷ z) (tops_two t k)

children_two : (xs ys : List Item) → children_of (xs ++ ys) ≡ children_of xs ++ children_of ys
children_two [] ys = refl
children_two (own x ∷ xs) ys = children_two xs ys
children_two (child r ∷ xs) ys = ap (λ (z : List Item). child r ∷ z) (children_two xs ys)

children_again : (xs : List Item) → children_of (children_of xs) ≡ children_of xs
children_again [] = refl
children_again (own x ∷ xs) = children_again xs
children_again (child r ∷ xs) = ap (λ (z : List Item). child r ∷ z) (children_again xs)

signs_own : (xs : List Item) (x : Token) → signs (xs ++ (own x ∷ [])) ≡ signed (signs xs) x.word
signs_own [] x = refl
signs_own (own y ∷ xs) x = refl
signs_own (child r ∷ xs) x = signs_own xs x

signs_none : (ys : List Item) → signs (children_of ys) ≡ []
signs_none [] = refl
signs_none (own y ∷ ys) = signs_none ys
signs_none (child r ∷ ys) = signs_none ys

signs_child : (xs ys : List Item) → signs ys ≡ [] → signs (xs ++ ys) ≡ signs xs
signs_child [] ys e = e
signs_child (own y ∷ xs) ys e = refl
signs_child (child r ∷ xs) ys e = signs_child xs ys e

leads_two : (xs ys : List Item) → leads (xs ++ ys) ≡ led (leads xs) (leads ys)
leads_two [] ys = refl
leads_two (own y ∷ xs) ys = refl
leads_two (child r ∷ xs) ys = refl

sign_one : (xs : List Item) → sign_of xs ≡ sign_in (signs xs)
sign_one [] = refl
sign_one (own y ∷ xs) = refl
sign_one (child r ∷ xs) = sign_one xs

-- numbers of the roots
count_kids : (xs : List Item) → count (children_of xs) ≡ count xs
count_kids [] = refl
count_kids (own y ∷ xs) = count_kids xs
count_kids (child r ∷ xs) = ap suc (count_kids xs)

sizes_kids : (xs : List Item) → sizes (children_of xs) ≡ sizes xs
sizes_kids [] = refl
sizes_kids (own y ∷ xs) = sizes_kids xs
sizes_kids (child r ∷ xs) = ap (λ (n : ℕ). r.size + n) (sizes_kids xs)

count_tops : (g : Grove) → count (tops g) ≡ width g
count_tops nil = refl
count_tops (top h k t) = ap suc (count_tops t)

sizes_tops : (g : Grove) → sizes (tops g) ≡ weight g
sizes_tops nil = refl
sizes_tops (top h k t) = ap (λ (n : ℕ). suc (weight k) + n) (sizes_tops t)

lead_tops : (g : Grove) → leads (tops g) ≡ lead_of g
lead_tops nil = refl
lead_tops (top h k t) = refl

leads_bare : (xs : List Item) → leads (bare_items (children_of xs)) ≡ leads (children_of xs)
leads_bare [] = refl
leads_bare (own y ∷ xs) = leads_bare xs
leads_bare (child r ∷ xs) = refl

module _ {d : Draft} {a : State} (u : Sim d a) where
  pub wide : count d.items ≡ width a.kids
  wide = sym (count_kids d.items) ∙ sym (count_same (children_of d.items)) ∙ ap count u.roots ∙ count_tops a.kids

  heavy : sizes d.items ≡ weight a.kids
  heavy = sym (sizes_kids d.items) ∙ sym (sizes_same (children_of d.items)) ∙ ap sizes u.roots ∙ sizes_tops a.kids

  -- a word; a piece of text with a byte
  word_sim : (x : Token) → Sim (with_own x d) (with_word x a)
  word_sim x = record {
    all = u.all;
    roots = ap bare_items (children_two d.items (own x ∷ []) ∙ append-nil (children_of d.items)) ∙ u.roots;
    sign = signs_own d.items x ∙ ap (λ (w : List ℕ). signed w x.word) u.sign;
    lead = leads_two d.items (own x ∷ []) ∙ ap (λ (m : Lead). led m (word x)) u.lead;
    part = u.part;
  }

  text_sim : (x : Token) → Sim (record { rows = d.rows ++ (text_row x ∷ []); items = d.items ++ (child (text_row x) ∷ []); part = d.part }) (with_text x a)
  text_sim x = record {
    all = rows_two d.rows (text_row x ∷ []) ∙ ap (λ (z : List Row). z ++ (bare_row (text_row x) ∷ [])) u.all ∙ sym (listed_two a.kids (top (text_head x) nil nil));
    roots = ap bare_items (children_two d.items (child (text_row x) ∷ [])) ∙ items_two (children_of d.items) (child (text_row x) ∷ []) ∙ ap (λ (z : List Item). z ++ (child (bare_row (text_row x)) ∷ [])) u.roots ∙ sym (tops_two a.kids (top (text_head x) nil nil));
    sign = signs_child d.items (child (text_row x) ∷ []) refl ∙ u.sign;
    lead = leads_two d.items (child (text_row x) ∷ []) ∙ ap (λ (m : Lead). led m groves.row) u.lead;
    part = u.part;
  }

  pub token_sim : (x : Token) → Sim (add_token x d) (add x a)
  unfolding add_token
  token_sim x = go (is_text x) (eqb x.value 0)
    where
      go : (b c : Bool) → Sim (cond b (cond c (with_own x d) (record { rows = d.rows ++ (text_row x ∷ []); items = d.items ++ (child (text_row x) ∷ []); part = d.part })) (with_own x d)) (cond b (cond c (with_word x a) (with_text x a)) (with_word x a))
      go true true = word_sim x
      go true false = text_sim x
      go false c = word_sim x

  -- a phrase of its own
  pub phrase_sim : {e : Draft} {b : State} → Sim e b → Sim (with_phrase e d) (leave false a b)
  phrase_sim {e} {b} v = record {
    all = rows_two d.rows e.rows ∙ ap (λ (z : List Row). z ++ bare_rows e.rows) u.all ∙ ap (λ (z : List Row). listed a.kids ++ z) v.all ∙ sym (listed_two a.kids b.kids);
    roots = ap bare_items (children_two d.items (children_of e.items) ∙ ap (λ (z : List Item). children_of d.items ++ z) (children_again e.items)) ∙ items_two (children_of d.items) (children_of e.items) ∙ ap (λ (z : List Item). z ++ bare_items (children_of e.items)) u.roots ∙ ap (λ (z : List Item). tops a.kids ++ z) v.roots ∙ sym (tops_two a.kids b.kids);
    sign = signs_child d.items (children_of e.items) (signs_none e.items) ∙ u.sign;
    lead = leads_two d.items (children_of e.items) ∙ ap (λ (m : Lead). led m (leads (children_of e.items))) u.lead ∙ ap (λ (m : Lead). led a.lead m) (sym (leads_bare e.items) ∙ ap leads v.roots ∙ lead_tops b.kids);
    part = u.part;
  }

-- the numbers of a row: of a literal, as its first item says
abbrev numbered : Head → ℕ → ℕ → Row
numbered h k z = record { kind = h.kind; start = 0; end = 0; children = k; value = h.value; detail = h.detail; size = z }

child_first : (r : Row) (xs : List Item) (g : Grove) → bare_items (children_of (child r ∷ xs)) ≡ tops g → (k z : ℕ) → bare_row (literal_of_lem (child r ∷ xs) k z) ≡ numbered (first_head g) k z
child_first r xs nil e k z = absurd (no_item e)
  where
    no_item : ◌≡◌ {A = List Item} (child (bare_row r) ∷ bare_items (children_of xs)) [] → ⊥
    no_item e = let n : ◌≡◌ {A = ℕ} 0 1 = cc in omega arith
child_first r xs (top h j t) e k z = ap (λ (o : Row). record { kind = o.kind; start = 0; end = 0; children = k; value = o.value; detail = o.detail; size = z }) same_row
  where
    same_row : bare_row r ≡ row_for h j
    same_row = cc

literal_sim : (xs : List Item) (m : Lead) (g : Grove) → leads xs ≡ m → bare_items (children_of xs) ≡ tops g → (k z : ℕ) → bare_row (literal_of_lem xs k z) ≡ numbered (literal_head m g) k z
literal_sim [] m g e f k z = subst (λ (n : Lead). bare_row (literal_of_lem [] k z) ≡ numbered (literal_head n g) k z) e refl
literal_sim (own x ∷ xs) m g e f k z = subst (λ (n : Lead). bare_row (literal_of_lem (own x ∷ xs) k z) ≡ numbered (literal_head n g) k z) e refl
literal_sim (child r ∷ xs) m g e f k z = subst (λ (n : Lead). bare_row (literal_of_lem (child r ∷ xs) k z) ≡ numbered (literal_head n g) k z) e (child_first r xs g f k z)

module _ {d : Draft} {a : State} (u : Sim d a) (k : ℕ) where
  pub row_sim : bare_row (row_of k d.items d.part) ≡ row_for (head_for k a) a.kids
  unfolding row_of
  row_sim = go (eqb k literal_row)
    where
      z : ℕ
      z = suc (sizes d.items)

      plain_row : Row
      plain_row = record { kind = k; start = starts d.items; end = ends d.items; children = count d.items; value = d.part; detail = detail_for k (sign_of d.items); size = z }

      go : (b : Bool) → bare_row (cond b (literal_of_lem d.items (count d.items) z) plain_row) ≡ row_for (keep (cond b (literal_head a.lead a.kids) (record { kind = k; value = a.part; detail = detail_for k (sign_in a.sign); tokens = [] })) a.read) a.kids
      go true = literal_sim d.items a.lead a.kids u.lead u.roots (count d.items) z ∙ rw (wide u, heavy u) refl
      go false = rw (wide u, heavy u, u.part, sign_one d.items, u.sign) refl

  pub note_sim : Sim (take_note k d) (noted k a)
  unfolding take_note
  note_sim = go (eqb k 0)
    where
      r : Row
      r = row_of k d.items d.part

      go : (b : Bool) → Sim (cond b (record { rows = d.rows; items = d.items; part = 1 }) (add_row r d)) (cond b (record { kids = a.kids; sign = a.sign; lead = a.lead; part = 1; read = a.read }) (record { kids = top (head_for k a) a.kids nil; sign = []; lead = groves.row; part = 0; read = a.read }))
      go true = record { all = u.all; roots = u.roots; sign = u.sign; lead = u.lead; part = refl }
      go false = record {
        all = rows_two d.rows (r ∷ []) ∙ ap (λ (z : List Row). z ++ (bare_row r ∷ [])) u.all ∙ ap (λ (o : Row). listed a.kids ++ (o ∷ [])) row_sim;
        roots = ap (λ (o : Row). child o ∷ []) row_sim;
        sign = refl;
        lead = refl;
        part = refl;
      }

-- a reading's rows, spans set aside, are those of its trees
sim : (p : Parts) {d : Draft} {a : State} → Sim d a → Sim (write p d) (grow p a)
unfolding write grow
sim end u = u
sim (leaf x p) u = sim p (token_sim u x)
sim (mark k p) u = sim p (note_sim u k)
sim (node n s p q) {d} {a} u = go (one_of n rest_kinds) refl (λ d' a' v. sim q v) (sim p u) (sim p blank_sim)
  where
    go : (b : Bool) → one_of n rest_kinds ≡ b → ((d' : Draft) (a' : State) → Sim d' a' → Sim (write q d') (grow q a')) → Sim (write p d) (grow p a) → Sim (write p blank) (grow p fresh) → Sim (write (node n s p q) d) (grow (node n s p q) a)
    go true e f v w = subst (λ (x : Draft). Sim x (grow (node n s p q) a)) (sym (write_rest n s p q d e)) (subst (λ (x : State). Sim (write q (write p d)) x) (sym (grow_rest n s p q a e)) (f _ _ v))
    go false e f v w = subst (λ (x : Draft). Sim x (grow (node n s p q) a)) (sym (write_phrase n s p q d e)) (subst (λ (x : State). Sim (write q (with_phrase (write p blank) d)) x) (sym (grow_phrase n s p q a e)) (f _ _ (phrase_sim u w)))

first_bare : (xs : List Item) → (first_row xs).kind ≡ (first_row (bare_items (children_of xs))).kind
first_bare [] = refl
first_bare (own x ∷ xs) = first_bare xs
first_bare (child r ∷ xs) = refl

first_tops : (g : Grove) → (first_row (tops g)).kind ≡ (first_head g).kind
first_tops nil = refl
first_tops (top h k t) = refl

pub path_grown : (p : Parts) → is_path p ≡ eqb (first_head (grow p fresh).kids).kind 2
unfolding is_path phrase_row
path_grown p = ap (λ (n : ℕ). eqb n 2) (first_bare (write p blank).items ∙ ap (λ (xs : List Item). (first_row xs).kind) (sim p blank_sim).roots ∙ first_tops (grow p fresh).kids)

-- the rows of a tree, spans set aside
abbrev pub tree_head : Head
tree_head = record { kind = kinds.TREE; value = 0; detail = 0; tokens = [] }

pub rows_grown : (len : ℕ) (p : Parts) → bare_rows (rows true len p) ≡ listed (top tree_head (grow p fresh).kids nil)
unfolding rows rows_from
rows_grown len p =
    let u = sim p blank_sim in
    rows_two (write p blank).rows (tree_row len (write p blank) ∷ []) ∙ ap (λ (z : List Row). z ++ (bare_row (tree_row len (write p blank)) ∷ [])) u.all ∙ rw (wide u, heavy u) refl
