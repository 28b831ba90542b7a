-- Declarations that were read one by one, from the first byte of a text on: they stay where bytes behind them become spaces, and at the end they are the text's tree.
use Rattle.std.specs.Prelude.{Ok}
use mathlib.Core.Path.{◌≡◌, refl, sym, ap, subst, ◌∙◌}
use mathlib.Core.List.{List, [], ◌∷◌, ◌++◌, append_assoc}
use mathlib.Core.Bool.{Bool, true, false, cond}
use Prim.Native.Nat.{ℕ, suc, ◌+◌, ◌-◌, ◌*◌, ◌/◌, ◌<◌, ◌≤◌}
use native.Mathlib.Omega.{arith}
use lib.Dec.{T, leb, leb→le}
use lib.ListN.{length, replicate, length-append}
use Rattle.chars.specs.declared.Answer.{Answer}
use Rattle.chars.specs.Chars.{byte_at}
use Rattle.tokens.specs.Tokens.{step_at, whole_of, counted}
use Rattle.rows.specs.Kinds as kinds
use Rattle.rows.specs.Rows.{width, put_row, zeroed}
use Rattle.grammar.specs.Grammar.{over, Parts, end, node}
use Rattle.grammar.specs.Limits.{zeros, inside}
use Rattle.grammar.specs.Table.{a}
use Rattle.grammar.specs.Kinds.{TREE, DECLARATIONS}
use Rattle.grammar.specs.Language.{roto}
use Rattle.grammar.specs.Readings.{Reading, Text, reads_end, reads_phrase}
use Rattle.grammar.specs.Rows.{Row, Item, own, child, flat, count, sizes, children_of, Draft, blank, write, tree_row, rows_from, rows}
use Rattle.grammar.specs.Answers.{accepted, accepts}
use Rattle.grammar.proofs.Sizes.{sizes_children}
use Rattle.grammar.proofs.Checks.{roto_full}
use Rattle.answers.specs.Source.{source, look_of}
use Rattle.answers.specs.Entries.{room, table_for, Permitted, read}
use Rattle.answers.proofs.Ahead.{tokens_take}
use Rattle.entry.specs.Entries.{kept_rows}
use Rattle.entry.proofs.Stored.{zeroed_all, zeroed_behind, store_behind, flat_length}
use Rattle.keeping.proofs.Window.{roto_solid, on}
use Rattle.keeping.proofs.Lists.{in_list, in_none, in_tree}
use Rattle.keeping.proofs.Dropped.{pieces_keep, Fenced, sign_behind, declaration_upto}
use Rattle.parser.specs.Places.{plain_row}
use Rattle.parser.specs.Going.{store}
use Rattle.parser.proofs.Tables.{put_length}
use Rattle.salvage.specs.Rows.{Written, none, more, Through}
use Rattle.salvage.proofs.Rows.{flat_append}

module _ (s t : List ℕ) (long : length s ≡ length t) where
  written_upto : {m : ℕ} (f : Fenced s m) → ((k : ℕ) → k < m → byte_at s k ≡ byte_at t k) → {i : ℕ} {b : Draft} → Written s i b → length s - m ≤ length s - i → Written t i b
  written_upto f same none h = none
  written_upto f same (more w r) h =
      let g = on (roto false) (roto_full false) (roto_solid false) ℕ (source s).look (source s).piece (λ i. length s - i) (tokens_take s) (pieces_keep s) r in
      more (written_upto f same w (omega (arith, h, g))) (declaration_upto false s t long f same r h)

  -- what stands before a place stays in a text that is the same up to there
  pub written_stays : {i : ℕ} {b : Draft} → Written s i b → ((k : ℕ) → k < i → byte_at s k ≡ byte_at t k) → Written t i b
  written_stays none same = none
  written_stays (more w r) same = written_upto (sign_behind false s r) same (more w r) (omega arith)

-- they are the text's declarations
listed : {s : List ℕ} {i z : ℕ} {b : Draft} {q : Parts} → Written s i b → Reading (source s) (roto false) zeros (a DECLARATIONS ∷ []) i z q → (p : Parts) × Reading (source s) (roto false) zeros (a DECLARATIONS ∷ []) 0 z p × (write p blank ≡ write q b)
unfolding inside write
listed {q = q} none r = (q, r, refl)
listed {s} {q = q} (more w (reads_phrase {n = n} {a = c} {p = p} o t reads_end)) r =
    let x = listed w (reads_phrase (in_list false (source s) false) (reads_phrase o t r) reads_end) in
    (x.0, x.1, x.2)

count_children : (xs : List Item) → count (children_of xs) ≡ count xs
count_children [] = refl
count_children (own x ∷ xs) = count_children xs
count_children (child r ∷ xs) = ap suc (count_children xs)

tree_rows : (len : ℕ) (p : Parts) → rows true len (node TREE (a DECLARATIONS ∷ []) p end) ≡ (write p blank).rows ++ (tree_row len (write p blank) ∷ [])
unfolding rows rows_from write
tree_rows len p =
    let xs : List Item = (write p blank).items in
    ap (λ (n : ℕ). (write p blank).rows ++ (record { kind = kinds.TREE; start = 0; end = len; children = n; value = 0; detail = 0; size = suc (sizes (children_of xs)) } ∷ [])) (count_children xs)
    ∙ ap (λ (n : ℕ). (write p blank).rows ++ (record { kind = kinds.TREE; start = 0; end = len; children = count xs; value = 0; detail = 0; size = suc n } ∷ [])) (sizes_children xs)

-- a text that was read to its end
record Tree (s : List ℕ) (b : Draft) : Type 0 where
  parts : Parts
  text : Text (source s) (roto false) TREE 0 parts
  is : rows true (length s) parts ≡ b.rows ++ (tree_row (length s) b ∷ [])

tree_of : {s : List ℕ} {i : ℕ} {b : Draft} → Written s i b → (source s).look i ≡ over → Tree s b
unfolding inside write
tree_of {s} {i} {b} w e =
    let x = listed {q = node DECLARATIONS [] end end} w (reads_phrase (in_none false (source s) false) reads_end reads_end) in
    record {
      parts = node TREE (a DECLARATIONS ∷ []) x.0 end;
      text = record { stop = i; reads = reads_phrase (in_tree false (source s) false) x.1 reads_end; whole = e };
      is = tree_rows (length s) x.0 ∙ ap (λ (y : Draft). y.rows ++ (tree_row (length s) y ∷ [])) x.2;
    }

-- rows that stand first in a table where there is room for them, and zeros behind them
kept_table : (t : List ℕ) (rs : List Row) → (length rs ≤ length t / width → (rest : List ℕ) × (t ≡ flat rs ++ rest)) → kept_rows t (length rs) ≡ table_for (length t) (accepted rs)
kept_table t rs h = go (leb (length rs) (length t / width)) (leb→le (length rs) (length t / width))
  where
    fits : (rest : List ℕ) → t ≡ flat rs ++ rest → zeroed t (length rs * width) ≡ flat rs ++ replicate (length t - width * length rs) 0
    fits rest e =
        let f = flat_length rs in
        let l = ap length e ∙ length-append (flat rs) rest in
        let m : length rest ≡ length t - width * length rs = omega (arith, f, l) in
        ap (zeroed t) (sym f) ∙ ap (λ (x : List ℕ). zeroed x (length (flat rs))) e ∙ zeroed_behind (flat rs) rest ∙ ap (λ (n : ℕ). flat rs ++ replicate n 0) m

    go : (b : Bool) → (T b → length rs ≤ length t / width) → zeroed t (cond b (length rs * width) 0) ≡ cond b (flat rs ++ replicate (length t - width * length rs) 0) (replicate (length t) 0)
    go true k = let x = h (k tt) in fits x.0 x.1
    go false k = zeroed_all t

-- the tree's row behind them
module _ {s t : List ℕ} {n c : ℕ} (x : Through s t n c) {t' : List ℕ} (put : t' ≡ put_row t n (plain_row kinds.TREE 0 (length s) c) (n + 1)) where
  b : Draft
  b = x.upto.draft

  all : List Row
  all = b.rows ++ (tree_row (length s) b ∷ [])

  put_is : t' ≡ store t n (tree_row (length s) b ∷ [])
  unfolding b store
  put_is =
      let k = x.upto.rows in
      let z = x.upto.sized in
      let m : n + 1 ≡ suc (sizes x.upto.draft.items) = omega (arith, k, z) in
      put
      ∙ ap (λ (q : ℕ). put_row t n (plain_row kinds.TREE 0 (length s) q) (n + 1)) (sym x.upto.children)
      ∙ ap (put_row t n (plain_row kinds.TREE 0 (length s) (count x.upto.draft.items))) m

  all_length : length all ≡ n + 1
  unfolding all b
  all_length = let l = length-append x.upto.draft.rows (tree_row (length s) x.upto.draft ∷ []) in let k = x.upto.rows in omega (arith, l, k)

  -- where there is room for all of them
  all_held : n + 1 ≤ length t / width → (rest : List ℕ) × (t' ≡ flat all ++ rest)
  unfolding all b
  all_held h =
      let y = x.upto.held (omega (arith, h)) in
      let k = x.upto.rows in
      let f = flat_length x.upto.draft.rows in
      let l = ap length y.1 ∙ length-append (flat x.upto.draft.rows) y.0 in
      let v = x.upto.whole in
      behind y.0 y.1 (omega (arith, f, k)) (length t / width - n) (omega (arith, l, f, k, v, h)) (omega (arith, h))
    where
      behind : (rest : List ℕ) → t ≡ flat x.upto.draft.rows ++ rest → length (flat x.upto.draft.rows) ≡ n * width → (m : ℕ) → length rest ≡ m * width → 1 ≤ m → (c : List ℕ) × (t' ≡ flat (x.upto.draft.rows ++ (tree_row (length s) x.upto.draft ∷ [])) ++ c)
      behind rest e f m l h =
          let w = store_behind (flat x.upto.draft.rows) rest n m (tree_row (length s) x.upto.draft ∷ []) f l h in
          (w.0, put_is ∙ ap (λ (z : List ℕ). store z n (tree_row (length s) x.upto.draft ∷ [])) e ∙ w.1 ∙ sym (append_assoc (flat x.upto.draft.rows) (flat (tree_row (length s) x.upto.draft ∷ [])) w.0) ∙ ap (λ (z : List ℕ). z ++ w.0) (sym (flat_append x.upto.draft.rows (tree_row (length s) x.upto.draft ∷ []))))

  same_look : (source s).look x.upto.stop ≡ over
  unfolding step_at
  same_look = ap (look_of s) (let e : step_at s x.upto.stop ≡ step_at s x.place = rw x.upto.skips refl in e) ∙ x.ends

  -- what (a) says of the text, with what is left over of the lent table behind the rows
  pub permits : (tail : List ℕ) → length tail < width → whole_of s ≡ (Ok tt) → {y : Answer} {u : List ℕ} → (y ≡ counted (length s) (n + 1) (room (length (t' ++ tail)))) × (u ≡ kept_rows (t' ++ tail) (n + 1)) → Permitted false true s (length (t' ++ tail)) y u
  unfolding all b
  permits tail short fine {y} {u} (e, f) =
      let v = tree_of x.upto.written same_look in
      let l = all_length in
      subst (λ (q : Answer). Permitted false true s (length (t' ++ tail)) q u) (sym (e ∙ ap (λ (k : ℕ). counted (length s) k (room (length (t' ++ tail)))) (sym l)))
      (subst (λ (q : List ℕ). Permitted false true s (length (t' ++ tail)) (counted (length s) (length all) (room (length (t' ++ tail)))) q) (sym (f ∙ ap (kept_rows (t' ++ tail)) (sym l) ∙ kept_table (t' ++ tail) all fits))
      (subst (λ (q : List Row). Permitted false true s (length (t' ++ tail)) (counted (length s) (length q) (room (length (t' ++ tail)))) (table_for (length (t' ++ tail)) (accepted q))) v.is (read fine (accepts v.text))))
    where
      fits : length all ≤ length (t' ++ tail) / width → (rest : List ℕ) × (t' ++ tail ≡ flat all ++ rest)
      fits h =
          let l = all_length in
          let p = ap length put ∙ put_length t n (plain_row kinds.TREE 0 (length s) c) (n + 1) in
          let q = length-append t' tail in
          let v = x.upto.whole in
          let y = all_held (omega (arith, h, l, p, q, v, short)) in
          (y.0 ++ tail, ap (λ (z : List ℕ). z ++ tail) y.1 ∙ append_assoc (flat all) y.0 tail)
