-- The search equals the walk over all rows, where rows are those of trees and lie in their parents; so for our reader's tables.
use mathlib.Core.Path.{◌≡◌, refl, sym, ap, ◌∙◌, subst}
use mathlib.Core.List.{List, [], ◌∷◌, ◌++◌, append_assoc, append-nil}
use mathlib.Core.Bool.{Bool, true, false, not, ◌&&◌, cond}
use Prim.Native.Nat.{ℕ, suc, ◌+◌, ◌*◌, ◌-◌, ◌/◌, ◌≤◌, ◌<◌}
use lib.Dec.{leb, ltb, eqb}
use lib.ListN.{length, get_or, take, length-append, replicate}
use lib.Seq.{get_or-append-add, take_at}
use native.Mathlib.Nat.{mul-div_cancel}
use native.Mathlib.Omega.{arith}
use borrow.Author.Tests.{leb-true, ltb-true, le-leb, lt-ltb, le-ltb, eq-eqb, ne_eqb, eqb-true}
use Rattle.chars.specs.declared.Answer.{Answer}
use Rattle.rows.specs.Rows.{width, room}
use Rattle.grammar.specs.Rows.{Row, numbers, flat, rows}
use Rattle.grammar.specs.Subtrees.{total}
use Rattle.grammar.proofs.Subtrees.{trees_length}
use Rattle.answers.proofs.Determined.{accepted_reads}
use Rattle.spans.specs.Nested.{Inside, AllInside, nothing, also, Nested, none, more}
use Rattle.spans.proofs.Order.{nested_trees, all_under}
use Rattle.spans.proofs.Places.{source_nested}
use Rattle.nodes.specs.declared.Node.{Node}
use Rattle.nodes.specs.Nodes.{START, END, CHILDREN, SIZE, number_at, node_at, holds, is_leaf, wrong_size}
use Rattle.nodes.specs.Search.{found, Search, leaf, before, past, Permitted, walk, walked}
use Rattle.nodes.specs.Search as search
use Rattle.nodes.specs.Reader.{finished, SearchWalks}
use Rattle.nodes.proofs.Search.{one_answer}

-- what the search looks at of a row
abbrev node_of : Row → Node
node_of r = record { start = r.start; end = r.end; children = r.children; size = r.size }

flat_append : (xs ys : List Row) → flat (xs ++ ys) ≡ flat xs ++ flat ys
flat_append [] ys = refl
flat_append (r ∷ xs) ys = ap (λ (zs : List ℕ). numbers r ++ zs) (flat_append xs ys)

flat_length : (rs : List Row) → length (flat rs) ≡ length rs * width
flat_length [] = refl
flat_length (r ∷ rs) = let h = flat_length rs in omega arith

flat_room : (rs : List Row) → room (flat rs) ≡ length rs
flat_room rs = ap (λ (n : ℕ). n / width) (flat_length rs) ∙ mul-div_cancel (length rs) {n = width} (omega arith)

number_there : (xs : List Row) (ys : List ℕ) (k : ℕ) → number_at (flat xs ++ ys) (length xs) k ≡ get_or ys k 0
number_there xs ys k = ap (λ (n : ℕ). get_or (flat xs ++ ys) (n + k) 0) (sym (flat_length xs)) ∙ get_or-append-add (flat xs) ys k 0

row_there : (xs : List Row) (r : Row) (ys : List Row) → node_at (flat (xs ++ (r ∷ ys))) (length xs) ≡ node_of r
unfolding node_at
row_there xs r ys =
    let t : List ℕ = flat (r ∷ ys) in
    ap (λ (l : List ℕ). node_at l (length xs)) (flat_append xs (r ∷ ys))
    ∙ cc (number_there xs t START, number_there xs t END, number_there xs t CHILDREN, number_there xs t SIZE)

no_kids : (kids : List Row) → length kids ≡ 0 → total kids ≡ 0
no_kids [] e = refl
no_kids (k ∷ kids) e = absurd (omega (arith, e))

-- the size of a row over its subtree isn't wrong
right_size : (n : ℕ) (r : Node) → 0 < r.size → r.size ≤ n → (r.children ≡ 0 → r.size ≡ 1) → wrong_size n r ≡ false
right_size n r a b c =
    let x : eqb r.size 0 ≡ false = ne_eqb r.size 0 (λ e. omega (arith, a, e)) in
    let y : ltb n r.size ≡ false = le-ltb n r.size b in
    rw (x, y) (go (is_leaf r) (eqb-true r.children 0))
  where
    go : (l : Bool) → (l ≡ true → r.children ≡ 0) → l && not (eqb r.size 1) ≡ false
    go true f = let e : eqb r.size 1 ≡ true = eq-eqb r.size 1 (c (f refl)) in rw e
    go false f = refl

-- what doesn't hold a byte holds no row that does
and_true : (a b : Bool) → a && b ≡ true → (a ≡ true) × (b ≡ true)
and_true true b e = (refl, e)
and_true false b e = let z : ◌≡◌ {A = ℕ} 0 1 = cc in absurd (omega arith)

holds_not : (position : ℕ) (p r : Row) → Inside p r → holds position (node_of p) ≡ false → holds position (node_of r) ≡ false
holds_not position p r h e = go (holds position (node_of r)) refl
  where
    go : (b : Bool) → holds position (node_of r) ≡ b → b ≡ false
    go false f = refl
    go true f =
        let k = and_true (leb r.start position) (ltb position r.end) f in
        let a = leb-true r.start position k.0 in
        let b = ltb-true position r.end k.1 in
        let x : leb p.start position ≡ true = le-leb p.start position (omega (arith, a, h.start)) in
        let y : ltb position p.end ≡ true = lt-ltb position p.end (omega (arith, b, h.end)) in
        sym (rw (x, y) refl) ∙ e

module _ (rs : List Row) (position : ℕ) where
  abbrev table : List ℕ
  table = flat rs

  there : (xs : List Row) (r : Row) (ys : List Row) → rs ≡ xs ++ (r ∷ ys) → node_at table (length xs) ≡ node_of r
  there xs r ys e = ap (λ (zs : List Row). node_at (flat zs) (length xs)) e ∙ row_there xs r ys

  walk_here : (n : ℕ) → is_leaf (node_at table n) ≡ true → holds position (node_at table n) ≡ true → walk table position (suc n) ≡ found n (node_at table n)
  unfolding walk
  walk_here n l h = rw (l, h) refl

  walk_inner : (n : ℕ) → is_leaf (node_at table n) ≡ false → walk table position (suc n) ≡ walk table position n
  unfolding walk
  walk_inner n l = rw l refl

  walk_out : (n : ℕ) → holds position (node_at table n) ≡ false → walk table position (suc n) ≡ walk table position n
  unfolding walk
  walk_out n h = go (is_leaf (node_at table n)) (holds position (node_at table n)) h
    where
      go : (l b : Bool) → b ≡ false → cond (l && b) (found n (node_at table n)) (walk table position n) ≡ walk table position n
      go true b e = rw e refl
      go false b e = refl

  -- rows in one that doesn't hold the byte
  walk_past : (p : Row) → holds position (node_of p) ≡ false → (xs ys zs : List Row) → rs ≡ xs ++ (ys ++ zs) → AllInside p ys → walk table position (length xs + length ys) ≡ walk table position (length xs)
  walk_past p f xs [] zs e nothing = ap (walk table position) (omega arith)
  walk_past p f xs (r ∷ ys) zs e (also h hs) =
      let l : length (xs ++ (r ∷ [])) ≡ length xs + 1 = length-append xs (r ∷ []) in
      let n : length xs + suc (length ys) ≡ length (xs ++ (r ∷ [])) + length ys = omega (arith, l) in
      let m : length (xs ++ (r ∷ [])) ≡ suc (length xs) = omega (arith, l) in
      ap (walk table position) n
      ∙ walk_past p f (xs ++ (r ∷ [])) ys zs (e ∙ sym (append_assoc xs (r ∷ []) (ys ++ zs))) hs
      ∙ ap (walk table position) m
      ∙ walk_out (length xs) (ap (holds position) (there xs r (ys ++ zs) e) ∙ holds_not position p r h f)

  -- what the search answers from n rows on is what the walk does
  abbrev Agrees : ℕ → Type 0
  Agrees n = Search table position n (walk table position n)

  -- behind the rows of a row's children, `m` rows before them
  agrees_row : (n m : ℕ) (r : Row) → node_at table n ≡ node_of r → m + r.size ≡ suc n → 0 < r.size → (r.children ≡ 0 → r.size ≡ 1)
      → Agrees m → Agrees n → (holds position (node_of r) ≡ false → walk table position n ≡ walk table position m) → Agrees (suc n)
  agrees_row n m r e z some one g h skip = go (holds position (node_at table n)) (is_leaf (node_at table n)) refl refl
    where
      good : wrong_size (suc n) (node_at table n) ≡ false
      good = ap (wrong_size (suc n)) e ∙ right_size (suc n) (node_of r) some (omega (arith, z)) one

      go : (b l : Bool) → holds position (node_at table n) ≡ b → is_leaf (node_at table n) ≡ l → Agrees (suc n)
      go true true x y = subst (Search table position (suc n)) (sym (walk_here n y x)) (leaf good x y)
      go true false x y = subst (Search table position (suc n)) (sym (walk_inner n y)) (before good x y h)
      go false l x y =
          let w : r.size ≡ (node_at table n).size = ap (λ (q : Node). q.size) (sym e) in
          let k : m ≡ suc n - (node_at table n).size = omega (arith, w, z) in
          let q : walk table position (suc n) ≡ walk table position m = walk_out n x ∙ skip (ap (holds position) (sym e) ∙ x) in
          subst (Search table position (suc n)) (sym q) (past good x (subst (λ (i : ℕ). Search table position i (walk table position m)) k g))

  -- the search agrees behind these rows, wherever they stand, if it agrees before them
  abbrev Passes : List Row → Type 0
  Passes fs = (xs zs : List Row) → rs ≡ xs ++ (fs ++ zs) → Agrees (length xs) → Agrees (length xs + length fs)

  -- one tree more, behind `os`: the root r with `bs` under it
  one_tree : {kids : List Row} (r : Row) (os bs all : List Row) → Passes os → Passes bs → Nested bs kids → r.children ≡ length kids → r.size ≡ suc (total kids) → AllInside r kids → all ≡ os ++ (bs ++ (r ∷ [])) → Passes all
  one_tree {kids} r os bs all pass-os pass-bs u c z i a xs zs e g =
      subst Agrees last (agrees_row (length ((xs ++ os) ++ bs)) (length xs + length os) r (there ((xs ++ os) ++ bs) r zs at_r) size (omega (arith, z)) one front under (λ f. ap (walk table position) far ∙ walk_past r f (xs ++ os) bs (r ∷ zs) at_bs (all_under u i) ∙ ap (walk table position) (length-append xs os)))
    where
      at_os : rs ≡ xs ++ (os ++ ((bs ++ (r ∷ [])) ++ zs))
      at_os = e ∙ ap (λ (l : List Row). xs ++ (l ++ zs)) a ∙ ap (λ (l : List Row). xs ++ l) (append_assoc os (bs ++ (r ∷ [])) zs)

      at_bs : rs ≡ (xs ++ os) ++ (bs ++ (r ∷ zs))
      at_bs = at_os ∙ sym (append_assoc xs os ((bs ++ (r ∷ [])) ++ zs)) ∙ ap (λ (l : List Row). (xs ++ os) ++ l) (append_assoc bs (r ∷ []) zs)

      at_r : rs ≡ ((xs ++ os) ++ bs) ++ (r ∷ zs)
      at_r = at_bs ∙ sym (append_assoc (xs ++ os) bs (r ∷ zs))

      far : length ((xs ++ os) ++ bs) ≡ length (xs ++ os) + length bs
      far = length-append (xs ++ os) bs

      size : (length xs + length os) + r.size ≡ suc (length ((xs ++ os) ++ bs))
      size = let l = length-append xs os in let n : length bs ≡ total kids = trees_length (nested_trees u) in omega (arith, l, far, n, z)

      one : r.children ≡ 0 → r.size ≡ 1
      one f = z ∙ ap suc (no_kids kids (sym c ∙ f))

      front : Agrees (length xs + length os)
      front = pass-os xs ((bs ++ (r ∷ [])) ++ zs) at_os g

      under : Agrees (length ((xs ++ os) ++ bs))
      under = subst Agrees (sym far) (pass-bs (xs ++ os) (r ∷ zs) at_bs (subst Agrees (sym (length-append xs os)) front))

      last : suc (length ((xs ++ os) ++ bs)) ≡ length xs + length all
      last = let l = length-append xs os in let k = ap length a ∙ length-append os (bs ++ (r ∷ [])) in let m = length-append bs (r ∷ []) in omega (arith, l, far, k, m)

  agrees_trees : {fs tops : List Row} → Nested fs tops → Passes fs
  agrees_trees none xs zs e g = let k : length xs ≡ length xs + 0 = omega arith in subst Agrees k g
  agrees_trees (more {all = all} {rs = os} {below = bs} r t u c z i a b) xs zs e g = one_tree r os bs all (agrees_trees t) (agrees_trees u) u c z i a xs zs e g

  -- the search equals the walk, for every table of nested trees
  pub search_walks : {roots : List Row} {a : Answer} → Nested rs roots → Permitted (flat rs) position a → a ≡ walked (flat rs) position
  unfolding walk
  search_walks t s =
      let g = agrees_trees t [] [] (sym (append-nil rs)) search.none in
      let n : 0 + length rs ≡ room (flat rs) = omega (arith, flat_room rs) in
      one_answer (flat rs) position s (subst Agrees n g)

-- so for every table that our reader hands back
pub reader_walks : (tests tree : Bool) (s : List ℕ) (size : ℕ) → SearchWalks tests tree s size
reader_walks tests tree s size = record {
  equal = λ {a} {b} {t} x e position y.
      let k = accepted_reads tests tree s size x e in
      let rs : List Row = rows tree (length s) k.parts in
      let n : length (flat rs) ≡ a.count * width = flat_length rs ∙ ap (λ (q : Answer). q.count * width) (sym k.answer) in
      let f : finished a t ≡ flat rs = ap (take (a.count * width)) k.table ∙ take_at (flat rs) (replicate (size - width * length rs) 0) (a.count * width) n in
      search_walks rs position (source_nested s tests tree k.text).1 (subst (λ (l : List ℕ). Permitted l position b) f y) ∙ ap (λ (l : List ℕ). walked l position) (sym f);
}
