-- The rows of an accepted source stand in the table as its trees do.
use mathlib.Core.Path.{◌≡◌, refl, sym, ap, subst, ◌∙◌}
use mathlib.Core.List.{List, [], ◌∷◌, ◌++◌, append_assoc, append-nil, head-eq_of_cons-eq, tail-eq_of_cons-eq}
use mathlib.Core.Bool.{true}
use Prim.Native.Nat.{ℕ, suc, ◌+◌, ◌*◌, ◌≤◌}
use native.Mathlib.Omega.{arith}
use lib.ListN.{length, get_or, length-append}
use lib.Seq.{get_or-append-add}
use Rattle.rows.specs.Rows.{width}
use Rattle.grammar.specs.Grammar.{Parts}
use Rattle.grammar.specs.Rows.{Row, numbers, flat}
use Rattle.answers.specs.Demands.{rows_of}
use Rattle.canon.specs.Trees.{Forest, none, tree, label, tree_of}
use Rattle.forests.specs.Planted.{unmarked, marked_from, marked, forest}
use Rattle.forests.specs.Told.{Told, told, tells, trees, count}
use Rattle.forests.proofs.Grown.{tells_length, rows_grow, rows_told}
use Rattle.entry.proofs.Stored.{flat_length}
use Rattle.setter.specs.Waiting.{row_at, Sits, Planted}

flat_append : (xs ys : List Row) → flat (xs ++ ys) ≡ flat xs ++ flat ys
flat_append [] ys = refl
flat_append (r ∷ xs) ys = ap (λ (l : List ℕ). numbers r ++ l) (flat_append xs ys)

-- the row behind others
row_there : (xs ys : List Row) (r : Row) (z : List ℕ) → row_at (flat (xs ++ (r ∷ ys)) ++ z) (length xs) ≡ r
row_there xs ys r z =
    let e : flat (xs ++ (r ∷ ys)) ++ z ≡ flat xs ++ (flat (r ∷ ys) ++ z) = ap (λ (l : List ℕ). l ++ z) (flat_append xs (r ∷ ys)) ∙ append_assoc (flat xs) (flat (r ∷ ys)) z in
    let at : (k : ℕ) → get_or (flat (xs ++ (r ∷ ys)) ++ z) (length xs * width + k) 0 ≡ get_or (flat (r ∷ ys) ++ z) k 0 = λ k. ap (λ (l : List ℕ). get_or l (length xs * width + k) 0) e ∙ ap (λ (n : ℕ). get_or (flat xs ++ (flat (r ∷ ys) ++ z)) (n + k) 0) (sym (flat_length xs)) ∙ get_or-append-add (flat xs) (flat (r ∷ ys) ++ z) k 0 in
    let first = ap (λ (n : ℕ). get_or (flat (xs ++ (r ∷ ys)) ++ z) n 0) {x = length xs * width} {y = length xs * width + 0} (omega arith) ∙ at 0 in
    λ i. record { kind = first i; start = at 1 i; end = at 2 i; children = at 3 i; value = at 4 i; detail = at 5 i; size = at 6 i }

row_room : (xs ys : List Row) (r : Row) (z : List ℕ) → suc (length xs) * width ≤ length (flat (xs ++ (r ∷ ys)) ++ z)
row_room xs ys r z =
    let a = length-append (flat (xs ++ (r ∷ ys))) z in
    let b = flat_length (xs ++ (r ∷ ys)) in
    let c = length-append xs (r ∷ ys) in
    omega arith

-- rows that tell a list tell each part of it
abbrev tell_row : List ℕ → Row → Told
tell_row s r = record { label = label s r; children = r.children; size = r.size }

record Split (s : List ℕ) (rs : List Row) (xs : List Told) (x : Told) (ys : List Told) : Type 0 where
  before : List Row
  row : Row
  after : List Row
  whole : rs ≡ before ++ (row ∷ after)
  tells_before : told s before ≡ xs
  tells_row : tell_row s row ≡ x
  tells_after : told s after ≡ ys

split : (s : List ℕ) (rs : List Row) (xs : List Told) (x : Told) (ys : List Told) → told s rs ≡ xs ++ (x ∷ ys) → Split s rs xs x ys
split s [] [] x ys e = absurd (let n = ap length e in omega (arith, n))
split s [] (y ∷ xs) x ys e = absurd (let n = ap length e in omega (arith, n))
split s (r ∷ rs) [] x ys e = record { before = []; row = r; after = rs; whole = refl; tells_before = refl; tells_row = head-eq_of_cons-eq e; tells_after = tail-eq_of_cons-eq e }
split s (r ∷ rs) (y ∷ xs) x ys e =
    let k = split s rs xs x ys (tail-eq_of_cons-eq e) in
    record { before = r ∷ k.before; row = k.row; after = k.after; whole = ap (λ (l : List Row). r ∷ l) k.whole; tells_before = (λ i. head-eq_of_cons-eq e i ∷ k.tells_before i); tells_row = k.tells_row; tells_after = k.tells_after }

told_length : (s : List ℕ) (rs : List Row) → length (told s rs) ≡ length rs
told_length s [] = refl
told_length s (r ∷ rs) = ap suc (told_length s rs)

-- behind `pre` and before `post`, rows that tell a forest are its own
sits : (s z : List ℕ) (f : Forest) (pre mid post : List Row) → told s mid ≡ tells f → Sits s (flat (pre ++ (mid ++ post)) ++ z) f (length pre)
unfolding Sits tells
sits s z none pre mid post e = tt
sits s z (tree a kids ts) pre mid post e =
    let k = split s mid (tells kids) (record { label = a; children = trees kids; size = suc (count kids) }) (tells ts) e in
    let n : length k.before ≡ count kids = sym (told_length s k.before) ∙ ap length k.tells_before ∙ tells_length s kids in
    let whole : pre ++ (mid ++ post) ≡ (pre ++ k.before) ++ (k.row ∷ (k.after ++ post)) = ap (λ (l : List Row). pre ++ (l ++ post)) k.whole ∙ ap (λ (l : List Row). pre ++ l) (append_assoc k.before (k.row ∷ k.after) post) ∙ sym (append_assoc pre k.before (k.row ∷ (k.after ++ post))) in
    let at : length (pre ++ k.before) ≡ length pre + count kids = length-append pre k.before ∙ ap (λ (m : ℕ). length pre + m) n in
    let t : List ℕ = flat (pre ++ (mid ++ post)) ++ z in
    let here : row_at t (length pre + count kids) ≡ k.row = ap (λ (m : ℕ). row_at t m) (sym at) ∙ ap (λ (l : List Row). row_at (flat l ++ z) (length (pre ++ k.before))) whole ∙ row_there (pre ++ k.before) (k.after ++ post) k.row z in
    let room : suc (length pre + count kids) * width ≤ length t = subst (λ (l : List Row). suc (length pre + count kids) * width ≤ length (flat l ++ z)) (sym whole) (subst (λ (m : ℕ). suc m * width ≤ length (flat ((pre ++ k.before) ++ (k.row ∷ (k.after ++ post))) ++ z)) at (row_room (pre ++ k.before) (k.after ++ post) k.row z)) in
    let under = subst (λ (l : List Row). Sits s (flat l ++ z) kids (length pre)) (ap (λ (l : List Row). pre ++ l) (sym (append_assoc k.before (k.row ∷ k.after) post) ∙ ap (λ (l : List Row). l ++ post) (sym k.whole))) (sits s z kids pre k.before (k.row ∷ (k.after ++ post)) k.tells_before) in
    let next : length ((pre ++ k.before) ++ (k.row ∷ [])) ≡ length pre + suc (count kids) = length-append (pre ++ k.before) (k.row ∷ []) ∙ ap (λ (m : ℕ). m + 1) at ∙ omega arith in
    let behind : ((pre ++ k.before) ++ (k.row ∷ [])) ++ (k.after ++ post) ≡ pre ++ (mid ++ post) = append_assoc (pre ++ k.before) (k.row ∷ []) (k.after ++ post) ∙ sym whole in
    let later = subst (λ (m : ℕ). Sits s t ts m) next (subst (λ (l : List Row). Sits s (flat l ++ z) ts (length ((pre ++ k.before) ++ (k.row ∷ [])))) behind (sits s z ts ((pre ++ k.before) ++ (k.row ∷ [])) k.after post k.tells_after)) in
    (under, ap (label s) here ∙ ap (λ (x : Told). x.label) k.tells_row, record { room = room; children = ap (λ (r : Row). r.children) here ∙ ap (λ (x : Told). x.children) k.tells_row; size = ap (λ (r : Row). r.size) here ∙ ap (λ (x : Told). x.size) k.tells_row }, later)

one_tree : (s : List ℕ) (p : Parts) → trees (forest s true p) ≡ 1
unfolding marked marked_from unmarked trees
one_tree s p = refl

pub planted : (s z : List ℕ) (p : Parts) → Planted s (flat (rows_of true s p) ++ z) (length (rows_of true s p)) (tree_of s (rows_of true s p))
planted s z p = subst (Planted s (flat rs ++ z) (length rs)) (sym (rows_grow s (length s) p)) (record { sits = all_sit; single = one_tree s p; all = sym (tells_length s f) ∙ sym (ap length (rows_told s true (length s) p)) ∙ told_length s rs })
  where
    rs : List Row
    rs = rows_of true s p

    f : Forest
    f = forest s true p

    all_sit : Sits s (flat rs ++ z) f 0
    all_sit = subst (λ (l : List Row). Sits s (flat l ++ z) f 0) (append-nil rs) (sits s z f [] rs [] (rows_told s true (length s) p))
