-- The rows of declarations that are read one by one, each behind those before it.
use mathlib.Core.Path.{◌≡◌, refl, sym, ap, subst, ◌∙◌}
use mathlib.Core.List.{List, [], ◌∷◌, ◌++◌, append_assoc}
use mathlib.Core.Bool.{Bool, true, false, cond}
use Prim.Native.Nat.{ℕ, ◌+◌, ◌-◌, ◌*◌, ◌/◌, ◌≤◌, ◌<◌}
use native.Mathlib.Omega.{arith}
use lib.ListN.{length, take, drop, length-append, length-drop}
use lib.Seq.{length-take-le, take-append_seam, drop-append_seam}
use lib.Dec.{T, leb, leb→le}
use borrow.Author.Tests.{le-leb, lt-leb}
use Rattle.rows.specs.Rows.{width}
use Rattle.grammar.specs.Rows.{Row, numbers, flat}
use Rattle.entry.proofs.Stored.{store_behind, flat_length}
use Rattle.parser.specs.Going.{store}
use Rattle.salvage.specs.Rows.{part_from}

pub flat_append : (xs ys : List Row) → flat (xs ++ ys) ≡ flat xs ++ flat ys
flat_append [] ys = refl
flat_append (x ∷ xs) ys = ap (λ (l : List ℕ). numbers x ++ l) (flat_append xs ys)

-- n rows in a table that has room for them
abbrev Held : List Row → ℕ → List ℕ → Type 0
Held rs n t = n ≤ length t / width → (rest : List ℕ) × (t ≡ flat rs ++ rest)

pub part_in : (size n : ℕ) → n ≤ size / width → part_from size n ≡ n * width
part_in size n h = rw (le-leb n (size / width) h) refl

pub part_out : (size n : ℕ) → size / width < n → size ≡ part_from size n
part_out size n h = rw (lt-leb n (size / width) h) refl

pub part_bound : (size n : ℕ) → part_from size n ≤ size
part_bound size n = go (leb n (size / width)) refl
  where
    go : (b : Bool) → leb n (size / width) ≡ b → cond b (n * width) size ≤ size
    go true e = let h = leb→le n (size / width) (subst T (sym e) tt) in omega arith
    go false e = omega arith

module _ (rs : List Row) (n : ℕ) (long : length rs ≡ n) (t : List ℕ) (whole : length t / width * width ≡ length t) (held : Held rs n t) (u : List ℕ) {t' : List ℕ} (back : t' ≡ take (part_from (length t) n) t ++ u) (size : length u ≡ length (drop (part_from (length t) n) t)) where
  pub back_length : length t' ≡ length t
  back_length =
      let b = part_bound (length t) n in
      let x = length-append (take (part_from (length t) n) t) u in
      let y = length-take-le (part_from (length t) n) t b in
      let z = length-drop (part_from (length t) n) t in
      ap length back ∙ omega (arith, b, x, y, z, size)

  module _ (h : n ≤ length t / width) where
    rest : List ℕ
    rest = (held h).0

    from : part_from (length t) n ≡ length (flat rs)
    from = let f = flat_length rs in part_in (length t) n h ∙ omega (arith, f, long)

    first : take (part_from (length t) n) t ≡ flat rs
    unfolding rest
    first = ap (λ (m : ℕ). take m t) from ∙ ap (take (length (flat rs))) (held h).1 ∙ take-append_seam (flat rs) (held h).0

    last : drop (part_from (length t) n) t ≡ rest
    unfolding rest
    last = ap (λ (m : ℕ). drop m t) from ∙ ap (drop (length (flat rs))) (held h).1 ∙ drop-append_seam (flat rs) (held h).0

    -- what was there before stays
    stays : t' ≡ flat rs ++ u
    stays = back ∙ ap (λ (l : List ℕ). l ++ u) first

  pub held_still : Held rs n t'
  held_still h = let e = back_length in (u, stays (omega (arith, h, e)))

  pub held_more : (ds : List Row) → u ≡ store (drop (part_from (length t) n) t) 0 ds → Held (rs ++ ds) (n + length ds) t'
  unfolding rest
  held_more ds e h =
      let len = back_length in
      let k : n ≤ length t / width = omega (arith, h, len) in
      let f = flat_length rs in
      let z = ap length (held k).1 ∙ length-append (flat rs) (held k).0 in
      let m : ℕ = length t / width - n in
      let l : length (held k).0 ≡ m * width = omega (arith, z, f, long, whole, k) in
      let w = store_behind [] (held k).0 0 m ds refl l (omega (arith, h, len)) in
      (w.0, stays k ∙ ap (λ (l : List ℕ). flat rs ++ l) (e ∙ ap (λ (l : List ℕ). store l 0 ds) (last k) ∙ w.1) ∙ sym (append_assoc (flat rs) (flat ds) w.0) ∙ ap (λ (l : List ℕ). l ++ w.0) (sym (flat_append rs ds)))
