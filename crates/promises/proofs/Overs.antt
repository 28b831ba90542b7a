-- Phrases that each end with the next, read by a loop: what the innermost answers gives the answer of the outermost, once
-- the rows of those between are written over it.
use Rattle.std.specs.Prelude.{Ok, Err}
use mathlib.Core.Path.{◌≡◌, refl, sym, ap, subst, ◌∙◌}
use mathlib.Core.List.{List}
use Prim.Native.Nat.{ℕ, zero, suc, ◌-◌, ◌≤◌, ◌<◌}
use lib.ListN.{length, get_or, set, get_or-eq_default}
use lib.Seq.{get_or-set_same, get_or-set_other}
use native.Mathlib.Omega.{arith}
use Rattle.tokens.specs.declared.Refusal.{Refusal}
use Rattle.rows.specs.declared.Row.{Row}
use Rattle.parser.specs.declared.Node.{Node}
use Rattle.parser.specs.declared.Here.{Here}
use Rattle.parser.specs.Results.{Read}
use Rattle.parser.specs.Places.{later, node_of, put_over}
use Rattle.parser.specs.Going.{Phrase, Answers}
use Rattle.promises.specs.Promises.{over_row, over_read, over_table}

-- a list that has the same below an index, and this there
pub record Pushed (xs : List ℕ) (n x : ℕ) (ys : List ℕ) : Type 0 where
  pub below : (i : ℕ) → i < n → get_or ys i 0 ≡ get_or xs i 0
  pub there : get_or ys n 0 ≡ x

-- f₀ ends with f, n phrases further in
pub record Over (f₀ f : Phrase) (starts sinces details : List ℕ) (k c n : ℕ) : Type 0 where
  pub so : (r : Read) (t : List ℕ) → Answers f 1 r t → Answers f₀ 1 (over_read starts details k c n r) (over_table starts sinces details k c n r t)

pub over_none : {f : Phrase} {starts sinces details : List ℕ} {k c : ℕ} → Over f f starts sinces details k c 0
unfolding over_read over_table
over_none = record { so = λ r t u. u }

-- a refusal stays what it is
pub over_refused : {f₀ f : Phrase} {starts sinces details : List ℕ} {k c n : ℕ} {r : Read} {t : List ℕ} {e : Refusal} → Over f₀ f starts sinces details k c n → Answers f 1 r t → r ≡ Err e → Answers f₀ 1 r t
unfolding over_read over_table
over_refused {f₀} {f} {starts} {sinces} {details} {k} {c} {n} {r} {t} {e} o u q = subst (λ (x : Read). Answers f₀ 1 x t) (sym q) (go n (o.so (Err e) t (subst (λ (x : Read). Answers f 1 x t) q u)))
  where
    go : (n : ℕ) → Answers f₀ 1 (over_read starts details k c n (Err e)) (over_table starts sinces details k c n (Err e) t) → Answers f₀ 1 (Err e) t
    go zero u = u
    go (suc n) u = u

-- the innermost answered, and the rows were written
pub over_ends : {f₀ f : Phrase} {starts sinces details : List ℕ} {k c n : ℕ} {r r' : Read} {t t' : List ℕ} → Over f₀ f starts sinces details k c n → Answers f 1 r t → r' ≡ over_read starts details k c n r → t' ≡ over_table starts sinces details k c n r t → Answers f₀ 1 r' t'
over_ends {f₀} {f} {starts} {sinces} {details} {k} {c} {n} {r} {r'} {t} o u p q = subst (Answers f₀ 1 r') (sym q) (subst (λ (x : Read). Answers f₀ 1 x (over_table starts sinces details k c n r t)) (sym p) (o.so r t u))

-- rows below an index depend on what the lists have there
module _ (xs zs ys xs' zs' ys' : List ℕ) (k c : ℕ) where
  same_row : (n : ℕ) (m : Node) → get_or xs' n 0 ≡ get_or xs n 0 → get_or ys' n 0 ≡ get_or ys n 0 → over_row xs' ys' k c n m ≡ over_row xs ys k c n m
  same_row n m p q = ap (λ (x : ℕ). record { kind = k; start = x; end = m.end; children = c; value = 0; detail = get_or ys' n 0 }) p ∙ ap (λ (y : ℕ). record { kind = k; start = get_or xs n 0; end = m.end; children = c; value = 0; detail = y }) q

  same_over : (A : Read → List ℕ → Type 0) (n : ℕ) → ((i : ℕ) → i < n → get_or xs' i 0 ≡ get_or xs i 0) → ((i : ℕ) → i < n → get_or zs' i 0 ≡ get_or zs i 0) → ((i : ℕ) → i < n → get_or ys' i 0 ≡ get_or ys i 0) → (r : Read) (t : List ℕ) → A (over_read xs ys k c n r) (over_table xs zs ys k c n r t) → A (over_read xs' ys' k c n r) (over_table xs' zs' ys' k c n r t)
  unfolding over_read over_table
  same_over A zero p w q r t u = u
  same_over A (suc n) p w q (Err e) t u = u
  same_over A (suc n) p w q (Ok (m, h)) t u =
      let e = same_row n m (p n (omega arith)) (q n (omega arith)) in
      let g = w n (omega arith) in
      same_over A n (λ i o. p i (omega arith)) (λ i o. w i (omega arith)) (λ i o. q i (omega arith)) (Ok (node_of (over_row xs' ys' k c n m), later h)) (put_over t h (over_row xs' ys' k c n m) (get_or zs' n 0))
      (subst (λ (x : Row). A (over_read xs ys k c n (Ok (node_of x, later h))) (over_table xs zs ys k c n (Ok (node_of x, later h)) (put_over t h x (get_or zs' n 0)))) (sym e) (subst (λ (z : ℕ). A (over_read xs ys k c n (Ok (node_of (over_row xs ys k c n m), later h))) (over_table xs zs ys k c n (Ok (node_of (over_row xs ys k c n m), later h)) (put_over t h (over_row xs ys k c n m) z))) (sym g) u))

-- one phrase further in: f ends with f', and its row starts at x, its rows begin at z, and it has the detail y
pub over_deeper : {f₀ f f' : Phrase} {xs zs ys xs' zs' ys' : List ℕ} {k c n x z y : ℕ} → Over f₀ f xs zs ys k c n → Pushed xs n x xs' → Pushed zs n z zs' → Pushed ys n y ys' → ((m : Node) (h : Here) (t t' : List ℕ) (q : Row) → Answers f' 1 (Ok (m, h)) t → q ≡ record { kind = k; start = x; end = m.end; children = c; value = 0; detail = y } → t' ≡ put_over t h q z → Answers f 1 (Ok (node_of q, later h)) t') → ((e : Refusal) (t : List ℕ) → Answers f' 1 (Err e) t → Answers f 1 (Err e) t) → Over f₀ f' xs' zs' ys' k c (suc n)
unfolding over_read over_table
over_deeper {f₀} {f} {f'} {xs} {zs} {ys} {xs'} {zs'} {ys'} {k} {c} {n} {x} {z} {y} o p w q d e = record { so = so }
  where
    so : (r : Read) (t : List ℕ) → Answers f' 1 r t → Answers f₀ 1 (over_read xs' ys' k c (suc n) r) (over_table xs' zs' ys' k c (suc n) r t)
    so (Err b) t u = over_refused o (e b t u) refl
    so (Ok (m, h)) t u =
        let i : over_row xs' ys' k c n m ≡ record { kind = k; start = x; end = m.end; children = c; value = 0; detail = y } = ap (λ (j : ℕ). record { kind = k; start = j; end = m.end; children = c; value = 0; detail = get_or ys' n 0 }) p.there ∙ ap (λ (j : ℕ). record { kind = k; start = x; end = m.end; children = c; value = 0; detail = j }) q.there in
        let v : List ℕ = put_over t h (over_row xs' ys' k c n m) (get_or zs' n 0) in
        same_over xs zs ys xs' zs' ys' k c (Answers f₀ 1) n p.below w.below q.below (Ok (node_of (over_row xs' ys' k c n m), later h)) v (o.so (Ok (node_of (over_row xs' ys' k c n m), later h)) v (d m h t v (over_row xs' ys' k c n m) u i (ap (put_over t h (over_row xs' ys' k c n m)) w.there)))

-- a number stored; no list at all
pub pushed_set : (xs : List ℕ) (n x : ℕ) {ys : List ℕ} → n < length xs → ys ≡ set xs n x → Pushed xs n x ys
pushed_set xs n x {ys} l e =
    record {
      below = λ i o. ap (λ (zs : List ℕ). get_or zs i 0) e ∙ get_or-set_other xs n i x 0 (λ j. omega (arith, o, j));
      there = ap (λ (zs : List ℕ). get_or zs n 0) e ∙ get_or-set_same xs n x 0 l;
    }

pub pushed_none : (n : ℕ) {xs : List ℕ} → length xs ≡ 0 → Pushed xs n 0 xs
pushed_none n {xs} e = record { below = λ i o. refl; there = get_or-eq_default xs 0 (omega (arith, e)) }

-- the loop that writes the rows: one of them
pub over_row_lem : (xs zs ys : List ℕ) (k c n : ℕ) (m : Node) (h : Here) (t : List ℕ) {n' x z y : ℕ} {m' : Node} {h' : Here} {r : Read} {t' : List ℕ} → 0 < n → n' ≡ n - 1 → x ≡ get_or xs n' 0 → z ≡ get_or zs n' 0 → y ≡ get_or ys n' 0 → r ≡ Ok (node_of (record { kind = k; start = x; end = m.end; children = c; value = 0; detail = y }), later h) → t' ≡ put_over t h (record { kind = k; start = x; end = m.end; children = c; value = 0; detail = y }) z → r ≡ Ok (m', h') → (over_read xs ys k c n' (Ok (m', h')) ≡ over_read xs ys k c n (Ok (m, h))) × (over_table xs zs ys k c n' (Ok (m', h')) t' ≡ over_table xs zs ys k c n (Ok (m, h)) t)
unfolding over_read over_table
over_row_lem xs zs ys k c zero m h t l e p w q a b d = absurd (omega (arith, l))
over_row_lem xs zs ys k c (suc n) m h t {n'} {x} {z} {y} {m'} {h'} {r} {t'} l e p w q a b d =
    let i : n' ≡ n = omega (arith, e) in
    let o : record { kind = k; start = x; end = m.end; children = c; value = 0; detail = y } ≡ over_row xs ys k c n m = ap (λ (z : ℕ). record { kind = k; start = z; end = m.end; children = c; value = 0; detail = y }) (p ∙ ap (λ (z : ℕ). get_or xs z 0) i) ∙ ap (λ (z : ℕ). record { kind = k; start = get_or xs n 0; end = m.end; children = c; value = 0; detail = z }) (q ∙ ap (λ (z : ℕ). get_or ys z 0) i) in
    let u : ◌≡◌ {A = Read} (Ok (m', h')) (Ok (node_of (over_row xs ys k c n m), later h)) = sym d ∙ a ∙ ap (λ (z : Row). Ok (node_of z, later h)) o in
    let v : t' ≡ put_over t h (over_row xs ys k c n m) (get_or zs n 0) = b ∙ ap (λ (j : Row). put_over t h j z) o ∙ ap (put_over t h (over_row xs ys k c n m)) (w ∙ ap (λ (j : ℕ). get_or zs j 0) i) in
    (ap (λ (z : ℕ). over_read xs ys k c z (Ok (m', h'))) i ∙ ap (over_read xs ys k c n) u, ap (λ (z : ℕ). over_table xs zs ys k c z (Ok (m', h')) t') i ∙ ap (λ (z : Read). over_table xs zs ys k c n z t') u ∙ ap (over_table xs zs ys k c n (Ok (node_of (over_row xs ys k c n m), later h))) v)

-- behind the last
pub over_finish : (xs zs ys : List ℕ) (k c n n₀ : ℕ) (m : Node) (h : Here) (t t₀ : List ℕ) {m₀ : Node} {h₀ : Here} {r₀ : Read} → r₀ ≡ Ok (m₀, h₀) → n ≤ 0 → over_read xs ys k c n (Ok (m, h)) ≡ over_read xs ys k c n₀ (Ok (m₀, h₀)) → over_table xs zs ys k c n (Ok (m, h)) t ≡ over_table xs zs ys k c n₀ (Ok (m₀, h₀)) t₀ → (Ok (m, h) ≡ over_read xs ys k c n₀ r₀) × (t ≡ over_table xs zs ys k c n₀ r₀ t₀)
unfolding over_read over_table
over_finish xs zs ys k c n n₀ m h t t₀ {m₀} {h₀} {r₀} e l p q = let x = none_left n l in (x.0 ∙ p ∙ ap (over_read xs ys k c n₀) (sym e), x.1 ∙ q ∙ ap (λ (z : Read). over_table xs zs ys k c n₀ z t₀) (sym e))
  where
    none_left : (n : ℕ) → n ≤ 0 → (Ok (m, h) ≡ over_read xs ys k c n (Ok (m, h))) × (t ≡ over_table xs zs ys k c n (Ok (m, h)) t)
    none_left zero l = (refl, refl)
    none_left (suc n) l = absurd (omega (arith, l))

-- over a refusal
pub over_stays : (xs zs ys : List ℕ) (k c n : ℕ) {r : Read} {t : List ℕ} {e : Refusal} → r ≡ Err e → (r ≡ over_read xs ys k c n r) × (t ≡ over_table xs zs ys k c n r t)
unfolding over_read over_table
over_stays xs zs ys k c zero q = (refl, refl)
over_stays xs zs ys k c (suc n) {r} {t} {e} q = (q ∙ ap (over_read xs ys k c (suc n)) (sym q), ap (λ (z : Read). over_table xs zs ys k c (suc n) z t) (sym q))
