-- The print's own choice of pairs is met; none of its pairs can go, whatever stands below; and it is the only such choice.
use mathlib.Core.Path.{◌∙◌, ◌≡◌, ap, refl, subst, sym}
use mathlib.Core.List.{List, [], ◌∷◌, ◌++◌}
use mathlib.Core.Bool.{Bool, true, false, not, cond}
use mathlib.Core.Logic.{◌⊎◌, inl, inr}
use Prim.Native.Nat.{ℕ, zero, suc}
use native.Mathlib.Omega.{arith}
use lib.Dec.{T}
use Rattle.grammar.specs.Grammar.{one_of}
use Rattle.canon.specs.Trees.{Label, Forest, none, tree, copied}
use Rattle.canon.specs.Layout.{Layout, Place, Slot, empty, layout, needs}
use Rattle.canon.specs.Text.{Bit, copy, fill, inner, later, paired, place_of, signs, words_of}
use Rattle.printing.specs.Pairs.{expr_at, in_pairs}
use Rattle.printing.specs.Groves.{needed}
use Rattle.printing.proofs.Spare.{Spare, layout_spare}
use Rattle.forests.specs.Planted.{Marked, no_more, stands, unmarked}
use Rattle.forests.specs.Met.{Met, served, within}
use Rattle.exact.specs.Written.{Less, OnExprs, less_after, less_below, less_here, may, print_pairs, written}

same_inner : (b : Bool) (c : Place) → within (needed b) c ≡ inner b c
same_inner true c = refl
same_inner false c = refl

served_needed : (c : Place) (a : Label) (kids : Forest) → T (served (needed (needs c a kids)) c a kids)
served_needed c a kids = go (needs c a kids) refl
  where
    go : (b : Bool) → needs c a kids ≡ b → T (served (needed b) c a kids)
    go true e = tt
    go false e = subst (λ (x : Bool). T (not x)) (sym e) tt

pub print_trees : (xs : List Slot) (f : Forest) → unmarked (print_pairs xs f) ≡ f
unfolding print_pairs unmarked
print_trees xs none = refl
print_trees xs (tree a kids ts) =
    ap (λ (w : Forest). tree a w (unmarked (print_pairs (later xs) ts))) (print_trees (layout (inner (needs (place_of xs) a kids) (place_of xs)) a kids).slots kids)
    ∙ ap (λ (w : Forest). tree a kids w) (print_trees (later xs) ts)

-- its tokens are the print's
abbrev own_part : Label → List Bit → List Bit
own_part a own = cond (one_of a.kind copied) (copy a.text ∷ []) own

in_needed : (b : Bool) (x : List Bit) → in_pairs (needed b) x ≡ paired b x
in_needed true x = refl
in_needed false x = refl

pub print_written : (xs : List Slot) (last : List ℕ) (f : Forest) → written xs last (print_pairs xs f) ≡ fill xs last f
unfolding print_pairs written fill unmarked
print_written xs last none = refl
print_written xs last (tree a kids ts) =
    let c = place_of xs in
    let b = needs c a kids in
    let y = layout (inner b c) a kids in
    let m = print_pairs y.slots kids in
    let more = written (later xs) last (print_pairs (later xs) ts) in
    ap (λ (z : Layout). signs (words_of xs) ++ (in_pairs (needed b) (own_part a (written z.slots z.last m)) ++ more)) (ap (λ (p : Place). layout p a (unmarked m)) (same_inner b c) ∙ ap (λ (w : Forest). layout (inner b c) a w) (print_trees y.slots kids))
    ∙ ap (λ (own : List Bit). signs (words_of xs) ++ (in_pairs (needed b) (own_part a own) ++ more)) (print_written y.slots y.last kids)
    ∙ ap (λ (z : List Bit). signs (words_of xs) ++ (z ++ more)) (in_needed b (own_part a (fill y.slots y.last kids)))
    ∙ ap (λ (z : List Bit). signs (words_of xs) ++ (paired b (own_part a (fill y.slots y.last kids)) ++ z)) (print_written (later xs) last ts)

pub print_met : (xs : List Slot) (f : Forest) → Met xs (print_pairs xs f)
unfolding print_pairs Met unmarked
print_met xs none = tt
print_met xs (tree a kids ts) =
    let c = place_of xs in
    let b = needs c a kids in
    let m = print_pairs (layout (inner b c) a kids).slots kids in
    let e = print_trees (layout (inner b c) a kids).slots kids in (
      subst (λ (w : Forest). T (served (needed b) c a w)) (sym e) (served_needed c a kids),
      subst (λ (p : Place). Met (layout p a (unmarked m)).slots m) (sym (same_inner b c)) (subst (λ (w : Forest). Met (layout (inner b c) a w).slots m) (sym e) (print_met (layout (inner b c) a kids).slots kids)),
      print_met (later xs) ts,
    )

-- and stand where the table has an expr
may_needed : (e b : Bool) → (e ≡ false → b ≡ false) → T (may e (needed b))
may_needed true true h = tt
may_needed true false h = tt
may_needed false b h = subst (λ (x : Bool). T (may false (needed x))) (sym (h refl)) tt

pub print_on_exprs : (k : ℕ) (first : Bool) (xs : List Slot) (f : Forest) → Spare k first xs f → OnExprs k first (print_pairs xs f)
unfolding print_pairs OnExprs unmarked
print_on_exprs k first xs none h = tt
print_on_exprs k first xs (tree a kids ts) h =
    let c = place_of xs in
    let b = needs c a kids in (
      subst (λ (w : Forest). T (may (expr_at k first (empty w) a.kind) (needed b))) (sym (print_trees (later xs) ts)) (may_needed (expr_at k first (empty ts) a.kind) b h.0),
      print_on_exprs a.kind true (layout (inner b c) a kids).slots kids (layout_spare (inner b c) a kids),
      print_on_exprs k false (later xs) ts h.1,
    )

-- a pair less leaves the trees as they are
pub less_trees : {m m' : Marked} → Less m m' → unmarked m ≡ unmarked m'
unfolding unmarked
less_trees (less_here {a = a} {ts = ts} e) = ap (λ (w : Forest). tree a w (unmarked ts)) e
less_trees (less_below {a = a} {ts = ts} d) = ap (λ (w : Forest). tree a w (unmarked ts)) (less_trees d)
less_trees (less_after {a = a} {kids = kids} d) = ap (λ (w : Forest). tree a (unmarked kids) w) (less_trees d)

-- where the pair went: round this row, or below it, or after it
abbrev Gone : ℕ → Label → Marked → Marked → Marked → Type 0
Gone k a kids ts m = (n : ℕ) × (kids' : Marked) × (k ≡ suc n) × (unmarked kids ≡ unmarked kids') × (m ≡ stands n a kids' ts)

abbrev GoneBelow : ℕ → Label → Marked → Marked → Marked → Type 0
GoneBelow k a kids ts m = (kids' : Marked) × Less kids kids' × (m ≡ stands k a kids' ts)

abbrev GoneAfter : ℕ → Label → Marked → Marked → Marked → Type 0
GoneAfter k a kids ts m = (ts' : Marked) × Less ts ts' × (m ≡ stands k a kids ts')

less_where : {k : ℕ} {a : Label} {kids ts m : Marked} → Less (stands k a kids ts) m → Gone k a kids ts m ⊎ (GoneBelow k a kids ts m ⊎ GoneAfter k a kids ts m)
less_where (less_here {n = n} {kids' = kids'} e) = inl (n, kids', refl, e, refl)
less_where (less_below {kids' = kids'} d) = inr (inl (kids', d, refl))
less_where (less_after {ts' = ts'} d) = inr (inr (ts', d, refl))

no_less : {m : Marked} → Less no_more m → ⊥
no_less d = go d refl
  where
    go : {n m : Marked} → Less n m → n ≡ no_more → ⊥
    go (less_here e) f = let z : ◌≡◌ {A = ℕ} 0 1 = cc in omega arith
    go (less_below e) f = let z : ◌≡◌ {A = ℕ} 0 1 = cc in omega arith
    go (less_after e) f = let z : ◌≡◌ {A = ℕ} 0 1 = cc in omega arith

missed : (c : Place) (a : Label) (kids : Forest) (b : Bool) (n : ℕ) → needs c a kids ≡ b → needed b ≡ suc n → T (served n c a kids) → ⊥
missed c a kids true zero e f t = subst (λ (x : Bool). T (not x)) e t
missed c a kids true (suc n) e f t = omega (arith, f)
missed c a kids false n e f t = omega (arith, f)

-- none of the print's pairs can go
pub none_can_go : (xs : List Slot) (f : Forest) (m : Marked) → Less (print_pairs xs f) m → Met xs m → ⊥
unfolding print_pairs Met unmarked
none_can_go xs none m d u = no_less d
none_can_go xs (tree a kids ts) m d u = elim (less_where d) [
  | inl g ↦ missed c a kids b g.0 refl g.2 (subst (λ (w : Forest). T (served g.0 c a w)) (sym g.3 ∙ e) (subst (Met xs) g.4 u).0)
  | inr (inl g) ↦ none_can_go (layout (inner b c) a kids).slots kids g.0 g.1 (subst (λ (w : Forest). Met (layout (inner b c) a w).slots g.0) (sym (less_trees g.1) ∙ e) (subst (λ (p : Place). Met (layout p a (unmarked g.0)).slots g.0) (same_inner b c) (subst (Met xs) g.2 u).1))
  | inr (inr g) ↦ none_can_go (later xs) ts g.0 g.1 (subst (Met xs) g.2 u).2
]
  where
    c : Place
    c = place_of xs

    b : Bool
    b = needs c a kids

    e : unmarked (print_pairs (layout (inner b c) a kids).slots kids) ≡ kids
    e = print_trees (layout (inner b c) a kids).slots kids

-- and no other choice that is met is like that
as_needed : (xs : List Slot) (k : ℕ) (a : Label) (kids ts : Marked) → Met xs (stands k a kids ts) → ((m : Marked) → Less (stands k a kids ts) m → Met xs m → ⊥) → k ≡ needed (needs (place_of xs) a (unmarked kids))
unfolding Met unmarked
as_needed xs zero a kids ts u f = go (needs (place_of xs) a (unmarked kids)) u.0
  where
    go : (b : Bool) → T (not b) → 0 ≡ needed b
    go true t = absurd t
    go false t = refl
as_needed xs (suc (suc n)) a kids ts u f = absurd (f (stands (suc n) a kids ts) (less_here refl) (tt, u.1, u.2))
as_needed xs (suc zero) a kids ts u f = go (needs c a w) refl
  where
    c : Place
    c = place_of xs

    w : Forest
    w = unmarked kids

    other : Marked
    other = print_pairs (layout c a w).slots w

    e : unmarked other ≡ w
    e = print_trees (layout c a w).slots w

    go : (b : Bool) → needs c a w ≡ b → 1 ≡ needed b
    go true i = refl
    go false i = absurd (f (stands 0 a other ts) (less_here (sym e)) (subst (λ (o : Forest). T (not (needs c a o))) (sym e) (subst (λ (b : Bool). T (not b)) (sym i) tt), subst (λ (o : Forest). Met (layout c a o).slots other) (sym e) (print_met (layout c a w).slots w), u.2))

pub only_print : (xs : List Slot) (m : Marked) → Met xs m → ((m' : Marked) → Less m m' → Met xs m' → ⊥) → m ≡ print_pairs xs (unmarked m)
unfolding Met unmarked print_pairs
only_print xs no_more u f = refl
only_print xs (stands k a kids ts) u f =
    let c = place_of xs in
    let w = unmarked kids in
    let b = needs c a w in
    let e = as_needed xs k a kids ts u f in
    let l : layout (within k c) a w ≡ layout (inner b c) a w = ap (λ (n : ℕ). layout (within n c) a w) e ∙ ap (λ (p : Place). layout p a w) (same_inner b c) in
    let d = only_print (layout (within k c) a w).slots kids u.1 (λ m' g v. f (stands k a m' ts) (less_below g) (subst (λ (o : Forest). T (served k c a o)) (less_trees g) u.0, subst (λ (o : Forest). Met (layout (within k c) a o).slots m') (less_trees g) v, u.2)) in
    let o = only_print (later xs) ts u.2 (λ m' g v. f (stands k a kids m') (less_after g) (u.0, u.1, v)) in
    ap (λ (n : ℕ). stands n a kids ts) e
    ∙ ap (λ (x : Marked). stands (needed b) a x ts) (d ∙ ap (λ (y : Layout). print_pairs y.slots w) l)
    ∙ ap (λ (x : Marked). stands (needed b) a (print_pairs (layout (inner b c) a w).slots w) x) o
