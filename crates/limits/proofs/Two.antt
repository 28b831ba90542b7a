-- Two tests make one.
use mathlib.Core.List.{List, [], ◌∷◌}
use mathlib.Core.Bool.{Bool, true, false, not, ◌&&◌, ◌||◌, cond}
use Prim.Native.Nat.{ℕ, suc, pred, ◌+◌}
use lib.Dec.{T, ltb, leb}
use lib.ListN.{length}
use Rattle.grammar.specs.Limits.{limit}
use Rattle.grammar.proofs.Bools.{and_l, and_r, both}
use Rattle.canon.specs.Text.{Bit, sign, copy}
use Rattle.sink.specs.Few.{few}
use Rattle.limits.specs.Within.{opening, closing, prefixing, Tally, behind, allowed, quoted, within, low}

abbrev pub tally : ℕ → ℕ → Tally
tally b c = record { brackets = b; prefixes = c }

few_on : (p : Bool) (c : ℕ) (bs : List Bit) → T (cond p (ltb c limit && few (suc c) bs) (few 0 bs)) → T (not p || ltb c limit) × T (few (cond p (suc c) 0) bs)
few_on true c bs t = (and_l (ltb c limit) (few (suc c) bs) t, and_r (ltb c limit) (few (suc c) bs) t)
few_on false c bs t = (tt, t)

low_on : (a k : Bool) (b : ℕ) (bs : List Bit) → T (cond a (ltb b limit && low (suc b) bs) (cond k (low (pred b) bs) (low b bs))) → T (not a || ltb b limit) × T (low (cond a (suc b) (cond k (pred b) b)) bs)
low_on true k b bs t = (and_l (ltb b limit) (low (suc b) bs) t, and_r (ltb b limit) (low (suc b) bs) t)
low_on false true b bs t = (tt, t)
low_on false false b bs t = (tt, t)

copy_on : (q : Bool) (n b : ℕ) (bs : List Bit) → T (cond q (leb (b + n) limit && low b bs) (low b bs)) → (T (low b bs) → T (within (tally b 0) bs)) → T (cond q (leb (b + n) limit && within (tally b 0) bs) (within (tally b 0) bs))
copy_on true n b bs t rec = both (leb (b + n) limit) (within (tally b 0) bs) (and_l (leb (b + n) limit) (low b bs) t) (rec (and_r (leb (b + n) limit) (low b bs) t))
copy_on false n b bs t rec = rec t

pub two : (b c : ℕ) (bs : List Bit) → T (few c bs) → T (low b bs) → T (within (tally b c) bs)
unfolding within few low
two b c [] f t = tt
two b c (sign w ∷ bs) f t =
    let f' = few_on (prefixing w) c bs f in
    let t' = low_on (opening w) (closing w) b bs t in
    let on : Tally = behind w (tally b c) in
    both (allowed w (tally b c)) (within on bs) (both (not (opening w) || ltb b limit) (not (prefixing w) || ltb c limit) t'.0 f'.0) (two on.brackets on.prefixes bs f'.1 t'.1)
two b c (copy t ∷ bs) f u = copy_on (quoted t) (length t) b bs u (λ u'. two b 0 bs f u')
