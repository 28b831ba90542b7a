-- What `wrap` does, for a reader: a number of the type stays as it is, and any other is moved into the type's range.
use Rattle.std.proofs.Common.{◌≡◌, ℕ, suc, ◌+◌, ◌-◌, ◌%◌, ◌<◌, ◌≤◌, Bool, true, false, cond, leb, ℤ, pos, negsuc, sym, refl, ap, ◌∙◌, mod-lt, mod-eq_of_lt, arith, le-leb, leb-false, leb-true}
use borrow.Author.Tests.{lt-leb}
use Rattle.wholes.specs.Wholes.{lowest, standing, number, wrap, signed_of, span}
use Rattle.wholes.specs.declared.Integer.{Integer}
use Rattle.wholes.proofs.Laws.{some, Reads, plain as straight, under, stands}

-- the numbers of a type: from 0 to m - 1 without a sign, from -m/2 to m/2 - 1 with one
pub data Among (m : ℕ) : Bool → ℤ → Type 0 where
  plain : {n : ℕ} → n < m → Among m false (pos n)
  upper : {n : ℕ} → n + n < m → Among m true (pos n)
  lower : {n : ℕ} → suc n + suc n ≤ m → Among m true (negsuc n)

stays : (m : ℕ) (s : Bool) (z : ℤ) → 0 < m → Among m s z → standing s m (lowest m z % m) ≡ z
unfolding standing lowest
stays m false (pos n) M (plain h) = ap (λ (x : ℕ). pos x) (mod-eq_of_lt (mod-lt n M) ∙ mod-eq_of_lt h)
stays m false (negsuc n) M x4 = elim x4 [ ]
stays m true (pos n) M (upper h) =
    let e : n % m % m ≡ n = mod-eq_of_lt (mod-lt n M) ∙ mod-eq_of_lt (omega (arith, h)) in
    ap (λ (x : ℕ). cond (leb m (x + x)) (negsuc (m - suc x)) (pos x)) e
    ∙ ap (λ (b : Bool). cond b (negsuc (m - suc n)) (pos n)) (lt-leb m (n + n) h)
stays m true (negsuc n) M (lower h) =
    let d : n % m ≡ n = mod-eq_of_lt (omega (arith, h)) in
    let e : (m - suc (n % m)) % m ≡ m - suc n = ap (λ (x : ℕ). (m - suc x) % m) d ∙ mod-eq_of_lt (omega (arith, h)) in
    ap (λ (x : ℕ). cond (leb m (x + x)) (negsuc (m - suc x)) (pos x)) e
    ∙ ap (λ (b : Bool). cond b (negsuc (m - suc (m - suc n))) (pos (m - suc n))) (le-leb m ((m - suc n) + (m - suc n)) (omega (arith, h)))
    ∙ ap (λ (x : ℕ). negsuc x) {x = m - suc (m - suc n)} {y = n} (omega (arith, h))

among : (m : ℕ) (s : Bool) (p : ℕ) → p < m → Among m s (standing s m p)
unfolding standing
among m false p h = plain h
among m true p h = go (leb m (p + p)) refl where
  go : (b : Bool) → leb m (p + p) ≡ b → Among m true (cond b (negsuc (m - suc p)) (pos p))
  go true e = lower {n = m - suc p} (omega (arith, leb-true m (p + p) e, h))
  go false e = upper {n = p} (leb-false m (p + p) e)

pub wrap_keeps : (t : Integer) (z : ℤ) → Among (span t) (signed_of t) z → wrap t z ≡ z
unfolding wrap number
wrap_keeps t z a = stays (span t) (signed_of t) z (some t) a

pub wrap_among : (t : Integer) (z : ℤ) → Among (span t) (signed_of t) (wrap t z)
unfolding wrap number
wrap_among t z = among (span t) (signed_of t) (lowest (span t) z % span t) (mod-lt (lowest (span t) z) (some t))

-- ---- a number has one run of lowest bits, so `==` of bits is `==` of numbers

bits_back : (m : ℕ) {z : ℤ} {q : ℕ} → q < m → Reads m z q → lowest m z ≡ q
unfolding lowest
bits_back m h straight = mod-eq_of_lt h
bits_back m {q = q} h (under {n} e) = (let k : n < m = omega (arith, e) in ap (λ (x : ℕ). m - suc x) (mod-eq_of_lt k) ∙ omega (arith, e))

pub one_number : (t : Integer) (a b : ℕ) → number t a ≡ number t b → a % span t ≡ b % span t
one_number t a b e = sym (bits_back (span t) (mod-lt a (some t)) (stands t a)) ∙ ap (lowest (span t)) e ∙ bits_back (span t) (mod-lt b (some t)) (stands t b)
