-- Little-endian numbers, over any width: what is written is read back, and what is read is what would be written.
use mathlib.Core.Path.{◌≡◌, refl, sym, ap, ◌∙◌}
use mathlib.Core.List.{List, [], ◌∷◌, ◌++◌, append_assoc}
use Prim.Native.Nat.{ℕ, zero, suc, ◌+◌, ◌*◌, ◌/◌, ◌%◌, ◌≤◌, ◌<◌}
use native.Mathlib.Nat.{suc-mul}
use native.Mathlib.Numerals.{add-one}
use native.Mathlib.Omega.{arith}
use lib.ListN.{length, get_or, take, drop, length-append, get_or-append}
use lib.Seq.{append_snoc, get_or_at, drop-cons, take-add, drop-drop}
use Rattle.sheets.specs.Files.{bytes, words, most, Fit, none, more}
use Rattle.sheets.specs.Places.{number_at, numbers_at}

pub bytes_length : (w n : ℕ) → length (bytes w n) ≡ w
unfolding bytes
bytes_length zero n = refl
bytes_length (suc w) n = ap suc (bytes_length w (n / 256))

pub words_length : (w : ℕ) (ns : List ℕ) → length (words w ns) ≡ length ns * w
unfolding words
words_length w [] = omega arith
words_length w (n ∷ ns) =
    let a = length-append (bytes w n) (words w ns) in
    let b = bytes_length w n in
    let c = words_length w ns in
    let d = suc-mul (length ns) w in
    omega (arith, a, b, c, d)

-- a number in the front of a list
pub number_front : (w : ℕ) (l q : List ℕ) (at : ℕ) → at + w ≤ length l → number_at w (l ++ q) at ≡ number_at w l at
unfolding number_at
number_front zero l q at h = refl
number_front (suc w) l q at h =
    let a = get_or-append l q 0 at (omega arith) in
    let b = number_front w l q (at + 1) (omega arith) in
    omega (arith, a, b)

pub numbers_front : (w : ℕ) (l q : List ℕ) (at k : ℕ) → at + k * w ≤ length l → numbers_at w (l ++ q) at k ≡ numbers_at w l at k
unfolding numbers_at
numbers_front w l q at zero h = refl
numbers_front w l q at (suc k) h =
    let d = suc-mul k w in
    let a = number_front w l q at (omega (arith, d, h)) in
    let b = numbers_front w l q (at + w) k (omega (arith, d, h)) in
    λ i. a i ∷ b i

-- written and read back
pub read_back : (w n : ℕ) (p : List ℕ) (at : ℕ) → length p ≡ at → n < most w → number_at w (p ++ bytes w n) at ≡ n
unfolding number_at bytes
read_back zero n p at e h = omega arith
read_back (suc w) n p at e h =
    let l : List ℕ = bytes w (n / 256) in
    let a : get_or (p ++ n % 256 ∷ l) at 0 ≡ n % 256 = get_or_at p (n % 256) l 0 at e in
    let s = length-append p (n % 256 ∷ []) in
    let b : number_at w (p ++ n % 256 ∷ l) (at + 1) ≡ n / 256 = ap (λ (z : List ℕ). number_at w z (at + 1)) (sym (append_snoc p (n % 256) l)) ∙ read_back w (n / 256) (p ++ (n % 256 ∷ [])) (at + 1) (omega (arith, s, e)) (omega (arith, h)) in
    omega (arith, a, b)

pub numbers_back : (w : ℕ) (ns p : List ℕ) (at : ℕ) → length p ≡ at → Fit w ns → numbers_at w (p ++ words w ns) at (length ns) ≡ ns
unfolding numbers_at words
numbers_back w [] p at e none = refl
numbers_back w (n ∷ ns) p at e (more h f) =
    let l = length-append p (bytes w n) in
    let k = bytes_length w n in
    let s : p ++ (bytes w n ++ words w ns) ≡ (p ++ bytes w n) ++ words w ns = sym (append_assoc p (bytes w n) (words w ns)) in
    let a : number_at w (p ++ (bytes w n ++ words w ns)) at ≡ n = ap (λ (z : List ℕ). number_at w z at) s ∙ number_front w (p ++ bytes w n) (words w ns) at (omega (arith, l, k, e)) ∙ read_back w n p at e h in
    let b : numbers_at w (p ++ (bytes w n ++ words w ns)) (at + w) (length ns) ≡ ns = ap (λ (z : List ℕ). numbers_at w z (at + w) (length ns)) s ∙ numbers_back w ns (p ++ bytes w n) (at + w) (omega (arith, l, k, e)) f in
    λ i. a i ∷ b i

-- all of them are bytes
abbrev pub Bytes : List ℕ → Type 0
Bytes b = (i : ℕ) → i < length b → get_or b i 0 < 256

module _ (b : List ℕ) (each : Bytes b) where
  pub number_fits : (w at : ℕ) → at + w ≤ length b → number_at w b at < most w
  unfolding number_at
  number_fits zero at h = omega arith
  number_fits (suc w) at h =
      let x = each at (omega arith) in
      let y = number_fits w (at + 1) (omega arith) in
      omega (arith, x, y)

  pub numbers_fit : (w at k : ℕ) → at + k * w ≤ length b → Fit w (numbers_at w b at k)
  unfolding numbers_at
  numbers_fit w at zero h = none
  numbers_fit w at (suc k) h = let d = suc-mul k w in more (number_fits w at (omega (arith, d, h))) (numbers_fit w (at + w) k (omega (arith, d, h)))

  -- read and written again
  pub write_back : (w at : ℕ) → at + w ≤ length b → bytes w (number_at w b at) ≡ take w (drop at b)
  unfolding number_at bytes
  write_back zero at h = refl
  write_back (suc w) at h =
      let x : ℕ = get_or b at 0 in
      let m : ℕ = number_at w b (at + 1) in
      let y = each at (omega arith) in
      let q : (x + 256 * m) % 256 ≡ x = omega (arith, y) in
      let d : (x + 256 * m) / 256 ≡ m = omega (arith, y) in
      let s : bytes w ((x + 256 * m) / 256) ≡ take w (drop (suc at) b) = ap (bytes w) d ∙ write_back w (at + 1) (omega arith) ∙ ap (λ (i : ℕ). take w (drop i b)) (add-one at) in
      (λ i. q i ∷ s i) ∙ sym (ap (take (suc w)) (drop-cons b at 0 (omega arith)))

  pub words_back : (w at k : ℕ) → at + k * w ≤ length b → words w (numbers_at w b at k) ≡ take (k * w) (drop at b)
  unfolding words numbers_at
  words_back w at zero h = let e : 0 ≡ 0 * w = omega arith in ap (λ (n : ℕ). take n (drop at b)) e
  words_back w at (suc k) h =
      let d = suc-mul k w in
      let e : w + k * w ≡ suc k * w = omega (arith, d) in
      (λ i. write_back w at (omega (arith, d, h)) i ++ words_back w (at + w) k (omega (arith, d, h)) i)
      ∙ ap (λ (z : List ℕ). take w (drop at b) ++ take (k * w) z) (sym (drop-drop w at b))
      ∙ sym (take-add w (k * w) (drop at b))
      ∙ ap (λ (n : ℕ). take n (drop at b)) e

pub numbers_length : (w : ℕ) (b : List ℕ) (at k : ℕ) → length (numbers_at w b at k) ≡ k
unfolding numbers_at
numbers_length w b at zero = refl
numbers_length w b at (suc k) = ap suc (numbers_length w b (at + w) k)

-- numbers of two runs, one behind the other
pub numbers_add : (w : ℕ) (b : List ℕ) (at j k : ℕ) → numbers_at w b at (j + k) ≡ numbers_at w b at j ++ numbers_at w b (at + j * w) k
unfolding numbers_at
numbers_add w b at zero k = let e : 0 + k ≡ k = omega arith in let f : at ≡ at + 0 * w = omega arith in ap (numbers_at w b at) e ∙ ap (λ (n : ℕ). numbers_at w b n k) f
numbers_add w b at (suc j) k =
    let d = suc-mul j w in
    let n : suc j + k ≡ suc (j + k) = omega arith in
    let m : at + w + j * w ≡ at + suc j * w = omega (arith, d) in
    ap (numbers_at w b at) n ∙ ap (λ (l : List ℕ). number_at w b at ∷ l) (numbers_add w b (at + w) j k ∙ ap (λ (i : ℕ). numbers_at w b (at + w) j ++ numbers_at w b i k) m)
