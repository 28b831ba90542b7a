-- Laws of bytes by place and of runs, for any test that does not hold past the end.
use mathlib.Core.Path.{◌≡◌, refl, sym, ap, ◌∙◌, subst}
use Prim.Native.Nat.{ℕ, zero, suc, ◌+◌, ◌-◌, ◌<◌, ◌≤◌, zero-le, suc-le-suc}
use mathlib.Core.List.{List, [], ◌∷◌}
use mathlib.Core.Bool.{Bool, true, false, true≢false}
use native.Mathlib.Nat.{add-zero, add-suc, suc-add}
use native.Mathlib.Numerals.{add-one}
use native.Mathlib.Decide.{dec_lt}
use native.Mathlib.Omega.{arith}
use lib.ListN.{length, get_or, take, drop, length-take, length-drop, drop_of_length-le}
use lib.Seq.{drop-cons, get_or-take, get_or-drop}
use lib.Dec.{eqb, leb}
use borrow.Author.Tests.{le-ltb, lt-ltb, leb-false, eq-eqb, ne_eqb, eqb-true}
use Rattle.std.specs.List.{All, AllWithin}
use Rattle.chars.specs.declared.Class.{Class}
use Rattle.chars.specs.declared.Class.TheVariants.{Ascii, Blank, Line, Digit, Figure, HexDigit, HexColon, NamePart}
use Rattle.chars.specs.Chars.{byte_at, is_class}
use Rattle.chars.specs.Runs.{span, past_span, past_run, behind_last}

pub byte_in : (s : List ℕ) (i : ℕ) → i < length s → byte_at s i ≡ get_or s i 0
unfolding byte_at
byte_in s i h = simp (lt-ltb _ _ h)

pub byte_out : (s : List ℕ) (i : ℕ) → length s ≤ i → byte_at s i ≡ 256
unfolding byte_at
byte_out s i h = simp (le-ltb _ _ h)

-- the byte at a place behind the first `at` bytes
pub byte_drop : (s : List ℕ) (at n : ℕ) → byte_at (drop at s) n ≡ byte_at s (at + n)
byte_drop s at n = elim (dec_lt (at + n) (length s)) [
  | yes h ↦ byte_in (drop at s) n (rw length-drop (omega (arith, h))) ∙ get_or-drop at s n 0 ∙ sym (byte_in s (at + n) h)
  | no f ↦ byte_out (drop at s) n (rw length-drop (omega (arith, f))) ∙ sym (byte_out s (at + n) (omega (arith, f)))
]

-- where the byte at a place is a number below 256, the place is inside
pub inside : (s : List ℕ) (i : ℕ) {b v : ℕ} → b ≡ byte_at s i → b ≡ v → v < 256 → i < length s
inside s i e f h = elim (dec_lt i (length s)) [ yes k ↦ k | no k ↦ absurd (omega (arith, h, sym f ∙ e ∙ byte_out s i (omega (arith, k)))) ]

-- no class has the number that stands past the end
pub outside : (k : Class) → is_class k 256 ≡ false
unfolding is_class
outside Ascii = refl
outside Blank = refl
outside Line = refl
outside Digit = refl
outside Figure = refl
outside HexDigit = refl
outside HexColon = refl
outside NamePart = refl

-- a class by its name
pub as_class : {k v : Class} (b : ℕ) {r : Bool} → k ≡ v → r ≡ is_class v b → r ≡ is_class k b
as_class b e h = rw e h

-- a place at which a test holds that does not hold past the end is inside
pub within : (p : ℕ → Bool) → p 256 ≡ false → (s : List ℕ) (i : ℕ) → p (byte_at s i) ≡ true → i < length s
within p none s i t = elim (dec_lt i (length s)) [ yes h ↦ h | no f ↦ absurd (true≢false (sym t ∙ ap p (byte_out s i (omega (arith, f))) ∙ none)) ]

module _ (keep next : Bool → ℕ → Bool) where
  kept : (c : Bool) {b : ℕ} (l : List ℕ) → keep c b ≡ true → span keep next c (b ∷ l) ≡ suc (span keep next (next c b) l)
  unfolding span
  kept c {b} l e = subst (λ t. elim t [ true ↦ suc (span keep next (next c b) l) | false ↦ 0 ] ≡ suc (span keep next (next c b) l)) (sym e) refl

  stopped : (c : Bool) {b : ℕ} (l : List ℕ) → keep c b ≡ false → span keep next c (b ∷ l) ≡ 0
  unfolding span
  stopped c {b} l e = subst (λ t. ◌≡◌ {A = ℕ} (elim t [ true ↦ suc (span keep next (next c b) l) | false ↦ 0 ]) 0) (sym e) refl

  span_le : (c : Bool) (l : List ℕ) → span keep next c l ≤ length l
  unfolding span
  span_le c [] = zero-le
  span_le c (b ∷ l) = go (keep c b) (span_le (next c b) l)
    where
      go : (t : Bool) {m : ℕ} → m ≤ length l → elim t [ true ↦ suc m | false ↦ 0 ] ≤ suc (length l)
      go true h = suc-le-suc h
      go false h = zero-le

  pub span_ge : (c : Bool) (s : List ℕ) (at : ℕ) → at ≤ past_span keep next c s at
  unfolding past_span
  span_ge c s at = omega arith

  pub span_in : (c : Bool) (s : List ℕ) (at : ℕ) → at ≤ length s → past_span keep next c s at ≤ length s
  unfolding past_span
  span_in c s at h = omega (arith, span_le c (drop at s), length-drop at s)

-- a step of a scan: the byte at its place is kept, or it ends there
module _ (keep next : Bool → ℕ → Bool) (c : Bool) (none : keep c 256 ≡ false) (s : List ℕ) (i : ℕ) where
  pub span_more : keep c (byte_at s i) ≡ true → past_span keep next (next c (byte_at s i)) s (i + 1) ≡ past_span keep next c s i
  unfolding past_span
  span_more t =
      let h : i < length s = within (keep c) none s i t in
      let e : keep c (get_or s i 0) ≡ true = ap (keep c) (sym (byte_in s i h)) ∙ t in
      rw (drop-cons s i 0 h, kept keep next c (drop (suc i) s) e, add-one, byte_in s i h) (simp (add-suc, suc-add))

  pub span_done : keep c (byte_at s i) ≡ false → past_span keep next c s i ≡ i
  unfolding past_span span
  span_done t = elim (dec_lt i (length s)) [ yes h ↦ go h | no f ↦ rw (drop_of_length-le s {i = i} (omega (arith, f))) (add-zero i) ]
    where
      go : i < length s → past_span keep next c s i ≡ i
      go h = let e : keep c (get_or s i 0) ≡ false = ap (keep c) (sym (byte_in s i h)) ∙ t in rw (drop-cons s i 0 h, stopped keep next c (drop (suc i) s) e) (add-zero i)

-- the same for a run, whose test knows no state
module _ (p : ℕ → Bool) where
  pub past_ge : (s : List ℕ) (at : ℕ) → at ≤ past_run p s at
  unfolding past_run
  past_ge s at = span_ge _ _ _ s at

  pub past_le : (s : List ℕ) (at : ℕ) → at ≤ length s → past_run p s at ≤ length s
  unfolding past_run
  past_le s at h = span_in _ _ _ s at h

module _ (p : ℕ → Bool) (none : p 256 ≡ false) (s : List ℕ) (i : ℕ) where
  pub past_more : p (byte_at s i) ≡ true → past_run p s (i + 1) ≡ past_run p s i
  unfolding past_run
  past_more t = span_more (λ c b. p b) (λ c b. c) false none s i t

  pub past_done : p (byte_at s i) ≡ false → past_run p s i ≡ i
  unfolding past_run
  past_done t = span_done (λ c b. p b) (λ c b. c) false none s i t

  pub past_gt : p (byte_at s i) ≡ true → i < past_run p s i
  past_gt t = omega (arith, past_more t, past_ge p s (i + 1))

-- what holds where a run ends, and at a place of the run if it holds at the next, holds everywhere
module _ (p : ℕ → Bool) (none : p 256 ≡ false) (s : List ℕ) where
  module _ (Q : ℕ → Type 0) (ends : (i : ℕ) → p (byte_at s i) ≡ false → Q i) (goes : (i : ℕ) → p (byte_at s i) ≡ true → Q (i + 1) → Q i) where
    turn : (i : ℕ) (t : Bool) → p (byte_at s i) ≡ t → (i < length s → Q (i + 1)) → Q i
    turn i true e more = goes i e (more (within p none s i e))
    turn i false e more = ends i e

    by : (n i : ℕ) → length s ≤ i + n → Q i
    by zero i h = ends i (ap p (byte_out s i (omega (arith, h))) ∙ none)
    by (suc n) i h = turn i (p (byte_at s i)) refl λ k. by n (i + 1) (omega (arith, h))

    pub along : (i : ℕ) → Q i
    along i = by (length s) i (omega arith)

  -- what one step of a run leaves unchanged, the whole run does
  pub through : {A : Type 0} (f : ℕ → A) → ((j : ℕ) → p (byte_at s j) ≡ true → f (j + 1) ≡ f j) → (i : ℕ) → f (past_run p s i) ≡ f i
  through f step =
      along (λ i. f (past_run p s i) ≡ f i) (λ i e. ap f (past_done p none s i e)) λ i e h. ap f (sym (past_more p none s i e)) ∙ h ∙ step i e

  -- behind a run its test fails
  pub past_stops : (i : ℕ) → p (byte_at s (past_run p s i)) ≡ false
  past_stops =
      along (λ i. p (byte_at s (past_run p s i)) ≡ false) (λ i e. ap (λ j. p (byte_at s j)) (past_done p none s i e) ∙ e) λ i e h. ap (λ j. p (byte_at s j)) (sym (past_more p none s i e)) ∙ h

-- past bytes that are kept and leave the state as it is, the scan goes on as from before them
module _ (keep next : Bool → ℕ → Bool) (c : Bool) (none : keep c 256 ≡ false) (s : List ℕ) where
  abbrev pub Goes : ℕ → Type 0
  Goes i = (keep c (get_or s i 0) ≡ true) × (next c (get_or s i 0) ≡ c)

  over : (n at : ℕ) → at + n ≤ length s → ((i : ℕ) → at ≤ i → i < at + n → Goes i) → past_span keep next c s (at + n) ≡ past_span keep next c s at
  over zero at h all = ap (past_span keep next c s) (add-zero at)
  over (suc n) at h all =
      let read : byte_at s at ≡ get_or s at 0 = byte_in s at (omega (arith, h)) in
      let this : Goes at = all at (omega arith) (omega arith) in
      let further : at + suc n ≡ at + 1 + n = omega arith in
      ap (past_span keep next c s) further
      ∙ over n (at + 1) (omega (arith, h)) (λ i l m. all i (omega (arith, l)) (omega (arith, m)))
      ∙ ap (λ u. past_span keep next u s (at + 1)) (sym (ap (next c) read ∙ this.1))
      ∙ span_more keep next c none s at (ap (keep c) read ∙ this.0)

  pub span_over : (at to : ℕ) → at ≤ to → (at < to → to ≤ length s) → ((i : ℕ) → at ≤ i → i < to → Goes i) → past_span keep next c s to ≡ past_span keep next c s at
  span_over at to h inside all = elim (dec_lt at to) [ yes k ↦ go k | no f ↦ (let e : to ≡ at = omega (arith, f, h) in ap (past_span keep next c s) e) ]
    where
      go : at < to → past_span keep next c s to ≡ past_span keep next c s at
      go k =
          let e : to ≡ at + (to - at) = omega (arith, h) in
          ap (past_span keep next c s) e ∙ over (to - at) at (omega (arith, h, inside k)) (λ i l m. all i l (omega (arith, m, h)))

-- what holds of the bytes so far and of all bytes of the next block holds of them all
pub block_more : (P : ℕ → Type 0) (s : List ℕ) (at i n : ℕ) → i + n ≤ length s → AllWithin P s at i → All P (take (i + n - i) (drop i s)) → AllWithin P s at (i + n)
block_more P s at i n h before block k d l m = elim (dec_lt k i) [ yes j ↦ before k d l j | no f ↦ subst P (there f) (block (k - i) d (simp (length-take, length-drop) (omega (arith, f, h, m)))) ]
  where
    there : (k < i → ⊥) → get_or (take (i + n - i) (drop i s)) (k - i) d ≡ get_or s k d
    there f =
        let e : i + (k - i) ≡ k = omega (arith, f) in
        get_or-take (i + n - i) (drop i s) (k - i) d (omega (arith, f, m)) ∙ get_or-drop i s (k - i) d ∙ ap (λ j. get_or s j d) e

-- the same of a run of one class, and of all of it
module _ (k : Class) (s : List ℕ) (at to : ℕ) (h : at ≤ to) (inside : at < to → to ≤ length s) (all : (i : ℕ) → at ≤ i → i < to → is_class k (get_or s i 0) ≡ true) where
  pub run_over : past_run (is_class k) s to ≡ past_run (is_class k) s at
  unfolding past_run
  run_over = span_over (λ c b. is_class k b) (λ c b. c) false (outside k) s at to h inside (λ i l m. (all i l m, refl))

  pub run_whole : (to < length s → is_class k (get_or s to 0) ≡ false) → to ≡ past_run (is_class k) s at
  run_whole stops = sym (past_done (is_class k) (outside k) s to (elim (dec_lt to (length s)) [ yes i ↦ ap (is_class k) (byte_in s to i) ∙ stops i | no f ↦ ap (is_class k) (byte_out s to (omega (arith, f))) ∙ outside k ])) ∙ run_over

pub no_newline : (b : ℕ) → b < 256 → eqb b 10 ≡ false → is_class Line b ≡ true
unfolding is_class
no_newline b h e = simp (e, lt-ltb b 256 h)

pub not_high : (b : ℕ) → leb 128 b ≡ false → is_class Ascii b ≡ true
unfolding is_class
not_high b e = lt-ltb b 128 (leb-false 128 b e)

-- a turn of the loop of `behind_last`, which reads the byte b before the place i
module _ (c : ℕ) (s : List ℕ) (i : ℕ) where
  pub last_none : i ≤ 0 → 0 ≡ behind_last c s i
  unfolding behind_last
  last_none h = let e : i ≡ 0 = omega arith in sym (ap (behind_last c s) e)

  module _ (h : 0 < i) {b : ℕ} (read : b ≡ byte_at s (i - 1)) where
    before_this : behind_last c s i ≡ behind_last c s (suc (i - 1))
    before_this = let e : i ≡ suc (i - 1) = omega arith in ap (behind_last c s) e

    pub last_here : b ≡ c → i ≡ behind_last c s i
    unfolding behind_last
    last_here e =
        let q : i ≡ suc (i - 1) = omega arith in
        q
        ∙ subst (λ (u : Bool). ◌≡◌ {A = ℕ} (suc (i - 1)) (elim u [ true ↦ suc (i - 1) | false ↦ behind_last c s (i - 1) ])) (sym (eq-eqb (byte_at s (i - 1)) c (sym read ∙ e))) refl
        ∙ sym before_this

    pub last_back : (b ≡ c → ⊥) → behind_last c s (i - 1) ≡ behind_last c s i
    unfolding behind_last
    last_back e =
        subst (λ (u : Bool). ◌≡◌ {A = ℕ} (behind_last c s (i - 1)) (elim u [ true ↦ suc (i - 1) | false ↦ behind_last c s (i - 1) ])) (sym (ne_eqb (byte_at s (i - 1)) c (λ f. e (read ∙ f)))) refl
        ∙ sym before_this

pub last_le : (c : ℕ) (s : List ℕ) (n : ℕ) → behind_last c s n ≤ n
unfolding behind_last
last_le c s zero = zero-le
last_le c s (suc i) = go (eqb (byte_at s i) c) (last_le c s i)
  where
    go : (u : Bool) → behind_last c s i ≤ i → elim u [ true ↦ suc i | false ↦ behind_last c s i ] ≤ suc i
    go true h = omega arith
    go false h = omega arith

-- before that place stands the byte
pub last_stands : (c : ℕ) (s : List ℕ) (n : ℕ) → 0 < behind_last c s n → byte_at s (behind_last c s n - 1) ≡ c
unfolding behind_last
last_stands c s zero h = absurd (omega (arith, h))
last_stands c s (suc i) h = go (eqb (byte_at s i) c) refl h (last_stands c s i)
  where
    go : (u : Bool) → eqb (byte_at s i) c ≡ u → 0 < elim u [ true ↦ suc i | false ↦ behind_last c s i ]
        → (0 < behind_last c s i → byte_at s (behind_last c s i - 1) ≡ c)
        → byte_at s (elim u [ true ↦ suc i | false ↦ behind_last c s i ] - 1) ≡ c
    go true e k ih = let n : suc i - 1 ≡ i = omega arith in ap (byte_at s) n ∙ eqb-true _ _ e
    go false e k ih = ih k
