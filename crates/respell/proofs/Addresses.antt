-- Rules 1 and 2: an address that ends inside the copy is one in the copy too, and where s has none the copy has none.
use Rattle.std.specs.Prelude.{Some, None}
use mathlib.Core.Path.{◌≡◌, refl, sym, ap, ◌∙◌, subst}
use mathlib.Core.List.{List}
use mathlib.Core.Bool.{Bool, true, false, ◌&&◌, true≢false, cond}
use Prim.Native.Nat.{ℕ, zero, suc, ◌+◌, ◌-◌, ◌<◌, ◌≤◌}
use native.Mathlib.Decide.{dec_lt}
use native.Mathlib.Omega.{arith}
use lib.Dec.{eqb, ltb}
use borrow.Author.Tests.{eqb-true, eqb-false, eq-eqb, ne_eqb, ltb-true, ltb-false, lt-ltb, le-ltb}
use Rattle.chars.specs.declared.Class.TheVariants.{Digit, HexDigit, HexColon}
use Rattle.chars.specs.Chars.{byte_at, is_class, is_digit, is_hex_digit}
use Rattle.chars.specs.Runs.{past_run, behind_last}
use Rattle.chars.proofs.Runs.{outside, past_ge, past_gt, past_stops, last_le}
use Rattle.tokens.proofs.Results.{fit_end, fit_word}
use Rattle.tokens.specs.Results.{Fit}
use Rattle.tokens.specs.Rules.{or_to, colons_at, fraction_at, dotted_at, three_at, decimal_group, ipv6_at, period_at, ipv4_at}
use Rattle.answers.proofs.Ahead.{left_true, right_true}
use Rattle.respell.specs.Copies.{Copied, is_stop}
use Rattle.respell.proofs.Runs.{run_before}
use Rattle.respell.proofs.Stops.{nor_l, colon_off, hex_off, is_colon, no_digit, digit_off, is_dot}
use Rattle.respell.proofs.Tests.{both, fit_ends, fit, no_fit, fit_or, not_so, none_fits, then_ends, then_goes, then_none, never_both, digit_class, run_to, run_within, run_back, short_of_stop, test_to, test_back, is}

colon_digit : (b : ℕ) → is_class HexColon b ≡ false → is_class Digit b ≡ false
unfolding is_class
colon_digit b h = nor_l (is_digit b) _ (nor_l _ _ (nor_l (is_hex_digit b) (eqb b 58) h))

-- the place behind the last v, one byte further back
last_yes : (v : ℕ) (l : List ℕ) (n : ℕ) → eqb (byte_at l n) v ≡ true → behind_last v l (suc n) ≡ suc n
unfolding behind_last
last_yes v l n e = subst (λ (u : Bool). ◌≡◌ {A = ℕ} (elim u [ true ↦ suc n | false ↦ behind_last v l n ]) (suc n)) (sym e) refl

last_no : (v : ℕ) (l : List ℕ) (n : ℕ) → eqb (byte_at l n) v ≡ false → behind_last v l (suc n) ≡ behind_last v l n
unfolding behind_last
last_no v l n e = subst (λ (u : Bool). ◌≡◌ {A = ℕ} (elim u [ true ↦ suc n | false ↦ behind_last v l n ]) (behind_last v l n)) (sym e) refl

module _ {s t : List ℕ} {lo q q' : ℕ} (copy : Copied s t lo q q') (stop : is_stop (byte_at t q') ≡ true) where
  -- 1. hex digits and colons
  abbrev hexes : List ℕ → ℕ → ℕ
  hexes l i = past_run (is_class HexDigit) l i

  colons_hit : (i i' e e' : ℕ) {w : ℕ} → lo ≤ i → i + q' ≡ i' + q → colons_at s i ≡ Some (e, w) → e ≤ q → e + q' ≡ e' + q → colons_at t i' ≡ Some (e', 1)
  unfolding colons_at
  colons_hit i i' e e' l at z h ends =
      let a : ℕ = hexes s i in
      let b : ℕ = hexes s (a + 1) in
      let a' : ℕ = hexes t i' in
      let b' : ℕ = hexes t (a' + 1) in
      let f = fit_ends (eqb (byte_at s a) 58 && eqb (byte_at s b) 58) (past_run (is_class HexColon) s (b + 1)) 1 z in
      let x = left_true (eqb (byte_at s a) 58) (eqb (byte_at s b) 58) f.0 in
      let y = right_true (eqb (byte_at s a) 58) (eqb (byte_at s b) 58) f.0 in
      let fe = f.1 in
      let ga = past_ge (is_class HexDigit) s i in
      let gb = past_ge (is_class HexDigit) s (a + 1) in
      let gc = past_ge (is_class HexColon) s (b + 1) in
      let ra = run_to copy HexDigit (hex_off (byte_at t q') stop) i i' l at (omega arith) in
      let rb = run_to copy HexDigit (hex_off (byte_at t q') stop) (a + 1) (a' + 1) (omega arith) (omega arith) (omega arith) in
      let rc = run_to copy HexColon (colon_off (byte_at t q') stop) (b + 1) (b' + 1) (omega arith) (omega arith) (omega arith) in
      fit (eqb (byte_at t a') 58 && eqb (byte_at t b') 58) (past_run (is_class HexColon) t (b' + 1)) e' 1
      (both (eqb (byte_at t a') 58) (eqb (byte_at t b') 58) (test_to copy (is 58) a a' (omega arith) (omega arith) (omega arith) x) (test_to copy (is 58) b b' (omega arith) (omega arith) (omega arith) y))
      (omega arith)

  colons_miss : (i i' : ℕ) → lo ≤ i → i ≤ q → i + q' ≡ i' + q → colons_at s i ≡ None → colons_at t i' ≡ None
  unfolding colons_at
  colons_miss i i' l h at z = no_fit (eqb (byte_at t a') 58 && eqb (byte_at t b') 58) (past_run (is_class HexColon) t (b' + 1)) 1 (not_so _ found)
    where
      a : ℕ
      a = hexes s i

      a' : ℕ
      a' = hexes t i'

      b' : ℕ
      b' = hexes t (a' + 1)

      found : (eqb (byte_at t a') 58 && eqb (byte_at t b') 58) ≡ true → ⊥
      found e =
          let x = left_true (eqb (byte_at t a') 58) (eqb (byte_at t b') 58) e in
          let y = right_true (eqb (byte_at t a') 58) (eqb (byte_at t b') 58) e in
          let ga = run_within copy HexDigit (hex_off (byte_at t q') stop) i' (omega arith) in
          let ha = short_of_stop copy (is 58) (is_colon (byte_at t q') stop) a' ga x in
          let ra = run_back copy HexDigit (hex_off (byte_at t q') stop) i i' l at ha in
          let gb = run_within copy HexDigit (hex_off (byte_at t q') stop) (a' + 1) (omega arith) in
          let hb = short_of_stop copy (is 58) (is_colon (byte_at t q') stop) b' gb y in
          let ge = past_ge (is_class HexDigit) s i in
          let rb = run_back copy HexDigit (hex_off (byte_at t q') stop) (a + 1) (a' + 1) (omega arith) (omega arith) hb in
          let gf = past_ge (is_class HexDigit) s (a + 1) in
          let b : ℕ = hexes s (a + 1) in
          fit_or (eqb (byte_at s a) 58 && eqb (byte_at s b) 58) (past_run (is_class HexColon) s (b + 1)) 1 z
          (both (eqb (byte_at s a) 58) (eqb (byte_at s b) 58) (test_back copy (is 58) a a' (omega arith) (omega arith) (omega arith) x) (test_back copy (is 58) b b' (omega arith) (omega arith) (omega arith) y))

  -- a period with digits
  pub fraction_to : (i i' : ℕ) → lo ≤ i → i + q' ≡ i' + q → i + 1 < q → fraction_at s i ≡ true → fraction_at t i' ≡ true
  unfolding fraction_at
  fraction_to i i' l at h e =
      both (eqb (byte_at t i') 46) (is_digit (byte_at t (i' + 1)))
      (test_to copy (is 46) i i' l (omega arith) at (left_true (eqb (byte_at s i) 46) (is_digit (byte_at s (i + 1))) e))
      (test_to copy is_digit (i + 1) (i' + 1) (omega arith) (omega arith) (omega arith) (right_true (eqb (byte_at s i) 46) (is_digit (byte_at s (i + 1))) e))

  pub fraction_back : (i i' : ℕ) → lo ≤ i → i ≤ q → i + q' ≡ i' + q → fraction_at t i' ≡ true → (i + 1 < q) × (fraction_at s i ≡ true)
  unfolding fraction_at
  fraction_back i i' l h at e =
      let x = left_true (eqb (byte_at t i') 46) (is_digit (byte_at t (i' + 1))) e in
      let y = right_true (eqb (byte_at t i') 46) (is_digit (byte_at t (i' + 1))) e in
      let g = short_of_stop copy (is 46) (is_dot (byte_at t q') stop) i' (omega arith) x in
      let k = short_of_stop copy is_digit (no_digit (byte_at t q') stop) (i' + 1) (omega arith) y in
      (omega arith, both (eqb (byte_at s i) 46) (is_digit (byte_at s (i + 1))) (test_back copy (is 46) i i' l (omega arith) at x) (test_back copy is_digit (i + 1) (i' + 1) (omega arith) (omega arith) (omega arith) y))

  -- where a fraction is, its digits go on
  pub fraction_long : (l : List ℕ) (i : ℕ) → fraction_at l i ≡ true → i + 1 < past_run (is_class Digit) l (i + 1)
  unfolding fraction_at
  fraction_long l i e = past_gt (is_class Digit) (outside Digit) l (i + 1) (digit_class (byte_at l (i + 1)) (right_true (eqb (byte_at l i) 46) (is_digit (byte_at l (i + 1))) e))

  dotted_hit : (i i' e e' : ℕ) {w : ℕ} → lo ≤ i → i + q' ≡ i' + q → dotted_at s i ≡ Some (e, w) → e ≤ q → e + q' ≡ e' + q → dotted_at t i' ≡ Some (e', 1)
  unfolding dotted_at
  dotted_hit i i' e e' l at z h ends =
      let f = fit_ends (fraction_at s i) (past_run (is_class Digit) s (i + 1)) 1 z in
      let fe = f.1 in
      let g = fraction_long s i f.0 in
      let r = run_to copy Digit (digit_off (byte_at t q') stop) (i + 1) (i' + 1) (omega arith) (omega arith) (omega arith) in
      fit (fraction_at t i') (past_run (is_class Digit) t (i' + 1)) e' 1 (fraction_to i i' l at (omega arith) f.0) (omega arith)

  dotted_back : (i i' e' : ℕ) {w : ℕ} → lo ≤ i → i ≤ q → i + q' ≡ i' + q → dotted_at t i' ≡ Some (e', w) → (e : ℕ) × (dotted_at s i ≡ Some (e, 1)) × (e' ≤ q') × (e' < q' → (e + q' ≡ e' + q) × (lo ≤ e))
  unfolding dotted_at
  dotted_back i i' e' l h at z =
      let f = fit_ends (fraction_at t i') (past_run (is_class Digit) t (i' + 1)) 1 z in
      let fe = f.1 in
      let x = fraction_back i i' l h at f.0 in
      let g = x.0 in
      let w = run_within copy Digit (digit_off (byte_at t q') stop) (i' + 1) (omega arith) in
      let ge = past_ge (is_class Digit) s (i + 1) in (
        past_run (is_class Digit) s (i + 1),
        fit (fraction_at s i) (past_run (is_class Digit) s (i + 1)) _ 1 x.1 refl,
        omega arith,
        λ k. let r = run_back copy Digit (digit_off (byte_at t q') stop) (i + 1) (i' + 1) (omega arith) (omega arith) (omega arith) in (omega arith, omega arith),
      )

  dotted_long : (i e : ℕ) {w : ℕ} → dotted_at s i ≡ Some (e, w) → i < e
  unfolding dotted_at
  dotted_long i e z = let f = fit_ends (fraction_at s i) (past_run (is_class Digit) s (i + 1)) 1 z in let fe = f.1 in let g = fraction_long s i f.0 in omega arith

  three_hit : (i i' e e' : ℕ) {w : ℕ} → lo ≤ i → i + q' ≡ i' + q → three_at s i ≡ Some (e, w) → e ≤ q → e + q' ≡ e' + q → three_at t i' ≡ Some (e', 1)
  unfolding three_at
  three_hit i i' e e' l at z h ends =
      let a = then_ends (dotted_at s i) _ z in
      let b = then_ends (dotted_at s a.0) _ a.3 in
      let i₁ : ℕ = a.0 in
      let i₂ : ℕ = b.0 in
      let ga = dotted_long i i₁ a.2 in
      let gb = dotted_long i₁ i₂ b.2 in
      let gc = dotted_long i₂ e b.3 in
      let j₁ : ℕ = i' + (i₁ - i) in
      let j₂ : ℕ = i' + (i₂ - i) in
      then_goes (dotted_at t i') _ (dotted_hit i i' i₁ j₁ l at a.2 (omega arith) (omega arith))
      (then_goes (dotted_at t j₁) _ (dotted_hit i₁ j₁ i₂ j₂ (omega arith) (omega arith) b.2 (omega arith) (omega arith))
      (dotted_hit i₂ j₂ e e' (omega arith) (omega arith) b.3 h ends))

  -- nothing dotted begins at the stop
  no_dotted : (j e : ℕ) {w : ℕ} → dotted_at t j ≡ Some (e, w) → j ≤ q' → j < q'
  unfolding dotted_at fraction_at
  no_dotted j e z h =
      let f = fit_ends (eqb (byte_at t j) 46 && is_digit (byte_at t (j + 1))) (past_run (is_class Digit) t (j + 1)) 1 z in
      short_of_stop copy (is 46) (is_dot (byte_at t q') stop) j h (left_true (eqb (byte_at t j) 46) (is_digit (byte_at t (j + 1))) f.0)

  three_goes : (i a b c : ℕ) → dotted_at s i ≡ Some (a, 1) → dotted_at s a ≡ Some (b, 1) → dotted_at s b ≡ Some (c, 1) → three_at s i ≡ None → ⊥
  unfolding three_at
  three_goes i a b c x y z h = never_both (three_at s i) h (then_goes (dotted_at s i) _ x (then_goes (dotted_at s a) _ y z))

  three_miss : (i i' : ℕ) → lo ≤ i → i ≤ q → i + q' ≡ i' + q → three_at s i ≡ None → three_at t i' ≡ None
  unfolding three_at
  three_miss i i' l h at z = none_fits _ (λ e w x.
      let a = then_ends (dotted_at t i') _ x in
      let b = then_ends (dotted_at t a.0) _ a.3 in
      let j₁ : ℕ = a.0 in
      let j₂ : ℕ = b.0 in
      let p = dotted_back i i' j₁ l h at a.2 in
      let i₁ : ℕ = p.0 in
      let le₁ = p.2 in
      let k₁ = p.3 (no_dotted j₁ j₂ b.2 le₁) in
      let at₁ = k₁.0 in
      let lo₁ = k₁.1 in
      let r = dotted_back i₁ j₁ j₂ lo₁ (omega arith) at₁ b.2 in
      let i₂ : ℕ = r.0 in
      let le₂ = r.2 in
      let k₂ = r.3 (no_dotted j₂ e b.3 le₂) in
      let at₂ = k₂.0 in
      let lo₂ = k₂.1 in
      let u = dotted_back i₂ j₂ e lo₂ (omega arith) at₂ b.3 in
      three_goes i i₁ i₂ u.0 p.1 r.1 u.1 z)

  -- the place behind the last v before c, where one stands at j
  last_to : (v j j' : ℕ) → lo ≤ j → j + q' ≡ j' + q → eqb (byte_at s j) v ≡ true → (c c' : ℕ) → j < c → c ≤ q → c + q' ≡ c' + q → (behind_last v t c' + q ≡ behind_last v s c + q') × (j < behind_last v s c)
  last_to v j j' l at here zero c' h k e = absurd (omega arith)
  last_to v j j' l at here (suc c) c' h k e = go (eqb (byte_at s c) v) refl (last_to v j j' l at here c (c' - 1))
    where
      d : ℕ
      d = c' - 1

      next : c' ≡ suc d
      next = omega arith

      go : (u : Bool) → eqb (byte_at s c) v ≡ u → (j < c → c ≤ q → c + q' ≡ d + q → (behind_last v t d + q ≡ behind_last v s c + q') × (j < behind_last v s c)) → (behind_last v t c' + q ≡ behind_last v s (suc c) + q') × (j < behind_last v s (suc c))
      go true x ih =
          let y = last_yes v s c x in
          let z = ap (behind_last v t) next ∙ last_yes v t d (test_to copy (is v) c d (omega arith) (omega arith) (omega arith) x) in
          (omega arith, omega arith)
      go false x ih =
          let y = last_no v s c x in
          let z = ap (behind_last v t) next ∙ last_no v t d (test_to copy (is v) c d (omega arith) (omega arith) (omega arith) x) in
          let m : j < c = elim (dec_lt j c) [ yes g ↦ g | no g ↦ absurd (let w : j ≡ c = omega arith in true≢false (sym here ∙ ap (λ (n : ℕ). eqb (byte_at s n) v) w ∙ x)) ] in
          let r = ih m (omega arith) (omega arith) in
          let r₀ = r.0 in
          let r₁ = r.1 in
          (omega arith, omega arith)

  -- what an IPv6 token without a dotted ending has: a colon, and behind it no digit
  pub record Colons (i c : ℕ) : Type 0 where
    pub colon : ℕ
    pub from : i ≤ colon
    pub below : colon < c
    pub stands : eqb (byte_at s colon) 58 ≡ true
    pub ends : is_class Digit (byte_at s c) ≡ false

  colons_have : (i c : ℕ) {w : ℕ} → colons_at s i ≡ Some (c, w) → Colons i c
  unfolding colons_at
  colons_have i c z =
      let a : ℕ = hexes s i in
      let b : ℕ = hexes s (a + 1) in
      let f = fit_ends (eqb (byte_at s a) 58 && eqb (byte_at s b) 58) (past_run (is_class HexColon) s (b + 1)) 1 z in
      let fe = f.1 in
      let ga = past_ge (is_class HexDigit) s i in
      let gb = past_ge (is_class HexDigit) s (a + 1) in
      let gc = past_ge (is_class HexColon) s (b + 1) in
      record {
        colon = a;
        from = ga;
        below = omega arith;
        stands = left_true (eqb (byte_at s a) 58) (eqb (byte_at s b) 58) f.0;
        ends = ap (λ (n : ℕ). is_class Digit (byte_at s n)) (sym fe) ∙ colon_digit _ (past_stops (is_class HexColon) (outside HexColon) s (b + 1));
      }

  eqb_moved : (x y x' y' : ℕ) → x + q' ≡ x' + q → y + q' ≡ y' + q → eqb x' y' ≡ eqb x y
  eqb_moved x y x' y' e f = by (eqb x y) refl
    where
      by : (b : Bool) → eqb x y ≡ b → eqb x' y' ≡ b
      by true h = let z = eqb-true x y h in eq-eqb x' y' (omega arith)
      by false h = ne_eqb x' y' (λ k. eqb-false x y h (omega arith))

  ltb_moved : (x y x' y' : ℕ) → x + q' ≡ x' + q → y + q' ≡ y' + q → ltb x' y' ≡ ltb x y
  ltb_moved x y x' y' e f = by (ltb x y) refl
    where
      by : (b : Bool) → ltb x y ≡ b → ltb x' y' ≡ b
      by true h = let z = ltb-true x y h in lt-ltb x' y' (omega arith)
      by false h = let z = ltb-false x y h in le-ltb x' y' (omega arith)

  group_to : (i i' c c' : ℕ) → lo ≤ i → i + q' ≡ i' + q → Colons i c → c ≤ q → c + q' ≡ c' + q → decimal_group t c' ≡ decimal_group s c
  unfolding decimal_group
  group_to i i' c c' l at k h e =
      let j : ℕ = k.colon in
      let j' : ℕ = i' + (j - i) in
      let jf = k.from in
      let jb = k.below in
      let r = last_to 58 j j' (omega arith) (omega arith) k.stands c c' jb h e in
      let g : ℕ = behind_last 58 s c in
      let g' : ℕ = behind_last 58 t c' in
      let r₀ = r.0 in
      let r₁ = r.1 in
      let le = last_le 58 s c in
      let m = run_before (is_class Digit) (outside Digit) s c k.ends g le in
      let n = run_to copy Digit (digit_off (byte_at t q') stop) g g' (omega arith) (omega arith) (omega arith) in
      ap (λ (b : Bool). b && eqb (past_run (is_class Digit) t g') c') (ltb_moved g c g' c' (omega arith) e)
      ∙ ap (λ (b : Bool). ltb g c && b) (eqb_moved (past_run (is_class Digit) s g) c (past_run (is_class Digit) t g') c' (omega arith) e)

  or_to_lem : (f : Fit) (c : ℕ) → (e : ℕ) × (or_to f c ≡ Some (e, 1))
  unfolding or_to
  or_to_lem (Some (e, w)) c = (e, refl)
  or_to_lem None c = (c, refl)

  pub ipv6_miss : (i i' : ℕ) → lo ≤ i → i ≤ q → i + q' ≡ i' + q → ipv6_at s i ≡ None → ipv6_at t i' ≡ None
  unfolding ipv6_at
  ipv6_miss i i' l h at z = then_none (colons_at t i') _ (colons_miss i i' l h at (by (colons_at s i) refl))
    where
      by : (f : Fit) → colons_at s i ≡ f → colons_at s i ≡ None
      by (Some (e, w)) x = absurd (let o = or_to_lem (cond (decimal_group s e) (three_at s e) None) e in never_both _ z (then_goes (colons_at s i) _ x o.1))
      by None x = x

  -- the dotted ending, or none
  ending_hit : (c c' e e' : ℕ) {w : ℕ} → lo ≤ c → c + q' ≡ c' + q → (b b' : Bool) → b' ≡ b → (f : Fit) → three_at s c ≡ f → or_to (cond b f None) c ≡ Some (e, w) → e ≤ q → e + q' ≡ e' + q → or_to (cond b' (three_at t c') None) c' ≡ Some (e', w)
  unfolding or_to
  ending_hit c c' e e' l at true b' d (Some (x, v)) y z h k =
      let u : x ≡ e = ap fit_end z in
      let r = three_hit c c' x e' l at y (omega arith) (omega arith) in
      rw (d, r) (ap (λ (n : ℕ). Some (e', n)) (ap fit_word z))
  ending_hit c c' e e' l at true b' d None y z h k =
      let u : c ≡ e = ap fit_end z in
      let r = three_miss c c' l (omega arith) at y in
      let n : c' ≡ e' = omega arith in
      rw (d, r, n) (ap (λ (m : ℕ). Some (e', m)) (ap fit_word z))
  ending_hit c c' e e' l at false b' d f y z h k =
      let u : c ≡ e = ap fit_end z in
      let n : c' ≡ e' = omega arith in
      rw (d, n) (ap (λ (m : ℕ). Some (e', m)) (ap fit_word z))

  ending_le : (c e : ℕ) {w : ℕ} (b : Bool) (f : Fit) → ((x v : ℕ) → f ≡ Some (x, v) → c ≤ x) → or_to (cond b f None) c ≡ Some (e, w) → c ≤ e
  unfolding or_to
  ending_le c e true (Some (x, v)) g z = let u : x ≡ e = ap fit_end z in let k = g x v refl in omega arith
  ending_le c e true None g z = let u : c ≡ e = ap fit_end z in omega arith
  ending_le c e false f g z = let u : c ≡ e = ap fit_end z in omega arith

  three_long : (c e : ℕ) {w : ℕ} → three_at s c ≡ Some (e, w) → c ≤ e
  unfolding three_at
  three_long c e z =
      let a = then_ends (dotted_at s c) _ z in
      let b = then_ends (dotted_at s a.0) _ a.3 in
      let x = dotted_long c a.0 a.2 in
      let y = dotted_long a.0 b.0 b.2 in
      let u = dotted_long b.0 e b.3 in
      omega arith

  pub ipv6_hit : (i i' e e' : ℕ) {w : ℕ} → lo ≤ i → i + q' ≡ i' + q → ipv6_at s i ≡ Some (e, w) → e ≤ q → e + q' ≡ e' + q → ipv6_at t i' ≡ Some (e', w)
  unfolding ipv6_at
  ipv6_hit i i' e e' {w} l at z h k =
      let a = then_ends (colons_at s i) _ z in
      by a.0 a.2 a.3
    where
      by : (c : ℕ) {v : ℕ} → colons_at s i ≡ Some (c, v) → or_to (cond (decimal_group s c) (three_at s c) None) c ≡ Some (e, w) → ipv6_at t i' ≡ Some (e', w)
      by c x y =
          let have = colons_have i c x in
          let from = have.from in
          let below = have.below in
          let le = ending_le c e (decimal_group s c) (three_at s c) (λ n v r. three_long c n r) y in
          let c' : ℕ = i' + (c - i) in
          then_goes (colons_at t i') _ (colons_hit i i' c c' l at x (omega arith) (omega arith))
          (ending_hit c c' e e' (omega arith) (omega arith) (decimal_group s c) (decimal_group t c') (group_to i i' c c' l at have (omega arith) (omega arith)) (three_at s c) refl y h k)

  -- 2. digits and a period
  period_hit : (i i' e e' : ℕ) {w : ℕ} → lo ≤ i → i + q' ≡ i' + q → period_at s i ≡ Some (e, w) → e ≤ q → e + q' ≡ e' + q → period_at t i' ≡ Some (e', 2)
  unfolding period_at
  period_hit i i' e e' l at z h ends =
      let a : ℕ = past_run (is_class Digit) s i in
      let a' : ℕ = past_run (is_class Digit) t i' in
      let f = fit_ends (is_digit (byte_at s i) && eqb (byte_at s a) 46) (a + 1) 2 z in
      let fe = f.1 in
      let ga = past_ge (is_class Digit) s i in
      let r = run_to copy Digit (digit_off (byte_at t q') stop) i i' l at (omega arith) in
      fit (is_digit (byte_at t i') && eqb (byte_at t a') 46) (a' + 1) e' 2
      (both (is_digit (byte_at t i')) (eqb (byte_at t a') 46)
      (test_to copy is_digit i i' l (omega arith) at (left_true (is_digit (byte_at s i)) (eqb (byte_at s a) 46) f.0))
      (test_to copy (is 46) a a' (omega arith) (omega arith) (omega arith) (right_true (is_digit (byte_at s i)) (eqb (byte_at s a) 46) f.0)))
      (omega arith)

  period_long : (i e : ℕ) {w : ℕ} → period_at s i ≡ Some (e, w) → i < e
  unfolding period_at
  period_long i e z =
      let a : ℕ = past_run (is_class Digit) s i in
      let f = (fit_ends (is_digit (byte_at s i) && eqb (byte_at s a) 46) (a + 1) 2 z).1 in
      let ga = past_ge (is_class Digit) s i in
      omega arith

  period_back : (i i' e' : ℕ) {w : ℕ} → lo ≤ i → i ≤ q → i + q' ≡ i' + q → period_at t i' ≡ Some (e', w) → (e : ℕ) × (period_at s i ≡ Some (e, 2)) × (e + q' ≡ e' + q) × (lo ≤ e) × (e ≤ q)
  unfolding period_at
  period_back i i' e' l h at z =
      let a : ℕ = past_run (is_class Digit) s i in
      let a' : ℕ = past_run (is_class Digit) t i' in
      let f = fit_ends (is_digit (byte_at t i') && eqb (byte_at t a') 46) (a' + 1) 2 z in
      let fe = f.1 in
      let x = left_true (is_digit (byte_at t i')) (eqb (byte_at t a') 46) f.0 in
      let y = right_true (is_digit (byte_at t i')) (eqb (byte_at t a') 46) f.0 in
      let w = run_within copy Digit (digit_off (byte_at t q') stop) i' (omega arith) in
      let g = short_of_stop copy (is 46) (is_dot (byte_at t q') stop) a' w y in
      let r = run_back copy Digit (digit_off (byte_at t q') stop) i i' l at g in
      let ga = past_ge (is_class Digit) s i in (
        a + 1,
        fit (is_digit (byte_at s i) && eqb (byte_at s a) 46) (a + 1) (a + 1) 2
            (both (is_digit (byte_at s i)) (eqb (byte_at s a) 46) (test_back copy is_digit i i' l (omega arith) at x) (test_back copy (is 46) a a' (omega arith) (omega arith) (omega arith) y))
            refl,
        omega arith,
        omega arith,
        omega arith,
      )

  pub ipv4_hit : (i i' e e' : ℕ) {w : ℕ} → lo ≤ i → i + q' ≡ i' + q → ipv4_at s i ≡ Some (e, w) → e ≤ q → e + q' ≡ e' + q → ipv4_at t i' ≡ Some (e', w)
  unfolding ipv4_at
  ipv4_hit i i' e e' {w} l at z h ends =
      let a = then_ends (period_at s i) _ z in
      let b = then_ends (period_at s a.0) _ a.3 in
      let c = then_ends (period_at s b.0) _ b.3 in
      by a.0 b.0 c.0 a.2 b.2 c.2 c.3
    where
      by : (i₁ i₂ i₃ : ℕ) {u v x : ℕ} → period_at s i ≡ Some (i₁, u) → period_at s i₁ ≡ Some (i₂, v) → period_at s i₂ ≡ Some (i₃, x) → ◌≡◌ {A = Fit} (Some (past_run (is_class Digit) s i₃, 2)) (Some (e, w)) → ipv4_at t i' ≡ Some (e', w)
      by i₁ i₂ i₃ a b c y =
          let ga = period_long i i₁ a in
          let gb = period_long i₁ i₂ b in
          let gc = period_long i₂ i₃ c in
          let gd = past_ge (is_class Digit) s i₃ in
          let ye : past_run (is_class Digit) s i₃ ≡ e = ap fit_end y in
          let yw : 2 ≡ w = ap fit_word y in
          let j₁ : ℕ = i' + (i₁ - i) in
          let j₂ : ℕ = i' + (i₂ - i) in
          let j₃ : ℕ = i' + (i₃ - i) in
          let r = run_to copy Digit (digit_off (byte_at t q') stop) i₃ j₃ (omega arith) (omega arith) (omega arith) in
          let re : past_run (is_class Digit) t j₃ ≡ e' = omega arith in
          then_goes (period_at t i') _ {a = j₁} {x = Some (e', w)} (period_hit i i' i₁ j₁ l at a (omega arith) (omega arith))
          (then_goes (period_at t j₁) _ {a = j₂} {x = Some (e', w)} (period_hit i₁ j₁ i₂ j₂ (omega arith) (omega arith) b (omega arith) (omega arith))
          (then_goes (period_at t j₂) _ {a = j₃} {x = Some (e', w)} (period_hit i₂ j₂ i₃ j₃ (omega arith) (omega arith) c (omega arith) (omega arith))
          (ap (λ (n : ℕ). Some (n, 2)) re ∙ ap (λ (z : ℕ). Some (e', z)) yw)))

  ipv4_goes : (i a b c : ℕ) → period_at s i ≡ Some (a, 2) → period_at s a ≡ Some (b, 2) → period_at s b ≡ Some (c, 2) → ipv4_at s i ≡ None → ⊥
  unfolding ipv4_at
  ipv4_goes i a b c x y z h = never_both (ipv4_at s i) h (then_goes (period_at s i) _ x (then_goes (period_at s a) _ y (then_goes (period_at s b) _ z refl)))

  pub ipv4_miss : (i i' : ℕ) → lo ≤ i → i ≤ q → i + q' ≡ i' + q → ipv4_at s i ≡ None → ipv4_at t i' ≡ None
  unfolding ipv4_at
  ipv4_miss i i' l h at z = none_fits _ (λ e w x.
      let a = then_ends (period_at t i') _ x in
      let b = then_ends (period_at t a.0) _ a.3 in
      let c = then_ends (period_at t b.0) _ b.3 in
      let p = period_back i i' a.0 l h at a.2 in
      let r = period_back p.0 a.0 b.0 p.3 p.4 p.2 b.2 in
      let u = period_back r.0 b.0 c.0 r.3 r.4 r.2 c.2 in
      ipv4_goes i p.0 r.0 u.0 p.1 r.1 u.1 z)
