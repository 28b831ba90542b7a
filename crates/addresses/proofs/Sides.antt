-- The two sides of a `::`, the eight groups, and the halves that they write.
use Rattle.std.specs.Prelude.{Some, None}
use mathlib.Core.Path.{◌≡◌, refl, sym, ap, ap₂, ◌∙◌, subst}
use Prim.Native.Nat.{ℕ, zero, suc, ◌+◌, ◌-◌, ◌*◌, ◌/◌, ◌%◌, ◌<◌, ◌≤◌, suc-le-suc}
use mathlib.Core.List.{List, [], ◌∷◌, ◌++◌}
use mathlib.Core.Option.{Option, none, some}
use mathlib.Core.Bool.{Bool, true, false, ◌&&◌, cond}
use native.Mathlib.Nat.{add-zero, zero-add, mod-eq_of_lt, div-eq_of_lt, mul-add-div_right, mul-add-mod_self_right}
use native.Mathlib.Numerals.{add-one}
use native.Mathlib.Decide.{ℕ_discrete}
use native.Mathlib.Omega.{arith}
use lib.ListN.{length, get_or, take, drop, replicate, drop_of_length-le, length-append, length-replicate}
use lib.Seq.{drop-cons}
use lib.Dec.{eqb, ltb, leb, lit<}
use borrow.Author.Tests.{le-leb, leb-true, leb-false, eq-eqb, ne_eqb, eqb-true, lt-ltb, le-ltb, ltb-true}
use Rattle.chars.specs.Chars.{byte_at}
use Rattle.chars.proofs.Runs.{byte_in, within}
use Rattle.numbers.specs.Results.{Number}
use Rattle.numbers.specs.Digits.{value_from, value_of}
use Rattle.numbers.proofs.Choices.{so, first, second, and_right}
use Rattle.numbers.proofs.Texts.{byte_behind}
use Rattle.addresses.specs.declared.Form.{Form}
use Rattle.addresses.specs.declared.Wide.{Wide}
use Rattle.addresses.specs.Results.{Groups}
use Rattle.addresses.specs.Groups as spec
use Rattle.addresses.specs.Groups.{group_of, parts, before, values_of, push_of, push_all, heard, only_of}
use Rattle.addresses.specs.Addresses.{exactly, octets_of, as_quad, quad_of, gap, side_of, filled, groups_in}
use Rattle.addresses.proofs.Parts.{group_top, top_of}

-- two colons
abbrev pub colons : ℕ → ℕ → Bool
colons a b = eqb a 58 && eqb b 58

module _ (t : List ℕ) (i : ℕ) where
  pub gap_end : length t ≤ i → 0 ≡ gap (drop i t)
  unfolding gap
  gap_end h = rw (drop_of_length-le t {i = i} h) refl

  module _ {a b : ℕ} (h : i < length t) (ha : a ≡ byte_at t i) (hb : b ≡ byte_at t (i + 1)) where
    seen : {u : Bool} → colons a b ≡ u → colons (get_or t i 0) (byte_at (drop (suc i) t) 0) ≡ u
    seen e = ap₂ colons (sym (byte_in t i h) ∙ sym ha) (byte_behind t (suc i) 0 ∙ ap (byte_at t) (omega arith) ∙ sym hb) ∙ e

    pub gap_here : colons a b ≡ true → 0 ≡ gap (drop i t)
    unfolding gap
    gap_here e = rw (drop-cons t i 0 h) (first _ (seen e) refl)

    pub gap_more : colons a b ≡ false → suc (gap (drop (i + 1) t)) ≡ gap (drop i t)
    unfolding gap
    gap_more e = rw (drop-cons t i 0 h, add-one) (second _ (seen e) refl)

-- a gap has both its colons
pub gap_whole : (l : List ℕ) → gap l < length l → gap l + 2 ≤ length l
unfolding gap
gap_whole [] h = absurd (omega (arith, h))
gap_whole (b ∷ l) h = go (colons b (byte_at l 0)) refl h (gap_whole l)
  where
    go : (u : Bool) → colons b (byte_at l 0) ≡ u → cond u 0 (suc (gap l)) < suc (length l) → (gap l < length l → gap l + 2 ≤ length l) → cond u 0 (suc (gap l)) + 2 ≤ suc (length l)
    go true e k ih = omega (arith, within (λ n. eqb n 58) refl l 0 (and_right (eqb b 58) (eqb (byte_at l 0) 58) e))
    go false e k ih = omega (arith, ih (omega (arith, k)))

-- the groups on one side
module _ (n : ℕ) (w : Wide) (t : List ℕ) where
  pub side_empty : length t ≡ 0 → n ≤ 8 → Some (n, w) ≡ heard Form.Hexed n w (side_of t)
  unfolding side_of heard push_all
  side_empty e h = first None (le-leb n 8 h) refl ∙ sym (ap (λ m. cond (leb m 8) (Some (m, w)) None) (add-zero n)) ∙ ap (heard Form.Hexed n w) (first (values_of Form.Hexed (parts 58 t)) (eq-eqb _ _ e) refl)

  pub side_groups : {r : Groups} → (length t ≡ 0 → ⊥) → r ≡ heard Form.Hexed n w (values_of Form.Hexed (parts 58 t)) → r ≡ heard Form.Hexed n w (side_of t)
  unfolding side_of
  side_groups e h = h ∙ ap (heard Form.Hexed n w) (second (some []) (ne_eqb _ _ e) refl)

-- zero groups, one by one
pub zeros_more : (w : Wide) (n : ℕ) → 0 < n → push_all Form.Hexed (push_of Form.Hexed w 0) (replicate (n - 1) 0) ≡ push_all Form.Hexed w (replicate n 0)
unfolding push_all
zeros_more w n h = let e : n ≡ suc (n - 1) = omega arith in sym (ap (λ k. push_all Form.Hexed w (replicate k 0)) e)

pub zeros_done : (w : Wide) (n : ℕ) → n ≤ 0 → w ≡ push_all Form.Hexed w (replicate n 0)
unfolding push_all
zeros_done w n h = let e : n ≡ 0 = omega arith in sym (ap (λ k. push_all Form.Hexed w (replicate k 0)) e)

-- what an answer says of the values heard
pub record Heard (form : Form) (n : ℕ) (w : Wide) (o : Option (List ℕ)) (c : ℕ) (x : Wide) : Type 0 where
  pub vs : List ℕ
  pub are : o ≡ some vs
  pub count : c ≡ n + length vs
  pub wide : x ≡ push_all form w vs
  pub few : c ≤ 8

pub some_same : {vs ws : List ℕ} → some vs ≡ some ws → vs ≡ ws
some_same e = cc

module _ (form : Form) (n : ℕ) (w : Wide) where
  abbrev Said : Option (List ℕ) → Groups → Type 0
  Said o (Some (c, x)) = Heard form n w o c x
  Said o None = (vs : List ℕ) → o ≡ some vs → 8 < n + length vs

  said : (o : Option (List ℕ)) → Said o (heard form n w o)
  unfolding heard
  said none = λ vs e. let z : ◌≡◌ {A = ℕ} 0 1 = cc in absurd (omega arith)
  said (some vs) = go (leb (n + length vs) 8) refl
    where
      go : (t : Bool) → leb (n + length vs) 8 ≡ t → Said (some vs) (cond t (Some (n + length vs, push_all form w vs)) None)
      go true e = record { vs = vs; are = refl; count = refl; wide = refl; few = leb-true _ _ e }
      go false e = λ ws f. subst (λ l. 8 < n + length l) (some_same f) (leb-false _ _ e)

  pub heard_are : (o : Option (List ℕ)) {c : ℕ} {x : Wide} → heard form n w o ≡ Some (c, x) → Heard form n w o c x
  heard_are o e = subst (Said o) e (said o)

  pub heard_not : (o : Option (List ℕ)) → heard form n w o ≡ None → (vs : List ℕ) → o ≡ some vs → 8 < n + length vs
  heard_not o e = subst (Said o) e (said o)

-- too many groups beside the `::`, or a side that is none
unfilled : (m : ℕ) (L R : Option (List ℕ)) → ((vs ws : List ℕ) → L ≡ some vs → R ≡ some ws → m ≤ length vs + length ws) → filled m L R ≡ none
unfolding filled
unfilled m none R h = refl
unfilled m (some vs) none h = refl
unfilled m (some vs) (some ws) h = sym (second _ (le-ltb _ _ (h vs ws refl refl)) refl)

pub filled_are : (m : ℕ) (vs ws : List ℕ) → length vs + length ws < m → filled m (some vs) (some ws) ≡ some (vs ++ replicate (m - (length vs + length ws)) 0 ++ ws)
unfolding filled
filled_are m vs ws h = sym (first _ (lt-ltb _ _ h) refl)

module _ {m : ℕ} (top : m ≤ 8) (L R : Option (List ℕ)) (z : Wide) where
  refused : filled m L R ≡ none → None ≡ heard Form.Hexed 0 z (filled m L R)
  unfolding heard
  refused e = rw e refl

  pub short_left : (w : Wide) → heard Form.Hexed 0 w L ≡ None → None ≡ heard Form.Hexed 0 z (filled m L R)
  short_left w e = refused (unfilled m L R (λ vs ws p q. omega (arith, heard_not Form.Hexed 0 w L e vs p)))

  pub short_right : (w : Wide) → heard Form.Hexed 0 w R ≡ None → None ≡ heard Form.Hexed 0 z (filled m L R)
  short_right w e = refused (unfilled m L R (λ vs ws p q. omega (arith, heard_not Form.Hexed 0 w R e ws q)))

pub push_append : (form : Form) (w : Wide) (vs ws : List ℕ) → push_all form w (vs ++ ws) ≡ push_all form (push_all form w vs) ws
unfolding push_all
push_append form w [] ws = refl
push_append form w (v ∷ vs) ws = push_append form (push_of form w v) vs ws

module _ {m : ℕ} (top : m ≤ 8) (L R : Option (List ℕ)) (w : Wide) {c d : ℕ} {x y v : Wide} (hl : Heard Form.Hexed 0 w L c x) (hr : Heard Form.Hexed 0 v R d y) where
  filled_by : filled m L R ≡ filled m (some hl.vs) (some hr.vs)
  filled_by = ap₂ (filled m) hl.are hr.are

  pub short_over : m ≤ c + d → None ≡ heard Form.Hexed 0 w (filled m L R)
  short_over h = refused top L R w (filled_by ∙ unfilled m (some hl.vs) (some hr.vs) (λ vs ws p q. many vs ws (some_same p) (some_same q)))
    where
      many : (vs ws : List ℕ) → hl.vs ≡ vs → hr.vs ≡ ws → m ≤ length vs + length ws
      many vs ws p q = omega (arith, h, hl.count, hr.count, ap length p, ap length q)

  pub short_is : {u : Wide} {r : Groups} → c + d < m → u ≡ push_all Form.Hexed x (replicate (m - (c + d)) 0) → r ≡ heard Form.Hexed (m - d) u R → r ≡ heard Form.Hexed 0 w (filled m L R)
  unfolding heard
  short_is {u} h hu e =
      let vs : List ℕ = hl.vs in
      let ws : List ℕ = hr.vs in
      let zs : List ℕ = replicate (m - (length vs + length ws)) 0 in
      let hc : c ≡ length vs = hl.count ∙ zero-add (length vs) in
      let hd : d ≡ length ws = hr.count ∙ zero-add (length ws) in
      let n : m - d + length ws ≡ m = omega arith in
      let k : 0 + length (vs ++ zs ++ ws) ≡ m = omega (arith, length-append (vs ++ zs) ws, length-append vs zs, length-replicate {A = ℕ} (m - (length vs + length ws)) 0) in
      let q : push_all Form.Hexed u ws ≡ push_all Form.Hexed w (vs ++ zs ++ ws) =
      ap (λ p. push_all Form.Hexed p ws) (hu ∙ ap₂ (λ p n. push_all Form.Hexed p (replicate n 0)) hl.wide (ap₂ (λ a b. m - (a + b)) hc hd))
      ∙ sym (push_append Form.Hexed w (vs ++ zs) ws ∙ ap (λ p. push_all Form.Hexed p ws) (push_append Form.Hexed w vs zs)) in
      e
      ∙ ap (heard Form.Hexed (m - d) u) hr.are
      ∙ ap₂ (λ n p. cond (leb n 8) (Some (n, p)) None) (n ∙ sym k) q
      ∙ sym (ap (heard Form.Hexed 0 w) (filled_by ∙ filled_are m vs ws (omega (arith, h))))

-- so many groups, or none
module _ {g : Groups} (m : ℕ) where
  pub only_is : {n : ℕ} {w : Wide} → g ≡ Some (n, w) → n ≡ m → Some (n, w) ≡ only_of m g
  unfolding only_of
  only_is e h = rw e (first _ (eq-eqb _ _ h) refl)

  pub only_not : {n : ℕ} {w : Wide} → g ≡ Some (n, w) → (n ≡ m → ⊥) → None ≡ only_of m g
  unfolding only_of
  only_not e h = rw e (second _ (ne_eqb _ _ h) refl)

  pub only_none : g ≡ None → None ≡ only_of m g
  unfolding only_of
  only_none e = rw e refl

-- values below a bound
abbrev pub AllLt : ℕ → List ℕ → Type 0
AllLt r [] = Unit {0}
AllLt r (v ∷ vs) = (v < r) × AllLt r vs

abbrev pub Below : ℕ → Option (List ℕ) → Type 0
Below r (some vs) = AllLt r vs
Below r none = Unit {0}

pub values_below : (form : Form) (ps : List (List ℕ)) → Below (suc (top_of form)) (values_of form ps)
unfolding values_of
values_below form [] = tt
values_below form (p ∷ ps) = go (group_of form p) (values_of form ps) (λ v k e. suc-le-suc (group_top form p e)) (values_below form ps)
  where
    go : (g : Number) (o : Option (List ℕ)) → ((v k : ℕ) → g ≡ Some (v, k) → v < suc (top_of form)) → Below (suc (top_of form)) o → Below (suc (top_of form)) (before g o)
    go (Some (v, k)) (some vs) h s = (h v k refl, s)
    go (Some (v, k)) none h s = tt
    go None o h s = tt

pub all_append : (r : ℕ) (vs ws : List ℕ) → AllLt r vs → AllLt r ws → AllLt r (vs ++ ws)
all_append r [] ws h k = k
all_append r (v ∷ vs) ws h k = (h.0, all_append r vs ws h.1 k)

all_zeros : (r n : ℕ) → 0 < r → AllLt r (replicate n 0)
all_zeros r zero h = tt
all_zeros r (suc n) h = (h, all_zeros r n h)

side_below : (t : List ℕ) → Below 65536 (side_of t)
unfolding side_of
side_below t = go (eqb (length t) 0)
  where
    go : (u : Bool) → Below 65536 (cond u (some []) (values_of Form.Hexed (parts 58 t)))
    go true = tt
    go false = values_below Form.Hexed (parts 58 t)

filled_below : (m : ℕ) (L R : Option (List ℕ)) → Below 65536 L → Below 65536 R → Below 65536 (filled m L R)
unfolding filled
filled_below m none R h k = tt
filled_below m (some vs) none h k = tt
filled_below m (some vs) (some ws) h k = go (ltb (length vs + length ws) m)
  where
    zs : List ℕ
    zs = replicate (m - (length vs + length ws)) 0

    go : (u : Bool) → Below 65536 (cond u (some (vs ++ zs ++ ws)) none)
    go true = all_append 65536 (vs ++ zs) ws (all_append 65536 vs zs h (all_zeros 65536 (m - (length vs + length ws)) (lit< tt))) k
    go false = tt

-- the register: four groups in each half
abbrev wide : ℕ → ℕ → Wide
wide h l = record { high = h; low = l }

abbrev push : Wide → ℕ → Wide
push w g = push_of Form.Hexed w g

abbrev four : ℕ → ℕ → ℕ → ℕ → ℕ
four a b c d = value_of 65536 (a ∷ b ∷ c ∷ d ∷ [])

abbrev three : ℕ → ℕ → ℕ → ℕ
three b c d = (b * 65536 + c) * 65536 + d

module _ (a b c d : ℕ) (hb : b < 65536) (hc : c < 65536) (hd : d < 65536) where
  three_fit : three b c d < 281474976710656
  three_fit = omega arith

  as_sum : four a b c d ≡ a * 281474976710656 + three b c d
  unfolding value_from
  as_sum = omega arith

  four_mod : four a b c d % 281474976710656 ≡ three b c d
  four_mod = ap (λ n. n % 281474976710656) as_sum ∙ mul-add-mod_self_right a 281474976710656 (three b c d) ∙ mod-eq_of_lt three_fit

  four_div : four a b c d / 281474976710656 ≡ a
  four_div = ap (λ n. n / 281474976710656) as_sum ∙ mul-add-div_right (lit< tt) a (three b c d) ∙ ap (λ n. a + n) (div-eq_of_lt three_fit) ∙ add-zero a

next_four : (b c d e : ℕ) → three b c d * 65536 + e ≡ four b c d e
unfolding value_from
next_four b c d e = omega arith

shift : (a b c d e f g h x : ℕ) → b < 65536 → c < 65536 → d < 65536 → f < 65536 → g < 65536 → h < 65536
    → push_of Form.Hexed (wide (four a b c d) (four e f g h)) x ≡ wide (four b c d e) (four f g h x)
unfolding push_of
shift a b c d e f g h x hb hc hd hf hg hh =
    ap₂ wide
    (ap₂ (λ p q. p * 65536 + q) (four_mod a b c d hb hc hd) (four_div e f g h hf hg hh) ∙ next_four b c d e)
    (ap (λ p. p * 65536 + x) (four_mod e f g h hf hg hh) ∙ next_four f g h x)

all_eight : (a b c d e f g h : ℕ) → AllLt 65536 (a ∷ b ∷ c ∷ d ∷ e ∷ f ∷ g ∷ h ∷ [])
    → push_all Form.Hexed spec.all_zero (a ∷ b ∷ c ∷ d ∷ e ∷ f ∷ g ∷ h ∷ []) ≡ wide (four a b c d) (four e f g h)
unfolding push_all value_from
all_eight a b c d e f g h s =
    let z : 0 < 65536 = lit< tt in
    ap (λ w. push (push (push (push (push (push (push w b) c) d) e) f) g) h) (shift 0 0 0 0 0 0 0 0 a z z z z z z)
    ∙ ap (λ w. push (push (push (push (push (push w c) d) e) f) g) h) (shift 0 0 0 0 0 0 0 a b z z z z z s.0)
    ∙ ap (λ w. push (push (push (push (push w d) e) f) g) h) (shift 0 0 0 0 0 0 a b c z z z z s.0 s.1.0)
    ∙ ap (λ w. push (push (push (push w e) f) g) h) (shift 0 0 0 0 0 a b c d z z z s.0 s.1.0 s.1.1.0)
    ∙ ap (λ w. push (push (push w f) g) h) (shift 0 0 0 0 a b c d e z z z s.1.0 s.1.1.0 s.1.1.1.0)
    ∙ ap (λ w. push (push w g) h) (shift 0 0 0 a b c d e f z z s.0 s.1.1.0 s.1.1.1.0 s.1.1.1.1.0)
    ∙ ap (λ w. push w h) (shift 0 0 a b c d e f g z s.0 s.1.0 s.1.1.1.0 s.1.1.1.1.0 s.1.1.1.1.1.0)
    ∙ shift 0 a b c d e f g h s.0 s.1.0 s.1.1.0 s.1.1.1.1.0 s.1.1.1.1.1.0 s.1.1.1.1.1.1.0

-- eight groups, four in each half
pub eight_halves : (vs : List ℕ) → length vs ≡ 8 → AllLt 65536 vs → push_all Form.Hexed spec.all_zero vs ≡ wide (value_of 65536 (take 4 vs)) (value_of 65536 (drop 4 vs))
eight_halves [] e s = absurd (omega (arith, e))
eight_halves (a ∷ []) e s = absurd (omega (arith, e))
eight_halves (a ∷ b ∷ []) e s = absurd (omega (arith, e))
eight_halves (a ∷ b ∷ c ∷ []) e s = absurd (omega (arith, e))
eight_halves (a ∷ b ∷ c ∷ d ∷ []) e s = absurd (omega (arith, e))
eight_halves (a ∷ b ∷ c ∷ d ∷ f ∷ []) e s = absurd (omega (arith, e))
eight_halves (a ∷ b ∷ c ∷ d ∷ f ∷ g ∷ []) e s = absurd (omega (arith, e))
eight_halves (a ∷ b ∷ c ∷ d ∷ f ∷ g ∷ h ∷ []) e s = absurd (omega (arith, e))
eight_halves (a ∷ b ∷ c ∷ d ∷ f ∷ g ∷ h ∷ i ∷ []) e s = all_eight a b c d f g h i s
eight_halves (a ∷ b ∷ c ∷ d ∷ f ∷ g ∷ h ∷ i ∷ j ∷ vs) e s = absurd (omega (arith, e))

-- what was heard, where so many are wanted
module _ {m : ℕ} (top : m ≤ 8) where
  abbrev one_two : List ℕ → Bool → Groups
  one_two vs u = cond u (Some (0 + length vs, push_all Form.Hexed spec.all_zero vs)) None

  only_these : (vs : List ℕ) → length vs ≡ m → only_of m (heard Form.Hexed 0 spec.all_zero (some vs)) ≡ heard Form.Hexed 0 spec.all_zero (some vs)
  unfolding heard
  only_these vs e =
      let k : Some (0 + length vs, push_all Form.Hexed spec.all_zero vs) ≡ heard Form.Hexed 0 spec.all_zero (some vs) = first None (le-leb (0 + length vs) 8 (omega (arith, e))) refl in
      sym (only_is m (sym k) (zero-add (length vs) ∙ e)) ∙ k

  only_others : (vs : List ℕ) → (length vs ≡ m → ⊥) → only_of m (heard Form.Hexed 0 spec.all_zero (some vs)) ≡ None
  unfolding heard only_of
  only_others vs f = go (leb (0 + length vs) 8)
    where
      go : (u : Bool) → only_of m (one_two vs u) ≡ None
      go true = sym (second _ (ne_eqb _ _ (λ e. f (sym (zero-add (length vs)) ∙ e))) refl)
      go false = refl

  only_heard : (o : Option (List ℕ)) → only_of m (heard Form.Hexed 0 spec.all_zero o) ≡ heard Form.Hexed 0 spec.all_zero (exactly m o)
  unfolding heard only_of exactly
  only_heard none = refl
  only_heard (some vs) = elim (ℕ_discrete (length vs) m) [
    | yes e ↦ only_these vs e ∙ ap (heard Form.Hexed 0 spec.all_zero) (first none (eq-eqb _ _ e) refl)
    | no f ↦ only_others vs f ∙ ap (heard Form.Hexed 0 spec.all_zero) (second (some vs) (ne_eqb _ _ f) refl)
  ]

  module _ (t : List ℕ) {at : ℕ} (ha : at ≡ gap t) where
    pub groups_short : {r : Groups} → at < length t → r ≡ heard Form.Hexed 0 spec.all_zero (filled m (side_of (take at t)) (side_of (drop (at + 2) t))) → r ≡ heard Form.Hexed 0 spec.all_zero (groups_in m t)
    unfolding groups_in
    groups_short h hr = rw (← ha) (hr ∙ ap (heard Form.Hexed 0 spec.all_zero) (first _ (lt-ltb _ _ h) refl))

    pub groups_full : {g r : Groups} → length t ≤ at → g ≡ heard Form.Hexed 0 spec.all_zero (values_of Form.Hexed (parts 58 t)) → r ≡ only_of m g → r ≡ heard Form.Hexed 0 spec.all_zero (groups_in m t)
    unfolding groups_in
    groups_full h hg hr =
        rw (← ha) (hr ∙ ap (only_of m) hg ∙ only_heard (values_of Form.Hexed (parts 58 t)) ∙ ap (heard Form.Hexed 0 spec.all_zero) (second _ (le-ltb _ _ h) refl))

pub gap_room : (t : List ℕ) {at : ℕ} → at ≡ gap t → at < length t → at + 2 ≤ length t
gap_room t ha h = subst (λ n. n + 2 ≤ length t) (sym ha) (gap_whole t (subst (λ n. n < length t) ha h))

-- so many groups are read, each of 16 bits
module _ (m : ℕ) where
  abbrev Sized : Option (List ℕ) → Type 0
  Sized (some vs) = length vs ≡ m
  Sized none = Unit {0}

  exactly_all : (r : ℕ) (o : Option (List ℕ)) → Below r o → Sized (exactly m o) × Below r (exactly m o)
  unfolding exactly
  exactly_all r none h = (tt, tt)
  exactly_all r (some vs) h = go (eqb (length vs) m) refl
    where
      go : (u : Bool) → eqb (length vs) m ≡ u → Sized (cond u (some vs) none) × Below r (cond u (some vs) none)
      go true e = (eqb-true _ _ e, h)
      go false e = (tt, tt)

  pub exactly_sized : (r : ℕ) (o : Option (List ℕ)) → Below r o → {vs : List ℕ} → exactly m o ≡ some vs → length vs ≡ m
  exactly_sized r o h e = subst Sized e (exactly_all r o h).0

  pub exactly_below : (r : ℕ) (o : Option (List ℕ)) → Below r o → {vs : List ℕ} → exactly m o ≡ some vs → AllLt r vs
  exactly_below r o h e = subst (Below r) e (exactly_all r o h).1

  filled_sized : (L R : Option (List ℕ)) → Sized (filled m L R)
  unfolding filled
  filled_sized none R = tt
  filled_sized (some vs) none = tt
  filled_sized (some vs) (some ws) = go (ltb (length vs + length ws) m) refl
    where
      zs : List ℕ
      zs = replicate (m - (length vs + length ws)) 0

      go : (u : Bool) → ltb (length vs + length ws) m ≡ u → Sized (cond u (some (vs ++ zs ++ ws)) none)
      go true e =
          let h : length vs + length ws < m = ltb-true _ _ e in
          omega (arith, length-append (vs ++ zs) ws, length-append vs zs, length-replicate {A = ℕ} (m - (length vs + length ws)) 0)
      go false e = tt

  groups_all : (t : List ℕ) → Sized (groups_in m t) × Below 65536 (groups_in m t)
  unfolding groups_in
  groups_all t = go (ltb (gap t) (length t))
    where
      L : Option (List ℕ)
      L = side_of (take (gap t) t)

      R : Option (List ℕ)
      R = side_of (drop (gap t + 2) t)

      all : Option (List ℕ)
      all = values_of Form.Hexed (parts 58 t)

      go : (u : Bool) → Sized (cond u (filled m L R) (exactly m all)) × Below 65536 (cond u (filled m L R) (exactly m all))
      go true = (filled_sized L R, filled_below m L R (side_below (take (gap t) t)) (side_below (drop (gap t + 2) t)))
      go false = exactly_all 65536 all (values_below Form.Hexed (parts 58 t))

  pub groups_sized : (t : List ℕ) {vs : List ℕ} → groups_in m t ≡ some vs → length vs ≡ m
  groups_sized t e = subst Sized e (groups_all t).0

  pub groups_below : (t : List ℕ) {vs : List ℕ} → groups_in m t ≡ some vs → AllLt 65536 vs
  groups_below t e = subst (Below 65536) e (groups_all t).1

-- a dotted quad from what was heard
all_four : (a b c d : ℕ) → AllLt 256 (a ∷ b ∷ c ∷ d ∷ []) → (push_all Form.Dotted spec.all_zero (a ∷ b ∷ c ∷ d ∷ [])).low ≡ value_of 256 (a ∷ b ∷ c ∷ d ∷ [])
unfolding push_all push_of value_from
all_four a b c d s =
    let h : 0 * 256 + a < 281474976710656 = omega (arith, s.0) in
    let k : (0 * 256 + a) * 256 + b < 281474976710656 = omega (arith, s.0, s.1.0) in
    let m : ((0 * 256 + a) * 256 + b) * 256 + c < 281474976710656 = omega (arith, s.0, s.1.0, s.1.1.0) in
    rw (mod-eq_of_lt h, mod-eq_of_lt k, mod-eq_of_lt m) refl

four_octets : (vs : List ℕ) → length vs ≡ 4 → AllLt 256 vs → (push_all Form.Dotted spec.all_zero vs).low ≡ value_of 256 vs
four_octets [] e s = absurd (omega (arith, e))
four_octets (a ∷ []) e s = absurd (omega (arith, e))
four_octets (a ∷ b ∷ []) e s = absurd (omega (arith, e))
four_octets (a ∷ b ∷ c ∷ []) e s = absurd (omega (arith, e))
four_octets (a ∷ b ∷ c ∷ d ∷ []) e s = all_four a b c d s
four_octets (a ∷ b ∷ c ∷ d ∷ f ∷ vs) e s = absurd (omega (arith, e))

module _ (t : List ℕ) {g : Groups} (hg : g ≡ heard Form.Dotted 0 spec.all_zero (values_of Form.Dotted (parts 46 t))) where
  octets : Option (List ℕ)
  octets = values_of Form.Dotted (parts 46 t)

  unquad : ((vs : List ℕ) → octets ≡ some vs → length vs ≡ 4 → ⊥) → None ≡ quad_of t
  unfolding quad_of octets_of exactly octets
  unquad h = go octets h
    where
      go : (o : Option (List ℕ)) → ((vs : List ℕ) → o ≡ some vs → length vs ≡ 4 → ⊥) → None ≡ as_quad (exactly 4 o)
      go none h = refl
      go (some vs) h = ap as_quad (second (some vs) (ne_eqb _ _ (h vs refl)) refl)

  pub quad_none : g ≡ None → None ≡ quad_of t
  unfolding octets
  quad_none e = unquad (λ vs f h. omega (arith, h, heard_not Form.Dotted 0 spec.all_zero octets (so hg e) vs f))

  module _ {n : ℕ} {w : Wide} (e : g ≡ Some (n, w)) where
    these : Heard Form.Dotted 0 spec.all_zero octets n w
    unfolding octets
    these = heard_are Form.Dotted 0 spec.all_zero octets (so hg e)

    pub quad_not : (n ≡ 4 → ⊥) → None ≡ quad_of t
    quad_not h = unquad (λ vs f k. h (these.count ∙ zero-add (length these.vs) ∙ ap length (some_same (sym these.are ∙ f)) ∙ k))

    pub quad_is : n ≡ 4 → Some w.low ≡ quad_of t
    unfolding quad_of octets_of exactly octets
    quad_is h =
        let k : length these.vs ≡ 4 = sym (zero-add (length these.vs)) ∙ sym these.count ∙ h in
        let s : AllLt 256 these.vs = subst (Below 256) these.are (values_below Form.Dotted (parts 46 t)) in
        ap Some (ap (λ w. w.low) these.wide ∙ four_octets these.vs k s)
        ∙ ap as_quad (first none (eq-eqb _ _ k) refl)
        ∙ sym (ap (λ o. as_quad (exactly 4 o)) these.are)
