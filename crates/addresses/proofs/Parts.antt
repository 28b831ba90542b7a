-- Parts between separators, what they say, and the register that they are pushed into.
use Rattle.std.specs.Prelude.{Some, None}
use Rattle.std.specs.List.{slice_split, onto_first}
use Rattle.std.proofs.lemmas.List.Splits.{length-slice_split}
use mathlib.Core.Path.{◌≡◌, refl, sym, ap, ap₂, ◌∙◌, subst}
use Prim.Native.Nat.{ℕ, suc, ◌+◌, ◌*◌, ◌/◌, ◌<◌, ◌≤◌, suc-le-suc}
use mathlib.Core.List.{List, [], ◌∷◌}
use mathlib.Core.Option.{Option, none, some}
use mathlib.Core.Bool.{Bool, true, false, ◌&&◌, cond}
use native.Mathlib.Nat.{add-zero, le_of_eq, le_trans, div-lt_iff_lt-mul}
use native.Mathlib.Numerals.{add-one}
use native.Mathlib.Omega.{arith}
use lib.ListN.{length, drop, get_or, drop_of_length-le}
use lib.Seq.{drop-cons}
use lib.Dec.{eqb, ltb, leb, lit≤, lit<}
use borrow.Author.Tests.{le-leb, lt-ltb, le-ltb, lt-leb, leb-true, eq-eqb, ne_eqb}
use Rattle.chars.proofs.Pairs.{some_pair}
use Rattle.chars.specs.Chars.{byte_at}
use Rattle.numbers.specs.declared.Base.{Base}
use Rattle.numbers.specs.Results.{Number}
use Rattle.numbers.specs.Digits.{number_of, plain}
use Rattle.numbers.proofs.Choices.{so, first, second, not_right}
use Rattle.numbers.proofs.Digits.{plain_whole, number_says}
use Rattle.addresses.specs.declared.Form.{Form}
use Rattle.addresses.specs.declared.Wide.{Wide}
use Rattle.addresses.specs.Results.{Groups}
use Rattle.addresses.specs.Groups.{separator_of, short_of, group_of, onto, parts, before, values_of, push_of, push_all, heard}

module _ (sep : ℕ) where
  pub parts_here : {b : ℕ} (l : List ℕ) → b ≡ sep → parts sep (b ∷ l) ≡ [] ∷ parts sep l
  unfolding parts
  parts_here l e = sym (first _ (eq-eqb _ _ e) refl)

  pub parts_on : {b : ℕ} (l : List ℕ) → (b ≡ sep → ⊥) → parts sep (b ∷ l) ≡ onto b (parts sep l)
  unfolding parts
  parts_on l e = sym (second _ (ne_eqb _ _ e) refl)

pub number_short : {n : Number} {v k most : ℕ} → n ≡ Some (v, k) → k ≤ most → Some (v, k) ≡ short_of n most
unfolding short_of
number_short e h = rw e (first _ (le-leb _ _ h) refl)

pub number_long : {n : Number} {v k : ℕ} (most : ℕ) → n ≡ Some (v, k) → most < k → None ≡ short_of n most
unfolding short_of
number_long most e h = rw e (second _ (lt-leb _ _ h) refl)

pub number_none : {n : Number} (most : ℕ) → n ≡ None → None ≡ short_of n most
unfolding short_of
number_none most e = rw e refl

abbrev pub leads_zero : ℕ → ℕ → Bool
leads_zero n b = ltb 1 n && eqb b 48

pub leading : {n b : ℕ} → 1 < n → b ≡ 48 → leads_zero n b ≡ true
leading h e = rw (lt-ltb _ _ h, eq-eqb _ _ e) refl

pub alone : {n : ℕ} (b : ℕ) → n ≤ 1 → leads_zero n b ≡ false
alone b h = rw (le-ltb _ _ h) refl

pub not_led : (n : ℕ) {b : ℕ} → (b ≡ 48 → ⊥) → leads_zero n b ≡ false
not_led n f = not_right (ltb 1 n) (ne_eqb _ _ f)

module _ {form : Form} (t : List ℕ) where
  module _ (e : form ≡ Form.Dotted) {b : ℕ} (hb : b ≡ byte_at t 0) where
    pub octet_zero : leads_zero (length t) b ≡ true → None ≡ group_of form t
    unfolding group_of
    octet_zero h = rw e (first _ (ap (leads_zero (length t)) (sym hb) ∙ h) refl)

    pub octet_is : {n r : Number} → leads_zero (length t) b ≡ false → n ≡ number_of Base.Ten 255 (plain false t) → r ≡ short_of n 3 → r ≡ group_of form t
    unfolding group_of
    octet_is h hn hr = rw e (second _ (ap (leads_zero (length t)) (sym hb) ∙ h) (hr ∙ ap (λ m. short_of m 3) (hn ∙ ap (number_of Base.Ten 255) (plain_whole t))))

  pub hexed_is : {n r : Number} → form ≡ Form.Hexed → n ≡ number_of Base.Sixteen 65535 (plain false t) → r ≡ short_of n 4 → r ≡ group_of form t
  unfolding group_of
  hexed_is e hn hr = rw e (hr ∙ ap (λ m. short_of m 4) (hn ∙ ap (number_of Base.Sixteen 65535) (plain_whole t)))

-- the highest value of an octet or a group
abbrev pub top_of : Form → ℕ
top_of Form.Dotted = 255
top_of Form.Hexed = 65535

pub short_number : (n : Number) (most : ℕ) {v k : ℕ} → short_of n most ≡ Some (v, k) → (n ≡ Some (v, k)) × (k ≤ most)
unfolding short_of
short_number (Some (v, n)) most e = go (leb n most) refl e
  where
    go : {w k : ℕ} (t : Bool) → leb n most ≡ t → cond {A = Number} t (Some (v, n)) None ≡ Some (w, k) → (◌≡◌ {A = Number} (Some (v, n)) (Some (w, k))) × (k ≤ most)
    go {w} {k} true f g = (g, subst (λ m. m ≤ most) (some_pair g).1 (leb-true _ _ f))
    go {w} {k} false f g = let z : ◌≡◌ {A = ℕ} 0 1 = cc in absurd (omega arith)
short_number None most e = let z : ◌≡◌ {A = ℕ} 0 1 = cc in absurd (omega arith)

pub group_top : (form : Form) (t : List ℕ) {v k : ℕ} → group_of form t ≡ Some (v, k) → v ≤ top_of form
unfolding group_of
group_top Form.Dotted t e = go (leads_zero (length t) (byte_at t 0)) e
  where
    go : {v k : ℕ} (u : Bool) → cond u None (short_of (number_of Base.Ten 255 t) 3) ≡ Some (v, k) → v ≤ 255
    go true f = let z : ◌≡◌ {A = ℕ} 0 1 = cc in absurd (omega arith)
    go false f = (number_says Base.Ten 255 t (short_number (number_of Base.Ten 255 t) 3 f).0).most
group_top Form.Hexed t e = (number_says Base.Sixteen 65535 t (short_number (number_of Base.Sixteen 65535 t) 4 e).0).most

pub group_fits : (form : Form) (t : List ℕ) {v k : ℕ} {g : Number} → g ≡ group_of form t → g ≡ Some (v, k) → v < 65536
group_fits form t e f = le_trans (suc-le-suc (group_top form t (so e f))) (go form)
  where
    go : (form : Form) → suc (top_of form) ≤ 65536
    go Form.Dotted = lit≤ tt
    go Form.Hexed = lit≤ tt

-- values heard one by one
module _ (form : Form) (n : ℕ) (w : Wide) where
  hear : {m : ℕ} → m ≡ n → (x : Wide) → cond {A = Groups} (leb m 8) (Some (m, x)) None ≡ cond {A = Groups} (leb n 8) (Some (n, x)) None
  hear e x = ap (λ m. cond {A = Groups} (leb m 8) (Some (m, x)) None) e

  pub heard_none : (o : Option (List ℕ)) → None ≡ heard form n w (before None o)
  unfolding heard
  heard_none o = refl

  pub heard_full : 8 ≤ n → (p : List ℕ) (ps : List (List ℕ)) → None ≡ heard form n w (values_of form (p ∷ ps))
  unfolding heard values_of
  heard_full h p ps = go (group_of form p) (values_of form ps)
    where
      go : (g : Number) (o : Option (List ℕ)) → None ≡ heard form n w (before g o)
      go (Some (v, k)) (some vs) = second _ (lt-leb (n + suc (length vs)) 8 (omega arith)) refl
      go (Some (v, k)) none = refl
      go None o = refl

pub heard_more : (form : Form) (n : ℕ) (w : Wide) {v k : ℕ} {g : Number} → g ≡ Some (v, k) → (o : Option (List ℕ)) → heard form (n + 1) (push_of form w v) o ≡ heard form n w (before g o)
unfolding heard push_all
heard_more form n w {v} e none = rw e refl
heard_more form n w {v} e (some vs) =
    let q : n + 1 + length vs ≡ n + suc (length vs) = omega arith in
    rw e (hear form (n + suc (length vs)) w q (push_all form (push_of form w v) vs))

-- the parts are those that `split` gives
pub parts_are : (sep : ℕ) (t : List ℕ) → slice_split (λ b. eqb b sep) t ≡ parts sep t
unfolding parts
parts_are sep [] = refl
parts_are sep (b ∷ l) =
    ap (λ r. cond (eqb b sep) ([] ∷ r) (onto_first b r)) (parts_are sep l)
    ∙ ap (cond (eqb b sep) ([] ∷ parts sep l)) (same_onto (parts sep l))
  where
    same_onto : (ps : List (List ℕ)) → onto_first b ps ≡ onto b ps
    same_onto [] = refl
    same_onto (p ∷ ps) = refl

parts_some : (sep : ℕ) (t : List ℕ) → 0 < length (parts sep t)
parts_some sep t = omega (arith, length-slice_split (λ b. eqb b sep) t, ap length (parts_are sep t))

module _ (form : Form) (t : List ℕ) {sep : ℕ} (e : sep ≡ separator_of form) where
  split_is : slice_split (λ b. eqb b sep) t ≡ parts (separator_of form) t
  split_is = parts_are sep t ∙ ap (λ s. parts s t) e

  pub turn_of : {k : ℕ} {p : List ℕ} → (k < length (slice_split (λ b. eqb b sep) t)) × (p ≡ get_or (slice_split (λ b. eqb b sep) t) k p)
      → (k < length (parts (separator_of form) t)) × (p ≡ get_or (parts (separator_of form) t) k p)
  turn_of {k} {p} h = subst (λ (ps : List (List ℕ)). (k < length ps) × (p ≡ get_or ps k p)) split_is h

  pub end_of : {k : ℕ} → k ≡ length (slice_split (λ b. eqb b sep) t) → k ≡ length (parts (separator_of form) t)
  end_of h = h ∙ ap length split_is

-- what a turn of the loop over the parts reads
module _ (form : Form) (all : List (List ℕ)) (k n : ℕ) (w : Wide) {p : List ℕ} (turn : (k < length all) × (p ≡ get_or all k p)) where
  here : p ∷ drop (k + 1) all ≡ drop k all
  here = ap₂ (λ q m. q ∷ drop m all) turn.1 (add-one k) ∙ sym (drop-cons all k p turn.0)

  still : heard form n w (values_of form (p ∷ drop (k + 1) all)) ≡ heard form n w (values_of form (drop k all))
  still = ap (λ l. heard form n w (values_of form l)) here

  pub turn_full : 8 ≤ n → None ≡ heard form n w (values_of form (drop k all))
  turn_full h = heard_full form n w h p (drop (k + 1) all) ∙ still

  module _ {g : Number} (hg : g ≡ group_of form p) where
    pub turn_bad : g ≡ None → None ≡ heard form n w (values_of form (drop k all))
    unfolding values_of
    turn_bad f = heard_none form n w (values_of form (drop (k + 1) all)) ∙ sym (ap (λ x. heard form n w (before x (values_of form (drop (k + 1) all)))) (so hg f)) ∙ still

    module _ {v c : ℕ} (f : g ≡ Some (v, c)) where
      pub turn_fits : v < 65536
      turn_fits = group_fits form p hg f

      pub turn_next : {x : Wide} → x ≡ push_of form w v → heard form (n + 1) x (values_of form (drop (k + 1) all)) ≡ heard form n w (values_of form (drop k all))
      unfolding values_of
      turn_next hx = ap (λ x. heard form (n + 1) x (values_of form (drop (k + 1) all))) hx ∙ heard_more form n w (so hg f) (values_of form (drop (k + 1) all)) ∙ still

pub turns_out : (form : Form) (t : List ℕ) (k n : ℕ) (w : Wide) → k ≡ length (parts (separator_of form) t) → (0 < k → n ≤ 8) → Some (n, w) ≡ heard form n w (values_of form (drop k (parts (separator_of form) t)))
unfolding values_of heard push_all
turns_out form t k n w e h =
    let room : n ≤ 8 = h (omega (arith, e, parts_some (separator_of form) t)) in
    first None (le-leb n 8 room) refl
    ∙ ap (λ m. cond {A = Groups} (leb m 8) (Some (m, w)) None) (sym (add-zero n))
    ∙ ap (λ l. heard form n w (values_of form l)) (sym (drop_of_length-le (parts (separator_of form) t) {i = k} (le_of_eq (sym e))))

-- a push by the form's name
pub push_dotted : {form : Form} (w : Wide) (g : ℕ) {x : Wide} → form ≡ Form.Dotted → x ≡ push_of Form.Dotted w g → x ≡ push_of form w g
push_dotted w g e h = rw e h

pub push_hexed : {form : Form} (w : Wide) (g : ℕ) {x : Wide} → form ≡ Form.Hexed → x ≡ push_of Form.Hexed w g → x ≡ push_of form w g
push_hexed w g e h = rw e h

pub push_fits : {m l : ℕ} → m < 281474976710656 → l < 18446744073709551616 → m * 65536 + l / 281474976710656 < 18446744073709551616
push_fits {m} {l} h k = let q : l / 281474976710656 < 65536 = (div-lt_iff_lt-mul (lit< tt)).1 k in omega arith
