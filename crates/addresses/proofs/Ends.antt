-- Where a quad at the end of an address starts, and the halves that groups and a quad write.
use Rattle.std.specs.Prelude.{Some, None}
use mathlib.Core.Path.{◌≡◌, refl, sym, ap, ap₂, ◌∙◌, subst}
use Prim.Native.Nat.{ℕ, ◌+◌, ◌-◌, ◌*◌, ◌/◌, ◌%◌, ◌<◌, ◌≤◌}
use mathlib.Core.List.{List, [], ◌∷◌, ◌++◌}
use mathlib.Core.Option.{Option, none, some}
use mathlib.Core.Bool.{Bool, true, false, cond}
use native.Mathlib.Nat.{le_trans, le_refl, add-zero, mod-lt, mod-eq_of_lt, div-eq_of_lt, mul-add-div_right, mul-add-mod_self_right}
use native.Mathlib.Omega.{arith}
use lib.ListN.{length, take, drop, length-append}
use lib.Seq.{take-length}
use lib.Dec.{eqb, lit<, lit≤}
use borrow.Author.Tests.{eq-eqb, ne_eqb}
use Rattle.chars.specs.Chars.{byte_at}
use Rattle.chars.specs.Runs.{behind_last}
use Rattle.numbers.specs.Digits.{value_from, value_of}
use Rattle.numbers.proofs.Choices.{so, first, second}
use Rattle.addresses.specs.declared.Form.{Form}
use Rattle.addresses.specs.declared.Wide.{Wide}
use Rattle.addresses.specs.Results.{Groups}
use Rattle.addresses.specs.Results.{Quad}
use Rattle.addresses.specs.Groups as spec
use Rattle.addresses.specs.Groups.{parts, values_of, push_of, push_all, heard}
use Rattle.addresses.specs.Quads.{paired}
use Rattle.addresses.specs.Addresses.{octets_of, as_quad, quad_of, groups_in, front_of, join_quad, groups_with, groups_of, as_address, wide_of, whole_of, end_of, half_of, both_of}
use Rattle.addresses.proofs.Sides.{Heard, heard_are, heard_not, AllLt, Below, values_below, all_append, push_append, eight_halves, exactly_sized, exactly_below, groups_sized, groups_below}

-- where the groups before a quad end
module _ (t : List ℕ) (at : ℕ) where
  module _ {b two : ℕ} (before : two ≡ at - 2) (read : b ≡ byte_at t two) where
    asked : b ≡ byte_at t (at - 2)
    asked = read ∙ ap (byte_at t) before

    pub front_two : b ≡ 58 → at ≡ front_of t at
    unfolding front_of
    front_two e = first _ (eq-eqb _ _ (so asked e)) refl

    pub front_one : {r : ℕ} → (b ≡ 58 → ⊥) → r ≡ at - 1 → r ≡ front_of t at
    unfolding front_of
    front_one e h = second _ (ne_eqb _ _ (λ f. e (asked ∙ f))) h

  pub front_le : front_of t at ≤ at
  unfolding front_of
  front_le = go (eqb (byte_at t (at - 2)) 58)
    where
      go : (u : Bool) → cond u at (at - 1) ≤ at
      go true = omega arith
      go false = omega arith

-- a quad's octets, and its halves
pub record Octets (t : List ℕ) (q : ℕ) : Type 0 where
  pub os : List ℕ
  pub are : octets_of t ≡ some os
  pub four : length os ≡ 4
  pub below : AllLt 256 os
  pub value : q ≡ value_of 256 os

pub quad_octets : (t : List ℕ) {q : ℕ} → quad_of t ≡ Some q → Octets t q
unfolding quad_of octets_of
quad_octets t e = go (octets_of t) refl e
  where
    all : Option (List ℕ)
    all = values_of Form.Dotted (parts 46 t)

    go : {q : ℕ} (o : Option (List ℕ)) → octets_of t ≡ o → as_quad o ≡ Some q → Octets t q
    go none f h = let z : ◌≡◌ {A = ℕ} 0 1 = cc in absurd (omega arith)
    go (some os) f h =
        let h' : Below 256 all = values_below Form.Dotted (parts 46 t) in
        record { os = os; are = f; four = exactly_sized 4 256 all h' f; below = exactly_below 4 256 all h' f; value = cc }

module _ (a b c d : ℕ) (hc : c < 256) (hd : d < 256) where
  low_fits : c * 256 + d < 65536
  low_fits = omega arith

  as_halves : value_of 256 (a ∷ b ∷ c ∷ d ∷ []) ≡ (a * 256 + b) * 65536 + (c * 256 + d)
  unfolding value_from
  as_halves = omega arith

  upper : value_of 256 (a ∷ b ∷ c ∷ d ∷ []) / 65536 ≡ a * 256 + b
  upper =
      ap (λ n. n / 65536) as_halves
      ∙ mul-add-div_right (lit< tt) (a * 256 + b) (c * 256 + d)
      ∙ ap (λ n. a * 256 + b + n) (div-eq_of_lt low_fits)
      ∙ add-zero (a * 256 + b)

  lower : value_of 256 (a ∷ b ∷ c ∷ d ∷ []) % 65536 ≡ c * 256 + d
  lower = ap (λ n. n % 65536) as_halves ∙ mul-add-mod_self_right (a * 256 + b) 65536 (c * 256 + d) ∙ mod-eq_of_lt low_fits

record Halves (os : List ℕ) : Type 0 where
  pairs : paired os ≡ (value_of 256 os / 65536) ∷ (value_of 256 os % 65536) ∷ []
  top : value_of 256 os / 65536 < 65536

halves : (os : List ℕ) → length os ≡ 4 → AllLt 256 os → Halves os
halves [] e s = absurd (omega (arith, e))
halves (a ∷ []) e s = absurd (omega (arith, e))
halves (a ∷ b ∷ []) e s = absurd (omega (arith, e))
halves (a ∷ b ∷ c ∷ []) e s = absurd (omega (arith, e))
halves (a ∷ b ∷ c ∷ d ∷ []) e s =
    let u : value_of 256 (a ∷ b ∷ c ∷ d ∷ []) / 65536 ≡ a * 256 + b = upper a b c d s.1.1.0 s.1.1.1.0 in
    record {
      pairs = ap₂ (λ x y. x ∷ y ∷ []) (sym u) (sym (lower a b c d s.1.1.0 s.1.1.1.0));
      top = omega (arith, u, s.0, s.1.0);
    }
halves (a ∷ b ∷ c ∷ d ∷ f ∷ os) e s = absurd (omega (arith, e))

quad_high : (t : List ℕ) {q : ℕ} → quad_of t ≡ Some q → q / 65536 < 65536
quad_high t e = let o = quad_octets t e in subst (λ n. n / 65536 < 65536) (sym o.value) (halves o.os o.four o.below).top

pub half_fits : (t : List ℕ) (quad : Quad) → quad ≡ quad_of t → half_of quad < 65536
half_fits t (Some q) e = quad_high t (sym e)
half_fits t None e = lit< tt

-- both halves of a quad are groups
pub halves_fit : {quad : Quad} {q : ℕ} → quad ≡ Some q → half_of quad < 65536 → (q / 65536 < 65536) × (q % 65536 < 65536)
halves_fit {q = q} e h = (subst (λ x. half_of x < 65536) e h, mod-lt q (lit< tt))

-- what a function does with a quad, by what it is
pub whole_le : (quad : Quad) → whole_of quad ≤ 8
whole_le (Some q) = lit≤ tt
whole_le None = lit≤ tt

pub end_quad : (t : List ℕ) (at : ℕ) {quad : Quad} {q r : ℕ} → quad ≡ Some q → r ≡ front_of t at → r ≡ end_of t at quad
end_quad t at e h = rw e h

pub end_plain : (t : List ℕ) (at : ℕ) {quad : Quad} → quad ≡ None → length t ≡ end_of t at quad
end_plain t at e = rw e refl

pub end_le : (t : List ℕ) (at : ℕ) → at ≤ length t → (quad : Quad) → end_of t at quad ≤ length t
end_le t at h (Some q) = le_trans (front_le t at) h
end_le t at h None = le_refl (length t)

pub both_plain : (w : Wide) {quad : Quad} → quad ≡ None → w ≡ both_of w quad
both_plain w e = rw e refl

pub both_quad : (w : Wide) {x y : Wide} {quad : Quad} {q : ℕ} → quad ≡ Some q → x ≡ push_of Form.Hexed w (q / 65536) → y ≡ push_of Form.Hexed x (q % 65536) → y ≡ both_of w quad
both_quad w e hx hy = rw (e, hy, hx) refl

-- groups that are none, and eight groups
unheard : (m : ℕ) → m ≤ 8 → (x : List ℕ) → heard Form.Hexed 0 spec.all_zero (groups_in m x) ≡ None → groups_in m x ≡ none
unheard m top x e = go (groups_in m x) refl
  where
    go : (g : Option (List ℕ)) → groups_in m x ≡ g → g ≡ none
    go none f = refl
    go (some vs) f = absurd (omega (arith, heard_not Form.Hexed 0 spec.all_zero (groups_in m x) e vs f, groups_sized m x f))

as_halves_of : (vs : List ℕ) {w : Wide} → w ≡ push_all Form.Hexed spec.all_zero vs → length vs ≡ 8 → AllLt 65536 vs → Some w ≡ as_address (some vs)
as_halves_of vs e n s = ap Some (e ∙ eight_halves vs n s)

-- six groups and a quad
module _ (x y : List ℕ) {q : ℕ} (hq : quad_of y ≡ Some q) {c : ℕ} {w : Wide} (hg : heard Form.Hexed 0 spec.all_zero (groups_in 6 x) ≡ Some (c, w)) where
  abbrev o : Octets y q
  o = quad_octets y hq

  g : Heard Form.Hexed 0 spec.all_zero (groups_in 6 x) c w
  g = heard_are Form.Hexed 0 spec.all_zero (groups_in 6 x) hg

  pairs : paired o.os ≡ (q / 65536) ∷ (q % 65536) ∷ []
  pairs = (halves o.os o.four o.below).pairs ∙ sym (ap (λ n. (n / 65536) ∷ (n % 65536) ∷ []) o.value)

  eight : length (g.vs ++ paired o.os) ≡ 8
  eight = omega (arith, length-append g.vs (paired o.os), groups_sized 6 x g.are, ap length pairs)

  all_fit : AllLt 65536 (g.vs ++ paired o.os)
  all_fit = all_append 65536 g.vs (paired o.os) (groups_below 6 x g.are) (subst (AllLt 65536) (sym pairs) (quad_high y hq, (mod-lt q (lit< tt), tt)))

  pushed : push_of Form.Hexed (push_of Form.Hexed w (q / 65536)) (q % 65536) ≡ push_all Form.Hexed spec.all_zero (g.vs ++ paired o.os)
  unfolding push_all
  pushed =
      ap (λ z. push_of Form.Hexed (push_of Form.Hexed z (q / 65536)) (q % 65536)) g.wide
      ∙ ap (push_all Form.Hexed (push_all Form.Hexed spec.all_zero g.vs)) (sym pairs)
      ∙ sym (push_append Form.Hexed spec.all_zero g.vs (paired o.os))

  mixed_is : Some (both_of w (Some q)) ≡ as_address (join_quad (groups_in 6 x) o.os)
  mixed_is = as_halves_of (g.vs ++ paired o.os) pushed eight all_fit ∙ sym (ap (λ a. as_address (join_quad a o.os)) g.are)

-- the address that a text says, by the quad at its end
module _ (t : List ℕ) {at : ℕ} (ha : at ≡ behind_last 58 t (length t)) where
  as_with : {o : Option (List ℕ)} → octets_of (drop at t) ≡ o → as_address (groups_with o t at) ≡ wide_of t
  unfolding wide_of groups_of
  as_with e = ap (λ o. as_address (groups_with o t at)) (sym e) ∙ ap (λ a. as_address (groups_with (octets_of (drop a t)) t a)) ha

  no_octets : quad_of (drop at t) ≡ None → octets_of (drop at t) ≡ none
  unfolding quad_of
  no_octets e = go (octets_of (drop at t)) e
    where
      go : (o : Option (List ℕ)) → as_quad o ≡ None → o ≡ none
      go none h = refl
      go (some os) h = let z : ◌≡◌ {A = ℕ} 0 1 = cc in absurd (omega arith)

  read_none : (quad : Quad) → quad_of (drop at t) ≡ quad → heard Form.Hexed 0 spec.all_zero (groups_in (whole_of quad) (take (end_of t at quad) t)) ≡ None → None ≡ wide_of t
  unfolding groups_with
  read_none (Some q) e h =
      let o = quad_octets (drop at t) e in
      ap (λ a. as_address (join_quad a o.os)) (sym (unheard 6 (lit≤ tt) (take (front_of t at) t) h)) ∙ as_with o.are
  read_none None e h =
      ap as_address (sym (unheard 8 (lit≤ tt) (take (length t) t) h) ∙ ap (groups_in 8) (take-length t)) ∙ as_with (no_octets e)

  read_both : (quad : Quad) → quad_of (drop at t) ≡ quad → {c : ℕ} {w : Wide} → heard Form.Hexed 0 spec.all_zero (groups_in (whole_of quad) (take (end_of t at quad) t)) ≡ Some (c, w) → Some (both_of w quad) ≡ wide_of t
  unfolding groups_with
  read_both (Some q) e h = mixed_is (take (front_of t at) t) (drop at t) e h ∙ as_with (quad_octets (drop at t) e).are
  read_both None e h =
      let g = heard_are Form.Hexed 0 spec.all_zero (groups_in 8 (take (length t) t)) h in
      as_halves_of g.vs g.wide (groups_sized 8 (take (length t) t) g.are) (groups_below 8 (take (length t) t) g.are)
      ∙ ap as_address (sym g.are ∙ ap (groups_in 8) (take-length t))
      ∙ as_with (no_octets e)

  module _ {quad : Quad} {end whole : ℕ} (hq : quad ≡ quad_of (drop at t)) (he : end ≡ end_of t at quad) (hw : whole ≡ whole_of quad) where
    heard_with : {g : Groups} → heard Form.Hexed 0 spec.all_zero (groups_in whole (take end t)) ≡ g → heard Form.Hexed 0 spec.all_zero (groups_in (whole_of quad) (take (end_of t at quad) t)) ≡ g
    heard_with e = ap₂ (λ m n. heard Form.Hexed 0 spec.all_zero (groups_in m (take n t))) (sym hw) (sym he) ∙ e

    pub wide_none : heard Form.Hexed 0 spec.all_zero (groups_in whole (take end t)) ≡ None → None ≡ wide_of t
    wide_none e = read_none quad (sym hq) (heard_with e)

    pub wide_both : {c : ℕ} {w r : Wide} → heard Form.Hexed 0 spec.all_zero (groups_in whole (take end t)) ≡ Some (c, w) → r ≡ both_of w quad → Some r ≡ wide_of t
    wide_both e h = ap Some h ∙ read_both quad (sym hq) (heard_with e)
