-- A piece of text counted code point by code point.
use Rattle.std.specs.Prelude.{Some, None}
use mathlib.Core.Path.{◌≡◌, refl, sym, ap, ◌∙◌}
use mathlib.Core.List.{List, [], ◌∷◌}
use mathlib.Core.Option.{Option, none, some}
use mathlib.Core.Bool.{Bool, true, false, ◌&&◌, cond}
use Prim.Native.Nat.{ℕ, ◌+◌, ◌-◌, ◌≤◌, ◌<◌}
use lib.Dec.{eqb, eqb→eq}
use lib.ListN.{length, take, drop, length-append}
use native.Mathlib.Omega.{arith}
use Rattle.strings.specs.Results.{Piece}
use Rattle.strings.specs.Results.{Size}
use Rattle.strings.specs.Escapes.{piece_of}
use Rattle.strings.specs.Utf8.{utf8, width_of, encode}
use Rattle.strings.specs.Strings.{after, codes_of}
use Rattle.strings.proofs.Strings.{codes_end, turn_none, turn_more, turn_width, turn_inside, turn_some}
use Rattle.strings.proofs.Utf8.{length_utf8}
use Rattle.texts.specs.declared.Halves.{Halves}
use Rattle.texts.specs.Signs.{quote, open_brace, close_brace}
use Rattle.texts.specs.Texts.{halved, halved_both, final_of, counted, text_of}
use Rattle.texts.specs.Halves.{with_code}
use Rattle.texts.proofs.Pairs.{folded, folded_halved}

abbrev folded_both : Bool → Bool → List ℕ → List ℕ
folded_both Had-open had-close cs = folded close_brace had-close (folded open_brace Had-open cs)

abbrev total : Halves → List ℕ → ℕ
total h cs = h.size + length (encode (folded_both h.opened h.closed cs))

one_wider : (n c : ℕ) (cs : List ℕ) → n + width_of c + length (encode cs) ≡ n + length (encode (c ∷ cs))
unfolding encode
one_wider n c cs = omega (arith, length_utf8 c, length-append (utf8 c) (encode cs))

not_both : (c : ℕ) → eqb c open_brace ≡ true → eqb c close_brace ≡ true → ⊥
not_both c p r = let a = eqb→eq c open_brace (rw p tt) in let b = eqb→eq c close_brace (rw r tt) in omega arith

half_step : (n c : ℕ) (cs : List ℕ) (o l p r : Bool) → eqb c open_brace ≡ p → eqb c close_brace ≡ r → total (with_code (record { size = n; opened = o; closed = l }) c) cs ≡ n + length (encode (folded_both o l (c ∷ cs)))
unfolding with_code folded
half_step n c cs o l true true p r = absurd (not_both c p r)
half_step n c cs true true true false p r = rw p refl
half_step n c cs true false true false p r = rw p refl
half_step n c cs false true true false p r = rw (p, r) (one_wider n c (folded close_brace false (folded open_brace true cs)))
half_step n c cs false false true false p r = rw (p, r) (one_wider n c (folded close_brace false (folded open_brace true cs)))
half_step n c cs true true false true p r = rw (p, r) refl
half_step n c cs false true false true p r = rw (p, r) refl
half_step n c cs true false false true p r = rw (p, r) (one_wider n c (folded close_brace true (folded open_brace false cs)))
half_step n c cs false false false true p r = rw (p, r) (one_wider n c (folded close_brace true (folded open_brace false cs)))
half_step n c cs true true false false p r = rw (p, r) (one_wider n c (folded close_brace false (folded open_brace false cs)))
half_step n c cs true false false false p r = rw (p, r) (one_wider n c (folded close_brace false (folded open_brace false cs)))
half_step n c cs false true false false p r = rw (p, r) (one_wider n c (folded close_brace false (folded open_brace false cs)))
half_step n c cs false false false false p r = rw (p, r) (one_wider n c (folded close_brace false (folded open_brace false cs)))

abbrev from : Halves → Option (List ℕ) → Size
from h (some cs) = Some (total h cs)
from h none = None

from_more : (h : Halves) (c : ℕ) (o : Option (List ℕ)) → from (with_code h c) o ≡ from h (after c o)
from_more h c none = refl
from_more h c (some cs) = ap Some (half_step h.size c cs h.opened h.closed (eqb c open_brace) (eqb c close_brace) refl refl)

-- a code point adds its bytes at most
with_most : (h : Halves) (c : ℕ) → (with_code h c).size ≤ h.size + width_of c
unfolding with_code
with_most h c = go (h.opened && eqb c open_brace) (h.closed && eqb c close_brace)
  where
    go : (a b : Bool) → (cond {A = Halves} a (record { size = h.size; opened = false; closed = h.closed }) (cond {A = Halves} b (record { size = h.size; opened = false; closed = false }) (record { size = h.size + width_of c; opened = eqb c open_brace; closed = eqb c close_brace }))).size ≤ h.size + width_of c
    go true b = omega arith
    go false true = omega arith
    go false false = omega arith

-- the loop's state
pub record Counts (t : List ℕ) (i : ℕ) (h : Halves) : Type 0 where
  pub left : from h (codes_of (drop i t)) ≡ text_of t
  pub small : h.size ≤ i
  pub inside : i ≤ length t

pub counts_start : (t : List ℕ) → Counts t 0 (record { size = 0; opened = false; closed = false })
unfolding text_of
counts_start t = record { left = go (codes_of t); small = omega arith; inside = omega arith }
  where
    both : (cs : List ℕ) → folded_both false false cs ≡ halved_both cs
    both cs = folded_halved close_brace (folded open_brace false cs) ∙ ap (halved close_brace) (folded_halved open_brace cs)

    go : (o : Option (List ℕ)) → from (record { size = 0; opened = false; closed = false }) o ≡ counted (final_of o)
    go (some cs) = ap Some (let e = ap (λ (l : List ℕ). length (encode l)) (both cs) in omega arith)
    go none = refl

module _ {t : List ℕ} {i : ℕ} {h : Halves} (g : Counts t i h) (k : i < length t) {p : Piece} (hp : p ≡ piece_of quote (take (length t - i) (drop i t))) where
  pub counts_none : p ≡ None → None ≡ text_of t
  counts_none e = sym (ap (from h) (turn_none t i k hp e)) ∙ g.left

  pub counts_wide : {c n : ℕ} → p ≡ Some (c, n) → h.size + width_of c ≤ i + n
  counts_wide e = let a = turn_width t i k hp e refl in let b = g.small in omega arith

  pub counts_in : {c n : ℕ} → p ≡ Some (c, n) → (i + n ≤ length t) × (1 ≤ n)
  counts_in e = (turn_inside t i k hp e, turn_some t i k hp e)

  pub counts_more : {c n : ℕ} {h' : Halves} → p ≡ Some (c, n) → h' ≡ with_code h c → Counts t (i + n) h'
  counts_more {c} {n} {h'} e q = record {
    left = ap (λ (x : Halves). from x (codes_of (drop (i + n) t))) q ∙ from_more h c (codes_of (drop (i + n) t)) ∙ sym (ap (from h) (turn_more t i k hp e)) ∙ g.left;
    small = let a = with_most h c in let b = counts_wide e in let z = ap (λ (x : Halves). x.size) q in omega arith;
    inside = turn_inside t i k hp e;
  }

pub counts_end : {t : List ℕ} {i : ℕ} {h : Halves} → Counts t i h → length t ≤ i → Some h.size ≡ text_of t
unfolding folded encode
counts_end {t} {i} {h} g k = ap Some (empty h.opened h.closed) ∙ sym (ap (from h) (codes_end t i k)) ∙ g.left
  where
    empty : (o l : Bool) → h.size ≡ h.size + length (encode (folded_both o l []))
    empty o l = omega arith
