-- Strings read character by character, and what is written of them.
use Rattle.std.specs.Prelude.{Some, None}
use mathlib.Core.Path.{◌≡◌, refl, sym, ap, ap₂, ◌∙◌, subst}
use Prim.Native.Nat.{ℕ, zero, suc, ◌+◌, ◌-◌, ◌<◌, ◌≤◌}
use mathlib.Core.List.{List, [], ◌∷◌, ◌++◌, append-nil}
use mathlib.Core.Option.{Option, none, some}
use native.Mathlib.Nat.{zero-add, add-zero}
use native.Mathlib.Omega.{arith}
use lib.ListN.{length, take, drop, replicate, length-drop, length-append, drop_of_length-le}
use lib.Seq.{drop-drop, sets, length-sets}
use Rattle.numbers.proofs.Choices.{so}
use Rattle.numbers.proofs.Texts.{tail_part}
use Rattle.strings.specs.Results.{Piece}
use Rattle.strings.specs.Results.{Size}
use Rattle.strings.specs.Escapes.{piece_of}
use Rattle.strings.specs.Utf8.{utf8, width_of, encode}
use Rattle.strings.specs.Strings.{after, codes_from, codes_of, encoded, bytes_of, sized, measure_of, Holds}
use Rattle.strings.proofs.Escapes.{Sound, piece_is}
use Rattle.strings.proofs.Utf8.{length_utf8, width_most, sets_append}

-- a table that is all cleared
pub cleared : {T' : List ℕ} (T : List ℕ) (i : ℕ) → T' ≡ replicate i 0 ++ drop i T → i ≤ length T → length T ≤ i → T' ≡ replicate (length T) 0
cleared T i e h k =
    let q : i ≡ length T = omega arith in
    e ∙ rw (drop_of_length-le T {i = i} k) (append-nil (replicate i 0) ∙ ap (λ j. replicate j 0) q)

skipped : (k : ℕ) (l : List ℕ) → codes_from k l ≡ codes_of (drop k l)
unfolding codes_from
skipped zero l = refl
skipped (suc k) [] = refl
skipped (suc k) (b ∷ l) = skipped k l

abbrev go_on : List ℕ → Piece → Option (List ℕ)
go_on l (Some (c, n)) = after c (codes_from (n - 1) l)
go_on l None = none

codes_one : (b : ℕ) (l : List ℕ) → codes_of (b ∷ l) ≡ go_on l (piece_of 34 (b ∷ l))
unfolding codes_from
codes_one b l = go (piece_of 34 (b ∷ l))
  where
    go : (p : Piece) → elim p [ Some (c, n) ↦ after c (codes_from (n - 1) l) | None ↦ none ] ≡ go_on l p
    go (Some (c, n)) = refl
    go None = refl

pub codes_more : (l : List ℕ) {c n : ℕ} → 0 < length l → 1 ≤ n → piece_of 34 l ≡ Some (c, n) → codes_of l ≡ after c (codes_of (drop n l))
codes_more [] h k e = absurd (omega arith)
codes_more (b ∷ l) {c} {n} h k e =
    let q : suc (n - 1) ≡ n = omega arith in
    codes_one b l ∙ ap (go_on l) e ∙ ap (after c) (skipped (n - 1) l ∙ ap (λ m. codes_of (drop m (b ∷ l))) q)

pub codes_none : (l : List ℕ) → 0 < length l → piece_of 34 l ≡ None → codes_of l ≡ none
codes_none [] h e = absurd (omega arith)
codes_none (b ∷ l) h e = codes_one b l ∙ ap (go_on l) e

pub codes_end : (t : List ℕ) (i : ℕ) → length t ≤ i → codes_of (drop i t) ≡ some []
unfolding codes_from
codes_end t i h = rw (drop_of_length-le t {i = i} h) refl

-- one turn of a loop over the characters
module _ (t : List ℕ) (i : ℕ) (h : i < length t) {p : Piece} (hp : p ≡ piece_of 34 (take (length t - i) (drop i t))) where
  front : p ≡ piece_of 34 (drop i t)
  front = hp ∙ ap (piece_of 34) (tail_part t i)

  some_left : 0 < length (drop i t)
  some_left = omega (arith, length-drop i t)

  pub turn_none : p ≡ None → codes_of (drop i t) ≡ none
  turn_none e = codes_none (drop i t) some_left (so front e)

  module _ {c n : ℕ} (e : p ≡ Some (c, n)) where
    pub turn_sound : Sound (drop i t) c n
    turn_sound = piece_is (drop i t) 34 front e

    pub turn_some : 1 ≤ n
    turn_some = turn_sound.some

    pub turn_inside : i + n ≤ length t
    turn_inside = omega (arith, turn_sound.inside, length-drop i t)

    pub turn_width : {w : ℕ} → w ≡ width_of c → w ≤ n
    turn_width q = rw q (width_most c n turn_sound.some turn_sound.wide)

    pub turn_more : codes_of (drop i t) ≡ after c (codes_of (drop (i + n) t))
    turn_more = codes_more (drop i t) some_left turn_sound.some (so front e) ∙ ap (λ l. after c (codes_of l)) (drop-drop n i t)

-- sizes
abbrev pub plus : ℕ → Size → Size
plus n (Some m) = Some (n + m)
plus n None = None

pub plus_zero : (s : Size) → plus 0 s ≡ s
plus_zero (Some m) = ap Some (zero-add m)
plus_zero None = refl

plus_more : (n c : ℕ) {w : ℕ} (o : Option (List ℕ)) → w ≡ width_of c → plus (n + w) (sized o) ≡ plus n (sized (after c o))
unfolding encode
plus_more n c none e = refl
plus_more n c (some cs) e =
    ap Some (omega (arith, e, length_utf8 c, length-append (utf8 c) (encode cs)))

pub measured_end : (t : List ℕ) (i n : ℕ) → length t ≤ i → Some n ≡ plus n (measure_of (drop i t))
unfolding measure_of encode
measured_end t i n h = ap Some (sym (add-zero n)) ∙ ap (λ o. plus n (sized o)) (sym (codes_end t i h))

module _ (t : List ℕ) (i n : ℕ) (h : i < length t) {p : Piece} (hp : p ≡ piece_of 34 (take (length t - i) (drop i t))) where
  pub measured_none : p ≡ None → None ≡ plus n (measure_of (drop i t))
  unfolding measure_of
  measured_none e = sym (ap (λ o. plus n (sized o)) (turn_none t i h hp e))

  pub measured_more : {c k w : ℕ} → p ≡ Some (c, k) → w ≡ width_of c → plus (n + w) (measure_of (drop (i + k) t)) ≡ plus n (measure_of (drop i t))
  unfolding measure_of
  measured_more {c} {k} e hw = plus_more n c (codes_of (drop (i + k) t)) hw ∙ sym (ap (λ o. plus n (sized o)) (turn_more t i h hp e))

-- room for what is left of a string, from a place in the table on
abbrev pub RoomFor : Option (List ℕ) → ℕ → ℕ → Type 0
RoomFor (some cs) at room = at + length (encode cs) ≤ room
RoomFor none at room = ⊥

pub room_at_first : (t : List ℕ) (room : ℕ) → Holds (measure_of t) room → RoomFor (codes_of t) 0 room
unfolding measure_of
room_at_first t room = go (codes_of t)
  where
    go : (o : Option (List ℕ)) → Holds (sized o) room → RoomFor o 0 room
    go (some cs) h = rw (zero-add (length (encode cs))) h
    go none h = h

module _ (c at room : ℕ) {w : ℕ} (hw : w ≡ width_of c) where
  room_more : (o : Option (List ℕ)) → RoomFor (after c o) at room → (at + w ≤ room) × RoomFor o (at + w) room
  unfolding encode
  room_more (some cs) h =
      let k : length (utf8 c ++ encode cs) ≡ width_of c + length (encode cs) = length-append (utf8 c) (encode cs) ∙ ap (λ n. n + length (encode cs)) (length_utf8 c) in
      (omega (arith, h, k, hw), omega (arith, h, k, hw))
  room_more none h = absurd h

written : (T : List ℕ) (c at room : ℕ) (o : Option (List ℕ)) → RoomFor (after c o) at room → sets T at (encoded (after c o)) ≡ sets (sets T at (utf8 c)) (at + width_of c) (encoded o)
unfolding encode
written T c at room (some cs) h = sets_append T at (utf8 c) (encode cs) ∙ ap (λ n. sets (sets T at (utf8 c)) (at + n) (encode cs)) (length_utf8 c)
written T c at room none h = absurd h

-- what is still to be written
abbrev pub Left : List ℕ → List ℕ → List ℕ → ℕ → ℕ → Type 0
Left t T₀ T i at = (sets T at (bytes_of (drop i t)) ≡ sets T₀ 0 (bytes_of t)) × RoomFor (codes_of (drop i t)) at (length T) × (length T ≡ length T₀) × (i ≤ length t)

pub left_end : (t T₀ T : List ℕ) (i at : ℕ) → length t ≤ i → Left t T₀ T i at → T ≡ sets T₀ 0 (bytes_of t)
unfolding bytes_of encode
left_end t T₀ T i at h s = sym (ap (λ o. sets T at (encoded o)) (codes_end t i h)) ∙ s.0

module _ (t T₀ T : List ℕ) (i at : ℕ) (h : i < length t) {p : Piece} (hp : p ≡ piece_of 34 (take (length t - i) (drop i t))) (s : Left t T₀ T i at) where
  pub left_none : p ≡ None → ⊥
  left_none e = subst (λ o. RoomFor o at (length T)) (turn_none t i h hp e) s.1

  module _ {c n : ℕ} (e : p ≡ Some (c, n)) where
    pub left_point : c ≤ 1114111
    left_point = (turn_sound t i h hp e).point

    rooms : {w : ℕ} → w ≡ width_of c → (at + w ≤ length T) × RoomFor (codes_of (drop (i + n) t)) (at + w) (length T)
    rooms hw = room_more c at (length T) hw (codes_of (drop (i + n) t)) (subst (λ o. RoomFor o at (length T)) (turn_more t i h hp e) s.1)

    pub left_room : {w : ℕ} → w ≡ width_of c → at + w ≤ length T
    left_room hw = (rooms hw).0

    pub left_more : {w : ℕ} {T' : List ℕ} → w ≡ width_of c → T' ≡ sets T at (utf8 c) → Left t T₀ T' (i + n) (at + w)
    unfolding bytes_of
    left_more {w} {T'} hw ht =
        let k : length T' ≡ length T = ap length ht ∙ length-sets T at (utf8 c) in (
          ap₂ (λ l m. sets l (at + m) (encoded (codes_of (drop (i + n) t)))) ht hw
              ∙ sym (written T c at (length T) (codes_of (drop (i + n) t)) (subst (λ o. RoomFor o at (length T)) (turn_more t i h hp e) s.1))
              ∙ sym (ap (λ o. sets T at (encoded o)) (turn_more t i h hp e))
              ∙ s.0,
          subst (λ m. RoomFor (codes_of (drop (i + n) t)) (at + w) m) (sym k) (rooms hw).1,
          k ∙ s.2,
          turn_inside t i h hp e,
        )
