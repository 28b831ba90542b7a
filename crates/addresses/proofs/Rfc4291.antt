-- What is read of a text is what RFC 4291 says of it, in both directions, for all its forms; and no text has two readings.
use Rattle.std.specs.Prelude.{Some}
use mathlib.Core.Path.{◌≡◌, refl, sym, ap, ap₂, ◌∙◌, subst}
use Prim.Native.Nat.{ℕ, zero, suc, ◌+◌, ◌-◌, ◌<◌, ◌≤◌}
use mathlib.Core.List.{List, [], ◌∷◌, ◌++◌, map, append_assoc, append-nil}
use mathlib.Core.Option.{Option, none, some}
use mathlib.Core.Bool.{Bool, true, false, cond}
use native.Mathlib.Nat.{add-zero, zero-add, suc-add}
use native.Mathlib.Decide.{ℕ_discrete}
use native.Mathlib.Omega.{arith}
use lib.ListN.{length, take, drop, replicate, length-append}
use lib.Seq.{split_at, take-suc, take-append_seam, drop-append-add, drop-append_seam, take-append-add, length-take-le}
use lib.Dec.{eqb, ltb}
use borrow.Author.Tests.{eq-eqb, ne_eqb, eqb-true, eqb-false, ltb-true, lt-ltb, le-ltb}
use Rattle.chars.specs.Chars.{byte_at}
use Rattle.chars.specs.Runs.{behind_last}
use Rattle.chars.proofs.Runs.{byte_in, byte_out, last_here, last_back, last_le, last_stands}
use Rattle.numbers.specs.declared.Base.{Base}
use Rattle.numbers.specs.Digits.{digit_of, value_from, value_of, all_below, number_of}
use Rattle.numbers.proofs.Choices.{first, second, and_left, and_right, not_left, not_right}
use Rattle.numbers.proofs.Digits.{Says, number_says, says_number}
use Rattle.numbers.proofs.Texts.{byte_behind}
use Rattle.addresses.specs.declared.Wide.{Wide}
use Rattle.addresses.specs.declared.Form.{Form}
use Rattle.addresses.specs.Groups.{group_of, parts, values_of}
use Rattle.addresses.specs.Quads.{one, more, IPv4, paired}
use Rattle.addresses.specs.Addresses.{exactly, octets_of, gap, side_of, filled, groups_in, front_of, join_quad, groups_with, groups_of, as_address, wide_of}
use Rattle.addresses.specs.Rfc4291.{Group, Groups, Side, empty, groups, nothing, led, IPv6, full, short, mixed, mixed_short}
use Rattle.addresses.proofs.Parts.{short_number, number_short}
use Rattle.addresses.proofs.Sides.{colons, filled_are, some_same}
use Rattle.addresses.proofs.Ends.{front_le}
use Rattle.addresses.proofs.Quads.{Apart, apart_append, digits_head, digits_tail, digits_apart, signs_none, Reads, joined_complete, joined_sound, exactly_are, exactly_says, octets_complete, octets_sound, quad_colons, quad_periods}

-- hex digits
abbrev Hex : List ℕ → Type 0
Hex t = all_below 16 (map digit_of t) ≡ true

hex_head : (b : ℕ) (t : List ℕ) → Hex (b ∷ t) → digit_of b < 16
hex_head b t h = digits_head 16 b t h

hex_tail : (b : ℕ) (t : List ℕ) → Hex (b ∷ t) → Hex t
hex_tail b t h = digits_tail 16 b t h

-- a group of the RFC, and one that is read
below : (t : List ℕ) → Hex t → length t ≤ 4 → value_of 16 (map digit_of t) ≤ 65535
unfolding value_from
below [] h k = omega arith
below (a ∷ []) h k = omega (arith, hex_head a [] h)
below (a ∷ b ∷ []) h k = omega (arith, hex_head a (b ∷ []) h, hex_head b [] (hex_tail a (b ∷ []) h))
below (a ∷ b ∷ c ∷ []) h k =
    let i : Hex (b ∷ c ∷ []) = hex_tail a (b ∷ c ∷ []) h in
    omega (arith, hex_head a (b ∷ c ∷ []) h, hex_head b (c ∷ []) i, hex_head c [] (hex_tail b (c ∷ []) i))
below (a ∷ b ∷ c ∷ d ∷ []) h k =
    let i : Hex (b ∷ c ∷ d ∷ []) = hex_tail a (b ∷ c ∷ d ∷ []) h in
    let j : Hex (c ∷ d ∷ []) = hex_tail b (c ∷ d ∷ []) i in
    omega (arith, hex_head a (b ∷ c ∷ d ∷ []) h, hex_head b (c ∷ d ∷ []) i, hex_head c (d ∷ []) j, hex_head d [] (hex_tail c (d ∷ []) j))
below (a ∷ b ∷ c ∷ d ∷ e ∷ t) h k = absurd (omega (arith, k))

group_sound : {t : List ℕ} {v k : ℕ} → group_of Form.Hexed t ≡ Some (v, k) → Group t v
unfolding group_of
group_sound {t} e =
    let q = short_number (number_of Base.Sixteen 65535 t) 4 e in
    let s = number_says Base.Sixteen 65535 t q.0 in
    record { digits = s.digits; some = subst (λ n. 1 ≤ n) s.count s.some; few = subst (λ n. n ≤ 4) s.count q.1; value = s.value }

group_complete : {t : List ℕ} {v : ℕ} → Group t v → group_of Form.Hexed t ≡ Some (v, length t)
unfolding group_of
group_complete {t} {v} g =
    let s : Says Base.Sixteen 65535 t v (length t) = record { digits = g.digits; value = g.value; most = subst (λ n. n ≤ 65535) (sym g.value) (below t g.digits g.few); some = g.some; count = refl } in
    sym (number_short (says_number Base.Sixteen 65535 t s) g.few)

group_apart : {t : List ℕ} {v : ℕ} → Group t v → (Apart 46 t) × (Apart 58 t)
group_apart {t} g = (digits_apart 16 46 (omega (arith, signs_none.0)) t g.digits, digits_apart 16 58 (omega (arith, signs_none.1)) t g.digits)

group_reads : Reads Form.Hexed 58 Group
group_reads = record { sound = λ t v k e. group_sound e; complete = λ t v g. group_complete g; apart = λ t v g. (group_apart g).1 }

-- where the `::` stands
gap_on : {b : ℕ} (l : List ℕ) → (b ≡ 58 → ⊥) → gap (b ∷ l) ≡ suc (gap l)
unfolding gap
gap_on {b} l h = sym (second _ (not_left (eqb (byte_at l 0) 58) (ne_eqb b 58 h)) refl)

gap_one : (l : List ℕ) → (byte_at l 0 ≡ 58 → ⊥) → gap (58 ∷ l) ≡ suc (gap l)
unfolding gap
gap_one l h = sym (second _ (not_right (eqb 58 58) (ne_eqb (byte_at l 0) 58 h)) refl)

gap_two : (l : List ℕ) → gap (58 ∷ 58 ∷ l) ≡ 0
unfolding gap
gap_two l = sym (first _ (eq-eqb _ _ (byte_in (58 ∷ l) 0 (omega arith))) refl)

gap_apart : (t rest : List ℕ) → Apart 58 t → gap (t ++ rest) ≡ length t + gap rest
gap_apart [] rest h = sym (zero-add (gap rest))
gap_apart (b ∷ t) rest h = gap_on (t ++ rest) h.0 ∙ ap suc (gap_apart t rest h.1) ∙ sym (suc-add (length t) (gap rest))

-- groups begin with a digit
digit_first : (t : List ℕ) → Apart 58 t → 1 ≤ length t → (rest : List ℕ) → byte_at (t ++ rest) 0 ≡ 58 → ⊥
digit_first [] h k rest e = omega (arith, k)
digit_first (b ∷ t) h k rest e = h.0 (sym (byte_in (b ∷ t ++ rest) 0 (omega arith)) ∙ e)

starts : {t : List ℕ} {vs : List ℕ} → Groups t vs → (rest : List ℕ) → byte_at (t ++ rest) 0 ≡ 58 → ⊥
starts (one {t} g) rest e = digit_first t (group_apart g).1 g.some rest e
starts (more {t} {u} g j) rest e = digit_first t (group_apart g).1 g.some (58 ∷ u ++ rest) (ap (λ l. byte_at l 0) (sym (append_assoc t (58 ∷ u) rest)) ∙ e)

gap_joined : {t : List ℕ} {vs : List ℕ} → Groups t vs → (rest : List ℕ) → gap (t ++ rest) ≡ length t + gap rest
gap_joined (one {t} g) rest = gap_apart t rest (group_apart g).1
gap_joined (more {t} {u} g j) rest =
    ap gap (append_assoc t (58 ∷ u) rest)
    ∙ gap_apart t (58 ∷ u ++ rest) (group_apart g).1
    ∙ ap (λ n. length t + n) (gap_one (u ++ rest) (starts j rest) ∙ ap suc (gap_joined j rest))
    ∙ omega (arith, length-append t (58 ∷ u))

gap_side : {t : List ℕ} {vs : List ℕ} → Side t vs → (u : List ℕ) → gap (t ++ 58 ∷ 58 ∷ u) ≡ length t
gap_side empty u = gap_two u
gap_side (groups {t} j) u = gap_joined j (58 ∷ 58 ∷ u) ∙ ap (λ n. length t + n) (gap_two u) ∙ add-zero (length t)

-- sides
some_text : {t : List ℕ} {vs : List ℕ} → Groups t vs → length t ≡ 0 → ⊥
some_text (one {t} g) e = omega (arith, g.some, e)
some_text (more {t} {u} g j) e = omega (arith, e, length-append t (58 ∷ u))

side_complete : {t : List ℕ} {vs : List ℕ} → Side t vs → side_of t ≡ some vs
unfolding side_of
side_complete empty = refl
side_complete (groups {t} {vs} j) = sym (second _ (ne_eqb (length t) 0 (some_text j)) (sym (joined_complete group_reads j)))

side_sound : (t : List ℕ) {vs : List ℕ} → side_of t ≡ some vs → Side t vs
unfolding side_of
side_sound [] {vs} e = subst (Side []) (some_same e) empty
side_sound (b ∷ t) {vs} e = groups (joined_sound group_reads (b ∷ t) (second (some []) (ne_eqb (suc (length t)) 0 (λ q. omega (arith, q))) refl ∙ e))

-- a text with a `::` is what stands before it, and behind it
two_colons : {b : ℕ} (l : List ℕ) → b ≡ 58 → byte_at l 0 ≡ 58 → b ∷ l ≡ 58 ∷ 58 ∷ drop 1 l
two_colons [] e f = absurd (omega (arith, sym (byte_out [] 0 (omega arith)) ∙ f))
two_colons (c ∷ l) e f = ap₂ (λ x y. x ∷ y ∷ l) e (sym (byte_in (c ∷ l) 0 (omega arith)) ∙ f)

gap_split : (l : List ℕ) → gap l < length l → l ≡ take (gap l) l ++ 58 ∷ 58 ∷ drop (gap l + 2) l
unfolding gap
gap_split [] h = absurd (omega (arith, h))
gap_split (b ∷ l) h = go (colons b (byte_at l 0)) refl h (gap_split l)
  where
    go : (u : Bool) → colons b (byte_at l 0) ≡ u → cond u 0 (suc (gap l)) < suc (length l)
        → (gap l < length l → l ≡ take (gap l) l ++ 58 ∷ 58 ∷ drop (gap l + 2) l)
        → b ∷ l ≡ take (cond u 0 (suc (gap l))) (b ∷ l) ++ 58 ∷ 58 ∷ drop (cond u 0 (suc (gap l)) + 2) (b ∷ l)
    go true e k ih = two_colons l (eqb-true b 58 (and_left (eqb b 58) (eqb (byte_at l 0) 58) e)) (eqb-true (byte_at l 0) 58 (and_right (eqb b 58) (eqb (byte_at l 0) 58) e))
    go false e k ih =
        let q : suc (gap l + 2) ≡ suc (gap l) + 2 = omega arith in
        ap (λ m. b ∷ m) (ih (omega (arith, k))) ∙ ap (λ n. b ∷ (take (gap l) l ++ 58 ∷ 58 ∷ drop n (b ∷ l))) q

-- n groups, or fewer with one `::`
data Pieces (n : ℕ) : List ℕ → List ℕ → Type 0 where
  all_of : {t : List ℕ} {vs : List ℕ} → Groups t vs → length vs ≡ n → Pieces n t vs
  some_of : {t u : List ℕ} {vs ws : List ℕ} → Side t vs → Side u ws → length vs + length ws < n
      → Pieces n (t ++ 58 ∷ 58 ∷ u) (vs ++ replicate (n - (length vs + length ws)) 0 ++ ws)

pieces_complete : {n : ℕ} {t : List ℕ} {vs : List ℕ} → Pieces n t vs → groups_in n t ≡ some vs
unfolding groups_in gap
pieces_complete {n} (all_of {t} {vs} j h) =
    let g : gap t ≡ length t = ap gap (sym (append-nil t)) ∙ gap_joined j [] ∙ add-zero (length t) in
    sym (second _ (le-ltb (gap t) (length t) (omega (arith, g))) (sym (ap (exactly n) (joined_complete group_reads j) ∙ exactly_are n h)))
pieces_complete {n} (some_of {t} {u} {vs} {ws} s r h) =
    let g : gap (t ++ 58 ∷ 58 ∷ u) ≡ length t = gap_side s u in
    let l : length (t ++ 58 ∷ 58 ∷ u) ≡ length t + suc (suc (length u)) = length-append t (58 ∷ 58 ∷ u) in
    sym (first _ (lt-ltb (gap (t ++ 58 ∷ 58 ∷ u)) (length (t ++ 58 ∷ 58 ∷ u)) (omega (arith, g, l)))
    (sym
    (ap₂ (λ a b. filled n (side_of a) (side_of b))
    (ap (λ k. take k (t ++ 58 ∷ 58 ∷ u)) g ∙ take-append_seam t (58 ∷ 58 ∷ u))
    (ap (λ k. drop (k + 2) (t ++ 58 ∷ 58 ∷ u)) g ∙ drop-append-add t (58 ∷ 58 ∷ u) 2)
    ∙ ap₂ (filled n) (side_complete s) (side_complete r)
    ∙ filled_are n vs ws h)))

record Beside (n : ℕ) (L R : Option (List ℕ)) (vs : List ℕ) : Type 0 where
  left : List ℕ
  right : List ℕ
  left_is : L ≡ some left
  right_is : R ≡ some right
  few : length left + length right < n
  all : left ++ replicate (n - (length left + length right)) 0 ++ right ≡ vs

beside : (n : ℕ) (L R : Option (List ℕ)) {vs : List ℕ} → filled n L R ≡ some vs → Beside n L R vs
unfolding filled
beside n none R e = let z : ◌≡◌ {A = ℕ} 0 1 = cc in absurd (omega arith)
beside n (some us) none e = let z : ◌≡◌ {A = ℕ} 0 1 = cc in absurd (omega arith)
beside n (some us) (some bs) {vs} e = go (ltb (length us + length bs) n) refl e
  where
    go : (u : Bool) → ltb (length us + length bs) n ≡ u → cond u (some (us ++ replicate (n - (length us + length bs)) 0 ++ bs)) none ≡ some vs → Beside n (some us) (some bs) vs
    go true f h = record { left = us; right = bs; left_is = refl; right_is = refl; few = ltb-true _ _ f; all = some_same h }
    go false f h = let z : ◌≡◌ {A = ℕ} 0 1 = cc in absurd (omega arith)

short_sound : (n : ℕ) (t : List ℕ) {vs : List ℕ} → gap t < length t → filled n (side_of (take (gap t) t)) (side_of (drop (gap t + 2) t)) ≡ some vs → Pieces n t vs
short_sound n t {vs} h e =
    let s = beside n (side_of (take (gap t) t)) (side_of (drop (gap t + 2) t)) e in
    let a : Pieces n (take (gap t) t ++ 58 ∷ 58 ∷ drop (gap t + 2) t) (s.left ++ replicate (n - (length s.left + length s.right)) 0 ++ s.right) =
    some_of (side_sound (take (gap t) t) s.left_is) (side_sound (drop (gap t + 2) t) s.right_is) s.few in
    subst (λ l. Pieces n l vs) (sym (gap_split t h)) (subst (Pieces n (take (gap t) t ++ 58 ∷ 58 ∷ drop (gap t + 2) t)) s.all a)

pieces_sound : (n : ℕ) (t : List ℕ) {vs : List ℕ} → groups_in n t ≡ some vs → Pieces n t vs
unfolding groups_in
pieces_sound n t {vs} e = go (ltb (gap t) (length t)) refl e
  where
    go : (u : Bool) → ltb (gap t) (length t) ≡ u
        → cond u (filled n (side_of (take (gap t) t)) (side_of (drop (gap t + 2) t))) (exactly n (values_of Form.Hexed (parts 58 t))) ≡ some vs
        → Pieces n t vs
    go true f h = short_sound n t (ltb-true (gap t) (length t) f) h
    go false f h = let q = exactly_says n (values_of Form.Hexed (parts 58 t)) h in all_of (joined_sound group_reads t q.0) q.1

-- no period stands among groups, so that no text with a quad is read as groups alone
groups_periods : {t : List ℕ} {vs : List ℕ} → Groups t vs → Apart 46 t
groups_periods (one g) = (group_apart g).0
groups_periods (more {t} {u} g j) = apart_append 46 t (58 ∷ u) (group_apart g).0 ((λ e. omega (arith, e)), groups_periods j)

side_periods : {t : List ℕ} {vs : List ℕ} → Side t vs → Apart 46 t
side_periods empty = tt
side_periods (groups j) = groups_periods j

pieces_periods : {n : ℕ} {t : List ℕ} {vs : List ℕ} → Pieces n t vs → Apart 46 t
pieces_periods (all_of j h) = groups_periods j
pieces_periods (some_of {t} {u} s r h) = apart_append 46 t (58 ∷ 58 ∷ u) (side_periods s) ((λ e. omega (arith, e)), ((λ e. omega (arith, e)), side_periods r))

apart_behind : (sep : ℕ) (t u : List ℕ) → Apart sep (t ++ u) → Apart sep u
apart_behind sep [] u h = h
apart_behind sep (b ∷ t) u h = apart_behind sep t u h.1

some_length : (u : List ℕ) → (length u ≡ 0 → ⊥) → 1 ≤ length u
some_length [] h = absurd (h refl)
some_length (c ∷ u) h = omega arith

-- the last byte of a text
abbrev last_byte : List ℕ → ℕ
last_byte [] = 0
last_byte (b ∷ []) = b
last_byte (b ∷ c ∷ l) = last_byte (c ∷ l)

last_append : (t u : List ℕ) → 1 ≤ length u → last_byte (t ++ u) ≡ last_byte u
last_append [] u h = refl
last_append (b ∷ []) [] h = absurd (omega (arith, h))
last_append (b ∷ []) (c ∷ u) h = refl
last_append (b ∷ c ∷ t) u h = last_append (c ∷ t) u h

last_apart : (sep : ℕ) (t : List ℕ) → 1 ≤ length t → Apart sep t → last_byte t ≡ sep → ⊥
last_apart sep [] h a e = omega (arith, h)
last_apart sep (b ∷ []) h a e = a.0 e
last_apart sep (b ∷ c ∷ t) h a e = last_apart sep (c ∷ t) (omega arith) a.1 e

last_behind : (t u : List ℕ) → (length u ≡ 0 → ⊥) → last_byte (58 ∷ t ++ u) ≡ last_byte u
last_behind t u h = last_append (58 ∷ t) u (some_length u h)

last_groups : {t : List ℕ} {vs : List ℕ} → Groups t vs → last_byte t ≡ 58 → ⊥
last_groups (one {t} g) e = last_apart 58 t g.some (group_apart g).1 e
last_groups (more {t} {u} g j) e = last_groups j (sym (last_append t (58 ∷ u) (omega arith) ∙ last_behind [] u (some_text j)) ∙ e)

byte_along : (b : ℕ) (l rest : List ℕ) → byte_at (b ∷ l ++ rest) (length l) ≡ last_byte (b ∷ l)
byte_along b [] rest = byte_in (b ∷ rest) 0 (omega arith)
byte_along b (c ∷ l) rest =
    let n : suc (length l) < suc (suc (length (l ++ rest))) = omega (arith, length-append l rest) in
    byte_in (b ∷ c ∷ l ++ rest) (suc (length l)) n ∙ sym (byte_in (c ∷ l ++ rest) (length l) (omega (arith, length-append l rest))) ∙ byte_along c l rest

byte_last : (x rest : List ℕ) → 1 ≤ length x → byte_at (x ++ rest) (length x - 1) ≡ last_byte x
byte_last [] rest h = absurd (omega (arith, h))
byte_last (b ∷ l) rest h = let n : suc (length l) - 1 ≡ length l = omega arith in ap (byte_at (b ∷ l ++ rest)) n ∙ byte_along b l rest

byte_append : (x y : List ℕ) (n : ℕ) → byte_at (x ++ y) (length x + n) ≡ byte_at y n
byte_append x y n = sym (byte_behind (x ++ y) (length x) n) ∙ ap (λ l. byte_at l n) (drop-append_seam x y)

byte_apart : (sep : ℕ) → sep < 256 → (t : List ℕ) → Apart sep t → (k : ℕ) → byte_at t k ≡ sep → ⊥
byte_apart sep s [] a k e = omega (arith, s, sym (byte_out [] k (omega arith)) ∙ e)
byte_apart sep s (b ∷ t) a zero e = a.0 (sym (byte_in (b ∷ t) 0 (omega arith)) ∙ e)
byte_apart sep s (b ∷ t) a (suc k) e =
    let q : 1 + k ≡ suc k = omega arith in
    byte_apart sep s t a.1 k (byte_behind (b ∷ t) 1 k ∙ ap (byte_at (b ∷ t)) q ∙ e)

-- where a quad starts behind a colon, and what stands before it
module _ (x q : List ℕ) (a : Apart 58 q) where
  abbrev T : List ℕ
  T = x ++ 58 ∷ q

  behind_to : (k : ℕ) → behind_last 58 T (suc (length x + k)) ≡ suc (length x)
  behind_to zero =
      let p : suc (length x + 0) - 1 ≡ length x + 0 = omega arith in
      let r : suc (length x + 0) ≡ suc (length x) = omega arith in
      sym (last_here 58 T (suc (length x + 0)) (omega arith) refl (ap (byte_at T) p ∙ byte_append x (58 ∷ q) 0 ∙ byte_in (58 ∷ q) 0 (omega arith))) ∙ r
  behind_to (suc k) =
      let p : suc (length x + suc k) - 1 ≡ length x + suc k = omega arith in
      let r : suc (length x + suc k) - 1 ≡ suc (length x + k) = omega arith in
      let n : 1 + k ≡ suc k = omega arith in
      sym (last_back 58 T (suc (length x + suc k)) (omega arith) refl λ e.
      byte_apart 58 (omega arith) q a k
      (byte_behind (58 ∷ q) 1 k ∙ ap (byte_at (58 ∷ q)) n ∙ sym (byte_append x (58 ∷ q) (suc k)) ∙ sym (ap (byte_at T) p) ∙ e))
      ∙ ap (behind_last 58 T) r
      ∙ behind_to k

  behind_is : behind_last 58 T (length T) ≡ suc (length x)
  behind_is =
      let n : length T ≡ suc (length x + length q) = omega (arith, length-append x (58 ∷ q)) in
      ap (behind_last 58 T) n ∙ behind_to (length q)

  behind_drop : drop (suc (length x)) T ≡ q
  behind_drop = let n : suc (length x) ≡ length x + 1 = omega arith in ap (λ k. drop k T) n ∙ drop-append-add x (58 ∷ q) 1

  module _ {os : List ℕ} (quad : octets_of q ≡ some os) where
    mixed_at : {f : ℕ} → front_of T (suc (length x)) ≡ f → groups_of T ≡ join_quad (groups_in 6 (take f T)) os
    unfolding groups_of groups_with
    mixed_at e =
        ap (λ k. groups_with (octets_of (drop k T)) T k) behind_is
        ∙ ap (λ l. groups_with l T (suc (length x))) (ap octets_of behind_drop ∙ quad)
        ∙ ap (λ k. join_quad (groups_in 6 (take k T)) os) e

    module _ (h : 1 ≤ length x) where
      byte_before : byte_at T (suc (length x) - 2) ≡ last_byte x
      byte_before = let n : suc (length x) - 2 ≡ length x - 1 = omega arith in ap (byte_at T) n ∙ byte_last x (58 ∷ q) h

      mixed_colon : last_byte x ≡ 58 → groups_of T ≡ join_quad (groups_in 6 (x ++ 58 ∷ [])) os
      unfolding front_of
      mixed_colon e =
          let n : suc (length x) ≡ length x + 1 = omega arith in
          mixed_at (sym (first _ (eq-eqb _ _ (byte_before ∙ e)) refl))
          ∙ ap (λ l. join_quad (groups_in 6 l) os) (ap (λ k. take k T) n ∙ take-append-add x (58 ∷ q) 1)

      mixed_digit : (last_byte x ≡ 58 → ⊥) → groups_of T ≡ join_quad (groups_in 6 x) os
      unfolding front_of
      mixed_digit e =
          let n : length x ≡ suc (length x) - 1 = omega arith in
          mixed_at (sym (second _ (ne_eqb _ _ (λ f. e (sym byte_before ∙ f))) n))
          ∙ ap (λ l. join_quad (groups_in 6 l) os) (take-append_seam x (58 ∷ q))

-- without a period eight groups are read
apart_drop : (sep n : ℕ) (t : List ℕ) → Apart sep t → Apart sep (drop n t)
apart_drop sep zero t h = h
apart_drop sep (suc n) [] h = tt
apart_drop sep (suc n) (b ∷ t) h = apart_drop sep n t h.1

plain_read : (t : List ℕ) → Apart 46 t → groups_of t ≡ groups_in 8 t
unfolding groups_of groups_with
plain_read t a = go (octets_of (drop at t)) refl
  where
    at : ℕ
    at = behind_last 58 t (length t)

    go : (o : Option (List ℕ)) → octets_of (drop at t) ≡ o → groups_with o t at ≡ groups_in 8 t
    go none e = refl
    go (some os) e = absurd (quad_periods (octets_sound (drop at t) e) (apart_drop 46 at t a))

pieces_read : {t vs : List ℕ} → Pieces 8 t vs → groups_of t ≡ some vs
pieces_read {t} p = plain_read t (pieces_periods p) ∙ pieces_complete p

pub complete : {t : List ℕ} {vs : List ℕ} → IPv6 t vs → groups_of t ≡ some vs
complete (full j h) = pieces_read (all_of j h)
complete (short s r h) = pieces_read (some_of s r (omega (arith, h)))
complete (mixed {t} {q} {vs} {os} j h i) =
    mixed_digit t q (quad_colons i) (octets_complete i) (some_length t (some_text j)) (last_groups j)
    ∙ ap (λ o. join_quad o os) (pieces_complete (all_of j h))
complete (mixed_short {t} {q = q} {os = os} s nothing h i) =
    let x : List ℕ = t ++ 58 ∷ [] in
    let n : 1 ≤ length x = omega (arith, length-append t (58 ∷ [])) in
    ap groups_of (sym (append_assoc t (58 ∷ []) (58 ∷ q)))
    ∙ mixed_colon x q (quad_colons i) (octets_complete i) n (last_append t (58 ∷ []) (omega arith))
    ∙ ap (λ o. join_quad o os) (ap (groups_in 6) (append_assoc t (58 ∷ []) (58 ∷ [])) ∙ pieces_complete {n = 6} (some_of s empty (omega (arith, h))))
complete (mixed_short {t} {q = q} {os = os} s (led {t = u} j) h i) =
    let x : List ℕ = t ++ 58 ∷ 58 ∷ u in
    let n : 1 ≤ length x = omega (arith, length-append t (58 ∷ 58 ∷ u)) in
    let l : last_byte x ≡ last_byte u = last_append t (58 ∷ 58 ∷ u) (omega arith) ∙ last_behind (58 ∷ []) u (some_text j) in
    ap groups_of (ap (λ l. t ++ 58 ∷ 58 ∷ l) (append_assoc u (58 ∷ []) q) ∙ sym (append_assoc t (58 ∷ 58 ∷ u) (58 ∷ q)))
    ∙ mixed_digit x q (quad_colons i) (octets_complete i) n (λ f. last_groups j (sym l ∙ f))
    ∙ ap (λ o. join_quad o os) (pieces_complete {n = 6} (some_of s (groups j) (omega (arith, h))))

-- six groups that are read before a quad, with the `::` at their end or a colon behind them
from_colon : (x q : List ℕ) {h ws os : List ℕ} → Pieces 6 h ws → h ≡ x ++ 58 ∷ [] → IPv4 q os → IPv6 (h ++ q) (ws ++ paired os)
from_colon x q (all_of j n) e i = absurd (last_groups j (ap last_byte e ∙ last_append x (58 ∷ []) (omega arith)))
from_colon x q {os = os} (some_of {t} {vs = vs} s empty n) e i =
    subst (λ l. IPv6 l (vs ++ replicate (6 - (length vs + 0)) 0 ++ [] ++ paired os)) (sym (append_assoc t (58 ∷ 58 ∷ []) q)) (mixed_short s nothing (omega (arith, n)) i)
from_colon x q (some_of {t} {u} s (groups j) n) e i =
    absurd
    (last_groups j
    (sym (last_append t (58 ∷ 58 ∷ u) (omega arith) ∙ last_behind (58 ∷ []) u (some_text j)) ∙ ap last_byte e ∙ last_append x (58 ∷ []) (omega arith)))

from_digit : (q : List ℕ) {h ws os : List ℕ} → Pieces 6 h ws → (last_byte h ≡ 58 → ⊥) → IPv4 q os → IPv6 (h ++ 58 ∷ q) (ws ++ paired os)
from_digit q (all_of j n) f i = mixed j n i
from_digit q (some_of {t} s empty n) f i = absurd (f (last_append t (58 ∷ 58 ∷ []) (omega arith)))
from_digit q {os = os} (some_of {t} {u} {vs} {ws} s (groups j) n) f i =
    subst (λ l. IPv6 l (vs ++ replicate (6 - (length vs + length ws)) 0 ++ ws ++ paired os))
    (ap (λ l. t ++ 58 ∷ 58 ∷ l) (append_assoc u (58 ∷ []) q) ∙ sym (append_assoc t (58 ∷ 58 ∷ u) (58 ∷ q)))
    (mixed_short s (led j) (omega (arith, n)) i)

pieces_text : {n : ℕ} {t : List ℕ} {vs : List ℕ} → Pieces n t vs → length t ≡ 0 → ⊥
pieces_text (all_of j n) e = some_text j e
pieces_text (some_of {t} {u} s r n) e = omega (arith, e, length-append t (58 ∷ 58 ∷ u))

module _ (t : List ℕ) {at : ℕ} (k : 0 < at) (le : at ≤ length t) (colon : byte_at t (at - 1) ≡ 58) where
  cut : t ≡ take (at - 1) t ++ 58 ∷ drop at t
  cut =
      let n : suc (at - 1) ≡ at = omega arith in
      split_at t (at - 1) 0 (omega arith) ∙ ap₂ (λ b m. take (at - 1) t ++ b ∷ drop m t) (sym (byte_in t (at - 1) (omega arith)) ∙ colon) n

  cut_colon : take at t ≡ take (at - 1) t ++ 58 ∷ []
  cut_colon =
      let n : at ≡ suc (at - 1) = omega arith in
      ap (λ m. take m t) n ∙ take-suc t (at - 1) 0 (omega arith) ∙ ap (λ b. take (at - 1) t ++ b ∷ []) (sym (byte_in t (at - 1) (omega arith)) ∙ colon)

  cut_last : (byte_at t (at - 2) ≡ 58 → ⊥) → last_byte (take (at - 1) t) ≡ 58 → ⊥
  cut_last f e =
      let m : length (take (at - 1) t) ≡ at - 1 = length-take-le (at - 1) t (omega arith) in
      let n : length (take (at - 1) t) - 1 ≡ at - 2 = omega arith in
      elim (ℕ_discrete (length (take (at - 1) t)) 0) [
        | yes z ↦ nothing_last (take (at - 1) t) z e
        | no z ↦ f (ap (byte_at t) (sym n) ∙ ap (λ l. byte_at l (length (take (at - 1) t) - 1)) cut ∙ byte_last (take (at - 1) t) (58 ∷ drop at t) (omega (arith, z)) ∙ e)
      ]
    where
      nothing_last : (l : List ℕ) → length l ≡ 0 → last_byte l ≡ 58 → ⊥
      nothing_last [] z e = omega (arith, e)
      nothing_last (b ∷ l) z e = omega (arith, z)

mixed_cut : (t : List ℕ) {at : ℕ} {ws os : List ℕ} → at ≤ length t → (0 < at → byte_at t (at - 1) ≡ 58)
    → Pieces 6 (take (front_of t at) t) ws → IPv4 (drop at t) os → IPv6 t (ws ++ paired os)
unfolding front_of
mixed_cut t {at} {ws} {os} le colon p i = elim (ℕ_discrete at 0) [
  | yes z ↦ absurd (pieces_text p (omega (arith, z, front_le t at, length-take-le (front_of t at) t (omega (arith, le, front_le t at)))))
  | no z ↦ go (omega (arith, z)) (eqb (byte_at t (at - 2)) 58) refl p
]
  where
    go : 0 < at → (u : Bool) → eqb (byte_at t (at - 2)) 58 ≡ u → Pieces 6 (take (cond u at (at - 1)) t) ws → IPv6 t (ws ++ paired os)
    go k true e p =
        subst (λ l. IPv6 l (ws ++ paired os))
        (ap (λ l. l ++ drop at t) (cut_colon t k le (colon k)) ∙ append_assoc (take (at - 1) t) (58 ∷ []) (drop at t) ∙ sym (cut t k le (colon k)))
        (from_colon (take (at - 1) t) (drop at t) p (cut_colon t k le (colon k)) i)
    go k false e p =
        subst (λ l. IPv6 l (ws ++ paired os)) (sym (cut t k le (colon k))) (from_digit (drop at t) p (cut_last t k le (colon k) (eqb-false _ _ e)) i)

joined_both : (a : Option (List ℕ)) (os : List ℕ) {vs : List ℕ} → join_quad a os ≡ some vs → (ws : List ℕ) × (a ≡ some ws) × (ws ++ paired os ≡ vs)
joined_both (some ws) os e = (ws, refl, some_same e)
joined_both none os e = let z : ◌≡◌ {A = ℕ} 0 1 = cc in absurd (omega arith)

by_groups : {t ws : List ℕ} → Pieces 8 t ws → IPv6 t ws
by_groups (all_of j n) = full j n
by_groups (some_of s r n) = short s r (omega (arith, n))

-- what is read has a reading by the RFC
pub sound : (t : List ℕ) {vs : List ℕ} → groups_of t ≡ some vs → IPv6 t vs
unfolding groups_of groups_with
sound t {vs} e = go (octets_of (drop at t)) refl e
  where
    at : ℕ
    at = behind_last 58 t (length t)

    go : (o : Option (List ℕ)) → octets_of (drop at t) ≡ o → groups_with o t at ≡ some vs → IPv6 t vs
    go none f h = by_groups (pieces_sound 8 t h)
    go (some os) f h =
        let p = joined_both (groups_in 6 (take (front_of t at) t)) os h in
        subst (IPv6 t) p.2 (mixed_cut t (last_le 58 t (length t)) (last_stands 58 t (length t)) (pieces_sound 6 (take (front_of t at) t) p.1) (octets_sound (drop at t) f))

-- the halves that are read are those of the groups, and every text that the RFC admits is read
pub value_sound : (t : List ℕ) {high low : ℕ} → wide_of t ≡ Some (record { high = high; low = low }) → (vs : List ℕ) × IPv6 t vs × (high ≡ value_of 65536 (take 4 vs)) × (low ≡ value_of 65536 (drop 4 vs))
unfolding wide_of
value_sound t {high} {low} e = go (groups_of t) refl e
  where
    go : (o : Option (List ℕ)) → groups_of t ≡ o → as_address o ≡ Some (record { high = high; low = low }) → (vs : List ℕ) × IPv6 t vs × (high ≡ value_of 65536 (take 4 vs)) × (low ≡ value_of 65536 (drop 4 vs))
    go (some vs) f h =
        let u : ◌≡◌ {A = Wide} (record { high = high; low = low }) (record { high = value_of 65536 (take 4 vs); low = value_of 65536 (drop 4 vs) }) = cc in
        (vs, sound t f, ap (λ (w : Wide). w.high) u, ap (λ (w : Wide). w.low) u)
    go none f h = let z : ◌≡◌ {A = ℕ} 0 1 = cc in absurd (omega arith)

pub value_complete : {t : List ℕ} {vs : List ℕ} → IPv6 t vs → wide_of t ≡ Some (record { high = (value_of 65536 (take 4 vs)); low = (value_of 65536 (drop 4 vs)) })
unfolding wide_of
value_complete a = ap as_address (complete a)

-- two readings of one text coincide
pub unique : {t : List ℕ} {vs ws : List ℕ} → IPv6 t vs → IPv6 t ws → vs ≡ ws
unique a b = some_same (sym (complete a) ∙ complete b)
