-- What is read between separators is what a relation says of it, in both directions; and so for the dotted quad.
use Rattle.std.specs.Prelude.{Some, None}
use mathlib.Core.Path.{◌≡◌, refl, sym, ap, ap₂, ◌∙◌, subst}
use Prim.Native.Nat.{ℕ, suc, ◌+◌, ◌<◌, ◌≤◌}
use mathlib.Core.List.{List, [], ◌∷◌, ◌++◌, map}
use mathlib.Core.Option.{Option, none, some}
use mathlib.Core.Bool.{Bool, true, false, cond}
use native.Mathlib.Decide.{ℕ_discrete}
use native.Mathlib.Omega.{arith}
use lib.ListN.{length, length-append}
use lib.Dec.{eqb, ltb}
use borrow.Author.Tests.{eq-eqb, eqb-true, ltb-true, le-ltb, lt-ltb, ne_eqb}
use Rattle.chars.specs.Chars.{byte_at}
use Rattle.numbers.specs.declared.Base.{Base}
use Rattle.numbers.specs.Results.{Number}
use Rattle.numbers.specs.Digits.{digit_of, value_of, all_below, number_of}
use Rattle.numbers.proofs.Choices.{first, second, and_left, and_right, and, not_left, not_right}
use Rattle.numbers.proofs.Digits.{Says, number_says, says_number}
use Rattle.addresses.specs.declared.Form.{Form}
use Rattle.addresses.specs.Results.{Quad}
use Rattle.addresses.specs.Groups.{short_of, group_of, onto, parts, before, values_of}
use Rattle.addresses.specs.Quads.{Joined, one, more, Octet, IPv4}
use Rattle.addresses.specs.Addresses.{exactly, octets_of, as_quad, quad_of}
use Rattle.addresses.proofs.Parts.{parts_here, parts_on, leads_zero, short_number, number_short}
use Rattle.addresses.proofs.Sides.{some_same}

-- a text in which a byte doesn't stand
abbrev pub Apart : ℕ → List ℕ → Type 0
Apart sep [] = Unit {0}
Apart sep (b ∷ t) = (b ≡ sep → ⊥) × Apart sep t

pub apart_append : (sep : ℕ) (t u : List ℕ) → Apart sep t → Apart sep u → Apart sep (t ++ u)
apart_append sep [] u h k = k
apart_append sep (b ∷ t) u h k = (h.0, apart_append sep t u h.1 k)

pub not_apart : (sep : ℕ) (t u : List ℕ) → Apart sep (t ++ sep ∷ u) → ⊥
not_apart sep [] u h = h.0 refl
not_apart sep (b ∷ t) u h = not_apart sep t u h.1

-- digits below a base, and a byte that is none
pub digits_head : (base b : ℕ) (t : List ℕ) → all_below base (map digit_of (b ∷ t)) ≡ true → digit_of b < base
unfolding all_below
digits_head base b t h = ltb-true (digit_of b) base (and_left (ltb (digit_of b) base) (all_below base (map digit_of t)) h)

pub digits_tail : (base b : ℕ) (t : List ℕ) → all_below base (map digit_of (b ∷ t)) ≡ true → all_below base (map digit_of t) ≡ true
unfolding all_below
digits_tail base b t h = and_right (ltb (digit_of b) base) (all_below base (map digit_of t)) h

pub digits_apart : (base sep : ℕ) → base ≤ digit_of sep → (t : List ℕ) → all_below base (map digit_of t) ≡ true → Apart sep t
digits_apart base sep k [] h = tt
digits_apart base sep k (b ∷ t) h = (λ e. omega (arith, k, ap digit_of e, digits_head base b t h), digits_apart base sep k t (digits_tail base b t h))

pub signs_none : (digit_of 46 ≡ 16) × (digit_of 58 ≡ 16)
unfolding digit_of
signs_none = (refl, refl)

-- parts put together again
abbrev glue : ℕ → List (List ℕ) → List ℕ
glue sep [] = []
glue sep (p ∷ []) = p
glue sep (p ∷ q ∷ ps) = p ++ sep ∷ glue sep (q ∷ ps)

module _ (sep : ℕ) where
  glue_onto : (b : ℕ) (ps : List (List ℕ)) → glue sep (onto b ps) ≡ b ∷ glue sep ps
  glue_onto b [] = refl
  glue_onto b (p ∷ []) = refl
  glue_onto b (p ∷ q ∷ ps) = refl

  some_parts : (l : List ℕ) → (p : List ℕ) × (ps : List (List ℕ)) × (parts sep l ≡ p ∷ ps)
  unfolding parts
  some_parts [] = ([], [], refl)
  some_parts (b ∷ l) = elim (ℕ_discrete b sep) [
    | yes e ↦ ([], parts sep l, parts_here sep l e)
    | no f ↦ (let r = some_parts l in (b ∷ r.0, r.1, parts_on sep l f ∙ ap (onto b) r.2))
  ]

  glued : (l : List ℕ) → glue sep (parts sep l) ≡ l
  unfolding parts
  glued [] = refl
  glued (b ∷ l) = elim (ℕ_discrete b sep) [
    | yes e ↦
        (let r = some_parts l in
        ap (glue sep) (parts_here sep l e ∙ ap (λ x. [] ∷ x) r.2) ∙ ap₂ ◌∷◌ (sym e) (ap (glue sep) (sym r.2) ∙ glued l))
    | no f ↦ ap (glue sep) (parts_on sep l f) ∙ glue_onto b (parts sep l) ∙ ap (λ x. b ∷ x) (glued l)
  ]

  -- a text without the separator is one part, before a separator or the end
  whole : (t : List ℕ) → Apart sep t → parts sep t ≡ t ∷ []
  unfolding parts
  whole [] h = refl
  whole (b ∷ t) h = parts_on sep t h.0 ∙ ap (onto b) (whole t h.1)

  ahead_of : (t u : List ℕ) → Apart sep t → parts sep (t ++ sep ∷ u) ≡ t ∷ parts sep u
  ahead_of [] u h = parts_here sep u refl
  ahead_of (b ∷ t) u h = parts_on sep (t ++ sep ∷ u) h.0 ∙ ap (onto b) (ahead_of t u h.1)

-- what the values of parts say of each
record Split (form : Form) (p : List ℕ) (ps : List (List ℕ)) (vs : List ℕ) : Type 0 where
  v : ℕ
  k : ℕ
  ws : List ℕ
  head : group_of form p ≡ Some (v, k)
  tail : values_of form ps ≡ some ws
  all : vs ≡ v ∷ ws

split : (form : Form) (p : List ℕ) (ps : List (List ℕ)) {vs : List ℕ} → values_of form (p ∷ ps) ≡ some vs → Split form p ps vs
unfolding values_of
split form p ps e = go (group_of form p) (values_of form ps) refl refl e
  where
    go : {vs : List ℕ} (g : Number) (o : Option (List ℕ)) → group_of form p ≡ g → values_of form ps ≡ o → before g o ≡ some vs → Split form p ps vs
    go (Some (v, k)) (some ws) e f h = record { v = v; k = k; ws = ws; head = e; tail = f; all = sym (some_same h) }
    go (Some (v, k)) none e f h = let z : ◌≡◌ {A = ℕ} 0 1 = cc in absurd (omega arith)
    go None o e f h = let z : ◌≡◌ {A = ℕ} 0 1 = cc in absurd (omega arith)

-- a form whose parts are those of a relation, which keep off the separator
pub record Reads (form : Form) (sep : ℕ) (Part : List ℕ → ℕ → Type 0) : Type 0 where
  pub sound : (t : List ℕ) (v k : ℕ) → group_of form t ≡ Some (v, k) → Part t v
  pub complete : (t : List ℕ) (v : ℕ) → Part t v → group_of form t ≡ Some (v, length t)
  pub apart : (t : List ℕ) (v : ℕ) → Part t v → Apart sep t

module _ {form : Form} {sep : ℕ} {Part : List ℕ → ℕ → Type 0} (r : Reads form sep Part) where
  pub joined_complete : {t : List ℕ} {vs : List ℕ} → Joined Part sep t vs → values_of form (parts sep t) ≡ some vs
  unfolding values_of
  joined_complete (one {t} {v} g) = ap (values_of form) (whole sep t (r.apart t v g)) ∙ ap (λ n. before n (some [])) (r.complete t v g)
  joined_complete (more {t} {u} {v} g j) = ap (values_of form) (ahead_of sep t u (r.apart t v g)) ∙ ap₂ before (r.complete t v g) (joined_complete j)

  glue_sound : (p : List ℕ) (ps : List (List ℕ)) {vs : List ℕ} → values_of form (p ∷ ps) ≡ some vs → Joined Part sep (glue sep (p ∷ ps)) vs
  unfolding values_of
  glue_sound p [] {vs} e =
      let s = split form p [] e in
      subst (Joined Part sep p) (sym (s.all ∙ ap (λ w. s.v ∷ w) (sym (some_same s.tail)))) (one (r.sound p s.v s.k s.head))
  glue_sound p (q ∷ ps) {vs} e =
      let s = split form p (q ∷ ps) e in
      subst (Joined Part sep (p ++ sep ∷ glue sep (q ∷ ps))) (sym s.all) (more (r.sound p s.v s.k s.head) (glue_sound q ps s.tail))

  pub joined_sound : (t : List ℕ) {vs : List ℕ} → values_of form (parts sep t) ≡ some vs → Joined Part sep t vs
  joined_sound t {vs} e =
      let p = some_parts sep t in
      subst (λ l. Joined Part sep l vs) (ap (glue sep) (sym p.2) ∙ glued sep t) (glue_sound p.0 p.1 (ap (values_of form) (sym p.2) ∙ e))

-- so many values
pub exactly_are : (n : ℕ) {vs : List ℕ} → length vs ≡ n → exactly n (some vs) ≡ some vs
unfolding exactly
exactly_are n h = sym (first none (eq-eqb _ _ h) refl)

pub exactly_says : (n : ℕ) (o : Option (List ℕ)) {vs : List ℕ} → exactly n o ≡ some vs → (o ≡ some vs) × (length vs ≡ n)
unfolding exactly
exactly_says n none e = let z : ◌≡◌ {A = ℕ} 0 1 = cc in absurd (omega arith)
exactly_says n (some ws) {vs} e = go (eqb (length ws) n) refl e
  where
    go : (u : Bool) → eqb (length ws) n ≡ u → cond u (some ws) none ≡ some vs → (some ws ≡ some vs) × (length vs ≡ n)
    go true f h = (h, subst (λ l. length l ≡ n) (some_same h) (eqb-true _ _ f))
    go false f h = let z : ◌≡◌ {A = ℕ} 0 1 = cc in absurd (omega arith)

-- an octet of the rule, and one that is read
no_zero : (t : List ℕ) → leads_zero (length t) (byte_at t 0) ≡ false → 1 < length t → byte_at t 0 ≡ 48 → ⊥
no_zero t e h k = let z : true ≡ false = sym (and (lt-ltb 1 (length t) h) (eq-eqb _ _ k)) ∙ e in let y : ◌≡◌ {A = ℕ} 0 1 = cc in omega arith

octet_sound : {t : List ℕ} {v k : ℕ} → group_of Form.Dotted t ≡ Some (v, k) → Octet t v
unfolding group_of
octet_sound {t} {v} {k} e = go (leads_zero (length t) (byte_at t 0)) refl e
  where
    go : (u : Bool) → leads_zero (length t) (byte_at t 0) ≡ u → cond u None (short_of (number_of Base.Ten 255 t) 3) ≡ Some (v, k) → Octet t v
    go true f h = let z : ◌≡◌ {A = ℕ} 0 1 = cc in absurd (omega arith)
    go false f h =
        let q = short_number (number_of Base.Ten 255 t) 3 h in
        let s = number_says Base.Ten 255 t q.0 in
        record { digits = s.digits; some = subst (λ n. 1 ≤ n) s.count s.some; few = subst (λ n. n ≤ 3) s.count q.1; most = s.most; plain = no_zero t f; value = s.value }

octet_complete : {t : List ℕ} {v : ℕ} → Octet t v → group_of Form.Dotted t ≡ Some (v, length t)
unfolding group_of
octet_complete {t} {v} o =
    let s : Says Base.Ten 255 t v (length t) = record { digits = o.digits; value = o.value; most = o.most; some = o.some; count = refl } in
    sym (second None (leads (ℕ_discrete (byte_at t 0) 48)) (number_short (says_number Base.Ten 255 t s) o.few))
  where
    leads : Dec (byte_at t 0 ≡ 48) → leads_zero (length t) (byte_at t 0) ≡ false
    leads (no f) = not_right (ltb 1 (length t)) (ne_eqb _ _ f)
    leads (yes e) = not_left (eqb (byte_at t 0) 48) (le-ltb 1 (length t) (at_most_one (ℕ_discrete (length t) 1)))
      where
        at_most_one : Dec (length t ≡ 1) → length t ≤ 1
        at_most_one (yes q) = omega (arith, q)
        at_most_one (no q) = absurd (o.plain (omega (arith, q, o.some)) e)

octet_apart : {t : List ℕ} {v : ℕ} → Octet t v → (Apart 46 t) × (Apart 58 t)
octet_apart {t} o = (digits_apart 10 46 (omega (arith, signs_none.0)) t o.digits, digits_apart 10 58 (omega (arith, signs_none.1)) t o.digits)

octet_reads : Reads Form.Dotted 46 Octet
octet_reads = record { sound = λ t v k e. octet_sound e; complete = λ t v o. octet_complete o; apart = λ t v o. (octet_apart o).0 }

-- a quad that is read is one by the rule, and the other way round
pub octets_complete : {t : List ℕ} {vs : List ℕ} → IPv4 t vs → octets_of t ≡ some vs
unfolding octets_of
octets_complete {t} {vs} q = ap (exactly 4) (joined_complete octet_reads q.octets) ∙ exactly_are 4 q.four

pub octets_sound : (t : List ℕ) {vs : List ℕ} → octets_of t ≡ some vs → IPv4 t vs
unfolding octets_of
octets_sound t e =
    let s = exactly_says 4 (values_of Form.Dotted (parts 46 t)) e in
    record { octets = joined_sound octet_reads t s.0; four = s.1 }

-- it has a period, and no colon
octets_apart : {t : List ℕ} {vs : List ℕ} → Joined Octet 46 t vs → Apart 58 t
octets_apart (one o) = (octet_apart o).1
octets_apart (more {t} {u} o j) = apart_append 58 t (46 ∷ u) (octet_apart o).1 ((λ e. omega (arith, e)), octets_apart j)

pub quad_colons : {t : List ℕ} {vs : List ℕ} → IPv4 t vs → Apart 58 t
quad_colons q = octets_apart q.octets

two_octets : {t : List ℕ} {vs : List ℕ} → Joined Octet 46 t vs → length vs ≡ 4 → Apart 46 t → ⊥
two_octets (one o) h a = omega (arith, h)
two_octets (more {t} {u} o j) h a = not_apart 46 t u a

pub quad_periods : {t : List ℕ} {vs : List ℕ} → IPv4 t vs → Apart 46 t → ⊥
quad_periods q = two_octets q.octets q.four

-- the value of an IPv4 address that is read is that of its octets, and every text that the rule admits is read; with one value
pub ipv4_sound : (t : List ℕ) {v : ℕ} → quad_of t ≡ Some v → (vs : List ℕ) × IPv4 t vs × (v ≡ value_of 256 vs)
unfolding quad_of
ipv4_sound t {v} e = go (octets_of t) refl e
  where
    go : (o : Option (List ℕ)) → octets_of t ≡ o → as_quad o ≡ Some v → (vs : List ℕ) × IPv4 t vs × (v ≡ value_of 256 vs)
    go (some vs) f h = (vs, octets_sound t f, cc)
    go none f h = let z : ◌≡◌ {A = ℕ} 0 1 = cc in absurd (omega arith)

pub ipv4_complete : {t : List ℕ} {vs : List ℕ} → IPv4 t vs → quad_of t ≡ Some (value_of 256 vs)
unfolding quad_of
ipv4_complete q = ap as_quad (octets_complete q)

pub ipv4_unique : {t : List ℕ} {vs ws : List ℕ} → IPv4 t vs → IPv4 t ws → vs ≡ ws
ipv4_unique a b = some_same (sym (octets_complete a) ∙ octets_complete b)

-- a quad has seven bytes or more
octets_long : {t : List ℕ} {vs : List ℕ} → Joined Octet 46 t vs → length vs + length vs ≤ suc (length t)
octets_long (one o) = omega (arith, o.some)
octets_long (more {t} {u} o j) = omega (arith, o.some, octets_long j, length-append t (46 ∷ u))

pub short_quad : (t : List ℕ) → length t < 7 → None ≡ quad_of t
short_quad t h = go (quad_of t) refl
  where
    go : (q : Quad) → quad_of t ≡ q → None ≡ q
    go None e = refl
    go (Some v) e = let r = ipv4_sound t e in absurd (omega (arith, h, octets_long r.1.octets, r.1.four))
