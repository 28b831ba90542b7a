-- What salvaging leaves: a text as long, with the bytes that no range holds, and from the first place on whole declarations up to the end.
use mathlib.Core.Path.{◌≡◌, refl, sym, ap, ◌∙◌}
use mathlib.Core.List.{List}
use mathlib.Core.Bool.{Bool, true}
use mathlib.Core.Logic.{◌⊎◌, inl, inr}
use Prim.Native.Nat.{ℕ, ◌-◌, ◌<◌, ◌≤◌}
use native.Mathlib.Decide.{dec_lt}
use native.Mathlib.Omega.{arith}
use lib.ListN.{length}
use Rattle.chars.specs.declared.Class.TheVariants.{Blank}
use Rattle.chars.specs.Chars.{byte_at, is_class}
use Rattle.grammar.specs.Language.{roto}
use Rattle.grammar.specs.Refusals.{Refusal}
use Rattle.answers.specs.Source.{source}
use Rattle.answers.proofs.Ahead.{tokens_take}
use Rattle.keeping.specs.Kept.{Kept, none, more, Ends}
use Rattle.keeping.proofs.Lists.{declaration_takes}
use Rattle.keeping.proofs.Skips.{skip_ge}
use Rattle.keeping.proofs.Looks.{some_in}
use Rattle.keeping.proofs.Dropped.{pieces_keep, dropped}
use Rattle.keeping.specs.Breaks.{Breaks}
use Rattle.salvage.specs.Salvage.{end_of, blanked, Range, Salvage, whole, drops}
use Rattle.salvage.specs.Theorems.{Dropped, here, there}
use Rattle.salvage.proofs.Blanked.{end_bounds, blanked_length, blanked_before, blanked_in, blanked_behind}

module _ (tests : Bool) where
  pub kept_le : (s : List ℕ) {i m : ℕ} → Kept (source s) (roto tests) i m → i ≤ m
  kept_le s none = omega arith
  kept_le s (more r k) = let z = declaration_takes tests ℕ (source s).look (source s).piece (λ n. length s - n) (tokens_take s) (pieces_keep s) r in let y = kept_le s k in omega arith

  -- where a break lies
  pub record Bounds (s : List ℕ) (i first : ℕ) (r : Refusal) (b : Breaks tests s i first r) : Type 0 where
    pub from : i ≤ first
    pub behind : b.behind ≤ first
    pub inside : first < length s
    pub over : first < end_of s first r
    pub end : end_of s first r ≤ length s

  pub bounds : (s : List ℕ) {i first : ℕ} {r : Refusal} (b : Breaks tests s i first r) → Bounds s i first r b
  bounds s {i} {first} {r} b =
      let k = kept_le s b.kept in
      let g = skip_ge s b.behind in
      let e = b.begins in
      let h = some_in s b.behind b.more in
      let l : first < length s = omega arith in
      let z = end_bounds s first r l in
      record { from = omega arith; behind = omega arith; inside = l; over = z.0; end = z.1 }

  pub left_length : {s t : List ℕ} {i : ℕ} {rs : List Range} → Salvage tests s i rs t → length t ≡ length s
  left_length (whole e) = refl
  left_length (drops {s = s} {first = first} {r = r} b u) = let h = bounds s b in left_length u ∙ blanked_length s first (end_of s first r) (let k = h.over in omega arith) h.end

  pub left_before : {s t : List ℕ} {i : ℕ} {rs : List Range} → Salvage tests s i rs t → (n : ℕ) → n < i → byte_at t n ≡ byte_at s n
  left_before (whole e) n l = refl
  left_before (drops {s = s} {first = first} {r = r} b u) n l = let h = bounds s b in let k = h.over in let g = h.from in left_before u n (omega arith) ∙ blanked_before s first (end_of s first r) (omega arith) h.end n (omega arith)

  -- a byte is in a range, or it is left
  pub left_or_dropped : {s t : List ℕ} {i : ℕ} {rs : List Range} → Salvage tests s i rs t → (n : ℕ) → Dropped n rs ⊎ (byte_at t n ≡ byte_at s n)
  left_or_dropped (whole e) n = inr refl
  left_or_dropped {t = t} (drops {s = s} {first = first} {r = r} {rs = rs} b u) n =
      let h = bounds s b in
      let k = h.over in
      elim (left_or_dropped u n) [
        | inl d ↦ inl (there d)
        | inr e ↦ elim (dec_lt n first) [
          | yes l ↦ inr (e ∙ blanked_before s first (end_of s first r) (omega arith) h.end n l)
          | no l ↦ elim (dec_lt n (end_of s first r)) [
            | yes m ↦ (let g : first ≤ n = omega arith in inl (here g m))
            | no m ↦ inr (e ∙ blanked_behind s first (end_of s first r) (omega arith) h.end n (omega arith))
          ]
        ]
      ]

  pub left_low : {s t : List ℕ} {i : ℕ} {rs : List Range} → Salvage tests s i rs t → ((n : ℕ) → n < length s → byte_at s n < 128) → (n : ℕ) → n < length s → byte_at t n < 128
  left_low (whole e) f n h = f n h
  left_low (drops {s = s} {first = first} {r = r} b u) f n h =
      let z = bounds s b in
      let k = z.over in
      let l = blanked_length s first (end_of s first r) (omega arith) z.end in
      left_low u (λ m g. one_low m (dec_lt m first) (dec_lt m (end_of s first r)) (omega arith)) n (omega arith)
    where
      one_low : (m : ℕ) → Dec (m < first) → Dec (m < end_of s first r) → m < length s → byte_at (blanked s first (end_of s first r)) m < 128
      one_low m (yes x) y g = let z = bounds s b in let k = z.over in let e = blanked_before s first (end_of s first r) (omega arith) z.end m x in let w = f m g in omega arith
      one_low m (no x) (yes y) g = let z = bounds s b in let k = z.over in let e = blanked_in s first (end_of s first r) (omega arith) z.end m (omega arith) y in omega arith
      one_low m (no x) (no y) g = let z = bounds s b in let k = z.over in let e = blanked_behind s first (end_of s first r) (omega arith) z.end m (omega arith) in let w = f m g in omega arith

  -- from where it began on whole declarations stand up to the end
  pub left_ends : {s t : List ℕ} {i : ℕ} {rs : List Range} → Salvage tests s i rs t → Ends (source t) (roto tests) i
  unfolding is_class
  left_ends (whole e) = e
  left_ends (drops {s = s} {t = t} {first = first} {r = r} b u) =
      let h = bounds s b in
      let k = h.over in
      dropped tests s t (sym (left_length u ∙ blanked_length s first (end_of s first r) (omega arith) h.end)) first (end_of s first r) h.inside (omega arith) before spaces (sym b.begins) h.behind b.kept (left_ends u)
    where
      line : ℕ
      line = end_of s first r

      before : (n : ℕ) → n < first → byte_at s n ≡ byte_at t n
      before n l = let h = bounds s b in let k = h.over in sym (left_before u n (omega arith) ∙ blanked_before s first line (omega arith) h.end n l)

      spaces : (n : ℕ) → first ≤ n → n < line → is_class Blank (byte_at t n) ≡ true
      spaces n l m = let h = bounds s b in let k = h.over in ap (is_class Blank) (left_before u n m ∙ blanked_in s first line (omega arith) h.end n l m)
