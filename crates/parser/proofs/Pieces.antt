-- C-11: how the definition of a piece's answer follows from the tests that were made.
use Rattle.std.specs.Prelude.{Some, None, Ok, Err}
use mathlib.Core.Path.{◌≡◌, refl, sym, ap, subst, ◌∙◌}
use mathlib.Core.List.{List}
use Prim.Native.Nat.{ℕ, ◌+◌, ◌-◌, ◌≤◌}
use lib.ListN.{length, take, drop}
use lib.Seq.{slice}
use borrow.Author.Tests.{eq-eqb, ne_eqb}
use native.Mathlib.Omega.{arith}
use Rattle.chars.proofs.Texts.{part_slice}
use Rattle.strings.specs.Results.{Size}
use Rattle.texts.specs.Results.{Scanned}
use Rattle.texts.specs.declared.Part.{Part}
use Rattle.texts.specs.declared.Part.TheVariants.{Before, Ends}
use Rattle.texts.specs.Parts.{part_at}
use Rattle.texts.specs.Texts.{text_of}
use Rattle.texts.proofs.Parts.{Parted, parted_before, parted_ends, part_lies}
use Rattle.rows.specs.Rows.{put_row}
use Rattle.parser.specs.declared.Here.{Here}
use Rattle.parser.specs.Results.{Read}
use Rattle.parser.specs.Places.{end_of, bumped, here_at, refusal_at, part_row, part_node, piece_read, piece_table, part_read, part_table}

module _ (s : List ℕ) (t : List ℕ) (n a w e j : ℕ) {z : Size} (hz : z ≡ text_of (take (e - a) (drop a s))) where
  size_is : {y : Size} → z ≡ y → text_of (slice a e s) ≡ y
  size_is q = ap text_of (sym (part_slice a e s)) ∙ sym hz ∙ q

  abbrev pub Is : Read → List ℕ → Type 0
  Is r t' = (r ≡ piece_read s n a w e j (text_of (slice a e s))) × (t' ≡ piece_table t n a e (text_of (slice a e s)))

  pub piece_bad : {r : Read} {t' : List ℕ} → z ≡ None → r ≡ Err (refusal_at 7 a e) → t' ≡ t → Is r t'
  unfolding piece_read piece_table
  piece_bad q x y = (rw (size_is q) x, rw (size_is q) y)

  pub piece_empty : {h : Here} {t' : List ℕ} {c : ℕ} → z ≡ Some c → c ≡ 0 → h ≡ here_at s j n → t' ≡ t → Is (Ok (part_node w a e 0, h)) t'
  unfolding piece_read piece_table
  piece_empty q o x y = (ap (λ (z : Here). Ok (part_node w a e 0, z)) x ∙ rw (size_is q, eq-eqb _ _ o) refl, rw (size_is q, eq-eqb _ _ o) y)

  pub piece_row : {h : Here} {t' : List ℕ} {c m : ℕ} → z ≡ Some c → (c ≡ 0 → ⊥) → h ≡ here_at s j m → m ≡ bumped n → t' ≡ put_row t n (part_row a e c) 1 → Is (Ok (part_node w a e 1, h)) t'
  unfolding piece_read piece_table
  piece_row q o x b y = (ap (λ (z : Here). Ok (part_node w a e 1, z)) (x ∙ ap (here_at s j) b) ∙ rw (size_is q, ne_eqb _ _ o) refl, rw (size_is q, ne_eqb _ _ o) y)

-- a piece lies in the source
pub before_in : (s : List ℕ) (at : ℕ) {p : Scanned} {e : ℕ} → p ≡ part_at s at → p ≡ Some (Before e) → (at ≤ e) × (e + 2 ≤ length s)
before_in s at {p} {e} a b = go (part_at s at) (part_lies s at) (sym a ∙ b)
  where
    go : (k : Scanned) → Parted at (length s) k → k ≡ Some (Before e) → (at ≤ e) × (e + 2 ≤ length s)
    go (Some (Before x)) (parted_before h m) q = let z : x ≡ e = cc in (omega (arith, z, h), omega (arith, z, m))
    go (Some (Ends x)) h q = let z : ◌≡◌ {A = ℕ} 0 1 = cc in absurd (omega arith)
    go None h q = let z : ◌≡◌ {A = ℕ} 0 1 = cc in absurd (omega arith)

pub ends_in : (s : List ℕ) (at : ℕ) {p : Scanned} {e : ℕ} → p ≡ part_at s at → p ≡ Some (Ends e) → (at ≤ e) × (e + 1 ≤ length s)
ends_in s at {p} {e} a b = go (part_at s at) (part_lies s at) (sym a ∙ b)
  where
    go : (k : Scanned) → Parted at (length s) k → k ≡ Some (Ends e) → (at ≤ e) × (e + 1 ≤ length s)
    go (Some (Before x)) h q = let z : ◌≡◌ {A = ℕ} 0 1 = cc in absurd (omega arith)
    go (Some (Ends x)) (parted_ends h m) q = let z : x ≡ e = cc in (omega (arith, z, h), omega (arith, z, m))
    go None h q = let z : ◌≡◌ {A = ℕ} 0 1 = cc in absurd (omega arith)

-- the piece at the end of the token that a reader stands at
pub as_part : (s t : List ℕ) (h : Here) {a : ℕ} {p y : Scanned} {r : Read} {t' : List ℕ} → a ≡ end_of h → p ≡ part_at s a → p ≡ y → (r ≡ part_read s h.rows a y) × (t' ≡ part_table s t h.rows a y) → (r ≡ part_read s h.rows (end_of h) (part_at s (end_of h))) × (t' ≡ part_table s t h.rows (end_of h) (part_at s (end_of h)))
as_part s t h {a} {r = r} {t' = t'} i b c k =
    let q = sym b ∙ c in
    subst (λ (x : ℕ). (r ≡ part_read s h.rows x (part_at s x)) × (t' ≡ part_table s t h.rows x (part_at s x))) i (k.0 ∙ ap (part_read s h.rows a) (sym q), k.1 ∙ ap (part_table s t h.rows a) (sym q))
