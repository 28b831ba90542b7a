-- Numbers read from a file, and the file's parts.
use mathlib.Core.Path.{◌≡◌, refl, sym, ap, subst, ◌∙◌}
use mathlib.Core.List.{List, [], ◌∷◌, ◌++◌}
use mathlib.Core.Bool.{Bool, ◌&&◌}
use mathlib.Core.Logic.{◌≢◌}
use Prim.Native.Nat.{ℕ, zero, suc, ◌+◌, ◌-◌, ◌*◌, ◌/◌, ◌≤◌, ◌<◌}
use native.Mathlib.Omega.{arith}
use lib.Dec.{ltb, eqb}
use lib.ListN.{length, set, get_or, take, drop, length-drop}
use lib.Seq.{set_at, drop-cons, append_snoc, drop-drop, length-take-le}
use Rattle.std.proofs.lemmas.List.{take-append-drop, get_or-drop}
use borrow.Author.Tests.{lt-ltb, le-ltb}
use Rattle.sheets.specs.Places.{number_at, numbers_at, rows_from, source_count, rows_place, row_count, indexes_place, index_count, filled, rows_of, indexes_of}
use Rattle.std.specs.Int.{w32, w64, from_le_bytes}
use Rattle.std.proofs.Common.{Bor}
use Rattle.std.specs.Prelude.{Option, Some, None}
use Rattle.std.specs.Option.{MatchOption}
use Rattle.std.specs.List.{IsSplitAt}
use Rattle.sheets.specs.Steps.{Section, Parsed, rows_in, indexes_in}
use Rattle.sheets.proofs.Widths.{numbers_length, numbers_add, number_front, numbers_front}

-- what std reads of some bytes is their number
short_of : (x : List ℕ) → from_le_bytes w32 x ≡ number_at 4 x 0
unfolding number_at
short_of x = omega arith

four : (b : List ℕ) (at : ℕ) → number_at 4 (get_or b at 0 ∷ get_or b (at + 1) 0 ∷ get_or b (at + 2) 0 ∷ get_or b (at + 3) 0 ∷ []) 0 ≡ number_at 4 b at
unfolding number_at
four b at =
    let f₂ : get_or b (at + 2) 0 ≡ get_or b (at + 1 + 1) 0 = ap (λ (n : ℕ). get_or b n 0) (omega arith) in
    let f₃ : get_or b (at + 3) 0 ≡ get_or b (at + 1 + 1 + 1) 0 = ap (λ (n : ℕ). get_or b n 0) (omega arith) in
    omega (arith, f₂, f₃)

pub short_is : (b : List ℕ) (at : ℕ) → from_le_bytes w32 (get_or b at 0 ∷ get_or b (at + 1) 0 ∷ get_or b (at + 2) 0 ∷ get_or b (at + 3) 0 ∷ []) ≡ number_at 4 b at
short_is b at = short_of _ ∙ four b at

pub long_is : (b : List ℕ) (at : ℕ) → from_le_bytes w64 (get_or b at 0 ∷ get_or b (at + 1) 0 ∷ get_or b (at + 2) 0 ∷ get_or b (at + 3) 0 ∷ get_or b (at + 4) 0 ∷ get_or b (at + 5) 0 ∷ get_or b (at + 6) 0 ∷ get_or b (at + 7) 0 ∷ []) ≡ number_at 8 b at
unfolding number_at
long_is b at =
    let at_more : (n m : ℕ) → n ≡ m → get_or b n 0 ≡ get_or b m 0 = λ n m e. ap (λ (n : ℕ). get_or b n 0) e in
    let f₂ = at_more (at + 2) (at + 1 + 1) (omega arith) in
    let f₃ = at_more (at + 3) (at + 1 + 1 + 1) (omega arith) in
    let f₄ = at_more (at + 4) (at + 1 + 1 + 1 + 1) (omega arith) in
    let f₅ = at_more (at + 5) (at + 1 + 1 + 1 + 1 + 1) (omega arith) in
    let f₆ = at_more (at + 6) (at + 1 + 1 + 1 + 1 + 1 + 1) (omega arith) in
    let f₇ = at_more (at + 7) (at + 1 + 1 + 1 + 1 + 1 + 1 + 1) (omega arith) in
    omega (arith, f₂, f₃, f₄, f₅, f₆, f₇)

pub count_is : (b : List ℕ) → 4 ≤ length b → from_le_bytes w32 (take 4 b) ≡ number_at 4 b 0
count_is b h =
    let l = length-take-le 4 b h in
    short_of (take 4 b) ∙ sym (number_front 4 (take 4 b) (drop 4 b) 0 (omega (arith, l))) ∙ ap (λ (x : List ℕ). number_at 4 x 0) (take-append-drop 4 b)

-- the loop that loads numbers
pub none_loaded : (w : ℕ) (b t : List ℕ) → t ≡ numbers_at w b 0 0 ++ drop 0 t
unfolding numbers_at
none_loaded w b t = refl

one_number : (w : ℕ) (b : List ℕ) (at : ℕ) → numbers_at w b at 1 ≡ number_at w b at ∷ []
unfolding numbers_at
one_number w b at = refl

pub one_loaded : (w : ℕ) (b t₀ t : List ℕ) (i v : ℕ) → t ≡ numbers_at w b 0 i ++ drop i t₀ → i < length t₀ → v ≡ number_at w b (i * w) → set t i v ≡ numbers_at w b 0 (i + 1) ++ drop (i + 1) t₀
one_loaded w b t₀ t i v e h q =
    let xs : List ℕ = numbers_at w b 0 i in
    let n : i + 1 ≡ suc i = omega arith in
    let z : 0 + i * w ≡ i * w = omega arith in
    let s : xs ++ (number_at w b (i * w) ∷ []) ≡ numbers_at w b 0 (i + 1) = sym (numbers_add w b 0 i 1 ∙ ap (λ (l : List ℕ). xs ++ l) (one_number w b (0 + i * w) ∙ ap (λ (j : ℕ). number_at w b j ∷ []) z)) in
    ap (λ (l : List ℕ). set l i v) (e ∙ ap (λ (l : List ℕ). xs ++ l) (drop-cons t₀ i 0 h))
    ∙ set_at xs (get_or t₀ i 0) (drop (suc i) t₀) v i (numbers_length w b 0 i)
    ∙ ap (λ (x : ℕ). xs ++ x ∷ drop (suc i) t₀) q
    ∙ sym (append_snoc xs (number_at w b (i * w)) (drop (suc i) t₀))
    ∙ (λ j. s j ++ drop (sym n j) t₀)

pub all_loaded : (w : ℕ) (b t₀ t : List ℕ) (i count : ℕ) → t ≡ numbers_at w b 0 i ++ drop i t₀ → i ≤ count → count ≤ i → t ≡ numbers_at w b 0 count ++ drop count t₀
all_loaded w b t₀ t i count e h k = let q : i ≡ count = omega arith in e ∙ ap (λ (n : ℕ). numbers_at w b 0 n ++ drop n t₀) q

-- numbers in a part of a file
pub number_drop : (w p : ℕ) (b : List ℕ) (at : ℕ) → number_at w (drop p b) at ≡ number_at w b (p + at)
unfolding number_at
number_drop zero p b at = refl
number_drop (suc w) p b at =
    let n : p + (at + 1) ≡ p + at + 1 = omega arith in
    let a = get_or-drop p b at 0 in
    let d : number_at w (drop p b) (at + 1) ≡ number_at w b (p + at + 1) = number_drop w p b (at + 1) ∙ ap (number_at w b) n in
    omega (arith, a, d)

numbers_drop : (w p : ℕ) (b : List ℕ) (at k : ℕ) → numbers_at w (drop p b) at k ≡ numbers_at w b (p + at) k
unfolding numbers_at
numbers_drop w p b at zero = refl
numbers_drop w p b at (suc k) = let n : p + (at + w) ≡ p + at + w = omega arith in (λ i. number_drop w p b at i ∷ (numbers_drop w p b (at + w) k ∙ ap (λ (j : ℕ). numbers_at w b j k) n) i)

pub numbers_part : (w p m : ℕ) (b : List ℕ) (k : ℕ) → k * w ≤ m → p + m ≤ length b → numbers_at w (take m (drop p b)) 0 k ≡ numbers_at w b p k
numbers_part w p m b k h l =
    let d = length-drop p b in
    let t = length-take-le m (drop p b) (omega (arith, d)) in
    let z : p + 0 ≡ p = omega arith in
    sym (numbers_front w (take m (drop p b)) (drop m (drop p b)) 0 k (omega (arith, t)))
    ∙ ap (λ (x : List ℕ). numbers_at w x 0 k) (take-append-drop m (drop p b))
    ∙ numbers_drop w p b 0 k
    ∙ ap (λ (j : ℕ). numbers_at w b j k) z

-- what is behind so many bytes of a file
module _ (b : List ℕ) (p : ℕ) {x : List ℕ} (e : x ≡ drop p b) where
  behind_count : number_at 4 x 0 ≡ number_at 4 b p
  behind_count = let z : p + 0 ≡ p = omega arith in ap (λ (y : List ℕ). number_at 4 y 0) e ∙ number_drop 4 p b 0 ∙ ap (number_at 4 b) z

  behind_length : length x ≡ length b - p
  behind_length = ap length e ∙ length-drop p b

-- a section behind its count
pub section_is : (b : List ℕ) (unit : ℕ) {count behind : List ℕ} {n : ℕ} → 4 ≤ length b → count ≡ take 4 b → behind ≡ drop 4 b → n ≡ from_le_bytes w32 count → (r : Option (Bor (List ℕ) × Bor (List ℕ))) → MatchOption r (length behind < n * unit) (λ p. IsSplitAt behind (n * unit) p.0.now p.1.now) → MatchOption r (length b < 4 + number_at 4 b 0 * unit) (λ p. Section b unit p.0.now p.1.now)
section_is b unit {count} {behind} {n} h c e q r m = go r (subst (λ (k : ℕ). MatchOption r (length behind < k * unit) (λ p. IsSplitAt behind (k * unit) p.0.now p.1.now)) number m)
  where
    number : n ≡ number_at 4 b 0
    number = q ∙ ap (from_le_bytes w32) c ∙ count_is b h

    l : length behind ≡ length b - 4
    l = ap length e ∙ length-drop 4 b

    go : (r : Option (Bor (List ℕ) × Bor (List ℕ))) → MatchOption r (length behind < number_at 4 b 0 * unit) (λ p. IsSplitAt behind (number_at 4 b 0 * unit) p.0.now p.1.now) → MatchOption r (length b < 4 + number_at 4 b 0 * unit) (λ p. Section b unit p.0.now p.1.now)
    go None f = omega (arith, f, l, h)
    go (Some p) f = record { inside = let a = f.0 in omega (arith, a, l, h); part_is = f.1 ∙ ap (take (number_at 4 b 0 * unit)) e; behind_is = f.2 ∙ ap (drop (number_at 4 b 0 * unit)) e ∙ drop-drop (number_at 4 b 0 * unit) 4 b }

-- a file's sections, one after the other
module _ (b : List ℕ) where
  module _ {s b₁ : List ℕ} (first : Section b 1 s b₁) where
    abbrev n₁ : ℕ
    n₁ = 4 + source_count b

    at₁ : b₁ ≡ drop n₁ b
    at₁ = first.behind_is ∙ ap (λ (n : ℕ). drop n b) (omega arith)

    c₁ : number_at 4 b₁ 0 ≡ row_count b
    c₁ = behind_count b n₁ at₁

    pub no_rows : length b₁ < 4 + number_at 4 b₁ 0 * 56 → length b ≢ filled b
    no_rows h q = let l = behind_length b n₁ at₁ in let i = first.inside in omega (arith, c₁, l, i, h, q)

    module _ {r b₂ : List ℕ} (second : Section b₁ 56 r b₂) where
      abbrev n₂ : ℕ
      n₂ = n₁ + (4 + row_count b * 56)

      at₂ : b₂ ≡ drop n₂ b
      at₂ = second.behind_is ∙ (λ i. drop (4 + c₁ i * 56) (at₁ i)) ∙ drop-drop (4 + row_count b * 56) n₁ b

      c₂ : number_at 4 b₂ 0 ≡ index_count b
      c₂ = behind_count b n₂ at₂ ∙ ap (number_at 4 b) (omega arith)

      pub no_indexes : length b₂ < 4 + number_at 4 b₂ 0 * 4 → length b ≢ filled b
      no_indexes h q = let l = behind_length b n₂ at₂ in let k = behind_length b n₁ at₁ in let i = second.inside in omega (arith, c₁, c₂, k, l, i, h, q)

      module _ {x b₃ : List ℕ} (third : Section b₂ 4 x b₃) where
        left : length b₃ ≡ length b - filled b
        left =
            let l = ap length third.behind_is ∙ length-drop (4 + number_at 4 b₂ 0 * 4) b₂ in
            let k = behind_length b n₂ at₂ in
            omega (arith, c₂, k, l)

        reaches : filled b ≤ length b
        reaches =
            let k = behind_length b n₂ at₂ in
            let l = behind_length b n₁ at₁ in
            let i = first.inside in
            let j = second.inside in
            let m = third.inside in
            omega (arith, c₁, c₂, k, l, i, j, m)

        pub more_behind : length b₃ ≢ 0 → length b ≢ filled b
        more_behind h q = let l = left in absurd (h (omega (arith, l, q)))

        pub parsed : length b₃ ≡ 0 → Parsed b s r x
        parsed h = record {
          full = let l = left in let k = reaches in omega (arith, l, k, h);
          source_is = first.part_is ∙ ap (λ (n : ℕ). take n (drop 4 b)) (omega arith);
          rows_is = second.part_is ∙ (λ i. take (c₁ i * 56) (drop 4 (at₁ i))) ∙ ap (take (row_count b * 56)) (drop-drop 4 n₁ b);
          indexes_is = third.part_is ∙ (λ i. take (c₂ i * 4) (drop 4 (at₂ i))) ∙ ap (take (index_count b * 4)) (drop-drop 4 n₂ b ∙ ap (λ (n : ℕ). drop n b) (omega arith));
        }

-- the rows of a file that its sections fill, and its indexes
module _ (b : List ℕ) {source rows indexes : List ℕ} (p : Parsed b source rows indexes) where
  pub parsed_rows : rows_in rows ≡ rows_of b (source_count b) (row_count b)
  parsed_rows =
      let f = p.full in
      let d = length-drop (rows_place (source_count b)) b in
      let l : length rows ≡ row_count b * 56 = ap length p.rows_is ∙ length-take-le (row_count b * 56) (drop (rows_place (source_count b)) b) (omega (arith, d, f)) in
      let n : length rows / 56 * 7 ≡ row_count b * 7 = omega (arith, l) in
      ap rows_from ((λ i. numbers_at 8 (p.rows_is i) 0 (n i)) ∙ numbers_part 8 (rows_place (source_count b)) (row_count b * 56) b (row_count b * 7) (omega arith) (omega (arith, f)))

  pub indexes_inside : length indexes ≤ length b
  indexes_inside = let d = length-drop (indexes_place (source_count b) (row_count b)) b in let f = p.full in let l = ap length p.indexes_is ∙ length-take-le (index_count b * 4) (drop (indexes_place (source_count b) (row_count b)) b) (omega (arith, d, f)) in omega (arith, d, l, f)

  pub parsed_indexes : indexes_in indexes ≡ indexes_of b (source_count b) (row_count b) (index_count b)
  parsed_indexes =
      let f = p.full in
      let d = length-drop (indexes_place (source_count b) (row_count b)) b in
      let l : length indexes ≡ index_count b * 4 = ap length p.indexes_is ∙ length-take-le (index_count b * 4) (drop (indexes_place (source_count b) (row_count b)) b) (omega (arith, d, f)) in
      let n : length indexes / 4 ≡ index_count b = omega (arith, l) in
      (λ i. numbers_at 4 (p.indexes_is i) 0 (n i)) ∙ numbers_part 4 (indexes_place (source_count b) (row_count b)) (index_count b * 4) b (index_count b) (omega arith) (omega (arith, f))

-- whether an index is there and names a row
module _ (i indexes x row : ℕ) where
  pub named_there : i < indexes → eqb x row ≡ (ltb i indexes && eqb x row)
  named_there h = ap (λ (b : Bool). b && eqb x row) (sym (lt-ltb i indexes h))

  pub named_not : indexes ≤ i → ltb i indexes ≡ (ltb i indexes && eqb x row)
  named_not h = le-ltb i indexes h ∙ ap (λ (b : Bool). b && eqb x row) (sym (le-ltb i indexes h))
