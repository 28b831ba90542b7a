-- Factors joined by the signs of all levels from one on: the loop stands in the chain of a level, and goes down to a looser one
-- where that level's sign stands.
use Rattle.std.specs.Prelude.{Ok, Err}
use mathlib.Core.Path.{◌≡◌, refl, sym, ap, subst, ◌∙◌}
use mathlib.Core.List.{List}
use mathlib.Core.Bool.{Bool, true, false, ◌||◌, cond}
use mathlib.Core.Logic.{◌⊎◌, inl, inr, ◌≢◌}
use Prim.Native.Nat.{ℕ, zero, suc, ◌+◌, ◌-◌, ◌≤◌, ◌<◌}
use lib.Dec.{T, eqb, ltb, eqb→eq, ltb→lt, lt→ltb}
use native.Mathlib.Decide.{dec_le}
use native.Mathlib.Omega.{arith}
use native.Mathlib.Nat.{add-zero}
use Rattle.rows.specs.Kinds as kinds
use Rattle.tokens.specs.declared.Refusal.{Refusal}
use Rattle.grammar.specs.Grammar.{plain, one_of}
use Rattle.grammar.specs.Limits.{Counts, after}
use Rattle.grammar.specs.Kinds.{OPERAND}
use Rattle.parser.specs.declared.Here.{Here}
use Rattle.parser.specs.declared.Limits.{Limits}
use Rattle.parser.specs.declared.Node.{Node}
use Rattle.parser.specs.Results.{Read}
use Rattle.parser.specs.Places.{word_of, next_of, passed, later, node_of, put_over}
use Rattle.parser.specs.Counted.{counts, plain as plainly}
use Rattle.parser.specs.Going.{Stands, Answers}
use Rattle.grammar.proofs.Bools.{or_l, or_r, or_cases}
use Rattle.parser.proofs.Standing.{never_untaken}
use Rattle.parser.proofs.Steps.{counts_plain}
use Rattle.promises.specs.Firsts.{level_of, detail_row, joined_read, joined_table, looser_than}
use Rattle.promises.specs.Promises.{the, LEVEL}
use Rattle.promises.proofs.Answered.{not_both}
use Rattle.promises.proofs.Exprs.{MORE, signs_of, level_of_lem, on_level, Joins, binop_refused, binop_begins, binop_ends, binop_behind, binop_fails, binop_compared, binop_less, binop_joined}

module _ (s : List ℕ) (b : Bool) (p : Limits) (d : Counts) (i : Here) (t₀ : List ℕ) (g : Stands s i) (q : after plain d ≡ counts p) where
  -- in the chain of level k
  abbrev Chain : ℕ → Node → Here → List ℕ → Type 0
  Chain k m h t = Joins (the s d (LEVEL k b) i t₀) p (MORE k b) m h t

  -- down to level k, where no sign of the levels between stands
  down : (n k : ℕ) {m : Node} {h : Here} {t : List ℕ} → 1 ≤ k → k + n ≤ 5 → ((x : ℕ) → k < x → x ≤ k + n → level_of (word_of h) ≢ x) → Chain (k + n) m h t → Chain k m h t
  down zero k {m} {h} {t} lo hi w j = subst (λ (x : ℕ). Chain x m h t) (add-zero k) j
  down (suc n) k {m} {h} {t} lo hi w j =
      let x : ℕ = k + n in
      let e : k + suc n ≡ x + 1 = omega arith in
      let j₁ : Chain (x + 1) m h t = subst (λ (y : ℕ). Chain y m h t) e j in
      let ended = binop_ends s b (x + 1) (level_of_lem (x + 1) b (omega arith) (omega (arith, hi))) j₁ (w (x + 1) (omega arith) (omega arith)) refl in
      down n k lo (omega (arith, hi)) (λ y u v. w y u (omega (arith, v))) (binop_begins s b x (level_of_lem x b (omega (arith, lo)) (omega (arith, hi))) g ended p refl q)

  pub lowered : (j k : ℕ) {m : Node} {h : Here} {t : List ℕ} → 1 ≤ k → k ≤ j → j ≤ 5 → ((x : ℕ) → k < x → x ≤ j → level_of (word_of h) ≢ x) → Chain j m h t → Chain k m h t
  lowered j k {m} {h} {t} lo le hi w c =
      let n : ℕ = j - k in
      let e : j ≡ k + n = omega (arith, le) in
      down n k lo (omega (arith, hi, le)) (λ x u v. w x u (omega (arith, v, le))) (subst (λ (x : ℕ). Chain x m h t) e c)

  -- a refusal at a level is one of each looser level
  up : (n k : ℕ) {r : Read} {t : List ℕ} {e : Refusal} → 1 ≤ k → k + n ≤ 6 → Answers (the s d (LEVEL (k + n) b) i t₀) 1 r t → r ≡ Err e → Answers (the s d (LEVEL k b) i t₀) 1 r t
  up zero k {r} {t} lo hi u e = subst (λ (x : ℕ). Answers (the s d (LEVEL x b) i t₀) 1 r t) (add-zero k) u
  up (suc n) k {r} {t} lo hi u e =
      let x : ℕ = k + n in
      let y : k + suc n ≡ x + 1 = omega arith in
      up n k lo (omega (arith, hi)) (binop_refused s b x (level_of_lem x b (omega (arith, lo)) (omega (arith, hi))) g (subst (λ (z : ℕ). Answers (the s d (LEVEL z b) i t₀) 1 r t) y u) e) e

  pub refused_down : (j k : ℕ) {r : Read} {t : List ℕ} {e : Refusal} → 1 ≤ k → k ≤ j → j ≤ 6 → Answers (the s d (LEVEL j b) i t₀) 1 r t → r ≡ Err e → Answers (the s d (LEVEL k b) i t₀) 1 r t
  refused_down j k {r} {t} lo le hi u e =
      let n : ℕ = j - k in
      let y : j ≡ k + n = omega (arith, le) in
      up n k lo (omega (arith, hi, le)) (subst (λ (x : ℕ). Answers (the s d (LEVEL x b) i t₀) 1 r t) y u) e

-- what the tests of the loop tell
pub level_below : {n x k : ℕ} → n ≡ x → n < k → x < k
level_below e h = omega (arith, e, h)

pub level_ends : {n x k j : ℕ} → n ≡ x → (ltb n k || ltb j n) ≡ true → (x < k) ⊎ (j < x)
level_ends {n} {x} {k} {j} e t = elim (or_cases (ltb n k) (ltb j n) (subst T (sym t) tt)) [
  | inl h ↦ inl (let y = ltb→lt n k h in omega (arith, e, y))
  | inr h ↦ inr (let y = ltb→lt j n h in omega (arith, e, y))
]

pub level_from : {n k j : ℕ} → (ltb n k || ltb j n) ≡ false → (k ≤ n) × (n ≤ j)
level_from {n} {k} {j} t = (at_least n k (λ h. none (or_l (ltb n k) (ltb j n) h)), at_least j n (λ h. none (or_r (ltb n k) (ltb j n) h)))
  where
    none : T (ltb n k || ltb j n) → ⊥
    none h = subst T t h

    at_least : (x y : ℕ) → (T (ltb x y) → ⊥) → y ≤ x
    at_least x y h = elim (dec_le y x) [ yes z ↦ z | no z ↦ absurd (h (lt→ltb x y (omega (arith, z)))) ]

-- The loop has come to the chain of level k, or past the level that was asked for.
pub record Reached (s : List ℕ) (b : Bool) (p : Limits) (level : ℕ) (d : Counts) (i : Here) (t₀ : List ℕ) (k : ℕ) (m : Node) (h : Here) (t : List ℕ) : Type 0 where
  pub most : k ≤ 5
  pub chain : level ≤ k → Joins (the s d (LEVEL k b) i t₀) p (MORE k b) m h t
  pub past : k < level → Answers (the s d (LEVEL level b) i t₀) 1 (Ok (m, h)) t

module _ (s : List ℕ) (b : Bool) (p : Limits) (level : ℕ) (lo : 1 ≤ level) (hi : level ≤ 5) {d : Counts} {i : Here} {t₀ : List ℕ} (g : Stands s i) (q : after plain d ≡ counts p) {k : ℕ} {m : Node} {h : Here} {t : List ℕ} (c : Reached s b p level d i t₀ k m h t) where
  -- no sign of a level from the one asked for to k stands there
  pub levels_end : {r : Read} → (level_of (word_of h) < level) ⊎ (k < level_of (word_of h)) → r ≡ Ok (m, h) → Answers (the s d (LEVEL level b) i t₀) 1 r t
  levels_end {r} w e = elim (dec_le level k) [
    | yes x ↦ binop_ends s b level (level_of_lem level b lo hi) (lowered s b p d i t₀ g q k level lo x c.most (λ y u z. elsewhere y (omega (arith, u)) z w) (c.chain x)) (elsewhere level (omega arith) x w) e
    | no x ↦ subst (λ (y : Read). Answers (the s d (LEVEL level b) i t₀) 1 y t) (sym e) (c.past (omega (arith, x)))
  ]
    where
      elsewhere : (y : ℕ) → level ≤ y → y ≤ k → (level_of (word_of h) < level) ⊎ (k < level_of (word_of h)) → level_of (word_of h) ≢ y
      elsewhere y a z (inl w) f = omega (arith, w, a, f)
      elsewhere y a z (inr w) f = omega (arith, w, z, f)

  pub levels_untaken : {A : Type 0} {n : ℕ} {f : Refusal} → n ≡ level_of (word_of h) → level ≤ n → n ≤ k → h.step ≡ Err f → A
  levels_untaken {n = n} w a z e = let x = c.most in let u = level_of_lem n b (omega (arith, lo, a)) (omega (arith, x, z)) in never_untaken (signs_of n) u.words (on_level (word_of h) n (omega (arith, lo, a)) (sym w)) e

  -- a sign of level n stands there
  module _ {n : ℕ} (w : n ≡ level_of (word_of h)) (a : level ≤ n) (z : n ≤ k) {h' : Here} (o : h' ≡ passed s h) where
    pub levels_few : (1 ≤ n) × (n ≤ 5)
    levels_few = (omega (arith, lo, a), let x = c.most in omega (arith, x, z))

    there : Joins (the s d (LEVEL n b) i t₀) p (MORE n b) m h t
    there = lowered s b p d i t₀ g q k n levels_few.0 z c.most (λ x y u f. omega (arith, w, y, f)) (c.chain (omega (arith, a, z)))

    sign : T (one_of (word_of h) (signs_of n))
    sign = on_level (word_of h) n levels_few.0 (sym w)

    pub levels_behind : Stands s h' × (next_of i < next_of h') × (next_of i < 65537)
    levels_behind = binop_behind s b n (level_of_lem n b levels_few.0 levels_few.1) there sign o

    -- what is joined with what stands behind it
    module _ {r : Read} {t₂ : List ℕ} (u : Answers (the s (counts p) (LEVEL (n + 1) b) h' t) 1 r t₂) {x : ℕ} (y : x ≡ word_of h) {r₁ : Read} {t₃ : List ℕ} (ρ : r₁ ≡ joined_read m x r) (τ : t₃ ≡ joined_table m x i.rows r t₂) where
      pub levels_fails : {e : Refusal} → r₁ ≡ Err e → Answers (the s d (LEVEL level b) i t₀) 1 r₁ t₃
      unfolding joined_read joined_table
      levels_fails {e} f = go r refl
        where
          go : (v : Read) → r ≡ v → Answers (the s d (LEVEL level b) i t₀) 1 r₁ t₃
          go (Ok (x', z')) j = not_both (ρ ∙ ap (joined_read m x) j) f
          go (Err x') j =
              let k₁ : r₁ ≡ r = ρ ∙ ap (joined_read m x) j ∙ sym j in
              let k₂ : t₃ ≡ t₂ = τ ∙ ap (λ (v : Read). joined_table m x i.rows v t₂) j in
              subst (λ (v : Read). Answers (the s d (LEVEL level b) i t₀) 1 v t₃) (sym k₁) (subst (λ (v : List ℕ). Answers (the s d (LEVEL level b) i t₀) 1 r v) (sym k₂) (refused_down s b p d i t₀ g q n level lo a (let v = levels_few.1 in omega (arith, v)) (binop_fails s b n (level_of_lem n b levels_few.0 levels_few.1) there sign o u j) j))

      module _ {x' : Node} {z' : Here} (f : r₁ ≡ Ok (x', z')) where
        -- the right side was read
        pub record Right : Type 0 where
          pub node : Node
          pub behind : Here
          pub read : r ≡ Ok (node, behind)
          pub row : r₁ ≡ Ok (node_of (detail_row kinds.BINARY m node (word_of h)), later behind)
          pub stored : t₃ ≡ put_over t₂ behind (detail_row kinds.BINARY m node (word_of h)) i.rows

        right : Right
        unfolding joined_read joined_table
        right = go r refl
          where
            go : (v : Read) → r ≡ v → Right
            go (Ok (m₁, h₁)) j = record { node = m₁; behind = h₁; read = j; row = ρ ∙ ap (joined_read m x) j ∙ ap (λ (v : ℕ). Ok (node_of (detail_row kinds.BINARY m m₁ v), later h₁)) y; stored = τ ∙ ap (λ (v : Read). joined_table m x i.rows v t₂) j ∙ ap (λ (v : ℕ). put_over t₂ h₁ (detail_row kinds.BINARY m m₁ v) i.rows) y }
            go (Err e) j = not_both f (ρ ∙ ap (joined_read m x) j)

        pub levels_less : (next_of h < next_of z') × (next_of h < 65537)
        levels_less = binop_less s b n (level_of_lem n b levels_few.0 levels_few.1) there sign o u right.read right.row right.stored f

        pub levels_again : Reached s b p level d i t₀ (looser_than n) x' z' t₃
        levels_again = go (eqb n 3) refl
          where
            compared : n ≡ 3 → Answers (the s d (LEVEL n b) i t₀) 1 r₁ t₃
            compared e = binop_compared s b n (level_of_lem n b levels_few.0 levels_few.1) there sign o u right.read right.row right.stored e refl

            go : (v : Bool) → eqb n 3 ≡ v → Reached s b p level d i t₀ (cond v 2 n) x' z' t₃
            go true e =
                let i₃ = eqb→eq n 3 (subst T (sym e) tt) in
                record {
                  most = omega arith;
                  chain = λ v. binop_begins s b 2 (level_of_lem 2 b (omega arith) (omega arith)) g (subst (λ (j : ℕ). Answers (the s d (LEVEL j b) i t₀) 1 r₁ t₃) i₃ (compared i₃)) p f q;
                  past = λ v. subst (λ (j : Read). Answers (the s d (LEVEL level b) i t₀) 1 j t₃) f (subst (λ (j : ℕ). Answers (the s d (LEVEL j b) i t₀) 1 r₁ t₃) (let l : n ≡ level = omega (arith, v, a, i₃) in l) (compared i₃));
                }
            go false e = record {
              most = levels_few.1;
              chain = λ v. binop_joined s b n (level_of_lem n b levels_few.0 levels_few.1) there sign o u right.read right.row right.stored (λ j. subst T (ap (λ (l : ℕ). eqb l 3) j ∙ sym (ap (λ (l : ℕ). eqb l 3) j) ∙ e) (subst (λ (l : ℕ). T (eqb l 3)) (sym j) tt)) f;
              past = λ v. absurd (omega (arith, v, a));
            }

-- from where the loop began, behind the first factor
pub record Chained (s : List ℕ) (b : Bool) (p : Limits) (level since : ℕ) (m₀ : Node) (h₀ : Here) (t₀ : List ℕ) (k : ℕ) (m : Node) (h : Here) (t : List ℕ) : Type 0 where
  pub reached : (d : Counts) (i : Here) (t' : List ℕ) → Stands s i → i.rows ≡ since → after plain d ≡ counts p → Joins (the s d (LEVEL 5 b) i t') p (MORE 5 b) m₀ h₀ t₀ → Reached s b p level d i t' k m h t

pub chained_begins : {s : List ℕ} {b : Bool} {p : Limits} (level : ℕ) {since : ℕ} {m : Node} {h : Here} {t : List ℕ} → level ≤ 5 → Chained s b p level since m h t 5 m h t
chained_begins level hi = record { reached = λ d i t' g w q j. record { most = omega arith; chain = λ x. j; past = λ x. absurd (omega (arith, x, hi)) } }

pub chained_again : (s : List ℕ) (b : Bool) (p : Limits) (level : ℕ) → 1 ≤ level → level ≤ 5 → {since : ℕ} {m₀ : Node} {h₀ : Here} {t₀ : List ℕ} {k : ℕ} {m : Node} {h : Here} {t : List ℕ} → Chained s b p level since m₀ h₀ t₀ k m h t → {n : ℕ} → n ≡ level_of (word_of h) → level ≤ n → n ≤ k → {h' : Here} → h' ≡ passed s h → {r : Read} {t₂ : List ℕ} → Answers (the s (counts p) (LEVEL (n + 1) b) h' t) 1 r t₂ → {x : ℕ} → x ≡ word_of h → {r₁ : Read} {t₃ : List ℕ} → r₁ ≡ joined_read m x r → t₃ ≡ joined_table m x since r t₂ → {x' : Node} {z' : Here} → r₁ ≡ Ok (x', z') → {j : ℕ} → j ≡ looser_than n → Chained s b p level since m₀ h₀ t₀ j x' z' t₃
chained_again s b p level lo hi {since} {m₀} {h₀} {t₀} {m = m} c w a z o {r = r} {t₂ = t₂} u {x = x} y {t₃ = t₃} ρ τ {x'} {z'} f {j} e = subst (λ (v : ℕ). Chained s b p level since m₀ h₀ t₀ v x' z' t₃) (sym e) (record { reached = λ d i t' g j q v. levels_again s b p level lo hi g q (c.reached d i t' g j q v) w a z o u y ρ (τ ∙ ap (λ (n : ℕ). joined_table m x n r t₂) (sym j)) f })

-- the phrase that is read, from its first factor on
module _ (s : List ℕ) (b : Bool) (l p : Limits) (level : ℕ) (lo : 1 ≤ level) (hi : level ≤ 5) (i : Here) (t₀ : List ℕ) (g : Stands s i) (v : p ≡ plainly l) {r₀ : Read} {t : List ℕ} (u₀ : Answers (the s (counts l) (OPERAND b) i t₀) 1 r₀ t) where
  pub behind_level : after plain (counts l) ≡ counts p
  behind_level = counts_plain l ∙ ap counts (sym v)

  pub levels_refused : {e : Refusal} → r₀ ≡ Err e → Answers (the s (counts l) (LEVEL level b) i t₀) 1 r₀ t
  levels_refused e = refused_down s b p (counts l) i t₀ g behind_level 6 level lo (omega (arith, hi)) (omega arith) u₀ e

  module _ {m₀ : Node} {h₀ : Here} (e₀ : r₀ ≡ Ok (m₀, h₀)) where
    start : Joins (the s (counts l) (LEVEL 5 b) i t₀) p (MORE 5 b) m₀ h₀ t
    start = binop_begins s b 5 (level_of_lem 5 b (omega arith) (omega arith)) g u₀ p e₀ behind_level

    pub levels_alone : {r : Read} → level_of (word_of h₀) < level → r ≡ Ok (m₀, h₀) → Answers (the s (counts l) (LEVEL level b) i t₀) 1 r t
    levels_alone w e = binop_ends s b level (level_of_lem level b lo hi) (lowered s b p (counts l) i t₀ g behind_level 5 level lo hi (omega arith) (λ x y z f. omega (arith, w, y, f)) start) (λ f. omega (arith, w, f)) e

    pub levels_now : {k : ℕ} {m : Node} {h : Here} {t₁ : List ℕ} → Chained s b p level i.rows m₀ h₀ t k m h t₁ → Reached s b p level (counts l) i t₀ k m h t₁
    levels_now c = c.reached (counts l) i t₀ g refl behind_level start
