-- A tree without faults: what each row of it is, and that the machine runs it.
use Rattle.std.specs.Prelude.{Option, Some, None, option_map}
use mathlib.Core.Path.{◌≡◌, refl, sym, subst}
use mathlib.Core.List.{List, [], ◌∷◌, ◌++◌}
use mathlib.Core.Bool.{Bool, true, false, ◌&&◌, ◌||◌, cond}
use mathlib.Core.Logic.{◌⊎◌, inl, inr}
use Prim.Native.Nat.{ℕ, ◌<◌, ◌≤◌}
use native.Mathlib.Omega.{arith}
use lib.Dec.{eqb, leb}
use borrow.Author.Tests.{eqb-true}
use Rattle.std.specs.Option.{option_or}
use Rattle.chars.specs.declared.Answer.{Answer}
use Rattle.rows.specs.Kinds as kinds
use Rattle.grammar.specs.Rows.{Row}
use Rattle.numbers.proofs.Choices.{and_left, and_right}
use Rattle.constants.specs.Trees.{Forest, none, tree, trees, Grown, grown_tree}
use Rattle.constants.specs.Types.{I64, F64, TRUTH, under, fine, integer_fault, float_number, float_fault, operator_fault, fault_number}
use Rattle.constants.specs.Lists.{codes, fault_of, first_of}
use Rattle.constants.proofs.Compiled.{Formed, leaf, sole, pair}

either : {A B C : Type 0} → A ⊎ B → (A → C) → (B → C) → C
either (inl a) f g = f a
either (inr b) f g = g b

choose : (b : Bool) (x y : Option ℕ) → cond b x y ≡ None → ((b ≡ true) × (x ≡ None)) ⊎ (y ≡ None)
choose true x y e = inl (refl, e)
choose false x y e = inr e

pub some_none : {A : Type 0} {x : A} → Some x ≡ None → ⊥
some_none e = let z : ◌≡◌ {A = ℕ} 0 1 = cc in omega arith

mapped_none : {A B : Type 0} (f : A → B) (x : Option A) → option_map f x ≡ None → x ≡ None
mapped_none f None e = refl
mapped_none f (Some a) e = absurd (some_none e)

-- What a row without a fault is, where the type w is wanted of it.
pub data Taken (s : List ℕ) (w start end value detail : ℕ) : ℕ → ℕ → Type 0 where
  an_integer : integer_fault w value detail ≡ None → Taken s w start end value detail kinds.INTEGER 0
  a_float : float_fault (float_number s start end) w detail ≡ None → Taken s w start end value detail kinds.FLOAT 0
  a_bool : fine (eqb w TRUTH) ≡ None → Taken s w start end value detail kinds.BOOL 0
  an_operator : operator_fault w detail ≡ None → Taken s w start end value detail kinds.BINARY 2
  a_not : fine (eqb w TRUTH) ≡ None → Taken s w start end value detail kinds.NOT 1
  a_minus : fine (leb w I64 || eqb w F64) ≡ None → Taken s w start end value detail kinds.NEGATE 1

module _ (s : List ℕ) (w start end value detail : ℕ) where
  these : {kind children k n : ℕ} → (eqb kind k && eqb children n) ≡ true → Taken s w start end value detail k n → Taken s w start end value detail kind children
  these {kind} {children} {k} {n} h x =
      subst (λ (a : ℕ). Taken s w start end value detail a children) (sym (eqb-true kind k (and_left (eqb kind k) (eqb children n) h)))
      (subst (Taken s w start end value detail k) (sym (eqb-true children n (and_right (eqb kind k) (eqb children n) h))) x)

  pub taken : (kind children : ℕ) → fault_number s w kind start end children value detail ≡ None → Taken s w start end value detail kind children
  unfolding fault_number
  taken kind children e =
      either (choose _ _ _ e) (λ h. these h.0 (an_integer h.1)) λ e.
      either (choose _ _ _ e) (λ h. these h.0 (a_float h.1)) λ e.
      either (choose _ _ _ e) (λ h. these h.0 (a_bool h.1)) λ e.
      either (choose _ _ _ e) (λ h. these h.0 (an_operator h.1)) λ e.
      either (choose _ _ _ e) (λ h. these h.0 (a_not h.1)) λ e.
      either (choose _ _ _ e) (λ h. these h.0 (a_minus h.1)) λ e. absurd (some_none e)

-- ---- no fault in the whole tree

pub data Fine (s : List ℕ) : ℕ → Forest → Type 0 where
  fine_none : {w : ℕ} → Fine s w none
  fine_tree : {w : ℕ} {r : Row} {kids ts : Forest} → fault_of s w r ≡ None → Fine s (under w r) kids → Fine s w ts → Fine s w (tree r kids ts)

head_none : (x : Option Answer) (xs : List (Option Answer)) → first_of (x ∷ xs) ≡ None → (x ≡ None) × (first_of xs ≡ None)
unfolding first_of
head_none None xs e = (refl, e)
head_none (Some a) xs e = absurd (some_none e)

first_none : (xs ys : List (Option Answer)) → first_of (xs ++ ys) ≡ None → (first_of xs ≡ None) × (first_of ys ≡ None)
unfolding first_of
first_none [] ys e = (refl, e)
first_none (x ∷ xs) ys e =
    let h = head_none x (xs ++ ys) e in
    let k = first_none xs ys h.1 in
    ((λ i. option_or (h.0 i) (k.0 i)), k.1)

pub all_fine : (s : List ℕ) (w : ℕ) (f : Forest) → first_of (codes (fault_of s) w f) ≡ None → Fine s w f
unfolding codes
all_fine s w none e = fine_none
all_fine s w (tree r kids ts) e =
    let a = first_none (codes (fault_of s) (under w r) kids) (fault_of s w r ∷ codes (fault_of s) w ts) e in
    let b = head_none (fault_of s w r) (codes (fault_of s) w ts) a.1 in
    fine_tree b.0 (all_fine s (under w r) kids a.0) (all_fine s w ts b.1)

-- ---- so each row has as many operands as its kind takes

pub taken_row : (s : List ℕ) (w : ℕ) (r : Row) → fault_of s w r ≡ None → Taken s w r.start r.end r.value r.detail r.kind r.children
unfolding fault_of
taken_row s w r e = taken s w r.start r.end r.value r.detail r.kind r.children (mapped_none _ _ e)

no_operand : {s : List ℕ} {w start end value detail kind children : ℕ} → Taken s w start end value detail kind children → children ≡ 0 → kind < 20
no_operand (an_integer h) e = omega arith
no_operand (a_float h) e = omega arith
no_operand (a_bool h) e = omega arith
no_operand (an_operator h) e = absurd (omega (arith, e))
no_operand (a_not h) e = absurd (omega (arith, e))
no_operand (a_minus h) e = absurd (omega (arith, e))

one_operand : {s : List ℕ} {w start end value detail kind children : ℕ} → Taken s w start end value detail kind children → children ≡ 1 → 20 < kind
one_operand (an_integer h) e = absurd (omega (arith, e))
one_operand (a_float h) e = absurd (omega (arith, e))
one_operand (a_bool h) e = absurd (omega (arith, e))
one_operand (an_operator h) e = absurd (omega (arith, e))
one_operand (a_not h) e = omega arith
one_operand (a_minus h) e = omega arith

two_operands : {s : List ℕ} {w start end value detail kind children : ℕ} → Taken s w start end value detail kind children → children ≡ 2 → kind ≡ 20
two_operands (an_integer h) e = absurd (omega (arith, e))
two_operands (a_float h) e = absurd (omega (arith, e))
two_operands (a_bool h) e = absurd (omega (arith, e))
two_operands (an_operator h) e = refl
two_operands (a_not h) e = absurd (omega (arith, e))
two_operands (a_minus h) e = absurd (omega (arith, e))

pub few_operands : {s : List ℕ} {w start end value detail kind children : ℕ} → Taken s w start end value detail kind children → children ≤ 2
few_operands (an_integer h) = omega arith
few_operands (a_float h) = omega arith
few_operands (a_bool h) = omega arith
few_operands (an_operator h) = omega arith
few_operands (a_not h) = omega arith
few_operands (a_minus h) = omega arith

pub formed : (s : List ℕ) (w : ℕ) (r : Row) (kids : Forest) → r.children ≡ trees kids → Grown kids → fault_of s w r ≡ None → Fine s (under w r) kids → Formed r kids
unfolding trees
formed s w r none c g e f = leaf (no_operand (taken_row s w r e) c)
formed s w r (tree a ka none) c (grown_tree ca za ga gt) e (fine_tree ea fa ft) = sole (one_operand (taken_row s w r e) c) (formed s (under w r) a ka ca ga ea fa)
formed s w r (tree a ka (tree b kb none)) c (grown_tree ca za ga (grown_tree cb zb gb gt)) e (fine_tree ea fa (fine_tree eb fb ft)) =
    pair (two_operands (taken_row s w r e) c) (formed s (under w r) a ka ca ga ea fa) (formed s (under w r) b kb cb gb eb fb)
formed s w r (tree a ka (tree b kb (tree d kd ts))) c g e f = let h = few_operands (taken_row s w r e) in absurd (omega (arith, h, c))
