-- The finished list, and what running it answers.
use Rattle.std.specs.Prelude.{Result, Option, Some, None, Ok, Err}
use mathlib.Core.Path.{◌≡◌, refl, sym, ap, ◌∙◌, subst}
use mathlib.Core.Bool.{cond, ◌||◌}
use mathlib.Core.List.{List, [], ◌∷◌, ◌++◌}
use Prim.Native.Nat.{ℕ, zero, suc, ◌+◌, ◌*◌, ◌-◌, ◌/◌, ◌<◌, ◌≤◌}
use native.Mathlib.Omega.{arith}
use lib.ListN.{length, get_or, replicate}
use borrow.Author.Tests.{lt-ltb, le-ltb}
use Rattle.chars.specs.declared.Answer.{Answer}
use Rattle.rows.specs.Rows.{zeroed}
use Rattle.grammar.specs.Rows.{Row}
use Rattle.entry.proofs.Stored.{zeroed_all}
use Rattle.machine.specs.declared.Stop.{Stop}
use Rattle.machine.specs.declared.Value.{Value}
use Rattle.machine.specs.declared.Instruction.{Instruction}
use Rattle.machine.specs.Machine.{instrs, exec, ran_of, wide}
use Rattle.numbers.proofs.Choices.{first, second}
use Rattle.constants.specs.Trees.{row_at}
use Rattle.constants.specs.Types.{declared_of}
use Rattle.constants.specs.Lists.{flat_list}
use Rattle.constants.specs.Answers.{Constant, refusal}
use Rattle.constants.specs.Steps.{fault_at, codes_at, ran_to, run_at, checked_at, typed_at, declared_at, sized_at, worked_at, WroteAt}

module _ (a b c d e : ℕ) (l : List ℕ) where
  five : (j k : ℕ) → j ≡ suc (suc (suc (suc (suc k)))) → get_or (a ∷ b ∷ c ∷ d ∷ e ∷ l) j 0 ≡ get_or l k 0
  five j k h = ap (λ (x : ℕ). get_or (a ∷ b ∷ c ∷ d ∷ e ∷ l) x 0) h

  shifted : (i n : ℕ) → instrs (a ∷ b ∷ c ∷ d ∷ e ∷ l) (suc i) n ≡ instrs l i n
  unfolding instrs
  shifted i zero = refl
  shifted i (suc n) =
      (λ q. record {
        kind = five (suc i * 5) (i * 5) (omega arith) q;
        ty = five (suc i * 5 + 1) (i * 5 + 1) (omega arith) q;
        value = five (suc i * 5 + 2) (i * 5 + 2) (omega arith) q;
        start = five (suc i * 5 + 3) (i * 5 + 3) (omega arith) q;
        end = five (suc i * 5 + 4) (i * 5 + 4) (omega arith) q;
      } ∷ shifted (suc i) n q)

-- zeros behind n instructions
pub finished : (l : List ℕ) (n : ℕ) → n * wide ≤ length l → zeroed l (n * wide) ≡ flat_list (instrs l 0 n) ++ replicate (length l - wide * n) 0
unfolding zeroed instrs flat_list
finished l zero h = zeroed_all l ∙ ap (λ (k : ℕ). replicate k 0) {x = length l} {y = length l - 5 * 0} (omega arith)
finished [] (suc n) h = absurd (omega (arith, h))
finished (a ∷ []) (suc n) h = absurd (omega (arith, h))
finished (a ∷ b ∷ []) (suc n) h = absurd (omega (arith, h))
finished (a ∷ b ∷ c ∷ []) (suc n) h = absurd (omega (arith, h))
finished (a ∷ b ∷ c ∷ d ∷ []) (suc n) h = absurd (omega (arith, h))
finished (a ∷ b ∷ c ∷ d ∷ e ∷ l) (suc n) h =
    ap (zeroed (a ∷ b ∷ c ∷ d ∷ e ∷ l)) {x = suc n * 5} {y = suc (suc (suc (suc (suc (n * 5)))))} (omega arith)
    ∙ ap (λ (z : List ℕ). a ∷ b ∷ c ∷ d ∷ e ∷ z) (finished l n (omega (arith, h)))
    ∙ (λ q. a ∷ b ∷ c ∷ d ∷ e ∷ (flat_list (sym (shifted a b c d e l 0 n) q) ++ replicate (ap (λ (k : ℕ). k) {x = length l - 5 * n} {y = suc (suc (suc (suc (suc (length l))))) - 5 * suc n} (omega arith) q) 0))

pub zeroed_length : (l : List ℕ) (n : ℕ) → length (zeroed l n) ≡ length l
unfolding zeroed
zeroed_length [] n = refl
zeroed_length (x ∷ l) zero = ap suc (zeroed_length l zero)
zeroed_length (x ∷ l) (suc n) = ap suc (zeroed_length l n)

-- ---- the list, run

module _ (s : List ℕ) (t : List ℕ) (start n w : ℕ) (l0 : List ℕ) where
  pub too_many : length l0 / wide < n → Err (record { number = 10; start = 0; end = 0; count = n }) ≡ run_at s (length l0 / wide) t start n w
  unfolding run_at
  too_many h = first _ (lt-ltb (length l0 / wide) n h) refl

  module _ (fit : n ≤ length l0 / wide) (small : n ≤ 1024) (l : List ℕ) (long : length l ≡ length l0) (code : instrs l 0 n ≡ codes_at s t start n w) (r : Result Value Stop) (said : r ≡ ran_of l n) where
    run_is : r ≡ exec (codes_at s t start n w) []
    unfolding ran_of
    run_is =
        said
        ∙ (λ q. cond (le-ltb 1024 n small q || le-ltb (length l / wide) n (subst (λ (k : ℕ). n ≤ k / wide) (sym long) fit) q) (Err Stop.Broken) (exec (instrs l 0 n) []))
        ∙ ap (λ (xs : List Instruction). exec xs []) code

    pub ran_to_lem : {x : Result Value Stop} → r ≡ x → ran_to w n x ≡ run_at s (length l0 / wide) t start n w
    unfolding run_at
    ran_to_lem e = second _ (le-ltb (length l0 / wide) n fit) (ap (ran_to w n) (sym e ∙ run_is))

    pub wrote : (v : Value) {l' : List ℕ} → l' ≡ zeroed l (n * wide) → (length l' ≡ length l0) × WroteAt s t (start + n) l' (Ok (record { value = v; ty = w; count = n }))
    unfolding WroteAt
    wrote v {l'} e = (k, e ∙ finished l n (omega (arith, fit, long)) ∙ (λ q. flat_list (go q) ++ replicate (sym (k ∙ sym long) q - wide * n) 0))
      where
        k : length l' ≡ length l0
        k = ap length e ∙ zeroed_length l (n * wide) ∙ long

        go : instrs l 0 n ≡ codes_at s t ((start + n) - n) n w
        go = code ∙ ap (λ (i : ℕ). codes_at s t i n w) {x = start} {y = (start + n) - n} (omega arith)

-- ---- the constant of a row, by its expression's row and its type's

module _ (s : List ℕ) (room : ℕ) (t : List ℕ) (i : ℕ) (e : Row) (E : e ≡ row_at t (i - 1)) where
  pub too_large : 1024 < e.size → refusal 15 e.start e.end ≡ worked_at s room t i
  unfolding worked_at sized_at
  too_large h = first _ (lt-ltb 1024 e.size h) refl ∙ ap (sized_at s room t i) E

  module _ (few : e.size ≤ 1024) (y : Row) (Y : y ≡ row_at t (i - e.size - 1)) (d : Option ℕ) (D : d ≡ declared_of s y.kind y.start y.end) where
    within : {c : Constant} → c ≡ typed_at s room t (i - e.size) e.size y d → c ≡ worked_at s room t i
    unfolding worked_at sized_at declared_at
    within h =
        second _ (le-ltb 1024 e.size few)
        (h ∙ (λ q. typed_at s room t (i - e.size) e.size (Y q) ((D ∙ ap (λ (r : Row). declared_of s r.kind r.start r.end) Y) q)))
        ∙ ap (sized_at s room t i) E

    pub other_type : d ≡ None → refusal 15 y.start y.end ≡ worked_at s room t i
    unfolding typed_at
    other_type h = within (ap (typed_at s room t (i - e.size) e.size y) (sym h))

    module _ (w : ℕ) (h : d ≡ Some w) (f : Option Answer) (at : f ≡ fault_at s t (i - e.size) e.size w) where
      checks : {c : Constant} → c ≡ checked_at s room t (i - e.size) e.size w f → c ≡ worked_at s room t i
      unfolding typed_at
      checks g = within (g ∙ ap (checked_at s room t (i - e.size) e.size w) at ∙ ap (typed_at s room t (i - e.size) e.size y) (sym h))

      pub faulty : {a : Answer} → f ≡ Some a → Err a ≡ worked_at s room t i
      unfolding checked_at
      faulty g = checks (ap (checked_at s room t (i - e.size) e.size w) (sym g))

      pub faultless : f ≡ None → {c : Constant} → c ≡ run_at s room t (i - e.size) e.size w → c ≡ worked_at s room t i
      unfolding checked_at
      faultless g k = checks (k ∙ ap (checked_at s room t (i - e.size) e.size w) (sym g))

pub same_row : (s t : List ℕ) (i n : ℕ) (l : List ℕ) (c : Constant) → n ≤ i → WroteAt s t ((i - n) + n) l c → WroteAt s t i l c
same_row s t i n l c h = subst (λ (j : ℕ). WroteAt s t j l c) {x = (i - n) + n} {y = i} (omega (arith, h))
