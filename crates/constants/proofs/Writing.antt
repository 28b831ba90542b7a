-- The loops over a table's rows: instructions written from the last row to the first, the last fault met, the row of a constant.
use Rattle.std.specs.Prelude.{Option, Some, None}
use mathlib.Core.Path.{◌≡◌, refl, sym, ap, ◌∙◌}
use mathlib.Core.List.{List, [], ◌∷◌, ◌++◌, append_assoc, append-nil}
use mathlib.Core.Bool.{Bool, true, false, cond}
use Prim.Native.Nat.{ℕ, zero, suc, ◌+◌, ◌*◌, ◌-◌, ◌<◌, ◌≤◌}
use native.Mathlib.Omega.{arith}
use native.Mathlib.Numerals.{add-one}
use lib.Dec.{eqb, ltb}
use lib.ListN.{length, get_or, set, length-set}
use lib.Seq.{get_or-set_same, get_or-set_other}
use borrow.Author.Tests.{lt-ltb, ne_eqb}
use Rattle.grammar.specs.Rows.{Row}
use Rattle.machine.specs.declared.Instruction.{Instruction}
use Rattle.machine.specs.Machine.{instr_at, instrs, wide}
use Rattle.numbers.proofs.Choices.{first, second}
use Rattle.std.specs.Option.{option_or}
use Rattle.chars.specs.declared.Answer.{Answer}
use Rattle.constants.specs.declared.Row as code
use Rattle.constants.specs.Trees.{row_at}
use Rattle.constants.specs.Types.{compares}
use Rattle.constants.specs.Lists.{instr_of, fault_of}
use Rattle.constants.specs.Answers.{is_constant}
use Rattle.constants.specs.Steps.{backward, wanted_of, left_of, row_of, typed, backs_from, latest, fault_at, stored, codes_at, found_from}
use Rattle.constants.proofs.Compiled.{backward_append}

pub backward_backward : {A : Type 0} (xs : List A) → backward (backward xs) ≡ xs
unfolding backward
backward_backward [] = refl
backward_backward {A} (x ∷ xs) = backward_append (backward xs) (x ∷ []) ∙ ap (λ (z : List A). x ∷ z) (backward_backward xs)

-- ---- the list after a store

module _ (l : List ℕ) (j kind ty value start end : ℕ) where
  beyond : (k : ℕ) → j * wide + wide ≤ k → get_or (stored l j kind ty value start end) k 0 ≡ get_or l k 0
  unfolding stored
  beyond k h =
      let a = set l (j * wide) kind in
      let b = set a (j * wide + 1) ty in
      let c = set b (j * wide + 2) value in
      let d = set c (j * wide + 3) start in
      get_or-set_other d (j * wide + 4) k end 0 (omega (arith, h)) ∙ get_or-set_other c (j * wide + 3) k start 0 (omega (arith, h))
      ∙ get_or-set_other b (j * wide + 2) k value 0 (omega (arith, h)) ∙ get_or-set_other a (j * wide + 1) k ty 0 (omega (arith, h)) ∙ get_or-set_other l (j * wide) k kind 0 (omega (arith, h))

  pub same_length : length (stored l j kind ty value start end) ≡ length l
  unfolding stored
  same_length =
      let a = set l (j * wide) kind in
      let b = set a (j * wide + 1) ty in
      let c = set b (j * wide + 2) value in
      let d = set c (j * wide + 3) start in
      length-set d (j * wide + 4) end ∙ length-set c (j * wide + 3) start ∙ length-set b (j * wide + 2) value ∙ length-set a (j * wide + 1) ty ∙ length-set l (j * wide) kind

  beyonds : (m k : ℕ) → suc j ≤ m → instrs (stored l j kind ty value start end) m k ≡ instrs l m k
  unfolding instrs
  beyonds m zero h = refl
  beyonds m (suc k) h =
      (λ i. record {
        kind = beyond (m * wide) (omega (arith, h)) i;
        ty = beyond (m * wide + 1) (omega (arith, h)) i;
        value = beyond (m * wide + 2) (omega (arith, h)) i;
        start = beyond (m * wide + 3) (omega (arith, h)) i;
        end = beyond (m * wide + 4) (omega (arith, h)) i;
      } ∷ beyonds (suc m) k (omega (arith, h)) i)

  written : j * wide + wide ≤ length l → instr_at (stored l j kind ty value start end) j ≡ record { kind = kind; ty = ty; value = value; start = start; end = end }
  unfolding stored
  written h =
      let a = set l (j * wide) kind in
      let b = set a (j * wide + 1) ty in
      let c = set b (j * wide + 2) value in
      let d = set c (j * wide + 3) start in
      let A : length a ≡ length l = length-set l (j * wide) kind in
      let B : length b ≡ length l = length-set a (j * wide + 1) ty ∙ A in
      let C : length c ≡ length l = length-set b (j * wide + 2) value ∙ B in
      let D : length d ≡ length l = length-set c (j * wide + 3) start ∙ C in
      let p0 : get_or (set d (j * wide + 4) end) (j * wide) 0 ≡ kind =
      get_or-set_other d (j * wide + 4) (j * wide) end 0 (omega arith) ∙ get_or-set_other c (j * wide + 3) (j * wide) start 0 (omega arith)
      ∙ get_or-set_other b (j * wide + 2) (j * wide) value 0 (omega arith) ∙ get_or-set_other a (j * wide + 1) (j * wide) ty 0 (omega arith) ∙ get_or-set_same l (j * wide) kind 0 (omega (arith, h)) in
      let p1 : get_or (set d (j * wide + 4) end) (j * wide + 1) 0 ≡ ty =
      get_or-set_other d (j * wide + 4) (j * wide + 1) end 0 (omega arith) ∙ get_or-set_other c (j * wide + 3) (j * wide + 1) start 0 (omega arith)
      ∙ get_or-set_other b (j * wide + 2) (j * wide + 1) value 0 (omega arith) ∙ get_or-set_same a (j * wide + 1) ty 0 (omega (arith, h, A)) in
      let p2 : get_or (set d (j * wide + 4) end) (j * wide + 2) 0 ≡ value =
      get_or-set_other d (j * wide + 4) (j * wide + 2) end 0 (omega arith) ∙ get_or-set_other c (j * wide + 3) (j * wide + 2) start 0 (omega arith) ∙ get_or-set_same b (j * wide + 2) value 0 (omega (arith, h, B)) in
      let p3 : get_or (set d (j * wide + 4) end) (j * wide + 3) 0 ≡ start =
      get_or-set_other d (j * wide + 4) (j * wide + 3) end 0 (omega arith) ∙ get_or-set_same c (j * wide + 3) start 0 (omega (arith, h, C)) in
      let p4 : get_or (set d (j * wide + 4) end) (j * wide + 4) 0 ≡ end = get_or-set_same d (j * wide + 4) end 0 (omega (arith, h, D)) in
      (λ i. record { kind = p0 i; ty = p1 i; value = p2 i; start = p3 i; end = p4 i })

-- ---- the loop

-- one row more, whatever is made of it
pub typed_step : {A : Type 0} (f : ℕ → Row → A) (w k : ℕ) (r : Row) (rs : List Row) → typed f w k (r ∷ rs) ≡ f (wanted_of w k) r ∷ typed f w (left_of k r.kind r.detail r.size) rs
unfolding typed wanted_of left_of compares
typed_step f w zero r rs = refl
typed_step f w (suc k) r rs =
    (λ i. f (second {t = eqb (suc k) 0} w {b = 0} {x = 0} (ne_eqb (suc k) 0 (λ e. omega (arith, e))) refl i) r
    ∷ typed f w (first {t = ltb 0 (suc k)} {a = suc k - 1} {x = k} (cond (compares r.kind r.detail) (r.size - 1) 0) (lt-ltb 0 (suc k) (omega arith)) (omega arith) i) rs)

abbrev pub written_to : List ℕ → ℕ → Instruction → List ℕ
written_to l j x = stored l j x.kind x.ty x.value x.start x.end

pub record Back (src t : List ℕ) (first n w : ℕ) (l0 l : List ℕ) (k i : ℕ) : Type 0 where
  pub within : i ≤ n
  pub long : length l ≡ length l0
  pub same : backward (instrs l i (n - i)) ++ typed (instr_of src) w k (backs_from t first i) ≡ typed (instr_of src) w 0 (backs_from t first n)

pub back_start : (src t : List ℕ) (first n w : ℕ) (l : List ℕ) → Back src t first n w l l 0 n
unfolding instrs backward
back_start src t first n w l = record {
  within = omega arith;
  long = refl;
  same = ap (λ (j : ℕ). backward (instrs l n j) ++ typed (instr_of src) w 0 (backs_from t first n)) {x = n - n} {y = 0} (omega arith);
}

backs_end : (src t : List ℕ) (first n w : ℕ) (l0 l : List ℕ) (k i : ℕ) → i ≤ 0 → Back src t first n w l0 l k i → backward (instrs l 0 n) ≡ typed (instr_of src) w 0 (backs_from t first n)
unfolding typed backs_from
backs_end src t first n w l0 l k zero h b =
    sym (append-nil (backward (instrs l 0 n))) ∙ ap (λ (j : ℕ). backward (instrs l 0 j) ++ []) {x = n} {y = n - 0} (omega arith) ∙ b.same
backs_end src t first n w l0 l k (suc i) h b = absurd (omega (arith, h))

pub back_end : (src t : List ℕ) (first n w : ℕ) (l0 l : List ℕ) (k i : ℕ) → i ≤ 0 → Back src t first n w l0 l k i → (length l ≡ length l0) × (instrs l 0 n ≡ codes_at src t first n w)
unfolding codes_at
back_end src t first n w l0 l k i h b = (b.long, sym (backward_backward (instrs l 0 n)) ∙ ap (λ (z : List Instruction). backward z) (backs_end src t first n w l0 l k i h b))

module _ (src t : List ℕ) (first n w : ℕ) (l0 l : List ℕ) (k i j : ℕ) (ij : i ≡ suc j) (room : n * wide ≤ length l0) (b : Back src t first n w l0 l k i) where
  abbrev row : Row
  row = row_at t (first + j)

  list_step : instrs (written_to l j (instr_of src (wanted_of w k) row)) j (n - j) ≡ instr_of src (wanted_of w k) row ∷ instrs l i (n - i)
  unfolding instrs
  list_step =
      let x = instr_of src (wanted_of w k) row in
      ap (λ (m : ℕ). instrs (written_to l j x) j m) {x = n - j} {y = suc (n - i)} (omega (arith, ij, b.within))
      ∙ (λ q. written l j x.kind x.ty x.value x.start x.end (omega (arith, room, b.within, b.long, ij)) q ∷ beyonds l j x.kind x.ty x.value x.start x.end (suc j) (n - i) (omega arith) q)
      ∙ ap (λ (m : ℕ). x ∷ instrs l m (n - i)) (sym ij)

  pub back_turn : (r : code.Row) (x : Instruction) (wanted left : ℕ) (l1 : List ℕ) → row_of r ≡ row → wanted ≡ wanted_of w k → x ≡ instr_of src wanted (row_of r)
      → left ≡ left_of k r.kind r.detail r.size → l1 ≡ written_to l j x → Back src t first n w l0 l1 left j
  unfolding backward backs_from
  back_turn r x wanted left l1 e u f g s = record {
    within = omega (arith, ij, b.within);
    long = ap length s ∙ same_length l j x.kind x.ty x.value x.start x.end ∙ b.long;
    same =
        (λ q. backward (instrs ((s ∙ ap (written_to l j) (f ∙ (λ p. instr_of src (u p) (e p)))) q) j (n - j)) ++ typed (instr_of src) w ((g ∙ ap (λ (y : Row). left_of k y.kind y.detail y.size) e) q) (backs_from t first j))
        ∙ ap (λ (z : List Instruction). backward z ++ typed (instr_of src) w (left_of k row.kind row.detail row.size) (backs_from t first j)) list_step
        ∙ append_assoc (backward (instrs l i (n - i))) (instr_of src (wanted_of w k) row ∷ []) (typed (instr_of src) w (left_of k row.kind row.detail row.size) (backs_from t first j))
        ∙ ap (λ (z : List Instruction). backward (instrs l i (n - i)) ++ z) (sym (typed_step (instr_of src) w k row (backs_from t first j)))
        ∙ ap (λ (m : ℕ). backward (instrs l i (n - i)) ++ typed (instr_of src) w k (backs_from t first m)) (sym ij)
        ∙ b.same;
  }

-- ---- the check

pub record Check (src t : List ℕ) (first n w : ℕ) (h : Option Answer) (k i : ℕ) : Type 0 where
  pub within : i ≤ n
  pub same : latest h (typed (fault_of src) w k (backs_from t first i)) ≡ fault_at src t first n w

pub check_start : (src t : List ℕ) (first n w : ℕ) → Check src t first n w None 0 n
unfolding fault_at
check_start src t first n w = record { within = omega arith; same = refl }

pub check_end : (src t : List ℕ) (first n w : ℕ) (h : Option Answer) (k i : ℕ) → i ≤ 0 → Check src t first n w h k i → h ≡ fault_at src t first n w
unfolding latest typed backs_from
check_end src t first n w h k zero e b = b.same
check_end src t first n w h k (suc i) e b = absurd (omega (arith, e))

pub check_turn : (src t : List ℕ) (first n w : ℕ) (h h1 f : Option Answer) (r : code.Row) (wanted k i j left : ℕ) → i ≡ suc j → Check src t first n w h k i → row_of r ≡ row_at t (first + j)
    → wanted ≡ wanted_of w k → f ≡ fault_of src wanted (row_of r) → h1 ≡ option_or f h → left ≡ left_of k r.kind r.detail r.size → Check src t first n w h1 left j
unfolding latest backs_from
check_turn src t first n w h h1 f r wanted k i j left e b row u m g o = record {
  within = omega (arith, e, b.within);
  same =
      (λ q. latest ((g ∙ ap (λ (x : Option Answer). option_or x h) (m ∙ (λ p. fault_of src (u p) (row p)))) q) (typed (fault_of src) w ((o ∙ ap (λ (y : Row). left_of k y.kind y.detail y.size) row) q) (backs_from t first j)))
      ∙ ap (λ (z : List (Option Answer)). latest h z) (sym (typed_step (fault_of src) w k (row_at t (first + j)) (backs_from t first j)))
      ∙ ap (λ (m : ℕ). latest h (typed (fault_of src) w k (backs_from t first m))) (sym e)
      ∙ b.same;
}

-- ---- the row of a constant

pub record Finding (t : List ℕ) (count number left i : ℕ) : Type 0 where
  pub within : i ≤ count
  pub same : found_from t i (count - i) left ≡ found_from t 0 count number

module _ (t : List ℕ) (count number left i : ℕ) (b : Finding t count number left i) where
  pub finding_end : count ≤ i → None ≡ found_from t 0 count number
  unfolding found_from
  finding_end h = ap (λ (n : ℕ). found_from t i n left) {x = 0} {y = count - i} (omega (arith, h)) ∙ b.same

  module _ (h : i < count) (is : Bool) (e : is ≡ is_constant (row_at t i).kind (row_at t i).children) where
    split : found_from t i (suc (count - (i + 1))) left ≡ found_from t 0 count number
    split = ap (λ (n : ℕ). found_from t i n left) {x = suc (count - (i + 1))} {y = count - i} (omega (arith, h)) ∙ b.same

    pub finding_here : is ≡ true → left ≡ 0 → Some i ≡ found_from t 0 count number
    unfolding found_from
    finding_here f z = first (found_from t (suc i) (count - (i + 1)) 0) (sym e ∙ f) refl ∙ ap (found_from t i (suc (count - (i + 1)))) (sym z) ∙ split

    pub finding_next : is ≡ true → (left ≡ 0 → ⊥) → Finding t count number (left - 1) (i + 1)
    unfolding found_from
    finding_next f z = record { within = omega (arith, h); same = go left z split }
      where
        go : (k : ℕ) → (k ≡ 0 → ⊥) → found_from t i (suc (count - (i + 1))) k ≡ found_from t 0 count number → found_from t (i + 1) (count - (i + 1)) (k - 1) ≡ found_from t 0 count number
        go zero z g = absurd (z refl)
        go (suc k) z g =
            (λ q. found_from t (add-one i q) (count - (i + 1)) (ap (λ (x : ℕ). x) {x = suc k - 1} {y = k} (omega arith) q))
            ∙ first (found_from t (suc i) (count - (i + 1)) (suc k)) (sym e ∙ f) refl ∙ g

    pub finding_past : is ≡ false → Finding t count number left (i + 1)
    unfolding found_from
    finding_past f = record { within = omega (arith, h); same = go left split }
      where
        go : (k : ℕ) → found_from t i (suc (count - (i + 1))) k ≡ found_from t 0 count number → found_from t (i + 1) (count - (i + 1)) k ≡ found_from t 0 count number
        go zero g = ap (λ (j : ℕ). found_from t j (count - (i + 1)) 0) (add-one i) ∙ second (Some i) (sym e ∙ f) refl ∙ g
        go (suc k) g = ap (λ (j : ℕ). found_from t j (count - (i + 1)) (suc k)) (add-one i) ∙ second (found_from t (suc i) (count - (i + 1)) k) (sym e ∙ f) refl ∙ g
