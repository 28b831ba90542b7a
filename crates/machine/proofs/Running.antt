-- The loop that runs the list.
use Rattle.std.proofs.Common.{◌≡◌, ℕ, suc, ◌+◌, ◌-◌, ◌<◌, ◌≤◌, List, [], ◌∷◌, cond, ltb, eqb, length, Bool, true, false, Option, Some, None, Result, Ok, arith, sym, ap, ◌∙◌, add-one}
use Rattle.machine.specs.declared.Instruction.{Instruction}
use Rattle.machine.specs.declared.Stop.{Stop}
use Rattle.machine.specs.declared.Value.{Value}
use Rattle.machine.specs.Values.{literal_value, double_of}
use Rattle.machine.specs.Machine.{topped, double_on, single_on, step_of, after, exec, instr_at, instrs}

-- ---- a step puts one value on the stack at most

topped_deep : (x : Instruction) (v : Option Value) (st su : List Value) → topped x v st ≡ Ok su → length su ≤ suc (length st)
unfolding topped
topped_deep x (Some v) st su e = grind arith
topped_deep x None st su e = grind arith

double_deep : (x : Instruction) (st su : List Value) → double_on x st ≡ Ok su → length su ≤ suc (length st)
unfolding double_on
double_deep x [] su e = grind arith
double_deep x (b ∷ []) su e = grind arith
double_deep x (b ∷ a ∷ st) su e = let h : length su ≤ suc (length st) = topped_deep x (double_of x.ty x.value a b) st su e in omega (arith, h)

single_deep : (x : Instruction) (st su : List Value) → single_on x st ≡ Ok su → length su ≤ suc (length st)
unfolding single_on
single_deep x [] su e = grind arith
single_deep x (a ∷ st) su e = grind arith

pub step_deep : (x : Instruction) (st su : List Value) → step_of x st ≡ Ok su → length su ≤ suc (length st)
unfolding step_of
step_deep x st su = go (ltb x.kind 20) (eqb x.kind 20) where
  go : (b c : Bool) → cond b (Ok (literal_value x.kind x.value ∷ st)) (cond c (double_on x st) (single_on x st)) ≡ Ok su → length su ≤ suc (length st)
  go true c e = grind arith
  go false true e = double_deep x st su e
  go false false e = single_deep x st su e

-- ---- where the loop stands

-- what is left, run on this stack, is what the whole list gives; each instruction put one value on it at most
pub record Loop (l : List ℕ) (n i : ℕ) (st : List Value) : Type 0 where
  pub same : exec (instrs l i (n - i)) st ≡ exec (instrs l 0 n) []
  pub deep : length st ≤ i

next : (l : List ℕ) (n i : ℕ) (st : List Value) → i < n → exec (instrs l i (n - i)) st ≡ after (step_of (instr_at l i) st) (exec (instrs l (i + 1) (n - (i + 1))))
unfolding exec instrs
next l n i st h =
    ap (λ (k : ℕ). exec (instrs l i k) st) {x = n - i} {y = suc (n - (i + 1))} (omega (arith, h))
    ∙ ap (λ (k : ℕ). after (step_of (instr_at l i) st) (exec (instrs l k (n - (i + 1))))) (sym (add-one i))

pub goes : (l : List ℕ) (n i : ℕ) (st su : List Value) (x : Instruction) → i < n → Loop l n i st → x ≡ instr_at l i → step_of x st ≡ Ok su → Loop l n (i + 1) su
unfolding after
goes l n i st su x h g e f = record {
  same =
      sym (next l n i st h ∙ ap (λ (s : Result (List Value) Stop). after s (exec (instrs l (i + 1) (n - (i + 1))))) (ap (λ (y : Instruction). step_of y st) (sym e) ∙ f)) ∙ g.same;
  deep = let d : length su ≤ suc (length st) = step_deep x st su f in omega (arith, d, g.deep);
}
