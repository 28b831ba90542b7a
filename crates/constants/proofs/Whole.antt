-- From the table's rows to the answer: the steps on the table say what the definition says of the tree.
use Rattle.std.specs.Prelude.{Option, Some, None, Err}
use mathlib.Core.Path.{◌≡◌, refl, sym, ap, ◌∙◌}
use mathlib.Core.List.{List, [], ◌∷◌, ◌++◌, append_assoc, append-nil}
use mathlib.Core.Bool.{true, cond}
use Prim.Native.Nat.{ℕ, suc, ◌+◌, ◌*◌, ◌-◌, ◌≤◌}
use native.Mathlib.Omega.{arith}
use lib.Dec.{ltb}
use lib.ListN.{length, length-append, replicate}
use borrow.Author.Tests.{eq-eqb}
use Rattle.rows.specs.Rows.{width}
use Rattle.grammar.specs.Rows.{Row}
use Rattle.machine.specs.declared.Instruction.{Instruction}
use Rattle.machine.specs.Machine.{exec, wide}
use Rattle.numbers.proofs.Choices.{and}
use Rattle.chars.specs.declared.Answer.{Answer}
use Rattle.constants.specs.Trees.{Forest, none, tree, rows_of, trees, count, Grown, grown_tree, row_at, rows_from}
use Rattle.constants.specs.Types.{declared_of}
use Rattle.constants.specs.Meaning.{Outcome, is, stop, meaning}
use Rattle.constants.specs.Lists.{instr_of, codes, flat_list, fault_of, first_of}
use Rattle.constants.specs.Answers.{Constant, refusal, is_constant, Numbered, ended, checked, constant_of, list_of, typed}
use Rattle.constants.specs.Steps.{backward, typed as wanted, backs_from, latest, fault_at, codes_at, ran_to, run_at, checked_at, typed_at, declared_at, sized_at, worked_at, Placed}
use Rattle.constants.proofs.Compiled.{Formed, ran, backs, run_means, typed_codes, check_starts}
use Rattle.constants.proofs.Writing.{backward_backward}
use Rattle.constants.proofs.Forests.{count_rows, backs_rows, backs_from_lem, rows_at, row_at_lem}
use Rattle.constants.proofs.Faultless.{Fine, fine_tree, all_fine, formed}

-- ---- a tree in the table

module _ (s : List ℕ) (t : List ℕ) (first n w : ℕ) {e : Row} {kids : Forest} (g : Grown (tree e kids none)) (at : backs_from t first n ≡ backs (tree e kids none)) where
  pub codes_at_lem : codes_at s t first n w ≡ codes (instr_of s) w (tree e kids none)
  unfolding codes_at wanted
  codes_at_lem =
      ap (λ (z : List Row). backward (wanted (instr_of s) w 0 z)) (at ∙ sym (append-nil (backs (tree e kids none))))
      ∙ ap (λ (z : List Instruction). backward z) (typed_codes (instr_of s) w g [] ∙ append-nil (backward (codes (instr_of s) w (tree e kids none))))
      ∙ backward_backward (codes (instr_of s) w (tree e kids none))

  pub fault_at_lem : fault_at s t first n w ≡ first_of (codes (fault_of s) w (tree e kids none))
  unfolding fault_at
  fault_at_lem = ap (λ (z : List Row). latest None (wanted (fault_of s) w 0 z)) at ∙ check_starts (fault_of s) w g

-- ---- the constant's rows in the table

module _ (F A B K Z : List Row) (n y e : Row) where
  front_rows : F ++ ((A ++ (n ∷ (B ++ (y ∷ (K ++ (e ∷ [])))))) ++ Z) ≡ (F ++ (A ++ (n ∷ B))) ++ (y ∷ (K ++ (e ∷ Z)))
  front_rows =
      ap (λ (z : List Row). F ++ z) (append_assoc A (n ∷ (B ++ (y ∷ (K ++ (e ∷ []))))) Z ∙ ap (λ (z : List Row). A ++ (n ∷ z)) (append_assoc B (y ∷ (K ++ (e ∷ []))) Z ∙ ap (λ (z : List Row). B ++ (y ∷ z)) (append_assoc K (e ∷ []) Z)))
      ∙ sym (append_assoc F (A ++ (n ∷ B)) (y ∷ (K ++ (e ∷ Z))) ∙ ap (λ (z : List Row). F ++ z) (append_assoc A (n ∷ B) (y ∷ (K ++ (e ∷ Z)))))

module _ (U K Z : List Row) (y e : Row) where
  tree_rows : U ++ (y ∷ (K ++ (e ∷ Z))) ≡ (U ++ (y ∷ [])) ++ ((K ++ (e ∷ [])) ++ Z)
  tree_rows = ap (λ (z : List Row). U ++ (y ∷ z)) (sym (append_assoc K (e ∷ []) Z)) ∙ sym (append_assoc U (y ∷ []) ((K ++ (e ∷ [])) ++ Z))

  root_row : U ++ (y ∷ (K ++ (e ∷ Z))) ≡ (U ++ (y ∷ K)) ++ (e ∷ Z)
  root_row = sym (append_assoc U (y ∷ K) (e ∷ Z))

grown_kids : {r : Row} {kids ts : Forest} → Grown (tree r kids ts) → Grown kids
grown_kids (grown_tree c z g h) = g

grown_rest : {r : Row} {kids ts : Forest} → Grown (tree r kids ts) → Grown ts
grown_rest (grown_tree c z g h) = h

grown_size : {r : Row} {kids ts : Forest} → Grown (tree r kids ts) → r.size ≡ suc (count kids)
grown_size (grown_tree c z g h) = z

grown_children : {r : Row} {kids ts : Forest} → Grown (tree r kids ts) → r.children ≡ trees kids
grown_children (grown_tree c z g h) = c

module _ (t : List ℕ) (m k : ℕ) {y e : Row} {kids : Forest} (h : Numbered (rows_from t 0 m) k y e kids) where
  abbrev parts : Forest
  parts = tree h.name h.in_name (tree y h.in_type (tree e kids none))

  -- all before the type's row
  upto : List Row
  upto = h.front ++ (rows_of h.in_name ++ (h.name ∷ rows_of h.in_type))

  -- the index of the constant's row
  pub place : ℕ
  place = suc (suc (length upto + count kids))

  pub tree_grown : Grown (tree e kids none)
  tree_grown = grown_rest (grown_rest (grown_kids h.grown))

  size_is : e.size ≡ suc (count kids)
  size_is = grown_size tree_grown

  K : length (rows_of kids) ≡ count kids
  K = count_rows kids

  all : rows_from t 0 m ≡ upto ++ (y ∷ (rows_of kids ++ (e ∷ (h.const ∷ h.behind))))
  unfolding upto rows_of
  all = h.rows ∙ front_rows h.front (rows_of h.in_name) (rows_of h.in_type) (rows_of kids) (h.const ∷ h.behind) h.name y e

  before : h.front ++ rows_of parts ≡ upto ++ (y ∷ (rows_of kids ++ (e ∷ [])))
  unfolding upto rows_of
  before =
      ap (λ (z : List Row). h.front ++ z) (sym (append-nil (rows_of parts))) ∙ front_rows h.front (rows_of h.in_name) (rows_of h.in_type) (rows_of kids) [] h.name y e

  pub before_length : length (h.front ++ rows_of parts) ≡ place
  unfolding place
  before_length =
      ap length before ∙ length-append upto (y ∷ (rows_of kids ++ (e ∷ []))) ∙ (let a = length-append (rows_of kids) (e ∷ []) in omega (arith, a, K))

  pub type_at : row_at t (place - e.size - 1) ≡ y
  unfolding place
  type_at = ap (λ (i : ℕ). row_at t i) {x = suc (suc (length upto + count kids)) - e.size - 1} {y = 0 + length upto} (omega (arith, size_is)) ∙ row_at_lem t 0 m upto y (rows_of kids ++ (e ∷ (h.const ∷ h.behind))) all

  pub expr_at : row_at t (place - 1) ≡ e
  unfolding place
  expr_at =
      ap (λ (i : ℕ). row_at t i) {x = suc (suc (length upto + count kids)) - 1} {y = 0 + length (upto ++ (y ∷ rows_of kids))} (let a = length-append upto (y ∷ rows_of kids) in omega (arith, a, K))
      ∙ row_at_lem t 0 m (upto ++ (y ∷ rows_of kids)) e (h.const ∷ h.behind) (all ∙ root_row upto (rows_of kids) (h.const ∷ h.behind) y e)

  tree_at : rows_from t (place - e.size) e.size ≡ rows_of (tree e kids none)
  unfolding place rows_of
  tree_at =
      (λ q. rows_from t (ap (λ (i : ℕ). i) {x = suc (suc (length upto + count kids)) - e.size} {y = 0 + length (upto ++ (y ∷ []))} (let a = length-append upto (y ∷ []) in omega (arith, a, size_is)) q)
      (ap (λ (i : ℕ). i) {x = e.size} {y = length (rows_of kids ++ (e ∷ []))} (let a = length-append (rows_of kids) (e ∷ []) in omega (arith, a, K, size_is)) q))
      ∙ rows_at t 0 m (upto ++ (y ∷ [])) (rows_of kids ++ (e ∷ [])) (h.const ∷ h.behind) (all ∙ tree_rows upto (rows_of kids) (h.const ∷ h.behind) y e)

  backs_at : backs_from t (place - e.size) e.size ≡ backs (tree e kids none)
  backs_at = backs_from_lem t (place - e.size) e.size ∙ ap (λ (z : List Row). backward z) tree_at ∙ sym (backs_rows (tree e kids none))

  module _ (s : List ℕ) (room : ℕ) where
    -- the steps, from the fault on
    module _ (w : ℕ) where
      no_faults : first_of (codes (fault_of s) w (tree e kids none)) ≡ None → Formed e kids
      no_faults a = go (all_fine s w (tree e kids none) a)
        where
          go : Fine s w (tree e kids none) → Formed e kids
          go (fine_tree x y z) = formed s w e kids (grown_children tree_grown) (grown_kids tree_grown) x y

      ends : (n : ℕ) (x : Outcome) → ran_to w n (ran x) ≡ ended w n x
      unfolding ran_to ran ended
      ends n (is v) = refl
      ends n (stop a b) = refl

      runs_to : Formed e kids → ran_to w e.size (exec (codes_at s t (place - e.size) e.size w) []) ≡ ended w e.size (meaning s w e kids)
      runs_to f =
          ap (λ (xs : List Instruction). ran_to w e.size (exec xs [])) (codes_at_lem s t (place - e.size) e.size w tree_grown backs_at) ∙ ap (ran_to w e.size) (run_means s f w) ∙ ends e.size (meaning s w e kids)

      checks_to : (f : Option Answer) → f ≡ first_of (codes (fault_of s) w (tree e kids none)) → checked_at s room t (place - e.size) e.size w f ≡ checked s room w e kids f
      unfolding checked_at checked run_at
      checks_to (Some a) q = refl
      checks_to None q = ap (λ (c : Constant). cond (ltb room e.size) (Err (record { number = 10; start = 0; end = 0; count = e.size })) c) (runs_to (no_faults (sym q)))

    types_to : (d : Option ℕ) → typed_at s room t (place - e.size) e.size y d ≡ typed s room y e kids d
    unfolding typed_at typed
    types_to None = refl
    types_to (Some w) =
        ap (checked_at s room t (place - e.size) e.size w) (fault_at_lem s t (place - e.size) e.size w tree_grown backs_at) ∙ checks_to w (first_of (codes (fault_of s) w (tree e kids none))) refl

    -- what the steps say of the constant's row is what the definition says of its tree
    pub worked_means : worked_at s room t place ≡ constant_of s room y e kids
    unfolding worked_at sized_at declared_at constant_of
    worked_means =
        ap (λ (r : Row). sized_at s room t place r) expr_at
        ∙ ap (λ (r : Row). cond (ltb 1024 e.size) (refusal 15 e.start e.end) (typed_at s room t (place - e.size) e.size r (declared_of s r.kind r.start r.end))) type_at
        ∙ ap (λ (c : Constant). cond (ltb 1024 e.size) (refusal 15 e.start e.end) c) (types_to (declared_of s y.kind y.start y.end))

    -- and its list
    pub list_means : (size w : ℕ) → flat_list (codes_at s t (place - e.size) e.size w) ++ replicate (size - wide * e.size) 0 ≡ list_of s size w e kids
    unfolding list_of
    list_means size w = ap (λ (xs : List Instruction). flat_list xs ++ replicate (size - wide * e.size) 0) (codes_at_lem s t (place - e.size) e.size w tree_grown backs_at)

  -- ---- where it is found

  pub placed : place * width ≤ length t → Placed t place
  unfolding place
  placed l = (l, omega (arith, size_is, ap (λ (r : Row). r.size) expr_at))

  pub const_is : is_constant h.const.kind h.const.children ≡ true
  unfolding is_constant trees
  const_is = and (eq-eqb h.const.kind 40 h.kind) (eq-eqb h.const.children 3 (grown_children h.grown))
