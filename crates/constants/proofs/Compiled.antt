-- Running the translation of a tree gives its meaning; and the translation is found from the last row to the first.
use Rattle.std.specs.Prelude.{Option, Result, Some, None, Ok, Err}
use mathlib.Core.Path.{◌≡◌, refl, sym, ap, ◌∙◌}
use mathlib.Core.List.{List, [], ◌∷◌, ◌++◌, append_assoc, append-nil}
use mathlib.Core.Bool.{Bool, true, false, cond}
use Prim.Native.Nat.{ℕ, suc, ◌+◌, ◌-◌, ◌<◌, ◌≤◌}
use native.Mathlib.Omega.{arith}
use lib.Dec.{eqb}
use borrow.Author.Tests.{eq-eqb, ne_eqb, lt-ltb, le-ltb}
use Rattle.std.specs.Option.{option_or}
use Rattle.chars.specs.declared.Answer.{Answer}
use Rattle.rows.specs.Kinds as kinds
use Rattle.grammar.specs.Rows.{Row}
use Rattle.machine.specs.declared.Stop.{Stop}
use Rattle.machine.specs.declared.Value.{Value}
use Rattle.machine.specs.Values.{literal_value, double_of}
use Rattle.machine.specs.declared.Instruction.{Instruction}
use Rattle.machine.specs.Machine.{topped, double_on, single_on, step_of, after, ended, exec}
use Rattle.constants.specs.Trees.{Forest, none, tree, count, Grown, grown_none, grown_tree}
use Rattle.constants.specs.Types.{compares, under, type_of}
use Rattle.constants.specs.Meaning.{Outcome, is, stop, held, stepped, of_one, of_two, meaning}
use Rattle.constants.specs.Lists.{instr_of, codes, first_of}
use Rattle.constants.specs.Steps.{backward, typed, latest}

-- ---- a step, by the instruction's kind

pushes : (x : Instruction) (st : List Value) → x.kind < 20 → step_of x st ≡ Ok (literal_value x.kind x.value ∷ st)
unfolding step_of
pushes x st h = ap (λ (b : Bool). cond b (Ok (literal_value x.kind x.value ∷ st)) (cond (eqb x.kind 20) (double_on x st) (single_on x st))) (lt-ltb x.kind 20 h)

doubles : (x : Instruction) (st : List Value) → x.kind ≡ 20 → step_of x st ≡ double_on x st
unfolding step_of
doubles x st h =
    (λ i. cond (le-ltb x.kind 20 (omega (arith, h)) i) (Ok (literal_value x.kind x.value ∷ st)) (cond (eq-eqb x.kind 20 h i) (double_on x st) (single_on x st)))

singles : (x : Instruction) (st : List Value) → 20 ≤ x.kind → (x.kind ≡ 20 → ⊥) → step_of x st ≡ single_on x st
unfolding step_of
singles x st h f =
    (λ i. cond (le-ltb x.kind 20 h i) (Ok (literal_value x.kind x.value ∷ st)) (cond (ne_eqb x.kind 20 f i) (double_on x st) (single_on x st)))

-- as many operands as the kind has
pub data Formed : Row → Forest → Type 0 where
  leaf : {r : Row} → r.kind < kinds.BINARY → Formed r none
  sole : {r a : Row} {ka : Forest} → kinds.BINARY < r.kind → Formed a ka → Formed r (tree a ka none)
  pair : {r a b : Row} {ka kb : Forest} → r.kind ≡ kinds.BINARY → Formed a ka → Formed b kb → Formed r (tree a ka (tree b kb none))

unfoldable pub ran : Outcome → Result Value Stop
ran (is v) = Ok v
ran (stop s e) = Err (Stop.ZeroDivisor s e)

-- a forest's rows from the last to the first
unfoldable pub backs : Forest → List Row
backs none = []
backs (tree r kids ts) = backs ts ++ (r ∷ backs kids)

-- how the machine goes on behind a tree
unfoldable pub proceed : Outcome → List Instruction → List Value → Result Value Stop
proceed (is v) xs st = exec xs (v ∷ st)
proceed (stop s e) xs st = Err (Stop.ZeroDivisor s e)

module _ (src : List ℕ) where
  no_detail : (w : ℕ) (r : Row) → (r.kind ≡ 20 → ⊥) → (instr_of src w r).value ≡ held src r
  unfolding instr_of
  no_detail w r h = ap (λ (b : Bool). cond b r.detail (held src r)) (ne_eqb r.kind 20 h)

  its_detail : (w : ℕ) (r : Row) → r.kind ≡ 20 → (instr_of src w r).value ≡ r.detail
  unfolding instr_of
  its_detail w r h = ap (λ (b : Bool). cond b r.detail (held src r)) (eq-eqb r.kind 20 h)

  ran_leaf : (w : ℕ) (r : Row) (xs : List Instruction) (st : List Value) → r.kind < 20 → exec (instr_of src w r ∷ xs) st ≡ proceed (is (literal_value r.kind (held src r))) xs st
  unfolding exec instr_of after proceed
  ran_leaf w r xs st h =
      ap (λ (s : Result (List Value) Stop). after s (exec xs)) (pushes (instr_of src w r) st h)
      ∙ ap (λ (v : ℕ). exec xs (literal_value r.kind v ∷ st)) (no_detail w r (λ e. omega (arith, h, e)))

  ran_one : (w : ℕ) (r : Row) (xs : List Instruction) (st : List Value) (x : Outcome) → 20 < r.kind → proceed x (instr_of src w r ∷ xs) st ≡ proceed (of_one w r x) xs st
  unfolding exec instr_of after proceed of_one single_on
  ran_one w r xs st (is a) h = ap (λ (s : Result (List Value) Stop). after s (exec xs)) (singles (instr_of src w r) (a ∷ st) (omega (arith, h)) (λ e. omega (arith, h, e)))
  ran_one w r xs st (stop s e) h = refl

  ran_step : (w : ℕ) (r : Row) (xs : List Instruction) (st : List Value) (s : Option Value) → after (topped (instr_of src w r) s st) (exec xs) ≡ proceed (stepped r s) xs st
  unfolding after topped stepped proceed instr_of
  ran_step w r xs st (Some v) = refl
  ran_step w r xs st None = refl

  ran_two : (w : ℕ) (r : Row) (xs : List Instruction) (st : List Value) (a b : Value) → r.kind ≡ 20
      → exec (instr_of src w r ∷ xs) (b ∷ a ∷ st) ≡ proceed (of_two w r (is a) (is b)) xs st
  unfolding exec instr_of double_on of_two
  ran_two w r xs st a b h =
      ap (λ (s : Result (List Value) Stop). after s (exec xs)) (doubles (instr_of src w r) (b ∷ a ∷ st) h)
      ∙ ap (λ (d : ℕ). after (topped (instr_of src w r) (double_of (type_of w) d a b) st) (exec xs)) (its_detail w r h)
      ∙ ran_step w r xs st (double_of (type_of w) r.detail a b)

  -- two trees, then the operator
  both : (w v : ℕ) (r : Row) (xs ys : List Instruction) (st : List Value) (x y : Outcome) → r.kind ≡ 20
      → ((t : List Value) → exec ys t ≡ proceed y (instr_of src w r ∷ xs) t) → proceed x ys st ≡ proceed (of_two w r x y) xs st
  unfolding proceed of_two
  both w v r xs ys st (stop s e) y h f = refl
  both w v r xs ys st (is a) (stop s e) h f = f (a ∷ st)
  both w v r xs ys st (is a) (is b) h f = f (a ∷ st) ∙ ran_two w r xs st a b h

  pub runs_tree : {r : Row} {kids : Forest} → Formed r kids → (w : ℕ) (ts : Forest) (xs : List Instruction) (st : List Value)
      → exec (codes (instr_of src) w (tree r kids ts) ++ xs) st ≡ proceed (meaning src w r kids) (codes (instr_of src) w ts ++ xs) st
  unfolding codes meaning
  runs_tree {r} (leaf h) w ts xs st = ran_leaf w r (codes (instr_of src) w ts ++ xs) st h
  runs_tree {r} (sole {a = a} {ka = ka} h f) w ts xs st =
      ap (λ (z : List Instruction). exec z st) (append_assoc (codes (instr_of src) (under w r) (tree a ka none)) (instr_of src w r ∷ codes (instr_of src) w ts) xs)
      ∙ runs_tree f (under w r) none (instr_of src w r ∷ (codes (instr_of src) w ts ++ xs)) st
      ∙ ran_one w r (codes (instr_of src) w ts ++ xs) st (meaning src (under w r) a ka) h
  runs_tree {r} (pair {a = a} {b = b} {ka = ka} {kb = kb} h f g) w ts xs st =
      ap (λ (z : List Instruction). exec z st) (append_assoc (codes (instr_of src) (under w r) (tree a ka (tree b kb none))) (instr_of src w r ∷ codes (instr_of src) w ts) xs)
      ∙ runs_tree f (under w r) (tree b kb none) (instr_of src w r ∷ (codes (instr_of src) w ts ++ xs)) st
      ∙ both w (under w r) r (codes (instr_of src) w ts ++ xs) (codes (instr_of src) (under w r) (tree b kb none) ++ (instr_of src w r ∷ (codes (instr_of src) w ts ++ xs))) st (meaning src (under w r) a ka) (meaning src (under w r) b kb) h
      (λ t. runs_tree g (under w r) none (instr_of src w r ∷ (codes (instr_of src) w ts ++ xs)) t)

  -- THE THEOREM: running the translation of a tree gives the tree's meaning, or stops at the first zero divisor
  pub run_means : {r : Row} {kids : Forest} → Formed r kids → (w : ℕ) → exec (codes (instr_of src) w (tree r kids none)) [] ≡ ran (meaning src w r kids)
  unfolding proceed ran exec codes ended
  run_means {r} {kids} f w =
      ap (λ (z : List Instruction). exec z []) (sym (append-nil (codes (instr_of src) w (tree r kids none))))
      ∙ runs_tree f w none [] [] ∙ last (meaning src w r kids) where
        last : (x : Outcome) → proceed x (codes (instr_of src) w none ++ []) [] ≡ ran x
        last (is v) = refl
        last (stop s e) = refl

-- ---- from the last row to the first

pub backward_append : {A : Type 0} (a b : List A) → backward (a ++ b) ≡ backward b ++ backward a
unfolding backward
backward_append [] b = sym (append-nil (backward b))
backward_append (x ∷ a) b = ap (λ z. z ++ (x ∷ [])) (backward_append a b) ∙ append_assoc (backward b) (backward a) (x ∷ [])

module _ {A : Type 0} (f : ℕ → Row → A) where
  -- a row's own instruction, behind those of the trees after it and before those under it
  turned : (v w : ℕ) (r : Row) (kids ts : Forest) (t : List A) → under w r ≡ v
      → backward (codes f w ts) ++ (f w r ∷ (backward (codes f v kids) ++ t)) ≡ backward (codes f w (tree r kids ts)) ++ t
  unfolding codes backward
  turned v w r kids ts t e =
      sym (append_assoc (backward (codes f w ts)) (f w r ∷ []) (backward (codes f v kids) ++ t))
      ∙ sym (append_assoc (backward (codes f w ts) ++ (f w r ∷ [])) (backward (codes f v kids)) t)
      ∙ ap (λ (z : List A). z ++ t) (sym (backward_append (codes f v kids) (f w r ∷ codes f w ts)))
      ∙ ap (λ (u : ℕ). backward (codes f u kids ++ (f w r ∷ codes f w ts)) ++ t) (sym e)

  under_zero : (r : Row) → under 0 r ≡ 0
  unfolding under
  under_zero r = go (compares r.kind r.detail) where
    go : (b : Bool) → cond {A = ℕ} b 0 0 ≡ 0
    go true = refl
    go false = refl

  typed_under : (w : ℕ) {g : Forest} → Grown g → (k : ℕ) (rest : List Row) → typed f w (count g + k) (backs g ++ rest) ≡ backward (codes f 0 g) ++ typed f w k rest
  unfolding typed count backs codes backward
  typed_under w grown_none k rest = ap (λ (j : ℕ). typed f w j rest) {x = 0 + k} {y = k} (omega arith)
  typed_under w (grown_tree {r = r} {kids = kids} {ts = ts} n e a b) k rest =
      ap (λ (z : List Row). typed f w ((count ts + suc (count kids)) + k) z) (append_assoc (backs ts) (r ∷ backs kids) rest)
      ∙ ap (λ (j : ℕ). typed f w j (backs ts ++ (r ∷ (backs kids ++ rest)))) {x = (count ts + suc (count kids)) + k} {y = count ts + suc (count kids + k)} (omega arith)
      ∙ typed_under w b (suc (count kids + k)) (r ∷ (backs kids ++ rest))
      ∙ ap (λ (z : List A). backward (codes f 0 ts) ++ (f 0 r ∷ z)) (typed_under w a k rest)
      ∙ turned 0 0 r kids ts (typed f w k rest) (under_zero r)

  one : (w : ℕ) (r : Row) (kids ts : Forest) (rest : List Row) (c : Bool) → compares r.kind r.detail ≡ c
      → typed f w (count kids + 0) (backs kids ++ rest) ≡ backward (codes f 0 kids) ++ typed f w 0 rest
      → typed f w 0 (backs kids ++ rest) ≡ backward (codes f w kids) ++ typed f w 0 rest
      → r.size ≡ suc (count kids)
      → backward (codes f w ts) ++ (f w r ∷ typed f w (cond (compares r.kind r.detail) (r.size - 1) 0) (backs kids ++ rest)) ≡ backward (codes f w (tree r kids ts)) ++ typed f w 0 rest
  unfolding under
  one w r kids ts rest true h p q e =
      ap (λ (b : Bool). backward (codes f w ts) ++ (f w r ∷ typed f w (cond b (r.size - 1) 0) (backs kids ++ rest))) h
      ∙ ap (λ (j : ℕ). backward (codes f w ts) ++ (f w r ∷ typed f w j (backs kids ++ rest))) {x = r.size - 1} {y = count kids + 0} (omega (arith, e))
      ∙ ap (λ (z : List A). backward (codes f w ts) ++ (f w r ∷ z)) p
      ∙ turned 0 w r kids ts (typed f w 0 rest) (ap (λ (b : Bool). cond b 0 w) h)
  one w r kids ts rest false h p q e =
      ap (λ (b : Bool). backward (codes f w ts) ++ (f w r ∷ typed f w (cond b (r.size - 1) 0) (backs kids ++ rest))) h
      ∙ ap (λ (z : List A). backward (codes f w ts) ++ (f w r ∷ z)) q
      ∙ turned w w r kids ts (typed f w 0 rest) (ap (λ (b : Bool). cond b 0 w) h)

  -- the count of the rows still under a comparison gives every row the type wanted of it
  pub typed_codes : (w : ℕ) {g : Forest} → Grown g → (rest : List Row) → typed f w 0 (backs g ++ rest) ≡ backward (codes f w g) ++ typed f w 0 rest
  unfolding typed backs codes backward
  typed_codes w grown_none rest = refl
  typed_codes w (grown_tree {r = r} {kids = kids} {ts = ts} n e a b) rest =
      ap (λ (z : List Row). typed f w 0 z) (append_assoc (backs ts) (r ∷ backs kids) rest)
      ∙ typed_codes w b (r ∷ (backs kids ++ rest))
      ∙ one w r kids ts rest (compares r.kind r.detail) refl
      (typed_under w a 0 rest) (typed_codes w a rest) e

-- ---- the check: what the way back keeps is the first fault in table order

or_assoc : (x y z : Option Answer) → option_or x (option_or y z) ≡ option_or (option_or x y) z
or_assoc None y z = refl
or_assoc (Some a) y z = refl

latest_append : (h : Option Answer) (a : List (Option Answer)) (x : Option Answer) → latest h (a ++ (x ∷ [])) ≡ option_or x (latest h a)
unfolding latest
latest_append h [] x = refl
latest_append h (y ∷ a) x = latest_append (option_or y h) a x

latest_is_first : (h : Option Answer) (xs : List (Option Answer)) → latest h (backward xs) ≡ option_or (first_of xs) h
unfolding latest first_of backward
latest_is_first h [] = refl
latest_is_first h (x ∷ xs) = latest_append h (backward xs) x ∙ ap (option_or x) (latest_is_first h xs) ∙ or_assoc x (first_of xs) h

or_none : (x : Option Answer) → option_or x None ≡ x
or_none None = refl
or_none (Some a) = refl

-- so a loop that goes back over the rows of a tree, with the count and the last fault met, ends with the tree's first fault, or where it has none with the one
-- that the loop began with
pub check_finds : (f : ℕ → Row → Option Answer) (w : ℕ) {g : Forest} → Grown g → (h : Option Answer) → latest h (typed f w 0 (backs g)) ≡ option_or (first_of (codes f w g)) h
unfolding typed
check_finds f w {g} s h =
    ap (λ (z : List Row). latest h (typed f w 0 z)) (sym (append-nil (backs g)))
    ∙ ap (λ (z : List (Option Answer)). latest h z) (typed_codes f w s [] ∙ append-nil (backward (codes f w g)))
    ∙ latest_is_first h (codes f w g)

-- and one that began with none, with the first fault alone
pub check_starts : (f : ℕ → Row → Option Answer) (w : ℕ) {g : Forest} → Grown g → latest None (typed f w 0 (backs g)) ≡ first_of (codes f w g)
check_starts f w {g} s = check_finds f w s None ∙ or_none (first_of (codes f w g))
