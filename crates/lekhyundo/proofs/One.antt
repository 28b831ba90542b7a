-- Two answers that the C functions of (a) and (b) permit coincide, and so do the tables; and so do two answers to a float, to a position, to a constant, of C-21, of C-23 and of C-20.
use mathlib.Core.Path.{◌≡◌, sym, ap, ◌∙◌}
use mathlib.Core.List.{List}
use mathlib.Core.Bool.{Bool, true, false}
use Prim.Native.Nat.{ℕ}
use lib.ListN.{length}
use lib.Seq.{sets}
use Rattle.chars.specs.declared.Answer.{Answer}
use Rattle.answers.proofs.Determined.{one_permitted}
use Rattle.literals.specs.declared.Answer as literals
use Rattle.literals.proofs.Answered.{one_answer}
use Rattle.nodes.proofs.Search as nodes
use Rattle.constants.specs.Answers.{Constant}
use Rattle.constants.proofs.Answered as constants
use Rattle.sheets.specs.declared.Checked.{Checked}
use Rattle.sheets.proofs.Answered.{one_check, one_write}
use Rattle.salvage.proofs.One.{one_salvage}
use Rattle.roundtrip.proofs.OneWay.{one_way}
use Rattle.lekhyundo.specs.Numbers.{answer_numbers, float_numbers, constant_numbers, checked_numbers, salvaged_numbers, printed_numbers}
use Rattle.lekhyundo.specs.Entered.{Entered}
use Rattle.lekhyundo.specs.Floated.{Floated}
use Rattle.lekhyundo.specs.Searched.{Searched}
use Rattle.lekhyundo.specs.Evaluated.{Evaluated}
use Rattle.lekhyundo.specs.Tabled.{TableChecked, TableWritten}
use Rattle.lekhyundo.specs.Salvaged.{Salvaged}
use Rattle.lekhyundo.specs.Printed.{Printed}

pub one_entered : (tree : Bool) (s : List ℕ) (size : ℕ) {t u run x y : List ℕ} → Entered tree s size t run x → Entered tree s size u run y → (t ≡ u) × (x ≡ y)
one_entered tree s size {run = run} a b =
    let k = one_permitted false tree s size a.permitted b.permitted in
    (k.1, a.numbers ∙ ap (λ (q : Answer). sets run 0 (answer_numbers q)) k.0 ∙ sym b.numbers)

pub one_floated : (text : List ℕ) {run x y : List ℕ} → Floated text run x → Floated text run y → x ≡ y
one_floated text {run} a b = a.numbers ∙ ap (λ (q : literals.Answer). sets run 0 (float_numbers q)) (one_answer text a.answer b.answer a.permitted b.permitted) ∙ sym b.numbers

pub one_searched : (table : List ℕ) (position : ℕ) {run x y : List ℕ} → Searched table position run x → Searched table position run y → x ≡ y
one_searched table position {run} a b = a.numbers ∙ ap (λ (q : Answer). sets run 0 (answer_numbers q)) (nodes.one_answer table position a.permitted b.permitted) ∙ sym b.numbers

pub one_evaluated : (s : List ℕ) (k size room : ℕ) {t u l m run x y : List ℕ} → Evaluated s k size room t l run x → Evaluated s k size room u m run y → (t ≡ u) × (l ≡ m) × (x ≡ y)
one_evaluated s k size room {run = run} a b =
    let o = constants.one_answer false s k size room a.permitted b.permitted in
    (o.1, o.2, a.numbers ∙ ap (λ (c : Constant). sets run 0 (constant_numbers (length s) c)) o.0 ∙ sym b.numbers)

pub one_table_checked : (file : List ℕ) (size : ℕ) {t u run x y : List ℕ} → TableChecked file size t run x → TableChecked file size u run y → (t ≡ u) × (x ≡ y)
one_table_checked file size {run = run} a b = let k = one_check true file size a.permitted b.permitted in (k.1, a.numbers ∙ ap (λ (q : Checked). sets run 0 (checked_numbers q)) k.0 ∙ sym b.numbers)

pub one_table_written : (s : List ℕ) (size room : ℕ) {t u f g run x y : List ℕ} → TableWritten s size room t f run x → TableWritten s size room u g run y → (t ≡ u) × (f ≡ g) × (x ≡ y)
one_table_written s size room {run = run} a b = let k = one_write false s size room a.permitted b.permitted in (k.1, k.2, a.numbers ∙ ap (λ (q : Answer). sets run 0 (answer_numbers q)) k.0 ∙ sym b.numbers)

pub one_salvaged : (s : List ℕ) (size room : ℕ) {t u l m v w run x y : List ℕ} → Salvaged s size room t l v run x → Salvaged s size room u m w run y → (t ≡ u) × (l ≡ m) × (v ≡ w) × (x ≡ y)
one_salvaged s size room {run = run} a b =
    let k = (one_salvage false s size room).one a.permitted b.permitted in
    (k.2, k.3, k.4, a.numbers ∙ (λ i. sets run 0 (salvaged_numbers (k.0 i) (k.1 i))) ∙ sym b.numbers)

pub one_printed : (s : List ℕ) (size size' size'' : ℕ) {t u p q v w run x y : List ℕ} → Printed s size size' size'' t p v run x → Printed s size size' size'' u q w run y → (t ≡ u) × (p ≡ q) × (v ≡ w) × (x ≡ y)
one_printed s size size' size'' {run = run} a b =
    let k = (one_way s size size' size'').no_other a.permitted b.permitted in
    (k.2, k.3, k.4, a.numbers ∙ (λ i. sets run 0 (printed_numbers (k.0 i) (k.1 i))) ∙ sym b.numbers)
