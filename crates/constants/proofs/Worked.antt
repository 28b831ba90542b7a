-- Worked constants: the sources of docs/DECISIONS.md, M1 to M10, each integer type and each operator, by computation. By `one_answer` no other answer is permitted.
use Rattle.std.specs.Prelude.{Ok, Err}
use mathlib.Core.Path.{◌≡◌, refl, sym}
use mathlib.Core.List.{List, [], ◌∷◌}
use mathlib.Core.Bool.{Bool, true, false, cond}
use mathlib.Core.Option as maybe
use Prim.Native.Nat.{ℕ, ◌/◌}
use Prim.Native.String.{String}
use native.Mathlib.Omega.{arith}
use lib.Dec.{eqb}
use lib.IntN.{negsuc}
use lib.Ieee.{fin, of_bits, round, to_bits, add, sub, mul, div, rem, neg, units, odd, size, span, climb, of_fields, nan_bits}
use lib.Count.{count_trailing_zeros}
use borrow.Author.Tests.{eqb-true}
use Rattle.chars.specs.Texts.{bytes}
use Rattle.answers.specs.Compute.{Outcome, outcome}
use Rattle.answers.proofs.Computed.{outcome_means}
use Rattle.answers.proofs.Opened.{lexer, values, reader}
use Rattle.floats.specs.Bits.{bits_of}
use Rattle.literals.specs.Decimals.{digits_at, before, after, from_first, few}
use Rattle.literals.specs.Answers.{row_for, row_of, width_of, float_row, alone_of}
use Rattle.wholes.specs.Wholes.{lowest, standing, number, or_none, quotient_of, remainder_of}
use Rattle.machine.specs.declared.Value.{Value}
use Rattle.machine.specs.Values.{op_of, integer_of, literal_value, negated_of, single_of, part_of, whole_of, order_of, float_of, join_of, wholes_of, numbers_of, floats_of, truths_of, double_of}
use Rattle.machine.specs.Machine.{topped, double_on, single_on, step_of, after as goes_on, ended, exec, wide}
use Rattle.constants.specs.Types.{compares, under, type_of, text_at, named_of, declared_of, number_for, bits_for, float_number, float_bits, fine, integer_fault, float_fault, operator_fault, fault_number}
use Rattle.constants.specs.Meaning.{held_of}
use Rattle.constants.specs.Lists.{instr_of, fault_of, first_of}
use Rattle.constants.specs.Answers.{Constant, refusal, is_constant, Permitted}
use Rattle.constants.specs.Steps.{backward, wanted_of, left_of, typed, backs_from, latest, fault_at, codes_at, ran_to, run_at, checked_at, typed_at, declared_at, sized_at, worked_at, found_from, numbered_at}
use Rattle.constants.proofs.Answered.{answer_by}

-- what a computation goes through
unfoldable steps : Unit {0}
unfolding of_bits round to_bits add sub mul div rem neg units odd size span climb of_fields nan_bits count_trailing_zeros bits_of digits_at before after from_first few row_for row_of width_of float_row alone_of lowest standing number or_none quotient_of remainder_of op_of integer_of literal_value negated_of single_of part_of whole_of order_of float_of join_of wholes_of numbers_of floats_of truths_of double_of topped double_on single_on step_of goes_on ended exec compares under type_of text_at named_of declared_of number_for bits_for float_number float_bits fine integer_fault float_fault operator_fault fault_number held_of instr_of fault_of first_of is_constant backward wanted_of left_of typed backs_from latest fault_at codes_at ran_to run_at checked_at typed_at declared_at sized_at worked_at found_from numbered_at
steps = tt

-- a source, a constant's number, how many numbers are lent for the list; the constant
pub record Case : Type 0 where
  pub source : String
  pub number : ℕ
  pub list : ℕ
  pub constant : Constant

-- numbers lent for rows, and steps enough for any source here
abbrev pub lent : ℕ
lent = 300

abbrev fuel : ℕ
fuel = 1000

abbrev from : Case → maybe.Option Outcome → maybe.Option Constant
from c maybe.none = maybe.none
from c (maybe.some o) = cond (eqb o.answer.number 0) (maybe.some (numbered_at (bytes c.source) (c.list / wide) o.table (found_from o.table 0 o.answer.count c.number))) maybe.none

unfoldable computed : List Case → List (maybe.Option Constant)
computed [] = []
computed (c ∷ cs) = from c (outcome (bytes c.source) lent fuel false true) ∷ computed cs

unfoldable stated : List Case → List (maybe.Option Constant)
stated [] = []
stated (c ∷ cs) = maybe.some c.constant ∷ stated cs

-- each has its constant
abbrev pub Has : Case → Type 0
Has c = (T : List ℕ) × (L : List ℕ) × Permitted false (bytes c.source) c.number lent c.list c.constant T L

abbrev pub Each : List Case → Type 0
Each [] = Unit {0}
Each (c ∷ cs) = Has c × Each cs

has : (c : Case) (o : maybe.Option Outcome) → outcome (bytes c.source) lent fuel false true ≡ o → from c o ≡ maybe.some c.constant → Has c
has c maybe.none e q = let z : ◌≡◌ {A = ℕ} 0 1 = cc in absurd (omega arith)
has c (maybe.some o) e q = go (eqb o.answer.number 0) refl q
  where
    go : (b : Bool) → eqb o.answer.number 0 ≡ b → cond b (maybe.some (numbered_at (bytes c.source) (c.list / wide) o.table (found_from o.table 0 o.answer.count c.number))) maybe.none ≡ maybe.some c.constant → Has c
    go true z r =
        let k : numbered_at (bytes c.source) (c.list / wide) o.table (found_from o.table 0 o.answer.count c.number) ≡ c.constant = cc in
        answer_by false (bytes c.source) c.number lent c.list (outcome_means (bytes c.source) lent fuel false true e) (eqb-true o.answer.number 0 z) c.constant (sym k)
    go false z r = let y : ◌≡◌ {A = ℕ} 0 1 = cc in absurd (omega arith)

each_has : (cs : List Case) → computed cs ≡ stated cs → Each cs
unfolding computed stated
each_has [] e = tt
each_has (c ∷ cs) e =
    let a : from c (outcome (bytes c.source) lent fuel false true) ≡ maybe.some c.constant = cc in
    let b : computed cs ≡ stated cs = cc in
    (has c (outcome (bytes c.source) lent fuel false true) refl a, each_has cs b)

abbrev is : String → Value → ℕ → ℕ → Case
is t v w n = record { source = t; number = 0; list = 60; constant = Ok (record { value = v; ty = w; count = n }) }

abbrev fails : String → ℕ → ℕ → ℕ → Case
fails t n a e = record { source = t; number = 0; list = 60; constant = refusal n a e }

unfoldable pub worked : List Case
worked =
    -- M1: i64 without suffixes under a comparison
    fails "const A: bool = 1i64 == 1;" 15 16 20 ∷
    fails "const A: bool = 2 + 1i64 == 3;" 15 20 24 ∷
    is "const A: bool = 9223372036854775807 + 1 < 0;" (Value.Truth true) 12 5 ∷
    -- M2: the parent's type, handed down through every row
    fails "const A: u8 = 1 && 2;" 15 14 20 ∷
    fails "const A: u8 = if true {1} else {2};" 15 17 21 ∷
    -- M3: the first row in table order
    fails "const A: u8 = a.b;" 15 14 15 ∷
    fails "const A: u8 = -300;" 15 15 18 ∷
    fails "const A: u8 = {1};" 15 14 17 ∷
    -- M4: literals that fit, alone
    fails "const A: i8 = -128;" 15 15 18 ∷
    is "const A: i8 = -127 - 1;" (Value.Whole 128) 1 4 ∷
    fails "const A: u16 = 1u8;" 15 15 18 ∷
    fails "const A: f64 = 1;" 15 15 16 ∷
    -- wrapping, division toward zero, the least number by -1
    is "const A: u8 = 200 + 100;" (Value.Whole 44) 5 3 ∷
    is "const A: i8 = -7 / 2;" (Value.Whole 253) 1 4 ∷
    is "const A: i8 = -7 % 2;" (Value.Whole 255) 1 4 ∷
    is "const A: i8 = (-127 - 1) / -1;" (Value.Whole 128) 1 7 ∷
    -- each type at its width
    is "const A: i16 = 32767 + 1;" (Value.Whole 32768) 2 3 ∷
    is "const A: i32 = 2147483647 + 1;" (Value.Whole 2147483648) 3 3 ∷
    is "const A: i64 = 9223372036854775807 + 1;" (Value.Whole 9223372036854775808) 4 3 ∷
    is "const A: u16 = 65535 + 1;" (Value.Whole 0) 6 3 ∷
    is "const A: u32 = 4294967295 + 1;" (Value.Whole 0) 7 3 ∷
    is "const A: u64 = 18446744073709551615u64 + 1;" (Value.Whole 0) 8 3 ∷
    -- each operator
    is "const A: u8 = 3 * 5;" (Value.Whole 15) 5 3 ∷
    is "const A: bool = true && false;" (Value.Truth false) 12 3 ∷
    is "const A: bool = true || false;" (Value.Truth true) 12 3 ∷
    is "const A: bool = 1 == 2;" (Value.Truth false) 12 3 ∷
    is "const A: bool = 1 == 1;" (Value.Truth true) 12 3 ∷
    is "const A: bool = 2 == 1;" (Value.Truth false) 12 3 ∷
    is "const A: bool = 1 != 2;" (Value.Truth true) 12 3 ∷
    is "const A: bool = 1 != 1;" (Value.Truth false) 12 3 ∷
    is "const A: bool = 2 != 1;" (Value.Truth true) 12 3 ∷
    is "const A: bool = 1 < 2;" (Value.Truth true) 12 3 ∷
    is "const A: bool = 1 < 1;" (Value.Truth false) 12 3 ∷
    is "const A: bool = 2 < 1;" (Value.Truth false) 12 3 ∷
    is "const A: bool = 1 <= 2;" (Value.Truth true) 12 3 ∷
    is "const A: bool = 1 <= 1;" (Value.Truth true) 12 3 ∷
    is "const A: bool = 2 <= 1;" (Value.Truth false) 12 3 ∷
    is "const A: bool = 1 > 2;" (Value.Truth false) 12 3 ∷
    is "const A: bool = 1 > 1;" (Value.Truth false) 12 3 ∷
    is "const A: bool = 2 > 1;" (Value.Truth true) 12 3 ∷
    is "const A: bool = 1 >= 2;" (Value.Truth false) 12 3 ∷
    is "const A: bool = 1 >= 1;" (Value.Truth true) 12 3 ∷
    is "const A: bool = 2 >= 1;" (Value.Truth true) 12 3 ∷
    -- M5: the list's room; M6: the number of a constant
    record { source = "const A: u8 = 1 + 2;"; number = 0; list = 14; constant = Err (record { number = 10; start = 0; end = 0; count = 3 }) } ∷
    record { source = "import a; const A: u8 = 1; fn f() {} const B: u8 = 2;"; number = 1; list = 60; constant = Ok (record { value = (Value.Whole 2); ty = 5; count = 1 }) } ∷
    record { source = "const A: u8 = 1;"; number = 1; list = 60; constant = refusal 15 0 0 } ∷
    -- M7: another declared type
    fails "const A: u8? = 1;" 15 9 12 ∷
    fails "const A: f32 = 1;" 15 9 12 ∷
    -- M8: 14 at one row
    fails "const A: u8 = 12345678901234567890.0;" 14 14 36 ∷
    fails "const A: f64 = 1 + 12345678901234567890.0;" 15 15 16 ∷
    -- M9: floats
    is "const A: f64 = -5.5 % 2.0;" (Value.Float (fin true 3 (negsuc 0))) 10 4 ∷
    -- M10: the first zero divisor when run
    fails "const A: bool = true || 1 / 0 == 1;" 16 24 29 ∷
    []

worked_computed : computed worked ≡ stated worked
unfolding lexer values reader steps computed stated worked
worked_computed = refl

pub worked_constants : Each worked
worked_constants = each_has worked worked_computed
