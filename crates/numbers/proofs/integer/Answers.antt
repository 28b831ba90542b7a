use Rattle.std.proofs.Common.{Some, None, ◌∙◌}
use Rattle.numbers.specs.Numbers.{as_integer}
use Rattle.numbers.proofs.Numbers.{figures_le, integer_starts, integer_whole, integer_float, integer_other, integer_fails}
use Rattle.numbers.proofs.integer.Goals as goal

pub returns-then-not-is_digit : goal.returns-then-not-is_digit
returns-then-not-is_digit c = integer_fails c.args.t.now c.byte_at.ensures c.is_digit.ensures c.if-not-is_digit.true

pub split_at-requires : goal.split_at-requires
split_at-requires c = figures_le c.args.t.now c.past.ensures

pub returns-in_err-value : goal.returns-in_err-value
unfolding as_integer
returns-in_err-value c =
    c.from_residual.ensures
    ∙ integer_starts c.args.t.now c.byte_at.ensures c.is_digit.ensures c.if-not-is_digit.false c.past.ensures c.split_at.ensures.front c.split_at.ensures.back c.suffix-suffix.ensures
    (integer_whole _ _ None c.if-suffix-lt-F32.true c.ceiling.ensures c.number_of.ensures c.in_err-value.was)

pub returns-then-suffix-lt-F32 : goal.returns-then-suffix-lt-F32
unfolding as_integer
returns-then-suffix-lt-F32 c =
    integer_starts c.args.t.now c.byte_at.ensures c.is_digit.ensures c.if-not-is_digit.false c.past.ensures c.split_at.ensures.front c.split_at.ensures.back c.suffix-suffix.ensures
    (integer_whole _ _ (Some (_, _)) c.if-suffix-lt-F32.true c.ceiling.ensures c.number_of.ensures c.in_ok-value.was)

pub returns-then-suffix-lt-NO_SUFFIX : goal.returns-then-suffix-lt-NO_SUFFIX
returns-then-suffix-lt-NO_SUFFIX c =
    integer_starts c.args.t.now c.byte_at.ensures c.is_digit.ensures c.if-not-is_digit.false c.past.ensures c.split_at.ensures.front c.split_at.ensures.back c.suffix-suffix.ensures
    (integer_float _ _ c.if-suffix-lt-F32.false c.if-suffix-lt-NO_SUFFIX.true)

pub returns-else-suffix-lt-NO_SUFFIX : goal.returns-else-suffix-lt-NO_SUFFIX
returns-else-suffix-lt-NO_SUFFIX c =
    integer_starts c.args.t.now c.byte_at.ensures c.is_digit.ensures c.if-not-is_digit.false c.past.ensures c.split_at.ensures.front c.split_at.ensures.back c.suffix-suffix.ensures
    (integer_other _ _ c.if-suffix-lt-F32.false c.if-suffix-lt-NO_SUFFIX.false)
