use Rattle.std.proofs.Common.{Some, ap, ◌≡◌, ◌<◌, ◌+◌, ◌*◌, arith, ◌∙◌}
use Rattle.numbers.proofs.Digits.{add_more, add_over, add_bad}
use Rattle.numbers.proofs.add.Goals as goal

pub returns-then-radix-d : goal.returns-then-radix-d
returns-then-radix-d c = add_bad _ _ _ _ c.radix-radix.ensures c.if-radix-d.true

pub returns-in_err-checked_mul : goal.returns-in_err-checked_mul
returns-in_err-checked_mul c =
    let wide : c.args.value * c.radix-radix.result < 18446744073709551616 → ⊥ = c.in_err-checked_mul.ensures in
    c.from_residual.ensures ∙ add_over _ _ _ _ c.radix-radix.ensures (omega (arith, c.ranges.limit))

pub returns-in_err-sum : goal.returns-in_err-sum
returns-in_err-sum c =
    let wide : c.in_ok-checked_mul.field-0 + c.args.d < 18446744073709551616 → ⊥ = c.in_err-sum.ensures in
    let product : c.in_ok-checked_mul.field-0 ≡ c.args.value * c.radix-radix.result = c.in_ok-checked_mul.ensures.1 in
    c.from_residual-in_err-sum.ensures ∙ add_over _ _ _ _ c.radix-radix.ensures (omega (arith, c.ranges.limit))

pub returns-then-sum-limit : goal.returns-then-sum-limit
returns-then-sum-limit c =
    let sum : c.in_ok-sum.sum ≡ c.in_ok-checked_mul.field-0 + c.args.d = c.in_ok-sum.ensures.1 in
    let product : c.in_ok-checked_mul.field-0 ≡ c.args.value * c.radix-radix.result = c.in_ok-checked_mul.ensures.1 in
    let whole : c.in_ok-sum.sum ≡ c.args.value * c.radix-radix.result + c.args.d = omega arith in
    ap Some whole ∙ add_more _ _ _ _ c.radix-radix.ensures c.if-radix-d.false (omega arith)

pub returns-else-sum-limit : goal.returns-else-sum-limit
returns-else-sum-limit c =
    let sum : c.in_ok-sum.sum ≡ c.in_ok-checked_mul.field-0 + c.args.d = c.in_ok-sum.ensures.1 in
    let product : c.in_ok-checked_mul.field-0 ≡ c.args.value * c.radix-radix.result = c.in_ok-checked_mul.ensures.1 in
    add_over _ _ _ _ c.radix-radix.ensures (omega arith)
