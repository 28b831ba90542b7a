use Rattle.std.proofs.Common.{◌≡◌, ◌-◌, ◌+◌, ap, ◌∙◌, arith, replicate}
use Rattle.addresses.specs.declared.Form.{Form}
use Rattle.addresses.specs.Groups.{push_all}
use Rattle.addresses.proofs.Sides.{zeros_more, zeros_done}
use Rattle.addresses.proofs.zeros.Goals as goal

pub loop-init : goal.loop-init
loop-init c = let whole : c.args.count - 0 ≡ c.args.count = omega arith in ap (λ n. push_all Form.Hexed c.args.wide (replicate n 0)) whole

pub loop-preserved : goal.loop-preserved
loop-preserved c =
    let left : c.args.count - (c.loop.counter + 1) ≡ c.args.count - c.loop.counter - 1 = omega arith in
    ap (λ n. push_all Form.Hexed c.push-w.result (replicate n 0)) left
    ∙ ap (λ x. push_all Form.Hexed x (replicate (c.args.count - c.loop.counter - 1) 0)) c.push-w.ensures
    ∙ zeros_more c.loop.w (c.args.count - c.loop.counter) (omega arith)
    ∙ c.loop.invariant

pub returns : goal.returns
returns c = zeros_done c.loop.w (c.args.count - c.loop.counter) (omega arith) ∙ c.loop.invariant
