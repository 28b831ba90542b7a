use Rattle.std.proofs.Common.{arith, rules, ◌∙◌}
use Rattle.chars.specs.declared.Class.TheVariants.{Line}
use Rattle.chars.proofs.Runs.{run_over, no_newline}
use Rattle.chars.proofs.past_line.Goals as goal

pub returns : goal.returns
returns c =
    let e = c.past_blocks-from.ensures in
    c.past.ensures ∙ run_over Line c.args.s.now c.args.at c.past_blocks-from.result e.from e.inside λ i l m. no_newline _ (omega (arith, c.type_inv.s i)) (let h = e.passed i 0 l m in search (rules, h))
