use Rattle.std.proofs.Common.{rules, ◌∙◌}
use Rattle.chars.specs.declared.Class.TheVariants.{Ascii}
use Rattle.chars.proofs.Runs.{run_over, not_high}
use Rattle.chars.proofs.past_ascii.Goals as goal

pub returns : goal.returns
returns c =
    let e = c.past_blocks-from.ensures in
    c.past.ensures ∙ run_over Ascii c.args.s.now c.args.at c.past_blocks-from.result e.from e.inside λ i l m. not_high _ (let h = e.passed i 0 l m in search (rules, h))
