use Rattle.std.proofs.Common.{rules}
use Rattle.chars.specs.declared.Class.TheVariants.{NamePart}
use Rattle.chars.proofs.Runs.{run_whole}
use Rattle.chars.proofs.past_name.Goals as goal

pub returns : goal.returns
returns c =
    let e = c.past_those.ensures in
    run_whole NamePart c.args.s.now c.args.at c.past_those.result e.from e.inside (λ i l m. (let h = e.passed i 0 l m in search (rules, h))) λ i. (let h = e.stopped i in search (rules, h))
