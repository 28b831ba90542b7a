use Rattle.strings.proofs.Quotes.{unopened, opened}
use Rattle.strings.proofs.inside.Goals as goal

pub returns-in_err-strip_prefix : goal.returns-in_err-strip_prefix
returns-in_err-strip_prefix c = unopened c.args.quote c.args.t.now c.from_residual.ensures c.in_err-strip_prefix.ensures.cases

pub returns : goal.returns
returns c = opened c.args.quote c.args.t.now c.in_ok-strip_prefix.ensures.cases.0 c.in_ok-strip_prefix.ensures.cases.1 c.strip_suffix.result c.strip_suffix.ensures.cases
