use borrow.Author.Rules.{rules}
use Rattle.sheets.proofs.Loads.{section_is}
use Rattle.sheets.proofs.section.Goals as goal

pub returns : goal.returns
returns c = section_is c.args.file.now c.args.unit (search rules) c.in_ok-count.ensures.cases.0 c.in_ok-count.ensures.cases.1 c.from_le_bytes.ensures _ c.split_at_checked.ensures.cases
