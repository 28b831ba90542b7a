use mathlib.Core.Path.{refl, ◌∙◌}
use native.Mathlib.Omega.{arith}
use Rattle.sheets.proofs.Stores.{no_words, number_more, all_words, put_longer}
use Rattle.sheets.proofs.put_rows.Goals as goal

pub loop-i-init : goal.loop-i-init
loop-i-init c = (no_words c.args.file.now c.args.numbers.now 8 c.args.at, refl)

pub loop-i-preserved : goal.loop-i-preserved
loop-i-preserved c = (number_more 8 c.args.file.now c.args.numbers.now _ _ c.args.at _ c.loop-i.invariant.0 (omega arith) c.put_long.ensures, put_longer 8 _ _ _ _ c.put_long.ensures ∙ c.loop-i.invariant.1)

pub returns : goal.returns
returns c = all_words 8 c.args.file.now c.args.numbers.now c.loop-i.file c.args.at c.loop-i.i c.loop-i.invariant.0 (omega arith)
