use Rattle.layouts.proofs.Packs.{closed_so}
use Rattle.layouts.proofs.Says.{behind_fits}
use Rattle.layouts.proofs.ending.Goals as goal

pub packed-requires : goal.packed-requires
packed-requires c = let r = c.args.row in rw c.last_words.ensures (closed_so _ c.args.pair _ (behind_fits r.kind r.value r.detail c.args.phase c.args.more) c.parenthesis.ensures).1

pub returns : goal.returns
returns c = let r = c.args.row in rw (c.packed.ensures, c.last_words.ensures) (closed_so _ c.args.pair _ (behind_fits r.kind r.value r.detail c.args.phase c.args.more) c.parenthesis.ensures).0
