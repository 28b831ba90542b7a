use mathlib.Core.Path.{◌∙◌}
use Rattle.places.specs.Meant.{meant}
use Rattle.layouts.proofs.Levels.{under_low}
use Rattle.layouts.proofs.Packs.{says_so}
use Rattle.layouts.proofs.Says.{before_fits}
use Rattle.layouts.proofs.waiting_child.Goals as goal

pub packed-requires : goal.packed-requires
packed-requires c = let r = c.args.row in rw c.words_before.ensures (says_so _ (before_fits r.kind r.value r.detail c.args.phase c.args.child)).1

pub waiting-requires : goal.waiting-requires
waiting-requires c =
    let r = c.args.row in
    let k = says_so _ (before_fits r.kind r.value r.detail c.args.phase c.args.child) in
    record { words_lt_past_three = rw (c.packed.ensures, c.words_before.ensures) k.1; level_bound = under_low r.kind r.value r.detail (meant c.args.c) c.args.phase c.args.child c.args.more _ c.place_under.ensures }

pub returns : goal.returns
returns c =
    let r = c.args.row in
    let k = says_so _ (before_fits r.kind r.value r.detail c.args.phase c.args.child) in
    (c.waiting.ensures.0 ∙ c.place_under.ensures, c.waiting.ensures.1 ∙ rw (c.packed.ensures, c.words_before.ensures) k.0)
