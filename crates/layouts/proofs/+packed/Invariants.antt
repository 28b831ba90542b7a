use lib.ListN.{length}
use Rattle.layouts.proofs.+packed.Given as goal

abbrev pub decreases-packed : goal.decreases-packed
decreases-packed l = length l.words.now
