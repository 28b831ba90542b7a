use mathlib.Core.Path.{refl}
use Rattle.words.proofs.Tests.{filter_second}
use Rattle.reader.proofs.declarations.filter_detail.Goals as goal

pub returns-then-word-eq-FILTER : goal.returns-then-word-eq-FILTER
returns-then-word-eq-FILTER c = rw c.if-word-eq-FILTER.true refl

pub returns-else-word-eq-FILTER : goal.returns-else-word-eq-FILTER
returns-else-word-eq-FILTER c = filter_second _ c.requires c.if-word-eq-FILTER.false
