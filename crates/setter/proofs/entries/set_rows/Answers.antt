use mathlib.Core.Path.{◌∙◌}
use lib.ListN.{length}
use Rattle.setter.proofs.Said.{grows, spoken, rows_room, set_fits, set_refused}
use borrow.Author.Rules.{rules}
use Rattle.setter.proofs.entries.set_rows.Goals as goal

pub write-sink-requires : goal.write-sink-requires
write-sink-requires c = record { grown = grows c.requires.standing; count_in_bounds = c.requires.count_in_bounds }

pub judged-a-requires : goal.judged-a-requires
judged-a-requires c = record { standing = c.requires.standing; count_in_bounds = search rules; spoken = spoken (length c.args.text.now) c.write-sink.ensures c.requires.text_value }

pub tests-requires : goal.tests-requires
tests-requires c = rows_room c.requires.standing

pub returns-then-a-eq-NONE : goal.returns-then-a-eq-NONE
returns-then-a-eq-NONE c = set_fits c.write-sink.ensures c.requires.text_value c.judged-a.ensures c.write-sink.auto.text c.if-a-eq-NONE.true (c.with_tests.ensures.0, c.with_tests.ensures.1 ∙ c.tests.ensures)

pub returns : goal.returns
returns c = set_refused c.judged-a.ensures c.write-sink.auto.text c.if-a-eq-NONE.false c.with_tests-2.ensures
