use Rattle.setter.proofs.Said.{grows, back_in, back_count, back_for}
use Rattle.setter.proofs.entries.read_back.Goals as goal

pub write-sink-requires : goal.write-sink-requires
write-sink-requires c = record { grown = grows c.requires.standing; count_in_bounds = c.requires.count_in_bounds }

pub slice_bounds-copy-end : goal.slice_bounds-copy-end
slice_bounds-copy-end c = back_in c.write-sink.ensures c.zeros-copy.ensures c.requires.standing c.requires.short

pub slice_bounds-old_tree-end : goal.slice_bounds-old_tree-end
slice_bounds-old_tree-end c = back_count c.write-sink.ensures c.zeros-copy.ensures c.requires.standing c.requires.short

pub returns : goal.returns
returns c = back_for c.write-sink.ensures c.zeros-copy.ensures c.requires.short c.old_tree.ensures
