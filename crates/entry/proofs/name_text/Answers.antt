use mathlib.Core.Path.{refl}
use Rattle.entry.proofs.Names.{other_kind, ends_early, ends_late, the_name, spanned, at_front}
use Rattle.chars.proofs.Texts.{part_slice}
use borrow.Author.Rules.{rules}
use Rattle.entry.proofs.name_text.Goals as goal

pub returns-then-kind-ne1 : goal.returns-then-kind-ne1
returns-then-kind-ne1 c = at_front c.args.s.now c.args.kind c.args.start c.args.end c.args.s.ref_ptr.0 c.args.s.ref_ptr.1 (other_kind c.args.s.now c.args.kind c.args.start c.args.end c.if-kind-ne1.true) refl

pub returns-then-end-start : goal.returns-then-end-start
returns-then-end-start c = at_front c.args.s.now c.args.kind c.args.start c.args.end c.args.s.ref_ptr.0 c.args.s.ref_ptr.1 (ends_early c.args.s.now c.args.kind c.args.start c.args.end c.if-kind-ne1.false c.if-end-start.true) refl

pub returns-then-s-end : goal.returns-then-s-end
returns-then-s-end c = at_front c.args.s.now c.args.kind c.args.start c.args.end c.args.s.ref_ptr.0 c.args.s.ref_ptr.1 (ends_late c.args.s.now c.args.kind c.args.start c.args.end c.if-kind-ne1.false c.if-end-start.false c.if-s-end.true) refl

pub returns : goal.returns
returns c = spanned c.args.s.now c.args.kind c.args.start c.args.end c.args.s.ref_ptr.0 c.args.s.ref_ptr.1 (the_name c.args.s.now c.args.kind c.args.start c.args.end c.if-kind-ne1.false c.if-end-start.false c.if-s-end.false) (part_slice c.args.start c.args.end c.args.s.now)
