use mathlib.Core.Path.{refl}
use Rattle.salvage.proofs.Lines.{line_first, line_behind, no_line_there}
use borrow.Author.Rules.{rules}
use Rattle.salvage.proofs.line_at.Goals as goal

pub returns-then-at-eq0 : goal.returns-then-at-eq0
returns-then-at-eq0 c = line_first _ _ c.if-at-eq0.true c.word_at.ensures

pub returns-then-byte_at-eq-NEWLINE : goal.returns-then-byte_at-eq-NEWLINE
returns-then-byte_at-eq-NEWLINE c = line_behind _ _ c.byte_at.ensures c.if-byte_at-eq-NEWLINE.true c.word_at-then-byte_at-eq-NEWLINE.ensures

pub returns : goal.returns
returns c = no_line_there _ _ c.if-at-eq0.false c.byte_at.ensures c.if-byte_at-eq-NEWLINE.false refl
