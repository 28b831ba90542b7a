use native.Mathlib.Omega.{arith}
use mathlib.Core.Path.{refl, ap, ◌∙◌}
use Rattle.chars.proofs.Texts.{part_slice}
use Rattle.tokens.specs.Words.{name_word}
use Rattle.grammar.specs.Grammar.{one_of}
use Rattle.salvage.specs.Salvage.{line_words}
use Rattle.salvage.proofs.Lines.{starts_so, word_ends, named, unnamed}
use borrow.Author.Rules.{rules}
use Rattle.salvage.proofs.word_at.Goals as goal

pub slice_bounds-is_line_word-count : goal.slice_bounds-is_line_word-count
slice_bounds-is_line_word-count c = omega (arith, word_ends c.args.s.now c.args.at (omega arith) c.past_name-end.ensures)

pub returns-then-is_letter-b : goal.returns-then-is_letter-b
returns-then-is_letter-b c = named c.args.s.now c.args.at (starts_so _ _ c.byte_at-b.ensures c.is_letter.ensures c.if-is_letter-b.true) c.past_name-end.ensures (c.is_line_word.ensures ∙ ap (λ l. one_of (name_word l) line_words) (part_slice c.args.at c.past_name-end.result c.args.s.now))

pub returns : goal.returns
returns c = unnamed _ _ ((starts_so _ _ c.byte_at-b.ensures c.is_letter.ensures c.if-is_letter-b.false)) refl

pub slice_bounds-is_line_word-start : goal.slice_bounds-is_line_word-start
slice_bounds-is_line_word-start c = omega (arith, word_ends c.args.s.now c.args.at (omega arith) c.past_name-end.ensures)

pub slice_bounds-is_line_word-end : goal.slice_bounds-is_line_word-end
slice_bounds-is_line_word-end c = omega (arith, word_ends c.args.s.now c.args.at (omega arith) c.past_name-end.ensures)
