use Rattle.salvage.proofs.Lines.{line_word_so}
use Rattle.chars.specs.Texts.{bytes}
use borrow.Author.Rules.{rules}
use Rattle.salvage.proofs.is_line_word.Goals as goal

pub returns : goal.returns
unfolding bytes
returns c = line_word_so _ c.same.ensures c.same-2.ensures c.same-3.ensures c.same-4.ensures c.same-5.ensures
