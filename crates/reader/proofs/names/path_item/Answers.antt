use borrow.Author.Tests.{not-true, not-false}
use Rattle.promises.proofs.Tests.{true_so, false_so}
use Rattle.promises.proofs.Alternatives.{path_item_any}
use Rattle.promises.proofs.Paths.{item_read, item_refused}
use borrow.Author.Rules.{rules}
use mathlib.Core.Path.{ap, ◌∙◌}
use Rattle.grammar.specs.Grammar.{one_of}
use Rattle.grammar.specs.Words.{path_items}
use Rattle.reader.proofs.names.path_item.Goals as goal

pub returns-then-not-is_path_item : goal.returns-then-not-is_path_item
returns-then-not-is_path_item c = λ d. item_refused path_item_any _ d _ _ c.requires (false_so (c.is_path_item.ensures ∙ ap (λ w. one_of w path_items) c.word.ensures) c.if-not-is_path_item.true) c.unusable.ensures

pub returns : goal.returns
returns c = let k = true_so (c.is_path_item.ensures ∙ ap (λ w. one_of w path_items) c.word.ensures) c.if-not-is_path_item.false in let i = c.leaf.ensures path_items tt k in λ d. item_read path_item_any _ d _ _ c.requires tt k i.0 i.1
