use borrow.Author.Tests.{not-true, not-false}
use Rattle.promises.proofs.Tests.{true_so, false_so}
use Rattle.promises.proofs.Alternatives.{name_any, field_name_any}
use Rattle.promises.proofs.Paths.{item_read, item_refused}
use borrow.Author.Rules.{rules}
use mathlib.Core.Path.{ap, ◌∙◌}
use Rattle.grammar.specs.Grammar.{one_of}
use Rattle.grammar.specs.Words.{names}
use Rattle.reader.proofs.names.identifier.Goals as goal

pub returns-then-not-is_name : goal.returns-then-not-is_name
returns-then-not-is_name c = (λ d. item_refused name_any _ d _ _ c.requires (false_so (c.is_name.ensures ∙ ap (λ w. one_of w names) c.word.ensures) c.if-not-is_name.true) c.unusable.ensures, λ d. item_refused field_name_any _ d _ _ c.requires (false_so (c.is_name.ensures ∙ ap (λ w. one_of w names) c.word.ensures) c.if-not-is_name.true) c.unusable.ensures)

pub returns : goal.returns
returns c = let k = true_so (c.is_name.ensures ∙ ap (λ w. one_of w names) c.word.ensures) c.if-not-is_name.false in let i = c.leaf.ensures names tt k in (λ d. item_read name_any _ d _ _ c.requires tt k i.0 i.1, λ d. item_read field_name_any _ d _ _ c.requires tt k i.0 i.1)
