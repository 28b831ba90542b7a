use native.Mathlib.Omega.{arith}
use mathlib.Core.Path.{subst, sym, ◌∙◌}
use lib.Dec.{T}
use Rattle.grammar.specs.Words.{filter_words}
use mathlib.Core.Logic.{inl, inr}
use Rattle.promises.proofs.Declarations.{filter_word, no_declaration, declared_import, undeclared}
use borrow.Author.Rules.{rules}
use Rattle.grammar.specs.Grammar.{one_of}
use Rattle.promises.specs.Firsts.{declaration_firsts}
use Rattle.reader.proofs.declarations.declaration.Goals as goal
use Rattle.reader.proofs.declarations.declaration.Goals.{in_default-via-then-word-lt65, in_default-via-else-word-lt65+else-word-lt67}

pub constant-requires : goal.constant-requires
constant-requires c = (c.requires, sym c.word-word.ensures ∙ c.in-61.is)

pub function-requires : goal.function-requires
function-requires c = (c.requires, sym c.word-word.ensures ∙ c.in-68.is)

pub import-requires : goal.import-requires
import-requires c = (c.requires, sym c.word-word.ensures ∙ c.in-70.is)

pub test-requires : goal.test-requires
test-requires c = (c.requires, sym c.word-word.ensures ∙ c.in-80.is)

pub filter_map-requires : goal.filter_map-requires
filter_map-requires c = (c.requires, subst (λ w. T (one_of w filter_words)) c.word-word.ensures (filter_word _ c.in-65.if-word-lt65-own.false c.in-65.if-word-lt67-own.true))

pub returns-in-61 : goal.returns-in-61
returns-in-61 c = c.constant.ensures

pub returns-in-68 : goal.returns-in-68
returns-in-68 c = c.function.ensures

pub returns-in-70 : goal.returns-in-70
returns-in-70 c = declared_import _ _ _ _ c.requires (sym c.word-word.ensures ∙ c.in-70.is) c.import.ensures

pub returns-in-80 : goal.returns-in-80
returns-in-80 c = c.test.ensures

pub returns-in-65 : goal.returns-in-65
returns-in-65 c = c.filter_map.ensures

pub returns-in_default : goal.returns-in_default
returns-in_default c = undeclared _ _ _ _ c.requires (λ m. no_declaration c.word-word.result (omega arith) (omega arith) (omega arith) (omega arith) (elim c.in_default.branch [ in_default-via-then-word-lt65 z ↦ inl (omega arith) | in_default-via-else-word-lt65+else-word-lt67 z ↦ inr (omega arith) ]) (subst (λ w. T (one_of w declaration_firsts)) (sym c.word-word.ensures) m)) c.unusable.ensures
