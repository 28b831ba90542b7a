use Rattle.std.proofs.Common.{arith}
use Rattle.tokens.proofs.Rules.{code_keyword, code_one, code_two, code_under, code_same}
use Rattle.tokens.proofs.code_of.Goals as goal

pub returns-in-60-to-18446744073709551615 : goal.returns-in-60-to-18446744073709551615
returns-in-60-to-18446744073709551615 c = code_keyword _ (omega arith)

pub returns-in-40-to-18446744073709551615 : goal.returns-in-40-to-18446744073709551615
returns-in-40-to-18446744073709551615 c = code_one _ (omega arith) (omega arith)

pub returns-in-20-to-18446744073709551615 : goal.returns-in-20-to-18446744073709551615
returns-in-20-to-18446744073709551615 c = code_two _ (omega arith) (omega arith)

pub returns-in-14 : goal.returns-in-14
returns-in-14 c = code_under _ c.in-14.is

pub returns-in_default : goal.returns-in_default
returns-in_default c = code_same _ (omega arith) λ e. absurd (omega (arith, e))
