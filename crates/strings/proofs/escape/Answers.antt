use Rattle.std.proofs.Common.{arith}
use Rattle.strings.proofs.Escapes.{escape_ascii, escape_unicode, escape_plain}
use Rattle.strings.proofs.escape.Goals as goal

pub returns-in-120 : goal.returns-in-120
returns-in-120 c = escape_ascii c.args.t.now c.byte_at-b.ensures c.in-120.is c.ascii.ensures

pub returns-in-117 : goal.returns-in-117
returns-in-117 c = escape_unicode c.args.t.now c.byte_at-b.ensures (λ e. omega arith) c.in-117.is c.unicode.ensures

pub returns-in_default : goal.returns-in_default
returns-in_default c = escape_plain c.args.t.now c.byte_at-b.ensures (λ e. omega arith) (λ e. omega arith) c.simple.ensures
