use Rattle.std.proofs.Common.{rules}
use Rattle.messages.proofs.put_name.Goals as goal

-- what the closure says of the byte at i
pub returns-clause-bytes : goal.returns-clause-bytes
returns-clause-bytes c = λ i h k. (let p = c.put_each.ensures.bytes i h k in search rules)
