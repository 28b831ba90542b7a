use Rattle.std.proofs.Common.{◌≡◌, ◌-◌, replicate}
use Rattle.addresses.specs.declared.Form.{Form}
use Rattle.addresses.specs.Groups.{push_all}
use Rattle.addresses.proofs.zeros.Given as goal

abbrev pub invariant-loop : goal.invariant-loop
invariant-loop l = push_all Form.Hexed l.w (replicate (l.count - l.counter) 0) ≡ push_all Form.Hexed l.fn.wide (replicate l.count 0)
