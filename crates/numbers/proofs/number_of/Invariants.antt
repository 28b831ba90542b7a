use Rattle.std.proofs.Common.{◌≡◌, ◌≤◌}
use Rattle.numbers.specs.Digits.{number_from, number_of, radix_of, plain}
use Rattle.numbers.proofs.Digits.{left}
use Rattle.numbers.proofs.number_of.Given as goal

abbrev pub invariant-loop-b : goal.invariant-loop-b
invariant-loop-b l = record {
  number : number_from (radix_of l.base) l.limit l.value l.digits (left l.gaps l.t l.b-index) ≡ number_of l.base l.limit (plain l.gaps l.t);
  most : l.value ≤ l.limit;
  count : l.digits ≤ l.b-index;
}
