use Rattle.std.proofs.Common.{◌≡◌, ◌<◌, ◌≤◌, length, drop}
use Rattle.addresses.specs.Groups.{separator_of, parts, values_of, heard}
use Rattle.addresses.proofs.joined.Given as goal

abbrev pub invariant-loop-part : goal.invariant-loop-part
invariant-loop-part l = record {
  number : heard l.form l.n l.w (values_of l.form (drop (length l.yielded) (parts (separator_of l.form) l.t))) ≡ heard l.form l.count l.fn.wide (values_of l.form (parts (separator_of l.form) l.t));
  few : 0 < length l.yielded → l.n ≤ 8;
}
