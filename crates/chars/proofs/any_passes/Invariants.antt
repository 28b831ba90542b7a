use Rattle.std.proofs.Common.{◌≡◌, false}
use Rattle.std.specs.List.{AllWithin}
use Rattle.chars.proofs.any_passes.Given as goal

abbrev pub invariant-loop-b : goal.invariant-loop-b
invariant-loop-b g l = l.any ≡ false → AllWithin (λ b. goal.F-post g l.passes b false) l.block 0 l.b-index
