use Rattle.std.proofs.Common.{◌≡◌, ◌<◌, length}
use Rattle.texts.specs.declared.Mode.TheVariants.{Text}
use Rattle.texts.proofs.Modes.{Scan}
use Rattle.texts.proofs.f_string_part.Given as goal

abbrev pub invariant-loop-i : goal.invariant-loop-i
invariant-loop-i l = record {
  scan : Scan l.s l.at l.i l.mode;
  beyond : length l.s < l.i → l.mode ≡ Text;
}
