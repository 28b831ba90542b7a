use Rattle.std.proofs.Common.{◌<◌, length, refl, arith}
use Rattle.texts.proofs.Modes.{scan_starts, scan_goes, scan_stops, scan_ends}
use Rattle.texts.proofs.f_string_part.Goals as goal

pub loop-i-init : goal.loop-i-init
loop-i-init c = record { scan = scan_starts _ _; beyond = λ h. refl }

pub returns-then-not-scanning : goal.returns-then-not-scanning
returns-then-not-scanning c = scan_stops c.loop-i.invariant.scan c.scanning.ensures c.if-not-scanning.true c.ended.ensures

pub loop-i-preserved : goal.loop-i-preserved
loop-i-preserved c = record {
  scan = scan_goes c.loop-i.invariant.scan c.loop-i-test.true c.scanning.ensures c.if-not-scanning.false c.mode_after-mode.ensures;
  beyond = λ h. absurd (omega (arith, h, c.loop-i-test.true));
}

pub returns : goal.returns
returns c = scan_ends c.loop-i.invariant.scan c.loop-i-test.false c.loop-i.invariant.beyond c.ended-2.ensures
