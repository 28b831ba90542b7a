use Rattle.addresses.proofs.Parts.{leading, alone, not_led, octet_zero, octet_is, hexed_is}
use mathlib.Core.Path.{refl}
use Rattle.addresses.proofs.group.Goals.{else-is_long-via-then-is_long+else-byte_at-eq-ZERO, else-is_long-via-else-is_long}
use Rattle.addresses.proofs.group.Goals as goal

pub returns-then-byte_at-eq-ZERO : goal.returns-then-byte_at-eq-ZERO
returns-then-byte_at-eq-ZERO c = octet_zero c.args.t.now c.in-Dotted.is c.byte_at.ensures (leading c.if-is_long.true c.if-byte_at-eq-ZERO.true)

pub returns-else-is_long : goal.returns-else-is_long
returns-else-is_long c = elim c.else-is_long.branch [
  | else-is_long-via-then-is_long+else-byte_at-eq-ZERO w ↦ octet_is c.args.t.now c.in-Dotted.is w.byte_at.ensures (not_led _ w.if-byte_at-eq-ZERO.false) c.number_of.ensures c.short.ensures
  | else-is_long-via-else-is_long w ↦ octet_is c.args.t.now c.in-Dotted.is refl (alone _ w.if-is_long.false) c.number_of.ensures c.short.ensures
]

pub returns-in-Hexed : goal.returns-in-Hexed
returns-in-Hexed c = hexed_is c.args.t.now c.in-Hexed.is c.number_of-in-Hexed.ensures c.short-in-Hexed.ensures
