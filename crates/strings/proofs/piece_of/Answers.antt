use Rattle.strings.proofs.Escapes.{piece_escape, piece_bare, piece_none}
use Rattle.strings.proofs.piece_of.Goals as goal

pub returns-then-b-eq-BACKSLASH : goal.returns-then-b-eq-BACKSLASH
returns-then-b-eq-BACKSLASH c = piece_escape c.args.quote c.args.t.now c.byte_at-b.ensures c.if-b-eq-BACKSLASH.true c.escape.ensures

pub returns-then-bare : goal.returns-then-bare
returns-then-bare c = piece_bare c.args.quote c.args.t.now c.byte_at-b.ensures c.if-b-eq-BACKSLASH.false c.bare.ensures c.if-bare.true

pub returns : goal.returns
returns c = piece_none c.args.quote c.args.t.now c.byte_at-b.ensures c.if-b-eq-BACKSLASH.false c.bare.ensures c.if-bare.false
