use Rattle.std.proofs.Common.{◌∙◌, drop, arith}
use Rattle.lp_door.specs.Doors.{without_dropped}
use Rattle.lp_door.proofs.Dropping.{ended, full}
use Rattle.lp_door.proofs.line.line_of.Goals as goal

pub returns-then-len-eq-MOST-clause-line : goal.returns-then-len-eq-MOST-clause-line
returns-then-len-eq-MOST-clause-line c =
    c.from_vec.ensures ∙ full c.loop-byte.line.items (without_dropped (drop c.loop-byte.byte-index c.args.message.now)) c.args.message.now (omega arith) c.loop-byte.invariant.line

pub returns-clause-line : goal.returns-clause-line
returns-clause-line c =
    c.from_vec-2.ensures ∙ ended c.loop-byte.line.items c.args.message.now c.loop-byte.byte-index c.loop-byte.invariant.short (omega arith) c.loop-byte.invariant.line
