use Rattle.std.proofs.Common.{◌∙◌}
use Rattle.lp_instr.proofs.Names.{same_letter, other_letter, same_letters, other_lengths}
use Rattle.lp_types_expr.proofs.NamesPut.{turned}
use Rattle.lp_types_expr.proofs.simuls.is_name.Goals as goal

pub returns-then-bytes-name : goal.returns-then-bytes-name
returns-then-bytes-name c = other_lengths c.args.bytes.now c.args.name.now c.if-bytes-name.true ∙ turned c.args.bytes.now c.args.name.now

pub returns-then-bytes-i : goal.returns-then-bytes-i
returns-then-bytes-i c = other_letter c.args.bytes.now c.args.name.now c.loop-i.i c.index-name-i.result c.loop-i-test.true c.loop-i.invariant.long c.index-name-i.is c.if-bytes-i.true c.loop-i.invariant.same ∙ turned c.args.bytes.now c.args.name.now

pub loop-i-preserved : goal.loop-i-preserved
loop-i-preserved c = record { same = same_letter c.args.bytes.now c.args.name.now c.loop-i.i c.index-name-i.result c.loop-i-test.true c.loop-i.invariant.long c.index-name-i.is c.if-bytes-i.false c.loop-i.invariant.same; long = c.loop-i.invariant.long }

pub returns : goal.returns
returns c = same_letters c.args.bytes.now c.args.name.now c.loop-i.i c.loop-i-test.false c.loop-i.invariant.long c.loop-i.invariant.same ∙ turned c.args.bytes.now c.args.name.now
