use Rattle.lp_instr.proofs.Names.{same_letter, other_letter, same_letters, other_lengths}
use Rattle.lp_instr.proofs.efuns.is_name.Goals as goal

pub returns-then-letters-name : goal.returns-then-letters-name
returns-then-letters-name c = other_lengths c.args.letters.now c.args.name.now c.if-letters-name.true

pub returns-then-letters-i : goal.returns-then-letters-i
returns-then-letters-i c = other_letter c.args.letters.now c.args.name.now c.loop-i.i c.index-name-i.result c.loop-i-test.true c.loop-i.invariant.long c.index-name-i.is c.if-letters-i.true c.loop-i.invariant.same

pub loop-i-preserved : goal.loop-i-preserved
loop-i-preserved c = record { same = same_letter c.args.letters.now c.args.name.now c.loop-i.i c.index-name-i.result c.loop-i-test.true c.loop-i.invariant.long c.index-name-i.is c.if-letters-i.false c.loop-i.invariant.same; long = c.loop-i.invariant.long }

pub returns : goal.returns
returns c = same_letters c.args.letters.now c.args.name.now c.loop-i.i c.loop-i-test.false c.loop-i.invariant.long c.loop-i.invariant.same
