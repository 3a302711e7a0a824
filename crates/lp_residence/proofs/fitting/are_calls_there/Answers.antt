use Rattle.std.proofs.Common.{All, pos, subst}
use Rattle.std.proofs.lemmas.List.{take_all}
use Rattle.std.proofs.lemmas.List.Elements.{All-more}
use Rattle.lp_instr.specs.declared.instr.Instr.TheVariants.{PushInt}
use Rattle.lp_residence.specs.Programs.{IsCallThere}
use Rattle.lp_residence.proofs.fitting.are_calls_there.Goals as goal

pub loop-instr-preserved : goal.loop-instr-preserved
loop-instr-preserved c = All-more (IsCallThere c.args.versions.now c.args.parents.now) c.args.instrs.now c.loop-instr.instr-index (PushInt (pos 0)) c.loop-instr-test.true c.loop-instr.invariant c.if-not-is_call_there.ensures

pub returns : goal.returns
returns c = subst (All (IsCallThere c.args.versions.now c.args.parents.now)) (take_all c.loop-instr.instr-index c.args.instrs.now c.loop-instr-test.false) c.loop-instr.invariant
