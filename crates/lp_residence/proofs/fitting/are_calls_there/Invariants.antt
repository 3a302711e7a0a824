use Rattle.std.proofs.Common.{All, take}
use Rattle.lp_residence.specs.Programs.{IsCallThere}
use Rattle.lp_residence.proofs.fitting.are_calls_there.Given as goal

abbrev pub invariant-loop-instr : goal.invariant-loop-instr
invariant-loop-instr l = All (IsCallThere l.versions l.parents) (take l.instr-index l.instrs)
