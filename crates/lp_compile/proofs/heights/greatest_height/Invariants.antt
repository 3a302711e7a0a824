use Rattle.std.proofs.Common.{◌≡◌, ◌+◌, drop}
use Rattle.lp_sound_laws.specs.Heights.{gains}
use Rattle.lp_compile.proofs.heights.greatest_height.Given as goal

abbrev pub invariant-loop-instr : goal.invariant-loop-instr
invariant-loop-instr l = l.total + gains (drop l.instr-index l.instrs) ≡ gains l.instrs
