use Rattle.std.proofs.Common.{All, take}
use Rattle.lp_world.specs.Targets.{IsAnswerAmong}
use Rattle.lp_world.proofs.targets.are_among.Given as goal

abbrev pub invariant-loop-answer : goal.invariant-loop-answer
invariant-loop-answer l = All (IsAnswerAmong l.counts) (take l.answer-index l.answers)
