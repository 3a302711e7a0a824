use Rattle.std.proofs.Common.{All, take}
use Rattle.lp_world.specs.Targets.{AreAllAmong}
use Rattle.lp_world.specs.declared.targets.PartTargets.{PartTargets}
use Rattle.lp_world.proofs.targets.Targets.are_among.Given as goal

abbrev pub invariant-loop-part : goal.invariant-loop-part
invariant-loop-part l = All (λ (p : PartTargets). AreAllAmong l.counts p.answers.items) (take l.part-index l.self.parts.items)
