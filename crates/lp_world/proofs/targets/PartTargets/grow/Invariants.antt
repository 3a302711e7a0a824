use Rattle.std.proofs.Common.{◌≡◌, ℕ, vec_len, ◌+◌, ◌-◌}
use Rattle.lp_world.specs.Targets.{slot_answer}
use Rattle.lp_world.proofs.targets.PartTargets.grow.Given as goal

abbrev pub invariant-loop-self : goal.invariant-loop-self
invariant-loop-self l = (k : ℕ) → slot_answer l.self k ≡ slot_answer l.fn.self k

abbrev pub decreases-loop-self : goal.decreases-loop-self
decreases-loop-self l = l.slot + 1 - vec_len l.self.answers
