use Rattle.std.proofs.Common.{◌≡◌, ℕ, vec_len, ◌+◌, ◌-◌}
use Rattle.lp_world.specs.Targets.{answer_at}
use Rattle.lp_world.proofs.targets.Targets.grow.Given as goal

abbrev pub invariant-loop-alloc : goal.invariant-loop-alloc
invariant-loop-alloc l = (n k : ℕ) → answer_at l.self n k ≡ answer_at l.fn.self n k

abbrev pub decreases-loop-alloc : goal.decreases-loop-alloc
decreases-loop-alloc l = l.part + 1 - vec_len l.self.parts
