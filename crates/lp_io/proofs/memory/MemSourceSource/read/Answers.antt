use Rattle.std.proofs.Common.{arith, ◌≡◌, ◌-◌, length, take, drop}
use Rattle.std.proofs.lemmas.Grind.{common_steps}
use Rattle.lp_io.proofs.ToldLemmas.{before_giving-copied}
use Rattle.lp_io.proofs.memory.MemSourceSource.read.Goals as goal

pub returns-clause-given : goal.returns-clause-given
returns-clause-given c =
    let left : c.args.self.now.left ≡ drop c.self.inside.at c.self.inside.content = rw (← c.self.view_is) in
    let part : take (length c.as_slice.result.now - c.self.inside.at) (drop c.self.inside.at c.as_slice.result.now) ≡ drop c.self.inside.at c.self.inside.content = rw c.as_slice.ensures (grind (arith, common_steps)) in
    rw left (before_giving-copied _ _ _ _ _ c.self.invariant (rw part at c.copy_front-n.ensures.count) (rw part at c.copy_front-n.ensures.bytes))
