use Rattle.std.proofs.Common.{subst}
use Rattle.lp_timers.specs.Tree.{KnowsSoonest}
use Rattle.lp_timers.proofs.tree.Tree.soonest.Goals as goal

pub returns-in-Leaf : goal.returns-in-Leaf
returns-in-Leaf c = rw c.in-Leaf.is tt

pub returns-in-Fork : goal.returns-in-Fork
returns-in-Fork c =
    let know = subst KnowsSoonest c.in-Fork.is c.requires in
    rw (c.in-Fork.is, c.deref.ensures) know.0
