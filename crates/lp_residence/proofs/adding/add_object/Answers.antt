use Rattle.std.proofs.Common.{subst, sym}
use Rattle.lp_world.specs.Closed.{IsClosed}
use Rattle.lp_residence.specs.Adding.{AreRight}
use Rattle.lp_residence.proofs.Added.{object_closed}
use Rattle.lp_residence.proofs.adding.add_object.Goals as goal

pub returns-in-Ok-clause-closed : goal.returns-in-Ok-clause-closed
returns-in-Ok-clause-closed c =
    let right = subst (λ vs. AreRight c.args.live.now c.args.program vs) c.as_slice.ensures c.if-not-are_variables_right.ensures in
    object_closed c.args.live.now c.args.program c.args.variables c.add.new.self c.name_new.new.live c.in-Ok.ensures.ok c.name_new.result c.requires.closed right c.name_new.ensures.ok c.name_new.ensures.err

pub returns-in-Err-clause-closed : goal.returns-in-Err-clause-closed
returns-in-Err-clause-closed c = subst (λ rows. IsClosed (record c.args.live.now { objects = rows })) (sym c.in-Err.ensures.err) c.requires.closed
