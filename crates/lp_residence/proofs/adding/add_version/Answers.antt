use Rattle.std.proofs.Common.{subst, sym}
use Rattle.lp_world.specs.Closed.{IsClosed}
use Rattle.lp_residence.proofs.Added.{version_closed, version_new}
use Rattle.lp_residence.proofs.adding.add_version.Goals as goal

pub returns-in_err-number-clause-closed : goal.returns-in_err-number-clause-closed
returns-in_err-number-clause-closed c = subst (λ vs. IsClosed (record c.args.live.now { versions = vs })) (sym c.in_err-number.ensures.err) c.requires.closed

pub returns-clause-ok : goal.returns-clause-ok
returns-clause-ok c =
    version_new c.args.live.now c.args.path c.args.program c.in_ok-number.number c.add.new.self c.keep_right.new.versions c.in_ok-number.ensures.number c.in_ok-number.ensures.ok
    c.keep_right.result c.keep_right.ensures.same

pub returns-clause-closed : goal.returns-clause-closed
returns-clause-closed c =
    version_closed c.args.live.now c.args.path c.args.program c.in_ok-number.number c.add.new.self c.keep_right.new.versions c.in_ok-number.ensures.number c.in_ok-number.ensures.ok
    c.keep_right.result c.requires.closed c.keep_right.ensures.same c.keep_right.ensures.right c.keep_right.ensures.err
