use Rattle.lp_ops.proofs.ClosedLemmas.{within_there}
use Rattle.lp_efuns.proofs.carrying.carry.Goals as goal

pub returns-in_default-clause-closed : goal.returns-in_default-clause-closed
returns-in_default-clause-closed c = λ h t.
    let r = c.carry_out.ensures.closed h (within_there c.args.cells.now c.args.effect t) in
    (r.0, c.did_of.ensures.there c.carry_out.new.cells r.1)
