use Rattle.lp_efuns.proofs.Changed.{throw_does}
use Rattle.lp_efuns.proofs.changes.thrown.Goals as goal

pub returns-clause-does : goal.returns-clause-does
returns-clause-does c = λ caller turn. throw_does caller c.args.args.now c.args.live.now turn c.in_ok-value_at.field-0 c.in_ok-value_at.ensures.value
