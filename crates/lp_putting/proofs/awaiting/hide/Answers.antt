use Rattle.lp_putting.proofs.Standing.{nothing_hidden, something_hidden}
use Rattle.lp_putting.proofs.awaiting.hide.Goals as goal

pub returns-then-not-hides-clause-ok : goal.returns-then-not-hides-clause-ok
returns-then-not-hides-clause-ok c = nothing_hidden c.args.live.now c.args.number c.args.hides c.if-not-hides.true

pub returns-clause-ok : goal.returns-clause-ok
returns-clause-ok c = something_hidden c.args.live.now c.args.number c.args.hides c.push.new.self c.if-not-hides.false c.in_ok-push.ensures.ok
