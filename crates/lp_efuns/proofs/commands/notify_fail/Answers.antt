use Rattle.std.proofs.Common.{refl}
use Rattle.lp_efuns.proofs.Commanded.{notified}
use Rattle.lp_efuns.proofs.commands.notify_fail.Goals as goal

pub returns-clause-does : goal.returns-clause-does
returns-clause-does c = λ caller. notified caller c.args.args.now c.args.live.now c.args.turn.now _ c.in_ok-fail.fail c.in_ok-fail.ensures refl c.set_fail.ensures
