use Rattle.lp_efuns.proofs.Connected.{nothing_removed, removed_does}
use Rattle.lp_efuns.proofs.connections.remove_interactive.Goals as goal

pub returns-in_ok-hang_up-in-Some-clause-does : goal.returns-in_ok-hang_up-in-Some-clause-does
returns-in_ok-hang_up-in-Some-clause-does c = λ caller turn. removed_does caller c.args.args.now c.args.live.now c.hang_up.new.live turn c.in-Some.o c.in-Some.ensures.value c.in_ok-hang_up-in-Some.ensures.hangs

pub returns-in-None-clause-does : goal.returns-in-None-clause-does
returns-in-None-clause-does c = λ caller turn. nothing_removed caller c.args.args.now c.args.live.now turn c.in-None.ensures.value
