use Rattle.lp_destructing.proofs.Deed.{destruct_does, nothing_ends}
use Rattle.lp_destructing.proofs.destruct.destruct.Goals as goal

pub returns-in_ok-end-in-Some-clause-does : goal.returns-in_ok-end-in-Some-clause-does
returns-in_ok-end-in-Some-clause-does c = λ caller turn. destruct_does caller c.args.args.now c.args.live.now c.end.new.live turn c.in-Some.ob c.in-Some.ensures.value c.in_ok-end-in-Some.ensures.ends

pub returns-in-None-clause-does : goal.returns-in-None-clause-does
returns-in-None-clause-does c = λ caller turn. nothing_ends caller c.args.args.now c.args.live.now turn c.in-None.ensures.value
