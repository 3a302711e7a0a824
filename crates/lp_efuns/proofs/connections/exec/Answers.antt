use Rattle.lp_efuns.proofs.Handed.{exec_does, exec_from_nothing, exec_to_nothing}
use Rattle.lp_efuns.proofs.connections.exec.Goals as goal

pub returns-in-Some-object_at-clause-does : goal.returns-in-Some-object_at-clause-does
returns-in-Some-object_at-clause-does c = λ caller turn.
    exec_does caller c.args.args.now c.args.live.now c.hand_over.new.live turn c.in-Some.to c.in-Some-object_at.from c.hand_over.result c.in-Some.ensures.value c.in-Some-object_at.ensures.value c.hand_over.ensures.hands

pub returns-in-None-object_at-clause-does : goal.returns-in-None-object_at-clause-does
returns-in-None-object_at-clause-does c = λ caller turn. exec_from_nothing caller c.args.args.now c.args.live.now turn c.in-Some.to c.in-Some.ensures.value c.in-None-object_at.ensures.value

pub returns-in-None-clause-does : goal.returns-in-None-clause-does
returns-in-None-clause-does c = λ caller turn. exec_to_nothing caller c.args.args.now c.args.live.now turn c.in-None.ensures.value
