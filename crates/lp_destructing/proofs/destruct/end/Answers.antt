use Rattle.std.proofs.lemmas.Result.{on_ok_weaker}
use Rattle.lp_destructing.proofs.Ended.{closed_told, ends_quietly, ends_told, variables_kept}
use Rattle.lp_destructing.proofs.destruct.end.Goals as goal

pub returns-in-Some-clause-ends : goal.returns-in-Some-clause-ends
returns-in-Some-clause-ends c =
    on_ok_weaker c.push.result
    (ends_told c.args.live.now c.destroy.new.live c.args.ob c.destroy.result c.requires.live c.destroy.ensures.outputs c.destroy.ensures.stands c.in-Some.number c.push.new.self c.in-Some.is) c.push.ensures.ok

pub returns-in-Some-clause-closed : goal.returns-in-Some-clause-closed
returns-in-Some-clause-closed c = closed_told c.destroy.new.live c.push.new.self c.destroy.ensures.closed

pub returns-in-Some-clause-variables : goal.returns-in-Some-clause-variables
returns-in-Some-clause-variables c = variables_kept c.args.live.now.objects c.destroy.new.live.objects c.args.ob c.destroy.ensures.row

pub returns-in-None-clause-ends : goal.returns-in-None-clause-ends
returns-in-None-clause-ends c = ends_quietly c.args.live.now c.destroy.new.live c.args.ob c.destroy.result c.requires.live c.destroy.ensures.outputs c.destroy.ensures.stands c.in-None.is

pub returns-in-None-clause-variables : goal.returns-in-None-clause-variables
returns-in-None-clause-variables c = variables_kept c.args.live.now.objects c.destroy.new.live.objects c.args.ob c.destroy.ensures.row
