use Rattle.std.proofs.lemmas.Result.{IfOk-weaker}
use Rattle.std.proofs.Common.{None, Some}
use Rattle.lp_calling.proofs.Audiences.{lies_so, says_in, says_nowhere}
use Rattle.lp_calling.proofs.audience.say_by.Goals as goal

pub returns-in_ok-audience-in-Some-clause-says : goal.returns-in_ok-audience-in-Some-clause-says
returns-in_ok-audience-in-Some-clause-says c =
    let a = c.args in
    IfOk-weaker c.enter_audience.result _ _
    (λ t k. λ turn this sp. says_in a.live.now c.enter_audience.new.live turn a.o this c.in-Some.place a.text c.in_ok-audience-in-Some.audience t sp (lies_so a.live.now a.o (Some c.in-Some.place) c.in-Some.ensures) c.in_ok-audience-in-Some.ensures (k turn)) c.enter_audience.ensures.advances

pub returns-in-None-clause-says : goal.returns-in-None-clause-says
returns-in-None-clause-says c = λ turn this sp. says_nowhere c.args.live.now turn c.args.o this c.args.text sp (lies_so c.args.live.now c.args.o None c.in-None.ensures)
