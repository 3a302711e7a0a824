use Rattle.std.proofs.Common.{None, Some}
use Rattle.std.proofs.lemmas.Result.{IfOk-weaker}
use Rattle.lp_calling.proofs.Audiences.{lies_so}
use Rattle.lp_calling.proofs.Searches.{around_nowhere, around_place}
use Rattle.lp_calling.proofs.search.enter_environment.Goals as goal

pub returns-in-Some-clause-searches : goal.returns-in-Some-clause-searches
returns-in-Some-clause-searches c =
    let a = c.args in
    IfOk-weaker c.enter_place.result _ _ (λ t k. around_place t a.live.now a.o c.in-Some.place a.text (lies_so a.live.now a.o (Some c.in-Some.place) c.in-Some.ensures) k) c.enter_place.ensures.searches

pub returns-in-None-clause-searches : goal.returns-in-None-clause-searches
returns-in-None-clause-searches c = around_nowhere c.args.live.now c.args.o c.args.text (lies_so c.args.live.now c.args.o None c.in-None.ensures)
