use Rattle.std.proofs.Common.{subst, sym}
use Rattle.lp_loading.specs.Going.{Goes}
use Rattle.lp_loading.specs.Steps.{AsksInOrder}
use Rattle.lp_loading.proofs.SeenNames.{if_ok}
use Rattle.lp_loading.proofs.next.next.Goals as goal

pub returns-in-Simul-clause-goes : goal.returns-in-Simul-clause-goes
returns-in-Simul-clause-goes g c =
    if_ok c.begin_on.result _ _
    (λ r f budget turn. subst (λ x. Goes r c.args.job.now x c.args.loads.now (g.W.SwapFile.content c.args.swap.now) c.args.live.now budget (g.W.SwapFile.content c.begin_on.new.swap) c.begin_on.new.live budget turn) (sym c.in-Simul.is) (f budget turn))
    c.begin_on.ensures.goes

pub returns-in-Read-clause-goes : goal.returns-in-Read-clause-goes
returns-in-Read-clause-goes g c =
    if_ok c.read_on.result _ _
    (λ r f budget turn. subst (λ x. Goes r c.args.job.now x c.args.loads.now (g.W.SwapFile.content c.args.swap.now) c.args.live.now budget (g.W.SwapFile.content c.read_on.new.swap) c.read_on.new.live budget turn) (sym c.in-Read.is) (f budget turn))
    c.read_on.ensures.goes

pub returns-in-Simul-clause-order : goal.returns-in-Simul-clause-order
returns-in-Simul-clause-order g c = if_ok c.begin_on.result _ _ (λ r h. subst (λ x. AsksInOrder x r) (sym c.in-Simul.is) h) c.begin_on.ensures.order

pub returns-in-Read-clause-order : goal.returns-in-Read-clause-order
returns-in-Read-clause-order g c = if_ok c.read_on.result _ _ (λ r h. subst (λ x. AsksInOrder x r) (sym c.in-Read.is) h) c.read_on.ensures.order
