use Rattle.std.proofs.Common.{◌∙◌, refl, subst, sym}
use Rattle.lp_loading.specs.Steps.{AsksInOrder, MakesFor, MakesHome}
use Rattle.lp_beginning.specs.Beginning.{BringsFirst}
use Rattle.lp_loading.specs.declared.job.Going.TheVariants as goings
use Rattle.lp_loading.specs.declared.job.LoadFault.TheVariants as faults
use Rattle.lp_loading.proofs.NextSteps.{order_first}
use Rattle.lp_loading.proofs.SeenNames.{if_ok}
use Rattle.lp_loading.proofs.SimulFirst.{read_goes_first}
use Rattle.lp_loading.proofs.Brought.{exit, first_failed, first_none}
use Rattle.lp_loading.proofs.next.begin_on.Goals as goal

pub returns-in-Some-clause-goes : goal.returns-in-Some-clause-goes
returns-in-Some-clause-goes g c = λ budget turn.
    c.ask_simul.ensures.goes c.args.job.now c.args.loads.now (g.W.SwapFile.content c.args.swap.now) c.args.live.now budget turn (λ t programs w h. sym c.in-Some.is ∙ c.in_ok-missing.ensures t programs w h)

pub returns-in-Some-clause-order : goal.returns-in-Some-clause-order
returns-in-Some-clause-order g c = subst (AsksInOrder goings.Simul) (sym c.ask_simul.ensures.is) refl

pub returns-in-Some-clause-home : goal.returns-in-Some-clause-home
returns-in-Some-clause-home g c = subst (MakesHome c.args.live.now.objects) (sym c.ask_simul.ensures.is) tt

pub returns-in-Some-clause-kind : goal.returns-in-Some-clause-kind
returns-in-Some-clause-kind g c = subst (MakesFor c.args.job.now.purpose) (sym c.ask_simul.ensures.is) tt

pub returns-in-None-clause-goes : goal.returns-in-None-clause-goes
returns-in-None-clause-goes g c =
    if_ok c.read_on.result _ _
    (λ r f budget turn.
    read_goes_first r c.args.job.now c.args.loads.now (g.W.SwapFile.content c.args.swap.now) c.args.live.now (g.W.SwapFile.content c.read_on.new.swap) c.read_on.new.live budget turn
    (λ t programs w h. sym c.in-None.is ∙ c.in_ok-missing.ensures t programs w h) (f budget turn))
    c.read_on.ensures.goes

pub returns-in-None-clause-order : goal.returns-in-None-clause-order
returns-in-None-clause-order g c = if_ok c.read_on.result _ _ order_first c.read_on.ensures.order

pub returns-in_err-missing-clause-brings : goal.returns-in_err-missing-clause-brings
returns-in_err-missing-clause-brings g c = exit (λ r. BringsFirst (g.W.SwapFile.content c.args.swap.now) (g.W.SwapFile.content c.args.swap.now) (g.W.SwapFile.last c.args.swap.now) (g.W.SwapFile.read_faults c.args.swap.now) (g.W.SwapFile.read_faults c.args.swap.now) (g.W.SwapFile.write_faults c.args.swap.now) (g.W.SwapFile.write_faults c.args.swap.now) (g.W.SwapFile.is_truthful c.args.swap.now) (g.W.SwapFile.is_truthful c.args.swap.now) (g.W.SwapFile.is_honest c.args.swap.now) (g.W.SwapFile.is_honest c.args.swap.now) c.args.live.now c.args.live.now r) c.from_residual.result faults.NoMemory c.from_residual.ensures.1 (first_failed (g.W.SwapFile.content c.args.swap.now) (g.W.SwapFile.last c.args.swap.now) (g.W.SwapFile.read_faults c.args.swap.now) (g.W.SwapFile.write_faults c.args.swap.now) (g.W.SwapFile.is_truthful c.args.swap.now) (g.W.SwapFile.is_honest c.args.swap.now) c.args.live.now c.args.live.now faults.NoMemory tt)

pub returns-in-Some-clause-brings : goal.returns-in-Some-clause-brings
returns-in-Some-clause-brings g c = first_none (g.W.SwapFile.content c.args.swap.now) (g.W.SwapFile.last c.args.swap.now) (g.W.SwapFile.read_faults c.args.swap.now) (g.W.SwapFile.write_faults c.args.swap.now) (g.W.SwapFile.is_truthful c.args.swap.now) (g.W.SwapFile.is_honest c.args.swap.now) c.args.live.now c.args.live.now
