use Rattle.std.proofs.Common.{subst, sym}
use Rattle.lp_loading.specs.Reads.{HasRead}
use Rattle.lp_loading.specs.declared.compiling.Compiled.TheVariants as compiled
use Rattle.lp_loading.specs.declared.job.Going.TheVariants as goings
use Rattle.lp_loading.proofs.NextSteps.{fails_for, fails_home, fails_order, home_same}
use Rattle.lp_loading.proofs.SeenNames.{if_ok}
use Rattle.lp_loading.proofs.Brought.{first_nothing}
use Rattle.lp_loading.proofs.next.go_on.Goals as goal

pub returns-in-Made-clause-goes : goal.returns-in-Made-clause-goes
returns-in-Made-clause-goes g c =
    if_ok c.make_both.result _ _
    (λ r f told0 live0 budget turn h.
    f c.args.loads.now told0 live0 budget turn (subst (λ x. HasRead x c.args.job.now c.args.loads.now told0 live0 (g.W.SwapFile.content c.args.swap.now) c.args.live.now) c.in-Made.is h))
    c.make_both.ensures.goes

pub returns-in-Faulty-clause-goes : goal.returns-in-Faulty-clause-goes
returns-in-Faulty-clause-goes g c =
    let told = g.W.SwapFile.content c.args.swap.now in
    if_ok c.tell_faults.result _ _
    (λ r f told0 live0 budget turn h.
    f c.args.job.now c.args.loads.now told0 live0 told budget turn (subst (λ x. HasRead x c.args.job.now c.args.loads.now told0 live0 told c.args.live.now) c.in-Faulty.is h))
    c.tell_faults.ensures.goes

pub returns-in-Missing-clause-goes : goal.returns-in-Missing-clause-goes
returns-in-Missing-clause-goes g c =
    let told = g.W.SwapFile.content c.args.swap.now in
    if_ok c.go_missing.result _ _
    (λ r f told0 live0 budget turn h.
    f told0 live0 told budget turn
    (subst (λ x. HasRead (compiled.Missing x) c.args.job.now c.args.loads.now told0 live0 told c.args.live.now) (sym c.as_str.ensures)
    (subst (λ x. HasRead x c.args.job.now c.args.loads.now told0 live0 told c.args.live.now) c.in-Missing.is h)))
    c.go_missing.ensures.goes

pub returns-in-Faulty-clause-order : goal.returns-in-Faulty-clause-order
returns-in-Faulty-clause-order g c = if_ok c.tell_faults.result _ _ (fails_order goings.Read) c.tell_faults.ensures.asks

pub returns-in-Faulty-clause-home : goal.returns-in-Faulty-clause-home
returns-in-Faulty-clause-home g c = if_ok c.tell_faults.result _ _ (fails_home c.tell_faults.new.live.objects) c.tell_faults.ensures.asks

pub returns-in-Faulty-clause-kind : goal.returns-in-Faulty-clause-kind
returns-in-Faulty-clause-kind g c = if_ok c.tell_faults.result _ _ (fails_for c.args.job.now.purpose) c.tell_faults.ensures.asks

pub returns-in-Faulty-clause-variables : goal.returns-in-Faulty-clause-variables
returns-in-Faulty-clause-variables g c = home_same c.args.live.now.objects c.tell_faults.new.live.objects c.tell_faults.ensures.objects

pub returns-in-Missing-clause-order : goal.returns-in-Missing-clause-order
returns-in-Missing-clause-order g c = if_ok c.go_missing.result _ _ (fails_order goings.Read) c.go_missing.ensures.asks

pub returns-in-Missing-clause-home : goal.returns-in-Missing-clause-home
returns-in-Missing-clause-home g c = if_ok c.go_missing.result _ _ (fails_home c.go_missing.new.live.objects) c.go_missing.ensures.asks

pub returns-in-Missing-clause-kind : goal.returns-in-Missing-clause-kind
returns-in-Missing-clause-kind g c = if_ok c.go_missing.result _ _ (fails_for c.args.job.now.purpose) c.go_missing.ensures.asks

pub returns-in-Missing-clause-variables : goal.returns-in-Missing-clause-variables
returns-in-Missing-clause-variables g c = home_same c.args.live.now.objects c.go_missing.new.live.objects c.go_missing.ensures.objects

pub returns-in-Faulty-clause-brings : goal.returns-in-Faulty-clause-brings
returns-in-Faulty-clause-brings g c = first_nothing (g.W.SwapFile.content c.args.swap.now) (g.W.SwapFile.last c.args.swap.now) (g.W.SwapFile.read_faults c.args.swap.now) (g.W.SwapFile.write_faults c.args.swap.now) (g.W.SwapFile.is_truthful c.args.swap.now) (g.W.SwapFile.is_honest c.args.swap.now) c.args.live.now c.tell_faults.new.live c.tell_faults.result c.tell_faults.ensures.deviceless

pub returns-in-Missing-clause-brings : goal.returns-in-Missing-clause-brings
returns-in-Missing-clause-brings g c = first_nothing (g.W.SwapFile.content c.args.swap.now) (g.W.SwapFile.last c.args.swap.now) (g.W.SwapFile.read_faults c.args.swap.now) (g.W.SwapFile.write_faults c.args.swap.now) (g.W.SwapFile.is_truthful c.args.swap.now) (g.W.SwapFile.is_honest c.args.swap.now) c.args.live.now c.go_missing.new.live c.go_missing.result c.go_missing.ensures.deviceless
