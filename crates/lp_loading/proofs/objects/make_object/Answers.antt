use Rattle.std.proofs.Common.{◌∙◌, ap, subst, sym}
use Rattle.std.specs.Str.{chars}
use Rattle.lp_beginning.specs.Beginning.{Begins}
use Rattle.lp_loading.specs.Going.{MakesAs}
use Rattle.lp_loading.specs.Steps.{AsksInOrder, MakesFor, MakesHome}
use Rattle.lp_loading.proofs.ObjectsMade.{begun_for, begun_home, begun_order, made_leads}
use Rattle.lp_beginning.specs.Beginning.{BringsFirst}
use Rattle.lp_loading.specs.Telling.{brought_as}
use Rattle.lp_loading.specs.declared.job.LoadFault.TheVariants as faults
use Rattle.lp_loading.proofs.Brought.{exit, first_failed, refusal_brought}
use Rattle.lp_loading.proofs.objects.make_object.Goals as goal

pub returns-in-Ok-clause-makes : goal.returns-in-Ok-clause-makes
returns-in-Ok-clause-makes g c =
    let told0 = g.W.SwapFile.content c.args.swap.now in
    let told1 = g.W.SwapFile.content c.begin.new.swap in
    let job = c.args.job.now in
    subst (λ r. MakesAs r job c.args.version told0 c.args.live.now told1 c.begin.new.live) (sym c.step_of.ensures)
    (made_leads c.in-Ok.begun job (chars c.as_str.result.now) c.args.version told0 told1 c.args.live.now c.begin.new.live c.begin.ensures.brings.brings.kept (ap chars c.as_str.ensures.value ∙ sym c.in_ok-name.ensures.chars ∙ c.as_slice.ensures)
    (subst (λ k. Begins c.in-Ok.begun k (chars c.as_str.result.now) c.args.version told0 c.args.live.now c.begin.new.live) c.making_kind.ensures c.in-Ok.ensures.begins))

pub returns-in-Ok-clause-order : goal.returns-in-Ok-clause-order
returns-in-Ok-clause-order g c = λ going. subst (AsksInOrder going) (sym c.step_of.ensures) (begun_order going c.in-Ok.begun)

pub returns-in-Ok-clause-home : goal.returns-in-Ok-clause-home
returns-in-Ok-clause-home g c = subst (MakesHome c.begin.new.live.objects) (sym c.step_of.ensures) (begun_home c.begin.new.live.objects c.in-Ok.begun c.in-Ok.ensures.home)

pub returns-in-Ok-clause-kind : goal.returns-in-Ok-clause-kind
returns-in-Ok-clause-kind g c = subst (MakesFor c.args.job.now.purpose) (sym c.step_of.ensures) (begun_for c.making_kind.result c.args.job.now.purpose c.in-Ok.begun c.making_kind.ensures c.in-Ok.ensures.kind)

pub returns-clause-brings : goal.returns-clause-brings
returns-clause-brings g c = subst (λ f. BringsFirst (g.W.SwapFile.content c.args.swap.now) (g.W.SwapFile.content c.begin.new.swap) (g.W.SwapFile.last c.begin.new.swap) (g.W.SwapFile.read_faults c.args.swap.now) (g.W.SwapFile.read_faults c.begin.new.swap) (g.W.SwapFile.write_faults c.args.swap.now) (g.W.SwapFile.write_faults c.begin.new.swap) (g.W.SwapFile.is_truthful c.args.swap.now) (g.W.SwapFile.is_truthful c.begin.new.swap) (g.W.SwapFile.is_honest c.args.swap.now) (g.W.SwapFile.is_honest c.begin.new.swap) c.args.live.now c.begin.new.live (brought_as f)) (sym c.fault_of.ensures) (refusal_brought c.in-Err.e c.in-Err.ensures.brings)

pub returns-in_err-name-clause-brings : goal.returns-in_err-name-clause-brings
returns-in_err-name-clause-brings g c = exit (λ r. BringsFirst (g.W.SwapFile.content c.args.swap.now) (g.W.SwapFile.content c.args.swap.now) (g.W.SwapFile.last c.args.swap.now) (g.W.SwapFile.read_faults c.args.swap.now) (g.W.SwapFile.read_faults c.args.swap.now) (g.W.SwapFile.write_faults c.args.swap.now) (g.W.SwapFile.write_faults c.args.swap.now) (g.W.SwapFile.is_truthful c.args.swap.now) (g.W.SwapFile.is_truthful c.args.swap.now) (g.W.SwapFile.is_honest c.args.swap.now) (g.W.SwapFile.is_honest c.args.swap.now) c.args.live.now c.args.live.now r) c.from_residual.result faults.NoMemory c.from_residual.ensures.1 (first_failed (g.W.SwapFile.content c.args.swap.now) (g.W.SwapFile.last c.args.swap.now) (g.W.SwapFile.read_faults c.args.swap.now) (g.W.SwapFile.write_faults c.args.swap.now) (g.W.SwapFile.is_truthful c.args.swap.now) (g.W.SwapFile.is_honest c.args.swap.now) c.args.live.now c.args.live.now faults.NoMemory tt)
