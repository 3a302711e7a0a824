use Rattle.std.proofs.Common.{subst, sym}
use Rattle.lp_asking.specs.Endings.{IsEndingThere}
use Rattle.lp_vm.specs.Causes.{Tells}
use Rattle.lp_vm.specs.Cycle.{Works}
use Rattle.lp_vm.specs.Efuns.{ending_of}
use Rattle.lp_vm.specs.Faults.{fault_of}
use Rattle.lp_vm.proofs.Causing.{read_exit}
use Rattle.lp_vm.proofs.Keepings.{kept_works, tells_read, tells_unread}
use Rattle.lp_vm.proofs.keeping.keep_job.Goals as goal

pub returns-clause-works : goal.returns-clause-works
returns-clause-works g c =
    let told0 = g.W.SwapFile.content c.args.swap.now in
    let told1 = g.W.SwapFile.content c.kept.new.swap in
    let there : IsEndingThere c.kept.new.live.cells c.ending_of.result = c.ending_of.ensures.there c.kept.new.live.cells c.in_ok-answer.ensures.there in
    subst (Works c.args.at c.args.job.now told0 c.args.live.now c.args.stack.now.items c.args.asker.now c.args.budget.now told1 c.kept.new.live c.kept.new.stack.items c.args.asker.now c.kept.new.budget) (sym c.ending_of.ensures.ending)
    (subst (λ t. Works c.args.at c.args.job.now told0 c.args.live.now c.args.stack.now.items c.args.asker.now c.args.budget.now t c.kept.new.live c.kept.new.stack.items c.args.asker.now c.kept.new.budget (ending_of c.in_ok-answer.answer)) (sym c.in_ok-answer.ensures.reads.kept)
    (kept_works c.args.at c.args.job.now told0 c.args.live.now c.kept.new.live c.args.stack.now.items c.kept.new.stack.items c.args.asker.now c.args.budget.now c.kept.new.budget c.in_ok-answer.answer c.in_ok-answer.ensures.keeps c.in_ok-answer.ensures.spends c.in_ok-answer.ensures.variables c.in_ok-answer.ensures.fit
    (subst (IsEndingThere c.kept.new.live.cells) c.ending_of.ensures.ending there)))

pub returns-clause-tells : goal.returns-clause-tells
returns-clause-tells g c = tells_read c.in_ok-answer.ensures.reads

pub returns-in_err-answer-clause-tells : goal.returns-in_err-answer-clause-tells
returns-in_err-answer-clause-tells g c =
    read_exit (Tells (g.W.SwapFile.content c.kept.new.swap) (g.W.SwapFile.last c.kept.new.swap) (g.W.SwapFile.read_faults c.args.swap.now) (g.W.SwapFile.read_faults c.kept.new.swap) (g.W.SwapFile.write_faults c.args.swap.now) (g.W.SwapFile.write_faults c.kept.new.swap) (g.W.SwapFile.is_truthful c.args.swap.now) (g.W.SwapFile.is_truthful c.kept.new.swap) (g.W.SwapFile.is_honest c.args.swap.now) (g.W.SwapFile.is_honest c.kept.new.swap) c.kept.new.live)
    c.from_residual.result (fault_of c.in_err-answer.field-0.0) c.from_residual.ensures.1 (tells_unread c.in_err-answer.ensures.reads c.requires.can.programs c.requires.can.state.world c.requires.can.working.fits.at.stands)
