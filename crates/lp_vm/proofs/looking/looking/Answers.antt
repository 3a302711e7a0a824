use Rattle.std.proofs.Common.{◌-◌, length, refl, subst, sym}
use Rattle.lp_cells.specs.Cells.{KeepsThere}
use Rattle.lp_efuns.specs.declared.caller.Caller.{Caller}
use Rattle.lp_object_efuns.specs.Called.{brought}
use Rattle.lp_world.specs.declared.live.Live.{Live}
use Rattle.lp_asking.specs.Endings.{IsEndingThere}
use Rattle.lp_reaching.proofs.Memory.{cells_still, home_still}
use Rattle.lp_vm.specs.declared.efuns.EfunBegun.TheVariants as begun
use Rattle.lp_vm.specs.Causes.{Tells}
use Rattle.lp_vm.specs.Faults.{fault_of}
use Rattle.lp_vm.specs.Looking.{BeginsEfun}
use Rattle.lp_vm.proofs.Causing.{read_exit, tells_brought, tells_still}
use Rattle.lp_vm.proofs.Fitting.{kept_fit}
use Rattle.lp_vm.proofs.Lookings.{looked_answers, tells_called}
use Rattle.lp_vm.proofs.looking.looking.Goals as goal

pub returns-clause-begins : goal.returns-clause-begins
returns-clause-begins g c =
    let caller : Caller = record { this = c.args.at.this; interactive = c.args.asker.now.interactive; callers = c.as_slice.result } in
    let told0 = g.W.SwapFile.content c.args.swap.now in
    let told1 = g.W.SwapFile.content c.called.new.swap in
    let live0 = c.args.live.now in
    let live1 = c.called.new.live in
    let after : Live = brought live0 live1 in
    let stays = c.in_ok-answer.ensures.brings.stays in
    let there : IsEndingThere live1.cells c.ending_of.result = c.ending_of.ensures.there live1.cells c.in_ok-answer.ensures.there in
    subst (λ e. BeginsEfun (begun.Answered e) c.args.at c.args.efun c.args.args told0 live0 c.args.stack.now.items c.args.asker.now c.args.budget.now told1 live1 c.drop_top.new.stack.items c.args.asker.now c.called.new.budget) (sym c.ending_of.ensures.ending)
    (looked_answers c.args.at c.args.efun live0 live1 c.args.stack.now.items c.drop_top.new.stack.items c.args.asker.now c.args.args c.args.budget.now c.called.new.budget told0 told1 caller c.in_ok-answer.answer c.topmost.result.now
    refl refl c.as_slice.ensures.value c.in_ok-answer.ensures.brings.kept c.topmost.ensures c.drop_top.ensures.items c.in_ok-answer.ensures.calls
    (home_still live0 after stays)
    (kept_fit live0 live1 c.args.stack.now.items c.drop_top.new.stack.items (length c.args.stack.now.items - c.args.args) c.drop_top.ensures.items c.in_ok-answer.ensures.closed
    (subst (KeepsThere live0.cells) (sym (cells_still live0 after stays)) (λ v h. h)) c.requires.fit)
    (subst (IsEndingThere live1.cells) c.ending_of.ensures.ending there) c.requires.can)

pub returns-clause-tells : goal.returns-clause-tells
returns-clause-tells g c = tells_still (tells_brought c.in_ok-answer.ensures.brings) c.called.new.live

pub returns-in_err-answer-clause-tells : goal.returns-in_err-answer-clause-tells
returns-in_err-answer-clause-tells g c =
    read_exit (Tells (g.W.SwapFile.content c.called.new.swap) (g.W.SwapFile.last c.called.new.swap) (g.W.SwapFile.read_faults c.args.swap.now) (g.W.SwapFile.read_faults c.called.new.swap) (g.W.SwapFile.write_faults c.args.swap.now) (g.W.SwapFile.write_faults c.called.new.swap) (g.W.SwapFile.is_truthful c.args.swap.now) (g.W.SwapFile.is_truthful c.called.new.swap) (g.W.SwapFile.is_honest c.args.swap.now) (g.W.SwapFile.is_honest c.called.new.swap) c.called.new.live)
    c.from_residual.result (fault_of c.in_err-answer.field-0.0) c.from_residual.ensures.1 (tells_called c.in_err-answer.field-0.0 c.in_err-answer.ensures.brings c.requires.can.programs c.requires.can.ask.world c.requires.can.asked.world.stands)
