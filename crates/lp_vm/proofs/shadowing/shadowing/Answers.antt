use Rattle.std.proofs.Common.{refl, subst, sym}
use Rattle.lp_instr.specs.declared.efun.Efun.TheVariants as efuns
use Rattle.lp_calling.specs.Beginning.{IsBegunReady, IsBegunThere}
use Rattle.lp_efuns.specs.declared.caller.Caller.{Caller}
use Rattle.lp_shadowing.specs.Shadowing.{BeginsShadow}
use Rattle.lp_asking.specs.Endings.{IsEndingThere}
use Rattle.lp_reaching.proofs.Memory.{home_still}
use Rattle.lp_vm.specs.declared.efuns.EfunBegun.TheVariants as starts
use Rattle.lp_vm.specs.declared.request.Request.TheVariants as requests
use Rattle.lp_vm.specs.Answering.{CanServe}
use Rattle.lp_vm.specs.Causes.{Tells}
use Rattle.lp_vm.specs.Efuns.{ending_of}
use Rattle.lp_vm.specs.Faults.{fault_of}
use Rattle.lp_vm.specs.Looking.{BeginsEfun}
use Rattle.lp_vm.proofs.Causing.{read_exit, tells_brought, tells_fault}
use Rattle.lp_vm.proofs.Shadowings.{shadow_begun, shadow_ended}
use Rattle.lp_vm.proofs.shadowing.shadowing.Goals as goal

pub returns-in-Ends-clause-begins : goal.returns-in-Ends-clause-begins
returns-in-Ends-clause-begins g c =
    let caller : Caller = record { this = c.args.at.this; interactive = c.args.asker.now.interactive; callers = c.as_slice.result } in
    let told0 = g.W.SwapFile.content c.args.swap.now in
    let told1 = g.W.SwapFile.content c.begin_with_programs.new.swap in
    let there : IsEndingThere c.begin_with_programs.new.live.cells c.ending_of.result = c.ending_of.ensures.there c.begin_with_programs.new.live.cells (subst (IsBegunThere c.begin_with_programs.new.live.cells) c.in-Ends.is c.in_ok-answer.ensures.there) in
    subst (λ e. BeginsEfun (starts.Answered e) c.args.at c.args.efun c.args.args told0 c.args.live.now c.args.stack.now.items c.args.asker.now c.args.budget.now told1 c.begin_with_programs.new.live c.begin_with_programs.new.stack.items c.args.asker.now c.begin_with_programs.new.budget) (sym c.ending_of.ensures.ending)
    (subst (λ e. BeginsEfun (starts.Answered (ending_of c.in-Ends.answer)) c.args.at e c.args.args told0 c.args.live.now c.args.stack.now.items c.args.asker.now c.args.budget.now told1 c.begin_with_programs.new.live c.begin_with_programs.new.stack.items c.args.asker.now c.begin_with_programs.new.budget) (sym c.requires.shadow)
    (subst (λ t. BeginsEfun (starts.Answered (ending_of c.in-Ends.answer)) c.args.at efuns.Shadow c.args.args told0 c.args.live.now c.args.stack.now.items c.args.asker.now c.args.budget.now t c.begin_with_programs.new.live c.begin_with_programs.new.stack.items c.args.asker.now c.begin_with_programs.new.budget) (sym c.in_ok-answer.ensures.brings.kept)
    (shadow_ended c.args.at told0 c.args.live.now c.begin_with_programs.new.live c.args.stack.now.items c.begin_with_programs.new.stack.items c.args.asker.now c.args.args c.args.budget.now c.begin_with_programs.new.budget caller refl refl c.as_slice.ensures.value c.in-Ends.answer
    (subst (λ r. BeginsShadow r caller told0 c.args.live.now c.args.stack.now.items c.args.args c.args.budget.now c.begin_with_programs.new.live c.begin_with_programs.new.stack.items c.begin_with_programs.new.budget) c.in-Ends.is c.in_ok-answer.ensures.begins)
    (home_still c.args.live.now c.begin_with_programs.new.live c.in_ok-answer.ensures.brings.stays) c.in_ok-answer.ensures.fit (subst (IsEndingThere c.begin_with_programs.new.live.cells) c.ending_of.ensures.ending there)
    (subst (λ e. CanServe told0 c.args.live.now c.args.stack.now.items c.args.asker.now c.args.budget.now (requests.Efun c.args.at e) c.args.args) c.requires.shadow c.requires.can))))

pub returns-in-Runs-clause-begins : goal.returns-in-Runs-clause-begins
returns-in-Runs-clause-begins g c =
    let caller : Caller = record { this = c.args.at.this; interactive = c.args.asker.now.interactive; callers = c.as_slice.result } in
    let told0 = g.W.SwapFile.content c.args.swap.now in
    let told1 = g.W.SwapFile.content c.begin_with_programs.new.swap in
    subst (λ e. BeginsEfun (starts.Works c.in-Runs.job) c.args.at e c.args.args told0 c.args.live.now c.args.stack.now.items c.args.asker.now c.args.budget.now told1 c.begin_with_programs.new.live c.begin_with_programs.new.stack.items c.args.asker.now c.begin_with_programs.new.budget) (sym c.requires.shadow)
    (subst (λ t. BeginsEfun (starts.Works c.in-Runs.job) c.args.at efuns.Shadow c.args.args told0 c.args.live.now c.args.stack.now.items c.args.asker.now c.args.budget.now t c.begin_with_programs.new.live c.begin_with_programs.new.stack.items c.args.asker.now c.begin_with_programs.new.budget) (sym c.in_ok-answer.ensures.brings.kept)
    (shadow_begun c.args.at told0 c.args.live.now c.begin_with_programs.new.live c.args.stack.now.items c.begin_with_programs.new.stack.items c.args.asker.now c.args.args c.args.budget.now c.begin_with_programs.new.budget caller refl refl c.as_slice.ensures.value c.in-Runs.job
    (subst (λ r. BeginsShadow r caller told0 c.args.live.now c.args.stack.now.items c.args.args c.args.budget.now c.begin_with_programs.new.live c.begin_with_programs.new.stack.items c.begin_with_programs.new.budget) c.in-Runs.is c.in_ok-answer.ensures.begins)
    c.in_ok-answer.ensures.spends (home_still c.args.live.now c.begin_with_programs.new.live c.in_ok-answer.ensures.brings.stays) c.in_ok-answer.ensures.fit (subst (IsBegunReady c.begin_with_programs.new.live.objects) c.in-Runs.is c.in_ok-answer.ensures.ready)
    (subst (λ e. CanServe told0 c.args.live.now c.args.stack.now.items c.args.asker.now c.args.budget.now (requests.Efun c.args.at e) c.args.args) c.requires.shadow c.requires.can)))

pub returns-in-Ends-clause-tells : goal.returns-in-Ends-clause-tells
returns-in-Ends-clause-tells g c = tells_brought c.in_ok-answer.ensures.brings

pub returns-in-Runs-clause-tells : goal.returns-in-Runs-clause-tells
returns-in-Runs-clause-tells g c = tells_brought c.in_ok-answer.ensures.brings

pub returns-in_err-answer-clause-tells : goal.returns-in_err-answer-clause-tells
returns-in_err-answer-clause-tells g c =
    read_exit (Tells (g.W.SwapFile.content c.begin_with_programs.new.swap) (g.W.SwapFile.last c.begin_with_programs.new.swap) (g.W.SwapFile.read_faults c.args.swap.now) (g.W.SwapFile.read_faults c.begin_with_programs.new.swap) (g.W.SwapFile.write_faults c.args.swap.now) (g.W.SwapFile.write_faults c.begin_with_programs.new.swap) (g.W.SwapFile.is_truthful c.args.swap.now) (g.W.SwapFile.is_truthful c.begin_with_programs.new.swap) (g.W.SwapFile.is_honest c.args.swap.now) (g.W.SwapFile.is_honest c.begin_with_programs.new.swap) c.begin_with_programs.new.live)
    c.from_residual.result (fault_of c.in_err-answer.field-0.0) c.from_residual.ensures.1 (tells_fault c.in_err-answer.ensures.brings c.requires.can.programs c.requires.can.ask.world c.requires.can.asked.world.stands)
