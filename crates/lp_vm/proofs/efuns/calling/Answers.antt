use Rattle.std.proofs.Common.{refl, subst, sym}
use Rattle.lp_calling.specs.Beginning.{Begins, IsBegunReady, IsBegunThere}
use Rattle.lp_efuns.specs.declared.caller.Caller.{Caller}
use Rattle.lp_run.proofs.Together.{home_same}
use Rattle.lp_asking.specs.Endings.{IsEndingThere}
use Rattle.lp_vm.specs.declared.efuns.EfunBegun.TheVariants as starts
use Rattle.lp_vm.specs.Efuns.{StartsEfun}
use Rattle.lp_vm.proofs.Answered.{begun_efun, calling_ended, ended_answers}
use Rattle.lp_vm.proofs.Startings.{same_asker}
use Rattle.lp_vm.proofs.efuns.calling.Goals as goal

pub returns-in-Ends-clause-starts : goal.returns-in-Ends-clause-starts
returns-in-Ends-clause-starts c =
    let caller : Caller = record { this = c.args.at.this; interactive = c.args.asker.now.interactive; callers = c.as_slice.result } in
    let there : IsEndingThere c.args.live.now.cells c.ending_of.result = c.ending_of.ensures.there c.args.live.now.cells (subst (IsBegunThere c.args.live.now.cells) c.in-Ends.is c.in_ok-answer.ensures.there) in
    subst (λ e. StartsEfun (starts.Answered e) c.args.at c.args.efun c.args.args c.args.live.now c.args.stack.now.items c.args.asker.now c.args.budget.now c.args.live.now c.begin.new.stack.items c.args.asker.now c.begin.new.budget) (sym c.ending_of.ensures.ending)
    (ended_answers c.args.at c.args.efun c.args.live.now c.args.live.now c.args.stack.now.items c.begin.new.stack.items c.args.asker.now c.args.asker.now c.args.args c.args.budget.now c.begin.new.budget caller c.in-Ends.answer refl refl c.as_slice.ensures.value
    (calling_ended c.args.at c.args.efun c.args.live.now c.args.live.now c.args.stack.now.items c.begin.new.stack.items c.args.asker.now c.args.asker.now c.args.args c.args.budget.now c.begin.new.budget caller c.in-Ends.answer refl refl c.as_slice.ensures.value refl refl
    (subst (λ r. Begins r c.args.efun caller c.args.live.now c.args.stack.now.items c.args.args c.args.budget.now c.begin.new.stack.items c.begin.new.budget) c.in-Ends.is c.in_ok-answer.ensures.begins))
    (same_asker c.args.asker.now) (home_same c.args.live.now.objects) c.in_ok-answer.ensures.fit (subst (IsEndingThere c.args.live.now.cells) c.ending_of.ensures.ending there) c.requires.can)

pub returns-in-Runs-clause-starts : goal.returns-in-Runs-clause-starts
returns-in-Runs-clause-starts c =
    let caller : Caller = record { this = c.args.at.this; interactive = c.args.asker.now.interactive; callers = c.as_slice.result } in
    begun_efun c.args.at c.args.efun c.args.live.now c.args.stack.now.items c.begin.new.stack.items c.args.asker.now c.args.args c.args.budget.now c.begin.new.budget caller c.in-Runs.job refl refl c.as_slice.ensures.value
    (subst (λ r. Begins r c.args.efun caller c.args.live.now c.args.stack.now.items c.args.args c.args.budget.now c.begin.new.stack.items c.begin.new.budget) c.in-Runs.is c.in_ok-answer.ensures.begins)
    c.in_ok-answer.ensures.spends c.in_ok-answer.ensures.fit (subst (IsBegunReady c.args.live.now.objects) c.in-Runs.is c.in_ok-answer.ensures.ready) c.requires.can
