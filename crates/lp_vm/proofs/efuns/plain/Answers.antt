use Rattle.std.proofs.Common.{◌-◌, length, refl, subst, sym}
use Rattle.lp_efuns.specs.declared.caller.Caller.{Caller}
use Rattle.lp_asking.specs.declared.asker.Asker.{Asker}
use Rattle.lp_asking.specs.Endings.{IsEndingThere}
use Rattle.lp_vm.specs.declared.efuns.EfunBegun.TheVariants as starts
use Rattle.lp_vm.specs.Efuns.{StartsEfun}
use Rattle.lp_vm.proofs.Answered.{ended_answers, plain_ended}
use Rattle.lp_vm.proofs.Fitting.{kept_fit}
use Rattle.lp_vm.proofs.efuns.plain.Goals as goal

pub returns-clause-starts : goal.returns-clause-starts
returns-clause-starts c =
    let caller : Caller = record { this = c.args.at.this; interactive = c.args.asker.now.interactive; callers = c.as_slice.result } in
    let asker : Asker = record { turn = c.call_plain.new.turn; interactive = c.args.asker.now.interactive; loads = c.args.asker.now.loads; callers = c.args.asker.now.callers; depth = c.args.asker.now.depth } in
    let there : IsEndingThere c.call_plain.new.live.cells c.ending_of.result = c.ending_of.ensures.there c.call_plain.new.live.cells c.in_ok-answer.ensures.there in
    subst (λ e. StartsEfun (starts.Answered e) c.args.at c.args.efun c.args.args c.args.live.now c.args.stack.now.items c.args.asker.now c.args.budget.now c.call_plain.new.live c.drop_top.new.stack.items asker c.call_plain.new.budget) (sym c.ending_of.ensures.ending)
    (ended_answers c.args.at c.args.efun c.args.live.now c.call_plain.new.live c.args.stack.now.items c.drop_top.new.stack.items c.args.asker.now asker c.args.args c.args.budget.now c.call_plain.new.budget caller c.in_ok-answer.answer refl refl c.as_slice.ensures.value
    (plain_ended c.args.at c.args.efun c.args.live.now c.call_plain.new.live c.args.stack.now.items c.drop_top.new.stack.items c.args.asker.now asker c.args.args c.args.budget.now c.call_plain.new.budget caller c.in_ok-answer.answer refl refl c.as_slice.ensures.value
    c.topmost.result.now c.requires.plain c.topmost.ensures c.drop_top.ensures.items c.in_ok-answer.ensures.calls)
    (record { interactive = refl; loads = refl; callers = refl; depth = refl }) c.in_ok-answer.ensures.variables
    (kept_fit c.args.live.now c.call_plain.new.live c.args.stack.now.items c.drop_top.new.stack.items (length c.args.stack.now.items - c.args.args) c.drop_top.ensures.items c.in_ok-answer.ensures.closed c.in_ok-answer.ensures.stay c.requires.fit)
    (subst (IsEndingThere c.call_plain.new.live.cells) c.ending_of.ensures.ending there) c.requires.can)
