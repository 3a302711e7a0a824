use Rattle.std.proofs.Common.{◌∙◌, All, refl, sym, subst}
use Rattle.lp_instr.specs.declared.efun.Efun.TheVariants as efuns
use Rattle.lp_run.proofs.Together.{home_same}
use Rattle.lp_cells.specs.Cells.{IsThere}
use Rattle.lp_step.specs.Steps.{IsFit}
use Rattle.lp_asking.specs.Stopping.{Advances, IsHaltThere}
use Rattle.lp_vm.specs.declared.request.Request.TheVariants as requests
use Rattle.lp_vm.specs.Requests.{place_in}
use Rattle.lp_vm.specs.Turns.{Calls}
use Rattle.lp_vm.proofs.Askings.{asks_back, asks_function, asks_other, call_there, calls, can_ask, ended_finishes, halt_runs, object_asks, object_back}
use Rattle.lp_vm.proofs.halting.run_to_halt.Goals as goal

pub advance-requires : goal.advance-requires
advance-requires g c = halt_runs (g.W.SwapFile.content c.args.swap.now) c.args.live.now c.args.stack.now.items c.args.frame.now c.args.budget.now c.requires

pub returns-in-Ended-clause-halts : goal.returns-in-Ended-clause-halts
returns-in-Ended-clause-halts g c =
    ended_finishes (g.W.SwapFile.content c.args.swap.now) c.args.live.now c.advance.new.live c.args.stack.now.items c.advance.new.stack.items c.args.frame.now c.advance.new.frame c.args.budget.now c.advance.new.budget c.in-Ended.ending
    (subst (λ h. Advances h c.args.live.now c.args.stack.now.items c.args.frame.now c.args.budget.now c.advance.new.live c.advance.new.stack.items c.advance.new.frame c.advance.new.budget) c.in-Ended.is c.in_ok-ending.ensures.advances)
    (subst (IsHaltThere c.advance.new.live.cells) c.in-Ended.is c.in_ok-ending.ensures.there) c.in_ok-ending.ensures.home c.in_ok-ending.ensures.spends c.in_ok-ending.ensures.fit

pub reach_inside-requires-clause-closed : goal.reach_inside-requires-clause-closed
reach_inside-requires-clause-closed g c = c.in_ok-ending.ensures.fit.closed

pub reach_inside-requires-clause-object : goal.reach_inside-requires-clause-object
reach_inside-requires-clause-object g c =
    object_asks (g.W.SwapFile.content c.args.swap.now) c.args.live.now c.advance.new.live c.args.stack.now.items c.advance.new.stack.items c.args.frame.now c.advance.new.frame c.args.budget.now c.advance.new.budget c.in-Call.call c.requires
    (subst (λ h. Advances h c.args.live.now c.args.stack.now.items c.args.frame.now c.args.budget.now c.advance.new.live c.advance.new.stack.items c.advance.new.frame c.advance.new.budget) c.in-Call.is c.in_ok-ending.ensures.advances)

pub reach_inside-requires-clause-can : goal.reach_inside-requires-clause-can
reach_inside-requires-clause-can g c =
    can_ask (g.W.SwapFile.content c.args.swap.now) c.args.live.now c.advance.new.live c.args.stack.now.items c.advance.new.stack.items c.args.frame.now c.advance.new.frame c.args.budget.now c.advance.new.budget c.in-Call.call c.in-Some.question c.requires
    (subst (λ h. Advances h c.args.live.now c.args.stack.now.items c.args.frame.now c.args.budget.now c.advance.new.live c.advance.new.stack.items c.advance.new.frame c.advance.new.budget) c.in-Call.is c.in_ok-ending.ensures.advances)
    (sym c.question_of.ensures ∙ c.in-Some.is)

pub returns-in-Back-clause-halts : goal.returns-in-Back-clause-halts
returns-in-Back-clause-halts g c =
    subst (λ at. Calls (requests.Efun at c.in-Back.call.efun) c.in-Back.call.args (g.W.SwapFile.content c.args.swap.now) c.args.live.now c.args.stack.now.items c.args.frame.now c.args.budget.now (g.W.SwapFile.content c.args.swap.now) c.advance.new.live c.advance.new.stack.items c.advance.new.frame c.advance.new.budget) (sym c.place_in.ensures)
    (calls (g.W.SwapFile.content c.args.swap.now) (g.W.SwapFile.content c.args.swap.now) c.args.live.now c.advance.new.live c.advance.new.live c.args.stack.now.items c.advance.new.stack.items c.args.frame.now c.advance.new.frame c.args.budget.now c.advance.new.budget
    c.in-Back.call.args (requests.Efun (place_in c.advance.new.frame) c.in-Back.call.efun)
    (asks_back (g.W.SwapFile.content c.args.swap.now) c.args.live.now c.advance.new.live c.args.stack.now.items c.advance.new.stack.items c.args.frame.now c.advance.new.frame c.args.budget.now c.advance.new.budget c.in-Back.call
    (subst (λ h. Advances h c.args.live.now c.args.stack.now.items c.args.frame.now c.args.budget.now c.advance.new.live c.advance.new.stack.items c.advance.new.frame c.advance.new.budget) c.in-Back.is c.in_ok-ending.ensures.advances))
    refl
    (object_back (g.W.SwapFile.content c.args.swap.now) c.args.live.now c.advance.new.live c.args.stack.now.items c.advance.new.stack.items c.args.frame.now c.advance.new.frame c.args.budget.now c.advance.new.budget c.in-Back.call c.requires
    (subst (λ h. Advances h c.args.live.now c.args.stack.now.items c.args.frame.now c.args.budget.now c.advance.new.live c.advance.new.stack.items c.advance.new.frame c.advance.new.budget) c.in-Back.is c.in_ok-ending.ensures.advances))
    c.in_ok-ending.ensures.home (home_same c.advance.new.live.objects) c.in_ok-ending.ensures.spends c.in_ok-ending.ensures.fit)

pub lay_below-requires-clause-arguments : goal.lay_below-requires-clause-arguments
lay_below-requires-clause-arguments g c =
    (call_there (g.W.SwapFile.content c.args.swap.now) c.args.live.now c.advance.new.live c.args.stack.now.items c.advance.new.stack.items c.args.frame.now c.advance.new.frame c.args.budget.now c.advance.new.budget c.in-Call.call c.requires
    (subst (λ h. Advances h c.args.live.now c.args.stack.now.items c.args.frame.now c.args.budget.now c.advance.new.live c.advance.new.stack.items c.advance.new.frame c.advance.new.budget) c.in-Call.is c.in_ok-ending.ensures.advances)).0

pub lay_below-requires-clause-text : goal.lay_below-requires-clause-text
lay_below-requires-clause-text g c =
    (call_there (g.W.SwapFile.content c.args.swap.now) c.args.live.now c.advance.new.live c.args.stack.now.items c.advance.new.stack.items c.args.frame.now c.advance.new.frame c.args.budget.now c.advance.new.budget c.in-Call.call c.requires
    (subst (λ h. Advances h c.args.live.now c.args.stack.now.items c.args.frame.now c.args.budget.now c.advance.new.live c.advance.new.stack.items c.advance.new.frame c.advance.new.budget) c.in-Call.is c.in_ok-ending.ensures.advances)).1

pub returns-in_ok-args-in-None-clause-halts : goal.returns-in_ok-args-in-None-clause-halts
returns-in_ok-args-in-None-clause-halts g c =
    subst (λ at. Calls (requests.Efun at efuns.CallOther) c.in_ok-args-in-None.args (g.W.SwapFile.content c.args.swap.now) c.args.live.now c.args.stack.now.items c.args.frame.now c.args.budget.now (g.W.SwapFile.content c.args.swap.now) c.advance.new.live c.lay_below.new.stack.items c.advance.new.frame c.advance.new.budget) (sym c.place_in-in-None.ensures)
    (calls (g.W.SwapFile.content c.args.swap.now) (g.W.SwapFile.content c.args.swap.now) c.args.live.now c.advance.new.live c.advance.new.live c.args.stack.now.items c.lay_below.new.stack.items c.args.frame.now c.advance.new.frame c.args.budget.now c.advance.new.budget
    c.in_ok-args-in-None.args (requests.Efun (place_in c.advance.new.frame) efuns.CallOther)
    (asks_other (g.W.SwapFile.content c.args.swap.now) c.args.live.now c.advance.new.live c.args.stack.now.items c.advance.new.stack.items c.lay_below.new.stack.items c.args.frame.now c.advance.new.frame c.args.budget.now c.advance.new.budget c.in_ok-args-in-None.args c.in-Call.call
    (subst (λ h. Advances h c.args.live.now c.args.stack.now.items c.args.frame.now c.args.budget.now c.advance.new.live c.advance.new.stack.items c.advance.new.frame c.advance.new.budget) c.in-Call.is c.in_ok-ending.ensures.advances)
    (sym c.question_of.ensures ∙ c.in-None.is) c.in_ok-args-in-None.ensures.lays)
    refl
    (object_asks (g.W.SwapFile.content c.args.swap.now) c.args.live.now c.advance.new.live c.args.stack.now.items c.advance.new.stack.items c.args.frame.now c.advance.new.frame c.args.budget.now c.advance.new.budget c.in-Call.call c.requires
    (subst (λ h. Advances h c.args.live.now c.args.stack.now.items c.args.frame.now c.args.budget.now c.advance.new.live c.advance.new.stack.items c.advance.new.frame c.advance.new.budget) c.in-Call.is c.in_ok-ending.ensures.advances))
    c.in_ok-ending.ensures.home (home_same c.advance.new.live.objects) c.in_ok-ending.ensures.spends (c.in_ok-args-in-None.ensures.keeps c.advance.new.live c.in_ok-ending.ensures.fit))

pub returns-in_ok-reached-in-Some-clause-halts : goal.returns-in_ok-reached-in-Some-clause-halts
returns-in_ok-reached-in-Some-clause-halts g c =
    let fit : IsFit c.reach_inside.new.live c.advance.new.stack.items =
    record { closed = c.in_ok-reached-in-Some.ensures.closed; there = subst (λ cells. All (IsThere cells) c.advance.new.stack.items) (sym c.in_ok-reached-in-Some.ensures.cells) c.in_ok-ending.ensures.fit.there } in
    calls (g.W.SwapFile.content c.args.swap.now) (g.W.SwapFile.content c.reach_inside.new.swap) c.args.live.now c.advance.new.live c.reach_inside.new.live c.args.stack.now.items c.advance.new.stack.items c.args.frame.now c.advance.new.frame c.args.budget.now c.advance.new.budget
    c.in-Call.call.args (requests.Function c.in_ok-reached-in-Some.reached)
    (asks_function (g.W.SwapFile.content c.args.swap.now) (g.W.SwapFile.content c.reach_inside.new.swap) c.args.live.now c.advance.new.live c.reach_inside.new.live c.args.stack.now.items c.advance.new.stack.items c.args.frame.now c.advance.new.frame c.args.budget.now c.advance.new.budget c.in-Call.call c.in-Some.question c.in_ok-reached-in-Some.reached
    (subst (λ h. Advances h c.args.live.now c.args.stack.now.items c.args.frame.now c.args.budget.now c.advance.new.live c.advance.new.stack.items c.advance.new.frame c.advance.new.budget) c.in-Call.is c.in_ok-ending.ensures.advances)
    (sym c.question_of.ensures ∙ c.in-Some.is) c.in_ok-reached-in-Some.ensures.found)
    c.in_ok-reached-in-Some.ensures.outputs c.in_ok-reached-in-Some.ensures.there c.in_ok-ending.ensures.home c.in_ok-reached-in-Some.ensures.home c.in_ok-ending.ensures.spends fit
