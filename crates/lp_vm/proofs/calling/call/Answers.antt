use Rattle.std.proofs.Common.{All, sym, subst}
use Rattle.lp_cells.specs.Cells.{IsThere}
use Rattle.lp_run.proofs.Together.{home_later}
use Rattle.lp_targets.proofs.Lookups.{if_ok}
use Rattle.lp_vm.proofs.Applied.{call_meant, can_answer, can_apply, on_ok_by}
use Rattle.lp_vm.proofs.calling.call.Goals as goal

pub reach_named-requires-clause-can : goal.reach_named-requires-clause-can
reach_named-requires-clause-can g c = can_apply c.args.caller c.args.ob c.args.name.now c.args.args (g.W.SwapFile.content c.args.swap.now) c.args.live.now c.args.stack.now.items c.args.asker.now c.args.budget.now c.requires.can

pub answer-requires-clause-fit : goal.answer-requires-clause-fit
answer-requires-clause-fit g c = record { closed = c.in_ok-reached.ensures.closed; there = subst (λ cells. All (IsThere cells) c.args.stack.now.items) (sym c.in_ok-reached.ensures.cells) c.requires.fit.there }

pub answer-requires-clause-can : goal.answer-requires-clause-can
answer-requires-clause-can g c =
    can_answer c.args.caller c.args.ob c.args.name.now c.args.args (g.W.SwapFile.content c.args.swap.now) (g.W.SwapFile.content c.reach_named.new.swap) c.args.live.now c.reach_named.new.live c.args.stack.now.items c.args.asker.now c.args.budget.now c.in_ok-reached.reached
    c.law_there_is_one.ensures c.requires.can c.in_ok-reached.ensures.found c.in_ok-reached.ensures.there

pub returns-clause-meant : goal.returns-clause-meant
returns-clause-meant g c =
    if_ok c.answer.result
    (λ e h. call_meant c.args.caller c.args.ob c.args.name.now c.args.args (g.W.SwapFile.content c.args.swap.now) (g.W.SwapFile.content c.reach_named.new.swap) (g.W.SwapFile.content c.answer.new.swap) c.args.live.now c.reach_named.new.live c.answer.new.live c.args.stack.now.items c.answer.new.stack.items
    c.args.asker.now c.answer.new.asker c.args.budget.now c.answer.new.budget c.in_ok-reached.reached e c.in_ok-reached.ensures.found c.in_ok-reached.ensures.outputs h.served)
    c.answer.ensures.answers

pub returns-clause-home : goal.returns-clause-home
returns-clause-home g c =
    on_ok_by c.answer.result (λ e h. home_later c.args.live.now.objects c.reach_named.new.live.objects c.answer.new.live.objects c.in_ok-reached.ensures.home h.home) c.answer.ensures.answers
