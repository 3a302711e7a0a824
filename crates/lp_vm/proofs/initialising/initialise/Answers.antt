use Rattle.std.proofs.Common.{All, sym, subst}
use Rattle.lp_cells.specs.Cells.{IsThere}
use Rattle.lp_run.proofs.Together.{home_later}
use Rattle.lp_targets.proofs.Lookups.{if_ok}
use Rattle.lp_vm.proofs.Applied.{on_ok_by}
use Rattle.lp_vm.proofs.Initialised.{can_answer_initialisers, can_initialise, initialising_meant}
use Rattle.lp_vm.proofs.initialising.initialise.Goals as goal

pub find_initialisers-requires-clause-can : goal.find_initialisers-requires-clause-can
find_initialisers-requires-clause-can g c =
    can_initialise c.args.caller c.args.ob c.args.part (g.W.SwapFile.content c.args.swap.now) (g.W.SwapFile.content c.args.swap.now) c.args.live.now c.args.live.now c.args.stack.now.items c.args.asker.now c.args.budget.now c.requires.can

pub answer-requires-clause-fit : goal.answer-requires-clause-fit
answer-requires-clause-fit g c = record { closed = c.in_ok-reached.ensures.closed; there = subst (λ cells. All (IsThere cells) c.args.stack.now.items) (sym c.in_ok-reached.ensures.cells) c.requires.fit.there }

pub answer-requires-clause-can : goal.answer-requires-clause-can
answer-requires-clause-can g c =
    can_answer_initialisers c.args.caller c.args.ob c.args.part (g.W.SwapFile.content c.args.swap.now) (g.W.SwapFile.content c.find_initialisers.new.swap) c.args.live.now c.find_initialisers.new.live c.args.stack.now.items c.args.asker.now c.args.budget.now c.in_ok-reached.reached
    c.law_there_is_one.ensures c.requires.can c.in_ok-reached.ensures.found c.in_ok-reached.ensures.there

pub returns-clause-meant : goal.returns-clause-meant
returns-clause-meant g c =
    if_ok c.answer.result
    (λ e h. initialising_meant c.args.caller c.args.ob c.args.part (g.W.SwapFile.content c.args.swap.now) (g.W.SwapFile.content c.find_initialisers.new.swap) c.args.live.now c.find_initialisers.new.live (g.W.SwapFile.content c.answer.new.swap) c.answer.new.live c.args.stack.now.items c.answer.new.stack.items
    c.args.asker.now c.answer.new.asker c.args.budget.now c.answer.new.budget c.in_ok-reached.reached e c.in_ok-reached.ensures.found c.in_ok-reached.ensures.outputs h.served)
    c.answer.ensures.answers

pub returns-clause-home : goal.returns-clause-home
returns-clause-home g c =
    on_ok_by c.answer.result (λ e h. home_later c.args.live.now.objects c.find_initialisers.new.live.objects c.answer.new.live.objects c.in_ok-reached.ensures.home h.home) c.answer.ensures.answers
