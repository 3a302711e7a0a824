use Rattle.std.proofs.Common.{◌∙◌, ◌++◌, ap}
use Rattle.lp_language.specs.Course.{Apply}
use Rattle.lp_turn.specs.declared.job.CallEnd.TheVariants as ends
use Rattle.lp_driver.proofs.Calls.{call_carried, call_emptied, can_call, carried_rests}
use Rattle.lp_driver.proofs.carrying.apply.Goals as goal

pub call-requires-clause-can : goal.call-requires-clause-can
call-requires-clause-can g c =
    can_call (g.W.SwapFile.content c.args.swap.now) c.args.live.now c.args.o c.args.name.now c.args.player c.args.interactive c.args.arguments.items c.lay.new.stack.items c.asker_for-asker.result c.in_ok-args.args c.asker_for-asker.ensures (c.in_ok-args.ensures.laid ∙ ap (λ l. l ++ c.args.arguments.items) c.requires.empty)
    c.in_ok-args.ensures.many c.requires.rests

pub returns-clause-carries : goal.returns-clause-carries
returns-clause-carries g c =
    call_carried (g.W.SwapFile.content c.args.swap.now) (g.W.SwapFile.content c.call.new.swap) c.args.live.now c.call.new.live c.args.o c.args.name.now c.args.player c.args.interactive c.args.arguments.items c.lay.new.stack.items _ c.asker_for-asker.result _ c.in_ok-args.args _ c.in_ok-ending.ending c.asker_for-asker.ensures
    (c.in_ok-args.ensures.laid ∙ ap (λ l. l ++ c.args.arguments.items) c.requires.empty) c.in_ok-args.ensures.many c.in_ok-ending.ensures.meant

pub returns-clause-empty : goal.returns-clause-empty
returns-clause-empty g c =
    call_emptied (g.W.SwapFile.content c.args.swap.now) (g.W.SwapFile.content c.call.new.swap) c.args.live.now c.call.new.live c.args.o c.args.name.now c.args.player c.args.interactive c.args.arguments.items c.lay.new.stack.items _ c.asker_for-asker.result _ c.in_ok-args.args _ c.in_ok-ending.ending c.asker_for-asker.ensures
    (c.in_ok-args.ensures.laid ∙ ap (λ l. l ++ c.args.arguments.items) c.requires.empty) c.in_ok-args.ensures.many c.law_there_is_one.ensures c.requires.rests c.in_ok-ending.ensures.meant

pub returns-clause-rests : goal.returns-clause-rests
returns-clause-rests g c =
    carried_rests (Apply c.args.o c.args.name.now) c.args.player c.args.interactive c.args.arguments.items (g.W.SwapFile.content c.args.swap.now) (g.W.SwapFile.content c.call.new.swap) c.args.live.now c.call.new.live (ends.Ended c.in_ok-ending.ending) c.law_there_is_one.ensures
    (call_carried (g.W.SwapFile.content c.args.swap.now) (g.W.SwapFile.content c.call.new.swap) c.args.live.now c.call.new.live c.args.o c.args.name.now c.args.player c.args.interactive c.args.arguments.items c.lay.new.stack.items _ c.asker_for-asker.result _ c.in_ok-args.args _ c.in_ok-ending.ending c.asker_for-asker.ensures
    (c.in_ok-args.ensures.laid ∙ ap (λ l. l ++ c.args.arguments.items) c.requires.empty) c.in_ok-args.ensures.many c.in_ok-ending.ensures.meant) c.requires.rests
