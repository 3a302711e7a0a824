use Rattle.std.proofs.Common.{◌∙◌, [], subst}
use Rattle.lp_language.specs.Course.{Load, Wanted}
use Rattle.lp_driver.specs.Carrying.{CarriesOut}
use Rattle.lp_driver.proofs.Calls.{can_load, carried_rests, load_carried, load_emptied}
use Rattle.lp_driver.proofs.carrying.load.Goals as goal

pub load_object-requires-clause-can : goal.load_object-requires-clause-can
load_object-requires-clause-can g c = can_load (g.W.SwapFile.content c.args.swap.now) c.args.live.now c.as_slice.result.now c.args.player c.args.interactive c.asker_for-asker.result c.asker_for-asker.ensures c.requires.rests

pub returns-clause-carries : goal.returns-clause-carries
returns-clause-carries g c = λ xs.
    let told0 = g.W.SwapFile.content c.args.swap.now in
    let told1 = g.W.SwapFile.content c.load_object.new.swap in
    subst (λ name. CarriesOut (Load name Wanted) c.args.player c.args.interactive xs told0 c.args.live.now told1 c.load_object.new.live c.end_of_load.result) c.as_slice.ensures
    (load_carried told0 told1 c.args.live.now c.load_object.new.live c.as_slice.result.now c.args.player c.args.interactive xs c.args.stack.now.items _ c.asker_for-asker.result _ _ c.in_ok-answer.answer c.end_of_load.result c.asker_for-asker.ensures c.end_of_load.ensures.end c.in_ok-answer.ensures.meant)

pub returns-clause-there : goal.returns-clause-there
returns-clause-there g c = c.end_of_load.ensures.there c.load_object.new.live.cells c.in_ok-answer.ensures.there

pub returns-clause-empty : goal.returns-clause-empty
returns-clause-empty g c =
    load_emptied (g.W.SwapFile.content c.args.swap.now) (g.W.SwapFile.content c.load_object.new.swap) c.args.live.now c.load_object.new.live c.as_slice.result.now c.args.player c.args.interactive c.args.stack.now.items _ c.asker_for-asker.result _ _ c.in_ok-answer.answer c.asker_for-asker.ensures c.law_there_is_one.ensures c.requires.rests c.in_ok-answer.ensures.meant
    ∙ c.requires.empty

pub returns-clause-rests : goal.returns-clause-rests
returns-clause-rests g c =
    let told0 = g.W.SwapFile.content c.args.swap.now in
    let told1 = g.W.SwapFile.content c.load_object.new.swap in
    carried_rests (Load c.as_slice.result.now Wanted) c.args.player c.args.interactive [] told0 told1 c.args.live.now c.load_object.new.live c.end_of_load.result c.law_there_is_one.ensures
    (load_carried told0 told1 c.args.live.now c.load_object.new.live c.as_slice.result.now c.args.player c.args.interactive [] c.args.stack.now.items _ c.asker_for-asker.result _ _ c.in_ok-answer.answer c.end_of_load.result c.asker_for-asker.ensures c.end_of_load.ensures.end c.in_ok-answer.ensures.meant) c.requires.rests
