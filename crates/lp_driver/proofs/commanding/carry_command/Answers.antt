use Rattle.std.proofs.Common.{[], subst}
use Rattle.lp_language.specs.Course.{Command}
use Rattle.lp_turn.specs.declared.job.CallEnd.TheVariants as ends
use Rattle.lp_driver.specs.Carrying.{CarriesOut}
use Rattle.lp_driver.proofs.Calls.{carried_rests}
use Rattle.lp_driver.proofs.Commands.{can_command, command_carried, command_emptied}
use Rattle.lp_driver.proofs.commanding.carry_command.Goals as goal

pub command-requires-clause-can : goal.command-requires-clause-can
command-requires-clause-can g c = can_command (g.W.SwapFile.content c.args.swap.now) c.args.live.now c.args.o c.as_slice.result.now c.args.player c.args.interactive c.args.stack.now.items c.asker_for-asker.result c.asker_for-asker.ensures c.requires.empty c.requires.rests

pub returns-clause-carries : goal.returns-clause-carries
returns-clause-carries g c = λ xs.
    let told0 = g.W.SwapFile.content c.args.swap.now in
    let told1 = g.W.SwapFile.content c.command.new.swap in
    subst (λ line. CarriesOut (Command c.args.o line) c.args.player c.args.interactive xs told0 c.args.live.now told1 c.command.new.live (ends.Ended c.in_ok-ending.ending)) c.as_slice.ensures
    (command_carried told0 told1 c.args.live.now c.command.new.live c.args.o c.as_slice.result.now c.args.player c.args.interactive xs c.args.stack.now.items _ c.asker_for-asker.result _ _ c.in_ok-ending.ending c.asker_for-asker.ensures c.requires.empty c.in_ok-ending.ensures.meant)

pub returns-clause-empty : goal.returns-clause-empty
returns-clause-empty g c =
    command_emptied (g.W.SwapFile.content c.args.swap.now) (g.W.SwapFile.content c.command.new.swap) c.args.live.now c.command.new.live c.args.o c.as_slice.result.now c.args.player c.args.interactive c.args.stack.now.items _ c.asker_for-asker.result _ _ c.in_ok-ending.ending c.asker_for-asker.ensures
    c.requires.empty c.law_there_is_one.ensures c.requires.rests c.in_ok-ending.ensures.meant

pub returns-clause-rests : goal.returns-clause-rests
returns-clause-rests g c =
    let told0 = g.W.SwapFile.content c.args.swap.now in
    let told1 = g.W.SwapFile.content c.command.new.swap in
    carried_rests (Command c.args.o c.as_slice.result.now) c.args.player c.args.interactive [] told0 told1 c.args.live.now c.command.new.live (ends.Ended c.in_ok-ending.ending) c.law_there_is_one.ensures
    (command_carried told0 told1 c.args.live.now c.command.new.live c.args.o c.as_slice.result.now c.args.player c.args.interactive [] c.args.stack.now.items _ c.asker_for-asker.result _ _ c.in_ok-ending.ending c.asker_for-asker.ensures c.requires.empty c.in_ok-ending.ensures.meant) c.requires.rests
