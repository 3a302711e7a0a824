use Rattle.std.proofs.Common.{Err, Ok}
use Rattle.lp_residence.proofs.IdleLemmas.{told_after}
use Rattle.lp_tidying.proofs.Puts.{put_outputs, same_world}
use Rattle.lp_tidying.proofs.naming.put_one.Goals as goal

pub returns-in-Ok-clause-put : goal.returns-in-Ok-clause-put
returns-in-Ok-clause-put g c = record { answer = c.in-Ok.answer; put = c.in-Ok.ensures.answer; faults = c.in-Ok.ensures.faults; counts = c.counted.ensures.counts }

pub returns-in-Ok-clause-told : goal.returns-in-Ok-clause-told
returns-in-Ok-clause-told g c = told_after c.args.who c.args.live.now (g.W.SwapFile.content c.args.swap.now) (g.W.SwapFile.content c.put_out.new.swap) c.in-Ok.ensures.written c.requires.told

pub returns-in-Err-clause-told : goal.returns-in-Err-clause-told
returns-in-Err-clause-told g c = told_after c.args.who c.args.live.now (g.W.SwapFile.content c.args.swap.now) (g.W.SwapFile.content c.put_out.new.swap) c.in-Err.ensures.written c.requires.told

pub returns-in-Ok-clause-world : goal.returns-in-Ok-clause-world
returns-in-Ok-clause-world g c = same_world (g.W.SwapFile.content c.args.swap.now) (g.W.SwapFile.content c.put_out.new.swap) c.args.live.now c.put_out.new.live (c.in-Ok.ensures.stands c.requires.told)

pub returns-in-Err-clause-world : goal.returns-in-Err-clause-world
returns-in-Err-clause-world g c = same_world (g.W.SwapFile.content c.args.swap.now) (g.W.SwapFile.content c.put_out.new.swap) c.args.live.now c.put_out.new.live (c.in-Err.ensures.stands c.requires.told)

pub returns-in-Ok-clause-outputs : goal.returns-in-Ok-clause-outputs
returns-in-Ok-clause-outputs g c = put_outputs c.args.who c.args.live.now c.put_out.new.live (g.W.SwapFile.content c.put_out.new.swap) (Ok c.in-Ok.answer) c.in-Ok.ensures.answer

pub returns-in-Err-clause-outputs : goal.returns-in-Err-clause-outputs
returns-in-Err-clause-outputs g c = put_outputs c.args.who c.args.live.now c.put_out.new.live (g.W.SwapFile.content c.put_out.new.swap) (Err c.in-Err.e) c.in-Err.ensures.answer
