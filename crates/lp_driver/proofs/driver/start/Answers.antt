use Rattle.std.proofs.Common.{subst, sym}
use Rattle.std.proofs.lemmas.Result.{IfOk-weaker}
use Rattle.lp_driver.specs.Driving.{StartTells}
use Rattle.lp_driver.proofs.Rested.{finished_answer, first_for_one, if_err, no_master, on_started, started}
use Rattle.lp_driver.proofs.driver.start.Goals as goal

pub run_start-requires-clause-rests : goal.run_start-requires-clause-rests
run_start-requires-clause-rests g c = first_for_one (g.W.SwapFile.content c.args.swap.now) c.first_state-live.result c.args.store c.args.seed c.args.moment c.requires.files c.first_state-live.ensures.world c.first_state-live.ensures.outputs

pub returns-in-Ok-clause-starts : goal.returns-in-Ok-clause-starts
returns-in-Ok-clause-starts g c =
    IfOk-weaker c.finish.result _ _
    (λ r b. started c.args.store c.args.seed c.args.moment c.in-Ok.end (g.W.SwapFile.content c.args.swap.now) (g.W.SwapFile.content c.run_start.new.swap) c.first_state-live.result c.run_start.new.live r.0 r.1 c.first_state-live.ensures.world c.first_state-live.ensures.outputs c.in-Ok.ensures.ends b.begins b.outs_are
    b.over) c.finish.ensures.begins

pub returns-in-Ok-clause-none : goal.returns-in-Ok-clause-none
returns-in-Ok-clause-none g c =
    if_err c.finish.result
    (λ e n. no_master c.args.store c.args.seed c.args.moment c.in-Ok.end e (g.W.SwapFile.content c.args.swap.now) (g.W.SwapFile.content c.run_start.new.swap) c.first_state-live.result c.run_start.new.live c.first_state-live.ensures.world c.first_state-live.ensures.outputs c.in-Ok.ensures.ends n) c.finish.ensures.none

pub returns-in-Ok-clause-rest : goal.returns-in-Ok-clause-rest
returns-in-Ok-clause-rest g c =
    IfOk-weaker c.finish.result _ _
    (λ r b. on_started c.args.store c.args.seed c.args.moment c.in-Ok.end (g.W.SwapFile.content c.args.swap.now) (g.W.SwapFile.content c.run_start.new.swap) c.first_state-live.result c.run_start.new.live r.0 r.1 c.law_there_is_one.ensures c.requires.files c.first_state-live.ensures.world c.first_state-live.ensures.outputs c.in-Ok.ensures.ends
    b.begins b.outs_are b.over) c.finish.ensures.begins

pub returns-in-Ok-clause-tells : goal.returns-in-Ok-clause-tells
returns-in-Ok-clause-tells g c = subst (StartTells (g.W.SwapFile.content c.run_start.new.swap) (g.W.SwapFile.last c.run_start.new.swap) (g.W.SwapFile.read_faults c.args.swap.now) (g.W.SwapFile.read_faults c.run_start.new.swap) (g.W.SwapFile.write_faults c.args.swap.now) (g.W.SwapFile.write_faults c.run_start.new.swap) (g.W.SwapFile.is_truthful c.args.swap.now) (g.W.SwapFile.is_truthful c.run_start.new.swap) (g.W.SwapFile.is_honest c.args.swap.now) (g.W.SwapFile.is_honest c.run_start.new.swap)) (sym (finished_answer c.finish.result c.in-Ok.end c.finish.ensures.none)) (c.run_start.new.live, c.in-Ok.ensures.tells)

pub returns-in-Err-clause-tells : goal.returns-in-Err-clause-tells
returns-in-Err-clause-tells g c = (c.run_start.new.live, c.in-Err.ensures.tells)
