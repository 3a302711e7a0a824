use Rattle.std.proofs.Common.{All, ap, subst, sym}
use Rattle.lp_cells.specs.Cells.{IsThere, Store}
use Rattle.lp_world.specs.declared.live.Live.{Live}
use Rattle.lp_targets.proofs.Memory.{brings_err}
use Rattle.lp_object_efuns.proofs.Bringing.{answered_over, brought_no_memory, brought_ok, brought_same, still_more}
use Rattle.lp_object_efuns.proofs.asking.ask.Goals as goal

pub returns-in-Ok-answer-clause-brings : goal.returns-in-Ok-answer-clause-brings
returns-in-Ok-answer-clause-brings g c = brought_ok c.in-Ok.ensures.brings c.in-Ok-answer.ensures.put

pub returns-in-Err-answer-clause-brings : goal.returns-in-Err-answer-clause-brings
returns-in-Err-answer-clause-brings g c = brought_no_memory c.in-Ok.ensures.brings c.in-Err-answer.ensures.put

pub returns-in-Err-clause-brings : goal.returns-in-Err-clause-brings
returns-in-Err-clause-brings g c = brought_same (brings_err c.in-Err.ensures.brings)

pub returns-in-Ok-answer-clause-does : goal.returns-in-Ok-answer-clause-does
returns-in-Ok-answer-clause-does g c = λ t.
    answered_over c.args.plan c.args.this c.args.args.now c.in-Ok.has c.text_at.result.now (g.W.SwapFile.content c.args.swap.now) (g.W.SwapFile.content c.has_function.new.swap) c.args.live.now c.has_function.new.live c.answer.new.live c.in-Ok-answer.d
    c.text_at.ensures c.in-Ok.ensures.brings.kept c.in-Ok.ensures.brings.stays (c.in-Ok.ensures.stands t) (c.in-Ok.ensures.found t) c.in-Ok-answer.ensures.does

pub returns-in-Err-answer-clause-still : goal.returns-in-Err-answer-clause-still
returns-in-Err-answer-clause-still g c = λ t.
    still_more (g.W.SwapFile.content c.args.swap.now) (g.W.SwapFile.content c.has_function.new.swap) c.args.live.now c.has_function.new.live c.answer.new.live (c.in-Ok.ensures.stands t) (c.in-Err-answer.ensures.still (g.W.SwapFile.content c.has_function.new.swap))

pub answer-requires-clause-there : goal.answer-requires-clause-there
answer-requires-clause-there g c = subst (λ (cs : Store). All (IsThere cs) c.args.args.now) (sym (ap (λ (l : Live). l.cells) c.in-Ok.ensures.brings.stays.others)) c.requires.there
