use Rattle.lp_targets.proofs.Memory.{brings_err, brings_no_memory, brings_ok, object_still, stays_same}
use Rattle.lp_shadowing.proofs.Barred.{forbidden_before}
use Rattle.lp_shadowing.proofs.barring.look.Goals as goal

pub is_forbidden-requires-clause-this : goal.is_forbidden-requires-clause-this
is_forbidden-requires-clause-this g c = object_still c.args.live.now c.bring_both.new.live c.args.this.0 c.in-Ok.ensures.brings.stays c.requires.this

pub is_forbidden-requires-clause-other : goal.is_forbidden-requires-clause-other
is_forbidden-requires-clause-other g c = object_still c.args.live.now c.bring_both.new.live c.args.o.0 c.in-Ok.ensures.brings.stays c.requires.other

pub returns-in-Ok-is_forbidden-clause-brings : goal.returns-in-Ok-is_forbidden-clause-brings
returns-in-Ok-is_forbidden-clause-brings g c = brings_ok c.in-Ok.ensures.brings (stays_same c.bring_both.new.live)

pub returns-in-Err-is_forbidden-clause-brings : goal.returns-in-Err-is_forbidden-clause-brings
returns-in-Err-is_forbidden-clause-brings g c = brings_no_memory c.in-Ok.ensures.brings

pub returns-in-Err-clause-brings : goal.returns-in-Err-clause-brings
returns-in-Err-clause-brings g c = brings_err c.in-Err.ensures.brings

pub returns-in-Ok-is_forbidden-clause-forbidden : goal.returns-in-Ok-is_forbidden-clause-forbidden
returns-in-Ok-is_forbidden-clause-forbidden g c = λ t.
    forbidden_before c.in-Ok-is_forbidden.b (g.W.SwapFile.content c.args.swap.now) (g.W.SwapFile.content c.bring_both.new.swap) c.args.live.now c.bring_both.new.live c.args.this c.args.o (c.in-Ok.ensures.stands t) (c.in-Ok-is_forbidden.ensures (g.W.SwapFile.content c.bring_both.new.swap))
