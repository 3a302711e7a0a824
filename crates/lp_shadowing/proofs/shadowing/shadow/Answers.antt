use Rattle.lp_targets.proofs.Memory.{brings_err, brings_ok, stays_same}
use Rattle.lp_shadowing.proofs.Begun.{shadow_acts}
use Rattle.lp_shadowing.proofs.shadowing.shadow.Goals as goal

pub returns-in-Ok-clause-brings : goal.returns-in-Ok-clause-brings
returns-in-Ok-clause-brings g c = brings_ok c.in-Ok.ensures.brings (stays_same c.is_barred.new.live)

pub returns-in-Err-clause-brings : goal.returns-in-Err-clause-brings
returns-in-Err-clause-brings g c = brings_err c.in-Err.ensures.brings

pub returns-in-Ok-clause-acts : goal.returns-in-Ok-clause-acts
returns-in-Ok-clause-acts g c = λ t.
    let a = c.args in
    shadow_acts a.caller.now (g.W.SwapFile.content a.swap.now) (g.W.SwapFile.content c.is_barred.new.swap) a.live.now c.is_barred.new.live a.low a.stack.now.items c.shadow_begun.result a.o c.in-Ok.barred c.requires.low c.requires.names
    c.in-Ok.ensures.brings.kept c.in-Ok.ensures.brings.stays (c.in-Ok.ensures.stands t) (c.in-Ok.ensures.barred t) c.shadow_begun.ensures.begun
