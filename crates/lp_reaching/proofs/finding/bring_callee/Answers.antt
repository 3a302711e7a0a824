use Rattle.lp_targets.specs.Callees.{IsAtHome}
use Rattle.lp_targets.proofs.Memory.{brings_err, brings_no_memory, brings_ok, stays_same}
use Rattle.lp_reaching.proofs.Leads.{comes_home, comes_in, in_memory, object_there}
use Rattle.lp_reaching.proofs.finding.bring_callee.Goals as goal

pub bring_in-requires-clause-there : goal.bring_in-requires-clause-there
bring_in-requires-clause-there g c = object_there (g.W.SwapFile.content c.args.swap.now) c.args.live.now c.args.caller c.args.callee c.requires.can

pub returns-then-tells_truth-clause-brings : goal.returns-then-tells_truth-clause-brings
returns-then-tells_truth-clause-brings g c = brings_ok c.in-Ok.ensures.brings (stays_same c.bring_in.new.live)

pub returns-else-tells_truth-clause-brings : goal.returns-else-tells_truth-clause-brings
returns-else-tells_truth-clause-brings g c = brings_no_memory c.in-Ok.ensures.brings

pub returns-in-Err-clause-brings : goal.returns-in-Err-clause-brings
returns-in-Err-clause-brings g c = brings_err c.in-Err.ensures.brings

pub returns-then-tells_truth-clause-found : goal.returns-then-tells_truth-clause-found
returns-then-tells_truth-clause-found g c =
    let t = c.tells_truth.ensures c.if-tells_truth.true in
    comes_in (g.W.SwapFile.content c.args.swap.now) (g.W.SwapFile.content c.bring_in.new.swap) c.args.live.now c.bring_in.new.live c.args.caller c.args.callee c.in-Ok.code c.requires.closed (c.in-Ok.ensures.code t) (c.in-Ok.ensures.stands t)

pub returns-then-tells_truth-clause-there : goal.returns-then-tells_truth-clause-there
returns-then-tells_truth-clause-there g c =
    let t = c.tells_truth.ensures c.if-tells_truth.true in
    let live = c.bring_in.new.live in
    let home = comes_home (g.W.SwapFile.content c.args.swap.now) c.args.live.now c.args.caller c.args.callee (IsAtHome live c.args.callee c.in-Ok.code) c.requires.can (c.in-Ok.ensures.home t) in
    in_memory live c.args.callee c.in-Ok.code c.in-Ok.ensures.room home c.in-Ok.ensures.here.0 c.in-Ok.ensures.here.1
