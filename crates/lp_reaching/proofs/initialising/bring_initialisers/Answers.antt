use Rattle.lp_targets.proofs.Memory.{brings_err, brings_no_memory, brings_ok, stays_same}
use Rattle.lp_reaching.proofs.Inits.{init_home, init_reaches}
use Rattle.lp_reaching.proofs.Leads.{in_memory, world_then}
use Rattle.lp_reaching.proofs.initialising.bring_initialisers.Goals as goal

pub returns-then-tells_truth-clause-brings : goal.returns-then-tells_truth-clause-brings
returns-then-tells_truth-clause-brings g c = brings_ok c.in-Ok.ensures.brings (stays_same c.bring_in.new.live)

pub returns-else-tells_truth-clause-brings : goal.returns-else-tells_truth-clause-brings
returns-else-tells_truth-clause-brings g c = brings_no_memory c.in-Ok.ensures.brings

pub returns-in-Err-clause-brings : goal.returns-in-Err-clause-brings
returns-in-Err-clause-brings g c = brings_err c.in-Err.ensures.brings

pub returns-then-tells_truth-clause-found : goal.returns-then-tells_truth-clause-found
returns-then-tells_truth-clause-found g c = λ programs asker a h w.
    let t = c.tells_truth.ensures c.if-tells_truth.true in
    let told0 = g.W.SwapFile.content c.args.swap.now in
    let told1 = g.W.SwapFile.content c.bring_in.new.swap in
    init_reaches told0 told1 programs c.args.live.now c.bring_in.new.live asker c.args.caller a c.args.callee c.in-Ok.code c.requires.closed c.requires.object w h (c.in-Ok.ensures.code t programs a.world w.stands)
    (world_then told0 told1 programs c.args.live.now c.bring_in.new.live a.world (c.in-Ok.ensures.stands t) w)

pub returns-then-tells_truth-clause-there : goal.returns-then-tells_truth-clause-there
returns-then-tells_truth-clause-there g c =
    let t = c.tells_truth.ensures c.if-tells_truth.true in
    let told0 = g.W.SwapFile.content c.args.swap.now in
    let told1 = g.W.SwapFile.content c.bring_in.new.swap in
    let live = c.bring_in.new.live in
    let k = c.requires.can in
    let home = init_home told1 k.programs live k.asker c.args.caller k.ask c.args.callee c.in-Ok.code (world_then told0 told1 k.programs c.args.live.now live k.ask.world (c.in-Ok.ensures.stands t) k.world) c.in-Ok.ensures.closed k.leads c.in-Ok.ensures.here.0
    (c.in-Ok.ensures.code t k.programs k.ask.world k.world.stands) in
    in_memory live c.args.callee c.in-Ok.code c.in-Ok.ensures.room home c.in-Ok.ensures.here.0 c.in-Ok.ensures.here.1
