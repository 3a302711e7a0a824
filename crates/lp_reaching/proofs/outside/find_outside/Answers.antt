use Rattle.std.proofs.Common.{Some}
use Rattle.lp_targets.proofs.Memory.{brings_err, brings_more, object_still, stays_more}
use Rattle.lp_reaching.specs.Reaching.{AsksOutside}
use Rattle.lp_reaching.proofs.Chains.{leads_outside}
use Rattle.lp_reaching.proofs.Leads.{found_then, world_then}
use Rattle.lp_reaching.proofs.Memory.{cells_still, home_still, outputs_still}
use Rattle.lp_reaching.proofs.outside.find_outside.Goals as goal

pub bring_found-requires-clause-can : goal.bring_found-requires-clause-can
bring_found-requires-clause-can g c = λ t.
    let k = c.requires.can in
    let told0 = g.W.SwapFile.content c.args.swap.now in
    let told1 = g.W.SwapFile.content c.outside_target.new.swap in
    let live = c.outside_target.new.live in
    let world = world_then told0 told1 k.programs c.args.live.now live k.ask.world (c.in-Ok.ensures.stands t) k.world in
    record {
      programs = k.programs;
      asker = k.asker;
      ask = k.ask;
      leads = leads_outside told1 k.programs live k.asker c.args.caller c.args.ob c.args.name.now k.ask c.in-Ok.callee world (object_still c.args.live.now live c.args.ob.0 c.in-Ok.ensures.brings.stays c.requires.object) k.asks
          (c.in-Ok.ensures.found t k.programs k.ask.world k.world);
      world = world;
    }

pub returns-in-Ok-clause-found : goal.returns-in-Ok-clause-found
returns-in-Ok-clause-found g c =
    let told0 = g.W.SwapFile.content c.args.swap.now in
    let told1 = g.W.SwapFile.content c.outside_target.new.swap in
    let live = c.outside_target.new.live in
    found_then told0 told1 (g.W.SwapFile.content c.bring_found.new.swap) (g.W.SwapFile.is_truthful c.outside_target.new.swap) (g.W.SwapFile.is_truthful c.bring_found.new.swap)
    c.args.live.now live c.bring_found.new.live (Some c.args.caller) c.in-Ok.callee c.bring_found.result (λ programs asker a. AsksOutside asker c.args.caller c.args.ob c.args.name.now a)
    (λ t programs asker a asks w. world_then told0 told1 programs c.args.live.now live a.world (c.in-Ok.ensures.stands t) w)
    (λ t programs asker a asks w.
    leads_outside told1 programs live asker c.args.caller c.args.ob c.args.name.now a c.in-Ok.callee (world_then told0 told1 programs c.args.live.now live a.world (c.in-Ok.ensures.stands t) w)
    (object_still c.args.live.now live c.args.ob.0 c.in-Ok.ensures.brings.stays c.requires.object) asks (c.in-Ok.ensures.found t programs a.world w))
    c.bring_found.ensures.brings.truthful c.bring_found.ensures.truthful c.bring_found.ensures.found

pub returns-in-Ok-clause-brings : goal.returns-in-Ok-clause-brings
returns-in-Ok-clause-brings g c = brings_more c.in-Ok.ensures.brings c.in-Ok.ensures.stands c.bring_found.ensures.brings

pub returns-in-Err-clause-brings : goal.returns-in-Err-clause-brings
returns-in-Err-clause-brings g c = brings_err c.in-Err.ensures.brings

pub returns-in-Ok-clause-home : goal.returns-in-Ok-clause-home
returns-in-Ok-clause-home g c = home_still c.args.live.now c.bring_found.new.live (stays_more c.args.live.now c.outside_target.new.live c.bring_found.new.live c.in-Ok.ensures.brings.stays c.bring_found.ensures.brings.stays)

pub returns-in-Ok-clause-cells : goal.returns-in-Ok-clause-cells
returns-in-Ok-clause-cells g c = cells_still c.args.live.now c.bring_found.new.live (stays_more c.args.live.now c.outside_target.new.live c.bring_found.new.live c.in-Ok.ensures.brings.stays c.bring_found.ensures.brings.stays)

pub returns-in-Ok-clause-outputs : goal.returns-in-Ok-clause-outputs
returns-in-Ok-clause-outputs g c = outputs_still c.args.live.now c.bring_found.new.live (stays_more c.args.live.now c.outside_target.new.live c.bring_found.new.live c.in-Ok.ensures.brings.stays c.bring_found.ensures.brings.stays)

pub returns-in-Err-clause-home : goal.returns-in-Err-clause-home
returns-in-Err-clause-home g c = home_still c.args.live.now c.outside_target.new.live c.in-Err.ensures.brings.stays

pub returns-in-Err-clause-cells : goal.returns-in-Err-clause-cells
returns-in-Err-clause-cells g c = cells_still c.args.live.now c.outside_target.new.live c.in-Err.ensures.brings.stays

pub returns-in-Err-clause-outputs : goal.returns-in-Err-clause-outputs
returns-in-Err-clause-outputs g c = outputs_still c.args.live.now c.outside_target.new.live c.in-Err.ensures.brings.stays
