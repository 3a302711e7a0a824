use Rattle.std.proofs.Common.{None}
use Rattle.lp_targets.proofs.Lookups.{if_ok}
use Rattle.lp_targets.proofs.Memory.{brings_err, brings_more, brings_ok, object_still, stays_more, stays_same}
use Rattle.lp_reaching.specs.Reaching.{ReachesIf}
use Rattle.lp_reaching.proofs.Inits.{has_looked, none_listed, version_later}
use Rattle.lp_reaching.proofs.Leads.{world_then}
use Rattle.lp_reaching.proofs.Memory.{cells_still, home_still, outputs_still}
use Rattle.lp_reaching.proofs.initialising.find_initialisers.Goals as goal

pub initialisers_in-requires-clause-object : goal.initialisers_in-requires-clause-object
initialisers_in-requires-clause-object g c = object_still c.args.live.now c.bring_program.new.live c.args.ob.0 c.in-Ok.ensures.brings.stays c.requires.object

pub initialisers_in-requires-clause-version : goal.initialisers_in-requires-clause-version
initialisers_in-requires-clause-version g c = version_later c.args.live.now c.bring_program.new.live c.args.ob.0 c.version_of-version.result c.in-Ok.ensures.brings.stays c.requires.object c.version_of-version.ensures

pub initialisers_in-requires-clause-can : goal.initialisers_in-requires-clause-can
initialisers_in-requires-clause-can g c =
    let k = c.requires.can in
    record {
      programs = k.programs;
      asker = k.asker;
      ask = k.ask;
      asks = k.asks;
      world = world_then (g.W.SwapFile.content c.args.swap.now) (g.W.SwapFile.content c.bring_program.new.swap) k.programs c.args.live.now c.bring_program.new.live k.ask.world (c.in-Ok.ensures.stands c.in-Ok.ensures.truthful) k.world;
    }

pub returns-in-Some-clause-found : goal.returns-in-Some-clause-found
returns-in-Some-clause-found g c =
    if_ok c.initialisers_in.result
    (λ r finds programs asker a h w.
    finds programs asker a h (world_then (g.W.SwapFile.content c.args.swap.now) (g.W.SwapFile.content c.bring_program.new.swap) programs c.args.live.now c.bring_program.new.live a.world (c.in-Ok.ensures.stands c.in-Ok.ensures.truthful) w))
    c.initialisers_in.ensures.found

pub returns-in-None-clause-found : goal.returns-in-None-clause-found
returns-in-None-clause-found g c = λ programs asker a h w.
    let told0 = g.W.SwapFile.content c.args.swap.now in
    let told1 = g.W.SwapFile.content c.bring_program.new.swap in
    let live = c.bring_program.new.live in
    let there = object_still c.args.live.now live c.args.ob.0 c.in-Ok.ensures.brings.stays c.requires.object in
    let same = version_later c.args.live.now live c.args.ob.0 c.version_of-version.result c.in-Ok.ensures.brings.stays c.requires.object c.version_of-version.ensures in
    none_listed told1 programs live asker c.args.caller c.args.ob c.args.part c.version_of-version.result a (ReachesIf told1 programs live asker a None)
    (world_then told0 told1 programs c.args.live.now live a.world (c.in-Ok.ensures.stands c.in-Ok.ensures.truthful) w)
    (has_looked live live c.args.ob c.args.part c.version_of-version.result None (stays_same live) there same c.in-Ok.ensures.here c.in-None.ensures) h

pub returns-in-Some-clause-brings : goal.returns-in-Some-clause-brings
returns-in-Some-clause-brings g c = brings_more c.in-Ok.ensures.brings c.in-Ok.ensures.stands c.initialisers_in.ensures.brings

pub returns-in-None-clause-brings : goal.returns-in-None-clause-brings
returns-in-None-clause-brings g c = brings_ok c.in-Ok.ensures.brings (stays_same c.bring_program.new.live)

pub returns-in-Err-clause-brings : goal.returns-in-Err-clause-brings
returns-in-Err-clause-brings g c = brings_err c.in-Err.ensures.brings

pub returns-in-Some-clause-home : goal.returns-in-Some-clause-home
returns-in-Some-clause-home g c = home_still c.args.live.now c.initialisers_in.new.live (stays_more c.args.live.now c.bring_program.new.live c.initialisers_in.new.live c.in-Ok.ensures.brings.stays c.initialisers_in.ensures.brings.stays)

pub returns-in-Some-clause-cells : goal.returns-in-Some-clause-cells
returns-in-Some-clause-cells g c = cells_still c.args.live.now c.initialisers_in.new.live (stays_more c.args.live.now c.bring_program.new.live c.initialisers_in.new.live c.in-Ok.ensures.brings.stays c.initialisers_in.ensures.brings.stays)

pub returns-in-Some-clause-outputs : goal.returns-in-Some-clause-outputs
returns-in-Some-clause-outputs g c = outputs_still c.args.live.now c.initialisers_in.new.live (stays_more c.args.live.now c.bring_program.new.live c.initialisers_in.new.live c.in-Ok.ensures.brings.stays c.initialisers_in.ensures.brings.stays)

pub returns-in-None-clause-home : goal.returns-in-None-clause-home
returns-in-None-clause-home g c = home_still c.args.live.now c.bring_program.new.live c.in-Ok.ensures.brings.stays

pub returns-in-None-clause-cells : goal.returns-in-None-clause-cells
returns-in-None-clause-cells g c = cells_still c.args.live.now c.bring_program.new.live c.in-Ok.ensures.brings.stays

pub returns-in-None-clause-outputs : goal.returns-in-None-clause-outputs
returns-in-None-clause-outputs g c = outputs_still c.args.live.now c.bring_program.new.live c.in-Ok.ensures.brings.stays

pub returns-in-Err-clause-home : goal.returns-in-Err-clause-home
returns-in-Err-clause-home g c = home_still c.args.live.now c.bring_program.new.live c.in-Err.ensures.brings.stays

pub returns-in-Err-clause-cells : goal.returns-in-Err-clause-cells
returns-in-Err-clause-cells g c = cells_still c.args.live.now c.bring_program.new.live c.in-Err.ensures.brings.stays

pub returns-in-Err-clause-outputs : goal.returns-in-Err-clause-outputs
returns-in-Err-clause-outputs g c = outputs_still c.args.live.now c.bring_program.new.live c.in-Err.ensures.brings.stays
