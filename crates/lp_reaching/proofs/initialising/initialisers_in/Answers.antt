use Rattle.std.proofs.Common.{IsSome, None, Some, subst, sym}
use Rattle.lp_values.specs.declared.id.ObjId.{ObjId}
use Rattle.lp_values.specs.declared.id.ProgId.{ProgId}
use Rattle.lp_world.specs.Rows.{row_at}
use Rattle.lp_targets.specs.Brought.{program_at}
use Rattle.lp_targets.proofs.Lookups.{if_ok}
use Rattle.lp_targets.proofs.Memory.{brings_err, brings_more, brings_ok, object_still, stays_same}
use Rattle.lp_reaching.specs.Reaching.{ReachesIf}
use Rattle.lp_reaching.proofs.Inits.{has_looked, leads_there, leads_to, none_found}
use Rattle.lp_reaching.proofs.Leads.{world_then}
use Rattle.lp_reaching.proofs.initialising.initialisers_in.Goals as goal

pub bring_initialisers-requires-clause-object : goal.bring_initialisers-requires-clause-object
bring_initialisers-requires-clause-object g c =
    subst (λ (o : ObjId). IsSome (row_at c.bring_program.new.live.objects o.0)) (sym c.in-Some.ensures.at.0) (object_still c.args.live.now c.bring_program.new.live c.args.ob.0 c.in-Ok.ensures.brings.stays c.requires.object)

pub bring_initialisers-requires-clause-there : goal.bring_initialisers-requires-clause-there
bring_initialisers-requires-clause-there g c =
    let k = c.requires.can in
    let told0 = g.W.SwapFile.content c.args.swap.now in
    let told1 = g.W.SwapFile.content c.bring_program.new.swap in
    let live = c.bring_program.new.live in
    let w = world_then told0 told1 k.programs c.args.live.now live k.ask.world (c.in-Ok.ensures.stands c.in-Ok.ensures.truthful) k.world in
    let l = has_looked c.args.live.now live c.args.ob c.args.part c.args.version (Some c.args.program) c.in-Ok.ensures.brings.stays c.requires.object c.requires.version c.requires.here c.requires.listed in
    leads_there told1 k.programs live k.asker c.args.caller k.ask c.in-Some.callee w c.in-Ok.ensures.closed (subst (λ (p : ProgId). IsSome (program_at live.versions p)) (sym c.in-Some.ensures.at.1) c.in-Ok.ensures.here)
    (leads_to told1 k.programs live k.asker c.args.caller c.args.ob c.args.part c.args.version c.args.program k.ask c.in-Some.callee w l c.in-Ok.ensures.here c.in-Some.ensures.found k.asks)

pub bring_initialisers-requires-clause-can : goal.bring_initialisers-requires-clause-can
bring_initialisers-requires-clause-can g c =
    let k = c.requires.can in
    let told0 = g.W.SwapFile.content c.args.swap.now in
    let told1 = g.W.SwapFile.content c.bring_program.new.swap in
    let live = c.bring_program.new.live in
    let w = world_then told0 told1 k.programs c.args.live.now live k.ask.world (c.in-Ok.ensures.stands c.in-Ok.ensures.truthful) k.world in
    let l = has_looked c.args.live.now live c.args.ob c.args.part c.args.version (Some c.args.program) c.in-Ok.ensures.brings.stays c.requires.object c.requires.version c.requires.here c.requires.listed in
    record {
      programs = k.programs;
      asker = k.asker;
      ask = k.ask;
      leads = leads_to told1 k.programs live k.asker c.args.caller c.args.ob c.args.part c.args.version c.args.program k.ask c.in-Some.callee w l c.in-Ok.ensures.here c.in-Some.ensures.found k.asks;
      world = w;
    }

pub returns-in-Some-clause-brings : goal.returns-in-Some-clause-brings
returns-in-Some-clause-brings g c = brings_more c.in-Ok.ensures.brings c.in-Ok.ensures.stands c.bring_initialisers.ensures.brings

pub returns-in-None-clause-brings : goal.returns-in-None-clause-brings
returns-in-None-clause-brings g c = brings_ok c.in-Ok.ensures.brings (stays_same c.bring_program.new.live)

pub returns-in-Err-clause-brings : goal.returns-in-Err-clause-brings
returns-in-Err-clause-brings g c = brings_err c.in-Err.ensures.brings

pub returns-in-Some-clause-found : goal.returns-in-Some-clause-found
returns-in-Some-clause-found g c =
    let told0 = g.W.SwapFile.content c.args.swap.now in
    let told1 = g.W.SwapFile.content c.bring_program.new.swap in
    let live = c.bring_program.new.live in
    let l = has_looked c.args.live.now live c.args.ob c.args.part c.args.version (Some c.args.program) c.in-Ok.ensures.brings.stays c.requires.object c.requires.version c.requires.here c.requires.listed in
    if_ok c.bring_initialisers.result
    (λ r finds programs asker a h w.
    let later = world_then told0 told1 programs c.args.live.now live a.world (c.in-Ok.ensures.stands c.in-Ok.ensures.truthful) w in
    finds programs asker a (leads_to told1 programs live asker c.args.caller c.args.ob c.args.part c.args.version c.args.program a c.in-Some.callee later l c.in-Ok.ensures.here c.in-Some.ensures.found h) later)
    c.bring_initialisers.ensures.found

pub returns-in-None-clause-found : goal.returns-in-None-clause-found
returns-in-None-clause-found g c = λ programs asker a h w.
    let told0 = g.W.SwapFile.content c.args.swap.now in
    let told1 = g.W.SwapFile.content c.bring_program.new.swap in
    let live = c.bring_program.new.live in
    let l = has_looked c.args.live.now live c.args.ob c.args.part c.args.version (Some c.args.program) c.in-Ok.ensures.brings.stays c.requires.object c.requires.version c.requires.here c.requires.listed in
    none_found told1 programs live asker c.args.caller c.args.ob c.args.part c.args.version c.args.program a (ReachesIf told1 programs live asker a None)
    (world_then told0 told1 programs c.args.live.now live a.world (c.in-Ok.ensures.stands c.in-Ok.ensures.truthful) w) l c.in-Ok.ensures.here c.in-None.ensures.found h
