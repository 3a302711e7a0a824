use Rattle.lp_places.specs.Places.{shadowed}
use Rattle.lp_world.proofs.Closing.{closed_with_places}
use Rattle.lp_shadows.proofs.Shadowed.{allowed, dead_begins, forbidden_begins, shadow_begins, stands_shadows}
use Rattle.lp_shadows.proofs.shadows.begin_shadowing.Goals as goal

pub returns-then-not-are_live-clause-begins : goal.returns-then-not-are_live-clause-begins
returns-then-not-are_live-clause-begins c = dead_begins c.args.live.now c.args.this c.args.victim c.are_live.result c.are_live.ensures c.if-not-are_live.true

pub returns-then-not-may_shadow-clause-begins : goal.returns-then-not-may_shadow-clause-begins
returns-then-not-may_shadow-clause-begins c = forbidden_begins c.args.live.now c.args.this c.args.victim c.may_shadow.result c.may_shadow.ensures c.if-not-may_shadow.true

pub returns-in-Ok-clause-begins : goal.returns-in-Ok-clause-begins
returns-in-Ok-clause-begins c =
    shadow_begins c.args.live.now c.shadow.new.self c.args.this c.args.victim c.are_live.result c.may_shadow.result c.are_live.ensures c.if-not-are_live.false c.may_shadow.ensures c.if-not-may_shadow.false c.in-Ok.ensures.shadows

pub returns-in-Ok-clause-closed : goal.returns-in-Ok-clause-closed
returns-in-Ok-clause-closed c =
    let placed = c.requires.closed.placed in
    closed_with_places c.args.live.now c.shadow.new.self c.requires.closed (record {
      lyings = placed.lyings;
      shadowings = shadowed placed.shadowings c.args.this c.args.victim;
      stands = c.in-Ok.ensures.shadows placed.lyings placed.shadowings placed.stands (allowed c.args.live.now.places c.args.this c.args.victim c.may_shadow.result c.may_shadow.ensures c.if-not-may_shadow.false placed.lyings placed.shadowings placed.stands);
    })

pub returns-in-Err-clause-err : goal.returns-in-Err-clause-err
returns-in-Err-clause-err c = λ told programs w h. stands_shadows told programs c.args.live.now w c.shadow.new.self w.shadows (c.in-Err.ensures.err w.places w.shadows h.rest.places) h

pub returns-in-Err-clause-closed : goal.returns-in-Err-clause-closed
returns-in-Err-clause-closed c =
    let placed = c.requires.closed.placed in
    closed_with_places c.args.live.now c.shadow.new.self c.requires.closed (record {
      lyings = placed.lyings;
      shadowings = placed.shadowings;
      stands = c.in-Err.ensures.err placed.lyings placed.shadowings placed.stands;
    })
