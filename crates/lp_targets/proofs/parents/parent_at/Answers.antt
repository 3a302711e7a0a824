use Rattle.std.proofs.Common.{◌≡◌, ◌∙◌, Some, ap, sym, take}
use Rattle.lp_part_laws.specs.Parts.{moved_reached}
use Rattle.lp_plan_laws.specs.Tables.{reached_by}
use Rattle.lp_world.specs.Closed.{parts_together}
use Rattle.lp_world.specs.Stands.{reached_of}
use Rattle.lp_targets.proofs.parents.parent_at.Goals as goal

pub returns-in-Some : goal.returns-in-Some
returns-in-Some c = λ first q s e i f room.
    let at = c.in-Some.at in
    let before = parts_together c.args.live.now.versions (take c.args.parent c.args.code.now.tables.parents) in
    let r : Some (record { part = at.part; fun = at.fun }) ≡ reached_by s = c.in-Some.ensures q s e i in
    ap reached_of (c.parent_moved.ensures first f (room (record { part = at.part; fun = at.fun }) (sym r))) ∙ ap (λ z. moved_reached first (moved_reached before z)) r

pub returns-in-None : goal.returns-in-None
returns-in-None c = λ first q s e i f room.
    let before = parts_together c.args.live.now.versions (take c.args.parent c.args.code.now.tables.parents) in
    ap (λ z. moved_reached first (moved_reached before z)) (c.in-None.ensures q s e i)
