use Rattle.std.proofs.Common.{rules, length, ◌<◌}
use Rattle.std.proofs.lemmas.List.{get_or_default}
use Rattle.std.proofs.lemmas.List.Edits.{map_over_more}
use Rattle.lp_world.proofs.connections.give_in.Goals as goal

pub loop-i-preserved : goal.loop-i-preserved
loop-i-preserved c =
    let inside : c.loop-i.i < length c.loop-i.open = search rules in
    rw c.given.ensures (map_over_more _ _ _ _ _ (search rules) c.loop-i.invariant (get_or_default _ _ _ _ inside))
