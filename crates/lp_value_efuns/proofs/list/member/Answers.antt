use Rattle.std.proofs.Common.{◌∙◌}
use Rattle.lp_value_efuns.proofs.ListLemmas.{member_items}
use Rattle.lp_value_efuns.proofs.list.member.Goals as goal

pub returns-in-Arr : goal.returns-in-Arr
returns-in-Arr g c = c.item_place.ensures ∙ member_items (g.L.Living.live c.args.live.now) c.args.cells.now c.args.v.now c.args.x.now c.in-Arr.c c.items.result.now c.in-Arr.is c.items.ensures.value
