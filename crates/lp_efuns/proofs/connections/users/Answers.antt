use Rattle.std.proofs.Common.{◌∙◌, ◌≤◌, List, ap, length, map, subst}
use Rattle.lp_values.specs.Limits.{max_items}
use Rattle.lp_values.specs.declared.value.Value.TheVariants.{Obj}
use Rattle.lp_world.specs.declared.connections.Connection.{Connection}
use Rattle.lp_efuns.proofs.Handed.{users_look, users_there}
use Rattle.lp_efuns.proofs.connections.users.Goals as goal

pub returns-clause-looks : goal.returns-clause-looks
returns-clause-looks c = λ caller vs turn.
    users_look caller vs c.in_ok-holders.field-0.items c.args.live.now turn c.array.result (subst (λ (l : List Connection). length l ≤ max_items) c.opened-opened.ensures c.if-opened-gt-MAX_ITEMS.false)
    (c.in_ok-holders.ensures ∙ ap (map (λ (c : Connection). Obj c.object)) c.opened-opened.ensures) c.array.ensures

pub returns-clause-there : goal.returns-clause-there
returns-clause-there c = λ cells. users_there cells c.in_ok-holders.field-0.items c.opened-opened.result.now c.array.result c.in_ok-holders.ensures c.array.ensures
