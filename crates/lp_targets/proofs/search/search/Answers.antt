use Rattle.std.proofs.Common.{◌∙◌, Some, arith, ap, sym, subst}
use Rattle.lp_isa.specs.Programs.{IsReached}
use Rattle.lp_language.specs.Resolve.{internal_from}
use Rattle.lp_layout.specs.Layout.{slot_named}
use Rattle.lp_part_laws.specs.Parts.{reached_in}
use Rattle.lp_targets.proofs.Calls.{hidden_reached, moved_room, part_end, shown_reached}
use Rattle.lp_targets.proofs.search.search.Goals as goal

pub returns-then-is_hidden : goal.returns-then-is_hidden
returns-then-is_hidden c = λ h place fits at f r.
    let code = c.args.code.now in
    let row = c.args.row.now in
    let x = hidden_reached h c.args.part place code row at f r (sym c.is_hidden.ensures ∙ c.if-is_hidden.true) in
    let m = c.moved_row.ensures place.first (part_end h c.args.part place code at f) (λ q e. let t = moved_room h c.args.whole.now c.args.part place code row q fits at f r e in omega (arith, t)) in
    subst (IsReached h (internal_from h (Some place) row.name)) (sym m) x

pub returns-else-is_hidden : goal.returns-else-is_hidden
returns-else-is_hidden c = λ h place fits at f r.
    let row = c.args.row.now in
    let x = shown_reached h c.args.whole.now place c.args.code.now row fits f r (sym c.is_hidden.ensures ∙ c.if-is_hidden.false) in
    let m = c.named.ensures ∙ ap (λ z. reached_in (slot_named c.args.whole.now.tables.slots z)) c.as_str.ensures in
    subst (IsReached h (internal_from h (Some place) row.name)) (sym m) x
