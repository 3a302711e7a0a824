use Rattle.std.proofs.Common.{◌≡◌, take, true, false, rules}
use Rattle.std.specs.Prelude.{is_some}
use Rattle.lp_types_expr.specs.NameMaps.{named}
use Rattle.lp_types_expr.specs.Signatures.{row_named}
use Rattle.lp_types_expr.proofs.Showing.{row_first, row_later, was_first, was_later}
use Rattle.lp_types_expr.proofs.tables.add_place.Goals as goal

pub returns-then-not-is_first : goal.returns-then-not-is_first
returns-then-not-is_first c = λ h start p w.
    let no : c.is_first.result ≡ false = search rules in
    row_later c.args.bodies c.args.slots.now c.args.place c.args.slot.now h (was_later (is_some (row_named (take c.args.place c.args.slots.now) c.args.slot.now.name)) c.is_first.result (c.is_first.ensures h) no) start (named c.args.map.now) p w

pub returns : goal.returns
returns c = λ h start p w.
    let yes : c.is_first.result ≡ true = search rules in
    row_first c.args.bodies c.args.slots.now c.args.place c.args.slot.now h (was_first (is_some (row_named (take c.args.place c.args.slots.now) c.args.slot.now.name)) c.is_first.result (c.is_first.ensures h) yes) start (named c.args.map.now) (named c.add_slot.new.map) p c.in_ok-add_slot.ensures w
