use Rattle.std.proofs.Common.{◌≡◌, true, false, take, rules}
use Rattle.std.specs.Prelude.{is_some}
use Rattle.lp_layout.specs.Origins.{rowed}
use Rattle.lp_types_expr.specs.Signatures.{row_named}
use Rattle.lp_types_expr.proofs.Showing.{was_first, was_later}
use Rattle.lp_layout.proofs.Makes.{place_first, place_later}
use Rattle.lp_layout.proofs.shown.add_place.Goals as goal

pub returns-then-not-is_first : goal.returns-then-not-is_first
returns-then-not-is_first c = λ h start p.
    let no : c.is_first.result ≡ false = search rules in
    place_later c.args.bodies c.args.first c.args.slots.now c.args.place c.args.slot.now h (was_later (is_some (row_named (take c.args.place c.args.slots.now) c.args.slot.now.name)) c.is_first.result (c.is_first.ensures h) no) start (rowed c.args.origins.now) p

pub returns : goal.returns
returns c = λ h start p.
    let yes : c.is_first.result ≡ true = search rules in
    place_first c.args.bodies c.args.first c.args.slots.now c.args.place c.args.slot.now h (was_first (is_some (row_named (take c.args.place c.args.slots.now) c.args.slot.now.name)) c.is_first.result (c.is_first.ensures h) yes) start (rowed c.args.origins.now) (rowed c.add_slot.new.origins) p c.in_ok-add_slot.ensures
