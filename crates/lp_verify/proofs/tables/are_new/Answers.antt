use Rattle.std.proofs.Common.{◌≡◌}
use Rattle.lp_verify.proofs.Naming.{names_none, names_next, names_twice_at, names_done}
use Rattle.lp_verify.proofs.tables.are_new.Goals as goal

pub loop-slot-init : goal.loop-slot-init
loop-slot-init c = names_none c.args.slots.now c.args.names.now.keys c.requires

pub returns-then-not-new : goal.returns-then-not-new
returns-then-not-new c = let e : c.in_ok-name.name ≡ c.slot-item.result.name = c.in_ok-name.ensures in
    names_twice_at c.loop-slot.slot-index c.args.slots.now c.loop-slot.names.keys c.is_new.new.names.keys c.slot-item.result c.in_ok-name.name c.in_ok-new.new c.loop-slot-test.true c.slot-item.is e c.in_ok-new.ensures c.if-not-new.true c.loop-slot.invariant

pub loop-slot-preserved : goal.loop-slot-preserved
loop-slot-preserved c = let e : c.in_ok-name.name ≡ c.slot-item.result.name = c.in_ok-name.ensures in
    names_next c.loop-slot.slot-index c.args.slots.now c.loop-slot.names.keys c.is_new.new.names.keys c.slot-item.result c.in_ok-name.name c.in_ok-new.new c.loop-slot-test.true c.slot-item.is e c.in_ok-new.ensures c.if-not-new.false c.loop-slot.invariant

pub returns : goal.returns
returns c = names_done c.loop-slot.slot-index c.args.slots.now c.loop-slot.names.keys c.loop-slot-test.false c.loop-slot.invariant
