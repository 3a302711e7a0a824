use Rattle.std.proofs.Common.{All, subst}
use Rattle.std.proofs.lemmas.List.{take_all}
use Rattle.std.proofs.lemmas.List.Elements.{All-more}
use Rattle.lp_residence.specs.Programs.{IsSlotAmong}
use Rattle.lp_residence.proofs.fitting.are_slots_there.Goals as goal

pub loop-slot-preserved : goal.loop-slot-preserved
loop-slot-preserved c = All-more (IsSlotAmong c.args.counts.now) c.args.slots.now c.loop-slot.slot-index c.slot-item.result c.loop-slot-test.true c.loop-slot.invariant (subst (IsSlotAmong c.args.counts.now) c.slot-item.is c.if-not-is_slot_there.ensures)

pub returns : goal.returns
returns c = subst (All (IsSlotAmong c.args.counts.now)) (take_all c.loop-slot.slot-index c.args.slots.now c.loop-slot-test.false) c.loop-slot.invariant
