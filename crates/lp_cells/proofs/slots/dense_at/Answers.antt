use Rattle.std.proofs.Common.{refl, sym, ◌∙◌, arith, length}
use Rattle.std.proofs.lemmas.Option.{slice_get_past, slice_get_read}
use Rattle.lp_cells.specs.Slots.{filled}
use Rattle.lp_cells.proofs.SlotLemmas.{dense_get}
use Rattle.lp_cells.proofs.slots.dense_at.Goals as goal

pub returns-then-i-slots : goal.returns-then-i-slots
returns-then-i-slots c = c.pair_in.ensures ∙ dense_get c.args.slots.now c.args.i c.index-slots-i.result c.requires (slice_get_read c.args.slots.now (length c.args.slots.now) c.args.i c.index-slots-i.result refl c.if-i-slots.true c.index-slots-i.is)

pub returns : goal.returns
returns c = sym (slice_get_past (filled c.args.slots.now) c.args.i (omega (arith, c.requires, c.if-i-slots.false)))
