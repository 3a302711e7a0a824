use Rattle.std.proofs.Common.{◌≡◌, take, false}
use Rattle.std.specs.List.{list_any}
use Rattle.lp_masking.specs.Masks.{is_masking}
use Rattle.lp_masking.proofs.masking.do_mask.Given as goal

abbrev pub invariant-loop-slot : goal.invariant-loop-slot
invariant-loop-slot l = list_any (is_masking l.other.tables.slots) (take l.slot-index l.slots) ≡ false
