use Rattle.std.proofs.Common.{subst, sym}
use Rattle.lp_image.specs.Image.{IsOrdered}
use Rattle.lp_residence.proofs.PackedRecords.{is_ordered}
use Rattle.lp_residence.proofs.packing.image_of.Goals as goal

pub pack-requires : goal.pack-requires
pack-requires c = subst IsOrdered (sym c.in_ok-record.ensures) (is_ordered c.args.ob c.args.values.now)
