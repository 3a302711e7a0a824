use Rattle.lp_image.specs.Image.{mentions}
use Rattle.lp_image.proofs.Ordered.{ordered_where_all, ordered_where_not}
use Rattle.lp_image.proofs.order.is_ordered.Goals as goal

pub returns-in-Some : goal.returns-in-Some
returns-in-Some c = rw c.as_slice.ensures (ordered_where_all c.args.record.now.cells (mentions c.args.record.now) c.in-Some.at c.in-Some.ensures)

pub returns-in-None : goal.returns-in-None
returns-in-None c = ordered_where_not c.args.record.now.cells (mentions c.args.record.now) c.in-None.ensures
