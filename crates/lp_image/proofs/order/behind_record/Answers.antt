use Rattle.std.specs.List.{flat_map}
use Rattle.lp_image.specs.Image.{mention_of, cell_mentions}
use Rattle.lp_image.proofs.Ordered.{follows_on, follows_no}
use Rattle.lp_image.proofs.order.behind_record.Goals as goal

pub returns-in_err-at : goal.returns-in_err-at
returns-in_err-at c =
    rw c.from_residual.ensures
    (follows_no c.args.record.now.cells (flat_map mention_of c.args.record.now.vars) (flat_map cell_mentions c.args.record.now.cells) 0 (rw (c.as_slice-cells.ensures, c.as_slice.ensures) at c.in_err-at.ensures))

pub returns : goal.returns
returns c =
    follows_on c.args.record.now.cells (flat_map mention_of c.args.record.now.vars) (flat_map cell_mentions c.args.record.now.cells) 0 c.in_ok-at.at c.behind_cells.result
    (rw (c.as_slice-cells.ensures, c.as_slice.ensures) at c.in_ok-at.ensures)
    (rw c.as_slice-cells.ensures at c.behind_cells.ensures)
