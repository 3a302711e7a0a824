use Rattle.std.proofs.Common.{Some}
use Rattle.lp_image.specs.Image.{cell_mentions}
use Rattle.lp_image.proofs.Ordered.{follows_more, follows_refused, follows_all}
use Rattle.lp_image.proofs.order.behind_cells.Goals as goal

pub returns-in_err-at : goal.returns-in_err-at
returns-in_err-at c = rw c.from_residual.ensures (follows_refused cell_mentions c.args.cells.now c.args.of.now c.loop-cell.cell-index c.cell-item.result c.args.next c.loop-cell.at c.loop-cell-test.true c.cell-item.is c.loop-cell.invariant c.in_err-at.ensures)

pub loop-cell-preserved : goal.loop-cell-preserved
loop-cell-preserved c = follows_more cell_mentions c.args.cells.now c.args.of.now c.loop-cell.cell-index c.cell-item.result c.args.next c.loop-cell.at (Some c.in_ok-at.at) c.loop-cell-test.true c.cell-item.is c.loop-cell.invariant c.in_ok-at.ensures

pub returns : goal.returns
returns c = follows_all cell_mentions c.args.cells.now c.args.of.now c.loop-cell.cell-index c.args.next c.loop-cell.at c.loop-cell-test.false c.loop-cell.invariant
