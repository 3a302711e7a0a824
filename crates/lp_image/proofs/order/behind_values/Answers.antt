use Rattle.std.proofs.Common.{Some}
use Rattle.lp_image.specs.Image.{mention_of}
use Rattle.lp_image.proofs.Ordered.{follows_more, follows_refused, follows_all}
use Rattle.lp_image.proofs.order.behind_values.Goals as goal

pub returns-in_err-at : goal.returns-in_err-at
returns-in_err-at c = rw c.from_residual.ensures (follows_refused mention_of c.args.cells.now c.args.values.now c.loop-value.value-index c.value-item.result c.args.next c.loop-value.at c.loop-value-test.true c.value-item.is c.loop-value.invariant c.in_err-at.ensures)

pub loop-value-preserved : goal.loop-value-preserved
loop-value-preserved c = follows_more mention_of c.args.cells.now c.args.values.now c.loop-value.value-index c.value-item.result c.args.next c.loop-value.at (Some c.in_ok-at.at) c.loop-value-test.true c.value-item.is c.loop-value.invariant c.in_ok-at.ensures

pub returns : goal.returns
returns c = follows_all mention_of c.args.cells.now c.args.values.now c.loop-value.value-index c.args.next c.loop-value.at c.loop-value-test.false c.loop-value.invariant
