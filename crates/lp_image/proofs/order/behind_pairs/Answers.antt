use Rattle.std.proofs.Common.{Some}
use Rattle.lp_image.specs.Image.{pair_mentions}
use Rattle.lp_image.proofs.Ordered.{follows_more, follows_refused, follows_all}
use Rattle.lp_image.proofs.order.behind_pairs.Goals as goal

pub returns-in_err-at : goal.returns-in_err-at
returns-in_err-at c = rw c.from_residual.ensures (follows_refused pair_mentions c.args.cells.now c.args.pairs.now c.loop-pair.pair-index c.pair-item.result c.args.next c.loop-pair.at c.loop-pair-test.true c.pair-item.is c.loop-pair.invariant c.in_err-at.ensures)

pub loop-pair-preserved : goal.loop-pair-preserved
loop-pair-preserved c = follows_more pair_mentions c.args.cells.now c.args.pairs.now c.loop-pair.pair-index c.pair-item.result c.args.next c.loop-pair.at (Some c.in_ok-at.at) c.loop-pair-test.true c.pair-item.is c.loop-pair.invariant c.in_ok-at.ensures

pub returns : goal.returns
returns c = follows_all pair_mentions c.args.cells.now c.args.pairs.now c.loop-pair.pair-index c.args.next c.loop-pair.at c.loop-pair-test.false c.loop-pair.invariant
