use Rattle.std.proofs.Common.{length}
use Rattle.lp_image.specs.Image.{four, IsPair, pair_image}
use Rattle.lp_image.proofs.Steps.{all_more, all_taken, bytes_more, bytes_taken}
use Rattle.lp_image.proofs.packing.put_pairs.Goals as goal

pub loop-pair-preserved : goal.loop-pair-preserved
loop-pair-preserved c = record {
  len = c.loop-pair.invariant.len;
  fits = all_more IsPair c.args.pairs.now c.loop-pair.pair-index c.pair-item.result c.loop-pair-test.true c.pair-item.is c.loop-pair.invariant.fits c.in_ok-put_pair.ensures.fits;
  bytes = bytes_more pair_image c.args.out.now.items (four (length c.args.pairs.now)) c.args.pairs.now c.loop-pair.pair-index c.pair-item.result c.loop-pair.out.items c.put_pair.new.out.items c.loop-pair-test.true c.pair-item.is c.loop-pair.invariant.bytes c.in_ok-put_pair.ensures.ok;
}

pub returns-clause-fits : goal.returns-clause-fits
returns-clause-fits c = (c.loop-pair.invariant.len, all_taken IsPair c.args.pairs.now c.loop-pair.pair-index c.loop-pair-test.false c.loop-pair.invariant.fits)

pub returns-clause-ok : goal.returns-clause-ok
returns-clause-ok c = bytes_taken pair_image c.args.out.now.items (four (length c.args.pairs.now)) c.args.pairs.now c.loop-pair.pair-index c.loop-pair.out.items c.loop-pair-test.false c.loop-pair.invariant.bytes
