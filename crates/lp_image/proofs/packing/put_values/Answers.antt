use Rattle.std.proofs.Common.{length}
use Rattle.lp_image.specs.Image.{four, IsValue, value_image}
use Rattle.lp_image.proofs.Steps.{all_more, all_taken, bytes_more, bytes_taken}
use Rattle.lp_image.proofs.packing.put_values.Goals as goal

pub loop-value-preserved : goal.loop-value-preserved
loop-value-preserved c = record {
  len = c.loop-value.invariant.len;
  fits = all_more IsValue c.args.values.now c.loop-value.value-index c.value-item.result c.loop-value-test.true c.value-item.is c.loop-value.invariant.fits c.in_ok-put_value.ensures.fits;
  bytes = bytes_more value_image c.args.out.now.items (four (length c.args.values.now)) c.args.values.now c.loop-value.value-index c.value-item.result c.loop-value.out.items c.put_value.new.out.items c.loop-value-test.true c.value-item.is c.loop-value.invariant.bytes c.in_ok-put_value.ensures.ok;
}

pub returns-clause-fits : goal.returns-clause-fits
returns-clause-fits c = (c.loop-value.invariant.len, all_taken IsValue c.args.values.now c.loop-value.value-index c.loop-value-test.false c.loop-value.invariant.fits)

pub returns-clause-ok : goal.returns-clause-ok
returns-clause-ok c = bytes_taken value_image c.args.out.now.items (four (length c.args.values.now)) c.args.values.now c.loop-value.value-index c.loop-value.out.items c.loop-value-test.false c.loop-value.invariant.bytes
