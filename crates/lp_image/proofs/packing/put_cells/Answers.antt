use Rattle.std.proofs.Common.{length}
use Rattle.lp_image.specs.Image.{four, IsCell, cell_image}
use Rattle.lp_image.proofs.Steps.{all_more, all_taken, bytes_more, bytes_taken}
use Rattle.lp_image.proofs.packing.put_cells.Goals as goal

pub loop-cell-preserved : goal.loop-cell-preserved
loop-cell-preserved c = record {
  len = c.loop-cell.invariant.len;
  fits = all_more IsCell c.args.cells.now c.loop-cell.cell-index c.cell-item.result c.loop-cell-test.true c.cell-item.is c.loop-cell.invariant.fits c.in_ok-put_cell.ensures.fits;
  bytes = bytes_more cell_image c.args.out.now.items (four (length c.args.cells.now)) c.args.cells.now c.loop-cell.cell-index c.cell-item.result c.loop-cell.out.items c.put_cell.new.out.items c.loop-cell-test.true c.cell-item.is c.loop-cell.invariant.bytes c.in_ok-put_cell.ensures.ok;
}

pub returns-clause-fits : goal.returns-clause-fits
returns-clause-fits c = (c.loop-cell.invariant.len, all_taken IsCell c.args.cells.now c.loop-cell.cell-index c.loop-cell-test.false c.loop-cell.invariant.fits)

pub returns-clause-ok : goal.returns-clause-ok
returns-clause-ok c = bytes_taken cell_image c.args.out.now.items (four (length c.args.cells.now)) c.args.cells.now c.loop-cell.cell-index c.loop-cell.out.items c.loop-cell-test.false c.loop-cell.invariant.bytes
