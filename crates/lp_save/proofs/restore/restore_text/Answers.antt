use Rattle.lp_save.proofs.ClosedReading.{answers_well}
use Rattle.lp_save.proofs.restore.restore_text.Goals as goal

pub returns-clause-stay : goal.returns-clause-stay
returns-clause-stay c = (answers_well c.restored.result c.args.cells.now c.restored.new.cells c.args.names.now c.args.bytes.now c.restored.ensures.restores).0

pub returns-clause-closed : goal.returns-clause-closed
returns-clause-closed c = (answers_well c.restored.result c.args.cells.now c.restored.new.cells c.args.names.now c.args.bytes.now c.restored.ensures.restores).1

pub returns-clause-there : goal.returns-clause-there
returns-clause-there c = (answers_well c.restored.result c.args.cells.now c.restored.new.cells c.args.names.now c.args.bytes.now c.restored.ensures.restores).2
