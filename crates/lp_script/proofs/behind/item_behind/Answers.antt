use Rattle.lp_script.specs.declared.stop.Stop.TheVariants.{Short, Wrong}
use Rattle.lp_script.specs.Before.{context_of}
use Rattle.lp_script.proofs.BehindLemmas.{bad_at_end, large_at_end, found_item, wrong_item, short_item, large_item, as_stop}
use Rattle.lp_script.proofs.behind.item_behind.Goals as goal

pub returns-then-whole : goal.returns-then-whole
returns-then-whole c = bad_at_end _ _ _ _ c.if-cut-bytes.true c.if-whole.true

pub returns-then-cut-bytes : goal.returns-then-cut-bytes
returns-then-cut-bytes c = large_at_end _ _ _ _ c.if-cut-bytes.true c.if-whole.false

pub returns-in-Ok : goal.returns-in-Ok
returns-in-Ok c = found_item (context_of c.args.before.now) c.args.bytes.now c.args.whole c.args.cut c.in-Ok.item c.in-Ok.rest c.requires c.in-Ok.ensures

pub returns-in-Err-Stop-Wrong : goal.returns-in-Err-Stop-Wrong
returns-in-Err-Stop-Wrong c = wrong_item (context_of c.args.before.now) c.args.bytes.now _ c.args.cut c.requires c.if-cut-bytes.false _ (as_stop _ _ _ c.in-Err-Stop-Wrong.is c.in-Err-Stop-Wrong.field-0-is Wrong c.in-Err-Stop-Wrong.field-0-0-is) c.read_item.ensures

pub returns-then-whole-2 : goal.returns-then-whole-2
returns-then-whole-2 c = short_item (context_of c.args.before.now) c.args.bytes.now _ c.args.cut c.if-whole-2.true _ (as_stop _ _ _ c.in-Err-Stop-Short.is c.in-Err-Stop-Short.field-0-is Short c.in-Err-Stop-Short.field-0-0-is) c.read_item.ensures

pub returns-else-whole-2 : goal.returns-else-whole-2
returns-else-whole-2 c = large_item (context_of c.args.before.now) c.args.bytes.now _ c.args.cut c.if-whole-2.false _ (as_stop _ _ _ c.in-Err-Stop-Short.is c.in-Err-Stop-Short.field-0-is Short c.in-Err-Stop-Short.field-0-0-is) c.read_item.ensures
