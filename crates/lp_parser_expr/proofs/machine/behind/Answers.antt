use Rattle.lp_tree.specs.TreeView.{tree_of}
use Rattle.lp_parser_expr.specs.StackView.{stack_of}
use Rattle.lp_parser_expr.proofs.Settles.{behind_none, behind_some}
use Rattle.lp_parser_expr.proofs.machine.behind.Goals as goal

pub returns-in-None : goal.returns-in-None
returns-in-None c = behind_none c.args.seen (tree_of c.args.tree.expr.value) (stack_of c.args.stack.now) (stack_of c.settle.new.stack) c.binds.result c.in_ok-settle.field-0 c.binds.ensures c.in_ok-settle.ensures c.in-None.is

pub returns-in-Some : goal.returns-in-Some
returns-in-Some c = behind_some c.args.seen (tree_of c.args.tree.expr.value) (stack_of c.args.stack.now) (stack_of c.settle.new.stack) (stack_of c.act_or_end.new.stack) c.binds.result c.in_ok-settle.field-0 c.in-Some.whole _ c.binds.ensures c.in_ok-settle.ensures c.in-Some.is c.act_or_end.ensures
