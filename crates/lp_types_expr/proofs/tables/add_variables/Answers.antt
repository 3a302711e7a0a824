use Rattle.lp_types_expr.specs.NameMaps.{named}
use Rattle.lp_types_expr.specs.Signatures.{row_kind}
use Rattle.lp_types_expr.proofs.Declaring.{later_first}
use Rattle.lp_types_expr.proofs.Showing.{row_kind_snoc}
use Rattle.lp_types_expr.proofs.tables.add_variables.Goals as goal

pub loop-row-preserved : goal.loop-row-preserved
loop-row-preserved c = λ w.
    later_first row_kind row_kind_snoc c.args.rows.now c.loop-row.row-index c.row-item.result c.loop-row-test.true c.row-item.is (named c.args.kinds.now) (named c.loop-row.kinds) (named c.add_variable.new.kinds) c.loop-row.invariant c.in_ok-add_variable.ensures w
