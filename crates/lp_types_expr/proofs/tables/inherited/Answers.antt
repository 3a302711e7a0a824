use Rattle.std.proofs.Common.{List, ap, ◌∙◌}
use Rattle.lp_code.specs.declared.tables.VarRow.{VarRow}
use Rattle.lp_types_expr.specs.NameMaps.{named}
use Rattle.lp_types_expr.specs.Signatures.{inherited_kind, or_else, row_kind}
use Rattle.lp_types_expr.proofs.Declaring.{later_alone}
use Rattle.lp_types_expr.proofs.Showing.{inherited_snoc}
use Rattle.lp_types_expr.proofs.tables.inherited.Goals as goal

pub loop-parent-preserved : goal.loop-parent-preserved
loop-parent-preserved c = λ w.
    later_alone inherited_kind inherited_snoc c.args.parents.now c.loop-parent.parent-index c.parent-item.result c.loop-parent-test.true c.parent-item.is (named c.loop-parent.kinds) (named c.add_variables.new.kinds) c.loop-parent.invariant
    (λ v. c.in_ok-add_variables.ensures v ∙ ap (λ (rows : List VarRow). or_else (row_kind rows v) (named c.loop-parent.kinds v)) c.as_slice.ensures) w
