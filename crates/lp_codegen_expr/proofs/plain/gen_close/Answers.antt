use Rattle.std.proofs.Common.{ap, ◌∙◌}
use Rattle.lp_tree.specs.TreeView.{tree_of}
use Rattle.lp_instr.specs.declared.instr.Instr.TheVariants.{SetIndex}
use Rattle.lp_codegen_expr.proofs.Compose.{one_adds}
use Rattle.lp_tree.proofs.ExprNodes.{name_tree, index_tree}
use Rattle.lp_codegen_expr.proofs.Parts.{made_close}
use Rattle.lp_codegen_expr.proofs.Refusals.{at_exit, whole_place, no_place}
use Rattle.lp_codegen_expr.proofs.plain.gen_close.Goals as goal

pub returns-in_ok-gen_write_slot-in-Name : goal.returns-in_ok-gen_write_slot-in-Name
returns-in_ok-gen_write_slot-in-Name c =
    made_close c.args.scope.now.locals.items _ _ (ap tree_of c.in-Name.is ∙ name_tree c.in-Name.line c.in-Name.name) c.in_ok-gen_write_slot-in-Name.ensures

pub returns-in_ok-put-in-Index : goal.returns-in_ok-put-in-Index
returns-in_ok-put-in-Index c =
    made_close c.args.scope.now.locals.items _ _ (ap tree_of c.in-Index.is ∙ index_tree c.in-Index.line c.in-Index.of c.in-Index.edge c.in-Index.at) (one_adds (SetIndex c.in-Index.edge) c.in_ok-put-in-Index.ensures)

pub returns-in_err-gen_write_slot-in-Name : goal.returns-in_err-gen_write_slot-in-Name
returns-in_err-gen_write_slot-in-Name c =
    at_exit _ _ _ _ c.from_residual.ensures.1 (whole_place _ _ _ _ (ap tree_of c.in-Name.is ∙ name_tree c.in-Name.line c.in-Name.name) (λ u q. c.in_err-gen_write_slot-in-Name.ensures u q))

pub returns-in_err-put-in-Index : goal.returns-in_err-put-in-Index
returns-in_err-put-in-Index c =
    at_exit _ _ _ _ c.from_residual-in_err-put-in-Index.ensures.1 (λ u q. c.in_err-put-in-Index.ensures u)

pub returns-in_default : goal.returns-in_default
returns-in_default c = λ u q. no_place _ c.in_default.not-Name c.in_default.not-Index q.0
