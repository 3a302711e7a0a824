use Rattle.std.proofs.Common.{ap, sym, pos}
use Rattle.std.specs.Prelude.{option_map}
use Rattle.lp_tree.specs.TreeView.{tree_of}
use Rattle.lp_instr.specs.declared.instr.Instr.TheVariants.{PushInt}
use Rattle.lp_codegen_expr.proofs.Compose.{one_adds}
use Rattle.lp_codegen_flow.specs.Flows.{of_value_if}
use Rattle.lp_codegen_flow.proofs.Scopes.{option_as}
use Rattle.lp_codegen_flow.proofs.plain.gen_value_if.Goals as goal

pub returns-in_ok-gen_expr-in-Some : goal.returns-in_ok-gen_expr-in-Some
returns-in_ok-gen_expr-in-Some c = option_as (λ e. of_value_if e c.args.scope.now.locals.items) (ap (option_map tree_of) (sym c.in-Some.is)) c.in_ok-gen_expr-in-Some.ensures

pub returns-in_ok-put-in-None : goal.returns-in_ok-put-in-None
returns-in_ok-put-in-None c = option_as (λ e. of_value_if e c.args.scope.now.locals.items) (ap (option_map tree_of) (sym c.in-None.is)) (one_adds (PushInt (pos 0)) c.in_ok-put-in-None.ensures)
