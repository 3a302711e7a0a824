use Rattle.std.proofs.Common.{ap, sym}
use Rattle.std.specs.Prelude.{option_map}
use Rattle.lp_tree.specs.TreeView.{tree_of}
use Rattle.lp_codegen_expr.proofs.Compose.{line_none}
use Rattle.lp_codegen_flow.specs.Flows.{of_run_if}
use Rattle.lp_codegen_flow.proofs.Scopes.{option_as}
use Rattle.lp_codegen_flow.proofs.plain.gen_run_if.Goals as goal

pub returns-in_ok-gen_run-in-Some : goal.returns-in_ok-gen_run-in-Some
returns-in_ok-gen_run-in-Some c = option_as (λ e. of_run_if e c.args.scope.now.locals.items) (ap (option_map tree_of) (sym c.in-Some.is)) c.in_ok-gen_run-in-Some.ensures

pub returns-in-None : goal.returns-in-None
returns-in-None c = option_as (λ e. of_run_if e c.args.scope.now.locals.items) (ap (option_map tree_of) (sym c.in-None.is)) (line_none _ _)
