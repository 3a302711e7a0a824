use Rattle.std.proofs.Common.{ap, sym}
use Rattle.std.specs.Prelude.{option_map}
use Rattle.lp_tree.specs.TreeView.{tree_of}
use Rattle.lp_instr.specs.declared.instr.Instr.TheVariants.{Jump, JumpIfNotZero}
use Rattle.lp_codegen_expr.proofs.Compose.{seq, one_adds}
use Rattle.lp_codegen_flow.specs.Flows.{of_test}
use Rattle.lp_codegen_flow.proofs.Scopes.{option_as}
use Rattle.lp_codegen_flow.proofs.plain.gen_test.Goals as goal

pub returns-in_ok-put-in-Some : goal.returns-in_ok-put-in-Some
returns-in_ok-put-in-Some c = option_as (λ e. of_test e c.args.turn c.args.scope.now.locals.items) (ap (option_map tree_of) (sym c.in-Some.is)) (seq c.in_ok-gen_expr-in-Some.ensures (one_adds (JumpIfNotZero c.args.turn) c.in_ok-put-in-Some.ensures))

pub returns-in_ok-put-in-None : goal.returns-in_ok-put-in-None
returns-in_ok-put-in-None c = option_as (λ e. of_test e c.args.turn c.args.scope.now.locals.items) (ap (option_map tree_of) (sym c.in-None.is)) (one_adds (Jump c.args.turn) c.in_ok-put-in-None.ensures)
