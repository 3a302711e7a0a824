use Rattle.std.proofs.Common.{sym, ◌∙◌}
use Rattle.lp_instr.specs.declared.instr.Instr.TheVariants.{CallFixed}
use Rattle.lp_codegen_expr.proofs.Compose.{one_three}
use Rattle.lp_codegen_expr.proofs.Meanings.{parent_adds, at_parent}
use Rattle.lp_codegen_expr.proofs.calls.gen_parent_call.Goals as goal

pub returns-in_ok-put-in-Some-parent_row : goal.returns-in_ok-put-in-Some-parent_row
returns-in_ok-put-in-Some-parent_row c =
    at_parent c.args.name.now c.args.count (sym c.in-Some.is) (parent_adds c.args.name.now c.args.count c.in-Some.p c.in-Some-parent_row.k (sym c.parent_row.ensures ∙ c.in-Some-parent_row.is) (one_three CallFixed c.in_ok-p-in-Some-parent_row.ensures c.in_ok-k-in-Some-parent_row.ensures c.in_ok-n.ensures c.in_ok-put-in-Some-parent_row.ensures))
