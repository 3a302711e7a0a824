use Rattle.std.proofs.Common.{ap, ◌∙◌}
use Rattle.lp_tree.specs.Pieces.{parts_of}
use Rattle.lp_tree.specs.StatementView.{stmt_of}
use Rattle.lp_tree.specs.TreeView.{tree_of}
use Rattle.lp_tree.proofs.StmtNodes.{switch_tree}
use Rattle.lp_codegen_unit.proofs.Counting.{switch_uses, uses_as}
use Rattle.lp_codegen_unit.proofs.slots.+slots.Goals as goal

pub slots_in-returns-in_ok-used-in-Switch : goal.slots_in-returns-in_ok-used-in-Switch
slots_in-returns-in_ok-used-in-Switch t c =
    uses_as c.args.first c.inside-in-Switch.result (ap stmt_of c.in-Switch.is ∙ switch_tree c.in-Switch.line c.in-Switch.on c.in-Switch.parts)
    (switch_uses c.in-Switch.line c.args.first (tree_of c.in-Switch.on) (parts_of c.in-Switch.parts.items) c.in_ok-used-in-Switch.used c.inside-in-Switch.result c.in_ok-used-in-Switch.ensures c.inside-in-Switch.ensures)
