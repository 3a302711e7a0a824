use Rattle.std.proofs.Common.{◌++◌, ◌∷◌, [], List, sym, ap, ◌∙◌, refl}
use Rattle.lp_tree.specs.declared.stmt.Part.{Part}
use Rattle.lp_tree.specs.declared.stmt.Stmt.{Stmt}
use Rattle.lp_tree.specs.Pieces.{parts_of}
use Rattle.lp_tree.specs.StatementView.{stmt_of}
use Rattle.lp_tree.specs.Statements.{Switch}
use Rattle.lp_tree.specs.TreeView.{tree_of}
use Rattle.lp_tree.proofs.StmtNodes.{switch_tree}
use Rattle.lp_layout.specs.Pieces.{Runs, parts_pieces, seen, stmt_pieces}
use Rattle.lp_layout.proofs.Listing.{behind}
use Rattle.lp_layout.proofs.pieces.+pieces.Goals as goal

pub add_stmt-returns-in_ok-add_parts-in-Switch : goal.add_stmt-returns-in_ok-add_parts-in-Switch
add_stmt-returns-in_ok-add_parts-in-Switch t c =
    let d = c.in-Switch in
    behind (seen c.args.into.now.items) (seen c.add_expr-in-Switch.new.into.items) (seen c.add_parts.new.into.items) (Runs (tree_of d.on) ∷ []) (parts_pieces (parts_of d.parts.items)) (stmt_pieces (Switch d.line (tree_of d.on) (parts_of d.parts.items))) refl c.in_ok-add_expr-in-Switch.ensures
    (c.in_ok-add_parts-in-Switch.ensures ∙ ap (λ (l : List (Part Stmt)). seen c.add_expr-in-Switch.new.into.items ++ parts_pieces (parts_of l)) c.deref-in-Switch.ensures.value)
    ∙ ap (λ s. seen c.args.into.now.items ++ stmt_pieces s) (sym (ap stmt_of d.is ∙ switch_tree d.line d.on d.parts))
