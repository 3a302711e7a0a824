use Rattle.std.proofs.Common.{map, refl, subst}
use Rattle.lp_tree.specs.StatementView.{stmt_of, stmt_trees}
use Rattle.lp_codegen_unit.specs.Rows.{IsRow}
use Rattle.lp_codegen_unit.specs.Stands.{function_of}
use Rattle.lp_codegen_unit.proofs.Standing.{one_stands}
use Rattle.lp_codegen_unit.proofs.functions.gen_one.Goals as goal

pub returns : goal.returns
returns c =
    λ ms.
    let f = function_of ms c.args.name.now c.args.params.now (stmt_trees (map stmt_of c.args.stmts.now.items)) in
    one_stands f c.in_ok-row.row refl c.in_ok-scope.ensures (subst (λ n. IsRow f n c.in_ok-row.row) c.in_ok-from.ensures (c.in_ok-row.ensures ms)) c.in_ok-gen_fun.ensures
