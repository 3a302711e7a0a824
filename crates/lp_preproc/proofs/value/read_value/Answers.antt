use Rattle.std.proofs.Common.{subst, arith}
use Rattle.lp_tree.specs.TreeView.{tree_of}
use Rattle.lp_parser_expr.specs.Theorem.{IsRead}
use Rattle.lp_preproc.proofs.value.read_value.Goals as goal

pub returns-in-Ok : goal.returns-in-Ok
returns-in-Ok c = λ ws same.
    let found = c.in-Ok.ensures.found in
    c.whole_value.ensures ws same (subst (λ n. IsRead 200 c.args.tokens.now n (tree_of c.in-Ok.e)) (omega (arith, found.1)) found.2)

pub returns-in-Err : goal.returns-in-Err
returns-in-Err c = λ ws same. c.no_value.ensures ws c.args.tokens.now same c.in-Err.ensures.faults
