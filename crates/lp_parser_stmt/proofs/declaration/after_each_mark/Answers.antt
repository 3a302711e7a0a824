use Rattle.std.proofs.Common.{[], sym, subst}
use Rattle.std.specs.Prelude.{Ok, Some}
use Rattle.lp_tree.specs.declared.seen.Sort.TheVariants as sorts
use Rattle.lp_parser_expr.specs.Machine.{Need as expr_need}
use Rattle.lp_parser_stmt.specs.Machine.{Reading, each_named}
use Rattle.lp_parser_stmt.specs.Moves.{Steps}
use Rattle.lp_parser_stmt.proofs.declaration.after_each_mark.Goals as goal

pub returns-in-Comma : goal.returns-in-Comma
returns-in-Comma c = λ s. subst (λ m. Steps (each_named (sorts.Mark m) c.args.line c.args.first c.args.each s) s (Ok c.one_more.result)) (sym c.in-Comma.is) (c.one_more.ensures s)

pub returns-in-Colon : goal.returns-in-Colon
returns-in-Colon c = λ s.
    let r = Ok c.begin_over.result in
    let whole = subst (λ y. Steps (Some (Reading (expr_need []) y s)) s r) c.over.ensures (c.begin_over.ensures s) in
    subst (λ m. Steps (each_named (sorts.Mark m) c.args.line c.args.first c.args.each s) s r) (sym c.in-Colon.is) whole
