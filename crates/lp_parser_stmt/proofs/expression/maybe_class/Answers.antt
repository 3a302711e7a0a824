use Rattle.std.proofs.Common.{subst, sym}
use Rattle.std.specs.Prelude.{Ok}
use Rattle.lp_parser_stmt.specs.Machine.{maybe}
use Rattle.lp_parser_stmt.specs.Moves.{Steps}
use Rattle.lp_parser_stmt.specs.StackView.{stack_of}
use Rattle.lp_parser_stmt.specs.View.{optional_of}
use Rattle.lp_parser_stmt.proofs.Readers.{skips_semicolon, skips_paren}
use Rattle.lp_parser_stmt.proofs.expression.maybe_class.Goals as goal

pub returns-in-SemicolonEnds : goal.returns-in-SemicolonEnds
returns-in-SemicolonEnds c =
    let s = stack_of c.args.stack.now in
    let part = optional_of c.args.part in
    subst (λ k. Steps (maybe k c.args.seen part s) (stack_of c.skips.new.stack) c.skips.result) (sym c.in-SemicolonEnds.is) (skips_semicolon part s (stack_of c.skips.new.stack) c.skips.result c.is_last-is_last.result c.is_last-is_last.ensures c.skips.ensures)

pub returns-in-ParenCloses : goal.returns-in-ParenCloses
returns-in-ParenCloses c =
    let s = stack_of c.args.stack.now in
    let part = optional_of c.args.part in
    subst (λ k. Steps (maybe k c.args.seen part s) (stack_of c.skips-in-ParenCloses.new.stack) c.skips-in-ParenCloses.result) (sym c.in-ParenCloses.is) (skips_paren part s (stack_of c.skips-in-ParenCloses.new.stack) c.skips-in-ParenCloses.result c.is_last-is_last.result c.is_last-is_last.ensures c.skips-in-ParenCloses.ensures)

pub returns-in-TypeBegins : goal.returns-in-TypeBegins
returns-in-TypeBegins c =
    let s = stack_of c.args.stack.now in
    subst (λ k. Steps (maybe k c.args.seen (optional_of c.args.part) s) s (Ok c.first_declares.result)) (sym c.in-TypeBegins.is) (c.first_declares.ensures s)

pub returns-in-ExpressionBegins : goal.returns-in-ExpressionBegins
returns-in-ExpressionBegins c =
    let s = stack_of c.args.stack.now in
    subst (λ k. Steps (maybe k c.args.seen (optional_of c.args.part) s) s c.begin_expression.result) (sym c.in-ExpressionBegins.is) (c.begin_expression.ensures s)
