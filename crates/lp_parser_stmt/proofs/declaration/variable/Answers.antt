use Rattle.std.proofs.Common.{sym, subst}
use Rattle.std.specs.Prelude.{Ok}
use Rattle.lp_parser_stmt.specs.Machine.{step}
use Rattle.lp_parser_stmt.specs.Moves.{Steps, each_state}
use Rattle.lp_parser_stmt.proofs.declaration.variable.Goals as goal

pub returns-in-Begins : goal.returns-in-Begins
returns-in-Begins c = λ s. subst (λ a. Steps (step (each_state a c.args.line c.args.first s) c.args.seen) s (Ok c.begin_each.result)) (sym c.in-Begins.is) (c.begin_each.ensures s)

pub returns-in-Stars : goal.returns-in-Stars
returns-in-Stars c = λ s. subst (λ a. Steps (step (each_state a c.args.line c.args.first s) c.args.seen) s c.each_stars.result) (sym c.in-Stars.is) (c.each_stars.ensures s)

pub returns-in-Named : goal.returns-in-Named
returns-in-Named c = λ s. subst (λ a. Steps (step (each_state a c.args.line c.args.first s) c.args.seen) s (Ok c.after_each.result)) (sym c.in-Named.is) (c.after_each.ensures s)
