use Rattle.std.proofs.Common.{sym, ◌∙◌, arith}
use Rattle.lp_types_expr.proofs.Stars.{fewer_stars, more_stars, same_stars}
use Rattle.lp_types_expr.proofs.kind.types_fit.Goals as goal

pub returns-then-a-b : goal.returns-then-a-b
returns-then-a-b c = c.is_mixed_base.ensures ∙ sym (fewer_stars c.args.a.base c.args.b.base c.args.a.stars c.args.b.stars (omega arith))

pub returns-then-b-a : goal.returns-then-b-a
returns-then-b-a c = c.is_mixed_base-then-b-a.ensures ∙ sym (more_stars c.args.a.base c.args.b.base c.args.a.stars c.args.b.stars (omega arith))

pub returns : goal.returns
returns c = c.plain_fit.ensures ∙ sym (same_stars c.args.a.base c.args.b.base c.args.a.stars c.args.b.stars (omega arith))
