use Rattle.std.proofs.Common.{refl, drop}
use Rattle.lp_tree.specs.TreeView.{tree_of}
use Rattle.lp_parser_expr.specs.Theorem.{levels_at}
use Rattle.lp_parser_expr.proofs.Replies.{read_found_as, read_once, unexpected_not, nested_not, unexpected_ok, nested_ok}
use Rattle.lp_parser_expr.proofs.reading.expr.Goals as goal

pub returns-in-Ok-clause-found : goal.returns-in-Ok-clause-found
returns-in-Ok-clause-found c = (c.in-Ok.count, refl, read_found_as (levels_at c.args.depth) c.saturating_sub-limit.result (drop c.args.from c.args.tokens.now) c.rest-rest.result.now c.in-Ok.whole c.in-Ok.count c.into_inner.result c.into_inner.ensures c.saturating_sub-limit.ensures c.rest-rest.ensures c.in-Ok.ensures)

pub returns-in-Ok-clause-only : goal.returns-in-Ok-clause-only
returns-in-Ok-clause-only c = λ t n r. read_once (levels_at c.args.depth) (drop c.args.from c.args.tokens.now) c.args.from c.in-Ok.count n (tree_of c.into_inner.result) t (read_found_as (levels_at c.args.depth) c.saturating_sub-limit.result (drop c.args.from c.args.tokens.now) c.rest-rest.result.now c.in-Ok.whole c.in-Ok.count c.into_inner.result c.into_inner.ensures c.saturating_sub-limit.ensures c.rest-rest.ensures c.in-Ok.ensures) r

pub returns-in-Err-Unexpected-clause-only : goal.returns-in-Err-Unexpected-clause-only
returns-in-Err-Unexpected-clause-only c = λ t n r. absurd (unexpected_not (levels_at c.args.depth) c.saturating_sub-limit.result (drop c.args.from c.args.tokens.now) c.rest-rest.result.now c.in-Err-Unexpected.field-0 c.in-Err-Unexpected.at c.saturating_sub-limit.ensures c.rest-rest.ensures c.in-Err-Unexpected.ensures c.in-Err-Unexpected.field-0-is t n r)

pub returns-in-Err-Unexpected-clause-faults : goal.returns-in-Err-Unexpected-clause-faults
returns-in-Err-Unexpected-clause-faults c = unexpected_ok (levels_at c.args.depth) c.saturating_sub-limit.result c.args.tokens.now (drop c.args.from c.args.tokens.now) c.rest-rest.result.now c.in-Err-Unexpected.field-0 c.in-Err-Unexpected.at c.line_at.result c.saturating_sub-limit.ensures c.rest-rest.ensures c.in-Err-Unexpected.ensures c.in-Err-Unexpected.field-0-is c.line_at.ensures

pub returns-in-Err-TooNested-clause-only : goal.returns-in-Err-TooNested-clause-only
returns-in-Err-TooNested-clause-only c = λ t n r. absurd (nested_not (levels_at c.args.depth) c.saturating_sub-limit.result (drop c.args.from c.args.tokens.now) c.rest-rest.result.now c.in-Err-TooNested.field-0 c.in-Err-TooNested.at c.saturating_sub-limit.ensures c.rest-rest.ensures c.in-Err-TooNested.ensures c.in-Err-TooNested.field-0-is t n r)

pub returns-in-Err-TooNested-clause-faults : goal.returns-in-Err-TooNested-clause-faults
returns-in-Err-TooNested-clause-faults c = nested_ok (levels_at c.args.depth) c.saturating_sub-limit.result c.args.tokens.now (drop c.args.from c.args.tokens.now) c.rest-rest.result.now c.in-Err-TooNested.field-0 c.in-Err-TooNested.at c.line_at-in-Err-TooNested.result c.saturating_sub-limit.ensures c.rest-rest.ensures c.in-Err-TooNested.ensures c.in-Err-TooNested.field-0-is c.line_at-in-Err-TooNested.ensures
