use Rattle.std.proofs.Common.{map, subst}
use Rattle.std.specs.Prelude.{Err}
use Rattle.lp_tree.specs.UnitView.{item_of}
use Rattle.lp_parser.specs.Stops.{Stops}
use Rattle.lp_parser.specs.Theorem.{sight}
use Rattle.lp_parser.proofs.Main.{spells_one}
use Rattle.lp_parser.proofs.Replies.{ok_found, unexpected_found, unexpected_none, nested_found, nested_none}
use Rattle.lp_parser.proofs.reading.parse.Goals as goal

pub returns-in-Ok-clause-found : goal.returns-in-Ok-clause-found
returns-in-Ok-clause-found c = ok_found 200 c.args.tokens.now c.in-Ok.items c.in-Ok.ensures

pub returns-in-Ok-clause-only : goal.returns-in-Ok-clause-only
returns-in-Ok-clause-only c = λ is d h. spells_one (map item_of c.in-Ok.items.items) is (sight c.args.tokens.now) (ok_found 200 c.args.tokens.now c.in-Ok.items c.in-Ok.ensures).0 d

pub returns-in-Err-Unexpected-clause-only : goal.returns-in-Err-Unexpected-clause-only
returns-in-Err-Unexpected-clause-only c = λ is d h. absurd (unexpected_none 200 c.args.tokens.now c.in-Err-Unexpected.at (subst (λ y. Stops 200 c.args.tokens.now (Err y)) c.in-Err-Unexpected.field-0-is c.in-Err-Unexpected.ensures) is d)

pub returns-in-Err-Unexpected-clause-faults : goal.returns-in-Err-Unexpected-clause-faults
returns-in-Err-Unexpected-clause-faults c = (c.in-Err-Unexpected.at, unexpected_found 200 c.args.tokens.now c.in-Err-Unexpected.at (subst (λ y. Stops 200 c.args.tokens.now (Err y)) c.in-Err-Unexpected.field-0-is c.in-Err-Unexpected.ensures), c.line_at.ensures)

pub returns-in-Err-TooNested-clause-only : goal.returns-in-Err-TooNested-clause-only
returns-in-Err-TooNested-clause-only c = λ is d h. absurd (nested_none 200 c.args.tokens.now c.in-Err-TooNested.at (subst (λ y. Stops 200 c.args.tokens.now (Err y)) c.in-Err-TooNested.field-0-is c.in-Err-TooNested.ensures) is d h)

pub returns-in-Err-TooNested-clause-faults : goal.returns-in-Err-TooNested-clause-faults
returns-in-Err-TooNested-clause-faults c = (c.in-Err-TooNested.at, nested_found 200 c.args.tokens.now c.in-Err-TooNested.at (subst (λ y. Stops 200 c.args.tokens.now (Err y)) c.in-Err-TooNested.field-0-is c.in-Err-TooNested.ensures), c.line_at-in-Err-TooNested.ensures)
