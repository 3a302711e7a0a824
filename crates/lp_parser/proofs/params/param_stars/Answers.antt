use Rattle.std.proofs.Common.{subst, sym}
use Rattle.lp_parser.specs.Machine.{param_stars}
use Rattle.lp_parser.specs.Moves.{Moves}
use Rattle.lp_parser.specs.View.{head_of}
use Rattle.lp_parser.proofs.params.param_stars.Goals as goal

pub returns-in-Name : goal.returns-in-Name
returns-in-Name c =
    λ b.
    subst (λ k. Moves (param_stars k b (head_of c.args.header.head) c.args.header.params.items c.args.line c.args.of.base c.args.of.stars) b c.named.result) (sym c.in-Name.is) (c.named.ensures b)
