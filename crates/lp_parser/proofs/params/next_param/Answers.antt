use Rattle.std.proofs.Common.{subst, sym}
use Rattle.lp_parser.specs.Machine.{next_param}
use Rattle.lp_parser.specs.Moves.{Moves}
use Rattle.lp_parser.specs.View.{head_of}
use Rattle.lp_parser.proofs.params.next_param.Goals as goal

pub returns-in-Name : goal.returns-in-Name
returns-in-Name c = λ b. subst (λ k. Moves (next_param k c.args.line b (head_of c.args.header.head) c.args.header.params.items) b c.named.result) (sym c.in-Name.is) (c.named.ensures b)
