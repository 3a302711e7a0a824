use Rattle.std.proofs.Common.{◌∷◌, ◌++◌, [], subst, sym}
use Rattle.std.specs.Prelude.{Some, None}
use Rattle.lp_parser.specs.Machine.{BehindParam, need_param, param}
use Rattle.lp_parser.specs.Moves.{Moves}
use Rattle.lp_parser.specs.View.{head_of}
use Rattle.lp_parser.proofs.params.need_param.Goals as goal

pub returns-in-Name : goal.returns-in-Name
returns-in-Name c =
    λ b.
    subst (λ k. Moves (need_param k c.args.line b (head_of c.args.head)) b c.named.result) (sym c.in-Name.is)
    (subst (λ ps. Moves (Some (BehindParam b (head_of c.args.head) (ps ++ param c.args.line None c.in-Name.name ∷ []))) b c.named.result) c.new.ensures.items (c.named.ensures b))
