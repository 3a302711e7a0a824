use Rattle.std.proofs.Common.{◌∙◌, ap, refl}
use Rattle.lp_turn.specs.declared.job.Asked.TheVariants as asks
use Rattle.lp_turn.proofs.Initial.{starting_asks}
use Rattle.lp_turn.proofs.Words.{chars-master}
use Rattle.lp_turn.proofs.starting.start.Goals as goal

pub returns-clause-begins : goal.returns-clause-begins
returns-clause-begins c = starting_asks c.args.live.now _ (ap (λ t. asks.Load t) (c.in_ok-name.ensures ∙ chars-master)) refl refl c.new.ensures.items
