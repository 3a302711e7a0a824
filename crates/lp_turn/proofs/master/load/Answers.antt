use Rattle.std.proofs.Common.{◌∙◌, ap, refl}
use Rattle.lp_turn.specs.declared.job.Asked.TheVariants as asks
use Rattle.lp_turn.proofs.Words.{chars-master}
use Rattle.lp_turn.proofs.master.load.Goals as goal

pub returns-clause-loads : goal.returns-clause-loads
returns-clause-loads c = record { asked = ap (λ t. asks.Load t) (c.in_ok-name.ensures ∙ chars-master); player = refl; interactive = refl; arguments = c.new.ensures.items; waits = refl }
