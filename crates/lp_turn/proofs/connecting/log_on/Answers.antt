use Rattle.std.proofs.Common.{◌∙◌, ap, refl}
use Rattle.lp_turn.specs.declared.job.Asked.TheVariants as asks
use Rattle.lp_turn.proofs.Connected.{logs_on}
use Rattle.lp_turn.proofs.Words.{chars-logon}
use Rattle.lp_turn.proofs.connecting.log_on.Goals as goal

pub returns-clause-begins : goal.returns-clause-begins
returns-clause-begins c =
    logs_on c.args.live.now c.give.new.live c.args.number c.args.o _ (ap (λ t. asks.Apply c.args.o t) (c.in_ok-name.ensures ∙ chars-logon)) refl refl c.new.ensures.items c.in_ok-give.ensures.given c.requires.live
