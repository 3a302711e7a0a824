use Rattle.std.proofs.Common.{sym}
use Rattle.lp_meaning.specs.WorldEfuns.{deed}
use Rattle.lp_efuns.proofs.Looking.{answered}
use Rattle.lp_efuns.proofs.objects.this_interactive.Goals as goal

pub returns-clause-looks : goal.returns-clause-looks
unfolding deed
returns-clause-looks c = λ vs turn g b d s sc h.
    answered g c.args.live.now turn b s c.args.caller.now.interactive d.interactive c.object_effect.result h (sym sc.interactive) c.object_effect.ensures.value
