use Rattle.std.proofs.Common.{Some, ap, sym}
use Rattle.lp_meaning.specs.WorldEfuns.{deed}
use Rattle.lp_efuns.proofs.Looking.{answered}
use Rattle.lp_efuns.proofs.objects.this_object.Goals as goal

pub returns-clause-looks : goal.returns-clause-looks
unfolding deed
returns-clause-looks c = λ vs turn g b d s sc h.
    answered g c.args.live.now turn b s (Some c.args.caller.now.this) (Some d.this) c.object_effect.result h (ap Some (sym sc.this)) c.object_effect.ensures.value
