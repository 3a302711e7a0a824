use Rattle.std.proofs.Common.{sym}
use Rattle.lp_meaning.specs.WorldEfuns.{deed}
use Rattle.lp_efuns.proofs.Looking.{answered}
use Rattle.lp_efuns.proofs.objects.this_player.Goals as goal

pub returns-clause-looks : goal.returns-clause-looks
unfolding deed
returns-clause-looks c = λ caller vs g b d s sc h.
    answered g c.args.live.now c.args.turn.now b s c.args.turn.now.player s.player c.object_effect.result h (sym h.player) c.object_effect.ensures.value
