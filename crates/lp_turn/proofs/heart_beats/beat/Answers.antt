use Rattle.std.proofs.Common.{◌∙◌, ◌+◌, ap, refl, subst}
use Rattle.lp_turn.specs.TickSteps.{HasBeatAt}
use Rattle.lp_turn.specs.declared.job.Asked.TheVariants as asks
use Rattle.lp_turn.proofs.Beaten.{beat_begins}
use Rattle.lp_turn.proofs.Words.{chars-heart_beat}
use Rattle.lp_turn.proofs.heart_beats.beat.Goals as goal

pub returns-clause-begins : goal.returns-clause-begins
returns-clause-begins c =
    beat_begins c.args.live.now c.set_beat.new.live c.args.o c.args.due c.player_of-player.result _ c.player_of-player.ensures c.requires.live
    (subst (λ t. HasBeatAt c.args.o (t + 2) c.args.live.now c.set_beat.new.live) c.moment.ensures.value c.set_beat.ensures.set) (ap (λ t. asks.Apply c.args.o t) (c.in_ok-name.ensures ∙ chars-heart_beat)) refl refl c.new.ensures.items
