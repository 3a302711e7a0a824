use Rattle.std.proofs.Common.{◌∙◌, ap, sym}
use Rattle.lp_moving.specs.Moving.{is_made}
use Rattle.lp_moving.proofs.Moved.{made_lives, made_same}
use Rattle.lp_moving.proofs.visits.may_init.Goals as goal

pub returns-clause-is : goal.returns-clause-is
returns-clause-is c = λ told programs w h.
    c.is_made.ensures ∙ ap (λ p. is_made p c.args.live.now.objects c.args.item c.args.dest c.args.of c.args.player) (c.environment.ensures w.places w.shadows h.rest.places)
    ∙ made_same told programs c.args.live.now w c.args.item c.args.dest c.args.of c.args.player h

pub returns-clause-lives : goal.returns-clause-lives
returns-clause-lives c = λ e. made_lives c.environment.result c.args.live.now.objects c.args.item c.args.dest c.args.of c.args.player (sym c.is_made.ensures ∙ e)
