use Rattle.std.proofs.Common.{◌∙◌, None, Some, ap, subst, sym}
use Rattle.std.specs.Str.{chars}
use Rattle.lp_meaning.specs.WorldSteps.{is_clone_name}
use Rattle.lp_turn.specs.TickSteps.{IsCloneIn}
use Rattle.lp_turn.proofs.Watched.{clone_is}
use Rattle.lp_turn.proofs.watches.is_clone.Goals as goal

pub returns-in_ok-points-in-Some : goal.returns-in_ok-points-in-Some
returns-in_ok-points-in-Some c =
    subst (IsCloneIn c.args.live.now c.args.o) (sym (c.is_clone_name.ensures ∙ ap is_clone_name (c.as_slice.ensures.value ∙ c.in_ok-points-in-Some.ensures)))
    (clone_is c.args.live.now c.args.o (Some (chars c.in-Some.name.now)) c.requires.live (λ objects h. c.in-Some.ensures objects h))

pub returns-in-None : goal.returns-in-None
returns-in-None c = clone_is c.args.live.now c.args.o None c.requires.live (λ objects h. c.in-None.ensures objects h)
