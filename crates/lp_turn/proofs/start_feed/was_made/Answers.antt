use Rattle.std.proofs.Common.{◌∙◌, ap, sym}
use Rattle.std.specs.List.{list_any}
use Rattle.std.proofs.lemmas.Result.{IfOk-weaker}
use Rattle.lp_objects.specs.Stands as names
use Rattle.lp_turn.specs.StartEnds.{is_master_name}
use Rattle.lp_turn.proofs.Remembered.{made_alive, made_or_not}
use Rattle.lp_turn.proofs.start_feed.was_made.Goals as goal

pub returns-then-is_some : goal.returns-then-is_some
returns-then-is_some c = made_alive c.args.names.now c.master.result c.master.ensures (sym c.is_some.ensures ∙ c.if-is_some.true)

pub returns : goal.returns
returns c =
    IfOk-weaker c.is_among.result _ _
    (λ b f. made_or_not c.args.names.now c.master.result b c.master.ensures (sym c.is_some.ensures ∙ c.if-is_some.false)
    (λ all h. f all h ∙ ap (list_any (λ o. is_master_name (names.known_at c.args.names.now all o.0))) c.died.ensures.all)) c.is_among.ensures
