use Rattle.std.proofs.Common.{◌∙◌, ap}
use Rattle.std.proofs.lemmas.Result.{IfOk-weaker}
use Rattle.lp_turn.specs.Starts.{texts_of}
use Rattle.lp_turn.proofs.Preloaded.{listed_as}
use Rattle.lp_turn.proofs.starting.listed.Goals as goal

pub returns-clause-goes : goal.returns-clause-goes
returns-clause-goes c =
    IfOk-weaker c.preload.result _ _ (λ r b. listed_as c.args.live.now c.args.v.now c.in_ok-texts.texts r c.requires.there (c.in_ok-texts.ensures ∙ ap texts_of c.items_of.ensures) b) c.preload.ensures.goes
