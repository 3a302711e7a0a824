use Rattle.std.proofs.lemmas.Result.{IfOk-weaker}
use Rattle.lp_world.proofs.Closing.{closed_with_cells}
use Rattle.lp_efuns.specs.Deeds.{CarriesOut, bounded}
use Rattle.lp_efuns.proofs.Acted.{looking_does}
use Rattle.lp_efuns.proofs.changes.looked.Goals as goal

pub returns-clause-does : goal.returns-clause-does
returns-clause-does c =
    IfOk-weaker c.carry.result (λ d. CarriesOut (bounded c.in_ok-effect.effect) c.args.live.now.cells d c.carry.new.cells) _
    (λ d k. looking_does c.args.efun c.args.caller.now c.args.args.now c.args.live.now c.args.turn.now c.in_ok-effect.effect d c.carry.new.cells c.requires.world c.in_ok-effect.ensures.looks k) c.carry.ensures.carries

pub returns-clause-closed : goal.returns-clause-closed
returns-clause-closed c =
    closed_with_cells c.args.live.now c.carry.new.cells c.requires.closed c.carry.ensures.stay (c.carry.ensures.closed c.requires.closed.cells (c.in_ok-effect.ensures.there c.args.live.now.cells)).0

pub returns-clause-there : goal.returns-clause-there
returns-clause-there c = (c.carry.ensures.closed c.requires.closed.cells (c.in_ok-effect.ensures.there c.args.live.now.cells)).1
