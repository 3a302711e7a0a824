use Rattle.std.proofs.Common.{◌∙◌, refl, sym}
use Rattle.lp_efuns.proofs.Called.{same_variables}
use Rattle.lp_efuns.proofs.Enabled.{dead_enable, enabled_by}
use Rattle.lp_efuns.proofs.enabling.enable_commands.Goals as goal

pub returns-then-not-is_live-clause-does : goal.returns-then-not-is_live-clause-does
returns-then-not-is_live-clause-does c = λ vs. dead_enable c.args.caller.now vs c.args.live.now c.args.turn.now (sym c.is_live.ensures ∙ c.if-not-is_live.true)

pub returns-then-not-is_live-clause-variables : goal.returns-then-not-is_live-clause-variables
returns-then-not-is_live-clause-variables c = same_variables c.args.live.now.objects c.args.live.now.objects refl

pub returns-clause-does : goal.returns-clause-does
returns-clause-does c = λ vs.
    enabled_by c.args.caller.now vs c.args.live.now c.enable.new.live c.args.turn.now c.enable.new.turn (sym c.is_live.ensures ∙ c.if-not-is_live.false) c.enable.ensures.rows c.enable.ensures.player c.enable.ensures.commands
