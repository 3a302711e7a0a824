use Rattle.std.proofs.Common.{◌∙◌, sym}
use Rattle.lp_calling.proofs.Entering.{direct_enters, direct_poised}
use Rattle.lp_calling.proofs.enter.enter.Goals as goal

pub returns-then-is_direct-clause-enters : goal.returns-then-is_direct-clause-enters
returns-then-is_direct-clause-enters c = direct_enters c.args.efun c.args.stage c.args.low c.args.live.now c.args.turn.now c.args.stack.now.items

pub returns-then-is_direct-clause-poised : goal.returns-then-is_direct-clause-poised
returns-then-is_direct-clause-poised c = direct_poised c.args.stage c.args.live.now c.args.turn.now (sym c.is_direct.ensures ∙ c.if-is_direct.true)
