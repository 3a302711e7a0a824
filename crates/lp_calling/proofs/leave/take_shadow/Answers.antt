use Rattle.std.proofs.Common.{◌∙◌, sym}
use Rattle.lp_world.specs.Rows.{live_in}
use Rattle.lp_calling.proofs.Leaving.{shadow_denied, shadow_granted}
use Rattle.lp_calling.proofs.leave.take_shadow.Goals as goal

pub returns-then-is_zero-clause-granted : goal.returns-then-is_zero-clause-granted
returns-then-is_zero-clause-granted c = shadow_denied (live_in c.args.objects.now) c.args.this c.args.o c.args.v.now (sym c.is_zero.ensures ∙ c.if-is_zero.true)

pub returns-clause-granted : goal.returns-clause-granted
returns-clause-granted c = shadow_granted (live_in c.args.objects.now) c.args.this c.args.o c.args.v.now (sym c.is_zero.ensures ∙ c.if-is_zero.false)
