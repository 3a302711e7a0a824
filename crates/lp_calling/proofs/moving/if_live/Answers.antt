use Rattle.std.proofs.Common.{◌∙◌, sym}
use Rattle.lp_world.specs.Rows.{live_in}
use Rattle.lp_calling.proofs.Moves.{whom_is_dead, whom_lives}
use Rattle.lp_calling.proofs.moving.if_live.Goals as goal

pub returns-then-is_live : goal.returns-then-is_live
returns-then-is_live c = whom_lives (live_in c.args.objects.now) c.args.o (sym c.is_live.ensures ∙ c.if-is_live.true)

pub returns : goal.returns
returns c = whom_is_dead (live_in c.args.objects.now) c.args.o (sym c.is_live.ensures ∙ c.if-is_live.false)
