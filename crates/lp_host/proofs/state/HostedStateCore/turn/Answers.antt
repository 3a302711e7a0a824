use Rattle.std.proofs.Common.{subst, sym}
use Rattle.lp_host.specs.Causes.{SwapTells}
use Rattle.lp_host.specs.declared.run.Hosted.{Hosted}
use Rattle.lp_host.proofs.Blaming.{quiet_more, quiet_then, turn_blames}
use Rattle.lp_host.proofs.Played.{played_more}
use Rattle.lp_host.proofs.state.HostedStateCore.turn.Goals as goal

pub returns-in-Ok-clause-ran : goal.returns-in-Ok-clause-ran
returns-in-Ok-clause-ran g c = λ origin turns h. played_more origin _ _ _ _ turns c.args.event.now c.in-Ok.outs h c.in-Ok.ensures.turns

pub returns-in-Ok-clause-quiet : goal.returns-in-Ok-clause-quiet
returns-in-Ok-clause-quiet g c = λ from q. quiet_more _ q c.in-Ok.ensures.tells

pub returns-in-Err-clause-blames : goal.returns-in-Err-clause-blames
returns-in-Err-clause-blames g c = λ from q. rw c.stopped.ensures.cause (quiet_then _ q (turn_blames c.in-Err.fault _ c.in-Err.ensures.tells))
