use Rattle.std.proofs.Common.{[], subst, sym}
use Rattle.lp_host.specs.CutGames.{WasPlayed}
use Rattle.lp_host.specs.Playing.{HasPlayed}
use Rattle.lp_state.specs.States.{live_in}
use Rattle.lp_host.proofs.Blaming.{hosted_files, hosted_master, hosted_output, hosted_swap, hosted_wire}
use Rattle.lp_host.proofs.HostedRuns.{ended_as}
use Rattle.lp_host.proofs.Shortened.{loop_cuts}
use Rattle.lp_host.proofs.run.play.Goals as goal

pub returns : goal.returns
returns g c = record {
  run = λ origin h.
      rw c.ended.ensures
      (ended_as c.serve-served.result c.into_cause.result _ _ _ (live_in c.serve-served.new.core.state).store _ _ _ _ (λ e b p l left r. record { swapped = _; live = _; files = left; run = r }) c.serve-served.ensures.files_fault
      (c.serve-served.ensures.run origin (subst (λ s. HasPlayed origin (g.W.SwapFile.content c.args.swap.now) (live_in s) []) (sym c.new-core.ensures) h)));
  cut = λ origin h.
      rw c.ended.ensures
      (loop_cuts c.serve-served.result c.into_cause.result _ (WasPlayed origin) _ _ _ (λ turns r. (g.W.SwapFile.content r.1, live_in r.0.state, r.2))
      (c.serve-served.ensures.cut origin (subst (λ s. HasPlayed origin (g.W.SwapFile.content c.args.swap.now) (live_in s) []) (sym c.new-core.ensures) h)));
  output = rw c.ended.ensures (hosted_output c.serve-served.result c.into_cause.result _ _ _ _ c.serve-served.ensures.output_fault);
  files = rw c.ended.ensures (hosted_files c.serve-served.result c.into_cause.result _ _ _ c.serve-served.ensures.files_fault);
  wire = rw c.ended.ensures (hosted_wire c.serve-served.result c.into_cause.result _ _ c.serve-served.ensures.wire_fault);
  swap = λ from q. rw (c.ended.ensures, c.into_cause.ensures) (hosted_swap c.serve-served.result c.serve-served.new.core.cause (c.serve-served.ensures.swap_fault from q));
  master = rw c.ended.ensures (hosted_master c.serve-served.result c.into_cause.result _ _);
}
