use Rattle.std.proofs.Common.{◌≤◌, ◌-◌, ℕ, suc, List, Option}
use Rattle.lp_events.specs.Script.{longest_input}
use Rattle.lp_script.specs.Reader.{Reads}
use Rattle.lp_top.specs.declared.status.Status.TheVariants.{Done}
use Rattle.lp_top.specs.Causes.{SwapTells}
use Rattle.lp_top.specs.Replay.{IsRunning}
use Rattle.lp_top.proofs.replay.events.Given as goal

-- items were carried out, and the source's bytes are taken
abbrev pub invariant-loop-item : goal.invariant-loop-item
invariant-loop-item g l =
    let device = g.W.SwapFile in
    record {
      running : (from : Option (List ℕ)) → IsRunning l.fn.swap_time l.fn.reader (device.content l.fn.swap) l.fn.live from (g.K.Sink.written l.fn.out) → IsRunning l.fn.swap_time l.reader (device.content l.swap) l.live from (g.K.Sink.written l.out);
      reads : (b : List ℕ) → Reads b l.fn.reader (g.S.Source.remaining l.fn.input) → Reads b l.reader (g.S.Source.remaining l.input);
      source_faults : g.S.Source.faults l.fn.input ≤ g.S.Source.faults l.input;
      sink_faults : g.K.Sink.faults l.fn.out ≤ g.K.Sink.faults l.out;
      zeros : g.K.Sink.zeros l.fn.out ≤ g.K.Sink.zeros l.out;
      swap : SwapTells Done (device.content l.swap) (device.last l.swap) (device.read_faults l.fn.swap) (device.read_faults l.swap) (device.is_truthful l.fn.swap) (device.is_truthful l.swap) (device.is_honest l.fn.swap) (device.is_honest l.swap);
    }

-- each item takes bytes
abbrev pub decreases-loop-item : goal.decreases-loop-item
decreases-loop-item g l = suc longest_input - l.reader.cut
