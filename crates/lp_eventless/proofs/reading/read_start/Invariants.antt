use Rattle.std.proofs.Common.{◌≡◌, ◌≤◌, ◌-◌, ℕ, suc, List, Some}
use Rattle.lp_events.specs.Script.{longest_input}
use Rattle.lp_script.specs.Reader.{Reads}
use Rattle.lp_eventless.proofs.Starting.{IsFiling}
use Rattle.lp_eventless.proofs.reading.read_start.Given as goal

-- the reader gives items before the start, and the source's bytes are taken
abbrev pub invariant-loop-item : goal.invariant-loop-item
invariant-loop-item g l = record {
  filing : IsFiling l.reader l.items.items;
  reads : (b : List ℕ) → g.S.Source.remaining l.fn.input ≡ Some b → Reads b l.reader (g.S.Source.remaining l.input);
  no_fall : g.S.Source.faults l.fn.input ≤ g.S.Source.faults l.input;
}

-- each item takes bytes
abbrev pub decreases-loop-item : goal.decreases-loop-item
decreases-loop-item g l = suc longest_input - l.reader.cut
