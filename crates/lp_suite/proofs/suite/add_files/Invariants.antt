use Rattle.std.proofs.Common.{take}
use Rattle.lp_loads.specs.Known.{IsKnown}
use Rattle.lp_loads.specs.Loads.{Loaded}
use Rattle.lp_suite.specs.Suite.{AddsEntries}
use Rattle.lp_suite.proofs.suite.add_files.Given as goal

abbrev pub invariant-loop-path : goal.invariant-loop-path
invariant-loop-path l = (ls : Loaded) → IsKnown ls l.known → AddsEntries l.files ls (take l.path-index l.paths) l.entries.items
