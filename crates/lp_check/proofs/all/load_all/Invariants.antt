use Rattle.std.proofs.Common.{take}
use Rattle.lp_loads.specs.Known.{Grown, IsKnown, SomeKnown}
use Rattle.lp_loads.specs.Loads.{Loaded, LoadsAll}
use Rattle.lp_check.proofs.all.load_all.Given as goal

abbrev pub invariant-loop-path : goal.invariant-loop-path
invariant-loop-path l = SomeKnown l.known × ((ls : Loaded) → IsKnown ls l.fn.known → Grown (LoadsAll l.files l.simuls (take l.path-index l.paths) ls) l.known)
