use Rattle.std.proofs.Common.{◌≡◌, drop}
use Rattle.indexmap.specs.IndexMap.{insert_all}
use Rattle.lp_values.specs.Read.{value_eq}
use Rattle.lp_cells.specs.Mapping.{pairs_of}
use Rattle.lp_meaning.specs.ComputingEfuns.{paired}
use Rattle.lp_value_efuns.proofs.list.paired.Given as goal

abbrev pub invariant-loop-i : goal.invariant-loop-i
invariant-loop-i g l = insert_all value_eq l.all (paired (g.L.Living.live l.live) (drop l.i l.keys) (drop l.i l.values)) ≡ pairs_of (paired (g.L.Living.live l.live) l.keys l.values)
