use Rattle.std.proofs.Common.{◌≡◌}
use Rattle.lp_preproc.specs.Names.{among}
use Rattle.lp_preproc.specs.NameTrees.{names_in, AreInOrder}
use Rattle.lp_preproc.proofs.names.contains.Given as goal

abbrev pub invariant-down : goal.invariant-down
invariant-down l = (among l.name (names_in l.at) ≡ among l.name (names_in l.tree)) × AreInOrder (names_in l.at)
