use Rattle.std.proofs.Common.{◌≡◌, drop}
use Rattle.std.specs.Cmp.Lexicographic.{pointwise}
use Rattle.lp_preproc.specs.Names.{same_name}
use Rattle.lp_preproc.proofs.same.same_names.Given as goal

abbrev pub invariant-names : goal.invariant-names
invariant-names l = pointwise same_name (drop l.i l.a) (drop l.i l.b) ≡ pointwise same_name l.a l.b
