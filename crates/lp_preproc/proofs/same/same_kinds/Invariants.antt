use Rattle.std.proofs.Common.{◌≡◌, drop}
use Rattle.std.specs.Cmp.Lexicographic.{pointwise}
use Rattle.lp_preproc.specs.Macros.{same_kind}
use Rattle.lp_preproc.proofs.same.same_kinds.Given as goal

abbrev pub invariant-kinds : goal.invariant-kinds
invariant-kinds l = pointwise same_kind (drop l.i l.a) (drop l.i l.b) ≡ pointwise same_kind l.a l.b
