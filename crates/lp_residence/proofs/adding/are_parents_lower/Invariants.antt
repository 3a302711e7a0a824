use Rattle.std.proofs.Common.{◌<◌, All, take}
use Rattle.lp_values.specs.declared.id.ProgId.{ProgId}
use Rattle.lp_residence.proofs.adding.are_parents_lower.Given as goal

abbrev pub invariant-loop-p : goal.invariant-loop-p
invariant-loop-p l = All (λ (p : ProgId). p.0 < l.number) (take l.p-index l.parents)
