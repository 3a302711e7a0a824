use Rattle.std.proofs.Common.{All, IsSome, take}
use Rattle.lp_values.specs.declared.id.ProgId.{ProgId}
use Rattle.lp_world.specs.Rows.{row_at}
use Rattle.lp_residence.proofs.adding.are_parents_there.Given as goal

abbrev pub invariant-loop-p : goal.invariant-loop-p
invariant-loop-p l = All (λ (p : ProgId). IsSome (row_at l.versions p.0)) (take l.p-index l.parents)
