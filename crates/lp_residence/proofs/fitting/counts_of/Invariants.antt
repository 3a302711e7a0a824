use Rattle.std.proofs.Common.{◌≡◌, map, take}
use Rattle.lp_values.specs.declared.id.ProgId.{ProgId}
use Rattle.lp_world.specs.Rows.{row_at}
use Rattle.lp_residence.specs.Programs.{functions_in}
use Rattle.lp_residence.proofs.fitting.counts_of.Given as goal

abbrev pub invariant-loop-p : goal.invariant-loop-p
invariant-loop-p l = l.counts.items ≡ map (λ (p : ProgId). functions_in (row_at l.versions p.0)) (take l.p-index l.parts)
