use Rattle.std.proofs.Common.{◌≡◌, ◌-◌, ◌≤◌, length, map}
use Rattle.lp_cells.specs.Cells.{Store}
use Rattle.lp_ops.specs.Operands.{operand}
use Rattle.lp_meaning.specs.EfunArguments.{first_bad}
use Rattle.lp_value_efuns.specs.Kinds.{kinds_of}
use Rattle.lp_value_efuns.proofs.FitLemmas.{bad_from}
use Rattle.lp_value_efuns.proofs.fit.first_other.Given as goal

abbrev pub invariant-loop-i : goal.invariant-loop-i
invariant-loop-i g l = record { within : l.i ≤ length l.args; rest : (cells : Store) → first_bad 1 (kinds_of l.kinds) (map (operand (g.L.Living.live l.live) cells) l.args) ≡ bad_from (g.L.Living.live l.live) cells l.i l.kinds l.args }

abbrev pub decreases-loop-i : goal.decreases-loop-i
decreases-loop-i g l = length l.kinds - l.i
