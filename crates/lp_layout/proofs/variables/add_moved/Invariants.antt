use Rattle.std.proofs.Common.{◌≡◌, ◌++◌, take, map}
use Rattle.lp_layout.specs.Layout.{row_moved}
use Rattle.lp_layout.proofs.variables.add_moved.Given as goal

abbrev pub invariant-loop-row : goal.invariant-loop-row
invariant-loop-row l = l.rows.items ≡ l.fn.rows.items ++ map (row_moved l.first) (take l.row-index l.inherited)
