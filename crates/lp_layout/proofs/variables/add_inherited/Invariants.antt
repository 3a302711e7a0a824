use Rattle.std.proofs.Common.{◌≡◌, ◌++◌, take}
use Rattle.lp_layout.specs.Layout.{inherited_rows, parts_of}
use Rattle.lp_layout.proofs.variables.add_inherited.Given as goal

abbrev pub invariant-loop-parent : goal.invariant-loop-parent
invariant-loop-parent l = record {
  first : l.first ≡ parts_of (take l.parent-index l.parents);
  rows : l.rows.items ≡ l.fn.rows.items ++ inherited_rows (take l.parent-index l.parents) 0;
}
