use Rattle.std.proofs.Common.{◌≡◌, take}
use Rattle.lp_codegen_layout.specs.Laid.{row_names}
use Rattle.lp_codegen_layout.proofs.letters.names_of_rows.Given as goal

abbrev pub invariant-loop-row : goal.invariant-loop-row
invariant-loop-row l = l.names.items ≡ row_names (take l.row-index l.rows)
