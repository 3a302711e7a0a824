use Rattle.std.proofs.Common.{◌≡◌, ◌++◌, drop}
use Rattle.lp_codegen_layout.specs.Laid.{path_names}
use Rattle.lp_codegen_layout.proofs.parents.path_names_of.Given as goal

abbrev pub invariant-loop-i : goal.invariant-loop-i
invariant-loop-i l = l.entries.items ++ path_names l.i (drop l.i l.parents) ≡ path_names 0 l.parents
