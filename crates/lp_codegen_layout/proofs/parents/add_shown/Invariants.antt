use Rattle.std.proofs.Common.{◌≡◌, ◌++◌, drop}
use Rattle.lp_codegen_layout.specs.Laid.{shown}
use Rattle.lp_codegen_layout.proofs.parents.add_shown.Given as goal

abbrev pub invariant-loop-i : goal.invariant-loop-i
invariant-loop-i l = l.entries.items ++ shown l.bodies l.i (drop l.i l.parents) ≡ l.initial.entries.items ++ shown l.bodies 0 l.parents
