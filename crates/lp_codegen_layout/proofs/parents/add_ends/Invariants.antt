use Rattle.std.proofs.Common.{◌≡◌, ◌++◌, drop}
use Rattle.lp_codegen_layout.specs.Laid.{ends}
use Rattle.lp_codegen_layout.proofs.parents.add_ends.Given as goal

abbrev pub invariant-loop-i : goal.invariant-loop-i
invariant-loop-i l = l.entries.items ++ ends l.number (drop l.i l.path) ≡ l.initial.entries.items ++ ends l.number l.path
