use Rattle.std.proofs.Common.{◌≡◌, ◌++◌, drop}
use Rattle.lp_codegen_layout.specs.Laid.{seen}
use Rattle.lp_codegen_layout.proofs.variables.seen_of.Given as goal

abbrev pub invariant-loop-i : goal.invariant-loop-i
invariant-loop-i l = l.entries.items ++ seen l.parts l.i (drop l.i l.rows) ≡ seen l.parts 0 l.rows
