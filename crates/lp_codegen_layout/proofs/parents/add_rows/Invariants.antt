use Rattle.std.proofs.Common.{◌≡◌, ◌++◌, drop}
use Rattle.lp_codegen_layout.specs.Laid.{shown_rows}
use Rattle.lp_codegen_layout.proofs.parents.add_rows.Given as goal

abbrev pub invariant-loop-slot : goal.invariant-loop-slot
invariant-loop-slot l = l.entries.items ++ shown_rows l.bodies l.number (drop l.slot-index l.slots) ≡ l.initial.entries.items ++ shown_rows l.bodies l.number l.slots
