use Rattle.std.proofs.Common.{◌≡◌, take}
use Rattle.lp_codegen_layout.specs.Laid.{names_in}
use Rattle.lp_codegen_layout.proofs.entry.names_of.Given as goal

abbrev pub invariant-loop-entry : goal.invariant-loop-entry
invariant-loop-entry l = l.names.items ≡ names_in (take l.entry-index l.entries)
