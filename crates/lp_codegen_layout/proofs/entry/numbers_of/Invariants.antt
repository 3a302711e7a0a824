use Rattle.std.proofs.Common.{◌≡◌, take}
use Rattle.lp_codegen_layout.specs.Laid.{numbers_in}
use Rattle.lp_codegen_layout.proofs.entry.numbers_of.Given as goal

abbrev pub invariant-loop-entry : goal.invariant-loop-entry
invariant-loop-entry l = l.numbers.items ≡ numbers_in (take l.entry-index l.entries)
