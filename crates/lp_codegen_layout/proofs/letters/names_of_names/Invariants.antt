use Rattle.std.proofs.Common.{◌≡◌, take}
use Rattle.lp_codegen_layout.proofs.letters.names_of_names.Given as goal

abbrev pub invariant-loop-name : goal.invariant-loop-name
invariant-loop-name l = l.names.items ≡ take l.name-index l.all
