use Rattle.std.proofs.Common.{◌≡◌}
use Rattle.lp_folder.specs.Memory.{calls_of}
use Rattle.lp_devices.proofs.folder.put_edits.Given as goal

abbrev pub invariant-loop-edit : goal.invariant-loop-edit
invariant-loop-edit l = calls_of l.memory ≡ calls_of l.fn.memory
