use Rattle.std.proofs.Common.{◌≡◌, ◌++◌}
use Rattle.lp_folder.specs.Memory.{files_among}
use Rattle.lp_folder.proofs.InMemory.{pairs_of}
use Rattle.lp_folder.proofs.memory.MemFiles.all.Given as goal

abbrev pub invariant-loop-path : goal.invariant-loop-path
invariant-loop-path l = pairs_of l.files.items ++ files_among l.path-iterator ≡ files_among l.self.files.entries
