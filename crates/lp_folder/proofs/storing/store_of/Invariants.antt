use Rattle.std.proofs.Common.{◌≡◌, ℕ, List, drop}
use Rattle.lp_files.specs.Store.{file_at}
use Rattle.lp_folder.specs.Held.{first_of, loaded_at}
use Rattle.lp_folder.proofs.storing.store_of.Given as goal

abbrev pub invariant-loop-file : goal.invariant-loop-file
invariant-loop-file l = (q : List ℕ) → first_of (file_at l.store q) (loaded_at (drop l.file-index l.files) q) ≡ loaded_at l.files q
