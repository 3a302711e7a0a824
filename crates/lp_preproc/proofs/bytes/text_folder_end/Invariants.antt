use Rattle.std.proofs.Common.{◌≡◌, drop}
use Rattle.lp_preproc.specs.Uses.{folder_end}
use Rattle.lp_preproc.proofs.bytes.text_folder_end.Given as goal

abbrev pub invariant-path : goal.invariant-path
invariant-path l = folder_end l.end l.i (drop l.i l.path) ≡ folder_end 0 0 l.path
