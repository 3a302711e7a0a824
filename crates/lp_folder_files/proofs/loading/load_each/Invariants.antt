use Rattle.std.proofs.Common.{◌≡◌, map, take, string_bytes}
use Rattle.lp_folder.specs.Held.{AllPaths, paths_of}
use Rattle.lp_folder_files.proofs.loading.load_each.Given as goal

abbrev pub invariant-loop-path : goal.invariant-loop-path
invariant-loop-path g l = record {
  paths : paths_of l.files.items ≡ map string_bytes (take l.path-index l.path-items);
  each : AllPaths l.files.items;
}
