-- The files that were gathered from a script.
use Rattle.std.specs.Prelude.{◌≡◌, ℕ, List}
use Rattle.lp_check.specs.declared.sources.Sources.{Sources}
use Rattle.lp_check.specs.Report.{IsStoreOf, sources_of}

-- these files were gathered, in this order
pub record AreFiles (files : List (List ℕ × List ℕ)) (gathered : Sources) : Type 0 where
  pub stored : IsStoreOf files gathered.store
  pub compiled : gathered.paths.items ≡ sources_of files
