-- What the lines that are written so far tell.
use Rattle.std.specs.Prelude.{◌≡◌, ℕ, List, ◌++◌, length, flat_map}
use Rattle.lp_tree.specs.declared.fault.Fault.{Fault}
use Rattle.lp_loads.specs.Loads.{Loaded}
use Rattle.lp_check.specs.Report.{AreEnded, fault_line, faults_in}

-- behind what stood there is a line for each fault, and so many there are
pub record AreTold (faults : List Fault) (old new : List ℕ) (count : ℕ) : Type 0 where
  pub lines : new ≡ old ++ flat_map fault_line faults
  pub counted : count ≡ length faults

-- behind what stood there are the lines of the faults of all loads that ended
pub record IsTold (ls : Loaded) (old new : List ℕ) (count : ℕ) : Type 0 where
  pub ended : List (List ℕ)
  pub are_ended : AreEnded ls ended
  pub told : AreTold (faults_in ls ended) old new count
