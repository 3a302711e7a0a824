-- Where a file names a parent, and when that ends the load.
use Rattle.std.specs.Prelude.{◌≡◌, ◌⊎◌, ◌∷◌, [], ℕ, suc, true, false, List, Option, Some, find, nat_lt}
use Rattle.lp_files.specs.declared.store.Store.{Store}
use Rattle.lp_tree.specs.declared.fault.Fault.{Fault}
use Rattle.lp_tree.specs.declared.fault.FaultKind.{FaultKind}
use Rattle.lp_tree.specs.declared.fault.FaultKind.TheVariants as faults
use Rattle.lp_tree.specs.declared.pragma.Pragmas.{Pragmas}
use Rattle.lp_tree.specs.Units.{ItemTree}
use Rattle.lp_instr.specs.EfunList.{is_name}
use Rattle.lp_front.specs.declared.parents.Parent.{Parent}
use Rattle.lp_front.specs.Names.{parents_in}
use Rattle.lp_front.specs.Reading.{Declares}
use Rattle.lp_front_end.specs.Parents.{file_bytes}
use Rattle.lp_meaning.specs.FileLoads.{is_under_way}
use Rattle.lp_meaning.specs.Limits.{max_nested}
use Rattle.lp_asking.specs.declared.asker.Loading.{Loading}
use Rattle.lp_loading.specs.declared.job.LoadJob.{LoadJob}
use Rattle.lp_loading.specs.Loads.{loads_of}

-- the first of these parents that has a file
abbrev pub first_of : List ℕ → List Parent → Option Parent
first_of file ps = find (λ p. is_name p.file file) ps

-- The first `inherit` of a file, in the file at a path, stands at a line.
pub record IsLineOf (files : Store) (path file : List ℕ) (line : ℕ) : Type 0 where
  pub items : List ItemTree
  pub pragmas : Pragmas
  pub declares : Declares files path items pragmas
  pub parent : Parent
  pub first : first_of file (parents_in items) ≡ Some parent
  pub line_is : line ≡ parent.line

-- one fault of the file of a name
abbrev pub IsFaultOf : List ℕ → ℕ → FaultKind → List Fault → Type 0
IsFaultOf name line kind fs = fs ≡ record { file = file_bytes name; line = line; kind = kind } ∷ []

-- A parent with this name, which is missing, cannot be loaded: its load is under way, or loads are nested too deep.
pub record IsTooFar (kind : FaultKind) (file : List ℕ) (job : LoadJob) (loads : List Loading) : Type 0 where
  pub name : List ℕ
  pub file_is : file ≡ file_bytes name
  pub why : ((kind ≡ faults.Cycle) × (is_under_way name (loads_of loads) ≡ true))
      ⊎ ((kind ≡ faults.InheritDepth) × (is_under_way name (loads_of loads) ≡ false) × (nat_lt max_nested (suc job.nested) ≡ true))
