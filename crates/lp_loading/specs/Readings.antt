-- What reading a file leads to, by what compiling it gives: the questions that nobody asks are answered.
use Rattle.std.specs.Prelude.{◌⊎◌, ℕ, suc, List, [], map}
use Rattle.lp_tree.specs.declared.fault.Fault.{Fault}
use Rattle.lp_tree.specs.declared.pragma.Pragmas.{Pragmas}
use Rattle.lp_tree.specs.Units.{ItemTree}
use Rattle.lp_language.specs.Course.{End, Gives, IsFaulty, LoadKind, Reply, State}
use Rattle.lp_meaning.specs.Askers.{Asker, told}
use Rattle.lp_meaning.specs.Closing.{Ends}
use Rattle.lp_meaning.specs.FileLoads.{Made, fault_record, making, parent_missing, parents_in, reading, simul_names, version_known, version_now}
use Rattle.lp_meaning.specs.FrontEnd.{FrontEnd}
use Rattle.lp_meaning.specs.WorldSteps.{file_of_name, next_version, with_new_version}
use Rattle.lp_compile_laws.specs.Told.{IsChecked, IsFaultyFile, IsFaultyUnit, IsMissing}

-- A file that has faults, or whose unit has faults with the versions of its parents, ends the load with them; each is logged.
abbrev pub FaultyEnds : Type 0
FaultyEnds =
    (front : FrontEnd) (turns : ℕ) (kind : LoadKind) (by : Asker) (nested : ℕ) (name : List ℕ) (made : List Made) (s : State) (fs : List Fault)
    → IsFaultyFile front s.world (file_of_name name) fs ⊎ IsFaultyUnit front s.world made (file_of_name name) (simul_names s.world by.loads) fs
    → Ends front (reading (suc turns) kind by nested name made s) (Gives (IsFaulty fs) (told (map fault_record fs) s))

-- Where a parent is missing, the load goes on with that.
abbrev pub MissingGoesOn : Type 0
MissingGoesOn =
    (front : FrontEnd) (turns : ℕ) (kind : LoadKind) (by : Asker) (nested : ℕ) (name : List ℕ) (made : List Made) (s : State) (file : List ℕ) (e : End Reply)
    → (m : IsMissing front s.world made (file_of_name name) file) → Ends front (parent_missing by nested name made (λ made s. reading turns kind by nested name made s) m.parent s) e
    → Ends front (reading (suc turns) kind by nested name made s) e

-- Where the unit has no fault, the load goes on with the version that is made, and an object of it.
abbrev pub SoundGoesOn : Type 0
SoundGoesOn =
    (front : FrontEnd) (turns : ℕ) (kind : LoadKind) (by : Asker) (nested : ℕ) (name : List ℕ) (made : List Made) (s : State) (items : List ItemTree) (pragmas : Pragmas) (e : End Reply)
    → IsChecked front s.world made (file_of_name name) (simul_names s.world by.loads) items pragmas []
    → Ends front (making kind by name (next_version s.world) (record s { world = with_new_version s.world (version_now s.world name items pragmas (map (version_known s.world made) (parents_in items)) (simul_names s.world by.loads)) })) e
    → Ends front (reading (suc turns) kind by nested name made s) e
