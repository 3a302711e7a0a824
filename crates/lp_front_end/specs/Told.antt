-- What is told to who asks for a file, or whether a unit is sound.
use Rattle.std.specs.Prelude.{◌≡◌, ℕ, List, []}
use Rattle.lp_tree.specs.declared.fault.Fault.{Fault}
use Rattle.lp_tree.specs.declared.pragma.Pragmas.{Pragmas}
use Rattle.lp_tree.specs.Units.{ItemTree}
use Rattle.lp_values.specs.declared.id.ProgId.{ProgId}
use Rattle.lp_language.specs.Course.{Ask, Read, Check, IsFaulty}
use Rattle.lp_meaning.specs.FrontEnd.{FrontEnd, Reading, IsTold, check_reply, read_reply, unchanged}

-- Who asks for a file is told what the front end reads of it, and nothing changes.
abbrev pub ReadIsTold : Type 0
ReadIsTold = (front : FrontEnd) (a : Ask) (path : List ℕ) (r : Reading) → a.what ≡ Read path → front.read a.world.files path ≡ r → IsTold front a (unchanged a (read_reply r))

-- Who asks whether a unit is sound is told its faults, or that it has none, and nothing changes.
abbrev pub CheckIsTold : Type 0
CheckIsTold = (front : FrontEnd) (a : Ask) (path : List ℕ) (items : List ItemTree) (pragmas : Pragmas) (parents : List ProgId) (simuls : List (List ℕ)) (fs : List Fault)
    → a.what ≡ Check path items pragmas parents simuls → front.check a.world path items pragmas parents simuls ≡ fs → IsTold front a (unchanged a (check_reply fs))

-- Where a unit has a fault, its faults are the reply.
abbrev pub FaultsAreTold : Type 0
FaultsAreTold = (fs : List Fault) → (fs ≡ [] → ⊥) → check_reply fs ≡ IsFaulty fs
