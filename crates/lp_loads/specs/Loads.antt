-- What loading the files of a mudlib would find, with their parents first and running nothing.
use Rattle.std.specs.Prelude.{◌≡◌, ◌≤◌, ◌<◌, ℕ, List, [], ◌∷◌, ◌++◌, Bool, true, false, length, Option, Some, None, bytes_eq, if◌then◌else◌}
use Rattle.std.specs.List.{list_any}
use Rattle.lp_files.specs.declared.store.Store.{Store}
use Rattle.lp_tree.specs.declared.fault.Fault.{Fault}
use Rattle.lp_tree.specs.declared.fault.FaultKind.{FaultKind}
use Rattle.lp_tree.specs.declared.fault.FaultKind.TheVariants.{Cycle, InheritDepth}
use Rattle.lp_tree.specs.declared.pragma.Pragmas.{Pragmas}
use Rattle.lp_tree.specs.Units.{ItemTree}
use Rattle.lp_values.specs.declared.id.ProgId.{ProgId}
use Rattle.lp_code.specs.declared.tables.Tables.{Tables}
use Rattle.lp_front.specs.declared.parents.Parent.{Parent}
use Rattle.lp_front.specs.Names.{parents_in}
use Rattle.lp_front.specs.Reading.{Declares, HasFault}
use Rattle.lp_front.specs.Settling.{faults_of, tables_of}

-- A load that ended: with the tables of a version, where the file and all that it inherits are without fault. The faults
-- are the file's own; where there is neither a version nor a fault, a file that it inherits has one.
pub record Load : Type 0 where
  pub file : List ℕ
  pub version : Option Tables
  pub faults : List Fault

-- the loads that ended, the last one first
abbrev pub Loaded : Type 0
Loaded = List Load

abbrev pub load_of : Loaded → List ℕ → Option Load
load_of [] file = None
load_of (l ∷ ls) file = if bytes_eq l.file file then Some l else load_of ls file

abbrev pub with_fault : List ℕ → Fault → Load
with_fault file fault = record { file = file; version = None; faults = fault ∷ [] }

-- so many loads for an `inherit` may be under way inside one another
abbrev pub most_nested : ℕ
most_nested = 64

abbrev pub is_under_way : List (List ℕ) → List ℕ → Bool
is_under_way under file = list_any (bytes_eq file) under

-- What an `inherit` leads to: the tables of the parent; a fault of the file itself; or a parent without a version.
pub data Found : Type 0 where
  Stands : Tables → Found
  Wrong : FaultKind → Found
  Lacks : Found

abbrev pub found_version : Option Tables → Found
found_version None = Lacks
found_version (Some t) = Stands t

-- What the parents of a file lead to: their tables, one for each `inherit`; a fault of the file at the line of an
-- `inherit`; or a parent without a version.
pub data Family : Type 0 where
  Whole : List Tables → Family
  Broken : FaultKind → (line : ℕ) → Family
  Lacking : Family

abbrev pub with_parent : Tables → Family → Family
with_parent t (Whole ts) = Whole (t ∷ ts)
with_parent t (Broken kind line) = Broken kind line
with_parent t Lacking = Lacking

abbrev pub version_number : ℕ → ProgId
version_number n = record { 0 = n }

-- how a load ends, by the faults of the file: a version is numbered by how many loads ended before
abbrev pub settled : List ℕ → List ItemTree → Pragmas → List Tables → ℕ → List Fault → Load
settled file items pragmas ts number [] = record { file = file; version = Some (tables_of file items pragmas ts (version_number number)); faults = [] }
settled file items pragmas ts number (f ∷ fs) = record { file = file; version = None; faults = f ∷ fs }

-- how the load of a file ends that declares this and whose parents lead to this
abbrev pub ended : List (List ℕ) → List ℕ → List ItemTree → Pragmas → ℕ → Family → Load
ended simuls file items pragmas number (Whole ts) = settled file items pragmas ts number (faults_of file items pragmas ts simuls)
ended simuls file items pragmas number (Broken kind line) = with_fault file (record { file = file; line = line; kind = kind })
ended simuls file items pragmas number Lacking = record { file = file; version = None; faults = [] }

mutual
  -- The load of a file, inside the loads that are under way, the outermost first.
  pub data Loads (files : Store) (simuls : List (List ℕ)) : List (List ℕ) → List ℕ → Loaded → Loaded → Type 0 where
    unread : {under : List (List ℕ)} {file : List ℕ} {before : Loaded} {fault : Fault}
        → HasFault files file fault → Loads files simuls under file before (with_fault file fault ∷ before)
    read : {under : List (List ℕ)} {file : List ℕ} {before after : Loaded} {items : List ItemTree} {pragmas : Pragmas} {family : Family}
        → Declares files file items pragmas → LoadsParents files simuls (under ++ file ∷ []) (parents_in items) before after family
        → Loads files simuls under file before (ended simuls file items pragmas (length after) family ∷ after)

  -- One parent of the innermost load.
  pub data LoadsParent (files : Store) (simuls : List (List ℕ)) : List (List ℕ) → List ℕ → Loaded → Loaded → Found → Type 0 where
    -- whose load ended
    known : {under : List (List ℕ)} {file : List ℕ} {before : Loaded} {l : Load}
        → load_of before file ≡ Some l → LoadsParent files simuls under file before before (found_version l.version)
    -- whose load is under way
    itself : {under : List (List ℕ)} {file : List ℕ} {before : Loaded}
        → load_of before file ≡ None → is_under_way under file ≡ true → LoadsParent files simuls under file before before (Wrong Cycle)
    -- which lies too deep: all loads under way but the outermost are for an `inherit`
    deep : {under : List (List ℕ)} {file : List ℕ} {before : Loaded}
        → load_of before file ≡ None → is_under_way under file ≡ false → most_nested < length under → LoadsParent files simuls under file before before (Wrong InheritDepth)
    -- which is loaded now
    new : {under : List (List ℕ)} {file : List ℕ} {before after : Loaded} {l : Load}
        → load_of before file ≡ None → is_under_way under file ≡ false → length under ≤ most_nested
        → Loads files simuls under file before after → load_of after file ≡ Some l → LoadsParent files simuls under file before after (found_version l.version)

  -- The parents of the innermost load, one after another up to the first that has no version.
  pub data LoadsParents (files : Store) (simuls : List (List ℕ)) : List (List ℕ) → List Parent → Loaded → Loaded → Family → Type 0 where
    all : {under : List (List ℕ)} {before : Loaded} → LoadsParents files simuls under [] before before (Whole [])
    stands : {under : List (List ℕ)} {p : Parent} {ps : List Parent} {before between after : Loaded} {t : Tables} {family : Family}
        → LoadsParent files simuls under p.file before between (Stands t) → LoadsParents files simuls under ps between after family
        → LoadsParents files simuls under (p ∷ ps) before after (with_parent t family)
    wrong : {under : List (List ℕ)} {p : Parent} {ps : List Parent} {before after : Loaded} {kind : FaultKind}
        → LoadsParent files simuls under p.file before after (Wrong kind) → LoadsParents files simuls under (p ∷ ps) before after (Broken kind p.line)
    lacks : {under : List (List ℕ)} {p : Parent} {ps : List Parent} {before after : Loaded}
        → LoadsParent files simuls under p.file before after Lacks → LoadsParents files simuls under (p ∷ ps) before after Lacking

-- The loads of files, one after another. A file whose load ended is not loaded again.
pub data LoadsAll (files : Store) (simuls : List (List ℕ)) : List (List ℕ) → Loaded → Loaded → Type 0 where
  none : {before : Loaded} → LoadsAll files simuls [] before before
  again : {file : List ℕ} {rest : List (List ℕ)} {before after : Loaded} {l : Load}
      → load_of before file ≡ Some l → LoadsAll files simuls rest before after → LoadsAll files simuls (file ∷ rest) before after
  first : {file : List ℕ} {rest : List (List ℕ)} {before between after : Loaded}
      → load_of before file ≡ None → Loads files simuls [] file before between → LoadsAll files simuls rest between after → LoadsAll files simuls (file ∷ rest) before after
