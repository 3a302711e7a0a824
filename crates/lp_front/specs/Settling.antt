-- What is wrong with a unit whose parents are known, and the tables of its version.
use Rattle.std.specs.Prelude.{◌≡◌, ℕ, List, [], ◌∷◌, ◌++◌, ◌-◌, map, length, take, nat_eq, codes, Option, Some, None, slice_get, ⊤, if◌then◌else◌}
use Rattle.std.specs.List.{ends_with}
use Rattle.lp_tree.specs.declared.fault.Fault.{Fault}
use Rattle.lp_tree.specs.declared.pragma.Pragmas.{Pragmas}
use Rattle.lp_tree.specs.Units.{ItemTree}
use Rattle.lp_values.specs.declared.id.ProgId.{ProgId}
use Rattle.lp_code.specs.declared.tables.Tables.{Tables}
use Rattle.lp_types_expr.specs.declared.fault.FaultAt.{FaultAt}
use Rattle.lp_types.specs.TypeFaults.{type_faults}
use Rattle.lp_layout.specs.Layout.{laid_tables}
use Rattle.lp_layout.specs.LayoutFaults.{layout_fault}
use Rattle.lp_front.specs.declared.read.Declared.{Declared}
use Rattle.lp_front.specs.declared.settle.SettleFault.{SettleFault}
use Rattle.lp_front.specs.declared.settle.SettleFault.TheVariants.{Faults, NoMemory}
use Rattle.lp_front.specs.Reading.{items_of}

abbrev pub if_any : Option FaultAt → List FaultAt
if_any None = []
if_any (Some f) = f ∷ []

-- all faults of its types; or else the first of its layout
abbrev pub types_or_layout : List FaultAt → Option FaultAt → List FaultAt
types_or_layout [] layout = if_any layout
types_or_layout (f ∷ fs) layout = f ∷ fs

abbrev pub in_file : List ℕ → FaultAt → Fault
in_file file f = record { file = file; line = f.line; kind = f.kind }

-- the faults of a file that declares this, with the tables of its parents and the names of the simul efuns
abbrev pub faults_of : List ℕ → List ItemTree → Pragmas → List Tables → List (List ℕ) → List Fault
faults_of file items pragmas ts simuls = map (in_file file) (types_or_layout (type_faults items pragmas ts simuls) (layout_fault items ts))

-- the path of a version: that of its file without `.c`
abbrev pub path_of : List ℕ → List ℕ
path_of file = if ends_with nat_eq file (codes ".c") then take (length file - 2) file else file

-- a version stands behind the parts that it inherits, so it is the last part of its tables
abbrev pub own_version : Tables → Option ProgId
own_version t = slice_get t.parts (length t.parts - 1)

abbrev pub with_version : Option ProgId → List ProgId → List ProgId
with_version None vs = vs
with_version (Some v) vs = v ∷ vs

abbrev pub versions_of : List Tables → List ProgId
versions_of [] = []
versions_of (t ∷ ts) = with_version (own_version t) (versions_of ts)

-- tables with what the unit and its parents do not tell: the path, the versions of the parents, the version itself as the
-- last part, and the pragmas
abbrev pub finished : List ℕ → Tables → Pragmas → List Tables → ProgId → Tables
finished file t pragmas ts own = record {
  path = path_of file;
  parents = versions_of ts;
  parts = t.parts ++ own ∷ [];
  slots = t.slots;
  vars = t.vars;
  pragmas = pragmas;
}

-- the tables of a version with this number
abbrev pub tables_of : List ℕ → List ItemTree → Pragmas → List Tables → ProgId → Tables
tables_of file items pragmas ts own = finished file (laid_tables items ts) pragmas ts own

-- these are the tables of what was read, whose layout has no fault
abbrev pub IsLaid : List ℕ → Declared → List Tables → ProgId → Tables → Type 0
IsLaid file d ts own t = (layout_fault (items_of d) ts ≡ None) × (t ≡ tables_of file (items_of d) d.pragmas ts own)

-- and nothing is wrong with its types either
abbrev pub IsSettled : List ℕ → Declared → List Tables → ProgId → List (List ℕ) → Tables → Type 0
IsSettled file d ts own simuls t = (faults_of file (items_of d) d.pragmas ts simuls ≡ []) × (t ≡ tables_of file (items_of d) d.pragmas ts own)

-- these faults are told, unless memory ran out
abbrev pub IsToldAs : List Fault → SettleFault → Type 0
IsToldAs fs (Faults told) = told.items ≡ fs
IsToldAs fs NoMemory = ⊤

abbrev pub IsLayoutTold : List ℕ → Declared → List Tables → SettleFault → Type 0
IsLayoutTold file d ts (Faults told) = (f : FaultAt) × (layout_fault (items_of d) ts ≡ Some f) × (told.items ≡ in_file file f ∷ [])
IsLayoutTold file d ts NoMemory = ⊤

-- all its faults are told, of which there is one at least, unless memory ran out
abbrev pub IsSettledFault : List ℕ → Declared → List Tables → List (List ℕ) → SettleFault → Type 0
IsSettledFault file d ts simuls (Faults told) = (told.items ≡ faults_of file (items_of d) d.pragmas ts simuls) × (told.items ≡ [] → ⊥)
IsSettledFault file d ts simuls NoMemory = ⊤
