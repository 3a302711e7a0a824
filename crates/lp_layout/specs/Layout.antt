-- The tables of a version, from its text and the tables of its parents.
use Rattle.std.specs.Prelude.{◌≡◌, ◌<◌, ℕ, suc, ◌+◌, ◌*◌, List, [], ◌∷◌, ◌++◌, map, length, slice_get, IsAscii, ⊤, Bool, true, false, not, ◌&&◌, nat_eq, Option, Some, None, if◌then◌else◌}
use Rattle.std.specs.List.{list_any}
use Rattle.lp_tree.specs.declared.keyword.Base.{Base}
use Rattle.lp_tree.specs.declared.keyword.Modifier.{Modifier}
use Rattle.lp_tree.specs.declared.keyword.Modifier.TheVariants.{Private, Protected, Public, Static, Nosave, Nomask, Varargs}
use Rattle.lp_tree.specs.declared.pragma.Pragmas.{Pragmas}
use Rattle.lp_tree.specs.declared.pragma.TypeMode.TheVariants.{Weak}
use Rattle.lp_tree.specs.declared.types.TypeName.{TypeName}
use Rattle.lp_tree.specs.declared.unit.Param.{Param}
use Rattle.lp_tree.specs.Statements.{DeclaratorTree}
use Rattle.lp_tree.specs.Units.{ItemTree, Inherit, Proto, Fun, Var}
use Rattle.lp_values.specs.declared.id.ProgId.{ProgId}
use Rattle.lp_code.specs.declared.tables.Slot.{Slot}
use Rattle.lp_code.specs.declared.tables.VarRow.{VarRow}
use Rattle.lp_code.specs.declared.tables.Tables.{Tables}
use Rattle.lp_instr.specs.EfunList.{is_name}
use Rattle.lp_types_expr.specs.Kinds.{kind_of}
use Rattle.lp_types_expr.specs.Signatures.{or_else, is_private_number, is_wanted}

-- Modifiers as a number

-- the bit of a modifier
abbrev pub bit_of : Modifier → ℕ
bit_of Private = 0
bit_of Protected = 1
bit_of Public = 2
bit_of Static = 3
bit_of Nosave = 4
bit_of Nomask = 5
bit_of Varargs = 6

abbrev pub has_word : ℕ → List Modifier → Bool
has_word n ms = list_any (λ m. nat_eq (bit_of m) n) ms

abbrev pub digit : Bool → ℕ
digit b = if b then 1 else 0

-- each that stands there has its bit, once
abbrev pub bits_from : ℕ → List ℕ → List Modifier → ℕ
bits_from n [] ms = digit (has_word n ms)
bits_from n (k ∷ ks) ms = digit (has_word n ms) + 2 * bits_from k ks ms

abbrev pub bits : List Modifier → ℕ
bits ms = bits_from 0 (1 ∷ 2 ∷ 3 ∷ 4 ∷ 5 ∷ 6 ∷ []) ms

-- Functions

abbrev pub kinds : List Param → List TypeName
kinds ps = map (λ p. kind_of p.type_name) ps

abbrev pub slot : List ℕ → ℕ → ℕ → List Modifier → Option TypeName → List Param → Slot
slot w part fun ms ty ps = record { name = w; part = part; fun = fun; mods = bits ms; answer = kind_of ty; params = kinds ps }

-- the row of a file's own function, by its place among those of the file that have bodies
abbrev pub own_slot : ℕ → ℕ → List ItemTree → List ℕ → Option Slot
own_slot n part [] w = None
own_slot n part (Inherit line path ∷ is) w = own_slot n part is w
own_slot n part (Proto line ms ty name ps ∷ is) w = own_slot n part is w
own_slot n part (Fun line ms ty name ps b ∷ is) w = if is_name name w then Some (slot w part n ms ty ps) else own_slot (suc n) part is w
own_slot n part (Var line ms base ds ∷ is) w = own_slot n part is w

-- the row of its first prototype of a name, which has no function
abbrev pub prototype_slot : ℕ → List ItemTree → List ℕ → Option Slot
prototype_slot part [] w = None
prototype_slot part (Inherit line path ∷ is) w = prototype_slot part is w
prototype_slot part (Proto line ms ty name ps ∷ is) w = if is_name name w then Some (slot w part 65535 ms ty ps) else prototype_slot part is w
prototype_slot part (Fun line ms ty name ps b ∷ is) w = prototype_slot part is w
prototype_slot part (Var line ms base ds ∷ is) w = prototype_slot part is w

-- the first row of a name
abbrev pub slot_named : List Slot → List ℕ → Option Slot
slot_named [] w = None
slot_named (s ∷ ss) w = if is_name s.name w then Some s else slot_named ss w

-- as a child sees a parent's row, whose first part has another place: what is private is not seen
abbrev pub slot_shown : Bool → ℕ → Option Slot → Option Slot
slot_shown bodies first None = None
slot_shown bodies first (Some s) = if not (is_private_number s.mods) && is_wanted bodies s then Some (record s { part = first + s.part }) else None

-- what the last parent shows of its rows of a name
abbrev pub last_slot : Bool → List Tables → ℕ → List ℕ → Option Slot
last_slot bodies [] first w = None
last_slot bodies (t ∷ ts) first w = or_else (last_slot bodies ts (first + length t.parts) w) (slot_shown bodies first (slot_named t.slots w))

abbrev pub parts_of : List Tables → ℕ
parts_of [] = 0
parts_of (t ∷ ts) = length t.parts + parts_of ts

-- The row of a name: the file's own function, else that of the last parent which shows one; else the file's own
-- prototype, else that of the last parent which shows one.
abbrev pub laid_slot : List ItemTree → List Tables → List ℕ → Option Slot
laid_slot is ts w =
    or_else (own_slot 0 (parts_of ts) is w)
    (or_else (last_slot true ts 0 w) (or_else (prototype_slot (parts_of ts) is w) (last_slot false ts 0 w)))

-- the names of a file's functions and prototypes, in the order of its text
abbrev pub declared_names : List ItemTree → List (List ℕ)
declared_names [] = []
declared_names (Inherit line path ∷ is) = declared_names is
declared_names (Proto line ms ty name ps ∷ is) = name ∷ declared_names is
declared_names (Fun line ms ty name ps b ∷ is) = name ∷ declared_names is
declared_names (Var line ms base ds ∷ is) = declared_names is

-- each name where it is first met
abbrev pub first_met : List (List ℕ) → List (List ℕ) → List (List ℕ)
first_met met [] = []
first_met met (w ∷ ws) = if list_any (λ m. is_name m w) met then first_met met ws else w ∷ first_met (w ∷ met) ws

abbrev pub with_slot : Option Slot → List Slot → List Slot
with_slot None ss = ss
with_slot (Some s) ss = s ∷ ss

abbrev pub laid_for : List ItemTree → List Tables → List (List ℕ) → List Slot
laid_for is ts [] = []
laid_for is ts (w ∷ ws) = with_slot (laid_slot is ts w) (laid_for is ts ws)

abbrev pub names_in : List Tables → List (List ℕ)
names_in [] = []
names_in (t ∷ ts) = map (λ s. s.name) t.slots ++ names_in ts

-- The rows stand in the order in which the walk over the parts first meets a name: first those of the parents, in the
-- order of their rows, and then the file's own functions and prototypes, in the order of its text.
abbrev pub laid_slots : List ItemTree → List Tables → List Slot
laid_slots is ts = laid_for is ts (first_met [] (names_in ts ++ declared_names is))

-- Variables

abbrev pub numbered_row : ℕ → ℕ → Base → DeclaratorTree → VarRow
numbered_row part number base d = record { name = d.name; part = part; mods = number; kind = record { base = base; stars = d.stars } }

abbrev pub var_row : ℕ → List Modifier → Base → DeclaratorTree → VarRow
var_row part ms base d = numbered_row part (bits ms) base d

-- a file's own variables
abbrev pub own_rows : ℕ → List ItemTree → List VarRow
own_rows part [] = []
own_rows part (Inherit line path ∷ is) = own_rows part is
own_rows part (Proto line ms ty name ps ∷ is) = own_rows part is
own_rows part (Fun line ms ty name ps b ∷ is) = own_rows part is
own_rows part (Var line ms base ds ∷ is) = map (var_row part ms base) ds ++ own_rows part is

abbrev pub row_moved : ℕ → VarRow → VarRow
row_moved first r = record r { part = first + r.part }

-- the parents' variables
abbrev pub inherited_rows : List Tables → ℕ → List VarRow
inherited_rows [] first = []
inherited_rows (t ∷ ts) first = map (row_moved first) t.vars ++ inherited_rows ts (first + length t.parts)

-- the parents' variables, and then the file's own: a row's place is the variable's offset
abbrev pub laid_variables : List ItemTree → List Tables → ℕ → List VarRow
laid_variables is [] first = own_rows first is
laid_variables is (t ∷ ts) first = map (row_moved first) t.vars ++ laid_variables is ts (first + length t.parts)

-- Counts

-- how many functions a file has
abbrev pub functions : List ItemTree → ℕ
functions [] = 0
functions (Inherit line path ∷ is) = functions is
functions (Proto line ms ty name ps ∷ is) = functions is
functions (Fun line ms ty name ps b ∷ is) = suc (functions is)
functions (Var line ms base ds ∷ is) = functions is

-- how many inherits
abbrev pub inherits : List ItemTree → ℕ
inherits [] = 0
inherits (Inherit line path ∷ is) = suc (inherits is)
inherits (Proto line ms ty name ps ∷ is) = inherits is
inherits (Fun line ms ty name ps b ∷ is) = inherits is
inherits (Var line ms base ds ∷ is) = inherits is

-- the versions of the parents' parts, in order
abbrev pub parts_before : List Tables → List ProgId
parts_before [] = []
parts_before (t ∷ ts) = t.parts ++ parts_before ts

-- the pragmas of a file that names none
abbrev pub plain_pragmas : Pragmas
plain_pragmas = record { no_clone = false; no_inherit = false; no_shadow = false; types = Weak }

-- The tables of a unit over those of its parents. What a unit does not tell is left out: who compiles it adds the path,
-- the versions of the parents, the pragmas, and behind the parts the version itself.
abbrev pub laid_tables : List ItemTree → List Tables → Tables
laid_tables is ts = record {
  path = [];
  parents = [];
  parts = parts_before ts;
  slots = laid_slots is ts;
  vars = laid_variables is ts 0;
  pragmas = plain_pragmas;
}

-- What tables of parents are: there is one for each inherit, and their rows stand in parts of theirs.

abbrev pub AreRowsIn : ℕ → List Slot → Type 0
AreRowsIn n ss = (i : ℕ) (s : Slot) → slice_get ss i ≡ Some s → s.part < n

abbrev pub AreVariablesIn : ℕ → List VarRow → Type 0
AreVariablesIn n rs = (i : ℕ) (r : VarRow) → slice_get rs i ≡ Some r → r.part < n

abbrev pub AreInside : List Tables → Type 0
AreInside ts = (i : ℕ) (t : Tables) → slice_get ts i ≡ Some t → AreRowsIn (length t.parts) t.slots × AreVariablesIn (length t.parts) t.vars

-- Names of tables are bytes. A name of letters of ASCII, as that of every source is, is its bytes.

abbrev pub AreSpelled : List (List ℕ) → Type 0
AreSpelled [] = ⊤
AreSpelled (w ∷ ws) = IsAscii w × AreSpelled ws

-- the names of a file's variables
abbrev pub variable_names : List ItemTree → List (List ℕ)
variable_names [] = []
variable_names (Inherit line path ∷ is) = variable_names is
variable_names (Proto line ms ty name ps ∷ is) = variable_names is
variable_names (Fun line ms ty name ps b ∷ is) = variable_names is
variable_names (Var line ms base ds ∷ is) = map (λ d. d.name) ds ++ variable_names is

pub record IsSpelled (is : List ItemTree) : Type 0 where
  pub functions : AreSpelled (declared_names is)
  pub variables : AreSpelled (variable_names is)
