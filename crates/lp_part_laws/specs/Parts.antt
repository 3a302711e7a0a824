-- Functions in the text of parts, and what tables tell of them.
use Rattle.std.specs.Prelude.{◌≡◌, ℕ, ◌+◌, ◌<◌, ◌≤◌, List, Option, Some, None, slice_get, length}
use Rattle.lp_code.specs.declared.program.FunRow.{FunRow as CodeRow}
use Rattle.lp_code.specs.declared.program.RawProgram.{RawProgram}
use Rattle.lp_code.specs.declared.tables.Slot.{Slot}
use Rattle.lp_code.specs.declared.tables.VarRow.{VarRow}
use Rattle.lp_code.specs.Programs.{code_of}
use Rattle.lp_values.specs.declared.id.ProgId.{ProgId}
use Rattle.lp_language.specs.World.{Version}
use Rattle.lp_language.specs.Resolve.{Found, Function, Heritage, Part, number_of, own_function, part_at, parents_of, resolve, variable_count, version_of}
use Rattle.lp_language.specs.Exec.{local_count}
use Rattle.lp_isa.specs.Programs.{IsReached, Reached, own_functions}
use Rattle.lp_isa.specs.Translates.{MakesFun}
use Rattle.lp_inherit.specs.Heirs.{table, tables}
use Rattle.lp_layout.specs.Layout.{slot_named}
use Rattle.lp_plan_laws.specs.Tables.{reached_by}
use Rattle.lp_part_laws.specs.Versions.{AreRising, FitsVersion, heritage_in, rows_of}

-- A function that was found in a tree stands in the text of its part, as the first of its name.
pub record IsInText (h : Heritage) (f : Found) : Type 0 where
  pub place : Part
  pub at : part_at h f.part ≡ Some place
  pub own : own_function (version_of place.tree).items f.function.name ≡ Some f.function

-- A row of a version's program is that of a function: it has its name, parameters and locals, and its code makes the function's body.
pub record IsFunctionAt (p : RawProgram) (h : Heritage) (f : Function) (fun : ℕ) : Type 0 where
  pub row : CodeRow
  pub listed : slice_get p.funs fun ≡ Some row
  pub name : row.name ≡ f.name
  pub params : row.params ≡ length f.parameters
  pub locals : row.locals ≡ local_count f
  pub makes : MakesFun h f (code_of p (rows_of (tables (parents_of h)))) row.from

-- the function of a row of tables, if it has one
abbrev pub reached_in : Option Slot → Option Reached
reached_in None = None
reached_in (Some s) = reached_by s

-- seen from a tree in which the first part has another place
abbrev pub moved_reached : ℕ → Option Reached → Option Reached
moved_reached n None = None
moved_reached n (Some r) = Some (record { part = n + r.part; fun = r.fun })

-- rows of variables stand in parts below a number up to a place, and from there on in the others
pub record IsSplit (rows : List VarRow) (part place : ℕ) : Type 0 where
  pub inside : place ≤ length rows
  pub below : (k : ℕ) (r : VarRow) → slice_get rows k ≡ Some r → k < place → r.part < part
  pub above : (k : ℕ) (r : VarRow) → slice_get rows k ≡ Some r → place ≤ k → part ≤ r.part

-- The laws.

abbrev pub TreesOfVersions : Type 0
TreesOfVersions = (versions : List Version) (v : ProgId) (i : ℕ) (p : Part) → AreRising versions → part_at (heritage_in versions v) i ≡ Some p → p.tree ≡ heritage_in versions (number_of p.tree)

abbrev pub PartsSplit : Type 0
PartsSplit = (h : Heritage) (i : ℕ) (p : Part) → part_at h i ≡ Some p → IsSplit (table h).vars p.first p.base × (p.base + variable_count p.tree ≤ variable_count h)

abbrev pub FoundInText : Type 0
FoundInText = (h : Heritage) (w : List ℕ) (f : Found) → resolve h w ≡ Some f → IsInText h f × (f.function.name ≡ w)

abbrev pub NamesReach : Type 0
NamesReach = (h : Heritage) (p : RawProgram) (w : List ℕ) → FitsVersion h p → IsReached h (resolve h w) (reached_in (slot_named p.tables.slots w))

abbrev pub RowsAreFunctions : Type 0
RowsAreFunctions = (h : Heritage) (p : RawProgram) (f : Function) (k : ℕ) → FitsVersion h p → slice_get (own_functions (version_of h).items) k ≡ Some f → IsFunctionAt p h f k
