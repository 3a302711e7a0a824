-- What a layout says of names.
use Rattle.std.specs.Prelude.{◌≡◌, ℕ, List, Option, Some, None, is_some, slice_get}
use Rattle.std.specs.List.{list_any}
use Rattle.lp_instr.specs.declared.efun.Efun.{Efun}
use Rattle.lp_instr.specs.EfunList.{is_name, efun_named}
use Rattle.lp_language.specs.Resolve.{Heritage, parent_called, parent_with, row, variable_in, version_of}
use Rattle.lp_language.specs.Scope.{Names, slot_of}
use Rattle.lp_instr.specs.Code.{Code}
use Rattle.lp_codegen_expr.specs.declared.scope.Variable.{Variable}
use Rattle.lp_codegen_expr.specs.declared.scope.Variable.TheVariants as variables
use Rattle.lp_codegen_expr.specs.declared.scope.Called.{Called}
use Rattle.lp_codegen_expr.specs.declared.scope.Called.TheVariants as called
use Rattle.lp_codegen_expr.specs.declared.scope.Layout.{Layout}

-- What is known of the names of a file, beside its locals: the variables that can be seen, with their places; the rows of
-- its table and of each parent's table; the names that `::` finds in a parent, with the parents; the names by which
-- parents are called, with the parents; and the simul efuns.
pub record Plan : Type 0 where
  pub globals : Names
  pub places : List ℕ
  pub rows : List (List ℕ)
  pub parents : List (List (List ℕ))
  pub inherited : List (List ℕ)
  pub inherited_from : List ℕ
  pub parent_names : List (List ℕ)
  pub parent_numbers : List ℕ
  pub simuls : List (List ℕ)

-- its lists, without the maps by which names are found
abbrev pub layout_of : Layout → Plan
layout_of l = record {
  globals = l.globals;
  places = l.places.items;
  rows = l.rows;
  parents = l.parents.items;
  inherited = l.inherited;
  inherited_from = l.inherited_from.items;
  parent_names = l.parent_names;
  parent_numbers = l.parent_numbers.items;
  simuls = l.simuls;
}

-- what a list has at the place that another has a name at
abbrev pub beside : {A : Type 0} → List A → Option ℕ → Option A
beside xs None = None
beside xs (Some k) = slice_get xs k

-- the place of a variable that can be seen
abbrev pub global_in : Plan → List ℕ → Option ℕ
global_in l w = beside l.places (slot_of l.globals w)

abbrev pub a_global : Option ℕ → Variable
a_global None = variables.Nothing
a_global (Some k) = variables.Global k

abbrev pub a_local : Option ℕ → Variable → Variable
a_local None other = other
a_local (Some k) other = variables.Local k

-- a local hides a global
abbrev pub variable_in_scope : Plan → Names → List ℕ → Variable
variable_in_scope l ns w = a_local (slot_of ns w) (a_global (global_in l w))

abbrev pub an_efun : Option Efun → Called
an_efun None = called.Nobody
an_efun (Some e) = called.Efun e

abbrev pub a_simul : Option ℕ → Called → Called
a_simul None other = other
a_simul (Some k) other = called.Simul

abbrev pub a_row : Option ℕ → Called → Called
a_row None other = other
a_row (Some k) other = called.Row k

-- a row of the table hides a simul efun, and that an efun
abbrev pub callee_in : Plan → List ℕ → Called
callee_in l w = a_row (slot_of l.rows w) (a_simul (slot_of l.simuls w) (an_efun (efun_named w)))

-- the parent in which `::` finds a name, and the one that is called by a name
abbrev pub parent_with_in : Plan → List ℕ → Option ℕ
parent_with_in l w = beside l.inherited_from (slot_of l.inherited w)

abbrev pub parent_called_in : Plan → List ℕ → Option ℕ
parent_called_in l w = beside l.parent_numbers (slot_of l.parent_names w)

abbrev pub slot_in : Option Names → List ℕ → Option ℕ
slot_in None w = None
slot_in (Some ns) w = slot_of ns w

-- the row of a name in a parent's table
abbrev pub row_in : Plan → ℕ → List ℕ → Option ℕ
row_in l parent w = slot_in (slice_get l.parents parent) w

-- a layout is that of a version, and of the code whose rows it has
pub record Lays (l : Plan) (h : Heritage) (code : Code) : Type 0 where
  pub rows : code.rows ≡ l.rows
  pub parents : code.parents ≡ l.parents
  pub globals : (w : List ℕ) → global_in l w ≡ variable_in h w
  pub functions : (w : List ℕ) → is_some (slot_of l.rows w) ≡ is_some (row h w)
  pub simuls : (w : List ℕ) → is_some (slot_of l.simuls w) ≡ list_any (is_name w) (version_of h).simuls
  pub inherited : (w : List ℕ) → parent_with_in l w ≡ parent_with h w
  pub named : (w : List ℕ) → parent_called_in l w ≡ parent_called h w
