-- What it says that code stands for functions, and for a unit.
use Rattle.std.specs.Prelude.{◌≡◌, ◌<◌, ℕ, List, [], ◌∷◌, map, length, Option, Some, None, slice_get}
use Rattle.lp_tree.specs.declared.keyword.Modifier.{Modifier}
use Rattle.lp_tree.specs.declared.unit.Param.{Param}
use Rattle.lp_tree.specs.Statements.{StmtTrees}
use Rattle.lp_code.specs.declared.program.FunRow.{FunRow}
use Rattle.lp_code.specs.Programs.{table_of}
use Rattle.lp_instr.specs.declared.instr.Instr.TheVariants.{Switch}
use Rattle.lp_instr.specs.Code.{Code}
use Rattle.lp_language.specs.Resolve.{Function, Heritage, Variable}
use Rattle.lp_codegen_expr.specs.declared.scope.Scope.{Scope}
use Rattle.lp_codegen_expr.specs.Names.{Plan, Lays, layout_of}
use Rattle.lp_codegen_expr.specs.Drafts.{Adds, Around, Sketch}
use Rattle.lp_codegen_flow.specs.Clear.{AreClearVariables, IsClearFun}
use Rattle.lp_codegen_flow.specs.Functions.{AreDone, of_fun}
use Rattle.lp_codegen_unit.specs.Rows.{Behind, IsRow, initialisers, no_more, of_functions}
use Rattle.lp_codegen_unit.specs.declared.finish.UnitCode.{UnitCode}

-- a function of a unit
abbrev pub function_of : List Modifier → List ℕ → List Param → StmtTrees → Function
function_of ms w ps ss = record { name = w; modifiers = ms; parameters = map (λ p. p.name) ps; body = ss }

abbrev pub option_list : {A : Type 0} → Option A → List A
option_list None = []
option_list (Some x) = x ∷ []

-- Code of a function was added, whose row this is; no jump in it is open.
pub record OneStands (f : Function) (r : FunRow) (was is : Scope) (old new : Sketch) : Type 0 where
  pub code : Adds (layout_of was.layout) (of_fun f.body f.parameters) old new
  pub row : IsRow f (length old.code) r
  pub done : AreDone new.code (length old.code)
  pub layout : is.layout ≡ was.layout

-- Code of functions was added, with these rows, and no jump in it is open.
pub record FunctionsStand (fs : List Function) (rs : List FunRow) (was is : Scope) (old new : Sketch) : Type 0 where
  pub code : Adds (layout_of was.layout) (of_functions fs no_more rs) old new
  pub done : AreDone new.code (length old.code)
  pub layout : is.layout ≡ was.layout

-- Code of some rows was added, where no local is seen, and no jump in it is open.
pub record RowsBare (s : Scope) (More : Behind) (rs : List FunRow) (old new : Sketch) : Type 0 where
  pub code : s.locals.items ≡ [] → Adds (layout_of s.layout) (More rs) old new
  pub done : AreDone new.code (length old.code)

-- where the code of a whole unit stands; nothing in it leads out of a loop
abbrev pub at : Heritage → Code → Around
at h code = record { heritage = h; out = 0; again = 0; code = code }

-- finished code has the instructions, the texts and the switches of a unit
pub record HasUnit (u : UnitCode) (code : Code) : Type 0 where
  pub instrs : code.instrs ≡ u.instrs.items
  pub texts : code.texts ≡ u.texts.items
  pub switches : code.switches ≡ map table_of u.switches.items

-- the statements of functions are clear, where their parameters are seen
abbrev pub AreClear : Plan → List Function → Type 0
AreClear l [] = Unit {0}
AreClear l (f ∷ fs) = IsClearFun l f.parameters f.body × AreClear l fs

-- and so are the initialisers, where no local is seen
pub record IsClearUnit (l : Plan) (fs : List Function) (vs : List Variable) : Type 0 where
  pub functions : AreClear l fs
  pub variables : AreClearVariables l [] vs

-- an instruction names each row of its list of switches
abbrev pub AreRowsNamed : UnitCode → Type 0
AreRowsNamed u = (k : ℕ) → k < length u.switches.items → (at : ℕ) × (slice_get u.instrs.items at ≡ Some (Switch k))

-- What is made of a unit: in every finished code that has it, and whose names are laid out so, its functions are translated
-- one behind another from the first instruction to the last, and then its initialisers, where there are some.
abbrev pub IsUnitCode : Plan → List Function → List Variable → ℕ → UnitCode → Type 0
IsUnitCode l fs vs k u =
    (h : Heritage) (code : Code) → Lays l h code → HasUnit u code → of_functions fs (initialisers vs k) u.funs.items (at h code) 0 (length u.instrs.items)
