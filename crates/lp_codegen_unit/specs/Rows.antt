-- The code of a unit: its functions one behind another, each with its row, and then its initialisers.
use Rattle.std.specs.Prelude.{◌≡◌, ℕ, List, [], ◌∷◌, length, Bool, true, false, is_some, IsAscii, codes}
use Rattle.std.specs.List.{list_any}
use Rattle.lp_tree.specs.declared.unit.Item.{Item}
use Rattle.lp_tree.specs.declared.unit.Item.TheVariants as items
use Rattle.lp_code.specs.declared.program.FunRow.{FunRow}
use Rattle.lp_language.specs.Resolve.{Function, Variable, has_initialiser}
use Rattle.lp_language.specs.Exec.{local_count}
use Rattle.lp_isa.specs.Translates.{Then}
use Rattle.lp_codegen_expr.specs.Drafts.{Form}
use Rattle.lp_codegen_flow.specs.Functions.{of_fun}
use Rattle.lp_codegen_flow.specs.Initialisers.{of_init_fun}

-- A row is that of a function whose code begins at a place; its parameters are among its locals. A name of letters of
-- ASCII, as those of every source are, is its letters.
pub record IsRow (f : Function) (place : ℕ) (r : FunRow) : Type 0 where
  pub name : IsAscii f.name → r.name ≡ f.name
  pub from : r.from ≡ place
  pub params : r.params ≡ length f.parameters
  pub locals : r.locals ≡ local_count f

-- or that of the initialisers, which have neither parameters nor locals
pub record IsInitRow (place : ℕ) (r : FunRow) : Type 0 where
  pub name : r.name ≡ codes "__INIT"
  pub from : r.from ≡ place
  pub params : r.params ≡ 0
  pub locals : r.locals ≡ 0

-- an item declares a variable with an initialiser
abbrev pub declares_one : Item → Bool
declares_one (items.Inherit line w) = false
declares_one (items.Proto line ms ty w ps) = false
declares_one (items.Fun line ms ty w ps b) = false
declares_one (items.Var line ms base ds) = list_any (λ d. is_some d.value) ds.items

-- what stands behind functions: the code of some rows
abbrev pub Behind : Type 1
Behind = List FunRow → Form

abbrev pub no_more : Behind
no_more rs a from to = (rs ≡ []) × (to ≡ from)

-- the initialisers of variables, of which the first is at a place, where there are some
abbrev pub init_if : Bool → List Variable → ℕ → Behind
init_if false vs k rs a from to = (rs ≡ []) × (to ≡ from)
init_if true vs k rs a from to = (r : FunRow) × (rs ≡ r ∷ []) × IsInitRow from r × of_init_fun k vs a from to

abbrev pub initialisers : List Variable → ℕ → Behind
initialisers vs k = init_if (has_initialiser vs) vs k

-- the code of functions, one behind another, with the row of each; and what stands behind them
abbrev pub of_functions : List Function → Behind → List FunRow → Form
of_functions [] More rs a from to = More rs a from to
of_functions (f ∷ fs) More [] a from to = ⊥
of_functions (f ∷ fs) More (r ∷ rs) a from to = IsRow f from r × Then (of_fun f.body f.parameters a) (of_functions fs More rs a) from to
