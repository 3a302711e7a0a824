-- When all that a unit has code for is clear.
use Rattle.std.specs.Prelude.{◌≡◌, ℕ, List, [], ◌∷◌, ◌++◌, None, length, map}
use Rattle.lp_tree.specs.declared.pragma.Pragmas.{Pragmas}
use Rattle.lp_tree.specs.declared.seen.Seen.{Seen}
use Rattle.lp_tree.specs.Units.{ItemTree, Inherit, Proto, Fun, Var, SpellsUnit}
use Rattle.lp_values.specs.declared.id.ProgId.{ProgId}
use Rattle.lp_code.specs.declared.tables.Tables.{Tables}
use Rattle.lp_language.specs.Resolve.{own_variables}
use Rattle.lp_types_expr.specs.Known.{Around}
use Rattle.lp_types.specs.TypeFaults.{IsWellTyped}
use Rattle.lp_layout.specs.Layout.{inherits, laid_slots, laid_variables, parts_before}
use Rattle.lp_layout.specs.LayoutFaults.{layout_fault}
use Rattle.lp_codegen_expr.specs.Names.{Plan}
use Rattle.lp_codegen_layout.specs.Laid.{plan_of}
use Rattle.lp_codegen_layout.specs.Meant.{Knows}
use Rattle.lp_codegen_flow.specs.Clear.{AreClearVariables, IsClearFun}

-- what is round the parts of a unit, for the check of its types
abbrev pub around : List ItemTree → Pragmas → List Tables → List (List ℕ) → Around
around items pragmas parents simuls = record { mode = pragmas.types; items = items; parents = parents; simuls = simuls }

-- the statements of each function are clear where its parameters are seen
abbrev pub AreFunctionsClear : Plan → List ItemTree → Type 0
AreFunctionsClear l [] = Unit {0}
AreFunctionsClear l (Inherit line path ∷ is) = AreFunctionsClear l is
AreFunctionsClear l (Proto line ms ty w ps ∷ is) = AreFunctionsClear l is
AreFunctionsClear l (Fun line ms ty w ps b ∷ is) = IsClearFun l (map (λ p. p.name) ps) b.stmts × AreFunctionsClear l is
AreFunctionsClear l (Var line ms base ds ∷ is) = AreFunctionsClear l is

-- and what each variable is set to is clear where no local is seen
pub record IsUnitClear (l : Plan) (items : List ItemTree) : Type 0 where
  pub functions : AreFunctionsClear l items
  pub variables : AreClearVariables l [] (own_variables items)

-- what the checks of a unit, with one parent for each `inherit`, find: no fault of its types and none of its layout
pub record IsFaultless (items : List ItemTree) (pragmas : Pragmas) (parents : List Tables) (simuls : List (List ℕ)) : Type 0 where
  pub parents_are : length parents ≡ inherits items
  pub types : IsWellTyped items pragmas parents simuls
  pub layout : layout_fault items parents ≡ None

-- A unit that is spelled and faultless is clear for each layout that knows the names which the check of types knows where
-- no local is seen.
abbrev pub KnownUnitIsClear : Type 0
KnownUnitIsClear =
    (l : Plan) (items : List ItemTree) (pragmas : Pragmas) (parents : List Tables) (simuls : List (List ℕ)) (tokens : List Seen)
    → SpellsUnit items tokens → IsFaultless items pragmas parents simuls → Knows l [] (around items pragmas parents simuls) [] → IsUnitClear l items

-- The tables of a unit's own version: its rows are those that are laid out over the parents, and its own part stands behind
-- theirs.
pub record AreOwn (own : Tables) (items : List ItemTree) (parents : List Tables) : Type 0 where
  pub rows : own.slots ≡ laid_slots items parents
  pub variables : own.vars ≡ laid_variables items parents 0
  pub version : ProgId
  pub parts : own.parts ≡ parts_before parents ++ version ∷ []

-- And so it is for the layout of its own tables.
abbrev pub FaultlessUnitIsClear : Type 0
FaultlessUnitIsClear =
    (own : Tables) (items : List ItemTree) (pragmas : Pragmas) (parents : List Tables) (simuls : List (List ℕ)) (tokens : List Seen)
    → SpellsUnit items tokens → IsFaultless items pragmas parents simuls → AreOwn own items parents → IsUnitClear (plan_of own parents simuls) items
