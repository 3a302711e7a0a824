-- What the functions tell that look at the items of a unit.
use Rattle.std.specs.Prelude.{◌≡◌, ℕ, List, [], ◌∷◌, ◌++◌, Bool, ◌||◌, Option, is_some}
use Rattle.std.specs.List.{list_any}
use Rattle.lp_instr.specs.EfunList.{is_name}
use Rattle.lp_tree.specs.declared.fault.FaultKind.TheVariants.{DoubleName}
use Rattle.lp_tree.specs.declared.keyword.Base.{Base}
use Rattle.lp_tree.specs.declared.types.TypeName.{TypeName}
use Rattle.lp_tree.specs.declared.unit.Param.{Param}
use Rattle.lp_tree.specs.Statements.{DeclaratorTree}
use Rattle.lp_tree.specs.Units.{ItemTree}
use Rattle.lp_types_expr.specs.declared.fault.FaultAt.{FaultAt}
use Rattle.lp_types_expr.specs.ExprFaults.{when, assignments_if, expr_faults_if}
use Rattle.lp_types_expr.specs.Known.{Around}
use Rattle.lp_types_expr.specs.Signatures.{inherited_kind}
use Rattle.lp_types_expr.specs.Walk.{all_at}
use Rattle.lp_types.specs.declared.names.NameSet.{NameSet}
use Rattle.lp_types.specs.NameSets.{is_in}
use Rattle.lp_types.specs.TypeFaults.{kind_with, initialiser_kinds, missing_type, params_faults, globals_faults, items_faults, names_of}

-- a set has the names of a list
abbrev pub IsSetOf : NameSet → List (List ℕ) → Type 0
IsSetOf s ns = (w : List ℕ) → is_in s w ≡ list_any (is_name w) ns

-- one name more
abbrev pub HasName : List ℕ → NameSet → NameSet → Type 0
HasName n old new = (w : List ℕ) → is_in new w ≡ (is_name w n || is_in old w)

-- a parameter, where some names are those of earlier ones
abbrev pub param_told : Around → Bool → Param → List FaultAt
param_told a double p = all_at p.line (missing_type a p.type_name ++ when double DoubleName)

pub record InParams (a : Around) (before told : List FaultAt) (all rest : List Param) (names : NameSet) : Type 0 where
  pub earlier : List (List ℕ)
  pub names_are : IsSetOf names earlier
  pub faults : before ++ params_faults a [] all ≡ told ++ params_faults a earlier rest

-- a global, where its name is that of an earlier one or not
abbrev pub global_told : Around → Bool → Base → DeclaratorTree → List FaultAt
global_told a double base d =
    all_at d.line (initialiser_kinds a [] (kind_with base d) d.value ++ assignments_if a [] d.value ++ when (double || is_some (inherited_kind a.parents d.name)) DoubleName)
    ++ expr_faults_if a [] d.value

-- the globals of a declaration, behind others
pub record TellsGlobals (a : Around) (base : Base) (ds : List DeclaratorTree) (old new : NameSet) (before after : List FaultAt) : Type 0 where
  pub names : (w : List ℕ) → is_in new w ≡ (list_any (is_name w) (names_of ds) || is_in old w)
  pub faults : (earlier : List (List ℕ)) → IsSetOf old earlier → after ≡ before ++ globals_faults a earlier base ds

pub record InGlobals (a : Around) (base : Base) (before told : List FaultAt) (all rest : List DeclaratorTree) (old now : NameSet) : Type 0 where
  pub names : (w : List ℕ) → (list_any (is_name w) (names_of all) || is_in old w) ≡ (list_any (is_name w) (names_of rest) || is_in now w)
  pub faults : (earlier : List (List ℕ)) → IsSetOf old earlier
      → (later : List (List ℕ)) × IsSetOf now later × (before ++ globals_faults a earlier base all ≡ told ++ globals_faults a later base rest)

-- an item, behind others
pub record TellsItem (a : Around) (it : ItemTree) (funs vars funs' vars' : NameSet) (before after : List FaultAt) : Type 0 where
  pub step : (fs vs : List (List ℕ)) (rest : List ItemTree) → IsSetOf funs fs → IsSetOf vars vs
      → (fs' : List (List ℕ)) × (vs' : List (List ℕ)) × IsSetOf funs' fs' × IsSetOf vars' vs' × (before ++ items_faults a fs vs (it ∷ rest) ≡ after ++ items_faults a fs' vs' rest)

pub record InItems (a : Around) (before told : List FaultAt) (all rest : List ItemTree) (funs vars : NameSet) : Type 0 where
  pub fs : List (List ℕ)
  pub vs : List (List ℕ)
  pub funs_are : IsSetOf funs fs
  pub vars_are : IsSetOf vars vs
  pub faults : before ++ items_faults a [] [] all ≡ told ++ items_faults a fs vs rest

-- the head of a function, where its name is that of an earlier one or not
abbrev pub head_told : Around → Bool → ℕ → Option TypeName → List FaultAt
head_told a double line ty = all_at line (missing_type a ty ++ when double DoubleName)
