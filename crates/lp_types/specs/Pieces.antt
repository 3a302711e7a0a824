-- Parts of the faults of statements, each of which a function of its own tells.
use Rattle.std.specs.Prelude.{◌≡◌, ℕ, List, ◌++◌, map, Option}
use Rattle.lp_tree.specs.declared.fault.FaultKind.{FaultKind}
use Rattle.lp_tree.specs.declared.fault.FaultKind.TheVariants.{DoubleName}
use Rattle.lp_tree.specs.declared.keyword.Base.{Base}
use Rattle.lp_tree.specs.declared.stmt.Each.{Each}
use Rattle.lp_tree.specs.declared.stmt.Stmt.{Stmt}
use Rattle.lp_tree.specs.Trees.{Tree}
use Rattle.lp_tree.specs.Statements.{DeclaratorTree, InitTree}
use Rattle.lp_tree.specs.StatementView.{stmt_of, stmt_trees}
use Rattle.lp_types_expr.specs.declared.fault.FaultAt.{FaultAt}
use Rattle.lp_types_expr.specs.declared.local.Local.{Local}
use Rattle.lp_types_expr.specs.Walk.{all_at}
use Rattle.lp_types_expr.specs.Known.{Around}
use Rattle.lp_types_expr.specs.Scopes.{Scope, visible, inside, declaring, is_double}
use Rattle.lp_types_expr.specs.ExprFaults.{when, assignments, assignments_if, expr_faults, expr_faults_if}
use Rattle.lp_types.specs.TypeFaults.{kind_with, initialiser_kinds, declares_first, declares_each, init_assignments, init_faults, each_faults, second_faults, stmts_faults}

-- what is wrong with one name of a declaration
abbrev pub declarator_faults : Around → Scope → Base → DeclaratorTree → List FaultAt
declarator_faults a sc base d = all_at d.line (initialiser_kinds a (visible sc) (kind_with base d) d.value ++ when (is_double sc d.name) DoubleName) ++ expr_faults_if a (visible sc) d.value

-- an expression that a statement looks at first
abbrev pub test_faults : Around → Scope → ℕ → Tree → List FaultAt
test_faults a sc line e = all_at line (assignments a (visible sc) e) ++ expr_faults a (visible sc) e

-- the misfits of the three parts of a `for`, in the scope that begins with it
abbrev pub head_misfits : Around → Scope → InitTree → Option Tree → Option Tree → List FaultKind
head_misfits a sc i t st = init_assignments a sc i ++ assignments_if a (visible (declaring sc (declares_first i))) t ++ assignments_if a (visible (declaring sc (declares_first i))) st

-- the three parts of a `for`, in the scope that begins with it
abbrev pub head_faults : Around → Scope → ℕ → InitTree → Option Tree → Option Tree → List FaultAt
head_faults a sc line i t st =
    all_at line (head_misfits a sc i t st)
    ++ init_faults a sc i
    ++ expr_faults_if a (visible (declaring sc (declares_first i))) t
    ++ expr_faults_if a (visible (declaring sc (declares_first i))) st

-- the variables of a `foreach` and what it goes over
abbrev pub over_faults : Around → Scope → ℕ → Each → Option Each → Tree → List FaultAt
over_faults a sc line f st e =
    all_at line (assignments a (visible sc) e)
    ++ each_faults a (inside sc) f
    ++ second_faults a (declaring (inside sc) (declares_each f)) st
    ++ expr_faults a (visible sc) e

abbrev pub stmts_from : Around → Scope → List Stmt → List FaultAt
stmts_from a sc ss = stmts_faults a sc (stmt_trees (map stmt_of ss))

-- a block in which something more may be declared
pub record IsWithin (old new : Scope) : Type 0 where
  pub more : List Local
  pub scope : new ≡ declaring old more
