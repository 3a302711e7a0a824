-- The faults of a unit's types, in the order of tokens; at one token in the order of the kinds: UnknownName,
-- UnknownFunction, WrongCount, WrongType, MissingType, DoubleName, DoubleCase, BadReturn.
use Rattle.std.specs.Prelude.{◌≡◌, ℕ, ℤ, List, [], ◌∷◌, ◌++◌, map, Bool, true, false, ◌||◌, ◌&&◌, not, int_le, Option, Some, None, is_some, if◌then◌else◌}
use Rattle.std.specs.List.{list_any}
use Rattle.lp_tree.specs.declared.fault.FaultKind.{FaultKind}
use Rattle.lp_tree.specs.declared.fault.FaultKind.TheVariants.{UnknownName, WrongType, MissingType, DoubleName, DoubleCase, BadReturn}
use Rattle.lp_tree.specs.declared.keyword.Base.{Base}
use Rattle.lp_tree.specs.declared.pragma.Pragmas.{Pragmas}
use Rattle.lp_tree.specs.declared.stmt.Each.{Each}
use Rattle.lp_tree.specs.declared.stmt.Label.{Label}
use Rattle.lp_tree.specs.declared.stmt.Label.TheVariants as labels
use Rattle.lp_tree.specs.declared.stmt.Constant.{Constant}
use Rattle.lp_tree.specs.declared.stmt.Constant.TheVariants as constants
use Rattle.lp_tree.specs.declared.types.TypeName.{TypeName}
use Rattle.lp_tree.specs.declared.unit.Param.{Param}
use Rattle.lp_tree.specs.Trees.{Tree}
use Rattle.lp_tree.specs.Statements.{DeclaratorTree, InitTree, Nothing, DeclaresFirst, RunsFirst, StmtTree, Block, Empty, Run, Declares, If, While, DoWhile, For, Foreach, Switch, Break, Continue, Return, StmtTrees, NoStmt, MoreStmts, ElseTree, NoElse, Else, PartTrees, NoPart, LabelPart, StmtPart}
use Rattle.lp_tree.specs.Units.{ItemTree, Inherit, Proto, Fun, Var}
use Rattle.lp_code.specs.declared.tables.Tables.{Tables}
use Rattle.lp_instr.specs.EfunList.{is_name}
use Rattle.lp_types_expr.specs.declared.kind.ExprType.{ExprType}
use Rattle.lp_types_expr.specs.declared.fault.FaultAt.{FaultAt}
use Rattle.lp_types_expr.specs.declared.local.Local.{Local}
use Rattle.lp_types_expr.specs.Kinds.{kind_of, is_void, fits}
use Rattle.lp_types_expr.specs.Signatures.{inherited_kind}
use Rattle.lp_types_expr.specs.Walk.{all_at, at_first, behind_first}
use Rattle.lp_types_expr.specs.Known.{Around, is_strong, is_strict, variable_kind, type_of}
use Rattle.lp_types_expr.specs.Scopes.{Scope, visible, inside, declaring, is_double}
use Rattle.lp_types_expr.specs.ExprFaults.{when, guilt, assignments, assignments_if, expr_faults, expr_faults_if}

-- Declarations

abbrev pub kind_with : Base → DeclaratorTree → TypeName
kind_with base d = record { base = base; stars = d.stars }

abbrev pub local_of : Base → DeclaratorTree → Local
local_of base d = record { name = d.name; kind = kind_with base d }

abbrev pub locals_of : Base → List DeclaratorTree → List Local
locals_of base ds = map (local_of base) ds

-- an initialiser that does not fit
abbrev pub initialiser_kinds : Around → List Local → TypeName → Option Tree → List FaultKind
initialiser_kinds a ls ty None = []
initialiser_kinds a ls ty (Some e) = when (is_strong a.mode && not (fits ty (type_of a ls e))) WrongType

-- A name is visible after its own initialiser.
abbrev pub declarators_assignments : Around → Scope → Base → List DeclaratorTree → List FaultKind
declarators_assignments a sc base [] = []
declarators_assignments a sc base (d ∷ ds) = assignments_if a (visible sc) d.value ++ declarators_assignments a (declaring sc (local_of base d ∷ [])) base ds

abbrev pub declarators_faults : Around → Scope → Base → List DeclaratorTree → List FaultAt
declarators_faults a sc base [] = []
declarators_faults a sc base (d ∷ ds) =
    all_at d.line (initialiser_kinds a (visible sc) (kind_with base d) d.value ++ when (is_double sc d.name) DoubleName)
    ++ expr_faults_if a (visible sc) d.value
    ++ declarators_faults a (declaring sc (local_of base d ∷ [])) base ds

-- Which locals a statement declares in the block round it.
abbrev mutual
  pub declares : StmtTree → List Local
  declares (Declares line d) = locals_of d.base d.ones
  declares (If line e y n) = declares y ++ declares_else n
  declares (While line e b) = declares b
  declares (DoWhile line b e) = declares b
  declares _ = []

  pub declares_else : ElseTree → List Local
  declares_else NoElse = []
  declares_else (Else n) = declares n

abbrev pub behind : Scope → StmtTree → Scope
behind sc st = declaring sc (declares st)

abbrev pub declares_first : InitTree → List Local
declares_first Nothing = []
declares_first (DeclaresFirst d) = locals_of d.base d.ones
declares_first (RunsFirst e) = []

-- a variable of a `foreach` is declared where it has a type
abbrev pub declares_typed : List ℕ → Option TypeName → List Local
declares_typed w None = []
declares_typed w (Some ty) = record { name = w; kind = ty } ∷ []

abbrev pub declares_each : Each → List Local
declares_each e = declares_typed e.name e.type_name

abbrev pub declares_second : Option Each → List Local
declares_second None = []
declares_second (Some e) = declares_each e

-- and else it is one that is there
abbrev pub each_faults : Around → Scope → Each → List FaultAt
each_faults a sc e = all_at e.line (if is_some e.type_name then when (is_double sc e.name) DoubleName else when (not (is_some (variable_kind a (visible sc) e.name))) UnknownName)

abbrev pub second_faults : Around → Scope → Option Each → List FaultAt
second_faults a sc None = []
second_faults a sc (Some e) = each_faults a sc e

abbrev pub init_assignments : Around → Scope → InitTree → List FaultKind
init_assignments a sc Nothing = []
init_assignments a sc (DeclaresFirst d) = declarators_assignments a sc d.base d.ones
init_assignments a sc (RunsFirst e) = assignments a (visible sc) e

abbrev pub init_faults : Around → Scope → InitTree → List FaultAt
init_faults a sc Nothing = []
init_faults a sc (DeclaresFirst d) = declarators_faults a sc d.base d.ones
init_faults a sc (RunsFirst e) = expr_faults a (visible sc) e

-- Labels

-- whether a constant lies in a range
abbrev pub is_in_range : ℤ → ℤ → Constant → Bool
is_in_range from to (constants.Int n) = int_le from n && int_le n to
is_in_range from to (constants.Text w) = false

abbrev pub is_same_constant : Constant → Constant → Bool
is_same_constant (constants.Int m) (constants.Int n) = int_le m n && int_le n m
is_same_constant (constants.Text v) (constants.Text w) = is_name v w
is_same_constant _ _ = false

-- whether one value fits both ranges; a range whose last is below its first fits nothing
abbrev pub ranges_meet : ℤ → ℤ → ℤ → ℤ → Bool
ranges_meet a b c d = int_le a b && int_le c d && int_le a d && int_le c b

abbrev pub overlap : Label → Label → Bool
overlap (labels.Case l k) (labels.Case l' k') = is_same_constant k k'
overlap (labels.Case l k) (labels.Range l' from to) = is_in_range from to k
overlap (labels.Range l from to) (labels.Case l' k) = is_in_range from to k
overlap (labels.Range l a b) (labels.Range l' c d) = ranges_meet a b c d
overlap (labels.Default l) (labels.Default l') = true
overlap _ _ = false

abbrev pub label_line : Label → ℕ
label_line (labels.Case l k) = l
label_line (labels.Range l a b) = l
label_line (labels.Default l) = l

abbrev pub label_faults : List Label → Label → List FaultAt
label_faults earlier k = all_at (label_line k) (when (list_any (overlap k) earlier) DoubleCase)

-- Returns

-- a value that does not fit, or from `void`, or none from another function that has a type
abbrev pub is_bad_return : Option TypeName → Option ExprType → Bool
is_bad_return None None = false
is_bad_return (Some ty) None = not (is_void ty)
is_bad_return ty (Some t) = is_void (kind_of ty) || not (fits (kind_of ty) t)

abbrev pub type_if : Around → List Local → Option Tree → Option ExprType
type_if a ls None = None
type_if a ls (Some e) = Some (type_of a ls e)

-- Statements. At a statement's first token stand the misfits of its own assignments.
abbrev mutual
  pub stmt_faults : Around → Scope → StmtTree → List FaultAt
  stmt_faults a sc (Block line ss) = stmts_faults a (inside sc) ss
  stmt_faults a sc (Empty line) = []
  stmt_faults a sc (Run line e) = all_at line (at_first (guilt a (visible sc)) e ++ assignments a (visible sc) e) ++ behind_first (guilt a (visible sc)) e
  stmt_faults a sc (Declares line d) = all_at line (declarators_assignments a sc d.base d.ones) ++ declarators_faults a sc d.base d.ones
  stmt_faults a sc (If line e y n) = all_at line (assignments a (visible sc) e) ++ expr_faults a (visible sc) e ++ stmt_faults a sc y ++ else_faults a (behind sc y) n
  stmt_faults a sc (While line e b) = all_at line (assignments a (visible sc) e) ++ expr_faults a (visible sc) e ++ stmt_faults a sc b
  -- what the body declares is seen in the test
  stmt_faults a sc (DoWhile line b e) = all_at line (assignments a (visible (behind sc b)) e) ++ stmt_faults a sc b ++ expr_faults a (visible (behind sc b)) e
  stmt_faults a sc (For line i t st b) =
      all_at line (init_assignments a (inside sc) i ++ assignments_if a (visible (declaring (inside sc) (declares_first i))) t ++ assignments_if a (visible (declaring (inside sc) (declares_first i))) st)
      ++ init_faults a (inside sc) i
      ++ expr_faults_if a (visible (declaring (inside sc) (declares_first i))) t
      ++ expr_faults_if a (visible (declaring (inside sc) (declares_first i))) st
      ++ stmt_faults a (declaring (inside sc) (declares_first i)) b
  -- what is gone over does not see the variables
  stmt_faults a sc (Foreach line f st e b) =
      all_at line (assignments a (visible sc) e)
      ++ each_faults a (inside sc) f
      ++ second_faults a (declaring (inside sc) (declares_each f)) st
      ++ expr_faults a (visible sc) e
      ++ stmt_faults a (declaring (inside sc) (declares_each f ++ declares_second st)) b
  stmt_faults a sc (Switch line e ps) = all_at line (assignments a (visible sc) e) ++ expr_faults a (visible sc) e ++ parts_faults a (inside sc) [] ps
  stmt_faults a sc (Break line) = []
  stmt_faults a sc (Continue line) = []
  stmt_faults a sc (Return line e) = all_at line (assignments_if a (visible sc) e ++ when (is_strong a.mode && is_bad_return sc.answer (type_if a (visible sc) e)) BadReturn) ++ expr_faults_if a (visible sc) e

  pub stmts_faults : Around → Scope → StmtTrees → List FaultAt
  stmts_faults a sc NoStmt = []
  stmts_faults a sc (MoreStmts st ss) = stmt_faults a sc st ++ stmts_faults a (behind sc st) ss

  pub else_faults : Around → Scope → ElseTree → List FaultAt
  else_faults a sc NoElse = []
  else_faults a sc (Else st) = stmt_faults a sc st

  -- the parts of a `switch`, behind some labels
  pub parts_faults : Around → Scope → List Label → PartTrees → List FaultAt
  parts_faults a sc earlier NoPart = []
  parts_faults a sc earlier (LabelPart k ps) = label_faults earlier k ++ parts_faults a sc (k ∷ earlier) ps
  parts_faults a sc earlier (StmtPart st ps) = stmt_faults a sc st ++ parts_faults a (behind sc st) earlier ps

-- Functions and globals

abbrev pub missing_type : Around → Option TypeName → List FaultKind
missing_type a ty = when (is_strict a.mode && not (is_some ty)) MissingType

abbrev pub params_faults : Around → List (List ℕ) → List Param → List FaultAt
params_faults a earlier [] = []
params_faults a earlier (p ∷ ps) = all_at p.line (missing_type a p.type_name ++ when (list_any (is_name p.name) earlier) DoubleName) ++ params_faults a (p.name ∷ earlier) ps

abbrev pub params_locals : List Param → List Local
params_locals ps = map (λ p. record { name = p.name; kind = kind_of p.type_name }) ps

-- A local hides a parameter without a fault.
abbrev pub body_scope : Option TypeName → List Param → Scope
body_scope ty ps = record { answer = ty; outer = params_locals ps; block = [] }

-- a global, behind others of the file
abbrev pub global_faults : Around → List (List ℕ) → Base → DeclaratorTree → List FaultAt
global_faults a earlier base d =
    all_at d.line (initialiser_kinds a [] (kind_with base d) d.value ++ assignments_if a [] d.value ++ when (list_any (is_name d.name) earlier || is_some (inherited_kind a.parents d.name)) DoubleName)
    ++ expr_faults_if a [] d.value

abbrev pub globals_faults : Around → List (List ℕ) → Base → List DeclaratorTree → List FaultAt
globals_faults a earlier base [] = []
globals_faults a earlier base (d ∷ ds) = global_faults a earlier base d ++ globals_faults a (d.name ∷ earlier) base ds

abbrev pub names_of : List DeclaratorTree → List (List ℕ)
names_of ds = map (λ d. d.name) ds

-- the items of a unit, behind some functions with bodies and some globals
abbrev pub items_faults : Around → List (List ℕ) → List (List ℕ) → List ItemTree → List FaultAt
items_faults a funs vars [] = []
items_faults a funs vars (Inherit line path ∷ is) = items_faults a funs vars is
items_faults a funs vars (Proto line ms ty w ps ∷ is) = all_at line (missing_type a ty) ++ params_faults a [] ps ++ items_faults a funs vars is
items_faults a funs vars (Fun line ms ty w ps b ∷ is) =
    all_at line (missing_type a ty ++ when (list_any (is_name w) funs) DoubleName)
    ++ params_faults a [] ps
    ++ stmts_faults a (body_scope ty ps) b.stmts
    ++ items_faults a (w ∷ funs) vars is
items_faults a funs vars (Var line ms base ds ∷ is) = globals_faults a vars base ds ++ items_faults a funs (names_of ds ++ vars) is

-- All faults of the types of a unit, with its pragmas, the tables of its parents, one for each `inherit`, and the names
-- of the simul efuns.
abbrev pub type_faults : List ItemTree → Pragmas → List Tables → List (List ℕ) → List FaultAt
type_faults items pragmas parents simuls = items_faults (record { mode = pragmas.types; items = items; parents = parents; simuls = simuls }) [] [] items

-- a unit is well typed where it has none
abbrev pub IsWellTyped : List ItemTree → Pragmas → List Tables → List (List ℕ) → Type 0
IsWellTyped items pragmas parents simuls = type_faults items pragmas parents simuls ≡ []
