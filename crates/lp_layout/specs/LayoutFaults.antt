-- The faults of a unit's layout, in the order of tokens; at one token in the order of the kinds: NomaskOverridden,
-- NoInheritPragma, AmbiguousSuper, TooManyNames. The first of them counts. The parents are known by their tables.
use Rattle.std.specs.Prelude.{ℕ, suc, ◌+◌, List, [], ◌∷◌, ◌++◌, filter, length, Bool, false, ◌||◌, ◌&&◌, not, nat_eq, nat_lt, Option, Some, None, slice_get, if◌then◌else◌}
use Rattle.std.specs.List.{list_any}
use Rattle.lp_tree.specs.declared.fault.FaultKind.{FaultKind}
use Rattle.lp_tree.specs.declared.fault.FaultKind.TheVariants.{NomaskOverridden, NoInheritPragma, AmbiguousSuper, TooManyNames}
use Rattle.lp_tree.specs.declared.stmt.Each.{Each}
use Rattle.lp_tree.specs.declared.types.TypeName.{TypeName}
use Rattle.lp_tree.specs.Trees.{Call, EfunCall, ParentCall, NamedParentCall, CallOther, Trees, NoTree, OneMore}
use Rattle.lp_tree.specs.Statements.{DeclaratorTree, InitTree, Nothing, DeclaresFirst, RunsFirst, StmtTree, Block, Empty, Run, Declares, If, While, DoWhile, For, Foreach, Switch, Break, Continue, Return, StmtTrees, NoStmt, MoreStmts, ElseTree, NoElse, Else, PartTrees, NoPart, LabelPart, StmtPart}
use Rattle.lp_tree.specs.Units.{ItemTree, Inherit, Proto, Fun, Var}
use Rattle.lp_values.specs.declared.id.ProgId.{ProgId}
use Rattle.lp_code.specs.declared.tables.Slot.{Slot}
use Rattle.lp_code.specs.declared.tables.Tables.{Tables}
use Rattle.lp_types_expr.specs.Signatures.{has_bit, has_function, is_shown}
use Rattle.lp_types_expr.specs.Known.{has_path}
use Rattle.lp_types_expr.specs.ExprFaults.{when}
use Rattle.lp_types_expr.specs.declared.fault.FaultAt.{FaultAt}
use Rattle.lp_types_expr.specs.Walk.{all_at, Guilt, in_tree, in_optional}
pub use Rattle.lp_layout.specs.declared.source.Source.{Source}
use Rattle.lp_layout.specs.Layout.{slot_named, laid_slots, laid_variables, parts_of, functions}

-- the greatest numbers: of the arguments of a call and the parameters of a function; of the locals of a function; and of
-- the functions, the variables and the parts of a version with its parents
pub record Limits : Type 0 where
  pub arguments : ℕ
  pub locals : ℕ
  pub names : ℕ

abbrev pub limits : Limits
limits = record { arguments = 255; locals = 255; names = 65535 }

-- Functions that may not be overridden

-- A source is a function that a parent shows: the version in whose text it stands, and its modifiers as a number.
abbrev pub source_of : Tables → Option Slot → Option Source
source_of t None = None
source_of t (Some s) = if has_function s && is_shown s then Some (record { version = slice_get t.parts s.part; mods = s.mods }) else None

abbrev pub source : Tables → List ℕ → Option Source
source t w = source_of t (slot_named t.slots w)

-- bit 5 is `nomask`
abbrev pub is_nomask_number : ℕ → Bool
is_nomask_number mods = has_bit 32 mods

abbrev pub is_same_version : Option ProgId → Option ProgId → Bool
is_same_version (Some m) (Some n) = nat_eq m.0 n.0
is_same_version _ _ = false

-- a nomask function may not stand beside a different one of its name
abbrev pub clash : Option Source → Option Source → Bool
clash (Some s) (Some t) = not (is_same_version s.version t.version) && (is_nomask_number s.mods || is_nomask_number t.mods)
clash _ _ = false

abbrev pub clash_in : Tables → List Tables → List ℕ → Bool
clash_in t earlier w = list_any (λ p. clash (source p w) (source t w)) earlier

abbrev pub stands_beside : List Tables → Tables → Bool
stands_beside earlier t = list_any (λ s. clash_in t earlier s.name) t.slots

abbrev pub is_nomask_source : Option Source → Bool
is_nomask_source None = false
is_nomask_source (Some s) = is_nomask_number s.mods

-- nor be overridden by the child
abbrev pub overrides : List Tables → List ℕ → Bool
overrides ts w = list_any (λ t. is_nomask_source (source t w)) ts

-- Calls

abbrev pub count : Trees → ℕ
count NoTree = 0
count (OneMore t ts) = suc (count ts)

abbrev pub too_many : ℕ → ℕ → List FaultKind
too_many most n = when (nat_lt most n) TooManyNames

abbrev pub is_ambiguous : List Tables → List ℕ → Bool
is_ambiguous hs p = nat_lt 1 (length (filter (has_path p) hs))

abbrev pub call_guilt : Limits → List Tables → Guilt
call_guilt m hs (Call line w ts) = too_many m.arguments (count ts)
call_guilt m hs (EfunCall line w ts) = too_many m.arguments (count ts)
call_guilt m hs (ParentCall line w ts) = too_many m.arguments (count ts)
call_guilt m hs (NamedParentCall line p w ts) = when (is_ambiguous hs p) AmbiguousSuper ++ too_many m.arguments (count ts)
call_guilt m hs (CallOther line t w ts) = too_many m.arguments (count ts)
call_guilt m hs _ = []

abbrev pub declarators_calls : Guilt → List DeclaratorTree → List FaultAt
declarators_calls f [] = []
declarators_calls f (d ∷ ds) = in_optional f d.value ++ declarators_calls f ds

abbrev pub init_calls : Guilt → InitTree → List FaultAt
init_calls f Nothing = []
init_calls f (DeclaresFirst d) = declarators_calls f d.ones
init_calls f (RunsFirst e) = in_tree f e

abbrev mutual
  pub stmt_calls : Guilt → StmtTree → List FaultAt
  stmt_calls f (Block line ss) = stmts_calls f ss
  stmt_calls f (Empty line) = []
  stmt_calls f (Run line e) = in_tree f e
  stmt_calls f (Declares line d) = declarators_calls f d.ones
  stmt_calls f (If line e y n) = in_tree f e ++ stmt_calls f y ++ else_calls f n
  stmt_calls f (While line e b) = in_tree f e ++ stmt_calls f b
  stmt_calls f (DoWhile line b e) = stmt_calls f b ++ in_tree f e
  stmt_calls f (For line i t st b) = init_calls f i ++ in_optional f t ++ in_optional f st ++ stmt_calls f b
  stmt_calls f (Foreach line x y e b) = in_tree f e ++ stmt_calls f b
  stmt_calls f (Switch line e ps) = in_tree f e ++ parts_calls f ps
  stmt_calls f (Break line) = []
  stmt_calls f (Continue line) = []
  stmt_calls f (Return line e) = in_optional f e

  pub stmts_calls : Guilt → StmtTrees → List FaultAt
  stmts_calls f NoStmt = []
  stmts_calls f (MoreStmts st ss) = stmt_calls f st ++ stmts_calls f ss

  pub else_calls : Guilt → ElseTree → List FaultAt
  else_calls f NoElse = []
  else_calls f (Else st) = stmt_calls f st

  pub parts_calls : Guilt → PartTrees → List FaultAt
  parts_calls f NoPart = []
  parts_calls f (LabelPart k ps) = parts_calls f ps
  parts_calls f (StmtPart st ps) = stmt_calls f st ++ parts_calls f ps

-- all locals of a function together
abbrev pub init_locals : InitTree → ℕ
init_locals Nothing = 0
init_locals (DeclaresFirst d) = length d.ones
init_locals (RunsFirst e) = 0

-- a variable of a `foreach` is a local where it has a type
abbrev pub typed_locals : Option TypeName → ℕ
typed_locals None = 0
typed_locals (Some ty) = 1

abbrev pub each_locals : Each → ℕ
each_locals e = typed_locals e.type_name

abbrev pub second_locals : Option Each → ℕ
second_locals None = 0
second_locals (Some e) = each_locals e

abbrev mutual
  pub stmt_locals : StmtTree → ℕ
  stmt_locals (Block line ss) = stmts_locals ss
  stmt_locals (Declares line d) = length d.ones
  stmt_locals (If line e y n) = stmt_locals y + else_locals n
  stmt_locals (While line e b) = stmt_locals b
  stmt_locals (DoWhile line b e) = stmt_locals b
  stmt_locals (For line i t st b) = init_locals i + stmt_locals b
  stmt_locals (Foreach line f st e b) = each_locals f + second_locals st + stmt_locals b
  stmt_locals (Switch line e ps) = parts_locals ps
  stmt_locals _ = 0

  pub stmts_locals : StmtTrees → ℕ
  stmts_locals NoStmt = 0
  stmts_locals (MoreStmts st ss) = stmt_locals st + stmts_locals ss

  pub else_locals : ElseTree → ℕ
  else_locals NoElse = 0
  else_locals (Else st) = stmt_locals st

  pub parts_locals : PartTrees → ℕ
  parts_locals NoPart = 0
  parts_locals (LabelPart k ps) = parts_locals ps
  parts_locals (StmtPart st ps) = stmt_locals st + parts_locals ps

-- The items of a unit, behind some inherits and before others. What is wrong with the whole stands at the first token.
abbrev pub function_kinds : Limits → List Tables → List ℕ → ℕ → ℕ → List FaultKind
function_kinds m ts w params locals = when (overrides ts w) NomaskOverridden ++ when (nat_lt m.arguments params || nat_lt m.locals locals) TooManyNames

abbrev pub inherit_kinds : List Tables → Tables → List FaultKind
inherit_kinds earlier t = when (stands_beside earlier t) NomaskOverridden ++ when t.pragmas.no_inherit NoInheritPragma

abbrev pub items_layout : Limits → List FaultKind → List Tables → List Tables → List ItemTree → List FaultAt
items_layout m whole earlier others [] = []
items_layout m whole earlier [] (Inherit line path ∷ is) = all_at line whole ++ items_layout m [] earlier [] is
items_layout m whole earlier (t ∷ ts) (Inherit line path ∷ is) = all_at line (inherit_kinds earlier t ++ whole) ++ items_layout m [] (earlier ++ t ∷ []) ts is
items_layout m whole earlier others (Proto line ms ty w ps ∷ is) = all_at line (too_many m.arguments (length ps) ++ whole) ++ items_layout m [] earlier others is
items_layout m whole earlier others (Fun line ms ty w ps b ∷ is) =
    all_at line (function_kinds m earlier w (length ps) (stmts_locals b.stmts) ++ whole)
    ++ stmts_calls (call_guilt m earlier) b.stmts
    ++ items_layout m [] earlier others is
items_layout m whole earlier others (Var line ms base ds ∷ is) = all_at line whole ++ declarators_calls (call_guilt m earlier) ds ++ items_layout m [] earlier others is

-- Too many parts, functions in the text, variables, or names of functions. Where no two functions of a file have one
-- name there are no more functions in the text than names.
abbrev pub is_too_large : Limits → List ItemTree → List Tables → Bool
is_too_large m is ts = nat_lt m.names (suc (parts_of ts)) || nat_lt m.names (functions is) || nat_lt m.names (length (laid_variables is ts 0)) || nat_lt m.names (length (laid_slots is ts))

-- the faults of the layout of a unit, within limits
abbrev pub layout_faults_within : Limits → List ItemTree → List Tables → List FaultAt
layout_faults_within m is ts = items_layout m (when (is_too_large m is ts) TooManyNames) [] ts is

abbrev pub first_fault : List FaultAt → Option FaultAt
first_fault [] = None
first_fault (f ∷ fs) = Some f

abbrev pub layout_fault : List ItemTree → List Tables → Option FaultAt
layout_fault is ts = first_fault (layout_faults_within limits is ts)
