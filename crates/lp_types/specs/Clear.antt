-- Units that have a meaning everywhere: each expression has one where it stands, a variable of a `foreach` that has no type
-- is one that is there, and no label of a `switch` meets an earlier one. That each place is a place is a rule of the grammar.
use Rattle.std.specs.Prelude.{◌≡◌, ℕ, List, [], ◌∷◌, ◌++◌, false, Option, Some, None, IsSome}
use Rattle.std.specs.List.{list_any}
use Rattle.lp_tree.specs.declared.keyword.Base.{Base}
use Rattle.lp_tree.specs.declared.pragma.Pragmas.{Pragmas}
use Rattle.lp_tree.specs.declared.seen.Seen.{Seen}
use Rattle.lp_tree.specs.declared.stmt.Each.{Each}
use Rattle.lp_tree.specs.declared.stmt.Label.{Label}
use Rattle.lp_tree.specs.Trees.{Tree}
use Rattle.lp_tree.specs.Statements.{DeclaratorTree, InitTree, Nothing, DeclaresFirst, RunsFirst, StmtTree, Block, Empty, Run, Declares, If, While, DoWhile, For, Foreach, Switch, Break, Continue, Return, StmtTrees, NoStmt, MoreStmts, ElseTree, NoElse, Else, PartTrees, NoPart, LabelPart, StmtPart}
use Rattle.lp_tree.specs.Units.{ItemTree, Inherit, Proto, Fun, Var, SpellsUnit}
use Rattle.lp_code.specs.declared.tables.Tables.{Tables}
use Rattle.lp_types_expr.specs.declared.local.Local.{Local}
use Rattle.lp_types_expr.specs.Clear.{IsClear}
use Rattle.lp_types_expr.specs.Known.{Around, variable_kind}
use Rattle.lp_types_expr.specs.Meant.{HasPlaces}
use Rattle.lp_types_expr.specs.Scopes.{Scope, visible, inside, declaring}
use Rattle.lp_types.specs.TypeFaults.{local_of, behind, declares_first, declares_each, declares_second, overlap, body_scope, IsWellTyped}

-- Clear: no name is unknown.

abbrev pub IsClearIf : Around → List Local → Option Tree → Type 0
IsClearIf a ls None = Unit
IsClearIf a ls (Some t) = IsClear a ls t

-- the initialisers of a declaration: a name is visible after its own
abbrev pub AreClearOnes : Around → Scope → Base → List DeclaratorTree → Type 0
AreClearOnes a sc base [] = Unit
AreClearOnes a sc base (d ∷ ds) = IsClearIf a (visible sc) d.value × AreClearOnes a (declaring sc (local_of base d ∷ [])) base ds

abbrev pub IsClearInit : Around → Scope → InitTree → Type 0
IsClearInit a sc Nothing = Unit
IsClearInit a sc (DeclaresFirst d) = AreClearOnes a sc d.base d.ones
IsClearInit a sc (RunsFirst e) = IsClear a (visible sc) e

-- a variable of a `foreach` has a type, or it is one that is there
abbrev pub IsClearEach : Around → Scope → Each → Type 0
IsClearEach a sc e = e.type_name ≡ None → IsSome (variable_kind a (visible sc) e.name)

abbrev pub IsClearSecond : Around → Scope → Option Each → Type 0
IsClearSecond a sc None = Unit
IsClearSecond a sc (Some e) = IsClearEach a sc e

-- a label meets no earlier one
abbrev pub IsApart : List Label → Label → Type 0
IsApart earlier k = list_any (overlap k) earlier ≡ false

abbrev mutual
  pub IsClearStmt : Around → Scope → StmtTree → Type 0
  IsClearStmt a sc (Block line ss) = AreClearStmts a (inside sc) ss
  IsClearStmt a sc (Empty line) = Unit
  IsClearStmt a sc (Run line e) = IsClear a (visible sc) e
  IsClearStmt a sc (Declares line d) = AreClearOnes a sc d.base d.ones
  IsClearStmt a sc (If line e y n) = IsClear a (visible sc) e × (IsClearStmt a sc y × IsClearElse a (behind sc y) n)
  IsClearStmt a sc (While line e b) = IsClear a (visible sc) e × IsClearStmt a sc b
  IsClearStmt a sc (DoWhile line b e) = IsClearStmt a sc b × IsClear a (visible (behind sc b)) e
  IsClearStmt a sc (For line i t st b) =
      IsClearInit a (inside sc) i
      × (IsClearIf a (visible (declaring (inside sc) (declares_first i))) t
      × (IsClearIf a (visible (declaring (inside sc) (declares_first i))) st
      × IsClearStmt a (declaring (inside sc) (declares_first i)) b))
  IsClearStmt a sc (Foreach line f st e b) =
      IsClearEach a (inside sc) f
      × (IsClearSecond a (declaring (inside sc) (declares_each f)) st
      × (IsClear a (visible sc) e
      × IsClearStmt a (declaring (inside sc) (declares_each f ++ declares_second st)) b))
  IsClearStmt a sc (Switch line e ps) = IsClear a (visible sc) e × AreClearParts a (inside sc) [] ps
  IsClearStmt a sc (Break line) = Unit
  IsClearStmt a sc (Continue line) = Unit
  IsClearStmt a sc (Return line e) = IsClearIf a (visible sc) e

  pub AreClearStmts : Around → Scope → StmtTrees → Type 0
  AreClearStmts a sc NoStmt = Unit
  AreClearStmts a sc (MoreStmts s ss) = IsClearStmt a sc s × AreClearStmts a (behind sc s) ss

  pub IsClearElse : Around → Scope → ElseTree → Type 0
  IsClearElse a sc NoElse = Unit
  IsClearElse a sc (Else s) = IsClearStmt a sc s

  -- the parts of a `switch`, behind some labels
  pub AreClearParts : Around → Scope → List Label → PartTrees → Type 0
  AreClearParts a sc earlier NoPart = Unit
  AreClearParts a sc earlier (LabelPart k ps) = IsApart earlier k × AreClearParts a sc (k ∷ earlier) ps
  AreClearParts a sc earlier (StmtPart s ps) = IsClearStmt a sc s × AreClearParts a (behind sc s) earlier ps

abbrev pub AreClearGlobals : Around → List DeclaratorTree → Type 0
AreClearGlobals a [] = Unit
AreClearGlobals a (d ∷ ds) = IsClearIf a [] d.value × AreClearGlobals a ds

abbrev pub AreClearItems : Around → List ItemTree → Type 0
AreClearItems a [] = Unit
AreClearItems a (Inherit line path ∷ is) = AreClearItems a is
AreClearItems a (Proto line ms ty w ps ∷ is) = AreClearItems a is
AreClearItems a (Fun line ms ty w ps b ∷ is) = AreClearStmts a (body_scope ty ps) b.stmts × AreClearItems a is
AreClearItems a (Var line ms base ds ∷ is) = AreClearGlobals a ds × AreClearItems a is

-- Places: what is assigned to, stepped or scanned into is a place, and each sequence has a first part.

abbrev pub HasPlacesIf : Option Tree → Type 0
HasPlacesIf None = Unit
HasPlacesIf (Some t) = HasPlaces t

abbrev pub HavePlacesOnes : List DeclaratorTree → Type 0
HavePlacesOnes [] = Unit
HavePlacesOnes (d ∷ ds) = HasPlacesIf d.value × HavePlacesOnes ds

abbrev pub HasPlacesInit : InitTree → Type 0
HasPlacesInit Nothing = Unit
HasPlacesInit (DeclaresFirst d) = HavePlacesOnes d.ones
HasPlacesInit (RunsFirst e) = HasPlaces e

abbrev mutual
  pub HasPlacesStmt : StmtTree → Type 0
  HasPlacesStmt (Block line ss) = HavePlacesStmts ss
  HasPlacesStmt (Empty line) = Unit
  HasPlacesStmt (Run line e) = HasPlaces e
  HasPlacesStmt (Declares line d) = HavePlacesOnes d.ones
  HasPlacesStmt (If line e y n) = HasPlaces e × (HasPlacesStmt y × HasPlacesElse n)
  HasPlacesStmt (While line e b) = HasPlaces e × HasPlacesStmt b
  HasPlacesStmt (DoWhile line b e) = HasPlacesStmt b × HasPlaces e
  HasPlacesStmt (For line i t st b) = HasPlacesInit i × (HasPlacesIf t × (HasPlacesIf st × HasPlacesStmt b))
  HasPlacesStmt (Foreach line f st e b) = HasPlaces e × HasPlacesStmt b
  HasPlacesStmt (Switch line e ps) = HasPlaces e × HavePlacesParts ps
  HasPlacesStmt (Break line) = Unit
  HasPlacesStmt (Continue line) = Unit
  HasPlacesStmt (Return line e) = HasPlacesIf e

  pub HavePlacesStmts : StmtTrees → Type 0
  HavePlacesStmts NoStmt = Unit
  HavePlacesStmts (MoreStmts s ss) = HasPlacesStmt s × HavePlacesStmts ss

  pub HasPlacesElse : ElseTree → Type 0
  HasPlacesElse NoElse = Unit
  HasPlacesElse (Else s) = HasPlacesStmt s

  pub HavePlacesParts : PartTrees → Type 0
  HavePlacesParts NoPart = Unit
  HavePlacesParts (LabelPart k ps) = HavePlacesParts ps
  HavePlacesParts (StmtPart s ps) = HasPlacesStmt s × HavePlacesParts ps

abbrev pub HavePlacesItems : List ItemTree → Type 0
HavePlacesItems [] = Unit
HavePlacesItems (Inherit line path ∷ is) = HavePlacesItems is
HavePlacesItems (Proto line ms ty w ps ∷ is) = HavePlacesItems is
HavePlacesItems (Fun line ms ty w ps b ∷ is) = HavePlacesStmts b.stmts × HavePlacesItems is
HavePlacesItems (Var line ms base ds ∷ is) = HavePlacesOnes ds × HavePlacesItems is

-- A unit that has a meaning everywhere, with what is round it.
pub record IsMeant (items : List ItemTree) (pragmas : Pragmas) (parents : List Tables) (simuls : List (List ℕ)) : Type 0 where
  pub clear : AreClearItems (record { mode = pragmas.types; items = items; parents = parents; simuls = simuls }) items
  pub places : HavePlacesItems items

-- a unit that is spelled and well typed has a meaning everywhere
abbrev pub WellTypedIsMeant : Type 0
WellTypedIsMeant = (items : List ItemTree) (pragmas : Pragmas) (parents : List Tables) (simuls : List (List ℕ)) (tokens : List Seen)
    → SpellsUnit items tokens → IsWellTyped items pragmas parents simuls → IsMeant items pragmas parents simuls
