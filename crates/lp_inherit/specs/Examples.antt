-- Small families of files, and the faults that the layout of a child has.
use Rattle.std.specs.Prelude.{◌≡◌, ℕ, List, [], ◌∷◌, Option, Some, None, codes, true, false}
use Rattle.lp_tree.specs.declared.fault.FaultKind.TheVariants.{NomaskOverridden, NoInheritPragma, AmbiguousSuper, TooManyNames}
use Rattle.lp_tree.specs.declared.keyword.Modifier.{Modifier}
use Rattle.lp_tree.specs.declared.keyword.Modifier.TheVariants.{Nomask, Private}
use Rattle.lp_tree.specs.declared.pragma.TypeMode.TheVariants.{Weak}
use Rattle.lp_tree.specs.declared.pragma.Pragmas.{Pragmas}
use Rattle.lp_tree.specs.Trees.{NamedParentCall, NoTree, Call, OneMore, Name}
use Rattle.lp_tree.specs.Statements.{StmtTrees, NoStmt, MoreStmts, Run}
use Rattle.lp_tree.specs.Units.{ItemTree, Inherit, Fun}
use Rattle.lp_language.specs.World.{Version}
use Rattle.lp_language.specs.Resolve.{Heritage, Heritages, Heir, NoParent, OneParent, parents_of, version_of}
use Rattle.lp_types_expr.specs.declared.fault.FaultAt.{FaultAt}
use Rattle.lp_types_expr.specs.Walk.{fault_at}
use Rattle.lp_inherit.specs.Heirs.{tables}
use Rattle.lp_layout.specs.LayoutFaults.{Limits, layout_faults_within, first_fault, layout_fault}

abbrev pub pragmas : Pragmas
pragmas = record { no_clone = false; no_inherit = false; no_shadow = false; types = Weak }

abbrev pub file : List ℕ → List ItemTree → Version
file path items = record { path = path; items = items; parents = []; pragmas = pragmas; simuls = []; latest = 0 }

abbrev pub family : ℕ → Version → Heritages → Heritage
family n v ps = Heir (record { 0 = n }) v ps

abbrev pub fault_of : Heritage → Option FaultAt
fault_of h = layout_fault (version_of h).items (tables (parents_of h))

abbrev pub faults_within : Limits → Heritage → Option FaultAt
faults_within m h = first_fault (layout_faults_within m (version_of h).items (tables (parents_of h)))

-- `int f() {}` with some modifiers, in a line
abbrev pub function : ℕ → List Modifier → StmtTrees → ItemTree
function line ms ss = Fun line ms None (codes "f") [] (record { line = line; stmts = ss })

-- A unit inherits `/a` and `/c`; `/c` inherits `/x`. Both `/a` and `/x` inherit `/b`, which was compiled once, or twice.
-- In `/b` a function may not be overridden. Compiled twice there are two different functions of the name.
abbrev pub base : ℕ → Heritage
base n = family n (file (codes "/b.c") (function 1 (Nomask ∷ []) NoStmt ∷ [])) NoParent

abbrev pub above : ℕ → List ℕ → List ℕ → Heritage → Heritage
above n path parent h = family n (file path (Inherit 1 parent ∷ [])) (OneParent h NoParent)

abbrev pub diamond : ℕ → Heritage
diamond n = family 5 (file (codes "/t.c") (Inherit 1 (codes "/a") ∷ Inherit 2 (codes "/c") ∷ []))
    (OneParent (above 2 (codes "/a.c") (codes "/b") (base 0)) (OneParent (above 4 (codes "/c.c") (codes "/x") (above 3 (codes "/x.c") (codes "/b") (base n))) NoParent))

-- a child that has a function of the name, and one whose is private in a parent
abbrev pub child : Heritage → Heritage
child p = family 7 (file (codes "/t.c") (Inherit 1 (codes "/b") ∷ function 3 [] NoStmt ∷ [])) (OneParent p NoParent)

abbrev pub hidden : Heritage
hidden = family 0 (file (codes "/b.c") (function 1 (Nomask ∷ Private ∷ []) NoStmt ∷ [])) NoParent

-- a parent that is not to be inherited, and may not be overridden either
abbrev pub closed : Heritage
closed = family 0 (record { path = codes "/b.c"; items = function 1 (Nomask ∷ []) NoStmt ∷ []; parents = []; pragmas = record { no_clone = false; no_inherit = true; no_shadow = false; types = Weak }; simuls = []; latest = 0 }) NoParent

-- `"b"::f()` where two parents' paths end in `/b`
abbrev pub torn : Heritage
torn = family 7 (file (codes "/t.c") (Inherit 1 (codes "/p/b") ∷ Inherit 1 (codes "/q/b") ∷ function 2 [] (MoreStmts (Run 4 (NamedParentCall 4 (codes "b") (codes "f") NoTree)) NoStmt) ∷ []))
    (OneParent (family 0 (file (codes "/p/b.c") []) NoParent) (OneParent (family 1 (file (codes "/q/b.c") []) NoParent) NoParent))

-- a call with one argument too many, behind a function, where there are too many names too
abbrev pub few : ℕ → Limits
few n = record { arguments = 0; locals = 0; names = n }

abbrev pub long : Heritage
long = family 0 (file (codes "/t.c") (function 2 [] (MoreStmts (Run 4 (Call 5 (codes "f") (OneMore (Name 5 (codes "x")) NoTree))) NoStmt) ∷ [])) NoParent

pub record Examples : Type 0 where
  pub once : fault_of (diamond 0) ≡ None
  pub twice : fault_of (diamond 1) ≡ Some (fault_at 2 NomaskOverridden)
  pub overridden : fault_of (child (base 0)) ≡ Some (fault_at 3 NomaskOverridden)
  pub unseen : fault_of (child hidden) ≡ None
  pub not_inherited : fault_of (child closed) ≡ Some (fault_at 1 NoInheritPragma)
  pub ambiguous : fault_of torn ≡ Some (fault_at 4 AmbiguousSuper)
  pub arguments : faults_within (few 9) long ≡ Some (fault_at 5 TooManyNames)
  pub names : faults_within (few 0) long ≡ Some (fault_at 2 TooManyNames)
