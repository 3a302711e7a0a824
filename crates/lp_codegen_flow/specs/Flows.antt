-- What it says that code under construction stands for a statement.
use Rattle.std.specs.Prelude.{◌≡◌, ℕ, ◌++◌, List, [], ◌∷◌, Option, Some, None, take}
use Rattle.lp_tree.specs.declared.stmt.Each.{Each}
use Rattle.lp_tree.specs.Trees.{Tree}
use Rattle.lp_tree.specs.Statements.{DeclaratorTree, InitTree, StmtTree, StmtTrees, NoStmt, MoreStmts}
use Rattle.lp_language.specs.Scope.{Names, behind, declared, declared_each, declared_first, declared_second, names_of, slot_of_each, slots_of_each, slots_of_second}
use Rattle.lp_isa.specs.Translates.{Makes, MakesInit, MakesLoop, MakesOnes, MakesOver, MakesRun, MakesRunIf, MakesStmt, MakesStmts, MakesTest, MakesValueIf, TakesAll}
use Rattle.lp_codegen_expr.specs.declared.scope.Scope.{Scope}
use Rattle.lp_codegen_expr.specs.Names.{layout_of}
use Rattle.lp_codegen_expr.specs.Drafts.{Sketch, Form, Adds}

-- the locals that are seen behind some statements, in the block round them
abbrev pub behind_all : Names → StmtTrees → Names
behind_all ns NoStmt = ns
behind_all ns (MoreStmts s ss) = behind_all (behind ns s) ss

-- Which form each generator adds: the piece of the translation that it is for, where code stands so, with the locals that
-- are seen before it.
abbrev pub of_stmt : StmtTree → Names → Form
of_stmt s ns a from to = MakesStmt a.heritage ns s (Some a.out) (Some a.again) a.code from to

abbrev pub of_stmts : StmtTrees → Names → Form
of_stmts ss ns a from to = MakesStmts a.heritage ns ss (Some a.out) (Some a.again) a.code from to

abbrev pub of_run : Tree → Names → Form
of_run e ns a from to = MakesRun a.heritage ns e a.code from to

abbrev pub of_run_if : Option Tree → Names → Form
of_run_if e ns a from to = MakesRunIf a.heritage ns e a.code from to

abbrev pub of_value_if : Option Tree → Names → Form
of_value_if e ns a from to = MakesValueIf a.heritage ns e a.code from to

abbrev pub of_test : Option Tree → ℕ → Names → Form
of_test e turn ns a from to = MakesTest a.heritage ns e a.code turn from to

abbrev pub of_ones : List DeclaratorTree → Names → Form
of_ones ds ns a from to = MakesOnes a.heritage ns ds a.code from to

abbrev pub of_init : InitTree → Names → Form
of_init i ns a from to = MakesInit a.heritage ns i a.code from to

-- a `for` behind its first part
abbrev pub of_turns : Option Tree → Option Tree → StmtTree → Names → Form
of_turns t st b ns a from to =
    MakesLoop a.code (MakesTest a.heritage ns t a.code) (λ again. MakesStmt a.heritage ns b (Some to) (Some again) a.code) (MakesRunIf a.heritage ns st a.code) from to

-- variables of a `foreach` take their values
abbrev pub of_each : Each → Names → Form
of_each f ns a from to = TakesAll a.code (slot_of_each a.heritage ns f ∷ []) from to

abbrev pub of_second : Option Each → Names → Form
of_second g ns a from to = TakesAll a.code (slots_of_second a.heritage ns g) from to

abbrev pub of_eaches : Each → Option Each → Names → Form
of_eaches f g ns a from to = TakesAll a.code (slots_of_each a.heritage ns f g) from to

-- a `foreach` behind its beginning
abbrev pub of_over : Each → Option Each → StmtTree → Names → Form
of_over f g b ns a from to =
    MakesOver a.code (slots_of_each a.heritage ns f g) (λ leave next. MakesStmt a.heritage (ns ++ declared_each f ++ declared_second g) b (Some leave) (Some next) a.code) from to

-- how many variables a `foreach` has
abbrev pub count_of : Option Each → ℕ
count_of None = 1
count_of (Some g) = 2

-- Code of a form was added where one scope stood, and now another stands, with these locals.
pub record Leads (F : Names → Form) (ns : Names) (was is : Scope) (old new : Sketch) : Type 0 where
  pub code : Adds (layout_of was.layout) (F was.locals.items) old new
  pub layout : is.layout ≡ was.layout
  pub names : is.locals.items ≡ ns

-- a statement, with the locals that are seen behind it
abbrev pub Stands : StmtTree → Scope → Scope → Sketch → Sketch → Type 0
Stands s was is old new = Leads (of_stmt s) (behind was.locals.items s) was is old new

abbrev pub AllStand : StmtTrees → Scope → Scope → Sketch → Sketch → Type 0
AllStand ss was is old new = Leads (of_stmts ss) (behind_all was.locals.items ss) was is old new

-- declarations of locals
abbrev pub OnesStand : List DeclaratorTree → Scope → Scope → Sketch → Sketch → Type 0
OnesStand ds was is old new = Leads (of_ones ds) (was.locals.items ++ names_of ds) was is old new

-- the first part of a `for`
abbrev pub InitStands : InitTree → Scope → Scope → Sketch → Sketch → Type 0
InitStands i was is old new = Leads (of_init i) (was.locals.items ++ declared_first i) was is old new

-- variables of a `foreach`
abbrev pub EachStands : Each → Scope → Scope → Sketch → Sketch → Type 0
EachStands f was is old new = Leads (of_each f) (was.locals.items ++ declared_each f) was is old new

abbrev pub SecondStands : Option Each → Scope → Scope → Sketch → Sketch → Type 0
SecondStands g was is old new = Leads (of_second g) (was.locals.items ++ declared_second g) was is old new

abbrev pub EachesStand : Each → Option Each → Scope → Scope → Sketch → Sketch → Type 0
EachesStand f g was is old new = Leads (of_eaches f g) (was.locals.items ++ declared_each f ++ declared_second g) was is old new

-- loops behind their first part; the locals that the body declares stay
abbrev pub TurnsStand : Option Tree → Option Tree → StmtTree → Scope → Scope → Sketch → Sketch → Type 0
TurnsStand t st b was is old new = Leads (of_turns t st b) was.locals.items was is old new

-- an expression before which locals are hidden, which stay
abbrev pub of_hidden : Tree → ℕ → Names → Form
of_hidden e seen ns a from to = Makes a.heritage (take seen ns) e a.code from to

abbrev pub Hidden : Tree → ℕ → Scope → Scope → Sketch → Sketch → Type 0
Hidden e seen was is old new = Leads (of_hidden e seen) was.locals.items was is old new

-- a `foreach` behind its beginning; its locals are still seen
abbrev pub OverStands : Each → Option Each → StmtTree → Scope → Scope → Sketch → Sketch → Type 0
OverStands f g b was is old new = Leads (of_over f g b) (was.locals.items ++ declared_each f ++ declared_second g ++ declared b) was is old new
