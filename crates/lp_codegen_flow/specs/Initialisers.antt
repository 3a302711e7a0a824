-- What it says that code under construction stands for the initialisers of variables.
use Rattle.std.specs.Prelude.{◌≡◌, ℕ, ◌+◌, List, [], Option, length, map}
use Rattle.lp_tree.specs.declared.keyword.Modifier.{Modifier}
use Rattle.lp_tree.specs.Trees.{Tree}
use Rattle.lp_tree.specs.Statements.{DeclaratorTree}
use Rattle.lp_instr.specs.declared.instr.Instr.TheVariants.{ReturnZero}
use Rattle.lp_language.specs.Resolve.{Variable}
use Rattle.lp_isa.specs.Translates.{MakesInitialiser, MakesInitialisers, One, Then}
use Rattle.lp_codegen_expr.specs.declared.scope.Scope.{Scope}
use Rattle.lp_codegen_expr.specs.Names.{layout_of}
use Rattle.lp_codegen_expr.specs.Drafts.{Sketch, Form, Adds}
use Rattle.lp_codegen_flow.specs.Functions.{AreDone}

-- the initialiser of the variable at a place, where it has one
abbrev pub of_initialiser : ℕ → Option Tree → Form
of_initialiser k e a from to = MakesInitialiser a.heritage k e a.code from to

-- those of some variables, of which the first is at a place
abbrev pub of_initialisers : ℕ → List Variable → Form
of_initialisers k vs a from to = MakesInitialisers a.heritage k vs a.code from to

-- the same as a function
abbrev pub of_init_fun : ℕ → List Variable → Form
of_init_fun k vs a from to = Then (MakesInitialisers a.heritage k vs a.code) (One a.code ReturnZero) from to

-- what is declared together, with its modifiers
abbrev pub variables_of : List Modifier → List DeclaratorTree → List Variable
variables_of ms ds = map (λ d. record { modifiers = ms; declared = d }) ds

-- Code of a form was added, where no local is seen.
abbrev pub AddsBare : Scope → Form → Sketch → Sketch → Type 0
AddsBare s F old new = s.locals.items ≡ [] → Adds (layout_of s.layout) F old new

-- Code of the initialisers of variables was added, of which the first is at a place, and the places go on behind them.
pub record Initialises (vs : List Variable) (first next : ℕ) (s : Scope) (old new : Sketch) : Type 0 where
  pub code : AddsBare s (of_initialisers first vs) old new
  pub place : next ≡ first + length vs

-- The same as a function, in which no jump is open.
pub record InitialisersStand (vs : List Variable) (first : ℕ) (s : Scope) (old new : Sketch) : Type 0 where
  pub code : AddsBare s (of_init_fun first vs) old new
  pub done : AreDone new.code (length old.code)
