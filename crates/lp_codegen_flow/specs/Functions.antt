-- What it says that code under construction stands for a function.
use Rattle.std.specs.Prelude.{◌≡◌, ℕ, ⊤, ◌≤◌, ◌<◌, List, Option, Some, None, length, slice_get}
use Rattle.lp_tree.specs.Statements.{StmtTrees}
use Rattle.lp_instr.specs.declared.instr.Instr.TheVariants.{ReturnZero}
use Rattle.lp_language.specs.Scope.{Names}
use Rattle.lp_isa.specs.Translates.{MakesStmts, One, Then}
use Rattle.lp_codegen_expr.specs.declared.code.Draft.{Draft}
use Rattle.lp_codegen_expr.specs.declared.code.Draft.TheVariants as drafts
use Rattle.lp_codegen_expr.specs.declared.scope.Scope.{Scope}
use Rattle.lp_codegen_expr.specs.Names.{layout_of}
use Rattle.lp_codegen_expr.specs.Drafts.{Sketch, Form, Adds}

-- an instruction, and no open jump
abbrev pub IsDone : Option Draft → Type 0
IsDone None = ⊥
IsDone (Some (drafts.Done i)) = ⊤
IsDone (Some drafts.Break) = ⊥
IsDone (Some drafts.Continue) = ⊥

-- from a place on, no jump is open
abbrev pub AreDone : List Draft → ℕ → Type 0
AreDone ds from = (p : ℕ) → from ≤ p → p < length ds → IsDone (slice_get ds p)

-- statements that no break and no continue leaves
abbrev pub of_body : StmtTrees → Names → Form
of_body ss ns a from to = MakesStmts a.heritage ns ss None None a.code from to

-- a function's code, with the names of its parameters
abbrev pub of_fun : StmtTrees → Names → Form
of_fun ss ns a from to = Then (MakesStmts a.heritage ns ss None None a.code) (One a.code ReturnZero) from to

-- Code of a function was added, in which no jump is open. The locals are again those that stood there.
pub record FunStands (ss : StmtTrees) (was is : Scope) (old new : Sketch) : Type 0 where
  pub code : Adds (layout_of was.layout) (of_fun ss was.locals.items) old new
  pub done : AreDone new.code (length old.code)
  pub layout : is.layout ≡ was.layout
  pub names : is.locals.items ≡ was.locals.items
