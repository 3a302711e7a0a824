-- Which locals become 0 before a statement.
use Rattle.std.specs.Prelude.{◌≡◌, ℕ, ◌+◌, List, [], map}
use Rattle.lp_tree.specs.declared.stmt.Declarator.{Declarator}
use Rattle.lp_tree.specs.Statements.{StmtTree}
use Rattle.lp_tree.specs.StatementView.{declarator_of}
use Rattle.lp_language.specs.Scope.{Names, declared, loose, loose_or_own, names_of, slots_from}
use Rattle.lp_isa.specs.Translates.{Clears}
use Rattle.lp_codegen_expr.specs.Names.{Plan}
use Rattle.lp_codegen_expr.specs.Drafts.{Sketch, Form, Adds}
use Rattle.lp_codegen_flow.specs.declared.clears.Which.{Which}
use Rattle.lp_codegen_flow.specs.declared.clears.Which.TheVariants as which

-- locals become 0
abbrev pub of_clears : List ℕ → Form
of_clears ks a from to = Clears a.code ks from to

-- the slots that become 0, where those of a statement are from n on
abbrev pub cleared_by : Which → StmtTree → ℕ → List ℕ
cleared_by which.Loose t n = loose t n
cleared_by which.Own t n = loose_or_own t n
cleared_by which.All t n = slots_from n (declared t)

-- those of a declaration
abbrev pub local_by : Which → Names → ℕ → List ℕ
local_by which.Loose ns n = []
local_by which.Own ns n = slots_from n ns
local_by which.All ns n = slots_from n ns

-- those of a body whose locals are not seen behind its loop
abbrev pub hidden_by : Which → StmtTree → ℕ → List ℕ
hidden_by which.Loose t n = loose t n
hidden_by which.Own t n = loose t n
hidden_by which.All t n = []

-- which of a part of an `if` or a loop
abbrev pub inside_of : Which → Which
inside_of which.Loose = which.Own
inside_of which.Own = which.Own
inside_of which.All = which.All

-- the names that are declared
abbrev pub names_in : List Declarator → Names
names_in ds = names_of (map declarator_of ds)

-- code was added by which locals become 0, and the slots go on behind some more locals
pub record Cleared (slots : List ℕ) (first count next : ℕ) (old new : Sketch) : Type 0 where
  pub code : (l : Plan) → Adds l (of_clears slots) old new
  pub place : next ≡ first + count
