-- What it says that code under construction stands for a switch and its parts.
use Rattle.std.specs.Prelude.{◌≡◌, ℕ, ⊤, ◌++◌, List, [], ◌∷◌, Option, Some, None, is_some, length, slice_get}
use Rattle.lp_tree.specs.declared.stmt.Part.{Part}
use Rattle.lp_tree.specs.declared.stmt.Part.TheVariants as parts
use Rattle.lp_tree.specs.declared.stmt.Stmt.{Stmt}
use Rattle.lp_tree.specs.Pieces.{parts_of}
use Rattle.lp_tree.specs.Statements.{PartTrees}
use Rattle.lp_tree.specs.StatementView.{stmt_of}
use Rattle.lp_instr.specs.declared.instr.Case.{Case}
use Rattle.lp_instr.specs.declared.instr.Instr.TheVariants.{Switch}
use Rattle.lp_instr.specs.Code.{Table}
use Rattle.lp_language.specs.Exec.{first_label, is_default}
use Rattle.lp_language.specs.Scope.{Names, behind, declared}
use Rattle.lp_isa.specs.Translates.{MakesParts, One, OtherIs, Then}
use Rattle.lp_codegen_expr.specs.declared.scope.Scope.{Scope}
use Rattle.lp_codegen_expr.specs.Names.{layout_of}
use Rattle.lp_codegen_expr.specs.Drafts.{Sketch, Form, Adds}
use Rattle.lp_codegen_flow.specs.declared.labels.Labels.{Labels}

-- the place where no label fits: that of `default`, or else the end
abbrev pub or_end : Option ℕ → ℕ → ℕ
or_end None end = end
or_end (Some place) end = place

abbrev pub row_of : Labels → ℕ → Table
row_of ks end = record { cases = ks.cases.items; other = or_end ks.other end }

-- a row has this number, and nothing else changes
pub record HasSwitch (k : ℕ) (row : Table) (old new : Sketch) : Type 0 where
  pub code : new.code ≡ old.code
  pub texts : new.texts ≡ old.texts
  pub switches : new.switches ≡ old.switches ++ row ∷ []
  pub number : k ≡ length old.switches

-- a place may be that where no label fits
abbrev pub OtherFits : Option ℕ → ℕ → Type 0
OtherFits None other = ⊤
OtherFits (Some place) other = other ≡ place

-- the locals that are seen behind a part, and behind some
abbrev pub behind_part : Names → Part Stmt → Names
behind_part ns (parts.Label k) = ns
behind_part ns (parts.Stmt s) = behind ns (stmt_of s)

abbrev pub behind_parts : Names → List (Part Stmt) → Names
behind_parts ns [] = ns
behind_parts ns (p ∷ ps) = behind_parts (behind_part ns p) ps

-- the locals that a part declares
abbrev pub declared_part : Part Stmt → Names
declared_part (parts.Label k) = []
declared_part (parts.Stmt s) = declared (stmt_of s)

-- the parts of a switch, with the labels that stand in its row
abbrev pub of_parts : List (Part Stmt) → List Case → Option ℕ → Names → Form
of_parts ps ks o ns a from to =
    (other : ℕ) → OtherFits o other → MakesParts a.heritage ns (parts_of ps) ks other a.out (Some a.again) a.code from to

-- a switch behind its value
abbrev pub of_table : PartTrees → Names → Form
of_table ps ns a from to =
    (k : ℕ) × (table : Table) × (slice_get a.code.switches k ≡ Some table) × OtherIs (first_label is_default ps) table.other to
    × Then (One a.code (Switch k)) (MakesParts a.heritage ns ps table.cases table.other to (Some a.again) a.code) from to

-- Code of a part was added behind that of others, with its label where it is one.
pub record PartStands (p : Part Stmt) (lo ln : Labels) (was is : Scope) (old new : Sketch) : Type 0 where
  pub code : (ps : List (Part Stmt)) (ns : Names) (start : Sketch) → was.locals.items ≡ behind_parts ns ps
      → Adds (layout_of was.layout) (of_parts ps lo.cases.items lo.other ns) start old
      → Adds (layout_of was.layout) (of_parts (ps ++ p ∷ []) ln.cases.items ln.other ns) start new
  pub default : (ps : List (Part Stmt)) → is_some lo.other ≡ is_some (first_label is_default (parts_of ps))
      → is_some ln.other ≡ is_some (first_label is_default (parts_of (ps ++ p ∷ [])))
  pub layout : is.layout ≡ was.layout
  pub names : is.locals.items ≡ behind_part was.locals.items p

-- Code of parts was added, with their labels.
pub record PartsStand (ps : List (Part Stmt)) (ks : Labels) (was is : Scope) (old new : Sketch) : Type 0 where
  pub code : Adds (layout_of was.layout) (of_parts ps ks.cases.items ks.other was.locals.items) old new
  pub default : is_some ks.other ≡ is_some (first_label is_default (parts_of ps))
  pub layout : is.layout ≡ was.layout
  pub names : is.locals.items ≡ behind_parts was.locals.items ps

-- a switch behind its value stands, with all locals of its parts seen
pub record TableStands (ps : List (Part Stmt)) (was is : Scope) (old new : Sketch) : Type 0 where
  pub code : Adds (layout_of was.layout) (of_table (parts_of ps) was.locals.items) old new
  pub layout : is.layout ≡ was.layout
  pub names : is.locals.items ≡ behind_parts was.locals.items ps
