-- What it says that code under construction stands for a tree.
use Rattle.std.specs.Prelude.{◌≡◌, ℕ, ◌≤◌, ◌<◌, Bool, true, false, Box, List, [], ◌∷◌, ◌++◌, Option, Some, None, length, map, slice_get, slice_set}
use Rattle.lp_tree.specs.declared.expr.Expr.{Expr}
use Rattle.std.specs.declared.alloc.Global.{Global}
use Rattle.lp_tree.specs.declared.expr.Bound.{Bound}
use Rattle.lp_tree.specs.declared.operator.AssignOp.{AssignOp}
use Rattle.lp_tree.specs.declared.operator.AssignOp.TheVariants as sets
use Rattle.lp_tree.specs.declared.operator.BinOp.TheVariants as ops
use Rattle.lp_tree.specs.Trees.{Tree, trees, pairs, Name, Index as IndexTree}
use Rattle.lp_tree.specs.TreeView.{tree_of}
use Rattle.lp_tree.specs.Pieces.{end_tree, pair_of}
use Rattle.lp_instr.specs.declared.instr.Instr.{Instr}
use Rattle.lp_instr.specs.declared.instr.Instr.TheVariants.{Dup2, Index, SetIndex, Jump, JumpIfZero, KeepIfZero, KeepIfNotZero, Pop, Switch}
use Rattle.lp_language.specs.Resolve.{Heritage}
use Rattle.lp_instr.specs.EfunList.{efun_named}
use Rattle.lp_language.specs.Scope.{Names, slot, callee, as_efun}
use Rattle.lp_instr.specs.Code.{Code, Table}
use Rattle.lp_code.specs.Programs.{table_of}
use Rattle.lp_isa.specs.Translates.{Piece, Then, Line, One, Nothing, Never, Pushes, Reads, Writes, Calls, CallsParent, Makes, MakesAll, MakesPairs, MakesFirst, MakesWrite, MakesChange, MakesEnd, MakesScanned}
use Rattle.lp_codegen_expr.specs.Found.{IsNumbered}
use Rattle.lp_codegen_expr.specs.Names.{Plan, Lays}
use Rattle.lp_codegen_expr.specs.declared.code.Draft.{Draft}
use Rattle.lp_codegen_expr.specs.declared.code.Draft.TheVariants.{Done, Break, Continue}
use Rattle.lp_codegen_expr.specs.declared.kinds.AssignKind.{AssignKind}
use Rattle.lp_codegen_expr.specs.declared.kinds.AssignKind.TheVariants as assigns
use Rattle.lp_codegen_expr.specs.declared.code.Code.{Code as Built}

-- a program under construction
pub record Sketch : Type 0 where
  pub code : List Draft
  pub texts : List (List ℕ)
  pub switches : List Table

-- the instructions, with jumps whose place is not known yet, the texts and the switches
abbrev pub draft_of : Built → Sketch
draft_of b = record { code = b.instrs.items; texts = b.texts; switches = map table_of b.switches.items }

-- more instructions at the end
abbrev pub grown : Sketch → List Draft → Sketch
grown d more = record d { code = d.code ++ more }

-- another instruction at a place
abbrev pub filled : Sketch → ℕ → Draft → Sketch
filled d at x = record d { code = slice_set d.code at x }

-- a text has this number, and nothing else changes
pub record HasText (k : ℕ) (t : List ℕ) (old new : Sketch) : Type 0 where
  pub code : new.code ≡ old.code
  pub switches : new.switches ≡ old.switches
  pub texts : IsNumbered k t old.texts new.texts

-- Where code stands: the inheritance tree of its version, where breaks and continues lead, and the finished code.
pub record Around : Type 0 where
  pub heritage : Heritage
  pub out : ℕ
  pub again : ℕ
  pub code : Code

-- the instruction, where a break leads to out and a continue to again
abbrev pub resolve : ℕ → ℕ → Draft → Instr
resolve out again (Done i) = i
resolve out again Break = Jump out
resolve out again Continue = Jump again

abbrev pub resolved : ℕ → ℕ → Option Draft → Option Instr
resolved out again None = None
resolved out again (Some d) = Some (resolve out again d)

-- Finished code has the names of a layout, the instructions of a sketch from one place up to another, all its texts and all its switches.
pub record Has (l : Plan) (d : Sketch) (a : Around) (from to : ℕ) : Type 0 where
  pub lays : Lays l a.heritage a.code
  pub instrs : (p : ℕ) → from ≤ p → p < to → slice_get a.code.instrs p ≡ resolved a.out a.again (slice_get d.code p)
  pub texts : (k : ℕ) → k < length d.texts → slice_get a.code.texts k ≡ slice_get d.texts k
  pub switches : (k : ℕ) → k < length d.switches → slice_get a.code.switches k ≡ slice_get d.switches k

-- what some code is to be
abbrev pub Form : Type 1
Form = Around → Piece

-- from one place on, an instruction names a switch
pub record NamesSwitch (code : List Draft) (from k : ℕ) : Type 0 where
  pub place : ℕ
  pub behind : from ≤ place
  pub there : slice_get code place ≡ Some (Done (Switch k))

-- Code of a form was added: it stands in every code that has what was added there. Each row of the list of switches that was
-- added is named by an instruction that was.
pub record Adds (l : Plan) (F : Form) (old new : Sketch) : Type 0 where
  pub longer : length old.code ≤ length new.code
  pub same : (p : ℕ) → p < length old.code → slice_get new.code p ≡ slice_get old.code p
  pub more_texts : length old.texts ≤ length new.texts
  pub texts : (k : ℕ) → k < length old.texts → slice_get new.texts k ≡ slice_get old.texts k
  pub more_switches : length old.switches ≤ length new.switches
  pub switches : (k : ℕ) → k < length old.switches → slice_get new.switches k ≡ slice_get old.switches k
  pub named : (k : ℕ) → length old.switches ≤ k → k < length new.switches → NamesSwitch new.code (length old.code) k
  pub makes : (a : Around) → Has l new a (length old.code) (length new.code) → F a (length old.code) (length new.code)

-- just these instructions
abbrev pub line : List Instr → Form
line is a from to = Line a.code is from to

-- first this, then that
abbrev pub after : Form → Form → Form
after F G a from to = Then (F a) (G a) from to

-- Which form each generator adds: the piece of the translation that it is for, where code stands so.
abbrev pub of_expr : Names → Expr → Form
of_expr ns e a from to = Makes a.heritage ns (tree_of e) a.code from to

-- some expressions, one after another
abbrev pub of_all : Names → List Expr → Form
of_all ns es a from to = MakesAll a.heritage ns (trees (map tree_of es)) a.code from to

abbrev pub of_pushes : List ℕ → Form
of_pushes t a from to = Pushes a.code t from to

abbrev pub of_read : Names → List ℕ → Form
of_read ns w a from to = Reads a.code (slot a.heritage ns w) from to

abbrev pub of_write_slot : Names → List ℕ → Form
of_write_slot ns w a from to = Writes a.code (slot a.heritage ns w) from to

abbrev pub of_call : List ℕ → ℕ → Form
of_call w n a from to = Calls a.code (callee a.heritage w) w n from to

abbrev pub of_efun_call : List ℕ → ℕ → Form
of_efun_call w n a from to = Calls a.code (as_efun (efun_named w)) w n from to

abbrev pub of_parent_call : Option ℕ → List ℕ → ℕ → Form
of_parent_call parent w n a from to = CallsParent a.code parent w n from to

abbrev pub of_write : Names → Expr → Form
of_write ns e a from to = MakesWrite a.heritage ns (tree_of e) a.code from to

abbrev pub of_change : Names → Expr → List Instr → List Instr → List Instr → List Instr → Form
of_change ns e alters ends alters_item ends_item a from to =
    MakesChange a.heritage ns (tree_of e) a.code (Line a.code alters) (Line a.code ends) (Line a.code alters_item) (Line a.code ends_item) from to

-- the jump over the right side of `&&` or `||`
abbrev pub keeps : Bool → ℕ → Instr
keeps true to = KeepIfZero to
keeps false to = KeepIfNotZero to

abbrev pub of_right : Names → Expr → Bool → Form
of_right ns e is_and a from to = Then (One a.code (keeps is_and to)) (Makes a.heritage ns (tree_of e) a.code) from to

-- a place is read, and the container and the index of an item stay below
abbrev pub Opens : Heritage → Names → Tree → Code → Piece
Opens h ns (Name line w) code = Reads code (slot h ns w)
Opens h ns (IndexTree line e edge i) code = Then (Makes h ns e code) (Then (Makes h ns i code) (Line code (Dup2 ∷ Index edge ∷ [])))
Opens h ns _ code = Never

-- what is on top is written to the place that was read so
abbrev pub Closes : Heritage → Names → Tree → Code → Piece
Closes h ns (Name line w) code = Writes code (slot h ns w)
Closes h ns (IndexTree line e edge i) code = One code (SetIndex edge)
Closes h ns _ code = Never

abbrev pub of_open : Names → Expr → Form
of_open ns e a from to = Opens a.heritage ns (tree_of e) a.code from to

abbrev pub of_close : Names → Expr → Form
of_close ns e a from to = Closes a.heritage ns (tree_of e) a.code from to

-- `&&=` and `||=`: the right side between reading and writing the place, where it is needed
abbrev pub of_logic : Names → Expr → Expr → Bool → Form
of_logic ns place e is_and a from to =
    MakesChange a.heritage ns (tree_of place) a.code (of_right ns e is_and a) Nothing (of_right ns e is_and a) Nothing from to

abbrev pub of_pairs : Names → List (Expr × Expr) → Form
of_pairs ns ps a from to = MakesPairs a.heritage ns (pairs (map pair_of ps)) a.code from to

-- a part of a sequence, of which each but the first drops the value before
abbrev pub of_part : Names → Bool → Expr → Form
of_part ns true e = of_expr ns e
of_part ns false e = after (line (Pop ∷ [])) (of_expr ns e)

-- the first parts of a sequence, if any
abbrev pub of_parts : Names → List Expr → Form
of_parts ns [] a from to = Nothing from to
of_parts ns (e ∷ es) a from to = MakesFirst a.heritage ns (trees (map tree_of (e ∷ es))) a.code from to

-- what an assignment does
abbrev pub kind_of : AssignOp → AssignKind
kind_of sets.Set = assigns.Set
kind_of sets.Add = assigns.Compound ops.Add
kind_of sets.Sub = assigns.Compound ops.Sub
kind_of sets.Mul = assigns.Compound ops.Mul
kind_of sets.Div = assigns.Compound ops.Div
kind_of sets.Rem = assigns.Compound ops.Rem
kind_of sets.And = assigns.Compound ops.And
kind_of sets.Or = assigns.Compound ops.Or
kind_of sets.Xor = assigns.Compound ops.Xor
kind_of sets.Shl = assigns.Compound ops.Shl
kind_of sets.Shr = assigns.Compound ops.Shr
kind_of sets.AndThen = assigns.Logic true
kind_of sets.OrElse = assigns.Logic false

abbrev pub of_end : Names → Bound (Box Expr Global) → Form
of_end ns e a from to = MakesEnd a.heritage ns (end_tree e) a.code from to

abbrev pub of_scanned_one : Names → Expr → Form
of_scanned_one ns e a from to =
    (skip : ℕ) × Then (One a.code (JumpIfZero skip)) (MakesWrite a.heritage ns (tree_of e) a.code) from skip × One a.code Pop skip to

abbrev pub of_scanned : Names → List Expr → Form
of_scanned ns es a from to = MakesScanned a.heritage ns (trees (map tree_of es)) a.code from to
