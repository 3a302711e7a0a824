-- What names mean in a function's text: locals by their slots, globals by their places, and whom a call calls.
use Rattle.std.specs.Prelude.{ℕ, suc, ◌+◌, List, [], ◌∷◌, ◌++◌, map, length, max, Option, Some, None, is_some, if◌then◌else◌}
use Rattle.std.specs.List.{list_any}
use Rattle.lp_tree.specs.declared.stmt.Each.{Each}
use Rattle.lp_tree.specs.Statements.{DeclaratorTree, InitTree, Nothing, DeclaresFirst, RunsFirst, StmtTree, Block, Declares, If, While, DoWhile, For, Foreach, Switch, StmtTrees, NoStmt, MoreStmts, ElseTree, NoElse, Else, PartTrees, NoPart, LabelPart, StmtPart}
use Rattle.lp_instr.specs.declared.efun.Efun.{Efun}
use Rattle.lp_instr.specs.EfunList.{is_name, efun_named}
use Rattle.lp_language.specs.Resolve.{Heritage, or_else, row, version_of, variable_in}

-- The locals that can be seen, by their slots from 0 up: parameters first. A later name hides an earlier one.
abbrev pub Names : Type 0
Names = List (List ℕ)

abbrev pub slot_from : ℕ → Names → List ℕ → Option ℕ
slot_from k [] w = None
slot_from k (n ∷ ns) w = or_else (slot_from (suc k) ns w) (if is_name n w then Some k else None)

abbrev pub slot_of : Names → List ℕ → Option ℕ
slot_of ns w = slot_from 0 ns w

-- what a name of a variable means: a local by its slot, a global by its place, or nothing
pub data Slot : Type 0 where
  OfLocal : (slot : ℕ) → Slot
  OfGlobal : (place : ℕ) → Slot
  OfNothing : Slot

abbrev pub as_global : Option ℕ → Slot
as_global None = OfNothing
as_global (Some k) = OfGlobal k

abbrev pub local_or : Option ℕ → Slot → Slot
local_or None other = other
local_or (Some k) other = OfLocal k

-- a local hides a global
abbrev pub slot : Heritage → Names → List ℕ → Slot
slot h ns w = local_or (slot_of ns w) (as_global (variable_in h w))

-- whom a call by a name calls: a function of the file or its parents, else a simul efun, else an efun
pub data Callee : Type 0 where
  AFunction : Callee
  ASimul : Callee
  AnEfun : Efun → Callee
  Nobody : Callee

abbrev pub as_efun : Option Efun → Callee
as_efun None = Nobody
as_efun (Some e) = AnEfun e

abbrev pub callee : Heritage → List ℕ → Callee
callee h w = if is_some (row h w) then AFunction else if list_any (is_name w) (version_of h).simuls then ASimul else as_efun (efun_named w)

-- Which locals a statement declares in the block round it, in order. What stands in a block, a `for`, a `foreach` or a
-- `switch` is not seen behind it.
abbrev pub names_of : List DeclaratorTree → Names
names_of ds = map (λ d. d.name) ds

abbrev mutual
  pub declared : StmtTree → Names
  declared (Declares line d) = names_of d.ones
  declared (If line e y n) = declared y ++ declared_else n
  declared (While line e b) = declared b
  declared (DoWhile line b e) = declared b
  declared _ = []

  pub declared_else : ElseTree → Names
  declared_else NoElse = []
  declared_else (Else n) = declared n

-- the locals that are seen behind a statement
abbrev pub behind : Names → StmtTree → Names
behind ns st = ns ++ declared st

-- the locals that a declaration in a `for` declares
abbrev pub declared_first : InitTree → Names
declared_first Nothing = []
declared_first (DeclaresFirst d) = names_of d.ones
declared_first (RunsFirst e) = []

-- a variable of a `foreach` is declared where it has a type
abbrev pub declared_each : Each → Names
declared_each e = if is_some e.type_name then e.name ∷ [] else []

abbrev pub declared_second : Option Each → Names
declared_second None = []
declared_second (Some e) = declared_each e

-- and else it is a variable that is there
abbrev pub slot_of_each : Heritage → Names → Each → Slot
slot_of_each h ns e = if is_some e.type_name then OfLocal (length ns) else slot h ns e.name

abbrev pub slots_of_second : Heritage → Names → Option Each → List Slot
slots_of_second h ns None = []
slots_of_second h ns (Some e) = slot_of_each h ns e ∷ []

abbrev pub slots_of_each : Heritage → Names → Each → Option Each → List Slot
slots_of_each h ns e second = slot_of_each h ns e ∷ slots_of_second h (ns ++ declared_each e) second

-- All locals that the parts of a `switch` declare.
abbrev pub declared_parts : PartTrees → Names
declared_parts NoPart = []
declared_parts (LabelPart k ps) = declared_parts ps
declared_parts (StmtPart st ps) = declared st ++ declared_parts ps

-- the slots of new names, from a slot on
abbrev pub slots_from : ℕ → Names → List ℕ
slots_from k [] = []
slots_from k (n ∷ ns) = k ∷ slots_from (suc k) ns

-- The slots, from n on, of locals that a statement declares and that can be seen where their declaration was passed
-- over: it stands in an `if` or a loop, and in no block there.
abbrev mutual
  pub loose : StmtTree → ℕ → List ℕ
  loose (If line e y x) n = loose_or_own y n ++ loose_else x (n + length (declared y))
  loose (While line e b) n = loose_or_own b n
  loose (DoWhile line b e) n = loose_or_own b n
  loose (For line i t st b) n = loose b (n + length (declared_first i))
  loose (Foreach line f st e b) n = loose b (n + length (declared_each f ++ declared_second st))
  loose _ n = []

  pub loose_or_own : StmtTree → ℕ → List ℕ
  loose_or_own (Declares line d) n = slots_from n (names_of d.ones)
  loose_or_own (If line e y x) n = loose_or_own y n ++ loose_else x (n + length (declared y))
  loose_or_own (While line e b) n = loose_or_own b n
  loose_or_own (DoWhile line b e) n = loose_or_own b n
  loose_or_own (For line i t st b) n = loose b (n + length (declared_first i))
  loose_or_own (Foreach line f st e b) n = loose b (n + length (declared_each f ++ declared_second st))
  loose_or_own _ n = []

  pub loose_else : ElseTree → ℕ → List ℕ
  loose_else NoElse n = []
  loose_else (Else st) n = loose_or_own st n

-- How many slots are in use at most, where n are in use at first.
abbrev mutual
  pub slots_in : StmtTree → ℕ → ℕ
  slots_in (Block line ss) n = slots_in_all ss n
  slots_in (Declares line d) n = n + length d.ones
  slots_in (If line e y x) n = max (slots_in y n) (slots_in_else x (n + length (declared y)))
  slots_in (While line e b) n = slots_in b n
  slots_in (DoWhile line b e) n = slots_in b n
  slots_in (For line i t st b) n = slots_in b (n + length (declared_first i))
  slots_in (Foreach line f st e b) n = slots_in b (n + length (declared_each f ++ declared_second st))
  slots_in (Switch line e ps) n = max (n + length (declared_parts ps)) (slots_in_parts ps n)
  slots_in _ n = n

  pub slots_in_all : StmtTrees → ℕ → ℕ
  slots_in_all NoStmt n = n
  slots_in_all (MoreStmts st ss) n = max (slots_in st n) (slots_in_all ss (n + length (declared st)))

  pub slots_in_else : ElseTree → ℕ → ℕ
  slots_in_else NoElse n = n
  slots_in_else (Else st) n = slots_in st n

  pub slots_in_parts : PartTrees → ℕ → ℕ
  slots_in_parts NoPart n = n
  slots_in_parts (LabelPart k ps) n = slots_in_parts ps n
  slots_in_parts (StmtPart st ps) n = max (slots_in st n) (slots_in_parts ps (n + length (declared st)))
