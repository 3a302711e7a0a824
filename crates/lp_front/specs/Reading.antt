-- What a file declares, or its first fault: that of its expansion, or else that of the unit that its tokens should spell.
use Rattle.std.specs.Prelude.{◌≡◌, ◌≤◌, ℕ, List, ⊤}
use Rattle.lp_files.specs.declared.store.Store.{Store}
use Rattle.lp_tree.specs.declared.fault.Fault.{Fault}
use Rattle.lp_tree.specs.declared.fault.FaultKind.{FaultKind}
use Rattle.lp_tree.specs.declared.fault.FaultKind.TheVariants as kinds
use Rattle.lp_tree.specs.declared.pragma.Pragmas.{Pragmas}
use Rattle.lp_tree.specs.declared.token.Token.{Token}
use Rattle.lp_tree.specs.Units.{ItemTree, SpellsUnit, IsUnexpected, IsTooNested, line_at, unit_height}
use Rattle.lp_tree.specs.UnitView.{unit_of}
use Rattle.lp_preproc.specs.Expansion.{IsExpansion, IsFirstFault, setting}
use Rattle.lp_preproc.specs.declared.fault.PreFault.{PreFault}
use Rattle.lp_preproc.specs.declared.fault.PreFault.TheVariants as pre
use Rattle.lp_parser_expr.specs.declared.fault.ParseFault.{ParseFault}
use Rattle.lp_parser_expr.specs.declared.fault.ParseFault.TheVariants as parse
use Rattle.lp_parser.specs.Theorem.{sight, deepest}
use Rattle.lp_front.specs.declared.read.Declared.{Declared}
use Rattle.lp_front.specs.declared.read.ReadFault.{ReadFault}
use Rattle.lp_front.specs.declared.read.ReadFault.TheVariants.{At, NoMemory}

-- The tokens spell no unit: at the first token with which none goes on, or up to which each that begins so has something too deep.
abbrev pub IsUnitFault : List Token → FaultKind → ℕ → Type 0
IsUnitFault ts kinds.Unexpected line = (at : ℕ) × IsUnexpected deepest (sight ts) at × (line ≡ line_at (sight ts) at)
IsUnitFault ts kinds.TooNested line = (at : ℕ) × IsTooNested deepest (sight ts) at × (line ≡ line_at (sight ts) at)
IsUnitFault ts kind line = ⊥

-- The file expands to tokens that spell these items, nothing in them too deep.
pub record Declares (files : Store) (path : List ℕ) (items : List ItemTree) (pragmas : Pragmas) : Type 0 where
  pub tokens : List Token
  pub expands : IsExpansion (setting files path) tokens pragmas
  pub spelled : SpellsUnit items (sight tokens)
  pub shallow : unit_height items ≤ deepest

-- A file's first fault. It is named by the file that is compiled.
pub data HasFault (files : Store) (path : List ℕ) : Fault → Type 0 where
  expansion : {fault : Fault} → fault.file ≡ path → IsFirstFault (setting files path) fault.kind fault.line → HasFault files path fault
  unit : {fault : Fault} {ts : List Token} {p : Pragmas} → fault.file ≡ path → IsExpansion (setting files path) ts p → IsUnitFault ts fault.kind fault.line → HasFault files path fault

-- what was read, without where it lies in memory
abbrev pub items_of : Declared → List ItemTree
items_of d = unit_of d.unit

-- what was read of a file
abbrev pub IsOf : Store → List ℕ → Declared → Type 0
IsOf files path d = Declares files path (items_of d) d.pragmas

-- why nothing was read: this fault, or there was no memory
abbrev pub IsWhy : Store → List ℕ → ReadFault → Type 0
IsWhy files path (At fault) = HasFault files path fault
IsWhy files path NoMemory = ⊤

-- this kind at this line of the file is told, unless memory ran out
abbrev pub IsNamed : List ℕ → ℕ → FaultKind → ReadFault → Type 0
IsNamed path line kind NoMemory = ⊤
IsNamed path line kind (At fault) = (fault.file ≡ path) × (fault.line ≡ line) × (fault.kind ≡ kind)

-- a fault of the tokens, named by the file
abbrev pub IsUnitNamed : List ℕ → ParseFault → ReadFault → Type 0
IsUnitNamed path parse.NoMemory told = told ≡ NoMemory
IsUnitNamed path (parse.Unexpected line) told = IsNamed path line kinds.Unexpected told
IsUnitNamed path (parse.TooNested line) told = IsNamed path line kinds.TooNested told

-- what is told of a file that has no expansion
abbrev pub IsToldOf : PreFault → ReadFault → Type 0
IsToldOf (pre.At fault) told = told ≡ At fault
IsToldOf pre.NoMemory told = told ≡ NoMemory
