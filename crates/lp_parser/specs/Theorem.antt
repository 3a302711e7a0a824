-- What reading a unit promises.
use Rattle.std.specs.Prelude.{◌≡◌, ℕ, List, map, Result, Ok, Err}
use Rattle.lp_tree.specs.declared.token.Token.{Token}
use Rattle.lp_tree.specs.declared.seen.Seen.{Seen}
use Rattle.lp_tree.specs.declared.unit.Unit.{Unit as CodeUnit}
use Rattle.lp_tree.specs.Seen.{seen}
use Rattle.lp_tree.specs.Units.{ItemTree, SpellsUnit, IsUnexpected, IsTooNested, line_at}
use Rattle.lp_tree.specs.UnitView.{unit_of}
use Rattle.lp_parser_expr.specs.declared.fault.ParseFault.{ParseFault}
use Rattle.lp_parser_expr.specs.declared.fault.ParseFault.TheVariants.{NoMemory, Unexpected, TooNested}

-- tokens as the grammar sees them
abbrev pub sight : List Token → List Seen
sight ts = map seen ts

-- nothing of a unit lies deeper
abbrev pub deepest : ℕ
deepest = 200

-- a fault of some tokens
abbrev pub IsFault : List Token → ParseFault → Type 0
IsFault ts NoMemory = Unit {0}
IsFault ts (Unexpected line) = (at : ℕ) × IsUnexpected deepest (sight ts) at × (line ≡ line_at (sight ts) at)
IsFault ts (TooNested line) = (at : ℕ) × IsTooNested deepest (sight ts) at × (line ≡ line_at (sight ts) at)

-- the answer is this unit, unless memory ran out
abbrev pub IsUnlessMemory : List ItemTree → Result CodeUnit ParseFault → Type 0
IsUnlessMemory is (Ok u) = unit_of u ≡ is
IsUnlessMemory is (Err f) = f ≡ NoMemory

-- a list of tokens spells one unit at most
abbrev pub SpellsOne : Type 0
SpellsOne = (is js : List ItemTree) (ts : List Seen) → SpellsUnit is ts → SpellsUnit js ts → is ≡ js
