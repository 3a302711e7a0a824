-- What reading an expression promises.
use Rattle.std.specs.Prelude.{◌≡◌, ℕ, ◌+◌, ◌-◌, ◌≤◌, ◌<◌, List, [], ◌∷◌, ◌++◌, length, take, drop, map, Bool, true, false, Option, Some, None, Result, Ok, Err, slice_get}
use Rattle.lp_tree.specs.declared.token.Token.{Token}
use Rattle.lp_tree.specs.declared.seen.Seen.{Seen}
use Rattle.lp_tree.specs.declared.expr.Expr.{Expr}
use Rattle.lp_tree.specs.Seen.{seen}
use Rattle.lp_tree.specs.Trees.{Tree, rank, height}
use Rattle.lp_tree.specs.TreeView.{tree_of}
use Rattle.lp_tree.specs.Expressions.{Spells}
use Rattle.lp_parser_expr.specs.declared.fault.ParseFault.{ParseFault}
use Rattle.lp_parser_expr.specs.declared.fault.ParseFault.TheVariants.{NoMemory, Unexpected, TooNested}
use Rattle.lp_parser_expr.specs.declared.fault.Stop.{Stop}
use Rattle.lp_parser_expr.specs.declared.fault.Stop.TheVariants as stop
use Rattle.lp_parser_expr.specs.declared.tall.Tall.{Tall}
use Rattle.lp_parser_expr.specs.Machine.{State, Need, Alone, walk, run, finished}
use Rattle.lp_parser_expr.specs.Depth.{least}

-- tokens as the grammar sees them
abbrev pub sight : List Token → List Seen
sight ts = map seen ts

-- the tokens begin an expression
abbrev pub Begins : List Token → Type 0
Begins front = (others : List Seen) × (t : Tree) × Spells t (sight front ++ others) []

-- they begin one with no more levels than the limit
abbrev pub BeginsWithin : ℕ → List Token → Type 0
BeginsWithin limit front = (others : List Seen) × (t : Tree) × Spells t (sight front ++ others) [] × (height t ≤ limit)

-- the first n tokens spell the tree, and no expression begins with them and the one behind them
pub record IsRead (limit : ℕ) (ts : List Token) (n : ℕ) (t : Tree) : Type 0 where
  pub within : n ≤ length ts
  pub spelled : Spells t (sight (take n ts)) []
  pub shallow : height t ≤ limit
  pub longest : n < length ts → Begins (take (n + 1) ts) → ⊥

-- the first token with which no expression goes on, or the end, where what stands before is no whole expression
pub record IsUnexpected (limit : ℕ) (ts : List Token) (at : ℕ) : Type 0 where
  pub within : at ≤ length ts
  pub before : 0 < at → BeginsWithin limit (take at ts)
  pub not_so : at < length ts → Begins (take (at + 1) ts) → ⊥
  pub not_whole : (t : Tree) → Spells t (sight (take at ts)) [] → ⊥

-- the first token up to which each expression that begins so is too deep
pub record IsTooNested (limit : ℕ) (ts : List Token) (at : ℕ) : Type 0 where
  pub within : at < length ts
  pub before : 0 < at → BeginsWithin limit (take at ts)
  pub so : Begins (take (at + 1) ts)
  pub not_within : BeginsWithin limit (take (at + 1) ts) → ⊥

-- an expression at this depth may have so many levels: nothing lies deeper than 200
abbrev pub levels_at : ℕ → ℕ
levels_at depth = 201 - depth

abbrev pub line_in : Option Token → ℕ
line_in None = 0
line_in (Some t) = t.line

-- the line of the last token, or 0 where there is none
abbrev pub last_line : List Token → ℕ
last_line ts = line_in (slice_get ts (length ts - 1))

abbrev pub line_or : Option Token → ℕ → ℕ
line_or None l = l
line_or (Some t) l = t.line

-- the line of the token at a place, or of the last token of all where the place is behind the last
abbrev pub line_of_place : List Token → List Token → ℕ → ℕ
line_of_place all ts at = line_or (slice_get ts at) (last_line all)

-- a fault of reading from a place, for an expression of this depth
abbrev pub IsFault : List Token → ℕ → ℕ → ParseFault → Type 0
IsFault all from depth NoMemory = Unit {0}
IsFault all from depth (Unexpected line) = (at : ℕ) × IsUnexpected (levels_at depth) (drop from all) at × (line ≡ line_of_place all (drop from all) at)
IsFault all from depth (TooNested line) = (at : ℕ) × IsTooNested (levels_at depth) (drop from all) at × (line ≡ line_of_place all (drop from all) at)

-- the answer is this tree, unless memory ran out
abbrev pub IsUnlessMemory : Tree → ℕ → Result (Expr × ℕ) ParseFault → Type 0
IsUnlessMemory t to (Ok r) = (tree_of r.0 ≡ t) × (r.1 ≡ to)
IsUnlessMemory t to (Err f) = f ≡ NoMemory

-- the machine goes up to here within the limit
pub record Stands (limit : ℕ) (ts : List Token) (n : ℕ) (st : State) : Type 0 where
  pub within : n ≤ length ts
  pub walked : walk (Need []) (sight (take n ts)) ≡ Some st
  pub shallow : 0 < n → least st ≤ limit

-- and no further
abbrev pub IsStuck : List Token → ℕ → Type 0
IsStuck ts n = n < length ts → walk (Need []) (sight (take (n + 1) ts)) ≡ None

-- why the machine stopped: at an end, a token refused, or a token that leads too deep
abbrev pub Stops : ℕ → List Token → Result (Tall × ℕ) Stop → Type 0
Stops limit ts (Ok r) = (st : State) × Stands limit ts r.1 st × IsStuck ts r.1 × (finished st ≡ Some (tree_of r.0.expr.value))
Stops limit ts (Err stop.NoMemory) = Unit {0}
Stops limit ts (Err (stop.Unexpected at)) = (st : State) × Stands limit ts at st × IsStuck ts at × (finished st ≡ None)
Stops limit ts (Err (stop.TooNested at)) = (st next : State) × Stands limit ts at st × (at < length ts) × (walk (Need []) (sight (take (at + 1) ts)) ≡ Some next) × (limit < least next)

-- where the machine starts: an expression, or an assign that ends by what stands round it
abbrev pub start : Bool → State
start false = Need []
start true = Need (Alone ∷ [])

-- the least level of what it reads then
abbrev pub floor : Bool → ℕ
floor false = 0
floor true = 2

-- The machine reads exactly what is spelled, and each front of it can be ended as shallow as it says.
pub record ReadsExactly : Type 0 where
  pub read : (alone : Bool) (t : Tree) (ts : List Seen) → run (start alone) ts ≡ Some t → Spells t ts [] × (floor alone ≤ rank t)
  pub spelled : (alone : Bool) (t : Tree) (ts : List Seen) → Spells t ts [] → floor alone ≤ rank t → run (start alone) ts ≡ Some t
  pub begun : (alone : Bool) (front : List Seen) (st : State) → walk (start alone) front ≡ Some st
      → (others : List Seen) × (t : Tree) × Spells t (front ++ others) [] × (floor alone ≤ rank t) × (height t ≤ least st)
  pub refused : (alone : Bool) (front others : List Seen) (t : Tree) → walk (start alone) front ≡ None → Spells t (front ++ others) [] → floor alone ≤ rank t → ⊥
  pub deep : (alone : Bool) (front others : List Seen) (t : Tree) (st : State) → walk (start alone) front ≡ Some st → Spells t (front ++ others) [] → floor alone ≤ rank t → least st ≤ height t
  pub whole : (st : State) (t : Tree) → finished st ≡ Some t → height t ≡ least st

-- a list of tokens spells one tree at most
abbrev pub SpellsOne : Type 0
SpellsOne = (t u : Tree) (ts : List Seen) → Spells t ts [] → Spells u ts [] → t ≡ u
