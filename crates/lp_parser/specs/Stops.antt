-- Where the machine of units stops.
use Rattle.std.specs.Prelude.{◌≡◌, ℕ, ◌+◌, ◌≤◌, ◌<◌, ◌⊎◌, List, length, map, take, Some, None, Result, Ok, Err}
use Rattle.lp_tree.specs.declared.token.Token.{Token}
use Rattle.lp_tree.specs.declared.unit.Item.{Item}
use Rattle.lp_tree.specs.UnitView.{item_of}
use Rattle.lp_parser_expr.specs.declared.fault.Stop.{Stop}
use Rattle.lp_parser_expr.specs.declared.fault.Stop.TheVariants.{NoMemory, Unexpected, TooNested}
use Rattle.std.specs.Prelude.{Vec}
use Rattle.std.specs.declared.alloc.Global.{Global}
use Rattle.lp_parser.specs.Machine.{State, start, finished, walk}
use Rattle.lp_parser.specs.Depth.{least}
use Rattle.lp_parser.specs.Theorem.{sight}

-- the machine goes up to here within the limit
pub record Stands (limit : ℕ) (ts : List Token) (n : ℕ) (st : State) : Type 0 where
  pub within : n ≤ length ts
  pub walked : walk start (sight (take n ts)) ≡ Some st
  pub shallow : least st ≤ limit

-- a token is refused here, or the tokens end before a unit does
abbrev pub IsStuck : List Token → ℕ → State → Type 0
IsStuck ts n st = ((n < length ts) × (walk start (sight (take (n + 1) ts)) ≡ None)) ⊎ ((n ≡ length ts) × (finished st ≡ None))

-- why the machine stopped: at the end, at a token refused, or at a token that leads too deep
abbrev pub Stops : ℕ → List Token → Result (Vec Item Global) Stop → Type 0
Stops limit ts (Ok v) = (st : State) × Stands limit ts (length ts) st × (finished st ≡ Some (map item_of v.items))
Stops limit ts (Err NoMemory) = Unit {0}
Stops limit ts (Err (Unexpected at)) = (st : State) × Stands limit ts at st × IsStuck ts at st
Stops limit ts (Err (TooNested at)) = (st next : State) × Stands limit ts at st × (at < length ts) × (walk start (sight (take (at + 1) ts)) ≡ Some next) × (limit < least next)
