-- The limits of the driver, and what a call of its own may cost.
use Rattle.std.specs.Prelude.{ℕ}

-- how many objects may be live
abbrev pub max_live : ℕ
max_live = 100000

-- how many connections may be open
abbrev pub max_connections : ℕ
max_connections = 200

-- how deep calls may lie in one another
abbrev pub max_depth : ℕ
max_depth = 100

-- how many loads for an `inherit` may lead to one, one after another
abbrev pub max_nested : ℕ
max_nested = 64

-- the budget of each call of the driver
abbrev pub full_budget : ℕ
full_budget = 1000000

-- what a load pays at its beginning
abbrev pub load_price : ℕ
load_price = 1000
