-- Connections and what waits for their lines, as lists.
use Rattle.std.specs.Prelude.{ℕ, List, nat_eq, if◌then◌else◌}
use Rattle.lp_values.specs.declared.id.ObjId.{ObjId}
use Rattle.lp_world.specs.declared.connections.Connection.{Connection}
use Rattle.lp_world.specs.declared.connections.Waiting.{Waiting}

-- the open connections, the highest number so far, the numbers that were connected and are not gone, and what waits
pub record Connecting : Type 0 where
  pub opened : List Connection
  pub highest : ℕ
  pub present : List ℕ
  pub waiting : List Waiting

-- a connection of a number goes to an object
abbrev pub given_to : ObjId → ℕ → Connection → Connection
given_to o k c = if nat_eq c.number k then record c { object = o } else c
