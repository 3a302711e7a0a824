-- What a read gives.
use Rattle.std.specs.Prelude.{ℕ, ◌<◌, ◌≤◌, ⊤}
use Rattle.lp_mio_wire.specs.declared.connection.Came.{Came}
use Rattle.lp_mio_wire.specs.declared.connection.Came.TheVariants.{Bytes, Nothing, End}

-- at least one byte, and no more than there is room for
abbrev pub IsWithin : Came → ℕ → Type 0
IsWithin (Bytes n) room = (0 < n) × (n ≤ room)
IsWithin Nothing room = ⊤
IsWithin End room = ⊤
