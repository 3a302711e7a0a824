-- Why no wire could be made.
use Rattle.std.specs.Prelude.{◌≡◌, ℕ, ◌⊎◌, ⊤}
use Rattle.lp_mio_wire.specs.declared.wire.ListenFault.{ListenFault}
use Rattle.lp_mio_wire.specs.declared.wire.ListenFault.TheVariants as faults

-- a port that is named is one of those: the players', the operator's, and the one of WebSockets, or 0 where there is none
abbrev pub Names : ℕ → ℕ → ℕ → ListenFault → Type 0
Names port control ws (faults.Port named kind) = (named ≡ port) ⊎ (named ≡ control) ⊎ (named ≡ ws)
Names port control ws (faults.System kind) = ⊤
Names port control ws faults.NoMemory = ⊤
