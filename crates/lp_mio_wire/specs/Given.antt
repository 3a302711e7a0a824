-- What a poll of sockets gives, by numbers that the wire keeps.
use Rattle.std.specs.Prelude.{◌≡◌, ℕ, ◌+◌, ◌<◌, ◌≤◌, ◌^◌, ◌⊎◌, ⊤, length, Option, Some, None}
use Rattle.lp_wire.specs.declared.happening.Happening.{Happening}
use Rattle.lp_wire.specs.declared.happening.Happening.TheVariants.{Accept, Piece, Lost, Tick, Idle}

-- A connection that is accepted is the operator's, or has the number behind the highest of a player so far. Nothing else gives a number.
abbrev pub IsNumbered : Happening → ℕ → ℕ → Type 0
IsNumbered (Accept k) before now = ((k ≡ 0) × (now ≡ before)) ⊎ ((k ≡ before + 1) × (now ≡ k))
IsNumbered (Piece k bytes) before now = now ≡ before
IsNumbered (Lost k) before now = now ≡ before
IsNumbered (Tick moment) before now = now ≡ before
IsNumbered Idle before now = now ≡ before

-- A tick has a moment above all that were told, and no later than the last of a run. Nothing else tells one.
abbrev pub IsDue : Happening → ℕ → ℕ → Type 0
IsDue (Accept k) before now = now ≡ before
IsDue (Piece k bytes) before now = now ≡ before
IsDue (Lost k) before now = now ≡ before
IsDue (Tick moment) before now = (before < moment) × (moment ≤ 10 ^ 12) × (now ≡ moment)
IsDue Idle before now = now ≡ before

-- a piece has from 1 to 4096 bytes
abbrev pub IsBounded : Happening → Type 0
IsBounded (Piece k bytes) = (0 < length bytes) × (length bytes ≤ 4096)
IsBounded (Accept k) = ⊤
IsBounded (Lost k) = ⊤
IsBounded (Tick moment) = ⊤
IsBounded Idle = ⊤

-- what sockets give, which is no tick
abbrev pub ComesOfSockets : Happening → ℕ → ℕ → Type 0
ComesOfSockets (Accept k) before now = ((k ≡ 0) × (now ≡ before)) ⊎ ((k ≡ before + 1) × (now ≡ k))
ComesOfSockets (Piece k bytes) before now = (now ≡ before) × (0 < length bytes) × (length bytes ≤ 4096)
ComesOfSockets (Lost k) before now = now ≡ before
ComesOfSockets (Tick moment) before now = ⊥
ComesOfSockets Idle before now = ⊥

-- the same of an answer that may be nothing
abbrev pub MayCome : Option Happening → ℕ → ℕ → Type 0
MayCome None before now = now ≡ before
MayCome (Some h) before now = ComesOfSockets h before now
