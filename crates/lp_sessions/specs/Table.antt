-- The connections of a server as one table.
use Rattle.std.specs.Prelude.{ℕ, ◌≤◌, ⊤, List, [], ◌∷◌, ◌++◌}
use Rattle.lp_sessions.specs.declared.session.Session.{Session}
use Rattle.lp_sessions.specs.Tied.{new_session}
use Rattle.lp_sessions.specs.All.{numbers, AreAbove}

-- those that are not gone, and the highest number so far
pub record Connections : Type 0 where
  pub sessions : List Session
  pub highest : ℕ

abbrev pub no_connections : Connections
no_connections = record { sessions = []; highest = 0 }

-- no number is above the highest
abbrev pub AreAtMost : ℕ → List Session → Type 0
AreAtMost highest [] = ⊤
AreAtMost highest (s ∷ ss) = (s.number ≤ highest) × AreAtMost highest ss

-- numbers rise from 1 upwards, none above the highest so far
pub record IsTable (c : Connections) : Type 0 where
  pub above : AreAbove 0 (numbers c.sessions)
  pub most : AreAtMost c.highest c.sessions

-- one more connection, with the highest number
abbrev pub with_new : ℕ → Connections → Connections
with_new number c = record { sessions = c.sessions ++ new_session number ∷ []; highest = number }
