-- An index of a table: the connections for which something is to be done at the next offers.
use Rattle.std.specs.Prelude.{◌≡◌, ⊤, ℕ, List, [], ◌∷◌, nat_eq, true, false}
use Rattle.std.specs.List.{list_any}
use Rattle.lp_sessions.specs.declared.session.Phase.TheVariants.{Closing}
use Rattle.lp_sessions.specs.declared.session.Session.{Session}
use Rattle.lp_sessions.specs.All.{AreAbove}

-- nothing is to be done for a connection: nothing is pending for it, and it waits for no close
abbrev pub IsIdle : Session → Type 0
IsIdle s = (s.outbox ≡ []) × (s.phase ≡ Closing → ⊥)

abbrev pub AreIdle : List Session → Type 0
AreIdle [] = ⊤
AreIdle (s ∷ ss) = IsIdle s × AreIdle ss

-- those with this number
abbrev pub AreIdleAt : ℕ → List Session → Type 0
AreIdleAt number [] = ⊤
AreIdleAt number (s ∷ ss) = (nat_eq s.number number ≡ true → IsIdle s) × AreIdleAt number ss

-- a number is on a list
abbrev pub IsListed : ℕ → List ℕ → Type 0
IsListed number listed = list_any (nat_eq number) listed ≡ true

-- those that are not on a list
abbrev pub AreIdleBut : List ℕ → List Session → Type 0
AreIdleBut listed [] = ⊤
AreIdleBut listed (s ∷ ss) = (list_any (nat_eq s.number) listed ≡ false → IsIdle s) × AreIdleBut listed ss

-- AN INDEX: rising numbers, among them that of each connection for which something is to be done
pub record IsIndex (listed : List ℕ) (ss : List Session) : Type 0 where
  pub rising : AreAbove 0 listed
  pub others : AreIdleBut listed ss
