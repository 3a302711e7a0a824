-- What a handshake has come to.
use Rattle.std.specs.Prelude.{⊤}
use Rattle.tungstenite.specs.Socket.{Socket}
use Rattle.lp_wsdoor.specs.declared.knocking.Greeted.{Greeted}
use Rattle.lp_wsdoor.specs.declared.knocking.Greeted.TheVariants.{Open, Waiting, Refused}

-- of the door, where there is one
abbrev pub OnOpen : {S : Type 0} → Greeted S → (Socket S → Type 0) → Type 0
OnOpen (Open door) p = p door
OnOpen (Waiting knocking) p = ⊤
OnOpen (Refused fault) p = ⊤
