-- What a read that failed comes to.
use Rattle.std.proofs.Common.{ℕ, List, Option, Err}
use Rattle.tungstenite.specs.Socket.{Socket, Reads}
use Rattle.tungstenite.specs.declared.error.Error.{Error}
use Rattle.lp_wsdoor.specs.Talk.{ReadFailed}
use Rattle.lp_wsdoor.specs.declared.door.DoorFault.{DoorFault}
use Rattle.lp_wsdoor.specs.declared.door.DoorFault.TheVariants.{Socket as OfSocket, NoMemory}

pub read_failed : {S : Type 0} (remaining : S → Option (List ℕ)) (old new : Socket S) (e : Error) (f : DoorFault) → Reads remaining old new (Err e) → ReadFailed remaining old new f
read_failed remaining old new e OfSocket r = (e, r)
read_failed remaining old new e NoMemory r = tt
