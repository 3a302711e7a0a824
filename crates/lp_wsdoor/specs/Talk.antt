-- What a call of a door does to its socket.
use Rattle.std.specs.Prelude.{◌≡◌, ℕ, List, Option, Ok, Err, ⊤}
use Rattle.std.specs.Str.{encode_utf8_all}
use Rattle.tungstenite.specs.Connection.{write_step}
use Rattle.tungstenite.specs.Content.{Content, text, binary, ping, pong, close}
use Rattle.tungstenite.specs.Socket.{Socket, Reads, Writes, content_of}
use Rattle.tungstenite.specs.declared.error.Error.{Error}
use Rattle.tungstenite.specs.declared.message.Message.{Message}
use Rattle.lp_door.specs.Doors.{line_of, message_of}
use Rattle.lp_wsdoor.specs.declared.door.DoorIn.{DoorIn}
use Rattle.lp_wsdoor.specs.declared.door.DoorIn.TheVariants.{Line, Ignored, Closing}
use Rattle.lp_wsdoor.specs.declared.door.DoorFault.{DoorFault}
use Rattle.lp_wsdoor.specs.declared.door.DoorFault.TheVariants as faults

-- What a message is to a door: a text is its line; a ping or a pong is nothing; a binary message and a close end it.
abbrev pub Means : Content → DoorIn → Type 0
Means (text bytes) came = came ≡ Line (line_of bytes)
Means (binary bytes) came = came ≡ Closing
Means (ping bytes) came = came ≡ Ignored
Means (pong bytes) came = came ≡ Ignored
Means (close code) came = came ≡ Closing

-- A read of the socket gave a message that means this.
abbrev pub Heard : {S : Type 0} → (S → Option (List ℕ)) → Socket S → DoorIn → Type 0
Heard {S} remaining old came = (mid : Socket S) × (m : Message) × Reads remaining old mid (Ok m) × Means (content_of m) came

-- a text leaves the socket where the read left it
abbrev pub Stays : {S : Type 0} → Content → Socket S → Socket S → Type 0
Stays (text bytes) mid new = new ≡ mid
Stays (binary bytes) mid new = ⊤
Stays (ping bytes) mid new = ⊤
Stays (pong bytes) mid new = ⊤
Stays (close code) mid new = ⊤

-- A line is that of the text message that a read of the socket gave, and the socket is where that read left it.
abbrev pub LineHeard : {S : Type 0} → (S → Option (List ℕ)) → Socket S → Socket S → DoorIn → Type 0
LineHeard remaining old new (Line l) = (m : Message) × (bytes : List ℕ) × Reads remaining old new (Ok m) × (content_of m ≡ text bytes) × (l ≡ line_of bytes)
LineHeard remaining old new Ignored = ⊤
LineHeard remaining old new Closing = ⊤

-- a read of the socket answered an error
abbrev pub ReadFailed : {S : Type 0} → (S → Option (List ℕ)) → Socket S → Socket S → DoorFault → Type 0
ReadFailed remaining old new faults.Socket = (e : Error) × Reads remaining old new (Err e)
ReadFailed remaining old new faults.NoMemory = ⊤

-- the frame of one text message, the text of the bytes of whole outputs, was added to what goes out
abbrev pub Said : {S : Type 0} → (S → Option (List ℕ)) → Socket S → Socket S → List ℕ → Type 0
Said contents old new piece = Writes contents old new (write_step old.conn (text (encode_utf8_all (message_of piece))))
