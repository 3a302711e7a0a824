-- Lines and texts of a WebSocket, beside the bytes of a telnet stream.
use Rattle.std.specs.Prelude.{◌≡◌, ℕ, zero, suc, List, [], ◌∷◌, ◌++◌, take, flat_map, nat_eq, Bool, true, ◌||◌, ⊤, if◌then◌else◌}
use Rattle.std.specs.List.{AllByRecursion, starts_with}
use Rattle.std.specs.Str.{IsUtf8, all_scalars}
use Rattle.lp_events.specs.declared.out.Out.{Out}
use Rattle.lp_events.specs.declared.out.Out.TheVariants.{Text, Hide, Show, Close, Log}
use Rattle.lp_meaning.specs.EventTurns.{line_text}
use Rattle.lp_telnet.specs.Lines.{Place, beginning, lines_from, max_line}
use Rattle.lp_telnet.specs.declared.command.Within.TheVariants as within
use Rattle.lp_wire.specs.WireText.{wire_bytes}

-- From a player

-- a byte that ends a line of a telnet stream, or that none has
abbrev pub is_dropped : ℕ → Bool
is_dropped b = nat_eq b 0 || (nat_eq b 10 || nat_eq b 13)

abbrev pub without_dropped : List ℕ → List ℕ
without_dropped [] = []
without_dropped (b ∷ bs) = if is_dropped b then without_dropped bs else b ∷ without_dropped bs

-- THE LINE OF A TEXT MESSAGE, by its bytes: without 0, 10 and 13, and as much of it as is kept of a line
abbrev pub line_of : List ℕ → List ℕ
line_of message = take max_line (without_dropped message)

-- the bytes that a line has in a telnet stream
abbrev pub wire_of : List ℕ → List ℕ
wire_of line = line ++ 13 ∷ 10 ∷ []

-- a telnet reader at the begin of a line, fed these, gives exactly the line of the message, and is at the begin of a line again
abbrev pub LinesAreRead : Type 0
LinesAreRead = (message rest : List ℕ) (p : Place) → IsUtf8 message → p.within ≡ within.Text → p.line ≡ []
    → lines_from p (wire_of (line_of message) ++ rest) ≡ line_of message ∷ lines_from beginning rest

-- To a player

-- The bytes of outputs with one byte in place of each newline and each mark: 13 10 is 10; 255 251 1, that input is to be hidden, is 2; 255 252 1,
-- that it is to be shown, is 3. So many bytes are still to be passed.
abbrev pub marked_from : ℕ → List ℕ → List ℕ
marked_from skip [] = []
marked_from (suc n) (b ∷ bs) = marked_from n bs
marked_from zero (b ∷ bs) =
    if starts_with nat_eq (b ∷ bs) (13 ∷ 10 ∷ []) then 10 ∷ marked_from 1 bs
    else (if starts_with nat_eq (b ∷ bs) (255 ∷ 251 ∷ 1 ∷ []) then 2 ∷ marked_from 2 bs
    else (if starts_with nat_eq (b ∷ bs) (255 ∷ 252 ∷ 1 ∷ []) then 3 ∷ marked_from 2 bs
    else b ∷ marked_from 0 bs))

abbrev pub marked : List ℕ → List ℕ
marked bytes = marked_from 0 bytes

-- THE TEXT OF A MESSAGE, for the bytes of outputs: these code points, each longest run of bytes none of which belongs to a well-formed one as U+FFFD
abbrev pub message_of : List ℕ → List ℕ
message_of bytes = line_text (marked bytes)

-- what an output shows: its text, or the mark that the other side is to hide its input, U+0002, or to show it, U+0003
abbrev pub shown : Out → List ℕ
shown (Text k text) = text
shown (Hide k) = 2 ∷ []
shown (Show k) = 3 ∷ []
shown (Close k) = []
shown (Log text) = []

-- the code points of a text are characters
abbrev pub HasCharacters : Out → Type 0
HasCharacters (Text k text) = all_scalars text ≡ true
HasCharacters (Hide k) = ⊤
HasCharacters (Show k) = ⊤
HasCharacters (Close k) = ⊤
HasCharacters (Log text) = ⊤

-- the message of the bytes of whole outputs is what they show, in order
abbrev pub MessagesShowOutputs : Type 0
MessagesShowOutputs = (outs : List Out) → AllByRecursion HasCharacters outs → message_of (flat_map wire_bytes outs) ≡ flat_map shown outs
