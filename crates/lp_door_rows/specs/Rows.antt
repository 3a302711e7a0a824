-- Rows: text messages and their lines, and bytes of outputs and their messages.
use Rattle.std.specs.Prelude.{◌≡◌, [], ◌∷◌, ◌++◌, flat_map, codes}
use Rattle.lp_events.specs.declared.out.Out.TheVariants.{Text, Hide, Show, Close}
use Rattle.lp_telnet.specs.Lines.{lines_of}
use Rattle.lp_wire.specs.WireText.{wire_bytes}
use Rattle.lp_door.specs.Doors.{line_of, message_of, wire_of}

-- text messages, and what a telnet reader gets of them
pub record LineRows : Type 0 where
  -- a plain one
  pub look : wire_of (line_of (codes "look")) ≡ 108 ∷ 111 ∷ 111 ∷ 107 ∷ 13 ∷ 10 ∷ []
  -- the empty one is a line of no bytes
  pub empty : wire_of (line_of []) ≡ 13 ∷ 10 ∷ []
  pub empty_read : lines_of (wire_of (line_of [])) ≡ [] ∷ []
  -- bytes that no line has are dropped, and the line is one
  pub ends : line_of (97 ∷ 0 ∷ 98 ∷ 13 ∷ 10 ∷ 99 ∷ 10 ∷ []) ≡ 97 ∷ 98 ∷ 99 ∷ []
  -- bytes of a code point stay as they are
  pub umlaut : line_of (195 ∷ 164 ∷ []) ≡ 195 ∷ 164 ∷ []

-- bytes of outputs, and the text of their message
pub record MessageRows : Type 0 where
  -- a text, and that input is to be hidden
  pub hidden : message_of (codes "Hi" ++ 13 ∷ 10 ∷ 255 ∷ 251 ∷ 1 ∷ []) ≡ codes "Hi" ++ 10 ∷ 2 ∷ []
  -- that it is to be shown, and a text
  pub shown_again : message_of (255 ∷ 252 ∷ 1 ∷ 79 ∷ 107 ∷ []) ≡ 3 ∷ 79 ∷ 107 ∷ []
  -- a 13 that no 10 follows, and a 10 that no 13 precedes, stay; of 13 13 10 the first
  pub lone : message_of (13 ∷ 97 ∷ 10 ∷ 13 ∷ 13 ∷ 10 ∷ 13 ∷ []) ≡ 13 ∷ 97 ∷ 10 ∷ 13 ∷ 10 ∷ 13 ∷ []
  -- a text that has the marks itself passes as it is
  pub own : message_of (2 ∷ 3 ∷ []) ≡ 2 ∷ 3 ∷ []
  -- a code point of two bytes, of three, of four
  pub points : message_of (195 ∷ 164 ∷ 226 ∷ 130 ∷ 172 ∷ 240 ∷ 159 ∷ 152 ∷ 128 ∷ []) ≡ 228 ∷ 8364 ∷ 128512 ∷ []
  -- a run of bytes none of which belongs to a code point is told once; so is each that a newline or a mark parts
  pub run : message_of (97 ∷ 128 ∷ 129 ∷ 255 ∷ 98 ∷ []) ≡ 97 ∷ 65533 ∷ 98 ∷ []
  pub parted : message_of (128 ∷ 13 ∷ 10 ∷ 128 ∷ 255 ∷ 251 ∷ 1 ∷ 128 ∷ []) ≡ 65533 ∷ 10 ∷ 65533 ∷ 2 ∷ 65533 ∷ []
  -- a command that is no mark, and one that is cut off
  pub other : message_of (255 ∷ 251 ∷ 3 ∷ []) ≡ 65533 ∷ 3 ∷ []
  pub cut : message_of (97 ∷ 255 ∷ 251 ∷ []) ≡ 97 ∷ 65533 ∷ []
  -- outputs
  pub outputs : message_of (flat_map wire_bytes (Text 1 (codes "A\n") ∷ Hide 1 ∷ Show 1 ∷ Text 1 (13 ∷ 10 ∷ []) ∷ Close 1 ∷ [])) ≡ 65 ∷ 10 ∷ 2 ∷ 3 ∷ 13 ∷ 10 ∷ []

-- all of them
pub record DoorRows : Type 0 where
  pub lines : LineRows
  pub messages : MessageRows
