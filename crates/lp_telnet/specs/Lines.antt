-- The lines of a telnet stream, as functions of all its bytes.
use Rattle.std.specs.Prelude.{◌≡◌, ℕ, ◌≤◌, Bool, true, false, ◌&&◌, List, [], ◌∷◌, ◌++◌, length, take, nat_eq, nat_le, if◌then◌else◌}
use Rattle.std.specs.List.{AllByRecursion}
use Rattle.lp_telnet.specs.declared.command.Within.{Within}
use Rattle.lp_telnet.specs.declared.command.Within.TheVariants.{Text, Command, Negotiation, Subnegotiation, SubnegotiationCommand}

-- Commands

-- whether a byte behind 255 takes one byte more
abbrev pub takes_one_more : ℕ → Bool
takes_one_more b = nat_le 251 b && nat_le b 254

-- The bytes of a stream without its commands.
abbrev mutual
  -- a command begins with 255
  pub text_of : List ℕ → List ℕ
  text_of [] = []
  text_of (b ∷ bs) = if nat_eq b 255 then behind_255 bs else b ∷ text_of bs

  -- 255 255 is the byte 255; 251 to 254 skip one byte more; 250 skips up to 255 240; another byte is skipped alone
  pub behind_255 : List ℕ → List ℕ
  behind_255 [] = []
  behind_255 (b ∷ bs) =
      if nat_eq b 255 then b ∷ text_of bs
      else (if takes_one_more b then behind_one_more bs else (if nat_eq b 250 then behind_250 bs else text_of bs))

  -- the one byte more
  pub behind_one_more : List ℕ → List ℕ
  behind_one_more [] = []
  behind_one_more (b ∷ bs) = text_of bs

  -- what is skipped, up to 255 240
  pub behind_250 : List ℕ → List ℕ
  behind_250 [] = []
  behind_250 (b ∷ bs) = if nat_eq b 255 then behind_250_255 bs else behind_250 bs

  -- 255 with another byte than 240 is skipped as data
  pub behind_250_255 : List ℕ → List ℕ
  behind_250_255 [] = []
  behind_250_255 (b ∷ bs) = if nat_eq b 240 then text_of bs else behind_250 bs

-- the bytes without commands of what follows, by what the stream stands within
abbrev pub text_from : Within → List ℕ → List ℕ
text_from Text bs = text_of bs
text_from Command bs = behind_255 bs
text_from Negotiation bs = behind_one_more bs
text_from Subnegotiation bs = behind_250 bs
text_from SubnegotiationCommand bs = behind_250_255 bs

-- a byte that is one of the text, or is not
abbrev pub kept : Bool → ℕ → List ℕ
kept true b = b ∷ []
kept false b = []

-- Ends of lines

-- Each end of a line as one 10: 13 10 and 13 0 are one end, other bytes 0 are dropped. The flag says that a 13 stands before.
abbrev pub with_ends : Bool → List ℕ → List ℕ
with_ends behind_13 [] = []
with_ends behind_13 (b ∷ bs) =
    if nat_eq b 13 then 10 ∷ with_ends true bs
    else (if nat_eq b 0 then with_ends false bs else (if nat_eq b 10 && behind_13 then with_ends false bs else b ∷ with_ends false bs))

-- what is kept of a line
unfoldable pub max_line : ℕ
max_line = 4096

-- Lines

-- The lines that end, behind what the first has already: each up to its 10, and of it the first 4096 bytes.
abbrev pub ended : List ℕ → List ℕ → List (List ℕ)
ended line [] = []
ended line (b ∷ bs) = if nat_eq b 10 then take max_line line ∷ ended [] bs else ended (line ++ b ∷ []) bs

-- the lines that end in a whole stream
abbrev pub lines_of : List ℕ → List (List ℕ)
lines_of stream = ended [] (with_ends false (text_of stream))

-- Where a stream stands: what it is within, whether a 13 of the text was the last byte of it, and what has come of the line that has not ended.
pub record Place : Type 0 where
  pub within : Within
  pub behind_13 : Bool
  pub line : List ℕ

-- the beginning
abbrev pub beginning : Place
beginning = record { within = Text; behind_13 = false; line = [] }

-- the lines that end in what follows a place
abbrev pub lines_from : Place → List ℕ → List (List ℕ)
lines_from p bytes = ended p.line (with_ends p.behind_13 (text_from p.within bytes))

-- the first of the lines, the last being the one that has not ended
abbrev pub first_line : List (List ℕ) → List ℕ → List ℕ
first_line [] line = line
first_line (l ∷ ls) line = l

-- a list begins with another
abbrev pub BeginsWith : List ℕ → List ℕ → Type 0
BeginsWith short long = take (length short) long ≡ short

-- a byte that stands for itself: no command, no end of a line, not 0
pub record IsPlain (b : ℕ) : Type 0 where
  pub no_command : nat_eq b 255 ≡ false
  pub no_return : nat_eq b 13 ≡ false
  pub no_newline : nat_eq b 10 ≡ false
  pub no_zero : nat_eq b 0 ≡ false

-- a line of plain bytes that is short enough is given as it is, behind it 13 10, and nothing of it is left
abbrev pub PlainLinesComeWhole : Type 0
PlainLinesComeWhole = (line rest : List ℕ) → AllByRecursion IsPlain line → length line ≤ 4096 → lines_of (line ++ 13 ∷ 10 ∷ rest) ≡ line ∷ lines_of rest
