-- What is told of a place of a script.
use Rattle.std.specs.Prelude.{◌≡◌, ℕ, ◌+◌, List, [], ◌∷◌, ◌++◌, length, take, drop, take_while, map, min, not, codes, nat_le, ◌==◌, ◌&&◌, if◌then◌else◌}
use Rattle.std.specs.List.{count_by}
use Rattle.std.specs.Fmt.{decimal}

-- a byte of printable ASCII as it is, and each other one as `?`
abbrev pub shown_byte : ℕ → ℕ
shown_byte b = if nat_le 32 b && nat_le b 126 then b else 63

-- the front of a line that is shown
abbrev pub shown_front : List ℕ → List ℕ
shown_front line = map shown_byte (take 60 line)

-- the number, from 1, of the line in which the byte at a place stands
abbrev pub line_number : List ℕ → ℕ → ℕ
line_number bytes place = count_by (λ b. b == 10) (take place bytes) + 1

-- what stands before the first line end
abbrev pub first_line : List ℕ → List ℕ
first_line bytes = take (length (take_while (λ b. not (b == 10)) bytes)) bytes

-- what a line holds as it is told behind its number, where it holds something
abbrev pub listed : List ℕ → List ℕ
listed [] = []
listed (c ∷ line) = codes ", " ++ shown_front (c ∷ line)

-- A text tells of the item at this byte of a script, or of the script's end where that stands before it: the number of the line, what it holds, and some reason.
abbrev pub IsTold : List ℕ → ℕ → List ℕ → Type 0
IsTold script at told = (reason : List ℕ) × (told ≡ codes "line " ++ (decimal (line_number script (min at (length script))) ++ (listed (first_line (drop (min at (length script)) script)) ++ (codes ": " ++ reason))))
