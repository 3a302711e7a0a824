-- Forms of formatting.
use Rattle.std.specs.Prelude.{ℕ, zero, suc, ◌+◌, ◌-◌, List, [], ◌∷◌, Bool, true, false, Option, Some, None, nat_eq, nat_lt, length, take, drop, slice_index, if◌then◌else◌, ◌||◌}
use Rattle.std.specs.Char.{is_ascii_digit}
use Rattle.std.specs.List.{prefix_len}
use Rattle.lp_text.specs.Scans.{digits_number}
use Rattle.lp_format.specs.declared.form.Count.{Count}
use Rattle.lp_format.specs.declared.form.Count.TheVariants.{Absent, Given, Argument, Wrong}
use Rattle.lp_format.specs.declared.form.Conversion.{Conversion}
use Rattle.lp_format.specs.declared.form.Conversion.TheVariants.{Text, Decimal, Based, CodePoint, Any, Percent}
use Rattle.lp_format.specs.declared.form.Base.TheVariants.{Octal, SmallHex, LargeHex}
use Rattle.lp_format.specs.declared.form.Piece.{Piece}
use Rattle.lp_format.specs.declared.form.Piece.TheVariants.{Bad, Made, Plain}

-- a mark that may stand here: how many code points it has
abbrev pub mark_len : ℕ → List ℕ → ℕ
mark_len mark cs = if nat_eq (slice_index cs 0) mark then 1 else 0

-- a number that may stand here: a `*`, or digits
abbrev pub count_len : List ℕ → ℕ
count_len cs = if nat_eq (slice_index cs 0) 42 then 1 else prefix_len is_ascii_digit cs

-- a number up to 9999
abbrev pub limited : ℕ → Count
limited n = if nat_lt 9999 n then Wrong else Given n

-- the number that digits write, where there are any
abbrev pub digits_count : List ℕ → Count
digits_count ds = if nat_eq (length ds) 0 then Absent else limited (digits_number ds)

-- a width: up to 9999, or a `*` for the next argument, or none
abbrev pub count : List ℕ → Count
count cs = if nat_eq (slice_index cs 0) 42 then Argument else digits_count (take (prefix_len is_ascii_digit cs) cs)

-- behind a `.` a number may not be missing
abbrev pub needed : Count → Count
needed Absent = Wrong
needed (Given n) = Given n
needed Argument = Argument
needed Wrong = Wrong

-- a precision: a `.` and a number, or none
abbrev pub precision : List ℕ → Count
precision cs = if nat_eq (slice_index cs 0) 46 then needed (count (drop 1 cs)) else Absent

abbrev pub precision_len : List ℕ → ℕ
precision_len cs = if nat_eq (slice_index cs 0) 46 then 1 + count_len (drop 1 cs) else 0

-- what a letter stands for
abbrev pub conversion : ℕ → Option Conversion
conversion c = if nat_eq c 37 then Some Percent else if nat_eq c 115 then Some Text else if nat_eq c 100 || nat_eq c 105 then Some Decimal else if nat_eq c 111 then Some (Based Octal) else if nat_eq c 120 then Some (Based SmallHex) else if nat_eq c 88 then Some (Based LargeHex) else if nat_eq c 99 then Some CodePoint else if nat_eq c 79 then Some Any else None

abbrev pub is_wrong : Count → Bool
is_wrong Absent = false
is_wrong (Given n) = false
is_wrong Argument = false
is_wrong Wrong = true

-- a directive, where its letter is one
abbrev pub lettered : Bool → Bool → Count → Count → Option Conversion → Piece
lettered left zeros width precision None = Bad
lettered left zeros width precision (Some c) = Made (record { left = left; zeros = zeros; width = width; precision = precision; conversion = c })

-- a directive of its marks, its numbers and its letter
abbrev pub directive : Bool → Bool → Count → Count → ℕ → Piece
directive left zeros width precision letter = if is_wrong width || is_wrong precision then Bad else lettered left zeros width precision (conversion letter)

-- what is left of a directive behind its `-`, its marks, its width, its precision
abbrev pub behind_left : List ℕ → List ℕ
behind_left cs = drop (mark_len 45 cs) cs

abbrev pub behind_marks : List ℕ → List ℕ
behind_marks cs = drop (mark_len 48 (behind_left cs)) (behind_left cs)

abbrev pub behind_width : List ℕ → List ℕ
behind_width cs = drop (count_len (behind_marks cs)) (behind_marks cs)

abbrev pub behind_precision : List ℕ → List ℕ
behind_precision cs = drop (precision_len (behind_width cs)) (behind_width cs)

-- what follows a `%`: a `-`, a `0`, a width and a precision, each of which may be missing, and a letter
unfoldable pub marked : List ℕ → Piece
marked cs = directive (nat_eq (slice_index cs 0) 45) (nat_eq (slice_index (behind_left cs) 0) 48) (count (behind_marks cs)) (precision (behind_width cs)) (slice_index (behind_precision cs) 0)

-- and how many code points that has, the `%` included
unfoldable pub marked_len : List ℕ → ℕ
marked_len cs = mark_len 45 cs + mark_len 48 (behind_left cs) + count_len (behind_marks cs) + precision_len (behind_width cs) + 2

-- the piece that a form begins with: a directive, or a code point that stands for itself
abbrev pub piece : List ℕ → Piece
piece cs = if nat_eq (slice_index cs 0) 37 then marked (drop 1 cs) else Plain (slice_index cs 0)

abbrev pub piece_len : List ℕ → ℕ
piece_len cs = if nat_eq (slice_index cs 0) 37 then marked_len (drop 1 cs) else 1

-- a piece and its place
pub record Placed : Type 0 where
  pub piece : Piece
  pub at : ℕ

-- the pieces of what is left of a form from a place on, each beginning where the one before ends, where `skip` code points of one are still to be passed
abbrev pub pieces_after : ℕ → ℕ → List ℕ → List Placed
pieces_after at skip [] = []
pieces_after at (suc n) (c ∷ cs) = pieces_after at n cs
pieces_after at zero (c ∷ cs) = record { piece = piece (c ∷ cs); at = at } ∷ pieces_after (at + piece_len (c ∷ cs)) (piece_len (c ∷ cs) - 1) cs

-- the pieces of a form
abbrev pub pieces : List ℕ → List Placed
pieces form = pieces_after 0 0 form
