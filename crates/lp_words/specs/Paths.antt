-- Which words are paths and names of objects, and which can still become one.
use Rattle.std.specs.Prelude.{◌≡◌, ℕ, ◌-◌, List, [], ◌∷◌, ◌++◌, length, replicate, Bool, true, false, not, nat_le, nat_eq, ◌==◌, ◌&&◌, ◌||◌, if◌then◌else◌, codes}
use Rattle.std.specs.List.{list_all, ends_with}
use Rattle.std.specs.Ordering.{nat_cmp, is_lt}
use Rattle.std.specs.Cmp.Lexicographic.{slice_cmp}
use Rattle.std.specs.declared.cmp.Ordering.TheVariants.{Less}
use Rattle.lp_events.specs.Script.{is_part_byte, IsPath, IsObjectName}
use Rattle.lp_words.specs.declared.path.Progress.{Progress}
use Rattle.lp_words.specs.declared.path.Progress.TheVariants.{Start, Slash, Dot, Dots, Part, Refused}

-- a byte that makes a part whole, or none that a part has
abbrev pub part_step : ℕ → Progress
part_step c = if is_part_byte c then Part else Refused

-- how far one byte more comes
abbrev pub step : Progress → ℕ → Progress
step Start c = if c == 47 then Slash else Refused
step Slash c = if c == 46 then Dot else part_step c
step Dot c = if c == 46 then Dots else part_step c
step Dots c = part_step c
step Part c = if c == 47 then Slash else part_step c
step Refused c = Refused

-- how far bytes come, one after another
abbrev pub read : Progress → List ℕ → Progress
read s [] = s
read s (c ∷ cs) = read (step s c) cs

-- a path may end here
abbrev pub is_done : Progress → Bool
is_done Part = true
is_done _ = false

-- a word is a path
unfoldable pub is_path : List ℕ → Bool
is_path w = nat_le (length w) 256 && is_done (read Start w)

-- a part that was begun can be made whole
abbrev pub may_go_on : Progress → Bool
may_go_on Start = false
may_go_on Refused = false
may_go_on _ = true

-- a word from its first `/` on: each path begins with one
abbrev pub stem : List ℕ → List ℕ
stem [] = 47 ∷ []
stem (c ∷ cs) = c ∷ cs

-- a word filled up to 256 bytes with the greatest byte of a part: no path that begins with the word is greater
unfoldable pub filled : List ℕ → List ℕ
filled w = stem w ++ replicate (256 - length (stem w)) 122

-- the last path stands before this one
abbrev pub is_above : List ℕ → List ℕ → Bool
is_above last path = is_lt (slice_cmp nat_cmp last path)

-- some path above the last one begins with a word: the greatest one does
unfoldable pub begins_path : List ℕ → List ℕ → Bool
begins_path last w = is_path (filled w) && is_above last (filled w)

-- nothing is left
abbrev pub is_nil : List ℕ → Bool
is_nil [] = true
is_nil (c ∷ cs) = false

-- a decimal digit
abbrev pub is_digit : ℕ → Bool
is_digit c = nat_le 48 c && nat_le c 57

-- a number in decimal, without a leading zero
abbrev pub is_numeral : List ℕ → Bool
is_numeral [] = false
is_numeral (c ∷ cs) = if c == 48 then is_nil cs else list_all is_digit (c ∷ cs)

-- a text ends with `.c`
abbrev pub ends_in_c : List ℕ → Bool
ends_in_c w = ends_with nat_eq w (codes ".c")

-- a path that does not end with `.c`
abbrev pub is_object_path : List ℕ → Bool
is_object_path w = is_path w && not (ends_in_c w)

-- the bytes before the first `#`
abbrev pub before_hash : List ℕ → List ℕ
before_hash [] = []
before_hash (c ∷ cs) = if c == 35 then [] else c ∷ before_hash cs

-- the bytes from the first `#` on
abbrev pub from_hash : List ℕ → List ℕ
from_hash [] = []
from_hash (c ∷ cs) = if c == 35 then c ∷ cs else from_hash cs

-- nothing, or a `#` and a number
abbrev pub is_clone : List ℕ → Bool
is_clone [] = true
is_clone (c ∷ cs) = is_numeral cs

-- a word is the name of an object
unfoldable pub is_name : List ℕ → Bool
is_name w = is_object_path (before_hash w) && is_clone (from_hash w)

-- a path, and what stands from its `#` on, begin a name
abbrev pub begins_with_parts : List ℕ → List ℕ → Bool
begins_with_parts path [] = is_object_path (filled path)
begins_with_parts path (c ∷ cs) = is_object_path path && (is_nil cs || is_numeral cs)

-- some name begins with a word
unfoldable pub begins_name : List ℕ → Bool
begins_name w = begins_with_parts (before_hash w) (from_hash w)

-- some path above the last one begins with a word
abbrev pub BeginsPath : List ℕ → List ℕ → Type 0
BeginsPath last w = (p : List ℕ) × IsPath p × (slice_cmp nat_cmp last p ≡ Less) × (others : List ℕ) × (p ≡ w ++ others)

-- some name of an object begins with a word
abbrev pub BeginsName : List ℕ → Type 0
BeginsName w = (name : List ℕ) × IsObjectName name × (others : List ℕ) × (name ≡ w ++ others)
