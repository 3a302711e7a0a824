-- Texts as lists of code points.
use Rattle.std.specs.Prelude.{ℕ, ◌+◌, ◌-◌, List, [], ◌∷◌, Bool, Option, Some, None, nat_eq, nat_lt, length, drop, take, slice_range, if◌then◌else◌, ◌||◌}
use Rattle.std.specs.List.{starts_with, prefix_len, suffix_len}

-- the code points whose place is at least `from` and at most `to`
abbrev pub part : ℕ → ℕ → List ℕ → List ℕ
part from to cs = slice_range cs from (to + 1)

-- a space, a tab, a line feed or a carriage return
abbrev pub is_blank : ℕ → Bool
is_blank c = nat_eq c 32 || nat_eq c 9 || nat_eq c 10 || nat_eq c 13

-- without the blanks before the first code point that is none
abbrev pub without_first : List ℕ → List ℕ
without_first cs = drop (prefix_len is_blank cs) cs

-- without the blanks after the last code point that is none
abbrev pub without_last : List ℕ → List ℕ
without_last cs = take (length cs - suffix_len is_blank cs) cs

-- without the blanks at both ends
abbrev pub trimmed : List ℕ → List ℕ
trimmed cs = without_last (without_first cs)

-- the first place of a text in a rest, whose first code point has the place i
abbrev pub place_from : List ℕ → ℕ → List ℕ → Option ℕ
place_from t i [] = if nat_eq (length t) 0 then Some i else None
place_from t i (c ∷ cs) = if starts_with nat_eq (c ∷ cs) t then Some i else place_from t (i + 1) cs

-- the first place of t in s, from the place `from` on
abbrev pub place : List ℕ → List ℕ → ℕ → Option ℕ
place t s from = if nat_lt (length s) from then None else place_from t from (drop from s)
