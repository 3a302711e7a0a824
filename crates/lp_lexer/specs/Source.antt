-- What the lexer sees of a source: its characters, with joined lines taken out.
use Rattle.std.specs.Prelude.{◌≡◌, ℕ, zero, suc, ◌+◌, ◌≤◌, List, [], ◌∷◌, ◌++◌, Bool, false, Option, Some, None, map, take, drop, nat_lt, ◌==◌, ◌&&◌, if◌then◌else◌}
use Rattle.std.specs.Str.{chars}
use Rattle.std.specs.Str.Lossy.{utf8_valid_len}
use Rattle.std.specs.Char.{len_utf8}
use Rattle.lp_lexer.specs.declared.sign.Sign.{Sign}

-- a byte that is not UTF-8: it begins no token, and only `*/` is looked for behind it
abbrev pub stray : ℕ → ℕ
stray b = if nat_lt b 128 then b else 127

-- The characters of a source: of the longest front that is UTF-8, and then byte by byte.
unfoldable pub characters : List ℕ → List ℕ
characters bs = chars (take (utf8_valid_len bs) bs) ++ map stray (drop (utf8_valid_len bs) bs)

-- how many bytes characters take
abbrev pub width : List ℕ → ℕ
width [] = 0
width (c ∷ cs) = len_utf8 c + width cs

-- a backslash directly before a newline joins two lines
abbrev pub joins : ℕ → ℕ → Bool
joins c d = (c == 92) && (d == 10)

-- the line after a character
abbrev pub line_after : ℕ → ℕ → ℕ
line_after line c = if c == 10 then line + 1 else line

-- The signs of characters, of which the first stands at a place on a line: all but those that join two lines.
abbrev pub signs : ℕ → ℕ → List ℕ → List Sign
signs at line [] = []
signs at line (c ∷ []) = record { code = c; at = at; line = line } ∷ []
signs at line (c ∷ d ∷ cs) =
    if joins c d then signs (at + 2) (line + 1) cs
    else (record { code = c; at = at; line = line } ∷ signs (at + len_utf8 c) (line_after line c) (d ∷ cs))

-- the place behind a sign
abbrev pub end_of : Sign → ℕ
end_of s = s.at + len_utf8 s.code

-- What is left of a source, and the place behind what was read last.
pub record Rest : Type 0 where
  pub behind : ℕ
  pub left : List Sign

abbrev pub rest : ℕ → List Sign → Rest
rest behind left = record { behind = behind; left = left }

-- the first sign that is left
abbrev pub first_of : List Sign → Option Sign
first_of [] = None
first_of (s ∷ ss) = Some s

-- what is left once n more signs are read
abbrev pub skipped : ℕ → ℕ → List Sign → Rest
skipped zero behind ss = rest behind ss
skipped (suc n) behind [] = rest behind []
skipped (suc n) behind (s ∷ ss) = skipped n (end_of s) ss

-- characters that begin with a join
abbrev pub begins_join : List ℕ → Bool
begins_join [] = false
begins_join (c ∷ []) = false
begins_join (c ∷ d ∷ cs) = joins c d

-- what is left behind the next sign
abbrev pub passed : ℕ → List Sign → Rest
passed behind [] = rest behind []
passed behind (s ∷ ss) = rest (end_of s) ss

-- how far the places of a source go
abbrev pub most_bytes : ℕ
most_bytes = 16777216

-- a sign that was looked up ends no later than what comes behind it begins
abbrev pub EndsBy : ℕ → Option Sign → Type 0
EndsBy at None = Unit {0}
EndsBy at (Some s) = end_of s ≤ at

-- where there is no sign there are no characters
abbrev pub IsLast : Option Sign → List ℕ → Type 0
IsLast None cs = cs ≡ []
IsLast (Some s) cs = Unit {0}

-- places and lines stay within a source
pub record IsWithin (cs : List ℕ) (at line : ℕ) : Type 0 where
  pub place : at + width cs ≤ most_bytes
  pub lines : line ≤ at + 1

-- the code of the n-th sign that is left, or 0 where there are not so many: 0 begins and ends nothing
abbrev pub code_at : ℕ → List Sign → ℕ
code_at n [] = 0
code_at zero (s ∷ ss) = s.code
code_at (suc n) (s ∷ ss) = code_at n ss

-- the codes of the signs at the front that pass a test: the longest such front
abbrev pub front : (ℕ → Bool) → List Sign → List ℕ
front p [] = []
front p (s ∷ ss) = if p s.code then (s.code ∷ front p ss) else []

-- what is left behind that front
abbrev pub past : (ℕ → Bool) → ℕ → List Sign → Rest
past p behind [] = rest behind []
past p behind (s ∷ ss) = if p s.code then past p (end_of s) ss else rest behind (s ∷ ss)
