-- The forms of tokens: what each stands for, and how far it goes.
use Rattle.std.specs.Prelude.{ℕ, zero, suc, ◌+◌, ◌-◌, ◌*◌, List, [], ◌∷◌, Bool, true, false, Option, Some, None, nat_lt, nat_le, ◌==◌, ◌&&◌, ◌||◌, not, if◌then◌else◌, pos}
use Rattle.std.specs.Char.{digit_value}
use Rattle.lp_tree.specs.declared.token.TokenKind.{TokenKind}
use Rattle.lp_tree.specs.declared.token.TokenKind.TheVariants.{Name, Text, Int, Mark, Bad}
use Rattle.lp_tree.specs.declared.token.LexKind.TheVariants.{BadChar, OpenString, NumberTooLarge}
use Rattle.lp_lexer.specs.declared.sign.Letter.{Letter}
use Rattle.lp_lexer.specs.declared.sign.Sign.{Sign}
use Rattle.lp_lexer.specs.Source.{Rest, rest, passed, skipped, code_at, front, past, end_of}
use Rattle.lp_lexer.specs.Marks.{Fit, longest}

-- What was read, and what is left behind it.
pub record Read : Type 0 where
  pub kind : TokenKind
  pub after : Rest

abbrev pub is_letter : ℕ → Bool
is_letter c = (nat_le 97 c && nat_le c 122) || (nat_le 65 c && nat_le c 90) || (c == 95)

-- a digit of a base, of either case
abbrev pub is_digit : ℕ → ℕ → Bool
is_digit base c = nat_lt (digit_value c) base

-- what a name goes on with
abbrev pub is_word : ℕ → Bool
is_word c = is_letter c || is_digit 10 c

-- A name is a letter or `_`, then letters, digits or `_`.
abbrev pub name : Rest → Read
name r = record { kind = Name (front is_word r.left); after = past is_word r.behind r.left }

-- the number that digits spell behind a number, most significant digit first
abbrev pub number_after : ℕ → ℕ → List ℕ → ℕ
number_after base n [] = n
number_after base n (c ∷ cs) = number_after base (n * base + digit_value c) cs

-- integers go up to 2^63 - 1
abbrev pub integer : ℕ → TokenKind
integer n = if nat_le n 9223372036854775807 then Int (pos n) else Bad NumberTooLarge

-- the base of the letter behind a 0: `0x`, `0o` and `0b`
abbrev pub base_of : ℕ → ℕ
base_of c = if c == 120 then 16 else (if c == 111 then 8 else (if c == 98 then 2 else 10))

-- the base of an integer: another than ten only where a digit of it follows
abbrev pub base_at : List Sign → ℕ
base_at ss = if (code_at 0 ss == 48) && is_digit (base_of (code_at 1 ss)) (code_at 2 ss) then base_of (code_at 1 ss) else 10

-- An integer is a prefix, but in base ten, and then digits.
abbrev pub number : Rest → Read
number r =
    let base = base_at r.left in
    let digits = if base == 10 then r else skipped 2 r.behind r.left in
    record { kind = integer (number_after base 0 (front (is_digit base) digits.left)); after = past (is_digit base) digits.behind digits.left }

-- `\n \t \r \a \b \e`; a backslash before another character gives that character
abbrev pub escaped : ℕ → ℕ
escaped c =
    if c == 110 then 10
    else (if c == 116 then 9
    else (if c == 114 then 13
    else (if c == 97 then 7
    else (if c == 98 then 8
    else (if c == 101 then 27
    else c)))))

-- behind a backslash: at a line's end there is no escape, `\xHH` has two hexadecimal digits, and without them it is `x`
abbrev pub escape : ℕ → ℕ → ℕ → Letter
escape c h k =
    if c == 10 then record { code = 92; size = 1 }
    else (if (c == 120) && is_digit 16 h && is_digit 16 k then record { code = digit_value h * 16 + digit_value k; size = 4 }
    else record { code = escaped c; size = 2 })

abbrev pub letter_at : List Sign → Letter
letter_at [] = record { code = 0; size = 1 }
letter_at (s ∷ ss) = if s.code == 92 then escape (code_at 0 ss) (code_at 1 ss) (code_at 2 ss) else record { code = s.code; size = 1 }

-- the letters of a text, whether it is closed on its line, and what is left
pub record Letters : Type 0 where
  pub letters : List ℕ
  pub closed : Bool
  pub after : Rest

abbrev pub with_letter : ℕ → Letters → Letters
with_letter c t = record t { letters = c ∷ t.letters }

-- The letters up to a quote, or else up to the line's end; the first number counts the signs that belong to the letter before.
abbrev pub letters_of : ℕ → ℕ → List Sign → Letters
letters_of n behind [] = record { letters = []; closed = false; after = rest behind [] }
letters_of zero behind (s ∷ ss) =
    if s.code == 34 then record { letters = []; closed = true; after = rest (end_of s) ss }
    else (if s.code == 10 then record { letters = []; closed = false; after = rest behind (s ∷ ss) }
    else with_letter (letter_at (s ∷ ss)).code (letters_of ((letter_at (s ∷ ss)).size - 1) (end_of s) ss))
letters_of (suc n) behind (s ∷ ss) = letters_of n (end_of s) ss

-- A text is a quote, letters and a quote, on one line.
abbrev pub text : Rest → Read
text r =
    let open_quote = passed r.behind r.left in
    let t = letters_of 0 open_quote.behind open_quote.left in
    record { kind = if t.closed then Text t.letters else Bad OpenString; after = t.after }

-- A character literal is one letter between quotes, but no quote and no line's end; else its quote is no token.
abbrev pub literal : Rest → Read
literal r =
    let quote = passed r.behind r.left in
    let l = letter_at quote.left in
    let close = skipped l.size quote.behind quote.left in
    if not ((code_at 0 quote.left == 39) || (code_at 0 quote.left == 10)) && (code_at 0 close.left == 39)
    then record { kind = Int (pos l.code); after = passed close.behind close.left }
    else record { kind = Bad BadChar; after = quote }

-- a mark, or a character that begins no token
abbrev pub marked : Option Fit → Rest → Read
marked None r = record { kind = Bad BadChar; after = passed r.behind r.left }
marked (Some f) r = record { kind = Mark f.mark; after = skipped f.size r.behind r.left }

-- The longest mark that fits is one token.
abbrev pub mark : Rest → Read
mark r = marked (longest (code_at 0 r.left) (code_at 1 r.left) (code_at 2 r.left)) r

-- The token that the signs begin with, by its first character.
abbrev pub read : Rest → Read
read r =
    let c = code_at 0 r.left in
    if is_letter c then name r
    else (if is_digit 10 c then number r
    else (if c == 34 then text r
    else (if c == 39 then literal r
    else mark r)))
