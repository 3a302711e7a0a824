-- The marks and how they are spelled.
use Rattle.std.specs.Prelude.{ℕ, Option, Some, None, ◌==◌, ◌&&◌, if◌then◌else◌}
use Rattle.lp_tree.specs.declared.token.Mark.{Mark}
use Rattle.lp_tree.specs.declared.token.Mark.TheVariants.{OpenParen, CloseParen, OpenBrace, CloseBrace, OpenBracket, CloseBracket, Comma, Semicolon, Colon, ColonColon, Dot, DotDot, Arrow, Question, Hash, Not, Flip, AndThen, OrElse, Binary, Step, Assign}
use Rattle.lp_tree.specs.declared.operator.BinOp.TheVariants as ops
use Rattle.lp_tree.specs.declared.operator.Step.TheVariants as steps
use Rattle.lp_tree.specs.declared.operator.AssignOp.TheVariants as assigns

-- the marks of one character: `( ) { } [ ] , ; : . ? # ! ~ + - * / % & | ^ < > =`
abbrev pub one : ℕ → Option Mark
one a =
    if a == 40 then Some OpenParen
    else (if a == 41 then Some CloseParen
    else (if a == 123 then Some OpenBrace
    else (if a == 125 then Some CloseBrace
    else (if a == 91 then Some OpenBracket
    else (if a == 93 then Some CloseBracket
    else (if a == 44 then Some Comma
    else (if a == 59 then Some Semicolon
    else (if a == 58 then Some Colon
    else (if a == 46 then Some Dot
    else (if a == 63 then Some Question
    else (if a == 35 then Some Hash
    else (if a == 33 then Some Not
    else (if a == 126 then Some Flip
    else (if a == 43 then Some (Binary ops.Add)
    else (if a == 45 then Some (Binary ops.Sub)
    else (if a == 42 then Some (Binary ops.Mul)
    else (if a == 47 then Some (Binary ops.Div)
    else (if a == 37 then Some (Binary ops.Rem)
    else (if a == 38 then Some (Binary ops.And)
    else (if a == 124 then Some (Binary ops.Or)
    else (if a == 94 then Some (Binary ops.Xor)
    else (if a == 60 then Some (Binary ops.Lt)
    else (if a == 62 then Some (Binary ops.Gt)
    else (if a == 61 then Some (Assign assigns.Set)
    else None))))))))))))))))))))))))

-- the marks of two characters that are one twice: `:: .. << >> == && || ++ --`
abbrev pub twice : ℕ → Option Mark
twice a =
    if a == 58 then Some ColonColon
    else (if a == 46 then Some DotDot
    else (if a == 60 then Some (Binary ops.Shl)
    else (if a == 62 then Some (Binary ops.Shr)
    else (if a == 61 then Some (Binary ops.Eq)
    else (if a == 38 then Some AndThen
    else (if a == 124 then Some OrElse
    else (if a == 43 then Some (Step steps.Up)
    else (if a == 45 then Some (Step steps.Down)
    else None))))))))

-- the marks of a character and `=`: `<= >= != += -= *= /= %= &= |= ^=`
abbrev pub with_equals : ℕ → Option Mark
with_equals a =
    if a == 60 then Some (Binary ops.Le)
    else (if a == 62 then Some (Binary ops.Ge)
    else (if a == 33 then Some (Binary ops.Ne)
    else (if a == 43 then Some (Assign assigns.Add)
    else (if a == 45 then Some (Assign assigns.Sub)
    else (if a == 42 then Some (Assign assigns.Mul)
    else (if a == 47 then Some (Assign assigns.Div)
    else (if a == 37 then Some (Assign assigns.Rem)
    else (if a == 38 then Some (Assign assigns.And)
    else (if a == 124 then Some (Assign assigns.Or)
    else (if a == 94 then Some (Assign assigns.Xor)
    else None))))))))))

-- the marks of two characters: those, and `->`
abbrev pub two : ℕ → ℕ → Option Mark
two a b =
    if a == b then twice a
    else (if b == 61 then with_equals a
    else (if (a == 45) && (b == 62) then Some Arrow
    else None))

-- the marks of one character twice and `=`: `<<= >>= &&= ||=`
abbrev pub twice_with_equals : ℕ → Option Mark
twice_with_equals a =
    if a == 60 then Some (Assign assigns.Shl)
    else (if a == 62 then Some (Assign assigns.Shr)
    else (if a == 38 then Some (Assign assigns.AndThen)
    else (if a == 124 then Some (Assign assigns.OrElse)
    else None)))

-- the marks of three characters
abbrev pub three : ℕ → ℕ → ℕ → Option Mark
three a b c = if (a == b) && (c == 61) then twice_with_equals a else None

-- a mark and how many signs it has
pub record Fit : Type 0 where
  pub mark : Mark
  pub size : ℕ

-- the mark of a size, or else a shorter one
abbrev pub or_shorter : Option Mark → ℕ → Option Fit → Option Fit
or_shorter None size shorter = shorter
or_shorter (Some m) size shorter = Some (record { mark = m; size = size })

-- The longest mark that three characters begin with.
abbrev pub longest : ℕ → ℕ → ℕ → Option Fit
longest a b c = or_shorter (three a b c) 3 (or_shorter (two a b) 2 (or_shorter (one a) 1 None))

-- a mark and its size, as the code pairs them
abbrev pub fit_of : Mark × ℕ → Fit
fit_of p = record { mark = p.0; size = p.1 }
