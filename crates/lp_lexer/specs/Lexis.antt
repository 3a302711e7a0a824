-- The tokens of a source, and its first fault.
use Rattle.std.specs.Prelude.{◌≡◌, ℕ, ◌-◌, ◌<◌, ◌≤◌, List, [], ◌∷◌, ◌++◌, Bool, true, false, Option, Some, None, option_map, length, ◌==◌, ◌&&◌, ◌||◌, not, if◌then◌else◌}
use Rattle.std.specs.Str.{IsUtf8}
use Rattle.std.specs.Str.Lossy.{utf8_valid_len}
use Rattle.lp_tree.specs.declared.token.Token.{Token}
use Rattle.lp_tree.specs.declared.token.LexKind.{LexKind}
use Rattle.lp_tree.specs.declared.token.LexKind.TheVariants.{NotUtf8, OpenComment, BadChar, OpenString, NumberTooLarge}
use Rattle.lp_lexer.specs.declared.sign.Sign.{Sign}
use Rattle.lp_lexer.specs.Source.{Rest, rest, characters, signs, passed, skipped, code_at, past, end_of}
use Rattle.lp_lexer.specs.Forms.{Read, read}

-- A place in a source: what is left, whether no token of this line was read yet, and the tokens before.
pub record Place : Type 0 where
  pub rest : Rest
  pub fresh : Bool
  pub tokens : List Token

-- before the first sign of characters, on line 1
abbrev pub begin_of : List ℕ → Place
begin_of cs = record { rest = rest 0 (signs 0 1 cs); fresh = true; tokens = [] }

abbrev pub begin : List ℕ → Place
begin bs = begin_of (characters bs)

-- a space, a tab or a newline
abbrev pub is_blank : ℕ → Bool
is_blank c = (c == 32) || (c == 9) || (c == 10)

-- a line comment goes up to the newline
abbrev pub stays_on_line : ℕ → Bool
stays_on_line c = not (c == 10)

-- what is left behind a comment, and whether it goes over a line's end
pub record Comment : Type 0 where
  pub crosses : Bool
  pub after : Rest

-- A comment that `/*` began goes up to the first `*/`; within it nothing else counts.
abbrev pub comment : Bool → List Sign → Option Comment
comment crosses [] = None
comment crosses (s ∷ ss) =
    if (s.code == 42) && (code_at 0 ss == 47) then Some (record { crosses = crosses; after = passed (end_of s) ss })
    else comment (crosses || (s.code == 10)) ss

abbrev pub opens_line : List Sign → Bool
opens_line ss = (code_at 0 ss == 47) && (code_at 1 ss == 47)

abbrev pub opens_block : List Sign → Bool
opens_block ss = (code_at 0 ss == 47) && (code_at 1 ss == 42)

-- a blank is passed over; a newline ends its line
abbrev pub past_blank : Place → Place
past_blank p = record p { rest = passed p.rest.behind p.rest.left; fresh = p.fresh || (code_at 0 p.rest.left == 10) }

abbrev pub past_line_comment : Place → Place
past_line_comment p = record p { rest = past stays_on_line p.rest.behind p.rest.left }

-- a comment over a line's end does not join the lines
abbrev pub past_comment : Place → Comment → Place
past_comment p c = record p { rest = c.after; fresh = p.fresh || c.crosses }

-- the comment that begins at a place, if it has an end
abbrev pub comment_at : Rest → Option Comment
comment_at r = let inside = skipped 2 r.behind r.left in comment false inside.left

-- what was read from a sign on is a token, with the sign's place and line
abbrev pub token_from : Bool → Sign → Read → Token
token_from fresh s r = record { kind = r.kind; line = s.line; at = s.at; len = r.after.behind - s.at; first = fresh }

abbrev pub past_token : Place → Sign → Place
past_token p s = record { rest = (read p.rest).after; fresh = false; tokens = p.tokens ++ token_from p.fresh s (read p.rest) ∷ [] }

-- The next place: behind a blank, a comment or a token, by what the signs begin with; none at the end and at a comment without end.
abbrev pub next_by : Place → List Sign → Option Place
next_by p [] = None
next_by p (s ∷ ss) =
    if is_blank s.code then Some (past_blank p)
    else (if opens_line (s ∷ ss) then Some (past_line_comment p)
    else (if opens_block (s ∷ ss) then option_map (past_comment p) (comment_at p.rest)
    else Some (past_token p s)))

abbrev pub next : Place → Option Place
next p = next_by p p.rest.left

-- the places that are reached one after the other
pub data Reaches (from : Place) : Place → Type 0 where
  here : Reaches from from
  more : {p q : Place} → Reaches from p → next p ≡ Some q → Reaches from q

-- The end is reached, with these tokens.
abbrev pub ReachesEnd : Place → List Token → Type 0
ReachesEnd from ts = (p : Place) × Reaches from p × (p.rest.left ≡ []) × (p.tokens ≡ ts)

-- A comment is reached that begins at this place of the source and has no end.
abbrev pub ReachesOpenComment : Place → ℕ → Type 0
ReachesOpenComment from at = (p : Place) × (s : Sign) × (ss : List Sign) × Reaches from p × (p.rest.left ≡ s ∷ ss) × (next p ≡ None) × (s.at ≡ at)

abbrev pub IsWhole : List ℕ → List Token → Type 0
IsWhole bs ts = ReachesEnd (begin bs) ts

abbrev pub IsOpenComment : List ℕ → ℕ → Type 0
IsOpenComment bs at = ReachesOpenComment (begin bs) at

-- Bytes have tokens where they are UTF-8 and each comment has its end.
abbrev pub IsLexed : List ℕ → List Token → Type 0
IsLexed bs ts = IsUtf8 bs × IsWhole bs ts

-- The first fault: the first byte that is not UTF-8, or a comment without end that begins before it.
abbrev pub IsFault : List ℕ → ℕ → LexKind → Type 0
IsFault bs at NotUtf8 = (at ≡ utf8_valid_len bs) × (at < length bs) × ((open_at : ℕ) → IsOpenComment bs open_at → at ≤ open_at)
IsFault bs at OpenComment = IsOpenComment bs at × (at < utf8_valid_len bs)
IsFault bs at BadChar = ⊥
IsFault bs at OpenString = ⊥
IsFault bs at NumberTooLarge = ⊥
