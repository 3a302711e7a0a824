-- Tokens as parsers see them.
use Rattle.std.specs.Prelude.{ℕ, ℤ, List, [], ◌∷◌, Option, Some, None}
use Rattle.lp_tree.specs.declared.keyword.Keyword.{Keyword}
use Rattle.lp_tree.specs.declared.seen.Sort.{Sort}
use Rattle.lp_tree.specs.declared.seen.Sort.TheVariants as sorts
use Rattle.lp_tree.specs.declared.seen.Seen.{Seen}
use Rattle.lp_tree.specs.declared.token.Mark.{Mark}
use Rattle.lp_tree.specs.declared.token.TokenKind.{TokenKind}
use Rattle.lp_tree.specs.declared.token.TokenKind.TheVariants.{Name, Text, Int, Mark as IsMark, Bad}
use Rattle.lp_tree.specs.declared.token.Token.{Token}
use Rattle.lp_tree.specs.Keywords.{keyword_of}

-- a word is a name, unless it is reserved
abbrev pub named_as : List ℕ → Option Keyword → Sort
named_as w None = sorts.Name w
named_as w (Some k) = sorts.Reserved k

abbrev pub named : List ℕ → Sort
named w = named_as w (keyword_of w)

-- what a parser sees of each kind of token
abbrev pub sort_of : TokenKind → Sort
sort_of (Name w) = named w
sort_of (Text w) = sorts.Text w
sort_of (Int n) = sorts.Int n
sort_of (IsMark m) = sorts.Mark m
sort_of (Bad k) = sorts.Wrong

-- a token as parsers see it
abbrev pub seen : Token → Seen
seen t = record { sort = sort_of t.kind; line = t.line }

-- the tokens of which grammars speak: each with its line
abbrev pub word : List ℕ → ℕ → Seen
word w l = record { sort = sorts.Name w; line = l }

abbrev pub text : List ℕ → ℕ → Seen
text w l = record { sort = sorts.Text w; line = l }

abbrev pub integer : ℤ → ℕ → Seen
integer n l = record { sort = sorts.Int n; line = l }

abbrev pub mark : Mark → ℕ → Seen
mark m l = record { sort = sorts.Mark m; line = l }

abbrev pub reserved : Keyword → ℕ → Seen
reserved k l = record { sort = sorts.Reserved k; line = l }

-- the line of the first of some tokens
abbrev pub first_line : List Seen → ℕ
first_line [] = 0
first_line (x ∷ xs) = x.line
