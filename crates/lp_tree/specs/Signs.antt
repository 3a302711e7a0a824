-- The sign of an integer is a token of its own.
use Rattle.std.specs.Prelude.{ℤ, pos, negsuc, List, All, ⊤}
use Rattle.lp_tree.specs.declared.token.Token.{Token}
use Rattle.lp_tree.specs.declared.token.TokenKind.{TokenKind}
use Rattle.lp_tree.specs.declared.token.TokenKind.TheVariants.{Name, Text, Int, Mark, Bad}

abbrev pub IsFromZero : ℤ → Type 0
IsFromZero (pos n) = ⊤
IsFromZero (negsuc n) = ⊥

-- an integer token is not negative
abbrev pub IsUnsigned : TokenKind → Type 0
IsUnsigned (Int n) = IsFromZero n
IsUnsigned (Name cs) = ⊤
IsUnsigned (Text cs) = ⊤
IsUnsigned (Mark m) = ⊤
IsUnsigned (Bad k) = ⊤

-- no integer token is negative
abbrev pub AreUnsigned : List Token → Type 0
AreUnsigned ts = All (λ t. IsUnsigned t.kind) ts
