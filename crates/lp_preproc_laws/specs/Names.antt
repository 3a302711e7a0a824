-- How a name is spelled.
use Rattle.std.specs.Prelude.{◌≡◌, ℕ, List, [], ◌∷◌, true, All, ⊤}
use Rattle.lp_tree.specs.declared.token.Token.{Token}
use Rattle.lp_tree.specs.declared.token.TokenKind.{TokenKind}
use Rattle.lp_tree.specs.declared.token.TokenKind.TheVariants.{Name, Text, Int, Mark, Bad}
use Rattle.lp_lexer.specs.Forms.{is_letter, is_word}

-- letters, digits and `_`
abbrev pub IsWord : List ℕ → Type 0
IsWord [] = ⊤
IsWord (c ∷ cs) = (is_word c ≡ true) × IsWord cs

-- A name is a letter of ASCII or `_`, then letters of ASCII, digits or `_`.
abbrev pub IsName : List ℕ → Type 0
IsName [] = ⊥
IsName (c ∷ cs) = (is_letter c ≡ true) × IsWord cs

-- a name token is spelled so
abbrev pub IsNamed : TokenKind → Type 0
IsNamed (Name cs) = IsName cs
IsNamed (Text cs) = ⊤
IsNamed (Int n) = ⊤
IsNamed (Mark m) = ⊤
IsNamed (Bad k) = ⊤

-- each name token is
abbrev pub AreNamed : List Token → Type 0
AreNamed ts = All (λ t. IsNamed t.kind) ts
