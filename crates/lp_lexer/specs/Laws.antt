-- Laws of the tokens of a source.
use Rattle.std.specs.Prelude.{◌≡◌, ℕ, ◌+◌, ◌<◌, ◌≤◌, List, [], ◌∷◌, true, Some, slice_index, ◌⊎◌}
use Rattle.lp_tree.specs.declared.token.LexKind.{LexKind}
use Rattle.lp_tree.specs.declared.token.Token.{Token}
use Rattle.lp_lexer.specs.declared.sign.Sign.{Sign}
use Rattle.lp_lexer.specs.Lexis.{Place, begin, next, Reaches, is_blank, opens_line, opens_block, IsLexed, IsFault}

-- Tokens have bytes, and each begins no earlier than the one before it ends: from a place on up to another.
abbrev pub AreDisjoint : ℕ → List Token → ℕ → Type 0
AreDisjoint from [] to = from ≤ to
AreDisjoint from (t ∷ ts) to = (from ≤ t.at) × (0 < t.len) × AreDisjoint (t.at + t.len) ts to

-- the byte at k is of one of the tokens
abbrev pub IsOfToken : List Token → ℕ → Type 0
IsOfToken [] k = ⊥
IsOfToken (t ∷ ts) k = ((t.at ≤ k) × (k < t.at + t.len)) ⊎ IsOfToken ts k

-- the byte at k is of a backslash and a newline that join two lines
abbrev pub IsOfJoin : List ℕ → ℕ → Type 0
IsOfJoin bs k = (j : ℕ) × (slice_index bs j ≡ 92) × (slice_index bs (j + 1) ≡ 10) × (j ≤ k) × (k ≤ j + 1)

-- the byte at k is of a blank or a comment that the walk passes over
pub record IsOfGap (bs : List ℕ) (k : ℕ) : Type 0 where
  pub before : Place
  pub after : Place
  pub sign : Sign
  pub others : List Sign
  pub reached : Reaches (begin bs) before
  pub left : before.rest.left ≡ sign ∷ others
  pub gap : (is_blank sign.code ≡ true) ⊎ ((opens_line (sign ∷ others) ≡ true) ⊎ (opens_block (sign ∷ others) ≡ true))
  pub goes : next before ≡ Some after
  pub on : sign.at ≤ k
  pub within : k < after.rest.behind

-- the byte at k is of a token, a blank, a comment or a join
abbrev pub IsAccounted : List ℕ → List Token → ℕ → Type 0
IsAccounted bs ts k = IsOfToken ts k ⊎ (IsOfGap bs k ⊎ IsOfJoin bs k)

-- A source has tokens or a fault.
abbrev pub HasAnswer : List ℕ → Type 0
HasAnswer bs = ((ts : List Token) × IsLexed bs ts) ⊎ ((at : ℕ) × (kind : LexKind) × IsFault bs at kind)
