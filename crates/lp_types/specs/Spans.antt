-- Integers that labels cover, as spans in a tree.
use Rattle.std.specs.Prelude.{◌≡◌, ℤ, List, [], ◌∷◌, ◌++◌, Bool, ◌||◌, ◌&&◌, int_le, ⊤}
use Rattle.std.specs.List.{list_any, list_all}
use Rattle.lp_types.specs.declared.spans.Span.{Span}
use Rattle.lp_types.specs.declared.spans.Opened.{Opened}
use Rattle.lp_types.specs.declared.spans.Tree.{Tree, Leaf, Fork'}

-- whether a span has an integer that is not below one bound nor above another, where each of the two has integers
abbrev pub is_hit : ℤ → ℤ → Span → Bool
is_hit from to s = int_le s.from to && int_le from s.to

-- whether one of some spans has
abbrev pub are_hit : ℤ → ℤ → List Span → Bool
are_hit from to ss = list_any (is_hit from to) ss

-- whether one of some spans begins at an integer or before it
abbrev pub any_begins : ℤ → List Span → Bool
any_begins n ss = list_any (λ s. int_le s.from n) ss

-- whether all do
abbrev pub all_begin : ℤ → List Span → Bool
all_begin n ss = list_all (λ s. int_le s.from n) ss

-- whether one of some spans ends at an integer or behind it
abbrev pub any_ends : ℤ → List Span → Bool
any_ends n ss = list_any (λ s. int_le n s.to) ss

-- the spans of a tree
abbrev pub spans_in : Tree → List Span
spans_in Leaf = []
spans_in (Fork' p left span first last reach right) = spans_in left ++ span ∷ spans_in right

-- What a branch keeps of some spans: where the first and the last of them begin, and the furthest that one reaches.
pub record IsSummary (first last reach : ℤ) (ss : List Span) : Type 0 where
  pub first_is : (n : ℤ) → int_le first n ≡ any_begins n ss
  pub last_is : (n : ℤ) → int_le last n ≡ all_begin n ss
  pub reach_is : (n : ℤ) → int_le n reach ≡ any_ends n ss

-- each branch of a tree keeps what it should
abbrev pub IsSummed : Tree → Type 0
IsSummed Leaf = ⊤
IsSummed (Fork' p left span first last reach right) = IsSummary first last reach (spans_in left ++ span ∷ spans_in right) × IsSummed left × IsSummed right

-- what a tree has hit when a span is put to it
abbrev pub IsWith : Span → List Span → List Span → Type 0
IsWith s old new = (from to : ℤ) → are_hit from to new ≡ (is_hit from to s || are_hit from to old)

-- a span that has what two others have
abbrev pub IsWider : Span → Span → Span → Type 0
IsWider s old new = (from to : ℤ) → is_hit from to new ≡ (is_hit from to s || is_hit from to old)

-- The spans of a tree are those of a branch: those of its left branch, its own, and those of its right branch.
pub record IsOpened (all : List Span) (o : Opened) : Type 0 where
  pub spans : all ≡ spans_in o.left ++ o.span ∷ spans_in o.right
  pub left : IsSummed o.left
  pub right : IsSummed o.right
