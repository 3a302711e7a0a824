-- Where a needle is cut, and how far it moves then.
use Rattle.std.specs.Prelude.{ℕ, ◌<◌, ◌≤◌}
use Rattle.lp_search.specs.Critical.{IsPeriod, IsCritical, NoPeriodBelow}
use Rattle.lp_search.specs.declared.two_way.Shift.{Shift}
use Rattle.lp_search.specs.declared.two_way.Shift.TheVariants.{Small, Large}
use Rattle.lp_search.specs.declared.two_way.SuffixKind.{SuffixKind}
use Rattle.lp_search.specs.declared.two_way.SuffixKind.TheVariants.{Minimal, Maximal}

-- which of two values comes first in the order of a kind of suffix
unfoldable pub Precedes : SuffixKind → ℕ → ℕ → Type 0
Precedes Maximal a b = a < b
Precedes Minimal a b = b < a

-- the values of a needle that the shift leaves no match between
unfoldable pub IsShift : (ℕ → ℕ) → ℕ → ℕ → Shift → Type 0
IsShift x m c (Small p) = (0 < p) × (c < p) × (p ≤ m) × IsPeriod x m p × NoPeriodBelow x m p
IsShift x m c (Large s) = (0 < s) × (s ≤ m) × NoPeriodBelow x m s

-- a needle of m values cut at c, with its shift
pub record IsCut (x : ℕ → ℕ) (m c : ℕ) (shift : Shift) : Type 0 where
  pub below : c < m
  pub critical : IsCritical x m c
  pub shifts : IsShift x m c shift
