-- The two orders of code points, which cut a needle.
use Rattle.std.proofs.Common.{◌<◌, ℕ, arith}
use Rattle.lp_search.specs.Cuts.{Precedes}
use Rattle.lp_search.specs.declared.two_way.SuffixKind.{SuffixKind}
use Rattle.lp_search.specs.declared.two_way.SuffixKind.TheVariants.{Minimal, Maximal}

pub Precedes-trans : (kind : SuffixKind) (a b c : ℕ) → Precedes kind a b → Precedes kind b c → Precedes kind a c
unfolding Precedes
Precedes-trans Maximal a b c p q = omega arith
Precedes-trans Minimal a b c p q = omega arith

pub Precedes-irrefl : (kind : SuffixKind) (a : ℕ) → Precedes kind a a → ⊥
unfolding Precedes
Precedes-irrefl Maximal a p = omega arith
Precedes-irrefl Minimal a p = omega arith

pub Precedes-opposed : (a b : ℕ) → Precedes Maximal a b → Precedes Minimal a b → ⊥
unfolding Precedes
Precedes-opposed a b p q = omega arith

pub Precedes-minimal : (a b : ℕ) → b < a → Precedes Minimal a b
unfolding Precedes
Precedes-minimal a b p = p

pub Precedes-maximal : (a b : ℕ) → a < b → Precedes Maximal a b
unfolding Precedes
Precedes-maximal a b p = p
