-- Stars that two types both have are taken away from both.
use Rattle.std.proofs.Common.{◌≡◌, ℕ, zero, suc, ◌<◌, refl, arith}
use Rattle.lp_tree.specs.declared.keyword.Base.{Base}
use Rattle.lp_types_expr.specs.Kinds.{bases_fit, is_mixed_base}

pub fewer_stars : (a b : Base) (m n : ℕ) → m < n → bases_fit a m b n ≡ is_mixed_base a
fewer_stars a b zero zero h = absurd (omega (arith, h))
fewer_stars a b zero (suc n) h = refl
fewer_stars a b (suc m) zero h = absurd (omega (arith, h))
fewer_stars a b (suc m) (suc n) h = fewer_stars a b m n (omega (arith, h))

pub more_stars : (a b : Base) (m n : ℕ) → n < m → bases_fit a m b n ≡ is_mixed_base b
more_stars a b zero zero h = absurd (omega (arith, h))
more_stars a b zero (suc n) h = absurd (omega (arith, h))
more_stars a b (suc m) zero h = refl
more_stars a b (suc m) (suc n) h = more_stars a b m n (omega (arith, h))

pub same_stars : (a b : Base) (m n : ℕ) → m ≡ n → bases_fit a m b n ≡ bases_fit a 0 b 0
same_stars a b zero zero h = refl
same_stars a b zero (suc n) h = absurd (omega (arith, h))
same_stars a b (suc m) zero h = absurd (omega (arith, h))
same_stars a b (suc m) (suc n) h = same_stars a b m n (omega (arith, h))
