-- A window of a list of bytes.
use Rattle.std.proofs.Common.{◌≡◌, ◌∙◌, ℕ, zero, suc, ◌+◌, ◌<◌, List, [], ◌∷◌, drop, length, slice_get, sym, refl, subst, take, arith, inl}
use Rattle.std.specs.Prelude.{Some}
use Rattle.lp_swapfile.specs.Device.{Holds, IsHonestRead, IsTrueRead}
use Rattle.lp_swapfile.proofs.HoldLemmas.{holds-same}
use Rattle.lp_memory_file.specs.Holding.{file_of}

front_is : (xs : List ℕ) (n i : ℕ) → i < n → slice_get (take n xs) i ≡ slice_get xs i
front_is xs zero i h = absurd (omega (arith, h))
front_is [] (suc n) i h = refl
front_is (x ∷ xs) (suc n) zero h = refl
front_is (x ∷ xs) (suc n) (suc i) h = front_is xs n i (omega (arith, h))

behind_is : (xs : List ℕ) (a i : ℕ) → slice_get (drop a xs) i ≡ slice_get xs (a + i)
behind_is xs zero i = let e : i ≡ 0 + i = omega arith in subst (λ n. slice_get xs i ≡ slice_get xs n) e refl
behind_is [] (suc a) i = refl
behind_is (x ∷ xs) (suc a) i = let e : suc (a + i) ≡ suc a + i = omega arith in subst (λ n. slice_get (drop a xs) i ≡ slice_get (x ∷ xs) n) e (behind_is xs a i)

-- each byte of a window stands in the list
pub window_holds : (xs : List ℕ) (a n : ℕ) (got : List ℕ) → got ≡ take n (drop a xs) → length got ≡ n → Holds (file_of xs) a got
window_holds xs a n got e l i h = sym (subst (λ y. slice_get y i ≡ slice_get xs (a + i)) (sym e) (front_is (drop a xs) n i (subst (λ m. i < m) l h) ∙ behind_is xs a i))

-- so a read that gives it is honest, and true
pub window_honest : (xs : List ℕ) (a n : ℕ) (got : List ℕ) → got ≡ take n (drop a xs) → length got ≡ n → IsHonestRead (Some (file_of xs)) a got
window_honest xs a n got e l was same holds = holds-same (file_of xs) a got was (sym same) (window_holds xs a n got e l) holds

pub window_true : (xs : List ℕ) (a n : ℕ) (got : List ℕ) → got ≡ take n (drop a xs) → length got ≡ n → IsTrueRead (Some (file_of xs)) a got
window_true xs a n got e l was same holds = inl (window_honest xs a n got e l was same holds)
