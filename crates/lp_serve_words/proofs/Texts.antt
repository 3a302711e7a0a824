-- Texts that are compared byte by byte.
use Rattle.std.proofs.Common.{◌≡◌, ◌∙◌, ◌<◌, ◌≤◌, ℕ, List, [], ◌∷◌, ◌&&◌, Bool, true, false, map, length, get_or, refl, sym, ap, arith, nat_eq}
use Rattle.std.specs.Prelude.{IsTrue}
use Rattle.std.specs.Cmp.Lexicographic.{pointwise}
use Rattle.std.proofs.lemmas.Bool.{eqb-true, eq-eqb}

both : (a b : Bool) → a && b ≡ true → (a ≡ true) × (b ≡ true)
both true b e = (refl, e)
both false b e = absurd cc

pub pointwise-same : (xs ys : List ℕ) → pointwise nat_eq xs ys ≡ true → xs ≡ ys
pointwise-same [] [] e = refl
pointwise-same [] (y ∷ ys) e = absurd cc
pointwise-same (x ∷ xs) [] e = absurd cc
pointwise-same (x ∷ xs) (y ∷ ys) e = let w = both (nat_eq x y) (pointwise nat_eq xs ys) e in ap (λ z. z ∷ xs) (eqb-true x y w.0) ∙ ap (λ zs. y ∷ zs) (pointwise-same xs ys w.1)

pub pointwise-refl : (xs : List ℕ) → pointwise nat_eq xs xs ≡ true
pointwise-refl [] = refl
pointwise-refl (x ∷ xs) = ap (λ b. b && pointwise nat_eq xs xs) (eq-eqb x x refl) ∙ pointwise-refl xs

head_same : (x y : List ℕ) → x ∷ [] ≡ y ∷ [] → x ≡ y
head_same x y e = cc

-- a list of one text
pub one_text : {A : Type 0} (f : A → List ℕ) (ws : List A) (w : A) (t : List ℕ) (b : Bool) → 1 ≤ length ws → length ws < 2 → w ≡ get_or ws 0 w → b ≡ pointwise nat_eq (f w) t
    → (IsTrue b → map f ws ≡ t ∷ []) × (map f ws ≡ t ∷ [] → IsTrue b)
one_text f [] w t b l m e p = absurd (omega arith)
one_text f (v ∷ u ∷ ws) w t b l m e p = absurd (omega arith)
one_text f (v ∷ []) w t b l m e p =
    let same : w ≡ v = e in (
      λ h. ap (λ x. x ∷ []) (ap f (sym same) ∙ pointwise-same (f w) t (sym p ∙ h)),
      λ h. p ∙ ap (λ x. pointwise nat_eq x t) (ap f same ∙ head_same (f v) t h) ∙ pointwise-refl t,
    )
