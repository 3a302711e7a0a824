-- Names in sets.
use Rattle.std.proofs.Common.{◌≡◌, ℕ, List, [], ◌∷◌, Bool, true, false, ◌||◌, nat_eq, Vec, IsPermutation, refl, sym, ap, ◌∙◌}
use Rattle.std.specs.List.{list_any}
use Rattle.std.specs.declared.alloc.Global.{Global}
use Rattle.std.proofs.lemmas.Bool.{and_parts, eqb-true}
use Rattle.std.proofs.lemmas.List.Sorted.{list_any-IsPermutation}
use Rattle.lp_instr.specs.EfunList.{is_name}

pub one_name : (v w : List ℕ) → is_name v w ≡ true → v ≡ w
one_name [] [] h = refl
one_name [] (y ∷ ys) h = absurd cc
one_name (x ∷ xs) [] h = absurd cc
one_name (x ∷ xs) (y ∷ ys) h =
    let p = and_parts (nat_eq x y) (is_name xs ys) h in
    ap (λ z. z ∷ xs) (eqb-true x y p.0) ∙ ap (λ zs. y ∷ zs) (one_name xs ys p.1)

or_known : (b x : Bool) → (b ≡ true → x ≡ true) → x ≡ (b || x)
or_known true x h = h refl
or_known false x h = refl

pub known : (ks : List (Vec ℕ Global)) (n w : List ℕ) → list_any (λ k. is_name n k.items) ks ≡ true → list_any (λ k. is_name w k.items) ks ≡ (is_name w n || list_any (λ k. is_name w k.items) ks)
known ks n w h = or_known (is_name w n) _ (λ e. ap (λ v. list_any (λ k. is_name v k.items) ks) (one_name w n e) ∙ h)

pub put : (old new : List (Vec ℕ Global)) (key : Vec ℕ Global) (n w : List ℕ) → key.items ≡ n → IsPermutation (key ∷ old) new → list_any (λ k. is_name w k.items) new ≡ (is_name w n || list_any (λ k. is_name w k.items) old)
put old new key n w e p = sym (list_any-IsPermutation (λ k. is_name w k.items) (key ∷ old) new p) ∙ ap (λ v. is_name w v || list_any (λ k. is_name w k.items) old) e
