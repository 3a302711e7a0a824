-- Parents that a call names, and lists that go side by side.
use Rattle.std.proofs.Common.{◌≡◌, ℕ, zero, suc, ◌+◌, ◌<◌, ◌≤◌, refl, sym, ap, subst, ◌∙◌, arith, Bool, true, false, cond, List, [], ◌∷◌, ◌++◌, length, take, get_or}
use Rattle.std.specs.Prelude.{filter}
use Rattle.std.specs.List.{AllZip}
use Rattle.lp_types_expr.proofs.Declaring.{take_one}

pub zip_snoc : {A B : Type 0} (R : A → B → Type 0) (xs : List A) (ys : List B) (x : A) (y : B) → AllZip R xs ys → R x y → AllZip R (xs ++ x ∷ []) (ys ++ y ∷ [])
zip_snoc R [] [] x y h r = (r, tt)
zip_snoc R [] (b ∷ ys) x y h r = absurd h
zip_snoc R (a ∷ xs) [] x y h r = absurd h
zip_snoc R (a ∷ xs) (b ∷ ys) x y h r = (h.0, zip_snoc R xs ys x y h.1 r)

pub zip_next : {A B : Type 0} (R : A → B → Type 0) (xs : List A) (ys : List B) (i : ℕ) (x : A) (y : B) → i < length xs → x ≡ get_or xs i x → AllZip R (take i xs) ys → R x y → AllZip R (take (i + 1) xs) (ys ++ y ∷ [])
zip_next R xs ys i x y h e z r =
    let f : suc i ≡ i + 1 = omega arith in
    subst (λ n. AllZip R (take n xs) (ys ++ y ∷ [])) f (subst (λ l. AllZip R l (ys ++ y ∷ [])) (sym (take_one xs i x h e)) (zip_snoc R (take i xs) ys x y z r))

cond_cons : {A : Type 0} (b : Bool) (x : A) (xs ys : List A) → cond b (x ∷ (xs ++ ys)) (xs ++ ys) ≡ cond b (x ∷ xs) xs ++ ys
cond_cons true x xs ys = refl
cond_cons false x xs ys = refl

filter_snoc : {A : Type 0} (f : A → Bool) (xs : List A) (x : A) → filter f (xs ++ x ∷ []) ≡ filter f xs ++ cond (f x) (x ∷ []) []
filter_snoc f [] x = refl
filter_snoc f (y ∷ xs) x = ap (λ l. cond (f y) (y ∷ l) l) (filter_snoc f xs x) ∙ cond_cons (f y) y (filter f xs) (cond (f x) (x ∷ []) [])

pub filter_next : {A : Type 0} (f : A → Bool) (xs : List A) (i : ℕ) (x : A) → i < length xs → x ≡ get_or xs i x → filter f (take (i + 1) xs) ≡ filter f (take i xs) ++ cond (f x) (x ∷ []) []
filter_next f xs i x h e =
    let g : suc i ≡ i + 1 = omega arith in
    ap (λ n. filter f (take n xs)) (sym g) ∙ ap (filter f) (take_one xs i x h e) ∙ filter_snoc f (take i xs) x

pub nil_right : {A : Type 0} (xs : List A) → xs ++ [] ≡ xs
nil_right [] = refl
nil_right (x ∷ xs) = ap (λ l. x ∷ l) (nil_right xs)

pub all_taken : {A : Type 0} (xs : List A) (i : ℕ) → length xs ≤ i → take i xs ≡ xs
all_taken [] zero h = refl
all_taken [] (suc i) h = refl
all_taken (x ∷ xs) zero h = absurd (omega (arith, h))
all_taken (x ∷ xs) (suc i) h = ap (λ l. x ∷ l) (all_taken xs i (omega (arith, h)))

kept : {A B : Type 0} (R : A → B → Type 0) (b : Bool) (x : A) (y : B) (xs : List A) (ys : List B) → R x y → AllZip R xs ys → AllZip R (cond b (x ∷ xs) xs) (cond b (y ∷ ys) ys)
kept R true x y xs ys r h = (r, h)
kept R false x y xs ys r h = h

pub zip_filter : {A B : Type 0} (R : A → B → Type 0) (f : A → Bool) (g : B → Bool) → ((x : A) (y : B) → R x y → f x ≡ g y) → (xs : List A) (ys : List B) → AllZip R xs ys → AllZip R (filter f xs) (filter g ys)
zip_filter R f g k [] [] h = tt
zip_filter R f g k [] (y ∷ ys) h = absurd h
zip_filter R f g k (x ∷ xs) [] h = absurd h
zip_filter {A} {B} R f g k (x ∷ xs) (y ∷ ys) h =
    subst (λ b. AllZip R (filter f (x ∷ xs)) (cond b (y ∷ filter g ys) (filter g ys))) (k x y h.0) (kept R (f x) x y (filter f xs) (filter g ys) h.0 (zip_filter R f g k xs ys h.1))
