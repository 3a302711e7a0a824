-- Where names of functions stand in an inheritance tree.
use Rattle.std.proofs.Common.{◌≡◌, ◌∙◌, ℕ, zero, suc, Bool, true, false, ◌||◌, is_some, List, [], ◌∷◌, ◌++◌, Option, Some, None, refl, ap, if◌then◌else◌}
use Rattle.std.specs.Prelude.{◌+◌, slice_get}
use Rattle.std.specs.List.{list_any}
use Rattle.std.proofs.lemmas.List.Folds.{list_any-append}
use Rattle.lp_tree.specs.Units.{ItemTree, Inherit, Proto, Fun, Var}
use Rattle.lp_instr.specs.EfunList.{is_name}
use Rattle.lp_language.specs.Resolve.{Found, Function, Heritage, Heritages, Heir, NoParent, OneParent, found_in, moved, names_before, names_in, or_else, own_function, own_names, part_count, parts_before, resolve, resolve_last, shown}

differ : false ≡ true → ⊥
differ q = cc

-- an item of which something holds
pub any_in : {A : Type 0} (p : A → Bool) (xs : List A) → list_any p xs ≡ true → (x : A) × (k : ℕ) × (slice_get xs k ≡ Some x) × (p x ≡ true)
any_in p [] e = absurd (differ e)
any_in {A = A} p (x ∷ xs) e = by (p x) refl e (any_in p xs)
  where
    by : (b : Bool) → p x ≡ b → b || list_any p xs ≡ true → (list_any p xs ≡ true → (y : A) × (k : ℕ) × (slice_get xs k ≡ Some y) × (p y ≡ true)) → (y : A) × (k : ℕ) × (slice_get (x ∷ xs) k ≡ Some y) × (p y ≡ true)
    by true q e f = (x, zero, refl, q)
    by false q e f = let r = f e in (r.0, suc r.1, r.2, r.3)

or_right : (a b : Bool) → b ≡ true → a || b ≡ true
or_right true b h = refl
or_right false b h = h

pub in_any : {A : Type 0} (p : A → Bool) (xs : List A) (k : ℕ) (x : A) → slice_get xs k ≡ Some x → p x ≡ true → list_any p xs ≡ true
in_any p [] k x e h = cc
in_any p (y ∷ ys) zero x e h = let s : y ≡ x = cc in ap (λ z. p z || list_any p ys) s ∙ ap (λ b. b || list_any p ys) h
in_any p (y ∷ ys) (suc k) x e h = or_right (p y) (list_any p ys) (in_any p ys k x e h)

-- a name among others
abbrev pub is_listed : List ℕ → List (List ℕ) → Bool
is_listed w names = list_any (λ n. is_name n w) names

or_both : (xs ys : List (List ℕ)) (w : List ℕ) → is_listed w xs || is_listed w ys ≡ true → is_listed w (xs ++ ys) ≡ true
or_both xs ys w h = list_any-append (λ n. is_name n w) xs ys ∙ h

-- a file's own function has its name there
own_listed : (is : List ItemTree) (w : List ℕ) → is_some (own_function is w) ≡ true → is_listed w (own_names is) ≡ true
own_listed [] w e = absurd (differ e)
own_listed (Inherit line path ∷ is) w e = own_listed is w e
own_listed (Proto line ms ty name ps ∷ is) w e = own_listed is w e
own_listed (Fun line ms ty name ps b ∷ is) w e = by (is_name name w) _ e (own_listed is w)
  where
    by : (v : Bool) (f : Function) → is_some (if v then Some f else own_function is w) ≡ true → (is_some (own_function is w) ≡ true → is_listed w (own_names is) ≡ true) → v || is_listed w (own_names is) ≡ true
    by true f e g = refl
    by false f e g = g e
own_listed (Var line ms base ds ∷ is) w e = own_listed is w e

-- what is moved, or shown, is something
moved_some : (n : ℕ) (x : Option Found) → is_some (moved n x) ≡ true → is_some x ≡ true
moved_some n None e = e
moved_some n (Some f) e = refl

shown_some : (x : Option Found) → is_some (shown x) ≡ true → is_some x ≡ true
shown_some None e = e
shown_some (Some f) e = refl

either_some : (x y : Option Found) (a b : Bool) → (is_some x ≡ true → a ≡ true) → (is_some y ≡ true → b ≡ true) → is_some (or_else x y) ≡ true → a || b ≡ true
either_some None y a b f g e = or_right a b (g e)
either_some (Some x) y a b f g e = ap (λ v. v || b) (f refl)

found_some : (n : ℕ) (f : Option Function) → is_some (found_in n f) ≡ true → is_some f ≡ true
found_some n None e = e
found_some n (Some f) e = refl

either_back : (x y : Option Found) (a b : Bool) → (is_some x ≡ true → b ≡ true) → (is_some y ≡ true → a ≡ true) → is_some (or_else x y) ≡ true → a || b ≡ true
either_back None y a b f g e = ap (λ v. v || b) (g e)
either_back (Some x) y a b f g e = or_right a b (f refl)

-- a name that means a function is the name of one in the tree
mutual
  pub listed : (h : Heritage) (w : List ℕ) → is_some (resolve h w) ≡ true → is_listed w (names_in h) ≡ true
  listed (Heir n v ps) w e =
      or_both (own_names v.items) (names_before ps) w
      (either_some (found_in (parts_before ps) (own_function v.items w)) (resolve_last ps 0 w) (is_listed w (own_names v.items)) (is_listed w (names_before ps))
      (λ f. own_listed v.items w (found_some (parts_before ps) (own_function v.items w) f)) (λ f. listed_last ps 0 w f) e)

  listed_last : (hs : Heritages) (first : ℕ) (w : List ℕ) → is_some (resolve_last hs first w) ≡ true → is_listed w (names_before hs) ≡ true
  listed_last NoParent first w e = absurd (differ e)
  listed_last (OneParent h hs) first w e =
      or_both (names_in h) (names_before hs) w
      (either_back (resolve_last hs (first + part_count h) w) (moved first (shown (resolve h w))) (is_listed w (names_in h)) (is_listed w (names_before hs))
      (λ f. listed_last hs (first + part_count h) w f) (λ f. listed h w (shown_some (resolve h w) (moved_some first (shown (resolve h w)) f))) e)
