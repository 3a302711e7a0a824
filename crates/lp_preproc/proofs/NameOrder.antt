-- Lists of names that are in order, round a name k.
use Rattle.std.proofs.Common.{◌≡◌, ℕ, Bool, true, false, List, [], ◌∷◌, ◌++◌, refl, sym, ap, ◌∙◌, append_assoc}
use Rattle.std.specs.Prelude.{if◌then◌else◌}
use Rattle.std.specs.Ordering.{ordering_reverse, is_eq}
use Rattle.std.specs.declared.cmp.Ordering.{Ordering}
use Rattle.std.specs.declared.cmp.Ordering.TheVariants.{Less, Equal, Greater}
use Rattle.std.proofs.lemmas.Cmp.{nat_list_cmp_total, alike_right}
use Rattle.std.proofs.lemmas.Bool.{true≢false}
use Rattle.std.proofs.lemmas.Map.Text.{is_eq-slice_cmp}
use Rattle.lp_preproc.specs.Names.{same_name, among, order, by_order, with_name, with_names}
use Rattle.lp_preproc.specs.NameTrees.{IsBeforeAll, AreInOrder}

-- ---- the order

behind : (x y : List ℕ) → order y x ≡ Less → order x y ≡ Greater
behind x y h = nat_list_cmp_total.antisymm x y ∙ ap ordering_reverse h

before : (x y : List ℕ) → order y x ≡ Greater → order x y ≡ Less
before x y h = nat_list_cmp_total.antisymm x y ∙ ap ordering_reverse h

differs : (x y : List ℕ) → order x y ≡ Less → same_name x y ≡ false
differs x y h = sym (is_eq-slice_cmp x y) ∙ ap is_eq h

differs_behind : (x y : List ℕ) → order x y ≡ Greater → same_name x y ≡ false
differs_behind x y h = sym (is_eq-slice_cmp x y) ∙ ap is_eq h

pub same : (x y : List ℕ) → order x y ≡ Equal → same_name x y ≡ true
same x y h = sym (is_eq-slice_cmp x y) ∙ ap is_eq h

-- ---- parts of a list in order

before_front : (n : List ℕ) (l m : List (List ℕ)) → IsBeforeAll n (l ++ m) → IsBeforeAll n l
before_front n [] m a = tt
before_front n (x ∷ l) m a = (a.0, before_front n l m a.1)

before_middle : (n : List ℕ) (l : List (List ℕ)) (k : List ℕ) (r : List (List ℕ)) → IsBeforeAll n (l ++ k ∷ r) → order n k ≡ Less
before_middle n [] k r a = a.0
before_middle n (y ∷ t) k r a = before_middle n t k r a.1

-- what comes before a name comes before all that it comes before
before_chain : (x y : List ℕ) (t : List (List ℕ)) → order x y ≡ Less → IsBeforeAll y t → IsBeforeAll x t
before_chain x y [] p a = tt
before_chain x y (z ∷ t) p a = (nat_list_cmp_total.trans x y z p a.0, before_chain x y t p a.1)

pub front : (l m : List (List ℕ)) → AreInOrder (l ++ m) → AreInOrder l
front [] m s = tt
front (x ∷ l) m s = (before_front x l m s.0, front l m s.1)

pub back : (l : List (List ℕ)) (k : List ℕ) (r : List (List ℕ)) → AreInOrder (l ++ k ∷ r) → AreInOrder r
back [] k r s = s.1
back (x ∷ l) k r s = back l k r s.1

-- ---- one name more

put_first : (o : Ordering) (x y : List ℕ) (t u m v : List (List ℕ)) → v ≡ u ++ m
    → by_order o (x ∷ y ∷ (t ++ m)) (y ∷ (t ++ m)) (y ∷ v) ≡ by_order o (x ∷ y ∷ t) (y ∷ t) (y ∷ u) ++ m
put_first Less x y t u m v e = refl
put_first Equal x y t u m v e = refl
put_first Greater x y t u m v e = ap (λ z. y ∷ z) e

pub with_left : (x k : List ℕ) (l r : List (List ℕ)) → order x k ≡ Less → with_name x (l ++ k ∷ r) ≡ with_name x l ++ k ∷ r
with_left x k [] r p = rw p refl
with_left x k (y ∷ t) r p = put_first (order x y) x y t (with_name x t) (k ∷ r) _ (with_left x k t r p)

with_later : (x y : List ℕ) (t : List (List ℕ)) → order y x ≡ Less → with_name x (y ∷ t) ≡ y ∷ with_name x t
with_later x y t p = rw (behind x y p) refl

pub with_right : (x k : List ℕ) (l r : List (List ℕ)) → order x k ≡ Greater → AreInOrder (l ++ k ∷ r) → with_name x (l ++ k ∷ r) ≡ l ++ k ∷ with_name x r
with_right x k [] r p s = rw p refl
with_right x k (y ∷ t) r p s =
    with_later x y (t ++ k ∷ r) (nat_list_cmp_total.trans y k x (before_middle y t k r s.0) (before k x p)) ∙ ap (λ z. y ∷ z) (with_right x k t r p s.1)

pub with_middle : (x k : List ℕ) (l r : List (List ℕ)) → order x k ≡ Equal → AreInOrder (l ++ k ∷ r) → with_name x (l ++ k ∷ r) ≡ l ++ k ∷ r
with_middle x k [] r p s = rw p refl
with_middle x k (y ∷ t) r p s =
    with_later x y (t ++ k ∷ r) (alike_right nat_list_cmp_total x k y p ∙ before_middle y t k r s.0) ∙ ap (λ z. y ∷ z) (with_middle x k t r p s.1)

before_with : (y x : List ℕ) (t : List (List ℕ)) → order y x ≡ Less → IsBeforeAll y t → IsBeforeAll y (with_name x t)
before_with y x [] p a = (p, tt)
before_with y x (z ∷ t) p a = by (order x z) (before_with y x t p a.1)
  where
    by : (o : Ordering) → IsBeforeAll y (with_name x t) → IsBeforeAll y (by_order o (x ∷ z ∷ t) (z ∷ t) (z ∷ with_name x t))
    by Less h = (p, a)
    by Equal h = a
    by Greater h = (a.0, h)

pub ordered_with : (x : List ℕ) (t : List (List ℕ)) → AreInOrder t → AreInOrder (with_name x t)
ordered_with x [] s = (tt, tt)
ordered_with x (y ∷ t) s = by (order x y) refl (ordered_with x t s.1)
  where
    by : (o : Ordering) → order x y ≡ o → AreInOrder (with_name x t) → AreInOrder (by_order o (x ∷ y ∷ t) (y ∷ t) (y ∷ with_name x t))
    by Less e h = ((e, before_chain x y t e s.0), s)
    by Equal e h = s
    by Greater e h = (before_with y x t (before y x e) s.0, h)

-- ---- a name among others

among_none : (x : List ℕ) (t : List (List ℕ)) → IsBeforeAll x t → among x t ≡ false
among_none x [] a = refl
among_none x (y ∷ t) a = rw (differs x y a.0) (among_none x t a.1)

pub among_left : (x k : List ℕ) (l r : List (List ℕ)) → order x k ≡ Less → AreInOrder (l ++ k ∷ r) → among x (l ++ k ∷ r) ≡ among x l
among_left x k [] r p s = among_none x (k ∷ r) (p, before_chain x k r p s.0)
among_left x k (y ∷ t) r p s = ap (λ b. if same_name x y then true else b) (among_left x k t r p s.1)

pub among_right : (x k : List ℕ) (l r : List (List ℕ)) → order x k ≡ Greater → AreInOrder (l ++ k ∷ r) → among x (l ++ k ∷ r) ≡ among x r
among_right x k [] r p s = rw (differs_behind x k p) refl
among_right x k (y ∷ t) r p s =
    rw (differs_behind x y (behind x y (nat_list_cmp_total.trans y k x (before_middle y t k r s.0) (before k x p)))) (among_right x k t r p s.1)

or_true : (b : Bool) → (if b then true else true) ≡ true
or_true true = refl
or_true false = refl

pub among_middle : (x k : List ℕ) (l r : List (List ℕ)) → order x k ≡ Equal → among x (l ++ k ∷ r) ≡ true
among_middle x k [] r p = rw (same x k p) refl
among_middle x k (y ∷ t) r p = ap (λ b. if same_name x y then true else b) (among_middle x k t r p) ∙ or_true (same_name x y)

-- a name that is there
pub with_present : (x : List ℕ) (t : List (List ℕ)) → AreInOrder t → among x t ≡ true → with_name x t ≡ t
with_present x [] s e = cc
with_present x (y ∷ t) s e = by (order x y) refl (with_present x t s.1)
  where
    by : (o : Ordering) → order x y ≡ o → (among x t ≡ true → with_name x t ≡ t) → by_order o (x ∷ y ∷ t) (y ∷ t) (y ∷ with_name x t) ≡ y ∷ t
    by Less p h = absurd (true≢false (sym e ∙ among_left x y [] t p s))
    by Equal p h = refl
    by Greater p h = ap (λ z. y ∷ z) (h (sym (among_right x y [] t p s) ∙ e))

-- ---- the names of a tree that was turned

pub turned : (a : List (List ℕ)) (j : List ℕ) (b : List (List ℕ)) (k : List ℕ) (c : List (List ℕ)) → (a ++ j ∷ b) ++ k ∷ c ≡ a ++ j ∷ (b ++ k ∷ c)
turned a j b k c = append_assoc a (j ∷ b) (k ∷ c)

-- ---- the names of both lists

pub with_all : (l : List (List ℕ)) (k : List ℕ) (r ns : List (List ℕ)) → with_names (l ++ k ∷ r) ns ≡ with_names r (with_name k (with_names l ns))
with_all [] k r ns = refl
with_all (x ∷ l) k r ns = with_all l k r (with_name x ns)
