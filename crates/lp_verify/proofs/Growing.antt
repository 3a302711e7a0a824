-- What is learned grows.
use Rattle.std.proofs.Common.{◌≡◌, ◌≤◌, ◌<◌, ℕ, zero, suc, ◌+◌, ◌⊎◌, inl, inr, refl, sym, ◌∙◌, ap, subst, arith, List, [], ◌∷◌, ◌++◌, All, Contains, length, slice_set}
use Rattle.std.proofs.lemmas.List.{length-set, length-append}
use Rattle.std.proofs.lemmas.List.Elements.{All-append, All-cons, All-nil, All-head, All-tail, All-weaker, Contains-append_left, Contains-append_right}
use Rattle.lp_verify.specs.Paths.{Known, Never, Once, Mixed, Fits, joined, Way, Ways, two, at}
use Rattle.lp_verify.specs.Work.{IsLearned, AreLearned, Says, open_of, left, Grows}

pub same_or : (p i : ℕ) → (p ≡ i) ⊎ (p ≡ i → ⊥)
same_or zero zero = inl refl
same_or zero (suc i) = inr (λ e. omega (arith, e))
same_or (suc p) zero = inr (λ e. omega (arith, e))
same_or (suc p) (suc i) = elim (same_or p i) [ inl e ↦ inl (ap suc e) | inr n ↦ inr (λ e. n (omega (arith, e))) ]

pub at-set_same : (xs : List Known) (i : ℕ) (v : Known) → i < length xs → at (slice_set xs i v) i ≡ v
at-set_same [] i v h = absurd (omega (arith, h))
at-set_same (x ∷ xs) zero v h = refl
at-set_same (x ∷ xs) (suc i) v h = at-set_same xs i v (omega (arith, h))

pub at-set_other : (xs : List Known) (i p : ℕ) (v : Known) → (p ≡ i → ⊥) → at (slice_set xs i v) p ≡ at xs p
at-set_other [] i p v h = refl
at-set_other (x ∷ xs) zero zero v h = absurd (h refl)
at-set_other (x ∷ xs) zero (suc p) v h = refl
at-set_other (x ∷ xs) (suc i) zero v h = refl
at-set_other (x ∷ xs) (suc i) (suc p) v h = at-set_other xs i p v (λ e. h (ap suc e))

pub left-set : (xs : List Known) (i : ℕ) (v : Known) → i < length xs → left (slice_set xs i v) + open_of (at xs i) ≡ left xs + open_of v
left-set [] i v h = absurd (omega (arith, h))
left-set (x ∷ xs) zero v h = omega arith
left-set (x ∷ xs) (suc i) v h = let e = left-set xs i v (omega (arith, h)) in omega (arith, e)

pub fits_same : (k : Known) → Fits k k
fits_same Never = tt
fits_same (Once a) = refl
fits_same Mixed = tt

pub fits_mixed : (k : Known) → Fits k Mixed
fits_mixed Never = tt
fits_mixed (Once a) = tt
fits_mixed Mixed = tt

pub fits_trans : (x y z : Known) → Fits x y → Fits y z → Fits x z
fits_trans Never y z h g = tt
fits_trans (Once a) Never z h g = absurd h
fits_trans (Once a) (Once b) Never h g = absurd g
fits_trans (Once a) (Once b) (Once c) h g = h ∙ g
fits_trans (Once a) (Once b) Mixed h g = tt
fits_trans (Once a) Mixed Never h g = absurd g
fits_trans (Once a) Mixed (Once c) h g = absurd g
fits_trans (Once a) Mixed Mixed h g = tt
fits_trans Mixed Never z h g = absurd h
fits_trans Mixed (Once b) z h g = absurd h
fits_trans Mixed Mixed z h g = g

joined_old : (k x : Known) → Fits k (joined k x)
joined_old Never x = tt
joined_old (Once a) x = tt
joined_old Mixed x = tt

joined_new : (k x : Known) → Fits x (joined k x)
joined_new Never x = fits_same x
joined_new (Once a) x = fits_mixed x
joined_new Mixed x = fits_mixed x

joined_less : (k x : Known) → (Fits x k → ⊥) → open_of (joined k x) + 1 ≤ open_of k
joined_less Never Never h = absurd (h tt)
joined_less Never (Once a) h = omega arith
joined_less Never Mixed h = omega arith
joined_less (Once a) x h = omega arith
joined_less Mixed x h = absurd (h (fits_mixed x))

joined_learned : (ways : Ways) (starts : List ℕ) (p : ℕ) (k x : Known) → IsLearned ways starts p k → IsLearned ways starts p x → (Fits x k → ⊥) → IsLearned ways starts p (joined k x)
joined_learned ways starts p Never x h g n = g
joined_learned ways starts p (Once a) Never h g n = absurd (n tt)
joined_learned ways starts p (Once a) (Once b) h g n = two h g (λ e. n (sym e))
joined_learned ways starts p (Once a) Mixed h g n = g
joined_learned ways starts p Mixed x h g n = h

-- a way that was said already
pub grows_none : (xs : List Known) (todo : List ℕ) (w : Way) → Fits w.known (at xs w.to) → Grows (w ∷ []) xs todo xs todo
grows_none xs todo w h = record {
  size = refl;
  above = λ p. fits_same (at xs p);
  says = All-cons (λ w. Fits w.known (at xs w.to)) w [] h (All-nil (λ w. Fits w.known (at xs w.to)));
  changed = λ p. inl refl;
  stays = λ p c. c;
  inside = λ a. a;
  less = omega arith;
  learned = λ ways starts a b. a;
}

learned_one : (ways : Ways) (starts : List ℕ) (xs : List Known) (w : Way) (v : Known) → w.to < length xs → (Fits w.known (at xs w.to) → ⊥) → v ≡ joined (at xs w.to) w.known
    → AreLearned ways starts xs → IsLearned ways starts w.to w.known → AreLearned ways starts (slice_set xs w.to v)
learned_one ways starts xs w v h n e a b p = elim (same_or p w.to) [
  | inl i ↦ let P : ℕ → Type 0 = λ q. IsLearned ways starts q (at (slice_set xs w.to v) q) in
      let Q : Known → Type 0 = λ k. IsLearned ways starts w.to k in
      subst P (sym i) (subst Q (sym (at-set_same xs w.to v h ∙ e)) (joined_learned ways starts w.to (at xs w.to) w.known (a w.to) b n))
  | inr o ↦ let Q : Known → Type 0 = λ k. IsLearned ways starts p k in subst Q (sym (at-set_other xs w.to p v o)) (a p)
]

above_one : (xs : List Known) (w : Way) (v : Known) → w.to < length xs → v ≡ joined (at xs w.to) w.known → (p : ℕ) → Fits (at xs p) (at (slice_set xs w.to v) p)
above_one xs w v h e p = elim (same_or p w.to) [
  | inl i ↦ let P : ℕ → Type 0 = λ q. Fits (at xs q) (at (slice_set xs w.to v) q) in
      let Q : Known → Type 0 = λ k. Fits (at xs w.to) k in
      subst P (sym i) (subst Q (sym (at-set_same xs w.to v h ∙ e)) (joined_old (at xs w.to) w.known))
  | inr o ↦ let Q : Known → Type 0 = λ k. Fits (at xs p) k in subst Q (sym (at-set_other xs w.to p v o)) (fits_same (at xs p))
]

contains_last : (xs : List ℕ) (x : ℕ) → Contains (xs ++ (x ∷ [])) x
contains_last xs x = Contains-append_right xs (x ∷ []) x (0, omega arith, refl)

changed_one : (xs : List Known) (todo : List ℕ) (w : Way) (v : Known) (p : ℕ) → (at (slice_set xs w.to v) p ≡ at xs p) ⊎ Contains (todo ++ (w.to ∷ [])) p
changed_one xs todo w v p = elim (same_or p w.to) [
  | inl i ↦ let P : ℕ → Type 0 = λ q. Contains (todo ++ (w.to ∷ [])) q in inr (subst P (sym i) (contains_last todo w.to))
  | inr o ↦ inl (at-set_other xs w.to p v o)
]

less_one : (xs : List Known) (w : Way) (v : Known) → w.to < length xs → (Fits w.known (at xs w.to) → ⊥) → v ≡ joined (at xs w.to) w.known → left (slice_set xs w.to v) + 1 ≤ left xs
less_one xs w v h n e =
    let a = left-set xs w.to v h in let b = joined_less (at xs w.to) w.known n in let c = ap open_of e in omega (arith, a, b, c)

says_one : (xs : List Known) (w : Way) → Fits w.known (at xs w.to) → Says xs (w ∷ [])
says_one xs w h = All-cons (λ w. Fits w.known (at xs w.to)) w [] h (All-nil (λ w. Fits w.known (at xs w.to)))

inside_one : (n x : ℕ) → x < n → All (λ p. p < n) (x ∷ [])
inside_one n x h = All-cons (λ p. p < n) x [] h (All-nil (λ p. p < n))

-- a way that is new
pub grows_one : (xs : List Known) (todo todo' : List ℕ) (w : Way) (v : Known) → w.to < length xs → (Fits w.known (at xs w.to) → ⊥) → v ≡ joined (at xs w.to) w.known
    → todo' ≡ todo ++ (w.to ∷ []) → length todo' ≡ length todo + 1 → Grows (w ∷ []) xs todo (slice_set xs w.to v) todo'
grows_one xs todo todo' w v h n e t l = let R : List ℕ → Type 0 = λ ts. length ts ≡ length todo + 1 → Grows (w ∷ []) xs todo (slice_set xs w.to v) ts in
    subst R (sym t) (λ l. record {
      size = length-set xs w.to v;
      above = above_one xs w v h e;
      says = (let Q : Known → Type 0 = λ k. Fits w.known k in says_one (slice_set xs w.to v) w (subst Q (sym (at-set_same xs w.to v h ∙ e)) (joined_new (at xs w.to) w.known)));
      changed = changed_one xs todo w v;
      stays = λ p c. Contains-append_left todo (w.to ∷ []) p c;
      inside = λ a. All-append (λ p. p < length xs) todo (w.to ∷ []) a (inside_one (length xs) w.to h);
      less = let a = less_one xs w v h n e in omega (arith, a, l);
      learned = λ ways starts a b. learned_one ways starts xs w v h n e a (All-head (λ w. IsLearned ways starts w.to w.known) w [] b);
    }) l

pub longer : (xs ys : List ℕ) (x : ℕ) → ys ≡ xs ++ (x ∷ []) → length ys ≡ length xs + 1
longer xs ys x e = ap length e ∙ length-append xs (x ∷ [])

pub grows_nothing : (xs : List Known) (todo : List ℕ) → Grows [] xs todo xs todo
grows_nothing xs todo = record {
  size = refl;
  above = λ p. fits_same (at xs p);
  says = All-nil (λ w. Fits w.known (at xs w.to));
  changed = λ p. inl refl;
  stays = λ p c. c;
  inside = λ a. a;
  less = omega arith;
  learned = λ ways starts a b. a;
}

all_left : (P : Way → Type 0) (xs ys : List Way) → All P (xs ++ ys) → All P xs
all_left P [] ys h = All-nil P
all_left P (x ∷ xs) ys h = All-cons P x xs (All-head P x (xs ++ ys) h) (all_left P xs ys (All-tail P x (xs ++ ys) h))

all_right : (P : Way → Type 0) (xs ys : List Way) → All P (xs ++ ys) → All P ys
all_right P [] ys h = h
all_right P (x ∷ xs) ys h = all_right P xs ys (All-tail P x (xs ++ ys) h)

changed_then : (a b c : List Known) (u v : List ℕ) (p : ℕ) → (at b p ≡ at a p) ⊎ Contains u p → (at c p ≡ at b p) ⊎ Contains v p → (Contains u p → Contains v p) → (at c p ≡ at a p) ⊎ Contains v p
changed_then a b c u v p (inl e) (inl f) s = inl (f ∙ e)
changed_then a b c u v p (inr m) (inl f) s = inr (s m)
changed_then a b c u v p h (inr m) s = inr m

inside_then : (m n : ℕ) (t u v : List ℕ) → n ≡ m → (All (λ p. p < m) t → All (λ p. p < m) u) → (All (λ p. p < n) u → All (λ p. p < n) v) → All (λ p. p < m) t → All (λ p. p < m) v
inside_then m n t u v e f g a =
    All-weaker (λ p. p < n) (λ p. p < m) (λ x h. omega (arith, h, e)) v (g (All-weaker (λ p. p < m) (λ p. p < n) (λ x h. omega (arith, h, e)) u (f a)))

-- one after the other
pub grows_then : (xs ys : List Way) (a b c : List Known) (t u v : List ℕ) → Grows xs a t b u → Grows ys b u c v → Grows (xs ++ ys) a t c v
grows_then xs ys a b c t u v g h = record {
  size = h.size ∙ g.size;
  above = λ p. fits_trans (at a p) (at b p) (at c p) (g.above p) (h.above p);
  says = All-append (λ w. Fits w.known (at c w.to)) xs ys
      (All-weaker (λ w. Fits w.known (at b w.to)) (λ w. Fits w.known (at c w.to)) (λ w f. fits_trans w.known (at b w.to) (at c w.to) f (h.above w.to)) xs g.says) h.says;
  changed = λ p. changed_then a b c u v p (g.changed p) (h.changed p) (h.stays p);
  stays = λ p m. h.stays p (g.stays p m);
  inside = inside_then (length a) (length b) t u v g.size g.inside h.inside;
  less = let x = g.less in let y = h.less in omega (arith, x, y);
  learned = λ ways starts l k. h.learned ways starts
      (g.learned ways starts l (all_left (λ w. IsLearned ways starts w.to w.known) xs ys k))
      (all_right (λ w. IsLearned ways starts w.to w.known) xs ys k);
}
