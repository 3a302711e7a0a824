-- Names are told apart.
use Rattle.std.proofs.Common.{◌≡◌, ◌≤◌, ◌<◌, ℕ, zero, suc, ◌+◌, refl, sym, ◌∙◌, ap, subst, arith, Bool, true, false, ◌||◌, cond, List, [], ◌∷◌, ◌++◌, Contains, length, get_or, Some, slice_get, IsTrue, not, inl, inr, ◌⊎◌}
use Rattle.std.specs.Prelude.{nat_eq}
use Rattle.std.specs.List.{list_any}
use Rattle.std.specs.Cmp.Lexicographic.{pointwise}
use Rattle.std.proofs.lemmas.Slice.Eq.{bytes_eq-Decides}
use Rattle.std.proofs.lemmas.Option.{slice_get_within, slice_get_read}
use Rattle.std.proofs.lemmas.List.Elements.{Contains-append_left, Contains-append_right, Contains-append_cases}
use Rattle.indexmap.specs.IndexSet.{insert_key}
use Rattle.lp_code.specs.declared.tables.Slot.{Slot}
use Rattle.lp_verify.specs.Names.{AreDistinctNames, Puts}

abbrev pub Name : Type 0
Name = List ℕ

any_in : (ks : List (List ℕ)) (k : List ℕ) → list_any (pointwise nat_eq k) ks ≡ true → Contains ks k
any_in [] k h = cc
any_in (x ∷ xs) k h = go (pointwise nat_eq k x) refl h (any_in xs k)
  where
    go : (b : Bool) → pointwise nat_eq k x ≡ b → (b || list_any (pointwise nat_eq k) xs) ≡ true → (list_any (pointwise nat_eq k) xs ≡ true → Contains xs k) → Contains (x ∷ xs) k
    go true e h ih = (0, omega arith, sym ((bytes_eq-Decides k x).0 e))
    go false e h ih = let r = ih h in (suc r.0, omega (arith, r.1), r.2)

in_any : (ks : List (List ℕ)) (k : List ℕ) → Contains ks k → list_any (pointwise nat_eq k) ks ≡ true
in_any [] k (i, l, e) = absurd (omega (arith, l))
in_any (x ∷ xs) k (zero, l, e) = ap (λ b. b || list_any (pointwise nat_eq k) xs) ((bytes_eq-Decides k x).1 (sym e))
in_any (x ∷ xs) k (suc i, l, e) = or_right (pointwise nat_eq k x) (list_any (pointwise nat_eq k) xs) (in_any xs k (i, omega (arith, l), e))
  where
    or_right : (a b : Bool) → b ≡ true → (a || b) ≡ true
    or_right true b h = refl
    or_right false b h = h

-- what a set of names is when one was put in
pub puts_from : (old new : List (List ℕ)) (k : List ℕ) (r : Bool) → new ≡ insert_key (pointwise nat_eq) old k → r ≡ not (list_any (pointwise nat_eq k) old) → Puts old k new r
puts_from old new k r e f = go (list_any (pointwise nat_eq k) old) refl
  where
    no_both : (b : Bool) → b ≡ true → b ≡ false → ⊥
    no_both true h g = cc
    no_both false h g = cc

    go : (b : Bool) → list_any (pointwise nat_eq k) old ≡ b → Puts old k new r
    go true h = let P : Bool → Type 0 = λ z. Puts old k new z in subst P (sym (f ∙ ap not h)) (any_in old k h)
    go false h = let P : Bool → Type 0 = λ z. Puts old k new z in subst P (sym (f ∙ ap not h))
        (e ∙ ap (λ b. cond b old (old ++ (k ∷ []))) h, λ c. no_both (list_any (pointwise nat_eq k) old) (in_any old k c) h)

-- the first names are distinct, and these are they
pub record NamesSoFar (i : ℕ) (slots : List Slot) (names : List (List ℕ)) : Type 0 where
  pub distinct : (a b : ℕ) (x y : Slot) → a < i → b < i → slice_get slots a ≡ Some x → slice_get slots b ≡ Some y → x.name ≡ y.name → a ≡ b
  pub there : (a : ℕ) (x : Slot) → a < i → slice_get slots a ≡ Some x → Contains names x.name
  pub only : (n : List ℕ) → Contains names n → (a : ℕ) × (x : Slot) × (a < i) × (slice_get slots a ≡ Some x) × (x.name ≡ n)

pub names_none : (slots : List Slot) (names : List (List ℕ)) → names ≡ [] → NamesSoFar 0 slots names
names_none slots names e = record {
  distinct = λ a b x y l g h k s. absurd (omega (arith, l));
  there = λ a x l g. absurd (omega (arith, l));
  only = λ n c. absurd (let P : List (List ℕ) → Type 0 = λ z. Contains z n in let q = subst P e c in omega (arith, q.1));
}

below_or : (i n : ℕ) → i < n + 1 → (i < n) ⊎ (i ≡ n)
below_or zero zero h = inr refl
below_or zero (suc n) h = inl (omega arith)
below_or (suc i) zero h = absurd (omega (arith, h))
below_or (suc i) (suc n) h = elim (below_or i n (omega (arith, h))) [ inl l ↦ inl (omega (arith, l)) | inr e ↦ inr (ap suc e) ]

last_in : (xs : List (List ℕ)) (x : List ℕ) → Contains (xs ++ (x ∷ [])) x
last_in xs x = Contains-append_right xs (x ∷ []) x (0, omega arith, refl)

one_is : (x n : List ℕ) → Contains (x ∷ []) n → x ≡ n
one_is x n (zero, l, e) = e
one_is x n (suc k, l, e) = absurd (omega (arith, l))

same_slot : (slots : List Slot) (a i : ℕ) (x s : Slot) → a ≡ i → slice_get slots a ≡ Some x → slice_get slots i ≡ Some s → x ≡ s
same_slot slots a i x s e g h = let t : Some x ≡ Some s = sym g ∙ ap (slice_get slots) e ∙ h in cc

-- one name more
pub names_more : (i : ℕ) (slots : List Slot) (names new : List (List ℕ)) (s : Slot) → slice_get slots i ≡ Some s → new ≡ names ++ (s.name ∷ []) → (Contains names s.name → ⊥) → NamesSoFar i slots names → NamesSoFar (i + 1) slots new
names_more i slots names new s here e fresh m = record {
  distinct = λ a b x y l g h k q. elim (below_or a i l) [
    | inl la ↦ elim (below_or b i g) [
      | inl lb ↦ m.distinct a b x y la lb h k q
      | inr eb ↦ absurd (fresh (let P : List ℕ → Type 0 = λ z. Contains names z in subst P (q ∙ ap (λ (z : Slot). z.name) (same_slot slots b i y s eb k here)) (m.there a x la h)))
    ]
    | inr ea ↦ elim (below_or b i g) [
      | inl lb ↦ absurd (fresh (let P : List ℕ → Type 0 = λ z. Contains names z in subst P (sym q ∙ ap (λ (z : Slot). z.name) (same_slot slots a i x s ea h here)) (m.there b y lb k)))
      | inr eb ↦ ea ∙ sym eb
    ]
  ];
  there = λ a x l h. let P : List (List ℕ) → Type 0 = λ z. Contains z x.name in subst P (sym e) (elim (below_or a i l) [
    | inl la ↦ Contains-append_left names (s.name ∷ []) x.name (m.there a x la h)
    | inr ea ↦ let Q : Slot → Type 0 = λ z. Contains (names ++ (s.name ∷ [])) z.name in subst Q (sym (same_slot slots a i x s ea h here)) (last_in names s.name)
  ]);
  only = λ n c. let P : List (List ℕ) → Type 0 = λ z. Contains z n in elim (Contains-append_cases names (s.name ∷ []) n (subst P e c)) [
    | inl q ↦ let r = m.only n q in (r.0, r.1, omega (arith, r.2), r.3, r.4)
    | inr q ↦ (i, s, omega arith, here, one_is s.name n q)
  ];
}

-- a name stands twice
pub names_twice : (i : ℕ) (slots : List Slot) (names : List (List ℕ)) (s : Slot) → slice_get slots i ≡ Some s → Contains names s.name → NamesSoFar i slots names → AreDistinctNames slots → ⊥
names_twice i slots names s here c m d = let r = m.only s.name c in let e = d r.0 i r.1 s r.3 here r.4 in omega (arith, e, r.2)

pub names_all : (i : ℕ) (slots : List Slot) (names : List (List ℕ)) → length slots ≤ i → NamesSoFar i slots names → AreDistinctNames slots
names_all i slots names l m a b x y h k q =
    let la = slice_get_within slots a x h in let lb = slice_get_within slots b y k in m.distinct a b x y (omega (arith, la, l)) (omega (arith, lb, l)) h k q

pub names_next : (i : ℕ) (slots : List Slot) (names new : List (List ℕ)) (s : Slot) (n : List ℕ) (r : Bool) → i < length slots → s ≡ get_or slots i s → n ≡ s.name → Puts names n new r → r ≡ true → NamesSoFar i slots names → NamesSoFar (i + 1) slots new
names_next i slots names new s n r l g e p t m =
    let P : Bool → Type 0 = λ z. Puts names n new z in
    let q : (new ≡ names ++ (n ∷ [])) × (Contains names n → ⊥) = subst P t p in
    names_more i slots names new s (slice_get_read slots (length slots) i s refl l g) (q.0 ∙ ap (λ z. names ++ (z ∷ [])) e) (let Q : List ℕ → Type 0 = λ z. Contains names z → ⊥ in subst Q e q.1) m

pub names_twice_at : (i : ℕ) (slots : List Slot) (names new : List (List ℕ)) (s : Slot) (n : List ℕ) (r : Bool) → i < length slots → s ≡ get_or slots i s → n ≡ s.name → Puts names n new r → r ≡ false → NamesSoFar i slots names
    → (IsTrue false → AreDistinctNames slots) × (AreDistinctNames slots → IsTrue false)
names_twice_at i slots names new s n r l g e p t m =
    let P : Bool → Type 0 = λ z. Puts names n new z in
    let Q : List ℕ → Type 0 = λ z. Contains names z in
    (λ f. let z : false ≡ true = f in cc, λ d. absurd (names_twice i slots names s (slice_get_read slots (length slots) i s refl l g) (subst Q e (subst P t p)) m d))

pub names_done : (i : ℕ) (slots : List Slot) (names : List (List ℕ)) → length slots ≤ i → NamesSoFar i slots names → (IsTrue true → AreDistinctNames slots) × (AreDistinctNames slots → IsTrue true)
names_done i slots names l m = (λ t. names_all i slots names l m, λ d. refl)
