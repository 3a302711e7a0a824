-- The work list loses nothing.
use Rattle.std.proofs.Common.{◌≡◌, ◌<◌, ℕ, zero, suc, ◌+◌, ◌*◌, ◌⊎◌, inl, inr, refl, sym, ◌∙◌, ap, subst, arith, List, [], ◌∷◌, ◌++◌, All, Contains, length, replicate, Some}
use Rattle.std.proofs.lemmas.List.Elements.{All-cons, All-nil, All-weaker, All-contains, All-pop, Contains-append_cases}
use Rattle.std.proofs.lemmas.List.{length-append}
use Rattle.lp_instr.specs.Sound.{Shape}
use Rattle.lp_verify.specs.Paths.{Known, Never, Once, Mixed, Fits, Way, Ways, Learned, begins, on, two, at, begin_shape}
use Rattle.lp_verify.specs.Work.{Works, AreSteady, IsAll, AreBegun, IsLearned, Says, left, Grows}
use Rattle.lp_verify.proofs.Growing.{same_or, fits_trans}

is_learned : (ways : Ways) (starts : List ℕ) (p : ℕ) (k : Known) → Learned ways starts p k → IsLearned ways starts p k
is_learned ways starts p Never h = tt
is_learned ways starts p (Once f) h = h
is_learned ways starts p Mixed h = h

all_on : (ways : Ways) (starts : List ℕ) (p : ℕ) (k : Known) → Learned ways starts p k → (ws : List Way) → ((w : Way) → Contains ws w → Contains (ways p k) w) → All (λ w. IsLearned ways starts w.to w.known) ws
all_on ways starts p k h [] f = All-nil (λ w. IsLearned ways starts w.to w.known)
all_on ways starts p k h (w ∷ ws) f = All-cons (λ w. IsLearned ways starts w.to w.known) w ws
    (is_learned ways starts w.to w.known (on h (f w (0, omega arith, refl))))
    (all_on ways starts p k h ws (λ v c. f v (suc c.0, omega (arith, c.1), c.2)))

ways_learned : (ways : Ways) (starts : List ℕ) (p : ℕ) (k : Known) → AreSteady ways → IsLearned ways starts p k → All (λ w. IsLearned ways starts w.to w.known) (ways p k)
ways_learned ways starts p Never s h = let P : List Way → Type 0 = λ ws. All (λ w. IsLearned ways starts w.to w.known) ws in subst P (sym (s.nowhere p)) (All-nil (λ w. IsLearned ways starts w.to w.known))
ways_learned ways starts p (Once f) s h = all_on ways starts p (Once f) h (ways p (Once f)) (λ w c. c)
ways_learned ways starts p Mixed s h = all_on ways starts p Mixed h (ways p Mixed) (λ w c. c)

says_above : (xs ys : List Known) (ws : List Way) → ((p : ℕ) → Fits (at xs p) (at ys p)) → Says xs ws → Says ys ws
says_above xs ys ws f h = All-weaker (λ w. Fits w.known (at xs w.to)) (λ w. Fits w.known (at ys w.to)) (λ w g. fits_trans w.known (at xs w.to) (at ys w.to) g (f w.to)) ws h

in_rest : (todo rest : List ℕ) (p q : ℕ) → todo ≡ rest ++ (p ∷ []) → (q ≡ p → ⊥) → Contains todo q → Contains rest q
in_rest todo rest p q e n c = let P : List ℕ → Type 0 = λ xs. Contains xs q in
    elim (Contains-append_cases rest (p ∷ []) q (subst P e c)) [ inl h ↦ h | inr h ↦ absurd (n (one_of q p h)) ]
  where
    one_of : (q p : ℕ) → Contains (p ∷ []) q → q ≡ p
    one_of q p (zero, lt, e) = sym e
    one_of q p (suc k, lt, e) = absurd (omega (arith, lt))

settled_same : (ways : Ways) (xs ys : List Known) (q : ℕ) → at ys q ≡ at xs q → Says ys (ways q (at xs q)) → Says ys (ways q (at ys q))
settled_same ways xs ys q e h = let P : Known → Type 0 = λ k. Says ys (ways q k) in subst P (sym e) h

settled_old : (ways : Ways) (xs ys : List Known) (u : List ℕ) (q : ℕ) → ((p : ℕ) → Fits (at xs p) (at ys p)) → (at ys q ≡ at xs q) ⊎ Contains u q → Says xs (ways q (at xs q)) → Contains u q ⊎ Says ys (ways q (at ys q))
settled_old ways xs ys u q a (inl e) h = inr (settled_same ways xs ys q e (says_above xs ys (ways q (at xs q)) a h))
settled_old ways xs ys u q a (inr c) h = inl c

settled_here : (ways : Ways) (xs ys : List Known) (u : List ℕ) (q : ℕ) → (at ys q ≡ at xs q) ⊎ Contains u q → Says ys (ways q (at xs q)) → Contains u q ⊎ Says ys (ways q (at ys q))
settled_here ways xs ys u q (inl e) h = inr (settled_same ways xs ys q e h)
settled_here ways xs ys u q (inr c) h = inl c

-- a place was looked at
pub works_on : (ways : Ways) (starts : List ℕ) (xs ys : List Known) (todo rest u : List ℕ) (p : ℕ) (ws : List Way) → AreSteady ways → Works ways starts xs todo → todo ≡ rest ++ (p ∷ []) → ws ≡ ways p (at xs p) → Grows ws xs rest ys u → Works ways starts ys u
works_on ways starts xs ys todo rest u p ws s h e w g =
    let inside = All-pop (λ p. p < length xs) todo rest (Some p) e h.inside in
    let R : List Way → Type 0 = λ vs. Says ys vs in
    record {
      learned = let P : List Way → Type 0 = λ vs. All (λ w. IsLearned ways starts w.to w.known) vs in
          g.learned ways starts h.learned (subst P (sym w) (ways_learned ways starts p (at xs p) s (h.learned p)));
      settled = λ q. elim (same_or q p) [
        | inl i ↦ let P : ℕ → Type 0 = λ z. Contains u z ⊎ Says ys (ways z (at ys z)) in subst P (sym i) (settled_here ways xs ys u p (g.changed p) (subst R w g.says))
        | inr n ↦ elim (h.settled q) [
          | inl c ↦ inl (g.stays q (in_rest todo rest p q e n c))
          | inr k ↦ settled_old ways xs ys u q g.above (g.changed q) k
        ]
      ];
      inside = All-weaker (λ p. p < length xs) (λ p. p < length ys) (λ x l. let z = g.size in omega (arith, l, z)) u (g.inside inside.0);
    }

-- nothing is left on the list
pub works_end : (ways : Ways) (starts : List ℕ) (xs : List Known) → AreSteady ways → AreBegun starts xs → Works ways starts xs [] → IsAll ways starts xs
works_end ways starts xs s b h = record { learned = h.learned; whole = whole }
  where
    none : (p : ℕ) → Contains [] p ⊎ Says xs (ways p (at xs p)) → Says xs (ways p (at xs p))
    none p (inl (k, lt, e)) = absurd (omega (arith, lt))
    none p (inr k) = k

    one : (a b : Shape) (k : Known) → (a ≡ b → ⊥) → Fits (Once a) k → Fits (Once b) k → Fits Mixed k
    one a b Never n f g = absurd f
    one a b (Once c) n f g = absurd (n (f ∙ sym g))
    one a b Mixed n f g = tt

    go : (p : ℕ) (w : Way) → (v : Way) × Contains (ways p (at xs p)) v × (v.to ≡ w.to) × Fits w.known v.known → Fits w.known (at xs w.to)
    go p w (v, c, t, f) = let P : ℕ → Type 0 = λ q. Fits w.known (at xs q) in
        subst P t (fits_trans w.known v.known (at xs v.to) f (All-contains (λ w. Fits w.known (at xs w.to)) (ways p (at xs p)) v (none p (h.settled p)) c))

    whole : (p : ℕ) (k : Known) → Learned ways starts p k → Fits k (at xs p)
    whole p k (begins c) = All-contains (λ q. Fits (Once begin_shape) (at xs q)) starts p b c
    whole p k (on {p = q} {k = j} {w = w} l c) = go q w (s.more q j (at xs q) w (whole q j l) c)
    whole p k (two {a = a} {b = b} x y n) = one a b (at xs p) n (whole p (Once a) x) (whole p (Once b) y)

at_unseen : (n p : ℕ) → at (replicate n Never) p ≡ Never
at_unseen zero p = refl
at_unseen (suc n) zero = refl
at_unseen (suc n) (suc p) = at_unseen n p

-- nothing is known yet
pub works_none : (ways : Ways) (starts : List ℕ) (n : ℕ) → AreSteady ways → Works ways starts (replicate n Never) []
works_none ways starts n s = record {
  learned = λ p. let P : Known → Type 0 = λ k. IsLearned ways starts p k in subst P (sym (at_unseen n p)) tt;
  settled = λ p. let P : List Way → Type 0 = λ ws. Says (replicate n Never) ws in
      inr (subst P (sym (ap (ways p) (at_unseen n p) ∙ s.nowhere p)) (All-nil (λ w. Fits w.known (at (replicate n Never) w.to))));
  inside = All-nil (λ p. p < length (replicate n Never));
}

-- some ways are learned
pub works_more : (ways : Ways) (starts : List ℕ) (ws : List Way) (xs ys : List Known) (t u : List ℕ) → Works ways starts xs t → All (λ w. IsLearned ways starts w.to w.known) ws
    → Grows ws xs t ys u → Works ways starts ys u
works_more ways starts ws xs ys t u h c g = record {
  learned = g.learned ways starts h.learned c;
  settled = λ q. elim (h.settled q) [
    | inl m ↦ inl (g.stays q m)
    | inr k ↦ settled_old ways xs ys u q g.above (g.changed q) k
  ];
  inside = All-weaker (λ p. p < length xs) (λ p. p < length ys) (λ x l. let z = g.size in omega (arith, l, z)) u (g.inside h.inside);
}

pub less_on : (ws : List Way) (xs ys : List Known) (todo rest u : List ℕ) (p : ℕ) → todo ≡ rest ++ (p ∷ []) → Grows ws xs rest ys u → 2 * left ys + length u < 2 * left xs + length todo
less_on ws xs ys todo rest u p e g = let a = g.less in let b = ap length e ∙ length-append rest (p ∷ []) in omega (arith, a, b)

pub works_in : (ways : Ways) (starts : List ℕ) (xs : List Known) (todo rest : List ℕ) (p : ℕ) → Works ways starts xs todo → todo ≡ rest ++ (p ∷ []) → p < length xs
works_in ways starts xs todo rest p h e = (All-pop (λ p. p < length xs) todo rest (Some p) e h.inside).1
