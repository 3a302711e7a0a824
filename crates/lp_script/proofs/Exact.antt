-- What a reader of a field reads: exactly what is spelled so.
use Rattle.std.proofs.Common.{◌≡◌, ap, sym, refl, ◌∙◌, subst, ℕ, suc, ◌+◌, ◌<◌, ◌≤◌, Bool, true, false, cond, eqb, not, List, [], ◌∷◌, ◌++◌, Option, Some, None, Result, Ok, Err, length, take, drop, arith, append_assoc, ◌⊎◌, inl, inr}
use Rattle.std.proofs.Math.Dec.{T, eqb_refl}
use Rattle.std.specs.List.{prefix_len}
use Rattle.std.proofs.Math.Numerals.{one-add, add-one}
use Rattle.std.proofs.lemmas.Bool.{eqb-true, ne_eqb}
use Rattle.std.proofs.lemmas.List.Folds.{length-prefix_len}
use Rattle.std.proofs.lemmas.List.{length-append}
use Rattle.lp_script.specs.declared.stop.Stop.{Stop}
use Rattle.lp_script.specs.declared.stop.Stop.TheVariants.{Short, Wrong}
use Rattle.lp_script.specs.Reading.{◌>>=◌, text_at, before, word_at, stopped, found, pair_at, after, made, either, nothing, none_at}

abbrev Reader : Type 0 → Type 0
Reader A = List ℕ → Result (A × List ℕ) Stop

-- the bytes are a proper front of what spells a value that fits
pub record Begun (A : Type 0) (fits : A → Type 0) (spell : A → List ℕ) (bs : List ℕ) : Type 0 where
  pub value : A
  pub fit : fits value
  pub others : List ℕ
  pub some : 0 < length others
  pub spelled : spell value ≡ bs ++ others

pub record Exact (A : Type 0) (fits : A → Type 0) (spell : A → List ℕ) (read : List ℕ → Result (A × List ℕ) Stop) : Type 0 where
  pub takes : (bs : List ℕ) (x : A) (rest : List ℕ) → read bs ≡ Ok (x, rest) → fits x × (bs ≡ spell x ++ rest)
  pub short : (bs : List ℕ) → read bs ≡ Err Short → Begun A fits spell bs
  pub wrong : (bs : List ℕ) → read bs ≡ Err Wrong → (x : A) (a b : List ℕ) → fits x → spell x ++ a ≡ bs ++ b → ⊥
  pub free : (x y : A) (a b : List ℕ) → fits x → fits y → spell x ++ a ≡ spell y ++ b → x ≡ y

-- the value of a step that did not fail, and where a step failed
pub bind_ok : {A B : Type 0} (r : Result A Stop) (f : A → Result B Stop) (y : B) → (r >>= f) ≡ Ok y → (x : A) × (r ≡ Ok x) × (f x ≡ Ok y)
bind_ok (Ok x) f y e = (x, refl, e)
bind_ok (Err d) f y e = absurd cc

abbrev pub done : {A : Type 0} → A → Result A Stop
done x = Ok x

pub ok_is : {A : Type 0} (x y : A) → done x ≡ done y → x ≡ y
ok_is x y e = cc

pub bind_err : {A B : Type 0} (r : Result A Stop) (f : A → Result B Stop) (d : Stop) → (r >>= f) ≡ Err d → (r ≡ Err d) ⊎ ((x : A) × (r ≡ Ok x) × (f x ≡ Err d))
bind_err (Ok x) f d e = inr (x, refl, e)
bind_err (Err c) f d e = inl cc

-- a number is itself
pub eqb-same : (c : ℕ) → eqb c c ≡ true
eqb-same c = T-true (eqb c c) (eqb_refl c)
  where
    T-true : (b : Bool) → T b → b ≡ true
    T-true true t = refl
    T-true false t = absurd t

pub eqb-of : {m n : ℕ} → m ≡ n → eqb m n ≡ true
eqb-of {m} {n} e = ap (eqb m) (sym e) ∙ eqb-same m

-- the same front may be left away
pub cancel : (xs a b : List ℕ) → xs ++ a ≡ xs ++ b → a ≡ b
cancel [] a b e = e
cancel (x ∷ xs) a b e = cancel xs a b cc

-- ---- a text

text_takes : (text bs rest : List ℕ) → text_at text bs ≡ Ok rest → bs ≡ text ++ rest
unfolding text_at
text_takes [] bs rest e = cc
text_takes (c ∷ text) [] rest e = absurd cc
text_takes (c ∷ text) (b ∷ bs) rest e = text_takes_one c b text bs rest (eqb c b) refl e (text_takes text bs rest)
  where
    text_takes_one : (c b : ℕ) (text bs rest : List ℕ) (t : Bool) → eqb c b ≡ t → cond t (text_at text bs) (Err Wrong) ≡ Ok rest → (text_at text bs ≡ Ok rest → bs ≡ text ++ rest) → b ∷ bs ≡ c ∷ (text ++ rest)
    text_takes_one c b text bs rest true same e h = let f = eqb-true c b same in let g = h e in cc
    text_takes_one c b text bs rest false same e h = absurd cc

text_short : (text bs : List ℕ) → text_at text bs ≡ Err Short → (others : List ℕ) × (0 < length others) × (text ≡ bs ++ others)
unfolding text_at
text_short [] bs e = absurd cc
text_short (c ∷ text) [] e = (c ∷ text, omega arith, refl)
text_short (c ∷ text) (b ∷ bs) e = text_short_one c b text bs (eqb c b) refl e (text_short text bs)
  where
    text_short_one : (c b : ℕ) (text bs : List ℕ) (t : Bool) → eqb c b ≡ t → cond t (text_at text bs) (Err Wrong) ≡ Err Short → (text_at text bs ≡ Err Short → (others : List ℕ) × (0 < length others) × (text ≡ bs ++ others))
        → (others : List ℕ) × (0 < length others) × (c ∷ text ≡ b ∷ (bs ++ others))
    text_short_one c b text bs true same e h = let f = eqb-true c b same in let g = h e in (g.0, g.1, let k = g.2 in cc)
    text_short_one c b text bs false same e h = absurd cc

text_wrong : (text bs : List ℕ) → text_at text bs ≡ Err Wrong → (a b : List ℕ) → text ++ a ≡ bs ++ b → ⊥
unfolding text_at
text_wrong [] bs e a b f = absurd cc
text_wrong (c ∷ text) [] e a b f = absurd cc
text_wrong (c ∷ text) (d ∷ bs) e a b f = text_wrong_one c d text bs (eqb c d) refl e (text_wrong text bs) a b f
  where
    text_wrong_one : (c d : ℕ) (text bs : List ℕ) (t : Bool) → eqb c d ≡ t → cond t (text_at text bs) (Err Wrong) ≡ Err Wrong → (text_at text bs ≡ Err Wrong → (a b : List ℕ) → text ++ a ≡ bs ++ b → ⊥)
        → (a b : List ℕ) → c ∷ (text ++ a) ≡ d ∷ (bs ++ b) → ⊥
    text_wrong_one c d text bs true same e h a b f = h e a b cc
    text_wrong_one c d text bs false same e h a b f = let g : c ≡ d = cc in let k : eqb c c ≡ false = ap (eqb c) g ∙ same in let l : true ≡ false = sym (eqb-same c) ∙ k in cc

module _ (A : Type 0) (fits : A → Type 0) (spell : A → List ℕ) (read : List ℕ → Result (A × List ℕ) Stop) (x : Exact A fits spell read) where
  -- a text, and a field
  pub after_exact : (text : List ℕ) → (some : A) → fits some → Exact A fits (λ v. text ++ spell v) (after text read)
  after_exact text some fit = record {
    takes = λ bs v rest e. let t = bind_ok (text_at text bs) read (v, rest) e in let f = x.takes t.0 v rest t.2 in
        (f.0, text_takes text bs t.0 t.1 ∙ ap (λ (r : List ℕ). text ++ r) f.1 ∙ sym (append_assoc text (spell v) rest));
    short = λ bs e. elim (bind_err (text_at text bs) read Short e) as (λ _. Begun A fits (λ v. text ++ spell v) bs) [
      | inl d ↦ let s = text_short text bs d in record { value = some; fit = fit; others = s.0 ++ spell some; some = omega (arith, s.1, length-append s.0 (spell some)); spelled = ap (λ (t : List ℕ). t ++ spell some) s.2 ∙ append_assoc bs s.0 (spell some) }
      | inr (r, t, d) ↦ let s = x.short r d in record { value = s.value; fit = s.fit; others = s.others; some = s.some; spelled = ap (λ (t : List ℕ). text ++ t) s.spelled ∙ sym (append_assoc text r s.others) ∙ ap (λ (t : List ℕ). t ++ s.others) (sym (text_takes text bs r t)) }
    ];
    wrong = λ bs e v a b fit same. elim (bind_err (text_at text bs) read Wrong e) [
      | inl d ↦ text_wrong text bs d (spell v ++ a) b (sym (append_assoc text (spell v) a) ∙ same)
      | inr (r, t, d) ↦ x.wrong r d v a b fit (cancel text (spell v ++ a) (r ++ b) (sym (append_assoc text (spell v) a) ∙ same ∙ ap (λ (t : List ℕ). t ++ b) (text_takes text bs r t) ∙ append_assoc text r b))
    ];
    free = λ v w a b fit fit' same. x.free v w a b fit fit' (cancel text (spell v ++ a) (spell w ++ b) (sym (append_assoc text (spell v) a) ∙ same ∙ append_assoc text (spell w) b));
  }

  -- what is made of a field
  pub made_exact : (B : Type 0) (make : A → B) (spell' : B → List ℕ) → ((v : A) → fits v → spell' (make v) ≡ spell v) → Exact B (λ w. (v : A) × fits v × (w ≡ make v)) spell' (made make read)
  made_exact B make spell' law = record {
    takes = λ bs w rest e.
        let t = bind_ok (read bs) (λ v. Ok (make v.0, v.1)) (w, rest) e in
        let f = x.takes bs t.0.0 t.0.1 t.1 in
        let g = ok_is (make t.0.0, t.0.1) (w, rest) t.2 in
        let same : make t.0.0 ≡ w = ap (λ (q : B × List ℕ). q.0) g in
        let behind : t.0.1 ≡ rest = ap (λ (q : B × List ℕ). q.1) g in
        ((t.0.0, f.0, sym same), f.1 ∙ ap (λ (r : List ℕ). spell t.0.0 ++ r) behind ∙ ap (λ (r : List ℕ). r ++ rest) (sym (law t.0.0 f.0) ∙ ap spell' same));
    short = λ bs e. elim (bind_err (read bs) (λ v. Ok (make v.0, v.1)) Short e) as (λ _. Begun B (λ w. (v : A) × fits v × (w ≡ make v)) spell' bs) [
      | inl d ↦ let s = x.short bs d in record { value = make s.value; fit = (s.value, s.fit, refl); others = s.others; some = s.some; spelled = law s.value s.fit ∙ s.spelled }
      | inr (v, t, d) ↦ absurd cc
    ];
    wrong = λ bs e w a b fit same. elim (bind_err (read bs) (λ v. Ok (make v.0, v.1)) Wrong e) [
      | inl d ↦ x.wrong bs d fit.0 a b fit.1 (ap (λ (r : List ℕ). r ++ a) (sym (law fit.0 fit.1) ∙ ap spell' (sym fit.2)) ∙ same)
      | inr (v, t, d) ↦ absurd cc
    ];
    free = λ v w a b fit fit' same. fit.2 ∙ ap make (x.free fit.0 fit'.0 a b fit.1 fit'.1 (ap (λ (r : List ℕ). r ++ a) (sym (law fit.0 fit.1) ∙ ap spell' (sym fit.2)) ∙ same ∙ ap (λ (r : List ℕ). r ++ b) (ap spell' fit'.2 ∙ law fit'.0 fit'.1))) ∙ sym fit'.2;
  }

  -- two fields
  pub pair_exact : (B : Type 0) (fits' : B → Type 0) (spell' : B → List ℕ) (read' : List ℕ → Result (B × List ℕ) Stop) → Exact B fits' spell' read' → (some : B) → fits' some
      → Exact (A × B) (λ p. fits p.0 × fits' p.1) (λ p. spell p.0 ++ spell' p.1) (pair_at read read')
  pair_exact B fits' spell' read' y some fit = record {
    takes = λ bs p rest e.
        let t = bind_ok (read bs) (λ v. read' v.1 >>= λ w. Ok ((v.0, w.0), w.1)) (p, rest) e in
        let u = bind_ok (read' t.0.1) (λ w. Ok ((t.0.0, w.0), w.1)) (p, rest) t.2 in
        let f = x.takes bs t.0.0 t.0.1 t.1 in
        let g = y.takes t.0.1 u.0.0 u.0.1 u.1 in
        let k = ok_is ((t.0.0, u.0.0), u.0.1) (p, rest) u.2 in
        let same : (t.0.0, u.0.0) ≡ p = ap (λ (q : (A × B) × List ℕ). q.0) k in
        let behind : u.0.1 ≡ rest = ap (λ (q : (A × B) × List ℕ). q.1) k in
        subst (λ (q : A × B). (fits q.0 × fits' q.1) × (bs ≡ (spell q.0 ++ spell' q.1) ++ rest)) same
        ((f.0, g.0), f.1 ∙ ap (λ (r : List ℕ). spell t.0.0 ++ r) (g.1 ∙ ap (λ (r : List ℕ). spell' u.0.0 ++ r) behind) ∙ sym (append_assoc (spell t.0.0) (spell' u.0.0) rest));
    short = λ bs e. elim (bind_err (read bs) (λ v. read' v.1 >>= λ w. Ok ((v.0, w.0), w.1)) Short e) as (λ _. Begun (A × B) (λ p. fits p.0 × fits' p.1) (λ p. spell p.0 ++ spell' p.1) bs) [
      | inl d ↦ let s = x.short bs d in
          record {
            value = (s.value, some);
            fit = (s.fit, fit);
            others = s.others ++ spell' some;
            some = omega (arith, s.some, length-append s.others (spell' some));
            spelled = ap (λ (r : List ℕ). r ++ spell' some) s.spelled ∙ append_assoc bs s.others (spell' some);
          }
      | inr (v, t, d) ↦ elim (bind_err (read' v.1) (λ w. Ok ((v.0, w.0), w.1)) Short d) as (λ _. Begun (A × B) (λ p. fits p.0 × fits' p.1) (λ p. spell p.0 ++ spell' p.1) bs) [
        | inl k ↦ let f = x.takes bs v.0 v.1 t in let s = y.short v.1 k in
            record {
              value = (v.0, s.value);
              fit = (f.0, s.fit);
              others = s.others;
              some = s.some;
              spelled = ap (λ (r : List ℕ). spell v.0 ++ r) s.spelled ∙ sym (append_assoc (spell v.0) v.1 s.others) ∙ ap (λ (r : List ℕ). r ++ s.others) (sym f.1);
            }
        | inr (w, u, k) ↦ absurd cc
      ]
    ];
    wrong = λ bs e p a b fit same. elim (bind_err (read bs) (λ v. read' v.1 >>= λ w. Ok ((v.0, w.0), w.1)) Wrong e) [
      | inl d ↦ x.wrong bs d p.0 (spell' p.1 ++ a) b fit.0 (sym (append_assoc (spell p.0) (spell' p.1) a) ∙ same)
      | inr (v, t, d) ↦ elim (bind_err (read' v.1) (λ w. Ok ((v.0, w.0), w.1)) Wrong d) [
        | inl k ↦
            let f = x.takes bs v.0 v.1 t in
            let parts : spell p.0 ++ (spell' p.1 ++ a) ≡ spell v.0 ++ (v.1 ++ b) = sym (append_assoc (spell p.0) (spell' p.1) a) ∙ same ∙ ap (λ (r : List ℕ). r ++ b) f.1 ∙ append_assoc (spell v.0) v.1 b in
            let one : p.0 ≡ v.0 = x.free p.0 v.0 (spell' p.1 ++ a) (v.1 ++ b) fit.0 f.0 parts in
            y.wrong v.1 k p.1 a b fit.1 (cancel (spell v.0) (spell' p.1 ++ a) (v.1 ++ b) (ap (λ (q : A). spell q ++ (spell' p.1 ++ a)) (sym one) ∙ parts))
        | inr (w, u, k) ↦ absurd cc
      ]
    ];
    free = λ p q a b fit fit' same.
        let parts : spell p.0 ++ (spell' p.1 ++ a) ≡ spell q.0 ++ (spell' q.1 ++ b) = sym (append_assoc (spell p.0) (spell' p.1) a) ∙ same ∙ append_assoc (spell q.0) (spell' q.1) b in
        let one : p.0 ≡ q.0 = x.free p.0 q.0 (spell' p.1 ++ a) (spell' q.1 ++ b) fit.0 fit'.0 parts in
        let two : p.1 ≡ q.1 = y.free p.1 q.1 a b fit.1 fit'.1 (cancel (spell q.0) (spell' p.1 ++ a) (spell' q.1 ++ b) (ap (λ (r : A). spell r ++ (spell' p.1 ++ a)) (sym one) ∙ parts)) in
        ap (λ (v : A). (v, p.1)) one ∙ ap (λ (w : B). (q.0, w)) two;
  }

  -- the same values, in other words
  pub same_fits : (fits' : A → Type 0) → ((v : A) → fits v → fits' v) → ((v : A) → fits' v → fits v) → Exact A fits' spell read
  same_fits fits' to from = record {
    takes = λ bs v rest e. let f = x.takes bs v rest e in (to v f.0, f.1);
    short = λ bs e. let s = x.short bs e in record { value = s.value; fit = to s.value s.fit; others = s.others; some = s.some; spelled = s.spelled };
    wrong = λ bs e v a b f same. x.wrong bs e v a b (from v f) same;
    free = λ v w a b f g same. x.free v w a b (from v f) (from w g) same;
  }

  -- a choice by the first byte
  pub either_exact : (fits' : A → Type 0) (read' : List ℕ → Result (A × List ℕ) Stop) → Exact A fits' spell read' → (first : ℕ)
      → ((v : A) → fits v → (t : List ℕ) × (spell v ≡ first ∷ t)) → ((v : A) → fits' v → (c : ℕ) × (t : List ℕ) × (spell v ≡ c ∷ t) × (c ≡ first → ⊥))
      → (some : A) → (fits some ⊎ fits' some) → Exact A (λ v. fits v ⊎ fits' v) spell (either first read read')
  either_exact fits' read' y first head head' some fit = record {
    takes = takes;
    short = short;
    wrong = wrong;
    free = free;
  }
    where
      long : (v : A) → (fits v ⊎ fits' v) → 0 < length (spell v)
      long v (inl f) = let h = head v f in omega (arith, ap length h.1)
      long v (inr f) = let h = head' v f in omega (arith, ap length h.2)

      takes : (bs : List ℕ) (v : A) (rest : List ℕ) → either first read read' bs ≡ Ok (v, rest) → (fits v ⊎ fits' v) × (bs ≡ spell v ++ rest)
      takes [] v rest e = absurd cc
      takes (b ∷ bs) v rest e = one (eqb b first) e
        where
          one : (t : Bool) → cond t (read (b ∷ bs)) (read' (b ∷ bs)) ≡ Ok (v, rest) → (fits v ⊎ fits' v) × (b ∷ bs ≡ spell v ++ rest)
          one true e = let f = x.takes (b ∷ bs) v rest e in (inl f.0, f.1)
          one false e = let f = y.takes (b ∷ bs) v rest e in (inr f.0, f.1)

      short : (bs : List ℕ) → either first read read' bs ≡ Err Short → Begun A (λ v. fits v ⊎ fits' v) spell bs
      short [] e = record { value = some; fit = fit; others = spell some; some = long some fit; spelled = refl }
      short (b ∷ bs) e = one (eqb b first) e
        where
          one : (t : Bool) → cond t (read (b ∷ bs)) (read' (b ∷ bs)) ≡ Err Short → Begun A (λ v. fits v ⊎ fits' v) spell (b ∷ bs)
          one true e = let s = x.short (b ∷ bs) e in record { value = s.value; fit = inl s.fit; others = s.others; some = s.some; spelled = s.spelled }
          one false e = let s = y.short (b ∷ bs) e in record { value = s.value; fit = inr s.fit; others = s.others; some = s.some; spelled = s.spelled }

      wrong : (bs : List ℕ) → either first read read' bs ≡ Err Wrong → (v : A) (a b : List ℕ) → (fits v ⊎ fits' v) → spell v ++ a ≡ bs ++ b → ⊥
      wrong [] e v a b f same = absurd cc
      wrong (c ∷ bs) e v a b f same = one (eqb c first) refl e f
        where
          one : (t : Bool) → eqb c first ≡ t → cond t (read (c ∷ bs)) (read' (c ∷ bs)) ≡ Err Wrong → (fits v ⊎ fits' v) → ⊥
          one true is e (inl f) = x.wrong (c ∷ bs) e v a b f same
          one true is e (inr f) = let h = head' v f in let k : h.0 ∷ (h.1 ++ a) ≡ c ∷ (bs ++ b) = ap (λ (r : List ℕ). r ++ a) (sym h.2) ∙ same in h.3 (let l : h.0 ≡ c = cc in l ∙ eqb-true c first is)
          one false is e (inl f) = let h = head v f in let k : first ∷ (h.0 ++ a) ≡ c ∷ (bs ++ b) = ap (λ (r : List ℕ). r ++ a) (sym h.1) ∙ same in
              let l : c ≡ first = cc in let m : true ≡ false = sym (eqb-same first) ∙ ap (λ (i : ℕ). eqb i first) (sym l) ∙ is in cc
          one false is e (inr f) = y.wrong (c ∷ bs) e v a b f same

      apart : (v w : A) (a b : List ℕ) → fits v → fits' w → spell v ++ a ≡ spell w ++ b → ⊥
      apart v w a b f g same = let h = head v f in let k = head' w g in
          let l : first ∷ (h.0 ++ a) ≡ k.0 ∷ (k.1 ++ b) = ap (λ (r : List ℕ). r ++ a) (sym h.1) ∙ same ∙ ap (λ (r : List ℕ). r ++ b) k.2 in k.3 cc

      free : (v w : A) (a b : List ℕ) → (fits v ⊎ fits' v) → (fits w ⊎ fits' w) → spell v ++ a ≡ spell w ++ b → v ≡ w
      free v w a b (inl f) (inl g) same = x.free v w a b f g same
      free v w a b (inl f) (inr g) same = absurd (apart v w a b f g same)
      free v w a b (inr f) (inl g) same = absurd (apart w v b a g f (sym same))
      free v w a b (inr f) (inr g) same = y.free v w a b f g same

-- ---- words

-- no element is this one
abbrev pub NotIn : ℕ → List ℕ → Type 0
NotIn end [] = Unit {0}
NotIn end (b ∷ bs) = (b ≡ end → ⊥) × NotIn end bs

before-cons : (end b : ℕ) (bs : List ℕ) → before end (b ∷ bs) ≡ cond (not (eqb b end)) (suc (before end bs)) 0
before-cons end b bs =
    length-prefix_len (λ c. not (eqb c end)) (b ∷ bs) ∙ ap (λ (n : ℕ). cond (not (eqb b end)) n 0) (one-add (prefix_len (λ c. not (eqb c end)) bs)) ∙ ap (λ (n : ℕ). cond (not (eqb b end)) (suc n) 0) (sym (length-prefix_len (λ c. not (eqb c end)) bs))

-- where the word ends, or that it does not
pub split : (end : ℕ) (bs : List ℕ) → ((before end bs ≡ length bs) × NotIn end bs) ⊎ ((before end bs < length bs) × NotIn end (take (before end bs) bs) × (bs ≡ take (before end bs) bs ++ end ∷ drop (before end bs + 1) bs))
split end [] = inl (refl, tt)
split end (b ∷ bs) = one (eqb b end) refl (split end bs)
  where
    one : (t : Bool) → eqb b end ≡ t → (((before end bs ≡ length bs) × NotIn end bs) ⊎ ((before end bs < length bs) × NotIn end (take (before end bs) bs) × (bs ≡ take (before end bs) bs ++ end ∷ drop (before end bs + 1) bs)))
        → ((before end (b ∷ bs) ≡ length (b ∷ bs)) × NotIn end (b ∷ bs)) ⊎ ((before end (b ∷ bs) < length (b ∷ bs)) × NotIn end (take (before end (b ∷ bs)) (b ∷ bs)) × (b ∷ bs ≡ take (before end (b ∷ bs)) (b ∷ bs) ++ end ∷ drop (before end (b ∷ bs) + 1) (b ∷ bs)))
    one true is h =
        let n : before end (b ∷ bs) ≡ 0 = before-cons end b bs ∙ ap (λ (t : Bool). cond (not t) (suc (before end bs)) 0) is in
        inr (subst (λ (n : ℕ). (n < length (b ∷ bs)) × NotIn end (take n (b ∷ bs)) × (b ∷ bs ≡ take n (b ∷ bs) ++ end ∷ drop (n + 1) (b ∷ bs))) (sym n) (omega arith, tt, ap (λ (i : ℕ). i ∷ bs) (eqb-true b end is)))
    one false is h =
        let n : before end (b ∷ bs) ≡ suc (before end bs) = before-cons end b bs ∙ ap (λ (t : Bool). cond (not t) (suc (before end bs)) 0) is in
        let other : b ≡ end → ⊥ = λ e. let f : true ≡ false = sym (eqb-same b) ∙ ap (eqb b) e ∙ is in cc in
        elim h as (λ _. ((before end (b ∷ bs) ≡ length (b ∷ bs)) × NotIn end (b ∷ bs)) ⊎ ((before end (b ∷ bs) < length (b ∷ bs)) × NotIn end (take (before end (b ∷ bs)) (b ∷ bs)) × (b ∷ bs ≡ take (before end (b ∷ bs)) (b ∷ bs) ++ end ∷ drop (before end (b ∷ bs) + 1) (b ∷ bs)))) [
          | inl (all, apart) ↦ inl (n ∙ ap suc all, (other, apart))
          | inr (some, apart, parts) ↦ inr (subst (λ (n : ℕ). (n < length (b ∷ bs)) × NotIn end (take n (b ∷ bs)) × (b ∷ bs ≡ take n (b ∷ bs) ++ end ∷ drop (n + 1) (b ∷ bs))) (sym n) (omega arith, (other, apart), ap (λ (r : List ℕ). b ∷ r) (parts ∙ ap (λ (i : ℕ). take (before end bs) bs ++ end ∷ drop i bs) (add-one (before end bs))) ∙ ap (λ (i : ℕ). take (suc (before end bs)) (b ∷ bs) ++ end ∷ drop i (b ∷ bs)) (sym (add-one (suc (before end bs))))))
        ]

pub before-le : (end : ℕ) (bs : List ℕ) → before end bs ≤ length bs
before-le end bs = elim (split end bs) [ inl f ↦ omega (arith, f.0) | inr f ↦ omega (arith, f.0) ]

same_word : (end : ℕ) (u w p q : List ℕ) → NotIn end u → NotIn end w → u ++ end ∷ p ≡ w ++ end ∷ q → u ≡ w
same_word end [] [] p q f g e = refl
same_word end [] (c ∷ w) p q f g e = absurd (g.0 cc)
same_word end (b ∷ u) [] p q f g e = absurd (f.0 cc)
same_word end (b ∷ u) (c ∷ w) p q f g e = let h : b ≡ c = cc in let k = same_word end u w p q f.1 g.1 cc in cc

front_word : (end : ℕ) (u bs a b : List ℕ) → NotIn end bs → u ++ end ∷ a ≡ bs ++ b → (others : List ℕ) × (u ≡ bs ++ others)
front_word end u [] a b f e = (u, refl)
front_word end [] (c ∷ bs) a b f e = absurd (f.0 cc)
front_word end (d ∷ u) (c ∷ bs) a b f e = let h = front_word end u bs a b f.1 cc in let k : d ≡ c = cc in (h.0, let m = h.1 in cc)

-- what names a value, and what may begin such a name, up to an end
pub record Words (A : Type 0) (fits : A → Type 0) (body : A → List ℕ) (end : ℕ) (named : List ℕ → Option A) (begins : List ℕ → Bool) : Type 0 where
  pub named_is : (w : List ℕ) (v : A) → named w ≡ Some v → fits v × (body v ≡ w)
  pub named_again : (v : A) → fits v → named (body v) ≡ Some v
  pub begins_is : (w : List ℕ) → begins w ≡ true → (v : A) × fits v × (others : List ℕ) × (body v ≡ w ++ others)
  pub begins_again : (v : A) (w others : List ℕ) → fits v → body v ≡ w ++ others → begins w ≡ true
  pub apart : (v : A) → fits v → NotIn end (body v)

pub word_exact : (A : Type 0) (fits : A → Type 0) (body : A → List ℕ) (end : ℕ) (named : List ℕ → Option A) (begins : List ℕ → Bool) → Words A fits body end named begins
    → Exact A fits (λ v. body v ++ end ∷ []) (word_at end named begins)
word_exact A fits body end named begins x = record {
  takes = takes;
  short = short;
  wrong = wrong;
  free = free;
}
  where
    -- which word it is
    whole : (v : A) (a : List ℕ) → (body v ++ end ∷ []) ++ a ≡ body v ++ end ∷ a
    whole v a = append_assoc (body v) (end ∷ []) a

    takes : (bs : List ℕ) (v : A) (rest : List ℕ) → word_at end named begins bs ≡ Ok (v, rest) → fits v × (bs ≡ (body v ++ end ∷ []) ++ rest)
    takes bs v rest e = elim (split end bs) [
      | inl (all, apart) ↦ none (begins bs) (sym (ap (λ (t : Bool). cond t (stopped (begins bs)) (found (named (take (before end bs) bs)) (drop (before end bs + 1) bs))) (eqb-of all)) ∙ e)
      | inr (some, apart, parts) ↦ one (named (take (before end bs) bs)) refl parts (sym (ap (λ (t : Bool). cond t (stopped (begins bs)) (found (named (take (before end bs) bs)) (drop (before end bs + 1) bs))) (ne_eqb _ _ (λ f. omega (arith, some, f)))) ∙ e)
    ]
      where
        none : (t : Bool) → stopped t ≡ Ok (v, rest) → fits v × (bs ≡ (body v ++ end ∷ []) ++ rest)
        none true e = absurd cc
        none false e = absurd cc

        one : (o : Option A) → named (take (before end bs) bs) ≡ o → bs ≡ take (before end bs) bs ++ end ∷ drop (before end bs + 1) bs → found o (drop (before end bs + 1) bs) ≡ Ok (v, rest) → fits v × (bs ≡ (body v ++ end ∷ []) ++ rest)
        one None is parts e = absurd cc
        one (Some w) is parts e =
            let g = ok_is (w, drop (before end bs + 1) bs) (v, rest) e in
            let same : w ≡ v = ap (λ (q : A × List ℕ). q.0) g in
            let behind : drop (before end bs + 1) bs ≡ rest = ap (λ (q : A × List ℕ). q.1) g in
            let f = x.named_is (take (before end bs) bs) v (is ∙ ap Some same) in
            (f.0, parts ∙ ap (λ (r : List ℕ). r ++ end ∷ drop (before end bs + 1) bs) (sym f.1) ∙ ap (λ (r : List ℕ). body v ++ end ∷ r) behind ∙ sym (whole v rest))

    short : (bs : List ℕ) → word_at end named begins bs ≡ Err Short → Begun A fits (λ v. body v ++ end ∷ []) bs
    short bs e = elim (split end bs) [
      | inl (all, apart) ↦ none (begins bs) refl (sym (ap (λ (t : Bool). cond t (stopped (begins bs)) (found (named (take (before end bs) bs)) (drop (before end bs + 1) bs))) (eqb-of all)) ∙ e)
      | inr (some, apart, parts) ↦ one (named (take (before end bs) bs)) (sym (ap (λ (t : Bool). cond t (stopped (begins bs)) (found (named (take (before end bs) bs)) (drop (before end bs + 1) bs))) (ne_eqb _ _ (λ f. omega (arith, some, f)))) ∙ e)
    ]
      where
        none : (t : Bool) → begins bs ≡ t → stopped {A = A} t ≡ Err Short → Begun A fits (λ v. body v ++ end ∷ []) bs
        none true is e = let b = x.begins_is bs is in record { value = b.0; fit = b.1; others = b.2 ++ end ∷ []; some = omega (arith, length-append b.2 (end ∷ [])); spelled = ap (λ (r : List ℕ). r ++ end ∷ []) b.3 ∙ append_assoc bs b.2 (end ∷ []) }
        none false is e = absurd cc

        one : (o : Option A) → found o (drop (before end bs + 1) bs) ≡ Err Short → Begun A fits (λ v. body v ++ end ∷ []) bs
        one None e = absurd cc
        one (Some w) e = absurd cc

    wrong : (bs : List ℕ) → word_at end named begins bs ≡ Err Wrong → (v : A) (a b : List ℕ) → fits v → (body v ++ end ∷ []) ++ a ≡ bs ++ b → ⊥
    wrong bs e v a b f same = elim (split end bs) [
      | inl (all, apart) ↦ none (begins bs) refl apart (sym (ap (λ (t : Bool). cond t (stopped (begins bs)) (found (named (take (before end bs) bs)) (drop (before end bs + 1) bs))) (eqb-of all)) ∙ e)
      | inr (some, apart, parts) ↦ one (named (take (before end bs) bs)) refl apart parts (sym (ap (λ (t : Bool). cond t (stopped (begins bs)) (found (named (take (before end bs) bs)) (drop (before end bs + 1) bs))) (ne_eqb _ _ (λ f. omega (arith, some, f)))) ∙ e)
    ]
      where
        none : (t : Bool) → begins bs ≡ t → NotIn end bs → stopped {A = A} t ≡ Err Wrong → ⊥
        none true is apart e = cc
        none false is apart e = let g = front_word end (body v) bs a b apart (sym (whole v a) ∙ same) in let h : true ≡ false = sym (x.begins_again v bs g.0 f g.1) ∙ is in cc

        one : (o : Option A) → named (take (before end bs) bs) ≡ o → NotIn end (take (before end bs) bs) → bs ≡ take (before end bs) bs ++ end ∷ drop (before end bs + 1) bs → found o (drop (before end bs + 1) bs) ≡ Err Wrong → ⊥
        one None is apart parts e =
            let g : body v ≡ take (before end bs) bs = same_word end (body v) (take (before end bs) bs) a (drop (before end bs + 1) bs ++ b) (x.apart v f) apart
            (sym (whole v a) ∙ same ∙ ap (λ (r : List ℕ). r ++ b) parts ∙ append_assoc (take (before end bs) bs) (end ∷ drop (before end bs + 1) bs) b) in
            let h = sym (x.named_again v f) ∙ ap named g ∙ is in cc
        one (Some w) is apart parts e = cc

    free : (v w : A) (a b : List ℕ) → fits v → fits w → (body v ++ end ∷ []) ++ a ≡ (body w ++ end ∷ []) ++ b → v ≡ w
    free v w a b f g same =
        let h = same_word end (body v) (body w) a b (x.apart v f) (x.apart w g) (sym (whole v a) ∙ same ∙ whole w b) in
        let k = sym (x.named_again v f) ∙ ap named h ∙ x.named_again w g in cc

-- nothing at all
pub nothing_exact : Exact (Unit {0}) (λ v. Unit {0}) (λ v. []) nothing
nothing_exact = record {
  takes = λ bs v rest e. (tt, ap (λ (q : Unit {0} × List ℕ). q.1) (ok_is (tt, bs) (v, rest) e));
  short = λ bs e. absurd cc;
  wrong = λ bs e v a b f same. cc;
  free = λ v w a b f g same. refl;
}

-- no value
pub none_exact : (A : Type 0) (fits : A → Type 0) (spell : A → List ℕ) → ((v : A) → fits v → ⊥) → Exact A fits spell none_at
none_exact A fits spell none = record {
  takes = λ bs v rest e. absurd cc;
  short = λ bs e. absurd cc;
  wrong = λ bs e v a b f same. none v f;
  free = λ v w a b f g same. absurd (none v f);
}
