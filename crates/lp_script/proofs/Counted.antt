-- Counted bytes.
use Rattle.std.proofs.Common.{◌≡◌, ap, sym, refl, ◌∙◌, subst, ℕ, zero, suc, ◌-◌, ◌<◌, ◌≤◌, Bool, true, false, cond, eqb, List, [], ◌∷◌, ◌++◌, Result, Ok, Err, length, take, drop, arith, append_assoc, inl, inr}
use Rattle.std.specs.List.{list_all}
use Rattle.std.proofs.lemmas.Bool.{cases_lt, eqb-true, lt-ltb, le-ltb}
use Rattle.std.proofs.lemmas.List.{append-nil, length-append, length-take, take-append-drop}
use Rattle.lp_events.specs.Script.{numeral, counted}
use Rattle.lp_script.specs.declared.stop.Stop.{Stop}
use Rattle.lp_script.specs.declared.stop.Stop.TheVariants.{Short, Wrong}
use Rattle.lp_script.specs.Reading.{stopped, passes, ended, bytes_at, counted_at}
use Rattle.lp_script.proofs.Exact.{Begun, Exact, bind_ok, bind_err, ok_is, cancel, eqb-same}
use Rattle.lp_script.proofs.Numbers.{both, joins}

-- the bytes so far, where more of them are wanted
front_of : (x r p q : List ℕ) → length r ≤ length x → x ++ p ≡ r ++ q → (others : List ℕ) × (x ≡ r ++ others)
front_of x [] p q le e = (x, refl)
front_of [] (c ∷ r) p q le e = absurd (omega arith)
front_of (b ∷ x) (c ∷ r) p q le e = let h = front_of x r p q (omega arith) cc in let same : b ≡ c = cc in (h.0, let m = h.1 in cc)

same_length : (x y p q : List ℕ) → length x ≡ length y → x ++ p ≡ y ++ q → x ≡ y
same_length [] [] p q n e = refl
same_length [] (c ∷ y) p q n e = absurd (omega arith)
same_length (b ∷ x) [] p q n e = absurd (omega arith)
same_length (b ∷ x) (c ∷ y) p q n e = let h = same_length x y p q (omega arith) cc in let same : b ≡ c = cc in cc

all_front : (p : ℕ → Bool) (a b : List ℕ) → list_all p (a ++ b) ≡ true → list_all p a ≡ true
all_front p [] b e = refl
all_front p (c ∷ a) b e = let h = both (p c) (list_all p (a ++ b)) e in joins _ _ h.0 (all_front p a b h.1)

all_append : (p : ℕ → Bool) (a b : List ℕ) → list_all p a ≡ true → list_all p b ≡ true → list_all p (a ++ b) ≡ true
all_append p [] b e f = f
all_append p (c ∷ a) b e f = let h = both (p c) (list_all p a) e in joins _ _ h.0 (all_append p a b h.1 f)

-- some bytes to fill up with
filler : ℕ → List ℕ
filler zero = []
filler (suc n) = 97 ∷ filler n

length-filler : (n : ℕ) → length (filler n) ≡ n
unfolding filler
length-filler zero = refl
length-filler (suc n) = ap suc (length-filler n)

filler_passes : (line : Bool) (n : ℕ) → list_all (passes line) (filler n) ≡ true
unfolding filler
filler_passes line zero = refl
filler_passes true (suc n) = filler_passes true n
filler_passes false (suc n) = filler_passes false n

-- so many bytes and a newline
bytes_takes : (line : Bool) (n : ℕ) (r x rest : List ℕ) → bytes_at line n r ≡ Ok (x, rest) → (length x ≡ n) × (list_all (passes line) x ≡ true) × (r ≡ x ++ 10 ∷ rest)
unfolding bytes_at
bytes_takes line n r x rest e = elim (cases_lt (length r) n) [
  | inl lt ↦ none (list_all (passes line) r) (sym (ap (λ (s : Bool). cond s (stopped (list_all (passes line) r)) (cond (list_all (passes line) (take n r)) (ended (take n r) (drop n r)) (Err Wrong))) (lt-ltb _ _ lt)) ∙ e)
  | inr ge ↦ some (list_all (passes line) (take n r)) refl (drop n r) refl ge (sym (ap (λ (s : Bool). cond s (stopped (list_all (passes line) r)) (cond (list_all (passes line) (take n r)) (ended (take n r) (drop n r)) (Err Wrong))) (le-ltb _ _ ge)) ∙ e)
]
  where
    none : (s : Bool) → stopped s ≡ Ok (x, rest) → (length x ≡ n) × (list_all (passes line) x ≡ true) × (r ≡ x ++ 10 ∷ rest)
    none true e = absurd cc
    none false e = absurd cc

    newline : (b : ℕ) (t : List ℕ) (s : Bool) → eqb b 10 ≡ s → drop n r ≡ b ∷ t → list_all (passes line) (take n r) ≡ true → n ≤ length r → cond {A = Result (List ℕ × List ℕ) Stop} s (Ok (take n r, t)) (Err Wrong) ≡ Ok (x, rest) → (length x ≡ n) × (list_all (passes line) x ≡ true) × (r ≡ x ++ 10 ∷ rest)
    newline b t true is d p ge e =
        let g = ok_is (take n r, t) (x, rest) e in
        let same : take n r ≡ x = ap (λ (q : List ℕ × List ℕ). q.0) g in
        let behind : t ≡ rest = ap (λ (q : List ℕ × List ℕ). q.1) g in
        subst (λ (y : List ℕ). (length y ≡ n) × (list_all (passes line) y ≡ true) × (r ≡ y ++ 10 ∷ rest)) same
        (omega (arith, length-take n r), p, sym (take-append-drop n r) ∙ ap (λ (y : List ℕ). take n r ++ y) (d ∙ ap (λ (i : ℕ). i ∷ t) (eqb-true b 10 is) ∙ ap (λ (y : List ℕ). 10 ∷ y) behind))
    newline b t false is d p ge e = absurd cc

    some : (s : Bool) → list_all (passes line) (take n r) ≡ s → (d : List ℕ) → drop n r ≡ d → n ≤ length r → cond s (ended (take n r) d) (Err Wrong) ≡ Ok (x, rest) → (length x ≡ n) × (list_all (passes line) x ≡ true) × (r ≡ x ++ 10 ∷ rest)
    some true p [] d ge e = absurd cc
    some true p (b ∷ t) d ge e = newline b t (eqb b 10) refl d p ge e
    some false p d f ge e = absurd cc

bytes_short : (line : Bool) (n : ℕ) (r : List ℕ) → bytes_at line n r ≡ Err Short → (x : List ℕ) × (length x ≡ n) × (list_all (passes line) x ≡ true) × (others : List ℕ) × (0 < length others) × (x ++ 10 ∷ [] ≡ r ++ others)
unfolding bytes_at
bytes_short line n r e = elim (cases_lt (length r) n) [
  | inl lt ↦ none (list_all (passes line) r) refl lt (sym (ap (λ (s : Bool). cond s (stopped (list_all (passes line) r)) (cond (list_all (passes line) (take n r)) (ended (take n r) (drop n r)) (Err Wrong))) (lt-ltb _ _ lt)) ∙ e)
  | inr ge ↦ some (list_all (passes line) (take n r)) refl (drop n r) refl ge (sym (ap (λ (s : Bool). cond s (stopped (list_all (passes line) r)) (cond (list_all (passes line) (take n r)) (ended (take n r) (drop n r)) (Err Wrong))) (le-ltb _ _ ge)) ∙ e)
]
  where
    none : (s : Bool) → list_all (passes line) r ≡ s → length r < n → stopped {A = List ℕ} s ≡ Err Short → (x : List ℕ) × (length x ≡ n) × (list_all (passes line) x ≡ true) × (others : List ℕ) × (0 < length others) × (x ++ 10 ∷ [] ≡ r ++ others)
    none true p lt e = (
      r ++ filler (n - length r),
      omega (arith, length-append r (filler (n - length r)), length-filler (n - length r)),
      all_append (passes line) r _ p (filler_passes line (n - length r)),
      filler (n - length r) ++ 10 ∷ [],
      omega (arith, length-append (filler (n - length r)) (10 ∷ [])),
      append_assoc r (filler (n - length r)) (10 ∷ []),
    )
    none false p lt e = absurd cc

    newline : (b : ℕ) (t : List ℕ) (s : Bool) → cond {A = Result (List ℕ × List ℕ) Stop} s (Ok (take n r, t)) (Err Wrong) ≡ Err Short → (x : List ℕ) × (length x ≡ n) × (list_all (passes line) x ≡ true) × (others : List ℕ) × (0 < length others) × (x ++ 10 ∷ [] ≡ r ++ others)
    newline b t true e = absurd cc
    newline b t false e = absurd cc

    some : (s : Bool) → list_all (passes line) (take n r) ≡ s → (d : List ℕ) → drop n r ≡ d → n ≤ length r → cond s (ended (take n r) d) (Err Wrong) ≡ Err Short → (x : List ℕ) × (length x ≡ n) × (list_all (passes line) x ≡ true) × (others : List ℕ) × (0 < length others) × (x ++ 10 ∷ [] ≡ r ++ others)
    some true p [] d ge e = (take n r, omega (arith, length-take n r), p, 10 ∷ [], omega arith, ap (λ (y : List ℕ). y ++ 10 ∷ []) (sym (append-nil (take n r)) ∙ ap (λ (y : List ℕ). take n r ++ y) (sym d) ∙ take-append-drop n r))
    some true p (b ∷ t) d ge e = newline b t (eqb b 10) e
    some false p d f ge e = absurd cc

bytes_wrong : (line : Bool) (n : ℕ) (r : List ℕ) → bytes_at line n r ≡ Err Wrong → (x a b : List ℕ) → length x ≡ n → list_all (passes line) x ≡ true → x ++ 10 ∷ a ≡ r ++ b → ⊥
unfolding bytes_at
bytes_wrong line n r e x a b size p same = elim (cases_lt (length r) n) [
  | inl lt ↦ none (list_all (passes line) r) refl lt (sym (ap (λ (s : Bool). cond s (stopped (list_all (passes line) r)) (cond (list_all (passes line) (take n r)) (ended (take n r) (drop n r)) (Err Wrong))) (lt-ltb _ _ lt)) ∙ e)
  | inr ge ↦ some (list_all (passes line) (take n r)) refl (drop n r) refl (whole ge) ge (sym (ap (λ (s : Bool). cond s (stopped (list_all (passes line) r)) (cond (list_all (passes line) (take n r)) (ended (take n r) (drop n r)) (Err Wrong))) (le-ltb _ _ ge)) ∙ e)
]
  where
    whole : n ≤ length r → x ≡ take n r
    whole ge = same_length x (take n r) (10 ∷ a) (drop n r ++ b) (omega (arith, length-take n r)) (same ∙ ap (λ (y : List ℕ). y ++ b) (sym (take-append-drop n r)) ∙ append_assoc (take n r) (drop n r) b)

    none : (s : Bool) → list_all (passes line) r ≡ s → length r < n → stopped {A = List ℕ} s ≡ Err Wrong → ⊥
    none true f lt e = cc
    none false f lt e = let h = front_of x r (10 ∷ a) b (omega (arith, size)) same in let k = all_front (passes line) r h.0 (sym (ap (list_all (passes line)) h.1) ∙ p) in let l : true ≡ false = sym k ∙ f in cc

    newline : (c : ℕ) (t : List ℕ) (s : Bool) → eqb c 10 ≡ s → drop n r ≡ c ∷ t → x ≡ take n r → cond {A = Result (List ℕ × List ℕ) Stop} s (Ok (take n r, t)) (Err Wrong) ≡ Err Wrong → ⊥
    newline c t true is d f e = cc
    newline c t false is d f e =
        let parts : x ++ 10 ∷ a ≡ x ++ (c ∷ (t ++ b)) = same ∙ ap (λ (y : List ℕ). y ++ b) (sym (take-append-drop n r) ∙ ap (λ (y : List ℕ). y ++ drop n r) (sym f) ∙ ap (λ (y : List ℕ). x ++ y) d) ∙ append_assoc x (c ∷ t) b in
        let rest : 10 ∷ a ≡ c ∷ (t ++ b) = cancel x _ _ parts in
        let ten : c ≡ 10 = cc in
        let l : true ≡ false = sym (eqb-same 10) ∙ ap (λ (i : ℕ). eqb i 10) (sym ten) ∙ is in cc

    some : (s : Bool) → list_all (passes line) (take n r) ≡ s → (d : List ℕ) → drop n r ≡ d → x ≡ take n r → n ≤ length r → cond s (ended (take n r) d) (Err Wrong) ≡ Err Wrong → ⊥
    some true q [] d f ge e = cc
    some true q (c ∷ t) d f ge e = newline c t (eqb c 10) refl d f e
    some false q d g f ge e = let l : true ≡ false = sym p ∙ ap (list_all (passes line)) f ∙ q in cc

counted_parts : (x a : List ℕ) → counted x ++ a ≡ (numeral (length x) ++ 10 ∷ []) ++ (x ++ 10 ∷ a)
counted_parts x a = append_assoc ((numeral (length x) ++ 10 ∷ []) ++ x) (10 ∷ []) a ∙ append_assoc (numeral (length x) ++ 10 ∷ []) x (10 ∷ a)

pub counted_exact : (line : Bool) (allowed : ℕ → Bool) (read : List ℕ → Result (ℕ × List ℕ) Stop) → Exact ℕ (λ n. allowed n ≡ true) (λ n. numeral n ++ 10 ∷ []) read
    → Exact (List ℕ) (λ x. (allowed (length x) ≡ true) × (list_all (passes line) x ≡ true)) counted (counted_at line read)
counted_exact line allowed read x = record {
  takes = takes;
  short = short;
  wrong = wrong;
  free = free;
}
  where
    takes : (bs v rest : List ℕ) → counted_at line read bs ≡ Ok (v, rest) → ((allowed (length v) ≡ true) × (list_all (passes line) v ≡ true)) × (bs ≡ counted v ++ rest)
    takes bs v rest e =
        let t = bind_ok (read bs) (λ n. bytes_at line n.0 n.1) (v, rest) e in
        let f = x.takes bs t.0.0 t.0.1 t.1 in
        let g = bytes_takes line t.0.0 t.0.1 v rest t.2 in
        ((ap allowed g.0 ∙ f.0, g.1), f.1 ∙ ap (λ (y : List ℕ). (numeral t.0.0 ++ 10 ∷ []) ++ y) g.2 ∙ ap (λ (n : ℕ). (numeral n ++ 10 ∷ []) ++ (v ++ 10 ∷ rest)) (sym g.0) ∙ sym (counted_parts v rest))

    short : (bs : List ℕ) → counted_at line read bs ≡ Err Short → Begun (List ℕ) (λ v. (allowed (length v) ≡ true) × (list_all (passes line) v ≡ true)) counted bs
    short bs e = elim (bind_err (read bs) (λ n. bytes_at line n.0 n.1) Short e) [
      | inl d ↦ let s = x.short bs d in let v = filler s.value in let n = length-filler s.value in
          record {
            value = v;
            fit = (ap allowed n ∙ s.fit, filler_passes line s.value);
            others = s.others ++ (v ++ 10 ∷ []);
            some = omega (arith, s.some, length-append s.others (v ++ 10 ∷ []));
            spelled = sym (append-nil (counted v)) ∙ counted_parts v [] ∙ ap (λ (n : ℕ). (numeral n ++ 10 ∷ []) ++ (v ++ 10 ∷ [])) n ∙ ap (λ (y : List ℕ). y ++ (v ++ 10 ∷ [])) s.spelled ∙ append_assoc bs s.others (v ++ 10 ∷ []);
          }
      | inr (n, t, d) ↦ let f = x.takes bs n.0 n.1 t in let s = bytes_short line n.0 n.1 d in
          record {
            value = s.0;
            fit = (ap allowed s.1 ∙ f.0, s.2);
            others = s.3;
            some = s.4;
            spelled = sym (append-nil (counted s.0)) ∙ counted_parts s.0 [] ∙ ap (λ (i : ℕ). (numeral i ++ 10 ∷ []) ++ (s.0 ++ 10 ∷ [])) s.1 ∙ ap (λ (y : List ℕ). (numeral n.0 ++ 10 ∷ []) ++ y) s.5 ∙ sym (append_assoc (numeral n.0 ++ 10 ∷ []) n.1 s.3) ∙ ap (λ (y : List ℕ). y ++ s.3) (sym f.1);
          }
    ]

    wrong : (bs : List ℕ) → counted_at line read bs ≡ Err Wrong → (v a b : List ℕ) → (allowed (length v) ≡ true) × (list_all (passes line) v ≡ true) → counted v ++ a ≡ bs ++ b → ⊥
    wrong bs e v a b fit same = elim (bind_err (read bs) (λ n. bytes_at line n.0 n.1) Wrong e) [
      | inl d ↦ x.wrong bs d (length v) (v ++ 10 ∷ a) b fit.0 (sym (counted_parts v a) ∙ same)
      | inr (n, t, d) ↦
          let f = x.takes bs n.0 n.1 t in
          let parts : (numeral (length v) ++ 10 ∷ []) ++ (v ++ 10 ∷ a) ≡ (numeral n.0 ++ 10 ∷ []) ++ (n.1 ++ b) = sym (counted_parts v a) ∙ same ∙ ap (λ (y : List ℕ). y ++ b) f.1 ∙ append_assoc (numeral n.0 ++ 10 ∷ []) n.1 b in
          let one : length v ≡ n.0 = x.free (length v) n.0 (v ++ 10 ∷ a) (n.1 ++ b) fit.0 f.0 parts in
          bytes_wrong line n.0 n.1 d v a b one fit.1 (cancel (numeral n.0 ++ 10 ∷ []) _ _ (ap (λ (i : ℕ). (numeral i ++ 10 ∷ []) ++ (v ++ 10 ∷ a)) (sym one) ∙ parts))
    ]

    free : (v w a b : List ℕ) → (allowed (length v) ≡ true) × (list_all (passes line) v ≡ true) → (allowed (length w) ≡ true) × (list_all (passes line) w ≡ true) → counted v ++ a ≡ counted w ++ b → v ≡ w
    free v w a b f g same =
        let parts : (numeral (length v) ++ 10 ∷ []) ++ (v ++ 10 ∷ a) ≡ (numeral (length w) ++ 10 ∷ []) ++ (w ++ 10 ∷ b) = sym (counted_parts v a) ∙ same ∙ counted_parts w b in
        let one : length v ≡ length w = x.free (length v) (length w) (v ++ 10 ∷ a) (w ++ 10 ∷ b) f.0 g.0 parts in
        same_length v w (10 ∷ a) (10 ∷ b) one (cancel (numeral (length w) ++ 10 ∷ []) _ _ (ap (λ (i : ℕ). (numeral i ++ 10 ∷ []) ++ (v ++ 10 ∷ a)) (sym one) ∙ parts))
