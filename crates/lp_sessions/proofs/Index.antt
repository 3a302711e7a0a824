-- An index of a table: those that it leaves out are idle, so nothing is offered for them.
use Rattle.std.proofs.Common.{rules, Err, subst, ◌≡◌, ℕ, zero, suc, ◌<◌, ◌≤◌, ◌+◌, ◌-◌, List, [], ◌∷◌, ◌++◌, length, take, drop, get_or, slice_set, nat_eq, nat_lt, Bool, true, false, ◌||◌, Option, refl, sym, ap, ◌∙◌, append_assoc, arith, inl, inr}
use Rattle.std.specs.List.{list_any, remove}
use Rattle.std.specs.declared.cmp.Ordering.TheVariants.{Less, Greater}
use Rattle.std.specs.Ordering.{nat_cmp, ordering_index, is_lt}
use Rattle.std.specs.List.Sorted.{IsBinarySearchResult, IsNonDecreasingBy}
use Rattle.std.proofs.lemmas.Cmp.{nat_cmp_total}
use Rattle.std.proofs.lemmas.List.Sorted.{searchable_from_sorted}
use Rattle.std.proofs.lemmas.Bool.{cases_Bool, true≢false}
use Rattle.std.proofs.lemmas.List.{drop-drop, get_or-drop, length-drop, take_all}
use Rattle.lp_telnet.specs.Lines.{Place}
use Rattle.lp_wire.specs.Heard.{most_pending}
use Rattle.lp_wire.specs.Wires.{nothing}
use Rattle.lp_wire.specs.declared.happening.WireCall.{WireCall}
use Rattle.lp_sessions.specs.declared.session.Phase.{Phase}
use Rattle.lp_sessions.specs.declared.session.Phase.TheVariants.{Open, Closing, Over}
use Rattle.lp_sessions.specs.declared.session.Session.{Session}
use Rattle.lp_sessions.specs.Tied.{OffersOne, PhaseOffers, TellsOne, new_session}
use Rattle.lp_sessions.specs.All.{AreAbove, AreOther, OffersAll, TellsAll, numbers, one_more}
use Rattle.lp_sessions.specs.Index.{AreIdle, AreIdleAt, AreIdleBut, IsIdle, IsIndex}
use Rattle.lp_sessions.specs.Serving.{AreQuick, IsSlowest}
use Rattle.lp_sessions.proofs.Finding.{not_less}
use Rattle.lp_sessions.proofs.Outputs.{above_at}
use Rattle.lp_sessions.proofs.Serving.{above_lower, any_in, quick_more}
use Rattle.lp_sessions.proofs.SoFar.{SoFar, so_far_all, so_far_next, so_far_none}
use Rattle.lp_sessions.proofs.Taking.{above_other, below_other, eq_self}
use Rattle.lp_sessions.proofs.Tables.{any_default}

-- Lists

both_parts : (m : ℕ) (xs : List Session) → take m xs ++ drop m xs ≡ xs
both_parts zero xs = refl
both_parts (suc m) [] = refl
both_parts (suc m) (x ∷ xs) = ap (λ (l : List Session). x ∷ l) (both_parts m xs)

take_over : (n m : ℕ) (xs : List Session) → take (n + m) xs ≡ take n xs ++ take m (drop n xs)
take_over zero m xs = let on : zero + m ≡ m = omega arith in ap (λ (k : ℕ). take k xs) on
take_over (suc n) m [] = take_all (suc n + m) [] (omega arith) ∙ sym (take_all m [] (omega arith))
take_over (suc n) m (x ∷ xs) = let on : suc n + m ≡ suc (n + m) = omega arith in ap (λ (k : ℕ). take k (x ∷ xs)) on ∙ ap (λ (l : List Session). x ∷ l) (take_over n m xs)

pub above_drop : (n low : ℕ) (ss : List Session) → AreAbove low (numbers ss) → AreAbove low (numbers (drop n ss))
above_drop zero low ss above = above
above_drop (suc n) low [] above = above
above_drop (suc n) low (s ∷ ss) above = above_drop n low ss (above_lower low s.number (numbers ss) (omega (arith, above.0)) above.1)

or_true : (a b : Bool) → b ≡ true → (a || b) ≡ true
or_true true b e = refl
or_true false b e = e

or_right : (a b : Bool) → (a || b) ≡ false → b ≡ false
or_right true b e = absurd (true≢false e)
or_right false b e = e

-- What is on a list

unlisted : (j low : ℕ) (ks : List ℕ) → j ≤ low → AreAbove low ks → list_any (nat_eq j) ks ≡ false
unlisted j low [] le above = refl
unlisted j low (k ∷ ks) le above =
    let lt : j < k = omega (arith, le, above.0) in
    rw (below_other j k lt) (unlisted j k ks (omega (arith, lt)) above.1)

pub listed_at : (ks : List ℕ) (i : ℕ) (d : ℕ) → i < length ks → list_any (nat_eq (get_or ks i d)) ks ≡ true
listed_at [] i d lt = absurd (omega (arith, lt))
listed_at (k ∷ ks) zero d lt = rw (eq_self k) refl
listed_at (k ∷ ks) (suc i) d lt = or_true (nat_eq (get_or ks i d) k) (list_any (nat_eq (get_or ks i d)) ks) (listed_at ks i d (omega (arith, lt)))

pub listed_found : (ks : List ℕ) (i k : ℕ) (d : ℕ) → i < length ks → get_or ks i d ≡ k → list_any (nat_eq k) ks ≡ true
listed_found ks i k d lt at = subst (λ (n : ℕ). list_any (nat_eq n) ks ≡ true) at (listed_at ks i d lt)

any_insert : (f : ℕ → Bool) (ks : List ℕ) (i k : ℕ) → list_any f (take i ks ++ k ∷ drop i ks) ≡ false → list_any f ks ≡ false
any_insert f ks zero k e = or_right (f k) (list_any f ks) e
any_insert f [] (suc i) k e = refl
any_insert f (x ∷ ks) (suc i) k e = elim (cases_Bool (f x)) [
  | inl y ↦ absurd (true≢false (rw y at e))
  | inr n ↦ let rest : list_any f (take i ks ++ k ∷ drop i ks) ≡ false = rw n at e in rw n (any_insert f ks i k rest)
]

insert_above : (low k : ℕ) (ks : List ℕ) (i : ℕ) → low < k → AreAbove low ks → i ≤ length ks → ((j d : ℕ) → j < i → get_or ks j d < k) → ((j d : ℕ) → i ≤ j → j < length ks → k < get_or ks j d) → AreAbove low (take i ks ++ k ∷ drop i ks)
insert_above low k [] zero lt above le below over = (lt, tt)
insert_above low k (x ∷ ks) zero lt above le below over = (lt, (over 0 0 (omega arith) (omega arith), above.1))
insert_above low k [] (suc i) lt above le below over = absurd (omega (arith, le))
insert_above low k (x ∷ ks) (suc i) lt above le below over =
    (above.0, insert_above x k ks i (below 0 0 (omega arith)) above.1 (omega (arith, le)) (λ j d less. below (suc j) d (omega (arith, less))) (λ j d from less. over (suc j) d (omega (arith, from)) (omega (arith, less))))

above_removed : (low : ℕ) (ks : List ℕ) (i : ℕ) → AreAbove low ks → AreAbove low (remove ks i)
above_removed low [] zero above = tt
above_removed low [] (suc i) above = tt
above_removed low (k ∷ ks) zero above = above_lower low k ks (omega (arith, above.0)) above.1
above_removed low (k ∷ ks) (suc i) above = (above.0, above_removed k ks i above.1)

any_removed : (j : ℕ) (ks : List ℕ) (i d : ℕ) → i < length ks → nat_eq j (get_or ks i d) ≡ false → list_any (nat_eq j) (remove ks i) ≡ false → list_any (nat_eq j) ks ≡ false
any_removed j [] i d lt apart none = absurd (omega (arith, lt))
any_removed j (k ∷ ks) zero d lt apart none = rw apart none
any_removed j (k ∷ ks) (suc i) d lt apart none = elim (cases_Bool (nat_eq j k)) [
  | inl y ↦ absurd (true≢false (rw y at none))
  | inr n ↦ let rest : list_any (nat_eq j) (remove ks i) ≡ false = rw n at none in rw n (any_removed j ks i d (omega (arith, lt)) apart rest)
]

-- Where a binary search finds a gap

each_more : (low : ℕ) (ks : List ℕ) → AreAbove low ks → (k d : ℕ) → suc k < length ks → is_lt (nat_cmp (get_or ks (suc k) d) (get_or ks k d)) ≡ false
each_more low [] above k d lt = absurd (omega (arith, lt))
each_more low (x ∷ []) above k d lt = absurd (omega (arith, lt))
each_more low (x ∷ y ∷ ks) above zero d lt = not_less x y above.1.0
each_more low (x ∷ y ∷ ks) above (suc k) d lt = each_more x (y ∷ ks) above.1 k d (omega (arith, lt))

rises : (n : ℕ) (ks : List ℕ) → AreAbove 0 ks → IsNonDecreasingBy (λ (k : ℕ). ordering_index (nat_cmp k n)) ks
rises n ks above = searchable_from_sorted nat_cmp_total (λ (k : ℕ). k) ks n (λ k d low high.
    let next : k + 1 ≡ suc k = omega arith in
    rw next (each_more 0 ks above k d (omega (arith, low, high))))

less_is : (a b : ℕ) → nat_cmp a b ≡ Less → a < b
less_is a b e = search rules

greater_is : (a b : ℕ) → nat_cmp a b ≡ Greater → b < a
greater_is a b e = search rules

pub gap_below : (n : ℕ) (ks : List ℕ) (i : ℕ) → AreAbove 0 ks → IsBinarySearchResult (λ (k : ℕ). nat_cmp k n) ks (Err i) → (j d : ℕ) → j < i → get_or ks j d < n
gap_below n ks i above parted j d less = less_is (get_or ks j d) n ((parted (rises n ks above)).0 j d (omega arith) less)

pub gap_over : (n : ℕ) (ks : List ℕ) (i : ℕ) → AreAbove 0 ks → IsBinarySearchResult (λ (k : ℕ). nat_cmp k n) ks (Err i) → (j d : ℕ) → i ≤ j → j < length ks → n < get_or ks j d
gap_over n ks i above parted j d from less = greater_is (get_or ks j d) n ((parted (rises n ks above)).1 j d from less)

-- Indexes are kept

idle_set : (listed : List ℕ) (i : ℕ) (ss : List Session) (s1 : Session) → list_any (nat_eq s1.number) listed ≡ true → AreIdleBut listed ss → AreIdleBut listed (slice_set ss i s1)
idle_set listed zero [] s1 on idle = tt
idle_set listed (suc i) [] s1 on idle = tt
idle_set listed zero (s ∷ ss) s1 on idle = (λ un. absurd (true≢false (sym on ∙ un)), idle.1)
idle_set listed (suc i) (s ∷ ss) s1 on idle = (idle.0, idle_set listed i ss s1 on idle.1)

-- a connection that is listed changes
pub index_set : (listed : List ℕ) (i k : ℕ) (ss : List Session) (s1 : Session) → s1.number ≡ k → list_any (nat_eq k) listed ≡ true → IsIndex listed ss → IsIndex listed (slice_set ss i s1)
index_set listed i k ss s1 is on x = record { rising = x.rising; others = idle_set listed i ss s1 (subst (λ (n : ℕ). list_any (nat_eq n) listed ≡ true) (sym is) on) x.others }

idle_remove : (listed : List ℕ) (i : ℕ) (ss : List Session) → AreIdleBut listed ss → AreIdleBut listed (remove ss i)
idle_remove listed zero [] idle = tt
idle_remove listed (suc i) [] idle = tt
idle_remove listed zero (s ∷ ss) idle = idle.1
idle_remove listed (suc i) (s ∷ ss) idle = (idle.0, idle_remove listed i ss idle.1)

pub index_remove : (listed : List ℕ) (i : ℕ) (ss ss1 : List Session) → ss1 ≡ remove ss i → IsIndex listed ss → IsIndex listed ss1
index_remove listed i ss ss1 is x = rw is (record { rising = x.rising; others = idle_remove listed i ss x.others })

idle_push : (listed : List ℕ) (k : ℕ) (ss : List Session) → AreIdleBut listed ss → AreIdleBut listed (ss ++ new_session k ∷ [])
idle_push listed k [] idle = (λ un. (refl, λ closing. cc), tt)
idle_push listed k (s ∷ ss) idle = (idle.0, idle_push listed k ss idle.1)

pub index_push : (listed : List ℕ) (k : ℕ) (ss ss1 : List Session) (s : Session) → s ≡ new_session k → ss1 ≡ ss ++ s ∷ [] → IsIndex listed ss → IsIndex listed ss1
index_push listed k ss ss1 s is pushed x = rw (pushed, is) (record { rising = x.rising; others = idle_push listed k ss x.others })

abbrev IdleIf : List ℕ → Session → Type 0
IdleIf listed s = list_any (nat_eq s.number) listed ≡ false → IsIdle s

idle_fed : (listed : List ℕ) (i : ℕ) (ss : List Session) (s d : Session) (t : Place) → i < length ss → s ≡ get_or ss i d → AreIdleBut listed ss → AreIdleBut listed (slice_set ss i (record s { telnet = t }))
idle_fed listed i [] s d t lt at idle = absurd (omega (arith, lt))
idle_fed listed zero (x ∷ ss) s d t lt at idle = (subst (λ (y : Session). IdleIf listed y) (sym at) idle.0, idle.1)
idle_fed listed (suc i) (x ∷ ss) s d t lt at idle = (idle.0, idle_fed listed i ss s d t (omega (arith, lt)) at idle.1)

pub index_fed : (listed : List ℕ) (i : ℕ) (ss : List Session) (s d : Session) (t : Place) → i < length ss → s ≡ get_or ss i d → IsIndex listed ss → IsIndex listed (slice_set ss i (record s { telnet = t }))
index_fed listed i ss s d t lt at x = record { rising = x.rising; others = idle_fed listed i ss s d t lt at x.others }

-- one more number
idle_insert : (listed : List ℕ) (i k : ℕ) (ss : List Session) → AreIdleBut listed ss → AreIdleBut (take i listed ++ k ∷ drop i listed) ss
idle_insert listed i k [] idle = tt
idle_insert listed i k (s ∷ ss) idle = (λ un. idle.0 (any_insert (nat_eq s.number) listed i k un), idle_insert listed i k ss idle.1)

pub index_insert : (listed : List ℕ) (i k : ℕ) (ss : List Session) → 0 < k → i ≤ length listed → ((j d : ℕ) → j < i → get_or listed j d < k) → ((j d : ℕ) → i ≤ j → j < length listed → k < get_or listed j d)
    → IsIndex listed ss → IsIndex (take i listed ++ k ∷ drop i listed) ss
index_insert listed i k ss some le below over x = record { rising = insert_above 0 k listed i some x.rising le below over; others = idle_insert listed i k ss x.others }

pub inserted : (listed : List ℕ) (i k : ℕ) → list_any (nat_eq k) (take i listed ++ k ∷ drop i listed) ≡ true
inserted listed i k = any_in k (take i listed) (drop i listed)

-- one number less, whose connection is idle or not there
idle_removed : (listed : List ℕ) (i d : ℕ) (ss : List Session) → i < length listed → AreIdleAt (get_or listed i d) ss → AreIdleBut listed ss → AreIdleBut (remove listed i) ss
idle_removed listed i d [] lt own idle = tt
idle_removed listed i d (s ∷ ss) lt own idle = (
  λ un. elim (cases_Bool (nat_eq s.number (get_or listed i d))) [
    | inl y ↦ own.0 y
    | inr n ↦ idle.0 (any_removed s.number listed i d lt n un)
  ],
  idle_removed listed i d ss lt own.1 idle.1,
)

pub index_removed : (listed : List ℕ) (i k d : ℕ) (ss : List Session) → i < length listed → k ≡ get_or listed i d → AreIdleAt k ss → IsIndex listed ss → IsIndex (remove listed i) ss
index_removed listed i k d ss lt is own x =
    record { rising = above_removed 0 listed i x.rising; others = idle_removed listed i d ss lt (subst (λ (n : ℕ). AreIdleAt n ss) is own) x.others }

other_idle : (k : ℕ) (ss : List Session) → AreOther k ss → AreIdleAt k ss
other_idle k [] other = tt
other_idle k (s ∷ ss) other = (λ same. absurd (true≢false (sym same ∙ other.0)), other_idle k ss other.1)

pub absent_idle : (k : ℕ) (ss : List Session) → AreOther k ss → AreIdleAt k ss
absent_idle k ss other = other_idle k ss other

idle_here : (low k i : ℕ) (ss : List Session) (d : Session) → AreAbove low (numbers ss) → i < length ss → (get_or ss i d).number ≡ k → IsIdle (get_or ss i d) → AreIdleAt k ss
idle_here low k i [] d above lt at idle = absurd (omega (arith, lt))
idle_here low k zero (s ∷ ss) d above lt at idle =
    (λ same. idle, other_idle k ss (above_other k k ss (omega arith) (subst (λ (n : ℕ). AreAbove n (numbers ss)) at above.1)))
idle_here low k (suc i) (s ∷ ss) d above lt at idle =
    let within : i < length ss = omega (arith, lt) in
    let below : s.number < k = subst (λ (n : ℕ). s.number < n) at (above_at s.number i ss d within above.1) in
    (λ same. absurd (true≢false (sym same ∙ below_other s.number k below)), idle_here s.number k i ss d above.1 within at idle)

pub here_idle : (k i : ℕ) (ss : List Session) (s d : Session) → AreAbove 0 (numbers ss) → i < length ss → ((e : Session) → (get_or ss i e).number ≡ k) → s ≡ get_or ss i d → IsIdle s → AreIdleAt k ss
here_idle k i ss s d above lt at is idle = idle_here 0 k i ss d above lt (at d) (subst IsIdle is idle)

-- Those before the next number of an index are idle

narrow : (k : ℕ) (rest : List ℕ) (ss : List Session) → AreOther k ss → AreIdleBut (k ∷ rest) ss → AreIdleBut rest ss
narrow k rest [] other idle = tt
narrow k rest (s ∷ ss) other idle = (λ un. idle.0 (rw other.0 un), narrow k rest ss other.1 idle.1)

idle_before : (low k : ℕ) (rest : List ℕ) (xs : List Session) (m : ℕ) (d : Session) → AreAbove low (numbers xs) → AreAbove k rest → m < length xs → (get_or xs m d).number ≡ k → AreIdleBut (k ∷ rest) xs
    → AreIdle (take m xs) × AreIdleBut rest (drop (suc m) xs)
idle_before low k rest [] m d above rising lt at idle = absurd (omega (arith, lt))
idle_before low k rest (s ∷ ss) zero d above rising lt at idle =
    (tt, narrow k rest ss (above_other k k ss (omega arith) (subst (λ (n : ℕ). AreAbove n (numbers ss)) at above.1)) idle.1)
idle_before low k rest (s ∷ ss) (suc m) d above rising lt at idle =
    let within : m < length ss = omega (arith, lt) in
    let below : s.number < k = subst (λ (n : ℕ). s.number < n) at (above_at s.number m ss d within above.1) in
    let un : list_any (nat_eq s.number) (k ∷ rest) ≡ false = rw (below_other s.number k below) (unlisted s.number k rest (omega (arith, below)) rising) in
    let more = idle_before s.number k rest ss m d above.1 rising within at idle.1 in
    ((idle.0 un, more.0), more.1)

idle_rest : (ss : List Session) → AreIdleBut [] ss → AreIdle ss
idle_rest [] idle = tt
idle_rest (s ∷ ss) idle = (idle.0 refl, idle_rest ss idle.1)

-- Nothing is offered for those that are idle

idle_phase : (k : ℕ) (p : Phase) (o : List ℕ) → o ≡ [] → (p ≡ Closing → ⊥) → PhaseOffers k p p o o []
idle_phase k Open o none apart = (refl, nothing none none refl)
idle_phase k Closing o none apart = absurd (apart refl)
idle_phase k Over o none apart = (refl, refl, refl)

idle_one : (s : Session) → IsIdle s → OffersOne s s []
idle_one s idle = record { number = refl; telnet = refl; offers = idle_phase s.number s.phase s.outbox idle.0 idle.1 }

idle_all : (mid ys rest : List Session) (more : List WireCall) → AreIdle mid → OffersAll ys rest more → OffersAll (mid ++ ys) (mid ++ rest) more
idle_all [] ys rest more idle all = all
idle_all (s ∷ mid) ys rest more idle all = one_more (idle_one s idle.0) (idle_all mid ys rest more idle.1 all)

so_far_on : (old now : List Session) (n m i : ℕ) (c0 c1 : Option (List WireCall)) → n + m ≡ i → AreIdle (take m (drop n old)) → SoFar old now n c0 c1 → SoFar old now i c0 c1
so_far_on old now n m i c0 c1 on idle s =
    let mid = take m (drop n old) in
    let behind : drop m (drop n old) ≡ drop i old = drop-drop m n old ∙ ap (λ (k : ℕ). drop k old) on in
    let whole : mid ++ drop i old ≡ drop n old = ap (λ (xs : List Session). mid ++ xs) (sym behind) ∙ both_parts m (drop n old) in
    let front : take i now ≡ take n now ++ mid = ap (λ (k : ℕ). take k now) (sym on) ∙ take_over n m now ∙ ap (λ (xs : List Session). take n now ++ take m xs) s.others in
    record {
      long = s.long;
      others = ap (λ (k : ℕ). drop k now) (sym on) ∙ sym (drop-drop m n now) ∙ ap (drop m) s.others ∙ behind;
      tells = λ l told.
          let t = s.tells l told in (
            t.0,
            t.1,
            t.2,
            t.3,
            λ rest more all.
                let at : take n now ++ (mid ++ rest) ≡ take i now ++ rest = sym (append_assoc (take n now) mid rest) ∙ ap (λ (xs : List Session). xs ++ rest) (sym front) in
                subst (λ (xs : List Session). OffersAll old xs (t.1 ++ more)) at (t.4 (mid ++ rest) more (subst (λ (xs : List Session). OffersAll xs (mid ++ rest) more) whole (idle_all mid (drop i old) rest more idle all))),
          );
    }

-- A walk over what is listed

pub record Walks (old now : List Session) (listed : List ℕ) (done : ℕ) (c0 c1 : Option (List WireCall)) : Type 0 where
  pub so : SoFar old now done c0 c1
  pub within : done ≤ length old
  pub rising : AreAbove 0 listed
  pub idle : AreIdleBut listed (drop done old)

pub walks_begin : (listed : List ℕ) (ss : List Session) (c : Option (List WireCall)) → IsIndex listed ss → Walks ss ss listed 0 c c
walks_begin listed ss c x = record { so = so_far_none ss c; within = omega arith; rising = x.rising; idle = x.others }

pub walks_found : (old now : List Session) (listed : List ℕ) (k : ℕ) (rest : List ℕ) (done i : ℕ) (s0 s1 d : Session) (c0 c1 c2 : Option (List WireCall)) → listed ≡ k ∷ rest → AreAbove 0 (numbers old) → done ≤ i → i < length now
    → (get_or now i d).number ≡ k → s0 ≡ get_or now i d → Walks old now listed done c0 c1 → TellsOne s0 s1 c1 c2 → Walks old (slice_set now i s1) rest (i + 1) c0 c2
walks_found old now listed k rest done i s0 s1 d c0 c1 c2 split above from within at is w one =
    let m = i - done in
    let on : done + m ≡ i = omega (arith, from) in
    let xs = drop done old in
    let long : length xs ≡ length old - done = length-drop done old in
    let low : m < length xs = omega (arith, from, within, w.so.long, long) in
    let there : (get_or xs m d).number ≡ k =
    ap (λ (ys : List Session). (get_or ys m d).number) (sym w.so.others) ∙ ap (λ (s : Session). s.number) (get_or-drop done now m d) ∙ ap (λ (j : ℕ). (get_or now j d).number) on ∙ at in
    let rising : AreAbove 0 (k ∷ rest) = subst (λ (ks : List ℕ). AreAbove 0 ks) split w.rising in
    let parts = idle_before 0 k rest xs m d (above_drop done 0 old above) rising.1 low there (subst (λ (ks : List ℕ). AreIdleBut ks xs) split w.idle) in
    let next : done + suc m ≡ i + 1 = omega (arith, on) in
    record {
      so = so_far_next old now i s0 s1 d c0 c1 c2 within is (so_far_on old now done m i c0 c1 on parts.0 w.so) one;
      within = omega (arith, within, w.so.long);
      rising = above_lower 0 k rest (omega arith) rising.1;
      idle = subst (λ (ys : List Session). AreIdleBut rest ys) (drop-drop (suc m) done old ∙ ap (λ (j : ℕ). drop j old) next) parts.1;
    }

pub walks_none : (old now : List Session) (listed : List ℕ) (k : ℕ) (rest : List ℕ) (done : ℕ) (c0 c1 : Option (List WireCall)) → listed ≡ k ∷ rest → AreOther k (drop done now) → Walks old now listed done c0 c1 → Walks old now rest done c0 c1
walks_none old now listed k rest done c0 c1 split other w =
    let rising : AreAbove 0 (k ∷ rest) = subst (λ (ks : List ℕ). AreAbove 0 ks) split w.rising in
    record {
      so = w.so;
      within = w.within;
      rising = above_lower 0 k rest (omega arith) rising.1;
      idle = narrow k rest (drop done old) (subst (λ (ys : List Session). AreOther k ys) w.so.others other) (subst (λ (ks : List ℕ). AreIdleBut ks (drop done old)) split w.idle);
    }

pub walks_end : (old now : List Session) (listed : List ℕ) (done : ℕ) (c0 c1 : Option (List WireCall)) → listed ≡ [] → Walks old now listed done c0 c1 → TellsAll old now c0 c1
walks_end old now listed done c0 c1 none w =
    let m = length old - done in
    let on : done + m ≡ length old = omega (arith, w.within) in
    let long : length (drop done old) ≡ m = length-drop done old in
    let all : take m (drop done old) ≡ drop done old = take_all m (drop done old) (omega (arith, long)) in
    let idle : AreIdle (take m (drop done old)) = rw all (idle_rest (drop done old) (subst (λ (ks : List ℕ). AreIdleBut ks (drop done old)) none w.idle)) in
    so_far_all old now (length old) c0 c1 (omega arith) (so_far_on old now done m (length old) c0 c1 on idle w.so)

-- A look at what is listed

quick_idle : (ss : List Session) → AreIdle ss → AreQuick ss
quick_idle [] idle = tt
quick_idle (s ∷ ss) idle = (subst (λ (o : List ℕ). length o ≤ most_pending) (sym idle.0.0) (omega arith), quick_idle ss idle.1)

quick_both : (xs ys : List Session) → AreQuick xs → AreQuick ys → AreQuick (xs ++ ys)
quick_both [] ys a b = b
quick_both (x ∷ xs) ys a b = (a.0, quick_both xs ys a.1 b)

pub record Looks (ss : List Session) (listed : List ℕ) (done : ℕ) : Type 0 where
  pub within : done ≤ length ss
  pub rising : AreAbove 0 listed
  pub idle : AreIdleBut listed (drop done ss)
  pub quick : AreQuick (take done ss)

pub looks_begin : (listed : List ℕ) (ss : List Session) → IsIndex listed ss → Looks ss listed 0
looks_begin listed ss x = record { within = omega arith; rising = x.rising; idle = x.others; quick = tt }

record Found (ss : List Session) (rest : List ℕ) (i : ℕ) : Type 0 where
  quick : AreQuick (take i ss)
  rising : AreAbove 0 rest
  idle : AreIdleBut rest (drop (i + 1) ss)

looks_at : (ss : List Session) (listed : List ℕ) (k : ℕ) (rest : List ℕ) (done i : ℕ) (d : Session) → listed ≡ k ∷ rest → AreAbove 0 (numbers ss) → done ≤ i → i < length ss → (get_or ss i d).number ≡ k → Looks ss listed done → Found ss rest i
looks_at ss listed k rest done i d split above from within at w =
    let m = i - done in
    let on : done + m ≡ i = omega (arith, from) in
    let xs = drop done ss in
    let long : length xs ≡ length ss - done = length-drop done ss in
    let low : m < length xs = omega (arith, from, within, long) in
    let there : (get_or xs m d).number ≡ k = ap (λ (s : Session). s.number) (get_or-drop done ss m d) ∙ ap (λ (j : ℕ). (get_or ss j d).number) on ∙ at in
    let rising : AreAbove 0 (k ∷ rest) = subst (λ (ks : List ℕ). AreAbove 0 ks) split w.rising in
    let parts = idle_before 0 k rest xs m d (above_drop done 0 ss above) rising.1 low there (subst (λ (ks : List ℕ). AreIdleBut ks xs) split w.idle) in
    let next : done + suc m ≡ i + 1 = omega (arith, on) in
    record {
      quick = subst (λ (ys : List Session). AreQuick ys) (sym (take_over done m ss) ∙ ap (λ (j : ℕ). take j ss) on) (quick_both (take done ss) (take m xs) w.quick (quick_idle (take m xs) parts.0));
      rising = above_lower 0 k rest (omega arith) rising.1;
      idle = subst (λ (ys : List Session). AreIdleBut rest ys) (drop-drop (suc m) done ss ∙ ap (λ (j : ℕ). drop j ss) next) parts.1;
    }

pub looks_found : (ss : List Session) (listed : List ℕ) (k : ℕ) (rest : List ℕ) (done i : ℕ) (d : Session) → listed ≡ k ∷ rest → AreAbove 0 (numbers ss) → done ≤ i → i < length ss → (get_or ss i d).number ≡ k
    → nat_lt most_pending (length (get_or ss i d).outbox) ≡ false → Looks ss listed done → Looks ss rest (i + 1)
looks_found ss listed k rest done i d split above from within at small w =
    let f = looks_at ss listed k rest done i d split above from within at w in
    record { within = omega (arith, within); rising = f.rising; idle = f.idle; quick = quick_more ss i d within small f.quick }

pub looks_slow : (ss : List Session) (listed : List ℕ) (k : ℕ) (rest : List ℕ) (done i : ℕ) (d : Session) → listed ≡ k ∷ rest → AreAbove 0 (numbers ss) → done ≤ i → i < length ss → (get_or ss i d).number ≡ k
    → most_pending < length (get_or ss i d).outbox → Looks ss listed done → IsSlowest i ss
looks_slow ss listed k rest done i d split above from within at large w =
    let f = looks_at ss listed k rest done i d split above from within at w in
    record { within = within; quick = f.quick; slow = λ e. subst (λ (s : Session). most_pending < length s.outbox) (any_default ss i d e within) large }

pub looks_none : (ss : List Session) (listed : List ℕ) (k : ℕ) (rest : List ℕ) (done : ℕ) → listed ≡ k ∷ rest → AreOther k (drop done ss) → Looks ss listed done → Looks ss rest done
looks_none ss listed k rest done split other w =
    let rising : AreAbove 0 (k ∷ rest) = subst (λ (ks : List ℕ). AreAbove 0 ks) split w.rising in
    record { within = w.within; rising = above_lower 0 k rest (omega arith) rising.1; idle = narrow k rest (drop done ss) other (subst (λ (ks : List ℕ). AreIdleBut ks (drop done ss)) split w.idle); quick = w.quick }

pub looks_end : (ss : List Session) (listed : List ℕ) (done : ℕ) → listed ≡ [] → Looks ss listed done → AreQuick ss
looks_end ss listed done none w =
    let idle = idle_rest (drop done ss) (subst (λ (ks : List ℕ). AreIdleBut ks (drop done ss)) none w.idle) in
    subst (λ (ys : List Session). AreQuick ys) (both_parts done ss) (quick_both (take done ss) (drop done ss) w.quick (quick_idle (drop done ss) idle))
