-- Lines by their marks, and what an edit of the lines leaves of the map of marks.
use Rattle.std.proofs.Common.{◌≡◌, ℕ, ◌+◌, ◌<◌, Bool, true, false, cond, not, nat_eq, nat_le, ◌&&◌, ◌||◌, List, [], ◌∷◌, ◌++◌, Option, Some, None, MatchOption, refl, sym, ap, subst, ◌∙◌, arith}
use Rattle.std.specs.List.{filter, AllByRecursion}
use Rattle.std.specs.Ordering.{is_eq, nat_cmp, ordering_then}
use Rattle.std.specs.BTreeMap.{is_at}
use Rattle.std.proofs.lemmas.Bool.{false≢true}
use Rattle.std.proofs.lemmas.Bool.Decides.{nat_tests}
use Rattle.lp_values.specs.declared.id.ObjId.{ObjId}
use Rattle.lp_timers.specs.declared.kind.Kind.{Kind}
use Rattle.lp_timers.specs.declared.kind.Kind.TheVariants.{Beat, Reset, CleanUp}
use Rattle.lp_timers.specs.declared.line.Line.{Line}
use Rattle.lp_timers.specs.Lines.{kind_place, AreBelow, AreRising, has_line, has_line_by, is_of, line_at, line_set, lines_cut, lines_next, lines_set, lines_without, moment_of, same_kind}
use Rattle.lp_timers.specs.Marks.{has_mark, number_of, AreApart, HasNone, IsAlone}
use Rattle.lp_timers.specs.Marked.{mark_cmp, mark_of}
use Rattle.lp_timers.proofs.LineLemmas.{AreAbove, AreOthers, others_above}

-- ---- kinds and marks

kinds_same : (a b : Kind) → same_kind a b ≡ true → a ≡ b
kinds_same Beat Beat h = refl
kinds_same Beat Reset h = absurd (false≢true h)
kinds_same Beat CleanUp h = absurd (false≢true h)
kinds_same Reset Beat h = absurd (false≢true h)
kinds_same Reset Reset h = refl
kinds_same Reset CleanUp h = absurd (false≢true h)
kinds_same CleanUp Beat h = absurd (false≢true h)
kinds_same CleanUp Reset h = absurd (false≢true h)
kinds_same CleanUp CleanUp h = refl

kinds_turned : (a b : Kind) → same_kind a b ≡ same_kind b a
kinds_turned Beat Beat = refl
kinds_turned Beat Reset = refl
kinds_turned Beat CleanUp = refl
kinds_turned Reset Beat = refl
kinds_turned Reset Reset = refl
kinds_turned Reset CleanUp = refl
kinds_turned CleanUp Beat = refl
kinds_turned CleanUp Reset = refl
kinds_turned CleanUp CleanUp = refl

kind_itself : (a : Kind) → same_kind a a ≡ true
kind_itself Beat = refl
kind_itself Reset = refl
kind_itself CleanUp = refl

nat_turned : (n m : ℕ) → nat_eq n m ≡ nat_eq m n
nat_turned n m = grind (arith, nat_tests)

nat_itself : (n : ℕ) → nat_eq n n ≡ true
nat_itself n = grind (arith, nat_tests)

nat_same : (n m : ℕ) → nat_eq n m ≡ true → n ≡ m
nat_same n m h = grind (arith, nat_tests)

and_first : (a b : Bool) → (a && b) ≡ true → a ≡ true
and_first true b h = refl
and_first false b h = h

and_second : (a b : Bool) → (a && b) ≡ true → b ≡ true
and_second true b h = h
and_second false b h = absurd (false≢true h)

same_place : (a b : Kind) → nat_eq (kind_place a) (kind_place b) ≡ same_kind a b
same_place Beat Beat = refl
same_place Beat Reset = refl
same_place Beat CleanUp = refl
same_place Reset Beat = refl
same_place Reset Reset = refl
same_place Reset CleanUp = refl
same_place CleanUp Beat = refl
same_place CleanUp Reset = refl
same_place CleanUp CleanUp = refl

both_parts : (n m p q : ℕ) → is_eq (ordering_then (nat_cmp n m) (nat_cmp p q)) ≡ (nat_eq p q && nat_eq n m)
both_parts n m p q = grind (arith, nat_tests)

-- a mark is another where the kinds and the objects are
pub mark_is : (k : Kind) (o : ℕ) (kind : Kind) (p : ℕ) → is_at (mark_cmp (mark_of k o)) (mark_of kind p) ≡ (same_kind k kind && nat_eq o p)
mark_is k o kind p = both_parts o p (kind_place k) (kind_place kind) ∙ ap (λ s. s && nat_eq o p) (same_place k kind)

-- a line of one mark has another where the two marks are one
pub as_mark : (k : Kind) (o : ℕ) (kind : Kind) (p : ℕ) (l : Line) → has_mark k o l ≡ true → has_mark kind p l ≡ (same_kind k kind && nat_eq o p)
as_mark k o kind p l h =
    let e : l.kind ≡ k = kinds_same l.kind k (and_first _ _ h) in
    let f : l.ob.0 ≡ o = nat_same l.ob.0 o (and_second (same_kind l.kind k) _ h) in
    rw (e, f) refl

-- where two marks are one, a line has both or none
pub one_mark : (k : Kind) (o : ℕ) (kind : Kind) (p : ℕ) (l : Line) → (same_kind k kind && nat_eq o p) ≡ true → has_mark k o l ≡ has_mark kind p l
one_mark k o kind p l h =
    let e : k ≡ kind = kinds_same k kind (and_first _ _ h) in
    let f : o ≡ p = nat_same o p (and_second (same_kind k kind) _ h) in
    rw (e, f) refl

turned : (a b : Line) → has_mark a.kind a.ob.0 b ≡ has_mark b.kind b.ob.0 a
turned a b = ap (λ s. s && nat_eq b.ob.0 a.ob.0) (kinds_turned b.kind a.kind) ∙ ap (λ s. same_kind a.kind b.kind && s) (nat_turned b.ob.0 a.ob.0)

-- ---- which line has a mark

none_as : (k : Kind) (o : ℕ) (kind : Kind) (p : ℕ) (ls : List Line) → (same_kind k kind && nat_eq o p) ≡ true → HasNone k o ls → HasNone kind p ls
none_as k o kind p [] s h = tt
none_as k o kind p (l ∷ ls) s h = (sym (one_mark k o kind p l s) ∙ h.0, none_as k o kind p ls s h.1)

number_above : (kind : Kind) (o m n : ℕ) (ls : List Line) → AreAbove m ls → number_of kind o ls ≡ Some n → m < n
number_above kind o m n [] h e = absurd (cc)
number_above kind o m n (l ∷ ls) h e = step (has_mark kind o l) e (number_above kind o m n ls h.1)
  where
    step : (b : Bool) → cond b (Some l.number) (number_of kind o ls) ≡ Some n → (number_of kind o ls ≡ Some n → m < n) → m < n
    step true e more = let same : l.number ≡ n = cc in let lt : m < l.number = h.0 in omega arith
    step false e more = more e

alone_behind : (kind : Kind) (o n : ℕ) (ls : List Line) → HasNone kind o ls → AreOthers n ls → IsAlone kind o n ls
alone_behind kind o n [] h g = tt
alone_behind kind o n (l ∷ ls) h g = (h.0 ∙ sym g.0, alone_behind kind o n ls h.1 g.1)

number_no : (a b : ℕ) → a < b → nat_eq a b ≡ false
number_no a b h = grind (arith, nat_tests)

pub number_alone : (kind : Kind) (o : ℕ) (ls : List Line) → AreRising ls → AreApart ls → MatchOption (number_of kind o ls) (HasNone kind o ls) (λ n. IsAlone kind o n ls)
number_alone kind o [] r a = tt
number_alone kind o (l ∷ ls) r a = step (has_mark kind o l) refl (number_of kind o ls) refl (number_alone kind o ls r.1 a.1)
  where
    step : (b : Bool) → has_mark kind o l ≡ b → (q : Option ℕ) → number_of kind o ls ≡ q → MatchOption q (HasNone kind o ls) (λ n. IsAlone kind o n ls) → MatchOption (cond b (Some l.number) q) (HasNone kind o (l ∷ ls)) (λ n. IsAlone kind o n (l ∷ ls))
    step true e q f more =
        let s : (same_kind l.kind kind && nat_eq l.ob.0 o) ≡ true = e in
        (e ∙ sym (nat_itself l.number), alone_behind kind o l.number ls (none_as l.kind l.ob.0 kind o ls s a.0) (others_above l.number l.number ls (omega arith) r.0))
    step false e None f more = (e, more)
    step false e (Some n) f more = (e ∙ sym (number_no l.number n (number_above kind o l.number n ls r.0 f)), more)

pub none_of : (kind : Kind) (o : ℕ) (ls : List Line) → number_of kind o ls ≡ None → HasNone kind o ls
none_of kind o [] h = tt
none_of kind o (l ∷ ls) h = step (has_mark kind o l) refl h (none_of kind o ls)
  where
    step : (b : Bool) → has_mark kind o l ≡ b → cond b (Some l.number) (number_of kind o ls) ≡ None → (number_of kind o ls ≡ None → HasNone kind o ls) → HasNone kind o (l ∷ ls)
    step true e h more = absurd (cc)
    step false e h more = (e, more h)

-- ---- another moment

set_number : (n at : ℕ) (l : Line) → (line_set n at l).number ≡ l.number
set_number n at l = step (nat_eq l.number n)
  where
    step : (b : Bool) → (cond b (record l { next = at }) l).number ≡ l.number
    step true = refl
    step false = refl

set_mark : (kind : Kind) (o n at : ℕ) (l : Line) → has_mark kind o (line_set n at l) ≡ has_mark kind o l
set_mark kind o n at l = step (nat_eq l.number n)
  where
    step : (b : Bool) → has_mark kind o (cond b (record l { next = at }) l) ≡ has_mark kind o l
    step true = refl
    step false = refl

pub number_set : (kind : Kind) (o n at : ℕ) (ls : List Line) → number_of kind o (lines_set ls n at) ≡ number_of kind o ls
number_set kind o n at [] = refl
number_set kind o n at (l ∷ ls) = rw (set_mark kind o n at l, set_number n at l, number_set kind o n at ls) refl

none_set : (kind : Kind) (o n at : ℕ) (ls : List Line) → HasNone kind o ls → HasNone kind o (lines_set ls n at)
none_set kind o n at [] h = tt
none_set kind o n at (l ∷ ls) h = (set_mark kind o n at l ∙ h.0, none_set kind o n at ls h.1)

pub apart_set : (n at : ℕ) (ls : List Line) → AreApart ls → AreApart (lines_set ls n at)
apart_set n at [] h = tt
apart_set n at (l ∷ ls) h = (step (nat_eq l.number n) (none_set l.kind l.ob.0 n at ls h.0), apart_set n at ls h.1)
  where
    step : (b : Bool) → HasNone l.kind l.ob.0 (lines_set ls n at) → HasNone (cond b (record l { next = at }) l).kind (cond b (record l { next = at }) l).ob.0 (lines_set ls n at)
    step true k = k
    step false k = k

pub below_set : (m n at : ℕ) (ls : List Line) → AreBelow m ls → AreBelow m (lines_set ls n at)
below_set m n at [] h = tt
below_set m n at (l ∷ ls) h = (subst (λ k. k < m) (sym (set_number n at l)) h.0, below_set m n at ls h.1)

above_set : (m n at : ℕ) (ls : List Line) → AreAbove m ls → AreAbove m (lines_set ls n at)
above_set m n at [] h = tt
above_set m n at (l ∷ ls) h = (subst (λ k. m < k) (sym (set_number n at l)) h.0, above_set m n at ls h.1)

pub rising_set : (n at : ℕ) (ls : List Line) → AreRising ls → AreRising (lines_set ls n at)
rising_set n at [] h = tt
rising_set n at (l ∷ ls) h = (subst (λ k. AreAbove k (lines_set ls n at)) (sym (set_number n at l)) (above_set l.number n at ls h.0), rising_set n at ls h.1)

-- ---- without one

pub all_kept : (P : Line → Type 0) (p : Line → Bool) (ls : List Line) → AllByRecursion P ls → AllByRecursion P (filter p ls)
all_kept P p [] h = tt
all_kept P p (l ∷ ls) h = step (p l) (all_kept P p ls h.1)
  where
    step : (b : Bool) → AllByRecursion P (filter p ls) → AllByRecursion P (cond b (l ∷ filter p ls) (filter p ls))
    step true k = (h.0, k)
    step false k = k

pub rising_kept : (p : Line → Bool) (ls : List Line) → AreRising ls → AreRising (filter p ls)
rising_kept p [] h = tt
rising_kept p (l ∷ ls) h = step (p l) (rising_kept p ls h.1)
  where
    step : (b : Bool) → AreRising (filter p ls) → AreRising (cond b (l ∷ filter p ls) (filter p ls))
    step true k = (all_kept (λ x. l.number < x.number) p ls h.0, k)
    step false k = k

pub apart_kept : (p : Line → Bool) (ls : List Line) → AreApart ls → AreApart (filter p ls)
apart_kept p [] h = tt
apart_kept p (l ∷ ls) h = step (p l) (apart_kept p ls h.1)
  where
    step : (b : Bool) → AreApart (filter p ls) → AreApart (cond b (l ∷ filter p ls) (filter p ls))
    step true k = (all_kept (λ x. has_mark l.kind l.ob.0 x ≡ false) p ls h.0, k)
    step false k = k

without_step : (a b s : Bool) (n : ℕ) (rest ls : Option ℕ) → (a ≡ true → b ≡ s) → (s ≡ true → a ≡ b) → rest ≡ cond s None ls → cond (not a) (cond b (Some n) rest) rest ≡ cond s None (cond b (Some n) ls)
without_step true true true n rest ls f g e = e
without_step true true false n rest ls f g e = absurd (false≢true (sym (f refl)))
without_step true false true n rest ls f g e = absurd (false≢true (f refl))
without_step true false false n rest ls f g e = e
without_step false true true n rest ls f g e = absurd (false≢true (g refl))
without_step false true false n rest ls f g e = refl
without_step false false true n rest ls f g e = e
without_step false false false n rest ls f g e = e

pub number_without : (k : Kind) (o : ObjId) (kind : Kind) (p : ℕ) (ls : List Line) → number_of kind p (lines_without ls k o) ≡ cond (same_kind k kind && nat_eq o.0 p) None (number_of kind p ls)
number_without k o kind p [] = none_either (same_kind k kind && nat_eq o.0 p)
  where
    none_either : (s : Bool) → number_of kind p [] ≡ cond s None (number_of kind p [])
    none_either true = refl
    none_either false = refl
number_without k o kind p (l ∷ ls) =
    kept (has_mark k o.0 l) ∙ without_step (has_mark k o.0 l) (has_mark kind p l) (same_kind k kind && nat_eq o.0 p) l.number _ _ (as_mark k o.0 kind p l) (one_mark k o.0 kind p l) (number_without k o kind p ls)
  where
    kept : (a : Bool) → number_of kind p (cond (not a) (l ∷ lines_without ls k o) (lines_without ls k o)) ≡ cond (not a) (cond (has_mark kind p l) (Some l.number) (number_of kind p (lines_without ls k o))) (number_of kind p (lines_without ls k o))
    kept true = refl
    kept false = refl

-- ---- one more

number_last : (kind : Kind) (o : ℕ) (ls : List Line) (l : Line) (b : Bool) → has_mark kind o l ≡ b → (b ≡ true → number_of kind o ls ≡ None) → number_of kind o (ls ++ l ∷ []) ≡ cond b (Some l.number) (number_of kind o ls)
number_last kind o [] l b e h = ap (λ s. cond s (Some l.number) None) e
number_last kind o (x ∷ xs) l b e h = step (has_mark kind o x) h (number_last kind o xs l b e)
  where
    step : (c : Bool) → (b ≡ true → cond c (Some x.number) (number_of kind o xs) ≡ None) → ((b ≡ true → number_of kind o xs ≡ None) → number_of kind o (xs ++ l ∷ []) ≡ cond b (Some l.number) (number_of kind o xs))
        → cond c (Some x.number) (number_of kind o (xs ++ l ∷ [])) ≡ cond b (Some l.number) (cond c (Some x.number) (number_of kind o xs))
    step true h more = here b h
      where
        here : (b : Bool) → (b ≡ true → Some x.number ≡ None) → Some x.number ≡ cond b (Some l.number) (Some x.number)
        here true h = absurd (some_not (h refl))
          where
            some_not : Some x.number ≡ None → ⊥
            some_not e = cc
        here false h = refl
    step false h more = more h

none_number : (kind : Kind) (o : ℕ) (ls : List Line) → HasNone kind o ls → number_of kind o ls ≡ None
none_number kind o [] h = refl
none_number kind o (l ∷ ls) h = rw (h.0) (none_number kind o ls h.1)

-- a line put last is that of its mark, and the others are as before
pub number_put : (kind : Kind) (o : ℕ) (ls : List Line) (l : Line) → number_of l.kind l.ob.0 ls ≡ None → number_of kind o (ls ++ l ∷ []) ≡ cond (same_kind l.kind kind && nat_eq l.ob.0 o) (Some l.number) (number_of kind o ls)
number_put kind o ls l none = number_last kind o ls l (same_kind l.kind kind && nat_eq l.ob.0 o) refl (λ s. none_number kind o ls (none_as l.kind l.ob.0 kind o ls s (none_of l.kind l.ob.0 ls none)))

pub below_last : (n : ℕ) (ls : List Line) (l : Line) → l.number ≡ n → AreBelow n ls → AreBelow (n + 1) (ls ++ l ∷ [])
below_last n [] l e h = (omega arith, tt)
below_last n (x ∷ xs) l e h = (omega (arith, h.0), below_last n xs l e h.1)

above_last : (m : ℕ) (ls : List Line) (l : Line) → m < l.number → AreAbove m ls → AreAbove m (ls ++ l ∷ [])
above_last m [] l lt h = (lt, tt)
above_last m (x ∷ xs) l lt h = (h.0, above_last m xs l lt h.1)

pub rising_last : (n : ℕ) (ls : List Line) (l : Line) → l.number ≡ n → AreBelow n ls → AreRising ls → AreRising (ls ++ l ∷ [])
rising_last n [] l e h r = (tt, tt)
rising_last n (x ∷ xs) l e h r = (above_last x.number xs l (omega (arith, h.0)) r.0, rising_last n xs l e h.1 r.1)

none_last : (kind : Kind) (o : ℕ) (ls : List Line) (l : Line) → has_mark kind o l ≡ false → HasNone kind o ls → HasNone kind o (ls ++ l ∷ [])
none_last kind o [] l e h = (e, tt)
none_last kind o (x ∷ xs) l e h = (h.0, none_last kind o xs l e h.1)

pub apart_last : (ls : List Line) (l : Line) → HasNone l.kind l.ob.0 ls → AreApart ls → AreApart (ls ++ l ∷ [])
apart_last [] l h a = (tt, tt)
apart_last (x ∷ xs) l h a = (none_last x.kind x.ob.0 xs l (turned x l ∙ h.0) a.0, apart_last xs l h.1 a.1)

-- ---- by objects

pub set_is_next : (kind : Kind) (o : ObjId) (n at : ℕ) (ls : List Line) → IsAlone kind o.0 n ls → lines_set ls n at ≡ lines_next ls kind o at
set_is_next kind o n at [] h = refl
set_is_next kind o n at (l ∷ ls) h = ap (λ b. cond b (record l { next = at }) l ∷ lines_set ls n at) (sym h.0) ∙ ap (λ zs. line_at kind o at l ∷ zs) (set_is_next kind o n at ls h.1)

pub cut_is_without : (kind : Kind) (o : ObjId) (n : ℕ) (ls : List Line) → IsAlone kind o.0 n ls → lines_cut ls n ≡ lines_without ls kind o
cut_is_without kind o n [] h = refl
cut_is_without kind o n (l ∷ ls) h =
    ap (λ b. cond (not b) (l ∷ lines_cut ls n) (lines_cut ls n)) (sym h.0) ∙ ap (λ zs. cond (not (is_of kind o l)) (l ∷ zs) zs) (cut_is_without kind o n ls h.1)

pub next_none : (kind : Kind) (o : ObjId) (at : ℕ) (ls : List Line) → HasNone kind o.0 ls → lines_next ls kind o at ≡ ls
next_none kind o at [] h = refl
next_none kind o at (l ∷ ls) h = ap (λ b. cond b (record l { next = at }) l ∷ lines_next ls kind o at) h.0 ∙ ap (λ zs. l ∷ zs) (next_none kind o at ls h.1)

pub without_none : (kind : Kind) (o : ObjId) (ls : List Line) → HasNone kind o.0 ls → lines_without ls kind o ≡ ls
without_none kind o [] h = refl
without_none kind o (l ∷ ls) h = ap (λ b. cond (not b) (l ∷ lines_without ls kind o) (lines_without ls kind o)) h.0 ∙ ap (λ zs. l ∷ zs) (without_none kind o ls h.1)

-- whether there is a number
abbrev pub has_number : Option ℕ → Bool
has_number None = false
has_number (Some n) = true

pub has_is : (kind : Kind) (o : ObjId) (ls : List Line) → has_number (number_of kind o.0 ls) ≡ has_line ls kind o
has_is kind o [] = refl
has_is kind o (l ∷ ls) = step (is_of kind o l) (has_is kind o ls)
  where
    step : (b : Bool) → has_number (number_of kind o.0 ls) ≡ has_line ls kind o → has_number (cond b (Some l.number) (number_of kind o.0 ls)) ≡ (b || has_line ls kind o)
    step true e = refl
    step false e = e

-- whether a moment that may be there has come
abbrev pub is_come : ℕ → Option ℕ → Bool
is_come t None = false
is_come t (Some m) = nat_le m t

by_none : (kind : Kind) (o : ObjId) (t : ℕ) (ls : List Line) → HasNone kind o.0 ls → has_line_by ls kind o t ≡ false
by_none kind o t [] h = refl
by_none kind o t (l ∷ ls) h = ap (λ b. (b && nat_le l.next t) || has_line_by ls kind o t) h.0 ∙ by_none kind o t ls h.1

pub come_none : (kind : Kind) (o : ObjId) (t : ℕ) (ls : List Line) → HasNone kind o.0 ls → false ≡ has_line_by ls kind o t
come_none kind o t ls h = sym (by_none kind o t ls h)

none_of_others : (kind : Kind) (o n : ℕ) (ls : List Line) → IsAlone kind o n ls → AreOthers n ls → HasNone kind o ls
none_of_others kind o n [] h g = tt
none_of_others kind o n (l ∷ ls) h g = (h.0 ∙ g.0, none_of_others kind o n ls h.1 g.1)

pub come_is : (kind : Kind) (o : ObjId) (n t : ℕ) (ls : List Line) → AreRising ls → IsAlone kind o.0 n ls → is_come t (moment_of ls n) ≡ has_line_by ls kind o t
come_is kind o n t [] r h = refl
come_is kind o n t (l ∷ ls) r h = step (nat_eq l.number n) refl (come_is kind o n t ls r.1 h.1)
  where
    or_false : (b : Bool) → b ≡ (b || false)
    or_false true = refl
    or_false false = refl

    step : (b : Bool) → nat_eq l.number n ≡ b → is_come t (moment_of ls n) ≡ has_line_by ls kind o t → is_come t (cond b (Some l.next) (moment_of ls n)) ≡ ((is_of kind o l && nat_le l.next t) || has_line_by ls kind o t)
    step true e more =
        let same : l.number ≡ n = nat_same l.number n e in
        or_false (nat_le l.next t)
        ∙ ap (λ b. nat_le l.next t || b) (sym (by_none kind o t ls (none_of_others kind o.0 n ls h.1 (others_above n l.number ls (omega arith) r.0))))
        ∙ ap (λ b. (b && nat_le l.next t) || has_line_by ls kind o t) (sym (h.0 ∙ e))
    step false e more = more ∙ ap (λ b. (b && nat_le l.next t) || has_line_by ls kind o t) (sym (h.0 ∙ e))
