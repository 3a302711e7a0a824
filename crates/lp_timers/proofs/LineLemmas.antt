-- Lines in order of their numbers: what is found, changed or left out among them.
use Rattle.std.proofs.Common.{◌≡◌, ℕ, ◌<◌, ◌≤◌, Bool, true, false, cond, not, nat_eq, nat_le, ◌&&◌, List, [], ◌∷◌, ◌++◌, map, Some, None, refl, ap, ◌∙◌, arith}
use Rattle.std.specs.List.{filter, AllByRecursion}
use Rattle.std.proofs.lemmas.Bool.Decides.{nat_tests}
use Rattle.lp_timers.specs.declared.kind.Kind.{Kind}
use Rattle.lp_timers.specs.declared.line.Line.{Line}
use Rattle.lp_timers.specs.Lines.{AreBelow, AreFrom, AreRising, due_objects, is_due_for, lines_cut, lines_set, line_set, moment_of, same_kind}

-- ---- no moment before another

pub from_lower : (n m : ℕ) (ls : List Line) → m ≤ n → AreFrom n ls → AreFrom m ls
from_lower n m [] le h = tt
from_lower n m (l ∷ ls) le h = (omega (arith, h.0), from_lower n m ls le h.1)

pub from_joined : (m : ℕ) (xs : List Line) (l : Line) (ys : List Line) → AreFrom m xs → m ≤ l.next → AreFrom m ys → AreFrom m (xs ++ l ∷ ys)
from_joined m [] l ys h k g = (k, g)
from_joined m (x ∷ xs) l ys h k g = (h.0, from_joined m xs l ys h.1 k g)

-- ---- numbers round a line

abbrev pub AreAbove : ℕ → List Line → Type 0
AreAbove n ls = AllByRecursion (λ l. n < l.number) ls

-- what holds round a line among lines whose numbers rise
pub record Around (xs : List Line) (l : Line) (ys : List Line) : Type 0 where
  pub left : AreRising xs
  pub below : AreBelow l.number xs
  pub above : AreAbove l.number ys
  pub right : AreRising ys

above_front : (n : ℕ) (xs ys : List Line) → AreAbove n (xs ++ ys) → AreAbove n xs
above_front n [] ys h = tt
above_front n (x ∷ xs) ys h = (h.0, above_front n xs ys h.1)

above_at : (n : ℕ) (xs : List Line) (l : Line) (ys : List Line) → AreAbove n (xs ++ l ∷ ys) → n < l.number
above_at n [] l ys h = h.0
above_at n (x ∷ xs) l ys h = above_at n xs l ys h.1

pub around : (xs : List Line) (l : Line) (ys : List Line) → AreRising (xs ++ l ∷ ys) → Around xs l ys
around [] l ys h = record { left = tt; below = tt; above = h.0; right = h.1 }
around (x ∷ xs) l ys h =
    let a = around xs l ys h.1 in
    record { left = (above_front x.number xs (l ∷ ys) h.0, a.left); below = (above_at x.number xs l ys h.0, a.below); above = a.above; right = a.right }

-- ---- other numbers

abbrev pub AreOthers : ℕ → List Line → Type 0
AreOthers n ls = AllByRecursion (λ l. nat_eq l.number n ≡ false) ls

number_no : (a b : ℕ) → a < b → nat_eq a b ≡ false
number_no a b h = grind (arith, nat_tests)

number_not : (a b : ℕ) → b < a → nat_eq a b ≡ false
number_not a b h = grind (arith, nat_tests)

pub number_yes : (a b : ℕ) → a ≡ b → nat_eq a b ≡ true
number_yes a b h = grind (arith, nat_tests)

pub others_below : (n m : ℕ) (ls : List Line) → m ≤ n → AreBelow m ls → AreOthers n ls
others_below n m [] le h = tt
others_below n m (l ∷ ls) le h = (number_no l.number n (omega (arith, h.0)), others_below n m ls le h.1)

pub others_above : (n m : ℕ) (ls : List Line) → n ≤ m → AreAbove m ls → AreOthers n ls
others_above n m [] le h = tt
others_above n m (l ∷ ls) le h = (number_not l.number n (omega (arith, h.0)), others_above n m ls le h.1)

pub set_none : (n at : ℕ) (ls : List Line) → AreOthers n ls → lines_set ls n at ≡ ls
set_none n at [] h = refl
set_none n at (l ∷ ls) h = rw (h.0, set_none n at ls h.1) refl

pub cut_none : (n : ℕ) (ls : List Line) → AreOthers n ls → lines_cut ls n ≡ ls
cut_none n [] h = refl
cut_none n (l ∷ ls) h = rw (h.0, cut_none n ls h.1) refl

moment_none : (n : ℕ) (ls : List Line) → AreOthers n ls → moment_of ls n ≡ None
moment_none n [] h = refl
moment_none n (l ∷ ls) h = rw (h.0) (moment_none n ls h.1)

-- ---- one list behind another

set_append : (n at : ℕ) (xs ys : List Line) → lines_set (xs ++ ys) n at ≡ lines_set xs n at ++ lines_set ys n at
set_append n at [] ys = refl
set_append n at (x ∷ xs) ys = ap (λ zs. line_set n at x ∷ zs) (set_append n at xs ys)

cut_append : (n : ℕ) (xs ys : List Line) → lines_cut (xs ++ ys) n ≡ lines_cut xs n ++ lines_cut ys n
cut_append n [] ys = refl
cut_append n (x ∷ xs) ys = step (nat_eq x.number n) (cut_append n xs ys)
  where
    step : (b : Bool) → lines_cut (xs ++ ys) n ≡ lines_cut xs n ++ lines_cut ys n → cond (not b) (x ∷ lines_cut (xs ++ ys) n) (lines_cut (xs ++ ys) n) ≡ cond (not b) (x ∷ lines_cut xs n) (lines_cut xs n) ++ lines_cut ys n
    step true e = e
    step false e = ap (λ zs. x ∷ zs) e

moment_front : (n : ℕ) (xs ys : List Line) → AreOthers n ys → moment_of (xs ++ ys) n ≡ moment_of xs n
moment_front n [] ys h = moment_none n ys h
moment_front n (x ∷ xs) ys h = ap (cond (nat_eq x.number n) (Some x.next)) (moment_front n xs ys h)

moment_back : (n : ℕ) (xs ys : List Line) → AreOthers n xs → moment_of (xs ++ ys) n ≡ moment_of ys n
moment_back n [] ys h = refl
moment_back n (x ∷ xs) ys h = rw (h.0) (moment_back n xs ys h.1)

pub due_append : (kind : Kind) (t : ℕ) (xs ys : List Line) → due_objects kind t (xs ++ ys) ≡ due_objects kind t xs ++ due_objects kind t ys
due_append kind t [] ys = refl
due_append kind t (x ∷ xs) ys = step (is_due_for kind t x) (due_append kind t xs ys)
  where
    step : (b : Bool) → due_objects kind t (xs ++ ys) ≡ due_objects kind t xs ++ due_objects kind t ys
        → map (λ l. l.ob) (cond b (x ∷ filter (is_due_for kind t) (xs ++ ys)) (filter (is_due_for kind t) (xs ++ ys))) ≡ map (λ l. l.ob) (cond b (x ∷ filter (is_due_for kind t) xs) (filter (is_due_for kind t) xs)) ++ due_objects kind t ys
    step true e = ap (λ os. x.ob ∷ os) e
    step false e = e

not_due : (b : Bool) (t n : ℕ) → t < n → (b && nat_le n t) ≡ false
not_due true t n h = grind (arith, nat_tests)
not_due false t n h = refl

pub due_none : (kind : Kind) (t m : ℕ) (ls : List Line) → t < m → AreFrom m ls → due_objects kind t ls ≡ []
due_none kind t m [] lt h = refl
due_none kind t m (l ∷ ls) lt h = rw (not_due (same_kind l.kind kind) t l.next (omega (arith, h.0))) (due_none kind t m ls lt h.1)

-- ---- before, at and behind a line

others_left : (n : ℕ) (l : Line) (ys : List Line) → n < l.number → AreAbove l.number ys → AreOthers n (l ∷ ys)
others_left n l ys lt h = (number_not l.number n lt, others_above n l.number ys (omega arith) h)

others_right : (n : ℕ) (xs : List Line) (l : Line) → l.number < n → AreBelow l.number xs → AreOthers n xs
others_right n xs l lt h = others_below n l.number xs (omega arith) h

module _ (n : ℕ) (xs : List Line) (l : Line) (ys : List Line) (a : Around xs l ys) where
  pub set_left : (at : ℕ) → n < l.number → lines_set (xs ++ l ∷ ys) n at ≡ lines_set xs n at ++ l ∷ ys
  set_left at lt = set_append n at xs (l ∷ ys) ∙ ap (λ zs. lines_set xs n at ++ zs) (set_none n at (l ∷ ys) (others_left n l ys lt a.above))

  pub set_right : (at : ℕ) → l.number < n → lines_set (xs ++ l ∷ ys) n at ≡ xs ++ l ∷ lines_set ys n at
  set_right at lt =
      set_append n at xs (l ∷ ys) ∙ ap (λ zs. zs ++ lines_set (l ∷ ys) n at) (set_none n at xs (others_right n xs l lt a.below))
      ∙ ap (λ b. xs ++ cond b (record l { next = at }) l ∷ lines_set ys n at) (number_no l.number n lt)

  pub set_here : (at : ℕ) → l.number ≡ n → lines_set (xs ++ l ∷ ys) n at ≡ xs ++ record l { next = at } ∷ ys
  set_here at same =
      set_append n at xs (l ∷ ys) ∙ ap (λ zs. zs ++ lines_set (l ∷ ys) n at) (set_none n at xs (others_below n l.number xs (omega arith) a.below))
      ∙ ap (λ zs. xs ++ line_set n at l ∷ zs) (set_none n at ys (others_above n l.number ys (omega arith) a.above))
      ∙ ap (λ b. xs ++ cond b (record l { next = at }) l ∷ ys) (number_yes l.number n same)

  pub cut_left : n < l.number → lines_cut (xs ++ l ∷ ys) n ≡ lines_cut xs n ++ l ∷ ys
  cut_left lt = cut_append n xs (l ∷ ys) ∙ ap (λ zs. lines_cut xs n ++ zs) (cut_none n (l ∷ ys) (others_left n l ys lt a.above))

  pub cut_right : l.number < n → lines_cut (xs ++ l ∷ ys) n ≡ xs ++ l ∷ lines_cut ys n
  cut_right lt =
      cut_append n xs (l ∷ ys) ∙ ap (λ zs. zs ++ lines_cut (l ∷ ys) n) (cut_none n xs (others_right n xs l lt a.below))
      ∙ ap (λ b. xs ++ cond (not b) (l ∷ lines_cut ys n) (lines_cut ys n)) (number_no l.number n lt)

  pub cut_here : l.number ≡ n → lines_cut (xs ++ l ∷ ys) n ≡ xs ++ ys
  cut_here same =
      cut_append n xs (l ∷ ys) ∙ ap (λ zs. zs ++ lines_cut (l ∷ ys) n) (cut_none n xs (others_below n l.number xs (omega arith) a.below))
      ∙ ap (λ b. xs ++ cond (not b) (l ∷ lines_cut ys n) (lines_cut ys n)) (number_yes l.number n same)
      ∙ ap (λ zs. xs ++ zs) (cut_none n ys (others_above n l.number ys (omega arith) a.above))

  pub moment_left : n < l.number → moment_of (xs ++ l ∷ ys) n ≡ moment_of xs n
  moment_left lt = moment_front n xs (l ∷ ys) (others_left n l ys lt a.above)

  pub moment_right : l.number < n → moment_of (xs ++ l ∷ ys) n ≡ moment_of ys n
  moment_right lt = moment_back n xs (l ∷ ys) (others_right n xs l lt a.below) ∙ ap (λ b. cond b (Some l.next) (moment_of ys n)) (number_no l.number n lt)

  pub moment_here : l.number ≡ n → moment_of (xs ++ l ∷ ys) n ≡ Some l.next
  moment_here same = moment_back n xs (l ∷ ys) (others_below n l.number xs (omega arith) a.below) ∙ ap (λ b. cond b (Some l.next) (moment_of ys n)) (number_yes l.number n same)
