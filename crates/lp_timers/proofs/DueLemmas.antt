-- The call-outs by their moments, as the index has them.
use Rattle.std.proofs.Common.{◌≡◌, ℕ, ◌+◌, ◌<◌, ◌≤◌, Bool, true, false, cond, not, nat_eq, nat_le, nat_lt, ◌&&◌, ◌||◌, List, [], ◌∷◌, map, Option, Some, None, refl, sym, ap, subst, ◌∙◌, arith}
use Rattle.std.specs.Prelude.{fold}
use Rattle.std.specs.declared.cmp.Ordering.TheVariants.{Less, Equal, Greater}
use Rattle.std.specs.Ordering.{nat_cmp, is_eq, is_le, ordering_then}
use Rattle.std.specs.Cmp.{IsTotalOrder, tied_itself}
use Rattle.std.specs.List.{filter, list_any, AllByRecursion}
use Rattle.std.specs.List.Sorted.{IsStrictlySortedBy}
use Rattle.std.specs.Map.{keys_of}
use Rattle.std.proofs.lemmas.Bool.{true≢false}
use Rattle.std.proofs.lemmas.Bool.Decides.{nat_tests}
use Rattle.std.proofs.lemmas.Cmp.{then_total, on_total, nat_cmp_total}
use Rattle.std.proofs.lemmas.Map.Keys.{sorted_head, sorted_tail}
use Rattle.lp_timers.specs.declared.spot.Spot.{Spot}
use Rattle.lp_timers.specs.declared.call_out.Call.{Call}
use Rattle.lp_values.specs.declared.id.ObjId.{ObjId}
use Rattle.std.specs.Option.{option_map}
use Rattle.std.specs.Cmp.Lexicographic.{pointwise}
use Rattle.std.proofs.lemmas.List.Kept.{IsStrictlySortedBy-filter}
use Rattle.lp_timers.specs.Spots.{spot_cmp, is_among, in_group, head_spot, first_spot}
use Rattle.lp_timers.specs.Timers.{CallOut, placed_by_due, by_due, first_call_out, earliest, due_at}
use Rattle.lp_timers.specs.Index.{is_due}
use Rattle.lp_timers.specs.Waiting.{entry_call, call_from, spot_in, numbered, earliest_of}
use Rattle.lp_timers.specs.Indexed.{kept_at, passes, at_all, at_object, at_function}
use Rattle.std.specs.Option.{IfSome}
use Rattle.lp_timers.proofs.IndexLemmas.{same_spot}
use Rattle.lp_timers.proofs.KeptLemmas.{found_numbered}

-- ---- spots

pub spots_total : IsTotalOrder spot_cmp
spots_total = then_total (on_total (λ s. s.group) nat_cmp_total) (then_total (on_total (λ s. s.due) nat_cmp_total) (on_total (λ s. s.number) nat_cmp_total))

among_itself : (x : Spot) (xs : List Spot) → is_among (x ∷ xs) x ≡ true
among_itself x xs = ap (λ r. is_eq r || list_any (λ y. is_eq (spot_cmp x y)) xs) (tied_itself spots_total x)

-- a spot below all others is not among them
not_among : (x : Spot) (ys : List Spot) → AllByRecursion (λ y. spot_cmp x y ≡ Less) ys → is_among ys x ≡ false
not_among x [] h = refl
not_among x (y ∷ ys) h = rw h.0 (not_among x ys h.1)

all_above : (x y : Spot) (ys : List Spot) → spot_cmp x y ≡ Less → AllByRecursion (λ z. spot_cmp y z ≡ Less) ys → AllByRecursion (λ z. spot_cmp x z ≡ Less) ys
all_above x y [] h k = tt
all_above x y (z ∷ zs) h k = (spots_total.trans x y z h k.0, all_above x y zs h k.1)

turned : (x y : Spot) → spot_cmp x y ≡ Greater → spot_cmp y x ≡ Less
turned x y h = grind (arith, nat_tests)

-- two lists in order that have the same spots are one
pub same_spots : (xs ys : List Spot) → IsStrictlySortedBy spot_cmp xs → IsStrictlySortedBy spot_cmp ys → ((s : Spot) → is_among xs s ≡ is_among ys s) → xs ≡ ys
same_spots [] [] p q h = refl
same_spots [] (y ∷ ys) p q h = absurd (true≢false (sym (among_itself y ys) ∙ sym (h y)))
same_spots (x ∷ xs) [] p q h = absurd (true≢false (sym (among_itself x xs) ∙ h x))
same_spots (x ∷ xs) (y ∷ ys) p q h =
    elim (spot_cmp x y) as (λ r. spot_cmp x y ≡ r → x ∷ xs ≡ y ∷ ys) [
      | Less ↦ λ r. absurd (true≢false (sym (among_itself x xs) ∙ h x ∙ not_among x (y ∷ ys) (r, all_above x y ys r (sorted_head spot_cmp y ys q))))
      | Equal ↦ λ r.
          let same : x ≡ y = same_spot x y (ap is_eq r) in
          let rest : xs ≡ ys = same_spots xs ys (sorted_tail spot_cmp x xs p) (sorted_tail spot_cmp y ys q) (λ s. tails s x y xs ys same (sorted_head spot_cmp x xs p) (sorted_head spot_cmp y ys q) (h s)) in
          ap (λ z. z ∷ xs) same ∙ ap (λ zs. y ∷ zs) rest
      | Greater ↦ λ r. absurd (true≢false (sym (among_itself y ys) ∙ sym (h y) ∙ not_among y (x ∷ xs) (turned x y r, all_above y x xs (turned x y r) (sorted_head spot_cmp x xs p))))
    ] refl
  where
    tails : (s x y : Spot) (xs ys : List Spot) → x ≡ y → AllByRecursion (λ z. spot_cmp x z ≡ Less) xs → AllByRecursion (λ z. spot_cmp y z ≡ Less) ys → is_among (x ∷ xs) s ≡ is_among (y ∷ ys) s → is_among xs s ≡ is_among ys s
    tails s x y xs ys same below above e = step (is_eq (spot_cmp s x)) refl (subst (λ z. (is_eq (spot_cmp s x) || is_among xs s) ≡ (is_eq (spot_cmp s z) || is_among ys s)) (sym same) e)
      where
        step : (b : Bool) → is_eq (spot_cmp s x) ≡ b → (b || is_among xs s) ≡ (b || is_among ys s) → is_among xs s ≡ is_among ys s
        step true r k = let it : s ≡ x = same_spot s x r in
            rw it (not_among x xs below ∙ sym (subst (λ z. is_among ys z ≡ false) (sym same) (not_among y ys above)))
        step false r k = k

-- ---- call-outs by their moments

-- numbers that rise
abbrev pub AreRisingFrom : ℕ → List CallOut → Type 0
AreRisingFrom n [] = Unit {0}
AreRisingFrom n (c ∷ cs) = (n ≤ c.number) × AreRisingFrom (c.number + 1) cs

abbrev AreInOrder : ℕ → List CallOut → Type 0
AreInOrder g cs = IsStrictlySortedBy spot_cmp (map (spot_in g) cs)

before : (g : ℕ) (c d : CallOut) → nat_lt c.due d.due ≡ true → spot_cmp (spot_in g c) (spot_in g d) ≡ Less
before g c d h = grind (arith, nat_tests)

behind : (g : ℕ) (c d : CallOut) → nat_lt c.due d.due ≡ false → d.number < c.number → spot_cmp (spot_in g d) (spot_in g c) ≡ Less
behind g c d h k = grind (arith, nat_tests)

all_placed : (g : ℕ) (P : Spot → Type 0) (c : CallOut) (ds : List CallOut) → P (spot_in g c) → AllByRecursion P (map (spot_in g) ds) → AllByRecursion P (map (spot_in g) (placed_by_due c ds))
all_placed g P c [] h k = (h, tt)
all_placed g P c (d ∷ ds) h k = step (nat_lt c.due d.due) (all_placed g P c ds h k.1)
  where
    step : (b : Bool) → AllByRecursion P (map (spot_in g) (placed_by_due c ds)) → AllByRecursion P (map (spot_in g) (cond b (c ∷ d ∷ ds) (d ∷ placed_by_due c ds)))
    step true m = (h, k)
    step false m = (k.0, m)

placed_in_order : (g : ℕ) (c : CallOut) (ds : List CallOut) → AllByRecursion (λ d. d.number < c.number) ds → AreInOrder g ds → AreInOrder g (placed_by_due c ds)
unfolding IsStrictlySortedBy
placed_in_order g c [] h s = (tt, tt)
placed_in_order g c (d ∷ ds) h s =
    elim (nat_lt c.due d.due) as (λ b. nat_lt c.due d.due ≡ b → IsStrictlySortedBy spot_cmp (map (spot_in g) (cond b (c ∷ d ∷ ds) (d ∷ placed_by_due c ds)))) [
      | true ↦ λ r. let lt = before g c d r in ((lt, all_above (spot_in g c) (spot_in g d) (map (spot_in g) ds) lt s.0), s)
      | false ↦ λ r. (all_placed g (λ y. spot_cmp (spot_in g d) y ≡ Less) c ds (behind g c d r h.0) s.0, placed_in_order g c ds h.1 s.1)
    ] refl

all_numbers : (P : CallOut → Type 0) (c : CallOut) (ds : List CallOut) → P c → AllByRecursion P ds → AllByRecursion P (placed_by_due c ds)
all_numbers P c [] h k = (h, tt)
all_numbers P c (d ∷ ds) h k = step (nat_lt c.due d.due) (all_numbers P c ds h k.1)
  where
    step : (b : Bool) → AllByRecursion P (placed_by_due c ds) → AllByRecursion P (cond b (c ∷ d ∷ ds) (d ∷ placed_by_due c ds))
    step true m = (h, k)
    step false m = (k.0, m)

all_higher : (n m : ℕ) (ds : List CallOut) → n ≤ m → AllByRecursion (λ d. d.number < n) ds → AllByRecursion (λ d. d.number < m) ds
all_higher n m [] le h = tt
all_higher n m (d ∷ ds) le h = (omega (arith, h.0), all_higher n m ds le h.1)

in_order_from : (g n : ℕ) (acc cs : List CallOut) → AreInOrder g acc → AllByRecursion (λ d. d.number < n) acc → AreRisingFrom n cs → AreInOrder g (fold (λ sorted c. placed_by_due c sorted) acc cs)
in_order_from g n acc [] s h r = s
in_order_from g n acc (c ∷ cs) s h r =
    let higher : AllByRecursion (λ d. d.number < c.number) acc = all_higher n c.number acc r.0 h in
    in_order_from g (c.number + 1) (placed_by_due c acc) cs (placed_in_order g c acc higher s)
    (all_numbers (λ d. d.number < c.number + 1) c acc (omega arith) (all_higher c.number (c.number + 1) acc (omega arith) higher)) r.1

none_in_order : (g : ℕ) → AreInOrder g []
unfolding IsStrictlySortedBy
none_in_order g = tt

pub by_due_in_order : (g : ℕ) (cs : List CallOut) → AreRisingFrom 0 cs → IsStrictlySortedBy spot_cmp (map (spot_in g) (by_due cs))
by_due_in_order g cs r = in_order_from g 0 [] cs (none_in_order g) tt r

-- the same ones are there
or_swap : (a b c : Bool) → (a || (b || c)) ≡ (b || (a || c))
or_swap true true c = refl
or_swap true false c = refl
or_swap false b c = refl

any_placed : (q : CallOut → Bool) (c : CallOut) (ds : List CallOut) → list_any q (placed_by_due c ds) ≡ (q c || list_any q ds)
any_placed q c [] = refl
any_placed q c (d ∷ ds) = step (nat_lt c.due d.due) (any_placed q c ds)
  where
    step : (b : Bool) → list_any q (placed_by_due c ds) ≡ (q c || list_any q ds) → list_any q (cond b (c ∷ d ∷ ds) (d ∷ placed_by_due c ds)) ≡ (q c || (q d || list_any q ds))
    step true e = refl
    step false e = ap (λ b. q d || b) e ∙ or_swap (q d) (q c) (list_any q ds)

or_move : (a b c : Bool) → ((a || b) || c) ≡ (b || (a || c))
or_move true true c = refl
or_move true false c = refl
or_move false true c = refl
or_move false false c = refl

any_from : (q : CallOut → Bool) (acc cs : List CallOut) → list_any q (fold (λ sorted c. placed_by_due c sorted) acc cs) ≡ (list_any q acc || list_any q cs)
any_from q acc [] = sym (or_false (list_any q acc))
  where
    or_false : (b : Bool) → (b || false) ≡ b
    or_false true = refl
    or_false false = refl
any_from q acc (c ∷ cs) = any_from q (placed_by_due c acc) cs ∙ ap (λ b. b || list_any q cs) (any_placed q c acc) ∙ or_move (q c) (list_any q acc) (list_any q cs)

pub any_by_due : (q : CallOut → Bool) (cs : List CallOut) → list_any q (by_due cs) ≡ list_any q cs
any_by_due q cs = any_from q [] cs

-- ---- the call-outs that are kept

any_map : {X Y : Type 0} (f : X → Y) (p : Y → Bool) (xs : List X) → list_any p (map f xs) ≡ list_any (λ x. p (f x)) xs
any_map f p [] = refl
any_map f p (x ∷ xs) = ap (λ b. p (f x) || b) (any_map f p xs)

any_filter : {X : Type 0} (q p : X → Bool) (xs : List X) → list_any q (filter p xs) ≡ list_any (λ x. p x && q x) xs
any_filter q p [] = refl
any_filter {X} q p (x ∷ xs) = step (p x) (any_filter q p xs)
  where
    step : (b : Bool) → list_any q (filter p xs) ≡ list_any (λ x. p x && q x) xs → list_any q (cond b (x ∷ filter p xs) (filter p xs)) ≡ ((b && q x) || list_any (λ x. p x && q x) xs)
    step true e = ap (λ b. q x || b) e
    step false e = e

parts_of : (s : Spot) (g d n : ℕ) → is_eq (spot_cmp s (record { group = g; due = d; number = n })) ≡ (is_eq (nat_cmp s.number n) && (nat_eq g s.group && nat_eq d s.due))
parts_of s g d n = grind (arith, nat_tests)

differs : (n m k : ℕ) → nat_cmp m k ≡ Less → n ≡ m → is_eq (nat_cmp n k) ≡ false
differs n m k h e = grind (arith, nat_tests)

is_number : (n m : ℕ) → is_eq (nat_cmp n m) ≡ true → n ≡ m
is_number n m h = grind (arith, nat_tests)

and_false : (b : Bool) → (b && false) ≡ false
and_false true = refl
and_false false = refl

or_no : (a b : Bool) → b ≡ false → (a || b) ≡ a
or_no true b h = refl
or_no false b h = h

-- whether a call-out with a spot's number is kept that passes a test and has the spot
abbrev pub test_at : ℕ → (CallOut → Bool) → Spot → Call → Bool
test_at g P s c = P (call_from s.number c) && (nat_eq g s.group && nat_eq c.due s.due)

-- none of the later ones has the number
none_behind : (g m : ℕ) (P : CallOut → Bool) (s : Spot) (es : List (ℕ × Call)) → AllByRecursion (λ k. nat_cmp m k ≡ Less) (keys_of es) → s.number ≡ m → list_any (λ e. P (entry_call e) && is_eq (spot_cmp s (spot_in g (entry_call e)))) es ≡ false
none_behind g m P s [] h same = refl
none_behind g m P s (e ∷ es) h same =
    rw (parts_of s g e.1.due e.0, differs s.number m e.0 h.0 same, and_false (P (entry_call e))) (none_behind g m P s es h.1 same)

at_number_is : (g : ℕ) (P : CallOut → Bool) (s : Spot) (es : List (ℕ × Call)) → IsStrictlySortedBy nat_cmp (keys_of es) → list_any (λ e. P (entry_call e) && is_eq (spot_cmp s (spot_in g (entry_call e)))) es ≡ passes (test_at g P s) (kept_at es s.number)
at_number_is g P s [] h = refl
at_number_is g P s (e ∷ es) h =
    elim (is_eq (nat_cmp s.number e.0)) as (λ b. is_eq (nat_cmp s.number e.0) ≡ b → list_any (λ e. P (entry_call e) && is_eq (spot_cmp s (spot_in g (entry_call e)))) (e ∷ es) ≡ passes (test_at g P s) (cond b (Some e.1) (kept_at es s.number))) [
      | true ↦ λ r.
          let same : s.number ≡ e.0 = is_number s.number e.0 r in
          or_no _ _ (none_behind g e.0 P s es (sorted_head nat_cmp e.0 (keys_of es) h) same)
          ∙ ap (λ b. P (entry_call e) && b) (parts_of s g e.1.due e.0 ∙ ap (λ b. b && (nat_eq g s.group && nat_eq e.1.due s.due)) r)
          ∙ ap (λ n. P (call_from n e.1) && (nat_eq g s.group && nat_eq e.1.due s.due)) (sym same)
      | false ↦ λ r.
          ap (λ b. (P (entry_call e) && b) || list_any (λ e. P (entry_call e) && is_eq (spot_cmp s (spot_in g (entry_call e)))) es) (parts_of s g e.1.due e.0 ∙ ap (λ b. b && (nat_eq g s.group && nat_eq e.1.due s.due)) r)
          ∙ ap (λ b. b || list_any (λ e. P (entry_call e) && is_eq (spot_cmp s (spot_in g (entry_call e)))) es) (and_false (P (entry_call e)))
          ∙ at_number_is g P s es (sorted_tail nat_cmp e.0 (keys_of es) h)
    ] refl

rising_from : (n : ℕ) (es : List (ℕ × Call)) → AllByRecursion (λ k. n ≤ k) (keys_of es) → IsStrictlySortedBy nat_cmp (keys_of es) → AreRisingFrom n (map entry_call es)
rising_from n [] h s = tt
rising_from n (e ∷ es) h s = (h.0, rising_from (e.0 + 1) es (above e.0 (keys_of es) (sorted_head nat_cmp e.0 (keys_of es) s)) (sorted_tail nat_cmp e.0 (keys_of es) s))
  where
    less_is : (a b : ℕ) → nat_cmp a b ≡ Less → a + 1 ≤ b
    less_is a b h = grind (arith, nat_tests)

    above : (m : ℕ) (ks : List ℕ) → AllByRecursion (λ k. nat_cmp m k ≡ Less) ks → AllByRecursion (λ k. m + 1 ≤ k) ks
    above m [] h = tt
    above m (k ∷ ks) h = (less_is m k h.0, above m ks h.1)

from_zero : (ks : List ℕ) → AllByRecursion (λ k. 0 ≤ k) ks
from_zero [] = tt
from_zero (k ∷ ks) = (omega arith, from_zero ks)

rising_lower : (n m : ℕ) (cs : List CallOut) → m ≤ n → AreRisingFrom n cs → AreRisingFrom m cs
rising_lower n m [] le h = tt
rising_lower n m (c ∷ cs) le h = (omega (arith, h.0), h.1)

rising_filter : (P : CallOut → Bool) (n : ℕ) (cs : List CallOut) → AreRisingFrom n cs → AreRisingFrom n (filter P cs)
rising_filter P n [] h = tt
rising_filter P n (c ∷ cs) h = step (P c) (rising_filter P (c.number + 1) cs h.1)
  where
    step : (b : Bool) → AreRisingFrom (c.number + 1) (filter P cs) → AreRisingFrom n (cond b (c ∷ filter P cs) (filter P cs))
    step true k = (h.0, k)
    step false k = rising_lower (c.number + 1) n (filter P cs) (omega (arith, h.0)) k

-- spots in order that are those of the call-outs that pass a test stand as these do by their moments
pub by_due_is : (g : ℕ) (P : CallOut → Bool) (ks : List Spot) (es : List (ℕ × Call)) → IsStrictlySortedBy nat_cmp (keys_of es) → IsStrictlySortedBy spot_cmp ks → ((s : Spot) → is_among ks s ≡ passes (test_at g P s) (kept_at es s.number)) → ks ≡ map (spot_in g) (by_due (filter P (map entry_call es)))
by_due_is g P ks es rising sorted h =
    same_spots ks (map (spot_in g) (by_due (filter P (map entry_call es)))) sorted
    (by_due_in_order g (filter P (map entry_call es)) (rising_filter P 0 (map entry_call es) (rising_from 0 es (from_zero (keys_of es)) rising)))
    (λ s. h s
    ∙ sym (at_number_is g P s es rising)
    ∙ sym (any_map entry_call (λ c. P c && is_eq (spot_cmp s (spot_in g c))) es)
    ∙ sym (any_filter (λ c. is_eq (spot_cmp s (spot_in g c))) P (map entry_call es))
    ∙ sym (any_by_due (λ c. is_eq (spot_cmp s (spot_in g c))) (filter P (map entry_call es)))
    ∙ sym (any_map (spot_in g) (λ x. is_eq (spot_cmp s x)) (by_due (filter P (map entry_call es)))))

-- ---- one group of spots

group_of : (g : ℕ) (s x : Spot) → (nat_eq x.group g && is_eq (spot_cmp s x)) ≡ (nat_eq s.group g && is_eq (spot_cmp s x))
group_of g s x = grind (arith, nat_tests)

any_both : {X : Type 0} (b : Bool) (q : X → Bool) (xs : List X) → list_any (λ x. b && q x) xs ≡ (b && list_any q xs)
any_both true q [] = refl
any_both false q [] = refl
any_both true q (x ∷ xs) = ap (λ b. q x || b) (any_both true q xs)
any_both false q (x ∷ xs) = any_both false q xs

any_alike : {X : Type 0} (p q : X → Bool) → ((x : X) → p x ≡ q x) → (xs : List X) → list_any p xs ≡ list_any q xs
any_alike p q h [] = refl
any_alike p q h (x ∷ xs) = rw (h x, any_alike p q h xs) refl

among_group : (g : ℕ) (s : Spot) (ks : List Spot) → is_among (filter (in_group g) ks) s ≡ (nat_eq s.group g && is_among ks s)
among_group g s ks = any_filter (λ x. is_eq (spot_cmp s x)) (in_group g) ks ∙ any_alike _ _ (group_of g s) ks ∙ any_both (nat_eq s.group g) (λ x. is_eq (spot_cmp s x)) ks

same_group : (o t g d e : ℕ) → (nat_eq g o && (nat_eq t g && nat_eq d e)) ≡ (nat_eq t o && (nat_eq o g && nat_eq d e))
same_group o t g d e = grind (arith, nat_tests)

same_group_with : (b : Bool) (o t g d e : ℕ) → (nat_eq g o && (b && (nat_eq t g && nat_eq d e))) ≡ ((nat_eq t o && b) && (nat_eq o g && nat_eq d e))
same_group_with true o t g d e = same_group o t g d e ∙ ap (λ b. b && (nat_eq o g && nat_eq d e)) (with_true (nat_eq t o))
  where
    with_true : (b : Bool) → b ≡ (b && true)
    with_true true = refl
    with_true false = refl
same_group_with false o t g d e = and_false (nat_eq g o) ∙ ap (λ b. b && (nat_eq o g && nat_eq d e)) (sym (and_false (nat_eq t o)))

only : (b : Bool) (test other : Call → Bool) (o : Option Call) → ((c : Call) → (b && test c) ≡ other c) → (b && passes test o) ≡ passes other o
only b test other None h = and_false b
only b test other (Some c) h = h c

head_of : (g : ℕ) (cs : List CallOut) → head_spot (map (spot_in g) cs) ≡ option_map (spot_in g) (first_call_out cs)
head_of g [] = refl
head_of g (c ∷ cs) = refl

-- the first spot of an object is that of its earliest call-out
pub first_of_object : (o : ObjId) (ks : List Spot) (es : List (ℕ × Call)) → IsStrictlySortedBy nat_cmp (keys_of es) → IsStrictlySortedBy spot_cmp ks → ((s : Spot) → is_among ks s ≡ passes (at_object s) (kept_at es s.number)) → first_spot o.0 ks ≡ option_map (spot_in o.0) (earliest_of (map entry_call es) o)
first_of_object o ks es rising sorted h =
    ap head_spot (by_due_is o.0 (λ c. nat_eq c.object.0 o.0) (filter (in_group o.0) ks) es rising (IsStrictlySortedBy-filter spot_cmp (in_group o.0) ks sorted)
    (λ s. among_group o.0 s ks ∙ ap (λ b. nat_eq s.group o.0 && b) (h s) ∙ only (nat_eq s.group o.0) (at_object s) (test_at o.0 (λ c. nat_eq c.object.0 o.0) s) (kept_at es s.number) (λ c. same_group o.0 c.ob.0 s.group c.due s.due)))
    ∙ head_of o.0 (by_due (filter (λ c. nat_eq c.object.0 o.0) (map entry_call es)))

-- the same of a function of it
pub first_of_function : (o : ObjId) (fun : List ℕ) (ks : List Spot) (es : List (ℕ × Call)) → IsStrictlySortedBy nat_cmp (keys_of es) → IsStrictlySortedBy spot_cmp ks → ((s : Spot) → is_among ks s ≡ passes (at_function fun s) (kept_at es s.number)) → first_spot o.0 ks ≡ option_map (spot_in o.0) (earliest (map entry_call es) o fun)
first_of_function o fun ks es rising sorted h =
    ap head_spot (by_due_is o.0 (λ c. nat_eq c.object.0 o.0 && pointwise nat_eq c.function fun) (filter (in_group o.0) ks) es rising (IsStrictlySortedBy-filter spot_cmp (in_group o.0) ks sorted)
    (λ s. among_group o.0 s ks ∙ ap (λ b. nat_eq s.group o.0 && b) (h s) ∙ only (nat_eq s.group o.0) (at_function fun s) (test_at o.0 (λ c. nat_eq c.object.0 o.0 && pointwise nat_eq c.function fun) s) (kept_at es s.number) (λ c. same_group_with (pointwise nat_eq c.fun fun) o.0 c.ob.0 s.group c.due s.due)))
    ∙ head_of o.0 (by_due (filter (λ c. nat_eq c.object.0 o.0 && pointwise nat_eq c.function fun) (map entry_call es)))

-- ---- the call-out with a number

all_as_mapped : (P : CallOut → Type 0) (es : List (ℕ × Call)) → AllByRecursion (λ e. P (entry_call e)) es → AllByRecursion P (map entry_call es)
all_as_mapped P [] h = tt
all_as_mapped P (e ∷ es) h = (h.0, all_as_mapped P es h.1)

all_filtered : (P : CallOut → Type 0) (p : CallOut → Bool) (cs : List CallOut) → AllByRecursion P cs → AllByRecursion P (filter p cs)
all_filtered P p [] h = tt
all_filtered P p (c ∷ cs) h = step (p c) (all_filtered P p cs h.1)
  where
    step : (b : Bool) → AllByRecursion P (filter p cs) → AllByRecursion P (cond b (c ∷ filter p cs) (filter p cs))
    step true k = (h.0, k)
    step false k = k

all_by_due : (P : CallOut → Type 0) (acc cs : List CallOut) → AllByRecursion P acc → AllByRecursion P cs → AllByRecursion P (fold (λ sorted c. placed_by_due c sorted) acc cs)
all_by_due P acc [] h k = h
all_by_due P acc (c ∷ cs) h k = all_by_due P (placed_by_due c acc) cs (all_numbers P c acc k.0 h) k.1

first_has : (P : CallOut → Type 0) (cs : List CallOut) (x : CallOut) → AllByRecursion P cs → first_call_out cs ≡ Some x → P x
first_has P [] x h e = absurd (cc)
first_has P (c ∷ cs) x h e = let same : c ≡ x = cc in subst P same h.0

all_found : (es : List (ℕ × Call)) → (fs : List (ℕ × Call)) → AllByRecursion (λ e. kept_at es e.0 ≡ Some e.1) fs → AllByRecursion (λ e. numbered (map entry_call es) e.0 ≡ Some (entry_call e)) fs
all_found es [] h = tt
all_found es (f ∷ fs) h = (sym (found_numbered es f.0) ∙ ap (option_map (call_from f.0)) h.0, all_found es fs h.1)

-- the first of the call-outs that pass a test is the one that waits with its number
pub first_is_numbered : (P : CallOut → Bool) (es : List (ℕ × Call)) → AllByRecursion (λ e. kept_at es e.0 ≡ Some e.1) es → (x : CallOut) → first_call_out (by_due (filter P (map entry_call es))) ≡ Some x → numbered (map entry_call es) x.number ≡ Some x
first_is_numbered P es h x e =
    first_has (λ c. numbered (map entry_call es) c.number ≡ Some c) (by_due (filter P (map entry_call es))) x
    (all_by_due (λ c. numbered (map entry_call es) c.number ≡ Some c) [] (filter P (map entry_call es)) tt
    (all_filtered (λ c. numbered (map entry_call es) c.number ≡ Some c) P (map entry_call es) (all_as_mapped (λ c. numbered (map entry_call es) c.number ≡ Some c) es (all_found es es h))))
    e

pub by_number : (g : ℕ) (cs : List CallOut) (o : Option CallOut) (r : Option Spot) → r ≡ option_map (spot_in g) o → ((x : CallOut) → o ≡ Some x → numbered cs x.number ≡ Some x) → IfSome r (λ s. numbered cs s.number ≡ o)
by_number g cs None r e h = subst (λ q. IfSome q (λ s. numbered cs s.number ≡ None)) (sym e) tt
by_number g cs (Some x) r e h = subst (λ q. IfSome q (λ s. numbered cs s.number ≡ Some x)) (sym e) (h x refl)

-- ---- what is due

due_of : (g d n t next c : ℕ) → n < next → ((is_le (ordering_then (nat_cmp 0 g) (ordering_then (nat_cmp 0 d) (nat_cmp 0 n))) && not (is_le (ordering_then (nat_cmp 0 g) (ordering_then (nat_cmp t d) (nat_cmp next n))))) && (nat_eq g 0 && nat_eq c d)) ≡ (nat_le c t && (nat_eq 0 g && nat_eq c d))
due_of g d n t next c lt = grind (arith, nat_tests)

kept_below : (es : List (ℕ × Call)) (next m : ℕ) (c : Call) → AllByRecursion (λ e. e.0 < next) es → kept_at es m ≡ Some c → m < next
kept_below [] next m c h k = absurd (cc)
kept_below (e ∷ es) next m c h k = step (is_eq (nat_cmp m e.0)) refl k (kept_below es next m c h.1)
  where
    step : (b : Bool) → is_eq (nat_cmp m e.0) ≡ b → cond b (Some e.1) (kept_at es m) ≡ Some c → (kept_at es m ≡ Some c → m < next) → m < next
    step true r k more = let same : m ≡ e.0 = is_number m e.0 r in let lt : e.0 < next = h.0 in omega arith
    step false r k more = more k

due_test : (t next : ℕ) (s : Spot) (o : Option Call) → ((c : Call) → o ≡ Some c → s.number < next) → (is_due t next s && passes (at_all s) o) ≡ passes (test_at 0 (λ c. nat_le c.due t) s) o
due_test t next s None h = and_false (is_due t next s)
due_test t next s (Some c) h = due_of s.group s.due s.number t next c.due (h c refl)

alike_spots : (p : Spot → Bool) (s x : Spot) → (p x && is_eq (spot_cmp s x)) ≡ (p s && is_eq (spot_cmp s x))
alike_spots p s x = step (is_eq (spot_cmp s x)) refl
  where
    step : (b : Bool) → is_eq (spot_cmp s x) ≡ b → (p x && b) ≡ (p s && b)
    step true r = ap (λ y. p y && true) (sym (same_spot s x r))
    step false r = and_false (p x) ∙ sym (and_false (p s))

among_filtered : (p : Spot → Bool) (s : Spot) (ks : List Spot) → is_among (filter p ks) s ≡ (p s && is_among ks s)
among_filtered p s ks = any_filter (λ x. is_eq (spot_cmp s x)) p ks ∙ any_alike _ _ (alike_spots p s) ks ∙ any_both (p s) (λ x. is_eq (spot_cmp s x)) ks

map_twice : (cs : List CallOut) → map (λ s. s.number) (map (spot_in 0) cs) ≡ map (λ c. c.number) cs
map_twice [] = refl
map_twice (c ∷ cs) = ap (λ ns. c.number ∷ ns) (map_twice cs)

pub due_is : (t next : ℕ) (ks : List Spot) (es : List (ℕ × Call)) → IsStrictlySortedBy nat_cmp (keys_of es) → AllByRecursion (λ e. e.0 < next) es → IsStrictlySortedBy spot_cmp ks → ((s : Spot) → is_among ks s ≡ passes (at_all s) (kept_at es s.number))
    → map (λ s. s.number) (filter (is_due t next) ks) ≡ map (λ c. c.number) (due_at t (map entry_call es))
due_is t next ks es rising below sorted h =
    ap (map (λ s. s.number)) (by_due_is 0 (λ c. nat_le c.due t) (filter (is_due t next) ks) es rising (IsStrictlySortedBy-filter spot_cmp (is_due t next) ks sorted)
    (λ s. among_filtered (is_due t next) s ks ∙ ap (λ b. is_due t next s && b) (h s) ∙ due_test t next s (kept_at es s.number) (λ c k. kept_below es next s.number c below k)))
    ∙ map_twice (by_due (filter (λ c. nat_le c.due t) (map entry_call es)))
