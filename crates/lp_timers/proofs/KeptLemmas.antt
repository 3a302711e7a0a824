-- The call-outs that are kept, by their numbers, and what an edit leaves.
use Rattle.std.proofs.Common.{◌≡◌, ℕ, ◌<◌, Bool, true, false, cond, not, nat_eq, ◌&&◌, List, [], ◌∷◌, ◌++◌, map, Option, Some, None, refl, sym, ap, subst, ◌∙◌, arith}
use Rattle.std.specs.declared.cmp.Ordering.TheVariants.{Less, Greater}
use Rattle.std.specs.Option.{option_map}
use Rattle.std.specs.Ordering.{nat_cmp, is_eq}
use Rattle.std.specs.List.{filter, AllByRecursion}
use Rattle.std.specs.List.Sorted.{IsStrictlySortedBy}
use Rattle.std.specs.Map.{keys_of, remove_entry}
use Rattle.std.specs.BTreeMap.{is_at, insert_entry}
use Rattle.std.proofs.lemmas.Bool.Decides.{nat_tests}
use Rattle.std.proofs.lemmas.Map.Keys.{sorted_head, sorted_tail}
use Rattle.lp_timers.specs.declared.spot.Spot.{Spot}
use Rattle.lp_timers.specs.declared.call_out.Call.{Call}
use Rattle.lp_timers.specs.Spots.{spot_cmp}
use Rattle.lp_timers.specs.Timers.{first_call_out, without_call_out}
use Rattle.lp_timers.specs.Waiting.{entry_call, call_from, numbered}
use Rattle.lp_timers.specs.Indexed.{kept_at, passes}

-- ---- numbers

is_greater : (n m : ℕ) → m < n → nat_cmp n m ≡ Greater
is_greater n m h = grind (arith, nat_tests)

same_number : (n m : ℕ) → is_eq (nat_cmp n m) ≡ nat_eq m n
same_number n m = grind (arith, nat_tests)

nat_eq_no : (a b : ℕ) → (a ≡ b → ⊥) → nat_eq a b ≡ false
nat_eq_no a b h = grind (arith, nat_tests)

less_than : (n m : ℕ) → nat_cmp n m ≡ Less → n < m
less_than n m h = grind (arith, nat_tests)

-- ---- a new call-out stands behind the others

pub put_last : (es : List (ℕ × Call)) (n : ℕ) (c : Call) → AllByRecursion (λ e. e.0 < n) es → insert_entry nat_cmp es n c ≡ es ++ (n, c) ∷ []
put_last [] n c h = refl
put_last (e ∷ es) n c h = rw (is_greater n e.0 h.0) (ap (λ fs. e ∷ fs) (put_last es n c h.1))

pub none_kept : (es : List (ℕ × Call)) (n : ℕ) → AllByRecursion (λ e. e.0 < n) es → kept_at es n ≡ None
none_kept [] n h = refl
none_kept (e ∷ es) n h = rw (is_greater n e.0 h.0) (none_kept es n h.1)

pub map_last : (es : List (ℕ × Call)) (n : ℕ) (c : Call) → map entry_call (es ++ (n, c) ∷ []) ≡ map entry_call es ++ call_from n c ∷ []
map_last [] n c = refl
map_last (e ∷ es) n c = ap (λ fs. entry_call e ∷ fs) (map_last es n c)

pub all_last : (es : List (ℕ × Call)) (n m : ℕ) (c : Call) → AllByRecursion (λ e. e.0 < n) es → n < m → AllByRecursion (λ e. e.0 < m) (es ++ (n, c) ∷ [])
all_last [] n m c h lt = (lt, tt)
all_last (e ∷ es) n m c h lt = (omega (arith, h.0), all_last es n m c h.1 lt)

-- ---- a call-out that is taken out

pub all_removed : (es : List (ℕ × Call)) (n m : ℕ) → AllByRecursion (λ e. e.0 < m) es → AllByRecursion (λ e. e.0 < m) (remove_entry (is_at (nat_cmp n)) es)
all_removed [] n m h = tt
all_removed (e ∷ es) n m h = step (is_eq (nat_cmp n e.0)) (all_removed es n m h.1)
  where
    step : (b : Bool) → AllByRecursion (λ e. e.0 < m) (remove_entry (is_at (nat_cmp n)) es) → AllByRecursion (λ e. e.0 < m) (cond b es (e ∷ remove_entry (is_at (nat_cmp n)) es))
    step true k = h.1
    step false k = (h.0, k)

-- none of the later ones has the number
others : (es : List (ℕ × Call)) (m n : ℕ) → AllByRecursion (λ k. nat_cmp m k ≡ Less) (keys_of es) → m ≡ n → filter (λ c. not (nat_eq c.number n)) (map entry_call es) ≡ map entry_call es
others [] m n h same = refl
others (e ∷ es) m n h same =
    let lt : m < e.0 = less_than m e.0 h.0 in
    rw (nat_eq_no e.0 n (λ x. omega arith)) (ap (λ fs. entry_call e ∷ fs) (others es m n h.1 same))

pub taken_out : (es : List (ℕ × Call)) (n : ℕ) → IsStrictlySortedBy nat_cmp (keys_of es) → map entry_call (remove_entry (is_at (nat_cmp n)) es) ≡ without_call_out (map entry_call es) n
taken_out [] n s = refl
taken_out (e ∷ es) n s =
    rw (same_number n e.0) (step (nat_eq e.0 n) refl (taken_out es n (sorted_tail nat_cmp e.0 (keys_of es) s)))
  where
    step : (b : Bool) → nat_eq e.0 n ≡ b → map entry_call (remove_entry (is_at (nat_cmp n)) es) ≡ without_call_out (map entry_call es) n
        → map entry_call (cond b es (e ∷ remove_entry (is_at (nat_cmp n)) es)) ≡ cond (not b) (entry_call e ∷ without_call_out (map entry_call es) n) (without_call_out (map entry_call es) n)
    step true r more =
        let same : e.0 ≡ n = grind (arith, nat_tests) in
        sym (others es e.0 n (sorted_head nat_cmp e.0 (keys_of es) s) same)
    step false r more = ap (λ fs. entry_call e ∷ fs) more

pub found_numbered : (es : List (ℕ × Call)) (n : ℕ) → option_map (call_from n) (kept_at es n) ≡ numbered (map entry_call es) n
found_numbered [] n = refl
found_numbered (e ∷ es) n = rw (same_number n e.0) (step (nat_eq e.0 n) refl (found_numbered es n))
  where
    step : (b : Bool) → nat_eq e.0 n ≡ b → option_map (call_from n) (kept_at es n) ≡ numbered (map entry_call es) n
        → option_map (call_from n) (cond b (Some e.1) (kept_at es n)) ≡ first_call_out (cond b (entry_call e ∷ filter (λ c. nat_eq c.number n) (map entry_call es)) (filter (λ c. nat_eq c.number n) (map entry_call es)))
    step true r more =
        let same : n ≡ e.0 = grind (arith, nat_tests) in
        ap (λ m. Some (call_from m e.1)) same
    step false r more = more

-- ---- what the index has

-- one test of the spots at a call-out: put in
pub put_in : (test : Call → Bool) (hit is there : Bool) (c : Call) (here : Bool) (kept : Option Call)
    → there ≡ passes test kept → is ≡ cond hit true there → hit ≡ (here && test c) → (here ≡ true → kept ≡ None) → is ≡ passes test (cond here (Some c) kept)
put_in test hit is there c true kept e f g new =
    f ∙ ap (λ b. cond b true there) g ∙ ap (λ b. cond (test c) true b) (e ∙ ap (passes test) (new refl)) ∙ itself (test c)
  where
    itself : (b : Bool) → cond b true false ≡ b
    itself true = refl
    itself false = refl
put_in test hit is there c false kept e f g new = f ∙ ap (λ b. cond b true there) g ∙ e

-- taken out
pub took_out : (test : Call → Bool) (hit is there : Bool) (c : Call) (here : Bool) (kept : Option Call)
    → there ≡ passes test kept → is ≡ cond hit false there → hit ≡ (here && test c) → (here ≡ true → kept ≡ Some c) → is ≡ passes test (cond here None kept)
took_out test hit is there c true kept e f g old =
    f ∙ ap (λ b. cond b false there) g ∙ ap (λ b. cond (test c) false b) (e ∙ ap (passes test) (old refl)) ∙ gone (test c)
  where
    gone : (b : Bool) → cond b false b ≡ false
    gone true = refl
    gone false = refl
took_out test hit is there c false kept e f g old = f ∙ ap (λ b. cond b false there) g ∙ e

-- put in and taken out again
pub put_back : (hit last is there : Bool) → is ≡ cond hit true there → last ≡ cond hit false is → (hit ≡ true → there ≡ false) → last ≡ there
put_back true last is there e f g = f ∙ sym (g refl)
put_back false last is there e f g = f ∙ e

-- ---- spots of a call-out

pub hits_all : (o d n : ℕ) (s : Spot) → is_eq (spot_cmp (record { group = 0; due = d; number = n }) s) ≡ (is_eq (nat_cmp n s.number) && (nat_eq s.group 0 && nat_eq d s.due))
hits_all o d n s = grind (arith, nat_tests)

pub hits_object : (o d n : ℕ) (s : Spot) → is_eq (spot_cmp (record { group = o; due = d; number = n }) s) ≡ (is_eq (nat_cmp n s.number) && (nat_eq o s.group && nat_eq d s.due))
hits_object o d n s = grind (arith, nat_tests)

pub hits_function : (b : Bool) (o d n : ℕ) (s : Spot) → (b && is_eq (spot_cmp (record { group = o; due = d; number = n }) s)) ≡ (is_eq (nat_cmp n s.number) && (b && (nat_eq o s.group && nat_eq d s.due)))
hits_function true o d n s = hits_object o d n s
hits_function false o d n s = never (is_eq (nat_cmp n s.number))
  where
    never : (b : Bool) → false ≡ (b && false)
    never true = refl
    never false = refl

-- at its own number: what is kept there
pub at_number : (es : List (ℕ × Call)) (n m : ℕ) (o : Option Call) → kept_at es n ≡ o → is_eq (nat_cmp n m) ≡ true → kept_at es m ≡ o
at_number es n m o h r =
    let same : n ≡ m = grind (arith, nat_tests) in
    subst (λ k. kept_at es k ≡ o) same h

-- a spot of a call-out that is not kept is not there
pub absent : (es : List (ℕ × Call)) (n : ℕ) (test : Call → Bool) (m : ℕ) (hit rest there : Bool) → kept_at es n ≡ None → there ≡ passes test (kept_at es m) → hit ≡ (is_eq (nat_cmp n m) && rest) → hit ≡ true → there ≡ false
absent es n test m hit rest there none e f r = e ∙ ap (passes test) (at_number es n m None none (first (is_eq (nat_cmp n m)) rest (sym f ∙ r)))
  where
    first : (a b : Bool) → (a && b) ≡ true → a ≡ true
    first true b h = refl
    first false b h = h
