-- Laws of slots and of the places that are noted of them.
use Rattle.std.proofs.Common.{◌≡◌, ◌≢◌, ◌⊎◌, inl, inr, ℕ, ◌+◌, ◌<◌, ◌≤◌, suc, zero, List, [], ◌∷◌, ◌++◌, Bool, true, false, true≢false, refl, ap, sym, subst, ◌∙◌, Option, Some, None, IsSome, cond, arith, length, length-append, get_or, take, drop, slice_get, if◌then◌else◌, is_some, filter, unwrap_or, pos}
use Rattle.std.specs.Prelude.{slice_set}
use Rattle.std.specs.List.{AllByRecursion, IsDistinct}
use Rattle.std.specs.Map.{lookup, remove_entry, keys_of}
use Rattle.std.specs.Option.{option_map, option_to_list}
use Rattle.std.proofs.lemmas.List.{drop_more, flat_map_more, length-take, take_more, take_more_set}
use Rattle.std.proofs.lemmas.List.Elements.{filter-append}
use Rattle.std.proofs.lemmas.Option.{slice_get_read, slice_get_within, get_or_from_slice_get}
use Rattle.std.proofs.lemmas.List.Sums.{fold-append, sum_by-append}
use Rattle.indexmap.specs.IndexMap.{insert_all, insert_entry}
use Rattle.lp_values.specs.Read.{as_read, live_part, value_eq}
use Rattle.lp_values.specs.declared.id.ObjId.{ObjId}
use Rattle.lp_values.specs.declared.value.Value.{Value}
use Rattle.lp_values.specs.declared.value.Value.TheVariants.{Int, Str, Arr, Map, Obj}
use Rattle.lp_values.specs.contracts.value.ValuePartialEq.TheImpl as derived
use Rattle.lp_values.proofs.ReadLemmas.{eq_is, value_eq_one, value_eq_refl}
use Rattle.lp_cells.specs.Mapping.{HasDistinctKeys, is_object, objects_in, pairs_there}
use Rattle.lp_cells.specs.Slots.{AreApart, IsIndexed, IsKeyAt, IsNumbered, IsSweptTo, dead_in, filled}

abbrev Pair : Type 0
Pair = Value × Value

abbrev Row : Type 0
Row = List (Option (Value × Value))

-- the pairs in one slot more
pub filled_push : (slots : Row) (x : Option Pair) → filled (slots ++ x ∷ []) ≡ filled slots ++ option_to_list x
filled_push slots x = sym (flat_map_more option_to_list [] slots x)

-- the pairs in the slots up to one place further
pub filled_next : (slots : Row) (i : ℕ) (x : Option Pair) → i < length slots → x ≡ get_or slots i x → filled (take (i + 1) slots) ≡ filled (take i slots) ++ option_to_list x
filled_next slots i x h e = ap filled (take_more slots i x h) ∙ filled_push (take i slots) (get_or slots i x) ∙ ap (λ y. filled (take i slots) ++ option_to_list y) (sym e)

-- a key is read from a pair that is known
key_same : (p : Pair) (k v : Value) → Some p ≡ Some (k, v) → value_eq k p.0 ≡ true
key_same p k v e = let s : k ≡ p.0 = cc in subst (λ q. value_eq k q ≡ true) s (value_eq_refl k)

pair_of : (p : Pair) (k : Value) → value_eq k p.0 ≡ true → Some p ≡ Some (k, p.1)
pair_of p k e = ap (λ q. Some (q, p.1)) (sym (value_eq_one k p.0 e))

-- pairs in one slot have one key
slot_key : (p q : Pair) → Some (Some p) ≡ Some (Some q) → p.0 ≡ q.0
slot_key p q h = let e : p ≡ q = cc in ap (λ r. r.0) e

some_first : (b : Bool) (v : Value) (o : Option Value) → b ≡ true → IsSome (cond b (Some v) o)
some_first true v o e = refl
some_first false v o e = cc

some_later : (b : Bool) (v : Value) (o : Option Value) → IsSome o → IsSome (cond b (Some v) o)
some_later true v o h = refl
some_later false v o h = h

-- a key that stands in a slot is found among the pairs
key_found : (slots : Row) (k v : Value) (s : ℕ) → slice_get slots s ≡ Some (Some (k, v)) → IsSome (lookup (value_eq k) (filled slots))
key_found [] k v s h = cc
key_found (None ∷ xs) k v zero h = cc
key_found (None ∷ xs) k v (suc s) h = key_found xs k v s h
key_found (Some p ∷ xs) k v zero h = some_first (value_eq k p.0) p.1 (lookup (value_eq k) (filled xs)) (key_same p k v (cc))
key_found (Some p ∷ xs) k v (suc s) h = some_later (value_eq k p.0) p.1 (lookup (value_eq k) (filled xs)) (key_found xs k v s h)

further : (x : Option Pair) (xs : Row) (k : Value) → (s : ℕ) × IsKeyAt xs k s → (s : ℕ) × IsKeyAt (x ∷ xs) k s
further x xs k r = (suc r.0, r.1)

key_step : (p : Pair) (xs : Row) (k : Value) (b : Bool) → value_eq k p.0 ≡ b → IsSome (cond b (Some p.1) (lookup (value_eq k) (filled xs))) → (IsSome (lookup (value_eq k) (filled xs)) → (s : ℕ) × IsKeyAt xs k s) → (s : ℕ) × IsKeyAt (Some p ∷ xs) k s
key_step p xs k true e h rest = (zero, (p.1, ap Some (pair_of p k e)))
key_step p xs k false e h rest = further (Some p) xs k (rest h)

-- and a key that is found among the pairs stands in a slot
pub key_place : (slots : Row) (k : Value) → IsSome (lookup (value_eq k) (filled slots)) → (s : ℕ) × IsKeyAt slots k s
key_place [] k h = absurd (true≢false (sym h))
key_place (None ∷ xs) k h = further None xs k (key_place xs k h)
key_place (Some p ∷ xs) k h = key_step p xs k (value_eq k p.0) refl h (key_place xs k)

-- a key stands in no other slot
abbrev IsOnly : Row → Value → ℕ → Type 0
IsOnly slots k s = (w : Value) (t : ℕ) → slice_get slots t ≡ Some (Some (k, w)) → t ≡ s

pred : (s t : ℕ) → suc s ≡ suc t → s ≡ t
pred s t h = omega arith

only_tail : (x : Option Pair) (xs : Row) (k : Value) (s : ℕ) → IsOnly (x ∷ xs) k (suc s) → IsOnly xs k s
only_tail x xs k s o w t h = pred t s (o w (suc t) h)

head_cases : (p : Pair) (xs : Row) (k : Value) (s : ℕ) (b : Bool) → IsOnly (Some p ∷ xs) k (suc s) → value_eq k p.0 ≡ b → b ≡ false
head_cases p xs k s true o e = let z : zero ≡ suc s = o p.1 zero (ap Some (pair_of p k e)) in absurd (omega arith)
head_cases p xs k s false o e = refl

head_other : (p : Pair) (xs : Row) (k : Value) (s : ℕ) → IsOnly (Some p ∷ xs) k (suc s) → value_eq k p.0 ≡ false
head_other p xs k s o = head_cases p xs k s (value_eq k p.0) o refl

-- a look-up finds the value in the slot of the key
pub found_at : (slots : Row) (k v : Value) (s : ℕ) → slice_get slots s ≡ Some (Some (k, v)) → IsOnly slots k s → lookup (value_eq k) (filled slots) ≡ Some v
found_at [] k v s h o = cc
found_at (None ∷ xs) k v zero h o = cc
found_at (None ∷ xs) k v (suc s) h o = found_at xs k v s h (only_tail None xs k s o)
found_at (Some p ∷ xs) k v zero h o = ap (λ b. cond b (Some p.1) (lookup (value_eq k) (filled xs))) (key_same p k v (cc)) ∙ (let e : Some p.1 ≡ Some v = cc in e)
found_at (Some p ∷ xs) k v (suc s) h o = ap (λ b. cond b (Some p.1) (lookup (value_eq k) (filled xs))) (head_other p xs k s o) ∙ found_at xs k v s h (only_tail (Some p) xs k s o)

-- a write into that slot puts the value at the key
pub put_at : (slots : Row) (k v w : Value) (s : ℕ) → slice_get slots s ≡ Some (Some (k, v)) → IsOnly slots k s → filled (slice_set slots s (Some (k, w))) ≡ insert_entry value_eq (filled slots) k w
put_at [] k v w s h o = cc
put_at (None ∷ xs) k v w zero h o = cc
put_at (None ∷ xs) k v w (suc s) h o = put_at xs k v w s h (only_tail None xs k s o)
put_at (Some p ∷ xs) k v w zero h o = (let e : (k, w) ∷ filled xs ≡ (p.0, w) ∷ filled xs = cc in e) ∙ sym (ap (λ b. if b then (p.0, w) ∷ filled xs else p ∷ insert_entry value_eq (filled xs) k w) (key_same p k v (cc)))
put_at (Some p ∷ xs) k v w (suc s) h o = ap (λ r. p ∷ r) (put_at xs k v w s h (only_tail (Some p) xs k s o)) ∙ sym (ap (λ b. if b then (p.0, w) ∷ filled xs else p ∷ insert_entry value_eq (filled xs) k w) (head_other p xs k s o))

-- a gap in its place drops the key
pub gone_at : (slots : Row) (k v : Value) (s : ℕ) → slice_get slots s ≡ Some (Some (k, v)) → IsOnly slots k s → filled (slice_set slots s None) ≡ remove_entry (value_eq k) (filled slots)
gone_at [] k v s h o = cc
gone_at (None ∷ xs) k v zero h o = cc
gone_at (None ∷ xs) k v (suc s) h o = gone_at xs k v s h (only_tail None xs k s o)
gone_at (Some p ∷ xs) k v zero h o = sym (ap (λ b. cond b (filled xs) (p ∷ remove_entry (value_eq k) (filled xs))) (key_same p k v (cc)))
gone_at (Some p ∷ xs) k v (suc s) h o = ap (λ r. p ∷ r) (gone_at xs k v s h (only_tail (Some p) xs k s o)) ∙ sym (ap (λ b. cond b (filled xs) (p ∷ remove_entry (value_eq k) (filled xs))) (head_other p xs k s o))

-- the lengths after both
put_length : (slots : Row) (p q : Pair) (s : ℕ) → slice_get slots s ≡ Some (Some p) → length (filled slots) ≡ length (filled (slice_set slots s (Some q)))
put_length [] p q s h = cc
put_length (None ∷ xs) p q zero h = cc
put_length (None ∷ xs) p q (suc s) h = put_length xs p q s h
put_length (Some r ∷ xs) p q zero h = refl
put_length (Some r ∷ xs) p q (suc s) h = ap suc (put_length xs p q s h)

gone_length : (slots : Row) (p : Pair) (s : ℕ) → slice_get slots s ≡ Some (Some p) → length (filled slots) ≡ suc (length (filled (slice_set slots s None)))
gone_length [] p s h = cc
gone_length (None ∷ xs) p zero h = cc
gone_length (None ∷ xs) p (suc s) h = gone_length xs p s h
gone_length (Some r ∷ xs) p zero h = refl
gone_length (Some r ∷ xs) p (suc s) h = ap suc (gone_length xs p s h)

-- keys in slots that are apart are distinct
none_cases : (k : Value) (p : Pair) (b : Bool) → value_eq k p.0 ≡ b → (Some p ≢ Some (k, p.1)) → b ≡ false
none_cases k p true e h = absurd (h (pair_of p k e))
none_cases k p false e h = refl

none_equal : (k : Value) (xs : Row) → ((v : Value) (t : ℕ) → slice_get xs t ≢ Some (Some (k, v))) → AllByRecursion (λ y. value_eq k y ≡ false) (keys_of (filled xs))
none_equal k [] h = tt
none_equal k (None ∷ xs) h = none_equal k xs (λ v t. h v (suc t))
none_equal k (Some p ∷ xs) h = (none_cases k p (value_eq k p.0) refl (λ e. h p.1 zero (ap Some e)), none_equal k xs (λ v t. h v (suc t)))

apart_tail : (x : Option Pair) (xs : Row) → AreApart (x ∷ xs) → AreApart xs
apart_tail x xs a k v w s t h g = pred s t (a k v w (suc s) (suc t) h g)

pub distinct_filled : (slots : Row) → AreApart slots → HasDistinctKeys (filled slots)
unfolding IsDistinct
distinct_filled [] a = tt
distinct_filled (None ∷ xs) a = distinct_filled xs (apart_tail None xs a)
distinct_filled (Some p ∷ xs) a = (none_equal p.0 xs (λ v t h. let z : zero ≡ suc t = a p.0 p.1 v zero (suc t) refl h in absurd (omega arith)), distinct_filled xs (apart_tail (Some p) xs a))

not_among : (k w : Value) (xs : Row) (t : ℕ) → AllByRecursion (λ y. value_eq k y ≡ false) (keys_of (filled xs)) → slice_get xs t ≢ Some (Some (k, w))
not_among k w [] t a h = cc
not_among k w (None ∷ xs) zero a h = cc
not_among k w (None ∷ xs) (suc t) a h = not_among k w xs t a h
not_among k w (Some p ∷ xs) zero a h = true≢false (sym (key_same p k w (cc)) ∙ a.0)
not_among k w (Some p ∷ xs) (suc t) a h = not_among k w xs t a.1 h

-- and distinct keys stand in slots that are apart
pub apart_filled : (slots : Row) → HasDistinctKeys (filled slots) → AreApart slots
unfolding IsDistinct
apart_filled [] d k v w s t h g = cc
apart_filled (None ∷ xs) d k v w zero t h g = cc
apart_filled (None ∷ xs) d k v w (suc s) zero h g = cc
apart_filled (None ∷ xs) d k v w (suc s) (suc t) h g = ap suc (apart_filled xs d k v w s t h g)
apart_filled (Some p ∷ xs) d k v w zero zero h g = refl
apart_filled (Some p ∷ xs) d k v w zero (suc t) h g = let e : p.0 ≡ k = cc in absurd (not_among p.0 w xs t d.0 (subst (λ q. slice_get xs t ≡ Some (Some (q, w))) (sym e) g))
apart_filled (Some p ∷ xs) d k v w (suc s) zero h g = let e : p.0 ≡ k = cc in absurd (not_among p.0 v xs s d.0 (subst (λ q. slice_get xs s ≡ Some (Some (q, v))) (sym e) h))
apart_filled (Some p ∷ xs) d k v w (suc s) (suc t) h g = ap suc (apart_filled xs d.1 k v w s t h g)

-- noted slots are apart
pub apart_indexed : (places : List (Value × ℕ)) (slots : Row) → IsIndexed places slots → AreApart slots
apart_indexed places slots i k v w s t h g = let a = i.whole k v s h in let b = i.whole k w t g in cc

only_indexed : (places : List (Value × ℕ)) (slots : Row) (k v : Value) (s : ℕ) → IsIndexed places slots → slice_get slots s ≡ Some (Some (k, v)) → IsOnly slots k s
only_indexed places slots k v s i h w t g = apart_indexed places slots i k w v t s g h

none_from : (o : Option Value) → (IsSome o → ⊥) → o ≡ None
none_from None h = refl
none_from (Some v) h = absurd (h refl)

-- a key of no noted place is in no pair
pub absent_indexed : (places : List (Value × ℕ)) (slots : Row) (k : Value) → IsIndexed places slots → lookup (value_eq k) places ≡ None → lookup (value_eq k) (filled slots) ≡ None
absent_indexed places slots k i n = none_from (lookup (value_eq k) (filled slots)) (λ h. let r = key_place slots k h in let a = i.whole k r.1.0 r.0 r.1.1 in cc)

none_place : (o : Option ℕ) → ((s : ℕ) → o ≢ Some s) → o ≡ None
none_place None h = refl
none_place (Some s) h = absurd (h s refl)

-- and a key of no pair has no noted place
pub absent_places : (places : List (Value × ℕ)) (slots : Row) (k : Value) → IsIndexed places slots → lookup (value_eq k) (filled slots) ≡ None → lookup (value_eq k) places ≡ None
absent_places places slots k i n = none_place (lookup (value_eq k) places) (λ s e. let r = i.sound k s e in let f = key_found slots k r.0 s r.1 in true≢false (sym f ∙ ap is_some n))

-- a put of a new key
insert_step : (p : Pair) (ps : List Pair) (k v : Value) (b : Bool) → cond b (Some p.1) (lookup (value_eq k) ps) ≡ None → (lookup (value_eq k) ps ≡ None → insert_entry value_eq ps k v ≡ ps ++ (k, v) ∷ []) → (if b then (p.0, v) ∷ ps else p ∷ insert_entry value_eq ps k v) ≡ p ∷ (ps ++ (k, v) ∷ [])
insert_step p ps k v true h rest = cc
insert_step p ps k v false h rest = ap (λ r. p ∷ r) (rest h)

pub insert_absent : (ps : List Pair) (k v : Value) → lookup (value_eq k) ps ≡ None → insert_entry value_eq ps k v ≡ ps ++ (k, v) ∷ []
insert_absent [] k v h = refl
insert_absent (p ∷ ps) k v h = insert_step p ps k v (value_eq k p.0) h (insert_absent ps k v)

remove_step : (p : Pair) (ps : List Pair) (k : Value) (b : Bool) → cond b (Some p.1) (lookup (value_eq k) ps) ≡ None → (lookup (value_eq k) ps ≡ None → ps ≡ remove_entry (value_eq k) ps) → p ∷ ps ≡ cond b ps (p ∷ remove_entry (value_eq k) ps)
remove_step p ps k true h rest = cc
remove_step p ps k false h rest = ap (λ r. p ∷ r) (rest h)

-- a drop of a key that is not there
pub remove_absent : (ps : List Pair) (k : Value) → lookup (value_eq k) ps ≡ None → ps ≡ remove_entry (value_eq k) ps
remove_absent [] k h = refl
remove_absent (p ∷ ps) k h = remove_step p ps k (value_eq k p.0) h (remove_absent ps k)

-- slots that are written and pushed
get_set : (xs : Row) (i j : ℕ) (a b : Option Pair) → slice_get xs j ≡ Some b → (slice_get (slice_set xs i a) j ≡ Some b) ⊎ ((j ≡ i) × (slice_get (slice_set xs i a) j ≡ Some a))
get_set [] i j a b h = inl h
get_set (x ∷ xs) zero zero a b h = inr (refl, refl)
get_set (x ∷ xs) zero (suc j) a b h = inl h
get_set (x ∷ xs) (suc i) zero a b h = inl h
get_set (x ∷ xs) (suc i) (suc j) a b h = elim (get_set xs i j a b h) [ inl l ↦ inl l | inr r ↦ inr (ap suc r.0, r.1) ]

set_get : (xs : Row) (i j : ℕ) (a b : Option Pair) → slice_get (slice_set xs i a) j ≡ Some b → ((j ≢ i) × (slice_get xs j ≡ Some b)) ⊎ ((j ≡ i) × (a ≡ b))
set_get [] i j a b h = cc
set_get (x ∷ xs) zero zero a b h = inr (refl, cc)
set_get (x ∷ xs) zero (suc j) a b h = inl (λ e. absurd (omega arith), h)
set_get (x ∷ xs) (suc i) zero a b h = inl (λ e. absurd (omega arith), h)
set_get (x ∷ xs) (suc i) (suc j) a b h = elim (set_get xs i j a b h) [ inl l ↦ inl (λ e. l.0 (pred j i e), l.1) | inr r ↦ inr (ap suc r.0, r.1) ]

get_push : (xs : Row) (j : ℕ) (a b : Option Pair) → slice_get xs j ≡ Some b → slice_get (xs ++ a ∷ []) j ≡ Some b
get_push [] j a b h = cc
get_push (x ∷ xs) zero a b h = h
get_push (x ∷ xs) (suc j) a b h = get_push xs j a b h

get_last : (xs : Row) (a : Option Pair) → slice_get (xs ++ a ∷ []) (length xs) ≡ Some a
get_last [] a = refl
get_last (x ∷ xs) a = get_last xs a

push_get : (xs : Row) (j : ℕ) (a b : Option Pair) → slice_get (xs ++ a ∷ []) j ≡ Some b → (slice_get xs j ≡ Some b) ⊎ ((j ≡ length xs) × (a ≡ b))
push_get [] zero a b h = inr (refl, cc)
push_get [] (suc j) a b h = cc
push_get (x ∷ xs) zero a b h = inl h
push_get (x ∷ xs) (suc j) a b h = elim (push_get xs j a b h) [ inl l ↦ inl l | inr r ↦ inr (ap suc r.0, r.1) ]

-- what an index is after a write of the value in a slot
pub index_written : (places : List (Value × ℕ)) (slots : Row) (k v w : Value) (s : ℕ) → IsIndexed places slots → slice_get slots s ≡ Some (Some (k, v)) → IsIndexed places (slice_set slots s (Some (k, w)))
index_written places slots k v w s i h = record {
  sound = λ q t e. let r = i.sound q t e in elim (get_set slots s t (Some (k, w)) (Some (q, r.0)) r.1) [ inl l ↦ (r.0, l) | inr m ↦ (let f : slice_get slots s ≡ Some (Some (q, r.0)) = subst (λ n. slice_get slots n ≡ Some (Some (q, r.0))) m.0 r.1 in let g : k ≡ q = slot_key (k, v) (q, r.0) (sym h ∙ f) in (w, m.1 ∙ ap (λ n. Some (Some (n, w))) g)) ];
  whole = λ q u t e. elim (set_get slots s t (Some (k, w)) (Some (q, u)) e) [ inl l ↦ i.whole q u t l.1 | inr m ↦ (let g : k ≡ q = slot_key (k, w) (q, u) (ap Some m.1) in subst (λ n. lookup (value_eq n) places ≡ Some t) g (i.whole k v s h ∙ ap Some (sym m.0))) ];
  counted = i.counted ∙ put_length slots (k, v) (k, w) s h;
}

-- the test of a key by cases: it is the one, or another
same_or : (k q : Value) (b : Bool) → value_eq k q ≡ b → ((k ≡ q) × (value_eq k q ≡ true)) ⊎ ((k ≢ q) × (value_eq k q ≡ false))
same_or k q true e = inl (value_eq_one k q e, e)
same_or k q false e = inr (λ s. true≢false (sym (subst (λ n. value_eq k n ≡ true) s (value_eq_refl k)) ∙ e), e)

-- places after one of them was noted, or forgotten
abbrev AreNoted : Value → Option ℕ → List (Value × ℕ) → List (Value × ℕ) → Type 0
AreNoted k o old new = (q : Value) → lookup (value_eq q) new ≡ (if value_eq k q then o else lookup (value_eq q) old)

noted_same : (k q : Value) (o : Option ℕ) (old new : List (Value × ℕ)) → AreNoted k o old new → value_eq k q ≡ true → lookup (value_eq q) new ≡ o
noted_same k q o old new u e = u q ∙ ap (λ b. if b then o else lookup (value_eq q) old) e

noted_other : (k q : Value) (o : Option ℕ) (old new : List (Value × ℕ)) → AreNoted k o old new → value_eq k q ≡ false → lookup (value_eq q) new ≡ lookup (value_eq q) old
noted_other k q o old new u e = u q ∙ ap (λ b. if b then o else lookup (value_eq q) old) e

-- what it is after a pair with a new key went last
pub index_pushed : (places new : List (Value × ℕ)) (slots : Row) (k v : Value) → IsIndexed places slots → lookup (value_eq k) places ≡ None → AreNoted k (Some (length slots)) places new → length new ≡ length places + 1 → IsIndexed new (slots ++ Some (k, v) ∷ [])
index_pushed places new slots k v i n u c = record {
  sound = λ q s e. elim (same_or k q (value_eq k q) refl) [
    | inl m ↦ (let f : length slots ≡ s = (let a = noted_same k q (Some (length slots)) places new u m.1 in cc) in (v, subst (λ t. slice_get (slots ++ Some (k, v) ∷ []) t ≡ Some (Some (q, v))) f (get_last slots (Some (k, v)) ∙ ap (λ t. Some (Some (t, v))) m.0)))
    | inr o ↦ (let r = i.sound q s (sym (noted_other k q (Some (length slots)) places new u o.1) ∙ e) in (r.0, get_push slots s (Some (k, v)) (Some (q, r.0)) r.1))
  ];
  whole = λ q w s e. elim (push_get slots s (Some (k, v)) (Some (q, w)) e) [
    | inl l ↦ (let a = i.whole q w s l in elim (same_or k q (value_eq k q) refl) [ inl m ↦ (let b = subst (λ t. lookup (value_eq t) places ≡ None) m.0 n in cc) | inr o ↦ noted_other k q (Some (length slots)) places new u o.1 ∙ a ])
    | inr m ↦ (let g : k ≡ q = slot_key (k, v) (q, w) (ap Some m.1) in noted_same k q (Some (length slots)) places new u (subst (λ t. value_eq k t ≡ true) g (value_eq_refl k)) ∙ ap Some (sym m.0))
  ];
  counted = omega (arith, c, i.counted, ap length (filled_push slots (Some (k, v))), length-append (filled slots) ((k, v) ∷ []));
}

-- what it is after a gap came in the place of a pair
pub index_gone : (places new : List (Value × ℕ)) (slots : Row) (k v : Value) (s : ℕ) → IsIndexed places slots → slice_get slots s ≡ Some (Some (k, v)) → AreNoted k None places new → length new + 1 ≡ length places → IsIndexed new (slice_set slots s None)
index_gone places new slots k v s i h u c = record {
  sound = λ q t e. elim (same_or k q (value_eq k q) refl) [
    | inl m ↦ (let a = noted_same k q None places new u m.1 in cc)
    | inr o ↦ (let r = i.sound q t (sym (noted_other k q None places new u o.1) ∙ e) in elim (get_set slots s t None (Some (q, r.0)) r.1) [ inl l ↦ (r.0, l) | inr m ↦ absurd (o.0 (let f : slice_get slots s ≡ Some (Some (q, r.0)) = subst (λ n. slice_get slots n ≡ Some (Some (q, r.0))) m.0 r.1 in slot_key (k, v) (q, r.0) (sym h ∙ f))) ])
  ];
  whole = λ q w t e. elim (set_get slots s t None (Some (q, w)) e) [
    | inl l ↦ (let a = i.whole q w t l.1 in elim (same_or k q (value_eq k q) refl) [ inl m ↦ absurd (l.0 (let b = i.whole k v s h in let d = subst (λ n. lookup (value_eq n) places ≡ Some s) m.0 b in let g : t ≡ s = cc in g)) | inr o ↦ noted_other k q None places new u o.1 ∙ a ])
    | inr m ↦ (let z = m.1 in cc)
  ];
  counted = omega (arith, c, i.counted, gone_length slots (k, v) s h);
}

-- leaving the gaps out
pub filled_filter : (slots : Row) → filled (filter is_some slots) ≡ filled slots
filled_filter [] = refl
filled_filter (None ∷ xs) = filled_filter xs
filled_filter (Some p ∷ xs) = ap (λ r. p ∷ r) (filled_filter xs)

some_of : (o : Option ℕ) → IsSome o → (s : ℕ) × (o ≡ Some s)
some_of None h = absurd (true≢false (sym h))
some_of (Some s) h = (s, refl)

some_by : {X : Type 0} (o : Option X) (x : X) → o ≡ Some x → IsSome o
some_by None x h = cc
some_by (Some y) x h = refl

-- where to begin to note the places anew
pub number_start : (places : List (Value × ℕ)) (slots : Row) → IsIndexed places slots → IsNumbered 0 places (filter is_some slots)
number_start places slots i =
    let f = filled_filter slots in record {
      apart = apart_filled (filter is_some slots) (subst HasDistinctKeys (sym f) (distinct_filled slots (apart_indexed places slots i)));
      stored = λ k h. let s = some_of (lookup (value_eq k) places) h in let r = i.sound k s.0 s.1 in key_place (filter is_some slots) k (subst (λ ps. IsSome (lookup (value_eq k) ps)) (sym f) (key_found slots k r.0 s.0 r.1));
      known = λ k v s h. let r = key_place slots k (subst (λ ps. IsSome (lookup (value_eq k) ps)) f (key_found (filter is_some slots) k v s h)) in some_by (lookup (value_eq k) places) r.0 (i.whole k r.1.0 r.0 r.1.1);
      done = λ k v s l h. absurd (omega arith);
      counted = i.counted ∙ ap length (sym f);
    }

-- one place further, at a pair
pub number_next : (places new : List (Value × ℕ)) (slots : Row) (k v : Value) (s : ℕ) → IsNumbered s places slots → slice_get slots s ≡ Some (Some (k, v)) → AreNoted k (Some s) places new → length new ≡ length places → IsNumbered (s + 1) new slots
number_next places new slots k v s n h u c = record {
  apart = n.apart;
  stored = λ q g. elim (same_or k q (value_eq k q) refl) [ inl m ↦ (s, (v, h ∙ ap (λ t. Some (Some (t, v))) m.0)) | inr o ↦ n.stored q (subst IsSome (noted_other k q (Some s) places new u o.1) g) ];
  known = λ q w t g. elim (same_or k q (value_eq k q) refl) [ inl m ↦ some_by (lookup (value_eq q) new) s (noted_same k q (Some s) places new u m.1) | inr o ↦ subst IsSome (sym (noted_other k q (Some s) places new u o.1)) (n.known q w t g) ];
  done = λ q w t l g. elim (same_or k q (value_eq k q) refl) [
    | inl m ↦ noted_same k q (Some s) places new u m.1 ∙ ap Some (n.apart k v w s t h (subst (λ x. slice_get slots t ≡ Some (Some (x, w))) (sym m.0) g))
    | inr o ↦ (let d : t ≢ s = (λ e. o.0 (let f : slice_get slots s ≡ Some (Some (q, w)) = subst (λ x. slice_get slots x ≡ Some (Some (q, w))) e g in slot_key (k, v) (q, w) (sym h ∙ f))) in noted_other k q (Some s) places new u o.1 ∙ n.done q w t (omega (arith, d)) g)
  ];
  counted = c ∙ n.counted;
}

-- and at a gap
pub number_gap : (places : List (Value × ℕ)) (slots : Row) (s : ℕ) → IsNumbered s places slots → slice_get slots s ≡ Some None → IsNumbered (s + 1) places slots
number_gap places slots s n h = record {
  apart = n.apart;
  stored = n.stored;
  known = n.known;
  done = λ q w t l g. let d : t ≢ s = (λ e. let f : slice_get slots s ≡ Some (Some (q, w)) = subst (λ x. slice_get slots x ≡ Some (Some (q, w))) e g in cc) in n.done q w t (omega (arith, d)) g;
  counted = n.counted;
}

-- and where all are noted
pub number_end : (places : List (Value × ℕ)) (slots : Row) (n : ℕ) → IsNumbered n places slots → length slots ≤ n → IsIndexed places slots
number_end places slots n i h = record {
  sound = λ k s e. let r = i.stored k (some_by (lookup (value_eq k) places) s e) in let b = slice_get_within slots r.0 (Some (k, r.1.0)) r.1.1 in let d = i.done k r.1.0 r.0 (omega (arith, b)) r.1.1 in let f : r.0 ≡ s = cc in subst (IsKeyAt slots k) f r.1;
  whole = λ k v s e. let b = slice_get_within slots s (Some (k, v)) e in i.done k v s (omega (arith, b)) e;
  counted = i.counted;
}

-- the pairs of slots that are all full, by place
filled_within : (slots : Row) → length (filled slots) ≤ length slots
filled_within [] = omega arith
filled_within (None ∷ xs) = omega (arith, filled_within xs)
filled_within (Some p ∷ xs) = omega (arith, filled_within xs)

pub dense_get : (slots : Row) (i : ℕ) (x : Option Pair) → length (filled slots) ≡ length slots → slice_get slots i ≡ Some x → x ≡ slice_get (filled slots) i
dense_get [] i x d h = cc
dense_get (None ∷ xs) i x d h = absurd (omega (arith, filled_within xs, d))
dense_get (Some p ∷ xs) zero x d h = cc
dense_get (Some p ∷ xs) (suc i) x d h = dense_get xs i x (pred (length (filled xs)) (length xs) d) h

-- sweeping: the slot holds nothing dead
clean_slot : (live : ObjId → Bool) (x : Option Pair) → dead_in live x ≡ None → pairs_there live (option_to_list x) ≡ option_to_list x
clean_slot live None h = refl
clean_slot live (Some p) h = by (live_part live p.0) refl h
  where
    by : (o : Option Value) → live_part live p.0 ≡ o → (if is_some o then None else Some p.0) ≡ None → pairs_there live (p ∷ []) ≡ p ∷ []
    by None e g = cc
    by (Some v) e g = ap (λ b. cond (is_some b) (p ∷ []) []) e

there_push : (live : ObjId → Bool) (front : Row) (x : Option Pair) → pairs_there live (filled front) ≡ filled front → pairs_there live (option_to_list x) ≡ option_to_list x → pairs_there live (filled (front ++ x ∷ [])) ≡ filled (front ++ x ∷ [])
there_push live front x h g =
    rw (filled_push front x) (filter-append (λ p. is_some (live_part live p.0)) (filled front) (option_to_list x) ∙ ap (λ r. r ++ pairs_there live (option_to_list x)) h ∙ ap (λ r. filled front ++ r) g)

pub swept_next : (live : ObjId → Bool) (slots : Row) (s : ℕ) (x : Option Pair) → slice_get slots s ≡ Some x → dead_in live x ≡ None → IsSweptTo live s slots → IsSweptTo live (s + 1) slots
swept_next live slots s x h d w =
    subst (λ r. pairs_there live (filled r) ≡ filled r) (sym (take_more slots s x (slice_get_within slots s x h) ∙ ap (λ y. take s slots ++ y ∷ []) (get_or_from_slice_get slots s x x h))) (there_push live (take s slots) x w (clean_slot live x d))

pub swept_gone : (live : ObjId → Bool) (slots : Row) (s : ℕ) → s < length slots → IsSweptTo live s slots → IsSweptTo live (s + 1) (slice_set slots s None)
swept_gone live slots s h w = subst (λ r. pairs_there live (filled r) ≡ filled r) (sym (take_more_set slots s None h)) (there_push live (take s slots) None w refl)

dead_step : (live : ObjId → Bool) (p : Pair) (xs : List Pair) → live_part live p.0 ≡ None → pairs_there live xs ≡ pairs_there live (p ∷ xs)
dead_step live p xs e = sym (ap (λ b. cond (is_some b) (p ∷ pairs_there live xs) (pairs_there live xs)) e)

there_step : (live : ObjId → Bool) (p : Pair) (xs ys : List Pair) → pairs_there live xs ≡ pairs_there live ys → pairs_there live (p ∷ xs) ≡ pairs_there live (p ∷ ys)
there_step live p xs ys e = ap (λ r. cond (is_some (live_part live p.0)) (p ∷ r) r) e

-- a dead pair that goes was not there
pub dead_gone : (live : ObjId → Bool) (slots : Row) (p : Pair) (s : ℕ) → slice_get slots s ≡ Some (Some p) → live_part live p.0 ≡ None → pairs_there live (filled (slice_set slots s None)) ≡ pairs_there live (filled slots)
dead_gone live [] p s h d = cc
dead_gone live (None ∷ xs) p zero h d = cc
dead_gone live (None ∷ xs) p (suc s) h d = dead_gone live xs p s h d
dead_gone live (Some r ∷ xs) p zero h d = let e : p ≡ r = cc in dead_step live r (filled xs) (subst (λ q. live_part live q.0 ≡ None) e d)
dead_gone live (Some r ∷ xs) p (suc s) h d = there_step live r (filled (slice_set xs s None)) (filled xs) (dead_gone live xs p s h d)

-- what a slot with a dead key holds
pub dead_slot : (live : ObjId → Bool) (x : Option Pair) (k : Value) → dead_in live x ≡ Some k → (v : Value) × (x ≡ Some (k, v)) × (live_part live k ≡ None)
dead_slot live None k h = cc
dead_slot live (Some p) k h = by (live_part live p.0) refl h
  where
    by : (o : Option Value) → live_part live p.0 ≡ o → (if is_some o then None else Some p.0) ≡ Some k → (v : Value) × (Some p ≡ Some (k, v)) × (live_part live k ≡ None)
    by None e g = let f : p.0 ≡ k = cc in (p.1, ap (λ q. Some (q, p.1)) f, subst (λ q. live_part live q ≡ None) f e)
    by (Some v) e g = cc

-- the test by which the map finds keys is equality of values
pub lookup_is : (k : Value) (places : List (Value × ℕ)) → lookup ((derived.eq-value).it k) places ≡ lookup (value_eq k) places
lookup_is k places = λ i. lookup (λ v. eq_is k v i) places

pub noted_from : (k : Value) (o : Option ℕ) (old new : List (Value × ℕ)) → ((q : Value) → lookup ((derived.eq-value).it q) new ≡ cond ((derived.eq-value).it k q) o (lookup ((derived.eq-value).it q) old)) → (q : Value) → lookup (value_eq q) new ≡ (if value_eq k q then o else lookup (value_eq q) old)
noted_from k o old new h q = sym (lookup_is q new) ∙ h q ∙ (λ i. cond (eq_is k q i) o (lookup_is q old i))

-- after a new key was noted by a copy of it
pub noted_copy : (k j : Value) (o : Option ℕ) (old new : List (Value × ℕ)) → j ≡ k → ((q : Value) → lookup ((derived.eq-value).it q) new ≡ cond ((derived.eq-value).it j q) o (lookup ((derived.eq-value).it q) old)) → (q : Value) → lookup (value_eq q) new ≡ (if value_eq k q then o else lookup (value_eq q) old)
noted_copy k j o old new e h = subst (λ i. (q : Value) → lookup (value_eq q) new ≡ (if value_eq i q then o else lookup (value_eq q) old)) e (noted_from j o old new h)

pub length_copy : (k j : Value) (o : Option ℕ) (old : List (Value × ℕ)) (n : ℕ) → j ≡ k → lookup (value_eq k) old ≡ None → o ≡ lookup ((derived.eq-value).it j) old → n ≡ length old + (if is_some o then 0 else 1) → n ≡ length old + 1
length_copy k j o old n e h g c = c ∙ ap (λ r. length old + (if is_some r then 0 else 1)) (g ∙ lookup_is j old ∙ ap (λ i. lookup (value_eq i) old) e ∙ h)

-- what stands at a noted place
slot_at : (places : List (Value × ℕ)) (slots : Row) (k : Value) (s : ℕ) (x : Option Pair) → IsIndexed places slots → lookup (value_eq k) places ≡ Some s → x ≡ get_or slots s x → (v : Value) × (slice_get slots s ≡ Some (Some (k, v))) × (x ≡ Some (k, v))
slot_at places slots k s x i e g = let r = i.sound k s e in (r.0, r.1, g ∙ get_or_from_slice_get slots s (Some (k, r.0)) x r.1)

pub find_indexed : (places : List (Value × ℕ)) (slots : Row) (k : Value) (s : ℕ) (x : Option Pair) → IsIndexed places slots → lookup (value_eq k) places ≡ Some s → x ≡ get_or slots s x → option_map (λ p. p.1) x ≡ lookup (value_eq k) (filled slots)
find_indexed places slots k s x i e g =
    let r = slot_at places slots k s x i e g in
    ap (option_map (λ p. p.1)) r.2 ∙ sym (found_at slots k r.0 s r.1 (only_indexed places slots k r.0 s i r.1))

-- a key of a noted place is in a pair
pub known_indexed : (places : List (Value × ℕ)) (slots : Row) (k : Value) (s : ℕ) → IsIndexed places slots → lookup (value_eq k) places ≡ Some s → is_some (lookup (value_eq k) (filled slots)) ≡ true
known_indexed places slots k s i e = let r = i.sound k s e in key_found slots k r.0 s r.1

pub write_indexed : (places : List (Value × ℕ)) (slots : Row) (k v : Value) (s : ℕ) (x y : Option Pair) → IsIndexed places slots → lookup (value_eq k) places ≡ Some s → x ≡ get_or slots s x → y ≡ option_map (λ p. (p.0, v)) x → IsIndexed places (slice_set slots s y)
write_indexed places slots k v s x y i e g w =
    let r = slot_at places slots k s x i e g in
    subst (λ z. IsIndexed places (slice_set slots s z)) (sym (w ∙ ap (option_map (λ p. (p.0, v))) r.2)) (index_written places slots k r.0 v s i r.1)

pub write_filled : (places : List (Value × ℕ)) (slots : Row) (k v : Value) (s : ℕ) (x y : Option Pair) → IsIndexed places slots → lookup (value_eq k) places ≡ Some s → x ≡ get_or slots s x → y ≡ option_map (λ p. (p.0, v)) x → filled (slice_set slots s y) ≡ insert_entry value_eq (filled slots) k v
write_filled places slots k v s x y i e g w =
    let r = slot_at places slots k s x i e g in
    ap (λ z. filled (slice_set slots s z)) (w ∙ ap (option_map (λ p. (p.0, v))) r.2) ∙ put_at slots k r.0 v s r.1 (only_indexed places slots k r.0 s i r.1)

pub last_filled : (old mid new : Row) (k v : Value) → filled mid ≡ filled old → new ≡ mid ++ Some (k, v) ∷ [] → filled new ≡ filled old ++ (k, v) ∷ []
last_filled old mid new k v m e = ap filled e ∙ filled_push mid (Some (k, v)) ∙ ap (λ ps. ps ++ (k, v) ∷ []) m

pub add_indexed : (places noted : List (Value × ℕ)) (slots mid new : Row) (k v : Value) (s : ℕ) → IsIndexed places slots → lookup (value_eq k) places ≡ None → mid ≡ slots → s ≡ length mid → ((q : Value) → lookup (value_eq q) noted ≡ (if value_eq k q then Some s else lookup (value_eq q) places)) → length noted ≡ length places + 1 → new ≡ mid ++ Some (k, v) ∷ [] → IsIndexed noted new
add_indexed places noted slots mid new k v s i n m l u c e =
    subst (IsIndexed noted) (sym (e ∙ ap (λ r. r ++ Some (k, v) ∷ []) m)) (index_pushed places noted slots k v i n (subst (λ t. AreNoted k (Some t) places noted) (l ∙ ap length m) u) c)

pub gone_indexed : (places new : List (Value × ℕ)) (slots : Row) (k : Value) (s : ℕ) → IsIndexed places slots → lookup (value_eq k) places ≡ Some s → ((q : Value) → lookup (value_eq q) new ≡ (if value_eq k q then None else lookup (value_eq q) places)) → length new + 1 ≡ length places → IsIndexed new (slice_set slots s None)
gone_indexed places new slots k s i e u c = let r = i.sound k s e in index_gone places new slots k r.0 s i r.1 u c

pub gone_filled : (places : List (Value × ℕ)) (slots : Row) (k : Value) (s : ℕ) → IsIndexed places slots → lookup (value_eq k) places ≡ Some s → filled (slice_set slots s None) ≡ remove_entry (value_eq k) (filled slots)
gone_filled places slots k s i e = let r = i.sound k s e in gone_at slots k r.0 s r.1 (only_indexed places slots k r.0 s i r.1)

-- the slot of a dead key becomes a gap
pub dead_indexed : (places new : List (Value × ℕ)) (slots : Row) (live : ObjId → Bool) (s : ℕ) (x : Option Pair) (k : Value) (o : Option ℕ) → IsIndexed places slots → s < length slots → x ≡ get_or slots s x → dead_in live x ≡ Some k → o ≡ lookup (value_eq k) places → ((q : Value) → lookup (value_eq q) new ≡ (if value_eq k q then None else lookup (value_eq q) places)) → length new + (if is_some o then 1 else 0) ≡ length places → IsIndexed new (slice_set slots s None)
dead_indexed places new slots live s x k o i b g d f u c =
    let r = dead_slot live x k d in
    let h : slice_get slots s ≡ Some (Some (k, r.0)) = slice_get_read slots (length slots) s x refl b g ∙ ap Some r.1 in
    let w : o ≡ Some s = f ∙ i.whole k r.0 s h in
    index_gone places new slots k r.0 s i h u (subst (λ p. length new + (if is_some p then 1 else 0) ≡ length places) w c)

pub dead_same : (slots : Row) (live : ObjId → Bool) (s : ℕ) (x : Option Pair) (k : Value) → s < length slots → x ≡ get_or slots s x → dead_in live x ≡ Some k → pairs_there live (filled (slice_set slots s None)) ≡ pairs_there live (filled slots)
dead_same slots live s x k b g d =
    let r = dead_slot live x k d in
    dead_gone live slots (k, r.0) s (slice_get_read slots (length slots) s x refl b g ∙ ap Some r.1) r.2

-- the keys that are objects, in slots up to one place further
pub objects_filled : (slots : Row) (i : ℕ) (x : Option Pair) → i < length slots → x ≡ get_or slots i x → objects_in (filled (take (i + 1) slots)) ≡ objects_in (filled (take i slots)) + objects_in (option_to_list x)
unfolding objects_in
objects_filled slots i x h e = ap objects_in (filled_next slots i x h e) ∙ sum_by-append (λ q. cond (is_object q.0) 1 0) (filled (take i slots)) (option_to_list x)

-- the pairs that are there, in slots up to one place further
pub there_filled : (live : ObjId → Bool) (slots : Row) (i : ℕ) (x : Option Pair) → i < length slots → x ≡ get_or slots i x → pairs_there live (filled (take (i + 1) slots)) ≡ pairs_there live (filled (take i slots)) ++ pairs_there live (option_to_list x)
there_filled live slots i x h e = ap (pairs_there live) (filled_next slots i x h e) ∙ filter-append (λ p. is_some (live_part live p.0)) (filled (take i slots)) (option_to_list x)

-- and from a place on
pub there_rest : (live : ObjId → Bool) (slots : Row) (i : ℕ) (x : Option Pair) → i < length slots → x ≡ get_or slots i x → pairs_there live (filled (drop i slots)) ≡ pairs_there live (option_to_list x) ++ pairs_there live (filled (drop (i + 1) slots))
there_rest live slots i x h e = ap (λ r. pairs_there live (filled r)) (drop_more slots i x h ∙ ap (λ y. y ∷ drop (i + 1) slots) (sym e)) ∙ filter-append (λ p. is_some (live_part live p.0)) (option_to_list x) (filled (drop (i + 1) slots))

-- the pairs that were put, from slots up to one place further
pub inserted_filled : (live : ObjId → Bool) (es : List Pair) (slots : Row) (i : ℕ) (x : Option Pair) → i < length slots → x ≡ get_or slots i x → insert_all value_eq es (pairs_there live (filled (take (i + 1) slots))) ≡ insert_all value_eq (insert_all value_eq es (pairs_there live (filled (take i slots)))) (pairs_there live (option_to_list x))
inserted_filled live es slots i x h e = ap (insert_all value_eq es) (there_filled live slots i x h e) ∙ fold-append (λ done p. insert_entry value_eq done p.0 p.1) es (pairs_there live (filled (take i slots))) (pairs_there live (option_to_list x))

-- no more pairs than slots
pub filled_taken : (slots : Row) (i : ℕ) → length (filled (take i slots)) ≤ i
filled_taken slots i = omega (arith, filled_within (take i slots), length-take i slots)

put_first : (live : ObjId → Bool) (p : Pair) (ps : List Pair) (k v : Value) (b c : Bool) → is_some (live_part live p.0) ≡ b → value_eq k p.0 ≡ c → is_some (live_part live k) ≡ true → pairs_there live (insert_entry value_eq ps k v) ≡ insert_entry value_eq (pairs_there live ps) k v → pairs_there live (insert_entry value_eq (p ∷ ps) k v) ≡ insert_entry value_eq (pairs_there live (p ∷ ps)) k v
put_first live p ps k v true true e f h rest =
    ap (λ c. pairs_there live (if c then (p.0, v) ∷ ps else p ∷ insert_entry value_eq ps k v)) f
    ∙ ap (λ b. cond b ((p.0, v) ∷ pairs_there live ps) (pairs_there live ps)) e
    ∙ sym (ap (λ b. insert_entry value_eq (cond b (p ∷ pairs_there live ps) (pairs_there live ps)) k v) e ∙ ap (λ c. if c then (p.0, v) ∷ pairs_there live ps else p ∷ insert_entry value_eq (pairs_there live ps) k v) f)
put_first live p ps k v true false e f h rest =
    ap (λ c. pairs_there live (if c then (p.0, v) ∷ ps else p ∷ insert_entry value_eq ps k v)) f
    ∙ ap (λ b. cond b (p ∷ pairs_there live (insert_entry value_eq ps k v)) (pairs_there live (insert_entry value_eq ps k v))) e
    ∙ ap (λ r. p ∷ r) rest
    ∙ sym (ap (λ b. insert_entry value_eq (cond b (p ∷ pairs_there live ps) (pairs_there live ps)) k v) e ∙ ap (λ c. if c then (p.0, v) ∷ pairs_there live ps else p ∷ insert_entry value_eq (pairs_there live ps) k v) f)
put_first live p ps k v false true e f h rest = let s : k ≡ p.0 = value_eq_one k p.0 f in absurd (true≢false (sym h ∙ ap (λ q. is_some (live_part live q)) s ∙ e))
put_first live p ps k v false false e f h rest =
    ap (λ c. pairs_there live (if c then (p.0, v) ∷ ps else p ∷ insert_entry value_eq ps k v)) f
    ∙ ap (λ b. cond b (p ∷ pairs_there live (insert_entry value_eq ps k v)) (pairs_there live (insert_entry value_eq ps k v))) e
    ∙ rest
    ∙ sym (ap (λ b. insert_entry value_eq (cond b (p ∷ pairs_there live ps) (pairs_there live ps)) k v) e)

-- a put of a key that is no dead object, and a sweep: in either order
pub there_inserted : (live : ObjId → Bool) (ps : List Pair) (k v : Value) → is_some (live_part live k) ≡ true → pairs_there live (insert_entry value_eq ps k v) ≡ insert_entry value_eq (pairs_there live ps) k v
there_inserted live [] k v h = ap (λ b. cond b ((k, v) ∷ []) []) h
there_inserted live (p ∷ ps) k v h = put_first live p ps k v (is_some (live_part live p.0)) (value_eq k p.0) refl refl h (there_inserted live ps k v h)

-- what a value reads as is no dead object
pub read_lives : (live : ObjId → Bool) (v : Value) → is_some (live_part live (as_read live v)) ≡ true
read_lives live (Int n) = refl
read_lives live (Str s) = refl
read_lives live (Arr c) = refl
read_lives live (Map c) = refl
read_lives live (Obj o) = by (live o) refl
  where
    by : (b : Bool) → live o ≡ b → is_some (live_part live (unwrap_or (if b then Some (Obj o) else None) (Int (pos 0)))) ≡ true
    by true e = ap (λ b. is_some (if b then Some (Obj o) else None)) e
    by false e = refl
