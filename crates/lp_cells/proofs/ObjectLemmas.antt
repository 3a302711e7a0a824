-- How many keys of a mapping are objects.
use Rattle.std.proofs.Common.{◌≡◌, ℕ, ◌+◌, ◌≤◌, List, [], ◌∷◌, Bool, true, false, refl, ap, sym, Some, cond, arith, length, if◌then◌else◌, is_some, not, ◌∙◌}
use Rattle.std.specs.Map.{lookup, remove_entry}
use Rattle.std.proofs.lemmas.List.Sums.{count_by-le-length, sum_by-cons}
use Rattle.indexmap.specs.IndexMap.{insert_entry}
use Rattle.lp_values.specs.Read.{value_eq}
use Rattle.lp_values.specs.declared.id.ObjId.{ObjId}
use Rattle.lp_values.specs.declared.value.Value.{Value}
use Rattle.lp_values.specs.declared.value.Value.TheVariants.{Int, Str, Arr, Map, Obj}
use Rattle.lp_values.proofs.ReadLemmas.{value_eq_one}
use Rattle.lp_cells.specs.Mapping.{is_object, objects_in, pairs_there}

-- one, if a value is an object
abbrev one_of : Value → ℕ
one_of k = cond (is_object k) 1 0

-- no pairs, no objects
pub objects_none : objects_in [] ≡ 0
unfolding objects_in
objects_none = refl

objects_step : (p : Value × Value) (ps : List (Value × Value)) → objects_in (p ∷ ps) ≡ one_of p.0 + objects_in ps
unfolding objects_in
objects_step p ps = sum_by-cons (λ q. one_of q.0) p ps

-- where no key is an object, all pairs are there
there_without_objects : (live : ObjId → Bool) (ps : List (Value × Value)) → objects_in ps ≡ 0 → pairs_there live ps ≡ ps
unfolding objects_in
there_without_objects live [] h = refl
there_without_objects live ((Int n, v) ∷ ps) h = ap (λ r. (Int n, v) ∷ r) (there_without_objects live ps h)
there_without_objects live ((Str n, v) ∷ ps) h = ap (λ r. (Str n, v) ∷ r) (there_without_objects live ps h)
there_without_objects live ((Arr n, v) ∷ ps) h = ap (λ r. (Arr n, v) ∷ r) (there_without_objects live ps h)
there_without_objects live ((Map n, v) ∷ ps) h = ap (λ r. (Map n, v) ∷ r) (there_without_objects live ps h)
there_without_objects live ((Obj o, v) ∷ ps) h = absurd (omega (arith, objects_step (Obj o, v) ps, h))

-- so that their number is the stored length
pub length_without_objects : (live : ObjId → Bool) (ps : List (Value × Value)) → objects_in ps ≡ 0 → length ps ≡ length (pairs_there live ps)
length_without_objects live ps h = ap length (sym (there_without_objects live ps h))

-- no more keys are objects than pairs are stored
pub objects_within : (ps : List (Value × Value)) → objects_in ps ≤ length ps
unfolding objects_in
objects_within ps = count_by-le-length (λ p. is_object p.0) ps

inserted : (ps qs : List (Value × Value)) (k v : Value) (p : Value × Value) (b : Bool) → objects_in qs ≡ objects_in ps + cond (is_some (lookup (value_eq k) ps)) 0 (one_of k) → objects_in (if b then (p.0, v) ∷ ps else p ∷ qs) ≡ objects_in (p ∷ ps) + cond (is_some (cond b (Some p.1) (lookup (value_eq k) ps))) 0 (one_of k)
inserted ps qs k v p true e = omega (arith, objects_step (p.0, v) ps, objects_step p ps)
inserted ps qs k v p false e = omega (arith, objects_step p qs, objects_step p ps)

-- a put adds one for a new key that is an object
objects_inserted : (ps : List (Value × Value)) (k v : Value) → objects_in (insert_entry value_eq ps k v) ≡ objects_in ps + cond (is_some (lookup (value_eq k) ps)) 0 (one_of k)
objects_inserted [] k v = omega (arith, objects_step (k, v) [], objects_none)
objects_inserted (p ∷ ps) k v = inserted ps (insert_entry value_eq ps k v) k v p (value_eq k p.0) (objects_inserted ps k v)

removed : (ps qs : List (Value × Value)) (k : Value) (p : Value × Value) (b : Bool) → (b ≡ true → k ≡ p.0) → objects_in qs + cond (is_some (lookup (value_eq k) ps)) (one_of k) 0 ≡ objects_in ps → objects_in (cond b ps (p ∷ qs)) + cond (is_some (cond b (Some p.1) (lookup (value_eq k) ps))) (one_of k) 0 ≡ objects_in (p ∷ ps)
removed ps qs k p true h e = let one : one_of k ≡ one_of p.0 = ap one_of (h refl) in omega (arith, objects_step p ps)
removed ps qs k p false h e = omega (arith, objects_step p qs, objects_step p ps)

-- a drop takes one off where the key was stored and is an object
objects_removed : (ps : List (Value × Value)) (k : Value) → objects_in (remove_entry (value_eq k) ps) + cond (is_some (lookup (value_eq k) ps)) (one_of k) 0 ≡ objects_in ps
objects_removed [] k = omega arith
objects_removed (p ∷ ps) k = removed ps (remove_entry (value_eq k) ps) k p (value_eq k p.0) (value_eq_one k p.0) (objects_removed ps k)

turned : (b : Bool) (m : ℕ) → cond (not b) m 0 ≡ cond b 0 m
turned true m = refl
turned false m = refl

-- the count of the keys that are objects, after a put: one more for a new key that is an object
pub count_inserted : (n : ℕ) (ps qs : List (Value × Value)) (k v : Value) (is_new object : Bool) → n ≡ objects_in ps → is_new ≡ not (is_some (lookup (value_eq k) ps)) → qs ≡ insert_entry value_eq ps k v → object ≡ is_object k → n + cond is_new (cond object 1 0) 0 ≡ objects_in qs
count_inserted n ps qs k v is_new object counted new after is =
    let put : objects_in qs ≡ objects_in ps + cond (is_some (lookup (value_eq k) ps)) 0 (one_of k) = ap objects_in after ∙ objects_inserted ps k v in
    let one : cond object 1 0 ≡ one_of k = ap (λ b. cond b 1 0) is in
    let turn : cond is_new (cond object 1 0) 0 ≡ cond (is_some (lookup (value_eq k) ps)) 0 (one_of k) = ap (λ b. cond b (cond object 1 0) 0) new ∙ turned (is_some (lookup (value_eq k) ps)) (cond object 1 0) ∙ ap (cond (is_some (lookup (value_eq k) ps)) 0) one in
    omega arith

-- and after a drop: one less for a stored key that is an object
pub count_removed : (n : ℕ) (ps qs : List (Value × Value)) (k : Value) (was_stored object : Bool) → n ≡ objects_in ps → was_stored ≡ is_some (lookup (value_eq k) ps) → qs ≡ remove_entry (value_eq k) ps → object ≡ is_object k → objects_in qs + cond was_stored (cond object 1 0) 0 ≡ n
count_removed n ps qs k was_stored object counted found after is =
    let one : cond object 1 0 ≡ one_of k = ap (λ b. cond b 1 0) is in
    let left : objects_in qs ≡ objects_in (remove_entry (value_eq k) ps) = ap objects_in after in
    let turn : cond was_stored (cond object 1 0) 0 ≡ cond (is_some (lookup (value_eq k) ps)) (one_of k) 0 = ap (λ b. cond b (cond object 1 0) 0) found ∙ ap (λ m. cond (is_some (lookup (value_eq k) ps)) m 0) one in
    let drop = objects_removed ps k in
    omega arith
