-- Laws of mappings as read.
use Rattle.std.proofs.Common.{◌≡◌, ℕ, List, [], ◌∷◌, Bool, true, false, refl, ap, ◌∙◌, sym, Some, None, cond, arith, Option, length, ◌≤◌, ◌<◌, ◌||◌, nat_lt, if◌then◌else◌, unwrap_or, pos, is_some}
use Rattle.std.proofs.lemmas.List.Sums.{count_by-le-length, length-filter}
use Rattle.std.proofs.lemmas.Bool.{ltb-true}
use Rattle.indexmap.specs.IndexMap.{insert_all}
use Rattle.std.specs.Map.{lookup}
use Rattle.std.specs.Prelude.{filter}
use Rattle.indexmap.specs.IndexMap.{insert_entry}
use Rattle.lp_values.specs.Read.{live_part, as_read, value_eq, same}
use Rattle.lp_values.specs.declared.id.ObjId.{ObjId}
use Rattle.lp_values.specs.declared.value.Value.{Value}
use Rattle.lp_values.specs.declared.value.Value.TheVariants.{Int, Str, Arr, Map, Obj}
use Rattle.lp_values.proofs.ReadLemmas.{not_dead}
use Rattle.lp_cells.specs.Mapping.{has_room_for, pairs_there, pairs_put, value_at_key, IsFullFor}
use Rattle.lp_values.specs.Limits.{max_items}

obj_step : (live : ObjId → Bool) (k : Value) (o : ObjId) (v : Value) (ps : List (Value × Value)) (r : Option Value) (b : Bool) → live o ≡ b → r ≡ lookup (same live k) (filter (λ p. is_some (live_part live p.0)) ps) → cond (value_eq (as_read live k) (Obj o)) (Some v) r ≡ lookup (same live k) (filter (λ p. is_some (live_part live p.0)) ((Obj o, v) ∷ ps))
obj_step live k o v ps r true h e = rw (h, h) (ap (cond (value_eq (as_read live k) (Obj o)) (Some v)) e)
obj_step live k o v ps r false h e = rw (h, not_dead live k o h) e

-- a look-up of the key as read, among all pairs, is the look-up as read among the pairs that are there
pub lookup_read : (live : ObjId → Bool) (k : Value) (ps : List (Value × Value)) → lookup (value_eq (as_read live k)) ps ≡ value_at_key live ps k
lookup_read live k [] = refl
lookup_read live k ((Int n, v) ∷ ps) = simp (lookup_read live k ps)
lookup_read live k ((Str n, v) ∷ ps) = simp (lookup_read live k ps)
lookup_read live k ((Arr n, v) ∷ ps) = simp (lookup_read live k ps)
lookup_read live k ((Map n, v) ∷ ps) = simp (lookup_read live k ps)
lookup_read live k ((Obj o, v) ∷ ps) = obj_step live k o v ps _ (live o) refl (lookup_read live k ps)

-- the same from the value that a key reads as, if it is no dead object
pub find_part : (live : ObjId → Bool) (k v : Value) (ps : List (Value × Value)) → unwrap_or (live_part live k) (Int (pos 0)) ≡ v → lookup (value_eq v) ps ≡ value_at_key live ps k
find_part live k v ps e = ap (λ w. lookup (value_eq w) ps) (sym e) ∙ lookup_read live k ps

-- no more pairs are there than are stored
pub length_there : (live : ObjId → Bool) (ps : List (Value × Value)) → length (pairs_there live ps) ≤ length ps
length_there live ps = rw length-filter (count_by-le-length (λ p. is_some (live_part live p.0)) ps)

room_cases : (o : Option Value) (n : ℕ) → (is_some o || nat_lt n max_items) ≡ true → o ≡ None → n < max_items
room_cases None n h e = ltb-true n max_items h
room_cases (Some v) n h e = cc

no_room_cases : (o : Option Value) (n : ℕ) → (is_some o || nat_lt n max_items) ≡ false → o ≡ None
no_room_cases None n h = refl
no_room_cases (Some v) n h = cc

-- with room, a put is not refused
pub room_not_full : (live : ObjId → Bool) (ps : List (Value × Value)) (k : Value) → has_room_for live ps k ≡ true → ¬ (IsFullFor live ps k)
room_not_full live ps k h f = let m : length ps < max_items = room_cases (value_at_key live ps k) (length ps) h f.0 in let t = length_there live ps in omega (arith, f.1)

-- and writes into the pairs as they are stored
pub put_with_room : (live : ObjId → Bool) (ps : List (Value × Value)) (k v : Value) → has_room_for live ps k ≡ true → pairs_put live ps k v ≡ insert_entry value_eq ps (as_read live k) v
put_with_room live ps k v h = ap (λ b. insert_entry value_eq (if b then ps else pairs_there live ps) (as_read live k) v) h

-- without room it is refused where 10000 pairs are there
pub full_without_room : (live : ObjId → Bool) (ps : List (Value × Value)) (k : Value) → has_room_for live ps k ≡ false → max_items ≤ length (pairs_there live ps) → IsFullFor live ps k
full_without_room live ps k h n = (no_room_cases (value_at_key live ps k) (length ps) h, n)

-- and else writes into the pairs that are there
pub put_without_room : (live : ObjId → Bool) (ps : List (Value × Value)) (k v : Value) → has_room_for live ps k ≡ false → pairs_put live ps k v ≡ insert_entry value_eq (pairs_there live ps) (as_read live k) v
put_without_room live ps k v h = ap (λ b. insert_entry value_eq (if b then ps else pairs_there live ps) (as_read live k) v) h

grows_by : (e : Value × Value) (es more : List (Value × Value)) (v : Value) (b : Bool) → length es ≤ length more → length (e ∷ es) ≤ length (if b then (e.0, v) ∷ es else e ∷ more)
grows_by e es more v true h = omega arith
grows_by e es more v false h = omega (arith, h)

-- a put never makes a mapping shorter
insert_entry_grows : (es : List (Value × Value)) (k v : Value) → length es ≤ length (insert_entry value_eq es k v)
insert_entry_grows [] k v = omega arith
insert_entry_grows (e ∷ es) k v = grows_by e es (insert_entry value_eq es k v) v (value_eq k e.0) (insert_entry_grows es k v)

-- nor do many puts
pub insert_all_grows : (es ps : List (Value × Value)) → length es ≤ length (insert_all value_eq es ps)
insert_all_grows es [] = omega arith
insert_all_grows es (p ∷ ps) = omega (arith, insert_entry_grows es p.0 p.1, insert_all_grows (insert_entry value_eq es p.0 p.1) ps)
