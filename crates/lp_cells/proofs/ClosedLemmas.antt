-- Cells stay closed: what the values in cells name is there.
use Rattle.std.proofs.Common.{◌≡◌, ◌⊎◌, ◌++◌, ℕ, suc, zero, Bool, true, false, List, [], ◌∷◌, Option, Some, None, refl, ap, ◌∙◌, sym, subst, inl, inr, slice_get, unwrap_or, IsSome, is_some, cond, if◌then◌else◌, pos, Result, Ok, Err}
use Rattle.std.specs.Prelude.{All, IfSome, OnErr, OnOk, slice_set}
use Rattle.std.specs.Borrow.{Bor}
use Rattle.std.specs.Map.{lookup, remove_entry}
use Rattle.std.specs.Option.{option_copied}
use Rattle.std.proofs.lemmas.List.Elements.{All-nil, All-cons, All-head, All-tail, All-filter, All-set, All-weaker}
use Rattle.indexmap.specs.IndexMap.{insert_all, insert_entry}
use Rattle.lp_values.specs.Read.{as_read, live_part, same, value_eq}
use Rattle.lp_values.specs.declared.id.CellId.{CellId}
use Rattle.lp_values.specs.declared.id.ObjId.{ObjId}
use Rattle.lp_values.specs.declared.value.Value.{Value}
use Rattle.lp_values.specs.declared.value.Value.TheVariants.{Int, Str, Arr, Map, Obj}
use Rattle.lp_cells.specs.declared.content.Content.{Content}
use Rattle.lp_cells.specs.declared.content.Content.TheVariants.{Array, Mapping}
use Rattle.lp_cells.specs.declared.content.Kind.TheVariants as kind
use Rattle.lp_cells.specs.Cells.{AreThere, IsClosed, IsPairThere, IsSlotThere, IsThere, KeepsThere, Store, as_items, as_pairs, content_at, content_set, item_set, items_at, items_of, kind_of, pairs_at, stored_pairs, with_cell}
use Rattle.lp_cells.specs.Mapping.{IsFullFor, value_at_key, pairs_dropped, pairs_put, pairs_there, has_room_for}
use Rattle.lp_cells.specs.Refusals.{UnlessFull}
use Rattle.lp_cells.specs.Slots.{filled}
use Rattle.lp_cells.specs.declared.fault.CellFault.{CellFault}

-- each cell is still there, of its kind
abbrev pub SameKinds : Store → Store → Type 0
SameKinds old new = (c : CellId) (y : Content) → content_at old c ≡ Some y → kind_of (content_at new c) ≡ kind_of (Some y)

array_kind : (o : Option Content) → kind_of o ≡ kind.Array → IsSome (as_items o)
array_kind (Some (Array vs)) h = refl
array_kind (Some (Mapping ps)) h = cc
array_kind None h = cc

mapping_kind : (o : Option Content) → kind_of o ≡ kind.Mapping → IsSome (as_pairs o)
mapping_kind (Some (Array vs)) h = cc
mapping_kind (Some (Mapping ps)) h = refl
mapping_kind None h = cc

array_there : (old new : Store) (c : CellId) → SameKinds old new → (o : Option Content) → content_at old c ≡ o → IsSome (as_items o) → IsSome (as_items (content_at new c))
array_there old new c k (Some (Array vs)) e h = array_kind (content_at new c) (k c (Array vs) e)
array_there old new c k (Some (Mapping ps)) e h = cc
array_there old new c k None e h = cc

mapping_there : (old new : Store) (c : CellId) → SameKinds old new → (o : Option Content) → content_at old c ≡ o → IsSome (as_pairs o) → IsSome (as_pairs (content_at new c))
mapping_there old new c k (Some (Array vs)) e h = cc
mapping_there old new c k (Some (Mapping ps)) e h = mapping_kind (content_at new c) (k c (Mapping ps) e)
mapping_there old new c k None e h = cc

there_by_kinds : (old new : Store) → SameKinds old new → KeepsThere old new
there_by_kinds old new k (Int n) h = tt
there_by_kinds old new k (Str s) h = tt
there_by_kinds old new k (Arr c) h = array_there old new c k (content_at old c) refl h
there_by_kinds old new k (Map c) h = mapping_there old new c k (content_at old c) refl h
there_by_kinds old new k (Obj o) h = tt

still_there : (old new : Store) (x : Content) → KeepsThere old new → AreThere old x → AreThere new x
still_there old new (Array vs) k h = All-weaker (IsThere old) (IsThere new) k vs h
still_there old new (Mapping ps) k h = All-weaker (IsPairThere old) (IsPairThere new) (λ p q. (k p.0 q.0, k p.1 q.1)) ps h

-- new cells are closed where each content was there before, or names what was there
closed_by : (old new : Store) → KeepsThere old new → IsClosed old → ((c : CellId) (y : Content) → content_at new c ≡ Some y → (content_at old c ≡ Some y) ⊎ (AreThere old y)) → IsClosed new
closed_by old new k h each c y e = elim (each c y e) [ inl was ↦ still_there old new y k (h c y was) | inr there ↦ still_there old new y k there ]

-- what a slot holds, from a look-up that may miss
slot_of : (o : Option (Option Content)) (y : Content) → unwrap_or o None ≡ Some y → o ≡ Some (Some y)
slot_of None y e = cc
slot_of (Some x) y e = ap Some e

get_kept : (xs ys : List (Option Content)) (i : ℕ) (x : Option Content) → slice_get xs i ≡ Some x → slice_get (xs ++ ys) i ≡ Some x
get_kept [] ys i x h = cc
get_kept (y ∷ xs) ys zero x h = h
get_kept (y ∷ xs) ys (suc i) x h = get_kept xs ys i x h

get_new : (xs : List (Option Content)) (x : Option Content) (i : ℕ) (y : Option Content) → slice_get (xs ++ x ∷ []) i ≡ Some y → (slice_get xs i ≡ Some y) ⊎ (x ≡ y)
get_new [] x zero y h = inr (cc)
get_new [] x (suc i) y h = cc
get_new (z ∷ xs) x zero y h = inl h
get_new (z ∷ xs) x (suc i) y h = get_new xs x i y h

kinds_with_cell : (cells : Store) (x : Content) → SameKinds cells (with_cell cells x)
kinds_with_cell cells x c y e = rw (get_kept cells (Some x ∷ []) c.0 (Some y) (slot_of (slice_get cells c.0) y e)) refl

-- what was there is there beside a new cell
pub there_with_cell : (cells : Store) (x : Content) → KeepsThere cells (with_cell cells x)
there_with_cell cells x = there_by_kinds cells (with_cell cells x) (kinds_with_cell cells x)

-- and the cells stay closed, where the new one names what was there
pub closed_with_cell : (cells : Store) (x : Content) → IsClosed cells → AreThere cells x → IsClosed (with_cell cells x)
closed_with_cell cells x h t = closed_by cells (with_cell cells x) (there_with_cell cells x) h (λ c y e. elim (get_new cells (Some x) c.0 (Some y) (slot_of (slice_get (with_cell cells x) c.0) y e)) [ inl was ↦ inl (ap (λ o. unwrap_or o None) was) | inr is ↦ inr (subst (AreThere cells) (let s : x ≡ y = cc in s) t) ])

set_new : (xs : List (Option Content)) (i j : ℕ) (a y : Option Content) → slice_get (slice_set xs i a) j ≡ Some y → (slice_get xs j ≡ Some y) ⊎ (a ≡ y)
set_new [] i j a y h = inl h
set_new (z ∷ xs) zero zero a y h = inr (cc)
set_new (z ∷ xs) zero (suc j) a y h = inl h
set_new (z ∷ xs) (suc i) zero a y h = inl h
set_new (z ∷ xs) (suc i) (suc j) a y h = set_new xs i j a y h

set_kept : (xs : List (Option Content)) (i j : ℕ) (a b : Option Content) → slice_get xs j ≡ Some b → (slice_get (slice_set xs i a) j ≡ Some b) ⊎ ((slice_get (slice_set xs i a) j ≡ Some a) × (slice_get xs i ≡ Some b))
set_kept [] i j a b h = inl h
set_kept (z ∷ xs) zero zero a b h = inr (refl, h)
set_kept (z ∷ xs) zero (suc j) a b h = inl h
set_kept (z ∷ xs) (suc i) zero a b h = inl h
set_kept (z ∷ xs) (suc i) (suc j) a b h = set_kept xs i j a b h

kinds_set : (cells : Store) (c : CellId) (x : Content) → kind_of (content_at cells c) ≡ kind_of (Some x) → SameKinds cells (content_set cells c x)
kinds_set cells c x k d y e = elim (set_kept cells c.0 d.0 (Some x) (Some y) (slot_of (slice_get cells d.0) y e)) [ inl was ↦ rw was refl | inr both ↦ rw both.0 (sym k ∙ ap (λ o. kind_of (unwrap_or o None)) both.1) ]

-- what was there is there where a cell got another content of its kind
pub there_set : (cells : Store) (c : CellId) (x : Content) → kind_of (content_at cells c) ≡ kind_of (Some x) → KeepsThere cells (content_set cells c x)
there_set cells c x k = there_by_kinds cells (content_set cells c x) (kinds_set cells c x k)

-- and the cells stay closed, where that content names what was there
pub closed_set : (cells : Store) (c : CellId) (x : Content) → kind_of (content_at cells c) ≡ kind_of (Some x) → IsClosed cells → AreThere cells x → IsClosed (content_set cells c x)
closed_set cells c x k h t = closed_by cells (content_set cells c x) (there_set cells c x k) h (λ d y e. elim (set_new cells c.0 d.0 (Some x) (Some y) (slot_of (slice_get (content_set cells c x) d.0) y e)) [ inl was ↦ inl (ap (λ o. unwrap_or o None) was) | inr is ↦ inr (subst (AreThere cells) (let s : x ≡ y = cc in s) t) ])

-- what a value reads as is there
pub read_there : (live : ObjId → Bool) (cells : Store) (v : Value) → IsThere cells v → IsThere cells (as_read live v)
read_there live cells (Int n) h = tt
read_there live cells (Str s) h = tt
read_there live cells (Arr c) h = h
read_there live cells (Map c) h = h
read_there live cells (Obj o) h = by (live o)
  where
    by : (b : Bool) → IsThere cells (unwrap_or (if b then Some (Obj o) else None) (Int (pos 0)))
    by true = tt
    by false = tt

inserted : (cells : Store) (p : Value × Value) (ps qs : List (Value × Value)) (v : Value) (b : Bool) → All (IsPairThere cells) (p ∷ ps) → All (IsPairThere cells) qs → IsThere cells v → All (IsPairThere cells) (if b then (p.0, v) ∷ ps else p ∷ qs)
inserted cells p ps qs v true h g j = All-cons (IsPairThere cells) (p.0, v) ps ((All-head (IsPairThere cells) p ps h).0, j) (All-tail (IsPairThere cells) p ps h)
inserted cells p ps qs v false h g j = All-cons (IsPairThere cells) p qs (All-head (IsPairThere cells) p ps h) g

-- what a put leaves is there
pub insert_there : (cells : Store) (ps : List (Value × Value)) (k v : Value) → All (IsPairThere cells) ps → IsThere cells k → IsThere cells v → All (IsPairThere cells) (insert_entry value_eq ps k v)
insert_there cells [] k v h i j = All-cons (IsPairThere cells) (k, v) [] (i, j) (All-nil (IsPairThere cells))
insert_there cells (p ∷ ps) k v h i j = inserted cells p ps (insert_entry value_eq ps k v) v (value_eq k p.0) h (insert_there cells ps k v (All-tail (IsPairThere cells) p ps h) i j) j

-- what a new mapping has is there
pub insert_all_there : (cells : Store) (es ps : List (Value × Value)) → All (IsPairThere cells) es → All (IsPairThere cells) ps → All (IsPairThere cells) (insert_all value_eq es ps)
insert_all_there cells es [] h g = h
insert_all_there cells es (p ∷ ps) h g = let a = All-head (IsPairThere cells) p ps g in insert_all_there cells (insert_entry value_eq es p.0 p.1) ps (insert_there cells es p.0 p.1 h a.0 a.1) (All-tail (IsPairThere cells) p ps g)

removed : (cells : Store) (p : Value × Value) (ps qs : List (Value × Value)) (b : Bool) → All (IsPairThere cells) (p ∷ ps) → All (IsPairThere cells) qs → All (IsPairThere cells) (cond b ps (p ∷ qs))
removed cells p ps qs true h g = All-tail (IsPairThere cells) p ps h
removed cells p ps qs false h g = All-cons (IsPairThere cells) p qs (All-head (IsPairThere cells) p ps h) g

-- what a drop leaves is there
pub remove_there : (cells : Store) (test : Value → Bool) (ps : List (Value × Value)) → All (IsPairThere cells) ps → All (IsPairThere cells) (remove_entry test ps)
remove_there cells test [] h = h
remove_there cells test (p ∷ ps) h = removed cells p ps (remove_entry test ps) (test p.0) h (remove_there cells test ps (All-tail (IsPairThere cells) p ps h))

chosen : (cells : Store) (live : ObjId → Bool) (ps : List (Value × Value)) (b : Bool) → All (IsPairThere cells) ps → All (IsPairThere cells) (if b then ps else pairs_there live ps)
chosen cells live ps true h = h
chosen cells live ps false h = All-filter (λ p. is_some (live_part live p.0)) (IsPairThere cells) ps h

-- what a put into a mapping leaves is there
pub put_there : (live : ObjId → Bool) (cells : Store) (ps : List (Value × Value)) (k v : Value) → All (IsPairThere cells) ps → IsThere cells k → IsThere cells v → All (IsPairThere cells) (pairs_put live ps k v)
put_there live cells ps k v h i j = insert_there cells (if has_room_for live ps k then ps else pairs_there live ps) (as_read live k) v (chosen cells live ps (has_room_for live ps k) h) (read_there live cells k i) j

items_cases : (cells : Store) (c : CellId) → IsClosed cells → (o : Option Content) → content_at cells c ≡ o → All (IsThere cells) (unwrap_or (as_items o) [])
items_cases cells c h (Some (Array vs)) e = h c (Array vs) e
items_cases cells c h (Some (Mapping ps)) e = All-nil (IsThere cells)
items_cases cells c h None e = All-nil (IsThere cells)

-- the items of an array of closed cells are there
pub items_there : (cells : Store) (c : CellId) → IsClosed cells → All (IsThere cells) (items_of cells c)
items_there cells c h = items_cases cells c h (content_at cells c) refl

pairs_cases : (cells : Store) (c : CellId) → IsClosed cells → (o : Option Content) → content_at cells c ≡ o → All (IsPairThere cells) (unwrap_or (as_pairs o) [])
pairs_cases cells c h (Some (Array vs)) e = All-nil (IsPairThere cells)
pairs_cases cells c h (Some (Mapping ps)) e = h c (Mapping ps) e
pairs_cases cells c h None e = All-nil (IsPairThere cells)

-- and the pairs of a mapping
pub stored_there : (cells : Store) (c : CellId) → IsClosed cells → All (IsPairThere cells) (stored_pairs cells c)
stored_there cells c h = pairs_cases cells c h (content_at cells c) refl

array_at : (o : Option Content) → IsSome (as_items o) → kind_of o ≡ kind.Array
array_at (Some (Array vs)) h = refl
array_at (Some (Mapping ps)) h = cc
array_at None h = cc

mapping_at : (o : Option Content) → IsSome (as_pairs o) → kind_of o ≡ kind.Mapping
mapping_at (Some (Array vs)) h = cc
mapping_at (Some (Mapping ps)) h = refl
mapping_at None h = cc

-- a write into an array
pub there_item_set : (cells : Store) (c : CellId) (i : ℕ) (v : Value) → IsSome (items_at cells c) → KeepsThere cells (item_set cells c i v)
there_item_set cells c i v s = there_set cells c (Array (slice_set (items_of cells c) i v)) (array_at (content_at cells c) s)

pub closed_item_set : (cells : Store) (c : CellId) (i : ℕ) (v : Value) → IsSome (items_at cells c) → IsClosed cells → IsThere cells v → IsClosed (item_set cells c i v)
closed_item_set cells c i v s h j = closed_set cells c (Array (slice_set (items_of cells c) i v)) (array_at (content_at cells c) s) h (All-set (IsThere cells) (items_of cells c) i v j (items_there cells c h))

-- a change of a mapping's pairs
pub there_pairs_set : (cells : Store) (c : CellId) (ps : List (Value × Value)) → IsSome (pairs_at cells c) → KeepsThere cells (content_set cells c (Mapping ps))
there_pairs_set cells c ps s = there_set cells c (Mapping ps) (mapping_at (content_at cells c) s)

pub closed_pairs_set : (cells : Store) (c : CellId) (ps : List (Value × Value)) → IsSome (pairs_at cells c) → IsClosed cells → All (IsPairThere cells) ps → IsClosed (content_set cells c (Mapping ps))
closed_pairs_set cells c ps s h g = closed_set cells c (Mapping ps) (mapping_at (content_at cells c) s) h g

-- a put
pub closed_put : (live : ObjId → Bool) (cells : Store) (c : CellId) (k v : Value) → IsSome (pairs_at cells c) → IsClosed cells → IsThere cells k → IsThere cells v → IsClosed (content_set cells c (Mapping (pairs_put live (stored_pairs cells c) k v)))
closed_put live cells c k v s h i j = closed_pairs_set cells c (pairs_put live (stored_pairs cells c) k v) s h (put_there live cells (stored_pairs cells c) k v (stored_there cells c h) i j)

-- a drop
pub closed_drop : (live : ObjId → Bool) (cells : Store) (c : CellId) (k : Value) → IsSome (pairs_at cells c) → IsClosed cells → IsClosed (content_set cells c (Mapping (pairs_dropped live (stored_pairs cells c) k)))
closed_drop live cells c k s h = closed_pairs_set cells c (pairs_dropped live (stored_pairs cells c) k) s h (remove_there cells (value_eq (as_read live k)) (stored_pairs cells c) (stored_there cells c h))

-- whatever a put answers, what was there is there
pub there_after_put : (live : ObjId → Bool) (cells new : Store) (c : CellId) (k v : Value) (r : Result (Unit {0}) CellFault) → IsSome (pairs_at cells c) → UnlessFull (IsFullFor live (stored_pairs cells c) k) (λ _. new ≡ content_set cells c (Mapping (pairs_put live (stored_pairs cells c) k v))) (new ≡ cells) r → KeepsThere cells new
there_after_put live cells new c k v (Ok u) s h = subst (KeepsThere cells) (sym h.1) (there_pairs_set cells c (pairs_put live (stored_pairs cells c) k v) s)
there_after_put live cells new c k v (Err f) s h = subst (KeepsThere cells) (sym h.1) (λ w t. t)

-- and the cells are closed
pub closed_after_put : (live : ObjId → Bool) (cells new : Store) (c : CellId) (k v : Value) (r : Result (Unit {0}) CellFault) → IsSome (pairs_at cells c) → UnlessFull (IsFullFor live (stored_pairs cells c) k) (λ _. new ≡ content_set cells c (Mapping (pairs_put live (stored_pairs cells c) k v))) (new ≡ cells) r → IsClosed cells → IsThere cells k → IsThere cells v → IsClosed new
closed_after_put live cells new c k v (Ok u) s h closed i j = subst IsClosed (sym h.1) (closed_put live cells c k v s closed i j)
closed_after_put live cells new c k v (Err f) s h closed i j = subst IsClosed (sym h.1) closed

-- whatever a write into an array answers, the cells are closed
pub closed_after_set : (cells new : Store) (c : CellId) (i : ℕ) (v : Value) (r : Result (Unit {0}) CellFault) → IsSome (items_at cells c) → OnOk r (new ≡ item_set cells c i v) → OnErr r (new ≡ cells) → IsClosed cells → IsThere cells v → IsClosed new
closed_after_set cells new c i v (Ok u) s h e closed j = subst IsClosed (sym h) (closed_item_set cells c i v s closed j)
closed_after_set cells new c i v (Err f) s h e closed j = subst IsClosed (sym e) closed

found_step : (cells : Store) (p : Value × Value) (r : Option Value) (b : Bool) → IsPairThere cells p → IfSome r (IsThere cells) → IfSome (cond b (Some p.1) r) (IsThere cells)
found_step cells p r true h i = h.1
found_step cells p r false h i = i

found_in : (cells : Store) (test : Value → Bool) (ps : List (Value × Value)) → All (IsPairThere cells) ps → IfSome (lookup test ps) (IsThere cells)
found_in cells test [] h = tt
found_in cells test (p ∷ ps) h = found_step cells p (lookup test ps) (test p.0) (All-head (IsPairThere cells) p ps h) (found_in cells test ps (All-tail (IsPairThere cells) p ps h))

borrowed_there : (cells : Store) (o : Option (Bor Value)) (l : Option Value) → option_copied o ≡ l → IfSome l (IsThere cells) → IfSome o (λ v. IsThere cells v.now)
borrowed_there cells None l e h = tt
borrowed_there cells (Some v) l e h = let t : IfSome (option_copied (Some v)) (IsThere cells) = subst (λ r. IfSome r (IsThere cells)) (sym e) h in t

-- the value that a look-up finds is there
pub value_there : (live : ObjId → Bool) (cells : Store) (o : Option (Bor Value)) (ps : List (Value × Value)) (k : Value) → option_copied o ≡ value_at_key live ps k → All (IsPairThere cells) ps → IfSome o (λ v. IsThere cells v.now)
value_there live cells o ps k e h = borrowed_there cells o (value_at_key live ps k) e (found_in cells (same live k) (pairs_there live ps) (All-filter (λ p. is_some (live_part live p.0)) (IsPairThere cells) ps h))

-- the pairs of a mapping that are there are there in their slots
pub slots_there : (cells : Store) (slots : List (Option (Value × Value))) → All (IsPairThere cells) (filled slots) → All (IsSlotThere cells) slots
slots_there cells [] h = All-nil (IsSlotThere cells)
slots_there cells (None ∷ xs) h = All-cons (IsSlotThere cells) None xs tt (slots_there cells xs h)
slots_there cells (Some p ∷ xs) h = All-cons (IsSlotThere cells) (Some p) xs (All-head (IsPairThere cells) p (filled xs) h) (slots_there cells xs (All-tail (IsPairThere cells) p (filled xs) h))
