-- Closed states stay closed.
use Rattle.std.proofs.Common.{◌≡◌, ◌++◌, ℕ, suc, zero, List, [], ◌∷◌, Option, Some, None, refl, ap, ◌∙◌, sym, subst, inl, inr, slice_get, unwrap_or, length, IsSome, All, option_map, option_to_list}
use Rattle.std.specs.Prelude.{slice_set}
use Rattle.std.specs.List.{flat_map}
use Rattle.std.proofs.lemmas.List.Elements.{All-append, All-cons, All-nil, All-set, All-weaker}
use Rattle.std.proofs.Math.ListN.{length-set}
use Rattle.lp_values.specs.declared.id.CellId.{CellId}
use Rattle.lp_values.specs.declared.value.Value.{Value}
use Rattle.lp_values.specs.declared.value.Value.TheVariants.{Arr, Map}
use Rattle.lp_cells.specs.Cells.{IsThere, KeepsThere, Store, as_items, as_pairs, content_at}
use Rattle.lp_cells.specs.declared.content.Content.{Content}
use Rattle.lp_cells.specs.declared.content.Content.TheVariants.{Array, Mapping}
use Rattle.lp_timers.specs.Timers.{CallOut}
use Rattle.lp_timers.specs.Timing.{Timing}
use Rattle.lp_swapfile.specs.Room.{AreTaken}
use Rattle.lp_swapper.specs.Swap.{extent_of}
use Rattle.lp_world.specs.declared.connections.Waiting.{Waiting}
use Rattle.lp_world.specs.declared.live.Live.{Live}
use Rattle.lp_world.specs.declared.objects.Object.{Object}
use Rattle.lp_world.specs.declared.objects.ObjectState.TheVariants as objects_of
use Rattle.lp_world.specs.Closed.{AreNumbered, IsClosed, IsObjectClosed, object_extents, version_extents}
use Rattle.lp_world.specs.Laws.{CallOutStaysClosed, CellsStayClosed, PlacesStayClosed, VariablesStayClosed, with_call_out}
use Rattle.lp_world.specs.Rows.{object_ticket, own_in, own_of, row_at, shared_of, variables_of, with_value}
use Rattle.lp_world.proofs.Keeping.{get_set, get_set_here, same_or_not}
use Rattle.lp_world.proofs.Numbering.{numbered_more}

some_items : (o : Option Content) → IsSome (as_items o) → IsSome o
some_items None h = cc
some_items (Some x) h = refl

some_pairs : (o : Option Content) → IsSome (as_pairs o) → IsSome o
some_pairs None h = cc
some_pairs (Some x) h = refl

content_there : (old new : Store) (c : CellId) → KeepsThere old new → (o : Option Content) → content_at old c ≡ o → IsSome o → IsSome (content_at new c)
content_there old new c k None e h = cc
content_there old new c k (Some (Array vs)) e h = some_items (content_at new c) (k (Arr c) (subst (λ q. IsSome (as_items q)) (sym e) refl))
content_there old new c k (Some (Mapping ps)) e h = some_pairs (content_at new c) (k (Map c) (subst (λ q. IsSome (as_pairs q)) (sym e) refl))

pub closed_with_cells : CellsStayClosed
closed_with_cells live part h k closed = record {
  clock = h.clock;
  cells = closed;
  objects = λ n o e. let i = h.objects n o e in record {
    version = i.version;
    there = i.there;
    variables = λ vs q. let j = i.variables vs q in (j.0, All-weaker (IsThere live.cells) (IsThere part) k vs j.1);
    shared = All-weaker (λ c. IsSome (content_at live.cells c)) (λ c. IsSome (content_at part c)) (λ c s. content_there live.cells part c k (content_at live.cells c) refl s) (shared_of o.state) i.shared;
    own = i.own;
  };
  apart = h.apart;
  versions = h.versions;
  call_outs = All-weaker (λ (c : CallOut). All (IsThere live.cells) c.arguments) (λ (c : CallOut). All (IsThere part) c.arguments) (λ c a. All-weaker (IsThere live.cells) (IsThere part) k c.arguments a) live.timers.call_outs h.call_outs;
  waiting = All-weaker (λ (x : Waiting). All (IsThere live.cells) x.arguments) (λ (x : Waiting). All (IsThere part) x.arguments) (λ x a. All-weaker (IsThere live.cells) (IsThere part) k x.arguments a) live.connections.waiting h.waiting;
  placed = h.placed;
  numbered = h.numbered;
  room = h.room;
}

extents_set : (xs : List (Option Object)) (n : ℕ) (x y : Option Object) → slice_get xs n ≡ Some x → object_extents y ≡ object_extents x → flat_map object_extents (slice_set xs n y) ≡ flat_map object_extents xs
extents_set [] n x y e q = refl
extents_set (z ∷ xs) zero x y e q =
    let s : x ≡ z = ap (λ o. unwrap_or o x) (sym e) in
    ap (λ l. l ++ flat_map object_extents xs) (q ∙ ap object_extents s)
extents_set (z ∷ xs) (suc n) x y e q = ap (λ l. object_extents z ++ l) (extents_set xs n x y e q)

pub closed_with_variable : VariablesStayClosed
closed_with_variable live o row vs k v h e r t = record {
  clock = h.clock;
  cells = h.cells;
  objects = λ n x g. elim (same_or_not o.0 n) [
    | inl q ↦
        let s : Some (Some new) ≡ Some (Some x) = sym (get_set_here live.objects o.0 (Some new) (Some row) e) ∙ ap (λ n. slice_get (slice_set live.objects o.0 (Some new)) n) q ∙ g in
        let is : new ≡ x = ap (λ o. unwrap_or (unwrap_or o None) new) s in
        subst (IsObjectClosed live.cells live.versions) is new_closed
    | inr d ↦ h.objects n x (sym (get_set live.objects o.0 n (Some new) d) ∙ g)
  ];
  apart = λ n m j i c a b. h.apart n m j i c (ap (λ l. slice_get l j) (sym (own_same n)) ∙ a) (ap (λ l. slice_get l i) (sym (own_same m)) ∙ b);
  versions = h.versions;
  call_outs = h.call_outs;
  waiting = h.waiting;
  placed = h.placed;
  numbered = h.numbered;
  room = subst (λ l. AreTaken (l ++ flat_map version_extents live.versions) live.swapper)
      (sym (extents_set live.objects o.0 (Some row) (Some new) e (sym (ap (λ s. option_to_list (option_map extent_of (object_ticket s))) r)))) h.room;
}
  where
    new : Object
    new = with_value row vs k v

    was : IsObjectClosed live.cells live.versions row
    was = h.objects o.0 row e

    values : (us : List Value) → variables_of (objects_of.Resident (slice_set vs k v)) ≡ Some us → us ≡ slice_set vs k v
    values us q = ap (λ o. unwrap_or o us) (sym q)

    new_closed : IsObjectClosed live.cells live.versions new
    new_closed =
        let i = was.variables vs (ap variables_of r) in
        record {
          version = was.version;
          there = was.there;
          variables = λ us q. let u = sym (values us q) in
              subst (λ l. (length l ≡ was.version.outline.variables) × All (IsThere live.cells) l) u (length-set vs k v ∙ i.0, All-set (IsThere live.cells) vs k v t i.1);
          shared = All-nil (λ c. IsSome (content_at live.cells c));
          own = refl;
        }

    own_same : (n : ℕ) → own_in (row_at (slice_set live.objects o.0 (Some new)) n) ≡ own_in (row_at live.objects n)
    own_same n = elim (same_or_not o.0 n) [
      | inl q ↦
          ap (λ n. own_in (row_at (slice_set live.objects o.0 (Some new)) n)) (sym q)
          ∙ ap (λ o. own_in (unwrap_or o None)) (get_set_here live.objects o.0 (Some new) (Some row) e)
          ∙ sym (ap own_of r) ∙ ap (λ o. own_in (unwrap_or o None)) (sym e) ∙ ap (λ n. own_in (row_at live.objects n)) q
      | inr d ↦ ap (λ o. own_in (unwrap_or o None)) (get_set live.objects o.0 n (Some new) d)
    ]

pub closed_with_places : PlacesStayClosed
closed_with_places live t h p = record {
  clock = h.clock;
  cells = h.cells;
  objects = h.objects;
  apart = h.apart;
  versions = h.versions;
  call_outs = h.call_outs;
  waiting = h.waiting;
  placed = p;
  numbered = h.numbered;
  room = h.room;
}

pub closed_with_timers : (live : Live) (t : Timing) → IsClosed live → All (λ (c : CallOut). All (IsThere live.cells) c.arguments) t.call_outs → AreNumbered t → IsClosed (record live { timers = t })
closed_with_timers live t h a n = record {
  clock = h.clock;
  cells = h.cells;
  objects = h.objects;
  apart = h.apart;
  versions = h.versions;
  call_outs = a;
  waiting = h.waiting;
  placed = h.placed;
  numbered = n;
  room = h.room;
}

pub closed_with_call_out : CallOutStaysClosed
closed_with_call_out live o function due vs h a =
    let c : CallOut = record { number = live.timers.next; object = o; function = function; due = due; arguments = vs } in
    closed_with_timers live (with_call_out live.timers o function due vs) h
    (All-append (λ (x : CallOut). All (IsThere live.cells) x.arguments) live.timers.call_outs (c ∷ []) h.call_outs
    (All-cons (λ (x : CallOut). All (IsThere live.cells) x.arguments) c [] a (All-nil (λ (x : CallOut). All (IsThere live.cells) x.arguments))))
    (numbered_more live.timers (with_call_out live.timers o function due vs) c refl refl refl h.numbered)
