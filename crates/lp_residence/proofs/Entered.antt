-- What came back: the state stands for the same worlds, and is closed.
use Rattle.std.proofs.Common.{◌≡◌, ◌∙◌, ◌++◌, ◌+◌, ℕ, List, [], ◌∷◌, Option, Some, None, IsSome, All, refl, ap, sym, subst, slice_get, unwrap_or, length, length-append, arith, option_map, option_to_list}
use Rattle.std.specs.Prelude.{slice_set}
use Rattle.std.specs.List.{flat_map}
use Rattle.std.proofs.lemmas.List.Elements.{All-nil}
use Rattle.lp_values.specs.declared.id.ObjId.{ObjId}
use Rattle.lp_values.specs.declared.value.Value.{Value}
use Rattle.lp_cells.specs.Cells.{IsThere, Store, content_at}
use Rattle.lp_code.specs.declared.program.RawProgram.{RawProgram}
use Rattle.lp_image.specs.Image.{IsRecord, image}
use Rattle.lp_swapfile.specs.Device.{Bytes}
use Rattle.lp_swapfile.specs.Room.{AreTaken, IsTaken, Room, covers}
use Rattle.lp_swapfile.specs.declared.extent.Extent.{Extent}
use Rattle.lp_swapfile.proofs.TakenLemmas.{covers-append}
use Rattle.lp_swapper.specs.Swap.{IsOutAt, extent_of}
use Rattle.lp_swapper.specs.declared.ticket.Ticket.{Ticket}
use Rattle.lp_language.specs.World.{World}
use Rattle.lp_world.specs.Closed.{IsClosed, extents_of, object_extents, variables_in, version_extents}
use Rattle.lp_world.specs.Rows.{object_ticket, own_of, row_at, row_with_state, state_in}
use Rattle.lp_world.specs.Stands.{IsOut, Stands, VariablesAre}
use Rattle.lp_world.specs.declared.live.Live.{Live}
use Rattle.lp_world.specs.declared.objects.Object.{Object}
use Rattle.lp_world.specs.declared.objects.ObjectState.{ObjectState}
use Rattle.lp_world.specs.declared.objects.ObjectState.TheVariants as objects_of
use Rattle.lp_residence.specs.Entering.{AreTakenWithout, AreValuesOf, CanGiveBack, object_back, room_back}
use Rattle.lp_residence.specs.Owners.{record_of, ticket_of_state}
use Rattle.lp_residence.proofs.Counting.{row_counts, taken_by_counts}
use Rattle.lp_residence.proofs.WentOutLemmas.{stands_in_room}
use Rattle.lp_residence.proofs.RowChanges.{closed_with_row, object_behind, row_there, stands_with_row}

-- Rows

-- the row of an object that is out
pub out_row : (o : Option Object) (t : Ticket) → ticket_of_state (state_in o) ≡ Some t → (row : Object) × (o ≡ Some row) × (object_ticket row.state ≡ Some t)
out_row None t e = cc
out_row (Some row) t e = (row, refl, e)

-- what an object that is out stands for, where its record has no cells of its own
pub out_values : (told : Option Bytes) (part whole : Store) (o : ObjId) (us : List Value) (s : ObjectState) (t : Ticket) → object_ticket s ≡ Some t → own_of s ≡ [] → VariablesAre told part whole o us s
    → IsRecord (record_of o us) × IsOutAt told t (image (record_of o us))
out_values told part whole o us (objects_of.Resident vs) t e n h = cc
out_values told part whole o us (objects_of.Swapped u shared own) t e n h =
    let i : IsOut told part whole o us u shared [] = subst (λ l. IsOut told part whole o us u shared l) n h in
    (i.fits, subst (λ x. IsOutAt told x (image (record_of o us))) (ap (λ y. unwrap_or y u) e) i.out)

-- one extent less is taken, as the counts say
pub fewer_taken : (es fs : List Extent) (r : Room) (t : Ticket) → length es ≡ length fs + 1 → ((i : ℕ) → covers i es ≡ covers i fs + covers i (extent_of t ∷ [])) → AreTaken es r → AreTaken (extent_of t ∷ fs) r
fewer_taken es fs r t l c taken = taken_by_counts es (extent_of t ∷ fs) r (omega (arith, l)) (λ i. let u = c i in omega (arith, u)) taken

-- the extents without that of an object
pub without_object : (live : Live) (o : ObjId) (row : Object) (new : Option Object) (t : Ticket) → IsClosed live → slice_get live.objects o.0 ≡ Some (Some row) → object_ticket row.state ≡ Some t → object_extents new ≡ []
    → AreTaken (extent_of t ∷ extents_of (slice_set live.objects o.0 new) live.versions) live.swapper
without_object live o row new t h e r is =
    let was : object_extents (Some row) ≡ extent_of t ∷ [] = ap (λ k. option_to_list (option_map extent_of k)) r in
    fewer_taken (extents_of live.objects live.versions) (extents_of (slice_set live.objects o.0 new) live.versions) live.swapper t
    (let a = row_counts object_extents length length-append live.objects o.0 (Some row) new e in
    let y = ap (λ l. length l) was in
    let z = ap (λ l. length l) is in
    let p = length-append (flat_map object_extents live.objects) (flat_map version_extents live.versions) in
    let q = length-append (flat_map object_extents (slice_set live.objects o.0 new)) (flat_map version_extents live.versions) in
    omega (arith, a, y, z, p, q))
    (λ i.
    let a = row_counts object_extents (covers i) (covers-append i) live.objects o.0 (Some row) new e in
    let y = ap (covers i) was in
    let z = ap (covers i) is in
    let p = covers-append i (flat_map object_extents live.objects) (flat_map version_extents live.versions) in
    let q = covers-append i (flat_map object_extents (slice_set live.objects o.0 new)) (flat_map version_extents live.versions) in
    omega (arith, a, y, z, p, q))
    h.room

-- the extent of an object that is out can be given back
pub object_can_give_back : (live : Live) (o : ObjId) → IsClosed live → ((ds es : List Extent) (e : Extent) → AreTaken (ds ++ e ∷ es) live.swapper → IsTaken e live.swapper)
    → CanGiveBack (ticket_of_state (state_in (row_at live.objects o.0))) live.swapper
object_can_give_back live o h law = from (ticket_of_state (state_in (row_at live.objects o.0))) refl
  where
    from : (k : Option Ticket) → ticket_of_state (state_in (row_at live.objects o.0)) ≡ k → CanGiveBack k live.swapper
    from None e = tt
    from (Some t) e =
        let r = out_row (row_at live.objects o.0) t e in
        law [] _ (extent_of t) (without_object live o r.0 None t h (row_there live.objects o.0 r.0 r.1) r.2 refl)

-- an object in memory again
abbrev back_object : Object → List Value → Object
back_object row vs = record row { state = objects_of.Resident vs }

pub stands_back : (told : Option Bytes) (programs : List RawProgram) (live : Live) (w : World) (o : ObjId) (vs : List Value) (t : Ticket)
    → IsClosed live → ticket_of_state (state_in (row_at live.objects o.0)) ≡ Some t → ((was : List ℕ) → IsOutAt told t was → AreValuesOf was vs)
    → Stands told programs live w → Stands told programs (object_back live o vs t) w
stands_back told programs live w o vs t c e values h =
    let r = out_row (row_at live.objects o.0) t e in
    let there = row_there live.objects o.0 r.0 r.1 in
    let b = object_behind told programs live w o.0 r.0 h there in
    let was = out_values told live.cells w.cells o b.0.variables r.0.state t r.2 (c.objects o.0 r.0 there).own b.2.variables in
    stands_in_room told programs (record live { objects = slice_set live.objects o.0 (row_with_state (row_at live.objects o.0) (objects_of.Resident vs)) }) w (room_back (Some t) live.swapper)
    (subst (λ x. Stands told programs (record live { objects = slice_set live.objects o.0 (row_with_state x (objects_of.Resident vs)) }) w) (sym r.1)
    (stands_with_row told programs live w o.0 r.0 (back_object r.0 vs) b.0 h there b.1 (record {
      version = b.2.version;
      live = b.2.live;
      living = b.2.living;
      latest = b.2.latest;
      variables = values (image (record_of o b.0.variables)) was.1 o b.0.variables was.0 refl;
    })))

pub closed_back : (live : Live) (o : ObjId) (vs : List Value) (count : ℕ) (t : Ticket)
    → IsClosed live → ticket_of_state (state_in (row_at live.objects o.0)) ≡ Some t
    → ((x : Object) → row_at live.objects o.0 ≡ Some x → count ≡ variables_in (row_at live.versions x.program.0))
    → (length vs ≡ count) × All (IsThere live.cells) vs → AreTakenWithout (Some t) live.swapper (room_back (Some t) live.swapper)
    → IsClosed (object_back live o vs t)
closed_back live o vs count t c e counted fit taken =
    let r = out_row (row_at live.objects o.0) t e in
    let there = row_there live.objects o.0 r.0 r.1 in
    let was = c.objects o.0 r.0 there in
    subst (λ x. IsClosed (record live { objects = slice_set live.objects o.0 (row_with_state x (objects_of.Resident vs)); swapper = room_back (Some t) live.swapper })) (sym r.1)
    (closed_with_row live o.0 r.0 (back_object r.0 vs) (room_back (Some t) live.swapper) c there (record {
      version = was.version;
      there = was.there;
      variables = λ us q. subst (λ l. (length l ≡ was.version.outline.variables) × All (IsThere live.cells) l) (ap (λ k. unwrap_or k us) q)
          (fit.0 ∙ counted r.0 r.1 ∙ ap variables_in was.there, fit.1);
      shared = All-nil (λ c. IsSome (content_at live.cells c));
      own = refl;
    }) (taken _ (without_object live o r.0 (Some (back_object r.0 vs)) t c there r.2 refl)))
