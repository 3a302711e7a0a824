-- What was put out: the state stands for the same worlds, and is closed.
use Rattle.std.proofs.Common.{◌≡◌, ◌++◌, ◌+◌, ℕ, List, [], ◌∷◌, Option, Some, None, Result, Ok, Err, IsSome, All, refl, ap, sym, subst, slice_get, unwrap_or, length, length-append, append-nil, arith, option_map, option_to_list, rules}
use Rattle.std.specs.Prelude.{slice_set}
use Rattle.std.specs.List.{flat_map}
use Rattle.std.specs.declared.alloc.AllocError.{AllocError}
use Rattle.std.proofs.lemmas.List.Elements.{All-head, All-nil, All-tail}
use Rattle.lp_values.specs.declared.id.CellId.{CellId}
use Rattle.lp_values.specs.declared.id.ObjId.{ObjId}
use Rattle.lp_values.specs.declared.value.Value.{Value}
use Rattle.lp_values.specs.declared.value.Value.TheVariants.{Int, Str, Arr, Map, Obj}
use Rattle.lp_cells.specs.Cells.{IsThere, Store, as_items, as_pairs, content_at}
use Rattle.lp_cells.specs.declared.content.Content.{Content}
use Rattle.lp_code.specs.declared.program.RawProgram.{RawProgram}
use Rattle.lp_encoding.specs.Programs.{IsEncoding}
use Rattle.lp_image.specs.Image.{IsRecord, image}
use Rattle.lp_swapfile.specs.Device.{AreSameOutside, Bytes, HoldsWhereTold, IsTold}
use Rattle.lp_swapfile.specs.Room.{AreTaken, Room, after_take, covers, place_for}
use Rattle.lp_swapfile.specs.declared.extent.Extent.{Extent}
use Rattle.lp_swapfile.proofs.TakenLemmas.{covers-append, taken-more}
use Rattle.lp_swapper.specs.Swap.{IsHeld, IsOutAt, IsTicketOf, extent_of}
use Rattle.lp_swapper.specs.declared.ticket.Ticket.{Ticket}
use Rattle.lp_language.specs.World.{World}
use Rattle.lp_world.specs.Closed.{IsClosed, extents_of, object_extents, version_extents}
use Rattle.lp_world.specs.Records.{shared_in}
use Rattle.lp_world.specs.Rows.{object_ticket, program_ticket, row_at, variables_at, variables_in, variables_of, version_state, version_with_state}
use Rattle.lp_world.specs.Stands.{IsOwn, ProgramIs, Stands}
use Rattle.lp_world.specs.declared.live.Live.{Live}
use Rattle.lp_world.specs.declared.objects.Object.{Object}
use Rattle.lp_world.specs.declared.objects.ObjectState.{ObjectState}
use Rattle.lp_world.specs.declared.objects.ObjectState.TheVariants as objects_of
use Rattle.lp_world.specs.declared.versions.ProgramState.{ProgramState}
use Rattle.lp_world.specs.declared.versions.ProgramState.TheVariants as programs_of
use Rattle.lp_world.specs.declared.versions.Version.{Version}
use Rattle.lp_world.proofs.Keeping.{resident_same}
use Rattle.lp_residence.specs.Owners.{cells_named, gone, out_row, program_image, program_of, record_of, with_room}
use Rattle.lp_residence.specs.Puts.{AreTakenStill, IsPut, IsWrittenFree, WentOut}
use Rattle.lp_residence.specs.declared.owner.Owner.{Owner}
use Rattle.lp_residence.specs.declared.owner.Owner.TheVariants as owners
use Rattle.lp_residence.specs.declared.answers.PutOut.{PutOut}
use Rattle.lp_residence.specs.declared.answers.PutOut.TheVariants as puts
use Rattle.lp_residence.proofs.Counting.{row_counts, taken_by_counts}
use Rattle.lp_residence.proofs.Filing.{stands_still}
use Rattle.lp_residence.proofs.RowChanges.{closed_with_row, object_behind, row_there, stands_with_row}
use Rattle.lp_residence.proofs.VersionChanges.{closed_with_version, stands_with_version}

-- the room is no part of what a state stands for
pub stands_in_room : (told : Option Bytes) (programs : List RawProgram) (live : Live) (w : World) (r : Room) → Stands told programs live w → Stands told programs (with_room live r) w
stands_in_room told programs live w r h = record { cells = h.cells; objects = h.objects; names = h.names; versions = h.versions; kept = h.kept; rest = h.rest }

told_still : (old new : Option Bytes) (p n : ℕ) → AreSameOutside p n old new → IsTold old → IsTold new
told_still None None p n s t = t
told_still None (Some g) p n s t = absurd s
told_still (Some f) None p n s t = absurd s
told_still (Some f) (Some g) p n s t = tt

held_where_told : (told : Option Bytes) (place : ℕ) (bytes : List ℕ) → IsTold told → HoldsWhereTold told place bytes → IsHeld told place bytes
held_where_told None place bytes t h = absurd t
held_where_told (Some f) place bytes t h = h

out_at : (told : Option Bytes) (room : Room) (t : Ticket) (bytes : List ℕ) → IsTold told → IsTicketOf bytes room t → HoldsWhereTold told t.place bytes → IsOutAt told t bytes
out_at told room t bytes is k h = record { len = sym k.len; digest = sym k.digest; held = held_where_told told t.place bytes is h }

-- Objects

-- the row of an object in memory
pub resident_row : (o : Option Object) (vs : List Value) → variables_in o ≡ Some vs → (row : Object) × (o ≡ Some row) × (row.state ≡ objects_of.Resident vs)
resident_row None vs e = cc
resident_row (Some row) vs e = (row, refl, resident_of row.state vs e)
  where
    resident_of : (s : ObjectState) (vs : List Value) → variables_of s ≡ Some vs → s ≡ objects_of.Resident vs
    resident_of (objects_of.Resident us) vs e = ap (λ o. objects_of.Resident (unwrap_or o us)) e
    resident_of (objects_of.Swapped t shared own) vs e = cc

-- an object that goes out
abbrev out_object : Object → List Value → Ticket → Object
out_object row vs t = record row { state = objects_of.Swapped t (cells_named vs) [] }

out_row_is : (r : Option Object) (row : Object) (o : Option (List Value)) (vs : List Value) (t : Ticket) → r ≡ Some row → o ≡ Some vs → out_row r o t ≡ Some (out_object row vs t)
out_row_is r row o vs t e f = rw (e, f) refl

stands_out_object : (told : Option Bytes) (programs : List RawProgram) (live : Live) (w : World) (o : ObjId) (row : Object) (vs : List Value) (t : Ticket)
    → Stands told programs live w → slice_get live.objects o.0 ≡ Some (Some row) → row.state ≡ objects_of.Resident vs
    → IsRecord (record_of o vs) → IsOutAt told t (image (record_of o vs))
    → Stands told programs (record live { objects = slice_set live.objects o.0 (Some (out_object row vs t)) }) w
stands_out_object told programs live w o row vs t h e r fits out =
    let b = object_behind told programs live w o.0 row h e in
    let same : vs ≡ b.0.variables = resident_same told live.cells w.cells o vs b.0.variables row.state r b.2.variables in
    stands_with_row told programs live w o.0 row (out_object row vs t) b.0 h e b.1 (record {
      version = b.2.version;
      live = b.2.live;
      living = b.2.living;
      latest = b.2.latest;
      variables = record {
        fits = subst (λ l. IsRecord (record_of o l)) same fits;
        out = subst (λ l. IsOutAt told t (image (record_of o l))) same out;
        named = ap (λ l. cells_named l) same;
        kept = All-nil (IsOwn live.cells w.cells);
      };
    })

-- the cells that values name are there where the values are
some_there : (store : Store) (o : Option Content) → IsSome (as_items o) → IsSome o
some_there store None h = cc
some_there store (Some x) h = refl

some_pairs_there : (store : Store) (o : Option Content) → IsSome (as_pairs o) → IsSome o
some_pairs_there store None h = cc
some_pairs_there store (Some x) h = refl

all_one : {A : Type 0} (P : A → Type 0) (x : A) (xs : List A) → P x → All P xs → All P (x ∷ xs)
all_one P x xs p ps = search (rules, p, ps)

named_by : (store : Store) (v : Value) (cs : List CellId) → IsThere store v → All (λ c. IsSome (content_at store c)) cs → All (λ c. IsSome (content_at store c)) (shared_in [] v ++ cs)
named_by store (Int n) cs t h = h
named_by store (Str s) cs t h = h
named_by store (Arr c) cs t h = all_one (λ c. IsSome (content_at store c)) c cs (some_there store (content_at store c) t) h
named_by store (Map c) cs t h = all_one (λ c. IsSome (content_at store c)) c cs (some_pairs_there store (content_at store c) t) h
named_by store (Obj o) cs t h = h

named_by_all : (store : Store) (vs : List Value) → All (IsThere store) vs → All (λ c. IsSome (content_at store c)) (flat_map (shared_in []) vs)
named_by_all store [] h = All-nil (λ c. IsSome (content_at store c))
named_by_all store (v ∷ vs) h = named_by store v (flat_map (shared_in []) vs) (All-head (IsThere store) v vs h) (named_by_all store vs (All-tail (IsThere store) v vs h))

named_there : (store : Store) (vs : List Value) → All (IsThere store) vs → All (λ c. IsSome (content_at store c)) (cells_named vs)
named_there store vs h = subst (All (λ c. IsSome (content_at store c))) (sym (append-nil (flat_map (shared_in []) vs))) (named_by_all store vs h)

-- one extent more is taken
more_taken : (es fs : List Extent) (bytes : List ℕ) (r : Room) (t : Ticket) → IsTicketOf bytes r t → length fs ≡ length es + 1 → ((i : ℕ) → covers i fs ≡ covers i es + covers i (extent_of t ∷ [])) → AreTaken es r → AreTaken fs (after_take (length bytes) r)
more_taken es fs bytes r t k l c taken =
    let e : extent_of t ≡ record { place = place_for (length bytes) r; len = length bytes } = rw (k.place, k.len) refl in
    taken_by_counts (extent_of t ∷ es) fs (after_take (length bytes) r) (omega (arith, l)) (λ i. let u = c i in omega (arith, u))
    (subst (λ x. AreTaken (x ∷ es) (after_take (length bytes) r)) (sym e) (taken-more (length bytes) es r taken))

closed_out_object : (live : Live) (o : ObjId) (row : Object) (vs : List Value) (bytes : List ℕ) (t : Ticket)
    → IsClosed live → slice_get live.objects o.0 ≡ Some (Some row) → row.state ≡ objects_of.Resident vs → IsTicketOf bytes live.swapper t
    → IsClosed (record live { objects = slice_set live.objects o.0 (Some (out_object row vs t)); swapper = after_take (length bytes) live.swapper })
closed_out_object live o row vs bytes t h e r k =
    let was = h.objects o.0 row e in
    let old_extents : object_extents (Some row) ≡ [] = ap (λ s. option_to_list (option_map extent_of (object_ticket s))) r in
    closed_with_row live o.0 row (out_object row vs t) (after_take (length bytes) live.swapper) h e (record {
      version = was.version;
      there = was.there;
      variables = λ us q. absurd (no_variables us q);
      shared = named_there live.cells vs (was.variables vs (ap variables_of r)).1;
      own = refl;
    }) (more_taken (extents_of live.objects live.versions) (extents_of (slice_set live.objects o.0 (Some (out_object row vs t))) live.versions) bytes live.swapper t k
    (let a = row_counts object_extents length length-append live.objects o.0 (Some row) (Some (out_object row vs t)) e in
    let z = ap (λ l. length l) old_extents in
    let x = length-append (flat_map object_extents live.objects) vx in
    let y = length-append (flat_map object_extents (slice_set live.objects o.0 (Some (out_object row vs t)))) vx in
    omega (arith, a, z, x, y))
    (λ i.
    let a = row_counts object_extents (covers i) (covers-append i) live.objects o.0 (Some row) (Some (out_object row vs t)) e in
    let z = ap (covers i) old_extents in
    let x = covers-append i (flat_map object_extents live.objects) vx in
    let y = covers-append i (flat_map object_extents (slice_set live.objects o.0 (Some (out_object row vs t)))) vx in
    omega (arith, a, z, x, y))
    h.room)
  where
    vx : List Extent
    vx = flat_map version_extents live.versions

    no_variables : (us : List Value) → None ≡ Some us → ⊥
    no_variables us q = cc

-- Programs

pub resident_version : (r : Option Version) (p : RawProgram) → program_of (version_state r) ≡ Some p → (v : Version) × (r ≡ Some v) × (v.state ≡ programs_of.Resident p)
resident_version None p e = cc
resident_version (Some v) p e = (v, refl, resident_program v.state p e)
  where
    resident_program : (s : ProgramState) (p : RawProgram) → program_of (Some s) ≡ Some p → s ≡ programs_of.Resident p
    resident_program (programs_of.Resident q) p e = ap (λ o. programs_of.Resident (unwrap_or o q)) e
    resident_program (programs_of.Swapped t) p e = cc

-- a version whose program goes out
abbrev out_version : Version → Ticket → Version
out_version v t = record v { state = programs_of.Swapped t }

program_same : (told : Option Bytes) (p q : RawProgram) (s : ProgramState) → s ≡ programs_of.Resident p → ProgramIs told q s → p ≡ q
program_same told p q s e h = subst (ProgramIs told q) e h

stands_out_version : (told : Option Bytes) (programs : List RawProgram) (live : Live) (w : World) (n : ℕ) (v : Version) (p : RawProgram) (encoding : List ℕ) (t : Ticket)
    → Stands told programs live w → slice_get live.versions n ≡ Some (Some v) → v.state ≡ programs_of.Resident p
    → IsEncoding p encoding → IsOutAt told t (program_image encoding)
    → Stands told programs (record live { versions = slice_set live.versions n (Some (out_version v t)) }) w
stands_out_version told programs live w n v p encoding t h e r encodes out =
    let is = h.versions.each n v e in
    let same : p ≡ is.program = program_same told p is.program v.state r is.state in
    stands_with_version told programs live w n v (out_version v t) h e (record {
      version = is.version;
      there = is.there;
      path = is.path;
      latest = is.latest;
      parents = is.parents;
      program = is.program;
      is = is.is;
      outline = is.outline;
      state = record { bytes = encoding; encoding = subst (λ x. IsEncoding x encoding) same encodes; out = out };
      targets = is.targets;
    })

closed_out_version : (live : Live) (n : ℕ) (v : Version) (p : RawProgram) (bytes : List ℕ) (t : Ticket)
    → IsClosed live → slice_get live.versions n ≡ Some (Some v) → v.state ≡ programs_of.Resident p → IsTicketOf bytes live.swapper t
    → IsClosed (record live { versions = slice_set live.versions n (Some (out_version v t)); swapper = after_take (length bytes) live.swapper })
closed_out_version live n v p bytes t h e r k =
    let was = h.versions n v e in
    let old_extents : version_extents (Some v) ≡ [] = ap (λ s. option_to_list (option_map extent_of (program_ticket s))) r in
    closed_with_version live n v (out_version v t) (after_take (length bytes) live.swapper) h e refl (record {
      lower = was.lower;
      parents = was.parents;
      parts = was.parts;
      variables = was.variables;
      program = λ q s. absurd (no_program q s);
    }) (more_taken (extents_of live.objects live.versions) (extents_of live.objects (slice_set live.versions n (Some (out_version v t)))) bytes live.swapper t k
    (let a = row_counts version_extents length length-append live.versions n (Some v) (Some (out_version v t)) e in
    let z = ap (λ l. length l) old_extents in
    let x = length-append ox (flat_map version_extents live.versions) in
    let y = length-append ox (flat_map version_extents (slice_set live.versions n (Some (out_version v t)))) in
    omega (arith, a, z, x, y))
    (λ i.
    let a = row_counts version_extents (covers i) (covers-append i) live.versions n (Some v) (Some (out_version v t)) e in
    let z = ap (covers i) old_extents in
    let x = covers-append i ox (flat_map version_extents live.versions) in
    let y = covers-append i ox (flat_map version_extents (slice_set live.versions n (Some (out_version v t)))) in
    omega (arith, a, z, x, y))
    h.room)
  where
    ox : List Extent
    ox = flat_map object_extents live.objects

    no_program : (q : RawProgram) → programs_of.Swapped t ≡ programs_of.Resident q → ⊥
    no_program q s = cc

-- Both

stands_gone : (who : Owner) (old new : Live) (told : Option Bytes) (programs : List RawProgram) (w : World)
    → WentOut who old new told → IsTold told → Stands told programs old w → Stands told programs new w
stands_gone (owners.Object o) old new told programs w g is h =
    let i = g.image in
    let r = resident_row (row_at old.objects o.0) i.values i.here in
    let e = row_there old.objects o.0 r.0 r.1 in
    subst (λ l. Stands told programs l w) (sym g.after)
    (stands_in_room told programs (gone old (owners.Object o) g.ticket) w (after_take (length g.bytes) old.swapper)
    (subst (λ x. Stands told programs (record old { objects = slice_set old.objects o.0 x }) w)
    (sym (out_row_is (row_at old.objects o.0) r.0 (variables_at old.objects o) i.values g.ticket r.1 i.here))
    (stands_out_object told programs old w o r.0 i.values g.ticket h e r.2 i.fits
    (subst (IsOutAt told g.ticket) i.spelled (out_at told old.swapper g.ticket g.bytes is g.is_for g.held)))))
stands_gone (owners.Program p) old new told programs w g is h =
    let i = g.image in
    let r = resident_version (row_at old.versions p.0) i.program i.here in
    let e = row_there old.versions p.0 r.0 r.1 in
    subst (λ l. Stands told programs l w) (sym g.after)
    (stands_in_room told programs (gone old (owners.Program p) g.ticket) w (after_take (length g.bytes) old.swapper)
    (subst (λ x. Stands told programs (record old { versions = slice_set old.versions p.0 (version_with_state x (programs_of.Swapped g.ticket)) }) w)
    (sym r.1)
    (stands_out_version told programs old w p.0 r.0 i.program i.image_is.encoding g.ticket h e r.2 i.image_is.encodes
    (subst (IsOutAt told g.ticket) i.image_is.spelled (out_at told old.swapper g.ticket g.bytes is g.is_for g.held)))))

closed_gone : (who : Owner) (old new : Live) (told : Option Bytes) → WentOut who old new told → IsClosed old → IsClosed new
closed_gone (owners.Object o) old new told g h =
    let i = g.image in
    let r = resident_row (row_at old.objects o.0) i.values i.here in
    let e = row_there old.objects o.0 r.0 r.1 in
    subst IsClosed (sym g.after)
    (subst (λ x. IsClosed (record old { objects = slice_set old.objects o.0 x; swapper = after_take (length g.bytes) old.swapper }))
    (sym (out_row_is (row_at old.objects o.0) r.0 (variables_at old.objects o) i.values g.ticket r.1 i.here))
    (closed_out_object old o r.0 i.values g.bytes g.ticket h e r.2 g.is_for))
closed_gone (owners.Program p) old new told g h =
    let i = g.image in
    let r = resident_version (row_at old.versions p.0) i.program i.here in
    let e = row_there old.versions p.0 r.0 r.1 in
    subst IsClosed (sym g.after)
    (subst (λ x. IsClosed (record old { versions = slice_set old.versions p.0 (version_with_state x (programs_of.Swapped g.ticket)); swapper = after_take (length g.bytes) old.swapper }))
    (sym r.1)
    (closed_out_version old p.0 r.0 i.program g.bytes g.ticket h e r.2 g.is_for))

-- whatever was put out or kept, the state stands for the same worlds
pub stands_after_put : (who : Owner) (old new : Live) (told0 told : Option Bytes) (r : Result PutOut AllocError) (programs : List RawProgram) (w : World)
    → IsPut who old new told r → IsWrittenFree old.swapper told0 told → IsClosed old → IsTold told0 → Stands told0 programs old w → Stands told programs new w
stands_after_put who old new told0 told (Ok puts.Out) programs w p f c is h =
    stands_gone who old new told programs w p (told_still told0 told (place_for f.len old.swapper) f.len f.others is) (stands_still told0 told programs old w c.room f h)
stands_after_put who old new told0 told (Ok puts.NotThere) programs w p f c is h = subst (λ l. Stands told programs l w) (sym p.1) (stands_still told0 told programs old w c.room f h)
stands_after_put who old new told0 told (Ok puts.Already) programs w p f c is h = subst (λ l. Stands told programs l w) (sym p.after) (stands_still told0 told programs old w c.room f h)
stands_after_put who old new told0 told (Ok puts.KeptFault) programs w p f c is h =
    subst (λ l. Stands told programs l w) (sym p.after) (stands_in_room told programs old w _ (stands_still told0 told programs old w c.room f h))
stands_after_put who old new told0 told (Ok puts.KeptFull) programs w p f c is h = subst (λ l. Stands told programs l w) (sym p.after) (stands_still told0 told programs old w c.room f h)
stands_after_put who old new told0 told (Err e) programs w p f c is h = subst (λ l. Stands told programs l w) (sym p) (stands_still told0 told programs old w c.room f h)

-- a closed state in another room
closed_in_room : (live : Live) (r : Room) → IsClosed live → AreTaken (extents_of live.objects live.versions) r → IsClosed (with_room live r)
closed_in_room live r h t = record { clock = h.clock; cells = h.cells; objects = h.objects; apart = h.apart; versions = h.versions; call_outs = h.call_outs; waiting = h.waiting; placed = h.placed; numbered = h.numbered; room = t }

-- and it is closed
pub closed_after_put : (who : Owner) (old new : Live) (told : Option Bytes) (r : Result PutOut AllocError)
    → IsPut who old new told r → AreTakenStill r old.swapper new.swapper → IsClosed old → IsClosed new
closed_after_put who old new told (Ok puts.Out) p k c = closed_gone who old new told p c
closed_after_put who old new told (Ok puts.NotThere) p k c = subst IsClosed (sym p.1) c
closed_after_put who old new told (Ok puts.Already) p k c = subst IsClosed (sym p.after) c
closed_after_put who old new told (Ok puts.KeptFault) p k c =
    let s = ap (λ l. l.swapper) p.after in
    subst IsClosed (sym p.after) (closed_in_room old _ c (subst (AreTaken (extents_of old.objects old.versions)) s (k (extents_of old.objects old.versions) c.room)))
closed_after_put who old new told (Ok puts.KeptFull) p k c = subst IsClosed (sym p.after) c
closed_after_put who old new told (Err e) p k c = subst IsClosed (sym p) c
