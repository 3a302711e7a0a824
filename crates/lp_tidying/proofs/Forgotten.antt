-- The state without the rows of objects that ended.
use Rattle.std.proofs.Common.{◌≡◌, ◌∙◌, ◌++◌, ℕ, zero, suc, Bool, true, false, not, ◌&&◌, List, [], ◌∷◌, Option, Some, None, refl, ap, sym, subst, inl, inr, slice_get, unwrap_or, if◌then◌else◌}
use Rattle.std.specs.Prelude.{slice_set}
use Rattle.std.specs.List.{flat_map}
use Rattle.lp_cells.specs.Cells.{Store}
use Rattle.lp_values.specs.declared.id.ObjId.{ObjId}
use Rattle.lp_code.specs.declared.program.RawProgram.{RawProgram}
use Rattle.lp_swapfile.specs.Device.{Bytes}
use Rattle.lp_swapfile.specs.Room.{AreTaken}
use Rattle.lp_language.specs.World as world
use Rattle.lp_language.specs.World.{World}
use Rattle.lp_objects.specs.Objects.{Named}
use Rattle.lp_objects.specs.Stands as names
use Rattle.lp_objects.specs.declared.objects.Objects.{Objects}
use Rattle.lp_world.specs.Closed.{IsClosed, IsObjectClosed, object_extents, version_extents}
use Rattle.lp_world.specs.Rows.{is_out_state, object_ticket, row_at}
use Rattle.lp_world.specs.Stands.{AreObjects, ObjectIs, Stands}
use Rattle.lp_world.specs.declared.live.Live.{Live}
use Rattle.lp_world.specs.declared.objects.Object.{Object}
use Rattle.lp_world.specs.declared.objects.ObjectState.{ObjectState}
use Rattle.lp_world.specs.declared.objects.ObjectState.TheVariants as objects_of
use Rattle.lp_world.proofs.Keeping.{get_set, get_set_here, same_or_not}
use Rattle.lp_residence.proofs.RowChanges.{apart_alone, row_there}
use Rattle.lp_targets.specs.Callees.{IsWorldOf}
use Rattle.lp_tidying.specs.Ended.{is_ended, without_row, without_rows}

differ : false ≡ true → ⊥
differ q = cc

-- What ended

record Ended (rows : List (Option Object)) (n : ℕ) : Type 0 where
  row : Object
  there : slice_get rows n ≡ Some (Some row)
  dead : row.is_live ≡ false
  here : object_ticket row.state ≡ None

no_ticket : (s : ObjectState) → not (is_out_state s) ≡ true → object_ticket s ≡ None
no_ticket (objects_of.Resident vs) e = refl
no_ticket (objects_of.Swapped t shared own) e = absurd (differ e)

both : (a b : Bool) → (not a && b) ≡ true → (a ≡ false) × (b ≡ true)
both true b e = absurd (differ e)
both false b e = (refl, e)

ended_row : (rows : List (Option Object)) (n : ℕ) (r : Option Object) → row_at rows n ≡ r → is_ended r ≡ true → Ended rows n
ended_row rows n None q e = absurd (differ e)
ended_row rows n (Some o) q e =
    let b = both o.is_live (not (is_out_state o.state)) e in
    record { row = o; there = row_there rows n o q; dead = b.0; here = no_ticket o.state b.1 }

-- Objects

gone_object : (told : Option Bytes) (part whole : Store) (n : ℕ) (row : Object) (o : Option world.Object) → row.is_live ≡ false → ObjectIs told part whole n (Some (Some row)) o → ObjectIs told part whole n (Some None) o
gone_object told part whole n row None d h = absurd h
gone_object told part whole n row (Some x) d h = sym h.live ∙ d

objects_without : (told : Option Bytes) (part whole : Store) (rows : List (Option Object)) (xs : List world.Object) (n : ℕ) → AreObjects told part whole rows xs → Ended rows n → AreObjects told part whole (slice_set rows n None) xs
objects_without told part whole rows xs n h e = λ m. elim (same_or_not n m) [
  | inl s ↦ subst (λ m. ObjectIs told part whole m (slice_get (slice_set rows n None) m) (slice_get xs m)) s
      (subst (λ r. ObjectIs told part whole n r (slice_get xs n)) (sym (get_set_here rows n None (Some e.row) e.there))
      (gone_object told part whole n e.row (slice_get xs n) e.dead (subst (λ r. ObjectIs told part whole n r (slice_get xs n)) e.there (h n))))
  | inr d ↦ subst (λ r. ObjectIs told part whole m r (slice_get xs m)) (sym (get_set rows n m None d)) (h m)
]

objects_if : (told : Option Bytes) (part whole : Store) (rows : List (Option Object)) (xs : List world.Object) (n : ℕ) (b : Bool) → is_ended (row_at rows n) ≡ b → AreObjects told part whole rows xs
    → AreObjects told part whole (if b then slice_set rows n None else rows) xs
objects_if told part whole rows xs n true e h = objects_without told part whole rows xs n h (ended_row rows n (row_at rows n) refl e)
objects_if told part whole rows xs n false e h = h

objects_left : (told : Option Bytes) (part whole : Store) (rows : List (Option Object)) (xs : List world.Object) (os : List ObjId) → AreObjects told part whole rows xs → AreObjects told part whole (without_rows rows os) xs
objects_left told part whole rows xs [] h = h
objects_left told part whole rows xs (o ∷ os) h = objects_left told part whole (without_row rows o) xs os (objects_if told part whole rows xs o.0 (is_ended (row_at rows o.0)) refl h)

-- Closed

extents_set : (xs : List (Option Object)) (n : ℕ) (x y : Option Object) → slice_get xs n ≡ Some x → object_extents y ≡ object_extents x → flat_map object_extents (slice_set xs n y) ≡ flat_map object_extents xs
extents_set [] n x y e q = refl
extents_set (z ∷ xs) zero x y e q =
    let s : x ≡ z = ap (λ o. unwrap_or o x) (sym e) in
    ap (λ l. l ++ flat_map object_extents xs) (q ∙ ap object_extents s)
extents_set (z ∷ xs) (suc n) x y e q = ap (λ l. object_extents z ++ l) (extents_set xs n x y e q)

no_extents : (o : Object) → object_ticket o.state ≡ None → [] ≡ object_extents (Some o)
no_extents o e = rw e refl

closed_without : (live : Live) (rows : List (Option Object)) (n : ℕ) → Ended rows n → IsClosed (record live { objects = rows }) → IsClosed (record live { objects = slice_set rows n None })
closed_without live rows n e h = record {
  clock = h.clock;
  cells = h.cells;
  objects = each;
  apart = apart_alone (slice_set rows n None) (λ m x g. (each m x g).own);
  versions = h.versions;
  call_outs = h.call_outs;
  waiting = h.waiting;
  placed = h.placed;
  numbered = h.numbered;
  room = subst (λ es. AreTaken (es ++ flat_map version_extents live.versions) live.swapper) (sym (extents_set rows n (Some e.row) None e.there (no_extents e.row e.here))) h.room;
}
  where
    each : (m : ℕ) (x : Object) → slice_get (slice_set rows n None) m ≡ Some (Some x) → IsObjectClosed live.cells live.versions x
    each m x g = elim (same_or_not n m) [
      | inl s ↦
          let t : Some None ≡ Some (Some x) = sym (get_set_here rows n None (Some e.row) e.there) ∙ ap (λ k. slice_get (slice_set rows n None) k) s ∙ g in
          absurd cc t
      | inr d ↦ h.objects m x (sym (get_set rows n m None d) ∙ g)
    ]

closed_if : (live : Live) (rows : List (Option Object)) (n : ℕ) (b : Bool) → is_ended (row_at rows n) ≡ b → IsClosed (record live { objects = rows }) → IsClosed (record live { objects = if b then slice_set rows n None else rows })
closed_if live rows n true e h = closed_without live rows n (ended_row rows n (row_at rows n) refl e) h
closed_if live rows n false e h = h

closed_left : (live : Live) (rows : List (Option Object)) (os : List ObjId) → IsClosed (record live { objects = rows }) → IsClosed (record live { objects = without_rows rows os })
closed_left live rows [] h = h
closed_left live rows (o ∷ os) h = closed_left live (without_row rows o) os (closed_if live rows o.0 (is_ended (row_at rows o.0)) refl h)

-- What is left

closed_named : (live : Live) (rows : List (Option Object)) (t : Objects) → IsClosed (record live { objects = rows }) → IsClosed (record live { names = t; objects = rows })
closed_named live rows t h = record { clock = h.clock; cells = h.cells; objects = h.objects; apart = h.apart; versions = h.versions; call_outs = h.call_outs; waiting = h.waiting; placed = h.placed; numbered = h.numbered; room = h.room }

pub forgotten_closed : (live new : Live) (t : Objects) (os : List ObjId) → new ≡ record live { names = t; objects = without_rows live.objects os } → IsClosed live → IsClosed new
forgotten_closed live new t os e h = subst IsClosed (sym e) (closed_named live (without_rows live.objects os) t (closed_left live live.objects os h))

pub forgotten_world : (live new : Live) (t : Objects) (os : List ObjId) → new ≡ record live { names = t; objects = without_rows live.objects os } → names.next_clone_in t ≡ names.next_clone_in live.names
    → ((objects : List Named) → names.Stands live.names objects → names.Stands t objects) → (told : Option Bytes) (programs : List RawProgram) (w : World) → IsWorldOf told programs live w → IsWorldOf told programs new w
forgotten_world live new t os e clones same told programs w h =
    let s = h.stands in
    let r = s.rest in
    let after : Stands told programs (record live { names = t; objects = without_rows live.objects os }) w = record {
      cells = s.cells;
      objects = objects_left told live.cells w.cells live.objects w.objects os s.objects;
      names = same _ s.names;
      versions = s.versions;
      kept = s.kept;
      rest = record {
        files = r.files;
        simul = r.simul;
        places = r.places;
        sentences = r.sentences;
        next_sentence = r.next_sentence;
        timing = r.timing;
        connections = r.connections;
        highest = r.highest;
        present = r.present;
        waiting = r.waiting;
        clock = r.clock;
        generator = r.generator;
        next_clone = clones ∙ r.next_clone;
      };
    } in
    record { stands = subst (λ l. Stands told programs l w) (sym e) after; compiled = h.compiled; shadows = h.shadows }
