-- What is out stays out where the file changes only where nothing is taken.
use Rattle.std.proofs.Common.{◌≡◌, ◌∙◌, ℕ, ◌+◌, ◌<◌, ◌≤◌, ◌⊎◌, List, [], ◌∷◌, Option, Some, None, length, slice_get, refl, subst, arith}
use Rattle.std.specs.List.{flat_map}
use Rattle.lp_values.specs.declared.id.ObjId.{ObjId}
use Rattle.lp_values.specs.declared.value.Value.{Value}
use Rattle.lp_cells.specs.Cells.{Store}
use Rattle.lp_code.specs.declared.program.RawProgram.{RawProgram}
use Rattle.lp_swapfile.specs.Device.{AreSameOutside, Bytes}
use Rattle.lp_swapfile.specs.Room.{AreTaken, covers, end_of, place_for}
use Rattle.lp_swapfile.specs.declared.extent.Extent.{Extent}
use Rattle.lp_swapfile.proofs.TakenLemmas.{covers-append}
use Rattle.lp_swapper.specs.Swap.{IsHeld, IsOutAt, extent_of}
use Rattle.lp_swapper.specs.declared.ticket.Ticket.{Ticket}
use Rattle.lp_language.specs.World as world
use Rattle.lp_language.specs.World.{World}
use Rattle.lp_world.specs.Closed.{extents_of, object_extents, version_extents}
use Rattle.lp_world.specs.Stands.{ObjectIs, ProgramIs, Stands, VariablesAre}
use Rattle.lp_world.specs.declared.live.Live.{Live}
use Rattle.lp_world.specs.declared.objects.Object.{Object}
use Rattle.lp_world.specs.declared.objects.ObjectState.{ObjectState}
use Rattle.lp_world.specs.declared.objects.ObjectState.TheVariants as objects_of
use Rattle.lp_world.specs.declared.versions.ProgramState.{ProgramState}
use Rattle.lp_world.specs.declared.versions.ProgramState.TheVariants as programs_of
use Rattle.lp_world.specs.declared.versions.Version.{Version}
use Rattle.lp_residence.specs.Puts.{IsWrittenFree}
use Rattle.lp_residence.proofs.Counting.{has_middle, next_is_apart, row_within}

-- no place of an extent is among some places
abbrev IsFar : Extent → ℕ → ℕ → Type 0
IsFar e p n = (i : ℕ) → e.place ≤ i → i < end_of e → (i < p) ⊎ (p + n ≤ i)

held_still : (old new : Option Bytes) (p n place : ℕ) (bytes : List ℕ) → AreSameOutside p n old new → ((i : ℕ) → i < length bytes → (place + i < p) ⊎ (p + n ≤ place + i)) → IsHeld old place bytes → IsHeld new place bytes
held_still None None p n place bytes s far h = absurd h
held_still None (Some g) p n place bytes s far h = absurd h
held_still (Some f) None p n place bytes s far h = absurd s
held_still (Some f) (Some g) p n place bytes s far h = λ i lt. s (place + i) (far i lt) ∙ h i lt

out_still : (old new : Option Bytes) (p n : ℕ) (t : Ticket) (bytes : List ℕ) → AreSameOutside p n old new → IsFar (extent_of t) p n → IsOutAt old t bytes → IsOutAt new t bytes
out_still old new p n t bytes s far h = record {
  len = h.len;
  digest = h.digest;
  held = held_still old new p n t.place bytes s (λ i lt. let l = h.len in far (t.place + i) (omega arith) (omega (arith, l, lt))) h.held;
}

-- no extent of a row is among some places
abbrev AreFar : List Extent → ℕ → ℕ → Type 0
AreFar es p n = (i : ℕ) → 0 < covers i es → (i < p) ⊎ (p + n ≤ i)

far_one : (t : Ticket) (p n : ℕ) → AreFar (extent_of t ∷ []) p n → IsFar (extent_of t) p n
far_one t p n far i a b = let h = has_middle i (extent_of t) a b in far i (omega (arith, h))

variables_still : (old new : Option Bytes) (p n : ℕ) (part whole : Store) (o : ObjId) (vs : List Value) (s : ObjectState) (row : Object) → row.state ≡ s
    → AreSameOutside p n old new → AreFar (object_extents (Some row)) p n → VariablesAre old part whole o vs s → VariablesAre new part whole o vs s
variables_still old new p n part whole o vs (objects_of.Resident us) row e s far h = h
variables_still old new p n part whole o vs (objects_of.Swapped t shared own) row e s far h = record {
  fits = h.fits;
  out = out_still old new p n t _ s (far_one t p n (subst (λ x. AreFar (object_extents (Some (record row { state = x }))) p n) e far)) h.out;
  named = h.named;
  kept = h.kept;
}

object_still : (old new : Option Bytes) (p n : ℕ) (part whole : Store) (k : ℕ) (r : Option (Option Object)) (x : Option world.Object)
    → AreSameOutside p n old new → ((row : Option Object) → r ≡ Some row → AreFar (object_extents row) p n) → ObjectIs old part whole k r x → ObjectIs new part whole k r x
object_still old new p n part whole k None None s far h = h
object_still old new p n part whole k None (Some x) s far h = h
object_still old new p n part whole k (Some r) None s far h = absurd h
object_still old new p n part whole k (Some None) (Some x) s far h = h
object_still old new p n part whole k (Some (Some o)) (Some x) s far h = record {
  version = h.version;
  live = h.live;
  living = h.living;
  latest = h.latest;
  variables = variables_still old new p n part whole (record { 0 = k }) x.variables o.state o refl s (far (Some o) refl) h.variables;
}

program_still : (old new : Option Bytes) (p n : ℕ) (raw : RawProgram) (s : ProgramState) (v : Version) → v.state ≡ s
    → AreSameOutside p n old new → AreFar (version_extents (Some v)) p n → ProgramIs old raw s → ProgramIs new raw s
program_still old new p n raw (programs_of.Resident q) v e s far h = h
program_still old new p n raw (programs_of.Swapped t) v e s far h = record {
  bytes = h.bytes;
  encoding = h.encoding;
  out = out_still old new p n t _ s (far_one t p n (subst (λ x. AreFar (version_extents (Some (record v { state = x }))) p n) e far)) h.out;
}

-- the state stands for its worlds still
pub stands_still : (old new : Option Bytes) (programs : List RawProgram) (live : Live) (w : World)
    → AreTaken (extents_of live.objects live.versions) live.swapper → IsWrittenFree live.swapper old new → Stands old programs live w → Stands new programs live w
stands_still old new programs live w taken written h = record {
  cells = h.cells;
  objects = λ n. object_still old new p len live.cells w.cells n (slice_get live.objects n) (slice_get w.objects n) written.others
      (λ row e i some. far i (let l = row_within object_extents (covers i) (covers-append i) live.objects n row e in let a = covers-append i os vs in omega (arith, l, a, some)))
      (h.objects n);
  names = h.names;
  versions = record {
    each = λ n v e. let is = h.versions.each n v e in record {
      version = is.version;
      there = is.there;
      path = is.path;
      latest = is.latest;
      parents = is.parents;
      program = is.program;
      is = is.is;
      outline = is.outline;
      state = program_still old new p len is.program v.state v refl written.others
          (λ i some. far i (let l = row_within version_extents (covers i) (covers-append i) live.versions n (Some v) e in let a = covers-append i os vs in omega (arith, l, a, some)))
          is.state;
      targets = is.targets;
    };
    next = h.versions.next;
    whole = h.versions.whole;
  };
  kept = h.kept;
  rest = h.rest;
}
  where
    len : ℕ
    len = written.len

    p : ℕ
    p = place_for written.len live.swapper

    os : List Extent
    os = flat_map object_extents live.objects

    vs : List Extent
    vs = flat_map version_extents live.versions

    far : (i : ℕ) → 0 < covers i (extents_of live.objects live.versions) → (i < p) ⊎ (p + len ≤ i)
    far = next_is_apart written.len (extents_of live.objects live.versions) live.swapper taken
