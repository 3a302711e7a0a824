-- What the state stands for, and that it is closed, where one row changes.
use Rattle.std.proofs.Common.{◌≡◌, ◌∙◌, ℕ, List, [], ◌∷◌, Option, Some, None, refl, ap, sym, subst, inl, inr, slice_get, unwrap_or}
use Rattle.std.specs.Prelude.{slice_set}
use Rattle.lp_values.specs.declared.id.CellId.{CellId}
use Rattle.lp_code.specs.declared.program.RawProgram.{RawProgram}
use Rattle.lp_swapfile.specs.Device.{Bytes}
use Rattle.lp_swapfile.specs.Room.{AreTaken, Room}
use Rattle.lp_language.specs.World as world
use Rattle.lp_language.specs.World.{World}
use Rattle.lp_world.specs.Closed.{AreApart, IsClosed, IsObjectClosed, extents_of}
use Rattle.lp_world.specs.Rows.{own_in, own_of, row_at}
use Rattle.lp_world.specs.Stands.{IsObject, ObjectIs, Stands}
use Rattle.lp_world.specs.declared.live.Live.{Live}
use Rattle.lp_world.specs.declared.objects.Object.{Object}
use Rattle.lp_world.proofs.Keeping.{get_set, get_set_here, same_or_not}

-- Rows

some_value : {A : Type 0} (x y : A) → Some x ≡ Some y → x ≡ y
some_value x y e = ap (λ o. unwrap_or o x) e

found_row : {A : Type 0} (o : Option (Option A)) (x : A) → unwrap_or o None ≡ Some x → o ≡ Some (Some x)
found_row None x e = cc
found_row (Some y) x e = ap (λ z. Some z) e

pub row_there : {A : Type 0} (rows : List (Option A)) (n : ℕ) (x : A) → row_at rows n ≡ Some x → slice_get rows n ≡ Some (Some x)
row_there rows n x e = found_row (slice_get rows n) x e

-- Objects

-- the object of the world behind a row that is there
pub object_behind : (told : Option Bytes) (programs : List RawProgram) (live : Live) (w : World) (n : ℕ) (row : Object)
    → Stands told programs live w → slice_get live.objects n ≡ Some (Some row) → (x : world.Object) × (slice_get w.objects n ≡ Some x) × IsObject told live.cells w.cells n row x
object_behind told programs live w n row h e = behind (slice_get w.objects n) refl
  where
    is : ObjectIs told live.cells w.cells n (Some (Some row)) (slice_get w.objects n)
    is = subst (λ q. ObjectIs told live.cells w.cells n q (slice_get w.objects n)) e (h.objects n)

    behind : (o : Option world.Object) → slice_get w.objects n ≡ o → (x : world.Object) × (slice_get w.objects n ≡ Some x) × IsObject told live.cells w.cells n row x
    behind None q = absurd (subst (λ o. ObjectIs told live.cells w.cells n (Some (Some row)) o) q is)
    behind (Some x) q = (x, q, subst (λ o. ObjectIs told live.cells w.cells n (Some (Some row)) o) q is)

-- another row that stands for the same object
pub stands_with_row : (told : Option Bytes) (programs : List RawProgram) (live : Live) (w : World) (n : ℕ) (row new : Object) (x : world.Object)
    → Stands told programs live w → slice_get live.objects n ≡ Some (Some row) → slice_get w.objects n ≡ Some x → IsObject told live.cells w.cells n new x
    → Stands told programs (record live { objects = slice_set live.objects n (Some new) }) w
stands_with_row told programs live w n row new x h e q is = record {
  cells = h.cells;
  objects = λ m. elim (same_or_not n m) [
    | inl s ↦ subst (λ m. ObjectIs told live.cells w.cells m (slice_get (slice_set live.objects n (Some new)) m) (slice_get w.objects m)) s
        (rw (get_set_here live.objects n (Some new) (Some row) e, q) is)
    | inr d ↦ rw (get_set live.objects n m (Some new) d) (h.objects m)
  ];
  names = h.names;
  versions = h.versions;
  kept = h.kept;
  rest = h.rest;
}

own_none : (o : Option (Option Object)) → ((row : Object) → o ≡ Some (Some row) → own_of row.state ≡ []) → own_in (unwrap_or o None) ≡ []
own_none None h = refl
own_none (Some None) h = refl
own_none (Some (Some row)) h = h row refl

nothing_there : (cells : List CellId) (k : ℕ) (c : CellId) → cells ≡ [] → slice_get cells k ≡ Some c → ⊥
nothing_there [] k c e g = cc
nothing_there (d ∷ ds) k c e g = cc

-- where no object has cells of its own, none are one
pub apart_alone : (objects : List (Option Object)) → ((n : ℕ) (row : Object) → slice_get objects n ≡ Some (Some row) → own_of row.state ≡ []) → AreApart objects
apart_alone objects h n m j k c a b = absurd (nothing_there (own_in (row_at objects n)) j c (own_none (slice_get objects n) (h n)) a)

-- a closed state with another row that is closed
pub closed_with_row : (live : Live) (n : ℕ) (row new : Object) (room : Room)
    → IsClosed live → slice_get live.objects n ≡ Some (Some row) → IsObjectClosed live.cells live.versions new
    → AreTaken (extents_of (slice_set live.objects n (Some new)) live.versions) room
    → IsClosed (record live { objects = slice_set live.objects n (Some new); swapper = room })
closed_with_row live n row new room h e c taken = record {
  clock = h.clock;
  cells = h.cells;
  objects = each;
  apart = apart_alone (slice_set live.objects n (Some new)) (λ m x g. (each m x g).own);
  versions = h.versions;
  call_outs = h.call_outs;
  waiting = h.waiting;
  placed = h.placed;
  numbered = h.numbered;
  room = taken;
}
  where
    each : (m : ℕ) (x : Object) → slice_get (slice_set live.objects n (Some new)) m ≡ Some (Some x) → IsObjectClosed live.cells live.versions x
    each m x g = elim (same_or_not n m) [
      | inl s ↦
          let t : Some (Some new) ≡ Some (Some x) = sym (get_set_here live.objects n (Some new) (Some row) e) ∙ ap (λ k. slice_get (slice_set live.objects n (Some new)) k) s ∙ g in
          subst (IsObjectClosed live.cells live.versions) (ap (λ o. unwrap_or (unwrap_or o None) new) t) c
      | inr d ↦ h.objects m x (sym (get_set live.objects n m (Some new) d) ∙ g)
    ]
