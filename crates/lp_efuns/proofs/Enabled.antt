-- An object that becomes living.
use Rattle.std.proofs.Common.{◌≡◌, ◌++◌, ◌∙◌, ℕ, zero, suc, pos, IsSome, true, false, List, [], ◌∷◌, Option, Some, None, refl, ap, sym, subst, inl, inr, slice_get, unwrap_or, map, if◌then◌else◌}
use Rattle.std.specs.Prelude.{slice_set}
use Rattle.std.specs.List.{flat_map}
use Rattle.lp_values.specs.declared.id.ObjId.{ObjId}
use Rattle.lp_values.specs.declared.id.ProgId.{ProgId}
use Rattle.lp_values.specs.declared.value.Value.{Value}
use Rattle.lp_values.specs.declared.value.Value.TheVariants as values
use Rattle.lp_cells.specs.Cells.{Store}
use Rattle.lp_code.specs.declared.program.RawProgram.{RawProgram}
use Rattle.lp_swapfile.specs.Device.{Bytes}
use Rattle.lp_swapfile.specs.Room.{AreTaken}
use Rattle.lp_instr.specs.declared.efun.Efun.TheVariants as efuns
use Rattle.lp_language.specs.World as world
use Rattle.lp_language.specs.World.{World, is_live, new_world, no_object, object_at, with_object}
use Rattle.lp_meaning.specs.IdleAndKept.{IsKept, by_child, by_object}
use Rattle.lp_meaning.specs.WorldEfuns.{Yields, deed, enabled, living_object, zero as none}
use Rattle.lp_step.specs.Steps.{KeepsVariables}
use Rattle.lp_world.specs.Closed.{IsClosed, IsObjectClosed, object_extents, version_extents}
use Rattle.lp_world.specs.Rows.{is_live_row, live_in, object_animated, own_in, row_at, variables_in}
use Rattle.lp_world.specs.Stands.{IsObject, ObjectIs, Stands, named_of}
use Rattle.lp_world.specs.declared.live.Live.{Live}
use Rattle.lp_world.specs.declared.objects.Object.{Object}
use Rattle.lp_world.proofs.Keeping.{get_set, get_set_here, live_same, same_or_not}
use Rattle.lp_efuns.specs.declared.answer.Did.TheVariants as did
use Rattle.lp_efuns.specs.declared.caller.Caller.{Caller}
use Rattle.lp_efuns.specs.declared.caller.Turn.{Turn}
use Rattle.lp_efuns.specs.Deeds.{Does, IsDone, deed_done}
use Rattle.lp_efuns.specs.Turns.{At, commands_of}

-- Rows

abbrev animated : Object → Object
animated o = record o { is_living = true }

found_row : (r : Option (Option Object)) → is_live_row (unwrap_or r None) ≡ true → (row : Object) × (r ≡ Some (Some row))
found_row None h = cc
found_row (Some None) h = cc
found_row (Some (Some row)) h = (row, refl)

-- a live object has a row
pub live_row : (rows : List (Option Object)) (o : ObjId) → live_in rows o ≡ true → (row : Object) × (slice_get rows o.0 ≡ Some (Some row))
unfolding live_in
live_row rows o h = found_row (slice_get rows o.0) h

pub row_there : (rows : List (Option Object)) (o : ObjId) → live_in rows o ≡ true → IsSome (row_at rows o.0)
row_there rows o h = let r = live_row rows o h in subst (λ x. IsSome (unwrap_or x None)) (sym r.1) refl

-- Worlds

kept_by : (versions : List world.Version) (old new : List world.Object)
    → ((n : ℕ) (x : world.Object) → slice_get new n ≡ Some x → x.is_live ≡ true → (y : world.Object) × (slice_get old n ≡ Some y) × (y.is_live ≡ true) × (y.version ≡ x.version))
    → (v : ProgId) → IsKept (record (new_world [] 0 0) { objects = new; versions = versions }) v → IsKept (record (new_world [] 0 0) { objects = old; versions = versions }) v
kept_by versions old new f _ (by_object n x e l) =
    let t = f n x e l in subst (λ p. IsKept (record (new_world [] 0 0) { objects = old; versions = versions }) p) t.3 (by_object n t.0 t.1 t.2)
kept_by versions old new f _ (by_child v p k c) = by_child v p (kept_by versions old new f v k) c

named_set : (xs : List world.Object) (n : ℕ) (x y : world.Object) → slice_get xs n ≡ Some x → named_of y ≡ named_of x → map named_of (slice_set xs n y) ≡ map named_of xs
named_set [] n x y e q = refl
named_set (z ∷ xs) zero x y e q =
    let s : x ≡ z = ap (λ o. unwrap_or o x) (sym e) in
    ap (λ k. k ∷ map named_of xs) (q ∙ ap named_of s)
named_set (z ∷ xs) (suc n) x y e q = ap (λ l. named_of z ∷ l) (named_set xs n x y e q)

behind : (told : Option Bytes) (part whole : Store) (n : ℕ) (row : Object) (o : Option world.Object) → ObjectIs told part whole n (Some (Some row)) o → (x : world.Object) × (o ≡ Some x) × IsObject told part whole n row x
behind told part whole n row None h = absurd h
behind told part whole n row (Some x) h = (x, refl, h)

-- the state stands for the world in which the object is living
stands_living : (told : Option Bytes) (programs : List RawProgram) (live : Live) (w : World) (o : ObjId) (row : Object) → Stands told programs live w → slice_get live.objects o.0 ≡ Some (Some row)
    → Stands told programs (record live { objects = slice_set live.objects o.0 (Some (animated row)) }) (with_object w o (living_object (object_at w o)))
stands_living told programs live w o row h e =
    let b = behind told live.cells w.cells o.0 row (slice_get w.objects o.0) (subst (λ q. ObjectIs told live.cells w.cells o.0 q (slice_get w.objects o.0)) e (h.objects o.0)) in
    let at : object_at w o ≡ b.0 = ap (λ q. unwrap_or q no_object) b.1 in
    let new : world.Object = living_object (object_at w o) in
    let is : IsObject told live.cells w.cells o.0 (record row { is_living = true }) new = subst (λ x. IsObject told live.cells w.cells o.0 (record row { is_living = true }) (living_object x)) (sym at) (record {
      version = b.2.version;
      live = b.2.live;
      living = refl;
      latest = b.2.latest;
      variables = b.2.variables;
    }) in
    record {
      cells = h.cells;
      objects = λ n. elim (same_or_not o.0 n) [
        | inl q ↦ subst (λ n. ObjectIs told live.cells w.cells n (slice_get (slice_set live.objects o.0 (Some (record row { is_living = true }))) n) (slice_get (slice_set w.objects o.0 new) n)) q
            (rw (get_set_here live.objects o.0 (Some (record row { is_living = true })) (Some row) e, get_set_here w.objects o.0 new b.0 b.1) is)
        | inr d ↦ rw (get_set live.objects o.0 n (Some (record row { is_living = true })) d, get_set w.objects o.0 n new d) (h.objects n)
      ];
      names = rw (named_set w.objects o.0 b.0 new b.1 (ap (λ x. named_of (living_object x)) at)) h.names;
      versions = h.versions;
      kept = λ p g. h.kept p (kept_by w.versions w.objects (slice_set w.objects o.0 new)
          (λ n x g l. elim (same_or_not o.0 n) [
            | inl q ↦
                let x_new : new ≡ x = ap (λ o. unwrap_or o new) (sym (get_set_here w.objects o.0 new b.0 b.1) ∙ ap (λ n. slice_get (slice_set w.objects o.0 new) n) q ∙ g) in
                let x_old : living_object b.0 ≡ x = ap living_object (sym at) ∙ x_new in
                (b.0, ap (λ n. slice_get w.objects n) (sym q) ∙ b.1, ap (λ y. y.is_live) x_old ∙ l, ap (λ y. y.version) x_old)
            | inr d ↦ (x, sym (get_set w.objects o.0 n new d) ∙ g, l, refl)
          ]) p g);
      rest = h.rest;
    }

-- Closed states

extents_set : (xs : List (Option Object)) (n : ℕ) (x y : Option Object) → slice_get xs n ≡ Some x → object_extents y ≡ object_extents x → flat_map object_extents (slice_set xs n y) ≡ flat_map object_extents xs
extents_set [] n x y e q = refl
extents_set (z ∷ xs) zero x y e q =
    let s : x ≡ z = ap (λ o. unwrap_or o x) (sym e) in
    ap (λ l. l ++ flat_map object_extents xs) (q ∙ ap object_extents s)
extents_set (z ∷ xs) (suc n) x y e q = ap (λ l. object_extents z ++ l) (extents_set xs n x y e q)

closed_living : (live : Live) (o : ObjId) (row : Object) → IsClosed live → slice_get live.objects o.0 ≡ Some (Some row) → IsClosed (record live { objects = slice_set live.objects o.0 (Some (animated row)) })
closed_living live o row h e = record {
  clock = h.clock;
  cells = h.cells;
  objects = λ n x g. elim (same_or_not o.0 n) [
    | inl q ↦
        let s : Some (Some new) ≡ Some (Some x) = sym (get_set_here live.objects o.0 (Some new) (Some row) e) ∙ ap (λ n. slice_get (slice_set live.objects o.0 (Some new)) n) q ∙ g in
        let is : new ≡ x = ap (λ o. unwrap_or (unwrap_or o None) new) s in
        subst (IsObjectClosed live.cells live.versions) is (record { version = was.version; there = was.there; variables = was.variables; shared = was.shared; own = was.own })
    | inr d ↦ h.objects n x (sym (get_set live.objects o.0 n (Some new) d) ∙ g)
  ];
  apart = λ n m j i c a b. h.apart n m j i c (ap (λ l. slice_get l j) (sym (own_same n)) ∙ a) (ap (λ l. slice_get l i) (sym (own_same m)) ∙ b);
  versions = h.versions;
  call_outs = h.call_outs;
  waiting = h.waiting;
  placed = h.placed;
  numbered = h.numbered;
  room = subst (λ l. AreTaken (l ++ flat_map version_extents live.versions) live.swapper) (sym (extents_set live.objects o.0 (Some row) (Some new) e refl)) h.room;
}
  where
    new : Object
    new = record row { is_living = true }

    was : IsObjectClosed live.cells live.versions row
    was = h.objects o.0 row e

    own_same : (n : ℕ) → own_in (row_at (slice_set live.objects o.0 (Some new)) n) ≡ own_in (row_at live.objects n)
    own_same n = elim (same_or_not o.0 n) [
      | inl q ↦
          ap (λ n. own_in (row_at (slice_set live.objects o.0 (Some new)) n)) (sym q)
          ∙ ap (λ o. own_in (unwrap_or o None)) (get_set_here live.objects o.0 (Some new) (Some row) e)
          ∙ ap (λ o. own_in (unwrap_or o None)) (sym e) ∙ ap (λ n. own_in (row_at live.objects n)) q
      | inr d ↦ ap (λ o. own_in (unwrap_or o None)) (get_set live.objects o.0 n (Some new) d)
    ]

keeps_living : (rows : List (Option Object)) (o : ObjId) (row : Object) → slice_get rows o.0 ≡ Some (Some row) → KeepsVariables rows (slice_set rows o.0 (Some (animated row)))
keeps_living rows o row e p vs h = elim (same_or_not o.0 p.0) [
  | inl q ↦ (
    vs,
    ap (λ n. variables_in (unwrap_or (slice_get (slice_set rows o.0 (Some new)) n) None)) (sym q) ∙ ap (λ r. variables_in (unwrap_or r None)) (get_set_here rows o.0 (Some new) (Some row) e)
        ∙ ap (λ r. variables_in (unwrap_or r None)) (sym e) ∙ ap (λ n. variables_in (unwrap_or (slice_get rows n) None)) q ∙ h,
    refl,
  )
  | inr d ↦ (vs, ap (λ r. variables_in (unwrap_or r None)) (get_set rows o.0 p.0 (Some new) d) ∙ h, refl)
]
  where
    new : Object
    new = record row { is_living = true }

-- The efun

rows_are : (old : List (Option Object)) (o : ObjId) (row : Object) → slice_get old o.0 ≡ Some (Some row) → slice_set old o.0 (object_animated true (row_at old o.0)) ≡ slice_set old o.0 (Some (animated row))
rows_are old o row e = ap (λ r. slice_set old o.0 (object_animated true (unwrap_or r None))) e

pub enabled_closed : (live : Live) (o : ObjId) (rows : List (Option Object)) → IsClosed live → live_in live.objects o ≡ true → rows ≡ slice_set live.objects o.0 (object_animated true (row_at live.objects o.0)) → IsClosed (record live { objects = rows })
enabled_closed live o rows h l q =
    let r = live_row live.objects o l in
    subst (λ rows. IsClosed (record live { objects = rows })) (sym (q ∙ rows_are live.objects o r.0 r.1)) (closed_living live o r.0 h r.1)

pub enabled_keeps : (old rows : List (Option Object)) (o : ObjId) → live_in old o ≡ true → rows ≡ slice_set old o.0 (object_animated true (row_at old o.0)) → KeepsVariables old rows
enabled_keeps old rows o l q =
    let r = live_row old o l in
    subst (KeepsVariables old) (sym (q ∙ rows_are old o r.0 r.1)) (keeps_living old o r.0 r.1)

pub enabled_does : (caller : Caller) (vs : List Value) (live : Live) (turn turn1 : Turn) (rows : List (Option Object)) → live_in live.objects caller.this ≡ true
    → rows ≡ slice_set live.objects caller.this.0 (object_animated true (row_at live.objects caller.this.0)) → turn1.player ≡ Some caller.this → turn1.commands.items ≡ turn.commands.items
    → Does efuns.EnableCommands caller vs live turn (did.Value (values.Int (pos 0))) (record live { objects = rows }) turn1
unfolding deed
enabled_does caller vs live turn turn1 rows lives q p k g b c s sc h =
    let r = live_row live.objects caller.this lives in
    let e : rows ≡ slice_set live.objects caller.this.0 (Some (animated r.0)) = q ∙ rows_are live.objects caller.this r.0 r.1 in
    let l : is_live s.world caller.this ≡ true = sym (ap (λ f. f caller.this) (live_same g.told g.programs live s.world h.stands)) ∙ lives in
    subst (λ d. IsDone (did.Value (values.Int (pos 0))) (At g (record live { objects = rows }) turn1 b) (deed_done d s))
    (sym (ap (λ o. if is_live s.world o then Yields none (enabled o s) else Yields none s) sc.this ∙ ap (λ v. if v then Yields none (enabled caller.this s) else Yields none s) l)) (
      refl,
      record {
        stands = subst (λ rows. Stands g.told g.programs (record live { objects = rows }) (with_object s.world caller.this (living_object (object_at s.world caller.this)))) (sym e) (stands_living g.told g.programs live s.world caller.this r.0 h.stands r.1);
        left = h.left;
        outputs = h.outputs;
        player = sym p;
        commands = h.commands ∙ ap commands_of (sym k);
      },
    )

pub dead_enable : (caller : Caller) (vs : List Value) (live : Live) (turn : Turn) → live_in live.objects caller.this ≡ false → Does efuns.EnableCommands caller vs live turn (did.Value (values.Int (pos 0))) live turn
unfolding deed
dead_enable caller vs live turn dies g b c s sc h =
    let l : is_live s.world caller.this ≡ false = sym (ap (λ f. f caller.this) (live_same g.told g.programs live s.world h.stands)) ∙ dies in
    subst (λ d. IsDone (did.Value (values.Int (pos 0))) (At g live turn b) (deed_done d s))
    (sym (ap (λ o. if is_live s.world o then Yields none (enabled o s) else Yields none s) sc.this ∙ ap (λ v. if v then Yields none (enabled caller.this s) else Yields none s) l)) (refl, h)

pub enabled_by : (caller : Caller) (vs : List Value) (live live1 : Live) (turn turn1 : Turn) → live_in live.objects caller.this ≡ true
    → live1 ≡ record live { objects = slice_set live.objects caller.this.0 (object_animated true (row_at live.objects caller.this.0)) } → turn1.player ≡ Some caller.this → turn1.commands.items ≡ turn.commands.items
    → Does efuns.EnableCommands caller vs live turn (did.Value (values.Int (pos 0))) live1 turn1
enabled_by caller vs live live1 turn turn1 lives q p k =
    subst (λ l. Does efuns.EnableCommands caller vs live turn (did.Value (values.Int (pos 0))) l turn1) (sym q)
    (enabled_does caller vs live turn turn1 (slice_set live.objects caller.this.0 (object_animated true (row_at live.objects caller.this.0))) lives refl p k)
