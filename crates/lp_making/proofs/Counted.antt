-- What an entry leaves: the state stands for the world after it, and is closed.
use Rattle.std.proofs.Common.{length, ◌≡◌, ◌∙◌, ◌⊎◌, ◌++◌, ℕ, zero, suc, List, [], ◌∷◌, Option, Some, None, IsSome, refl, ap, sym, subst, inl, inr, map, slice_get, unwrap_or, option_map, arith}
use Rattle.std.specs.Prelude.{Contains, slice_set}
use Rattle.std.specs.List.{flat_map}
use Rattle.std.proofs.Math.ListN.{length-set}
use Rattle.lp_values.specs.declared.id.ObjId.{ObjId}
use Rattle.lp_values.specs.declared.id.ProgId.{ProgId}
use Rattle.lp_code.specs.declared.program.RawProgram.{RawProgram}
use Rattle.lp_swapfile.specs.Device.{Bytes}
use Rattle.lp_swapfile.specs.Room.{AreTaken}
use Rattle.lp_language.specs.World as world
use Rattle.lp_language.specs.World.{IsSameVersion, World, new_world, no_object, no_version, object_at, version_at, with_object}
use Rattle.lp_meaning.specs.IdleAndKept.{IsKept, by_child, by_object}
use Rattle.lp_meaning.specs.WorldSteps.{entered, version_entered}
use Rattle.lp_world.specs.Closed.{IsClosed, IsObjectClosed, IsProgramClosed, IsVersionClosed, object_extents, version_extents}
use Rattle.lp_world.specs.Rows.{object_aged, row_at, version_aged}
use Rattle.lp_world.specs.Stands.{AreObjects, AreTargets, IsObject, IsVersion, ObjectIs, Stands, heritage_in, named_of}
use Rattle.lp_world.specs.Targets.{answer_at}
use Rattle.lp_objects.specs.Stands as names
use Rattle.lp_world.specs.declared.live.Live.{Live}
use Rattle.lp_world.specs.declared.targets.FunAt.{FunAt}
use Rattle.lp_world.specs.declared.objects.Object.{Object}
use Rattle.lp_world.specs.declared.versions.Version.{Version}
use Rattle.lp_world.proofs.Keeping.{get_set, get_set_here, same_or_not}
use Rattle.lp_residence.proofs.RowChanges.{apart_alone, object_behind}
use Rattle.lp_residence.proofs.VersionChanges.{HaveSameOutlines, object_closed, version_closed}
use Rattle.lp_making.specs.Entries.{EntryKeepsVersions, EntryStands, EntryStaysClosed, StandsEntered, entry_counted, object_counted, program_in, version_counted}
use Rattle.lp_part_laws.specs.Versions.{AreSameVersions}
use Rattle.lp_making.specs.Trees.{AreAlike, timeless}
use Rattle.lp_making.proofs.NewVersion.{some_row}
use Rattle.lp_making.proofs.Timeless.{heritage_same, targets_same}

-- Objects of the world

abbrev aged : List world.Object → ℕ → ℕ → List world.Object
aged xs i time = slice_set xs i (record (unwrap_or (slice_get xs i) no_object) { latest = time })

aged_named : (xs : List world.Object) (i time : ℕ) → map named_of (aged xs i time) ≡ map named_of xs
aged_named [] i time = refl
aged_named (x ∷ xs) zero time = refl
aged_named (x ∷ xs) (suc i) time = ap (λ l. named_of x ∷ l) (aged_named xs i time)

pub record Before (xs : List world.Object) (n : ℕ) (y : world.Object) : Type 0 where
  pub object : world.Object
  pub there : slice_get xs n ≡ Some object
  pub version : object.version ≡ y.version
  pub live : object.is_live ≡ y.is_live

before : (xs : List world.Object) (i time n : ℕ) (y : world.Object) → slice_get (aged xs i time) n ≡ Some y → Before xs n y
before [] i time n y e = cc
before (x ∷ xs) zero time zero y e = record {
  object = x;
  there = refl;
  version = ap (λ (o : Option world.Object). (unwrap_or o x).version) e;
  live = ap (λ (o : Option world.Object). (unwrap_or o x).is_live) e;
}
before (x ∷ xs) zero time (suc n) y e = record { object = y; there = e; version = refl; live = refl }
before (x ∷ xs) (suc i) time zero y e = record { object = y; there = e; version = refl; live = refl }
before (x ∷ xs) (suc i) time (suc n) y e = let b = before xs i time n y e in record { object = b.object; there = b.there; version = b.version; live = b.live }

kept_by_old : (versions : List world.Version) (xs : List world.Object) (i time : ℕ) (q : ProgId)
    → IsKept (record (new_world [] 0 0) { objects = aged xs i time; versions = versions }) q → IsKept (record (new_world [] 0 0) { objects = xs; versions = versions }) q
kept_by_old versions xs i time _ (by_object n y e l) =
    let b = before xs i time n y e in
    subst (IsKept (record (new_world [] 0 0) { objects = xs; versions = versions })) b.version (by_object n b.object b.there (b.live ∙ l))
kept_by_old versions xs i time _ (by_child u p k c) = by_child u p (kept_by_old versions xs i time u k) c

module _ (told : Option Bytes) (programs : List RawProgram) (live : Live) (w : World) (o : ObjId) (h : Stands told programs live w) (row : Object) (e : slice_get live.objects o.0 ≡ Some (Some row)) where
  abbrev after : Option Object
  after = object_aged live.clock (row_at live.objects o.0)

  abbrev later : world.Object
  later = record (object_at w o) { latest = w.clock }

  objects : AreObjects told live.cells w.cells (slice_set live.objects o.0 after) (slice_set w.objects o.0 later)
  objects n =
      let b = object_behind told programs live w o.0 row h e in
      let x : world.Object = b.0 in
      let q : after ≡ Some (record row { latest = live.clock }) = ap (λ r. object_aged live.clock (unwrap_or r None)) e in
      let r : later ≡ record x { latest = w.clock } = ap (λ (y : Option world.Object). record (unwrap_or y no_object) { latest = w.clock }) b.1 in
      let is : IsObject told live.cells w.cells o.0 row x = b.2 in
      let new : IsObject told live.cells w.cells o.0 (record row { latest = live.clock }) (record x { latest = w.clock })
      = record { version = is.version; live = is.live; living = is.living; latest = λ l. h.rest.clock; variables = is.variables } in
      let here : ObjectIs told live.cells w.cells o.0 (Some after) (Some later)
      = subst (λ a. ObjectIs told live.cells w.cells o.0 (Some a) (Some later)) (sym q) (subst (λ y. ObjectIs told live.cells w.cells o.0 (Some (Some (record row { latest = live.clock }))) (Some y)) (sym r) new) in
      elim (same_or_not o.0 n) [
        | inl s ↦ subst (λ m. ObjectIs told live.cells w.cells m (slice_get (slice_set live.objects o.0 after) m) (slice_get (slice_set w.objects o.0 later) m)) s
            (subst (λ a. ObjectIs told live.cells w.cells o.0 a (slice_get (slice_set w.objects o.0 later) o.0)) (sym (get_set_here live.objects o.0 after (Some row) e))
            (subst (λ y. ObjectIs told live.cells w.cells o.0 (Some after) y) (sym (get_set_here w.objects o.0 later x b.1)) here))
        | inr d ↦
            subst (λ a. ObjectIs told live.cells w.cells n a (slice_get (slice_set w.objects o.0 later) n)) (sym (get_set live.objects o.0 n after d))
            (subst (λ y. ObjectIs told live.cells w.cells n (slice_get live.objects n) y) (sym (get_set w.objects o.0 n later d)) (h.objects n))
      ]

  pub object_stands : Stands told programs (object_counted live o) (with_object w o (record (object_at w o) { latest = w.clock }))
  object_stands = record {
    cells = h.cells;
    objects = objects;
    names = subst (names.Stands live.names) (sym (aged_named w.objects o.0 w.clock)) h.names;
    versions = h.versions;
    kept = λ q k. h.kept q (kept_by_old w.versions w.objects o.0 w.clock q k);
    rest = h.rest;
  }

-- Versions of the world

abbrev grown : List world.Version → ℕ → ℕ → List world.Version
grown vs i time = slice_set vs i (record (unwrap_or (slice_get vs i) no_version) { latest = time })

pub grown_same : (vs : List world.Version) (i time : ℕ) → AreAlike vs (grown vs i time)
grown_same [] i time n = refl
grown_same (v ∷ vs) zero time zero = refl
grown_same (v ∷ vs) zero time (suc n) = refl
grown_same (v ∷ vs) (suc i) time zero = refl
grown_same (v ∷ vs) (suc i) time (suc n) = grown_same vs i time n

parents_or : (o : Option world.Version) → (unwrap_or o no_version).parents ≡ (unwrap_or (option_map timeless o) no_version).parents
parents_or None = refl
parents_or (Some v) = refl

same_parents : (old new : List world.Version) (n : ℕ) → AreAlike old new → (unwrap_or (slice_get new n) no_version).parents ≡ (unwrap_or (slice_get old n) no_version).parents
same_parents old new n s = parents_or (slice_get new n) ∙ ap (λ o. (unwrap_or o no_version).parents) (s n) ∙ sym (parents_or (slice_get old n))

kept_by_same : (xs : List world.Object) (old new : List world.Version) → AreAlike old new → (q : ProgId)
    → IsKept (record (new_world [] 0 0) { objects = xs; versions = new }) q → IsKept (record (new_world [] 0 0) { objects = xs; versions = old }) q
kept_by_same xs old new s _ (by_object n x e l) = by_object n x e l
kept_by_same xs old new s _ (by_child u p k c) = by_child u p (kept_by_same xs old new s u k) (subst (λ ps. Contains ps p) (same_parents old new u.0 s) c)

-- Rows of versions

abbrev rows_aged : List (Option Version) → ℕ → ℕ → List (Option Version)
rows_aged rows i time = slice_set rows i (version_aged time (row_at rows i))

pub record WasThere (rows : List (Option Version)) (i time n : ℕ) (x : Version) : Type 0 where
  pub version : Version
  pub there : slice_get rows n ≡ Some (Some version)
  pub is : ((i ≡ n) × (x ≡ record version { latest = time })) ⊎ ((i ≡ n → ⊥) × (x ≡ version))

differs : (n : ℕ) → zero ≡ suc n → ⊥
differs n e = omega (arith, e)

differs_back : (n : ℕ) → suc n ≡ zero → ⊥
differs_back n e = omega (arith, e)

row_was : (r : Option Version) (time : ℕ) (x : Version) → Some (version_aged time r) ≡ Some (Some x) → (v : Version) × (r ≡ Some v) × (x ≡ record v { latest = time })
row_was None time x e = let q : None ≡ Some x = ap (λ o. unwrap_or o None) e in cc
row_was (Some v) time x e = (v, refl, ap (λ (o : Option (Option Version)). unwrap_or (unwrap_or o None) x) (sym e))

was_there : (rows : List (Option Version)) (i time n : ℕ) (x : Version) → slice_get (rows_aged rows i time) n ≡ Some (Some x) → WasThere rows i time n x
was_there [] i time n x e = cc
was_there (r ∷ rows) zero time zero x e = let b = row_was r time x e in record { version = b.0; there = ap Some b.1; is = inl (refl, b.2) }
was_there (r ∷ rows) zero time (suc n) x e = record { version = x; there = e; is = inr (differs n, refl) }
was_there (r ∷ rows) (suc i) time zero x e = record { version = x; there = e; is = inr (differs_back i, refl) }
was_there (r ∷ rows) (suc i) time (suc n) x e =
    let b = was_there rows i time n x e in
    record {
      version = b.version;
      there = b.there;
      is = elim b.is [ inl a ↦ inl (ap suc a.0, a.1) | inr a ↦ inr ((λ q. a.0 (omega (arith, q))), a.1) ];
    }

same_outlines : (rows : List (Option Version)) (i time : ℕ) → HaveSameOutlines rows (rows_aged rows i time)
same_outlines [] i time n = refl
same_outlines (None ∷ rows) zero time zero = refl
same_outlines (Some v ∷ rows) zero time zero = refl
same_outlines (r ∷ rows) zero time (suc n) = refl
same_outlines (r ∷ rows) (suc i) time zero = refl
same_outlines (r ∷ rows) (suc i) time (suc n) = same_outlines rows i time n

still_there : (rows : List (Option Version)) (i time n : ℕ) → IsSome (row_at rows n) → IsSome (row_at (rows_aged rows i time) n)
still_there [] i time n s = s
still_there (None ∷ rows) zero time zero s = s
still_there (Some v ∷ rows) zero time zero s = refl
still_there (r ∷ rows) zero time (suc n) s = s
still_there (r ∷ rows) (suc i) time zero s = s
still_there (r ∷ rows) (suc i) time (suc n) s = still_there rows i time n s

module _ (told : Option Bytes) (programs : List RawProgram) (live : Live) (w : World) (p : ProgId) (h : Stands told programs live w) where
  abbrev versions : List world.Version
  versions = grown w.versions p.0 w.clock

  targets_stay : (n : ℕ) (kept : ℕ → ℕ → Option (Option FunAt)) → AreTargets programs (heritage_in w.versions (record { 0 = n })) kept → AreTargets programs (heritage_in versions (record { 0 = n })) kept
  targets_stay n kept t =
      targets_same programs (heritage_in w.versions (record { 0 = n })) (heritage_in versions (record { 0 = n })) kept
      (heritage_same w.versions versions (record { 0 = n }) (grown_same w.versions p.0 w.clock)) t

  each : (n : ℕ) (x : Version) → slice_get (rows_aged live.versions p.0 live.clock) n ≡ Some (Some x) → IsVersion told programs versions n x
  each n x g =
      let b = was_there live.versions p.0 live.clock n x g in
      let y : Version = b.version in
      let o : IsVersion told programs w.versions n y = h.versions.each n y b.there in
      elim b.is [
        | inl a ↦ subst (IsVersion told programs versions n) (sym a.1) (record {
          version = record (version_at w p) { latest = w.clock };
          there = ap (λ m. slice_get versions m) (sym a.0) ∙ get_set_here w.versions p.0 (record (version_at w p) { latest = w.clock }) o.version (ap (λ m. slice_get w.versions m) a.0 ∙ o.there);
          path = o.path ∙ ap (λ (z : Option world.Version). (unwrap_or z no_version).path) (sym (ap (λ m. slice_get w.versions m) a.0 ∙ o.there));
          latest = h.rest.clock;
          parents = o.parents ∙ ap (λ (z : Option world.Version). (unwrap_or z no_version).parents) (sym (ap (λ m. slice_get w.versions m) a.0 ∙ o.there));
          program = o.program;
          is = o.is;
          outline = o.outline;
          state = o.state;
          targets = targets_stay n (answer_at y.targets) o.targets;
        })
        | inr a ↦ subst (IsVersion told programs versions n) (sym a.1) (record {
          version = o.version;
          there = get_set w.versions p.0 n (record (version_at w p) { latest = w.clock }) a.0 ∙ o.there;
          path = o.path;
          latest = o.latest;
          parents = o.parents;
          program = o.program;
          is = o.is;
          outline = o.outline;
          state = o.state;
          targets = targets_stay n (answer_at y.targets) o.targets;
        })
      ]

  pub version_stands : Stands told programs (version_counted live p) (version_entered w p)
  version_stands = record {
    cells = h.cells;
    objects = h.objects;
    names = h.names;
    versions = record {
      each = each;
      next = length-set live.versions p.0 (version_aged live.clock (row_at live.versions p.0)) ∙ h.versions.next ∙ sym (length-set w.versions p.0 (record (version_at w p) { latest = w.clock }));
      whole = h.versions.whole ∙ sym (length-set w.versions p.0 (record (version_at w p) { latest = w.clock }));
    };
    kept = λ q k. still_there live.versions p.0 live.clock q.0 (h.kept q (kept_by_same w.objects w.versions versions (grown_same w.versions p.0 w.clock) q k));
    rest = h.rest;
  }

pub entry_stands : EntryStands
entry_stands told programs live w o p h i =
    let r = some_row live.objects o.0 i in
    let row : Object = r.0 in
    let b = object_behind told programs live w o.0 row h r.1 in
    let is : IsObject told live.cells w.cells o.0 row b.0 = b.2 in
    let same : program_in (row_at live.objects o.0) ≡ (object_at w o).version
    = ap (λ q. program_in (unwrap_or q None)) r.1 ∙ is.version ∙ ap (λ (y : Option world.Object). (unwrap_or y no_object).version) (sym b.1) in
    let first = object_stands told programs live w o h row r.1 in
    let second = version_stands told programs (object_counted live o) (with_object w o (record (object_at w o) { latest = w.clock })) (object_at w o).version first in
    subst (λ q. Stands told programs (version_counted (version_counted (object_counted live o) q) p) (entered w o p)) (sym same)
    (version_stands told programs (version_counted (object_counted live o) (object_at w o).version) (version_entered (with_object w o (record (object_at w o) { latest = w.clock })) (object_at w o).version) p second)

-- Versions after an entry

timed : (v : world.Version) (time : ℕ) → IsSameVersion v (record v { latest = time })
timed v time = record { path = refl; items = refl; parents = refl; pragmas = refl; simuls = refl }

unchanged : (v u : world.Version) → Some v ≡ Some u → IsSameVersion v u
unchanged v u e = subst (IsSameVersion v) (ap (λ o. unwrap_or o v) e) (record { path = refl; items = refl; parents = refl; pragmas = refl; simuls = refl })

grown_each : (vs : List world.Version) (i time n : ℕ) (v u : world.Version) → slice_get vs n ≡ Some v → slice_get (grown vs i time) n ≡ Some u → IsSameVersion v u
grown_each [] i time n v u e f = cc
grown_each (x ∷ vs) zero time zero v u e f =
    let there : x ≡ v = ap (λ o. unwrap_or o x) e in
    let now : record x { latest = time } ≡ u = ap (λ o. unwrap_or o x) f in
    subst (IsSameVersion v) now (subst (λ y. IsSameVersion y (record x { latest = time })) there (timed x time))
grown_each (x ∷ vs) zero time (suc n) v u e f = unchanged v u (sym e ∙ f)
grown_each (x ∷ vs) (suc i) time zero v u e f = unchanged v u (sym e ∙ f)
grown_each (x ∷ vs) (suc i) time (suc n) v u e f = grown_each vs i time n v u e f

same_grown : (vs : List world.Version) (i time : ℕ) → AreSameVersions vs (grown vs i time)
same_grown vs i time = record { count = length-set vs i (record (unwrap_or (slice_get vs i) no_version) { latest = time }); each = grown_each vs i time }

-- what is at a place of one list is at that of a list as long
got_too : (xs ys : List world.Version) (n : ℕ) (x : world.Version) → length ys ≡ length xs → slice_get xs n ≡ Some x → (y : world.Version) × (slice_get ys n ≡ Some y)
got_too [] ys n x l e = cc
got_too (z ∷ xs) [] n x l e = absurd (omega (arith, l))
got_too (z ∷ xs) (y ∷ ys) zero x l e = (y, refl)
got_too (z ∷ xs) (y ∷ ys) (suc n) x l e = got_too xs ys n x (omega (arith, l)) e

same_after : (a b c : List world.Version) → AreSameVersions a b → AreSameVersions b c → AreSameVersions a c
same_after a b c s t = record {
  count = t.count ∙ s.count;
  each = λ n v u e f.
      let m = got_too a b n v s.count e in
      let x = s.each n v m.0 e m.1 in
      let y = t.each n m.0 u m.1 f in
      record { path = y.path ∙ x.path; items = y.items ∙ x.items; parents = y.parents ∙ x.parents; pragmas = y.pragmas ∙ x.pragmas; simuls = y.simuls ∙ x.simuls };
}

pub entry_versions : EntryKeepsVersions
entry_versions w o p =
    let u : World = version_entered (with_object w o (record (object_at w o) { latest = w.clock })) (object_at w o).version in
    same_after w.versions u.versions (entered w o p).versions (same_grown w.versions (object_at w o).version.0 w.clock) (same_grown u.versions p.0 w.clock)

-- Closed states

extents_aged : (rows : List (Option Object)) (i time : ℕ) → flat_map object_extents (slice_set rows i (object_aged time (row_at rows i))) ≡ flat_map object_extents rows
extents_aged [] i time = refl
extents_aged (None ∷ rows) zero time = refl
extents_aged (Some o ∷ rows) zero time = refl
extents_aged (r ∷ rows) (suc i) time = ap (λ l. object_extents r ++ l) (extents_aged rows i time)

version_extents_aged : (rows : List (Option Version)) (i time : ℕ) → flat_map version_extents (rows_aged rows i time) ≡ flat_map version_extents rows
version_extents_aged [] i time = refl
version_extents_aged (None ∷ rows) zero time = refl
version_extents_aged (Some v ∷ rows) zero time = refl
version_extents_aged (r ∷ rows) (suc i) time = ap (λ l. version_extents r ++ l) (version_extents_aged rows i time)

pub record ObjectWas (rows : List (Option Object)) (n : ℕ) (x : Object) : Type 0 where
  pub object : Object
  pub there : slice_get rows n ≡ Some (Some object)
  pub time : ℕ
  pub is : x ≡ record object { latest = time }

aged_was : (r : Option Object) (time : ℕ) (x : Object) → Some (object_aged time r) ≡ Some (Some x) → (o : Object) × (r ≡ Some o) × (x ≡ record o { latest = time })
aged_was None time x e = let q : None ≡ Some x = ap (λ o. unwrap_or o None) e in cc
aged_was (Some o) time x e = (o, refl, ap (λ (q : Option (Option Object)). unwrap_or (unwrap_or q None) x) (sym e))

object_was : (rows : List (Option Object)) (i time n : ℕ) (x : Object) → slice_get (slice_set rows i (object_aged time (row_at rows i))) n ≡ Some (Some x) → ObjectWas rows n x
object_was [] i time n x e = cc
object_was (r ∷ rows) zero time zero x e = let b = aged_was r time x e in record { object = b.0; there = ap Some b.1; time = time; is = b.2 }
object_was (r ∷ rows) zero time (suc n) x e = record { object = x; there = e; time = x.latest; is = refl }
object_was (r ∷ rows) (suc i) time zero x e = record { object = x; there = e; time = x.latest; is = refl }
object_was (r ∷ rows) (suc i) time (suc n) x e = let b = object_was rows i time n x e in record { object = b.object; there = b.there; time = b.time; is = b.is }

object_counted_closed : (live : Live) (o : ObjId) → IsClosed live → IsClosed (object_counted live o)
object_counted_closed live o h = record {
  clock = h.clock;
  cells = h.cells;
  objects = each;
  apart = apart_alone (slice_set live.objects o.0 (object_aged live.clock (row_at live.objects o.0))) (λ n x g. (each n x g).own);
  versions = h.versions;
  call_outs = h.call_outs;
  waiting = h.waiting;
  placed = h.placed;
  numbered = h.numbered;
  room = subst (λ l. AreTaken (l ++ flat_map version_extents live.versions) live.swapper) (sym (extents_aged live.objects o.0 live.clock)) h.room;
}
  where
    closed_aged : (x : Object) (time : ℕ) → IsObjectClosed live.cells live.versions x → IsObjectClosed live.cells live.versions (record x { latest = time })
    closed_aged x time c = record { version = c.version; there = c.there; variables = c.variables; shared = c.shared; own = c.own }

    each : (n : ℕ) (x : Object) → slice_get (slice_set live.objects o.0 (object_aged live.clock (row_at live.objects o.0))) n ≡ Some (Some x) → IsObjectClosed live.cells live.versions x
    each n x g =
        let b = object_was live.objects o.0 live.clock n x g in
        subst (IsObjectClosed live.cells live.versions) (sym b.is) (closed_aged b.object b.time (h.objects n b.object b.there))

version_counted_closed : (live : Live) (p : ProgId) → IsClosed live → IsClosed (version_counted live p)
version_counted_closed live p h = record {
  clock = h.clock;
  cells = h.cells;
  objects = λ n x g. object_closed live.versions (rows_aged live.versions p.0 live.clock) (same_outlines live.versions p.0 live.clock) live.cells x (h.objects n x g);
  apart = h.apart;
  versions = each;
  call_outs = h.call_outs;
  waiting = h.waiting;
  placed = h.placed;
  numbered = h.numbered;
  room = subst (λ l. AreTaken (flat_map object_extents live.objects ++ l) live.swapper) (sym (version_extents_aged live.versions p.0 live.clock)) h.room;
}
  where
    program_aged : (v : Version) (time : ℕ) (q : RawProgram) → IsProgramClosed live.versions v q → IsProgramClosed live.versions (record v { latest = time }) q
    program_aged v time q c = record { outline = c.outline; slots = c.slots; rows = c.rows; targets = c.targets }

    closed_aged : (n : ℕ) (v : Version) (time : ℕ) → IsVersionClosed live.versions n v → IsVersionClosed live.versions n (record v { latest = time })
    closed_aged n v time c = record {
      lower = c.lower;
      parents = c.parents;
      parts = c.parts;
      variables = c.variables;
      program = λ q e. program_aged v time q (c.program q e);
    }

    each : (n : ℕ) (x : Version) → slice_get (rows_aged live.versions p.0 live.clock) n ≡ Some (Some x) → IsVersionClosed (rows_aged live.versions p.0 live.clock) n x
    each n x g =
        let b = was_there live.versions p.0 live.clock n x g in
        version_closed live.versions (rows_aged live.versions p.0 live.clock) (same_outlines live.versions p.0 live.clock) n x
        (elim b.is [
          | inl a ↦ subst (IsVersionClosed live.versions n) (sym a.1) (closed_aged n b.version live.clock (h.versions n b.version b.there))
          | inr a ↦ subst (IsVersionClosed live.versions n) (sym a.1) (h.versions n b.version b.there)
        ])

pub entry_closed : EntryStaysClosed
entry_closed live o p h =
    version_counted_closed (version_counted (object_counted live o) (program_in (row_at live.objects o.0))) p
    (version_counted_closed (object_counted live o) (program_in (row_at live.objects o.0)) (object_counted_closed live o h))

-- What a count of an entry needs: the object's version is there, and the version of the text still is.

pub version_there : (live : Live) (o : ObjId) → IsClosed live → IsSome (row_at live.objects o.0) → IsSome (row_at live.versions (program_in (row_at live.objects o.0)).0)
version_there live o h i =
    let r = some_row live.objects o.0 i in
    let row : Object = r.0 in
    let c = h.objects o.0 row r.1 in
    subst (λ (q : Option Object). IsSome (row_at live.versions (program_in q).0)) (ap (λ q. unwrap_or q None) (sym r.1)) (subst IsSome (sym c.there) refl)

pub text_there : (live : Live) (q p : ProgId) → IsSome (row_at live.versions p.0) → IsSome (row_at (version_counted live q).versions p.0)
text_there live q p i = still_there live.versions q.0 live.clock p.0 i

pub entered_stands : (old new : Live) (o : ObjId) (p : ProgId) → new ≡ entry_counted old o p → IsSome (row_at old.objects o.0) → StandsEntered old new o p
entered_stands old new o p e i told programs w h = subst (λ l. Stands told programs l (entered w o p)) (sym e) (entry_stands told programs old w o p h i)

pub entered_closed : (old new : Live) (o : ObjId) (p : ProgId) → new ≡ entry_counted old o p → IsClosed old → IsClosed new
entered_closed old new o p e h = subst IsClosed (sym e) (entry_closed old o p h)

pub counted_is : (old : Live) (o : ObjId) (p own : ProgId) (rows : List (Option Object)) (mid new : List (Option Version)) → own ≡ program_in (row_at old.objects o.0) → rows ≡ slice_set old.objects o.0 (object_aged old.clock (row_at old.objects o.0))
    → mid ≡ slice_set old.versions own.0 (version_aged old.clock (row_at old.versions own.0)) → new ≡ slice_set mid p.0 (version_aged old.clock (row_at mid p.0)) → record old { objects = rows; versions = new } ≡ entry_counted old o p
counted_is old o p own rows mid new e f g h =
    ap (λ l. record old { objects = l; versions = new }) f
    ∙ ap (λ vs. record old { objects = slice_set old.objects o.0 (object_aged old.clock (row_at old.objects o.0)); versions = vs })
    (h ∙ ap (λ m. slice_set m p.0 (version_aged old.clock (row_at m p.0))) (g ∙ ap (λ (q : ProgId). slice_set old.versions q.0 (version_aged old.clock (row_at old.versions q.0))) e))
