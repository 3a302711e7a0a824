-- What a destruction leaves: the state stands for the worlds after it, and is closed.
use Rattle.std.proofs.Common.{◌≡◌, ◌∙◌, ℕ, suc, zero, Bool, true, false, not, List, [], ◌∷◌, Option, Some, None, All, refl, ap, sym, subst, inl, inr, slice_get, unwrap_or, length, length-append, map, filter, find, nat_eq, option_map, option_to_list, if◌then◌else◌, arith}
use Rattle.std.specs.List.{flat_map}
use Rattle.std.specs.Prelude.{slice_set}
use Rattle.lp_values.specs.declared.id.ObjId.{ObjId}
use Rattle.lp_values.specs.declared.id.ProgId.{ProgId}
use Rattle.lp_cells.specs.Cells.{IsThere, Store}
use Rattle.lp_code.specs.declared.program.RawProgram.{RawProgram}
use Rattle.lp_objects.specs.Objects as names
use Rattle.lp_objects.specs.Stands as named
use Rattle.lp_objects.specs.declared.objects.Objects.{Objects}
use Rattle.lp_places.specs.Places.{Lying, Shadowing, is_object, places_without, shadows_without}
use Rattle.lp_places.specs.Stands as places
use Rattle.lp_places.specs.declared.places.Places.{Places}
use Rattle.lp_actions.specs.Actions.{Sentence, kept_in_reach, sentences_without}
use Rattle.lp_actions.specs.Held.{Lists, next_in}
use Rattle.lp_actions.specs.declared.actions.Actions.{Actions}
use Rattle.lp_timers.specs.Timers.{CallOut}
use Rattle.lp_timers.specs.Timing.{Timing}
use Rattle.lp_swapfile.specs.Device.{Bytes}
use Rattle.lp_swapfile.specs.Room.{AreTaken, Room, covers}
use Rattle.lp_swapfile.proofs.TakenLemmas.{covers-append}
use Rattle.lp_swapper.specs.Swap.{extent_of}
use Rattle.lp_language.specs.World as world
use Rattle.lp_language.specs.World.{World, is_live, new_world, no_object, object_at}
use Rattle.lp_meaning.specs.IdleAndKept.{IsKept, by_child, by_object}
use Rattle.lp_meaning.specs.WorldSteps.{connection_of, dead, destructed, without_connection_if, without_object}
use Rattle.lp_world.specs.Closed.{ArePlaced, IsClosed, IsObjectClosed, extents_of, object_extents, version_extents}
use Rattle.lp_world.specs.Connecting.{Connecting}
use Rattle.lp_world.specs.Rows.{is_live_row, is_out_state, live_in, object_ticket, row_after_death, row_at, state_in}
use Rattle.lp_world.specs.Stands.{IsObject, ObjectIs, Stands, named_of, waiting_of}
use Rattle.lp_world.specs.Stands as stands
use Rattle.lp_world.specs.declared.connections.Connection.{Connection}
use Rattle.lp_world.specs.declared.connections.Waiting.{Waiting}
use Rattle.lp_world.specs.declared.live.Live.{Live}
use Rattle.lp_world.specs.declared.objects.Object.{Object}
use Rattle.lp_world.specs.declared.objects.ObjectState.{ObjectState}
use Rattle.lp_world.specs.declared.objects.ObjectState.TheVariants as objects_of
use Rattle.lp_world.proofs.Keeping.{get_set, get_set_here, same_or_not}
use Rattle.lp_world.proofs.Numbering.{numbered_filter}
use Rattle.lp_residence.specs.Ending.{timing_without, without_number}
use Rattle.lp_residence.specs.Entering.{AreTakenWithout}
use Rattle.lp_residence.specs.Owners.{ticket_of_state}
use Rattle.lp_residence.proofs.CallOutLemmas.{all_filter}
use Rattle.lp_residence.proofs.Counting.{row_counts, taken_by_counts}
use Rattle.lp_residence.proofs.Entered.{without_object as extents_without}
use Rattle.lp_residence.proofs.RowChanges.{apart_alone, object_behind, row_there}

-- Lists

module _ {A B : Type 0} (f : A → B) (p : B → Bool) where
  pub find_map : (xs : List A) → find p (map f xs) ≡ option_map f (find (λ x. p (f x)) xs)
  find_map [] = refl
  find_map (x ∷ xs) = here (p (f x)) (find_map xs)
    where
      here : (b : Bool) → find p (map f xs) ≡ option_map f (find (λ x. p (f x)) xs) → (if b then Some (f x) else find p (map f xs)) ≡ option_map f (if b then Some x else find (λ x. p (f x)) xs)
      here true i = refl
      here false i = i

  pub filter_map : (xs : List A) → map f (filter (λ x. p (f x)) xs) ≡ filter p (map f xs)
  filter_map [] = refl
  filter_map (x ∷ xs) = here (p (f x)) (filter_map xs)
    where
      here : (b : Bool) → map f (filter (λ x. p (f x)) xs) ≡ filter p (map f xs) → map f (if b then x ∷ filter (λ x. p (f x)) xs else filter (λ x. p (f x)) xs) ≡ (if b then f x ∷ filter p (map f xs) else filter p (map f xs))
      here true i = ap (λ l. f x ∷ l) i
      here false i = i

-- Names

killed_named : (xs : List world.Object) (n : ℕ) (x : world.Object) → slice_get xs n ≡ Some x → names.killed_from n (map named_of xs) ≡ map named_of (slice_set xs n (dead x))
killed_named [] n x e = refl
killed_named (y ∷ ys) zero x e = ap (λ o. named_of (dead (unwrap_or o x)) ∷ map named_of ys) e
killed_named (y ∷ ys) (suc n) x e = ap (λ l. named_of y ∷ l) (killed_named ys n x e)

named_at : (xs : List world.Object) (n : ℕ) → slice_get (map named_of xs) n ≡ option_map named_of (slice_get xs n)
named_at [] n = refl
named_at (x ∷ xs) zero = refl
named_at (x ∷ xs) (suc n) = named_at xs n

named_after : (b : Bool) (t : Objects) (xs : List world.Object) (o : ObjId) (x : world.Object) → slice_get xs o.0 ≡ Some x → x.is_live ≡ true
    → b ≡ names.is_live (map named_of xs) o → named.Stands t (if b then names.killed (map named_of xs) o else map named_of xs) → named.Stands t (map named_of (slice_set xs o.0 (dead x)))
named_after b t xs o x e l q h =
    let is : b ≡ true = q ∙ ap names.lives (named_at xs o.0 ∙ ap (option_map named_of) e) ∙ l in
    subst (named.Stands t) (killed_named xs o.0 x e) (rw is at h)

-- Kept versions

kept_before : (versions : List world.Version) (old new : List world.Object)
    → ((n : ℕ) (x : world.Object) → slice_get new n ≡ Some x → x.is_live ≡ true → slice_get old n ≡ Some x)
    → (v : ProgId) → IsKept (record (new_world [] 0 0) { objects = new; versions = versions }) v → IsKept (record (new_world [] 0 0) { objects = old; versions = versions }) v
kept_before versions old new f _ (by_object n x e l) = by_object n x (f n x e l) l
kept_before versions old new f _ (by_child v p k c) = by_child v p (kept_before versions old new f v k) c

live_before : (xs : List world.Object) (o : ℕ) (y : world.Object) → slice_get xs o ≡ Some y → (n : ℕ) (x : world.Object) → slice_get (slice_set xs o (dead y)) n ≡ Some x → x.is_live ≡ true → slice_get xs n ≡ Some x
live_before xs o y e n x g l = elim (same_or_not o n) [
  | inl q ↦
      let s : Some (dead y) ≡ Some x = sym (get_set_here xs o (dead y) y e) ∙ ap (λ n. slice_get (slice_set xs o (dead y)) n) q ∙ g in
      let k : false ≡ true = ap (λ k. (unwrap_or k y).is_live) s ∙ l in
      absurd (differ k)
  | inr d ↦ sym (get_set xs o n (dead y) d) ∙ g
]
  where
    differ : false ≡ true → ⊥
    differ q = cc

-- Objects

dead_row : (told : Option Bytes) (part whole : Store) (n : ℕ) (row : Object) (x : world.Object) (b : Bool) → is_out_state row.state ≡ b
    → IsObject told part whole n row x → ObjectIs told part whole n (Some (if b then None else Some (record row { is_live = false; is_living = false }))) (Some (dead x))
dead_row told part whole n row x true e h = refl
dead_row told part whole n row x false e h = record { version = h.version; live = refl; living = refl; latest = λ q. absurd (differ q); variables = h.variables }
  where
    differ : false ≡ true → ⊥
    differ q = cc

objects_after : (told : Option Bytes) (programs : List RawProgram) (live : Live) (w : World) (o : ObjId) (row : Object) (x : world.Object)
    → Stands told programs live w → slice_get live.objects o.0 ≡ Some (Some row) → slice_get w.objects o.0 ≡ Some x → IsObject told live.cells w.cells o.0 row x
    → stands.AreObjects told live.cells w.cells (slice_set live.objects o.0 (row_after_death (Some row))) (slice_set w.objects o.0 (dead x))
objects_after told programs live w o row x h e q is n = elim (same_or_not o.0 n) [
  | inl s ↦ subst (λ n. ObjectIs told live.cells w.cells n (slice_get (slice_set live.objects o.0 (row_after_death (Some row))) n) (slice_get (slice_set w.objects o.0 (dead x)) n)) s
      (rw (get_set_here live.objects o.0 (row_after_death (Some row)) (Some row) e, get_set_here w.objects o.0 (dead x) x q)
      (dead_row told live.cells w.cells o.0 row x (is_out_state row.state) refl is))
  | inr d ↦ rw (get_set live.objects o.0 n (row_after_death (Some row)) d, get_set w.objects o.0 n (dead x) d) (h.objects n)
]

-- Connections

number_same : (o : Option Connection) → option_map (λ c. c.number) o ≡ option_map (λ (c : world.Connection). c.number) (option_map stands.connection_of o)
number_same None = refl
number_same (Some c) = refl

connection_same : (opened : List Connection) (connections : List world.Connection) (o : ObjId) → map stands.connection_of opened ≡ connections
    → option_map (λ c. c.number) (find (λ c. nat_eq c.object.0 o.0) opened) ≡ option_map (λ c. c.number) (find (λ c. is_object c.object o) connections)
connection_same opened connections o e =
    number_same (find (λ c. nat_eq c.object.0 o.0) opened)
    ∙ ap (λ r. option_map (λ (c : world.Connection). c.number) r) (sym (find_map stands.connection_of (λ c. is_object c.object o) opened))
    ∙ ap (λ l. option_map (λ (c : world.Connection). c.number) (find (λ c. is_object c.object o) l)) e

-- What changes with an object that ends: the tables, by what their calls say.
pub record Ends (live : Live) (o : ObjId) (names_after : Objects) (places_after : Places) (actions_after : Actions) (kill : Bool) (k : Option ℕ) : Type 0 where
  pub killed : (objects : List names.Named) → named.Stands live.names objects → named.Stands names_after (if kill then names.killed objects o else objects)
  pub was : (objects : List names.Named) → named.Stands live.names objects → kill ≡ names.is_live objects o
  pub clones : named.next_clone_in names_after ≡ named.next_clone_in live.names
  pub left : (ps : List Lying) (ss : List Shadowing) → places.Stands live.places ps ss → places.Stands places_after (places_without ps o) (shadows_without ss o)
  pub kept : (ps : List Lying) (ss : List Shadowing) (acts : List Sentence) → places.Stands live.places ps ss → Lists live.actions acts → Lists actions_after (kept_in_reach (places_without ps o) (sentences_without acts o))
  pub sentences : next_in actions_after ≡ next_in live.actions
  pub number : k ≡ option_map (λ c. c.number) (find (λ c. nat_eq c.object.0 o.0) live.connections.opened)

-- the state after it
abbrev pub ended : Live → ObjId → Objects → Places → Actions → Option ℕ → Room → Live
ended live o n p a k r = record live {
  names = n;
  objects = slice_set live.objects o.0 (row_after_death (row_at live.objects o.0));
  places = p;
  actions = a;
  timers = timing_without live.timers o;
  connections = without_number live.connections k;
  swapper = r;
}

module _ (told : Option Bytes) (programs : List RawProgram) (live : Live) (w : World) (o : ObjId) (row : Object) (x : world.Object) (n : Objects) (p : Places) (a : Actions) (kill : Bool) (r : Room)
    (h : Stands told programs live w) (e : slice_get live.objects o.0 ≡ Some (Some row)) (q : slice_get w.objects o.0 ≡ Some x) (is : IsObject told live.cells w.cells o.0 row x) (l : x.is_live ≡ true) where
  at : object_at w o ≡ x
  at = ap (λ y. unwrap_or y no_object) q

  objects : stands.AreObjects told live.cells w.cells (slice_set live.objects o.0 (row_after_death (row_at live.objects o.0))) (slice_set w.objects o.0 (dead (object_at w o)))
  objects = subst (λ y. stands.AreObjects told live.cells w.cells (slice_set live.objects o.0 (row_after_death (row_at live.objects o.0))) (slice_set w.objects o.0 (dead y))) (sym at)
      (subst (λ y. stands.AreObjects told live.cells w.cells (slice_set live.objects o.0 (row_after_death y)) (slice_set w.objects o.0 (dead x))) (ap (λ y. unwrap_or y None) (sym e)) (objects_after told programs live w o row x h e q is))

  kept : stands.AreKept live.versions (slice_set w.objects o.0 (dead (object_at w o))) w.versions
  kept v k = h.kept v (kept_before w.versions w.objects (slice_set w.objects o.0 (dead (object_at w o)))
      (subst (λ y. (n : ℕ) (z : world.Object) → slice_get (slice_set w.objects o.0 (dead y)) n ≡ Some z → z.is_live ≡ true → slice_get w.objects n ≡ Some z) (sym at) (live_before w.objects o.0 x q)) v k)

  names_are : (k : Option ℕ) → Ends live o n p a kill k → named.Stands n (map named_of (slice_set w.objects o.0 (dead (object_at w o))))
  names_are k f = subst (λ y. named.Stands n (map named_of (slice_set w.objects o.0 (dead y)))) (sym at)
      (named_after kill n w.objects o x q l (f.was (map named_of w.objects) h.names) (f.killed (map named_of w.objects) h.names))

  stands_ended : (k : Option ℕ) → Ends live o n p a kill k → Stands told programs (ended live o n p a k r) (without_connection_if (without_object w o) k)
  stands_ended None f = record {
    cells = h.cells;
    objects = objects;
    names = names_are None f;
    versions = h.versions;
    kept = kept;
    rest = record {
      files = h.rest.files;
      simul = h.rest.simul;
      places = f.left w.places w.shadows h.rest.places;
      sentences = f.kept w.places w.shadows w.sentences h.rest.places h.rest.sentences;
      next_sentence = f.sentences ∙ h.rest.next_sentence;
      timing = ap (λ t. timing_without t o) h.rest.timing;
      connections = h.rest.connections;
      highest = h.rest.highest;
      present = h.rest.present;
      waiting = h.rest.waiting;
      clock = h.rest.clock;
      generator = h.rest.generator;
      next_clone = f.clones ∙ h.rest.next_clone;
    };
  }
  stands_ended (Some k) f = record {
    cells = h.cells;
    objects = objects;
    names = names_are (Some k) f;
    versions = h.versions;
    kept = kept;
    rest = record {
      files = h.rest.files;
      simul = h.rest.simul;
      places = f.left w.places w.shadows h.rest.places;
      sentences = f.kept w.places w.shadows w.sentences h.rest.places h.rest.sentences;
      next_sentence = f.sentences ∙ h.rest.next_sentence;
      timing = ap (λ t. timing_without t o) h.rest.timing;
      connections = filter_map stands.connection_of (λ c. not (nat_eq c.number k)) live.connections.opened ∙ ap (λ cs. filter (λ c. not (nat_eq c.number k)) cs) h.rest.connections;
      highest = h.rest.highest;
      present = h.rest.present;
      waiting = filter_map waiting_of (λ y. not (nat_eq y.connection k)) live.connections.waiting ∙ ap (λ ys. filter (λ y. not (nat_eq y.connection k)) ys) h.rest.waiting;
      clock = h.rest.clock;
      generator = h.rest.generator;
      next_clone = f.clones ∙ h.rest.next_clone;
    };
  }

pub stands_destroyed : (told : Option Bytes) (programs : List RawProgram) (live : Live) (w : World) (o : ObjId) (row : Object) (n : Objects) (p : Places) (a : Actions) (kill : Bool) (k : Option ℕ) (r : Room)
    → Ends live o n p a kill k → slice_get live.objects o.0 ≡ Some (Some row) → row.is_live ≡ true
    → Stands told programs live w → Stands told programs (ended live o n p a k r) (destructed w o) × (k ≡ connection_of w o)
stands_destroyed told programs live w o row n p a kill k r f e l h =
    let b = object_behind told programs live w o.0 row h e in
    let is : is_live w o ≡ true = ap (λ y. (unwrap_or y no_object).is_live) b.1 ∙ sym b.2.live ∙ l in
    let same : k ≡ connection_of w o = f.number ∙ connection_same live.connections.opened w.connections o h.rest.connections in
    let stand = stands_ended told programs live w o row b.0 n p a kill r h e b.1 b.2 (sym b.2.live ∙ l) k f in
    (rw is (subst (λ j. Stands told programs (ended live o n p a k r) (without_connection_if (without_object w o) j)) same stand), same)

-- the row of a live object
pub live_row : (rows : List (Option Object)) (o : ObjId) → live_in rows o ≡ true → (row : Object) × (row_at rows o.0 ≡ Some row) × (row.is_live ≡ true)
unfolding live_in
live_row rows o h = found (row_at rows o.0) h
  where
    found : (r : Option Object) → is_live_row r ≡ true → (row : Object) × (r ≡ Some row) × (row.is_live ≡ true)
    found None e = cc
    found (Some row) e = (row, refl, e)

pub same_ended : (live : Live) (o : ObjId) (n : Objects) (p : Places) (a : Actions) (k : Option ℕ) (r : Room) (os : List (Option Object)) (ts : Timing) (cs : Connecting)
    → os ≡ slice_set live.objects o.0 (row_after_death (row_at live.objects o.0)) → ts ≡ timing_without live.timers o → cs ≡ without_number live.connections k
    → record live { names = n; objects = os; places = p; actions = a; timers = ts; connections = cs; swapper = r } ≡ ended live o n p a k r
same_ended live o n p a k r os ts cs e f g = rw (e, f, g) refl

-- Closed

dead_closed : (live : Live) (row x : Object) (b : Bool) → (if b then None else Some (record row { is_live = false; is_living = false })) ≡ Some x → IsObjectClosed live.cells live.versions row → IsObjectClosed live.cells live.versions x
dead_closed live row x true e h = absurd (none e)
  where
    none : None ≡ Some x → ⊥
    none q = cc
dead_closed live row x false e h =
    subst (IsObjectClosed live.cells live.versions) (ap (λ o. unwrap_or o x) e)
    (record { version = h.version; there = h.there; variables = h.variables; shared = h.shared; own = h.own })

waiting_closed : (live : Live) (k : Option ℕ) → All (λ (x : Waiting). All (IsThere live.cells) x.arguments) live.connections.waiting → All (λ (x : Waiting). All (IsThere live.cells) x.arguments) (without_number live.connections k).waiting
waiting_closed live None h = h
waiting_closed live (Some k) h = all_filter (λ (x : Waiting). All (IsThere live.cells) x.arguments) (λ x. not (nat_eq x.connection k)) live.connections.waiting h

still_taken : (live : Live) (o : ObjId) (row : Object) (r : Room) (s : ObjectState) → row.state ≡ s → IsClosed live → slice_get live.objects o.0 ≡ Some (Some row) → AreTakenWithout (object_ticket s) live.swapper r
    → AreTaken (extents_of (slice_set live.objects o.0 (row_after_death (Some row))) live.versions) r
still_taken live o row r (objects_of.Resident vs) e h g t =
    let dead : row_after_death (Some row) ≡ Some (record row { is_live = false; is_living = false }) = rw e refl in
    let was : object_extents (Some row) ≡ [] = ap (λ s. option_to_list (option_map extent_of (object_ticket s))) e in
    subst (λ x. AreTaken (extents_of (slice_set live.objects o.0 x) live.versions) r) (sym dead)
    (subst (AreTaken (extents_of (slice_set live.objects o.0 (Some (record row { is_live = false; is_living = false }))) live.versions)) (sym t)
    (taken_by_counts (extents_of live.objects live.versions) (extents_of (slice_set live.objects o.0 (Some (record row { is_live = false; is_living = false }))) live.versions) live.swapper
    (let a = row_counts object_extents length length-append live.objects o.0 (Some row) (Some (record row { is_live = false; is_living = false })) g in
    let x = length-append (flat_map object_extents live.objects) (flat_map version_extents live.versions) in
    let y = length-append (flat_map object_extents (slice_set live.objects o.0 (Some (record row { is_live = false; is_living = false })))) (flat_map version_extents live.versions) in
    omega (arith, a, x, y))
    (λ i.
    let a = row_counts object_extents (covers i) (covers-append i) live.objects o.0 (Some row) (Some (record row { is_live = false; is_living = false })) g in
    let x = covers-append i (flat_map object_extents live.objects) (flat_map version_extents live.versions) in
    let y = covers-append i (flat_map object_extents (slice_set live.objects o.0 (Some (record row { is_live = false; is_living = false })))) (flat_map version_extents live.versions) in
    omega (arith, a, x, y))
    h.room))
still_taken live o row r (objects_of.Swapped u shared own) e h g t =
    let dead : row_after_death (Some row) ≡ None = rw e refl in
    subst (λ x. AreTaken (extents_of (slice_set live.objects o.0 x) live.versions) r) (sym dead)
    (t (extents_of (slice_set live.objects o.0 None) live.versions) (extents_without live o row None u h g (ap object_ticket e) refl))

pub closed_destroyed : (live : Live) (o : ObjId) (row : Object) (n : Objects) (p : Places) (a : Actions) (k : Option ℕ) (r : Room)
    → IsClosed live → ArePlaced p → row_at live.objects o.0 ≡ Some row → AreTakenWithout (ticket_of_state (state_in (row_at live.objects o.0))) live.swapper r → IsClosed (ended live o n p a k r)
closed_destroyed live o row n p a k r h left e t = record {
  clock = h.clock;
  cells = h.cells;
  objects = each;
  apart = apart_alone (slice_set live.objects o.0 (row_after_death (row_at live.objects o.0))) (λ m x g. (each m x g).own);
  versions = h.versions;
  call_outs = all_filter (λ (c : CallOut). All (IsThere live.cells) c.arguments) (λ c. not (nat_eq c.object.0 o.0)) live.timers.call_outs h.call_outs;
  waiting = waiting_closed live k h.waiting;
  placed = left;
  numbered = numbered_filter (λ c. not (nat_eq c.object.0 o.0)) live.timers (timing_without live.timers o) refl refl h.numbered;
  room = subst (λ x. AreTaken (extents_of (slice_set live.objects o.0 (row_after_death x)) live.versions) r) (sym e)
      (still_taken live o row r row.state refl h there (subst (λ x. AreTakenWithout (ticket_of_state (state_in x)) live.swapper r) e t));
}
  where
    there : slice_get live.objects o.0 ≡ Some (Some row)
    there = row_there live.objects o.0 row e

    each : (m : ℕ) (x : Object) → slice_get (slice_set live.objects o.0 (row_after_death (row_at live.objects o.0))) m ≡ Some (Some x) → IsObjectClosed live.cells live.versions x
    each m x g = elim (same_or_not o.0 m) [
      | inl s ↦
          let q : Some (row_after_death (row_at live.objects o.0)) ≡ Some (Some x) = sym (get_set_here live.objects o.0 (row_after_death (row_at live.objects o.0)) (Some row) there) ∙ ap (λ j. slice_get (slice_set live.objects o.0 (row_after_death (row_at live.objects o.0))) j) s ∙ g in
          let d : row_after_death (Some row) ≡ Some x = ap row_after_death (sym e) ∙ ap (λ j. unwrap_or j None) q in
          dead_closed live row x (is_out_state row.state) d (h.objects o.0 row there)
      | inr d ↦ h.objects m x (sym (get_set live.objects o.0 m (row_after_death (row_at live.objects o.0)) d) ∙ g)
    ]
