-- What stands where outputs and connections change.
use Rattle.std.proofs.Common.{◌≡◌, ◌∙◌, ◌+◌, ◌++◌, ◌∷◌, [], arith, ℕ, zero, suc, Bool, true, false, not, ◌&&◌, List, Option, Some, None, IsSome, All, refl, ap, sym, subst, filter, find, map, nat_eq, option_map, slice_get, unwrap_or, append_assoc, if◌then◌else◌}
use Rattle.std.proofs.lemmas.List.Elements.{All-filter}
use Rattle.lp_values.specs.declared.id.ObjId.{ObjId}
use Rattle.lp_code.specs.declared.program.RawProgram.{RawProgram}
use Rattle.lp_cells.specs.Cells.{IsThere}
use Rattle.lp_events.specs.declared.out.Out.{Out}
use Rattle.lp_instr.specs.EfunList.{is_name}
use Rattle.lp_swapfile.specs.Device.{Bytes}
use Rattle.lp_language.specs.Course.{Course, State}
use Rattle.lp_language.specs.World as world
use Rattle.lp_language.specs.World.{World, is_live, named_from, no_object, object_named}
use Rattle.lp_meaning.specs.Askers.{told}
use Rattle.lp_meaning.specs.EventTurns.{waiting_for}
use Rattle.lp_meaning.specs.WorldSteps.{holder_of}
use Rattle.lp_world.specs.Closed.{IsClosed}
use Rattle.lp_world.specs.Connecting.{Connecting}
use Rattle.lp_world.specs.Rows.{is_live_row, live_in, row_at}
use Rattle.lp_world.specs.Stands as stands
use Rattle.lp_world.specs.Stands.{Stands}
use Rattle.lp_world.specs.declared.connections.Connection.{Connection}
use Rattle.lp_world.specs.declared.connections.Waiting.{Waiting}
use Rattle.lp_world.specs.declared.live.Live.{Live}
use Rattle.lp_world.specs.declared.objects.Object.{Object}
use Rattle.lp_world.proofs.Keeping.{live_same}
use Rattle.lp_targets.specs.Callees.{IsWorldOf}
use Rattle.lp_records.proofs.Telling.{find_map}
use Rattle.lp_turn.specs.Going.{BeginsWith, LeadsTo}
use Rattle.lp_turn.specs.Resting.{Rests}
use Rattle.lp_turn.specs.declared.job.Step.{Step}

-- other connections, and other outputs
pub world_changed : (told : Option Bytes) (programs : List RawProgram) (live : Live) (w : World) (c : Connecting) (os : List Out) (cs : List world.Connection) (top : ℕ) (present : List ℕ) (ws : List world.Waiting)
    → IsWorldOf told programs live w → map stands.connection_of c.opened ≡ cs → c.highest ≡ top → c.present ≡ present → map stands.waiting_of c.waiting ≡ ws
    → IsWorldOf told programs (record live { connections = c; outputs = os }) (record w { connections = cs; highest = top; present = present; waiting = ws })
world_changed told programs live w c os cs top present ws h a b d e =
    let s = h.stands in
    let r = s.rest in
    record {
      stands = record {
        cells = s.cells;
        objects = s.objects;
        names = s.names;
        versions = s.versions;
        kept = s.kept;
        rest = record {
          files = r.files;
          simul = r.simul;
          places = r.places;
          sentences = r.sentences;
          next_sentence = r.next_sentence;
          timing = r.timing;
          connections = a;
          highest = b;
          present = d;
          waiting = e;
          clock = r.clock;
          generator = r.generator;
          next_clone = r.next_clone;
        };
      };
      compiled = h.compiled;
      shadows = h.shadows;
    }

-- the same in which a turn rests
pub rests_changed : (g : Option Bytes) (programs : List RawProgram) (before : List Out) (live : Live) (s : State) (c : Connecting) (os : List Out) (cs : List world.Connection) (top : ℕ) (present : List ℕ) (ws : List world.Waiting)
    → Rests g programs before live s → map stands.connection_of c.opened ≡ cs → c.highest ≡ top → c.present ≡ present → map stands.waiting_of c.waiting ≡ ws
    → Rests g programs before (record live { connections = c; outputs = live.outputs ++ os }) (told os (record s { world = record s.world { connections = cs; highest = top; present = present; waiting = ws } }))
rests_changed g programs before live s c os cs top present ws h a b d e = record {
  world = world_changed g programs live s.world c (live.outputs ++ os) cs top present ws h.world a b d e;
  outputs = ap (λ l. l ++ os) h.outputs ∙ append_assoc before s.outputs os;
}

pub rests_connected : (g : Option Bytes) (programs : List RawProgram) (before : List Out) (live : Live) (s : State) (c : Connecting) (cs : List world.Connection) (top : ℕ) (present : List ℕ) (ws : List world.Waiting)
    → Rests g programs before live s → map stands.connection_of c.opened ≡ cs → c.highest ≡ top → c.present ≡ present → map stands.waiting_of c.waiting ≡ ws
    → Rests g programs before (record live { connections = c }) (record s { world = record s.world { connections = cs; highest = top; present = present; waiting = ws } })
rests_connected g programs before live s c cs top present ws h a b d e = record {
  world = world_changed g programs live s.world c live.outputs cs top present ws h.world a b d e;
  outputs = h.outputs;
}

pub rests_told : (g : Option Bytes) (programs : List RawProgram) (before : List Out) (live : Live) (s : State) (os : List Out) → Rests g programs before live s → Rests g programs before (record live { outputs = live.outputs ++ os }) (told os s)
rests_told g programs before live s os h =
    let r = h.world.stands.rest in
    rests_changed g programs before live s live.connections os s.world.connections s.world.highest s.world.present s.world.waiting h r.connections r.highest r.present r.waiting

-- the state stands whatever the outputs are
pub stands_told : (g : Option Bytes) (programs : List RawProgram) (live : Live) (w : World) (os : List Out) → Stands g programs live w → Stands g programs (record live { outputs = os }) w
stands_told g programs live w os h = record {
  cells = h.cells;
  objects = h.objects;
  names = h.names;
  versions = h.versions;
  kept = h.kept;
  rest = h.rest;
}

-- closed states
pub closed_waiting : (live : Live) (c : Connecting) (k : ℕ) → IsClosed live → c.waiting ≡ filter (λ x. not (nat_eq x.connection k)) live.connections.waiting → IsClosed (record live { connections = c })
closed_waiting live c k h e = record {
  clock = h.clock;
  cells = h.cells;
  objects = h.objects;
  apart = h.apart;
  versions = h.versions;
  call_outs = h.call_outs;
  waiting = subst (λ (ws : List Waiting). All (λ (x : Waiting). All (IsThere live.cells) x.arguments) ws) (sym e)
      (All-filter (λ x. not (nat_eq x.connection k)) (λ (x : Waiting). All (IsThere live.cells) x.arguments) live.connections.waiting h.waiting);
  placed = h.placed;
  numbered = h.numbered;
  room = h.room;
}

-- lists that are filtered
module _ {A B : Type 0} (f : A → B) (p : B → Bool) where
  pub filter_map : (xs : List A) → map f (filter (λ x. p (f x)) xs) ≡ filter p (map f xs)
  filter_map [] = refl
  filter_map (x ∷ xs) = here (p (f x)) (filter_map xs)
    where
      here : (b : Bool) → map f (filter (λ x. p (f x)) xs) ≡ filter p (map f xs) → map f (if b then x ∷ filter (λ x. p (f x)) xs else filter (λ x. p (f x)) xs) ≡ (if b then f x ∷ filter p (map f xs) else filter p (map f xs))
      here true i = ap (λ l. f x ∷ l) i
      here false i = i

pub opened_without : (g : Option Bytes) (programs : List RawProgram) (live : Live) (w : World) (k : ℕ) → Stands g programs live w
    → map stands.connection_of (filter (λ c. not (nat_eq c.number k)) live.connections.opened) ≡ filter (λ c. not (nat_eq c.number k)) w.connections
opened_without g programs live w k h = filter_map stands.connection_of (λ c. not (nat_eq c.number k)) live.connections.opened ∙ ap (filter (λ c. not (nat_eq c.number k))) h.rest.connections

pub waiting_without : (g : Option Bytes) (programs : List RawProgram) (live : Live) (w : World) (k : ℕ) → Stands g programs live w
    → map stands.waiting_of (filter (λ x. not (nat_eq x.connection k)) live.connections.waiting) ≡ filter (λ x. not (nat_eq x.connection k)) w.waiting
waiting_without g programs live w k h = filter_map stands.waiting_of (λ x. not (nat_eq x.connection k)) live.connections.waiting ∙ ap (filter (λ x. not (nat_eq x.connection k))) h.rest.waiting

-- the holder of a connection
held_same : (o : Option Connection) → option_map (λ c. c.object) (option_map stands.connection_of o) ≡ option_map (λ c. c.object) o
held_same None = refl
held_same (Some c) = refl

pub holder_in : (g : Option Bytes) (programs : List RawProgram) (live : Live) (w : World) (k : ℕ) → Stands g programs live w → holder_of w k ≡ option_map (λ c. c.object) (find (λ c. nat_eq c.number k) live.connections.opened)
holder_in g programs live w k h =
    ap (λ cs. option_map (λ c. c.object) (find (λ c. nat_eq c.number k) cs)) (sym h.rest.connections)
    ∙ ap (option_map (λ c. c.object)) (find_map stands.connection_of (λ c. nat_eq c.number k) live.connections.opened)
    ∙ held_same (find (λ c. nat_eq c.number k) live.connections.opened)

-- what waits for a line
pub waiting_in : (g : Option Bytes) (programs : List RawProgram) (live : Live) (w : World) (k : ℕ) → Stands g programs live w → waiting_for w k ≡ option_map stands.waiting_of (find (λ x. nat_eq x.connection k) live.connections.waiting)
waiting_in g programs live w k h =
    ap (λ ws. find (λ x. nat_eq x.connection k) ws) (sym h.rest.waiting) ∙ find_map stands.waiting_of (λ x. nat_eq x.connection k) live.connections.waiting

-- which objects are live
pub lives_in : (g : Option Bytes) (programs : List RawProgram) (live : Live) (w : World) (o : ObjId) → Stands g programs live w → is_live w o ≡ live_in live.objects o
lives_in g programs live w o h = ap (λ l. l o) (sym (live_same g programs live w h))

-- a live object has its row
pub live_row : (live : Live) (o : ObjId) → live_in live.objects o ≡ true → IsSome (row_at live.objects o.0)
unfolding live_in
live_row live o h = by (row_at live.objects o.0) h
  where
    by : (r : Option Object) → is_live_row r ≡ true → IsSome r
    by None e = cc
    by (Some x) e = refl

-- an object that a name finds is live
found_lives : (name : List ℕ) (n : ℕ) (xs : List world.Object) (o : ObjId) → named_from name n xs ≡ Some o → (i : ℕ) × (o.0 ≡ n + i) × ((unwrap_or (slice_get xs i) no_object).is_live ≡ true)
found_lives name n [] o e = cc
found_lives name n (x ∷ xs) o e = by x.is_live (is_name x.name name) refl e (found_lives name (suc n) xs o)
  where
    by : (a b : Bool) → x.is_live ≡ a → (if a && b then Some (record { 0 = n }) else named_from name (suc n) xs) ≡ Some o
        → (named_from name (suc n) xs ≡ Some o → (i : ℕ) × (o.0 ≡ suc n + i) × ((unwrap_or (slice_get xs i) no_object).is_live ≡ true))
        → (i : ℕ) × (o.0 ≡ n + i) × ((unwrap_or (slice_get (x ∷ xs) i) no_object).is_live ≡ true)
    by true true l e f = let q : n ≡ o.0 = ap (λ (r : Option ObjId). (unwrap_or r o).0) e in (zero, omega (arith, q), l)
    by true false l e f = let r = f e in let q = r.1 in (suc r.0, omega (arith, q), r.2)
    by false b l e f = let r = f e in let q = r.1 in (suc r.0, omega (arith, q), r.2)

pub named_lives : (w : World) (name : List ℕ) (o : ObjId) → object_named w name ≡ Some o → is_live w o ≡ true
named_lives w name o e = let r = found_lives name 0 w.objects o e in let q = r.1 in let i : o.0 ≡ r.0 = omega (arith, q) in ap (λ n. (unwrap_or (slice_get w.objects n) no_object).is_live) i ∙ r.2

-- the same course
pub leads_as : (r : Step) (g : Option Bytes) (programs : List RawProgram) (before : List Out) (live : Live) (c d : Course (Unit {0})) → d ≡ c → LeadsTo r g programs before live c → LeadsTo r g programs before live d
leads_as r g programs before live c d e h = subst (λ x. LeadsTo r g programs before live x) (sym e) h

pub begins_as : (first second : State → Course (Unit {0})) (live0 live1 : Live) (r : Step) → ((g : Option Bytes) (programs : List RawProgram) (s : State) → Stands g programs live0 s.world → second s ≡ first s)
    → BeginsWith first live0 live1 r → BeginsWith second live0 live1 r
begins_as first second live0 live1 r e h g programs before s i = leads_as r g programs before live1 (first s) (second s) (e g programs s i.world.stands) (h g programs before s i)
