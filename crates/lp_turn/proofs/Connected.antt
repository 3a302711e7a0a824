-- Connections that come, get objects and are closed.
use Rattle.std.proofs.Common.{◌≡◌, ◌∙◌, ◌++◌, ◌∷◌, [], ℕ, Bool, true, false, ◌&&◌, List, Option, Some, None, refl, ap, sym, subst, codes, filter, find, length, nat_eq, nat_lt, not, map, option_map, is_some, if◌then◌else◌}
use Rattle.std.proofs.lemmas.List.{length-map}
use Rattle.lp_values.specs.declared.id.ObjId.{ObjId}
use Rattle.lp_values.specs.declared.value.Value.{Value}
use Rattle.lp_values.specs.declared.value.Value.TheVariants as values
use Rattle.lp_values.specs.Read.{is_zero}
use Rattle.lp_code.specs.declared.program.RawProgram.{RawProgram}
use Rattle.lp_events.specs.declared.out.Out.{Out}
use Rattle.lp_events.specs.declared.out.Out.TheVariants as outs
use Rattle.lp_swapfile.specs.Device.{Bytes}
use Rattle.lp_language.specs.Course.{Asks, Course, State, after, and_then}
use Rattle.lp_language.specs.Operations.{is_false}
use Rattle.lp_language.specs.World.{World, is_live}
use Rattle.lp_meaning.specs.Askers.{driver, question, told}
use Rattle.lp_meaning.specs.EventTurns.{admitted, after_logon, begun, closed, connect_turn, done, driver_master, free_object, gone_turn, numbered, without_number}
use Rattle.lp_meaning.specs.Limits.{max_connections}
use Rattle.lp_meaning.specs.WorldSteps.{holder_of, is_connected, is_open, with_connection, without_connection}
use Rattle.lp_world.specs.Rows.{live_in}
use Rattle.lp_world.specs.Stands as stands
use Rattle.lp_world.specs.Stands.{Stands}
use Rattle.lp_world.specs.declared.connections.Connection.{Connection}
use Rattle.lp_world.specs.declared.live.Live.{Live}
use Rattle.lp_world.proofs.Keeping.{live_same}
use Rattle.lp_records.proofs.Telling.{connection_in}
use Rattle.lp_turn.specs.Calls.{IsAskedThere, asked_of, question_of, state_behind}
use Rattle.lp_turn.specs.Connections as changes
use Rattle.lp_turn.specs.Connections.{HasClosed, HasForgotten, HasGiven, HasNumbered, IsFreeObject, IsFreeOf, closed_in, closed_then_done, free_in, given_in, numbered_in}
use Rattle.lp_turn.specs.Resting.{Rests}
use Rattle.lp_turn.specs.Going.{BeginsAs, BeginsWith, Goes}
use Rattle.lp_turn.specs.Turns.{plain_done, waiting_course}
use Rattle.lp_turn.specs.declared.job.Asked.{Asked}
use Rattle.lp_turn.specs.declared.job.Asked.TheVariants as asks
use Rattle.lp_turn.specs.declared.job.Call.{Call}
use Rattle.lp_turn.specs.declared.job.Going.TheVariants as goings
use Rattle.lp_turn.specs.declared.job.MasterFunction.TheVariants as functions
use Rattle.lp_turn.specs.declared.job.Step.TheVariants as steps
use Rattle.lp_turn.specs.declared.job.Waiting.{Waiting}
use Rattle.lp_turn.specs.declared.job.Waiting.TheVariants as waitings
use Rattle.lp_turn.proofs.Kept.{holder_in, live_row, lives_in, opened_without, rests_changed, rests_connected, rests_told, waiting_without}

-- A connection is closed by the driver.
pub closes : (live0 live1 live2 : Live) (k : ℕ) → live1 ≡ record live0 { outputs = live0.outputs ++ outs.Close k ∷ [] } → HasClosed k live1 live2 → BeginsWith (closed_then_done k) live0 live2 steps.Ends
closes live0 live1 live2 k a b =
    subst (λ l. BeginsWith (closed_then_done k) live0 l steps.Ends) (sym (b ∙ ap (λ (l : Live). record l { connections = closed_in k l.connections }) a)) (λ g programs before s h. record {
      state = closed k s;
      rests = rests_changed g programs before live0 s (closed_in k live0.connections) (outs.Close k ∷ []) (without_connection s.world k).connections s.world.highest s.world.present (without_connection s.world k).waiting h
          (opened_without g programs live0 s.world k h.world.stands) h.world.stands.rest.highest h.world.stands.rest.present (waiting_without g programs live0 s.world k h.world.stands);
      course = refl;
    })

-- a number is connected
numbered_rests : (g : Option Bytes) (programs : List RawProgram) (before : List Out) (live0 live1 : Live) (s : State) (k : ℕ) → HasNumbered k live0 live1
    → Rests g programs before live0 s → Rests g programs before live1 (record s { world = numbered k s.world })
numbered_rests g programs before live0 live1 s k a h =
    let r = h.world.stands.rest in
    subst (λ l. Rests g programs before l (record s { world = numbered k s.world })) (sym a)
    (rests_connected g programs before live0 s (numbered_in k live0.connections) s.world.connections k (numbered k s.world).present s.world.waiting h r.connections refl (ap (λ l. l ++ k ∷ []) r.present) r.waiting)

room_same : (g : Option Bytes) (programs : List RawProgram) (live : Live) (w : World) → Stands g programs live w → length w.connections ≡ length live.connections.opened
room_same g programs live w h = ap length (sym h.rest.connections) ∙ length-map live.connections.opened stands.connection_of

connecting : ℕ → State → Bool → Course (Unit {0})
connecting k s b =
    if b then and_then (driver_master (codes "connect") [] (record s { world = numbered k s.world })) (λ d s. admitted k (free_object s.world d.value) s)
    else done (told (outs.Close k ∷ []) (record s { world = numbered k s.world }))

connecting_is : (g : Option Bytes) (programs : List RawProgram) (live : Live) (s : State) (k : ℕ) (b : Bool) → Stands g programs live s.world → nat_lt (length live.connections.opened) max_connections ≡ b → connect_turn k s ≡ connecting k s b
unfolding connecting
connecting_is g programs live s k b h e = ap (connecting k s) (ap (λ n. nat_lt n max_connections) (room_same g programs live s.world h) ∙ e)

pub connects : (live0 live1 : Live) (k : ℕ) → nat_lt (length live0.connections.opened) max_connections ≡ true → HasNumbered k live0 live1 → BeginsAs (connect_turn k) live0 live1 (goings.Master (functions.Connect k))
unfolding connecting
connects live0 live1 k e a g programs before s h =
    record { state = record s { world = numbered k s.world }; rests = numbered_rests g programs before live0 live1 s k a h; course = connecting_is g programs live0 s k true h.world.stands e }

pub connects_not : (live0 live1 live2 : Live) (k : ℕ) → nat_lt (length live0.connections.opened) max_connections ≡ false → HasNumbered k live0 live1 → live2 ≡ record live1 { outputs = live1.outputs ++ outs.Close k ∷ [] }
    → BeginsAs (connect_turn k) live0 live2 goings.Done
unfolding connecting
connects_not live0 live1 live2 k e a b g programs before s h =
    let t : State = record s { world = numbered k s.world } in
    record {
      state = told (outs.Close k ∷ []) t;
      rests = subst (λ l. Rests g programs before l (told (outs.Close k ∷ []) t)) (sym b) (rests_told g programs before live1 t (outs.Close k ∷ []) (numbered_rests g programs before live0 live1 s k a h));
      course = connecting_is g programs live0 s k false h.world.stands e;
    }

-- A connection is lost.
going : ℕ → State → Option ObjId → Course (Unit {0})
going k s None = done (record s { world = without_number k s.world })
going k s (Some o) = and_then (driver_master (codes "disconnect") (values.Obj o ∷ values.Str [] ∷ []) (record s { world = without_connection (without_number k s.world) k })) (λ d s. done s)

going_is : (k : ℕ) (s : State) (o : Option ObjId)
    → (elim o [ Some o ↦ and_then (driver_master (codes "disconnect") (values.Obj o ∷ values.Str [] ∷ []) (record s { world = without_connection (without_number k s.world) k })) (λ d s. done s) | None ↦ done (record s { world = without_number k s.world }) ]) ≡ going k s o
unfolding going
going_is k s None = refl
going_is k s (Some o) = refl

gone_as : (g : Option Bytes) (programs : List RawProgram) (live : Live) (s : State) (k : ℕ) (o : Option ObjId) → Stands g programs live s.world → option_map (λ c. c.object) (find (λ c. nat_eq c.number k) live.connections.opened) ≡ o → gone_turn k s ≡ going k s o
gone_as g programs live s k o h e = going_is k s (holder_of s.world k) ∙ ap (going k s) (holder_in g programs live s.world k h ∙ e)

pub gone_held : (live0 live1 live2 : Live) (k : ℕ) (o : ObjId) → HasForgotten k live0 live1 → HasClosed k live1 live2 → option_map (λ c. c.object) (find (λ c. nat_eq c.number k) live1.connections.opened) ≡ Some o
    → BeginsAs (gone_turn k) live0 live2 (goings.Master (functions.Disconnect o))
unfolding going
gone_held live0 live1 live2 k o a b e =
    subst (λ l. BeginsAs (gone_turn k) live0 l (goings.Master (functions.Disconnect o))) (sym (b ∙ ap (λ (l : Live). record l { connections = closed_in k l.connections }) a)) (λ g programs before s h.
    let r = h.world.stands.rest in
    record {
      state = record s { world = without_connection (without_number k s.world) k };
      rests = rests_connected g programs before live0 s (closed_in k (changes.without_number k live0.connections)) (without_connection s.world k).connections s.world.highest (without_number k s.world).present (without_connection s.world k).waiting h
          (opened_without g programs live0 s.world k h.world.stands) r.highest (ap (filter (λ n. not (nat_eq n k))) r.present) (waiting_without g programs live0 s.world k h.world.stands);
      course = gone_as g programs live0 s k (Some o) h.world.stands (ap (λ (l : Live). option_map (λ c. c.object) (find (λ c. nat_eq c.number k) l.connections.opened)) (sym a) ∙ e);
    })

pub gone_free : (live0 live1 : Live) (k : ℕ) → HasForgotten k live0 live1 → option_map (λ c. c.object) (find (λ c. nat_eq c.number k) live1.connections.opened) ≡ None → BeginsAs (gone_turn k) live0 live1 goings.Done
unfolding going
gone_free live0 live1 k a e =
    subst (λ l. BeginsAs (gone_turn k) live0 l goings.Done) (sym a) (λ g programs before s h.
    let r = h.world.stands.rest in
    record {
      state = record s { world = without_number k s.world };
      rests = rests_connected g programs before live0 s (changes.without_number k live0.connections) s.world.connections s.world.highest (without_number k s.world).present s.world.waiting h
          r.connections r.highest (ap (filter (λ n. not (nat_eq n k))) r.present) r.waiting;
      course = gone_as g programs live0 s k None h.world.stands (ap (λ (l : Live). option_map (λ c. c.object) (find (λ c. nat_eq c.number k) l.connections.opened)) (sym a) ∙ e);
    })

-- Objects without a connection.
free_by : (w : World) (o : ObjId) (a b : Bool) → is_live w o ≡ a → is_connected w o ≡ b → free_in w o ≡ (if a then (if b then None else Some o) else None)
free_by w o a b e f = ap (λ x. if x then (if is_connected w o then None else Some o) else None) e ∙ ap (λ x. if a then (if x then None else Some o) else None) f

pub free_dead : (live : Live) (o : ObjId) → live_in live.objects o ≡ false → IsFreeOf live o None
free_dead live o e told programs w h = sym (ap (λ x. if x then (if is_connected w o then None else Some o) else None) (lives_in told programs live w o h ∙ e))

pub free_is : (live : Live) (o : ObjId) (b : Bool) → live_in live.objects o ≡ true → is_some (option_map (λ c. c.number) (find (λ c. nat_eq c.object.0 o.0) live.connections.opened)) ≡ b → IsFreeOf live o (if b then None else Some o)
free_is live o b e f told programs w h = sym (free_by w o true b (lives_in told programs live w o h ∙ e) (ap is_some (connection_in told programs live w o h) ∙ f))

value_free : (w : World) (o : ObjId) (b : Bool) → (if b then (if is_connected w o then None else Some o) else None) ≡ (elim (if b then Some o else None) [ Some o ↦ if is_connected w o then None else Some o | None ↦ None ])
value_free w o true = refl
value_free w o false = refl

pub object_free : (live : Live) (o : ObjId) (r : Option ObjId) → IsFreeOf live o r → IsFreeObject live (values.Obj o) r
object_free live o r f told programs w h = f told programs w h ∙ value_free w o (is_live w o)

-- `logon` has answered.
logged_by : (k : ℕ) (s : State) (v : Value) (a b : Bool) → is_false s v ≡ a → is_open s.world k ≡ b → after_logon k (plain_done v) s ≡ (if a && b then done (closed k s) else done s)
logged_by k s v a b e f = ap (λ x. if x && is_open s.world k then done (closed k s) else done s) e ∙ ap (λ x. if a && x then done (closed k s) else done s) f

pub false_in : (g : Option Bytes) (programs : List RawProgram) (live : Live) (s : State) (v : Value) → Stands g programs live s.world → is_false s v ≡ is_zero (live_in live.objects) v
unfolding is_false
false_in g programs live s v h = ap (λ l. is_zero l v) (sym (live_same g programs live s.world h))

pub logged_as : (g : Option Bytes) (programs : List RawProgram) (live : Live) (s : State) (k : ℕ) (v : Value) (a b : Bool) → Stands g programs live s.world → is_zero (live_in live.objects) v ≡ a
    → is_some (option_map (λ c. c.object) (find (λ c. nat_eq c.number k) live.connections.opened)) ≡ b → after_logon k (plain_done v) s ≡ (if a && b then done (closed k s) else done s)
logged_as g programs live s k v a b h e f = logged_by k s v a b (false_in g programs live s v h ∙ e) (ap is_some (holder_in g programs live s.world k h) ∙ f)

pub stays_open : (live : Live) (k : ℕ) (v : Value) (a b : Bool) → (a && b) ≡ false → is_zero (live_in live.objects) v ≡ a → is_some (option_map (λ c. c.object) (find (λ c. nat_eq c.number k) live.connections.opened)) ≡ b
    → Goes steps.Ends (goings.Logged k v) live live
stays_open live k v a b n e f g programs before s h = record {
  state = s;
  rests = h;
  course = logged_as g programs live s k v a b h.world.stands e f ∙ ap (λ x. if x then done (closed k s) else done s) n;
}

-- What is asked, by the parts of the call.
abbrev pub asks_with : Asked → Option ObjId → Option ObjId → List Value → State → Waiting → Course (Unit {0})
asks_with asked player interactive arguments t waiting = Asks (question (asked_of asked) arguments (driver interactive) (begun player t)) (λ o. waiting_course waiting o.answer (after (begun player t) o))

pub asks_as : (asked : Asked) (player interactive : Option ObjId) (arguments : List Value) (t : State) (waiting : Waiting) (call : Call) → call.asked ≡ asked → call.player ≡ player → call.interactive ≡ interactive
    → call.arguments.items ≡ arguments → asks_with asked player interactive arguments t waiting ≡ Asks (question_of call t) (λ o. waiting_course waiting o.answer (state_behind call t o))
asks_as asked player interactive arguments t waiting call a b i c =
    ap (λ x. asks_with x player interactive arguments t waiting) (sym a) ∙ ap (λ x. asks_with call.asked x interactive arguments t waiting) (sym b)
    ∙ ap (λ x. asks_with call.asked call.player x arguments t waiting) (sym i) ∙ ap (λ x. asks_with call.asked call.player call.interactive x t waiting) (sym c)

opened_more : (cs : List Connection) (k : ℕ) (o : ObjId) → map stands.connection_of (cs ++ record { number = k; object = o } ∷ []) ≡ map stands.connection_of cs ++ record { number = k; object = o } ∷ []
opened_more [] k o = refl
opened_more (c ∷ cs) k o = ap (λ l. stands.connection_of c ∷ l) (opened_more cs k o)

-- An object gets a connection, and `logon` is called.
pub logs_on : (live0 live1 : Live) (k : ℕ) (o : ObjId) (call : Call) → call.asked ≡ asks.Apply o (codes "logon") → call.player ≡ Some o → call.interactive ≡ Some o → call.arguments.items ≡ [] → HasGiven k o live0 live1 → live_in live0.objects o ≡ true
    → BeginsWith (admitted k (Some o)) live0 live1 (steps.Asks call (waitings.Logon k o))
logs_on live0 live1 k o call a b i c e l =
    subst (λ x. BeginsWith (admitted k (Some o)) live0 x (steps.Asks call (waitings.Logon k o))) (sym e) (λ g programs before s h.
    let r = h.world.stands.rest in
    let t : State = record s { world = with_connection s.world k o } in
    record {
      state = t;
      rests = rests_connected g programs before live0 s (given_in k o live0.connections) t.world.connections s.world.highest s.world.present s.world.waiting h
          (opened_more live0.connections.opened k o ∙ ap (λ cs. cs ++ record { number = k; object = o } ∷ []) r.connections) r.highest r.present r.waiting;
      there = subst (λ x. IsAskedThere live0.objects x) (sym a) (live_row live0 o l);
      course = asks_as (asks.Apply o (codes "logon")) (Some o) (Some o) [] t (waitings.Logon k o) call a b i c;
    })
