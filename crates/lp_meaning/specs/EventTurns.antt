-- Calls that the driver makes, the start, and one turn for each event.
use Rattle.lp_meaning.specs.Limits.{max_connections, full_budget}
use Rattle.std.specs.Prelude.{ℕ, zero, suc, ◌-◌, List, [], ◌∷◌, ◌++◌, length, take, filter, find, Bool, true, false, not, ◌&&◌, Option, Some, None, nat_eq, nat_lt, chars, codes, if◌then◌else◌}
use Rattle.std.specs.Str.{is_utf8}
use Rattle.lp_tree.specs.declared.fault.Fault.{Fault}
use Rattle.lp_tree.specs.declared.fault.FaultKind.TheVariants as faults
use Rattle.lp_values.specs.declared.id.ObjId.{ObjId}
use Rattle.lp_values.specs.declared.value.Value.{Value}
use Rattle.lp_values.specs.declared.value.Value.TheVariants.{Int, Str, Arr, Map, Obj}
use Rattle.lp_cells.specs.Cells.{Store, items_of}
use Rattle.lp_events.specs.declared.out.Out.{Out}
use Rattle.lp_events.specs.declared.out.Out.TheVariants as outs
use Rattle.lp_language.specs.World.{Waiting, World, is_live, object_named}
use Rattle.lp_language.specs.Operations.{is_false}
use Rattle.lp_language.specs.Course.{State, End, Gives, Stops, Apply, Load, Command, Wanted, Reply, Plain, WasRead, IsSound, IsFaulty, Course, Over, and_then, in_any_case, gives, zero_value}
use Rattle.lp_meaning.specs.WorldSteps.{as_name, master_name, was_made, connection_of, holder_of, is_connected, is_open, with_connection, without_connection, reloaded, reload_outputs}
use Rattle.lp_meaning.specs.Askers.{driver, ask_value, ask_reply, told, error_record}
use Rattle.lp_meaning.specs.FileLoads.{loaded_value, text_target, live_object}

-- Calls of the driver

-- Each has the full budget, begins with no running command, and has a `this_player()`, if any: the state in which it begins.
abbrev pub begun : Option ObjId → State → State
begun player s = record s { locals = []; player = player; commands = []; budget = full_budget }

-- what a player is told of an uncaught end, who still has a connection
abbrev pub notice : World → Option ObjId → List Out
notice w None = []
notice w (Some o) = elim (connection_of w o) [
  | Some k ↦ outs.Text k (codes "Your sensitive mind notices a wrongness in the fabric of space.\n") ∷ []
  | None ↦ []
]

-- What a call of the driver gives: its answer, and whether its end was uncaught.
pub record Done : Type 0 where
  pub value : Value
  pub is_uncaught : Bool

-- After an uncaught error, throw or spent budget the effects so far stay, the answer is 0, and a log record and the player are told of it.
abbrev pub call_end : Option ObjId → End Value → End Done
call_end player (Gives v s) = Gives (record { value = v; is_uncaught = false }) s
call_end player (Stops x s) = Gives (record { value = zero_value; is_uncaught = true }) (told (error_record x ∷ notice s.world player) s)

-- a call of the driver for a `this_player()`
abbrev pub driver_call : Option ObjId → (State → Course Value) → State → Course Done
driver_call player go s = in_any_case (go (begun player s)) (λ e. Over (call_end player e))

-- the driver applies a function of an object
abbrev pub driver_apply : Option ObjId → Option ObjId → ObjId → List ℕ → List Value → State → Course Done
driver_apply player interactive o fun xs s = driver_call player (λ s. ask_value (Apply o fun) xs (driver interactive) s) s

-- the driver loads an object; that is a call of its own
abbrev pub driver_load : List ℕ → State → Course Done
driver_load name s = driver_call None (λ s. text_target (driver None) name s) s

-- The driver calls the master, which is loaded first where it does not live; where it does not live then the answer is 0.
abbrev pub applied_if : Option ObjId → List ℕ → List Value → State → Course Done
applied_if None fun xs s = gives (record { value = zero_value; is_uncaught = false }) s
applied_if (Some m) fun xs s = driver_apply None None m fun xs s

-- a call of a function of the master
abbrev pub driver_master : List ℕ → List Value → State → Course Done
driver_master fun xs s = elim (object_named s.world master_name) [
  | Some m ↦ driver_apply None None m fun xs s
  | None ↦ and_then (driver_load master_name s) (λ d s. applied_if (object_named s.world master_name) fun xs s)
]

-- The start

-- there is a first world, or no master was made, for these faults
pub data Start : Type 0 where
  Begins : Start
  NoMaster : List Fault → Start

-- the text that a value is
abbrev pub text_in : Value → Option (List ℕ)
text_in (Int n) = None
text_in (Str t) = Some t
text_in (Arr c) = None
text_in (Map c) = None
text_in (Obj o) = None

-- the items of an array
abbrev pub items_in : Store → Value → List Value
items_in cells (Int n) = []
items_in cells (Str t) = []
items_in cells (Arr c) = items_of cells c
items_in cells (Map c) = []
items_in cells (Obj o) = []

-- each text of an array is preloaded by the master
abbrev pub preloading : List Value → State → Course Start
preloading [] s = gives Begins s
preloading (v ∷ vs) s = elim (text_in v) [
  | Some t ↦ and_then (driver_master (codes "preload") (Str t ∷ []) s) (λ d s. preloading vs s)
  | None ↦ preloading vs s
]

-- the master names what is to be preloaded
abbrev pub with_epilog : State → Course Start
with_epilog s = and_then (driver_master (codes "epilog") (zero_value ∷ []) s) (λ d s. preloading (items_in s.world.cells d.value) s)

-- a text names the simul-efun object, which is loaded where it does not live
abbrev pub with_simul : World → List ℕ → World
with_simul w name = record w { simul = Some name }

-- the simul-efun object is loaded where it does not live
abbrev pub simul_set : List ℕ → State → Course Start
simul_set name s = elim (object_named s.world name) [
  | Some o ↦ with_epilog s
  | None ↦ and_then (driver_load name s) (λ d s. with_epilog s)
]

-- its name is set before it is loaded; an answer that is no text sets none
abbrev pub simul_answered : Option (List ℕ) → State → Course Start
simul_answered None s = with_epilog s
simul_answered (Some t) s = simul_set (as_name t) (record s { world = with_simul s.world (as_name t) })

-- The master is loaded; then `inaugurate_master(0)`, `get_simul_efun()`, `epilog(0)`, and `preload` of each text that this answers.
abbrev pub after_master : State → Course Start
after_master s =
    and_then (driver_master (codes "inaugurate_master") (zero_value ∷ []) s) (λ d s.
    and_then (driver_master (codes "get_simul_efun") [] s) (λ d s.
    simul_answered (text_in d.value) s))

-- the faults of the file at which the load of the master ended, or that the load was aborted
abbrev pub aborted : List Fault
aborted = record { file = codes "/secure/master.c"; line = 0; kind = faults.Aborted } ∷ []

-- the faults of a load that made no master
abbrev pub faults_in : Reply → List Fault
faults_in (Plain v) = aborted
faults_in (WasRead items pragmas) = aborted
faults_in IsSound = aborted
faults_in (IsFaulty fs) = fs

-- There is no master where the load ended before an object of its name was made.
abbrev pub master_loaded : End Reply → Course Start
master_loaded (Gives r s) =
    if was_made s.world master_name then and_then (driver_call None (λ s. loaded_value master_name r s) s) (λ d s. after_master s)
    else gives (NoMaster (faults_in r)) s
master_loaded (Stops x s) =
    if was_made s.world master_name then and_then (Over (call_end None (Stops x s))) (λ d s. after_master s)
    else gives (NoMaster aborted) s

-- the start
abbrev pub starting : State → Course Start
starting s = in_any_case (ask_reply (Load master_name Wanted) [] (driver None) (begun None s)) master_loaded

-- the state in which a turn begins
abbrev pub at_rest : World → State
at_rest w = record { locals = []; player = None; commands = []; world = w; budget = 0; outputs = [] }

-- Turns

abbrev pub done : State → Course (Unit {0})
done s = gives tt s

-- a connection is closed by the driver
abbrev pub closed : ℕ → State → State
closed k s = told (outs.Close k ∷ []) (record s { world = without_connection s.world k })

-- a number that was connected and is not gone, the highest so far
abbrev pub numbered : ℕ → World → World
numbered k w = record w { highest = k; present = w.present ++ k ∷ [] }

-- the live object that an answer is, where it has no connection
abbrev pub free_object : World → Value → Option ObjId
free_object w v = elim (live_object w v) [ Some o ↦ if is_connected w o then None else Some o | None ↦ None ]

-- `logon` in an object that has just got a connection; where it answers 0 and the connection is still open, that is closed
abbrev pub after_logon : ℕ → Done → State → Course (Unit {0})
after_logon k d s = if is_false s d.value && is_open s.world k then done (closed k s) else done s

-- the object that `connect` answered gets the connection; without one it is closed
abbrev pub admitted : ℕ → Option ObjId → State → Course (Unit {0})
admitted k None s = done (told (outs.Close k ∷ []) s)
admitted k (Some o) s =
    and_then (driver_apply (Some o) (Some o) o (codes "logon") [] (record s { world = with_connection s.world k o })) (λ d s. after_logon k d s)

-- Connect: where 200 connections are open it is closed; else the master's `connect` answers its object.
abbrev pub connect_turn : ℕ → State → Course (Unit {0})
connect_turn k s =
    if nat_lt (length s.world.connections) max_connections then
    and_then (driver_master (codes "connect") [] (record s { world = numbered k s.world })) (λ d s. admitted k (free_object s.world d.value) s)
    else done (told (outs.Close k ∷ []) (record s { world = numbered k s.world }))

-- The text of a line: its bytes are read as UTF-8, each longest run of bytes none of which belongs to a well-formed code point as
-- one U+FFFD. How many bytes the code point has with which bytes begin, or 0:
abbrev pub point_len_from : ℕ → ℕ → List ℕ → ℕ
point_len_from n zero bytes = 0
point_len_from n (suc more) bytes = if is_utf8 (take n bytes) then n else point_len_from (suc n) more bytes

-- how many bytes the code point has with which bytes begin, or 0
abbrev pub point_len : List ℕ → ℕ
point_len bytes = point_len_from 1 4 bytes

-- the text, where `skip` bytes of a code point are still to be passed, and the flag says that such a run is going on
abbrev pub line_text_from : Bool → ℕ → List ℕ → List ℕ
line_text_from bad skip [] = []
line_text_from bad (suc n) (b ∷ bytes) = line_text_from bad n bytes
line_text_from bad zero (b ∷ bytes) =
    if nat_eq (point_len (b ∷ bytes)) 0 then (if bad then line_text_from true zero bytes else 65533 ∷ line_text_from true zero bytes)
    else chars (take (point_len (b ∷ bytes)) (b ∷ bytes)) ++ line_text_from false (point_len (b ∷ bytes) - 1) bytes

-- the text of a line
unfoldable pub line_text : List ℕ → List ℕ
line_text bytes = line_text_from false 0 bytes

-- what waits for the next line of a connection
abbrev pub waiting_for : World → ℕ → Option Waiting
waiting_for w k = find (λ x. nat_eq x.connection k) w.waiting

-- nothing waits for the next line of a connection any more
abbrev pub without_waiting : World → ℕ → World
without_waiting w k = record w { waiting = filter (λ x. not (nat_eq x.connection k)) w.waiting }

-- the input is shown again where it was hidden
abbrev pub shown : ℕ → Waiting → List Out
shown k x = if x.hides then outs.Show k ∷ [] else []

-- A waiting function takes the line: it waits no longer, the input is shown again where it was hidden, and the function is applied with
-- the line and the kept arguments, or nothing where its object is destructed.
abbrev pub line_taken : ℕ → ObjId → Waiting → List ℕ → State → Course (Unit {0})
line_taken k o x text s =
    let t : State = told (shown k x) (record s { world = without_waiting s.world k }) in
    if is_live s.world x.object then and_then (driver_apply (Some o) (Some o) x.object x.function (Str text ∷ x.arguments) t) (λ d s. done s)
    else done t

-- Line: nothing where the driver closed the connection; else what waits takes it, or it is a command.
abbrev pub line_of : ℕ → ObjId → List ℕ → State → Course (Unit {0})
line_of k o text s = elim (waiting_for s.world k) [
  | Some x ↦ line_taken k o x text s
  | None ↦ and_then (driver_call (Some o) (λ s. ask_value (Command o text) [] (driver (Some o)) s) s) (λ d s. done s)
]

-- a line of a connection
abbrev pub line_turn : ℕ → List ℕ → State → Course (Unit {0})
line_turn k bytes s = elim (holder_of s.world k) [ Some o ↦ line_of k o (line_text bytes) s | None ↦ done s ]

-- Gone: the object loses its connection, and the master's `disconnect` is called; nothing where the driver closed it.
abbrev pub without_number : ℕ → World → World
without_number k w = record w { present = filter (λ n. not (nat_eq n k)) w.present }

-- a connection is lost
abbrev pub gone_turn : ℕ → State → Course (Unit {0})
gone_turn k s = elim (holder_of s.world k) [
  | Some o ↦ and_then (driver_master (codes "disconnect") (Obj o ∷ Str [] ∷ []) (record s { world = without_connection (without_number k s.world) k })) (λ d s. done s)
  | None ↦ done (record s { world = without_number k s.world })
]

-- Reload: see there. A swap changes nothing.
abbrev pub reload_turn : List ℕ → List ℕ → State → Course (Unit {0})
reload_turn path bytes s = done (told (reload_outputs s.world path) (record s { world = reloaded s.world path bytes }))
