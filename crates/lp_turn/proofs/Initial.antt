-- The start: functions of the master, and the simul-efun object.
use Rattle.std.proofs.Common.{◌≡◌, ◌∙◌, ◌++◌, ◌∷◌, [], ℕ, Bool, true, false, List, Option, Some, None, ap, refl, sym, subst, codes, is_some, map, if◌then◌else◌}
use Rattle.std.specs.Str.{chars}
use Rattle.lp_values.specs.declared.id.ObjId.{ObjId}
use Rattle.lp_values.specs.declared.value.Value.{Value}
use Rattle.lp_values.specs.declared.value.Value.TheVariants.{Obj}
use Rattle.lp_values.specs.declared.error.ErrorKind.TheVariants.{BadTarget}
use Rattle.lp_values.specs.Errors.{error_text, plain}
use Rattle.lp_code.specs.declared.program.RawProgram.{RawProgram}
use Rattle.lp_events.specs.declared.out.Out.{Out}
use Rattle.lp_events.specs.declared.out.Out.TheVariants as outs
use Rattle.lp_objects.specs.Objects as named
use Rattle.lp_objects.specs.Stands as names
use Rattle.lp_objects.specs.declared.objects.Objects.{Objects}
use Rattle.lp_swapfile.specs.Device.{Bytes}
use Rattle.lp_language.specs.Course.{Asks, Course, Failed, Over, State, after, and_then, gives, here, in_any_case, stops}
use Rattle.lp_language.specs.World.{World, object_named}
use Rattle.lp_meaning.specs.Askers.{driver, error_record, question, told}
use Rattle.lp_meaning.specs.EventTurns.{Start, applied_if, begun, call_end, driver_apply, simul_answered, simul_set, starting, with_epilog, with_simul}
use Rattle.lp_meaning.specs.FileLoads.{load_value}
use Rattle.lp_meaning.specs.WorldSteps.{as_name, is_clone_name, master_name}
use Rattle.lp_world.specs.Stands.{named_of}
use Rattle.lp_world.specs.declared.live.Live.{Live}
use Rattle.lp_turn.specs.Calls.{IsAskedThere, asked_of, load_course, question_of, state_behind}
use Rattle.lp_turn.specs.Masters.{IsMasterOf}
use Rattle.lp_turn.specs.Resting.{Rests}
use Rattle.lp_turn.specs.Starting.{StartAsked, StartGoes, StartLeads, StartsWith}
use Rattle.lp_turn.specs.StartSteps.{HasSimul, LoadsSimul, StartApplies, StartLoads, loading_simul, start_without, untargeted}
use Rattle.lp_turn.specs.Starts.{start_arguments, start_behind, start_going, start_name, start_waiting}
use Rattle.lp_turn.specs.declared.job.Asked.{Asked}
use Rattle.lp_turn.specs.declared.job.Asked.TheVariants as asks
use Rattle.lp_turn.specs.declared.job.Call.{Call}
use Rattle.lp_turn.specs.declared.start_job.StartFunction.{StartFunction}
use Rattle.lp_turn.specs.declared.start_job.StartFunction.TheVariants as functions
use Rattle.lp_turn.specs.declared.start_job.StartGoing.TheVariants as goings
use Rattle.lp_turn.specs.declared.start_job.StartStep.{StartStep}
use Rattle.lp_turn.specs.declared.start_job.StartStep.TheVariants as steps
use Rattle.lp_turn.specs.declared.start_job.StartWaiting.{StartWaiting}
use Rattle.lp_turn.specs.declared.start_job.StartWaiting.TheVariants as waitings
use Rattle.lp_making.proofs.NewObject.{same_named}
use Rattle.lp_turn.proofs.Kept.{live_row, lives_in, named_lives, rests_told}
use Rattle.lp_turn.proofs.Mastered.{driver_none, driver_some, named_is}

-- the same course
pub starts_as : (first second : State → Course Start) (live0 live1 : Live) (r : StartStep) → ((g : Option Bytes) (programs : List RawProgram) (before : List Out) (s : State) → Rests g programs before live0 s → second s ≡ first s)
    → StartsWith first live0 live1 r → StartsWith second live0 live1 r
starts_as first second live0 live1 r e h g programs before s i = subst (λ c. StartLeads r g programs before live1 c) (sym (e g programs before s i)) (h g programs before s i)

-- what is asked, by the parts of the call
abbrev start_asks_with : Asked → Option ObjId → Option ObjId → List Value → State → StartWaiting → Course Start
start_asks_with asked player interactive arguments t waiting = Asks (question (asked_of asked) arguments (driver interactive) (begun player t)) (λ o. start_waiting waiting o.answer (after (begun player t) o))

start_asks_as : (asked : Asked) (player interactive : Option ObjId) (arguments : List Value) (t : State) (waiting : StartWaiting) (call : Call) → call.asked ≡ asked → call.player ≡ player → call.interactive ≡ interactive
    → call.arguments.items ≡ arguments → start_asks_with asked player interactive arguments t waiting ≡ Asks (question_of call t) (λ o. start_waiting waiting o.answer (state_behind call t o))
start_asks_as asked player interactive arguments t waiting call a b i c =
    ap (λ x. start_asks_with x player interactive arguments t waiting) (sym a) ∙ ap (λ x. start_asks_with call.asked x interactive arguments t waiting) (sym b)
    ∙ ap (λ x. start_asks_with call.asked call.player x arguments t waiting) (sym i) ∙ ap (λ x. start_asks_with call.asked call.player call.interactive x t waiting) (sym c)

-- the first load
pub starting_asks : (live : Live) (call : Call) → call.asked ≡ asks.Load master_name → call.player ≡ None → call.interactive ≡ None → call.arguments.items ≡ [] → StartsWith starting live live (steps.Asks call waitings.First)
starting_asks live call a b i c g programs before s h =
    record { state = s; rests = h; there = subst (λ x. IsAskedThere live.objects x) (sym a) tt; course = start_asks_as (asks.Load master_name) None None [] s waitings.First call a b i c }

-- Functions of the master.
applied : (live : Live) (turn : State → Course Start) (m : ObjId) (f : StartFunction) (r : StartStep) → StartApplies m f r
    → ((g : Option Bytes) (programs : List RawProgram) (before : List Out) (s : State) → Rests g programs before live s
    → (object_named s.world master_name ≡ Some m) × (turn s ≡ and_then (driver_apply None None m (start_name f) (start_arguments f) s) (start_behind f))) → StartsWith turn live live r
applied live turn m f steps.Begins a t g programs before s h = absurd a
applied live turn m f (steps.NoMaster fs) a t g programs before s h = absurd a
applied live turn m f (steps.Asks call waiting) a t g programs before s h =
    let e = t g programs before s h in
    subst (λ w. StartAsked call w g programs before live (turn s)) (sym a.waits) (record {
      state = s;
      rests = h;
      there = subst (λ x. IsAskedThere live.objects x) (sym a.asked) (live_row live m (sym (lives_in g programs live s.world m h.world.stands) ∙ named_lives s.world master_name m e.0));
      course = e.1 ∙ start_asks_as (asks.Apply m (start_name f)) None None (start_arguments f) s (waitings.Master f) call a.asked a.player a.interactive a.arguments;
    })

pub start_applied : (live : Live) (m : ObjId) (f : StartFunction) (r : StartStep) → StartApplies m f r → IsMasterOf live.names (Some m) → StartGoes r (goings.Master f) live live
start_applied live m f r a n =
    applied live (start_going (goings.Master f)) m f r a
    (λ g programs before s h. let e = named_is live (Some m) n g programs before s h in (e, ap (λ c. and_then c (start_behind f)) (driver_some m (start_name f) (start_arguments f) s e)))

pub start_applied_loaded : (live : Live) (m : ObjId) (f : StartFunction) (r : StartStep) → StartApplies m f r → IsMasterOf live.names (Some m) → StartGoes r (goings.Loaded f) live live
start_applied_loaded live m f r a n =
    applied live (start_going (goings.Loaded f)) m f r a
    (λ g programs before s h. let e = named_is live (Some m) n g programs before s h in (e, ap (λ q. and_then (applied_if q (start_name f) (start_arguments f) s) (start_behind f)) e))

pub start_loads : (live : Live) (f : StartFunction) (r : StartStep) → StartLoads f r → IsMasterOf live.names None → StartGoes r (goings.Master f) live live
start_loads live f steps.Begins a n g programs before s h = absurd a
start_loads live f (steps.NoMaster fs) a n g programs before s h = absurd a
start_loads live f (steps.Asks call waiting) a n g programs before s h =
    let e = named_is live None n g programs before s h in
    subst (λ w. StartAsked call w g programs before live (start_going (goings.Master f) s)) (sym a.waits) (record {
      state = s;
      rests = h;
      there = subst (λ x. IsAskedThere live.objects x) (sym a.asked) tt;
      course = ap (λ c. and_then c (start_behind f)) (driver_none (start_name f) (start_arguments f) s e) ∙ start_asks_as (asks.Load master_name) None None [] s (waitings.Load f) call a.asked a.player a.interactive a.arguments;
    })

pub start_unloaded : (live0 live1 : Live) (f : StartFunction) (r : StartStep) → IsMasterOf live0.names None → StartsWith (start_without f) live0 live1 r → StartGoes r (goings.Loaded f) live0 live1
start_unloaded live0 live1 f r n =
    starts_as (start_without f) (start_going (goings.Loaded f)) live0 live1 r
    (λ g programs before s h. ap (λ q. and_then (applied_if q (start_name f) (start_arguments f) s) (start_behind f)) (named_is live0 None n g programs before s h))

-- The simul-efun object.

-- an object is found by a name, or none
abbrev pub IsNamed : Objects → List ℕ → Option ObjId → Type 0
IsNamed table name q = (w : World) → names.Stands table (map named_of w.objects) → q ≡ object_named w name

pub named_by : (live : Live) (text name : List ℕ) (q : Option ObjId) → ((objects : List named.Named) → names.Stands live.names objects → q ≡ named.object_named objects (chars text)) → chars text ≡ name → IsNamed live.names name q
named_by live text name q f e w h = f (map named_of w.objects) h ∙ ap (named.object_named (map named_of w.objects)) e ∙ same_named w name

found_in : (live : Live) (name : List ℕ) (q : Option ObjId) → IsNamed live.names name q → (g : Option Bytes) (programs : List RawProgram) (before : List Out) (s : State) → Rests g programs before live s → object_named s.world name ≡ q
found_in live name q n g programs before s h = sym (n s.world h.world.stands.names)

-- a state with the full budget rests as well
pub rests_begun : (g : Option Bytes) (programs : List RawProgram) (before : List Out) (live : Live) (s : State) → Rests g programs before live s → Rests g programs before live (begun None s)
rests_begun g programs before live s h = record { world = h.world; outputs = h.outputs }

-- what a load of a name means, by the object that has it and whether it is that of a clone
targeting : List ℕ → State → Option ObjId → Bool → Course Start
targeting name s q b =
    and_then (in_any_case (elim q [ Some o ↦ gives (Obj o) (begun None s) | None ↦ if b then stops (Failed (plain BadTarget)) (begun None s) else load_value (driver None) (as_name name) (begun None s) ]) (λ e. Over (call_end None e)))
    (λ d s. with_epilog s)

loading_is : (name : List ℕ) (s : State) (q : Option ObjId) (b : Bool) → object_named s.world (as_name name) ≡ q → is_clone_name (as_name name) ≡ b → loading_simul name s ≡ targeting name s q b
unfolding targeting
loading_is name s q b e f = ap (λ x. targeting name s x (is_clone_name (as_name name))) e ∙ ap (targeting name s q) f

bad_target : error_record (here (Failed (plain BadTarget))) ≡ outs.Log (codes "error: Bad target")
unfolding error_text
bad_target = refl

lives_as : (name : List ℕ) (s : State) (o : ObjId) → object_named s.world (as_name name) ≡ Some o → loading_simul name s ≡ with_epilog (begun None s)
unfolding targeting
lives_as name s o e = loading_is name s (Some o) (is_clone_name (as_name name)) e refl

pub simul_lives : (live0 live1 : Live) (name : List ℕ) (r : StartStep) (q : Option ObjId) → IsNamed live0.names (as_name name) q → is_some q ≡ true → StartGoes r (goings.Master functions.Epilog) live0 live1 → StartsWith (loading_simul name) live0 live1 r
simul_lives live0 live1 name r None n e f = absurd (differ e)
  where
    differ : false ≡ true → ⊥
    differ q = cc
simul_lives live0 live1 name r (Some o) n e f = λ g programs before s h.
    subst (λ c. StartLeads r g programs before live1 c) (sym (lives_as name s o (found_in live0 (as_name name) (Some o) n g programs before s h))) (f g programs before (begun None s) (rests_begun g programs before live0 s h))

clone_as : (name : List ℕ) (s : State) → object_named s.world (as_name name) ≡ None → is_clone_name (as_name name) ≡ true → loading_simul name s ≡ untargeted (begun None s)
unfolding targeting
clone_as name s e f = loading_is name s None true e f ∙ ap (λ x. with_epilog (told (x ∷ []) (begun None s))) bad_target

pub simul_clone : (live0 live1 : Live) (name : List ℕ) (r : StartStep) (q : Option ObjId) → IsNamed live0.names (as_name name) q → is_some q ≡ false → is_clone_name (as_name name) ≡ true → StartsWith untargeted live0 live1 r
    → StartsWith (loading_simul name) live0 live1 r
simul_clone live0 live1 name r (Some o) n e f t = absurd (differ e)
  where
    differ : true ≡ false → ⊥
    differ q = cc
simul_clone live0 live1 name r None n e f t = λ g programs before s h.
    subst (λ c. StartLeads r g programs before live1 c) (sym (clone_as name s (found_in live0 (as_name name) None n g programs before s h) f)) (t g programs before (begun None s) (rests_begun g programs before live0 s h))

asked_as : (name spelled : List ℕ) (s : State) → object_named s.world (as_name name) ≡ None → is_clone_name (as_name name) ≡ false → chars spelled ≡ as_name name
    → loading_simul name s ≡ start_asks_with (asks.Load (as_name name)) None None [] s (waitings.Simul spelled)
unfolding targeting
asked_as name spelled s e f q = loading_is name s None false e f ∙ ap (λ x. asked_by name x s) (sym q)
  where
    asked_by : List ℕ → List ℕ → State → Course Start
    asked_by name x s = Asks (question (asked_of (asks.Load (as_name name))) [] (driver None) (begun None s)) (λ o. and_then (load_course x o.answer (after (begun None s) o)) (λ d s. with_epilog s))

pub simul_asked : (live : Live) (name : List ℕ) (r : StartStep) (q : Option ObjId) → IsNamed live.names (as_name name) q → is_some q ≡ false → is_clone_name (as_name name) ≡ false → LoadsSimul (as_name name) r → StartsWith (loading_simul name) live live r
simul_asked live name r (Some o) n e f a = absurd (differ e)
  where
    differ : true ≡ false → ⊥
    differ q = cc
simul_asked live name steps.Begins None n e f a = absurd a
simul_asked live name (steps.NoMaster fs) None n e f a = absurd a
simul_asked live name (steps.Asks call waiting) None n e f a = λ g programs before s h.
    subst (λ w. StartAsked call w g programs before live (loading_simul name s)) (sym a.waits) (record {
      state = s;
      rests = h;
      there = subst (λ x. IsAskedThere live.objects x) (sym a.asked) tt;
      course = asked_as name a.spelled s (found_in live (as_name name) None n g programs before s h) f a.spells ∙ start_asks_as (asks.Load (as_name name)) None None [] s (waitings.Simul a.spelled) call a.asked a.player a.interactive a.arguments;
    })

-- it is loaded where it does not live
setting : List ℕ → State → Option ObjId → Course Start
setting name s q = elim q [ Some o ↦ with_epilog s | None ↦ loading_simul name s ]

set_is : (name : List ℕ) (s : State) (q : Option ObjId) → object_named s.world name ≡ q → simul_set name s ≡ setting name s q
unfolding setting
set_is name s q e = ap (setting name s) e

pub set_lives : (live0 live1 : Live) (name : List ℕ) (r : StartStep) (q : Option ObjId) → IsNamed live0.names name q → is_some q ≡ true → StartGoes r (goings.Master functions.Epilog) live0 live1 → StartsWith (simul_set name) live0 live1 r
unfolding setting
set_lives live0 live1 name r None n e f = absurd (differ e)
  where
    differ : false ≡ true → ⊥
    differ q = cc
set_lives live0 live1 name r (Some o) n e f =
    starts_as with_epilog (simul_set name) live0 live1 r (λ g programs before s h. set_is name s (Some o) (found_in live0 name (Some o) n g programs before s h)) f

pub set_missing : (live0 live1 : Live) (name : List ℕ) (r : StartStep) (q : Option ObjId) → IsNamed live0.names name q → is_some q ≡ false → StartsWith (loading_simul name) live0 live1 r → StartsWith (simul_set name) live0 live1 r
unfolding setting
set_missing live0 live1 name r (Some o) n e f = absurd (differ e)
  where
    differ : true ≡ false → ⊥
    differ q = cc
set_missing live0 live1 name r None n e f =
    starts_as (loading_simul name) (simul_set name) live0 live1 r (λ g programs before s h. set_is name s None (found_in live0 name None n g programs before s h)) f

-- it has its name first
rests_named : (g : Option Bytes) (programs : List RawProgram) (before : List Out) (live : Live) (s : State) (name : List ℕ) → Rests g programs before live s
    → Rests g programs before (record live { simul = Some name }) (record s { world = with_simul s.world name })
rests_named g programs before live s name h =
    let k = h.world.stands in
    let r = k.rest in
    record {
      world = record {
        stands = record {
          cells = k.cells;
          objects = k.objects;
          names = k.names;
          versions = k.versions;
          kept = k.kept;
          rest = record {
            files = r.files;
            simul = refl;
            places = r.places;
            sentences = r.sentences;
            next_sentence = r.next_sentence;
            timing = r.timing;
            connections = r.connections;
            highest = r.highest;
            present = r.present;
            waiting = r.waiting;
            clock = r.clock;
            generator = r.generator;
            next_clone = r.next_clone;
          };
        };
        compiled = h.world.compiled;
        shadows = h.world.shadows;
      };
      outputs = h.outputs;
    }

pub simul_named : (live0 live1 live2 : Live) (t name : List ℕ) (r : StartStep) → name ≡ as_name t → HasSimul name live0 live1 → StartsWith (simul_set name) live1 live2 r → StartsWith (simul_answered (Some t)) live0 live2 r
simul_named live0 live1 live2 t name r q e f g programs before s h =
    subst (λ n. StartLeads r g programs before live2 (simul_set n (record s { world = with_simul s.world n }))) q
    (f g programs before (record s { world = with_simul s.world name }) (subst (λ l. Rests g programs before l (record s { world = with_simul s.world name })) (sym e) (rests_named g programs before live0 s name h)))

-- what is told comes first
pub told_first : (turn : State → Course Start) (live0 live1 live2 : Live) (out : Out) (r : StartStep) → live1 ≡ record live0 { outputs = live0.outputs ++ out ∷ [] } → StartsWith turn live1 live2 r → StartsWith (λ s. turn (told (out ∷ []) s)) live0 live2 r
told_first turn live0 live1 live2 out r e f g programs before s h =
    f g programs before (told (out ∷ []) s) (subst (λ l. Rests g programs before l (told (out ∷ []) s)) (sym e) (rests_told g programs before live0 s (out ∷ []) h))
