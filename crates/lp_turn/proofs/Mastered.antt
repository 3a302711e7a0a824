-- Functions of the master.
use Rattle.std.proofs.Common.{◌≡◌, ◌∙◌, ℕ, List, [], Option, Some, None, ap, sym, subst}
use Rattle.lp_values.specs.declared.id.ObjId.{ObjId}
use Rattle.lp_values.specs.declared.value.Value.{Value}
use Rattle.lp_code.specs.declared.program.RawProgram.{RawProgram}
use Rattle.lp_events.specs.declared.out.Out.{Out}
use Rattle.lp_swapfile.specs.Device.{Bytes}
use Rattle.lp_language.specs.Course.{Course, Over, State, and_then, gives, in_any_case}
use Rattle.lp_language.specs.World.{object_named}
use Rattle.lp_values.specs.declared.value.Value.TheVariants.{Obj}
use Rattle.lp_meaning.specs.Askers.{driver}
use Rattle.lp_meaning.specs.EventTurns.{applied_if, begun, call_end, driver_apply, driver_call, driver_load, driver_master}
use Rattle.lp_meaning.specs.FileLoads.{load_value}
use Rattle.lp_meaning.specs.WorldSteps.{master_name}
use Rattle.lp_world.specs.declared.live.Live.{Live}
use Rattle.lp_turn.specs.Calls.{IsAskedThere}
use Rattle.lp_turn.specs.Resting.{Rests}
use Rattle.lp_turn.specs.Going.{BeginsWith, Goes, HasAsked}
use Rattle.lp_turn.specs.Masters.{Applies, IsMasterOf, Loads, without_master}
use Rattle.lp_turn.specs.Turns.{arguments_of, behind, going_course, name_of}
use Rattle.lp_turn.specs.declared.job.Asked.TheVariants as asks
use Rattle.lp_turn.specs.declared.job.Going.TheVariants as goings
use Rattle.lp_turn.specs.declared.job.MasterFunction.{MasterFunction}
use Rattle.lp_turn.specs.declared.job.Step.{Step}
use Rattle.lp_turn.specs.declared.job.Step.TheVariants as steps
use Rattle.lp_turn.specs.declared.job.Waiting.TheVariants as waitings
use Rattle.lp_turn.proofs.Connected.{asks_as}
use Rattle.lp_turn.proofs.Kept.{begins_as, live_row, lives_in, named_lives}

-- the master lives: its function is applied
pub driver_some : (m : ObjId) (fun : List ℕ) (xs : List Value) (s : State) → object_named s.world master_name ≡ Some m → driver_master fun xs s ≡ driver_apply None None m fun xs s
driver_some m fun xs s e =
    ap (λ q. elim q [ Some m ↦ driver_apply None None m fun xs s | None ↦ and_then (driver_load master_name s) (λ d s. applied_if (object_named s.world master_name) fun xs s) ]) e

-- it does not: it is loaded
loads_it : (s : State) → object_named s.world master_name ≡ None → driver_load master_name s ≡ driver_call None (λ s. load_value (driver None) master_name s) s
loads_it s e =
    ap (λ q. in_any_case (elim q [ Some o ↦ gives (Obj o) (begun None s) | None ↦ load_value (driver None) master_name (begun None s) ]) (λ e. Over (call_end None e))) e

pub driver_none : (fun : List ℕ) (xs : List Value) (s : State) → object_named s.world master_name ≡ None
    → driver_master fun xs s ≡ and_then (driver_call None (λ s. load_value (driver None) master_name s) s) (λ d s. applied_if (object_named s.world master_name) fun xs s)
driver_none fun xs s e =
    ap (λ q. elim q [ Some m ↦ driver_apply None None m fun xs s | None ↦ and_then (driver_load master_name s) (λ d s. applied_if (object_named s.world master_name) fun xs s) ]) e
    ∙ ap (λ c. and_then c (λ d s. applied_if (object_named s.world master_name) fun xs s)) (loads_it s e)

-- What is asked of the master.
pub applied : (live : Live) (turn : State → Course (Unit {0})) (m : ObjId) (f : MasterFunction) (r : Step) → Applies m f r
    → ((g : Option Bytes) (programs : List RawProgram) (before : List Out) (s : State) → Rests g programs before live s → (object_named s.world master_name ≡ Some m) × (turn s ≡ and_then (driver_apply None None m (name_of f) (arguments_of f) s) (behind f)))
    → BeginsWith turn live live r
applied live turn m f steps.Ends a t g programs before s h = absurd a
applied live turn m f (steps.Asks call waiting) a t g programs before s h =
    let e = t g programs before s h in
    subst (λ w. HasAsked call w g programs before live (turn s)) (sym a.waits) (record {
      state = s;
      rests = h;
      there = subst (λ x. IsAskedThere live.objects x) (sym a.asked) (live_row live m (sym (lives_in g programs live s.world m h.world.stands) ∙ named_lives s.world master_name m e.0));
      course = e.1 ∙ asks_as (asks.Apply m (name_of f)) None None (arguments_of f) s (waitings.Master f) call a.asked a.player a.interactive a.arguments;
    })

pub named_is : (live : Live) (q : Option ObjId) → IsMasterOf live.names q → (g : Option Bytes) (programs : List RawProgram) (before : List Out) (s : State) → Rests g programs before live s → object_named s.world master_name ≡ q
named_is live q n g programs before s h = sym (n s.world h.world.stands.names)

pub master_applied : (live : Live) (m : ObjId) (f : MasterFunction) (r : Step) → Applies m f r → IsMasterOf live.names (Some m) → Goes r (goings.Master f) live live
master_applied live m f r a n =
    applied live (going_course (goings.Master f)) m f r a
    (λ g programs before s h. let e = named_is live (Some m) n g programs before s h in (e, ap (λ c. and_then c (behind f)) (driver_some m (name_of f) (arguments_of f) s e)))

pub loaded_applied : (live : Live) (m : ObjId) (f : MasterFunction) (r : Step) → Applies m f r → IsMasterOf live.names (Some m) → Goes r (goings.Loaded f) live live
loaded_applied live m f r a n =
    applied live (going_course (goings.Loaded f)) m f r a
    (λ g programs before s h. let e = named_is live (Some m) n g programs before s h in (e, ap (λ q. and_then (applied_if q (name_of f) (arguments_of f) s) (behind f)) e))

pub master_loaded : (live : Live) (f : MasterFunction) (r : Step) → Loads f r → IsMasterOf live.names None → Goes r (goings.Master f) live live
master_loaded live f steps.Ends a n g programs before s h = absurd a
master_loaded live f (steps.Asks call waiting) a n g programs before s h =
    let e = named_is live None n g programs before s h in
    subst (λ w. HasAsked call w g programs before live (going_course (goings.Master f) s)) (sym a.waits) (record {
      state = s;
      rests = h;
      there = subst (λ x. IsAskedThere live.objects x) (sym a.asked) tt;
      course = ap (λ c. and_then c (behind f)) (driver_none (name_of f) (arguments_of f) s e) ∙ asks_as (asks.Load master_name) None None [] s (waitings.Load f) call a.asked a.player a.interactive a.arguments;
    })

-- there is no master then either
pub unloaded : (live0 live1 : Live) (f : MasterFunction) (r : Step) → IsMasterOf live0.names None → BeginsWith (without_master f) live0 live1 r → Goes r (goings.Loaded f) live0 live1
unloaded live0 live1 f r n =
    begins_as (without_master f) (going_course (goings.Loaded f)) live0 live1 r
    (λ g programs s h. ap (λ q. and_then (applied_if q (name_of f) (arguments_of f) s) (behind f)) (sym (n s.world h.names)))

-- nothing follows where no answer is wanted
pub ends_now : (live : Live) (turn : State → Course (Unit {0})) → ((s : State) → turn s ≡ gives tt s) → BeginsWith turn live live steps.Ends
ends_now live turn e g programs before s h = record { state = s; rests = h; course = e s }
