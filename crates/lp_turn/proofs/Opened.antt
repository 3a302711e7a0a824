-- The start takes the ends of its calls.
use Rattle.std.proofs.Common.{◌≡◌, ◌∙◌, ℕ, List, Option, None, ap, if◌then◌else◌}
use Rattle.std.specs.Str.{chars}
use Rattle.lp_values.specs.declared.value.Value.{Value}
use Rattle.lp_swapfile.specs.Device.{Bytes}
use Rattle.lp_language.specs.World.{object_named}
use Rattle.lp_language.specs.Course as course
use Rattle.lp_language.specs.Course.{Returned, State, and_then, gives}
use Rattle.lp_meaning.specs.EventTurns.{Done, NoMaster, aborted, after_master, applied_if, begun, call_end, driver_call, faults_in, with_epilog}
use Rattle.lp_meaning.specs.FileLoads.{loaded_value}
use Rattle.lp_meaning.specs.WorldSteps.{master_name}
use Rattle.lp_world.specs.declared.live.Live.{Live}
use Rattle.lp_turn.specs.Ends.{HasValueOf, IsLoadEnd}
use Rattle.lp_turn.specs.StartEnds.{TakesMade}
use Rattle.lp_turn.specs.Starting.{StartTakes}
use Rattle.lp_turn.specs.Starts.{start_arguments, start_behind, start_going, start_name}
use Rattle.lp_turn.specs.declared.job.CallEnd.{CallEnd}
use Rattle.lp_turn.specs.declared.start_job.StartFunction.{StartFunction}
use Rattle.lp_turn.specs.declared.start_job.StartFunction.TheVariants as functions
use Rattle.lp_turn.specs.declared.start_job.StartGoing.{StartGoing}
use Rattle.lp_turn.specs.declared.start_job.StartGoing.TheVariants as goings
use Rattle.lp_turn.specs.declared.start_job.StartWaiting.TheVariants as waitings
use Rattle.lp_turn.proofs.Initial.{rests_begun}

pub master_answered : (told0 told1 : Option Bytes) (live0 live1 : Live) (f : StartFunction) (end : CallEnd) (v : Value) (going : StartGoing) → HasValueOf None end told0 live0 told1 live1 v
    → ((d : Done) (s : State) → d.value ≡ v → start_behind f d s ≡ start_going going s) → StartTakes (waitings.Master f) end told0 live0 told1 live1 going
master_answered told0 told1 live0 live1 f end v going m b programs before a s h i k =
    let r = m programs before a s h i in record { state = r.state; rests = r.rests; course = ap (λ c. and_then c (start_behind f)) r.course ∙ b r.done r.state r.value }

pub load_answered : (told0 told1 : Option Bytes) (live0 live1 : Live) (f : StartFunction) (end : CallEnd) → IsLoadEnd master_name end told0 live0 told1 live1 → StartTakes (waitings.Load f) end told0 live0 told1 live1 (goings.Loaded f)
load_answered told0 told1 live0 live1 f end m programs before a s h i k =
    let r = m programs before a s h i in
    record {
      state = r.state;
      rests = r.rests;
      course = ap (λ c. and_then (and_then c (λ d s. applied_if (object_named s.world master_name) (start_name f) (start_arguments f) s)) (start_behind f)) r.course;
    }

pub simul_loaded : (told0 told1 : Option Bytes) (live0 live1 : Live) (name : List ℕ) (end : CallEnd) → IsLoadEnd (chars name) end told0 live0 told1 live1
    → StartTakes (waitings.Simul name) end told0 live0 told1 live1 (goings.Master functions.Epilog)
simul_loaded told0 told1 live0 live1 name end m programs before a s h i k =
    let r = m programs before a s h i in record { state = r.state; rests = r.rests; course = ap (λ c. and_then c (λ d s. with_epilog s)) r.course }

-- The first load.
pub first_made : (told0 told1 : Option Bytes) (live0 live1 : Live) (end : CallEnd) → IsLoadEnd master_name end told0 live0 told1 live1 → TakesMade end told0 live0 told1 live1 (goings.Master functions.Inaugurate)
first_made told0 told1 live0 live1 end m programs before (Returned x) s h i e =
    let r = m programs before (Returned x) (begun None s) (rests_begun told0 programs before live0 s h) i in
    record {
      state = r.state;
      rests = r.rests;
      course = ap (λ b. if b then and_then (driver_call None (λ s. loaded_value master_name x s) s) (λ d s. after_master s) else gives (NoMaster (faults_in x)) s) e ∙ ap (λ c. and_then c (λ d s. after_master s)) r.course;
    }
first_made told0 told1 live0 live1 end m programs before (course.Stopped x) s h i e =
    let r = m programs before (course.Stopped x) s h i in
    record {
      state = r.state;
      rests = r.rests;
      course = ap (λ b. if b then and_then (course.Over (call_end None (course.Stops x s))) (λ d s. after_master s) else gives (NoMaster aborted) s) e ∙ ap (λ c. and_then c (λ d s. after_master s)) r.course;
    }
