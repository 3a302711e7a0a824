-- What a load gave, and what a clone becomes.
use Rattle.std.specs.Prelude.{◌≡◌, ⊤, ℕ, List, Bool, Option, Some, None, if◌then◌else◌}
use Rattle.std.specs.Str.{chars}
use Rattle.std.specs.String.{string_bytes}
use Rattle.lp_tree.specs.declared.fault.Fault.{Fault}
use Rattle.lp_values.specs.declared.id.ObjId.{ObjId}
use Rattle.lp_values.specs.declared.value.Value.{Value}
use Rattle.lp_code.specs.declared.program.RawProgram.{RawProgram}
use Rattle.lp_swapfile.specs.Device.{Bytes}
use Rattle.lp_language.specs.Course.{Course, End, Gives, Over, Reply, State, Stops, and_then}
use Rattle.lp_asking.specs.declared.ending.Cause.TheVariants as causes
use Rattle.lp_asking.specs.declared.ending.Ending.TheVariants as endings
use Rattle.lp_beginning.specs.declared.job.Begun as making
use Rattle.lp_beginning.specs.declared.job.Begun.TheVariants as made
use Rattle.lp_meaning.specs.Askers.{Asker}
use Rattle.lp_meaning.specs.Closing.{Ends}
use Rattle.lp_meaning.specs.FileLoads.{clone_name, could_not_load, load_value, object_of_value, object_reply}
use Rattle.lp_meaning.specs.FrontEnd.{FrontEnd}
use Rattle.lp_world.specs.declared.live.Live.{Live}
use Rattle.lp_efuns.specs.declared.caller.Turn.{Turn}
use Rattle.lp_efuns.specs.Turns.{Setting}
use Rattle.lp_asking.specs.declared.ending.Ending.{Ending}
use Rattle.lp_beginning.specs.Beginning.{Fits}
use Rattle.lp_beginning.specs.Ends.{IsReplyEnd, IsValueEnd, state_at}
use Rattle.lp_cloning.specs.declared.fault.CloningFault.{CloningFault}
use Rattle.lp_cloning.specs.Beginning.{IsAtBeginning, IsOverAt}
use Rattle.lp_cloning.specs.Faults.{IsTakenFor}
use Rattle.lp_cloning.specs.Jobs.{clone_loaded, course_of, ended}
use Rattle.lp_cloning.specs.declared.job.Begun.{Begun}
use Rattle.lp_cloning.specs.declared.job.Begun.TheVariants as begun
use Rattle.lp_cloning.specs.declared.job.Cloning.{Cloning}
use Rattle.lp_cloning.specs.declared.job.Cloning.TheVariants as stages

-- the live object that a value is
abbrev pub live_in_value : (ObjId → Bool) → Value → Option ObjId
live_in_value live v = elim (object_of_value v) [ Some o ↦ if live o then Some o else None | None ↦ None ]

-- it ends with the error that a file could not be loaded
abbrev pub IsUnloaded : List ℕ → List Fault → Begun → Type 0
IsUnloaded name faults (begun.Ends e) = e ≡ endings.Stopped (record { cause = causes.Failed (could_not_load name faults); place = None })
IsUnloaded name faults (begun.Runs job) = ⊥

-- how a clone begins that was made
abbrev pub begun_of : making.Begun → Begun
begun_of (made.Ends e) = begun.Ends e
begun_of (made.Runs job) = begun.Runs (stages.Make job)

-- a job that goes on has made its object
abbrev pub IsMakingJob : Cloning → Type 0
IsMakingJob (stages.Load name) = ⊥
IsMakingJob (stages.Make job) = ⊤

abbrev pub IsMaking : Begun → Type 0
IsMaking (begun.Ends e) = ⊤
IsMaking (begun.Runs job) = IsMakingJob job

-- Behind the load of a blueprint

-- what follows the end of the load: a clone of what it gave, or the stop
abbrev pub loaded_rest : Asker → List ℕ → End Value → Course Value
loaded_rest by name (Gives v s) = and_then (clone_loaded by name v s) ended
loaded_rest by name (Stops x s) = Over (Stops x s)

-- a course ends so, or it is that of a job, which is at its beginning
abbrev pub LeadsTo : Begun → Setting → Asker → Turn → ℕ → Live → Course Value → Type 0
LeadsTo (begun.Ends answer) g by turn budget live c = IsOverAt g live turn budget answer c
LeadsTo (begun.Runs job) g by turn budget live c = (t : State) × Fits g live turn budget t × (c ≡ course_of job by t) × IsAtBeginning job t

-- Behind each such end of the load, in a state for which the live state stands, it goes on as this job, or it ends.
abbrev pub LoadedAs : Begun → List ℕ → Ending → Option Bytes → Live → Live → Type 0
LoadedAs r name ending told live0 live1 =
    (g : Setting) (by : Asker) (turn : Turn) (budget : ℕ) (e : End Value) → g.told ≡ told → Fits g live0 turn budget (state_at e) → IsValueEnd g.programs ending e → LeadsTo r g by turn budget live1 (loaded_rest by name e)

-- What the load of the blueprint ends with, and what follows that, the course of a job ends with that loads it.
abbrev pub LoadsThrough : Type 0
LoadsThrough =
    (front : FrontEnd) (name : List ℕ) (by : Asker) (s : State) (e f : End Value) → Ends front (load_value by name s) e → Ends front (loaded_rest by name e) f
    → Ends front (and_then (and_then (load_value by name s) (clone_loaded by name)) ended) f

-- the fault of a job: of a load it is that of a clone of its blueprint; a job that has its object has none
abbrev pub IsFaultIn : Cloning → Option Bytes → Live → CloningFault → Type 0
IsFaultIn (stages.Load name) told live e = IsTakenFor told live (λ w. clone_name w (chars (string_bytes name))) e
IsFaultIn (stages.Make job) told live e = ⊥

-- The end of a clone

-- A clone has begun to its end, with a plain value or a stop: `clone_object` ends so, in the same state. No price is left.
abbrev pub ClonedAs : Ending → Ending → Type 0
ClonedAs ending answer =
    (front : FrontEnd) (programs : List RawProgram) (c : Course Reply) (e : End Reply) → Ends front c e → IsReplyEnd programs ending e
    → (f : End Value) × Ends front (and_then (and_then c object_reply) ended) f × IsValueEnd programs answer f × (state_at f ≡ state_at e)
