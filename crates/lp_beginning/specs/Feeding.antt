-- How a job goes on behind the end of its question.
use Rattle.std.specs.Prelude.{◌≡◌, ◌<◌, ◌++◌, ◌∷◌, [], ⊤, ℕ, List, Bool, true, false, Option}
use Rattle.lp_values.specs.declared.id.ObjId.{ObjId}
use Rattle.lp_values.specs.declared.value.Value.{Value}
use Rattle.lp_values.specs.declared.value.Value.TheVariants.{Obj}
use Rattle.lp_code.specs.declared.program.RawProgram.{RawProgram}
use Rattle.lp_swapfile.specs.Device.{Bytes}
use Rattle.lp_events.specs.declared.out.Out.TheVariants as outs
use Rattle.lp_language.specs.World.{World}
use Rattle.lp_language.specs.Course as course
use Rattle.lp_language.specs.Course.{End, Gives, Over, Plain, State, Stops, gives, in_any_case}
use Rattle.lp_language.specs.Resolve.{or_else}
use Rattle.lp_meaning.specs.Askers.{Asker, ask_value}
use Rattle.lp_meaning.specs.FileLoads.{begun_end}
use Rattle.lp_meaning.specs.FunctionCalls.{place_of_asker}
use Rattle.lp_world.specs.declared.live.Live.{Live}
use Rattle.lp_efuns.specs.declared.caller.Turn.{Turn}
use Rattle.lp_efuns.specs.Turns.{Setting}
use Rattle.lp_asking.specs.declared.ending.Cause.{Cause}
use Rattle.lp_asking.specs.declared.ending.Cause.TheVariants as causes
use Rattle.lp_asking.specs.declared.ending.Ending.{Ending}
use Rattle.lp_asking.specs.declared.ending.Ending.TheVariants as endings
use Rattle.lp_asking.specs.declared.ending.Place.{Place}
use Rattle.lp_asking.specs.declared.ending.Stop.{Stop}
use Rattle.lp_asking.specs.Endings.{IsPlaceIf, IsStop}
use Rattle.lp_beginning.specs.declared.job.Fed.{Fed}
use Rattle.lp_beginning.specs.declared.job.Fed.TheVariants as fed
use Rattle.lp_beginning.specs.declared.job.LoadKind.{LoadKind}
use Rattle.lp_beginning.specs.declared.job.LoadKind.TheVariants as kinds
use Rattle.lp_beginning.specs.declared.job.Making.{Making}
use Rattle.lp_beginning.specs.declared.job.Question.{Question}
use Rattle.lp_beginning.specs.Beginning.{Fits, IsOverWith, StandsStill}
use Rattle.lp_beginning.specs.Ends.{IsValueEnd, state_at}
use Rattle.lp_beginning.specs.Jobs.{asked_of, course_of, kind_of, questions_left, rest_of}
use Rattle.lp_beginning.specs.Reports.{IsStopText}

-- A job asks this, and goes on from its end.
abbrev pub AsksNext : Making → Question → Type 0
AsksNext job q = (by : Asker) (s : State) → course_of job by s ≡ in_any_case (ask_value (asked_of q) [] by s) (rest_of job by)

-- who asks is the function at this place, or the driver
abbrev pub IsAskerAt : List RawProgram → World → Option Place → Asker → Type 0
IsAskerAt programs w place by = IsPlaceIf programs w place (place_of_asker w by)

-- Values

-- A question gave a value. The job goes on, or it ends with its object.
abbrev pub Takes : Fed → Making → Making → Type 0
Takes fed.Goes job0 job1 = (by : Asker) (v : Value) (s : State) → rest_of job0 by (Gives v s) ≡ course_of job1 by s
Takes (fed.Ends answer) job0 job1 = (answer ≡ endings.Value (Obj job0.object)) × ((by : Asker) (v : Value) (s : State) → rest_of job0 by (Gives v s) ≡ gives (Plain (Obj job0.object)) s)

-- a job later on is for the same object and made for the same, and has fewer questions left
pub record IsLater (old new : Making) : Type 0 where
  pub kind : new.kind ≡ old.kind
  pub object : new.object ≡ old.object
  pub less : questions_left new < questions_left old

abbrev pub LeavesLess : Fed → Making → Making → Type 0
LeavesLess fed.Goes job0 job1 = IsLater job0 job1
LeavesLess (fed.Ends answer) job0 job1 = ⊤

-- Stops

-- an end that is caught where an object was made for an `inherit`: any but that the budget is spent
abbrev pub is_caught : Cause → Bool
is_caught (causes.Thrown v) = true
is_caught (causes.Failed e) = true
is_caught causes.Spent = false

abbrev pub caught : LoadKind → Cause → Bool
caught kinds.Wanted cause = false
caught kinds.Inherited cause = is_caught cause

-- where a stop was, or else who asked
abbrev pub earlier_place : Option Place → Option Place → Option Place
earlier_place place asker = or_else place asker

-- A stop is logged; nothing else changes in the worlds for which the state stands.
pub record IsLogged (told : Option Bytes) (live0 live1 : Live) (cause : Cause) (at : Option Place) : Type 0 where
  pub text : List ℕ
  pub is : IsStopText told live0 cause at text
  pub outputs : live1.outputs ≡ live0.outputs ++ outs.Log text ∷ []
  pub stands : StandsStill told live0 told live1

-- A question gave a stop, and the job ends so.
abbrev pub StopsAs : LoadKind → ObjId → Stop → Option Place → Ending → Option Bytes → Live → Live → Type 0
StopsAs kind object stop asker answer told live0 live1 =
    (g : Setting) (by : Asker) (turn : Turn) (budget : ℕ) (x : course.Stop) (s : State) → g.told ≡ told → Fits g live0 turn budget s → IsStop g.programs s.world stop x → IsAskerAt g.programs s.world asker by
    → IsOverWith g live1 turn budget s answer (Over (begun_end (kind_of kind) by object (Stops x s)))

-- Both

-- The job goes on: behind each such end of its question its course is that of the job now, and nothing else changed.
pub record GoesOn (job0 : Making) (ending : Ending) (live0 : Live) (job1 : Making) (live1 : Live) : Type 0 where
  pub course : (programs : List RawProgram) (by : Asker) (e : End Value) → IsValueEnd programs ending e → rest_of job0 by e ≡ course_of job1 by (state_at e)
  pub same : live1 ≡ live0

-- It ends so: behind each such end of its question, in a state for which the live state stands, its course asks nothing more.
abbrev pub EndsWith : Making → Ending → Option Place → Ending → Option Bytes → Live → Live → Type 0
EndsWith job ending asker answer told live0 live1 =
    (g : Setting) (by : Asker) (turn : Turn) (budget : ℕ) (e : End Value) → g.told ≡ told → Fits g live0 turn budget (state_at e) → IsValueEnd g.programs ending e → IsAskerAt g.programs (state_at e).world asker by
    → IsOverWith g live1 turn budget (state_at e) answer (rest_of job by e)

abbrev pub Feeds : Fed → Making → Ending → Option Place → Option Bytes → Live → Making → Live → Type 0
Feeds fed.Goes job0 ending asker told live0 job1 live1 = GoesOn job0 ending live0 job1 live1
Feeds (fed.Ends answer) job0 ending asker told live0 job1 live1 = EndsWith job0 ending asker answer told live0 live1
