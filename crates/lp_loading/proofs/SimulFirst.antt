-- The simul-efun object comes first.
use Rattle.std.proofs.Common.{◌≡◌, ◌∙◌, ◌||◌, ◌<◌, ℕ, suc, Bool, true, false, List, [], Option, Some, None, refl, ap, sym, subst, if◌then◌else◌, arith}
use Rattle.std.specs.Prelude.{is_some}
use mathlib.Core.Path.{fun_ext}
use Rattle.lp_values.specs.declared.id.ObjId.{ObjId}
use Rattle.lp_code.specs.declared.program.RawProgram.{RawProgram}
use Rattle.lp_swapfile.specs.Device.{Bytes}
use Rattle.lp_language.specs.Course as course
use Rattle.lp_language.specs.Course.{Asks, Load, Over, Returned, State, after, and_then, end_of_reply}
use Rattle.lp_language.specs.World.{World, object_named}
use Rattle.lp_meaning.specs.Askers.{ask_reply, question}
use Rattle.lp_meaning.specs.Closing.{Ends}
use Rattle.lp_meaning.specs.FileLoads.{after_load, is_under_way, simul_missing, unless_there}
use Rattle.lp_world.specs.Stands.{Stands}
use Rattle.lp_world.specs.declared.live.Live.{Live}
use Rattle.lp_asking.specs.declared.asker.Loading.{Loading}
use Rattle.lp_efuns.specs.declared.caller.Turn.{Turn}
use Rattle.lp_loading.specs.declared.job.Going.TheVariants as goings
use Rattle.lp_loading.specs.declared.job.LoadJob.{LoadJob}
use Rattle.lp_loading.specs.declared.job.Step.TheVariants as steps
use Rattle.lp_loading.specs.declared.job.Waiting.TheVariants as waitings
use Rattle.lp_loading.specs.declared.job.Step.{Step}
use Rattle.lp_loading.specs.Going.{Goes, LeadsTo}
use Rattle.lp_loading.specs.Loads.{loads_of, reading_first, waiting_course}
use Rattle.lp_loading.specs.Simuls.{missing_if}
use Rattle.lp_loading.proofs.Growth.{grows_same}

-- what is missing, by the state's name
pub missing_is : (told : Option Bytes) (programs : List RawProgram) (live : Live) (w : World) (name : List ℕ) (loads : List course.Loading) → Stands told programs live w → live.simul ≡ Some name → missing_if w name loads ≡ simul_missing w loads
missing_is told programs live w name loads h e =
    sym (ap (λ o. elim o [ Some n ↦ if is_some (object_named w n) || is_under_way n loads then None else Some n | None ↦ None ]) (sym h.rest.simul ∙ e))

pub none_missing : (told : Option Bytes) (programs : List RawProgram) (live : Live) (w : World) (loads : List course.Loading) → Stands told programs live w → live.simul ≡ None → None ≡ simul_missing w loads
none_missing told programs live w loads h e = sym (ap (λ o. elim o [ Some n ↦ if is_some (object_named w n) || is_under_way n loads then None else Some n | None ↦ None ]) (sym h.rest.simul ∙ e))

-- by what is live and under way
pub under_way_none : (w : World) (name : List ℕ) (loads : List course.Loading) → is_under_way name loads ≡ true → None ≡ missing_if w name loads
under_way_none w name loads e = sym (ap (λ b. if is_some (object_named w name) || b then None else Some name) e ∙ by (is_some (object_named w name)))
  where
    by : (b : Bool) → (if b || true then None else Some name) ≡ None
    by true = refl
    by false = refl

pub live_none : (w : World) (name : List ℕ) (loads : List course.Loading) (o : ObjId) → Some o ≡ object_named w name → None ≡ missing_if w name loads
live_none w name loads o e = ap (λ q. if is_some q || is_under_way name loads then None else Some name) e

pub is_missing : (w : World) (name : List ℕ) (loads : List course.Loading) → None ≡ object_named w name → is_under_way name loads ≡ false → Some name ≡ missing_if w name loads
is_missing w name loads e q = sym (ap (λ b. if b then None else Some name) q) ∙ ap (λ z. if is_some z || is_under_way name loads then None else Some name) e

-- It is asked for.
pub simul_goes : (job : LoadJob) (loads : List Loading) (told : Option Bytes) (live : Live) (budget : ℕ) (turn : Turn) (name : List ℕ) → ((t : Option Bytes) (programs : List RawProgram) (w : World) → Stands t programs live w → Some name ≡ simul_missing w (loads_of loads))
    → Goes (steps.Asks name waitings.Simul) job goings.Simul loads told live budget told live budget turn
simul_goes job loads told live budget turn name m front programs before by s turns real at under l = record {
  programs = programs;
  grown = grows_same programs;
  state = s;
  turns = turns;
  at = at;
  enough = omega (arith, l);
  ends = λ e h.
      subst (λ c. Ends front c e)
      (ap (Asks (question (Load name course.Inherited) [] by s)) (fun_ext (λ r. answered r.answer (after s r)))
      ∙ ap (λ o. elim o [ Some n ↦ and_then (ask_reply (Load n course.Inherited) [] by s) (λ r s. after_load r s (λ x s. unless_there job.name s (λ s. reading_first job by s))) | None ↦ reading_first job by s ])
      (m told programs s.world at.world.stands ∙ ap (simul_missing s.world) (sym under.2)))
      h;
}
  where
    answered : (a : course.Answer) (t : State) → waiting_course turns job waitings.Simul by (end_of_reply a t) ≡ and_then (Over (end_of_reply a t)) (λ r s. after_load r s (λ x s. unless_there job.name s (λ s. reading_first job by s)))
    answered (Returned r) t = refl
    answered (course.Stopped x) t = refl

-- And where it is not missing, the file is read.
pub read_goes_first : (r : Step) (job : LoadJob) (loads : List Loading) (told0 : Option Bytes) (live0 : Live) (told1 : Option Bytes) (live1 : Live) (budget : ℕ) (turn : Turn)
    → ((t : Option Bytes) (programs : List RawProgram) (w : World) → Stands t programs live0 w → None ≡ simul_missing w (loads_of loads))
    → Goes r job goings.Read loads told0 live0 budget told1 live1 budget turn → Goes r job goings.Simul loads told0 live0 budget told1 live1 budget turn
read_goes_first r job loads told0 live0 told1 live1 budget turn n g front programs before by s turns real at under l =
    let few : budget < suc s.budget = let b : s.budget ≡ budget = at.at.left in omega (arith, b) in
    subst (λ c. LeadsTo front r job c programs told1 before live1 turn budget by)
    (ap (λ o. elim o [ Some n ↦ and_then (ask_reply (Load n course.Inherited) [] by s) (λ r s. after_load r s (λ x s. unless_there job.name s (λ s. reading_first job by s))) | None ↦ reading_first job by s ])
    (n told0 programs s.world at.at.stands ∙ ap (simul_missing s.world) (sym under.2)))
    (g front programs before by s (suc s.budget) real at under few)
