-- What a load does next.
use Rattle.std.proofs.Common.{◌≡◌, ◌∙◌, ◌++◌, ℕ, zero, suc, List, [], ◌∷◌, Option, refl, ap, sym, subst, map, arith}
use Rattle.lp_values.specs.declared.id.ProgId.{ProgId}
use Rattle.lp_code.specs.declared.program.RawProgram.{RawProgram}
use Rattle.lp_events.specs.declared.out.Out.{Out}
use Rattle.lp_swapfile.specs.Device.{Bytes}
use Rattle.lp_language.specs.Course.{Course, End, Reply, State}
use Rattle.lp_meaning.specs.Askers.{Asker}
use Rattle.lp_meaning.specs.Closing.{Ends}
use Rattle.lp_meaning.specs.FileLoads.{Made, making, parents_in, simul_names, version_known, version_now}
use Rattle.lp_meaning.specs.FrontEnd.{FrontEnd}
use Rattle.lp_meaning.specs.WorldSteps.{file_of_name, next_version, with_new_version}
use Rattle.lp_compile_laws.specs.Told.{IsChecked}
use Rattle.lp_step.specs.Steps.{KeepsVariables}
use Rattle.lp_world.specs.Rows.{variables_at}
use Rattle.lp_world.specs.declared.live.Live.{Live}
use Rattle.lp_world.specs.declared.objects.Object.{Object}
use Rattle.lp_asking.specs.declared.asker.Loading.{Loading}
use Rattle.lp_efuns.specs.declared.caller.Turn.{Turn}
use Rattle.lp_loading.specs.declared.compiling.Compiled.TheVariants as compiled
use Rattle.lp_loading.specs.declared.job.Going.{Going}
use Rattle.lp_loading.specs.declared.job.Going.TheVariants as goings
use Rattle.lp_loading.specs.declared.job.LoadJob.{LoadJob}
use Rattle.lp_loading.specs.declared.job.Purpose.{Purpose}
use Rattle.lp_loading.specs.declared.job.Step.{Step}
use Rattle.lp_loading.specs.declared.job.Step.TheVariants as steps
use Rattle.lp_loading.specs.declared.job.Waiting.TheVariants as waitings
use Rattle.lp_loading.specs.Going.{Goes, IsAt, LeadsTo, MakesAs, setting}
use Rattle.lp_loading.specs.Growing.{Grows}
use Rattle.lp_loading.specs.Loads.{kind_of, loads_of}
use Rattle.lp_loading.specs.Present.{all_made}
use Rattle.lp_loading.specs.Readings.{SoundGoesOn}
use Rattle.lp_loading.specs.Reads.{HasRead}
use Rattle.lp_loading.specs.Steps.{AsksInOrder, AsksOrFails, MakesFor, MakesHome}
use Rattle.lp_loading.specs.Versions.{MakesVersion}
use Rattle.lp_loading.proofs.Growth.{grows_more}

-- Courses

-- What ends a course to which another leads, ends that; and programs grow in both.
leads_back : (r : Step) (front : FrontEnd) (job : LoadJob) (c0 c1 : Course Reply) (old mid : List RawProgram) (told : Option Bytes) (before : List Out) (live : Live) (turn : Turn) (budget : ℕ) (by : Asker) → Grows old mid
    → ((e : End Reply) → Ends front c1 e → Ends front c0 e) → LeadsTo front r job c1 mid told before live turn budget by → LeadsTo front r job c0 old told before live turn budget by
leads_back (steps.Asks name waiting) front job c0 c1 old mid told before live turn budget by g b h = record {
  programs = h.programs;
  grown = grows_more old mid h.programs g h.grown;
  state = h.state;
  turns = h.turns;
  at = h.at;
  enough = h.enough;
  ends = λ e k. b e (h.ends e k);
}
leads_back (steps.Makes object) front job c0 c1 old mid told before live turn budget by g b h = record {
  programs = h.programs;
  grown = grows_more old mid h.programs g h.grown;
  state = h.state;
  at = h.at;
  parts = h.parts;
  ends = λ e k. b e (h.ends e k);
}
leads_back (steps.Ends a) front job c0 c1 old mid told before live turn budget by g b h = (
  record {
    programs = h.0.programs;
    grown = grows_more old mid h.0.programs g h.0.grown;
    end = h.0.end;
    is = h.0.is;
    ends = b h.0.end h.0.ends;
  },
  h.1,
)

-- A FILE WITHOUT FAULTS becomes a version, and an object of that is made.
pub sound_leads : SoundGoesOn → (p : RawProgram) (r : Step) (job : LoadJob) (loads : List Loading) (number : ProgId) (told0 told1 told2 : Option Bytes) (live0 live1 live2 live3 : Live) (budget : ℕ) (turn : Turn)
    → MakesVersion live1 live2 job.name p number → live2.outputs ≡ live1.outputs → MakesAs r job number told1 live2 told2 live3 → HasRead (compiled.Made p) job loads told0 live0 told1 live1
    → Goes r job goings.Read loads told0 live0 budget told2 live3 budget turn
sound_leads sound p r job loads number told0 told1 told2 live0 live1 live2 live3 budget turn v o m h front programs before by s zero real at under l = absurd (omega (arith, l))
sound_leads sound p r job loads number told0 told1 told2 live0 live1 live2 live3 budget turn v o m h front programs before by s (suc n) real at under l =
    let c = h.is programs s.world at.world in
    let made : List Made = all_made job.made.items in
    let simuls : List (List ℕ) = simul_names s.world (loads_of loads) in
    let f = c.front_end front real in
    let items = f.compiles.items in
    let pragmas = f.compiles.pragmas in
    let parents : List ProgId = map (version_known s.world made) (parents_in items) in
    let t : State = record s { world = with_new_version s.world (version_now s.world job.name items pragmas parents simuls) } in
    let k = v told1 programs s.world front made h.own simuls c.world h.next f in
    let there : IsAt (setting told1 (programs ++ p ∷ []) before) live2 turn budget t = record {
      at = record { stands = k.world.stands; left = at.at.left; outputs = o ∙ h.outputs ∙ at.at.outputs; player = at.at.player; commands = at.at.commands };
      world = k.world;
    } in
    let checked : IsChecked front s.world made (file_of_name job.name) (simul_names s.world by.loads) items pragmas [] =
    subst (λ ls. IsChecked front s.world made (file_of_name job.name) (simul_names s.world ls) items pragmas []) (sym under.2) f.checked in
    leads_back r front job _ (making (kind_of job.purpose) by job.name number t) programs (programs ++ p ∷ []) told2 before live3 turn budget by (p ∷ [], refl)
    (λ e x. sound front n (kind_of job.purpose) by job.nested job.name made s items pragmas e checked
    (subst (λ ls. Ends front (making (kind_of job.purpose) by job.name (next_version s.world) (record s { world = with_new_version s.world (version_now s.world job.name items pragmas parents (simul_names s.world ls)) })) e) (sym under.2)
    (subst (λ i. Ends front (making (kind_of job.purpose) by job.name i t) e) k.next x)))
    (m front (programs ++ p ∷ []) before by t turn budget there)

-- Steps

pub fails_order : (going : Going) (r : Step) → AsksOrFails r → AsksInOrder going r
fails_order going (steps.Asks name waitings.Simul) h = absurd h
fails_order going (steps.Asks name (waitings.Parent parent)) h = tt
fails_order going (steps.Makes object) h = tt
fails_order going (steps.Ends a) h = tt

pub fails_home : (rows : List (Option Object)) (r : Step) → AsksOrFails r → MakesHome rows r
fails_home rows (steps.Asks name waiting) h = tt
fails_home rows (steps.Makes object) h = absurd h
fails_home rows (steps.Ends a) h = tt

pub fails_for : (p : Purpose) (r : Step) → AsksOrFails r → MakesFor p r
fails_for p (steps.Asks name waiting) h = tt
fails_for p (steps.Makes object) h = absurd h
fails_for p (steps.Ends a) h = tt

-- what reads its file does not ask for the simul-efun object
pub order_first : (r : Step) → AsksInOrder goings.Read r → AsksInOrder goings.Simul r
order_first (steps.Asks name waitings.Simul) h = refl
order_first (steps.Asks name (waitings.Parent parent)) h = tt
order_first (steps.Makes object) h = tt
order_first (steps.Ends a) h = tt

-- Memory

pub home_same : (old new : List (Option Object)) → new ≡ old → KeepsVariables old new
home_same old new e o vs h = (vs, ap (λ rows. variables_at rows o) e ∙ h, refl)
