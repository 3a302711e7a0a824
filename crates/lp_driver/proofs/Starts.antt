-- The start that goes on to its end.
use Rattle.std.proofs.Common.{◌≡◌, ◌<◌, ◌≤◌, ◌⊎◌, arith, [], ℕ, zero, suc, eqb, false, List, Option, refl, sym, subst, inl, inr, Vec, Global}
use Rattle.lp_tree.specs.declared.fault.Fault.{Fault}
use Rattle.lp_code.specs.declared.program.RawProgram.{RawProgram}
use Rattle.lp_events.specs.declared.out.Out.{Out}
use Rattle.lp_swapfile.specs.Device.{Bytes}
use Rattle.lp_language.specs.Course.{Course, End, Gives, State, after}
use Rattle.lp_meaning.specs.Closing.{Ends}
use Rattle.lp_meaning.specs.EventTurns.{Begins, NoMaster, Start, begun, starting}
use Rattle.lp_meaning.specs.FrontEnd.{FrontEnd}
use Rattle.lp_meaning.specs.NothingLost.{OutcomesCanBe}
use Rattle.lp_front_end.specs.FrontEnds.{ThereIsOne}
use Rattle.lp_world.specs.declared.live.Live.{Live}
use Rattle.lp_turn.specs.Calls.{question_of, state_behind}
use Rattle.lp_turn.specs.Left.{AsksLess, LeavesNoMore, stages_behind, stages_left, texts_behind, texts_left}
use Rattle.lp_turn.specs.Resting.{Rests}
use Rattle.lp_turn.specs.Starting.{KnowsNames, StartGoes, StartTakes, StartsWith}
use Rattle.lp_turn.specs.Starts.{start_waiting}
use Rattle.lp_turn.specs.declared.job.Call.{Call}
use Rattle.lp_turn.specs.declared.job.CallEnd.{CallEnd}
use Rattle.lp_turn.specs.declared.start_job.StartGoing.{StartGoing}
use Rattle.lp_turn.specs.declared.start_job.StartStep.{StartStep}
use Rattle.lp_turn.specs.declared.start_job.StartStep.TheVariants as steps
use Rattle.lp_turn.specs.declared.start_job.StartWaiting.{StartWaiting}
use Rattle.lp_turn.specs.declared.start_job.StartWaiting.TheVariants as waitings
use Rattle.lp_driver.specs.Carrying.{Carries, RestsForOne}
use Rattle.lp_driver.specs.Knowing.{KnowsFor}
use Rattle.lp_driver.specs.Starting.{IsLastStep, IsStartAskedThere, StartConcludes, StartContinues, StartEnds, StartGoesOn, StartSteps, StepStands, asking_start}
use Rattle.lp_driver.specs.declared.starting.Started.{Started}
use Rattle.lp_driver.specs.declared.starting.Started.TheVariants as started
use Rattle.lp_driver.proofs.Turns.{ended_asks}

-- what is known
knows_names : (waiting : StartWaiting) (told : Option Bytes) (programs : List RawProgram) (before : List Out) (live : Live) (s : State) → KnowsFor waiting live → Rests told programs before live s → KnowsNames waiting live s
knows_names waitings.First told programs before live s k h = k told programs s.world h.world.stands
knows_names (waitings.Load f) told programs before live s k h = tt
knows_names (waitings.Master f) told programs before live s k h = tt
knows_names (waitings.Simul name) told programs before live s k h = tt

-- A call was carried out, and the start was told how it ended.
pub start_asked : (call : Call) (waiting : StartWaiting) (end : CallEnd) (going : StartGoing) (told0 told1 told2 : Option Bytes) (live0 live1 live2 : Live) → OutcomesCanBe → Carries call told0 live0 told1 live1 end → KnowsFor waiting live1 → StartTakes waiting end told1 live1 told2 live2 going
    → StartGoesOn (asking_start call waiting) told0 live0 told2 live2 going
start_asked call waiting end going told0 told1 told2 live0 live1 live2 can carries knows takes front real programs before s h =
    let r = carries front real programs before s h in
    let t = takes r.programs before r.outcome.answer (after (begun call.player s) r.outcome) r.rests r.ended (knows_names waiting told1 r.programs before live1 (after (begun call.player s) r.outcome) knows r.rests) in
    record {
      programs = r.programs;
      state = t.state;
      rests = t.rests;
      back = λ e l. ended_asks front (question_of call s) (λ o. start_waiting waiting o.answer (state_behind call s o)) r.outcome e can r.has (subst (λ c. Ends front c e) (sym t.course) l);
    }

-- then the state stands for one of the meaning's still
pub start_rests : (course : State → Course Start) (going : StartGoing) (told0 told1 : Option Bytes) (live0 live1 : Live) → ThereIsOne → StartGoesOn course told0 live0 told1 live1 going → RestsForOne told0 live0 → RestsForOne told1 live1
start_rests course going told0 told1 live0 live1 one goes h = let r = goes one.0 one.1 h.programs h.before h.state h.rests in record { programs = r.programs; before = h.before; state = r.state; rests = r.rests }

-- It goes on to its next step.
pub start_stepped : (course : State → Course Start) (going : StartGoing) (r : StartStep) (told0 told1 : Option Bytes) (live0 live1 live2 : Live) → StartGoesOn course told0 live0 told1 live1 going → StartGoes r going live1 live2 → StartSteps course told0 live0 told1 live2 r
start_stepped course going (steps.Asks call waiting) told0 told1 live0 live1 live2 goes steps front real programs before s h =
    let g = goes front real programs before s h in
    let l = steps told1 g.programs before g.state g.rests in
    record { programs = g.programs; state = l.state; rests = l.rests; back = λ e x. g.back e (subst (λ c. Ends front c e) (sym l.course) x) }
start_stepped course going steps.Begins told0 told1 live0 live1 live2 goes steps front real programs before s h =
    let g = goes front real programs before s h in
    let l = steps told1 g.programs before g.state g.rests in
    record { programs = g.programs; state = l.state; rests = l.rests; ends = g.back (Gives Begins l.state) (subst (λ c. Ends front c (Gives Begins l.state)) (sym l.course) ([], refl, tt)) }
start_stepped course going (steps.NoMaster fs) told0 told1 live0 live1 live2 goes steps front real programs before s h =
    let g = goes front real programs before s h in
    let l = steps told1 g.programs before g.state g.rests in
    record { programs = g.programs; state = l.state; rests = l.rests; ends = g.back (Gives (NoMaster fs.items) l.state) (subst (λ c. Ends front c (Gives (NoMaster fs.items) l.state)) (sym l.course) ([], refl, tt)) }

-- the state and what is asked for, where a course came to a step
pub led_rests : (course : State → Course Start) (r : StartStep) (told : Option Bytes) (live0 live1 : Live) → StartsWith course live0 live1 r → RestsForOne told live0 → RestsForOne told live1
led_rests course (steps.Asks call waiting) told live0 live1 leads h = let a = leads told h.programs h.before h.state h.rests in record { programs = h.programs; before = h.before; state = a.state; rests = a.rests }
led_rests course steps.Begins told live0 live1 leads h = let a = leads told h.programs h.before h.state h.rests in record { programs = h.programs; before = h.before; state = a.state; rests = a.rests }
led_rests course (steps.NoMaster fs) told live0 live1 leads h = let a = leads told h.programs h.before h.state h.rests in record { programs = h.programs; before = h.before; state = a.state; rests = a.rests }

pub led_there : (course : State → Course Start) (r : StartStep) (told : Option Bytes) (live0 live1 : Live) → StartsWith course live0 live1 r → RestsForOne told live0 → IsStartAskedThere live1.objects r
led_there course (steps.Asks call waiting) told live0 live1 leads h = (leads told h.programs h.before h.state h.rests).there
led_there course steps.Begins told live0 live1 leads h = tt
led_there course (steps.NoMaster fs) told live0 live1 leads h = tt

-- What ends what is left, ends the whole.
pub step_back : (front : FrontEnd) (told : Option Bytes) (before : List Out) (live : Live) (r : StartStep) (c d : Course Start) → StepStands front told before live r c → ((e : End Start) → Ends front c e → Ends front d e) → StepStands front told before live r d
step_back front told before live (steps.Asks call waiting) c d h f = record { programs = h.programs; state = h.state; rests = h.rests; back = λ e x. f e (h.back e x) }
step_back front told before live steps.Begins c d h f = record { programs = h.programs; state = h.state; rests = h.rests; ends = f (Gives Begins h.state) h.ends }
step_back front told before live (steps.NoMaster fs) c d h f = record { programs = h.programs; state = h.state; rests = h.rests; ends = f (Gives (NoMaster fs.items) h.state) h.ends }

-- one step after another
pub continues_asked : (call : Call) (waiting : StartWaiting) (more r : StartStep) (told0 told1 told2 : Option Bytes) (live0 live1 live2 : Live) → StartSteps (asking_start call waiting) told0 live0 told1 live1 more → StartContinues more told1 live1 told2 live2 r
    → StartContinues (steps.Asks call waiting) told0 live0 told2 live2 r
continues_asked call waiting more r told0 told1 told2 live0 live1 live2 stepped rest front real before c h =
    rest front real before c (step_back front told1 before live1 more (asking_start call waiting h.state) c (stepped front real h.programs before h.state h.rests) h.back)

pub continues_on : (first : StartStep) (call : Call) (waiting : StartWaiting) (more : StartStep) (told0 told1 told2 : Option Bytes) (live0 live1 live2 : Live) → StartContinues first told0 live0 told1 live1 (steps.Asks call waiting)
    → StartSteps (asking_start call waiting) told1 live1 told2 live2 more → StartContinues first told0 live0 told2 live2 more
continues_on first call waiting more told0 told1 told2 live0 live1 live2 so stepped front real before c h =
    let x = so front real before c h in step_back front told2 before live2 more (asking_start call waiting x.state) c (stepped front real x.programs before x.state x.rests) x.back

pub continues_same : (r : StartStep) (told : Option Bytes) (live : Live) → StartContinues r told live told live r
continues_same r told live front real before c h = h

-- the first step, and the last
first_stands : (front : FrontEnd) (told : Option Bytes) (programs : List RawProgram) (before : List Out) (live : Live) (r : StartStep) (s : State) → StartsWith starting live live r → Rests told programs before live s → StepStands front told before live r (starting s)
first_stands front told programs before live (steps.Asks call waiting) s leads h =
    let l = leads told programs before s h in record { programs = programs; state = l.state; rests = l.rests; back = λ e x. subst (λ c. Ends front c e) (sym l.course) x }
first_stands front told programs before live steps.Begins s leads h =
    let l = leads told programs before s h in record { programs = programs; state = l.state; rests = l.rests; ends = subst (λ c. Ends front c (Gives Begins l.state)) (sym l.course) ([], refl, tt) }
first_stands front told programs before live (steps.NoMaster fs) s leads h =
    let l = leads told programs before s h in record { programs = programs; state = l.state; rests = l.rests; ends = subst (λ c. Ends front c (Gives (NoMaster fs.items) l.state)) (sym l.course) ([], refl, tt) }

pub start_ends : (first last : StartStep) (end : Started) (told0 told1 told2 : Option Bytes) (live0 live1 live2 : Live) → StartsWith starting live0 live0 first → StartContinues first told0 live0 told1 live1 last → StartConcludes last told1 live1 told2 live2 end
    → StartEnds starting told0 live0 told2 live2 end
start_ends first last end told0 told1 told2 live0 live1 live2 leads continues concludes front real programs before s h =
    concludes front real before (starting s) (continues front real before (starting s) (first_stands front told0 programs before live0 first s leads h))

-- less is left
stage_or_text : (w : StartWaiting) (n t m u : ℕ) → (stages_behind w < n) ⊎ ((stages_behind w ≡ 0) × (texts_behind w < t)) → n ≤ m → (m ≡ 0 → t ≤ u) → (stages_behind w < m) ⊎ ((stages_behind w ≡ 0) × (texts_behind w < u))
stage_or_text w n t zero u (inl a) le te = inl (omega (arith, a, le))
stage_or_text w n t (suc m) u (inl a) le te = inl (omega (arith, a, le))
stage_or_text w n t zero u (inr p) le te = let a = p.1 in let b = te refl in inr (p.0, omega (arith, a, b))
stage_or_text w n t (suc m) u (inr p) le te = let a = p.0 in inl (omega (arith, a))

pub less_on : (r : StartStep) (going : StartGoing) (waiting : StartWaiting) → AsksLess r (stages_left going) (texts_left going) → LeavesNoMore going waiting → AsksLess r (stages_behind waiting) (texts_behind waiting)
less_on (steps.Asks call w) going waiting a h = stage_or_text w (stages_left going) (texts_left going) (stages_behind waiting) (texts_behind waiting) a h.stages h.texts
less_on steps.Begins going waiting a h = tt
less_on (steps.NoMaster fs) going waiting a h = tt

-- what is left at a step
abbrev pub stages_of_step : StartStep → ℕ
stages_of_step (steps.Asks call waiting) = suc (stages_behind waiting)
stages_of_step steps.Begins = 0
stages_of_step (steps.NoMaster fs) = 0

abbrev pub texts_of_step : StartStep → ℕ
texts_of_step (steps.Asks call waiting) = suc (texts_behind waiting)
texts_of_step steps.Begins = 0
texts_of_step (steps.NoMaster fs) = 0

-- before the last stage fewer stages are left with each call, ..
pub fewer_stages : (r : StartStep) (waiting : StartWaiting) → eqb (stages_behind waiting) 0 ≡ false → AsksLess r (stages_behind waiting) (texts_behind waiting) → stages_of_step r < suc (stages_behind waiting)
fewer_stages (steps.Asks call w) waiting e h = by (stages_behind waiting) e h
  where
    by : (n : ℕ) → eqb n 0 ≡ false → (stages_behind w < n) ⊎ ((stages_behind w ≡ 0) × (texts_behind w < texts_behind waiting)) → suc (stages_behind w) < suc n
    by zero e h = cc
    by (suc n) e (inl a) = omega (arith, a)
    by (suc n) e (inr p) = let a = p.0 in omega (arith, a)
fewer_stages steps.Begins waiting e h = omega arith
fewer_stages (steps.NoMaster fs) waiting e h = omega arith

-- .. and in the last one fewer calls, which stay in it
pub fewer_texts : (r : StartStep) (waiting : StartWaiting) → stages_behind waiting ≡ 0 → AsksLess r (stages_behind waiting) (texts_behind waiting) → texts_of_step r < suc (texts_behind waiting)
fewer_texts (steps.Asks call w) waiting e (inl a) = omega (arith, a, e)
fewer_texts (steps.Asks call w) waiting e (inr p) = let a = p.1 in omega (arith, a)
fewer_texts steps.Begins waiting e h = omega arith
fewer_texts (steps.NoMaster fs) waiting e h = omega arith

pub last_still : (r : StartStep) (waiting : StartWaiting) → stages_behind waiting ≡ 0 → AsksLess r (stages_behind waiting) (texts_behind waiting) → IsLastStep r
last_still (steps.Asks call w) waiting e (inl a) = omega (arith, a, e)
last_still (steps.Asks call w) waiting e (inr p) = p.0
last_still steps.Begins waiting e h = tt
last_still (steps.NoMaster fs) waiting e h = tt

-- the last step is an end
pub concludes_begins : (first : StartStep) (told0 told1 : Option Bytes) (live0 live1 : Live) → StartContinues first told0 live0 told1 live1 steps.Begins → StartConcludes first told0 live0 told1 live1 started.Begins
concludes_begins first told0 told1 live0 live1 so front real before c h = so front real before c h

pub concludes_no_master : (first : StartStep) (fs : Vec Fault Global) (told0 told1 : Option Bytes) (live0 live1 : Live) → StartContinues first told0 live0 told1 live1 (steps.NoMaster fs) → StartConcludes first told0 live0 told1 live1 (started.NoMaster fs)
concludes_no_master first fs told0 told1 live0 live1 so front real before c h = so front real before c h
