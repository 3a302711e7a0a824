-- Turns that go on to their ends.
use Rattle.std.proofs.Common.{◌∷◌, ◌<◌, ◌≤◌, [], ℕ, suc, arith, List, Option, refl, sym, subst}
use Rattle.lp_swapfile.specs.Device.{Bytes}
use Rattle.lp_language.specs.Course.{Ask, Asks, Course, End, Gives, Outcome, State, after}
use Rattle.lp_meaning.specs.Closing.{Ends, Has}
use Rattle.lp_meaning.specs.EventTurns.{begun, done}
use Rattle.lp_meaning.specs.FrontEnd.{FrontEnd}
use Rattle.lp_meaning.specs.NothingLost.{OutcomesCanBe}
use Rattle.lp_front_end.specs.FrontEnds.{ThereIsOne}
use Rattle.lp_code.specs.declared.program.RawProgram.{RawProgram}
use Rattle.lp_events.specs.declared.out.Out.{Out}
use Rattle.lp_world.specs.declared.live.Live.{Live}
use Rattle.lp_turn.specs.Calls.{question_of, state_behind}
use Rattle.lp_turn.specs.Going.{BeginsAs, BeginsWith, Goes, Takes}
use Rattle.lp_turn.specs.Left.{AsksFewer, calls_behind, calls_left}
use Rattle.lp_turn.specs.Resting.{Rests}
use Rattle.lp_turn.specs.Turns.{going_course, waiting_course}
use Rattle.lp_turn.specs.declared.job.Call.{Call}
use Rattle.lp_turn.specs.declared.job.CallEnd.{CallEnd}
use Rattle.lp_turn.specs.declared.job.Going.{Going}
use Rattle.lp_turn.specs.declared.job.Step.{Step}
use Rattle.lp_turn.specs.declared.job.Step.TheVariants as steps
use Rattle.lp_turn.specs.declared.job.Waiting.{Waiting}
use Rattle.lp_driver.specs.Carrying.{Carries, RestsForOne}
use Rattle.lp_driver.specs.Turning.{IsStepAskedThere, StepStands, TurnContinues, TurnEnds, TurnGoes, TurnSteps, asking_course}

-- a course that asks ends as what is left behind an outcome of the question
pub ended_asks : {A : Type 0} (front : FrontEnd) (a : Ask) (k : Outcome → Course A) (o : Outcome) (e : End A) → OutcomesCanBe → Has front a o → Ends front (k o) e → Ends front (Asks a k) e
ended_asks front a k o e can h l = (record { ask = a; outcome = o } ∷ l.0, (refl, can front a o h, l.1), (h, l.2))

-- A call was carried out, and the turn was told how it ended.
pub asked_goes : (call : Call) (waiting : Waiting) (end : CallEnd) (going : Going) (told0 told1 told2 : Option Bytes) (live0 live1 live2 : Live) → OutcomesCanBe → Carries call told0 live0 told1 live1 end → Takes waiting end told1 live1 told2 live2 going
    → TurnGoes (asking_course call waiting) told0 live0 told2 live2 going
asked_goes call waiting end going told0 told1 told2 live0 live1 live2 can carries takes front real programs before s h =
    let r = carries front real programs before s h in
    let t = takes r.programs before r.outcome.answer (after (begun call.player s) r.outcome) r.rests r.ended in
    record {
      programs = r.programs;
      state = t.state;
      rests = t.rests;
      back = λ e l. ended_asks front (question_of call s) (λ o. waiting_course waiting o.answer (state_behind call s o)) r.outcome e can r.has (subst (λ c. Ends front c e) (sym t.course) l);
    }

-- then the state stands for one of the meaning's still
pub goes_rests : (turn : State → Course (Unit {0})) (going : Going) (told0 told1 : Option Bytes) (live0 live1 : Live) → ThereIsOne → TurnGoes turn told0 live0 told1 live1 going → RestsForOne told0 live0 → RestsForOne told1 live1
goes_rests turn going told0 told1 live0 live1 one goes h = let r = goes one.0 one.1 h.programs h.before h.state h.rests in record { programs = r.programs; before = h.before; state = r.state; rests = r.rests }

-- It goes on to its next step.
pub turn_stepped : (turn : State → Course (Unit {0})) (going : Going) (r : Step) (told0 told1 : Option Bytes) (live0 live1 live2 : Live) → TurnGoes turn told0 live0 told1 live1 going → Goes r going live1 live2 → TurnSteps turn told0 live0 told1 live2 r
turn_stepped turn going (steps.Asks call waiting) told0 told1 live0 live1 live2 goes steps front real programs before s h =
    let g = goes front real programs before s h in
    let l = steps told1 g.programs before g.state g.rests in
    record { programs = g.programs; state = l.state; rests = l.rests; back = λ e x. g.back e (subst (λ c. Ends front c e) (sym l.course) x) }
turn_stepped turn going steps.Ends told0 told1 live0 live1 live2 goes steps front real programs before s h =
    let g = goes front real programs before s h in
    let l = steps told1 g.programs before g.state g.rests in
    record { programs = g.programs; state = l.state; rests = l.rests; ends = g.back (Gives tt l.state) (subst (λ c. Ends front c (Gives tt l.state)) (sym l.course) ([], refl, tt)) }

-- What ends what is left, ends the whole.
pub step_back : (front : FrontEnd) (told : Option Bytes) (before : List Out) (live : Live) (r : Step) (c d : Course (Unit {0})) → StepStands front told before live r c → ((e : End (Unit {0})) → Ends front c e → Ends front d e) → StepStands front told before live r d
step_back front told before live (steps.Asks call waiting) c d h f = record { programs = h.programs; state = h.state; rests = h.rests; back = λ e x. f e (h.back e x) }
step_back front told before live steps.Ends c d h f = record { programs = h.programs; state = h.state; rests = h.rests; ends = f (Gives tt h.state) h.ends }

-- one step after another
pub continues_on : (first : Step) (call : Call) (waiting : Waiting) (more : Step) (told0 told1 told2 : Option Bytes) (live0 live1 live2 : Live) → TurnContinues first told0 live0 told1 live1 (steps.Asks call waiting)
    → TurnSteps (asking_course call waiting) told1 live1 told2 live2 more → TurnContinues first told0 live0 told2 live2 more
continues_on first call waiting more told0 told1 told2 live0 live1 live2 so stepped front real before c h =
    let x = so front real before c h in step_back front told2 before live2 more (asking_course call waiting x.state) c (stepped front real x.programs before x.state x.rests) x.back

pub continues_same : (r : Step) (told : Option Bytes) (live : Live) → TurnContinues r told live told live r
continues_same r told live front real before c h = h

-- the first step of a turn that has begun
begun_stands : (front : FrontEnd) (turn : State → Course (Unit {0})) (told : Option Bytes) (programs : List RawProgram) (before : List Out) (live0 live1 : Live) (r : Step) (s : State) → BeginsWith turn live0 live1 r → Rests told programs before live0 s → StepStands front told before live1 r (turn s)
begun_stands front turn told programs before live0 live1 (steps.Asks call waiting) s begins h =
    let l = begins told programs before s h in record { programs = programs; state = l.state; rests = l.rests; back = λ e x. subst (λ c. Ends front c e) (sym l.course) x }
begun_stands front turn told programs before live0 live1 steps.Ends s begins h =
    let l = begins told programs before s h in record { programs = programs; state = l.state; rests = l.rests; ends = subst (λ c. Ends front c (Gives tt l.state)) (sym l.course) ([], refl, tt) }

-- A turn begins, goes on, and ends.
pub step_ends : (turn : State → Course (Unit {0})) (r : Step) (told0 told1 : Option Bytes) (live0 live1 live2 : Live) → BeginsWith turn live0 live1 r → TurnContinues r told0 live1 told1 live2 steps.Ends → TurnEnds turn told0 live0 told1 live2
step_ends turn r told0 told1 live0 live1 live2 begins so front real programs before s h = so front real before (turn s) (begun_stands front turn told0 programs before live0 live1 r s begins h)

-- then the state stands for one of the meaning's still
pub ended_rests : (turn : State → Course (Unit {0})) (told0 told1 : Option Bytes) (live0 live1 : Live) → ThereIsOne → TurnEnds turn told0 live0 told1 live1 → RestsForOne told0 live0 → RestsForOne told1 live1
ended_rests turn told0 told1 live0 live1 one ended h = let r = ended one.0 one.1 h.programs h.before h.state h.rests in record { programs = r.programs; before = h.before; state = r.state; rests = r.rests }

-- fewer calls are left
pub fewer_on : (r : Step) (going : Going) (waiting : Waiting) → AsksFewer r (calls_left going) → calls_left going ≤ calls_behind waiting → AsksFewer r (calls_behind waiting)
fewer_on (steps.Asks call w) going waiting a l = omega (arith, a, l)
fewer_on steps.Ends going waiting a l = tt

abbrev pub calls_of_step : Step → ℕ
calls_of_step (steps.Asks call waiting) = suc (calls_behind waiting)
calls_of_step steps.Ends = 0

pub fewer_calls : (r : Step) (waiting : Waiting) → AsksFewer r (calls_behind waiting) → calls_of_step r < suc (calls_behind waiting)
fewer_calls (steps.Asks call w) waiting a = omega (arith, a)
fewer_calls steps.Ends waiting a = omega arith

-- it is over
pub turn_over : (turn : State → Course (Unit {0})) (told : Option Bytes) (live0 live1 : Live) → BeginsWith turn live0 live1 steps.Ends → TurnEnds turn told live0 told live1
turn_over turn told live0 live1 begins front real programs before s h =
    let a = begins told programs before s h in
    record { programs = programs; state = a.state; rests = a.rests; ends = subst (λ c. Ends front c (Gives tt a.state)) (sym a.course) ([], refl, tt) }

-- it goes on so
pub turn_begun : (turn : State → Course (Unit {0})) (going : Going) (told0 told1 : Option Bytes) (live0 live1 live2 : Live) → BeginsAs turn live0 live1 going → TurnEnds (going_course going) told0 live1 told1 live2 → TurnEnds turn told0 live0 told1 live2
turn_begun turn going told0 told1 live0 live1 live2 begins ended front real programs before s h =
    let a = begins told0 programs before s h in
    let z = ended front real programs before a.state a.rests in
    record { programs = z.programs; state = z.state; rests = z.rests; ends = subst (λ c. Ends front c (Gives tt z.state)) (sym a.course) z.ends }

-- nothing is done
pub nothing_done : (told : Option Bytes) (live : Live) → TurnEnds done told live told live
nothing_done told live front real programs before s h = record { programs = programs; state = s; rests = h; ends = ([], refl, tt) }

-- where it has begun, the state stands for one of the meaning's, and what is asked for is there
pub begun_rests : (turn : State → Course (Unit {0})) (going : Going) (told : Option Bytes) (live0 live1 : Live) → BeginsAs turn live0 live1 going → RestsForOne told live0 → RestsForOne told live1
begun_rests turn going told live0 live1 begins h = let a = begins told h.programs h.before h.state h.rests in record { programs = h.programs; before = h.before; state = a.state; rests = a.rests }

pub step_rests : (turn : State → Course (Unit {0})) (step : Step) (told : Option Bytes) (live0 live1 : Live) → BeginsWith turn live0 live1 step → RestsForOne told live0 → RestsForOne told live1
step_rests turn (steps.Asks call waiting) told live0 live1 begins h = let a = begins told h.programs h.before h.state h.rests in record { programs = h.programs; before = h.before; state = a.state; rests = a.rests }
step_rests turn steps.Ends told live0 live1 begins h = let a = begins told h.programs h.before h.state h.rests in record { programs = h.programs; before = h.before; state = a.state; rests = a.rests }

pub step_there : (turn : State → Course (Unit {0})) (step : Step) (told : Option Bytes) (live0 live1 : Live) → BeginsWith turn live0 live1 step → RestsForOne told live0 → IsStepAskedThere live1.objects step
step_there turn (steps.Asks call waiting) told live0 live1 begins h = (begins told h.programs h.before h.state h.rests).there
step_there turn steps.Ends told live0 live1 begins h = tt
