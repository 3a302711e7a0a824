-- Commands: from one question of their jobs to the next, and to their end.
use Rattle.std.proofs.Common.{◌≡◌, ◌∙◌, ◌+◌, ◌++◌, ◌∷◌, [], ◌≤◌, ℕ, List, Option, Some, None, refl, ap, sym, subst, length, map, drop, append-nil, append_assoc, arith}
use Rattle.std.specs.Prelude.{IfSome, reverse}
use Rattle.std.specs.Option.{option_to_list}
use Rattle.std.proofs.Math.Nat.{le_refl, le_trans}
use Rattle.lp_values.specs.declared.id.ObjId.{ObjId}
use Rattle.lp_values.specs.declared.value.Value.{Value}
use Rattle.lp_cells.specs.Cells.{IsThere}
use Rattle.lp_code.specs.declared.program.RawProgram.{RawProgram}
use Rattle.lp_events.specs.declared.out.Out.{Out}
use Rattle.lp_swapfile.specs.Device.{Bytes}
use Rattle.lp_language.specs.Course.{Apply, Ask, CanAnswer, Command, Course, End, Gives, Over, State, Stops, after, end_of_outcome, in_any_case, outcome_of}
use Rattle.lp_meaning.specs.Askers as meaning
use Rattle.lp_meaning.specs.Askers.{asker_of, question, state_of}
use Rattle.lp_meaning.specs.Closing.{Ends, Has}
use Rattle.lp_meaning.specs.FrontEnd.{FrontEnd}
use Rattle.lp_meaning.specs.MovesAndCommands.{command_call, commanding}
use Rattle.lp_meaning.specs.Questions.{meaning_of, means}
use Rattle.lp_meaning.proofs.Kept.{outcomes_can_be}
use Rattle.lp_front_end.specs.FrontEnds.{IsFrontEnd}
use Rattle.lp_world.specs.declared.live.Live.{Live}
use Rattle.lp_step.specs.Steps.{IsFit, KeepsVariables}
use Rattle.lp_run.proofs.Together.{home_later, home_same}
use Rattle.lp_targets.specs.Callees.{IsWorldOf}
use Rattle.lp_asking.specs.declared.asker.Asker.{Asker}
use Rattle.lp_asking.specs.declared.ending.Ending.{Ending}
use Rattle.lp_asking.specs.declared.ending.Ending.TheVariants as endings
use Rattle.lp_asking.specs.Asking.{loading_of}
use Rattle.lp_asking.specs.Endings.{IsEndingThere, plain_end}
use Rattle.lp_asking.proofs.Courses.{asks_ends, has_of, over_ends, plainly_ends}
use Rattle.lp_beginning.specs.Beginning.{Fits}
use Rattle.lp_beginning.specs.Ends.{IsValueEnd, state_at}
use Rattle.lp_commanding.specs.declared.job.Begun.TheVariants as begun
use Rattle.lp_commanding.specs.declared.job.Commanding.{Commanding}
use Rattle.lp_commanding.specs.declared.job.Question.{Question}
use Rattle.lp_commanding.specs.declared.job.Question.TheVariants as questions
use Rattle.lp_commanding.specs.Beginning.{Begins}
use Rattle.lp_commanding.specs.Going.{HasAsked, HasStopped, IsStillAt}
use Rattle.lp_commanding.specs.Jobs.{asked_of, behind, course_of, object_of, question_course, questions_left, rest_of}
use Rattle.lp_reaching.specs.declared.reached.Reached.{Reached}
use Rattle.lp_reaching.specs.Reaching.{Applies, CanApply, FindsApplied, IsInMemory, ReachesIf}
use Rattle.lp_vm.specs.declared.request.Request.TheVariants as requests
use Rattle.lp_vm.specs.Answering.{CanServe, IsAsked, IsSameAsker, Serves}
use Rattle.lp_vm.specs.Commanding.{AsksCommand, CanCarryOut, CanObey, CarriesOut, CommandAsks, CommandContinues, CommandTurned, CommandsOn, FeedsCommand, IsOnBehalf, Obeys, name_asked}
use Rattle.lp_vm.specs.Cycle.{Answers}
use Rattle.lp_vm.specs.Working.{WorkedTo}
use Rattle.lp_vm.proofs.Answered.{setting}
use Rattle.lp_vm.proofs.Carried.{world_settled}
use Rattle.lp_vm.proofs.Clones.{value_outcome}
use Rattle.lp_vm.proofs.Grown.{grows_same, grows_trans, outcome_grown}
use Rattle.lp_vm.proofs.Makings.{end_state, value_end}
use Rattle.lp_vm.proofs.Startings.{same_later}
use Rattle.lp_vm.proofs.Turning.{world_reached}

-- Who asks

-- only the turn changed
pub turn_only : (a b : Asker) → b ≡ record a { turn = b.turn } → IsSameAsker a b
turn_only a b e = record { interactive = ap (λ (x : Asker). x.interactive) e; loads = ap (λ (x : Asker). x.loads.items) e; callers = ap (λ (x : Asker). x.callers.items) e; depth = ap (λ (x : Asker). x.depth) e }

-- on the same behalf later, in a state for which the live state stands then
pub behalf_later : (caller : Option ObjId) (told0 told1 : Option Bytes) (old new : List RawProgram) (before : List Out) (live0 live1 : Live) (asker0 asker1 : Asker) (budget0 budget1 : ℕ) (by : meaning.Asker) (s t : State)
    → IsOnBehalf caller told0 old before live0 asker0 budget0 by s → Fits (setting told1 new before) live1 asker1.turn budget1 t → IsSameAsker asker0 asker1 → IsOnBehalf caller told1 new before live1 asker1 budget1 by t
behalf_later caller told0 told1 old new before live0 live1 asker0 asker1 budget0 budget1 by s t w fits same = record {
  fits = fits;
  interactive = w.interactive ∙ sym same.interactive;
  loads = w.loads ∙ ap (λ l. map loading_of (reverse l)) (sym same.loads);
  callers = w.callers ∙ ap (λ l. reverse (l ++ option_to_list caller)) (sym same.callers);
  depth = w.depth ∙ ap (λ n. n + 1) (sym same.depth);
}

-- a state with the same world stands still
still_fits : (told : Option Bytes) (programs : List RawProgram) (before : List Out) (live : Live) (asker : Asker) (budget : ℕ) (s t : State) → IsWorldOf told programs live s.world → IsStillAt s (setting told programs before) live asker.turn budget t
    → Fits (setting told programs before) live asker.turn budget t
still_fits told programs before live asker budget s t world h = record { at = h.settled.at; world = subst (IsWorldOf told programs live) (sym h.world) world }

-- also where the live state changed
settled_fits : (told : Option Bytes) (programs : List RawProgram) (before : List Out) (live0 live1 : Live) (asker : Asker) (budget : ℕ) (s t : State) → IsWorldOf told programs live0 s.world → IsStillAt s (setting told programs before) live1 asker.turn budget t
    → Fits (setting told programs before) live1 asker.turn budget t
settled_fits told programs before live0 live1 asker budget s t world h = record { at = h.settled.at; world = world_settled told programs live0 live1 s.world t.world world h.settled.at.stands h.settled.settles }

-- What an answer makes of a job

-- it goes on in a state, or it is over
abbrev TurnedAs : Option Ending → Option Bytes → List RawProgram → List Out → Live → Asker → ℕ → Commanding → Commanding → meaning.Asker → End Value → Type 0
TurnedAs None told programs before live asker budget job0 job1 by z = (u : State) × Fits (setting told programs before) live asker.turn budget u × (behind job0 by z ≡ course_of job1 by u)
TurnedAs (Some d) told programs before live asker budget job0 job1 by z = (end : End Value) × (behind job0 by z ≡ Over end) × Fits (setting told programs before) live asker.turn budget (state_at end) × IsValueEnd programs d end

turned_as : (r : Option Ending) (e : Ending) (z : End Value) (told : Option Bytes) (programs : List RawProgram) (before : List Out) (live : Live) (asker0 asker1 : Asker) (budget : ℕ) (job0 job1 : Commanding) (by : meaning.Asker)
    → Fits (setting told programs before) live asker0.turn budget (state_at z) → IsValueEnd programs e z → FeedsCommand r e job0 live asker0 job1 asker1 → TurnedAs r told programs before live asker1 budget job0 job1 by z
turned_as None (endings.Value v) (Gives u t) told programs before live asker0 asker1 budget job0 job1 by fits is h =
    let k = h (setting told programs before) budget by t fits.at in
    (k.0, still_fits told programs before live asker1 budget t k.0 fits.world k.1, ap (λ x. rest_of job0 by x t) (sym is) ∙ k.2)
turned_as None (endings.Value v) (Stops x t) told programs before live asker0 asker1 budget job0 job1 by fits is h = absurd is
turned_as None (endings.Stopped s) z told programs before live asker0 asker1 budget job0 job1 by fits is h = absurd h
turned_as (Some d) (endings.Value v) (Gives u t) told programs before live asker0 asker1 budget job0 job1 by fits is h =
    let k = h.2 (setting told programs before) budget by t fits.at in (
      Gives h.0 k.0,
      ap (λ x. rest_of job0 by x t) (sym is) ∙ k.2,
      still_fits told programs before live asker1 budget t k.0 fits.world k.1,
      subst (λ (y : Ending). IsValueEnd programs y (Gives h.0 k.0)) (sym h.1) refl,
    )
turned_as (Some d) (endings.Value v) (Stops x t) told programs before live asker0 asker1 budget job0 job1 by fits is h = absurd is
turned_as (Some d) (endings.Stopped s) (Gives u t) told programs before live asker0 asker1 budget job0 job1 by fits is h = absurd is
turned_as (Some d) (endings.Stopped s) (Stops x t) told programs before live asker0 asker1 budget job0 job1 by fits is h =
    let t1 : State = record t { commands = drop 1 t.commands } in (
      Stops x t1,
      refl,
      record { at = h.1 (setting told programs before) live budget t fits.at; world = fits.world },
      subst (λ (y : Ending). IsValueEnd programs y (Stops x t1)) (sym h.0) is,
    )

-- A COMMAND ASKS

asked_is : (q : Question) → asked_of q ≡ Apply (object_of q) (name_asked q)
asked_is (questions.Action giver name) = refl
asked_is (questions.CatchTell o) = refl

module _ (caller : Option ObjId) (job0 job1 : Commanding) (told0 : Option Bytes) (live0 live1 : Live) (stack0 stack1 : List Value) (asker0 asker1 : Asker) (q : Question) (goes : HasAsked q job0 live0 asker0.turn stack0 job1 live1 asker1.turn stack1) (same : IsSameAsker asker0 asker1) where
  module _ (budget0 : ℕ) (programs : List RawProgram) (before : List Out) (by : meaning.Asker) (s : State) (w : IsOnBehalf caller told0 programs before live0 asker0 budget0 by s) where
    abbrev came : (t : State) × IsStillAt s (setting told0 programs before) live1 asker1.turn budget0 t × (course_of job0 by s ≡ in_any_case (question_course q goes.argument by t) (behind job1 by))
    came = goes.course (setting told0 programs before) budget0 by s w.fits.at

    abbrev the_ask : Ask
    the_ask = question (asked_of q) (goes.argument ∷ []) by came.0

    fits_then : Fits (setting told0 programs before) live1 asker1.turn budget0 came.0
    fits_then = settled_fits told0 programs before live0 live1 asker1 budget0 s came.0 w.fits.world came.1

    behalf_then : IsOnBehalf caller told0 programs before live1 asker1 budget0 by came.0
    behalf_then = behalf_later caller told0 told0 programs programs before live0 live1 asker0 asker1 budget0 budget0 by s came.0 w fits_then same

    applies : Applies asker1 caller (object_of q) (name_asked q) the_ask
    applies = record { callers = behalf_then.callers; what = asked_is q }

    reach : CanApply told0 live1 caller (object_of q) (name_asked q)
    reach = record { programs = programs; asker = asker1; ask = the_ask; asks = applies; world = fits_then.world }

    -- with what came into memory for it
    module _ (told1 : Option Bytes) (live2 : Live) (found : Option Reached) (finds : FindsApplied caller (object_of q) (name_asked q) told0 live1 told1 live2 found) where
      reaches : ReachesIf told1 programs live2 asker1 the_ask found
      reaches = finds programs asker1 the_ask applies fits_then.world

      asked : IsAsked told1 programs live2 stack1 stack0 asker1 1 budget0 the_ask
      asked = record {
        by = record { player = fits_then.at.player; commands = fits_then.at.commands; interactive = behalf_then.interactive; loads = behalf_then.loads; depth = behalf_then.depth };
        world = world_reached told1 programs live2 asker1 the_ask found reaches;
        left = sym fits_then.at.left;
        lies = goes.stack;
        many = refl;
      }

      -- What an answer leads to
      module _ (front : FrontEnd) (real : IsFrontEnd front) (outs : live2.outputs ≡ live1.outputs) (told3 : Option Bytes) (live3 : Live) (stack3 : List Value) (asker3 : Asker) (budget3 : ℕ) (e : Ending)
          (answers : Answers (requests.Function found) 1 told1 live2 stack1 asker1 budget0 told3 live3 stack3 asker3 budget3 e) where
        sv : Serves front told3 programs live2.outputs live3 stack3 stack0 asker3 budget3 e the_ask
        sv = answers.served front real programs the_ask stack0 asked reaches

        can_be : CanAnswer the_ask sv.outcome
        can_be = outcomes_can_be front the_ask sv.outcome sv.has

        abbrev grew : List RawProgram
        grew = sv.is.programs

        abbrev end : End Value
        end = end_of_outcome came.0 sv.outcome

        fits_after : Fits (setting told3 grew before) live3 asker3.turn budget3 (after came.0 sv.outcome)
        fits_after = record {
          at = record {
            stands = sv.is.world.stands;
            left = sym sv.is.left;
            outputs = sv.is.outputs ∙ ap (λ l. l ++ sv.outcome.outputs) (outs ∙ fits_then.at.outputs) ∙ append_assoc before came.0.outputs sv.outcome.outputs;
            player = sv.is.player;
            commands = sv.is.commands;
          };
          world = sv.is.world;
        }

        fits_end : Fits (setting told3 grew before) live3 asker3.turn budget3 (state_at end)
        fits_end = subst (Fits (setting told3 grew before) live3 asker3.turn budget3) (sym (end_state sv.outcome.answer (after came.0 sv.outcome))) fits_after

        ends_so : IsValueEnd grew e end
        ends_so = value_end grew e sv.outcome.answer (after came.0 sv.outcome) sv.is.answer

        -- what follows the outcome, the whole course ends with
        back_by : (c : Course Value) (x : End Value) → behind job1 by end ≡ c → Ends front c x → Ends front (course_of job0 by s) x
        back_by c x is h =
            subst (λ k. Ends front k x) (sym came.2)
            (asks_ends front the_ask (λ o. behind job1 by (end_of_outcome came.0 o)) sv.outcome x sv.has can_be (subst (λ k. Ends front k x) (sym is) h))

        module _ (job3 : Commanding) (asker4 : Asker) (after_it : IsSameAsker asker3 asker4) where
          asker_then : IsSameAsker asker0 asker4
          asker_then = same_later asker0 asker3 asker4 (same_later asker0 asker1 asker3 same answers.same) after_it

          goes_on : FeedsCommand None e job1 live3 asker3 job3 asker4 → CommandsOn front caller (course_of job0 by s) job3 told3 programs before live3 asker4 budget3 by
          goes_on feeds =
              let k = turned_as None e end told3 grew before live3 asker3 asker4 budget3 job1 job3 by fits_end ends_so feeds in
              record {
                programs = grew;
                grown = sv.is.grown;
                state = k.0;
                behalf = behalf_later caller told0 told3 programs grew before live0 live3 asker0 asker4 budget0 budget3 by s k.0 w k.1 asker_then;
                back = λ x h. back_by (course_of job3 by k.0) x k.2 h;
              }

          ended : (d : Ending) → FeedsCommand (Some d) e job1 live3 asker3 job3 asker4 → WorkedTo front (course_of job0 by s) told3 programs before live3 stack3 stack0 asker4 budget3 d
          ended d feeds =
              let k = turned_as (Some d) e end told3 grew before live3 asker3 asker4 budget3 job1 job3 by fits_end ends_so feeds in
              record {
                end = k.0;
                ends = back_by (Over k.0) k.0 k.1 (over_ends front k.0);
                is = value_outcome told3 programs grew before live3 asker4 budget3 d k.0 sv.is.grown k.2 k.3;
                left = sv.left;
              }

  pub command_reach : (budget0 : ℕ) → CanCarryOut caller told0 live0 asker0 budget0 → CanApply told0 live1 caller (object_of q) (name_asked q)
  command_reach budget0 h = reach budget0 h.programs h.before h.by h.state h.behalf

  module _ (told1 : Option Bytes) (live2 : Live) (found : Option Reached) (finds : FindsApplied caller (object_of q) (name_asked q) told0 live1 told1 live2 found) (outs : live2.outputs ≡ live1.outputs) where
    command_can : IfSome found (λ x. IsInMemory live2 x.callee x.code) → (budget0 : ℕ) → CanCarryOut caller told0 live0 asker0 budget0 → CanServe told1 live2 stack1 asker1 budget0 (requests.Function found) 1
    command_can memory budget0 h = record {
      front = h.front;
      real = h.real;
      programs = h.programs;
      ask = the_ask budget0 h.programs h.before h.by h.state h.behalf;
      below = stack0;
      asked = asked budget0 h.programs h.before h.by h.state h.behalf told1 live2 found finds;
      is = reaches budget0 h.programs h.before h.by h.state h.behalf told1 live2 found finds;
      there = memory;
    }

    command_turned : (job3 : Commanding) (told3 : Option Bytes) (live3 : Live) (stack3 : List Value) (asker3 asker4 : Asker) (budget0 budget3 : ℕ) (e : Ending) → Answers (requests.Function found) 1 told1 live2 stack1 asker1 budget0 told3 live3 stack3 asker3 budget3 e
        → IsSameAsker asker3 asker4 → (r : Option Ending) → FeedsCommand r e job1 live3 asker3 job3 asker4 → CommandTurned r caller job0 told0 live0 stack0 asker0 budget0 job3 told3 live3 stack3 asker4 budget3
    command_turned job3 told3 live3 stack3 asker3 asker4 budget0 budget3 e answers still None feeds = λ front real programs before by s w.
        goes_on budget0 programs before by s w told1 live2 found finds front real outs told3 live3 stack3 asker3 budget3 e answers job3 asker4 still feeds
    command_turned job3 told3 live3 stack3 asker3 asker4 budget0 budget3 e answers still (Some d) feeds = λ front real programs before by s w.
        ended budget0 programs before by s w told1 live2 found finds front real outs told3 live3 stack3 asker3 budget3 e answers job3 asker4 still d feeds

    pub command_asks : KeepsVariables live0.objects live2.objects → IsFit live2 stack1 → questions_left job1 ≤ questions_left job0 → IfSome found (λ x. IsInMemory live2 x.callee x.code) → CommandAsks found caller job0 told0 live0 stack0 asker0 job1 told1 live2 stack1 asker1
    command_asks home fit left memory = record {
      home = home;
      fit = fit;
      same = same;
      left = left;
      asking = goes.is_asking;
      can = command_can memory;
      lies = λ told3 live3 stack3 asker3 budget0 budget3 e h answers.
          (sv budget0 h.programs h.before h.by h.state h.behalf told1 live2 found finds h.front h.real outs told3 live3 stack3 asker3 budget3 e answers).left;
      turns = λ job3 told3 live3 stack3 asker3 asker4 budget0 budget3 e r answers feeds still. command_turned job3 told3 live3 stack3 asker3 asker4 budget0 budget3 e answers still r feeds;
    }

-- A COMMAND ENDS
pub command_ends : (caller : Option ObjId) (job0 : Commanding) (told : Option Bytes) (live0 live1 : Live) (stack0 stack1 : List Value) (asker0 asker1 : Asker) (v : Value) → HasStopped v job0 live0 asker0.turn stack0 live1 asker1.turn stack1 → IsSameAsker asker0 asker1
    → KeepsVariables live0.objects live1.objects → IsFit live1 stack1 → IsThere live1.cells v → (budget : ℕ) → CarriesOut caller job0 told live0 stack0 asker0 budget told live1 stack1 asker1 budget (endings.Value v)
command_ends caller job0 told live0 live1 stack0 stack1 asker0 asker1 v h same home fit there budget = record {
  carried = λ front real programs before by s w.
      let k = h.course (setting told programs before) budget by s w.fits.at in
      record {
        end = Gives v k.0;
        ends = subst (λ c. Ends front c (Gives v k.0)) (sym k.2) (over_ends front (Gives v k.0));
        is = value_outcome told programs programs before live1 asker1 budget (endings.Value v) (Gives v k.0) (grows_same programs) (settled_fits told programs before live0 live1 asker1 budget s k.0 w.fits.world k.1) refl;
        left = h.stack;
      };
  same = same;
  spends = le_refl budget;
  home = home;
  fit = fit;
  there = there;
}

-- One question after another

-- none so far
pub commands_same : (caller : Option ObjId) (job : Commanding) (told : Option Bytes) (live : Live) (asker : Asker) (budget : ℕ) → CommandContinues caller job told live asker budget job told live asker budget
commands_same caller job told live asker budget front real programs before by s w = record { programs = programs; grown = grows_same programs; state = s; behalf = w; back = λ e h. h }

-- one more
pub commands_more : (caller : Option ObjId) (job0 job1 job2 : Commanding) (told0 told1 told2 : Option Bytes) (live0 live1 live2 : Live) (asker0 asker1 asker2 : Asker) (budget0 budget1 budget2 : ℕ)
    → CommandContinues caller job0 told0 live0 asker0 budget0 job1 told1 live1 asker1 budget1 → CommandContinues caller job1 told1 live1 asker1 budget1 job2 told2 live2 asker2 budget2
    → CommandContinues caller job0 told0 live0 asker0 budget0 job2 told2 live2 asker2 budget2
commands_more caller job0 job1 job2 told0 told1 told2 live0 live1 live2 asker0 asker1 asker2 budget0 budget1 budget2 h n front real programs before by s w =
    let x = h front real programs before by s w in
    let y = n front real x.programs before by x.state x.behalf in
    record { programs = y.programs; grown = grows_trans programs x.programs y.programs x.grown y.grown; state = y.state; behalf = y.behalf; back = λ e l. x.back e (y.back e l) }

-- it can go on
pub can_carry_on : (caller : Option ObjId) (job0 job1 : Commanding) (told0 told1 : Option Bytes) (live0 live1 : Live) (asker0 asker1 : Asker) (budget0 budget1 : ℕ) → CanCarryOut caller told0 live0 asker0 budget0
    → CommandContinues caller job0 told0 live0 asker0 budget0 job1 told1 live1 asker1 budget1 → CanCarryOut caller told1 live1 asker1 budget1
can_carry_on caller job0 job1 told0 told1 live0 live1 asker0 asker1 budget0 budget1 h n =
    let x = n h.front h.real h.programs h.before h.by h.state h.behalf in
    record { front = h.front; real = h.real; programs = x.programs; before = h.before; by = h.by; state = x.state; behalf = x.behalf }

-- and the end
pub carries_later : (caller : Option ObjId) (job0 job1 : Commanding) (told0 told1 told2 : Option Bytes) (live0 live1 live2 : Live) (stack0 stack1 stack2 : List Value) (asker0 asker1 asker2 : Asker) (budget0 budget1 budget2 : ℕ) (e : Ending)
    → CommandContinues caller job0 told0 live0 asker0 budget0 job1 told1 live1 asker1 budget1 → stack1 ≡ stack0 → IsSameAsker asker0 asker1 → budget1 ≤ budget0 → KeepsVariables live0.objects live1.objects
    → CarriesOut caller job1 told1 live1 stack1 asker1 budget1 told2 live2 stack2 asker2 budget2 e → CarriesOut caller job0 told0 live0 stack0 asker0 budget0 told2 live2 stack2 asker2 budget2 e
carries_later caller job0 job1 told0 told1 told2 live0 live1 live2 stack0 stack1 stack2 asker0 asker1 asker2 budget0 budget1 budget2 e goes lies same spends home h = record {
  carried = λ front real programs before by s w.
      let x = goes front real programs before by s w in
      let y = h.carried front real x.programs before by x.state x.behalf in
      record { end = y.end; ends = x.back y.end y.ends; is = outcome_grown told2 programs x.programs before live2 asker2 budget2 e (outcome_of (plain_end y.end)) x.grown y.is; left = y.left ∙ lies };
  same = same_later asker0 asker1 asker2 same h.same;
  spends = le_trans h.spends spends;
  home = home_later live0.objects live1.objects live2.objects home h.home;
  fit = h.fit;
  there = h.there;
}

-- what was answered ends it
pub command_ended : (caller : Option ObjId) (job0 job1 job3 : Commanding) (found : Option Reached) (told0 told1 told2 : Option Bytes) (live0 live1 live2 : Live) (stack0 stack1 stack2 : List Value) (asker0 asker1 asker2 asker3 : Asker) (budget0 budget2 : ℕ) (e x : Ending)
    → (asks : CommandAsks found caller job0 told0 live0 stack0 asker0 job1 told1 live1 stack1 asker1) → Answers (requests.Function found) 1 told1 live1 stack1 asker1 budget0 told2 live2 stack2 asker2 budget2 e
    → FeedsCommand (Some x) e job1 live2 asker2 job3 asker3 → IsSameAsker asker2 asker3 → IsEndingThere live2.cells x → CarriesOut caller job0 told0 live0 stack0 asker0 budget0 told2 live2 stack2 asker3 budget2 x
command_ended caller job0 job1 job3 found told0 told1 told2 live0 live1 live2 stack0 stack1 stack2 asker0 asker1 asker2 asker3 budget0 budget2 e x asks answers feeds same there = record {
  carried = asks.turns job3 told2 live2 stack2 asker2 asker3 budget0 budget2 e (Some x) answers feeds same;
  same = same_later asker0 asker2 asker3 (same_later asker0 asker1 asker2 asks.same answers.same) same;
  spends = answers.spends;
  home = home_later live0.objects live1.objects live2.objects asks.home answers.home;
  fit = answers.fit;
  there = there;
}

-- THE WHOLE COMMAND

no_values : (xs : List Value) → length xs ≡ 0 → xs ≡ []
no_values [] e = refl
no_values (x ∷ xs) e = absurd (omega (arith, e))

none_above : (stack below xs : List Value) → stack ≡ below ++ xs → length xs ≡ 0 → stack ≡ below
none_above stack below xs lies none = lies ∙ ap (λ l. below ++ l) (no_values xs none) ∙ append-nil below

means_command : (a : Ask) (o : ObjId) (line : List ℕ) → a.what ≡ Command o line → means a ≡ Some (command_call a o line)
means_command a o line what = ap (meaning_of a) what

-- an end of its course is an outcome that the question has
command_has : (front : FrontEnd) (a : Ask) (o : ObjId) (line : List ℕ) (end : End Value) → a.what ≡ Command o line → Ends front (commanding (asker_of a) o line (state_of a)) end → Has front a (outcome_of (plain_end end))
command_has front a o line end what h = has_of front a (command_call a o line) (plain_end end) (means_command a o line what) (plainly_ends front (commanding (asker_of a) o line (state_of a)) end h)

module _ (caller : Option ObjId) (o : ObjId) (line : List ℕ) (told : Option Bytes) (live : Live) (stack : List Value) (asker0 asker1 : Asker) (budget : ℕ) (same : IsSameAsker asker0 asker1) where
  on_behalf : (programs : List RawProgram) (a : Ask) (below : List Value) → IsAsked told programs live stack below asker0 0 budget a → AsksCommand asker0 caller o line a → IsOnBehalf caller told programs live.outputs live asker0 budget (asker_of a) (state_of a)
  on_behalf programs a below h q = record {
    fits = record {
      at = record { stands = h.world.stands; left = sym h.left; outputs = sym (append-nil live.outputs); player = h.by.player; commands = h.by.commands };
      world = h.world;
    };
    interactive = h.by.interactive;
    loads = h.by.loads;
    callers = q.callers;
    depth = h.by.depth;
  }

  -- It ends at once.
  pub obeyed : (v : Value) → Begins (begun.Ends v) o line live asker0.turn asker1.turn → IsFit live stack → IsThere live.cells v → Obeys caller o line told live stack asker0 budget told live stack asker1 budget (endings.Value v)
  obeyed v begins fit there = record {
    meant = λ front real programs a below h q.
        let w = on_behalf programs a below h q in
        let k = begins (setting told programs live.outputs) budget (asker_of a) (state_of a) w.fits.at in
        record {
          outcome = outcome_of (plain_end (Gives v k.0));
          has = command_has front a o line (Gives v k.0) q.what (subst (λ c. Ends front c (Gives v k.0)) (sym k.2) (over_ends front (Gives v k.0)));
          is = value_outcome told programs programs live.outputs live asker1 budget (endings.Value v) (Gives v k.0) (grows_same programs) (still_fits told programs live.outputs live asker1 budget (state_of a) k.0 w.fits.world k.1) refl;
          left = none_above stack below a.arguments h.lies h.many;
        };
    same = same;
    spends = le_refl budget;
    home = home_same live.objects;
    fit = fit;
    there = there;
  }

  -- It goes on as a job.
  module _ (job : Commanding) (begins : Begins (begun.Runs job) o line live asker0.turn asker1.turn) where
    module _ (programs : List RawProgram) (a : Ask) (below : List Value) (h : IsAsked told programs live stack below asker0 0 budget a) (q : AsksCommand asker0 caller o line a) where
      abbrev runs : (t : State) × IsStillAt (state_of a) (setting told programs live.outputs) live asker1.turn budget t × (commanding (asker_of a) o line (state_of a) ≡ course_of job (asker_of a) t)
      runs = begins (setting told programs live.outputs) budget (asker_of a) (state_of a) (on_behalf programs a below h q).fits.at

      behalf_begun : IsOnBehalf caller told programs live.outputs live asker1 budget (asker_of a) runs.0
      behalf_begun =
          behalf_later caller told told programs programs live.outputs live live asker0 asker1 budget budget (asker_of a) (state_of a) runs.0 (on_behalf programs a below h q)
          (still_fits told programs live.outputs live asker1 budget (state_of a) runs.0 h.world runs.1) same

    pub obey_can : CanObey caller o line told live stack asker0 budget → CanCarryOut caller told live asker1 budget
    obey_can h = record {
      front = h.front;
      real = h.real;
      programs = h.can.programs;
      before = live.outputs;
      by = asker_of h.can.ask;
      state = (runs h.can.programs h.can.ask h.can.below h.can.asked h.can.asks).0;
      behalf = behalf_begun h.can.programs h.can.ask h.can.below h.can.asked h.can.asks;
    }

    pub obey_carried : (told2 : Option Bytes) (live2 : Live) (stack2 : List Value) (asker2 : Asker) (budget2 : ℕ) (e : Ending) → CarriesOut caller job told live stack asker1 budget told2 live2 stack2 asker2 budget2 e
        → Obeys caller o line told live stack asker0 budget told2 live2 stack2 asker2 budget2 e
    obey_carried told2 live2 stack2 asker2 budget2 e carries = record {
      meant = λ front real programs a below h q.
          let k = runs programs a below h q in
          let y = carries.carried front real programs live.outputs (asker_of a) k.0 (behalf_begun programs a below h q) in
          record {
            outcome = outcome_of (plain_end y.end);
            has = command_has front a o line y.end q.what (subst (λ c. Ends front c y.end) (sym k.2) y.ends);
            is = y.is;
            left = y.left ∙ none_above stack below a.arguments h.lies h.many;
          };
      same = same_later asker0 asker1 asker2 same carries.same;
      spends = carries.spends;
      home = carries.home;
      fit = carries.fit;
      there = carries.there;
    }
