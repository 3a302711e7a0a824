-- Jobs go on: to a question, what is answered, and on; or to their end.
use Rattle.std.proofs.Common.{◌≡◌, ◌∙◌, ◌+◌, ◌++◌, ◌∷◌, [], ◌≤◌, ℕ, suc, List, Option, Some, None, IfOk, Result, Ok, Err, refl, ap, sym, subst, length, map, take, append-nil, append_assoc, arith}
use Rattle.std.specs.Prelude.{IfSome, OnOk, reverse}
use Rattle.std.specs.Option.{option_to_list}
use Rattle.std.proofs.Math.Nat.{le_trans}
use Rattle.std.proofs.lemmas.List.{reverse-append}
use Rattle.std.proofs.Math.Seq.{take-append_seam}
use Rattle.lp_values.specs.declared.id.ObjId.{ObjId}
use Rattle.lp_values.specs.declared.value.Value.{Value}
use Rattle.lp_cells.specs.Cells.{Store}
use Rattle.lp_code.specs.declared.program.RawProgram.{RawProgram}
use Rattle.lp_events.specs.declared.out.Out.{Out}
use Rattle.lp_swapfile.specs.Device.{Bytes}
use Rattle.lp_language.specs.Course.{Ask, CanAnswer, Course, Over, End, Gives, Outcome, Scene, State, Stops, after, in_any_case, outcome_of}
use Rattle.lp_meaning.specs.Askers as meaning
use Rattle.lp_meaning.specs.Askers.{question}
use Rattle.lp_meaning.specs.Closing.{Ends, Has}
use Rattle.lp_meaning.specs.FrontEnd.{FrontEnd}
use Rattle.lp_front_end.specs.FrontEnds.{IsFrontEnd}
use Rattle.lp_meaning.specs.FunctionCalls.{callers_behind, depth_behind}
use Rattle.lp_meaning.proofs.Kept.{outcomes_can_be}
use Rattle.lp_world.specs.declared.live.Live.{Live}
use Rattle.lp_step.specs.Steps.{IsFit, KeepsVariables}
use Rattle.lp_run.proofs.Together.{home_later}
use Rattle.lp_efuns.specs.declared.answer.Answer as efuns
use Rattle.lp_beginning.specs.Beginning.{Fits}
use Rattle.lp_beginning.specs.Ends.{IsValueEnd, state_at}
use Rattle.lp_calling.specs.declared.job.Job.{Job}
use Rattle.lp_calling.specs.declared.job.Question.{Question}
use Rattle.lp_calling.specs.declared.job.Question.TheVariants as questions
use Rattle.lp_calling.specs.declared.job.Step.TheVariants as goes_to
use Rattle.lp_calling.specs.Beginning.{Settled}
use Rattle.lp_calling.specs.Going.{Goes, HasAsked, HasStopped, HasTaken}
use Rattle.lp_calling.specs.Jobs.{IsAsking, IsJobOn, behind as job_behind, course_of, player_back, questions_left, rest_of}
use Rattle.lp_calling.specs.Questions.{IsAskedWith, asked_of, question_course}
use Rattle.lp_targets.specs.Callees.{IsWorldOf}
use Rattle.lp_asking.specs.declared.asker.Asker.{Asker}
use Rattle.lp_asking.specs.declared.ending.Ending.{Ending}
use Rattle.lp_asking.specs.declared.ending.Ending.TheVariants as endings
use Rattle.lp_asking.specs.declared.ending.Place.{Place}
use Rattle.lp_asking.specs.Asking.{loading_of}
use Rattle.lp_asking.specs.Endings.{IsEndingThere, plain_end}
use Rattle.lp_asking.proofs.Courses.{over_ends}
use Rattle.lp_loading.specs.declared.job.Answer.{Answer}
use Rattle.lp_loading.specs.declared.job.Purpose.TheVariants as purposes
use Rattle.lp_reaching.specs.declared.reached.Reached.{Reached}
use Rattle.lp_reaching.specs.Reaching.{IsInMemory, ReachesIf}
use Rattle.lp_vm.specs.declared.request.Request.TheVariants as requests
use Rattle.lp_vm.specs.declared.working.Stepped.{Stepped}
use Rattle.lp_vm.specs.declared.working.Stepped.TheVariants as steps
use Rattle.lp_vm.specs.Answering.{CanServe, IsAsked, IsSameAsker, Serves}
use Rattle.lp_vm.specs.Cycle.{Answers, Works}
use Rattle.lp_vm.specs.Efuns.{ending_of}
use Rattle.lp_vm.specs.Growing.{Grows}
use Rattle.lp_vm.specs.Jobs.{AsksFor, FedOn, Feeds, IsStepThere, StepsTo, TakesAnswer, TakesLoad, WorkAsks, WorkLoads, WorkTurnsTo, asker_back}
use Rattle.lp_vm.specs.Loaded.{loaded_ending}
use Rattle.lp_vm.specs.Loading.{CanLoad, LoadEnds, Loads, load_course}
use Rattle.lp_vm.specs.Making.{AsksAt, IsBehind}
use Rattle.lp_vm.specs.Working.{CanReach, CanWork, FindsAsked, IsAskedSo, IsCall, IsWorking, WorkContinues, WorkTurned, Worked, WorkedTo, WorksOn}
use Rattle.lp_vm.proofs.Answered.{answer_outcome, setting}
use Rattle.lp_vm.proofs.Behind.{behind_ends, call_behind, load_fits, load_has, load_is, load_state, value_behind}
use Rattle.lp_vm.proofs.Carried.{world_settled}
use Rattle.lp_vm.proofs.Clones.{value_outcome}
use Rattle.lp_vm.proofs.Grown.{grows_same, grows_trans, outcome_grown}
use Rattle.lp_vm.proofs.Makings.{end_state, value_end}
use Rattle.lp_vm.proofs.Places.{runs_still}
use Rattle.lp_vm.proofs.Startings.{same_later}
use Rattle.lp_vm.proofs.Turning.{world_reached}

-- what follows of each answer
pub if_ok_both : {A E : Type 0} {P Q R : A → Type 0} (r : Result A E) → ((x : A) → P x → Q x → R x) → IfOk r P → IfOk r Q → IfOk r R
if_ok_both (Ok x) f p q = f x p q
if_ok_both (Err e) f p q = tt

-- The question

last_first : {A : Type 0} (xs : List A) (x : A) → reverse (xs ++ x ∷ []) ≡ x ∷ reverse xs
last_first xs x = reverse-append xs (x ∷ [])

-- the object of the function that asks is the latest caller
callers_so : (asker : Asker) (this : ObjId) (by : meaning.Asker) (c : Scene) → by.scene ≡ Some c → c.this ≡ this → c.callers ≡ reverse asker.callers.items → callers_behind by.scene ≡ reverse (asker.callers.items ++ option_to_list (Some this))
callers_so asker this by c scene same callers = ap callers_behind scene ∙ ap (λ o. o ∷ c.callers) same ∙ ap (λ l. this ∷ l) callers ∙ sym (last_first asker.callers.items this)

question_asked : (q : Question) (asker : Asker) (this : ObjId) (by : meaning.Asker) (c : Scene) (xs : List Value) (t : State) → by.scene ≡ Some c → c.this ≡ this → c.callers ≡ reverse asker.callers.items → IsAskedSo q asker this (question (asked_of q) xs by t)
question_asked (questions.Other ob name) asker this by c xs t scene same callers = record { scene = c; scene_is = scene; this_is = same; callers = callers; what = refl }
question_asked (questions.Apply ob applied) asker this by c xs t scene same callers = record { callers = callers_so asker this by c scene same callers; what = refl }
question_asked (questions.Load name) asker this by c xs t scene same callers = refl

-- What an answer makes of a job

-- what ends it is there
pub some_there : (cells : Store) (x : Ending) (r : Option Ending) → IsEndingThere cells x → IfSome r (λ e. e ≡ x) → IfSome r (IsEndingThere cells)
some_there cells x None there h = tt
some_there cells x (Some e) there h = subst (IsEndingThere cells) (sym h) there

-- who asks, with `this_player()` put back, is who asked
back_same : (job : Job) (asker : Asker) → IsSameAsker asker (asker_back job asker)
back_same job asker = record { interactive = refl; loads = refl; callers = refl; depth = refl }

pub same_back : (job : Job) (old new : Asker) → new ≡ asker_back job old → IsSameAsker old new
same_back job old new e = subst (IsSameAsker old) (sym e) (back_same job old)

-- the state with `this_player()` put back stands for the live state with that
back_fits : (job : Job) (told : Option Bytes) (programs : List RawProgram) (before : List Out) (live : Live) (asker : Asker) (budget : ℕ) (s : State) → Fits (setting told programs before) live asker.turn budget s
    → Fits (setting told programs before) live (asker_back job asker).turn budget (record s { player = player_back job.stage s.player })
back_fits job told programs before live asker budget s h = record {
  at = record { stands = h.at.stands; left = h.at.left; outputs = h.at.outputs; player = ap (player_back job.stage) h.at.player; commands = h.at.commands };
  world = h.world;
}

-- it goes on in a state, with its values above those below; or it is over
record GoesBehind (job0 : Job) (own0 : List Value) (told : Option Bytes) (programs : List RawProgram) (before : List Out) (live : Live) (asker : Asker) (budget : ℕ) (by : meaning.Asker) (z : End Value) (job1 : Job) (low stack1 : List Value) : Type 0 where
  state : State
  own : List Value
  fits : Fits (setting told programs before) live asker.turn budget state
  lies : stack1 ≡ low ++ own
  height : job1.low ≡ job0.low
  course : job_behind job0 own0 by z ≡ course_of job1 own by state

record EndsBehind (job0 : Job) (own0 : List Value) (told : Option Bytes) (programs : List RawProgram) (before : List Out) (live : Live) (asker : Asker) (budget : ℕ) (by : meaning.Asker) (z : End Value) (low stack1 : List Value) (d : Ending) : Type 0 where
  end : End Value
  course : job_behind job0 own0 by z ≡ Over end
  fits : Fits (setting told programs before) live asker.turn budget (state_at end)
  is : IsValueEnd programs d end
  left : stack1 ≡ low

abbrev TurnsBehind : Option Ending → Job → List Value → Option Bytes → List RawProgram → List Out → Live → Asker → ℕ → meaning.Asker → End Value → Job → List Value → List Value → Type 0
TurnsBehind None job0 own0 told programs before live asker budget by z job1 low stack1 = GoesBehind job0 own0 told programs before live asker budget by z job1 low stack1
TurnsBehind (Some d) job0 own0 told programs before live asker budget by z job1 low stack1 = EndsBehind job0 own0 told programs before live asker budget by z low stack1 d

turns_behind : (r : Option Ending) (e : Ending) (z : End Value) (job0 job1 : Job) (own0 : List Value) (told : Option Bytes) (programs : List RawProgram) (before : List Out) (live : Live) (asker : Asker) (budget : ℕ) (by : meaning.Asker) (low stack0 stack1 : List Value)
    → Fits (setting told programs before) live asker.turn budget (state_at z) → IsValueEnd programs e z → stack0 ≡ low ++ own0 → length low ≡ job0.low → Feeds r e job0 live stack0 job1 stack1
    → TurnsBehind r job0 own0 told programs before live (asker_back job0 asker) budget by z job1 low stack1
turns_behind None (endings.Value v) (Gives u t) job0 job1 own0 told programs before live asker budget by low stack0 stack1 fits is lies height takes =
    let k : HasTaken job0 own0 v live job1 low stack1 = takes low own0 lies height in
    let s1 : State = record t { player = player_back job0.stage t.player } in
    let stands = back_fits job0 told programs before live asker budget t fits in
    record {
      state = s1;
      own = k.own;
      fits = stands;
      lies = k.stack;
      height = k.height;
      course = ap (λ x. rest_of job0 own0 by x s1) (sym is) ∙ k.course (setting told programs before) (asker_back job0 asker).turn budget by s1 stands.at;
    }
turns_behind None (endings.Value v) (Stops x t) job0 job1 own0 told programs before live asker budget by low stack0 stack1 fits is lies height takes = absurd is
turns_behind None (endings.Stopped s) z job0 job1 own0 told programs before live asker budget by low stack0 stack1 fits is lies height feeds = absurd feeds
turns_behind (Some d) (endings.Value v) z job0 job1 own0 told programs before live asker budget by low stack0 stack1 fits is lies height feeds = absurd feeds
turns_behind (Some d) (endings.Stopped s) (Gives u t) job0 job1 own0 told programs before live asker budget by low stack0 stack1 fits is lies height feeds = absurd is
turns_behind (Some d) (endings.Stopped s) (Stops x t) job0 job1 own0 told programs before live asker budget by low stack0 stack1 fits is lies height feeds =
    let s1 : State = record t { player = player_back job0.stage t.player } in
    record {
      end = Stops x s1;
      course = refl;
      fits = back_fits job0 told programs before live asker budget t fits;
      is = subst (λ (y : Ending). IsValueEnd programs y (Stops x s1)) (sym feeds.0) is;
      left = feeds.1 ∙ ap (λ j. take j stack0) (sym height) ∙ ap (λ l. take (length low) l) lies ∙ take-append_seam low own0;
    }

-- A JOB ASKS
module _ (at : Place) (job0 job1 : Job) (told0 : Option Bytes) (live0 live1 : Live) (stack0 stack1 : List Value) (asker0 asker1 : Asker) (budget0 budget1 n : ℕ) (q : Question) (goes : Goes (goes_to.Asks q n) job0 live0 asker0.turn stack0 budget0 job1 live1 asker1.turn stack1 budget1) (same : IsSameAsker asker0 asker1) where
  module _ (programs : List RawProgram) (before : List Out) (by : meaning.Asker) (c : Scene) (s : State) (low own : List Value) (w : IsWorking at job0 told0 programs before live0 stack0 asker0 budget0 by c s low own) where
    abbrev pub has : HasAsked q n job0 own live0 asker0.turn budget0 job1 low stack1 live1 asker1.turn budget1
    has = goes low own w.lies w.height

    abbrev pub came : (t : State) × Settled s.world (setting told0 programs before) live1 asker1.turn budget1 t × (course_of job0 own by s ≡ in_any_case (question_course q has.arguments by t) (job_behind job1 has.own by))
    came = has.course (setting told0 programs before) by s w.fits.at

    abbrev pub the_ask : Ask
    the_ask = question (asked_of q) has.arguments by came.0

    callers_then : c.callers ≡ reverse asker1.callers.items
    callers_then = w.callers ∙ ap reverse (sym same.callers)

    asks_so : IsAskedSo q asker1 at.this the_ask
    asks_so = question_asked q asker1 at.this by c has.arguments came.0 w.scene w.runs.this callers_then

    world_then : IsWorldOf told0 programs live1 the_ask.world
    world_then = world_settled told0 programs live0 live1 s.world came.0.world w.fits.world came.1.at.stands came.1.settles

    pub reach : CanReach at.this q told0 live1
    reach = record { programs = programs; asker = asker1; ask = the_ask; asks = asks_so; world = world_then }

    interactive_then : by.interactive ≡ asker1.interactive
    interactive_then = w.interactive ∙ sym same.interactive

    loads_then : by.loads ≡ map loading_of (reverse asker1.loads.items)
    loads_then = w.loads ∙ ap (λ l. map loading_of (reverse l)) (sym same.loads)

    deep : depth_behind by.scene ≡ asker1.depth + 1
    deep = let d : depth_behind by.scene ≡ suc c.depth = ap depth_behind w.scene in let e : asker1.depth ≡ asker0.depth = same.depth in omega (arith, d, e, w.depth)

    low_is : length low ≡ job1.low
    low_is = w.height ∙ sym has.height

    -- The question had this outcome, in a state for which the live state stands; what it gives is how it ended on the state.
    pub record IsAnswered (front : FrontEnd) (told3 : Option Bytes) (live3 : Live) (asker3 : Asker) (budget3 : ℕ) (e : Ending) : Type 0 where
      pub outcome : Outcome
      pub has_it : Has front the_ask outcome
      pub programs3 : List RawProgram
      pub grown : Grows programs programs3
      pub fits : Fits (setting told3 programs3 before) live3 asker3.turn budget3 (state_at (value_behind q came.0 outcome))
      pub is : IsValueEnd programs3 e (value_behind q came.0 outcome)

    -- What an answer leads to
    module _ (front : FrontEnd) (told3 : Option Bytes) (live3 : Live) (stack3 stack4 : List Value) (asker3 : Asker) (budget3 : ℕ) (job3 : Job) (e : Ending) (x : IsAnswered front told3 live3 asker3 budget3 e) (still : IsSameAsker asker1 asker3) (left : stack3 ≡ low ++ has.own) where
      can_be : CanAnswer the_ask x.outcome
      can_be = outcomes_can_be front the_ask x.outcome x.has_it

      abbrev asker4 : Asker
      asker4 = asker_back job1 asker3

      same_then : IsSameAsker asker0 asker4
      same_then = same_later asker0 asker1 asker4 same (same_later asker1 asker3 asker4 still (back_same job1 asker3))

      -- what follows the outcome, the whole course ends with
      back_by : (k : Course Value) (end : End Value) → job_behind job1 has.own by (value_behind q came.0 x.outcome) ≡ k → Ends front k end → Ends front (course_of job0 own by s) end
      back_by k end is h =
          subst (λ z. Ends front z end) (sym came.2)
          (behind_ends front q has.arguments by came.0 (job_behind job1 has.own by) x.outcome end has.with_these x.has_it can_be (subst (λ z. Ends front z end) (sym is) h))

      abbrev TurnedTo : Option Ending → Type 0
      TurnedTo None = WorksOn front at (course_of job0 own by s) job3 told3 programs before live3 stack4 asker4 budget3 by c low
      TurnedTo (Some d) = WorkedTo front (course_of job0 own by s) told3 programs before live3 stack4 low asker4 budget3 d

      pub turned_to : (r : Option Ending) → Feeds r e job1 live3 stack3 job3 stack4 → TurnedTo r
      turned_to None feeds =
          let k : GoesBehind job1 has.own told3 x.programs3 before live3 asker4 budget3 by (value_behind q came.0 x.outcome) job3 low stack4 =
          turns_behind None e (value_behind q came.0 x.outcome) job1 job3 has.own told3 x.programs3 before live3 asker3 budget3 by low stack3 stack4 x.fits x.is left low_is feeds in
          record {
            programs = x.programs3;
            grown = x.grown;
            state = k.state;
            own = k.own;
            working = record {
              fits = k.fits;
              scene = w.scene;
              interactive = w.interactive ∙ sym same_then.interactive;
              loads = w.loads ∙ ap (λ l. map loading_of (reverse l)) (sym same_then.loads);
              runs = runs_still programs x.programs3 at c x.grown w.runs;
              callers = w.callers ∙ ap reverse (sym same_then.callers);
              depth = w.depth ∙ sym same_then.depth;
              lies = k.lies;
              height = low_is ∙ sym k.height;
            };
            back = λ end h. back_by (course_of job3 k.own by k.state) end k.course h;
          }
      turned_to (Some d) feeds =
          let k : EndsBehind job1 has.own told3 x.programs3 before live3 asker4 budget3 by (value_behind q came.0 x.outcome) low stack4 d =
          turns_behind (Some d) e (value_behind q came.0 x.outcome) job1 job3 has.own told3 x.programs3 before live3 asker3 budget3 by low stack3 stack4 x.fits x.is left low_is feeds in
          record {
            end = k.end;
            ends = back_by (Over k.end) k.end k.course (over_ends front k.end);
            is = value_outcome told3 programs x.programs3 before live3 asker4 budget3 d k.end x.grown k.fits k.is;
            left = k.left;
          }

    -- For a function
    module _ (told1 : Option Bytes) (live2 : Live) (args : ℕ) (found : Option Reached) (call : IsCall q) (finds : FindsAsked at.this q told0 live1 told1 live2 found) (as_many : args ≡ n) where
      reaches : ReachesIf told1 programs live2 asker1 the_ask found
      reaches = finds programs asker1 the_ask asks_so world_then

      asked : IsAsked told1 programs live2 stack1 (low ++ has.own) asker1 args budget1 the_ask
      asked = record {
        by = record { player = came.1.at.player; commands = came.1.at.commands; interactive = interactive_then; loads = loads_then; depth = deep };
        world = world_reached told1 programs live2 asker1 the_ask found reaches;
        left = sym came.1.at.left;
        lies = has.stack;
        many = has.count ∙ sym as_many;
      }

      module _ (front : FrontEnd) (real : IsFrontEnd front) (outs : live2.outputs ≡ live1.outputs) (told3 : Option Bytes) (live3 : Live) (stack3 : List Value) (asker3 : Asker) (budget3 : ℕ) (e : Ending)
          (answers : Answers (requests.Function found) args told1 live2 stack1 asker1 budget1 told3 live3 stack3 asker3 budget3 e) where
        sv : Serves front told3 programs live2.outputs live3 stack3 (low ++ has.own) asker3 budget3 e the_ask
        sv = answers.served front real programs the_ask (low ++ has.own) asked reaches

        before_is : live2.outputs ≡ before ++ came.0.outputs
        before_is = outs ∙ came.1.at.outputs

        fits_after : Fits (setting told3 sv.is.programs before) live3 asker3.turn budget3 (after came.0 sv.outcome)
        fits_after = record {
          at = record {
            stands = sv.is.world.stands;
            left = sym sv.is.left;
            outputs = sv.is.outputs ∙ ap (λ l. l ++ sv.outcome.outputs) before_is ∙ append_assoc before came.0.outputs sv.outcome.outputs;
            player = sv.is.player;
            commands = sv.is.commands;
          };
          world = sv.is.world;
        }

        pub answered : IsAnswered front told3 live3 asker3 budget3 e
        answered = record {
          outcome = sv.outcome;
          has_it = sv.has;
          programs3 = sv.is.programs;
          grown = sv.is.grown;
          fits =
              subst (λ z. Fits (setting told3 sv.is.programs before) live3 asker3.turn budget3 (state_at z)) (sym (call_behind q came.0 sv.outcome call))
              (subst (Fits (setting told3 sv.is.programs before) live3 asker3.turn budget3) (sym (end_state sv.outcome.answer (after came.0 sv.outcome))) fits_after);
          is = subst (λ z. IsValueEnd sv.is.programs e z) (sym (call_behind q came.0 sv.outcome call)) (value_end sv.is.programs e sv.outcome.answer (after came.0 sv.outcome) sv.is.answer);
        }

    -- For a load
    module _ (name : List ℕ) (is : q ≡ questions.Load name) where
      no_arguments : has.arguments ≡ []
      no_arguments = subst (λ k. IsAskedWith k has.arguments) is has.with_these

      pub stack_still : stack1 ≡ low ++ has.own
      stack_still = has.stack ∙ ap (λ l. (low ++ has.own) ++ l) no_arguments ∙ append-nil (low ++ has.own)

      pub behind : IsBehind (Some at.this) (Some at) told0 programs before live1 asker1 budget1 by came.0
      behind = record {
        fits = record { at = came.1.at; world = world_then };
        interactive = interactive_then;
        loads = loads_then;
        callers = callers_so asker1 at.this by c w.scene w.runs.this callers_then;
        depth = deep;
        place = subst (AsksAt programs (Some at)) (sym w.scene) w.runs;
      }

      module _ (front : FrontEnd) (real : IsFrontEnd front) (told3 : Option Bytes) (live3 : Live) (stack3 : List Value) (asker3 : Asker) (budget3 : ℕ) (r : Answer) (loads : Loads (Some at.this) (Some at) name purposes.Wanted told0 live1 stack1 asker1 budget1 told3 live3 stack3 asker3 budget3 r) where
        ld : LoadEnds front (load_course name purposes.Wanted by came.0) told3 programs live1.outputs live3 stack3 stack1 asker3 budget3 r
        ld = loads.loaded front real programs before by came.0 behind

        fits_then : Fits (setting told3 ld.programs before) live3 asker3.turn budget3 (after came.0 (outcome_of ld.end))
        fits_then = load_fits told3 ld.programs before live1.outputs live3 asker3 budget3 came.0 ld.end came.1.at.outputs ld.at

        pub loaded : IsAnswered front told3 live3 asker3 budget3 (loaded_ending name r)
        loaded = record {
          outcome = outcome_of ld.end;
          has_it = subst (λ k. Has front (question k has.arguments by came.0) (outcome_of ld.end)) (sym (ap asked_of is)) (load_has front name has.arguments by came.0 ld.end no_arguments ld.ends);
          programs3 = ld.programs;
          grown = ld.grown;
          fits =
              subst (λ k. Fits (setting told3 ld.programs before) live3 asker3.turn budget3 (state_at (value_behind k came.0 (outcome_of ld.end)))) (sym is)
              (subst (Fits (setting told3 ld.programs before) live3 asker3.turn budget3) (sym (load_state name ld.end came.0)) fits_then);
          is = subst (λ k. IsValueEnd ld.programs (loaded_ending name r) (value_behind k came.0 (outcome_of ld.end))) (sym is) (load_is ld.programs name r ld.end came.0 ld.answer);
        }

        pub load_left : stack3 ≡ low ++ has.own
        load_left = ld.left ∙ stack_still

  pub can_reach : CanWork at job0 told0 live0 stack0 asker0 budget0 → CanReach at.this q told0 live1
  can_reach h = reach h.programs h.before h.by h.scene h.state h.low h.own h.working

  -- A function is asked for.
  module _ (told1 : Option Bytes) (live2 : Live) (args : ℕ) (found : Option Reached) (call : IsCall q) (finds : FindsAsked at.this q told0 live1 told1 live2 found) (as_many : args ≡ n) (outs : live2.outputs ≡ live1.outputs) where
    job_can : IfSome found (λ x. IsInMemory live2 x.callee x.code) → CanWork at job0 told0 live0 stack0 asker0 budget0 → CanServe told1 live2 stack1 asker1 budget1 (requests.Function found) args
    job_can memory h = record {
      front = h.front;
      real = h.real;
      programs = h.programs;
      ask = the_ask h.programs h.before h.by h.scene h.state h.low h.own h.working;
      below = h.low ++ (has h.programs h.before h.by h.scene h.state h.low h.own h.working).own;
      asked = asked h.programs h.before h.by h.scene h.state h.low h.own h.working told1 live2 args found call finds as_many;
      is = reaches h.programs h.before h.by h.scene h.state h.low h.own h.working told1 live2 args found call finds as_many;
      there = memory;
    }

    job_on : (told3 : Option Bytes) (live3 : Live) (stack3 : List Value) (asker3 : Asker) (budget3 : ℕ) (e : Ending) → CanWork at job0 told0 live0 stack0 asker0 budget0 → Answers (requests.Function found) args told1 live2 stack1 asker1 budget1 told3 live3 stack3 asker3 budget3 e
        → IsJobOn job1 stack3
    job_on told3 live3 stack3 asker3 budget3 e h answers =
        let y = sv h.programs h.before h.by h.scene h.state h.low h.own h.working told1 live2 args found call finds as_many h.front h.real outs told3 live3 stack3 asker3 budget3 e answers in
        subst (IsJobOn job1) (sym y.left) (has h.programs h.before h.by h.scene h.state h.low h.own h.working).fits

    module _ (job3 : Job) (told3 : Option Bytes) (live3 : Live) (stack3 stack4 : List Value) (asker3 asker4 : Asker) (budget3 : ℕ) (e : Ending) (answers : Answers (requests.Function found) args told1 live2 stack1 asker1 budget1 told3 live3 stack3 asker3 budget3 e) (back : asker4 ≡ asker_back job1 asker3) where
      job_turned : (r : Option Ending) → Feeds r e job1 live3 stack3 job3 stack4 → WorkTurned r at job0 told0 live0 stack0 asker0 budget0 job3 told3 live3 stack4 asker4 budget3
      job_turned None feeds = λ front real programs before by c s low own w.
          subst (λ a. WorksOn front at (course_of job0 own by s) job3 told3 programs before live3 stack4 a budget3 by c low) (sym back)
          (turned_to programs before by c s low own w front told3 live3 stack3 stack4 asker3 budget3 job3 e (answered programs before by c s low own w told1 live2 args found call finds as_many front real outs told3 live3 stack3 asker3 budget3 e answers) answers.same
          (sv programs before by c s low own w told1 live2 args found call finds as_many front real outs told3 live3 stack3 asker3 budget3 e answers).left None feeds)
      job_turned (Some d) feeds = λ front real programs before by c s low own w.
          subst (λ a. WorkedTo front (course_of job0 own by s) told3 programs before live3 stack4 low a budget3 d) (sym back)
          (turned_to programs before by c s low own w front told3 live3 stack3 stack4 asker3 budget3 job3 e (answered programs before by c s low own w told1 live2 args found call finds as_many front real outs told3 live3 stack3 asker3 budget3 e answers) answers.same
          (sv programs before by c s low own w told1 live2 args found call finds as_many front real outs told3 live3 stack3 asker3 budget3 e answers).left (Some d) feeds)

    job_asks : IfSome found (λ x. IsInMemory live2 x.callee x.code) → budget1 ≤ budget0 → KeepsVariables live0.objects live1.objects → KeepsVariables live1.objects live2.objects → IsFit live2 stack1 → questions_left job1 ≤ questions_left job0 → IsAsking job1
        → WorkAsks found args at job0 told0 live0 stack0 asker0 budget0 job1 told1 live2 stack1 asker1 budget1
    job_asks memory spends home0 home1 fit left asking = record {
      spends = spends;
      home = home_later live0.objects live1.objects live2.objects home0 home1;
      fit = fit;
      left = left;
      asking = asking;
      same = same;
      can = job_can memory;
      on = job_on;
      turns = λ job3 told3 live3 stack3 stack4 asker3 asker4 budget3 e r answers feeds back. job_turned job3 told3 live3 stack3 stack4 asker3 asker4 budget3 e answers back r feeds;
    }

  -- A load is asked for.
  module _ (name : List ℕ) (is : q ≡ questions.Load name) where
    job_can_load : CanWork at job0 told0 live0 stack0 asker0 budget0 → CanLoad (Some at.this) (Some at) told0 live1 asker1 budget1
    job_can_load h = record {
      front = h.front;
      real = h.real;
      programs = h.programs;
      before = h.before;
      by = h.by;
      state = (came h.programs h.before h.by h.scene h.state h.low h.own h.working).0;
      behind = behind h.programs h.before h.by h.scene h.state h.low h.own h.working name is;
    }

    module _ (told3 : Option Bytes) (live3 : Live) (stack3 : List Value) (asker3 : Asker) (budget3 : ℕ) (r : Answer) (loads : Loads (Some at.this) (Some at) name purposes.Wanted told0 live1 stack1 asker1 budget1 told3 live3 stack3 asker3 budget3 r) where
      job_loaded_on : CanWork at job0 told0 live0 stack0 asker0 budget0 → IsJobOn job1 stack3
      job_loaded_on h =
          subst (IsJobOn job1) (sym (load_left h.programs h.before h.by h.scene h.state h.low h.own h.working name is h.front h.real told3 live3 stack3 asker3 budget3 r loads)) (has h.programs h.before h.by h.scene h.state h.low h.own h.working).fits

      module _ (job3 : Job) (stack4 : List Value) (asker4 : Asker) (back : asker4 ≡ asker_back job1 asker3) where
        load_turned : (x : Option Ending) → Feeds x (loaded_ending name r) job1 live3 stack3 job3 stack4 → WorkTurned x at job0 told0 live0 stack0 asker0 budget0 job3 told3 live3 stack4 asker4 budget3
        load_turned None feeds = λ front real programs before by c s low own w.
            subst (λ a. WorksOn front at (course_of job0 own by s) job3 told3 programs before live3 stack4 a budget3 by c low) (sym back)
            (turned_to programs before by c s low own w front told3 live3 stack3 stack4 asker3 budget3 job3 (loaded_ending name r) (loaded programs before by c s low own w name is front real told3 live3 stack3 asker3 budget3 r loads) loads.same
            (load_left programs before by c s low own w name is front real told3 live3 stack3 asker3 budget3 r loads) None feeds)
        load_turned (Some d) feeds = λ front real programs before by c s low own w.
            subst (λ a. WorkedTo front (course_of job0 own by s) told3 programs before live3 stack4 low a budget3 d) (sym back)
            (turned_to programs before by c s low own w front told3 live3 stack3 stack4 asker3 budget3 job3 (loaded_ending name r) (loaded programs before by c s low own w name is front real told3 live3 stack3 asker3 budget3 r loads) loads.same
            (load_left programs before by c s low own w name is front real told3 live3 stack3 asker3 budget3 r loads) (Some d) feeds)

    job_loads : budget1 ≤ budget0 → KeepsVariables live0.objects live1.objects → IsFit live1 stack1 → questions_left job1 ≤ questions_left job0 → IsAsking job1 → WorkLoads name at job0 told0 live0 stack0 asker0 budget0 job1 told0 live1 stack1 asker1 budget1
    job_loads spends home fit left asking = record {
      spends = spends;
      home = home;
      fit = fit;
      left = left;
      asking = asking;
      same = same;
      can = job_can_load;
      on = λ told3 live3 stack3 asker3 budget3 r can loads. job_loaded_on told3 live3 stack3 asker3 budget3 r loads can;
      turns = λ job3 told3 live3 stack3 stack4 asker3 asker4 budget3 r x loads feeds back. load_turned told3 live3 stack3 asker3 budget3 r loads job3 stack4 asker4 back x feeds;
    }

  -- Either is what the question asks.
  module _ (told1 : Option Bytes) (live2 : Live) (args : ℕ) (as_many : args ≡ n) (outs : live2.outputs ≡ live1.outputs) (spends : budget1 ≤ budget0) (home0 : KeepsVariables live0.objects live1.objects) (home1 : KeepsVariables live1.objects live2.objects) (fit : IsFit live2 stack1)
      (left : questions_left job1 ≤ questions_left job0) (asking : IsAsking job1) where
    pub job_steps : (r : Stepped) → AsksFor r at.this q args told0 live1 told1 live2 → IsStepThere live2 r → StepsTo r at job0 told0 live0 stack0 asker0 budget0 job1 told1 live2 stack1 asker1 budget1
    job_steps (steps.Ended e) asks there = absurd asks
    job_steps (steps.Asks found k) asks there = job_asks told1 live2 k found asks.0 asks.1 (asks.2 ∙ as_many) outs there spends home0 home1 fit left asking
    job_steps (steps.Loads name) asks there =
        subst (λ t. WorkLoads name at job0 told0 live0 stack0 asker0 budget0 job1 t live2 stack1 asker1 budget1) (sym asks.1)
        (subst (λ l. WorkLoads name at job0 told0 live0 stack0 asker0 budget0 job1 told0 l stack1 asker1 budget1) (sym asks.2) (job_loads name asks.0 spends home0 (subst (λ l. IsFit l stack1) asks.2 fit) left asking))

-- A JOB ENDS
pub job_ends : (at : Place) (job0 job1 : Job) (told : Option Bytes) (live0 live1 : Live) (stack0 stack1 : List Value) (asker0 asker1 : Asker) (budget0 budget1 : ℕ) (x : efuns.Answer) → Goes (goes_to.Ends x) job0 live0 asker0.turn stack0 budget0 job1 live1 asker1.turn stack1 budget1 → IsSameAsker asker0 asker1
    → budget1 ≤ budget0 → KeepsVariables live0.objects live1.objects → IsFit live1 stack1 → IsEndingThere live1.cells (ending_of x) → Works at job0 told live0 stack0 asker0 budget0 told live1 stack1 asker1 budget1 (ending_of x)
job_ends at job0 job1 told live0 live1 stack0 stack1 asker0 asker1 budget0 budget1 x goes same spends home fit there = record {
  worked = λ front real programs before by c s low own w.
      let h : HasStopped x job0 own live0 asker0.turn budget0 low stack1 live1 asker1.turn budget1 = goes low own w.lies w.height in
      let over = h.course (setting told programs before) by s w.fits.at in
      record {
        end = over.0;
        ends = subst (λ t. Ends front t over.0) (sym over.1) (over_ends front over.0);
        is = answer_outcome told programs before live0 live1 asker1 budget1 x s.world over.0 w.fits.world over.2;
        left = h.stack;
      };
  same = same;
  spends = spends;
  home = home;
  fit = fit;
  there = there;
}

-- One turn after another

-- none so far
pub works_same : (at : Place) (job : Job) (told : Option Bytes) (live : Live) (stack : List Value) (asker : Asker) (budget : ℕ) → WorkContinues at job told live stack asker budget job told live stack asker budget
works_same at job told live stack asker budget front real programs before by c s low own w = record { programs = programs; grown = grows_same programs; state = s; own = own; working = w; back = λ e h. h }

-- one more
pub works_more : (at : Place) (job0 job1 job2 : Job) (told0 told1 told2 : Option Bytes) (live0 live1 live2 : Live) (stack0 stack1 stack2 : List Value) (asker0 asker1 asker2 : Asker) (budget0 budget1 budget2 : ℕ)
    → WorkContinues at job0 told0 live0 stack0 asker0 budget0 job1 told1 live1 stack1 asker1 budget1 → WorkContinues at job1 told1 live1 stack1 asker1 budget1 job2 told2 live2 stack2 asker2 budget2
    → WorkContinues at job0 told0 live0 stack0 asker0 budget0 job2 told2 live2 stack2 asker2 budget2
works_more at job0 job1 job2 told0 told1 told2 live0 live1 live2 stack0 stack1 stack2 asker0 asker1 asker2 budget0 budget1 budget2 h n front real programs before by c s low own w =
    let x = h front real programs before by c s low own w in
    let y = n front real x.programs before by c x.state low x.own x.working in
    record { programs = y.programs; grown = grows_trans programs x.programs y.programs x.grown y.grown; state = y.state; own = y.own; working = y.working; back = λ e l. x.back e (y.back e l) }

-- it can work on
pub can_work_on : (at : Place) (job0 job1 : Job) (told0 told1 : Option Bytes) (live0 live1 : Live) (stack0 stack1 : List Value) (asker0 asker1 : Asker) (budget0 budget1 : ℕ) → CanWork at job0 told0 live0 stack0 asker0 budget0
    → WorkContinues at job0 told0 live0 stack0 asker0 budget0 job1 told1 live1 stack1 asker1 budget1 → CanWork at job1 told1 live1 stack1 asker1 budget1
can_work_on at job0 job1 told0 told1 live0 live1 stack0 stack1 asker0 asker1 budget0 budget1 h n =
    let x = n h.front h.real h.programs h.before h.by h.scene h.state h.low h.own h.working in
    record { front = h.front; real = h.real; programs = x.programs; before = h.before; by = h.by; scene = h.scene; state = x.state; low = h.low; own = x.own; working = x.working }

-- and the end
works_to_end : (at : Place) (job0 job1 : Job) (told0 told1 told2 : Option Bytes) (live0 live1 live2 : Live) (stack0 stack1 stack2 : List Value) (asker0 asker1 asker2 : Asker) (budget0 budget1 budget2 : ℕ) (e : Ending)
    → WorkContinues at job0 told0 live0 stack0 asker0 budget0 job1 told1 live1 stack1 asker1 budget1 → Worked at job1 told1 live1 stack1 asker1 budget1 told2 live2 stack2 asker2 budget2 e → Worked at job0 told0 live0 stack0 asker0 budget0 told2 live2 stack2 asker2 budget2 e
works_to_end at job0 job1 told0 told1 told2 live0 live1 live2 stack0 stack1 stack2 asker0 asker1 asker2 budget0 budget1 budget2 e h n front real programs before by c s low own w =
    let x = h front real programs before by c s low own w in
    let y = n front real x.programs before by c x.state low x.own x.working in
    record { end = y.end; ends = x.back y.end y.ends; is = outcome_grown told2 programs x.programs before live2 asker2 budget2 e (outcome_of (plain_end y.end)) x.grown y.is; left = y.left }

pub works_later : (at : Place) (job0 job1 : Job) (told0 told1 told2 : Option Bytes) (live0 live1 live2 : Live) (stack0 stack1 stack2 : List Value) (asker0 asker1 asker2 : Asker) (budget0 budget1 budget2 : ℕ) (e : Ending)
    → WorkContinues at job0 told0 live0 stack0 asker0 budget0 job1 told1 live1 stack1 asker1 budget1 → IsSameAsker asker0 asker1 → budget1 ≤ budget0 → KeepsVariables live0.objects live1.objects
    → Works at job1 told1 live1 stack1 asker1 budget1 told2 live2 stack2 asker2 budget2 e → Works at job0 told0 live0 stack0 asker0 budget0 told2 live2 stack2 asker2 budget2 e
works_later at job0 job1 told0 told1 told2 live0 live1 live2 stack0 stack1 stack2 asker0 asker1 asker2 budget0 budget1 budget2 e goes same spends home h = record {
  worked = works_to_end at job0 job1 told0 told1 told2 live0 live1 live2 stack0 stack1 stack2 asker0 asker1 asker2 budget0 budget1 budget2 e goes h.worked;
  same = same_later asker0 asker1 asker2 same h.same;
  spends = le_trans h.spends spends;
  home = home_later live0.objects live1.objects live2.objects home h.home;
  fit = h.fit;
  there = h.there;
}

-- what was answered ends it
asked_ends : (at : Place) (job0 job1 job3 : Job) (found : Option Reached) (args : ℕ) (told0 told1 told2 : Option Bytes) (live0 live1 live2 : Live) (stack0 stack1 stack2 stack3 : List Value) (asker0 asker1 asker2 asker3 : Asker) (budget0 budget1 budget2 : ℕ) (e x : Ending)
    → (asks : WorkAsks found args at job0 told0 live0 stack0 asker0 budget0 job1 told1 live1 stack1 asker1 budget1) → Answers (requests.Function found) args told1 live1 stack1 asker1 budget1 told2 live2 stack2 asker2 budget2 e
    → Feeds (Some x) e job1 live2 stack2 job3 stack3 → asker3 ≡ asker_back job1 asker2 → x ≡ e → IsFit live2 stack3 → Works at job0 told0 live0 stack0 asker0 budget0 told2 live2 stack3 asker3 budget2 x
asked_ends at job0 job1 job3 found args told0 told1 told2 live0 live1 live2 stack0 stack1 stack2 stack3 asker0 asker1 asker2 asker3 budget0 budget1 budget2 e x asks answers feeds back same fit = record {
  worked = asks.turns job3 told2 live2 stack2 stack3 asker2 asker3 budget2 e (Some x) answers feeds back;
  same = same_later asker0 asker2 asker3 (same_later asker0 asker1 asker2 asks.same answers.same) (same_back job1 asker2 asker3 back);
  spends = le_trans answers.spends asks.spends;
  home = home_later live0.objects live1.objects live2.objects asks.home answers.home;
  fit = fit;
  there = subst (IsEndingThere live2.cells) (sym same) answers.there;
}

-- and so does how a load ended
loaded_ends : (at : Place) (job0 job1 job3 : Job) (name : List ℕ) (told0 told1 told2 : Option Bytes) (live0 live1 live2 : Live) (stack0 stack1 stack2 stack3 : List Value) (asker0 asker1 asker2 asker3 : Asker) (budget0 budget1 budget2 : ℕ) (r : Answer) (x : Ending)
    → (asks : WorkLoads name at job0 told0 live0 stack0 asker0 budget0 job1 told1 live1 stack1 asker1 budget1) → Loads (Some at.this) (Some at) name purposes.Wanted told1 live1 stack1 asker1 budget1 told2 live2 stack2 asker2 budget2 r
    → Feeds (Some x) (loaded_ending name r) job1 live2 stack2 job3 stack3 → asker3 ≡ asker_back job1 asker2 → IsEndingThere live2.cells x → IsFit live2 stack3 → Works at job0 told0 live0 stack0 asker0 budget0 told2 live2 stack3 asker3 budget2 x
loaded_ends at job0 job1 job3 name told0 told1 told2 live0 live1 live2 stack0 stack1 stack2 stack3 asker0 asker1 asker2 asker3 budget0 budget1 budget2 r x asks loads feeds back there fit = record {
  worked = asks.turns job3 told2 live2 stack2 stack3 asker2 asker3 budget2 r (Some x) loads feeds back;
  same = same_later asker0 asker2 asker3 (same_later asker0 asker1 asker2 asks.same loads.same) (same_back job1 asker2 asker3 back);
  spends = le_trans loads.spends asks.spends;
  home = home_later live0.objects live1.objects live2.objects asks.home loads.home;
  fit = fit;
  there = there;
}

-- One step

-- what was answered is taken, ..
pub taken_answer : {E : Type 0} (x : Result (Option Ending) E) (found : Option Reached) (args : ℕ) (job0 job1 : Job) (told0 told1 : Option Bytes) (live0 live1 : Live) (stack0 stack1 stack2 : List Value) (asker0 asker1 asker2 : Asker) (budget0 budget1 : ℕ) (e : Ending)
    → Answers (requests.Function found) args told0 live0 stack0 asker0 budget0 told1 live1 stack1 asker1 budget1 e → asker2 ≡ asker_back job0 asker1
    → IfOk x (λ r. Feeds r e job0 live1 stack1 job1 stack2) → IfOk x (λ r. FedOn r job0 job1 live1 stack2) → OnOk x (IsFit live1 stack2) → IfOk x (λ r. IfSome r (λ d. d ≡ e))
    → IfOk x (λ r. TakesAnswer r found args job0 told0 live0 stack0 asker0 budget0 job1 told1 live1 stack2 asker2 budget1)
taken_answer (Ok r) found args job0 job1 told0 told1 live0 live1 stack0 stack1 stack2 asker0 asker1 asker2 budget0 budget1 e answers back feeds on fit same = record {
  stack = stack1;
  asker = asker1;
  ending = e;
  answers = answers;
  feeds = feeds;
  back = back;
  on = on;
  fit = fit;
  same = same;
}
taken_answer (Err f) found args job0 job1 told0 told1 live0 live1 stack0 stack1 stack2 asker0 asker1 asker2 budget0 budget1 e answers back feeds on fit same = tt

-- .. as is how a load ended
pub taken_load : {E : Type 0} (x : Result (Option Ending) E) (at : Place) (name : List ℕ) (job0 job1 : Job) (told0 told1 : Option Bytes) (live0 live1 : Live) (stack0 stack1 stack2 : List Value) (asker0 asker1 asker2 : Asker) (budget0 budget1 : ℕ) (a : Answer)
    → Loads (Some at.this) (Some at) name purposes.Wanted told0 live0 stack0 asker0 budget0 told1 live1 stack1 asker1 budget1 a → OnOk x (asker2 ≡ asker_back job0 asker1)
    → IfOk x (λ r. Feeds r (loaded_ending name a) job0 live1 stack1 job1 stack2) → IfOk x (λ r. FedOn r job0 job1 live1 stack2) → OnOk x (IsFit live1 stack2) → IfOk x (λ r. IfSome r (IsEndingThere live1.cells))
    → IfOk x (λ r. TakesLoad r at name job0 told0 live0 stack0 asker0 budget0 job1 told1 live1 stack2 asker2 budget1)
taken_load (Ok r) at name job0 job1 told0 told1 live0 live1 stack0 stack1 stack2 asker0 asker1 asker2 budget0 budget1 a loads back feeds on fit there = record {
  stack = stack1;
  asker = asker1;
  answer = a;
  loads = loads;
  feeds = feeds;
  back = back;
  on = on;
  fit = fit;
  there = there;
}
taken_load (Err f) at name job0 job1 told0 told1 live0 live1 stack0 stack1 stack2 asker0 asker1 asker2 budget0 budget1 a loads back feeds on fit there = tt

-- A job that asked goes on, or has ended; ..
pub asked_turns : (r : Option Ending) (at : Place) (job0 job1 job3 : Job) (found : Option Reached) (args : ℕ) (told0 told1 told2 : Option Bytes) (live0 live1 live2 : Live) (stack0 stack1 stack3 : List Value) (asker0 asker1 asker3 : Asker) (budget0 budget1 budget2 : ℕ)
    → WorkAsks found args at job0 told0 live0 stack0 asker0 budget0 job1 told1 live1 stack1 asker1 budget1 → TakesAnswer r found args job1 told1 live1 stack1 asker1 budget1 job3 told2 live2 stack3 asker3 budget2
    → WorkTurnsTo r at job0 told0 live0 stack0 asker0 budget0 job3 told2 live2 stack3 asker3 budget2
asked_turns None at job0 job1 job3 found args told0 told1 told2 live0 live1 live2 stack0 stack1 stack3 asker0 asker1 asker3 budget0 budget1 budget2 asks t = record {
  goes = asks.turns job3 told2 live2 t.stack stack3 t.asker asker3 budget2 t.ending None t.answers t.feeds t.back;
  on = t.on.0;
  ready = t.on.1;
  less = let less = t.on.2 in let left = asks.left in omega (arith, less, left);
  same = same_later asker0 t.asker asker3 (same_later asker0 asker1 t.asker asks.same t.answers.same) (same_back job1 t.asker asker3 t.back);
  spends = le_trans t.answers.spends asks.spends;
  home = home_later live0.objects live1.objects live2.objects asks.home t.answers.home;
  fit = t.fit;
}
asked_turns (Some x) at job0 job1 job3 found args told0 told1 told2 live0 live1 live2 stack0 stack1 stack3 asker0 asker1 asker3 budget0 budget1 budget2 asks t =
    asked_ends at job0 job1 job3 found args told0 told1 told2 live0 live1 live2 stack0 stack1 t.stack stack3 asker0 asker1 t.asker asker3 budget0 budget1 budget2 t.ending x asks t.answers t.feeds t.back t.same t.fit

-- .. and so does one that asked for a load
pub loaded_turns : (r : Option Ending) (at : Place) (job0 job1 job3 : Job) (name : List ℕ) (told0 told1 told2 : Option Bytes) (live0 live1 live2 : Live) (stack0 stack1 stack3 : List Value) (asker0 asker1 asker3 : Asker) (budget0 budget1 budget2 : ℕ)
    → WorkLoads name at job0 told0 live0 stack0 asker0 budget0 job1 told1 live1 stack1 asker1 budget1 → TakesLoad r at name job1 told1 live1 stack1 asker1 budget1 job3 told2 live2 stack3 asker3 budget2
    → WorkTurnsTo r at job0 told0 live0 stack0 asker0 budget0 job3 told2 live2 stack3 asker3 budget2
loaded_turns None at job0 job1 job3 name told0 told1 told2 live0 live1 live2 stack0 stack1 stack3 asker0 asker1 asker3 budget0 budget1 budget2 asks t = record {
  goes = asks.turns job3 told2 live2 t.stack stack3 t.asker asker3 budget2 t.answer None t.loads t.feeds t.back;
  on = t.on.0;
  ready = t.on.1;
  less = let less = t.on.2 in let left = asks.left in omega (arith, less, left);
  same = same_later asker0 t.asker asker3 (same_later asker0 asker1 t.asker asks.same t.loads.same) (same_back job1 t.asker asker3 t.back);
  spends = le_trans t.loads.spends asks.spends;
  home = home_later live0.objects live1.objects live2.objects asks.home t.loads.home;
  fit = t.fit;
}
loaded_turns (Some x) at job0 job1 job3 name told0 told1 told2 live0 live1 live2 stack0 stack1 stack3 asker0 asker1 asker3 budget0 budget1 budget2 asks t =
    loaded_ends at job0 job1 job3 name told0 told1 told2 live0 live1 live2 stack0 stack1 t.stack stack3 asker0 asker1 t.asker asker3 budget0 budget1 budget2 t.answer x asks t.loads t.feeds t.back t.there t.fit
