-- `clone_object`: how it begins, what follows the load of its blueprint, and its end.
use Rattle.std.proofs.Common.{◌≡◌, ◌∙◌, ◌++◌, ◌∷◌, [], ◌≤◌, ℕ, List, Option, Some, refl, ap, sym, subst, append-nil}
use Rattle.std.specs.Prelude.{IsSome, reverse}
use Rattle.std.specs.Str.{chars}
use Rattle.std.specs.String.{string_bytes}
use Rattle.std.specs.declared.string.String.{String}
use Rattle.std.proofs.Math.Nat.{le_trans}
use Rattle.std.proofs.lemmas.List.{reverse-append}
use Rattle.lp_values.specs.declared.id.ObjId.{ObjId}
use Rattle.lp_values.specs.declared.value.Value.{Value}
use Rattle.lp_code.specs.declared.program.RawProgram.{RawProgram}
use Rattle.lp_events.specs.declared.out.Out.{Out}
use Rattle.lp_instr.specs.declared.efun.Efun.TheVariants as efuns
use Rattle.lp_swapfile.specs.Device.{Bytes}
use Rattle.lp_language.specs.Course as course
use Rattle.lp_language.specs.Course.{Ask, End, Failed, Gives, IsFaulty, IsSound, Load, Over, Plain, Reply, Scene, State, Stops, WasRead, after, and_then, end_of_reply, here, outcome_of, zero_value}
use Rattle.lp_meaning.specs.Askers as meaning
use Rattle.lp_meaning.specs.Askers.{asker_of, question, state_of}
use Rattle.lp_meaning.specs.Closing.{Ends, Has}
use Rattle.lp_meaning.specs.FileLoads.{could_not_load, load_call, load_value, loaded_value}
use Rattle.lp_meaning.specs.FrontEnd.{FrontEnd}
use Rattle.lp_meaning.specs.FunctionCalls.{callers_behind}
use Rattle.lp_meaning.proofs.Kept.{outcomes_can_be}
use Rattle.lp_front_end.specs.FrontEnds.{IsFrontEnd}
use Rattle.lp_world.specs.declared.live.Live.{Live}
use Rattle.lp_world.specs.Rows.{variables_at}
use Rattle.lp_step.specs.Steps.{IsFit, KeepsVariables}
use Rattle.lp_run.proofs.Together.{home_later}
use Rattle.lp_asking.specs.declared.asker.Asker.{Asker}
use Rattle.lp_asking.specs.declared.ending.Ending.{Ending}
use Rattle.lp_asking.specs.declared.ending.Ending.TheVariants as endings
use Rattle.lp_asking.specs.declared.ending.Place.{Place}
use Rattle.lp_asking.specs.declared.ending.Stop.{Stop}
use Rattle.lp_asking.specs.Endings.{IsAnswer, IsEndingThere, plain_end}
use Rattle.lp_asking.proofs.Courses.{asks_ends, has_of, over_ends}
use Rattle.lp_beginning.specs.declared.job.Making.{Making}
use Rattle.lp_beginning.specs.Beginning.{Fits}
use Rattle.lp_beginning.specs.Ends.{IsReplyEnd, IsValueEnd, state_at}
use Rattle.lp_beginning.specs.Jobs as making
use Rattle.lp_cloning.specs.declared.job.Begun.TheVariants as begun
use Rattle.lp_cloning.specs.declared.job.Cloning.{Cloning}
use Rattle.lp_cloning.specs.declared.job.Cloning.TheVariants as stages
use Rattle.lp_cloning.specs.Beginning.{Begins, IsAtBeginning}
use Rattle.lp_cloning.specs.Feeding.{ClonedAs, LoadedAs, LoadsThrough, loaded_rest}
use Rattle.lp_cloning.specs.Jobs.{course_of}
use Rattle.lp_loading.specs.declared.job.Answer.{Answer}
use Rattle.lp_loading.specs.declared.job.Answer.TheVariants as answers
use Rattle.lp_loading.specs.declared.job.Purpose.TheVariants as purposes
use Rattle.lp_loading.specs.Going.{IsAnswerOf, IsAt, setting, state_in}
use Rattle.lp_vm.specs.declared.request.Request.TheVariants as requests
use Rattle.lp_vm.specs.Answering.{CanServe, IsAsked}
use Rattle.lp_vm.specs.Cloning.{CanClone, Clones, IsCloning}
use Rattle.lp_vm.specs.Cycle.{Answers}
use Rattle.lp_vm.specs.Going.{IsOutcome}
use Rattle.lp_vm.specs.Growing.{Grows}
use Rattle.lp_vm.specs.Loaded.{loaded_ending}
use Rattle.lp_vm.specs.Loading.{CanLoad, LoadEnds, Loads, load_course}
use Rattle.lp_vm.specs.Making.{AsksAt, CanMake, IsBehind, Makes, StandsForOne}
use Rattle.lp_vm.specs.Requests.{AsksEfun}
use Rattle.lp_vm.proofs.Answered.{efun_has}
use Rattle.lp_vm.proofs.Grown.{grows_same, outcome_grown}
use Rattle.lp_vm.proofs.Loads.{answer_after, at_after, behind_later, end_after, is_at}
use Rattle.lp_vm.proofs.MakingBegins.{begins_making}
use Rattle.lp_vm.proofs.Startings.{same_asker, same_later}

-- Ends

-- an end of an efun in a state for which the live state stands is an outcome
pub value_outcome : (told : Option Bytes) (old programs : List RawProgram) (before : List Out) (live : Live) (asker : Asker) (budget : ℕ) (e : Ending) (x : End Value) → Grows old programs → Fits (setting told programs before) live asker.turn budget (state_at x) → IsValueEnd programs e x
    → IsOutcome told old before live asker budget e (outcome_of (plain_end x))
value_outcome told old programs before live asker budget (endings.Value v) (Gives u s) g f h = record { programs = programs; grown = g; world = f.world; left = sym f.at.left; player = f.at.player; commands = f.at.commands; outputs = f.at.outputs; answer = h }
value_outcome told old programs before live asker budget (endings.Value v) (Stops x s) g f h = absurd h
value_outcome told old programs before live asker budget (endings.Stopped stop) (Gives u s) g f h = absurd h
value_outcome told old programs before live asker budget (endings.Stopped stop) (Stops x s) g f h = record { programs = programs; grown = g; world = f.world; left = sym f.at.left; player = f.at.player; commands = f.at.commands; outputs = f.at.outputs; answer = h }

-- how a job ended, as an end of its course
reply_end : (programs : List RawProgram) (e : Ending) (x : End Reply) → IsAnswer programs (outcome_of x).world e (outcome_of x).answer → IsReplyEnd programs e x
reply_end programs (endings.Value v) (Gives r s) h = h
reply_end programs (endings.Value v) (Stops x s) h = absurd h
reply_end programs (endings.Stopped stop) (Gives r s) h = absurd h
reply_end programs (endings.Stopped stop) (Stops x s) h = h

-- The end of a load for LPC: faults are an error.
abbrev loaded_end : List ℕ → End Reply → End Value
loaded_end name (Gives (Plain v) s) = Gives v s
loaded_end name (Gives (WasRead items pragmas) s) = Gives zero_value s
loaded_end name (Gives IsSound s) = Gives zero_value s
loaded_end name (Gives (IsFaulty fs) s) = Stops (here (Failed (could_not_load name fs))) s
loaded_end name (Stops x s) = Stops x s

loaded_over : (name : List ℕ) (x : End Reply) → and_then (Over x) (λ r s. loaded_value name r s) ≡ Over (loaded_end name x)
loaded_over name (Gives (Plain v) s) = refl
loaded_over name (Gives (WasRead items pragmas) s) = refl
loaded_over name (Gives IsSound s) = refl
loaded_over name (Gives (IsFaulty fs) s) = refl
loaded_over name (Stops x s) = refl

loaded_state : (name : List ℕ) (x : End Reply) → state_at (loaded_end name x) ≡ state_in x
loaded_state name (Gives (Plain v) s) = refl
loaded_state name (Gives (WasRead items pragmas) s) = refl
loaded_state name (Gives IsSound s) = refl
loaded_state name (Gives (IsFaulty fs) s) = refl
loaded_state name (Stops x s) = refl

loaded_is : (programs : List RawProgram) (name : List ℕ) (r : Answer) (x : End Reply) → IsAnswerOf programs r x → IsValueEnd programs (loaded_ending name r) (loaded_end name x)
loaded_is programs name (answers.Value v) (Gives (Plain u) s) h = h
loaded_is programs name (answers.Value v) (Gives (WasRead items pragmas) s) h = absurd h
loaded_is programs name (answers.Value v) (Gives IsSound s) h = absurd h
loaded_is programs name (answers.Value v) (Gives (IsFaulty faults) s) h = absurd h
loaded_is programs name (answers.Value v) (Stops x s) h = absurd h
loaded_is programs name (answers.Faulty fs) (Gives (Plain u) s) h = absurd h
loaded_is programs name (answers.Faulty fs) (Gives (WasRead items pragmas) s) h = absurd h
loaded_is programs name (answers.Faulty fs) (Gives IsSound s) h = absurd h
loaded_is programs name (answers.Faulty fs) (Gives (IsFaulty faults) s) h = record { cause = ap (λ l. Failed (could_not_load name l)) h; place = tt }
loaded_is programs name (answers.Faulty fs) (Stops x s) h = absurd h
loaded_is programs name (answers.Stopped stop) (Gives r s) h = absurd h
loaded_is programs name (answers.Stopped stop) (Stops x s) h = h

-- Behind the load of a blueprint a stop ends the job.
pub stop_loaded : (name : List ℕ) (stop : Stop) (told : Option Bytes) (live : Live) → LoadedAs (begun.Ends (endings.Stopped stop)) name (endings.Stopped stop) told live live
stop_loaded name stop told live g by turn budget (Gives v s) q f h = absurd h
stop_loaded name stop told live g by turn budget (Stops x s) q f h = record { end = Stops x s; over = refl; is = h; fits = f }

-- THE EFUN BEGINS

-- who calls it, as a caller of what is asked on its behalf
pub callers_so : (s : Option Scene) (c : Scene) (this : ObjId) (callers : List ObjId) → s ≡ Some c → c.this ≡ this → c.callers ≡ reverse callers → callers_behind s ≡ reverse (callers ++ this ∷ [])
callers_so s c this callers e t k = ap callers_behind e ∙ ap (λ o. o ∷ c.callers) t ∙ ap (λ l. this ∷ l) k ∙ sym (reverse-append callers (this ∷ []))

module _ (at : Place) (args : ℕ) (told : Option Bytes) (live0 live1 : Live) (stack0 stack1 : List Value) (asker : Asker) (budget0 budget1 : ℕ) where
  module _ (programs : List RawProgram) (a : Ask) (below : List Value) (h : IsAsked told programs live0 stack0 below asker args budget0 a) (q : AsksEfun programs asker at efuns.CloneObject a) where
    caller_behind : IsBehind (Some at.this) (Some at) told programs live0.outputs live0 asker budget0 (asker_of a) (state_of a)
    caller_behind = record {
      fits = record {
        at = record { stands = h.world.stands; left = sym h.left; outputs = sym (append-nil live0.outputs); player = h.by.player; commands = h.by.commands };
        world = h.world;
      };
      interactive = h.by.interactive;
      loads = h.by.loads;
      callers = callers_so a.scene q.scene at.this asker.callers.items q.scene_is q.runs.this q.callers;
      depth = h.by.depth;
      place = subst (AsksAt programs (Some at)) (sym q.scene_is) q.runs;
    }

  -- It ends at once.
  pub clone_answered : (e : Ending) → Begins (begun.Ends e) told live0 stack0 args budget0 live1 stack1 budget1 → IsFit live1 stack1 → KeepsVariables live0.objects live1.objects → budget1 ≤ budget0 → IsEndingThere live1.cells e
      → Answers (requests.Efun at efuns.CloneObject) args told live0 stack0 asker budget0 told live1 stack1 asker budget1 e
  clone_answered e begins fit home spends there = record {
    served = λ front real programs a below h r.
        let q : AsksEfun programs asker at efuns.CloneObject a = r.0 in
        let b = begins q.scene below a.arguments h.lies h.many in
        let x = b.1 (setting told programs live0.outputs) (asker_of a) asker.turn (state_of a) refl (caller_behind programs a below h q).fits in
        record {
          outcome = outcome_of (plain_end x.end);
          has = efun_has front a efuns.CloneObject q.scene x.end q.scene_is q.what (subst (λ k. Ends front k x.end) (sym x.over) (over_ends front x.end));
          is = value_outcome told programs programs live0.outputs live1 asker budget1 e x.end (grows_same programs) x.fits x.is;
          left = b.0;
        };
    same = same_asker asker;
    spends = spends;
    home = home;
    fit = fit;
    there = there;
  }

  -- It goes on as a job.
  module _ (cloning : Cloning) (begins : Begins (begun.Runs cloning) told live0 stack0 args budget0 live1 stack1 budget1) where
    pub clone_can : CanServe told live0 stack0 asker budget0 (requests.Efun at efuns.CloneObject) args → CanClone at cloning told live1 asker budget1
    clone_can h =
        let q : AsksEfun h.programs asker at efuns.CloneObject h.ask = h.is.0 in
        let behind = caller_behind h.programs h.ask h.below h.asked q in
        let b = begins q.scene h.below h.ask.arguments h.asked.lies h.asked.many in
        let t = b.1 (setting told h.programs live0.outputs) (asker_of h.ask) asker.turn (state_of h.ask) refl behind.fits in
        record {
          front = h.front;
          real = h.real;
          programs = h.programs;
          before = live0.outputs;
          by = asker_of h.ask;
          state = t.0;
          stands = record {
            behind = behind_later (Some at.this) (Some at) told told h.programs h.programs live0.outputs live0 live1 asker asker budget0 budget1 (asker_of h.ask) (state_of h.ask) t.0 behind t.1 (grows_same h.programs) (same_asker asker);
            begun = t.3;
          };
        }

    pub clone_answers : (told2 : Option Bytes) (live2 : Live) (stack2 : List Value) (asker2 : Asker) (budget2 : ℕ) (e : Ending) → Clones at cloning told live1 stack1 asker budget1 told2 live2 stack2 asker2 budget2 e → KeepsVariables live0.objects live1.objects → budget1 ≤ budget0
        → Answers (requests.Efun at efuns.CloneObject) args told live0 stack0 asker budget0 told2 live2 stack2 asker2 budget2 e
    clone_answers told2 live2 stack2 asker2 budget2 e clones home spends = record {
      served = λ front real programs a below h r.
          let q : AsksEfun programs asker at efuns.CloneObject a = r.0 in
          let behind = caller_behind programs a below h q in
          let b = begins q.scene below a.arguments h.lies h.many in
          let t = b.1 (setting told programs live0.outputs) (asker_of a) asker.turn (state_of a) refl behind.fits in
          let y = clones.cloned front real programs live0.outputs (asker_of a) t.0
          (record {
            behind = behind_later (Some at.this) (Some at) told told programs programs live0.outputs live0 live1 asker asker budget0 budget1 (asker_of a) (state_of a) t.0 behind t.1 (grows_same programs) (same_asker asker);
            begun = t.3;
          }) in
          record {
            outcome = outcome_of (plain_end y.end);
            has = efun_has front a efuns.CloneObject q.scene y.end q.scene_is q.what (subst (λ k. Ends front k y.end) (sym t.2) y.ends);
            is = y.is;
            left = y.left ∙ b.0;
          };
      same = clones.same;
      spends = le_trans clones.spends spends;
      home = home_later live0.objects live1.objects live2.objects home clones.home;
      fit = clones.fit;
      there = clones.there;
    }

-- THE CLONE BEGINS, which was made

module _ (at : Place) (job : Making) (told : Option Bytes) (live : Live) (stack : List Value) (asker : Asker) (budget : ℕ) (home : IsSome (variables_at live.objects job.object)) where
  pub clone_can_make : CanClone at (stages.Make job) told live asker budget → CanMake (Some at.this) (Some at) job told live asker budget
  clone_can_make h = record {
    front = h.front;
    real = h.real;
    programs = h.programs;
    before = h.before;
    by = h.by;
    state = h.state;
    making = begins_making (Some at.this) (Some at) job told h.programs h.before live asker budget h.by h.state h.stands.behind h.stands.begun home;
  }

  pub clone_made : (told1 : Option Bytes) (live1 : Live) (stack1 : List Value) (asker1 : Asker) (budget1 : ℕ) (e answer : Ending) → Makes (Some at.this) (Some at) job told live stack asker budget told1 live1 stack1 asker1 budget1 e → ClonedAs e answer → answer ≡ e
      → Clones at (stages.Make job) told live stack asker budget told1 live1 stack1 asker1 budget1 answer
  clone_made told1 live1 stack1 asker1 budget1 e answer makes cloned same = record {
    cloned = λ front real programs before by s w.
        let y = makes.made front real programs before by s (begins_making (Some at.this) (Some at) job told programs before live asker budget by s w.behind w.begun home) in
        let z = cloned front y.is.programs (making.course_of job by s) y.end y.ends (reply_end y.is.programs e y.end y.is.answer) in
        record {
          end = z.0;
          ends = z.1;
          is = value_outcome told1 programs y.is.programs before live1 asker1 budget1 answer z.0 y.is.grown (subst (Fits (setting told1 y.is.programs before) live1 asker1.turn budget1) (sym z.3) (is_at told1 programs before live1 asker1 budget1 e y.end y.is)) z.2;
          left = y.left;
        };
    same = makes.same;
    spends = makes.spends;
    home = makes.home;
    fit = makes.fit;
    there = subst (IsEndingThere live1.cells) (sym same) makes.there;
  }

-- THE BLUEPRINT IS LOADED

module _ (at : Place) (name : String _) (told : Option Bytes) (live : Live) (stack : List Value) (asker : Asker) (budget : ℕ) where
  pub clone_can_load : CanClone at (stages.Load name) told live asker budget → CanLoad (Some at.this) (Some at) told live asker budget
  clone_can_load h = record { front = h.front; real = h.real; programs = h.programs; before = h.before; by = h.by; state = h.state; behind = h.stands.behind }

  module _ (through : LoadsThrough) (told1 : Option Bytes) (live1 : Live) (stack1 : List Value) (asker1 : Asker) (budget1 : ℕ) (r : Answer)
      (loads : Loads (Some at.this) (Some at) (chars (string_bytes name)) purposes.Wanted told live stack asker budget told1 live1 stack1 asker1 budget1 r) where
    module _ (front : FrontEnd) (real : IsFrontEnd front) (programs : List RawProgram) (before : List Out) (by : meaning.Asker) (s : State) (w : IsCloning at (stages.Load name) told programs before live asker budget by s) where
      abbrev load_ask : Ask
      load_ask = question (Load (chars (string_bytes name)) course.Wanted) [] by s

      given : LoadEnds front (load_course (chars (string_bytes name)) purposes.Wanted by s) told1 programs live.outputs live1 stack1 stack asker1 budget1 r
      given = loads.loaded front real programs before by s w.behind

      abbrev reply : End Reply
      reply = end_after s given.end

      abbrev value : End Value
      value = loaded_end (chars (string_bytes name)) reply

      has : Has front load_ask (outcome_of given.end)
      has = has_of front load_ask (load_call load_ask (chars (string_bytes name)) course.Wanted) given.end refl given.ends

      loaded_ends : Ends front (load_value by (chars (string_bytes name)) s) value
      loaded_ends =
          asks_ends front load_ask (λ o. and_then (Over (end_of_reply o.answer (after s o))) (λ r s. loaded_value (chars (string_bytes name)) r s)) (outcome_of given.end) value has (outcomes_can_be front load_ask (outcome_of given.end) has)
          (subst (λ k. Ends front k value) (sym (loaded_over (chars (string_bytes name)) reply)) (over_ends front value))

      at_reply : IsAt (setting told1 given.programs before) live1 asker1.turn budget1 (state_in reply)
      at_reply = at_after told1 given.programs before live live1 asker1.turn budget1 s given.end w.behind.fits.at.outputs given.at

      at_value : Fits (setting told1 given.programs before) live1 asker1.turn budget1 (state_at value)
      at_value = subst (Fits (setting told1 given.programs before) live1 asker1.turn budget1) (sym (loaded_state (chars (string_bytes name)) reply)) at_reply

      is_value : IsValueEnd given.programs (loaded_ending (chars (string_bytes name)) r) value
      is_value = loaded_is given.programs (chars (string_bytes name)) r reply (answer_after given.programs r s given.end given.answer)

      through_it : (f : End Value) → Ends front (loaded_rest by (chars (string_bytes name)) value) f → Ends front (course_of (stages.Load name) by s) f
      through_it f h = through front (chars (string_bytes name)) by s value f loaded_ends h

    -- the state stands for some world then
    pub clone_load_stands : CanClone at (stages.Load name) told live asker budget → StandsForOne told1 live1
    clone_load_stands h = let y = given h.front h.real h.programs h.before h.by h.state h.stands in (y.programs, (state_in y.end).world, y.at.at.stands)

    -- that ends it, ..
    pub clone_load_ends : (answer : Ending) (live2 : Live) → LoadedAs (begun.Ends answer) (chars (string_bytes name)) (loaded_ending (chars (string_bytes name)) r) told1 live1 live2 → KeepsVariables live1.objects live2.objects → IsFit live2 stack1 → IsEndingThere live2.cells answer
        → Clones at (stages.Load name) told live stack asker budget told1 live2 stack1 asker1 budget1 answer
    clone_load_ends answer live2 loaded home fit there = record {
      cloned = λ front real programs before by s w.
          let y = given front real programs before by s w in
          let x = loaded (setting told1 y.programs before) by asker1.turn budget1 (value front real programs before by s w) refl (at_value front real programs before by s w) (is_value front real programs before by s w) in
          record {
            end = x.end;
            ends = through_it front real programs before by s w x.end (subst (λ k. Ends front k x.end) (sym x.over) (over_ends front x.end));
            is = value_outcome told1 programs y.programs before live2 asker1 budget1 answer x.end y.grown x.fits x.is;
            left = y.left;
          };
      same = loads.same;
      spends = loads.spends;
      home = home_later live.objects live1.objects live2.objects loads.home home;
      fit = fit;
      there = there;
    }

    -- .. or the clone was made, and begins.
    module _ (job : Making) (live2 : Live) (loaded : LoadedAs (begun.Runs (stages.Make job)) (chars (string_bytes name)) (loaded_ending (chars (string_bytes name)) r) told1 live1 live2) where
      module _ (front : FrontEnd) (real : IsFrontEnd front) (programs : List RawProgram) (before : List Out) (by : meaning.Asker) (s : State) (w : IsCloning at (stages.Load name) told programs before live asker budget by s) where
        abbrev run : List RawProgram
        run = (given front real programs before by s w).programs

        goes_on : (t : State) × Fits (setting told1 run before) live2 asker1.turn budget1 t × (loaded_rest by (chars (string_bytes name)) (value front real programs before by s w) ≡ course_of (stages.Make job) by t) × IsAtBeginning (stages.Make job) t
        goes_on = loaded (setting told1 run before) by asker1.turn budget1 (value front real programs before by s w) refl (at_value front real programs before by s w) (is_value front real programs before by s w)

        stands_so : IsCloning at (stages.Make job) told1 run before live2 asker1 budget1 by goes_on.0
        stands_so = record {
          behind = behind_later (Some at.this) (Some at) told told1 programs run before live live2 asker asker1 budget budget1 by s goes_on.0 w.behind goes_on.1 (given front real programs before by s w).grown loads.same;
          begun = goes_on.3;
        }

      pub clone_load_can : CanClone at (stages.Load name) told live asker budget → CanClone at (stages.Make job) told1 live2 asker1 budget1
      clone_load_can h = record {
        front = h.front;
        real = h.real;
        programs = run h.front h.real h.programs h.before h.by h.state h.stands;
        before = h.before;
        by = h.by;
        state = (goes_on h.front h.real h.programs h.before h.by h.state h.stands).0;
        stands = stands_so h.front h.real h.programs h.before h.by h.state h.stands;
      }

      pub clone_load_goes : (told3 : Option Bytes) (live3 : Live) (stack3 : List Value) (asker3 : Asker) (budget3 : ℕ) (answer : Ending) → Clones at (stages.Make job) told1 live2 stack1 asker1 budget1 told3 live3 stack3 asker3 budget3 answer → KeepsVariables live1.objects live2.objects
          → Clones at (stages.Load name) told live stack asker budget told3 live3 stack3 asker3 budget3 answer
      clone_load_goes told3 live3 stack3 asker3 budget3 answer clones home = record {
        cloned = λ front real programs before by s w.
            let y = given front real programs before by s w in
            let t = goes_on front real programs before by s w in
            let z = clones.cloned front real y.programs before by t.0 (stands_so front real programs before by s w) in
            record {
              end = z.end;
              ends = through_it front real programs before by s w z.end (subst (λ k. Ends front k z.end) (sym t.2) z.ends);
              is = outcome_grown told3 programs y.programs before live3 asker3 budget3 answer (outcome_of (plain_end z.end)) y.grown z.is;
              left = z.left ∙ y.left;
            };
        same = same_later asker asker1 asker3 loads.same clones.same;
        spends = le_trans clones.spends loads.spends;
        home = home_later live.objects live1.objects live3.objects loads.home (home_later live1.objects live2.objects live3.objects home clones.home);
        fit = clones.fit;
        there = clones.there;
      }
