-- Loads: how they begin, from one question to the next, and to their end.
use Rattle.std.proofs.Common.{◌≡◌, ◌∙◌, ◌++◌, ◌∷◌, [], ◌+◌, ◌<◌, ◌≤◌, ℕ, zero, suc, List, Option, None, Bool, true, false, refl, ap, sym, subst, map, append-nil, append_assoc, arith}
use Rattle.std.specs.Prelude.{IsSome, reverse}
use Rattle.std.specs.Option.{option_to_list}
use Rattle.std.proofs.Math.Nat.{le_refl, le_trans}
use Rattle.std.proofs.lemmas.List.{reverse-append}
use Rattle.lp_values.specs.declared.id.ObjId.{ObjId}
use Rattle.lp_values.specs.declared.value.Value.{Value}
use Rattle.lp_cells.specs.Cells.{Store}
use Rattle.lp_code.specs.declared.program.RawProgram.{RawProgram}
use Rattle.lp_events.specs.declared.out.Out.{Out}
use Rattle.lp_swapfile.specs.Device.{Bytes}
use Rattle.lp_language.specs.Course as course
use Rattle.lp_language.specs.Course.{Ask, Asks, CanAnswer, Course, End, Gives, IsFaulty, IsSound, Load, Over, Plain, Reply, Spent, State, Stops, WasRead, after, end_of_reply, here, outcome_of}
use Rattle.lp_meaning.specs.Askers as meaning
use Rattle.lp_meaning.specs.Askers.{asker_of, question, state_of}
use Rattle.lp_meaning.specs.Closing.{Ends, Has}
use Rattle.lp_meaning.specs.FrontEnd.{FrontEnd}
use Rattle.lp_meaning.specs.FileLoads.{load_call, under_way}
use Rattle.lp_meaning.proofs.Kept.{outcomes_can_be}
use Rattle.lp_front_end.specs.FrontEnds.{IsFrontEnd}
use Rattle.lp_world.specs.declared.live.Live.{Live}
use Rattle.lp_world.specs.Rows.{variables_at}
use Rattle.lp_step.specs.Steps.{IsFit, KeepsVariables}
use Rattle.lp_run.proofs.Together.{home_later, home_same}
use Rattle.lp_asking.specs.declared.asker.Asker.{Asker}
use Rattle.lp_asking.specs.declared.asker.Loading.{Loading}
use Rattle.lp_asking.specs.declared.ending.Cause.TheVariants as causes
use Rattle.lp_asking.specs.declared.ending.Ending.{Ending}
use Rattle.lp_asking.specs.declared.ending.Ending.TheVariants as endings
use Rattle.lp_asking.specs.declared.ending.Place.{Place}
use Rattle.lp_asking.specs.Asking.{loading_of}
use Rattle.lp_asking.specs.Endings.{IsAnswer, IsEndingThere}
use Rattle.lp_asking.proofs.Courses.{asks_ends, has_of, over_ends}
use Rattle.lp_beginning.specs.declared.job.Making.{Making}
use Rattle.lp_loading.specs.declared.job.Answer.{Answer}
use Rattle.lp_loading.specs.declared.job.Answer.TheVariants as answers
use Rattle.lp_loading.specs.declared.job.Fed.{Fed}
use Rattle.lp_loading.specs.declared.job.Fed.TheVariants as fed
use Rattle.lp_loading.specs.declared.job.Going.{Going}
use Rattle.lp_loading.specs.declared.job.Going.TheVariants as goings
use Rattle.lp_loading.specs.declared.job.LoadJob.{LoadJob}
use Rattle.lp_loading.specs.declared.job.Purpose.{Purpose}
use Rattle.lp_loading.specs.declared.job.Purpose.TheVariants as purposes
use Rattle.lp_loading.specs.declared.job.Step.TheVariants as steps
use Rattle.lp_loading.specs.declared.job.Waiting.{Waiting}
use Rattle.lp_loading.specs.Going.{FedTo, HasAsked, HasBegun, HasMade, HasSpent, IsAnswerOf, IsAnswerThere, IsAt, IsEndAt, Takes, setting, state_in}
use Rattle.lp_loading.specs.Loads.{IsUnderWay, going_course, kind_of, loads_of, waiting_course}
use Rattle.lp_loading.specs.Present.{HasWorld}
use Rattle.lp_loading.specs.Steps.{IsSameLoad, answer_of}
use Rattle.lp_efuns.specs.declared.caller.Turn.{Turn}
use Rattle.lp_efuns.specs.Turns.{command_of}
use Rattle.lp_vm.specs.Answering.{IsSameAsker}
use Rattle.lp_vm.specs.Going.{IsOutcome}
use Rattle.lp_vm.specs.Growing.{Grows}
use Rattle.lp_vm.specs.Loading.{BeginsLoad, CanLoad, CanLoadOn, CannotPay, IsLoading, IsPaidFor, LeadsOn, LoadContinues, LoadEnds, LoadGoesOn, Loads, LoadsOn, load_course}
use Rattle.lp_vm.specs.Making.{CanMake, IsBehind, IsMaking, Makes}
use Rattle.lp_vm.proofs.Grown.{grows_same, grows_trans}
use Rattle.lp_vm.proofs.MakingBegins.{begins_making}
use Rattle.lp_vm.proofs.Places.{asks_still}
use Rattle.lp_vm.proofs.Startings.{asker_too, same_asker, same_later}

-- Ends, as they are in the state of who asked

-- an outcome's state is one for which the live state stands
pub is_at : (told : Option Bytes) (old : List RawProgram) (before : List Out) (live : Live) (asker : Asker) (budget : ℕ) (e : Ending) (x : End Reply) (i : IsOutcome told old before live asker budget e (outcome_of x))
    → IsAt (setting told i.programs before) live asker.turn budget (state_in x)
is_at told old before live asker budget e (Gives r s) i = record { at = record { stands = i.world.stands; left = sym i.left; outputs = i.outputs; player = i.player; commands = i.commands }; world = i.world }
is_at told old before live asker budget e (Stops x s) i = record { at = record { stands = i.world.stands; left = sym i.left; outputs = i.outputs; player = i.player; commands = i.commands }; world = i.world }

-- and how a job ended is the answer
is_answer : (programs : List RawProgram) (e : Ending) (x : End Reply) → IsAnswer programs (outcome_of x).world e (outcome_of x).answer → IsAnswerOf programs (answer_of e) x
is_answer programs (endings.Value v) (Gives (Plain u) s) h = h
is_answer programs (endings.Value v) (Gives (WasRead items pragmas) s) h = absurd h
is_answer programs (endings.Value v) (Gives IsSound s) h = absurd h
is_answer programs (endings.Value v) (Gives (IsFaulty faults) s) h = absurd h
is_answer programs (endings.Value v) (Stops x s) h = absurd h
is_answer programs (endings.Stopped stop) (Gives r s) h = absurd h
is_answer programs (endings.Stopped stop) (Stops x s) h = h

pub answer_there : (cells : Store) (e : Ending) → IsEndingThere cells e → IsAnswerThere cells (answer_of e)
answer_there cells (endings.Value v) h = h
answer_there cells (endings.Stopped stop) h = h

-- the end of a question, in the state of who asked
abbrev pub end_after : State → End Reply → End Reply
end_after s x = end_of_reply (outcome_of x).answer (after s (outcome_of x))

pub answer_after : (programs : List RawProgram) (r : Answer) (s : State) (x : End Reply) → IsAnswerOf programs r x → IsAnswerOf programs r (end_after s x)
answer_after programs (answers.Value v) s (Gives (Plain u) t) h = h
answer_after programs (answers.Value v) s (Gives (WasRead items pragmas) t) h = absurd h
answer_after programs (answers.Value v) s (Gives IsSound t) h = absurd h
answer_after programs (answers.Value v) s (Gives (IsFaulty faults) t) h = absurd h
answer_after programs (answers.Value v) s (Stops x t) h = absurd h
answer_after programs (answers.Faulty fs) s (Gives (Plain u) t) h = absurd h
answer_after programs (answers.Faulty fs) s (Gives (WasRead items pragmas) t) h = absurd h
answer_after programs (answers.Faulty fs) s (Gives IsSound t) h = absurd h
answer_after programs (answers.Faulty fs) s (Gives (IsFaulty faults) t) h = h
answer_after programs (answers.Faulty fs) s (Stops x t) h = absurd h
answer_after programs (answers.Stopped stop) s (Gives r t) h = absurd h
answer_after programs (answers.Stopped stop) s (Stops x t) h = h

pub at_after : (told : Option Bytes) (programs : List RawProgram) (before : List Out) (live1 live2 : Live) (turn : Turn) (budget : ℕ) (s : State) (x : End Reply) → live1.outputs ≡ before ++ s.outputs → IsAt (setting told programs live1.outputs) live2 turn budget (state_in x)
    → IsAt (setting told programs before) live2 turn budget (state_in (end_after s x))
at_after told programs before live1 live2 turn budget s (Gives r t) o h = record {
  at = record { stands = h.at.stands; left = h.at.left; outputs = h.at.outputs ∙ ap (λ l. l ++ t.outputs) o ∙ append_assoc before s.outputs t.outputs; player = h.at.player; commands = h.at.commands };
  world = h.world;
}
at_after told programs before live1 live2 turn budget s (Stops x t) o h = record {
  at = record { stands = h.at.stands; left = h.at.left; outputs = h.at.outputs ∙ ap (λ l. l ++ t.outputs) o ∙ append_assoc before s.outputs t.outputs; player = h.at.player; commands = h.at.commands };
  world = h.world;
}

-- Turns: a stop leaves nothing to do, so that it does not matter how many are left

abbrev turns_for : Answer → ℕ → ℕ → ℕ
turns_for (answers.Value v) turns budget = turns
turns_for (answers.Faulty fs) turns budget = turns
turns_for (answers.Stopped stop) turns budget = suc budget

turns_enough : (r : Answer) (turns budget0 budget1 : ℕ) → budget0 ≤ turns → IsPaidFor r budget0 budget1 → budget1 < turns_for r turns budget1
turns_enough (answers.Value v) turns budget0 budget1 h p = omega (arith, h, p)
turns_enough (answers.Faulty fs) turns budget0 budget1 h p = omega (arith, h, p)
turns_enough (answers.Stopped stop) turns budget0 budget1 h p = omega arith

same_waiting : (programs : List RawProgram) (r : Answer) (turns budget : ℕ) (job : LoadJob) (waiting : Waiting) (by : meaning.Asker) (e : End Reply) → IsAnswerOf programs r e → waiting_course (turns_for r turns budget) job waiting by e ≡ waiting_course turns job waiting by e
same_waiting programs (answers.Value v) turns budget job waiting by e h = refl
same_waiting programs (answers.Faulty fs) turns budget job waiting by e h = refl
same_waiting programs (answers.Stopped stop) turns budget job waiting by (Gives r s) h = absurd h
same_waiting programs (answers.Stopped stop) turns budget job waiting by (Stops x s) h = refl

abbrev is_over : Course Reply → Bool
is_over (Over e) = true
is_over (Asks a k) = false

reads_on : (n : ℕ) (job : LoadJob) (by : meaning.Asker) (s : State) → is_over (going_course (suc n) job goings.Read by s) ≡ false
reads_on n job by s = refl

stop_goes : (left budget : ℕ) (job : LoadJob) (by : meaning.Asker) (x : course.Stop) (s : State) → budget < left → Over (Stops x s) ≡ going_course left job goings.Read by s → ⊥
stop_goes zero budget job by x s l is = absurd (omega (arith, l))
stop_goes (suc n) budget job by x s l is = let e : true ≡ false = ap is_over is ∙ reads_on n job by s in absurd (cc)

-- what reads its file behind an answer was paid for
paid_behind : (programs : List RawProgram) (r : Answer) (e : End Reply) (turns left budget0 budget1 : ℕ) (job0 job1 : LoadJob) (waiting : Waiting) (by : meaning.Asker) → IsAnswerOf programs r e → IsPaidFor r budget0 budget1 → budget1 < left
    → waiting_course turns job0 waiting by e ≡ going_course left job1 goings.Read by (state_in e) → budget1 + 1000 ≤ budget0
paid_behind programs (answers.Value v) e turns left budget0 budget1 job0 job1 waiting by a p l is = p
paid_behind programs (answers.Faulty fs) e turns left budget0 budget1 job0 job1 waiting by a p l is = p
paid_behind programs (answers.Stopped stop) (Gives r s) turns left budget0 budget1 job0 job1 waiting by a p l is = absurd a
paid_behind programs (answers.Stopped stop) (Stops x s) turns left budget0 budget1 job0 job1 waiting by a p l is = absurd (stop_goes left budget1 job1 by x s l is)

-- Who asks

-- it is still the innermost load
under_still : (job0 job1 : LoadJob) (loads0 loads1 : List Loading) (by : meaning.Asker) → job1.name ≡ job0.name → job1.nested ≡ job0.nested → loads1 ≡ loads0 → IsUnderWay job0 loads0 by → IsUnderWay job1 loads1 by
under_still job0 job1 loads0 loads1 by name nested same h =
    (h.0, h.1 ∙ sym (ap (λ n. under_way h.0 n job1.nested) name ∙ ap (λ n. under_way h.0 job0.name n) nested), h.2 ∙ sym (ap loads_of same))

-- who asks is behind something in a later state, ..
pub behind_later : (caller : Option ObjId) (at : Option Place) (told0 told1 : Option Bytes) (old new : List RawProgram) (before : List Out) (live0 live1 : Live) (asker0 asker1 : Asker) (budget0 budget1 : ℕ) (by : meaning.Asker) (s t : State)
    → IsBehind caller at told0 old before live0 asker0 budget0 by s → IsAt (setting told1 new before) live1 asker1.turn budget1 t → Grows old new → IsSameAsker asker0 asker1 → IsBehind caller at told1 new before live1 asker1 budget1 by t
behind_later caller at told0 told1 old new before live0 live1 asker0 asker1 budget0 budget1 by s t h i grown same = record {
  fits = i;
  interactive = h.interactive ∙ sym same.interactive;
  loads = h.loads ∙ ap (λ l. map loading_of (reverse l)) (sym same.loads);
  callers = h.callers ∙ ap (λ l. reverse (l ++ option_to_list caller)) (sym same.callers);
  depth = h.depth ∙ ap (λ n. n + 1) (sym same.depth);
  place = asks_still old new at by.scene grown h.place;
}

-- ONE STEP

pub load_world : (caller : Option ObjId) (at : Option Place) (job : LoadJob) (told : Option Bytes) (live : Live) (asker : Asker) (budget : ℕ) → CanLoadOn caller at job told live asker budget → HasWorld told live
load_world caller at job told live asker budget h = record { programs = h.programs; world = h.state.world; is = h.loading.behind.fits.world }

module _ (caller : Option ObjId) (at : Option Place) (job : LoadJob) (going : Going) (told0 told1 : Option Bytes) (live0 live1 : Live) (stack : List Value) (asker : Asker) (budget : ℕ) where
  -- It ends.
  pub load_ended : (a : Answer) → LeadsOn (steps.Ends a) job going asker.loads.items told0 live0 told1 live1 → KeepsVariables live0.objects live1.objects → IsFit live1 stack → CanLoadOn caller at job told0 live0 asker budget
      → LoadsOn caller at job going told0 live0 stack asker budget told1 live1 stack asker budget a
  load_ended a leads home fit can = record {
    loaded = λ front real programs before by s turns w.
        let h = leads budget asker.turn front programs before by s turns real w.behind.fits w.under w.enough in
        record { end = h.0.end; ends = h.0.ends; programs = h.0.programs; grown = h.0.grown; at = h.0.is.at; answer = h.0.is.answer; left = refl };
    same = same_asker asker;
    spends = le_refl budget;
    home = home;
    fit = fit;
    there = (leads budget asker.turn can.front can.programs can.before can.by can.state can.turns can.real can.loading.behind.fits can.loading.under can.loading.enough).1;
  }

  -- Its object was made.
  module _ (making : Making) (leads : LeadsOn (steps.Makes making) job going asker.loads.items told0 live0 told1 live1) (home : IsSome (variables_at live1.objects making.object)) where
    module _ (front : FrontEnd) (real : IsFrontEnd front) (programs : List RawProgram) (before : List Out) (by : meaning.Asker) (s : State) (turns : ℕ) (w : IsLoading caller at job told0 programs before live0 asker budget by s turns) where
      made_by : HasMade front making (going_course turns job going by s) programs told1 before live1 asker.turn budget by
      made_by = leads budget asker.turn front programs before by s turns real w.behind.fits w.under w.enough

      is_making : IsMaking caller at making told1 made_by.programs before live1 asker budget by made_by.state
      is_making =
          begins_making caller at making told1 made_by.programs before live1 asker budget by made_by.state
          (behind_later caller at told0 told1 programs made_by.programs before live0 live1 asker asker budget budget by s made_by.state w.behind made_by.at made_by.grown (same_asker asker)) made_by.parts home

    pub load_can_make : CanLoadOn caller at job told0 live0 asker budget → CanMake caller at making told1 live1 asker budget
    load_can_make h =
        let x = made_by h.front h.real h.programs h.before h.by h.state h.turns h.loading in
        record { front = h.front; real = h.real; programs = x.programs; before = h.before; by = h.by; state = x.state; making = is_making h.front h.real h.programs h.before h.by h.state h.turns h.loading }

    pub load_made : (told2 : Option Bytes) (live2 : Live) (stack2 : List Value) (asker2 : Asker) (budget2 : ℕ) (e : Ending) → Makes caller at making told1 live1 stack asker budget told2 live2 stack2 asker2 budget2 e → KeepsVariables live0.objects live1.objects
        → LoadsOn caller at job going told0 live0 stack asker budget told2 live2 stack2 asker2 budget2 (answer_of e)
    load_made told2 live2 stack2 asker2 budget2 e makes keeps = record {
      loaded = λ front real programs before by s turns w.
          let h = made_by front real programs before by s turns w in
          let y = makes.made front real h.programs before by h.state (is_making front real programs before by s turns w) in
          record {
            end = y.end;
            ends = h.ends y.end y.ends;
            programs = y.is.programs;
            grown = grows_trans programs h.programs y.is.programs h.grown y.is.grown;
            at = is_at told2 h.programs before live2 asker2 budget2 e y.end y.is;
            answer = is_answer y.is.programs e y.end y.is.answer;
            left = y.left;
          };
      same = makes.same;
      spends = makes.spends;
      home = home_later live0.objects live1.objects live2.objects keeps makes.home;
      fit = makes.fit;
      there = answer_there live2.cells e makes.there;
    }

  -- It asks.
  module _ (name : List ℕ) (waiting : Waiting) (leads : LeadsOn (steps.Asks name waiting) job going asker.loads.items told0 live0 told1 live1) where
    module _ (front : FrontEnd) (real : IsFrontEnd front) (programs : List RawProgram) (before : List Out) (by : meaning.Asker) (s : State) (turns : ℕ) (w : IsLoading caller at job told0 programs before live0 asker budget by s turns) where
      asked : HasAsked front name waiting job (going_course turns job going by s) programs told1 before live1 asker.turn budget by
      asked = leads budget asker.turn front programs before by s turns real w.behind.fits w.under w.enough

      asks_so : IsBehind caller at told1 asked.programs before live1 asker budget by asked.state
      asks_so = behind_later caller at told0 told1 programs asked.programs before live0 live1 asker asker budget budget by s asked.state w.behind asked.at asked.grown (same_asker asker)

      abbrev the_ask : Ask
      the_ask = question (Load name course.Inherited) [] by asked.state

      -- What an answer leads to
      module _ (told2 : Option Bytes) (live2 : Live) (stack2 : List Value) (asker2 : Asker) (budget2 : ℕ) (r : Answer) (loads : Loads caller at name purposes.Inherited told1 live1 stack asker budget told2 live2 stack2 asker2 budget2 r) where
        inner : LoadEnds front (load_course name purposes.Inherited by asked.state) told2 asked.programs live1.outputs live2 stack2 stack asker2 budget2 r
        inner = loads.loaded front real asked.programs before by asked.state asks_so

        abbrev end : End Reply
        end = end_after asked.state inner.end

        has : Has front the_ask (outcome_of inner.end)
        has = has_of front the_ask (load_call the_ask name course.Inherited) inner.end refl inner.ends

        can_be : CanAnswer the_ask (outcome_of inner.end)
        can_be = outcomes_can_be front the_ask (outcome_of inner.end) has

        is_end : IsEndAt (setting told2 inner.programs before) r live2 asker2.turn budget2 end
        is_end = record { answer = answer_after inner.programs r asked.state inner.end inner.answer; at = at_after told2 inner.programs before live1 live2 asker2.turn budget2 asked.state inner.end asked.at.at.outputs inner.at }

        abbrev turns_then : ℕ
        turns_then = turns_for r asked.turns budget2

        -- what is left behind the answer, the whole course ends with
        back_by : (c : Course Reply) (x : End Reply) → waiting_course turns_then job waiting by end ≡ c → Ends front c x → Ends front (going_course turns job going by s) x
        back_by c x is h =
            let same = same_waiting inner.programs r asked.turns budget2 job waiting by end is_end.answer in
            asked.ends x (asks_ends front the_ask (λ o. waiting_course asked.turns job waiting by (end_of_reply o.answer (after asked.state o))) (outcome_of inner.end) x has can_be (subst (λ k. Ends front k x) (sym is ∙ same) h))

        taken : (f : Fed) (job3 : LoadJob) → ((told : Option Bytes) (turn : Turn) (b : ℕ) → Takes f job waiting r told live2 job3 turn b) → FedTo front f job waiting turns_then by end told2 inner.programs before job3 live2 asker2.turn budget2
        taken f job3 takes = takes told2 asker2.turn budget2 front inner.programs before by turns_then end is_end (turns_enough r asked.turns budget budget2 asked.enough loads.paid)

        grew : Grows programs inner.programs
        grew = grows_trans programs asked.programs inner.programs asked.grown inner.grown

        goes_on : (next : Going) (job3 : LoadJob) → ((told : Option Bytes) (turn : Turn) (b : ℕ) → Takes (fed.Goes next) job waiting r told live2 job3 turn b) → IsSameLoad job job3
            → LoadGoesOn front caller at (going_course turns job going by s) job3 next told2 programs before live2 asker2 budget2 by
        goes_on next job3 takes same =
            let k = taken (fed.Goes next) job3 takes in
            record {
              programs = inner.programs;
              grown = grew;
              state = state_in end;
              turns = k.1.left;
              loading = record {
                behind = behind_later caller at told0 told2 programs inner.programs before live0 live2 asker asker2 budget budget2 by s (state_in end) w.behind k.0 grew loads.same;
                under = under_still job job3 asker.loads.items asker2.loads.items by (ap (λ (j : LoadJob). j.name) same) (ap (λ (j : LoadJob). j.nested) same) loads.same.loads w.under;
                enough = k.1.enough;
              };
              back = λ x l. back_by (going_course k.1.left job3 next by (state_in end)) x k.1.course l;
            }

        ends : (a : Answer) (job3 : LoadJob) → ((told : Option Bytes) (turn : Turn) (b : ℕ) → Takes (fed.Ends a) job waiting r told live2 job3 turn b) → LoadEnds front (going_course turns job going by s) told2 programs before live2 stack2 stack asker2 budget2 a
        ends a job3 takes =
            let k = taken (fed.Ends a) job3 takes in
            record {
              end = k.end;
              ends = back_by (waiting_course turns_then job waiting by end) k.end refl k.ends;
              programs = k.programs;
              grown = grows_trans programs inner.programs k.programs grew k.grown;
              at = k.is.at;
              answer = k.is.answer;
              left = inner.left;
            }

    pub load_can_ask : CanLoadOn caller at job told0 live0 asker budget → CanLoad caller at told1 live1 asker budget
    load_can_ask h =
        let x = asked h.front h.real h.programs h.before h.by h.state h.turns h.loading in
        record { front = h.front; real = h.real; programs = x.programs; before = h.before; by = h.by; state = x.state; behind = asks_so h.front h.real h.programs h.before h.by h.state h.turns h.loading }

    module _ (told2 : Option Bytes) (live2 : Live) (stack2 : List Value) (asker2 : Asker) (budget2 : ℕ) (r : Answer) (loads : Loads caller at name purposes.Inherited told1 live1 stack asker budget told2 live2 stack2 asker2 budget2 r) where
      pub load_lies : CanLoadOn caller at job told0 live0 asker budget → stack2 ≡ stack
      load_lies h = (inner h.front h.real h.programs h.before h.by h.state h.turns h.loading told2 live2 stack2 asker2 budget2 r loads).left

      -- It goes on with the answer, ..
      pub load_goes : (next : Going) (job3 : LoadJob) → ((told : Option Bytes) (turn : Turn) (b : ℕ) → Takes (fed.Goes next) job waiting r told live2 job3 turn b) → IsSameLoad job job3
          → LoadContinues caller at job going told0 live0 asker budget job3 next told2 live2 asker2 budget2
      load_goes next job3 takes same front real programs before by s turns w = goes_on front real programs before by s turns w told2 live2 stack2 asker2 budget2 r loads next job3 takes same

      -- .. with less of the budget, ..
      pub load_paid : (job3 : LoadJob) → CanLoadOn caller at job told0 live0 asker budget → ((told : Option Bytes) (turn : Turn) (b : ℕ) → Takes (fed.Goes goings.Read) job waiting r told live2 job3 turn b) → budget2 + 1000 ≤ budget
      load_paid job3 h takes =
          let x = inner h.front h.real h.programs h.before h.by h.state h.turns h.loading told2 live2 stack2 asker2 budget2 r loads in
          let e = end h.front h.real h.programs h.before h.by h.state h.turns h.loading told2 live2 stack2 asker2 budget2 r loads in
          let k = taken h.front h.real h.programs h.before h.by h.state h.turns h.loading told2 live2 stack2 asker2 budget2 r loads (fed.Goes goings.Read) job3 takes in
          paid_behind x.programs r e (turns_then h.front h.real h.programs h.before h.by h.state h.turns h.loading told2 live2 stack2 asker2 budget2 r loads) k.1.left budget budget2 job job3 waiting h.by
          (is_end h.front h.real h.programs h.before h.by h.state h.turns h.loading told2 live2 stack2 asker2 budget2 r loads).answer loads.paid k.1.enough k.1.course

      -- .. or ends.
      pub load_ends : (a : Answer) (job3 : LoadJob) → ((told : Option Bytes) (turn : Turn) (b : ℕ) → Takes (fed.Ends a) job waiting r told live2 job3 turn b) → KeepsVariables live0.objects live1.objects → IsAnswerThere live2.cells a
          → LoadsOn caller at job going told0 live0 stack asker budget told2 live2 stack2 asker2 budget2 a
      load_ends a job3 takes keeps there = record {
        loaded = λ front real programs before by s turns w. ends front real programs before by s turns w told2 live2 stack2 asker2 budget2 r loads a job3 takes;
        same = loads.same;
        spends = loads.spends;
        home = home_later live0.objects live1.objects live2.objects keeps loads.home;
        fit = loads.fit;
        there = there;
      }

-- One step after another

-- none so far
pub loads_same : (caller : Option ObjId) (at : Option Place) (job : LoadJob) (going : Going) (told : Option Bytes) (live : Live) (asker : Asker) (budget : ℕ) → LoadContinues caller at job going told live asker budget job going told live asker budget
loads_same caller at job going told live asker budget front real programs before by s turns w = record { programs = programs; grown = grows_same programs; state = s; turns = turns; loading = w; back = λ e h. h }

-- one more
pub loads_more : (caller : Option ObjId) (at : Option Place) (job0 job1 job2 : LoadJob) (going0 going1 going2 : Going) (told0 told1 told2 : Option Bytes) (live0 live1 live2 : Live) (asker0 asker1 asker2 : Asker) (budget0 budget1 budget2 : ℕ)
    → LoadContinues caller at job0 going0 told0 live0 asker0 budget0 job1 going1 told1 live1 asker1 budget1 → LoadContinues caller at job1 going1 told1 live1 asker1 budget1 job2 going2 told2 live2 asker2 budget2
    → LoadContinues caller at job0 going0 told0 live0 asker0 budget0 job2 going2 told2 live2 asker2 budget2
loads_more caller at job0 job1 job2 going0 going1 going2 told0 told1 told2 live0 live1 live2 asker0 asker1 asker2 budget0 budget1 budget2 h n front real programs before by s turns w =
    let x = h front real programs before by s turns w in
    let y = n front real x.programs before by x.state x.turns x.loading in
    record { programs = y.programs; grown = grows_trans programs x.programs y.programs x.grown y.grown; state = y.state; turns = y.turns; loading = y.loading; back = λ e l. x.back e (y.back e l) }

-- it can go on
pub can_load_on : (caller : Option ObjId) (at : Option Place) (job0 job1 : LoadJob) (going0 going1 : Going) (told0 told1 : Option Bytes) (live0 live1 : Live) (asker0 asker1 : Asker) (budget0 budget1 : ℕ) → CanLoadOn caller at job0 told0 live0 asker0 budget0
    → LoadContinues caller at job0 going0 told0 live0 asker0 budget0 job1 going1 told1 live1 asker1 budget1 → CanLoadOn caller at job1 told1 live1 asker1 budget1
can_load_on caller at job0 job1 going0 going1 told0 told1 live0 live1 asker0 asker1 budget0 budget1 h n =
    let x = n h.front h.real h.programs h.before h.by h.state h.turns h.loading in
    record { front = h.front; real = h.real; programs = x.programs; before = h.before; by = h.by; state = x.state; turns = x.turns; loading = x.loading }

-- and the end
pub loads_later : (caller : Option ObjId) (at : Option Place) (job0 job1 : LoadJob) (going0 going1 : Going) (told0 told1 told2 : Option Bytes) (live0 live1 live2 : Live) (stack0 stack1 stack2 : List Value) (asker0 asker1 asker2 : Asker) (budget0 budget1 budget2 : ℕ) (a : Answer)
    → LoadContinues caller at job0 going0 told0 live0 asker0 budget0 job1 going1 told1 live1 asker1 budget1 → stack1 ≡ stack0 → IsSameAsker asker0 asker1 → budget1 ≤ budget0 → KeepsVariables live0.objects live1.objects
    → LoadsOn caller at job1 going1 told1 live1 stack1 asker1 budget1 told2 live2 stack2 asker2 budget2 a → LoadsOn caller at job0 going0 told0 live0 stack0 asker0 budget0 told2 live2 stack2 asker2 budget2 a
loads_later caller at job0 job1 going0 going1 told0 told1 told2 live0 live1 live2 stack0 stack1 stack2 asker0 asker1 asker2 budget0 budget1 budget2 a goes lies same spends home h = record {
  loaded = λ front real programs before by s turns w.
      let x = goes front real programs before by s turns w in
      let y = h.loaded front real x.programs before by x.state x.turns x.loading in
      record { end = y.end; ends = x.back y.end y.ends; programs = y.programs; grown = grows_trans programs x.programs y.programs x.grown y.grown; at = y.at; answer = y.answer; left = y.left ∙ lies };
  same = same_later asker0 asker1 asker2 same h.same;
  spends = le_trans h.spends spends;
  home = home_later live0.objects live1.objects live2.objects home h.home;
  fit = h.fit;
  there = h.there;
}

-- THE WHOLE LOAD

-- the loads under way, with one more
loads_with : (ls : List Loading) (l : Loading) → loads_of (ls ++ l ∷ []) ≡ loading_of l ∷ loads_of ls
loads_with ls l = ap (map loading_of) (reverse-append ls (l ∷ []))

-- it begins, once the load is the innermost under way, ..
pub load_began : (job : LoadJob) (name : List ℕ) (purpose : Purpose) (asker0 asker1 : Asker) (budget0 budget1 : ℕ) → ((a : Ask) → a.budget ≡ budget0 → a.loads ≡ loads_of asker0.loads.items → HasBegun job name purpose asker0.loads.items a budget1) → budget0 ≡ budget1 + 1000
    → asker1 ≡ record asker0 { loads = asker1.loads } → asker1.loads.items ≡ asker0.loads.items ++ record { name = name; nested = job.nested } ∷ [] → BeginsLoad job name purpose asker0 budget0 asker1 budget1
load_began job name purpose asker0 asker1 budget0 budget1 begins paid others items = record {
  load = record {
    turn = ap (λ (z : Asker). z.turn) others;
    interactive = ap (λ (z : Asker). z.interactive) others;
    callers = ap (λ (z : Asker). z.callers.items) others;
    depth = ap (λ (z : Asker). z.depth) others;
    loads = items;
  };
  paid = paid;
  begun = begins;
}

-- .. or its price cannot be paid
pub load_did_not : (name : List ℕ) (purpose : Purpose) (asker : Asker) (budget0 budget1 : ℕ) → ((a : Ask) → a.budget ≡ budget0 → a.loads ≡ loads_of asker.loads.items → HasSpent name purpose a budget1) → budget1 ≡ 0 → CannotPay name purpose asker budget0 asker budget1
load_did_not name purpose asker budget0 budget1 spent none = record { asker = refl; spent = spent; none = none }

module _ (caller : Option ObjId) (at : Option Place) (name : List ℕ) (purpose : Purpose) (told : Option Bytes) (live : Live) (stack : List Value) (asker0 asker1 : Asker) (budget0 budget1 : ℕ) where
  -- its price cannot be paid
  pub load_unpaid : CannotPay name purpose asker0 budget0 asker1 budget1 → IsFit live stack
      → Loads caller at name purpose told live stack asker0 budget0 told live stack asker1 budget1 (answers.Stopped (record { cause = causes.Spent; place = None }))
  load_unpaid h fit = record {
    loaded = λ front real programs before by s w.
        let a : Ask = question (Load name (kind_of purpose)) [] by s in
        let x = h.spent a w.fits.at.left w.loads in
        let end : End Reply = Stops (here Spent) (record (state_of a) { budget = 0 }) in
        record {
          end = end;
          ends = subst (λ c. Ends front c end) (sym x.0) (over_ends front end);
          programs = programs;
          grown = grows_same programs;
          at = record {
            at = record {
              stands = w.fits.at.stands;
              left = sym h.none;
              outputs = sym (append-nil live.outputs);
              player = w.fits.at.player ∙ ap (λ (z : Asker). z.turn.player) (sym h.asker);
              commands = w.fits.at.commands ∙ ap (λ (z : Asker). map command_of (reverse z.turn.commands.items)) (sym h.asker);
            };
            world = w.fits.world;
          };
          answer = record { cause = refl; place = tt };
          left = refl;
        };
    paid = tt;
    same = asker_too asker0 asker1 h.asker;
    spends = omega (arith, h.none);
    home = home_same live.objects;
    fit = fit;
    there = tt;
  }

  module _ (job : LoadJob) (begins : BeginsLoad job name purpose asker0 budget0 asker1 budget1) where
    module _ (programs : List RawProgram) (before : List Out) (by : meaning.Asker) (s : State) (w : IsBehind caller at told programs before live asker0 budget0 by s) where
      abbrev load_ask : Ask
      load_ask = question (Load name (kind_of purpose)) [] by s

      -- who asks then
      abbrev loader : meaning.Asker
      loader = under_way (asker_of load_ask) job.name job.nested

      abbrev paid_state : State
      paid_state = record (state_of load_ask) { budget = budget1 }

      begun : HasBegun job name purpose asker0.loads.items load_ask budget1
      begun = begins.begun load_ask w.fits.at.left w.loads

      loader_loads : loader.loads ≡ loads_of asker1.loads.items
      loader_loads =
          ap (λ n. record { name = n; nested = job.nested } ∷ by.loads) begun.name_is
          ∙ ap (λ l. loading_of (record { name = name; nested = job.nested }) ∷ l) w.loads
          ∙ sym (loads_with asker0.loads.items (record { name = name; nested = job.nested }))
          ∙ sym (ap loads_of begins.load.loads)

      is_loading : IsLoading caller at job told programs live.outputs live asker1 budget1 loader paid_state (suc budget1)
      is_loading = record {
        behind = record {
          fits = record {
            at = record {
              stands = w.fits.at.stands;
              left = refl;
              outputs = sym (append-nil live.outputs);
              player = w.fits.at.player ∙ ap (λ (z : Turn). z.player) (sym begins.load.turn);
              commands = w.fits.at.commands ∙ ap (λ (z : Turn). map command_of (reverse z.commands.items)) (sym begins.load.turn);
            };
            world = w.fits.world;
          };
          interactive = w.interactive ∙ sym begins.load.interactive;
          loads = loader_loads;
          callers = w.callers ∙ ap (λ l. reverse (l ++ option_to_list caller)) (sym begins.load.callers);
          depth = w.depth ∙ ap (λ n. n + 1) (sym begins.load.depth);
          place = w.place;
        };
        under = (asker_of load_ask, refl, loader_loads);
        enough = omega arith;
      }

      course_is : load_course name purpose by s ≡ going_course (suc budget1) job goings.Simul loader paid_state
      course_is = begun.course

    pub load_can_go : CanLoad caller at told live asker0 budget0 → CanLoadOn caller at job told live asker1 budget1
    load_can_go h = record {
      front = h.front;
      real = h.real;
      programs = h.programs;
      before = live.outputs;
      by = loader h.programs h.before h.by h.state h.behind;
      state = paid_state h.programs h.before h.by h.state h.behind;
      turns = suc budget1;
      loading = is_loading h.programs h.before h.by h.state h.behind;
    }

    paid_for : (r : Answer) (budget2 : ℕ) → budget2 ≤ budget1 → IsPaidFor r budget0 budget2
    paid_for (answers.Value v) budget2 h = omega (arith, h, begins.paid)
    paid_for (answers.Faulty fs) budget2 h = omega (arith, h, begins.paid)
    paid_for (answers.Stopped stop) budget2 h = tt

    -- it went to its end, and is under way no more
    pub load_went : (told1 : Option Bytes) (live1 : Live) (stack1 : List Value) (asker2 asker3 : Asker) (budget2 : ℕ) (r : Answer) → LoadsOn caller at job goings.Simul told live stack asker1 budget1 told1 live1 stack1 asker2 budget2 r
        → asker3.turn ≡ asker2.turn → asker3.interactive ≡ asker2.interactive → asker3.callers ≡ asker2.callers → asker3.depth ≡ asker2.depth → ((ls : List Loading) (l : Loading) → asker2.loads.items ≡ ls ++ l ∷ [] → asker3.loads.items ≡ ls)
        → Loads caller at name purpose told live stack asker0 budget0 told1 live1 stack1 asker3 budget2 r
    load_went told1 live1 stack1 asker2 asker3 budget2 r h turn interactive callers depth loads = record {
      loaded = λ front real programs before by s w.
          let y = h.loaded front real programs live.outputs (loader programs before by s w) (paid_state programs before by s w) (suc budget1) (is_loading programs before by s w) in
          record {
            end = y.end;
            ends = subst (λ c. Ends front c y.end) (sym (course_is programs before by s w)) y.ends;
            programs = y.programs;
            grown = y.grown;
            at = subst (λ (z : Turn). IsAt (setting told1 y.programs live.outputs) live1 z budget2 (state_in y.end)) (sym turn) y.at;
            answer = y.answer;
            left = y.left;
          };
      paid = paid_for r budget2 h.spends;
      same = record {
        interactive = interactive ∙ h.same.interactive ∙ begins.load.interactive;
        loads = loads asker0.loads.items (record { name = name; nested = job.nested }) (h.same.loads ∙ begins.load.loads);
        callers = ap (λ ls. ls.items) callers ∙ h.same.callers ∙ begins.load.callers;
        depth = depth ∙ h.same.depth ∙ begins.load.depth;
      };
      spends = omega (arith, h.spends, begins.paid);
      home = h.home;
      fit = h.fit;
      there = h.there;
    }
