-- Objects that were made begin: from one question of their jobs to the next, and to their end.
use Rattle.std.proofs.Common.{◌≡◌, ◌∙◌, ◌++◌, ◌∷◌, [], ◌+◌, ◌≤◌, ℕ, List, Option, Some, None, All, refl, ap, sym, subst, map, append-nil, append_assoc}
use Rattle.std.specs.Prelude.{IfSome, IsSome, reverse}
use Rattle.std.specs.Option.{option_to_list}
use Rattle.std.proofs.Math.Nat.{le_trans}
use Rattle.std.proofs.lemmas.List.Elements.{All-head, All-tail}
use Rattle.lp_values.specs.declared.id.ObjId.{ObjId}
use Rattle.lp_values.specs.declared.value.Value.{Value}
use Rattle.lp_values.specs.declared.value.Value.TheVariants.{Obj}
use Rattle.lp_cells.specs.Cells.{IsThere, Store}
use Rattle.lp_code.specs.declared.program.RawProgram.{RawProgram}
use Rattle.lp_events.specs.declared.out.Out.{Out}
use Rattle.lp_swapfile.specs.Device.{Bytes}
use Rattle.lp_language.specs.World.{Keeps}
use Rattle.lp_language.specs.Course as course
use Rattle.lp_language.specs.Course.{Answer, Ask, Asked, Asks, CanAnswer, Course, End, Gives, Initialise, Outcome, Over, Plain, Reply, Returned, State, Stops, after, end_of_answer, end_of_outcome, outcome_of, zero_value}
use Rattle.lp_language.proofs.Kept.{keeps_same, keeps_trans}
use Rattle.lp_meaning.specs.Askers as meaning
use Rattle.lp_meaning.specs.Askers.{question}
use Rattle.lp_meaning.specs.Closing.{Ends}
use Rattle.lp_meaning.specs.FrontEnd.{FrontEnd}
use Rattle.lp_meaning.specs.FileLoads.{begun_end, logged_cause}
use Rattle.lp_meaning.specs.FunctionCalls.{callers_behind}
use Rattle.lp_meaning.proofs.Kept.{outcomes_can_be}
use Rattle.lp_front_end.specs.FrontEnds.{IsFrontEnd}
use Rattle.lp_world.specs.declared.live.Live.{Live}
use Rattle.lp_world.specs.declared.objects.Object.{Object}
use Rattle.lp_world.specs.Rows.{row_at, variables_at}
use Rattle.lp_step.specs.Steps.{IsFit, KeepsVariables}
use Rattle.lp_run.proofs.Together.{home_later}
use Rattle.lp_asking.specs.declared.asker.Asker.{Asker}
use Rattle.lp_asking.specs.declared.ending.Cause.{Cause}
use Rattle.lp_asking.specs.declared.ending.Cause.TheVariants as causes
use Rattle.lp_asking.specs.declared.ending.Ending.{Ending}
use Rattle.lp_asking.specs.declared.ending.Ending.TheVariants as endings
use Rattle.lp_asking.specs.declared.ending.Place.{Place}
use Rattle.lp_asking.specs.Asking.{IsBy, loading_of}
use Rattle.lp_asking.specs.Endings.{IsAnswer, IsCauseThere, IsEndingThere, cause_of}
use Rattle.lp_asking.proofs.Courses.{asks_ends, over_ends}
use Rattle.lp_reaching.specs.declared.reached.Reached.{Reached}
use Rattle.lp_reaching.specs.Reaching.{IsInMemory, ReachesIf}
use Rattle.lp_beginning.specs.declared.job.Fed.TheVariants as fed
use Rattle.lp_beginning.specs.declared.job.LoadKind.{LoadKind}
use Rattle.lp_beginning.specs.declared.job.LoadKind.TheVariants as kinds
use Rattle.lp_beginning.specs.declared.job.Making.{Making}
use Rattle.lp_beginning.specs.declared.job.Question.{Question}
use Rattle.lp_beginning.specs.declared.job.Question.TheVariants as questions
use Rattle.lp_beginning.specs.Beginning.{Fits, IsInitialised}
use Rattle.lp_beginning.specs.Ends.{IsReplyEnd, IsValueEnd, state_at}
use Rattle.lp_beginning.specs.Feeding.{AsksNext, EndsWith, Feeds, GoesOn, IsLater}
use Rattle.lp_beginning.specs.Jobs.{asked_of, course_of, kind_of, made_from, next_of, parts_left, rest_from, rest_of}
use Rattle.lp_vm.specs.declared.request.Request.TheVariants as requests
use Rattle.lp_vm.specs.Answering.{Answered, CanServe, IsAsked, IsSameAsker, Serves}
use Rattle.lp_vm.specs.Cycle.{Answers}
use Rattle.lp_vm.specs.Going.{IsOutcome}
use Rattle.lp_vm.specs.Growing.{Grows}
use Rattle.lp_vm.specs.Making.{AsksAt, CanAskNext, CanMake, CanReachFor, IsAskedFor, IsMaking, MakeAsks, MakeContinues, Makes, MakesOn, StandsForOne, object_for}
use Rattle.lp_vm.proofs.Answered.{setting}
use Rattle.lp_vm.proofs.Carried.{some_at}
use Rattle.lp_vm.proofs.Grown.{grows_same, grows_trans, outcome_grown}
use Rattle.lp_vm.proofs.Places.{asker_there, asks_still}
use Rattle.lp_vm.proofs.Startings.{same_later}
use Rattle.lp_vm.proofs.Turning.{world_reached}

-- What a course asks first

abbrev asked_first : Course Reply → Option Asked
asked_first (Over e) = None
asked_first (Asks a k) = Some a.what

-- and what follows an outcome of that
abbrev after_outcome : Course Reply → Outcome → Course Reply
after_outcome (Over e) o = Over e
after_outcome (Asks a k) o = k o

end_or : End Reply → Course Reply → End Reply
end_or d (Over e) = e
end_or d (Asks a k) = d

made_asks : (kind : LoadKind) (o : ObjId) (ns : List ℕ) (by : meaning.Asker) (s : State) → asked_first (made_from kind o ns by s) ≡ Some (asked_of (next_of o ns))
made_asks kind o [] by s = refl
made_asks kind o (n ∷ ns) by s = refl

some_asked : (x y : Asked) → Some x ≡ Some y → x ≡ y
some_asked x y e = cc

question_is : (q r : Question) → asked_of q ≡ asked_of r → q ≡ r
question_is (questions.Initialise o n) (questions.Initialise p m) e = cc
question_is (questions.Initialise o n) (questions.Create p) e = absurd (cc)
question_is (questions.Create o) (questions.Initialise p m) e = absurd (cc)
question_is (questions.Create o) (questions.Create p) e = cc

-- the question of a job
next_is : (job : Making) (q : Question) (by : meaning.Asker) (s : State) → AsksNext job q → q ≡ next_of job.object (parts_left job)
next_is job q by s h =
    question_is q (next_of job.object (parts_left job))
    (some_asked (asked_of q) (asked_of (next_of job.object (parts_left job))) (sym (ap asked_first (h by s)) ∙ made_asks job.kind job.object (parts_left job) by s))

object_is : (o : ObjId) (ns : List ℕ) → object_for (next_of o ns) ≡ o
object_is o [] = refl
object_is o (n ∷ ns) = refl

-- What is left of the parts

-- an outcome with nothing changed
abbrev plain_outcome : State → Outcome
plain_outcome s = record { answer = Returned (Plain zero_value); player = s.player; commands = s.commands; world = s.world; budget = s.budget; outputs = [] }

head_is : (o p : ObjId) (n m : ℕ) → Some (Initialise o n) ≡ Some (Initialise p m) → n ≡ m
head_is o p n m e = cc

both_cons : (n m : ℕ) (ns ms : List ℕ) → n ≡ m → ns ≡ ms → n ∷ ns ≡ m ∷ ms
both_cons n m ns ms e f = cc

-- courses that are the same leave the same parts
parts_are : (k0 k1 : LoadKind) (o p : ObjId) (ns ms : List ℕ) (by : meaning.Asker) (s : State) → made_from k0 o ns by s ≡ made_from k1 p ms by s → ns ≡ ms
parts_are k0 k1 o p [] [] by s e = refl
parts_are k0 k1 o p [] (m ∷ ms) by s e = let x : Some (asked_of (next_of o [])) ≡ Some (asked_of (next_of p (m ∷ ms))) = ap asked_first e in absurd (cc)
parts_are k0 k1 o p (n ∷ ns) [] by s e = let x : Some (asked_of (next_of o (n ∷ ns))) ≡ Some (asked_of (next_of p [])) = ap asked_first e in absurd (cc)
parts_are k0 k1 o p (n ∷ ns) (m ∷ ms) by s e =
    both_cons n m ns ms (head_is o p n m (ap asked_first e)) (parts_are k0 k1 o p ns ms by (after s (plain_outcome s)) (ap (λ c. after_outcome c (plain_outcome s)) e))

-- a job that goes on behind its question has one part less
record OneLess (ns ms : List ℕ) : Type 0 where
  part : ℕ
  are : ns ≡ part ∷ ms

over_asks : (e : End Reply) (k : LoadKind) (p : ObjId) (ms : List ℕ) (by : meaning.Asker) (s : State) → Over e ≡ made_from k p ms by s → ⊥
over_asks e k p ms by s h = let x : None ≡ Some (asked_of (next_of p ms)) = ap asked_first h ∙ made_asks k p ms by s in absurd (cc)

one_less : (k0 k1 : LoadKind) (o p : ObjId) (ns ms : List ℕ) (by : meaning.Asker) (end : End Value) → rest_from k0 o ns by end ≡ made_from k1 p ms by (state_at end) → OneLess ns ms
one_less k0 k1 o p [] ms by (Gives v s) e = absurd (over_asks (Gives (Plain (Obj o)) s) k1 p ms by s e)
one_less k0 k1 o p [] ms by (Stops x s) e = absurd (over_asks (begun_end (kind_of k0) by o (Stops x s)) k1 p ms by s e)
one_less k0 k1 o p (n ∷ ns) ms by (Gives v s) e = record { part = n; are = ap (λ l. n ∷ l) (parts_are k0 k1 o p ns ms by s e) }
one_less k0 k1 o p (n ∷ ns) ms by (Stops x s) e = absurd (over_asks (begun_end (kind_of k0) by o (Stops x s)) k1 p ms by s e)

-- Ends

-- what was answered is an end of what asked
pub value_end : (programs : List RawProgram) (e : Ending) (x : Answer) (t : State) → IsAnswer programs t.world e x → IsValueEnd programs e (end_of_answer x t)
value_end programs (endings.Value v) (Returned (Plain u)) t h = h
value_end programs (endings.Value v) (Returned (course.WasRead items pragmas)) t h = absurd h
value_end programs (endings.Value v) (Returned course.IsSound) t h = absurd h
value_end programs (endings.Value v) (Returned (course.IsFaulty faults)) t h = absurd h
value_end programs (endings.Value v) (course.Stopped x) t h = absurd h
value_end programs (endings.Stopped stop) (Returned r) t h = absurd h
value_end programs (endings.Stopped stop) (course.Stopped x) t h = h

pub end_state : (x : Answer) (t : State) → state_at (end_of_answer x t) ≡ t
end_state (Returned r) t = refl
end_state (course.Stopped x) t = refl

-- an end in a state for which the live state stands is an outcome
fit_outcome : (told : Option Bytes) (old programs : List RawProgram) (before : List Out) (live : Live) (asker : Asker) (budget : ℕ) (e : Ending) (x : End Reply) → Grows old programs → Fits (setting told programs before) live asker.turn budget (state_at x)
    → IsReplyEnd programs e x → IsOutcome told old before live asker budget e (outcome_of x)
fit_outcome told old programs before live asker budget (endings.Value v) (Gives r s) g f h = record { programs = programs; grown = g; world = f.world; left = sym f.at.left; player = f.at.player; commands = f.at.commands; outputs = f.at.outputs; answer = h }
fit_outcome told old programs before live asker budget (endings.Value v) (Stops x s) g f h = absurd h
fit_outcome told old programs before live asker budget (endings.Stopped stop) (Gives r s) g f h = absurd h
fit_outcome told old programs before live asker budget (endings.Stopped stop) (Stops x s) g f h = record { programs = programs; grown = g; world = f.world; left = sym f.at.left; player = f.at.player; commands = f.at.commands; outputs = f.at.outputs; answer = h }

-- Values that are there

cause_there : (cells : Store) (a b : Cause) → cause_of a ≡ cause_of b → IsCauseThere cells a → IsCauseThere cells b
cause_there cells (causes.Thrown v) (causes.Thrown u) e h = let x : v ≡ u = cc in subst (IsThere cells) x h
cause_there cells (causes.Thrown v) (causes.Failed f) e h = tt
cause_there cells (causes.Thrown v) causes.Spent e h = tt
cause_there cells (causes.Failed f) (causes.Thrown u) e h = absurd (cc)
cause_there cells (causes.Failed f) (causes.Failed g) e h = tt
cause_there cells (causes.Failed f) causes.Spent e h = tt
cause_there cells causes.Spent (causes.Thrown u) e h = absurd (cc)
cause_there cells causes.Spent (causes.Failed g) e h = tt
cause_there cells causes.Spent causes.Spent e h = tt

-- an object is there
object_ends : (programs : List RawProgram) (cells : Store) (o : ObjId) (s : State) (d : Ending) → IsReplyEnd programs d (Gives (Plain (Obj o)) s) → IsEndingThere cells d
object_ends programs cells o s (endings.Value v) h = subst (IsThere cells) (sym h) tt
object_ends programs cells o s (endings.Stopped stop) h = absurd h

-- and the value of a stop is that of the question's
stop_ends : (programs : List RawProgram) (cells : Store) (x : course.Stop) (s : State) (d e : Ending) → IsReplyEnd programs d (Stops x s) → IsValueEnd programs e (Stops x s) → IsEndingThere cells e → IsEndingThere cells d
stop_ends programs cells x s (endings.Value v) e h i there = absurd h
stop_ends programs cells x s (endings.Stopped stop) (endings.Value v) h i there = absurd i
stop_ends programs cells x s (endings.Stopped stop) (endings.Stopped was) h i there = cause_there cells was.cause stop.cause (i.cause ∙ sym h.cause) there

logged_ends : (programs : List RawProgram) (cells : Store) (by : meaning.Asker) (o : ObjId) (x : course.Stop) (s : State) (cause : course.Cause) (d e : Ending) → IsReplyEnd programs d (logged_cause by o x s cause) → IsValueEnd programs e (Stops x s) → IsEndingThere cells e → IsEndingThere cells d
logged_ends programs cells by o x s (course.Thrown v) d e h i there = object_ends programs cells o _ d h
logged_ends programs cells by o x s (course.Failed f) d e h i there = object_ends programs cells o _ d h
logged_ends programs cells by o x s course.Spent d e h i there = stop_ends programs cells x s d e h i there

begun_ends : (programs : List RawProgram) (cells : Store) (kind : LoadKind) (by : meaning.Asker) (o : ObjId) (x : course.Stop) (s : State) (d e : Ending) → IsReplyEnd programs d (begun_end (kind_of kind) by o (Stops x s)) → IsValueEnd programs e (Stops x s) → IsEndingThere cells e
    → IsEndingThere cells d
begun_ends programs cells kinds.Wanted by o x s d e h i there = stop_ends programs cells x s d e h i there
begun_ends programs cells kinds.Inherited by o x s d e h i there = logged_ends programs cells by o x s x.cause d e h i there

over_is : (e x : End Reply) → Over e ≡ Over x → x ≡ e
over_is e x h = cc

rest_ends : (programs : List RawProgram) (cells : Store) (kind : LoadKind) (o : ObjId) (ns : List ℕ) (by : meaning.Asker) (end : End Value) (x : End Reply) (d e : Ending)
    → rest_from kind o ns by end ≡ Over x → IsReplyEnd programs d x → IsValueEnd programs e end → IsEndingThere cells e → IsEndingThere cells d
rest_ends programs cells kind o [] by (Gives v s) x d e over h i there = object_ends programs cells o s d (subst (IsReplyEnd programs d) (over_is (Gives (Plain (Obj o)) s) x over) h)
rest_ends programs cells kind o [] by (Stops y s) x d e over h i there = begun_ends programs cells kind by o y s d e (subst (IsReplyEnd programs d) (over_is (begun_end (kind_of kind) by o (Stops y s)) x over) h) i there
rest_ends programs cells kind o (n ∷ ns) by (Gives v s) x d e over h i there = absurd (over_asks x kind o ns by s (sym over))
rest_ends programs cells kind o (n ∷ ns) by (Stops y s) x d e over h i there = begun_ends programs cells kind by o y s d e (subst (IsReplyEnd programs d) (over_is (begun_end (kind_of kind) by o (Stops y s)) x over) h) i there

-- THE JOB ASKS

-- the next question of who asks
asked_for : (o : ObjId) (ns : List ℕ) (asker : Asker) (caller : Option ObjId) (by : meaning.Asker) (s : State) → callers_behind by.scene ≡ reverse (asker.callers.items ++ option_to_list caller) → All (IsInitialised s.world o) ns
    → IsAskedFor (next_of o ns) asker caller (question (asked_of (next_of o ns)) [] by s)
asked_for o [] asker caller by s callers parts = record { callers = callers; what = refl }
asked_for o (n ∷ ns) asker caller by s callers parts =
    let i : IsInitialised s.world o n = All-head (IsInitialised s.world o) n ns parts in
    record { callers = callers; what = refl; place = i.place; at = i.at; has = i.has }

so_asked : (q : Question) (o : ObjId) (ns : List ℕ) (asker : Asker) (caller : Option ObjId) (by : meaning.Asker) (s : State) → q ≡ next_of o ns → callers_behind by.scene ≡ reverse (asker.callers.items ++ option_to_list caller) → All (IsInitialised s.world o) ns
    → IsAskedFor q asker caller (question (asked_of q) [] by s)
so_asked q o ns asker caller by s is callers parts = subst (λ r. IsAskedFor r asker caller (question (asked_of r) [] by s)) (sym is) (asked_for o ns asker caller by s callers parts)

-- what is there has a row
pub row_there : (objects : List (Option Object)) (o : ObjId) → IsSome (variables_at objects o) → IsSome (row_at objects o.0)
row_there objects o h = by (row_at objects o.0) refl
  where
    by : (r : Option Object) → row_at objects o.0 ≡ r → IsSome (row_at objects o.0)
    by None e = absurd (cc)
    by (Some x) e = cc

pub still_there : (old new : List (Option Object)) (o : ObjId) → KeepsVariables old new → IsSome (variables_at old o) → IsSome (variables_at new o)
still_there old new o keeps h =
    let x = some_at (variables_at old o) h in
    let y = keeps o x.0 x.1 in
    subst IsSome (sym y.1) refl

module _ (caller : Option ObjId) (job : Making) (told : Option Bytes) (live : Live) where
  -- the question can be asked
  pub can_reach_for : (q : Question) → AsksNext job q → CanAskNext caller job told live → CanReachFor caller q told live
  can_reach_for q next h =
      let k = h.3 in
      let asker = h.1 in
      record {
        programs = k.programs;
        asker = asker;
        ask = question (asked_of q) [] k.by k.state;
        asks = so_asked q job.object (parts_left job) asker caller k.by k.state (next_is job q k.by k.state next) k.making.behind.callers (k.making.parts k.state.world (keeps_same k.state.world));
        world = k.making.behind.fits.world;
      }

  pub asks_for_it : (q : Question) → AsksNext job q → CanAskNext caller job told live → object_for q ≡ job.object
  asks_for_it q next h = let k = h.3 in ap object_for (next_is job q k.by k.state next) ∙ object_is job.object (parts_left job)

module _ (caller : Option ObjId) (at : Option Place) (job : Making) (told0 told1 : Option Bytes) (live0 live1 : Live) (stack : List Value) (asker0 : Asker) (budget0 : ℕ) (found : Option Reached) (asks : MakeAsks found caller job told0 live0 told1 live1) where
  module _ (programs : List RawProgram) (before : List Out) (by : meaning.Asker) (s : State) (w : IsMaking caller at job told0 programs before live0 asker0 budget0 by s) where
    abbrev the_ask : Ask
    the_ask = question (asked_of asks.question) [] by s

    is_by : IsBy asker0 the_ask
    is_by = record { player = w.behind.fits.at.player; commands = w.behind.fits.at.commands; interactive = w.behind.interactive; loads = w.behind.loads; depth = w.behind.depth }

    reaches : ReachesIf told1 programs live1 asker0 the_ask found
    reaches =
        asks.finds programs asker0 the_ask
        (so_asked asks.question job.object (parts_left job) asker0 caller by s (next_is job asks.question by s asks.next) w.behind.callers (w.parts s.world (keeps_same s.world))) w.behind.fits.world

    asked : IsAsked told1 programs live1 stack stack asker0 0 budget0 the_ask
    asked = record { by = is_by; world = world_reached told1 programs live1 asker0 the_ask found reaches; left = sym w.behind.fits.at.left; lies = sym (append-nil stack); many = refl }

    course_is : course_of job by s ≡ Asks the_ask (λ o. rest_of job by (end_of_outcome s o))
    course_is = asks.next by s

    -- What an answer leads to
    module _ (front : FrontEnd) (real : IsFrontEnd front) (outs : live1.outputs ≡ live0.outputs) (told2 : Option Bytes) (live2 : Live) (stack2 : List Value) (asker2 : Asker) (budget2 : ℕ) (e : Ending)
        (answers : Answers (requests.Function found) 0 told1 live1 stack asker0 budget0 told2 live2 stack2 asker2 budget2 e) where
      sv : Serves front told2 programs live1.outputs live2 stack2 stack asker2 budget2 e the_ask
      sv = answers.served front real programs the_ask stack asked reaches

      can_be : CanAnswer the_ask sv.outcome
      can_be = outcomes_can_be front the_ask sv.outcome sv.has

      abbrev t : State
      t = after s sv.outcome

      abbrev end : End Value
      end = end_of_outcome s sv.outcome

      state_is : state_at end ≡ t
      state_is = end_state sv.outcome.answer t

      -- the programs that are there then
      abbrev grew : List RawProgram
      grew = sv.is.programs

      fits_t : Fits (setting told2 grew before) live2 asker2.turn budget2 t
      fits_t = record {
        at = record {
          stands = sv.is.world.stands;
          left = sym sv.is.left;
          outputs = sv.is.outputs ∙ ap (λ l. l ++ sv.outcome.outputs) (outs ∙ w.behind.fits.at.outputs) ∙ append_assoc before s.outputs sv.outcome.outputs;
          player = sv.is.player;
          commands = sv.is.commands;
        };
        world = sv.is.world;
      }

      fits_end : Fits (setting told2 grew before) live2 asker2.turn budget2 (state_at end)
      fits_end = subst (Fits (setting told2 grew before) live2 asker2.turn budget2) (sym state_is) fits_t

      ends_so : IsValueEnd grew e end
      ends_so = value_end grew e sv.outcome.answer t sv.is.answer

      kept : Keeps s.world (state_at end).world
      kept = subst (λ (x : State). Keeps s.world x.world) (sym state_is) can_be.keeps

      -- who asks is at its place still
      place_then : AsksAt grew at by.scene
      place_then = asks_still programs grew at by.scene sv.is.grown w.behind.place

      -- what follows the outcome, the whole course ends with
      back_by : (c : Course Reply) (x : End Reply) → rest_of job by end ≡ c → Ends front c x → Ends front (course_of job by s) x
      back_by c x is h =
          subst (λ k. Ends front k x) (sym course_is) (asks_ends front the_ask (λ o. rest_of job by (end_of_outcome s o)) sv.outcome x sv.has can_be (subst (λ k. Ends front k x) (sym is) h))

      -- it goes on
      goes_on : (job3 : Making) (live3 : Live) → GoesOn job e live2 job3 live3 → IsLater job job3 → MakesOn front caller at (course_of job by s) job3 told2 programs before live3 asker2 budget2 by
      goes_on job3 live3 goes later =
          let is : rest_of job by end ≡ course_of job3 by (state_at end) = goes.course grew by end ends_so in
          let less : OneLess (parts_left job) (parts_left job3) = one_less job.kind job3.kind job.object job3.object (parts_left job) (parts_left job3) by end is in
          record {
            programs = grew;
            grown = sv.is.grown;
            state = state_at end;
            making = record {
              behind = record {
                fits = subst (λ l. Fits (setting told2 grew before) l asker2.turn budget2 (state_at end)) (sym goes.same) fits_end;
                interactive = w.behind.interactive ∙ sym answers.same.interactive;
                loads = w.behind.loads ∙ ap (λ l. map loading_of (reverse l)) (sym answers.same.loads);
                callers = w.behind.callers ∙ ap (λ l. reverse (l ++ option_to_list caller)) (sym answers.same.callers);
                depth = w.behind.depth ∙ ap (λ n. n + 1) (sym answers.same.depth);
                place = place_then;
              };
              parts = λ u k.
                  subst (λ o. All (IsInitialised u o) (parts_left job3)) (sym later.object)
                  (All-tail (IsInitialised u job.object) less.part (parts_left job3) (subst (All (IsInitialised u job.object)) less.are (w.parts u (keeps_trans s.world (state_at end).world u kept k))));
            };
            back = λ x h. back_by (course_of job3 by (state_at end)) x is h;
          }

      -- or it ends
      ended : (d : Ending) (live3 : Live) → EndsWith job e at d told2 live2 live3 → Answered front (course_of job by s) told2 programs before live3 stack2 stack asker2 budget2 d
      ended d live3 ends =
          let x = ends (setting told2 grew before) by asker2.turn budget2 end refl fits_end ends_so (asker_there grew (state_at end).world at by place_then) in
          record { end = x.end; ends = back_by (Over x.end) x.end x.over (over_ends front x.end); is = fit_outcome told2 programs grew before live3 asker2 budget2 d x.end sv.is.grown x.fits x.is; left = sv.left }

      ended_there : (d : Ending) (live3 : Live) → EndsWith job e at d told2 live2 live3 → IsEndingThere live2.cells d
      ended_there d live3 ends =
          let x = ends (setting told2 grew before) by asker2.turn budget2 end refl fits_end ends_so (asker_there grew (state_at end).world at by place_then) in
          rest_ends grew live2.cells job.kind job.object (parts_left job) by end x.end d e x.over x.is ends_so answers.there

  -- The answer can be given, ..
  pub make_can : IfSome found (λ x. IsInMemory live1 x.callee x.code) → CanMake caller at job told0 live0 asker0 budget0 → CanServe told1 live1 stack asker0 budget0 (requests.Function found) 0
  make_can memory h = record {
    front = h.front;
    real = h.real;
    programs = h.programs;
    ask = the_ask h.programs h.before h.by h.state h.making;
    below = stack;
    asked = asked h.programs h.before h.by h.state h.making;
    is = reaches h.programs h.before h.by h.state h.making;
    there = memory;
  }

  module _ (outs : live1.outputs ≡ live0.outputs) (told2 : Option Bytes) (live2 : Live) (stack2 : List Value) (asker2 : Asker) (budget2 : ℕ) (e : Ending)
      (answers : Answers (requests.Function found) 0 told1 live1 stack asker0 budget0 told2 live2 stack2 asker2 budget2 e) where
    -- .. leaves the stack as it was, ..
    pub make_lies : CanMake caller at job told0 live0 asker0 budget0 → stack2 ≡ stack
    make_lies h = (sv h.programs h.before h.by h.state h.making h.front h.real outs told2 live2 stack2 asker2 budget2 e answers).left

    -- .. in a state that stands for some world, ..
    pub make_stands : CanMake caller at job told0 live0 asker0 budget0 → StandsForOne told2 live2
    make_stands h =
        let x = sv h.programs h.before h.by h.state h.making h.front h.real outs told2 live2 stack2 asker2 budget2 e answers in
        (x.is.programs, x.outcome.world, x.is.world.stands)

    -- .. and the job goes on with it, ..
    pub make_goes : (told3 : Option Bytes) (job3 : Making) (live3 : Live) → told3 ≡ told2 → Feeds fed.Goes job e at told2 live2 job3 live3 → IsLater job job3 → MakeContinues caller at job told0 live0 asker0 budget0 job3 told3 live3 asker2 budget2
    make_goes told3 job3 live3 same goes later = λ front real programs before by s w.
        subst (λ x. MakesOn front caller at (course_of job by s) job3 x programs before live3 asker2 budget2 by) (sym same)
        (goes_on programs before by s w front real outs told2 live2 stack2 asker2 budget2 e answers job3 live3 goes later)

    -- .. or ends.
    pub make_ends : (told3 : Option Bytes) (job3 : Making) (live3 : Live) (d : Ending) → told3 ≡ told2 → live3.cells ≡ live2.cells → KeepsVariables live0.objects live1.objects → KeepsVariables live2.objects live3.objects → IsFit live3 stack2
        → CanMake caller at job told0 live0 asker0 budget0 → Feeds (fed.Ends d) job e at told2 live2 job3 live3 → Makes caller at job told0 live0 stack asker0 budget0 told3 live3 stack2 asker2 budget2 d
    make_ends told3 job3 live3 d same cells home0 home1 fit h ends = record {
      made = λ front real programs before by s w.
          subst (λ x. Answered front (course_of job by s) x programs before live3 stack2 stack asker2 budget2 d) (sym same)
          (ended programs before by s w front real outs told2 live2 stack2 asker2 budget2 e answers d live3 ends);
      same = answers.same;
      spends = answers.spends;
      home = home_later live0.objects live1.objects live3.objects home0 (home_later live1.objects live2.objects live3.objects answers.home home1);
      fit = fit;
      there = subst (λ c. IsEndingThere c d) (sym cells) (ended_there h.programs h.before h.by h.state h.making h.front h.real outs told2 live2 stack2 asker2 budget2 e answers d live3 ends);
    }

-- One question after another

-- none so far
pub makes_same : (caller : Option ObjId) (at : Option Place) (job : Making) (told : Option Bytes) (live : Live) (asker : Asker) (budget : ℕ) → MakeContinues caller at job told live asker budget job told live asker budget
makes_same caller at job told live asker budget front real programs before by s w = record { programs = programs; grown = grows_same programs; state = s; making = w; back = λ e h. h }

-- one more
pub makes_more : (caller : Option ObjId) (at : Option Place) (job0 job1 job2 : Making) (told0 told1 told2 : Option Bytes) (live0 live1 live2 : Live) (asker0 asker1 asker2 : Asker) (budget0 budget1 budget2 : ℕ)
    → MakeContinues caller at job0 told0 live0 asker0 budget0 job1 told1 live1 asker1 budget1 → MakeContinues caller at job1 told1 live1 asker1 budget1 job2 told2 live2 asker2 budget2
    → MakeContinues caller at job0 told0 live0 asker0 budget0 job2 told2 live2 asker2 budget2
makes_more caller at job0 job1 job2 told0 told1 told2 live0 live1 live2 asker0 asker1 asker2 budget0 budget1 budget2 h n front real programs before by s w =
    let x = h front real programs before by s w in
    let y = n front real x.programs before by x.state x.making in
    record { programs = y.programs; grown = grows_trans programs x.programs y.programs x.grown y.grown; state = y.state; making = y.making; back = λ e l. x.back e (y.back e l) }

-- it can go on
pub can_make_on : (caller : Option ObjId) (at : Option Place) (job0 job1 : Making) (told0 told1 : Option Bytes) (live0 live1 : Live) (asker0 asker1 : Asker) (budget0 budget1 : ℕ) → CanMake caller at job0 told0 live0 asker0 budget0
    → MakeContinues caller at job0 told0 live0 asker0 budget0 job1 told1 live1 asker1 budget1 → CanMake caller at job1 told1 live1 asker1 budget1
can_make_on caller at job0 job1 told0 told1 live0 live1 asker0 asker1 budget0 budget1 h n =
    let x = n h.front h.real h.programs h.before h.by h.state h.making in
    record { front = h.front; real = h.real; programs = x.programs; before = h.before; by = h.by; state = x.state; making = x.making }

-- and the end
pub makes_later : (caller : Option ObjId) (at : Option Place) (job0 job1 : Making) (told0 told1 told2 : Option Bytes) (live0 live1 live2 : Live) (stack0 stack1 stack2 : List Value) (asker0 asker1 asker2 : Asker) (budget0 budget1 budget2 : ℕ) (e : Ending)
    → MakeContinues caller at job0 told0 live0 asker0 budget0 job1 told1 live1 asker1 budget1 → stack1 ≡ stack0 → IsSameAsker asker0 asker1 → budget1 ≤ budget0 → KeepsVariables live0.objects live1.objects
    → Makes caller at job1 told1 live1 stack1 asker1 budget1 told2 live2 stack2 asker2 budget2 e → Makes caller at job0 told0 live0 stack0 asker0 budget0 told2 live2 stack2 asker2 budget2 e
makes_later caller at job0 job1 told0 told1 told2 live0 live1 live2 stack0 stack1 stack2 asker0 asker1 asker2 budget0 budget1 budget2 e goes lies same spends home h = record {
  made = λ front real programs before by s w.
      let x = goes front real programs before by s w in
      let y = h.made front real x.programs before by x.state x.making in
      record { end = y.end; ends = x.back y.end y.ends; is = outcome_grown told2 programs x.programs before live2 asker2 budget2 e (outcome_of y.end) x.grown y.is; left = y.left ∙ lies };
  same = same_later asker0 asker1 asker2 same h.same;
  spends = le_trans h.spends spends;
  home = home_later live0.objects live1.objects live2.objects home h.home;
  fit = h.fit;
  there = h.there;
}
