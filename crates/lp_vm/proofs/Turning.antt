-- A turn of a function that runs: to its end, or to a question, what is answered, and on.
use Rattle.std.proofs.Common.{◌≡◌, ◌∙◌, ◌++◌, ◌∷◌, [], ◌+◌, ◌<◌, ℕ, List, Option, Some, None, All, true, refl, ap, sym, subst, map, append-nil, append_assoc, arith}
use Rattle.std.specs.Prelude.{reverse}
use Rattle.lp_values.specs.declared.value.Value.{Value}
use Rattle.lp_code.specs.declared.program.FunRow.{FunRow}
use Rattle.lp_code.specs.declared.program.RawProgram.{RawProgram}
use Rattle.lp_code.specs.Programs.{IsFunction}
use Rattle.lp_instr.specs.declared.efun.Efun.{Efun}
use Rattle.lp_instr.specs.Code.{Catching}
use Rattle.lp_events.specs.declared.out.Out.{Out}
use Rattle.lp_swapfile.specs.Device.{Bytes}
use Rattle.lp_language.specs.World.{World, is_live}
use Rattle.lp_language.specs.Course as course
use Rattle.lp_language.specs.Course.{Answer, Ask, CanAnswer, Course, Over, End, Gives, OfEfun, Outcome, Plain, Reply, Returned, State, Stopped, after, caught, end_of_answer, end_of_outcome, outcome_of, value_in}
use Rattle.lp_isa.specs.Machine.{Moment, Next, Goes, Ended, Awaits, Wrong, awaits, push_end}
use Rattle.lp_isa.specs.SoundCode.{NextMatches}
use Rattle.lp_isa.specs.Work.{NextLess, work_of}
use Rattle.lp_isa.specs.Runs.{Does}
use Rattle.lp_meaning.specs.Closing.{Ends}
use Rattle.lp_meaning.specs.FrontEnd.{FrontEnd}
use Rattle.lp_front_end.specs.FrontEnds.{IsFrontEnd}
use Rattle.lp_meaning.proofs.Kept.{outcomes_can_be}
use Rattle.lp_world.specs.declared.frame.Frame.{Frame}
use Rattle.lp_world.specs.declared.live.Live.{Live}
use Rattle.lp_world.specs.Stands.{Stands}
use Rattle.lp_world.specs.Matches.{Around, Matches, laid}
use Rattle.lp_step.specs.Steps.{IsFit, KeepsVariables}
use Rattle.lp_step_laws.proofs.Found.{same_program}
use Rattle.lp_run.specs.Runs.{left_of}
use Rattle.lp_run.proofs.Together.{left_same}
use Rattle.lp_asking.specs.declared.asker.Asker.{Asker}
use Rattle.lp_asking.specs.declared.ending.Ending.{Ending}
use Rattle.lp_asking.specs.declared.ending.Ending.TheVariants as endings
use Rattle.lp_asking.specs.declared.ending.Place.{Place}
use Rattle.lp_asking.specs.declared.question.Question.{Question}
use Rattle.lp_reaching.specs.declared.reached.Reached.{Reached}
use Rattle.lp_part_laws.specs.Versions.{AreCompiled}
use Rattle.lp_targets.specs.Callees.{IsWorldOf}
use Rattle.lp_reaching.specs.Compiled.{IsCaller}
use Rattle.lp_reaching.specs.Reaching.{AsksInside, ReachesIf}
use Rattle.lp_efuns.specs.Turns.{commands_of}
use Rattle.lp_asking.specs.Asking.{IsBy, Means, code_in, loading_of}
use Rattle.lp_asking.specs.Endings.{IsAnswer, IsPlaceIf, IsReply, plain_end}
use Rattle.lp_asking.specs.Resuming.{IsEndFor, Resumes, ResumesTo}
use Rattle.lp_asking.specs.Stopping.{CameToEnd, IsEndIn}
use Rattle.lp_asking.proofs.Courses.{asks_ends, over_ends}
use Rattle.lp_asking.proofs.States.{stop_state}
use Rattle.lp_vm.specs.declared.request.Request.{Request}
use Rattle.lp_vm.specs.declared.request.Request.TheVariants as requests
use Rattle.lp_vm.specs.Requests.{AsksEfun, IsRequest, place_in}
use Rattle.lp_vm.specs.Answering.{IsAsked, IsSameAsker, Served, Serves}
use Rattle.lp_vm.specs.Going.{EndsSo, GoesOn, IsGoing, IsOutcome}
use Rattle.lp_vm.proofs.Carried.{caller_later, compiled_still, shadows_still, still_home}
use Rattle.lp_vm.proofs.Grown.{caller_grown, code_grown, grows_same, still_at}
use Rattle.lp_vm.proofs.Doing.{Awaited, does_comes, does_end, does_wait}
use Rattle.lp_vm.proofs.Waiting.{Waits, ask_of}

-- The stack

pub laid_above : (base ops : List Value) → laid base ops ≡ base ++ laid [] ops
laid_above base [] = sym (append-nil base)
laid_above base (x ∷ xs) = ap (λ l. l ++ x ∷ []) (laid_above base xs) ∙ append_assoc base (laid [] xs) (x ∷ [])

top_of : (below locals ops stack : List Value) → stack ≡ laid (below ++ locals) ops → stack ≡ below ++ (locals ++ laid [] ops)
top_of below locals ops stack e = e ∙ laid_above (below ++ locals) ops ∙ append_assoc below locals (laid [] ops)

-- The end

pub no_places : (programs : List RawProgram) (w : World) (at : Option Place) (x : Option course.Place) → at ≡ None → x ≡ None → IsPlaceIf programs w at x
no_places programs w None None e f = tt
no_places programs w None (Some x) e f = absurd (cc)
no_places programs w (Some at) x e f = absurd (cc)

-- a function's end as an outcome: what it ended with and in which state
ended_with : (told : Option Bytes) (programs : List RawProgram) (a : Around) (live : Live) (asker : Asker) (budget : ℕ) (e : Ending) (end : End Value) (s : State)
    → IsWorldOf told programs live s.world → budget ≡ s.budget → s.player ≡ asker.turn.player → s.commands ≡ commands_of asker.turn.commands.items → live.outputs ≡ a.before ++ s.outputs
    → IsEndIn e end s → IsOutcome told programs a.before live asker budget e (outcome_of (plain_end end))
ended_with told programs a live asker budget (endings.Value v) end s w l p c o is =
    subst (λ x. IsOutcome told programs a.before live asker budget (endings.Value v) (outcome_of (plain_end x))) (sym is)
    (record { programs = programs; grown = grows_same programs; world = w; left = l; player = p; commands = c; outputs = o; answer = refl })
ended_with told programs a live asker budget (endings.Stopped stop) end s w l p c o is =
    subst (λ x. IsOutcome told programs a.before live asker budget (endings.Stopped stop) (outcome_of (plain_end x))) (sym is.1)
    (record { programs = programs; grown = grows_same programs; world = w; left = l; player = p; commands = c; outputs = o; answer = record { cause = is.2; place = no_places programs s.world stop.place is.0.place is.4 is.3 } })

-- The course of a function that came to its end is over.
pub came_to_end : (front : FrontEnd) (p : RawProgram) (k : ℕ) (row : FunRow) (f : IsFunction p k row) (a : Around) (m : Moment) (course : Course Value) (told : Option Bytes) (live0 live1 : Live) (stack0 stack1 : List Value) (frame0 : Frame) (asker : Asker) (budget0 budget1 : ℕ) (e : Ending)
    → IsGoing p k row f a m course told live0 stack0 frame0 asker budget0 → CameToEnd a m e live1 stack1 budget1 → EndsSo front a course told live1 stack1 asker budget1 e
came_to_end front p k row f a m course told live0 live1 stack0 stack1 frame0 asker budget0 budget1 e g c =
    let over : course ≡ Over c.end = does_end (does_comes a.code a.scene (Goes m) (Ended c.end) course c.comes g.does) in
    let world : IsWorldOf told a.programs live1 c.moment.state.world = record {
      stands = subst (λ t. Stands t a.programs live1 c.moment.state.world) g.told_is c.matches.stands;
      compiled = compiled_still a.programs m.state.world c.moment.state.world c.later.still g.compiled;
      shadows = shadows_still m.state.world c.moment.state.world c.later.still g.shadows;
    } in
    record {
      end = c.end;
      ends = subst (λ t. Ends front t c.end) (sym over) (over_ends front c.end);
      is = ended_with told a.programs a live1 asker budget1 e c.end c.moment.state world c.matches.left (c.matches.player ∙ g.player) (c.matches.commands ∙ g.commands) c.matches.outputs c.is;
      top = c.moment.state.locals ++ laid [] c.moment.stack;
      lies = top_of a.below c.moment.state.locals c.moment.stack stack1 c.matches.sits.lies;
    }

-- Requests

pub world_reached : (told : Option Bytes) (programs : List RawProgram) (live : Live) (asker : Asker) (a : Ask) (x : Option Reached) → ReachesIf told programs live asker a x → IsWorldOf told programs live a.world
world_reached told programs live asker a None h = h.1
world_reached told programs live asker a (Some x) h = h.world

pub world_asked : (request : Request) (told : Option Bytes) (programs : List RawProgram) (live : Live) (asker : Asker) (a : Ask) → IsRequest request told programs live asker a → IsWorldOf told programs live a.world
world_asked (requests.Function found) told programs live asker a h = world_reached told programs live asker a found h
world_asked (requests.Efun at e) told programs live asker a h = h.1

-- What is known where a function asks.
module _ (p : RawProgram) (k : ℕ) (row : FunRow) (f : IsFunction p k row) (a : Around) (m : Moment) (course : Course Value) (told0 : Option Bytes) (live0 live1 : Live) (stack0 stack1 : List Value) (frame0 frame1 : Frame) (asker0 : Asker) (budget0 budget1 args : ℕ)
    (g : IsGoing p k row f a m course told0 live0 stack0 frame0 asker0 budget0) (c : Waits f.shapes a m live1 stack1 frame1 budget1 args) where
  abbrev resume : Outcome → Next
  resume o = push_end (end_of_outcome c.moment.state o) c.moment.place c.moment.catches c.moment.stack

  pub awaited : Awaited a.code a.scene (ask_of a c) resume course
  awaited = does_wait (does_comes a.code a.scene (Goes m) (awaits c.what c.given a.scene c.moment.state c.moment.place c.moment.catches c.moment.stack) course c.comes g.does)

  code_same : frame1.code ≡ p
  code_same = same_program a p row live1 c.low frame1 budget1 c.moment g.of c.matches

  pub caller_now : IsCaller a.programs c.moment.state.world a.scene.this a.scene.part p
  caller_now = caller_later a.programs m.state.world c.moment.state.world a.scene.this a.scene.part p c.later.after.keeps g.caller

  pub asks_inside : (q : Question) → Means a.code q c.what → AsksInside a.programs asker0 frame1.this frame1.part frame1.code q (ask_of a c)
  asks_inside q means = record {
    scene = a.scene;
    scene_is = refl;
    this_is = sym c.matches.sits.belongs.this;
    part_is = sym c.matches.sits.belongs.part;
    callers = g.by.callers;
    caller = subst (IsCaller a.programs c.moment.state.world a.scene.this a.scene.part) (sym code_same) caller_now;
    what = subst (λ x. Means x q c.what) (g.code ∙ ap (code_in a.programs) (sym code_same)) means;
  }

  pub asks_efun : (e : Efun) → c.what ≡ OfEfun e → AsksEfun a.programs asker0 (place_in frame1) e (ask_of a c)
  asks_efun e what = record {
    scene = a.scene;
    scene_is = refl;
    runs = record { this = sym c.matches.sits.belongs.this; version = sym c.matches.sits.belongs.version; raw = frame1.code; is = c.matches.sits.belongs.program; function = c.matches.sits.belongs.function };
    interactive = g.by.interactive;
    callers = g.by.callers;
    what = what;
  }

  pub world_now : IsWorldOf told0 a.programs live1 c.moment.state.world
  world_now = record {
    stands = subst (λ t. Stands t a.programs live1 c.moment.state.world) g.told_is c.matches.stands;
    compiled = compiled_still a.programs m.state.world c.moment.state.world c.later.still g.compiled;
    shadows = shadows_still m.state.world c.moment.state.world c.later.still g.shadows;
  }

  by : IsBy asker0 (ask_of a c)
  by = record {
    player = c.matches.player ∙ g.player;
    commands = c.matches.commands ∙ g.commands;
    interactive = g.by.interactive;
    loads = g.by.loads;
    depth = omega (arith, g.by.depth);
  }

  pub is_asked : (told : Option Bytes) (live2 : Live) → IsWorldOf told a.programs live2 c.moment.state.world → IsAsked told a.programs live2 stack1 c.low asker0 args budget1 (ask_of a c)
  is_asked told live2 w = record {
    by = by;
    world = w;
    left = c.matches.left;
    lies = c.lies;
    many = c.many;
  }

-- What an answer leads to

pub end_for : (programs : List RawProgram) (w : World) (e : Ending) (x : Answer) (s : State) → IsAnswer programs w e x → IsEndFor e (end_of_answer x s) s
end_for programs w (endings.Value v) (Returned r) s h = of_reply r h
  where
    of_reply : (r : Reply) → IsReply v r → end_of_answer (Returned r) s ≡ Gives v s
    of_reply (Plain u) h = ap (λ z. Gives z s) (sym h)
    of_reply (course.WasRead items pragmas) h = absurd h
    of_reply course.IsSound h = absurd h
    of_reply (course.IsFaulty faults) h = absurd h
end_for programs w (endings.Value v) (Stopped x) s h = absurd h
end_for programs w (endings.Stopped stop) (Returned r) s h = absurd h
end_for programs w (endings.Stopped stop) (Stopped x) s h = (x, refl, h.cause)

-- a moment after an end has the end's state
abbrev state_or : State → Next → State
state_or s (Goes m) = m.state
state_or s (Ended e) = s
state_or s (Awaits a k) = s
state_or s Wrong = s

push_state : (x : Answer) (place : ℕ) (catches : List Catching) (stack : List Value) (s : State) (at : Moment) → push_end (end_of_answer x s) place catches stack ≡ Goes at → at.state ≡ s
push_state (Returned r) place catches stack s at e = sym (ap (state_or s) e)
push_state (Stopped x) place catches stack s at e = stop_state (caught x.cause) x catches stack s at e

-- an outcome as the end of the function that asked
pub outcome_end : (told : Option Bytes) (programs : List RawProgram) (before before2 : List Out) (live : Live) (asker : Asker) (budget : ℕ) (e : Ending) (o : Outcome) (s : State) → before2 ≡ before ++ s.outputs
    → IsOutcome told programs before2 live asker budget e o → IsOutcome told programs before live asker budget e (outcome_of (plain_end (end_of_outcome s o)))
outcome_end told programs before before2 live asker budget e o s b h = by o.answer h.answer
  where
    outs : live.outputs ≡ before ++ (s.outputs ++ o.outputs)
    outs = h.outputs ∙ ap (λ l. l ++ o.outputs) b ∙ append_assoc before s.outputs o.outputs

    with_reply : (v : Value) (r : Reply) → IsReply v r → IsReply v (Plain (value_in r))
    with_reply v (Plain u) h = h
    with_reply v (course.WasRead items pragmas) h = absurd h
    with_reply v course.IsSound h = absurd h
    with_reply v (course.IsFaulty faults) h = absurd h

    returned : (e : Ending) (r : Reply) → IsAnswer h.programs o.world e (Returned r) → IsAnswer h.programs o.world e (Returned (Plain (value_in r)))
    returned (endings.Value v) r h = with_reply v r h
    returned (endings.Stopped stop) r h = absurd h

    by : (x : Answer) → IsAnswer h.programs o.world e x → IsOutcome told programs before live asker budget e (outcome_of (plain_end (end_of_answer x (after s o))))
    by (Returned r) i = record { programs = h.programs; grown = h.grown; world = h.world; left = h.left; player = h.player; commands = h.commands; outputs = outs; answer = returned e r i }
    by (Stopped x) i = record { programs = h.programs; grown = h.grown; world = h.world; left = h.left; player = h.player; commands = h.commands; outputs = outs; answer = i }

-- THE TURN: after the answer the function goes on, with less to do, or it ends.
abbrev pub TurnsTo : Option Ending → FrontEnd → (p : RawProgram) → (k : ℕ) → (row : FunRow) → IsFunction p k row → Around → Moment → Course Value → Option Bytes → Live → List Value → Frame → Asker → ℕ → Type 0
TurnsTo None front p k row f a m course told live stack frame asker budget = GoesOn front p k row f a course told live stack frame asker budget × (left_of frame budget < work_of a.code m)
TurnsTo (Some e) front p k row f a m course told live stack frame asker budget = EndsSo front a course told live stack asker budget e

module _ (front : FrontEnd) (real : IsFrontEnd front) (p : RawProgram) (k : ℕ) (row : FunRow) (f : IsFunction p k row) (a : Around) (m : Moment) (course : Course Value) (told0 told1 told2 : Option Bytes) (live0 live1 live2 live3 : Live) (stack0 stack1 stack3 stack4 : List Value) (frame0 frame1 frame4 : Frame) (asker0 asker3 : Asker)
    (budget0 budget1 budget3 args : ℕ) (request : Request) (e : Ending) (g : IsGoing p k row f a m course told0 live0 stack0 frame0 asker0 budget0) (c : Waits f.shapes a m live1 stack1 frame1 budget1 args)
    (is : IsRequest request told1 a.programs live2 asker0 (ask_of a c)) (outs : live2.outputs ≡ live1.outputs)
    (served : Served request args told1 live2 stack1 asker0 budget1 told2 live3 stack3 asker3 budget3 e) (same : IsSameAsker asker0 asker3) (home : KeepsVariables live1.objects live3.objects) where
  abbrev ask : Ask
  ask = ask_of a c

  abbrev s : State
  s = c.moment.state

  w : Awaited a.code a.scene ask (λ o. push_end (end_of_outcome s o) c.moment.place c.moment.catches c.moment.stack) course
  w = awaited p k row f a m course told0 live0 live1 stack0 stack1 frame0 frame1 asker0 budget0 budget1 args g c

  sv : Serves front told2 a.programs live2.outputs live3 stack3 c.low asker3 budget3 e ask
  sv = served front real a.programs ask c.low
      (is_asked p k row f a m course told0 live0 live1 stack0 stack1 frame0 frame1 asker0 budget0 budget1 args g c told1 live2 (world_asked request told1 a.programs live2 asker0 ask is)) is

  abbrev o : Outcome
  o = sv.outcome

  can : CanAnswer ask o
  can = outcomes_can_be front ask o sv.has

  abbrev a3 : Around
  a3 = record a { told = told2; programs = sv.is.programs; player = asker3.turn.player; commands = commands_of asker3.turn.commands.items }

  abbrev m3 : Moment
  m3 = record { place = c.moment.place; stack = c.moment.stack; catches = c.moment.catches; state = after s o }

  outs_before : live2.outputs ≡ a.before ++ s.outputs
  outs_before = outs ∙ c.matches.outputs

  waits : Matches a3 live3 c.low frame1 budget3 m3
  waits = record {
    stands = sv.is.world.stands;
    sits = record {
      lies = c.matches.sits.lies;
      bottom = c.matches.sits.bottom;
      locals = c.matches.sits.locals;
      place = c.matches.sits.place;
      catches = c.matches.sits.catches;
      belongs = record {
        this = c.matches.sits.belongs.this;
        version = c.matches.sits.belongs.version;
        part = c.matches.sits.belongs.part;
        base = c.matches.sits.belongs.base;
        function = c.matches.sits.belongs.function;
        program = still_at a.programs sv.is.programs frame1.program.0 frame1.code sv.is.grown c.matches.sits.belongs.program;
        code = c.matches.sits.belongs.code;
      };
    };
    left = sv.is.left;
    outputs = sv.is.outputs ∙ ap (λ l. l ++ o.outputs) outs_before ∙ append_assoc a.before s.outputs o.outputs;
    player = sv.is.player;
    commands = sv.is.commands;
  }

  caller_then : IsCaller sv.is.programs o.world a.scene.this a.scene.part p
  caller_then =
      caller_grown a.programs sv.is.programs o.world a.scene.this a.scene.part p sv.is.grown
      (caller_later a.programs s.world o.world a.scene.this a.scene.part p can.keeps
      (caller_now p k row f a m course told0 live0 live1 stack0 stack1 frame0 frame1 asker0 budget0 budget1 args g c))

  code_then : a.code ≡ code_in sv.is.programs p
  code_then = g.code ∙ sym (code_grown a.programs sv.is.programs m.state.world.versions a.scene.version p sv.is.grown g.compiled g.of.program)

  goes : (at : Moment) (stack : List Value) → push_end (end_of_outcome s o) c.moment.place c.moment.catches c.moment.stack ≡ Goes at → Matches a3 live3 stack frame4 budget3 at → IsFit live3 stack
      → TurnsTo None front p k row f a m course told2 live3 stack frame4 asker3 budget3
  goes at stack e h fit =
      let st : at.state ≡ after s o = push_state o.answer c.moment.place c.moment.catches c.moment.stack (after s o) at e in (
        record {
          around = a3;
          moment = at;
          rest = w.goes o;
          later = record { same = refl; programs = sv.is.grown };
          going = record {
            of = record { program = still_at a.programs sv.is.programs a.scene.version.0 p sv.is.grown g.of.program; locals = g.of.locals; variables = g.of.variables; rows = g.of.rows; places = g.of.places; heights = g.of.heights };
            runs = record {
              matches = h;
              shaped = subst (NextMatches f.shapes) e (c.shaped o);
              fit = fit;
              home = still_home live1.objects live3.objects a.scene.this (a.scene.base + a.variables) home c.home;
            };
            by = record { interactive = g.by.interactive ∙ sym same.interactive; loads = g.by.loads ∙ ap (λ l. map loading_of (reverse l)) (sym same.loads); callers = g.by.callers ∙ ap reverse (sym same.callers); depth = g.by.depth ∙ sym same.depth };
            told_is = refl;
            player = refl;
            commands = refl;
            compiled = subst (λ x. AreCompiled sv.is.programs x.world.versions) (sym st) sv.is.world.compiled;
            shadows = subst (λ x. All (λ z. is_live x.world z.shadow ≡ true) x.world.shadows) (sym st) sv.is.world.shadows;
            caller = subst (λ x. IsCaller sv.is.programs x.world a.scene.this a.scene.part p) (sym st) caller_then;
            code = code_then;
            does = subst (λ x. Does a.code a.scene x (w.goes o)) e (w.does o can);
          };
          back = λ end h. subst (λ t. Ends front t end) (sym w.is) (asks_ends front ask w.goes o end sv.has can h);
        },
        (let less : work_of a.code at < work_of a.code m = subst (NextLess a.code (work_of a.code m)) e (c.less o can) in
            omega (arith, less, left_same a3 live3 stack frame4 budget3 at h)),
      )

  ends : (stack : List Value) → push_end (end_of_outcome s o) c.moment.place c.moment.catches c.moment.stack ≡ Ended (end_of_outcome s o) → stack ≡ c.low → EndsSo front a course told2 live3 stack asker3 budget3 e
  ends stack eq low =
      let over : w.goes o ≡ Over (end_of_outcome s o) = does_end (subst (λ x. Does a.code a.scene x (w.goes o)) eq (w.does o can)) in
      record {
        end = end_of_outcome s o;
        ends = subst (λ t. Ends front t (end_of_outcome s o)) (sym w.is) (asks_ends front ask w.goes o (end_of_outcome s o) sv.has can (subst (λ t. Ends front t (end_of_outcome s o)) (sym over) (over_ends front (end_of_outcome s o))));
        is = outcome_end told2 a.programs a.before live2.outputs live3 asker3 budget3 e o s outs_before sv.is;
        top = s.locals ++ laid [] c.moment.stack;
        lies = top_of a.below s.locals c.moment.stack stack (low ∙ c.matches.sits.lies);
      }

  resumed : (r : Option Ending) → ResumesTo r e a3 live3 c.low stack4 frame4 budget3 m3 (end_of_outcome s o) → IsFit live3 stack4 → TurnsTo r front p k row f a m course told2 live3 stack4 frame4 asker3 budget3
  resumed None h fit = goes h.0 stack4 h.1 h.2 fit
  resumed (Some x) h fit = subst (EndsSo front a course told2 live3 stack4 asker3 budget3) (sym h.1) (ends stack4 h.0 h.2)

  pub turns : (r : Option Ending) → Resumes r 0 e stack3 frame1 stack4 frame4 → IsFit live3 stack4 → TurnsTo r front p k row f a m course told2 live3 stack4 frame4 asker3 budget3
  turns r h fit =
      resumed r (h c.low [] a3 live3 budget3 m3 (end_of_outcome s o) (sv.left ∙ sym (append-nil c.low)) refl (end_for sv.is.programs o.world e o.answer (after s o) sv.is.answer) waits) fit
