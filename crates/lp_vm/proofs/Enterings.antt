-- A function is entered, runs and ends; and one turn after another.
use Rattle.std.proofs.Common.{◌≡◌, ◌∙◌, ◌++◌, ◌+◌, ◌-◌, ℕ, List, Option, Some, None, refl, ap, sym, subst, length, length-append, take, arith, append-nil}
use Rattle.std.specs.Prelude.{pos}
use Rattle.std.specs.Option.{option_map}
use Rattle.std.proofs.Math.Seq.{take-append_seam}
use Rattle.lp_values.specs.declared.id.ObjId.{ObjId}
use Rattle.lp_values.specs.declared.value.Value.{Value}
use Rattle.lp_values.specs.declared.value.Value.TheVariants as values
use Rattle.lp_code.specs.declared.program.RawProgram.{RawProgram}
use Rattle.lp_events.specs.declared.out.Out.{Out}
use Rattle.lp_swapfile.specs.Device.{Bytes}
use Rattle.lp_language.specs.World.{Keeps, World, version_at}
use Rattle.lp_language.specs.Course as course
use Rattle.lp_language.specs.Course.{Ask, Course, End, Gives, Plain, Reply, Stops, outcome_of, zero_value}
use Rattle.lp_language.specs.Resolve.{Part, heritage_of, number_of, or_else, without_c}
use Rattle.lp_meaning.specs.Askers.{state_of}
use Rattle.lp_meaning.specs.Closing.{Ends}
use Rattle.lp_meaning.specs.FrontEnd.{FrontEnd}
use Rattle.lp_meaning.specs.FunctionCalls.{nothing_called, part_of, part_or_whole, place_of, placed_end, placed_stop}
use Rattle.lp_meaning.specs.Questions.{means}
use Rattle.lp_meaning.proofs.Kept.{outcomes_can_be}
use Rattle.lp_world.specs.declared.frame.Frame.{Frame}
use Rattle.lp_world.specs.declared.live.Live.{Live}
use Rattle.lp_world.specs.Matches.{Around}
use Rattle.lp_frames.specs.Returns.{back_in}
use Rattle.lp_run.specs.Runs.{CanRun}
use Rattle.lp_asking.specs.declared.asker.Asker.{Asker}
use Rattle.lp_vm.specs.declared.entering.Begun.TheVariants as begun
use Rattle.lp_asking.specs.declared.ending.Ending.{Ending}
use Rattle.lp_asking.specs.declared.ending.Ending.TheVariants as endings
use Rattle.lp_asking.specs.declared.ending.Place.{Place}
use Rattle.lp_reaching.specs.declared.reached.Reached.{Reached}
use Rattle.lp_frames.specs.declared.entry.Callee.{Callee}
use Rattle.lp_reaching.specs.Subjects.{Subject, calling_subject, part_of_subject, site_of_subject}
use Rattle.lp_reaching.specs.Reaching.{IsInMemory, Reaches}
use Rattle.lp_efuns.specs.Turns.{commands_of}
use Rattle.lp_asking.specs.Beginning.{IsPlaced}
use Rattle.lp_asking.specs.Endings.{IsPlace, IsPlaceIf, plain_end}
use Rattle.lp_asking.proofs.Courses.{has_of, over_ends}
use Rattle.lp_vm.specs.declared.request.Request.TheVariants as requests
use Rattle.lp_vm.specs.Answering.{Begins, CanServe, Entered, IsAsked, IsCalled, Served}
use Rattle.lp_vm.specs.Going.{CanGo, Continues, IsLater, IsOutcome, Went}
use Rattle.lp_vm.proofs.Beginnings.{below_is}
use Rattle.lp_vm.proofs.Carried.{as_many_there, name_stays, object_there, path_stays}
use Rattle.lp_vm.proofs.Grown.{grows_same, grows_trans, outcome_grown, place_grown}

-- The place of a stop

place_given : (programs : List RawProgram) (w : World) (mine : Place) (its : course.Place) (at : Option Place) (x : Option course.Place) → IsPlace programs w mine its → IsPlaceIf programs w at x → IsPlaceIf programs w (or_else at (Some mine)) (or_else x (Some its))
place_given programs w mine its None None p h = p
place_given programs w mine its None (Some x) p h = absurd h
place_given programs w mine its (Some at) None p h = absurd h
place_given programs w mine its (Some at) (Some x) p h = h

-- an outcome whose stop has the function's place
placed_outcome : (told : Option Bytes) (programs : List RawProgram) (before : List Out) (live : Live) (asker : Asker) (budget : ℕ) (e given : Ending) (mine : Place) (its : course.Place) (end : End Value)
    → ((w : World) → w ≡ (outcome_of (plain_end end)).world → IsPlace programs w mine its) → IsPlaced mine e given
    → IsOutcome told programs before live asker budget e (outcome_of (plain_end end)) → IsOutcome told programs before live asker budget given (outcome_of (plain_end (placed_end its end)))
placed_outcome told programs before live asker budget (endings.Value v) given mine its (Gives u s) place is h =
    subst (λ x. IsOutcome told programs before live asker budget x (outcome_of (plain_end (Gives u s)))) (sym is) h
placed_outcome told programs before live asker budget (endings.Value v) given mine its (Stops x s) place is h = absurd h.answer
placed_outcome told programs before live asker budget (endings.Stopped stop) given mine its (Gives u s) place is h = absurd h.answer
placed_outcome told programs before live asker budget (endings.Stopped stop) given mine its (Stops x s) place is h =
    subst (λ z. IsOutcome told programs before live asker budget z (outcome_of (plain_end (Stops (placed_stop (Some its) x) s)))) (sym is)
    (record {
      programs = h.programs;
      grown = h.grown;
      world = h.world;
      left = h.left;
      player = h.player;
      commands = h.commands;
      outputs = h.outputs;
      answer = record { cause = h.answer.cause; place = place_given h.programs s.world mine its stop.place x.place (place_grown programs h.programs s.world mine its h.grown (place s.world refl)) h.answer.place };
    })

other_asker : (told : Option Bytes) (programs : List RawProgram) (before : List Out) (live : Live) (asker0 asker1 : Asker) (budget : ℕ) (e : Ending) (o : course.Outcome) → asker1.turn ≡ asker0.turn
    → IsOutcome told programs before live asker0 budget e o → IsOutcome told programs before live asker1 budget e o
other_asker told programs before live asker0 asker1 budget e o same h = record {
  programs = h.programs;
  grown = h.grown;
  world = h.world;
  left = h.left;
  player = h.player ∙ ap (λ t. t.player) (sym same);
  commands = h.commands ∙ ap (λ t. commands_of t.commands.items) (sym same);
  outputs = h.outputs;
  answer = h.answer;
}

pub kept_by : (front : FrontEnd) (a : Ask) (c : Course Reply) (e : End Reply) → means a ≡ Some c → Ends front c e → Keeps a.world (outcome_of e).world
kept_by front a c e m h = (outcomes_can_be front a (outcome_of e) (has_of front a c e m h)).keeps

world_of_end : (its : course.Place) (e : End Value) → (outcome_of (plain_end (placed_end its e))).world ≡ (outcome_of (plain_end e)).world
world_of_end its (Gives v s) = refl
world_of_end its (Stops x s) = refl

-- the place of a function that was called, in a later world
place_so : (told : Option Bytes) (programs : List RawProgram) (live : Live) (w : World) (a : Ask) (stack below : List Value) (asker : Asker) (args budget : ℕ) (callee : Callee) (code : RawProgram) (caller : Option ObjId) (callers : List ObjId) (subject : Subject)
    → IsAsked told programs live stack below asker args budget a → IsCalled programs asker a callee code caller callers subject → IsInMemory live callee code → Keeps a.world w
    → IsPlace programs w (record { this = callee.this; program = callee.program; fun = callee.fun }) (place_of a.world (site_of_subject a callee.this callers subject).scene)
place_so told programs live w a stack below asker args budget callee code caller callers subject h called memory keeps =
    let c = called.callee_is in
    let version : callee.program ≡ number_of (part_of a.world callee.this (part_of_subject subject)).tree = c.program ∙ ap (λ (p : Part). number_of p.tree) (sym (ap (part_or_whole (heritage_of a.world callee.this)) c.at)) in
    record {
      raw = c.code;
      is = c.is;
      function = ap (option_map (λ r. r.name)) c.found ∙ ap Some c.name;
      program = ap (λ v. without_c (version_at a.world v).path) (sym version) ∙ ap without_c (sym (path_stays a.world w callee.program keeps (as_many_there programs a.world.versions callee.program.0 c.code h.world.compiled.whole c.is)));
      object = sym (name_stays a.world w callee.this keeps (object_there told programs live a.world callee.this (callee.base + length code.tables.vars) h.world.stands memory.variables));
    }

-- A function that began, ran and ended was called.
pub entered_ran : (live0 live1 live2 : Live) (stack0 stack1 stack2 stack3 : List Value) (frame : Frame) (asker0 asker1 asker2 asker3 : Asker) (callee : Callee) (code : RawProgram) (caller : Option ObjId) (args budget0 budget1 budget2 bottom : ℕ) (told0 told1 : Option Bytes) (e given : Ending)
    → Begins (begun.Runs frame) callee code caller args live0 stack0 asker0 budget0 live1 stack1 asker1 budget1 → Went told0 live1 stack1 frame asker1 budget1 told1 live2 stack2 asker2 budget2 e
    → IsInMemory live0 callee code → bottom ≡ length stack0 - args → stack3 ≡ take bottom stack2 → asker3.turn ≡ asker2.turn
    → IsPlaced (record { this = callee.this; program = callee.program; fun = callee.fun }) e given
    → Entered callee code caller args told0 live0 stack0 asker0 budget0 told1 live2 stack3 asker3 budget2 given
entered_ran live0 live1 live2 stack0 stack1 stack2 stack3 frame asker0 asker1 asker2 asker3 callee code caller args budget0 budget1 budget2 bottom told0 told1 e given begins went memory low cut turn is front real programs a callers subject below h called =
    let b = begins front real told0 programs a callers subject below h called in
    let x = went front real b.p b.k b.row b.function b.around b.moment b.body b.going in
    let its = place_of a.world (site_of_subject a callee.this callers subject).scene in
    let ends : Ends front (calling_subject a callee.this callers subject) (plain_end (placed_end its x.end)) = b.back x.end x.ends in
    let keeps = subst (Keeps a.world) (world_of_end its x.end) (kept_by front a (calling_subject a callee.this callers subject) (plain_end (placed_end its x.end)) called.means_it ends) in
    let lower : bottom ≡ length below = omega (arith, low, ap length h.lies, length-append below a.arguments, h.many) in
    record {
      end = plain_end (placed_end its x.end);
      ends = ends;
      is = other_asker told1 programs live0.outputs live2 asker2 asker3 budget2 given (outcome_of (plain_end (placed_end its x.end))) turn
          (placed_outcome told1 programs live0.outputs live2 asker2 budget2 e given (record { this = callee.this; program = callee.program; fun = callee.fun }) its x.end
          (λ w same. subst (λ u. IsPlace programs u (record { this = callee.this; program = callee.program; fun = callee.fun }) its) (sym same) (place_so told0 programs live0 (outcome_of (plain_end x.end)).world a stack0 below asker0 args budget0 callee code caller callers subject h called memory keeps)) is
          (subst (λ o. IsOutcome told1 programs o live2 asker2 budget2 e (outcome_of (plain_end x.end))) b.before_is (subst (λ ps. IsOutcome told1 ps b.around.before live2 asker2 budget2 e (outcome_of (plain_end x.end))) b.programs_are x.is)));
      left = cut ∙ ap (λ s. take bottom s) x.lies ∙ ap (λ l. take bottom (l ++ x.top)) b.below_is ∙ ap (λ n. take n (below ++ x.top)) lower ∙ take-append_seam below x.top;
    }

-- What reaches nothing is answered 0.
pub served_none : (told : Option Bytes) (live : Live) (stack0 stack1 : List Value) (asker : Asker) (args budget : ℕ) → stack1 ≡ take (length stack0 - args) stack0
    → Served (requests.Function None) args told live stack0 asker budget told live stack1 asker budget (endings.Value (values.Int (pos 0)))
served_none told live stack0 stack1 asker args budget t front real programs a below h reached = record {
  outcome = outcome_of (Gives (Plain zero_value) (state_of a));
  has = has_of front a (nothing_called a) (Gives (Plain zero_value) (state_of a)) reached.0 (over_ends front (Gives (Plain zero_value) (state_of a)));
  is = record { programs = programs; grown = grows_same programs; world = h.world; left = h.left; player = h.by.player; commands = h.by.commands; outputs = sym (append-nil live.outputs); answer = refl };
  left = below_is stack0 stack1 below a.arguments args h.lies h.many t;
}

-- What reaches a function is a call of it.
pub called_so : (told : Option Bytes) (programs : List RawProgram) (live : Live) (asker : Asker) (a : Ask) (x : Reached) → (r : Reaches told programs live asker a x) → IsCalled programs asker a x.callee x.code x.caller r.callers r.subject
called_so told programs live asker a x r = record { means_it = r.means_it; callers_are = r.callers_are; callee_is = r.callee; code_is = r.code }

-- What reaches a function is answered as its call.
pub served_some : (live0 live1 : Live) (stack0 stack1 : List Value) (asker0 asker1 : Asker) (x : Reached) (args budget0 budget1 : ℕ) (told0 told1 : Option Bytes) (e : Ending)
    → Entered x.callee x.code x.caller args told0 live0 stack0 asker0 budget0 told1 live1 stack1 asker1 budget1 e → Served (requests.Function (Some x)) args told0 live0 stack0 asker0 budget0 told1 live1 stack1 asker1 budget1 e
served_some live0 live1 stack0 stack1 asker0 asker1 x args budget0 budget1 told0 told1 e entered front real programs a below h r =
    let t = entered front real programs a r.callers r.subject below h (called_so told0 programs live0 asker0 a x r) in
    record { outcome = outcome_of t.end; has = has_of front a (calling_subject a x.callee.this r.callers r.subject) t.end r.means_it t.ends; is = t.is; left = t.left }

-- A function that began can go, where its call could be served.
pub can_go : (told : Option Bytes) (live0 live1 : Live) (stack0 stack1 : List Value) (frame : Frame) (asker0 asker1 : Asker) (x : Reached) (args budget0 budget1 : ℕ)
    → CanServe told live0 stack0 asker0 budget0 (requests.Function (Some x)) args → Begins (begun.Runs frame) x.callee x.code x.caller args live0 stack0 asker0 budget0 live1 stack1 asker1 budget1 → CanGo told live1 stack1 frame asker1 budget1
can_go told live0 live1 stack0 stack1 frame asker0 asker1 x args budget0 budget1 h begins =
    let b = begins h.front h.real told h.programs h.ask h.is.callers h.is.subject h.below h.asked (called_so told h.programs live0 asker0 h.ask x h.is) in
    record { front = h.front; real = h.real; p = b.p; k = b.k; row = b.row; function = b.function; around = b.around; moment = b.moment; course = b.body; going = b.going }

-- One turn after another

later_same : (a : Around) → IsLater a a
later_same a = record { same = refl; programs = grows_same a.programs }

later_trans : (a b c : Around) → IsLater a b → IsLater b c → IsLater a c
later_trans a b c h k = record { same = k.same ∙ ap (λ x. back_in x c) h.same; programs = grows_trans a.programs b.programs c.programs h.programs k.programs }

-- none so far
pub goes_on_same : (told : Option Bytes) (live : Live) (stack : List Value) (frame : Frame) (asker : Asker) (budget : ℕ) → Continues told live stack frame asker budget told live stack frame asker budget
goes_on_same told live stack frame asker budget front real p k row f a m course g = record { around = a; moment = m; rest = course; later = later_same a; going = g; back = λ e h. h }

-- one more
pub goes_on_more : (told0 told1 told2 : Option Bytes) (live0 live1 live2 : Live) (stack0 stack1 stack2 : List Value) (frame0 frame1 frame2 : Frame) (asker0 asker1 asker2 : Asker) (budget0 budget1 budget2 : ℕ)
    → Continues told0 live0 stack0 frame0 asker0 budget0 told1 live1 stack1 frame1 asker1 budget1 → Continues told1 live1 stack1 frame1 asker1 budget1 told2 live2 stack2 frame2 asker2 budget2
    → Continues told0 live0 stack0 frame0 asker0 budget0 told2 live2 stack2 frame2 asker2 budget2
goes_on_more told0 told1 told2 live0 live1 live2 stack0 stack1 stack2 frame0 frame1 frame2 asker0 asker1 asker2 budget0 budget1 budget2 h n front real p k row f a m course g =
    let x = h front real p k row f a m course g in
    let y = n front real p k row f x.around x.moment x.rest x.going in
    record { around = y.around; moment = y.moment; rest = y.rest; later = later_trans a x.around y.around x.later y.later; going = y.going; back = λ e l. x.back e (y.back e l) }

-- and the end
pub goes_to_end : (told0 told1 told2 : Option Bytes) (live0 live1 live2 : Live) (stack0 stack1 stack2 : List Value) (frame0 frame1 : Frame) (asker0 asker1 asker2 : Asker) (budget0 budget1 budget2 : ℕ) (e : Ending)
    → Continues told0 live0 stack0 frame0 asker0 budget0 told1 live1 stack1 frame1 asker1 budget1 → Went told1 live1 stack1 frame1 asker1 budget1 told2 live2 stack2 asker2 budget2 e → Went told0 live0 stack0 frame0 asker0 budget0 told2 live2 stack2 asker2 budget2 e
goes_to_end told0 told1 told2 live0 live1 live2 stack0 stack1 stack2 frame0 frame1 asker0 asker1 asker2 budget0 budget1 budget2 e h w front real p k row f a m course g =
    let x = h front real p k row f a m course g in
    let y = w front real p k row f x.around x.moment x.rest x.going in
    record {
      end = y.end;
      ends = x.back y.end y.ends;
      is = subst (λ b. IsOutcome told2 a.programs b live2 asker2 budget2 e (outcome_of (plain_end y.end))) (ap (λ b. b.before) x.later.same) (outcome_grown told2 a.programs x.around.programs x.around.before live2 asker2 budget2 e (outcome_of (plain_end y.end)) x.later.programs y.is);
      top = y.top;
      lies = y.lies ∙ ap (λ (b : Around). b.below ++ y.top) x.later.same;
    }

-- it can go on
pub can_go_on : (told0 told1 : Option Bytes) (live0 live1 : Live) (stack0 stack1 : List Value) (frame0 frame1 : Frame) (asker0 asker1 : Asker) (budget0 budget1 : ℕ) → CanGo told0 live0 stack0 frame0 asker0 budget0
    → Continues told0 live0 stack0 frame0 asker0 budget0 told1 live1 stack1 frame1 asker1 budget1 → CanGo told1 live1 stack1 frame1 asker1 budget1
can_go_on told0 told1 live0 live1 stack0 stack1 frame0 frame1 asker0 asker1 budget0 budget1 h c =
    let x = c h.front h.real h.p h.k h.row h.function h.around h.moment h.course h.going in
    record { front = h.front; real = h.real; p = h.p; k = h.k; row = h.row; function = h.function; around = x.around; moment = x.moment; course = x.rest; going = x.going }

-- instructions can be carried out
pub can_run : (told : Option Bytes) (live : Live) (stack : List Value) (frame : Frame) (asker : Asker) (budget : ℕ) → CanGo told live stack frame asker budget → CanRun live stack frame budget
can_run told live stack frame asker budget h = record { p = h.p; k = h.k; row = h.row; function = h.function; around = h.around; moment = h.moment; of = h.going.of; runs = h.going.runs }
