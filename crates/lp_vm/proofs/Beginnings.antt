-- A function begins.
use Rattle.std.proofs.Common.{◌≡◌, ◌∙◌, ◌++◌, [], ◌+◌, ◌-◌, ◌<◌, ◌≤◌, ◌^◌, ℕ, zero, suc, Bool, true, false, List, Option, Some, None, All, refl, ap, sym, subst, length, length-append, map, take, drop, replicate, slice_get, append-nil, arith}
use Rattle.std.specs.Prelude.{nat_lt, reverse}
use Rattle.std.specs.Option.{option_map}
use Rattle.std.proofs.lemmas.Bool.{ltb-false, ltb-true}
use Rattle.std.proofs.Math.Seq.{take-append_seam}
use Rattle.std.proofs.lemmas.List.Elements.{All-append, All-cons, All-drop, All-nil, All-take}
use Rattle.lp_cells.specs.Cells.{IsThere}
use Rattle.lp_values.specs.declared.error.ErrorKind.TheVariants.{TooDeep}
use Rattle.lp_values.specs.Errors.{plain}
use Rattle.lp_values.specs.declared.id.ObjId.{ObjId}
use Rattle.lp_values.specs.declared.value.Value.{Value}
use Rattle.lp_code.specs.declared.program.RawProgram.{RawProgram}
use Rattle.lp_code.specs.Programs.{FindsRows, IsFunction}
use Rattle.lp_swapfile.specs.Device.{Bytes}
use Rattle.lp_language.specs.World.{World}
use Rattle.lp_language.specs.Course as course
use Rattle.lp_language.specs.Course.{Ask, Over, State, Stops, here, zero_value}
use Rattle.lp_language.specs.Eval.{Site}
use Rattle.lp_language.specs.Resolve.{Part, heritage_of, number_of, part_at}
use Rattle.lp_instr.specs.Code.{Code}
use Rattle.lp_isa.specs.Machine.{Goes, goes}
use Rattle.lp_isa.specs.Runs.{Does}
use Rattle.lp_sim.proofs.Stmts.{init_follows}
use Rattle.lp_sim.proofs.Whole.{does_so, follows_does}
use Rattle.lp_meaning.specs.Askers.{plainly}
use Rattle.lp_meaning.specs.Closing.{Ends}
use Rattle.lp_meaning.specs.FrontEnd.{FrontEnd}
use Rattle.lp_meaning.specs.FunctionCalls.{entering, part_of, part_or_whole}
use Rattle.lp_meaning.specs.Limits.{max_depth}
use Rattle.lp_meaning.specs.WorldSteps.{entered}
use Rattle.lp_world.specs.declared.frame.Frame.{Frame}
use Rattle.lp_world.specs.declared.live.Live.{Live}
use Rattle.lp_world.specs.Matches.{Around}
use Rattle.lp_world.specs.Rows.{variables_at}
use Rattle.lp_step.specs.Steps.{IsFit}
use Rattle.lp_step_laws.specs.Running.{HasVariables}
use Rattle.lp_frames.specs.Entries.{IsAround, IsOfRow, Opens, RunsFrom, begins, begun_locals}
use Rattle.lp_frames.specs.declared.entry.Callee.{Callee}
use Rattle.lp_asking.specs.declared.asker.Asker.{Asker}
use Rattle.lp_vm.specs.declared.entering.Begun.TheVariants as begun
use Rattle.lp_asking.specs.declared.ending.Ending.TheVariants as endings
use Rattle.lp_asking.specs.declared.ending.Place.{Place}
use Rattle.lp_asking.specs.declared.ending.Stop.{Stop}
use Rattle.lp_targets.specs.Callees.{IsWorldOf}
use Rattle.lp_reaching.specs.Compiled.{IsCaller}
use Rattle.lp_reaching.specs.Subjects.{Subject, OfFunction, OfInitialisers, MakesSubject, body_of_subject, calling_subject, first_locals_of, part_of_subject, site_of_subject, start_of_subject}
use Rattle.lp_reaching.specs.Reaching.{Marks}
use Rattle.lp_efuns.specs.Turns.{commands_of}
use Rattle.lp_asking.specs.Asking.{code_in, loading_of, rows_in}
use Rattle.lp_asking.specs.Beginning.{HasCaller}
use Rattle.lp_asking.specs.Endings.{IsPlaceIf, cause_of}
use Rattle.lp_asking.proofs.Courses.{call_ends, entering_deep, entering_spent, over_ends, paid_one}
use Rattle.lp_vm.specs.Answering.{Answered, Begins, IsAsked}
use Rattle.lp_vm.proofs.Grown.{grows_same}

-- Numbers

pub not_less : (m n : ℕ) → n ≤ m → nat_lt m n ≡ false
not_less m n h = by (nat_lt m n) refl
  where
    by : (b : Bool) → nat_lt m n ≡ b → nat_lt m n ≡ false
    by true e = let l = ltb-true m n e in absurd (omega (arith, l, h))
    by false e = e

pub is_less : (m n : ℕ) → m < n → nat_lt m n ≡ true
is_less m n h = by (nat_lt m n) refl
  where
    by : (b : Bool) → nat_lt m n ≡ b → nat_lt m n ≡ true
    by true e = e
    by false e = let l = ltb-false m n e in absurd (omega (arith, l, h))

-- the arguments are gone
pub below_is : (stack0 stack1 below xs : List Value) (n : ℕ) → stack0 ≡ below ++ xs → length xs ≡ n → stack1 ≡ take (length stack0 - n) stack0 → stack1 ≡ below
below_is stack0 stack1 below xs n e l t =
    let k : length stack0 - n ≡ length below = omega (arith, l, ap length e, length-append below xs) in
    t ∙ ap (λ j. take j stack0) k ∙ ap (λ s. take (length below) s) e ∙ take-append_seam below xs

-- Where it does not begin

module _ (front : FrontEnd) (told : Option Bytes) (programs : List RawProgram) (a : Ask) (o : ObjId) (callers : List ObjId) (subject : Subject) where
  abbrev site : Site
  site = site_of_subject a o callers subject

  abbrev start : State
  start = start_of_subject a subject

  -- the outcome of a call that was not begun
  unbegun : (live : Live) (stack0 stack1 below : List Value) (asker : Asker) (args budget0 budget1 : ℕ) (stop : Stop) (x : course.Cause) (s : State)
      → IsAsked told programs live stack0 below asker args budget0 a → cause_of stop.cause ≡ x → stop.place ≡ None → budget1 ≡ s.budget → s.player ≡ a.player → s.commands ≡ a.commands → s.world ≡ a.world → s.outputs ≡ []
      → stack1 ≡ take (length stack0 - args) stack0 → entering site.scene (body_of_subject site subject) start ≡ Over (Stops (here x) s)
      → Answered front (calling_subject a o callers subject) told programs live.outputs live stack1 below asker budget1 (endings.Stopped stop)
  unbegun live stack0 stack1 below asker args budget0 budget1 stop x s h c none left player commands world outs t e = record {
    end = Stops (here x) s;
    ends = subst (λ t. Ends front t (Stops (here x) s)) (sym (ap plainly e)) (over_ends front (Stops (here x) s));
    is = record {
      programs = programs;
      grown = grows_same programs;
      world = subst (IsWorldOf told programs live) (sym world) h.world;
      left = left;
      player = player ∙ h.by.player;
      commands = commands ∙ h.by.commands;
      outputs = sym (append-nil live.outputs) ∙ ap (λ l. live.outputs ++ l) (sym outs);
      answer = record { cause = c; place = no_place stop.place none };
    };
    left = below_is stack0 stack1 below a.arguments args h.lies h.many t;
  }
    where
      no_place : (p : Option Place) → p ≡ None → IsPlaceIf programs s.world p None
      no_place None e = tt
      no_place (Some p) e = absurd (cc)

-- nothing is left to pay with
pub begins_spent : (live : Live) (stack0 stack1 : List Value) (asker : Asker) (callee : Callee) (code : RawProgram) (caller : Option ObjId) (args budget0 budget1 : ℕ) (stop : Stop) → budget0 ≡ 0 → budget1 ≡ 0 → cause_of stop.cause ≡ course.Spent → stop.place ≡ None
    → stack1 ≡ take (length stack0 - args) stack0 → Begins (begun.Stopped stop) callee code caller args live stack0 asker budget0 live stack1 asker budget1
begins_spent live stack0 stack1 asker callee code caller args budget0 budget1 stop z0 z1 c none t front real told programs a callers subject below h called =
    let s : State = record (start front told programs a callee.this callers subject) { budget = 0 } in
    unbegun front told programs a callee.this callers subject live stack0 stack1 below asker args budget0 budget1 stop course.Spent s h c none z1 refl refl refl refl t
    (entering_spent (site front told programs a callee.this callers subject).scene (body_of_subject (site front told programs a callee.this callers subject) subject) (start front told programs a callee.this callers subject)
    (is_less a.budget 1 (omega (arith, z0, h.left))))

-- it would lie too deep
pub begins_deep : (live : Live) (stack0 stack1 : List Value) (asker : Asker) (callee : Callee) (code : RawProgram) (caller : Option ObjId) (args budget0 budget1 : ℕ) (stop : Stop) → budget0 ≡ budget1 + 1 → 100 ≤ asker.depth → cause_of stop.cause ≡ course.Failed (plain TooDeep)
    → stop.place ≡ None → stack1 ≡ take (length stack0 - args) stack0 → Begins (begun.Stopped stop) callee code caller args live stack0 asker budget0 live stack1 asker budget1
begins_deep live stack0 stack1 asker callee code caller args budget0 budget1 stop p deep c none t front real told programs a callers subject below h called =
    let s : State = paid_one (start front told programs a callee.this callers subject) in
    let left : budget1 ≡ a.budget - 1 = omega (arith, p, h.left) in
    unbegun front told programs a callee.this callers subject live stack0 stack1 below asker args budget0 budget1 stop (course.Failed (plain TooDeep)) s h c none left refl refl refl refl t
    (entering_deep (site front told programs a callee.this callers subject).scene (body_of_subject (site front told programs a callee.this callers subject) subject) (start front told programs a callee.this callers subject)
    (not_less a.budget 1 (omega (arith, p, h.left))) (is_less max_depth (site front told programs a callee.this callers subject).scene.depth (omega (arith, deep, h.by.depth))))

-- Where it begins

part_is : (w : World) (o : ObjId) (n : ℕ) (place : Part) → part_at (heritage_of w o) n ≡ Some place → part_of w o n ≡ place
part_is w o n place e = ap (part_or_whole (heritage_of w o)) e

-- The machine does what is called, where its code stands.
subject_does : (k : Site) (subject : Subject) (code : Code) (from : ℕ) (s : State) → MakesSubject k.tree subject code from → Does code k.scene (goes from [] [] s) (body_of_subject k subject s)
subject_does k (OfFunction f) code from s makes = does_so k f.function code from s makes
subject_does k (OfInitialisers n) code from s makes = follows_does code k.scene (body_of_subject k (OfInitialisers n) s) (goes from [] [] s) (init_follows code k from s makes)

pub begins_runs : (live0 live2 : Live) (stack0 stack1 : List Value) (frame : Frame) (asker0 asker1 : Asker) (callee : Callee) (code : RawProgram) (caller : Option ObjId) (args budget0 budget1 : ℕ)
    → budget0 ≡ budget1 + 1 → asker0.depth < 100 → HasCaller caller asker0 asker1
    → ((told : Option Bytes) (programs : List RawProgram) (w : World) → IsWorldOf told programs live0 w → Marks told programs live2 w (entered w callee.this callee.program)) → live2.outputs ≡ live0.outputs
    → IsFit live2 stack0 → HasVariables (variables_at live2.objects callee.this) (callee.base + length code.tables.vars)
    → RunsFrom code callee args stack0 stack1 frame → IsOfRow code callee args stack0
    → Begins (begun.Runs frame) callee code caller args live0 stack0 asker0 budget0 live2 stack1 asker1 budget1
begins_runs live0 live2 stack0 stack1 frame asker0 asker1 callee code caller args budget0 budget1 paid high has marks outs fit home runs of front real told programs a callers subject below h called =
    let c = called.callee_is in
    let same : c.code ≡ code = called.code_is in
    let at : part_of a.world callee.this (part_of_subject subject) ≡ c.place = part_is a.world callee.this (part_of_subject subject) c.place c.at in
    let k : Site = site_of_subject a callee.this callers subject in
    let version : callee.program ≡ k.scene.version = c.program ∙ ap (λ (p : Part). number_of p.tree) (sym at) in
    let base : callee.base ≡ k.scene.base = c.base ∙ ap (λ (p : Part). p.base) (sym at) in
    let found : slice_get code.funs callee.fun ≡ Some c.row = ap (λ q. slice_get q.funs callee.fun) (sym same) ∙ c.found in
    let is_code : slice_get programs callee.program.0 ≡ Some code = c.is ∙ ap Some same in
    let around : Around = record {
      told = told;
      programs = programs;
      code = code_in programs code;
      scene = k.scene;
      below = below;
      locals = c.row.locals;
      variables = length code.tables.vars;
      before = live0.outputs;
      player = asker1.turn.player;
      commands = commands_of asker1.turn.commands.items;
    } in
    let is_around : IsAround around callee code c.row = record {
      found = found;
      belongs = record {
        this = refl;
        version = version;
        part = c.part;
        base = base;
        function = ap (option_map (λ r. r.name)) found ∙ ap Some c.name;
        program = is_code;
        code = refl;
      };
      locals = refl;
    } in
    let first : State = start_of_subject a subject in
    let s : State = record (paid_one first) { world = entered a.world k.scene.this k.scene.version } in
    let marked : Marks told programs live2 a.world s.world = subst (λ v. Marks told programs live2 a.world (entered a.world callee.this v)) version (marks told programs a.world h.world) in
    let opens : Opens around live2 budget1 s = record {
      stands = marked.world.stands;
      left = omega (arith, paid, h.left);
      outputs = outs ∙ sym (append-nil live0.outputs);
      player = h.by.player ∙ ap (λ t. t.player) (sym has.turn);
      commands = h.by.commands ∙ ap (λ t. commands_of t.commands.items) (sym has.turn);
    } in
    let fun : IsFunction code callee.fun c.row = subst (λ q. IsFunction q callee.fun c.row) same (c.sound.functions callee.fun c.row c.found) in
    let locals : begun_locals c.row.params c.row.locals a.arguments ≡ first_locals_of subject a.arguments = c.locals a.arguments in
    let rows = subst (λ q. FindsRows q (rows_in programs q)) same c.rows in
    let makes = subst (λ (p : Part). MakesSubject p.tree subject (code_in programs code) c.row.from) (sym at) (subst (λ q. MakesSubject c.place.tree subject (code_in programs q) c.row.from) same c.makes) in
    record {
      p = code;
      k = callee.fun;
      row = c.row;
      function = fun;
      around = around;
      moment = begins c.row a.arguments s;
      body = body_of_subject k subject s;
      going = record {
        of = of c.row around a.arguments is_around h.lies h.many refl rows (subst (λ q. length q.instrs < 2 ^ 32) same c.places);
        runs = runs c.row fun around a.arguments live2 budget1 s is_around h.lies h.many opens rows fit (subst (λ n. HasVariables (variables_at live2.objects callee.this) (n + length code.tables.vars)) base home);
        by = record {
          interactive = h.by.interactive ∙ sym has.interactive;
          loads = h.by.loads ∙ ap (λ ls. map loading_of (reverse ls.items)) (sym has.loads);
          callers = called.callers_are ∙ ap reverse (sym has.callers);
          depth = h.by.depth ∙ sym has.depth;
        };
        told_is = refl;
        player = refl;
        commands = refl;
        compiled = marked.world.compiled;
        shadows = marked.world.shadows;
        caller = subst (λ n. IsCaller programs s.world callee.this n code) c.part (subst (IsCaller programs s.world callee.this callee.part) same (marked.callers callee.this callee.part c.code c.caller));
        code = refl;
        does =
            subst (λ ls. Does around.code k.scene (Goes (record { place = c.row.from; stack = []; catches = []; state = record s { locals = ls } })) (body_of_subject k subject s)) (sym locals)
            (subject_does k subject (code_in programs code) c.row.from s makes);
      };
      below_is = refl;
      before_is = refl;
      programs_are = refl;
      back = λ e ends. call_ends front k.scene (body_of_subject k subject) first e (not_less a.budget 1 (omega (arith, paid, h.left))) (not_less max_depth k.scene.depth (omega (arith, high, h.by.depth))) ends;
    }

-- What lies on the stack then is there.
zeros_there : (live : Live) (n : ℕ) → All (IsThere live.cells) (replicate n zero_value)
zeros_there live zero = All-nil (IsThere live.cells)
zeros_there live (suc n) = All-cons (IsThere live.cells) zero_value (replicate n zero_value) tt (zeros_there live n)

pub entered_fit : (live : Live) (stack0 stack1 : List Value) (bottom params locals : ℕ) → stack1 ≡ take bottom stack0 ++ begun_locals params locals (drop bottom stack0) → IsFit live stack0 → IsFit live stack1
entered_fit live stack0 stack1 bottom params locals new f = record {
  closed = f.closed;
  there = subst (All (IsThere live.cells)) (sym new)
      (All-append (IsThere live.cells) (take bottom stack0) (begun_locals params locals (drop bottom stack0)) (All-take (IsThere live.cells) bottom stack0 f.there)
      (All-append (IsThere live.cells) (take params (drop bottom stack0)) (replicate (locals - length (take params (drop bottom stack0))) zero_value)
      (All-take (IsThere live.cells) params (drop bottom stack0) (All-drop (IsThere live.cells) bottom stack0 f.there)) (zeros_there live (locals - length (take params (drop bottom stack0))))));
}
