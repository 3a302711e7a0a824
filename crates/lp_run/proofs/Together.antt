-- One instruction after another.
use Rattle.std.proofs.Common.{◌≡◌, ◌++◌, ◌∷◌, [], ◌∙◌, ℕ, ◌+◌, ◌<◌, ◌≤◌, List, Option, Result, Ok, Err, IfOk, map, refl, ap, sym, subst, arith}
use Rattle.lp_values.specs.declared.value.Value.{Value}
use Rattle.lp_instr.specs.Code.{Catching, Code}
use Rattle.lp_instr.specs.declared.instr.Instr.{Instr}
use Rattle.lp_language.specs.Course.{Scene}
use Rattle.lp_isa.specs.Machine.{Moment, Next, Goes, Ended, Awaits, Wrong, step}
use Rattle.lp_isa.specs.Runs.{Comes, there, later}
use Rattle.lp_isa.specs.Work.{NextLess, ahead, catches_work, three_to, work, work_of}
use Rattle.lp_world.specs.declared.frame.Catch.{Catch}
use Rattle.lp_world.specs.declared.frame.Frame.{Frame}
use Rattle.lp_world.specs.declared.live.Live.{Live}
use Rattle.lp_world.specs.declared.objects.Object.{Object}
use Rattle.lp_world.specs.Matches.{Around, Matches, catch_of, floor, stacked}
use Rattle.lp_step.specs.declared.fault.StepFault.{StepFault}
use Rattle.lp_step.specs.declared.next.Next.{Next as Led}
use Rattle.lp_step.specs.declared.next.Next.TheVariants as nexts
use Rattle.lp_step.specs.Steps.{CanStep, IsEndThere, IsFit, Keeps, KeepsVariables, Steps, told as told_by}
use Rattle.lp_step_laws.proofs.Found.{can_step}
use Rattle.lp_step_laws.proofs.Going.{goes_on, runs_on}
use Rattle.lp_run.specs.Kept.{NextLater}
use Rattle.lp_run.proofs.Keeping.{fine_next, later_same, later_trans, led_after, machine_keeps}
use Rattle.lp_run.specs.Runs.{CanRun, IsLast, RunsTo, Went, catching_of, left_of, within}

-- One instruction

pub can_go : (live : Live) (stack : List Value) (frame : Frame) (budget : ℕ) → CanRun live stack frame budget → CanStep live stack frame
can_go live stack frame budget h = can_step h.p h.k h.row h.function h.around live stack frame budget h.moment h.of h.runs

pub went : (live0 live1 : Live) (stack0 stack1 : List Value) (frame0 frame1 : Frame) (budget0 budget1 : ℕ) (r : Result Led StepFault)
    → IfOk r (λ n. Steps live0 stack0 frame0 budget0 n live1 stack1 frame1 budget1) → IfOk r (λ n. Keeps live0 stack0 n live1 stack1) → IfOk r (λ n. KeepsVariables live0.objects live1.objects)
    → IfOk r (λ n. Went live0 stack0 frame0 budget0 n live1 stack1 frame1 budget1)
went live0 live1 stack0 stack1 frame0 frame1 budget0 budget1 (Ok n) steps keeps home = λ p k row f a m of runs.
    goes_on p k row f a live0 live1 stack0 stack1 frame0 frame1 budget0 budget1 m n of runs steps keeps home
went live0 live1 stack0 stack1 frame0 frame1 budget0 budget1 (Err f) steps keeps home = tt

pub end_there : (live0 live1 : Live) (stack0 stack1 : List Value) (frame : Frame) (budget : ℕ) (r : Result Led StepFault) → CanRun live0 stack0 frame budget
    → IfOk r (λ n. Keeps live0 stack0 n live1 stack1) → IfOk r (λ n. IsEndThere live1 n)
end_there live0 live1 stack0 stack1 frame budget (Ok n) can keeps = (keeps can.runs.fit).1
end_there live0 live1 stack0 stack1 frame budget (Err f) can keeps = tt

-- less than that is less than more

pub less_more : (code : Code) (x y : ℕ) (n : Next) → x ≤ y → NextLess code x n → NextLess code y n
less_more code x y (Goes m) l h = omega (arith, l, h)
less_more code x y (Ended e) l h = tt
less_more code x y (Awaits a k) l h = λ o can. less_more code x y (k o) l (h o can)
less_more code x y Wrong l h = tt

within_more : (n : Led) (w : ℕ) → w ≤ within n w
within_more nexts.Again w = omega arith
within_more (nexts.Call c) w = omega arith
within_more (nexts.Back c) w = omega arith
within_more (nexts.Done v) w = omega arith
within_more (nexts.Error e) w = omega arith
within_more nexts.Spent w = omega arith

within_grows : (n : Led) (v w : ℕ) → v ≤ w → within n v ≤ within n w
within_grows nexts.Again v w h = omega (arith, h)
within_grows (nexts.Call c) v w h = h
within_grows (nexts.Back c) v w h = h
within_grows (nexts.Done d) v w h = h
within_grows (nexts.Error e) v w h = h
within_grows nexts.Spent v w h = h

pub comes_trans : (code : Code) (c : Scene) (x y z : Next) → Comes code c x y → Comes code c y z → Comes code c x z
comes_trans code c x _ z there e = e
comes_trans code c _ y z (later k) e = later (comes_trans code c _ y z k e)

-- objects stay in memory

pub home_same : (rows : List (Option Object)) → KeepsVariables rows rows
home_same rows o vs e = (vs, e, refl)

pub home_later : (a b c : List (Option Object)) → KeepsVariables a b → KeepsVariables b c → KeepsVariables a c
home_later a b c h k o vs e =
    let x = h o vs e in
    let y = k o x.0 x.1 in
    (y.0, y.1, y.2 ∙ x.2)

-- Many

-- none so far
pub none_yet : (live : Live) (stack : List Value) (frame : Frame) (budget : ℕ) → RunsTo live stack frame budget nexts.Again live stack frame budget
none_yet live stack frame budget p k row f a m of runs = record {
  moment = m;
  matches = runs.matches;
  comes = there;
  shaped = runs.shaped;
  less = omega arith;
  later = later_same m.state;
  fit = runs.fit;
  home = runs.home;
}

comes_more : (code : Code) (c : Scene) (x y z : Next) (m : Moment) → Comes code c x y → y ≡ Goes m → step code c m ≡ z → Comes code c x z
comes_more code c _ y z m there e s = subst (λ x. Comes code c x z) (sym e) (later (subst (λ w. Comes code c w z) (sym s) there))
comes_more code c _ y z m (later k) e s = later (comes_more code c _ y z m k e s)

-- and one more
pub one_more : (live0 live1 live2 : Live) (stack0 stack1 stack2 : List Value) (frame0 frame1 frame2 : Frame) (budget0 budget1 budget2 : ℕ) (n : Led)
    → RunsTo live0 stack0 frame0 budget0 nexts.Again live1 stack1 frame1 budget1 → Went live1 stack1 frame1 budget1 n live2 stack2 frame2 budget2
    → RunsTo live0 stack0 frame0 budget0 n live2 stack2 frame2 budget2
one_more live0 live1 live2 stack0 stack1 stack2 frame0 frame1 frame2 budget0 budget1 budget2 n came went p k row f a m of runs =
    let c = came p k row f a m of runs in
    let l = went p k row f a c.moment of (record { matches = c.matches; shaped = c.shaped; fit = c.fit; home = c.home }) in
    record {
      moment = l.moment;
      matches = l.matches;
      comes = comes_more a.code a.scene (Goes m) (Goes c.moment) _ c.moment c.comes refl l.told;
      shaped = l.shaped;
      less = less_more a.code (work_of a.code c.moment) (within n (work_of a.code m)) (told_by n a l.moment) (omega (arith, c.less, within_more n (work_of a.code m))) l.less;
      later = later_trans m.state c.moment.state l.moment.state c.later (led_after c.moment.state n a l.moment (fine_next f.shapes (told_by n a l.moment) l.shaped) (subst (NextLater c.moment.state) l.told (machine_keeps a.code a.scene c.moment)));
      fit = l.fit;
      home = l.home;
    }

-- what ran may go on
pub can_again : (live0 live1 : Live) (stack0 stack1 : List Value) (frame0 frame1 : Frame) (budget0 budget1 : ℕ) → CanRun live0 stack0 frame0 budget0 → Went live0 stack0 frame0 budget0 nexts.Again live1 stack1 frame1 budget1 → CanRun live1 stack1 frame1 budget1
can_again live0 live1 stack0 stack1 frame0 frame1 budget0 budget1 h went =
    let r = runs_on h.function.shapes h.around h.moment live1 stack1 frame1 budget1 (went h.p h.k h.row h.function h.around h.moment h.of h.runs) in
    record { p = h.p; k = h.k; row = h.row; function = h.function; around = h.around; moment = r.0; of = h.of; runs = r.2 }

-- Less is left to do

catches_last : (code : List Instr) (left : ℕ) (cs : List Catching) (c : Catching) → catches_work code left (cs ++ c ∷ []) ≡ catches_work code left cs + three_to (ahead code left c.place)
catches_last code left [] c = omega arith
catches_last code left (d ∷ cs) c = omega (arith, catches_last code left cs c)

map_last : (cs : List Catch) (c : Catch) → map catching_of (cs ++ c ∷ []) ≡ map catching_of cs ++ catching_of c ∷ []
map_last [] c = refl
map_last (d ∷ cs) c = ap (λ l. catching_of d ∷ l) (map_last cs c)

catches_same : (code : List Instr) (left n : ℕ) (cs : List Catching) → catches_work code left (map catching_of (stacked n cs)) ≡ catches_work code left cs
catches_same code left n [] = refl
catches_same code left n (c ∷ cs) =
    let t = ap (catches_work code left) (map_last (stacked n cs) (catch_of n c)) in
    omega (arith, t, catches_last code left (map catching_of (stacked n cs)) (catching_of (catch_of n c)), catches_same code left n cs)

pub left_same : (a : Around) (live : Live) (stack : List Value) (frame : Frame) (budget : ℕ) (m : Moment) → Matches a live stack frame budget m → left_of frame budget ≡ work_of a.code m
unfolding work
left_same a live stack frame budget m h =
    ap (λ code. three_to (ahead code budget frame.at) + catches_work code budget (map catching_of frame.catches.items)) (ap (λ c. c.instrs) h.sits.belongs.code)
    ∙ ap (λ k. three_to (ahead a.code.instrs k frame.at) + catches_work a.code.instrs k (map catching_of frame.catches.items)) h.left
    ∙ ap (λ p. three_to (ahead a.code.instrs m.state.budget p) + catches_work a.code.instrs m.state.budget (map catching_of frame.catches.items)) h.sits.place
    ∙ ap (λ cs. three_to (ahead a.code.instrs m.state.budget m.place) + catches_work a.code.instrs m.state.budget (map catching_of cs)) h.sits.catches
    ∙ ap (λ w. three_to (ahead a.code.instrs m.state.budget m.place) + w) (catches_same a.code.instrs m.state.budget (floor a) m.catches)

pub less_left : (live0 live1 : Live) (stack0 stack1 : List Value) (frame0 frame1 : Frame) (budget0 budget1 : ℕ) → CanRun live0 stack0 frame0 budget0 → Went live0 stack0 frame0 budget0 nexts.Again live1 stack1 frame1 budget1
    → left_of frame1 budget1 < left_of frame0 budget0
less_left live0 live1 stack0 stack1 frame0 frame1 budget0 budget1 h went =
    let l = went h.p h.k h.row h.function h.around h.moment h.of h.runs in
    let r = runs_on h.function.shapes h.around h.moment live1 stack1 frame1 budget1 l in
    omega (arith, left_same h.around live0 stack0 frame0 budget0 h.moment h.runs.matches, left_same h.around live1 stack1 frame1 budget1 r.0 r.2.matches, r.3)

pub last_one : (n : Led) → (n ≡ nexts.Again → ⊥) → IsLast n
last_one nexts.Again h = h refl
last_one (nexts.Call c) h = tt
last_one (nexts.Back c) h = tt
last_one (nexts.Done v) h = tt
last_one (nexts.Error e) h = tt
last_one nexts.Spent h = tt

-- What runs many times runs once: from where it came before.
pub and_more : (live0 live1 live2 : Live) (stack0 stack1 stack2 : List Value) (frame0 frame1 frame2 : Frame) (budget0 budget1 budget2 : ℕ) (n : Led)
    → RunsTo live0 stack0 frame0 budget0 nexts.Again live1 stack1 frame1 budget1 → RunsTo live1 stack1 frame1 budget1 n live2 stack2 frame2 budget2
    → RunsTo live0 stack0 frame0 budget0 n live2 stack2 frame2 budget2
and_more live0 live1 live2 stack0 stack1 stack2 frame0 frame1 frame2 budget0 budget1 budget2 n came went p k row f a m of runs =
    let c = came p k row f a m of runs in
    let l = went p k row f a c.moment of (record { matches = c.matches; shaped = c.shaped; fit = c.fit; home = c.home }) in
    record {
      moment = l.moment;
      matches = l.matches;
      comes = comes_trans a.code a.scene (Goes m) (Goes c.moment) (told_by n a l.moment) c.comes l.comes;
      shaped = l.shaped;
      less = less_more a.code (within n (work_of a.code c.moment)) (within n (work_of a.code m)) (told_by n a l.moment) (within_grows n (work_of a.code c.moment) (work_of a.code m) (omega (arith, c.less))) l.less;
      later = later_trans m.state c.moment.state l.moment.state c.later l.later;
      fit = l.fit;
      home = l.home;
    }

-- What stays of a run in every world: it wins no budget, and the state is closed.
pub run_spends : (live0 live1 : Live) (stack0 stack1 : List Value) (frame0 frame1 : Frame) (budget0 budget1 : ℕ) (n : Led) → CanRun live0 stack0 frame0 budget0 → RunsTo live0 stack0 frame0 budget0 n live1 stack1 frame1 budget1 → budget1 ≤ budget0
run_spends live0 live1 stack0 stack1 frame0 frame1 budget0 budget1 n h came =
    let c = came h.p h.k h.row h.function h.around h.moment h.of h.runs in
    let x = c.later.after.no_more in
    omega (arith, x, c.matches.left, h.runs.matches.left)

pub run_fits : (live0 live1 : Live) (stack0 stack1 : List Value) (frame0 frame1 : Frame) (budget0 budget1 : ℕ) (n : Led) → CanRun live0 stack0 frame0 budget0 → RunsTo live0 stack0 frame0 budget0 n live1 stack1 frame1 budget1 → IsFit live1 stack1
run_fits live0 live1 stack0 stack1 frame0 frame1 budget0 budget1 n h came = (came h.p h.k h.row h.function h.around h.moment h.of h.runs).fit
