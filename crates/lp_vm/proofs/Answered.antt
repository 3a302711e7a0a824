-- Efuns of a running function: their questions, and what they are answered.
use Rattle.std.proofs.Common.{◌≡◌, ◌∙◌, ◌++◌, ◌+◌, ◌-◌, ◌≤◌, ℕ, true, List, Option, Some, None, refl, ap, sym, subst, length, length-append, take, drop, unwrap_or, append-nil, arith}
use Rattle.std.specs.Prelude.{reverse}
use Rattle.std.proofs.Math.Nat.{le_trans}
use Rattle.std.proofs.Math.Seq.{drop-append_seam}
use Rattle.lp_values.specs.declared.value.Value.{Value}
use Rattle.lp_code.specs.declared.program.RawProgram.{RawProgram}
use Rattle.lp_instr.specs.declared.efun.Efun.{Efun}
use Rattle.lp_events.specs.declared.out.Out.{Out}
use Rattle.lp_swapfile.specs.Device.{Bytes}
use Rattle.lp_language.specs.World.{World}
use Rattle.lp_language.specs.Course.{Ask, Over, End, Gives, OfEfun, Scene, State, Stops, outcome_of}
use Rattle.lp_meaning.specs.Askers as meaning
use Rattle.lp_meaning.specs.Askers.{asker_of, plainly, state_of}
use Rattle.lp_meaning.specs.Closing.{Ends, Has}
use Rattle.lp_meaning.specs.FrontEnd.{FrontEnd}
use Rattle.lp_meaning.specs.FunctionCalls.{depth_behind, nothing_called}
use Rattle.lp_meaning.specs.Questions.{efun_in, meaning_of, means}
use Rattle.lp_meaning.proofs.Kept.{outcomes_can_be}
use Rattle.lp_world.specs.declared.live.Live.{Live}
use Rattle.lp_step.specs.Steps.{IsFit, KeepsVariables}
use Rattle.lp_efuns.specs.declared.answer.Answer.{Answer}
use Rattle.lp_efuns.specs.declared.answer.Answer.TheVariants as answers
use Rattle.lp_efuns.specs.declared.caller.Caller.{Caller}
use Rattle.lp_efuns.specs.Names.{AreNamed}
use Rattle.lp_efuns.specs.Plain.{CallsEfun, IsEnd, is_plain}
use Rattle.lp_efuns.specs.Turns.{At, IsScene, Setting}
use Rattle.lp_settling.specs.Settling.{EndSettles}
use Rattle.lp_settling.proofs.Still.{efuns_settle}
use Rattle.lp_calling.specs.declared.job.Begun.TheVariants as begun
use Rattle.lp_calling.specs.declared.job.Job.{Job}
use Rattle.lp_calling.specs.Beginning.{Begins, HasBegun, IsOver, Settled, whole}
use Rattle.lp_calling.specs.Jobs.{IsReady, course_of}
use Rattle.lp_calling.proofs.Settled.{end_settled}
use Rattle.lp_targets.specs.Callees.{IsWorldOf}
use Rattle.lp_asking.specs.declared.asker.Asker.{Asker}
use Rattle.lp_asking.specs.declared.ending.Ending.{Ending}
use Rattle.lp_asking.specs.declared.ending.Place.{Place}
use Rattle.lp_asking.specs.Endings.{IsEndingThere, plain_end}
use Rattle.lp_asking.proofs.Courses.{has_of, over_ends, plainly_ends}
use Rattle.lp_vm.specs.declared.efuns.EfunBegun.TheVariants as starts
use Rattle.lp_vm.specs.declared.request.Request.{Request}
use Rattle.lp_vm.specs.declared.request.Request.TheVariants as requests
use Rattle.lp_vm.specs.Answering.{CanServe, IsAsked, IsSameAsker, Served}
use Rattle.lp_vm.specs.Beginning.{CanStart}
use Rattle.lp_vm.specs.Efuns.{HasBegunEfun, StartsEfun, ending_of}
use Rattle.lp_vm.specs.Going.{IsOutcome}
use Rattle.lp_vm.specs.Requests.{AsksEfun}
use Rattle.lp_vm.specs.Working.{IsWorking}
use Rattle.lp_vm.proofs.Beginnings.{below_is}
use Rattle.lp_vm.proofs.Carried.{world_settled}
use Rattle.lp_vm.proofs.Grown.{grows_same}
use Rattle.lp_vm.proofs.Turning.{no_places}

-- The question

-- an end of the efun's course is an outcome that the question has
means_efun : (a : Ask) (e : Efun) (c : Scene) → a.scene ≡ Some c → a.what ≡ OfEfun e → means a ≡ Some (plainly (efun_in e (asker_of a) c a.arguments (state_of a)))
means_efun a e c scene what =
    let asked : meaning_of a a.what ≡ Some (elim a.scene [ Some c ↦ plainly (efun_in e (asker_of a) c a.arguments (state_of a)) | None ↦ nothing_called a ]) = ap (meaning_of a) what in
    asked ∙ ap (λ (s : Option Scene). Some (elim s [ Some c ↦ plainly (efun_in e (asker_of a) c a.arguments (state_of a)) | None ↦ nothing_called a ])) scene

pub efun_has : (front : FrontEnd) (a : Ask) (e : Efun) (c : Scene) (end : End Value) → a.scene ≡ Some c → a.what ≡ OfEfun e → Ends front (efun_in e (asker_of a) c a.arguments (state_of a)) end → Has front a (outcome_of (plain_end end))
efun_has front a e c end scene what h =
    has_of front a (plainly (efun_in e (asker_of a) c a.arguments (state_of a))) (plain_end end) (means_efun a e c scene what) (plainly_ends front (efun_in e (asker_of a) c a.arguments (state_of a)) end h)

-- who calls it
pub scene_so : (caller : Caller) (programs : List RawProgram) (asker : Asker) (at : Place) (e : Efun) (a : Ask) (h : AsksEfun programs asker at e a) → caller.this ≡ at.this → caller.interactive ≡ asker.interactive → caller.callers.now ≡ asker.callers.items → IsScene caller h.scene
scene_so caller programs asker at e a h t i c = record { this = h.runs.this ∙ sym t; interactive = h.interactive ∙ sym i; callers = h.callers ∙ ap reverse (sym c) }

-- the state in which it is called
abbrev pub setting : Option Bytes → List RawProgram → List Out → Setting
setting told programs before = record { told = told; programs = programs; before = before }

pub at_start : (told : Option Bytes) (programs : List RawProgram) (live : Live) (stack below : List Value) (asker : Asker) (args budget : ℕ) (a : Ask) → IsAsked told programs live stack below asker args budget a → At (setting told programs live.outputs) live asker.turn budget (state_of a)
at_start told programs live stack below asker args budget a h = record { stands = h.world.stands; left = sym h.left; outputs = sym (append-nil live.outputs); player = h.by.player; commands = h.by.commands }

-- its arguments lie on top
pub arguments_are : (stack below xs : List Value) (n : ℕ) → stack ≡ below ++ xs → length xs ≡ n → drop (length stack - n) stack ≡ xs
arguments_are stack below xs n e l =
    let k : length stack - n ≡ length below = omega (arith, l, ap length e, length-append below xs) in
    ap (λ j. drop j stack) k ∙ ap (λ s. drop (length below) s) e ∙ drop-append_seam below xs

-- the names of objects are known
pub names_known : (live : Live) (stack : List Value) (asker : Asker) (budget args : ℕ) (request : Request) → CanStart live stack asker budget request args → AreNamed live.names
names_known live stack asker budget args request h = record { objects = _; stands = h.1.asked.world.stands.names }

-- The answer

-- an end with an answer, in a state for which the live state stands, is an outcome
pub answer_outcome : (told : Option Bytes) (programs : List RawProgram) (before : List Out) (live0 live1 : Live) (asker : Asker) (budget : ℕ) (x : Answer) (w : World) (end : End Value)
    → IsWorldOf told programs live0 w → IsEnd x (Settled w (setting told programs before) live1 asker.turn budget) end → IsOutcome told programs before live1 asker budget (ending_of x) (outcome_of (plain_end end))
answer_outcome told programs before live0 live1 asker budget (answers.Value v) w (Gives u t) h e =
    record { programs = programs; grown = grows_same programs; world = world_settled told programs live0 live1 w t.world h e.1.at.stands e.1.settles; left = sym e.1.at.left; player = e.1.at.player; commands = e.1.at.commands; outputs = e.1.at.outputs; answer = sym e.0 }
answer_outcome told programs before live0 live1 asker budget (answers.Error v) w (Stops y t) h e = record {
  programs = programs;
  grown = grows_same programs;
  world = world_settled told programs live0 live1 w t.world h e.1.at.stands e.1.settles;
  left = sym e.1.at.left;
  player = e.1.at.player;
  commands = e.1.at.commands;
  outputs = e.1.at.outputs;
  answer = record { cause = ap (λ z. z.cause) (sym e.0); place = no_places programs t.world None y.place refl (ap (λ z. z.place) e.0) };
}
answer_outcome told programs before live0 live1 asker budget (answers.Thrown v) w (Stops y t) h e = record {
  programs = programs;
  grown = grows_same programs;
  world = world_settled told programs live0 live1 w t.world h e.1.at.stands e.1.settles;
  left = sym e.1.at.left;
  player = e.1.at.player;
  commands = e.1.at.commands;
  outputs = e.1.at.outputs;
  answer = record { cause = ap (λ z. z.cause) (sym e.0); place = no_places programs t.world None y.place refl (ap (λ z. z.place) e.0) };
}
answer_outcome told programs before live0 live1 asker budget answers.Spent w (Stops y t) h e = record {
  programs = programs;
  grown = grows_same programs;
  world = world_settled told programs live0 live1 w t.world h e.1.at.stands e.1.settles;
  left = sym e.1.at.left;
  player = e.1.at.player;
  commands = e.1.at.commands;
  outputs = e.1.at.outputs;
  answer = record { cause = ap (λ z. z.cause) (sym e.0); place = no_places programs t.world None y.place refl (ap (λ z. z.place) e.0) };
}
answer_outcome told programs before live0 live1 asker budget (answers.Value v) w (Stops y t) h e = absurd e
answer_outcome told programs before live0 live1 asker budget (answers.Error v) w (Gives u t) h e = absurd e
answer_outcome told programs before live0 live1 asker budget (answers.Thrown v) w (Gives u t) h e = absurd e
answer_outcome told programs before live0 live1 asker budget answers.Spent w (Gives u t) h e = absurd e

-- what is answered leaves no more of the budget
pub serves_spends : (told0 told1 : Option Bytes) (live0 live1 : Live) (stack0 stack1 : List Value) (asker0 asker1 : Asker) (args budget0 budget1 : ℕ) (request : Request) (e : Ending)
    → CanServe told0 live0 stack0 asker0 budget0 request args → Served request args told0 live0 stack0 asker0 budget0 told1 live1 stack1 asker1 budget1 e → budget1 ≤ budget0
serves_spends told0 told1 live0 live1 stack0 stack1 asker0 asker1 args budget0 budget1 request e h served =
    let sv = served h.front h.real h.programs h.ask h.below h.asked h.is in
    let less = (outcomes_can_be h.front h.ask sv.outcome sv.has).no_more in
    omega (arith, less, sv.is.left, h.asked.left)

-- An efun ended whose course asks nothing.
module _ (at : Place) (efun : Efun) (live0 live1 : Live) (stack0 stack1 : List Value) (asker0 asker1 : Asker) (args budget0 budget1 : ℕ) (caller : Caller) (x : Answer)
    (same_this : caller.this ≡ at.this) (same_interactive : caller.interactive ≡ asker0.interactive) (same_callers : caller.callers.now ≡ asker0.callers.items) where
  abbrev Ended : Type 0
  Ended =
      (g : Setting) (a : Ask) (c : Scene) (below : List Value) → IsScene caller c → At g live0 asker0.turn budget0 (state_of a) → stack0 ≡ below ++ a.arguments → length a.arguments ≡ args
      → (stack1 ≡ below) × IsOver x (Settled a.world g live1 asker1.turn budget1) (efun_in efun (asker_of a) c a.arguments (state_of a))

  ended_served : Ended → (told : Option Bytes) → Served (requests.Efun at efun) args told live0 stack0 asker0 budget0 told live1 stack1 asker1 budget1 (ending_of x)
  ended_served ended told front real programs a below h is =
      let q = is.0 in
      let r = ended (setting told programs live0.outputs) a q.scene below (scene_so caller programs asker0 at efun a q same_this same_interactive same_callers) (at_start told programs live0 stack0 below asker0 args budget0 a h) h.lies h.many in
      let over = r.1 in
      record {
        outcome = outcome_of (plain_end over.0);
        has = efun_has front a efun q.scene over.0 q.scene_is q.what (subst (λ t. Ends front t over.0) (sym over.1) (over_ends front over.0));
        is = answer_outcome told programs live0.outputs live0 live1 asker1 budget1 x a.world over.0 h.world over.2;
        left = r.0;
      }

  pub ended_answers : Ended → IsSameAsker asker0 asker1 → KeepsVariables live0.objects live1.objects → IsFit live1 stack1 → IsEndingThere live1.cells (ending_of x) → CanStart live0 stack0 asker0 budget0 (requests.Efun at efun) args
      → StartsEfun (starts.Answered (ending_of x)) at efun args live0 stack0 asker0 budget0 live1 stack1 asker1 budget1
  ended_answers ended same home fit there can = λ told. record {
    served = ended_served ended told;
    same = same;
    spends = serves_spends can.0 can.0 live0 live1 stack0 stack1 asker0 asker1 args budget0 budget1 (requests.Efun at efun) (ending_of x) can.1 (ended_served ended can.0);
    home = home;
    fit = fit;
    there = there;
  }

  -- one whose course asks nothing, and which keeps of the world what calls rest on
  pub whole_ended : (vs : List Value) → ((by : meaning.Asker) (c : Scene) (xs : List Value) (s : State) (end : End Value) → efun_in efun by c xs s ≡ Over end → EndSettles s.world end)
      → vs ≡ drop (length stack0 - args) stack0 → stack1 ≡ take (length stack0 - args) stack0 → CallsEfun efun caller vs live0 asker0.turn budget0 x live1 asker1.turn budget1 → Ended
  whole_ended vs settles top cut calls g a c below scene stands lies many =
      let are : vs ≡ a.arguments = top ∙ arguments_are stack0 below a.arguments args lies many in
      let r = calls g (asker_of a) c (state_of a) scene stands in
      let is : efun_in efun (asker_of a) c a.arguments (state_of a) ≡ Over r.0 = ap (λ xs. efun_in efun (asker_of a) c xs (state_of a)) (sym are) ∙ r.1 in (
        below_is stack0 stack1 below a.arguments args lies many cut,
        (r.0, is, end_settled a.world g live1 asker1.turn budget1 x r.0 r.2 (settles (asker_of a) c a.arguments (state_of a) r.0 is)),
      )

  -- one that calls no LPC
  pub plain_ended : (vs : List Value) → is_plain efun ≡ true → vs ≡ drop (length stack0 - args) stack0 → stack1 ≡ take (length stack0 - args) stack0 → CallsEfun efun caller vs live0 asker0.turn budget0 x live1 asker1.turn budget1 → Ended
  plain_ended vs plain top cut calls = whole_ended vs (λ by c xs s end is. efuns_settle efun by c xs s end plain is) top cut calls

  -- one that calls LPC, before it asks
  pub calling_ended : asker1 ≡ asker0 → live1 ≡ live0 → Begins (begun.Ends x) efun caller live0 stack0 args budget0 stack1 budget1 → Ended
  calling_ended who same begins g a c below scene stands lies many =
      let r = begins asker0.turn below a.arguments lies many in (
        r.stack,
        subst (λ l. IsOver x (Settled a.world g l asker1.turn budget1) (efun_in efun (asker_of a) c a.arguments (state_of a))) (sym same)
            (subst (λ w. IsOver x (Settled a.world g live0 w.turn budget1) (efun_in efun (asker_of a) c a.arguments (state_of a))) (sym who) (r.course g (asker_of a) c (state_of a) scene stands)),
      )

-- AN EFUN GOES ON AS A JOB
module _ (at : Place) (efun : Efun) (live : Live) (stack0 stack1 : List Value) (asker : Asker) (args budget0 budget1 : ℕ) (caller : Caller) (job : Job)
    (same_this : caller.this ≡ at.this) (same_interactive : caller.interactive ≡ asker.interactive) (same_callers : caller.callers.now ≡ asker.callers.items)
    (begins : Begins (begun.Runs job) efun caller live stack0 args budget0 stack1 budget1) where
  begun_at : (below : List Value) (a : Ask) → stack0 ≡ below ++ a.arguments → length a.arguments ≡ args → HasBegun job (whole efun a.arguments) caller live asker.turn budget0 below stack1 budget1
  begun_at below a lies many = begins asker.turn below a.arguments lies many

  -- it works in the world in which the efun was asked for
  record WorksFrom (told : Option Bytes) (programs : List RawProgram) (a : Ask) (c : Scene) (below : List Value) : Type 0 where
    state : State
    own : List Value
    working : IsWorking at job told programs live.outputs live stack1 asker budget1 (asker_of a) c state below own
    course : efun_in efun (asker_of a) c a.arguments (state_of a) ≡ course_of job own (asker_of a) state

  works_from : (told : Option Bytes) (programs : List RawProgram) (a : Ask) (below : List Value) → IsAsked told programs live stack0 below asker args budget0 a → (q : AsksEfun programs asker at efun a) → WorksFrom told programs a q.scene below
  works_from told programs a below h q =
      let b = begun_at below a h.lies h.many in
      let r = b.course (setting told programs live.outputs) (asker_of a) q.scene (state_of a) (scene_so caller programs asker at efun a q same_this same_interactive same_callers) (at_start told programs live stack0 below asker args budget0 a h) in
      let deep : q.scene.depth + 1 ≡ asker.depth + 1 = deep_by a.scene q.scene_is h.by.depth in
      record {
        state = r.0;
        own = b.own;
        working = record {
          fits = record { at = r.1.at; world = world_settled told programs live live a.world r.0.world h.world r.1.at.stands r.1.settles };
          scene = q.scene_is;
          interactive = h.by.interactive;
          loads = h.by.loads;
          runs = q.runs;
          callers = q.callers;
          depth = omega (arith, deep);
          lies = b.stack;
          height = b.height;
        };
        course = r.2;
      }
    where
      deep_by : (s : Option Scene) → s ≡ Some q.scene → depth_behind s ≡ asker.depth + 1 → q.scene.depth + 1 ≡ asker.depth + 1
      deep_by None e d = absurd (cc)
      deep_by (Some c) e d = let k : c ≡ q.scene = ap (λ o. unwrap_or o q.scene) e in omega (arith, ap (λ z. z.depth) k, d)

  pub begun_efun : budget1 ≤ budget0 → IsFit live stack1 → IsReady live.objects job → CanStart live stack0 asker budget0 (requests.Efun at efun) args → HasBegunEfun at efun args live stack0 asker budget0 job live stack1 asker budget1
  begun_efun spends fit ready can = record {
    spends = spends;
    fit = fit;
    on = (begun_at can.1.below can.1.ask can.1.asked.lies can.1.asked.many).fits;
    ready = ready;
    can = λ told h.
        let w = works_from told h.programs h.ask h.below h.asked h.is.0 in
        record { front = h.front; real = h.real; programs = h.programs; before = live.outputs; by = asker_of h.ask; scene = h.is.0.scene; state = w.state; low = h.below; own = w.own; working = w.working };
    answers = λ told0 told1 live2 stack2 asker2 budget2 e works. record {
      served = λ front real programs a below h is.
          let w = works_from told0 programs a below h is.0 in
          let y = works.worked front real programs live.outputs (asker_of a) is.0.scene w.state below w.own w.working in
          record {
            outcome = outcome_of (plain_end y.end);
            has = efun_has front a efun is.0.scene y.end is.0.scene_is is.0.what (subst (λ t. Ends front t y.end) (sym w.course) y.ends);
            is = y.is;
            left = y.left;
          };
      same = works.same;
      spends = le_trans works.spends spends;
      home = works.home;
      fit = works.fit;
      there = works.there;
    };
  }
