-- Objects are loaded: `load_object`, and targets of `call_other`.
use Rattle.std.proofs.Common.{◌≡◌, ◌∙◌, ◌+◌, ◌<◌, ◌≤◌, ◌++◌, ◌∷◌, [], ℕ, Bool, true, false, List, Option, Some, None, refl, ap, sym, subst, drop, length, take, arith, append-nil, length-append, if◌then◌else◌}
use Rattle.std.proofs.lemmas.List.{drop_at, take_at}
use Rattle.lp_values.specs.declared.error.ErrorKind.TheVariants.{BadTarget}
use Rattle.lp_values.specs.Errors.{plain}
use Rattle.lp_values.specs.declared.id.ObjId.{ObjId}
use Rattle.lp_values.specs.declared.value.Value.{Value}
use Rattle.lp_values.specs.declared.value.Value.TheVariants as values
use Rattle.lp_instr.specs.declared.efun.Efun.{Efun}
use Rattle.lp_instr.specs.declared.efun.Efun.TheVariants as efuns
use Rattle.lp_language.specs.World.{is_live, object_named}
use Rattle.lp_language.specs.Course.{Course, Failed, Other, State, and_then, gives, stops}
use Rattle.lp_language.specs.Operations.{cells_of, living}
use Rattle.lp_meaning.specs.Askers.{Asker, ask_value}
use Rattle.lp_meaning.specs.CallingEfuns.{calls}
use Rattle.lp_meaning.specs.EfunArguments.{opened_args, text_arg}
use Rattle.lp_meaning.specs.FileLoads.{load_value, text_target}
use Rattle.lp_meaning.specs.WorldSteps.{as_name, is_clone_name}
use Rattle.lp_world.specs.declared.live.Live.{Live}
use Rattle.lp_efuns.specs.declared.answer.Answer.TheVariants as answers
use Rattle.lp_efuns.specs.declared.caller.Caller.{Caller}
use Rattle.lp_efuns.specs.declared.caller.Turn.{Turn}
use Rattle.lp_efuns.specs.Turns.{At, Setting}
use Rattle.lp_efuns.proofs.Looking.{found_same}
use Rattle.lp_calling.specs.declared.job.Begun.TheVariants as begun
use Rattle.lp_calling.specs.declared.job.Question.TheVariants as questions
use Rattle.lp_calling.specs.declared.job.Stage.TheVariants as stages
use Rattle.lp_calling.specs.declared.job.Step.TheVariants as steps
use Rattle.lp_calling.specs.Beginning.{Starts}
use Rattle.lp_calling.specs.Going.{StageGoes, StageTakes}
use Rattle.lp_calling.specs.Jobs.{called_in, ended}
use Rattle.lp_calling.specs.Targets.{IsLoadable, IsUnnamed, MeansName}
use Rattle.lp_calling.proofs.Calling.{FoundBy, error_starts}
use Rattle.lp_calling.proofs.Courses.{asked_on, then_on}
use Rattle.lp_calling.proofs.Settled.{settled_here}

-- Names

-- what a text comes to, by the object with the name that it means
pub led : (by : Asker) (t : List ℕ) (s : State) (name : List ℕ) (r : Option ObjId) → name ≡ as_name t → object_named s.world name ≡ r → text_target by t s ≡ elim r as (λ _. Course Value) [
  | Some o ↦ gives (values.Obj o) s
  | None ↦ if is_clone_name name then stops (Failed (plain BadTarget)) s else load_value by name s
]
led by t s name r e f =
    ap (λ n. elim (object_named s.world n) as (λ _. Course Value) [ Some o ↦ gives (values.Obj o) s | None ↦ if is_clone_name n then stops (Failed (plain BadTarget)) s else load_value by n s ]) (sym e)
    ∙ ap (λ x. elim x as (λ _. Course Value) [ Some o ↦ gives (values.Obj o) s | None ↦ if is_clone_name name then stops (Failed (plain BadTarget)) s else load_value by name s ]) f

-- a live object has the name
pub found_loadable : (live : Live) (vs : List Value) (name : List ℕ) (o : ObjId) → MeansName vs name → FoundBy live name (Some o) → IsLoadable live vs o
found_loadable live vs name o m f g turn b by s h =
    led by (text_arg (opened_args s vs) 0) s name (Some o) (m (living s) (cells_of s)) (sym (found_same g live turn b s name name (Some o) h f refl))

-- none has it
pub found_unnamed : (live : Live) (name : List ℕ) → FoundBy live name None → IsUnnamed live name
found_unnamed live name f g turn b s h = sym (found_same g live turn b s name name None h f refl)

unnamed_led : (live : Live) (vs : List Value) (name : List ℕ) (is : Bool) (g : Setting) (turn : Turn) (b : ℕ) (by : Asker) (s : State) → MeansName vs name → IsUnnamed live name → is_clone_name name ≡ is → At g live turn b s
    → text_target by (text_arg (opened_args s vs) 0) s ≡ (if is then stops (Failed (plain BadTarget)) s else load_value by name s)
unnamed_led live vs name is g turn b by s m u c h =
    led by (text_arg (opened_args s vs) 0) s name None (m (living s) (cells_of s)) (u g turn b s h) ∙ ap (λ x. if x then stops (Failed (plain BadTarget)) s else load_value by name s) c

-- Beginning

pub one_above : (low : List Value) (v : Value) (n : ℕ) (stack : List Value) → stack ≡ low ++ v ∷ [] → length low ≡ n → n < length stack
one_above low v n stack e k = let z : length stack ≡ length low + 1 = ap length e ∙ length-append low (v ∷ []) in omega arith

-- a live object takes the place of the arguments
pub found_starts : (caller : Caller) (live : Live) (n : ℕ) (stack0 stack1 : List Value) (o : ObjId) → n ≤ length stack0 → IsLoadable live (drop n stack0) o → stack1 ≡ take n stack0 ++ values.Obj o ∷ []
    → Starts (begun.Runs (record { efun = efuns.LoadObject; low = n; stage = stages.Value })) efuns.LoadObject caller live n stack0 stack1
unfolding calls
found_starts caller live n stack0 stack1 o le l e turn b low vs q k =
    let same : drop n stack0 ≡ vs = ap (drop n) q ∙ drop_at low vs n k in
    let front : take n stack0 ≡ low = ap (take n) q ∙ take_at low vs n k in
    let lies : stack1 ≡ low ++ values.Obj o ∷ [] = e ∙ ap (λ s. s ++ values.Obj o ∷ []) front in
    record {
      own = values.Obj o ∷ [];
      stack = lies;
      height = k;
      fits = one_above low (values.Obj o) n stack1 lies k;
      course = λ g by c s sc h. (
        s,
        settled_here g live turn b s h,
        ap (λ c. and_then c (ended efuns.LoadObject)) (ap (λ ws. text_target by (text_arg (opened_args s ws) 0) s) (sym same) ∙ l g turn b by s h),
      );
    }

-- an object goes on to be loaded
pub load_starts : (caller : Caller) (live : Live) (n : ℕ) (stack : List Value) (name : List ℕ) → n ≤ length stack → MeansName (drop n stack) name → IsUnnamed live name → is_clone_name name ≡ false
    → Starts (begun.Runs (record { efun = efuns.LoadObject; low = n; stage = stages.Load name })) efuns.LoadObject caller live n stack stack
unfolding calls
load_starts caller live n stack name le m u o turn b low vs q k =
    let same : drop n stack ≡ vs = ap (drop n) q ∙ drop_at low vs n k in
    record {
      own = vs;
      stack = q;
      height = k;
      fits = le;
      course = λ g by c s sc h. (
        s,
        settled_here g live turn b s h,
        ap (λ c. and_then c (ended efuns.LoadObject)) (ap (λ ws. text_target by (text_arg (opened_args s ws) 0) s) (sym same) ∙ unnamed_led live (drop n stack) name false g turn b by s m u o h),
      );
    }

-- a clone that does not live is an error
pub no_load_starts : (caller : Caller) (live : Live) (n : ℕ) (stack0 stack1 : List Value) (name : List ℕ) → stack1 ≡ take n stack0 → MeansName (drop n stack0) name → IsUnnamed live name → is_clone_name name ≡ true
    → Starts (begun.Ends (answers.Error (plain BadTarget))) efuns.LoadObject caller live n stack0 stack1
unfolding calls
no_load_starts caller live n stack0 stack1 name t m u o =
    error_starts efuns.LoadObject (plain BadTarget) caller live n stack0 stack1 t
    (λ turn b g by c s sc h. ap (λ c. and_then c (ended efuns.LoadObject)) (unnamed_led live (drop n stack0) name true g turn b by s m u o h))

-- Going on

-- nothing lies on top of the job's own values
pub load_asks : (e : Efun) (name : List ℕ) (below : ℕ) (stack : List Value) (live : Live) (turn : Turn) (budget : ℕ) → below ≤ length stack
    → StageGoes (steps.Asks (questions.Load name) 0) e (stages.Load name) below live turn stack budget live turn stack budget
load_asks e name below stack live turn budget le low own q k = record {
  own = own;
  arguments = [];
  stack = q ∙ sym (append-nil (low ++ own));
  count = refl;
  height = refl;
  fits = subst (λ l. below ≤ length l) q le;
  is_asking = tt;
  with_these = refl;
  course = λ g by s h. (s, settled_here g live turn budget s h, asked_on e (stages.Load name) own by (load_value by name s) (λ p. refl));
}

pub target_asks : (e : Efun) (name fun : List ℕ) (below : ℕ) (stack : List Value) (live : Live) (turn : Turn) (budget : ℕ) → below ≤ length stack
    → StageGoes (steps.Asks (questions.Load name) 0) e (stages.Target name fun) below live turn stack budget live turn stack budget
target_asks e name fun below stack live turn budget le low own q k = record {
  own = own;
  arguments = [];
  stack = q ∙ sym (append-nil (low ++ own));
  count = refl;
  height = refl;
  fits = subst (λ l. below ≤ length l) q le;
  is_asking = tt;
  with_these = refl;
  course = λ g by s h. (s, settled_here g live turn budget s h, then_on (load_value by name s) (λ v s. called_in fun (drop 2 own) by v s) (ended e) ∙ asked_on e (stages.Target name fun) own by (load_value by name s) (λ p. refl));
}

-- Answers

-- the object that was loaded is the value
pub load_takes : (name : List ℕ) (v : Value) (l : ObjId → Bool) (below : ℕ) (stack0 stack1 : List Value) → stack1 ≡ take below stack0 ++ v ∷ []
    → StageTakes (stages.Load name) v l below stack0 stages.Value stack1
load_takes name v l below stack0 stack1 e low own q k = record {
  own = v ∷ [];
  stack = e ∙ ap (λ s. s ++ v ∷ []) (ap (take below) q ∙ take_at low own below k);
  course = λ e by s i. refl;
}

-- What was loaded is called where it is a live object.
led_to : (fun : List ℕ) (args : List Value) (by : Asker) (o : ObjId) (s : State) (is : Bool) → is_live s.world o ≡ is
    → called_in fun args by (values.Obj o) s ≡ (if is then ask_value (Other o fun) args by s else stops (Failed (plain BadTarget)) s)
led_to fun args by o s is e = picked is e
  where
    picked : (b : Bool) → is_live s.world o ≡ b → called_in fun args by (values.Obj o) s ≡ (if b then ask_value (Other o fun) args by s else stops (Failed (plain BadTarget)) s)
    picked true r = ap (λ b. elim (if b then Some o else None) as (λ _. Course Value) [ Some p ↦ ask_value (Other p fun) args by s | None ↦ stops (Failed (plain BadTarget)) s ]) r
    picked false r = ap (λ b. elim (if b then Some o else None) as (λ _. Course Value) [ Some p ↦ ask_value (Other p fun) args by s | None ↦ stops (Failed (plain BadTarget)) s ]) r

pub live_takes : (name fun : List ℕ) (o : ObjId) (l : ObjId → Bool) (below : ℕ) (stack : List Value) → l o ≡ true
    → StageTakes (stages.Target name fun) (values.Obj o) l below stack (stages.Call o fun) stack
live_takes name fun o l below stack is low own q k = record {
  own = own;
  stack = q;
  course = λ e by s i. ap (λ c. and_then c (ended e)) (led_to fun (drop 2 own) by o s true (ap (λ f. f o) i ∙ is));
}

pub dead_takes : (name fun : List ℕ) (o : ObjId) (l : ObjId → Bool) (below : ℕ) (stack : List Value) → l o ≡ false
    → StageTakes (stages.Target name fun) (values.Obj o) l below stack (stages.Error BadTarget) stack
dead_takes name fun o l below stack is low own q k = record {
  own = own;
  stack = q;
  course = λ e by s i. ap (λ c. and_then c (ended e)) (led_to fun (drop 2 own) by o s false (ap (λ f. f o) i ∙ is));
}
