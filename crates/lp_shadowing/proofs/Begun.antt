-- How `shadow` begins.
use Rattle.std.proofs.Common.{◌≡◌, ◌∙◌, ◌+◌, ◌-◌, ◌≤◌, ◌++◌, ◌∷◌, [], ℕ, pos, Bool, true, false, List, Option, Some, None, All, refl, ap, sym, subst, drop, length, map, nat_lt, arith, length-append, unwrap_or, if◌then◌else◌}
use Rattle.std.proofs.lemmas.List.{drop_at}
use Rattle.std.proofs.lemmas.List.Elements.{All-drop}
use Rattle.lp_values.specs.declared.id.ObjId.{ObjId}
use Rattle.lp_values.specs.declared.value.Value.{Value}
use Rattle.lp_values.specs.declared.value.Value.TheVariants as values
use Rattle.lp_cells.specs.Cells.{IsThere, Store}
use Rattle.lp_code.specs.declared.program.RawProgram.{RawProgram}
use Rattle.lp_swapfile.specs.Device.{Bytes}
use Rattle.lp_ops.specs.Operands.{opened, operand}
use Rattle.lp_instr.specs.EfunKinds.{kinds}
use Rattle.lp_instr.specs.declared.efun.Efun.TheVariants as efuns
use Rattle.lp_language.specs.World.{World}
use Rattle.lp_language.specs.Course.{Over, Scene, Spent, State, Stops, and_then, here}
use Rattle.lp_language.specs.Operations.{cells_of, living, with_store}
use Rattle.lp_meaning.specs.Askers.{Asker}
use Rattle.lp_meaning.specs.CallingEfuns.{calls, shadow, with_live}
use Rattle.lp_meaning.specs.EfunArguments.{first_bad, object_arg, object_in, opened_args, price_before}
use Rattle.lp_meaning.specs.Questions.{kinds_looked_at}
use Rattle.lp_world.specs.Rows.{live_in}
use Rattle.lp_world.specs.declared.live.Live.{Live}
use Rattle.lp_world.specs.Stands.{Stands}
use Rattle.lp_world.proofs.Keeping.{live_same}
use Rattle.lp_targets.specs.Brought.{StaysInMemory}
use Rattle.lp_settling.proofs.Still.{still}
use Rattle.lp_efuns.specs.declared.caller.Caller.{Caller}
use Rattle.lp_efuns.specs.declared.caller.Turn.{Turn}
use Rattle.lp_efuns.specs.Turns.{At, Setting}
use Rattle.lp_efuns.proofs.Looking.{object_same}
use Rattle.lp_efuns.proofs.Parted.{price_same}
use Rattle.lp_calling.specs.declared.job.Begun.{Begun}
use Rattle.lp_calling.specs.declared.job.Begun.TheVariants as begun
use Rattle.lp_calling.specs.declared.job.Job.{Job}
use Rattle.lp_calling.specs.declared.job.Stage.TheVariants as stages
use Rattle.lp_calling.specs.Beginning.{Begins, acts, whole}
use Rattle.lp_calling.specs.Jobs.{IsStageOn, course_of, ended}
use Rattle.lp_calling.specs.Leaving.{AsksToShadow}
use Rattle.lp_shadowing.specs.Shadowing.{ActsShadow, BeginsOver, BeginsShadow, IsBarred, IsJobFor, NamesObject, is_barred, shadow_by}

-- states

-- the state stands for where the meaning is still
at_after : (g : Setting) (live0 live1 : Live) (turn : Turn) (b : ℕ) (s : State) → StaysInMemory live0 live1 → Stands g.told g.programs live1 s.world → At g live0 turn b s → At g live1 turn b s
at_after g live0 live1 turn b s m k h = record { stands = k; left = h.left; outputs = ap (λ (l : Live). l.outputs) m.others ∙ h.outputs; player = h.player; commands = h.commands }

-- the object that is the first argument
read_any : (l : ObjId → Bool) (a b : Store) (o : ObjId) (x : Bool)
    → object_in (opened l a (unwrap_or (if x then Some (values.Obj o) else None) (values.Int (pos 0)))) ≡ object_in (opened l b (unwrap_or (if x then Some (values.Obj o) else None) (values.Int (pos 0))))
read_any l a b o true = refl
read_any l a b o false = refl

any_cells : (l : ObjId → Bool) (vs : List Value) (a b : Store) → object_arg (map (operand l a) vs) 0 ≡ object_arg (map (operand l b) vs) 0
any_cells l [] a b = refl
any_cells l (values.Int n ∷ vs) a b = refl
any_cells l (values.Str t ∷ vs) a b = refl
any_cells l (values.Arr c ∷ vs) a b = refl
any_cells l (values.Map c ∷ vs) a b = refl
any_cells l (values.Obj o ∷ vs) a b = read_any l a b o (l o)

pub named_so : (live : Live) (vs : List Value) (o : Option ObjId) → ((cells : Store) → o ≡ object_arg (map (operand (live_in live.objects) cells) vs) 0) → NamesObject live vs o
named_so live vs o f g turn b s h =
    object_same g live turn b s vs 0 (object_arg (map (operand (live_in live.objects) (cells_of s)) vs) 0) h (λ cells. any_cells (live_in live.objects) vs (cells_of s) cells) ∙ sym (f (cells_of s))

-- jobs

pub nothing_for : (live : Live) (low : ℕ) (this o : ObjId) → IsJobFor (begun.Runs (record { efun = efuns.Shadow; low = low; stage = stages.Zero })) live low this o true
nothing_for live low this o = record {
  job = record { efun = efuns.Shadow; low = low; stage = stages.Zero };
  is = refl;
  height = refl;
  fits = λ stack l. l;
  course = λ g turn b by s own h. refl;
}

pub asks_for : (live : Live) (low : ℕ) (this o : ObjId) (job : Job) → job.efun ≡ efuns.Shadow → job.low ≡ low → AsksToShadow live this o job.stage → ((n : ℕ) → low ≤ n → IsStageOn job.stage low n) → IsJobFor (begun.Runs job) live low this o false
asks_for live low this o job e l a on = record {
  job = job;
  is = refl;
  height = l;
  fits = λ stack k. subst (λ m. IsStageOn job.stage m (length stack)) (sym l) (on (length stack) k);
  course = λ g turn b by s own h. a g turn b by s own h ∙ ap (λ x. course_of (record job { efun = x }) own by s) (sym e);
}

-- acting

-- no object is named
pub nobody_acts : (caller : Caller) (told : Option Bytes) (live : Live) (n : ℕ) (stack : List Value) → n ≤ length stack → NamesObject live (drop n stack) None
    → ActsShadow (begun.Runs (record { efun = efuns.Shadow; low = n; stage = stages.Zero })) caller told live live n stack stack
unfolding calls
nobody_acts caller told live n stack le f turn b low vs q k =
    let same : drop n stack ≡ vs = ap (drop n) q ∙ drop_at low vs n k in
    record {
      own = vs;
      stack = q;
      height = k;
      fits = le;
      course = λ g by c s z sc h w. (
        s,
        record { at = h; settles = still s.world },
        ap (λ x. and_then (with_live x s (λ o. shadow by c o s)) (ended efuns.Shadow)) (ap (λ ws. object_arg (opened_args s ws) 0) (sym same) ∙ f g turn b s h),
      );
    }

-- one is
pub shadow_acts : (caller : Caller) (told0 told1 : Option Bytes) (live0 live1 : Live) (n : ℕ) (stack : List Value) (r : Begun) (o : ObjId) (barred : Bool) → n ≤ length stack → NamesObject live0 (drop n stack) (Some o) → told1 ≡ told0
    → StaysInMemory live0 live1 → ((programs : List RawProgram) (w : World) → Stands told0 programs live0 w → Stands told1 programs live1 w)
    → IsBarred barred told0 live0 caller.this o → IsJobFor r live1 n caller.this o barred → ActsShadow r caller told0 live0 live1 n stack stack
unfolding calls
shadow_acts caller told0 told1 live0 live1 n stack r o barred le f kept stays over bar job turn b low vs q k =
    let same : drop n stack ≡ vs = ap (drop n) q ∙ drop_at low vs n k in
    subst (λ r. BeginsOver r (acts efuns.Shadow vs) caller told0 live0 live1 turn b low stack b) (sym job.is) (record {
      own = vs;
      stack = q;
      height = k ∙ sym job.height;
      fits = job.fits stack le;
      course = λ g by c s z sc h w.
          let a : At g live1 turn b s = at_after g live0 live1 turn b s stays (subst (λ t. Stands t g.programs live1 s.world) (kept ∙ sym z) (over g.programs s.world w.stands)) h in (
            s,
            record { at = a; settles = still s.world },
            ap (λ x. and_then (with_live x s (λ o. shadow by c o s)) (ended efuns.Shadow)) (ap (λ ws. object_arg (opened_args s ws) 0) (sym same) ∙ f g turn b s h)
                ∙ ap (λ t. and_then (shadow_by (is_barred s.world t o) by t o s) (ended efuns.Shadow)) sc.this
                ∙ ap (λ x. and_then (shadow_by x by caller.this o s) (ended efuns.Shadow)) (sym (bar g.programs s.world w))
                ∙ job.course g turn b by s vs a,
          );
    })

-- beginning

module _ (live0 : Live) (stack0 : List Value) (n args old : ℕ) (there : All (IsThere live0.cells) stack0) (room : args ≤ length stack0) (is_low : n ≡ length stack0 - args) where
  top : (low vs : List Value) → stack0 ≡ low ++ vs → length vs ≡ args → length low ≡ n
  top low vs q k = let z : length stack0 ≡ length low + length vs = ap length q ∙ length-append low vs in omega arith

  arguments_are : (low vs : List Value) → stack0 ≡ low ++ vs → length vs ≡ args → drop n stack0 ≡ vs
  arguments_are low vs q k = ap (drop n) q ∙ drop_at low vs n (top low vs q k)

  before_is : (before : ℕ) (low vs : List Value) (g : Setting) (turn : Turn) (s : State) → stack0 ≡ low ++ vs → length vs ≡ args → At g live0 turn old s
      → ((t : State) → living t ≡ live_in live0.objects → cells_of t ≡ live0.cells → before ≡ price_before efuns.Shadow (drop n stack0) t) → before ≡ price_before efuns.Shadow vs s
  before_is before low vs g turn s q k h f =
      let there_top : All (IsThere live0.cells) vs = subst (λ l. All (IsThere live0.cells) l) (arguments_are low vs q k) (All-drop (IsThere live0.cells) n stack0 there) in
      f (with_store s live0.cells) (sym (live_same g.told g.programs live0 s.world h.stands)) refl
      ∙ ap (λ ws. price_before efuns.Shadow ws (with_store s live0.cells)) (arguments_are low vs q k)
      ∙ price_same efuns.Shadow vs s live0.cells h.stands.cells there_top

  none_bad : (low vs : List Value) (g : Setting) (turn : Turn) (s : State) → stack0 ≡ low ++ vs → length vs ≡ args → At g live0 turn old s
      → ((cells : Store) → None ≡ first_bad 1 (kinds efuns.Shadow) (map (operand (live_in live0.objects) cells) (drop n stack0))) → None ≡ first_bad 1 (kinds efuns.Shadow) (opened_args s vs)
  none_bad low vs g turn s q k h f =
      f (cells_of s) ∙ ap (λ l. first_bad 1 (kinds efuns.Shadow) (map (operand l (cells_of s)) (drop n stack0))) (live_same g.told g.programs live0 s.world h.stands)
      ∙ ap (λ ws. first_bad 1 (kinds efuns.Shadow) (opened_args s ws)) (arguments_are low vs q k)

  -- the price is paid, and the arguments are of their kinds
  paid_at : (before paid : ℕ) (g : Setting) (turn : Turn) (s : State) → paid ≡ old - before → At g live0 turn old s → At g live0 turn paid (record s { budget = s.budget - before })
  paid_at before paid g turn s z h = record { stands = h.stands; left = ap (λ k. k - before) h.left ∙ sym z; outputs = h.outputs; player = h.player; commands = h.commands }

  acting_course : (before : ℕ) (low vs : List Value) (g : Setting) (turn : Turn) (by : Asker) (c : Scene) (s : State) → stack0 ≡ low ++ vs → length vs ≡ args → At g live0 turn old s → nat_lt old before ≡ false
      → ((t : State) → living t ≡ live_in live0.objects → cells_of t ≡ live0.cells → before ≡ price_before efuns.Shadow (drop n stack0) t)
      → ((cells : Store) → None ≡ first_bad 1 (kinds efuns.Shadow) (map (operand (live_in live0.objects) cells) (drop n stack0)))
      → whole efuns.Shadow vs by c s ≡ acts efuns.Shadow vs by c (record s { budget = s.budget - before })
  acting_course before low vs g turn by c s q k h less f d =
      ap (λ m. if nat_lt s.budget m then Over (Stops (here Spent) (record s { budget = 0 })) else kinds_looked_at efuns.Shadow by c vs (first_bad 1 (kinds efuns.Shadow) (opened_args s vs)) (record s { budget = s.budget - m }))
      (sym (before_is before low vs g turn s q k h f))
      ∙ ap (λ b. if nat_lt s.budget before then Over (Stops (here Spent) (record s { budget = 0 })) else kinds_looked_at efuns.Shadow by c vs b (record s { budget = s.budget - before })) (sym (none_bad low vs g turn s q k h d))
      ∙ ap (λ b. if b then Over (Stops (here Spent) (record s { budget = 0 })) else kinds_looked_at efuns.Shadow by c vs None (record s { budget = s.budget - before })) (ap (λ k. nat_lt k before) h.left ∙ less)

  pub acts_begins : (r : Begun) (before paid : ℕ) (caller : Caller) (told : Option Bytes) (live1 : Live) (stack1 : List Value) → nat_lt old before ≡ false → paid ≡ old - before
      → ((t : State) → living t ≡ live_in live0.objects → cells_of t ≡ live0.cells → before ≡ price_before efuns.Shadow (drop n stack0) t)
      → ((cells : Store) → None ≡ first_bad 1 (kinds efuns.Shadow) (map (operand (live_in live0.objects) cells) (drop n stack0)))
      → ActsShadow r caller told live0 live1 n stack0 stack1 → BeginsShadow r caller told live0 stack0 args old live1 stack1 paid
  acts_begins (begun.Ends a) before paid caller told live1 stack1 less z f d st turn low vs q k =
      let i = st turn paid low vs q (top low vs q k) in record {
        stack = i.stack;
        course = λ g by c s t sc h w. let j = i.course g by c (record s { budget = s.budget - before }) t sc (paid_at before paid g turn s z h) w in
            (j.0, acting_course before low vs g turn by c s q k h less f d ∙ j.1, j.2);
      }
  acts_begins (begun.Runs job) before paid caller told live1 stack1 less z f d st turn low vs q k =
      let i = st turn paid low vs q (top low vs q k) in record {
        own = i.own;
        stack = i.stack;
        height = i.height;
        fits = i.fits;
        course = λ g by c s t sc h w. let j = i.course g by c (record s { budget = s.budget - before }) t sc (paid_at before paid g turn s z h) w in
            (j.0, j.1, acting_course before low vs g turn by c s q k h less f d ∙ j.2);
      }

-- what begins so in all states does in those
pub begins_over : (r : Begun) (caller : Caller) (told : Option Bytes) (live : Live) (stack0 stack1 : List Value) (args old new : ℕ) → Begins r efuns.Shadow caller live stack0 args old stack1 new → BeginsShadow r caller told live stack0 args old live stack1 new
begins_over (begun.Ends a) caller told live stack0 stack1 args old new i turn low vs q k = let j = i turn low vs q k in record { stack = j.stack; course = λ g by c s t sc h w. j.course g by c s sc h }
begins_over (begun.Runs job) caller told live stack0 stack1 args old new i turn low vs q k =
    let j = i turn low vs q k in record { own = j.own; stack = j.stack; height = j.height; fits = j.fits; course = λ g by c s t sc h w. j.course g by c s sc h }
