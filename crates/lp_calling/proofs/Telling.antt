-- `tell_object` and `write`.
use Rattle.std.proofs.Common.{◌≡◌, ◌∙◌, ◌≤◌, ◌++◌, ◌∷◌, [], ℕ, pos, Bool, true, false, List, Option, Some, None, refl, ap, sym, subst, codes, length, drop, map, arith, length-append, append_assoc, unwrap_or, if◌then◌else◌}
use Rattle.std.proofs.lemmas.List.{drop_at}
use Rattle.lp_values.specs.declared.id.ObjId.{ObjId}
use Rattle.lp_values.specs.declared.value.Value.{Value}
use Rattle.lp_values.specs.declared.value.Value.TheVariants as values
use Rattle.lp_cells.specs.Cells.{Store}
use Rattle.lp_events.specs.declared.out.Out.{Out}
use Rattle.lp_events.specs.declared.out.Out.TheVariants as outs
use Rattle.lp_ops.specs.Operands.{opened, operand}
use Rattle.lp_instr.specs.declared.efun.Efun.{Efun}
use Rattle.lp_instr.specs.declared.efun.Efun.TheVariants as efuns
use Rattle.lp_language.specs.World.{is_live}
use Rattle.lp_language.specs.Course.{Apply, Course, State, and_then, gives, zero_value}
use Rattle.lp_language.specs.Operations.{cells_of, living}
use Rattle.lp_meaning.specs.Askers.{Asker, ask_value, tell, told}
use Rattle.lp_meaning.specs.CallingEfuns.{calls, with_live, write_to}
use Rattle.lp_meaning.specs.EfunArguments.{object_arg, object_in, opened_args, text_arg}
use Rattle.lp_meaning.specs.WorldSteps.{connection_of}
use Rattle.lp_world.specs.Closed.{IsClosed}
use Rattle.lp_world.specs.Rows.{live_in}
use Rattle.lp_world.specs.declared.live.Live.{Live}
use Rattle.lp_world.specs.declared.objects.Object.{Object}
use Rattle.lp_world.proofs.Keeping.{live_same}
use Rattle.lp_efuns.specs.declared.caller.Caller.{Caller}
use Rattle.lp_efuns.specs.declared.caller.Turn.{Turn}
use Rattle.lp_efuns.specs.Subjects.{number_of}
use Rattle.lp_efuns.specs.Turns.{At, Setting}
use Rattle.lp_efuns.proofs.Looking.{connection_same, object_same}
use Rattle.lp_calling.specs.declared.job.Begun.TheVariants as begun
use Rattle.lp_calling.specs.declared.job.Applied.TheVariants as applies
use Rattle.lp_calling.specs.declared.job.Question.TheVariants as questions
use Rattle.lp_calling.specs.declared.job.Stage.{Stage}
use Rattle.lp_calling.specs.declared.job.Stage.TheVariants as stages
use Rattle.lp_calling.specs.declared.job.Step.{Step}
use Rattle.lp_calling.specs.declared.job.Step.TheVariants as steps
use Rattle.lp_settling.proofs.Still.{still}
use Rattle.lp_calling.specs.Beginning.{Settled, Starts}
use Rattle.lp_calling.specs.Going.{StageGoes}
use Rattle.lp_calling.specs.Jobs.{IsStageOn, IsStageReady, ended, stage_course}
use Rattle.lp_calling.specs.Targets.{reader, told_stage}
use Rattle.lp_calling.proofs.Courses.{asked_on, then_on}
use Rattle.lp_calling.proofs.Settled.{over_onward, settled_here}

differ : false ≡ true → ⊥
differ q = cc

-- Outputs

-- one more output in the state and in the meaning
pub at_told : (g : Setting) (live : Live) (turn : Turn) (b : ℕ) (s : State) (o : Out) → At g live turn b s → At g (record live { outputs = live.outputs ++ o ∷ [] }) turn b (told (o ∷ []) s)
at_told g live turn b s o h = record {
  stands = record {
    cells = h.stands.cells;
    objects = h.stands.objects;
    names = h.stands.names;
    versions = h.stands.versions;
    kept = h.stands.kept;
    rest = h.stands.rest;
  };
  left = h.left;
  outputs = ap (λ l. l ++ o ∷ []) h.outputs ∙ append_assoc g.before s.outputs (o ∷ []);
  player = h.player;
  commands = h.commands;
}

pub closed_told : (live : Live) (os : List Out) → IsClosed live → IsClosed (record live { outputs = os })
closed_told live os h = record {
  clock = h.clock;
  cells = h.cells;
  objects = h.objects;
  apart = h.apart;
  versions = h.versions;
  call_outs = h.call_outs;
  placed = h.placed;
  numbered = h.numbered;
  waiting = h.waiting;
  room = h.room;
}

-- what ends with 0 in another state ends so here
pub ends_as : (r : Step) (e : Efun) (stage : Stage) (below : ℕ) (live0 live1 : Live) (turn : Turn) (stack0 stack1 : List Value) (b0 b1 : ℕ) → StageGoes r e stages.Zero below live1 turn stack0 b0 live1 turn stack1 b1
    → ((own : List Value) (g : Setting) (by : Asker) (s : State) → At g live0 turn b0 s → (t : State) × Settled s.world g live1 turn b0 t × (stage_course e stage own by s ≡ ended e zero_value t))
    → StageGoes r e stage below live0 turn stack0 b0 live1 turn stack1 b1
ends_as (steps.Ends a) e stage below live0 live1 turn stack0 stack1 b0 b1 z f low own q k =
    let i = z low own q k in record {
      stack = i.stack;
      course = λ g by s h. let t = f own g by s h in let j = over_onward s.world t.0.world g live1 turn b1 a (ended e zero_value t.0) t.1.settles (i.course g by t.0 t.1.at) in (j.0, t.2 ∙ j.1, j.2);
    }
ends_as (steps.Asks c n) e stage below live0 live1 turn stack0 stack1 b0 b1 z f low own q k = absurd ((z low own q k).is_asking)

-- Telling

-- a message to a live object, by its connection
abbrev pub tell_to : Asker → ObjId → List ℕ → State → Option ℕ → Course Value
tell_to by o text s None = and_then (ask_value (Apply o (codes "catch_tell")) (values.Str text ∷ []) by s) (λ v s. gives zero_value s)
tell_to by o text s (Some k) = gives zero_value (told (outs.Text k text ∷ []) s)

told_to : (by : Asker) (o : ObjId) (text : List ℕ) (s : State) (c : Option ℕ)
    → elim c as (λ _. Course Value) [ Some k ↦ gives zero_value (told (outs.Text k text ∷ []) s) | None ↦ and_then (ask_value (Apply o (codes "catch_tell")) (values.Str text ∷ []) by s) (λ v s. gives zero_value s) ] ≡ tell_to by o text s c
told_to by o text s None = refl
told_to by o text s (Some k) = refl

pub telling : (by : Asker) (o : ObjId) (text : List ℕ) (s : State) (b : Bool) (c : Option ℕ) → is_live s.world o ≡ b → connection_of s.world o ≡ c → tell by o text s ≡ (if b then tell_to by o text s c else gives zero_value s)
telling by o text s b c l e =
    ap (λ x. if is_live s.world o then x else gives zero_value s) (told_to by o text s (connection_of s.world o))
    ∙ ap (λ x. if x then tell_to by o text s (connection_of s.world o) else gives zero_value s) l
    ∙ ap (λ x. if b then tell_to by o text s x else gives zero_value s) e

pub live_at : (g : Setting) (live : Live) (turn : Turn) (b : ℕ) (s : State) (o : ObjId) (is : Bool) → At g live turn b s → live_in live.objects o ≡ is → is_live s.world o ≡ is
live_at g live turn b s o is h l = sym (ap (λ f. f o) (live_same g.told g.programs live s.world h.stands)) ∙ l

pub dead_told : (e : Efun) (o : ObjId) (text : List ℕ) (live : Live) (turn : Turn) (b : ℕ) → live_in live.objects o ≡ false
    → (own : List Value) (g : Setting) (by : Asker) (s : State) → At g live turn b s → (t : State) × Settled s.world g live turn b t × (stage_course e (stages.Tell o text) own by s ≡ ended e zero_value t)
dead_told e o text live turn b l own g by s h = (s, settled_here g live turn b s h, ap (λ c. and_then c (ended e)) (telling by o text s false (connection_of s.world o) (live_at g live turn b s o false h l) refl))

pub connection_told : (e : Efun) (o : ObjId) (text : List ℕ) (live live1 : Live) (turn : Turn) (b k : ℕ) → live_in live.objects o ≡ true → Some k ≡ number_of live o → live1 ≡ record live { outputs = live.outputs ++ outs.Text k text ∷ [] }
    → (own : List Value) (g : Setting) (by : Asker) (s : State) → At g live turn b s → (t : State) × Settled s.world g live1 turn b t × (stage_course e (stages.Tell o text) own by s ≡ ended e zero_value t)
connection_told e o text live live1 turn b k l c q own g by s h = (
  told (outs.Text k text ∷ []) s,
  record { at = subst (λ x. At g x turn b (told (outs.Text k text ∷ []) s)) (sym q) (at_told g live turn b s (outs.Text k text) h); settles = still s.world },
  ap (λ c. and_then c (ended e)) (telling by o text s true (Some k) (live_at g live turn b s o true h l) (connection_same g live turn b s o h ∙ sym c)),
)

pub tell_asks : (e : Efun) (o : ObjId) (text : List ℕ) (below : ℕ) (stack0 stack1 : List Value) (live : Live) (turn : Turn) (budget : ℕ) → below ≤ length stack0 → live_in live.objects o ≡ true → None ≡ number_of live o
    → stack1 ≡ stack0 ++ values.Str text ∷ [] → StageGoes (steps.Asks (questions.Apply o applies.CatchTell) 1) e (stages.Tell o text) below live turn stack0 budget live turn stack1 budget
tell_asks e o text below stack0 stack1 live turn budget le l c t low own q k = record {
  own = own;
  arguments = values.Str text ∷ [];
  stack = t ∙ ap (λ s. s ++ values.Str text ∷ []) q;
  count = refl;
  height = refl;
  fits = omega (arith, length-append low own, k);
  is_asking = tt;
  with_these = tt;
  course = λ g by s h. (
    s,
    settled_here g live turn budget s h,
    ap (λ c. and_then c (ended e)) (telling by o text s true None (live_at g live turn budget s o true h l) (connection_same g live turn budget s o h ∙ sym c))
        ∙ then_on (ask_value (Apply o (codes "catch_tell")) (values.Str text ∷ []) by s) (λ v s. gives zero_value s) (ended e)
        ∙ asked_on e (stages.Tell o text) own by (ask_value (Apply o (codes "catch_tell")) (values.Str text ∷ []) by s) (λ p. refl),
  );
}

-- Writing

-- who reads is live, and is the player
reader_is : (l : ObjId → Bool) (p : Option ObjId) (o : ObjId) → Some o ≡ reader l p → (p ≡ Some o) × (l o ≡ true)
reader_is l None o e = cc
reader_is l (Some q) o e = by (l q) refl e
  where
    by : (b : Bool) → l q ≡ b → Some o ≡ (if b then Some q else None) → (Some q ≡ Some o) × (l o ≡ true)
    by true r e = let z : q ≡ o = cc in (ap Some z, ap l (sym z) ∙ r)
    by false r e = cc

-- writing to a live player is telling
written_to : (by : Asker) (p : Option ObjId) (o : ObjId) (t : List ℕ) (s : State) → p ≡ Some o → is_live s.world o ≡ true → write_to by p t s ≡ tell by o t s
written_to by p o t s e l = ap (λ p. write_to by p t s) e ∙ ap (λ b. if b then tell by o t s else gives zero_value (told (outs.Log t ∷ []) s)) l

logged : (by : Asker) (p : Option ObjId) (t : List ℕ) (s : State) → None ≡ reader (is_live s.world) p → write_to by p t s ≡ gives zero_value (told (outs.Log t ∷ []) s)
logged by None t s e = refl
logged by (Some q) t s e = by_live (is_live s.world q) refl e
  where
    by_live : (b : Bool) → is_live s.world q ≡ b → None ≡ (if b then Some q else None) → write_to by (Some q) t s ≡ gives zero_value (told (outs.Log t ∷ []) s)
    by_live true r e = cc
    by_live false r e = ap (λ b. if b then tell by q t s else gives zero_value (told (outs.Log t ∷ []) s)) r

-- what goes on as telling does
pub writes_as : (r : Step) (e : Efun) (o : ObjId) (t : List ℕ) (below : ℕ) (live0 live1 : Live) (turn : Turn) (stack0 stack1 : List Value) (b0 b1 : ℕ) → Some o ≡ reader (live_in live0.objects) turn.player
    → StageGoes r e (stages.Tell o t) below live0 turn stack0 b0 live1 turn stack1 b1 → StageGoes r e (stages.Write t) below live0 turn stack0 b0 live1 turn stack1 b1
writes_as (steps.Ends a) e o t below live0 live1 turn stack0 stack1 b0 b1 is z low own q k =
    let i = z low own q k in
    let p = reader_is (live_in live0.objects) turn.player o is in
    record {
      stack = i.stack;
      course = λ g by s h. let j = i.course g by s h in
          (j.0, ap (λ c. and_then c (ended e)) (written_to by s.player o t s (h.player ∙ p.0) (live_at g live0 turn b0 s o true h p.1)) ∙ j.1, j.2);
    }
writes_as (steps.Asks c n) e o t below live0 live1 turn stack0 stack1 b0 b1 is z low own q k =
    let i = z low own q k in
    let p = reader_is (live_in live0.objects) turn.player o is in
    record {
      own = i.own;
      arguments = i.arguments;
      stack = i.stack;
      count = i.count;
      height = i.height;
      fits = i.fits;
      is_asking = tt;
      with_these = i.with_these;
      course = λ g by s h. let j = i.course g by s h in
          (j.0, j.1, ap (λ c. and_then c (ended e)) (written_to by s.player o t s (h.player ∙ p.0) (live_at g live0 turn b0 s o true h p.1)) ∙ j.2);
    }

pub log_told : (e : Efun) (t : List ℕ) (live live1 : Live) (turn : Turn) (b : ℕ) → None ≡ reader (live_in live.objects) turn.player → live1 ≡ record live { outputs = live.outputs ++ outs.Log t ∷ [] }
    → (own : List Value) (g : Setting) (by : Asker) (s : State) → At g live turn b s → (u : State) × Settled s.world g live1 turn b u × (stage_course e (stages.Write t) own by s ≡ ended e zero_value u)
log_told e t live live1 turn b is q own g by s h = (
  told (outs.Log t ∷ []) s,
  record { at = subst (λ x. At g x turn b (told (outs.Log t ∷ []) s)) (sym q) (at_told g live turn b s (outs.Log t) h); settles = still s.world },
  ap (λ c. and_then c (ended e)) (logged by s.player t s (is ∙ ap (λ l. reader l turn.player) (live_same g.told g.programs live s.world h.stands) ∙ ap (reader (is_live s.world)) (sym h.player))),
)

-- Beginning

-- a text goes to an object that there may be
told_begun : (o : Option ObjId) (t : List ℕ) (own : List Value) (by : Asker) (s : State) → and_then (with_live o s (λ o. tell by o t s)) (ended efuns.TellObject) ≡ stage_course efuns.TellObject (told_stage o t) own by s
told_begun None t own by s = refl
told_begun (Some o) t own by s = refl

told_on : (o : Option ObjId) (t : List ℕ) (low n : ℕ) → low ≤ n → IsStageOn (told_stage o t) low n
told_on None t low n l = l
told_on (Some o) t low n l = l

pub told_ready : (objects : List (Option Object)) (o : Option ObjId) (t : List ℕ) → IsStageReady objects (told_stage o t)
told_ready objects None t = tt
told_ready objects (Some o) t = tt

-- which object an argument is does not hang on cells
read_any : (l : ObjId → Bool) (a b : Store) (o : ObjId) (x : Bool)
    → object_in (opened l a (unwrap_or (if x then Some (values.Obj o) else None) (values.Int (pos 0)))) ≡ object_in (opened l b (unwrap_or (if x then Some (values.Obj o) else None) (values.Int (pos 0))))
read_any l a b o true = refl
read_any l a b o false = refl

any_cells : (l : ObjId → Bool) (vs : List Value) (a b : Store) → object_arg (map (operand l a) vs) 0 ≡ object_arg (map (operand l b) vs) 0
any_cells l [] a b = refl
any_cells l (values.Int n ∷ vs) a b = refl
any_cells l (values.Str t ∷ vs) a b = refl
any_cells l (values.Arr c ∷ vs) a b = refl
any_cells l (values.Map c ∷ vs) a b = refl
any_cells l (values.Obj o ∷ vs) a b = read_any l a b o (l o)

pub tell_starts : (caller : Caller) (live : Live) (n : ℕ) (stack : List Value) (stage : Stage) (text : List ℕ) → n ≤ length stack
    → ((cells : Store) → stage ≡ told_stage (object_arg (map (operand (live_in live.objects) cells) (drop n stack)) 0) text)
    → ((l : ObjId → Bool) (cells : Store) → text ≡ text_arg (map (operand l cells) (drop n stack)) 1)
    → Starts (begun.Runs (record { efun = efuns.TellObject; low = n; stage = stage })) efuns.TellObject caller live n stack stack
unfolding calls
tell_starts caller live n stack stage text le st f turn b low vs q k =
    let same : drop n stack ≡ vs = ap (drop n) q ∙ drop_at low vs n k in
    record {
      own = vs;
      stack = q;
      height = k;
      fits = subst (λ st. IsStageOn st n (length stack)) (sym (st [])) (told_on (object_arg (map (operand (live_in live.objects) []) (drop n stack)) 0) text n (length stack) le);
      course = λ g by c s sc h. (
        s,
        settled_here g live turn b s h,
        ap (λ t. and_then (with_live (object_arg (opened_args s vs) 0) s (λ o. tell by o t s)) (ended efuns.TellObject)) (sym (f (living s) (cells_of s) ∙ ap (λ ws. text_arg (opened_args s ws) 1) same))
            ∙ told_begun (object_arg (opened_args s vs) 0) text vs by s
            ∙ ap (λ st. stage_course efuns.TellObject st vs by s)
            (ap (λ o. told_stage o text) (object_same g live turn b s vs 0 (object_arg (map (operand (live_in live.objects) (cells_of s)) vs) 0) h (λ cells. any_cells (live_in live.objects) vs (cells_of s) cells))
            ∙ sym (st (cells_of s) ∙ ap (λ ws. told_stage (object_arg (map (operand (live_in live.objects) (cells_of s)) ws) 0) text) same)),
      );
    }
