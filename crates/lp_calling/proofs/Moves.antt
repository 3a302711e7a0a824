-- Where `move_object` moves an item to.
use Rattle.std.proofs.Common.{◌≡◌, ◌∙◌, ◌≤◌, ◌++◌, [], ℕ, Bool, true, false, List, Option, Some, None, refl, ap, sym, subst, append-nil, drop, length, map, if◌then◌else◌}
use Rattle.std.proofs.lemmas.List.{drop_at}
use Rattle.lp_values.specs.declared.error.ErrorKind.TheVariants.{BadTarget}
use Rattle.lp_values.specs.Errors.{plain}
use Rattle.lp_values.specs.declared.id.ObjId.{ObjId}
use Rattle.lp_values.specs.declared.value.Value.{Value}
use Rattle.lp_values.specs.declared.value.Value.TheVariants as values
use Rattle.lp_cells.specs.Cells.{Store}
use Rattle.lp_ops.specs.Operands.{Opened, Number, Chars, Array, Mapping, Object, operand}
use Rattle.lp_instr.specs.declared.efun.Efun.{Efun}
use Rattle.lp_instr.specs.declared.efun.Efun.TheVariants as efuns
use Rattle.lp_language.specs.World.{World}
use Rattle.lp_language.specs.Course.{Course, Failed, State, and_then, gives, stops, zero_value}
use Rattle.lp_language.specs.Operations.{cells_of, living}
use Rattle.lp_meaning.specs.Askers.{Asker}
use Rattle.lp_meaning.specs.CallingEfuns.{calls, move_object, move_to}
use Rattle.lp_meaning.specs.EfunArguments.{arg, opened_args, text_arg, text_in, value_arg}
use Rattle.lp_meaning.specs.FileLoads.{live_object, load_value}
use Rattle.lp_meaning.specs.WorldSteps.{as_name, is_clone_name}
use Rattle.lp_world.specs.Rows.{live_in}
use Rattle.lp_world.specs.declared.live.Live.{Live}
use Rattle.lp_world.proofs.Keeping.{live_same}
use Rattle.lp_efuns.specs.declared.caller.Caller.{Caller}
use Rattle.lp_efuns.specs.declared.caller.Turn.{Turn}
use Rattle.lp_efuns.specs.Turns.{At, Setting}
use Rattle.lp_efuns.proofs.Looking.{found_same}
use Rattle.lp_calling.specs.declared.job.Begun.TheVariants as begun
use Rattle.lp_calling.specs.declared.job.Question.TheVariants as questions
use Rattle.lp_calling.specs.declared.job.Stage.{Stage}
use Rattle.lp_calling.specs.declared.job.Stage.TheVariants as stages
use Rattle.lp_calling.specs.declared.job.Step.TheVariants as steps
use Rattle.lp_calling.specs.declared.moving.Moving.TheVariants as moves
use Rattle.lp_calling.specs.declared.target.CallTarget.{CallTarget}
use Rattle.lp_calling.specs.declared.target.CallTarget.TheVariants as targets
use Rattle.lp_calling.specs.Beginning.{Starts, acts}
use Rattle.lp_calling.specs.Going.{StageGoes, StageTakes}
use Rattle.lp_calling.specs.Jobs.{IsStageOn, ended, stage_course}
use Rattle.lp_calling.specs.Moves.{comes_into}
use Rattle.lp_calling.specs.Moving.{ActsAs, IsWhom, move_stage, unnamed_stage}
use Rattle.lp_calling.specs.Targets.{target_of}
use Rattle.lp_calling.proofs.Calling.{FoundBy}
use Rattle.lp_calling.proofs.Courses.{asked_on, then_on}
use Rattle.lp_calling.proofs.Loading.{led}
use Rattle.lp_calling.proofs.Settled.{settled_here}

-- Whom a value is

pub whom_lives : (l : ObjId → Bool) (o : ObjId) → l o ≡ true → IsWhom l (values.Obj o) (Some o)
whom_lives l o is w e = sym (ap (λ b. if b then Some o else None) (ap (λ f. f o) e ∙ is))

pub whom_is_dead : (l : ObjId → Bool) (o : ObjId) → l o ≡ false → IsWhom l (values.Obj o) None
whom_is_dead l o is w e = sym (ap (λ b. if b then Some o else None) (ap (λ f. f o) e ∙ is))

-- in the world of a state for which the live state stands
whom_at : (g : Setting) (live : Live) (turn : Turn) (b : ℕ) (s : State) (v : Value) (r : Option ObjId) → At g live turn b s → IsWhom (live_in live.objects) v r → live_object s.world v ≡ r
whom_at g live turn b s v r h w = sym (w s.world (sym (live_same g.told g.programs live s.world h.stands)))

-- What the second argument is

second_at : (g : Setting) (live : Live) (turn : Turn) (b : ℕ) (s : State) (vs : List Value) (r : CallTarget) → At g live turn b s
    → ((cells : Store) → r ≡ target_of (arg (map (operand (live_in live.objects) cells) vs) 1)) → r ≡ target_of (arg (opened_args s vs) 1)
second_at g live turn b s vs r h f = f (cells_of s) ∙ ap (λ l. target_of (arg (map (operand l (cells_of s)) vs) 1)) (live_same g.told g.programs live s.world h.stands)

into_object : (by : Asker) (s : State) (item : Value) (x : Opened) (o : ObjId) → targets.Live o ≡ target_of x → move_object by s item x ≡ move_to by (live_object s.world item) (Some o) s
into_object by s item (Object p) o e = let q : p ≡ o = cc in ap (λ p. move_to by (live_object s.world item) (Some p) s) q
into_object by s item (Chars t) o e = cc
into_object by s item (Number n) o e = cc
into_object by s item (Array c vs) o e = cc
into_object by s item (Mapping c ps) o e = cc

into_nothing : (by : Asker) (s : State) (item : Value) (x : Opened) → targets.Nothing ≡ target_of x → move_object by s item x ≡ gives zero_value s
into_nothing by s item (Object p) e = cc
into_nothing by s item (Chars t) e = cc
into_nothing by s item (Number n) e = refl
into_nothing by s item (Array c vs) e = refl
into_nothing by s item (Mapping c ps) e = refl

is_text : (x : Opened) → targets.Named ≡ target_of x → x ≡ Chars (text_in x)
is_text (Object p) e = cc
is_text (Chars t) e = refl
is_text (Number n) e = cc
is_text (Array c vs) e = cc
is_text (Mapping c ps) e = cc

-- the move once both are looked at
pub moves_staged : (e : Efun) (item dest : Option ObjId) (own : List Value) (by : Asker) (s : State) → and_then (move_to by item dest s) (ended e) ≡ stage_course e (move_stage item dest) own by s
moves_staged e (Some i) (Some d) own by s = refl
moves_staged e (Some i) None own by s = refl
moves_staged e None (Some d) own by s = refl
moves_staged e None None own by s = refl

-- what a destination that was found comes to, as the value that it is
pub dest_staged : (e : Efun) (w : World) (first v : Value) (item dest : Option ObjId) (own : List Value) (by : Asker) (s : State) → live_object w first ≡ item → live_object w v ≡ dest
    → and_then (move_to by (live_object w first) (live_object w v) s) (ended e) ≡ stage_course e (move_stage item dest) own by s
dest_staged e w first v item dest own by s i d =
    ap (λ x. and_then (move_to by x (live_object w v) s) (ended e)) i ∙ ap (λ x. and_then (move_to by item x s) (ended e)) d ∙ moves_staged e item dest own by s

-- Beginning

pub object_acts : (live : Live) (vs : List Value) (dest : ObjId) (item : Option ObjId) → ((cells : Store) → targets.Live dest ≡ target_of (arg (map (operand (live_in live.objects) cells) vs) 1))
    → IsWhom (live_in live.objects) (value_arg vs 0) item → ActsAs live vs (move_stage item (Some dest))
unfolding calls
object_acts live vs dest item f w g turn b by c s h =
    ap (λ k. and_then k (ended efuns.MoveObject))
    (into_object by s (value_arg vs 0) (arg (opened_args s vs) 1) dest (second_at g live turn b s vs (targets.Live dest) h f)
    ∙ ap (λ i. move_to by i (Some dest) s) (whom_at g live turn b s (value_arg vs 0) item h w))
    ∙ moves_staged efuns.MoveObject item (Some dest) vs by s

pub nothing_acts : (live : Live) (vs : List Value) → ((cells : Store) → targets.Nothing ≡ target_of (arg (map (operand (live_in live.objects) cells) vs) 1)) → ActsAs live vs stages.Zero
unfolding calls
nothing_acts live vs f g turn b by c s h =
    ap (λ k. and_then k (ended efuns.MoveObject)) (into_nothing by s (value_arg vs 0) (arg (opened_args s vs) 1) (second_at g live turn b s vs targets.Nothing h f))

-- the destination by its name
module _ (live : Live) (vs : List Value) (name : List ℕ) (is : (cells : Store) → targets.Named ≡ target_of (arg (map (operand (live_in live.objects) cells) vs) 1))
    (means : (l : ObjId → Bool) (cells : Store) → name ≡ as_name (text_arg (map (operand l cells) vs) 1)) where
  -- the efun acts so behind what the text comes to
  text_acts : (g : Setting) (turn : Turn) (b : ℕ) (by : Asker) (s : State) (r : Option ObjId) → At g live turn b s → FoundBy live name r
      → move_object by s (value_arg vs 0) (arg (opened_args s vs) 1) ≡ and_then (elim r as (λ _. Course Value) [
        | Some o ↦ gives (values.Obj o) s
        | None ↦ if is_clone_name name then stops (Failed (plain BadTarget)) s else load_value by name s
      ]) (λ v s. move_to by (live_object s.world (value_arg vs 0)) (live_object s.world v) s)
  text_acts g turn b by s r h f =
      ap (λ x. move_object by s (value_arg vs 0) x) (is_text (arg (opened_args s vs) 1) (second_at g live turn b s vs targets.Named h is))
      ∙ ap (λ c. and_then c (λ v s. move_to by (live_object s.world (value_arg vs 0)) (live_object s.world v) s))
      (led by (text_arg (opened_args s vs) 1) s name r (means (living s) (cells_of s)) (sym (found_same g live turn b s name name r h f refl)))

  pub named_acts : (o : ObjId) (item dest : Option ObjId) → FoundBy live name (Some o) → IsWhom (live_in live.objects) (value_arg vs 0) item → IsWhom (live_in live.objects) (values.Obj o) dest → ActsAs live vs (move_stage item dest)
  unfolding calls
  named_acts o item dest f w x g turn b by c s h =
      ap (λ k. and_then k (ended efuns.MoveObject)) (text_acts g turn b by s (Some o) h f)
      ∙ dest_staged efuns.MoveObject s.world (value_arg vs 0) (values.Obj o) item dest vs by s (whom_at g live turn b s (value_arg vs 0) item h w) (whom_at g live turn b s (values.Obj o) dest h x)

  pub unnamed_acts : FoundBy live name None → ActsAs live vs (unnamed_stage name)
  unfolding calls
  unnamed_acts f g turn b by c s h = ap (λ k. and_then k (ended efuns.MoveObject)) (text_acts g turn b by s None h f) ∙ picked (is_clone_name name)
    where
      picked : (b : Bool)
          → and_then (and_then (if b then stops (Failed (plain BadTarget)) s else load_value by name s) (λ v s. move_to by (live_object s.world (value_arg vs 0)) (live_object s.world v) s)) (ended efuns.MoveObject)
          ≡ stage_course efuns.MoveObject (if b then stages.Error BadTarget else stages.Move (moves.Destination name)) vs by s
      picked true = refl
      picked false = refl

-- it goes on as a job from that stage
pub stage_starts : (stage : Stage) (caller : Caller) (live : Live) (n : ℕ) (stack : List Value) → IsStageOn stage n (length stack) → ActsAs live (drop n stack) stage
    → Starts (begun.Runs (record { efun = efuns.MoveObject; low = n; stage = stage })) efuns.MoveObject caller live n stack stack
stage_starts stage caller live n stack on f turn b low vs q k =
    let same : drop n stack ≡ vs = ap (drop n) q ∙ drop_at low vs n k in
    record {
      own = vs;
      stack = q;
      height = k;
      fits = on;
      course = λ g by c s sc h. (
        s,
        settled_here g live turn b s h,
        ap (λ ws. acts efuns.MoveObject ws by c s) (sym same) ∙ f g turn b by c s h ∙ ap (λ ws. stage_course efuns.MoveObject stage ws by s) same,
      );
    }

-- Answers

-- the destination that was loaded
pub destination_takes : (name : List ℕ) (v : Value) (l : ObjId → Bool) (item dest : Option ObjId) (below : ℕ) (stack : List Value) → IsWhom l (value_arg (drop below stack) 0) item → IsWhom l v dest
    → StageTakes (stages.Move (moves.Destination name)) v l below stack (move_stage item dest) stack
destination_takes name v l item dest below stack w x low own q k =
    let same : drop below stack ≡ own = ap (drop below) q ∙ drop_at low own below k in
    record {
      own = own;
      stack = q;
      course = λ e by s i.
          dest_staged e s.world (value_arg own 0) v item dest own by s (ap (λ ws. live_object s.world (value_arg ws 0)) (sym same) ∙ sym (w s.world i)) (sym (x s.world i));
    }

-- Asking

-- nothing lies on top of the job's own values
pub destination_asks : (e : Efun) (name : List ℕ) (below : ℕ) (stack : List Value) (live : Live) (turn : Turn) (budget : ℕ) → below ≤ length stack
    → StageGoes (steps.Asks (questions.Load name) 0) e (stages.Move (moves.Destination name)) below live turn stack budget live turn stack budget
destination_asks e name below stack live turn budget le low own q k = record {
  own = own;
  arguments = [];
  stack = q ∙ sym (append-nil (low ++ own));
  count = refl;
  height = refl;
  fits = (subst (λ l. below ≤ length l) q le, tt);
  is_asking = tt;
  with_these = refl;
  course = λ g by s h. (
    s,
    settled_here g live turn budget s h,
    then_on (load_value by name s) (comes_into (value_arg own 0) by) (ended e) ∙ asked_on e (stages.Move (moves.Destination name)) own by (load_value by name s) (λ p. refl),
  );
}
