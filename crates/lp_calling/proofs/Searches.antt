-- Objects are searched for what a text names.
use Rattle.std.proofs.Common.{◌≡◌, ◌∙◌, ◌+◌, ◌-◌, ◌<◌, ◌≤◌, ◌++◌, ◌∷◌, [], ℕ, Bool, true, false, ◌||◌, List, Option, Some, None, cond, refl, ap, sym, subst, codes, drop, length, map, slice_get, take, arith, length-append, if◌then◌else◌}
use Rattle.std.proofs.lemmas.List.{drop_all, drop_at, take_at}
use Rattle.lp_values.specs.declared.id.ObjId.{ObjId}
use Rattle.lp_values.specs.declared.value.Value.{Value}
use Rattle.lp_values.specs.declared.value.Value.TheVariants as values
use Rattle.lp_values.specs.Read.{is_zero}
use Rattle.lp_cells.specs.Cells.{Store}
use Rattle.lp_ops.specs.Operands.{Chars, Object, Opened, operand}
use Rattle.lp_instr.specs.declared.efun.Efun.{Efun}
use Rattle.lp_instr.specs.declared.efun.Efun.TheVariants as efuns
use Rattle.lp_language.specs.World.{is_live}
use Rattle.lp_language.specs.Course.{Course, Other, Scene, State, and_then, gives, zero_value}
use Rattle.lp_language.specs.Operations.{cells_of, is_false, living}
use Rattle.lp_places.specs.Places.{environment, is_at}
use Rattle.lp_meaning.specs.Askers.{Asker, ask_value}
use Rattle.lp_meaning.specs.CallingEfuns.{calls, is_beside, nobody, present, present_among, present_in, present_text}
use Rattle.lp_meaning.specs.EfunArguments.{arg, object_arg, opened_args, text_arg, text_in}
use Rattle.lp_world.specs.Rows.{live_in}
use Rattle.lp_world.specs.declared.live.Live.{Live}
use Rattle.lp_world.proofs.Keeping.{live_same}
use Rattle.lp_efuns.specs.declared.caller.Caller.{Caller}
use Rattle.lp_efuns.specs.declared.caller.Turn.{Turn}
use Rattle.lp_efuns.specs.Turns.{At, IsScene, Setting}
use Rattle.lp_efuns.proofs.Looking.{object_same}
use Rattle.lp_calling.specs.declared.job.Begun.TheVariants as begun
use Rattle.lp_calling.specs.declared.job.Question.TheVariants as questions
use Rattle.lp_calling.specs.declared.job.Search.{Search}
use Rattle.lp_calling.specs.declared.job.Stage.{Stage}
use Rattle.lp_calling.specs.declared.job.Stage.TheVariants as stages
use Rattle.lp_calling.specs.declared.job.Step.TheVariants as steps
use Rattle.lp_calling.specs.declared.target.CallTarget.{CallTarget}
use Rattle.lp_calling.specs.declared.target.CallTarget.TheVariants as targets
use Rattle.lp_calling.specs.Audiences.{Holds, LiesIn}
use Rattle.lp_calling.specs.Beginning.{Starts}
use Rattle.lp_calling.specs.Entering.{Advances, IsSearchPoised}
use Rattle.lp_calling.specs.Going.{StageGoes, StageTakes}
use Rattle.lp_calling.specs.Jobs.{ended, objects_behind, objects_left, search_around, searching, sought}
use Rattle.lp_calling.specs.Searches.{ArePassed, IsBeside, IsFirstSearch, IsLiveAt, IsSkipped, SearchesAround, SearchesIn, is_in, is_near}
use Rattle.lp_calling.specs.Targets.{target_of}
use Rattle.lp_calling.proofs.Courses.{asked_on, goes_alike, then_on}
use Rattle.lp_calling.proofs.Lists.{left_at, left_split}
use Rattle.lp_calling.proofs.Loading.{one_above}
use Rattle.lp_calling.proofs.Settled.{settled_here}
use Rattle.lp_calling.proofs.Telling.{live_at}

-- Beside

pub beside_given : (live : Live) (this e o : ObjId) (place : Option ObjId) → LiesIn place live o → IsBeside (is_at place e) live this (Some e) o
beside_given live this e o place li g turn b s h = ap (λ p. is_at p e) (li g turn b s h)

in_is : (place around : Option ObjId) → elim around as (λ _. Bool) [ Some e ↦ is_at place e | None ↦ false ] ≡ is_in place around
in_is place None = refl
in_is place (Some e) = refl

pub beside_this : (live : Live) (this o : ObjId) (place around : Option ObjId) (is : Bool) → LiesIn place live o → LiesIn around live this → is ≡ is_near place around this → IsBeside is live this None o
beside_this live this o place around is li la e g turn b s h =
    ap (λ p. is_at p this || elim (environment s.world.places this) as (λ _. Bool) [ Some e ↦ is_at p e | None ↦ false ]) (li g turn b s h)
    ∙ ap (λ a. is_at place this || elim a as (λ _. Bool) [ Some e ↦ is_at place e | None ↦ false ]) (la g turn b s h)
    ∙ ap (λ x. is_at place this || x) (in_is place around) ∙ sym e

-- Passing

-- by whether it is live
ask_first : (by : Asker) (t : List ℕ) (o : ObjId) (os : List ObjId) (s : State) (none : State → Course Value) (b : Bool) → is_live s.world o ≡ b → present_among by t (o ∷ os) s none
    ≡ (if b then and_then (ask_value (Other o (codes "id")) (values.Str t ∷ []) by s) (λ v s. cond (is_false s v) (present_among by t os s none) (gives (values.Obj o) s)) else present_among by t os s none)
ask_first by t o os s none b e =
    ap (λ b. if b then and_then (ask_value (Other o (codes "id")) (values.Str t ∷ []) by s) (λ v s. cond (is_false s v) (present_among by t os s none) (gives (values.Obj o) s)) else present_among by t os s none) e

pub none_passed : (live : Live) (os : List ObjId) (n : ℕ) → ArePassed live os n n
none_passed live os n g turn b by s t none h = refl

pub one_passed : (live : Live) (os : List ObjId) (n m : ℕ) (o : ObjId) → slice_get os m ≡ Some o → live_in live.objects o ≡ false → ArePassed live os n m → ArePassed live os n (m + 1)
one_passed live os n m o e l f g turn b by s t none h =
    f g turn b by s t none h ∙ ap (λ ls. present_among by t ls s none) (left_at os m o e) ∙ ask_first by t o (drop (m + 1) os) s none false (live_at g live turn b s o false h l)

pub passed_to : (live : Live) (os : List ObjId) (n m : ℕ) (o : ObjId) → slice_get os m ≡ Some o → live_in live.objects o ≡ true → n ≤ m → ArePassed live os n m → IsSkipped live os n m
passed_to live os n m o e l k f = record { passed = f; more = k; next = λ _. record { object = o; is = e; lives = l } }

pub all_passed : (live : Live) (os : List ObjId) (n m : ℕ) → length os ≤ m → n ≤ m → ArePassed live os n m → IsSkipped live os n m
all_passed live os n m e k f = record { passed = f; more = k; next = λ l. absurd (omega (arith, e, l)) }

-- Places

-- what is left is searched
pub place_searched : (k : Search) (live : Live) (place : ObjId) (text : List ℕ) → k.text ≡ text → k.around ≡ None → Holds live place k.objects.items → ArePassed live k.objects.items 0 k.done → SearchesIn (stages.Seek k) live text place
place_searched k live place text t a ho f e own g turn b by s h =
    ap (λ c. and_then c (ended e))
    (ap (λ ls. present_among by text ls s nobody) (ho g turn b s h) ∙ f g turn b by s text nobody h ∙ ap (λ t. present_among by t (objects_left k) s (search_around by t None)) (sym t)
    ∙ ap (λ a. present_among by k.text (objects_left k) s (search_around by k.text a)) (sym a))

-- the next one is live
pub poised_at : (k : Search) (live : Live) (os : List ObjId) → os ≡ k.objects.items → IsLiveAt live os k.done → IsSearchPoised k live
poised_at k live os e x = record { object = x.object; is = ap (λ l. slice_get l k.done) (sym e) ∙ x.is; lives = x.lives }

-- nothing is left
pub place_empty : (live : Live) (place : ObjId) (text : List ℕ) (os : List ObjId) (n : ℕ) → Holds live place os → ArePassed live os 0 n → length os ≤ n → SearchesIn stages.Zero live text place
place_empty live place text os n ho f l e own g turn b by s h =
    ap (λ c. and_then c (ended e)) (ap (λ ls. present_among by text ls s nobody) (ho g turn b s h) ∙ f g turn b by s text nobody h ∙ ap (λ ls. present_among by text ls s nobody) (drop_all n os l))

pub around_place : (stage : Stage) (live : Live) (o place : ObjId) (text : List ℕ) → LiesIn (Some place) live o → SearchesIn stage live text place → SearchesAround stage live text (Some o)
around_place stage live o place text li f e own g turn b by s h = ap (λ p. and_then (present_in by text p s nobody) (ended e)) (li g turn b s h) ∙ f e own g turn b by s h

pub around_nowhere : (live : Live) (o : ObjId) (text : List ℕ) → LiesIn None live o → SearchesAround stages.Zero live text (Some o)
around_nowhere live o text li e own g turn b by s h = ap (λ p. and_then (present_in by text p s nobody) (ended e)) (li g turn b s h)

pub around_nothing : (live : Live) (text : List ℕ) → SearchesAround stages.Zero live text None
around_nothing live text e own g turn b by s h = refl

-- Going on

pub advances_to : (k : Search) (live : Live) (turn : Turn) (n : ℕ) → ArePassed live k.objects.items k.done n → Advances (stages.Seek k) live turn (stages.Seek (record k { done = n })) live turn
advances_to k live turn n f e own g b by s h = (s, settled_here g live turn b s h, ap (λ c. and_then c (ended e)) (f g turn b by s k.text (search_around by k.text k.around) h))

pub advances_around : (k : Search) (live : Live) (turn : Turn) (n : ℕ) (stage : Stage) → ArePassed live k.objects.items k.done n → length k.objects.items ≤ n → SearchesAround stage live k.text k.around
    → Advances (stages.Seek k) live turn stage live turn
advances_around k live turn n stage f l a e own g b by s h = (
  s,
  settled_here g live turn b s h,
  ap (λ c. and_then c (ended e)) (f g turn b by s k.text (search_around by k.text k.around) h ∙ ap (λ ls. present_among by k.text ls s (search_around by k.text k.around)) (drop_all n k.objects.items l))
      ∙ a e own g turn b by s h,
)

-- the next one is asked
abbrev found : Search → ObjId → Asker → Value → State → Course Value
found k o by v s = cond (is_false s v) (searching k (objects_behind k) by s) (gives (values.Obj o) s)

found_is : (k : Search) (o : ObjId) (by : Asker) (v : Value) (s : State) → objects_left k ≡ o ∷ objects_behind k → found k o by v s ≡ sought k (objects_left k) (objects_behind k) by v s
found_is k o by v s e = ap (λ ls. sought k ls (objects_behind k) by v s) (sym e)

pub object_asks : (e : Efun) (k : Search) (o : ObjId) (name : List ℕ) (below : ℕ) (stack0 stack1 : List Value) (live : Live) (turn : Turn) (budget : ℕ) → below ≤ length stack0 → slice_get k.objects.items k.done ≡ Some o
    → k.done < length k.objects.items → live_in live.objects o ≡ true → name ≡ codes "id" → stack1 ≡ stack0 ++ values.Str k.text ∷ []
    → StageGoes (steps.Asks (questions.Other o name) 1) e (stages.Seek k) below live turn stack0 budget live turn stack1 budget
object_asks e k o name below stack0 stack1 live turn budget le at d l nm t low own q kk =
    subst (λ n. StageGoes (steps.Asks (questions.Other o n) 1) e (stages.Seek k) below live turn stack0 budget live turn stack1 budget) (sym nm) so low own q kk
  where
    left : objects_left k ≡ o ∷ objects_behind k
    left = left_at k.objects.items k.done o at

    so : StageGoes (steps.Asks (questions.Other o (codes "id")) 1) e (stages.Seek k) below live turn stack0 budget live turn stack1 budget
    so low own q kk = record {
      own = own;
      arguments = values.Str k.text ∷ [];
      stack = t ∙ ap (λ s. s ++ values.Str k.text ∷ []) q;
      count = refl;
      height = refl;
      fits = omega (arith, length-append low own, kk);
      is_asking = d;
      with_these = tt;
      course = λ g by s h.
          let ask : Course Value = ask_value (Other o (codes "id")) (values.Str k.text ∷ []) by s in (
            s,
            settled_here g live turn budget s h,
            ap (λ c. and_then c (ended e)) (ap (λ ls. searching k ls by s) left ∙ ask_first by k.text o (objects_behind k) s (search_around by k.text k.around) true (live_at g live turn budget s o true h l))
                ∙ then_on ask (found k o by) (ended e)
                ∙ goes_alike ask (λ v s. and_then (found k o by v s) (ended e)) (λ v s. and_then (sought k (objects_left k) (objects_behind k) by v s) (ended e)) (λ v s. ap (λ c. and_then c (ended e)) (found_is k o by v s left))
                ∙ asked_on e (stages.Seek k) own by ask (λ p. refl),
          );
    }

-- Answers

-- by whether it is 0
sought_by : (k : Search) (o : ObjId) (by : Asker) (v : Value) (s : State) (b : Bool) → objects_left k ≡ o ∷ objects_behind k → is_false s v ≡ b
    → sought k (objects_left k) (objects_behind k) by v s ≡ (cond b (searching k (objects_behind k) by s) (gives (values.Obj o) s))
sought_by k o by v s b l e = ap (λ ls. sought k ls (objects_behind k) by v s) l ∙ ap (λ b. cond b (searching k (objects_behind k) by s) (gives (values.Obj o) s)) e

false_is : (s : State) (l : ObjId → Bool) (v : Value) (b : Bool) → living s ≡ l → is_zero l v ≡ b → is_false s v ≡ b
unfolding is_false
false_is s l v b i e = ap (λ l. is_zero l v) i ∙ e

pub zero_takes_on : (k : Search) (v : Value) (l : ObjId → Bool) (below : ℕ) (stack : List Value) → k.done < length k.objects.items → is_zero l v ≡ true
    → StageTakes (stages.Seek k) v l below stack (stages.Seek (record k { done = k.done + 1 })) stack
zero_takes_on k v l below stack d z low own q kk =
    let next = left_split k.objects.items k.done d in
    record { own = own; stack = q; course = λ e by s i. ap (λ c. and_then c (ended e)) (sought_by k next.0 by v s true next.1 (false_is s l v true i z)) }

pub found_takes : (k : Search) (o : ObjId) (v : Value) (l : ObjId → Bool) (below : ℕ) (stack0 stack1 : List Value) → slice_get k.objects.items k.done ≡ Some o → is_zero l v ≡ false → stack1 ≡ take below stack0 ++ values.Obj o ∷ []
    → StageTakes (stages.Seek k) v l below stack0 stages.Value stack1
found_takes k o v l below stack0 stack1 at z t low own q kk = record {
  own = values.Obj o ∷ [];
  stack = t ∙ ap (λ s. s ++ values.Obj o ∷ []) (ap (take below) q ∙ take_at low own below kk);
  course = λ e by s i. ap (λ c. and_then c (ended e)) (sought_by k o by v s false (left_at k.objects.items k.done o at) (false_is s l v false i z));
}

-- Beginning

-- what the first argument is as read
object_read : (x : Opened) (o : ObjId) → targets.Live o ≡ target_of x → x ≡ Object o
object_read (Object p) o e = let z : o ≡ p = cc in ap Object (sym z)
object_read (Chars t) o e = cc
object_read _ o e = cc

text_read : (x : Opened) → targets.Named ≡ target_of x → x ≡ Chars (text_in x)
text_read (Object p) e = cc
text_read (Chars t) e = refl
text_read _ e = cc

nothing_read : (by : Asker) (c : Scene) (s : State) (xs : List Opened) (x : Opened) → targets.Nothing ≡ target_of x → present by c s xs x ≡ gives zero_value s
nothing_read by c s xs (Object p) e = cc
nothing_read by c s xs (Chars t) e = cc
nothing_read by c s xs _ e = refl

-- so it is in each state for which the live state stands
first_is : (g : Setting) (live : Live) (turn : Turn) (b : ℕ) (s : State) (n : ℕ) (stack vs : List Value) (t : CallTarget) → drop n stack ≡ vs → At g live turn b s
    → ((cells : Store) → t ≡ target_of (arg (map (operand (live_in live.objects) cells) (drop n stack)) 0)) → t ≡ target_of (arg (opened_args s vs) 0)
first_is g live turn b s n stack vs t same h f =
    f (cells_of s) ∙ ap (λ ws. target_of (arg (map (operand (live_in live.objects) (cells_of s)) ws) 0)) same ∙ ap (λ l. target_of (arg (map (operand l (cells_of s)) vs) 0)) (live_same g.told g.programs live s.world h.stands)

second_is : (g : Setting) (live : Live) (turn : Turn) (b : ℕ) (s : State) (n : ℕ) (stack vs : List Value) (r : Option ObjId) → drop n stack ≡ vs → At g live turn b s
    → ((cells : Store) → r ≡ object_arg (map (operand (live_in live.objects) cells) (drop n stack)) 1) → object_arg (opened_args s vs) 1 ≡ r
second_is g live turn b s n stack vs r same h f = object_same g live turn b s vs 1 r h (λ cells. f cells ∙ ap (λ ws. object_arg (map (operand (live_in live.objects) cells) ws) 1) same)

-- the object is there
beside_by : (by : Asker) (c : Scene) (s : State) (xs : List Opened) (o : ObjId) (b : Bool) → is_beside s.world c.this (object_arg xs 1) o ≡ b → present by c s xs (Object o) ≡ (if b then gives (values.Obj o) s else gives zero_value s)
beside_by by c s xs o b e = ap (λ b. if b then gives (values.Obj o) s else gives zero_value s) e

module _ (caller : Caller) (live : Live) (n : ℕ) (stack0 stack1 : List Value) (le : n ≤ length stack0) where
  module _ (o : ObjId) (around : Option ObjId) (is : Bool) (first : (cells : Store) → targets.Live o ≡ target_of (arg (map (operand (live_in live.objects) cells) (drop n stack0)) 0))
      (second : (cells : Store) → around ≡ object_arg (map (operand (live_in live.objects) cells) (drop n stack0)) 1) (there : IsBeside is live caller.this around o) where
    object_course : (g : Setting) (turn : Turn) (b : ℕ) (by : Asker) (c : Scene) (s : State) (vs : List Value) → drop n stack0 ≡ vs → IsScene caller c → At g live turn b s
        → present by c s (opened_args s vs) (arg (opened_args s vs) 0) ≡ (if is then gives (values.Obj o) s else gives zero_value s)
    object_course g turn b by c s vs same sc h =
        ap (λ x. present by c s (opened_args s vs) x) (object_read (arg (opened_args s vs) 0) o (first_is g live turn b s n stack0 vs (targets.Live o) same h first))
        ∙ beside_by by c s (opened_args s vs) o is
        (ap (λ p. is_beside s.world p (object_arg (opened_args s vs) 1) o) sc.this ∙ ap (λ a. is_beside s.world caller.this a o) (second_is g live turn b s n stack0 vs around same h second) ∙ there g turn b s h)

    pub present_starts : is ≡ true → stack1 ≡ take n stack0 ++ values.Obj o ∷ [] → Starts (begun.Runs (record { efun = efuns.Present; low = n; stage = stages.Value })) efuns.Present caller live n stack0 stack1
    unfolding calls
    present_starts y e turn b low vs q k =
        let same : drop n stack0 ≡ vs = ap (drop n) q ∙ drop_at low vs n k in
        let front : take n stack0 ≡ low = ap (take n) q ∙ take_at low vs n k in
        let lies : stack1 ≡ low ++ values.Obj o ∷ [] = e ∙ ap (λ s. s ++ values.Obj o ∷ []) front in
        record {
          own = values.Obj o ∷ [];
          stack = lies;
          height = k;
          fits = one_above low (values.Obj o) n stack1 lies k;
          course = λ g by c s sc h. (
            s,
            settled_here g live turn b s h,
            ap (λ c. and_then c (ended efuns.Present)) (object_course g turn b by c s vs same sc h ∙ ap (λ b. if b then gives (values.Obj o) s else gives zero_value s) y),
          );
        }

    pub absent_starts : is ≡ false → Starts (begun.Runs (record { efun = efuns.Present; low = n; stage = stages.Zero })) efuns.Present caller live n stack0 stack0
    unfolding calls
    absent_starts y turn b low vs q k =
        let same : drop n stack0 ≡ vs = ap (drop n) q ∙ drop_at low vs n k in
        record {
          own = vs;
          stack = q;
          height = k;
          fits = le;
          course = λ g by c s sc h. (
            s,
            settled_here g live turn b s h,
            ap (λ c. and_then c (ended efuns.Present)) (object_course g turn b by c s vs same sc h ∙ ap (λ b. if b then gives (values.Obj o) s else gives zero_value s) y),
          );
        }

  -- something else is not there
  pub nothing_starts : ((cells : Store) → targets.Nothing ≡ target_of (arg (map (operand (live_in live.objects) cells) (drop n stack0)) 0))
      → Starts (begun.Runs (record { efun = efuns.Present; low = n; stage = stages.Zero })) efuns.Present caller live n stack0 stack0
  unfolding calls
  nothing_starts f turn b low vs q k =
      let same : drop n stack0 ≡ vs = ap (drop n) q ∙ drop_at low vs n k in
      record {
        own = vs;
        stack = q;
        height = k;
        fits = le;
        course = λ g by c s sc h. (
          s,
          settled_here g live turn b s h,
          ap (λ c. and_then c (ended efuns.Present)) (nothing_read by c s (opened_args s vs) (arg (opened_args s vs) 0) (first_is g live turn b s n stack0 vs targets.Nothing same h f)),
        );
      }

  -- a text is searched for
  searched : (g : Setting) (turn : Turn) (b : ℕ) (by : Asker) (c : Scene) (s : State) (around : Option ObjId) (text : List ℕ) (k : Search) → IsScene caller c → At g live turn b s → IsFirstSearch k live caller.this around text
      → present_text by c text around s ≡ searching k (objects_left k) by s
  searched g turn b by c s None text k sc h i =
      ap (λ o. present_in by text (Some o) s (λ s. present_in by text (environment s.world.places o) s nobody)) sc.this
      ∙ ap (λ os. present_among by text os s (search_around by text (Some caller.this))) (i.objects g turn b s h)
      ∙ ap (λ t. present_among by t k.objects.items s (search_around by t (Some caller.this))) (sym i.same_text)
      ∙ ap (λ a. present_among by k.text k.objects.items s (search_around by k.text a)) (sym i.same_around)
      ∙ ap (λ m. searching k (drop m k.objects.items) by s) (sym i.none_done)
  searched g turn b by c s (Some place) text k sc h i =
      ap (λ os. present_among by text os s nobody) (i.objects g turn b s h)
      ∙ ap (λ t. present_among by t k.objects.items s (search_around by t None)) (sym i.same_text)
      ∙ ap (λ a. present_among by k.text k.objects.items s (search_around by k.text a)) (sym i.same_around)
      ∙ ap (λ m. searching k (drop m k.objects.items) by s) (sym i.none_done)

  pub search_starts : (around : Option ObjId) (text : List ℕ) (k : Search) → ((cells : Store) → targets.Named ≡ target_of (arg (map (operand (live_in live.objects) cells) (drop n stack0)) 0))
      → ((cells : Store) → around ≡ object_arg (map (operand (live_in live.objects) cells) (drop n stack0)) 1) → ((l : ObjId → Bool) (cells : Store) → text ≡ text_arg (map (operand l cells) (drop n stack0)) 0)
      → IsFirstSearch k live caller.this around text → Starts (begun.Runs (record { efun = efuns.Present; low = n; stage = stages.Seek k })) efuns.Present caller live n stack0 stack0
  unfolding calls
  search_starts around text k first second tx i turn b low vs q kk =
      let same : drop n stack0 ≡ vs = ap (drop n) q ∙ drop_at low vs n kk in
      record {
        own = vs;
        stack = q;
        height = kk;
        fits = le;
        course = λ g by c s sc h. (
          s,
          settled_here g live turn b s h,
          ap (λ c. and_then c (ended efuns.Present))
              (ap (λ x. present by c s (opened_args s vs) x) (text_read (arg (opened_args s vs) 0) (first_is g live turn b s n stack0 vs targets.Named same h first))
              ∙ ap (λ a. present_text by c (text_arg (opened_args s vs) 0) a s) (second_is g live turn b s n stack0 vs around same h second)
              ∙ ap (λ t. present_text by c t around s) (sym (tx (living s) (cells_of s) ∙ ap (λ ws. text_arg (opened_args s ws) 0) same))
              ∙ searched g turn b by c s around text k sc h i),
        );
      }
