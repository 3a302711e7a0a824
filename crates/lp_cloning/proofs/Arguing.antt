-- How `clone_object` begins: the price before, the kind of its argument, and then what it does.
use Rattle.std.proofs.Common.{◌≡◌, ◌∙◌, ◌+◌, ◌-◌, ◌≤◌, ◌++◌, ℕ, true, false, List, Option, Some, None, Result, Ok, Err, IfErr, All, refl, ap, sym, subst, drop, length, map, nat_lt, take, arith, length-append, if◌then◌else◌}
use Rattle.std.proofs.lemmas.List.{drop_at, take_at}
use Rattle.std.proofs.lemmas.List.Elements.{All-drop}
use Rattle.lp_values.specs.Errors.{bad_arg}
use Rattle.lp_values.specs.declared.value.Value.{Value}
use Rattle.lp_cells.specs.Cells.{IsThere, Store}
use Rattle.lp_ops.specs.Operands.{operand}
use Rattle.lp_instr.specs.EfunKinds.{kinds}
use Rattle.lp_instr.specs.EfunList.{efun_name}
use Rattle.lp_instr.specs.declared.efun.Efun.{Efun}
use Rattle.lp_instr.specs.declared.efun.Efun.TheVariants as efuns
use Rattle.lp_swapfile.specs.Device.{Bytes}
use Rattle.lp_language.specs.Course.{Failed, Over, Scene, Spent, State, Stops, and_then, here}
use Rattle.lp_language.specs.Operations.{cells_of, living, with_store}
use Rattle.lp_meaning.specs.Askers.{Asker}
use Rattle.lp_meaning.specs.CallingEfuns.{calls, clone_object}
use Rattle.lp_meaning.specs.EfunArguments.{arg, first_bad, opened_args, price_before}
use Rattle.lp_meaning.specs.FileLoads.{clone_name, clone_of}
use Rattle.lp_meaning.specs.WorldSteps.{as_name, load_name}
use Rattle.lp_ops.specs.Operands.{opened}
use Rattle.lp_values.specs.declared.id.ObjId.{ObjId}
use Rattle.lp_values.specs.declared.value.Value.TheVariants.{Int, Obj, Str}
use Rattle.std.specs.Prelude.{Bool, [], ◌∷◌, pos, slice_get, unwrap_or}
use Rattle.lp_cloning.proofs.Cloned.{starts_as}
use Rattle.lp_cloning.proofs.Told.{with_price}
use Rattle.lp_meaning.specs.Questions.{efun_in, kinds_looked_at}
use Rattle.lp_world.specs.Rows.{live_in}
use Rattle.lp_world.specs.declared.live.Live.{Live}
use Rattle.lp_world.proofs.Keeping.{live_same}
use Rattle.lp_efuns.specs.declared.caller.Turn.{Turn}
use Rattle.lp_efuns.specs.Turns.{Setting}
use Rattle.lp_efuns.proofs.Parted.{price_same}
use Rattle.lp_beginning.specs.Beginning.{Fits}
use Rattle.lp_beginning.specs.Ends.{IsValueEnd}
use Rattle.lp_cloning.specs.declared.job.Begun.{Begun}
use Rattle.lp_cloning.specs.declared.job.Begun.TheVariants as begun
use Rattle.lp_cloning.specs.declared.fault.CloningFault.{CloningFault}
use Rattle.lp_cloning.specs.declared.fault.CloningFault.TheVariants as faults
use Rattle.lp_cloning.specs.Faults.{IsNoMemory, IsTakenFor}
use Rattle.lp_cloning.specs.Arguments.{ActsAs, IsBlueprintName, IsRefused, IsSpent, IsTakenIf, NamesBlueprint, RefusesOn}
use Rattle.lp_beginning.specs.Reports.{IsObjectName}
use Rattle.lp_cloning.specs.Beginning.{Begins, IsAtBeginning, StartsAs}
use Rattle.lp_cloning.specs.Jobs.{ended}

abbrev e : Efun
e = efuns.CloneObject

-- less is left of the budget
at_budget : (g : Setting) (live : Live) (turn : Turn) (b : ℕ) (s : State) (k : ℕ) → Fits g live turn b s → Fits g live turn k (record s { budget = k })
at_budget g live turn b s k h = record {
  at = record { stands = h.at.stands; left = refl; outputs = h.at.outputs; player = h.at.player; commands = h.at.commands };
  world = h.world;
}

module _ (live : Live) (stack0 : List Value) (n args old : ℕ) (there : All (IsThere live.cells) stack0) (room : args ≤ length stack0) (is_low : n ≡ length stack0 - args) where
  -- the arguments lie on top
  top : (low vs : List Value) → stack0 ≡ low ++ vs → length vs ≡ args → length low ≡ n
  top low vs q k = let z : length stack0 ≡ length low + length vs = ap length q ∙ length-append low vs in omega arith

  arguments_are : (low vs : List Value) → stack0 ≡ low ++ vs → length vs ≡ args → drop n stack0 ≡ vs
  arguments_are low vs q k = ap (drop n) q ∙ drop_at low vs n (top low vs q k)

  cut_is : (stack1 low vs : List Value) → stack1 ≡ take n stack0 → stack0 ≡ low ++ vs → length vs ≡ args → stack1 ≡ low
  cut_is stack1 low vs t q k = t ∙ ap (take n) q ∙ take_at low vs n (top low vs q k)

  -- the price before, in the state and in the meaning
  before_is : (before : ℕ) (low vs : List Value) (g : Setting) (turn : Turn) (s : State) → stack0 ≡ low ++ vs → length vs ≡ args → Fits g live turn old s
      → ((t : State) → living t ≡ live_in live.objects → cells_of t ≡ live.cells → before ≡ price_before e (drop n stack0) t) → before ≡ price_before e vs s
  before_is before low vs g turn s q k h f =
      let there_top : All (IsThere live.cells) vs = subst (λ l. All (IsThere live.cells) l) (arguments_are low vs q k) (All-drop (IsThere live.cells) n stack0 there) in
      f (with_store s live.cells) (sym (live_same g.told g.programs live s.world h.world.stands)) refl
      ∙ ap (λ ws. price_before e ws (with_store s live.cells)) (arguments_are low vs q k)
      ∙ price_same e vs s live.cells h.world.stands.cells there_top

  bad_is : (bad : Option ℕ) (low vs : List Value) (g : Setting) (turn : Turn) (s : State) → stack0 ≡ low ++ vs → length vs ≡ args → Fits g live turn old s
      → ((cells : Store) → bad ≡ first_bad 1 (kinds e) (map (operand (live_in live.objects) cells) (drop n stack0))) → bad ≡ first_bad 1 (kinds e) (opened_args s vs)
  bad_is bad low vs g turn s q k h f =
      f (cells_of s) ∙ ap (λ l. first_bad 1 (kinds e) (map (operand l (cells_of s)) (drop n stack0))) (live_same g.told g.programs live s.world h.world.stands)
      ∙ ap (λ ws. first_bad 1 (kinds e) (opened_args s ws)) (arguments_are low vs q k)

  -- the course behind the price
  course : (m : ℕ) (bad : Option ℕ) (vs : List Value) (by : Asker) (c : Scene) (s : State) → m ≡ price_before e vs s → bad ≡ first_bad 1 (kinds e) (opened_args s vs)
      → efun_in e by c vs s ≡ (if nat_lt s.budget m then Over (Stops (here Spent) (record s { budget = 0 })) else kinds_looked_at e by c vs bad (record s { budget = s.budget - m }))
  course m bad vs by c s a b =
      ap (λ m. if nat_lt s.budget m then Over (Stops (here Spent) (record s { budget = 0 })) else kinds_looked_at e by c vs (first_bad 1 (kinds e) (opened_args s vs)) (record s { budget = s.budget - m })) (sym a)
      ∙ ap (λ k. if nat_lt s.budget m then Over (Stops (here Spent) (record s { budget = 0 })) else kinds_looked_at e by c vs k (record s { budget = s.budget - m })) (sym b)

  -- the price before cannot be paid
  pub spent_begins : (r : Begun) (told : Option Bytes) (before paid : ℕ) (stack1 : List Value) → IsSpent r → nat_lt old before ≡ true → paid ≡ 0
      → ((t : State) → living t ≡ live_in live.objects → cells_of t ≡ live.cells → before ≡ price_before e (drop n stack0) t)
      → stack1 ≡ take n stack0 → Begins r told live stack0 args old live stack1 paid
  spent_begins (begun.Runs job) told before paid stack1 i less z f t = absurd i
  spent_begins (begun.Ends a) told before paid stack1 i less z f t = λ c low vs q k. (
    cut_is stack1 low vs t q k,
    λ g by turn s w h. record {
      end = Stops (here Spent) (record s { budget = paid });
      over = course before (first_bad 1 (kinds e) (opened_args s vs)) vs by c s (before_is before low vs g turn s q k h f) refl
          ∙ ap (λ b. if b then Over (Stops (here Spent) (record s { budget = 0 })) else kinds_looked_at e by c vs (first_bad 1 (kinds e) (opened_args s vs)) (record s { budget = s.budget - before })) (ap (λ k. nat_lt k before) h.at.left ∙ less)
          ∙ ap (λ k. Over (Stops (here Spent) (record s { budget = k }))) (sym z);
      is = subst (λ x. IsValueEnd g.programs x (Stops (here Spent) (record s { budget = paid }))) (sym i) (record { cause = refl; place = tt });
      fits = at_budget g live turn old s paid h;
    },
  )

  -- the state once the price is paid
  paid_at : (before paid : ℕ) (g : Setting) (turn : Turn) (s : State) → paid ≡ old - before → Fits g live turn old s → Fits g live turn paid (record s { budget = s.budget - before })
  paid_at before paid g turn s z h = subst (λ k. Fits g live turn k (record s { budget = s.budget - before })) (ap (λ k. k - before) h.at.left ∙ sym z) (at_budget g live turn old s (s.budget - before) h)

  -- an argument is of another kind
  pub bad_begins : (r : Begun) (told : Option Bytes) (before paid number : ℕ) (stack1 : List Value) → IsRefused number r → nat_lt old before ≡ false → paid ≡ old - before
      → ((t : State) → living t ≡ live_in live.objects → cells_of t ≡ live.cells → before ≡ price_before e (drop n stack0) t)
      → ((cells : Store) → Some number ≡ first_bad 1 (kinds e) (map (operand (live_in live.objects) cells) (drop n stack0)))
      → stack1 ≡ take n stack0 → Begins r told live stack0 args old live stack1 paid
  bad_begins (begun.Runs job) told before paid number stack1 i less z f d t = absurd i
  bad_begins (begun.Ends a) told before paid number stack1 i less z f d t = λ c low vs q k. (
    cut_is stack1 low vs t q k,
    λ g by turn s w h. record {
      end = Stops (here (Failed (bad_arg number (efun_name e)))) (record s { budget = s.budget - before });
      over = course before (Some number) vs by c s (before_is before low vs g turn s q k h f) (bad_is (Some number) low vs g turn s q k h d)
          ∙ ap (λ b. if b then Over (Stops (here Spent) (record s { budget = 0 })) else kinds_looked_at e by c vs (Some number) (record s { budget = s.budget - before })) (ap (λ k. nat_lt k before) h.at.left ∙ less);
      is = subst (λ x. IsValueEnd g.programs x (Stops (here (Failed (bad_arg number (efun_name e)))) (record s { budget = s.budget - before }))) (sym i) (record { cause = refl; place = tt });
      fits = paid_at before paid g turn s z h;
    },
  )

  -- the arguments are paid and of their kinds
  acting_course : (before : ℕ) (low vs : List Value) (g : Setting) (turn : Turn) (by : Asker) (c : Scene) (s : State) → stack0 ≡ low ++ vs → length vs ≡ args → Fits g live turn old s
      → nat_lt old before ≡ false
      → ((t : State) → living t ≡ live_in live.objects → cells_of t ≡ live.cells → before ≡ price_before e (drop n stack0) t)
      → ((cells : Store) → None ≡ first_bad 1 (kinds e) (map (operand (live_in live.objects) cells) (drop n stack0)))
      → efun_in e by c vs s ≡ and_then (calls e by c (record s { budget = s.budget - before }) vs (opened_args s vs)) ended
  acting_course before low vs g turn by c s q k h less f d =
      course before None vs by c s (before_is before low vs g turn s q k h f) (bad_is None low vs g turn s q k h d)
      ∙ ap (λ b. if b then Over (Stops (here Spent) (record s { budget = 0 })) else kinds_looked_at e by c vs None (record s { budget = s.budget - before })) (ap (λ k. nat_lt k before) h.at.left ∙ less)

  pub act_begins : (r : Begun) (told : Option Bytes) (before paid : ℕ) (live1 : Live) (stack1 : List Value) → nat_lt old before ≡ false → paid ≡ old - before
      → ((t : State) → living t ≡ live_in live.objects → cells_of t ≡ live.cells → before ≡ price_before e (drop n stack0) t)
      → ((cells : Store) → None ≡ first_bad 1 (kinds e) (map (operand (live_in live.objects) cells) (drop n stack0)))
      → ActsAs r told live n stack0 live1 stack1 → Begins r told live stack0 args old live1 stack1 paid
  act_begins (begun.Ends a) told before paid live1 stack1 less z f d st = λ c low vs q k.
      let i = st c paid low vs q (top low vs q k) in (
        i.0,
        λ g by turn s w h. let j = i.1 g by turn (record s { budget = s.budget - before }) w (paid_at before paid g turn s z h) in
            record { end = j.end; over = acting_course before low vs g turn by c s q k h less f d ∙ j.over; is = j.is; fits = j.fits },
      )
  act_begins (begun.Runs job) told before paid live1 stack1 less z f d st = λ c low vs q k.
      let i = st c paid low vs q (top low vs q k) in (
        i.0,
        λ g by turn s w h. let j = i.1 g by turn (record s { budget = s.budget - before }) w (paid_at before paid g turn s z h) in
            (j.0, j.1, acting_course before low vs g turn by c s q k h less f d ∙ j.2, j.3),
      )

  -- it was refused
  refuses_on : (told : Option Bytes) (f : CloningFault) → IsTakenIf told live (drop n stack0) f → RefusesOn told live stack0 args f
  refuses_on told f h low vs q k = subst (λ ws. IsTakenIf told live ws f) (arguments_are low vs q k) h

  pub refused_on : {B : Type 0} (told : Option Bytes) (r : Result B CloningFault) → IfErr r (IsTakenIf told live (drop n stack0)) → IfErr r (RefusesOn told live stack0 args)
  refused_on told (Ok x) h = tt
  refused_on told (Err f) h = refuses_on told f h

-- memory ran out
want_on : (told : Option Bytes) (live : Live) (stack : List Value) (args : ℕ) (f : CloningFault) → IsNoMemory f → RefusesOn told live stack args f
want_on told live stack args f e low vs q k = subst (IsTakenIf told live vs) (sym e) tt

pub want_refused : {B : Type 0} (told : Option Bytes) (live : Live) (stack : List Value) (args : ℕ) (r : Result B CloningFault) → IfErr r IsNoMemory → IfErr r (RefusesOn told live stack args)
want_refused told live stack args (Ok x) h = tt
want_refused told live stack args (Err f) h = want_on told live stack args f h

-- the blueprint that the arguments name has such a clone
pub taken_if : {B : Type 0} (told : Option Bytes) (live : Live) (vs : List Value) (name : List ℕ) (r : Result B CloningFault) → IsBlueprintName live vs name → IfErr r (IsTakenFor told live (λ w. clone_name w name)) → IfErr r (IsTakenIf told live vs)
taken_if told live vs name (Ok x) i h = tt
taken_if told live vs name (Err faults.NameTaken) i h = record { name = name; blueprint = i; taken = h }
taken_if told live vs name (Err (faults.Swap cause)) i h = tt
taken_if told live vs name (Err faults.NoMemory) i h = tt

-- what the efun does is what `clone_object` means
does : (c : Scene) (vs : List Value) (by : Asker) (s : State) → calls e by c s vs (opened_args s vs) ≡ clone_object by s (arg (opened_args s vs) 0)
unfolding calls
does c vs by s = refl

-- What it does, once it is known which blueprint its argument names.
pub named_acts : (r : Begun) (told : Option Bytes) (live0 live1 : Live) (below : ℕ) (stack0 stack1 : List Value) (name : List ℕ) → IsBlueprintName live0 (drop below stack0) name → stack1 ≡ take below stack0 → StartsAs r (λ by s. clone_of by name s) told live0 live1
    → ActsAs r told live0 below stack0 live1 stack1
named_acts r told live0 live1 below stack0 stack1 name i t h = λ c budget low vs q k. (
  t ∙ ap (take below) q ∙ take_at low vs below k,
  with_price IsAtBeginning r (λ by s. calls e by c s vs (opened_args s vs)) told live0 live1 budget
      (starts_as r (λ by s. clone_of by name s) (λ by s. calls e by c s vs (opened_args s vs)) told live0 live1
      (λ g by turn b s w f. does c vs by s ∙ subst (λ ws. clone_object by s (arg (opened_args s ws) 0) ≡ clone_of by name s) (ap (drop below) q ∙ drop_at low vs below k) (i g turn b by s f.at)) h),
)

-- A text names its name, and an object that of its blueprint.
pub text_named : (live : Live) (t name : List ℕ) → name ≡ as_name t → NamesBlueprint live (Str t) name
text_named live t name e g turn b by s h = ap (λ z. clone_of by z s) (sym e)

pub object_named_so : (live : Live) (o : ObjId) (text name : List ℕ) → live_in live.objects o ≡ true → IsObjectName live o text → name ≡ load_name text → NamesBlueprint live (Obj o) name
object_named_so live o text name l i e g turn b by s h =
    let is : living s o ≡ true = ap (λ (f : ObjId → Bool). f o) (sym (live_same g.told g.programs live s.world h.stands)) ∙ l in
    ap (λ (b : Bool). clone_object by s (opened (living s) (cells_of s) (unwrap_or (if b then Some (Obj o) else None) (Int (pos 0))))) is
    ∙ ap (λ z. clone_of by (load_name z) s) (sym (i g.told g.programs s.world h.stands)) ∙ ap (λ z. clone_of by z s) (sym e)

pub first_named : (live : Live) (vs : List Value) (v : Value) (name : List ℕ) → slice_get vs 0 ≡ Some v → NamesBlueprint live v name → IsBlueprintName live vs name
first_named live [] v name at h = absurd cc
first_named live (u ∷ vs) v name at h = λ g turn b by s a.
    let is : u ≡ v = ap (λ o. unwrap_or o u) at in ap (λ x. clone_object by s (arg (opened_args s (x ∷ vs)) 0)) is ∙ h g turn b by s a
