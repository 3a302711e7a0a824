-- The efun `command`.
use Rattle.std.proofs.Common.{◌≡◌, ◌∙◌, ◌+◌, ◌-◌, ◌≤◌, ◌++◌, ◌&&◌, ℕ, Bool, true, false, List, None, All, refl, ap, sym, subst, drop, length, map, nat_lt, take, arith, length-append, if◌then◌else◌}
use Rattle.std.proofs.lemmas.List.{drop_at}
use Rattle.std.proofs.lemmas.List.Elements.{All-drop}
use Rattle.lp_values.specs.declared.id.ObjId.{ObjId}
use Rattle.lp_values.specs.declared.value.Value.{Value}
use Rattle.lp_cells.specs.Cells.{IsThere, Store}
use Rattle.lp_ops.specs.Operands.{operand}
use Rattle.lp_instr.specs.EfunKinds.{kinds}
use Rattle.lp_instr.specs.declared.efun.Efun.TheVariants as efuns
use Rattle.lp_language.specs.World.{is_live}
use Rattle.lp_language.specs.Course.{Over, Scene, Spent, State, Stops, and_then, gives, here, zero_value}
use Rattle.lp_language.specs.Operations.{cells_of, living, with_store}
use Rattle.lp_meaning.specs.Askers.{Asker}
use Rattle.lp_meaning.specs.CallingEfuns.{calls, command}
use Rattle.lp_meaning.specs.EfunArguments.{first_bad, opened_args, price_before, text_arg}
use Rattle.lp_meaning.specs.MovesAndCommands.{is_living}
use Rattle.lp_meaning.specs.Questions.{kinds_looked_at}
use Rattle.lp_world.specs.Rows.{live_in, row_at}
use Rattle.lp_world.specs.declared.live.Live.{Live}
use Rattle.lp_world.proofs.Keeping.{live_same}
use Rattle.lp_efuns.specs.declared.answer.Answer.{Answer}
use Rattle.lp_efuns.specs.declared.caller.Caller.{Caller}
use Rattle.lp_efuns.specs.declared.caller.Turn.{Turn}
use Rattle.lp_efuns.specs.Subjects.{is_living_row}
use Rattle.lp_efuns.specs.Turns.{At, IsScene, Setting}
use Rattle.lp_efuns.proofs.Looking.{living_same}
use Rattle.lp_efuns.proofs.Parted.{price_same}
use Rattle.lp_calling.specs.Beginning.{IsOver, Settled, acts, whole}
use Rattle.lp_calling.specs.Jobs.{ended}
use Rattle.lp_calling.proofs.Ending.{cut_to}
use Rattle.lp_commanding.specs.declared.job.CommandBegun.{CommandBegun}
use Rattle.lp_commanding.specs.declared.job.CommandBegun.TheVariants as begun
use Rattle.lp_commanding.specs.Efuns.{ActsCommand, BeginsCommand, CanCommand, EndsCommand, commanded}
use Rattle.lp_commanding.proofs.Courses.{still_here}

-- Who can

pub dead_cannot : (live : Live) (o : ObjId) → live_in live.objects o ≡ false → CanCommand false live o
dead_cannot live o l g turn b s h =
    let dead : is_live s.world o ≡ false = sym (ap (λ f. f o) (live_same g.told g.programs live s.world h.stands)) ∙ l in ap (λ b. b && is_living s.world o) (sym dead)

pub live_can : (live : Live) (o : ObjId) (is : Bool) → live_in live.objects o ≡ true → is ≡ is_living_row (row_at live.objects o.0) → CanCommand is live o
live_can live o is l e g turn b s h =
    let alive : is_live s.world o ≡ true = sym (ap (λ f. f o) (live_same g.told g.programs live s.world h.stands)) ∙ l in
    e ∙ sym (living_same g live turn b s o h l) ∙ ap (λ b. b && is_living s.world o) (sym alive)

-- Acting

-- by who can
by_whom : (by : Asker) (c : Scene) (line : List ℕ) (s : State) (is : Bool) → is_live s.world c.this && is_living s.world c.this ≡ is → command by c line s ≡ (if is then commanded c.this line by s else gives zero_value s)
by_whom by c line s is e = ap (λ b. if b then commanded c.this line by s else gives zero_value s) e

can_in : (live : Live) (caller : Caller) (is : Bool) (g : Setting) (turn : Turn) (b : ℕ) (c : Scene) (s : State) → CanCommand is live caller.this → IsScene caller c → At g live turn b s → is_live s.world c.this && is_living s.world c.this ≡ is
can_in live caller is g turn b c s k sc h = ap (λ o. is_live s.world o && is_living s.world o) sc.this ∙ sym (k g turn b s h)

-- who cannot ends with 0
pub nobody_acts : (caller : Caller) (live : Live) (n : ℕ) (stack0 stack1 : List Value) (a : Answer) (old new : ℕ) → stack1 ≡ take n stack0 → CanCommand false live caller.this → EndsCommand a zero_value live old new
    → ActsCommand (begun.Ends a) caller live n stack0 old stack1 new
unfolding calls
nobody_acts caller live n stack0 stack1 a old new t k e turn low vs q l = record {
  stack = cut_to stack0 stack1 low vs n t q l;
  course = λ g by c s sc h.
      let i : IsOver a (Settled s.world g live turn new) (ended efuns.Command zero_value s) = e g turn s h in
      (i.0, ap (λ c. and_then c (ended efuns.Command)) (by_whom by c (text_arg (opened_args s vs) 0) s false (can_in live caller false g turn old c s k sc h)) ∙ i.1, i.2);
}

-- who can carries out the line
pub line_acts : (caller : Caller) (live : Live) (n : ℕ) (stack0 stack1 : List Value) (line : List ℕ) (b : ℕ) → n ≤ length stack0 → stack1 ≡ take n stack0 → CanCommand true live caller.this
    → ((l : ObjId → Bool) (cells : Store) → line ≡ text_arg (map (operand l cells) (drop n stack0)) 0) → ActsCommand (begun.Runs caller.this line) caller live n stack0 b stack1 b
unfolding calls
line_acts caller live n stack0 stack1 line b le t k f turn low vs q l =
    let same : drop n stack0 ≡ vs = ap (drop n) q ∙ drop_at low vs n l in
    record {
      stack = cut_to stack0 stack1 low vs n t q l;
      this = refl;
      course = λ g by c s sc h. (
        s,
        still_here g live turn b s h,
        ap (λ c. and_then c (ended efuns.Command)) (by_whom by c (text_arg (opened_args s vs) 0) s true (can_in live caller true g turn b c s k sc h)
            ∙ ap (λ o. commanded o (text_arg (opened_args s vs) 0) by s) sc.this
            ∙ ap (λ t. commanded caller.this t by s) (ap (λ ws. text_arg (opened_args s ws) 0) (sym same) ∙ sym (f (living s) (cells_of s)))),
      );
    }

-- Beginning

module _ (live : Live) (stack0 : List Value) (n args old : ℕ) (there : All (IsThere live.cells) stack0) (room : args ≤ length stack0) (is_low : n ≡ length stack0 - args) where
  top : (low vs : List Value) → stack0 ≡ low ++ vs → length vs ≡ args → length low ≡ n
  top low vs q k = let z : length stack0 ≡ length low + length vs = ap length q ∙ length-append low vs in omega arith

  arguments_are : (low vs : List Value) → stack0 ≡ low ++ vs → length vs ≡ args → drop n stack0 ≡ vs
  arguments_are low vs q k = ap (drop n) q ∙ drop_at low vs n (top low vs q k)

  before_is : (before : ℕ) (low vs : List Value) (g : Setting) (turn : Turn) (s : State) → stack0 ≡ low ++ vs → length vs ≡ args → At g live turn old s
      → ((t : State) → living t ≡ live_in live.objects → cells_of t ≡ live.cells → before ≡ price_before efuns.Command (drop n stack0) t) → before ≡ price_before efuns.Command vs s
  before_is before low vs g turn s q k h f =
      let there_top : All (IsThere live.cells) vs = subst (λ l. All (IsThere live.cells) l) (arguments_are low vs q k) (All-drop (IsThere live.cells) n stack0 there) in
      f (with_store s live.cells) (sym (live_same g.told g.programs live s.world h.stands)) refl
      ∙ ap (λ ws. price_before efuns.Command ws (with_store s live.cells)) (arguments_are low vs q k)
      ∙ price_same efuns.Command vs s live.cells h.stands.cells there_top

  none_bad : (low vs : List Value) (g : Setting) (turn : Turn) (s : State) → stack0 ≡ low ++ vs → length vs ≡ args → At g live turn old s
      → ((cells : Store) → None ≡ first_bad 1 (kinds efuns.Command) (map (operand (live_in live.objects) cells) (drop n stack0))) → None ≡ first_bad 1 (kinds efuns.Command) (opened_args s vs)
  none_bad low vs g turn s q k h f =
      f (cells_of s) ∙ ap (λ l. first_bad 1 (kinds efuns.Command) (map (operand l (cells_of s)) (drop n stack0))) (live_same g.told g.programs live s.world h.stands)
      ∙ ap (λ ws. first_bad 1 (kinds efuns.Command) (opened_args s ws)) (arguments_are low vs q k)

  -- the price is paid, and the arguments are of their kinds
  paid_at : (before paid : ℕ) (g : Setting) (turn : Turn) (s : State) → paid ≡ old - before → At g live turn old s → At g live turn paid (record s { budget = s.budget - before })
  paid_at before paid g turn s z h = record { stands = h.stands; left = ap (λ k. k - before) h.left ∙ sym z; outputs = h.outputs; player = h.player; commands = h.commands }

  acting_course : (before : ℕ) (low vs : List Value) (g : Setting) (turn : Turn) (by : Asker) (c : Scene) (s : State) → stack0 ≡ low ++ vs → length vs ≡ args → At g live turn old s → nat_lt old before ≡ false
      → ((t : State) → living t ≡ live_in live.objects → cells_of t ≡ live.cells → before ≡ price_before efuns.Command (drop n stack0) t)
      → ((cells : Store) → None ≡ first_bad 1 (kinds efuns.Command) (map (operand (live_in live.objects) cells) (drop n stack0)))
      → whole efuns.Command vs by c s ≡ acts efuns.Command vs by c (record s { budget = s.budget - before })
  acting_course before low vs g turn by c s q k h less f d =
      ap (λ m. if nat_lt s.budget m then Over (Stops (here Spent) (record s { budget = 0 })) else kinds_looked_at efuns.Command by c vs (first_bad 1 (kinds efuns.Command) (opened_args s vs)) (record s { budget = s.budget - m }))
      (sym (before_is before low vs g turn s q k h f))
      ∙ ap (λ b. if nat_lt s.budget before then Over (Stops (here Spent) (record s { budget = 0 })) else kinds_looked_at efuns.Command by c vs b (record s { budget = s.budget - before })) (sym (none_bad low vs g turn s q k h d))
      ∙ ap (λ b. if b then Over (Stops (here Spent) (record s { budget = 0 })) else kinds_looked_at efuns.Command by c vs None (record s { budget = s.budget - before })) (ap (λ k. nat_lt k before) h.left ∙ less)

  pub acts_begins : (r : CommandBegun) (before paid new : ℕ) (caller : Caller) (stack1 : List Value) → nat_lt old before ≡ false → paid ≡ old - before
      → ((t : State) → living t ≡ live_in live.objects → cells_of t ≡ live.cells → before ≡ price_before efuns.Command (drop n stack0) t)
      → ((cells : Store) → None ≡ first_bad 1 (kinds efuns.Command) (map (operand (live_in live.objects) cells) (drop n stack0)))
      → ActsCommand r caller live n stack0 paid stack1 new → BeginsCommand r caller live stack0 args old stack1 new
  acts_begins (begun.Ends a) before paid new caller stack1 less z f d st turn low vs q k =
      let i = st turn low vs q (top low vs q k) in record {
        stack = i.stack;
        course = λ g by c s sc h. let j = i.course g by c (record s { budget = s.budget - before }) sc (paid_at before paid g turn s z h) in
            (j.0, acting_course before low vs g turn by c s q k h less f d ∙ j.1, j.2);
      }
  acts_begins (begun.Runs o line) before paid new caller stack1 less z f d st turn low vs q k =
      let i = st turn low vs q (top low vs q k) in record {
        stack = i.stack;
        this = i.this;
        course = λ g by c s sc h. let j = i.course g by c (record s { budget = s.budget - before }) sc (paid_at before paid g turn s z h) in
            (j.0, record { settled = j.1.settled; world = j.1.world }, acting_course before low vs g turn by c s q k h less f d ∙ j.2);
      }
