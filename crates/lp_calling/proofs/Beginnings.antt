-- How efuns that call LPC begin: the price before, the kinds of the arguments, and then what they do.
use Rattle.std.proofs.Common.{◌≡◌, ◌∙◌, ◌+◌, ◌-◌, ◌≤◌, ◌++◌, ℕ, true, false, List, Option, Some, None, All, refl, ap, sym, subst, drop, length, map, nat_lt, take, arith, length-append, if◌then◌else◌}
use Rattle.std.proofs.lemmas.List.{drop_at}
use Rattle.std.proofs.lemmas.List.Elements.{All-drop}
use Rattle.lp_values.specs.Errors.{bad_arg}
use Rattle.lp_values.specs.declared.value.Value.{Value}
use Rattle.lp_cells.specs.Cells.{IsThere, Store}
use Rattle.lp_ops.specs.Operands.{operand}
use Rattle.lp_instr.specs.EfunKinds.{kinds}
use Rattle.lp_instr.specs.EfunList.{efun_name}
use Rattle.lp_instr.specs.declared.efun.Efun.{Efun}
use Rattle.lp_language.specs.Course.{Failed, Over, Scene, Spent, State, Stops, here}
use Rattle.lp_language.specs.Operations.{cells_of, living, with_store}
use Rattle.lp_meaning.specs.Askers.{Asker}
use Rattle.lp_meaning.specs.EfunArguments.{first_bad, opened_args, price_before}
use Rattle.lp_meaning.specs.Questions.{efun_in, kinds_looked_at}
use Rattle.lp_world.specs.Rows.{live_in}
use Rattle.lp_world.specs.declared.live.Live.{Live}
use Rattle.lp_world.proofs.Keeping.{live_same}
use Rattle.lp_efuns.specs.declared.answer.Answer.TheVariants as answers
use Rattle.lp_efuns.specs.declared.caller.Caller.{Caller}
use Rattle.lp_efuns.specs.declared.caller.Turn.{Turn}
use Rattle.lp_efuns.specs.Turns.{At, Setting}
use Rattle.lp_efuns.proofs.Parted.{price_same}
use Rattle.lp_calling.specs.declared.job.Begun.{Begun}
use Rattle.lp_calling.specs.declared.job.Begun.TheVariants as begun
use Rattle.lp_calling.specs.Beginning.{Begins, Starts, acts, whole}
use Rattle.lp_settling.proofs.Still.{still}
use Rattle.lp_calling.proofs.Ending.{cut_to}

-- less is left of the budget
at_budget : (g : Setting) (live : Live) (turn : Turn) (b : ℕ) (s : State) (k : ℕ) → At g live turn b s → At g live turn k (record s { budget = k })
at_budget g live turn b s k h = record { stands = h.stands; left = refl; outputs = h.outputs; player = h.player; commands = h.commands }

module _ (e : Efun) (live : Live) (stack0 : List Value) (n args old : ℕ) (there : All (IsThere live.cells) stack0) (room : args ≤ length stack0) (is_low : n ≡ length stack0 - args) where
  -- the arguments lie on top
  top : (low vs : List Value) → stack0 ≡ low ++ vs → length vs ≡ args → length low ≡ n
  top low vs q k = let z : length stack0 ≡ length low + length vs = ap length q ∙ length-append low vs in omega arith

  arguments_are : (low vs : List Value) → stack0 ≡ low ++ vs → length vs ≡ args → drop n stack0 ≡ vs
  arguments_are low vs q k = ap (drop n) q ∙ drop_at low vs n (top low vs q k)

  -- the price before, in the state and in the meaning
  before_is : (before : ℕ) (low vs : List Value) (g : Setting) (turn : Turn) (s : State) → stack0 ≡ low ++ vs → length vs ≡ args → At g live turn old s
      → ((t : State) → living t ≡ live_in live.objects → cells_of t ≡ live.cells → before ≡ price_before e (drop n stack0) t) → before ≡ price_before e vs s
  before_is before low vs g turn s q k h f =
      let there_top : All (IsThere live.cells) vs = subst (λ l. All (IsThere live.cells) l) (arguments_are low vs q k) (All-drop (IsThere live.cells) n stack0 there) in
      f (with_store s live.cells) (sym (live_same g.told g.programs live s.world h.stands)) refl
      ∙ ap (λ ws. price_before e ws (with_store s live.cells)) (arguments_are low vs q k)
      ∙ price_same e vs s live.cells h.stands.cells there_top

  bad_is : (bad : Option ℕ) (low vs : List Value) (g : Setting) (turn : Turn) (s : State) → stack0 ≡ low ++ vs → length vs ≡ args → At g live turn old s
      → ((cells : Store) → bad ≡ first_bad 1 (kinds e) (map (operand (live_in live.objects) cells) (drop n stack0))) → bad ≡ first_bad 1 (kinds e) (opened_args s vs)
  bad_is bad low vs g turn s q k h f =
      f (cells_of s) ∙ ap (λ l. first_bad 1 (kinds e) (map (operand l (cells_of s)) (drop n stack0))) (live_same g.told g.programs live s.world h.stands)
      ∙ ap (λ ws. first_bad 1 (kinds e) (opened_args s ws)) (arguments_are low vs q k)

  -- the course behind the price
  course : (m : ℕ) (bad : Option ℕ) (vs : List Value) (by : Asker) (c : Scene) (s : State) → m ≡ price_before e vs s → bad ≡ first_bad 1 (kinds e) (opened_args s vs)
      → efun_in e by c vs s ≡ (if nat_lt s.budget m then Over (Stops (here Spent) (record s { budget = 0 })) else kinds_looked_at e by c vs bad (record s { budget = s.budget - m }))
  course m bad vs by c s a b =
      ap (λ m. if nat_lt s.budget m then Over (Stops (here Spent) (record s { budget = 0 })) else kinds_looked_at e by c vs (first_bad 1 (kinds e) (opened_args s vs)) (record s { budget = s.budget - m })) (sym a)
      ∙ ap (λ k. if nat_lt s.budget m then Over (Stops (here Spent) (record s { budget = 0 })) else kinds_looked_at e by c vs k (record s { budget = s.budget - m })) (sym b)

  -- the price before cannot be paid
  pub spent_begins : (before paid : ℕ) (caller : Caller) (stack1 : List Value) → nat_lt old before ≡ true → paid ≡ 0
      → ((t : State) → living t ≡ live_in live.objects → cells_of t ≡ live.cells → before ≡ price_before e (drop n stack0) t)
      → stack1 ≡ take n stack0 → Begins (begun.Ends answers.Spent) e caller live stack0 args old stack1 paid
  spent_begins before paid caller stack1 less z f t turn low vs q k = record {
    stack = cut_to stack0 stack1 low vs n t q (top low vs q k);
    course = λ g by c s sc h. (
      Stops (here Spent) (record s { budget = paid }),
      course before (first_bad 1 (kinds e) (opened_args s vs)) vs by c s (before_is before low vs g turn s q k h f) refl
          ∙ ap (λ b. if b then Over (Stops (here Spent) (record s { budget = 0 })) else kinds_looked_at e by c vs (first_bad 1 (kinds e) (opened_args s vs)) (record s { budget = s.budget - before })) (ap (λ k. nat_lt k before) h.left ∙ less)
          ∙ ap (λ k. Over (Stops (here Spent) (record s { budget = k }))) (sym z),
      (refl, record { at = at_budget g live turn old s paid h; settles = still s.world }),
    );
  }

  -- the state once the price is paid
  paid_at : (before paid : ℕ) (g : Setting) (turn : Turn) (s : State) → paid ≡ old - before → At g live turn old s → At g live turn paid (record s { budget = s.budget - before })
  paid_at before paid g turn s z h = subst (λ k. At g live turn k (record s { budget = s.budget - before })) (ap (λ k. k - before) h.left ∙ sym z) (at_budget g live turn old s (s.budget - before) h)

  -- an argument is of another kind
  pub bad_begins : (before paid number : ℕ) (caller : Caller) (stack1 : List Value) → nat_lt old before ≡ false → paid ≡ old - before
      → ((t : State) → living t ≡ live_in live.objects → cells_of t ≡ live.cells → before ≡ price_before e (drop n stack0) t)
      → ((cells : Store) → Some number ≡ first_bad 1 (kinds e) (map (operand (live_in live.objects) cells) (drop n stack0)))
      → stack1 ≡ take n stack0 → Begins (begun.Ends (answers.Error (bad_arg number (efun_name e)))) e caller live stack0 args old stack1 paid
  bad_begins before paid number caller stack1 less z f d t turn low vs q k = record {
    stack = cut_to stack0 stack1 low vs n t q (top low vs q k);
    course = λ g by c s sc h. (
      Stops (here (Failed (bad_arg number (efun_name e)))) (record s { budget = s.budget - before }),
      course before (Some number) vs by c s (before_is before low vs g turn s q k h f) (bad_is (Some number) low vs g turn s q k h d)
          ∙ ap (λ b. if b then Over (Stops (here Spent) (record s { budget = 0 })) else kinds_looked_at e by c vs (Some number) (record s { budget = s.budget - before })) (ap (λ k. nat_lt k before) h.left ∙ less),
      (refl, record { at = paid_at before paid g turn s z h; settles = still s.world }),
    );
  }

  -- the arguments are paid and of their kinds
  acting_course : (before : ℕ) (low vs : List Value) (g : Setting) (turn : Turn) (by : Asker) (c : Scene) (s : State) → stack0 ≡ low ++ vs → length vs ≡ args → At g live turn old s → nat_lt old before ≡ false
      → ((t : State) → living t ≡ live_in live.objects → cells_of t ≡ live.cells → before ≡ price_before e (drop n stack0) t)
      → ((cells : Store) → None ≡ first_bad 1 (kinds e) (map (operand (live_in live.objects) cells) (drop n stack0)))
      → whole e vs by c s ≡ acts e vs by c (record s { budget = s.budget - before })
  acting_course before low vs g turn by c s q k h less f d =
      course before None vs by c s (before_is before low vs g turn s q k h f) (bad_is None low vs g turn s q k h d)
      ∙ ap (λ b. if b then Over (Stops (here Spent) (record s { budget = 0 })) else kinds_looked_at e by c vs None (record s { budget = s.budget - before })) (ap (λ k. nat_lt k before) h.left ∙ less)

  pub start_begins : (r : Begun) (before paid : ℕ) (caller : Caller) (stack1 : List Value) → nat_lt old before ≡ false → paid ≡ old - before
      → ((t : State) → living t ≡ live_in live.objects → cells_of t ≡ live.cells → before ≡ price_before e (drop n stack0) t)
      → ((cells : Store) → None ≡ first_bad 1 (kinds e) (map (operand (live_in live.objects) cells) (drop n stack0)))
      → Starts r e caller live n stack0 stack1 → Begins r e caller live stack0 args old stack1 paid
  start_begins (begun.Ends a) before paid caller stack1 less z f d st turn low vs q k =
      let i = st turn paid low vs q (top low vs q k) in record {
        stack = i.stack;
        course = λ g by c s sc h. let j = i.course g by c (record s { budget = s.budget - before }) sc (paid_at before paid g turn s z h) in
            (j.0, acting_course before low vs g turn by c s q k h less f d ∙ j.1, j.2);
      }
  start_begins (begun.Runs job) before paid caller stack1 less z f d st turn low vs q k =
      let i = st turn paid low vs q (top low vs q k) in record {
        own = i.own;
        stack = i.stack;
        height = i.height;
        fits = i.fits;
        course = λ g by c s sc h. let j = i.course g by c (record s { budget = s.budget - before }) sc (paid_at before paid g turn s z h) in
            (j.0, j.1, acting_course before low vs g turn by c s q k h less f d ∙ j.2);
      }
