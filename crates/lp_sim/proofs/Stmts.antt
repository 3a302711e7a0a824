-- The code of a statement follows the statement.
use Rattle.std.proofs.Common.{◌≡◌, ℕ, zero, suc, ◌+◌, ◌-◌, ◌<◌, ◌≤◌, Bool, true, false, cond, List, [], ◌∷◌, ◌++◌, length, Option, Some, None, pos, refl, sym, ap, ◌∙◌, subst, arith}
use Rattle.std.specs.Prelude.{slice_get, nat_lt, nat_eq, ⊤}
use Rattle.std.proofs.lemmas.Bool.{ltb-false}
use Rattle.lp_tree.specs.declared.stmt.Each.{Each}
use Rattle.lp_tree.specs.declared.stmt.Label.TheVariants as labels
use Rattle.lp_tree.specs.declared.stmt.Constant.{Constant}
use Rattle.lp_tree.specs.declared.stmt.Constant.TheVariants as constants
use Rattle.lp_tree.specs.Trees.{Tree}
use Rattle.lp_tree.specs.Statements.{DeclaratorTree, InitTree, Nothing as NothingFirst, DeclaresFirst, RunsFirst, StmtTree, Block, Empty, Run, Declares, If, While, DoWhile, For, Foreach, Switch as SwitchTree, Break, Continue, Return as ReturnTree, StmtTrees, NoStmt, MoreStmts, ElseTree, NoElse, Else, PartTrees, NoPart, LabelPart, StmtPart}
use Rattle.lp_values.specs.declared.value.Value.{Value}
use Rattle.lp_values.specs.declared.value.Value.TheVariants as values
use Rattle.lp_instr.specs.declared.instr.Instr.TheVariants.{PushInt, SetLocal, SetGlobal, Pop, Jump, JumpIfZero, JumpIfNotZero, LoopTurn, Switch, EachBegin, EachNext, Return, ReturnZero}
use Rattle.lp_instr.specs.declared.instr.Case.{Case}
use Rattle.lp_language.specs.Course.{State, Stop, Spent, here, End, Gives, Stops, Course, Over, and_then, caught, zero_value, gives}
use Rattle.lp_language.specs.Resolve.{Function, Variable, counted, own_variables, parents_of, variables_before, version_of}
use Rattle.lp_language.specs.Scope.{Names, Slot, behind, declared_each, declared_first, declared_second, declared_parts, loose, slots_from, slots_of_each, slot_of_each, slots_of_second}
use Rattle.lp_language.specs.Operations.{is_false, is_between, labelled, copied, row_at, item_row, pair_row, with_local, with_global}
use Rattle.lp_language.specs.Eval.{Site, eval, write_slot}
use Rattle.lp_language.specs.Exec.{Flow, On, Out, Again, Back, then_next, after_body, after_switch, goes_on, run, run_if, test_if, value_if, turn, turns, do_turns, write_slots, with_row, is_pair, each_turns, cleared, before, declares, first_of, fits, constant_fits, is_default, first_label, or_default, chosen, exec, exec_all, exec_else, exec_chosen, returned, body_of, initialise, initialises, initialisers_of}
use Rattle.lp_instr.specs.Code.{Code, Catching, case_place}
use Rattle.lp_isa.specs.Machine.{Next, Ended, stop_at, stopped, goes, end_then, on_some, on_top, row_next, case_fits, table_place, is_text_at}
use Rattle.lp_isa.specs.Translates.{Line, One, TakesAll, MakesRun, MakesRunIf, MakesValueIf, Clears, MakesOnes, MakesInit, Jumps, MakesTest, JumpsOver, IsCase, OtherIs, MakesStmt, MakesStmts, MakesElse, MakesParts, MakesFun, MakesInitialiser, MakesInitialisers, MakesInitOf}
use Rattle.lp_language.specs.Afterwards.{After, EndsAfter, GoesAfter}
use Rattle.lp_isa.specs.Runs.{Comes, there, Follows}
use Rattle.lp_language.proofs.Prices.{after_same}
use Rattle.lp_language.proofs.Bodies.{eval_after, exec_after, run_if_after, write_slots_after}
use Rattle.lp_sim.proofs.Follow.{comes_trans, comes_to, one_step, step_on, step_to, follows_after, follows_then, follows_on, follows_known, follows_cond, Within, within_more, sink, ExprEnd}
use Rattle.lp_sim.proofs.Exprs.{one_true, after_expr, writes_comes, expr_follows}

-- at a place, if there is one
abbrev pub Reaches : Option ℕ → List Value → List Catching → State → Next → Type 0
Reaches None st cs s y = ⊥
Reaches (Some to) st cs s y = y ≡ goes to st cs s

-- where the code of a statement ends
abbrev pub StmtEnd : ℕ → Option ℕ → Option ℕ → List Value → List Catching → End Flow → Next → Type 0
StmtEnd to out again st cs (Gives On s) y = y ≡ goes to st cs s
StmtEnd to out again st cs (Gives Out s) y = Reaches out st cs s y
StmtEnd to out again st cs (Gives Again s) y = Reaches again st cs s y
StmtEnd to out again st cs (Gives (Back v) s) y = y ≡ Ended (Gives v s)
StmtEnd to out again st cs (Stops w s) y = y ≡ stopped w cs st s

-- where something ends that can only go on
abbrev pub OnEnd : ℕ → List Value → List Catching → End Flow → Next → Type 0
OnEnd to st cs (Gives f s) y = (y ≡ goes to st cs s) × (f ≡ On)
OnEnd to st cs (Stops w s) y = y ≡ stopped w cs st s

-- where a turn that was paid leads
abbrev TurnEnd : ℕ → List Value → List Catching → ℕ → End Flow → Next → Type 0
TurnEnd start st cs m (Gives f s) y = (y ≡ goes start st cs s) × (s.budget < m)
TurnEnd start st cs m (Stops w s) y = y ≡ stopped w cs st s

-- rows of a loop over items have as many values as there are variables
abbrev pub RowFits : Option (List Value) → ℕ → Type 0
RowFits None n = ⊤
RowFits (Some row) n = length row ≡ n

item_fits : (b : Bool) (o : Option Value) → RowFits (item_row b o) (cond b 2 1)
item_fits true None = tt
item_fits true (Some v) = refl
item_fits false None = tt
item_fits false (Some v) = refl

pair_fits : (b : Bool) (o : Option (Value × Value)) → RowFits (pair_row b o) (cond b 2 1)
pair_fits true None = tt
pair_fits true (Some v) = refl
pair_fits false None = tt
pair_fits false (Some v) = refl

pub row_fits : (b : Bool) (v : Value) (i : ℕ) (s : State) → RowFits (row_at b v i s) (cond b 2 1)
unfolding row_at
row_fits b (values.Arr c) i s = item_fits b _
row_fits b (values.Map c) i s = pair_fits b _
row_fits b (values.Int n) i s = tt
row_fits b (values.Str t) i s = tt
row_fits b (values.Obj o) i s = tt

top_is : (row st : List Value) → on_top row st ≡ row ++ st
top_is [] st = refl
top_is (v ∷ row) st = ap (λ l. v ∷ l) (top_is row st)

module _ (code : Code) (k : Site) where
  -- an expression whose value is dropped
  run_follows : (e : Tree) (ns : Names) (from to : ℕ) (st : List Value) (cs : List Catching) (s : State) → MakesRun k.tree ns e code from to → Within cs (length st) → Follows code k.scene (goes from st cs s) (run k ns e s) (OnEnd to st cs)
  run_follows e ns from to st cs s h w =
      after_expr code k.scene _ (eval k ns e s) _ h.0 st cs (OnEnd to st cs) (expr_follows code k e ns from h.0 st cs s h.1 w)
      (λ v s. (goes to st cs s, step_to code k.scene Pop h.0 to (v ∷ st) st cs cs s s h.2 refl, (refl, refl)))
      (λ v s. refl)

  run_if_follows : (e : Option Tree) (ns : Names) (from to : ℕ) (st : List Value) (cs : List Catching) (s : State) → MakesRunIf k.tree ns e code from to → Within cs (length st) → Follows code k.scene (goes from st cs s) (run_if k ns e s) (OnEnd to st cs)
  run_if_follows None ns from to st cs s h w = (goes from st cs s, there, (ap (λ p. goes p st cs s) (sym h), refl))
  run_if_follows (Some e) ns from to st cs s h w = run_follows e ns from to st cs s h w

  value_follows : (e : Option Tree) (ns : Names) (from to : ℕ) (st : List Value) (cs : List Catching) (s : State) → MakesValueIf k.tree ns e code from to → Within cs (length st) → Follows code k.scene (goes from st cs s) (value_if k ns e s) (ExprEnd to st cs)
  value_follows None ns from to st cs s h w = (goes to (zero_value ∷ st) cs s, step_to code k.scene (PushInt (pos 0)) from to st (zero_value ∷ st) cs cs s s h refl, refl)
  value_follows (Some e) ns from to st cs s h w = expr_follows code k e ns from to st cs s h w

  -- locals become 0
  clears_comes : (ks : List ℕ) (from to : ℕ) (st : List Value) (cs : List Catching) (s : State) → Clears code ks from to → Comes code k.scene (goes from st cs s) (goes to st cs (cleared ks s))
  clears_comes [] from to st cs s h = comes_to there (ap (λ p. goes p st cs s) (sym h))
  clears_comes (i ∷ ks) from to st cs s h =
      let t = with_local s i zero_value in
      comes_trans (step_on code k.scene (PushInt (pos 0)) from st (zero_value ∷ st) cs cs s s h.1.0 refl)
      (comes_trans (step_on code k.scene (SetLocal i) (from + 1) (zero_value ∷ st) (zero_value ∷ st) cs cs s t h.1.1.0 refl)
      (comes_trans (step_to code k.scene Pop (from + 1 + 1) h.0 (zero_value ∷ st) st cs cs t t h.1.1.1 refl)
      (clears_comes ks h.0 to st cs t h.2)))

  -- a declaration
  ones_follow : (ds : List DeclaratorTree) (ns : Names) (from to : ℕ) (st : List Value) (cs : List Catching) (s : State) → MakesOnes k.tree ns ds code from to → Within cs (length st) → Follows code k.scene (goes from st cs s) (declares k ns ds s) (OnEnd to st cs)
  ones_follow [] ns from to st cs s h w = (goes from st cs s, there, (ap (λ p. goes p st cs s) (sym h), refl))
  ones_follow (d ∷ ds) ns from to st cs s h w =
      let ms = ns ++ d.name ∷ [] in
      let n = length ns in
      after_expr code k.scene _ (value_if k ns d.value s) _ h.0 st cs (OnEnd to st cs) (value_follows d.value ns from h.0 st cs s h.1 w)
      (λ v s. follows_after code k.scene (declares k ms ds (with_local s n v)) (OnEnd to st cs)
      (comes_trans (step_on code k.scene (SetLocal n) h.0 (v ∷ st) (v ∷ st) cs cs s (with_local s n v) h.2.1.0 refl) (step_to code k.scene Pop (h.0 + 1) h.2.0 (v ∷ st) st cs cs (with_local s n v) (with_local s n v) h.2.1.1 refl))
      (ones_follow ds ms h.2.0 to st cs (with_local s n v) h.2.2 w))
      (λ v s. refl)

  first_follows : (i : InitTree) (ns : Names) (from to : ℕ) (st : List Value) (cs : List Catching) (s : State) → MakesInit k.tree ns i code from to → Within cs (length st) → Follows code k.scene (goes from st cs s) (first_of k ns i s) (OnEnd to st cs)
  first_follows NothingFirst ns from to st cs s h w = (goes from st cs s, there, (ap (λ p. goes p st cs s) (sym h), refl))
  first_follows (DeclaresFirst d) ns from to st cs s h w = ones_follow d.ones ns from to st cs s h w
  first_follows (RunsFirst e) ns from to st cs s h w = run_follows e ns from to st cs s h w

  -- after an expression, with what is known of the state there
  after_known : {B : Type 0} (r : State) (x : Next) (t : Course Value) (go : Value → State → Course B) (to : ℕ) (st : List Value) (cs : List Catching) (Q : End B → Next → Type 0) → Follows code k.scene x t (ExprEnd to st cs) → GoesAfter r t → ((v : Value) (s : State) → After r s → Follows code k.scene (goes to (v ∷ st) cs s) (go v s) Q) → ((w : Stop) (s : State) → Q (Stops w s) (stopped w cs st s)) → Follows code k.scene x (and_then t go) Q
  after_known r x t go to st cs Q h a f g =
      follows_then code k.scene x t go (λ e y. ExprEnd to st cs e y × EndsAfter r e) Q (follows_known code k.scene r x t (ExprEnd to st cs) h a)
      (λ v s y p. subst (λ z. Follows code k.scene z (go v s) Q) (sym p.0) (f v s p.1))
      (λ w s y p. subst (λ z. Q (Stops w s) z) (sym p.0) (g w s))

  -- a test with the jump back
  test_follows : {B : Type 0} (t : Option Tree) (ns : Names) (turn test to : ℕ) (st : List Value) (cs : List Catching) (s : State) (none some : State → Course B) (Q : End B → Next → Type 0) → MakesTest k.tree ns t code turn test to → Within cs (length st) → ((s1 : State) → After s s1 → Follows code k.scene (goes to st cs s1) (none s1) Q) → ((s1 : State) → After s s1 → Follows code k.scene (goes turn st cs s1) (some s1) Q) → ((w : Stop) (s : State) → Q (Stops w s) (stopped w cs st s)) → Follows code k.scene (goes test st cs s) (and_then (test_if k ns t s) (λ v s. cond (is_false s v) (none s) (some s))) Q
  test_follows None ns turn test to st cs s none some Q h w f g x =
      subst (λ b. Follows code k.scene (goes test st cs s) (cond b (none s) (some s)) Q) (sym (one_true s))
      (follows_after code k.scene (some s) Q (one_step code k.scene (Jump turn) test st cs s h.0) (g s (after_same s)))
  test_follows (Some e) ns turn test to st cs s none some Q h w f g x =
      after_known s _ (eval k ns e s) _ h.0 st cs Q (expr_follows code k e ns test h.0 st cs s h.1 w) (eval_after s k e ns s (after_same s))
      (λ v s1 a1. follows_after code k.scene _ Q (one_step code k.scene (JumpIfNotZero turn) h.0 (v ∷ st) cs s1 h.2.0)
      (follows_cond code k.scene (is_false s1 v) (goes (h.0 + 1) st cs s1) (goes turn st cs s1) (none s1) (some s1) Q
      (subst (λ p. Follows code k.scene (goes p st cs s1) (none s1) Q) h.2.1 (f s1 a1))
      (g s1 a1)))
      x

  -- where a turn is paid
  turn_end : (at start : ℕ) (st : List Value) (cs : List Catching) (s : State) (b : Bool) → nat_lt s.budget 1 ≡ b → One code LoopTurn at start → Follows code k.scene (goes at st cs s) (Over (cond b (Stops (here Spent) (record s { budget = 0 })) (Gives On (record s { budget = s.budget - 1 })))) (TurnEnd start st cs s.budget)
  turn_end at start st cs s true e h = (
    stopped (here Spent) cs st (record s { budget = 0 }),
    comes_to (one_step code k.scene LoopTurn at st cs s h.0) (ap (λ b. end_then (cond b (Stops (here Spent) (record s { budget = 0 })) (Gives zero_value (record s { budget = s.budget - 1 }))) cs st (λ x s. goes (at + 1) st cs s)) e),
    refl,
  )
  turn_end at start st cs s false e h = (
    goes start st cs (record s { budget = s.budget - 1 }),
    comes_to (one_step code k.scene LoopTurn at st cs s h.0) (ap (λ b. end_then (cond b (Stops (here Spent) (record s { budget = 0 })) (Gives zero_value (record s { budget = s.budget - 1 }))) cs st (λ x s. goes (at + 1) st cs s)) e ∙ ap (λ p. goes p st cs (record s { budget = s.budget - 1 })) (sym h.1)),
    (refl, (let le : 1 ≤ s.budget = ltb-false s.budget 1 e in omega arith)),
  )

  -- where a body's end leads
  after_body_follows : (again to : ℕ) (out2 again2 : Option ℕ) (st : List Value) (cs : List Catching) (r : State) (f : Flow) (s : State) (y : Next) (next : State → Course Flow) → StmtEnd again (Some to) (Some again) st cs (Gives f s) y → After r s → (After r s → Follows code k.scene (goes again st cs s) (next s) (StmtEnd to out2 again2 st cs)) → Follows code k.scene y (after_body f s next) (StmtEnd to out2 again2 st cs)
  after_body_follows again to out2 again2 st cs r On s y next p a g =
      subst (λ z. Follows code k.scene z (next s) (StmtEnd to out2 again2 st cs)) (sym p) (g a)
  after_body_follows again to out2 again2 st cs r Again s y next p a g =
      subst (λ z. Follows code k.scene z (next s) (StmtEnd to out2 again2 st cs)) (sym p) (g a)
  after_body_follows again to out2 again2 st cs r Out s y next p a g = (y, there, p)
  after_body_follows again to out2 again2 st cs r (Back v) s y next p a g = (y, there, p)

  -- a loop from its test: where its parts are followed, and leave no more of the budget than there was, so is the whole
  turns_follow : (t : Option Tree) (ns : Names) (body step : State → Course Flow) (at start again test to : ℕ) (out2 again2 : Option ℕ) (st : List Value) (cs : List Catching) → Within cs (length st) → One code LoopTurn at start → MakesTest k.tree ns t code at test to → ((s : State) → Follows code k.scene (goes start st cs s) (body s) (StmtEnd again (Some to) (Some again) st cs)) → ((s : State) → Follows code k.scene (goes again st cs s) (step s) (OnEnd test st cs)) → ((s : State) → GoesAfter s (body s)) → ((s : State) → GoesAfter s (step s)) → (n : ℕ) (s : State) → s.budget < n → Follows code k.scene (goes test st cs s) (turns n (test_if k ns t) body step s) (StmtEnd to out2 again2 st cs)
  turns_follow t ns body step at start again test to out2 again2 st cs w ht hc B S BA SA zero s lt = absurd (omega arith)
  turns_follow t ns body step at start again test to out2 again2 st cs w ht hc B S BA SA (suc n) s lt =
      let Q = StmtEnd to out2 again2 st cs in
      test_follows t ns at test to st cs s (λ s. gives On s) _ Q hc w
      (λ s1 a1. (goes to st cs s1, there, refl))
      (λ s1 a1. follows_then code k.scene _ (turn s1) _ (TurnEnd start st cs s1.budget) Q (turn_end at start st cs s1 (nat_lt s1.budget 1) refl ht)
      (λ f2 s2 y2 p2. follows_then code k.scene y2 (body s2) _ (λ e y. StmtEnd again (Some to) (Some again) st cs e y × EndsAfter s2 e) Q
      (subst (λ z. Follows code k.scene z (body s2) (λ e y. StmtEnd again (Some to) (Some again) st cs e y × EndsAfter s2 e)) (sym p2.0) (follows_known code k.scene s2 _ (body s2) (StmtEnd again (Some to) (Some again) st cs) (B s2) (BA s2)))
      (λ f3 s3 y3 p3. after_body_follows again to out2 again2 st cs s2 f3 s3 y3 _ p3.0 p3.1
      (λ a3. follows_then code k.scene (goes again st cs s3) (step s3) _ (λ e y. OnEnd test st cs e y × EndsAfter s3 e) Q (follows_known code k.scene s3 _ (step s3) (OnEnd test st cs) (S s3) (SA s3))
      (λ f4 s4 y4 p4. subst (λ z. Follows code k.scene z (turns n (test_if k ns t) body step s4) Q) (sym p4.0.0)
      (turns_follow t ns body step at start again test to out2 again2 st cs w ht hc B S BA SA n s4 (let l1 = a1.no_more in let l2 = p2.1 in let l3 = a3.no_more in let l4 = p4.1.no_more in omega arith)))
      (λ x s4 y4 p4. p4.0)))
      (λ x s3 y3 p3. p3.0))
      (λ x s2 y2 p2. p2))
      (λ x s1. refl)

  -- a loop from its turn, which comes before its test
  do_follow : (t : Tree) (ns : Names) (body : State → Course Flow) (at start again to : ℕ) (out2 again2 : Option ℕ) (st : List Value) (cs : List Catching) → Within cs (length st) → One code LoopTurn at start → MakesTest k.tree ns (Some t) code at again to → ((s : State) → Follows code k.scene (goes start st cs s) (body s) (StmtEnd again (Some to) (Some again) st cs)) → ((s : State) → GoesAfter s (body s)) → (n : ℕ) (s : State) → s.budget < n → Follows code k.scene (goes at st cs s) (do_turns n (eval k ns t) body s) (StmtEnd to out2 again2 st cs)
  do_follow t ns body at start again to out2 again2 st cs w ht hc B BA zero s lt = absurd (omega arith)
  do_follow t ns body at start again to out2 again2 st cs w ht hc B BA (suc n) s lt =
      let Q = StmtEnd to out2 again2 st cs in
      follows_then code k.scene _ (turn s) _ (TurnEnd start st cs s.budget) Q (turn_end at start st cs s (nat_lt s.budget 1) refl ht)
      (λ f2 s2 y2 p2. follows_then code k.scene y2 (body s2) _ (λ e y. StmtEnd again (Some to) (Some again) st cs e y × EndsAfter s2 e) Q
      (subst (λ z. Follows code k.scene z (body s2) (λ e y. StmtEnd again (Some to) (Some again) st cs e y × EndsAfter s2 e)) (sym p2.0) (follows_known code k.scene s2 _ (body s2) (StmtEnd again (Some to) (Some again) st cs) (B s2) (BA s2)))
      (λ f3 s3 y3 p3. after_body_follows again to out2 again2 st cs s2 f3 s3 y3 _ p3.0 p3.1
      (λ a3. test_follows (Some t) ns at again to st cs s3 (λ s. gives On s) (λ s. do_turns n (eval k ns t) body s) Q hc w
      (λ s1 a1. (goes to st cs s1, there, refl))
      (λ s1 a1. do_follow t ns body at start again to out2 again2 st cs w ht hc B BA n s1 (let l2 = p2.1 in let l3 = a3.no_more in let l1 = a1.no_more in omega arith))
      (λ x s1. refl)))
      (λ x s3 y3 p3. p3.0))
      (λ x s2 y2 p2. p2)

  -- where a body over the items leads
  each_body_follows : (next leave to : ℕ) (out2 again2 : Option ℕ) (st : List Value) (cs : List Catching) (r : State) (c p : Value) (f : Flow) (s : State) (y : Next) (go : State → Course Flow) → Line code (Pop ∷ Pop ∷ []) leave to → StmtEnd next (Some leave) (Some next) (p ∷ c ∷ st) cs (Gives f s) y → After r s → (After r s → Follows code k.scene (goes next (p ∷ c ∷ st) cs s) (go s) (StmtEnd to out2 again2 st cs)) → Follows code k.scene y (after_body f s go) (StmtEnd to out2 again2 st cs)
  each_body_follows next leave to out2 again2 st cs r c p On s y go h e a g =
      subst (λ z. Follows code k.scene z (go s) (StmtEnd to out2 again2 st cs)) (sym e) (g a)
  each_body_follows next leave to out2 again2 st cs r c p Again s y go h e a g =
      subst (λ z. Follows code k.scene z (go s) (StmtEnd to out2 again2 st cs)) (sym e) (g a)
  each_body_follows next leave to out2 again2 st cs r c p Out s y go h e a g =
      (goes to st cs s, subst (λ z. Comes code k.scene z (goes to st cs s)) (sym e) (comes_trans (step_on code k.scene Pop leave (p ∷ c ∷ st) (c ∷ st) cs cs s s h.0 refl) (step_to code k.scene Pop (leave + 1) to (c ∷ st) st cs cs s s h.1 refl)), refl)
  each_body_follows next leave to out2 again2 st cs r c p (Back v) s y go h e a g = (y, there, e)

  each_cases : (o : Option (List Value)) (n : ℕ) (y : Next) (z : List Value → Next) (t : Course Flow) (u : List Value → Course Flow) (Q : End Flow → Next → Type 0) → RowFits o n → Follows code k.scene y t Q → ((row : List Value) → length row ≡ n → Follows code k.scene (z row) (u row) Q) → Follows code k.scene (row_next o y z) (with_row o t u) Q
  each_cases None n y z t u Q r p q = p
  each_cases (Some row) n y z t u Q r p q = q row r

  -- variables take a row from the stack
  takes_comes : (xs : List Slot) (row : List Value) (from to : ℕ) (st : List Value) (cs : List Catching) (s : State) → TakesAll code xs from to → length row ≡ length xs → Comes code k.scene (goes from (on_top row st) cs s) (goes to st cs (write_slots k.scene xs row s))
  takes_comes [] [] from to st cs s h e = comes_to there (ap (λ p. goes p st cs s) (sym h))
  takes_comes [] (v ∷ row) from to st cs s h e = absurd (omega arith)
  takes_comes (x ∷ xs) [] from to st cs s h e = absurd (omega arith)
  takes_comes (x ∷ xs) (v ∷ row) from to st cs s h e =
      let t = write_slot k.scene x v s in
      comes_trans (writes_comes code k.scene x from h.1.0 v (on_top row st) cs s h.1.1)
      (comes_trans (step_to code k.scene Pop h.1.0 h.0 (v ∷ on_top row st) (on_top row st) cs cs t t h.1.2 refl)
      (takes_comes xs row h.0 to st cs t h.2 (omega arith)))

  top_sink : (row st : List Value) (w : Stop) (cs : List Catching) (s : State) → Within cs (length st) → stopped w cs (on_top row st) s ≡ stopped w cs st s
  top_sink row st w cs s h = ap (λ l. stopped w cs l s) (top_is row st) ∙ sink row w cs st s h

  each_follow : (xs : List Slot) (body : State → Course Flow) (at start begin next leave to : ℕ) (out2 again2 : Option ℕ) (st : List Value) (cs : List Catching) (c : Value) → Within cs (length st) → nat_eq (length xs) 2 ≡ is_pair xs → cond (is_pair xs) 2 1 ≡ length xs → One code LoopTurn at start → TakesAll code xs start begin → Line code (EachNext at (length xs) ∷ Jump to ∷ []) next leave → Line code (Pop ∷ Pop ∷ []) leave to → ((p : Value) (s : State) → Follows code k.scene (goes begin (p ∷ c ∷ st) cs s) (body s) (StmtEnd next (Some leave) (Some next) (p ∷ c ∷ st) cs)) → ((s : State) → GoesAfter s (body s)) → (n i : ℕ) (s : State) → s.budget < n → Follows code k.scene (goes next (values.Int (pos i) ∷ c ∷ st) cs s) (each_turns n k.scene xs c i body s) (StmtEnd to out2 again2 st cs)
  each_follow xs body at start begin next leave to out2 again2 st cs c w e1 e2 ht hx hn hp B BA zero i s lt = absurd (omega arith)
  each_follow xs body at start begin next leave to out2 again2 st cs c w e1 e2 ht hx hn hp B BA (suc n) i s lt =
      let Q = StmtEnd to out2 again2 st cs in
      let p = values.Int (pos (i + 1)) in
      follows_after code k.scene _ Q (comes_to (one_step code k.scene (EachNext at (length xs)) next (values.Int (pos i) ∷ c ∷ st) cs s hn.0) (ap (λ b. row_next (row_at b c i s) (goes (next + 1) st cs s) (λ row. goes at (on_top row (p ∷ c ∷ st)) cs s)) e1))
      (each_cases (row_at (is_pair xs) c i s) (cond (is_pair xs) 2 1) (goes (next + 1) st cs s) (λ row. goes at (on_top row (p ∷ c ∷ st)) cs s) (gives On s) _ Q (row_fits (is_pair xs) c i s)
      (goes to st cs s, one_step code k.scene (Jump to) (next + 1) st cs s hn.1.0, refl)
      (λ row er. follows_then code k.scene _ (turn s) _ (TurnEnd start (on_top row (p ∷ c ∷ st)) cs s.budget) Q (turn_end at start (on_top row (p ∷ c ∷ st)) cs s (nat_lt s.budget 1) refl ht)
      (λ f2 s2 y2 p2.
      let t = write_slots k.scene xs row s2 in
      follows_then code k.scene y2 (body t) _ (λ e y. StmtEnd next (Some leave) (Some next) (p ∷ c ∷ st) cs e y × EndsAfter t e) Q
      (follows_after code k.scene (body t) (λ e y. StmtEnd next (Some leave) (Some next) (p ∷ c ∷ st) cs e y × EndsAfter t e)
      (subst (λ z. Comes code k.scene z (goes begin (p ∷ c ∷ st) cs t)) (sym p2.0) (takes_comes xs row start begin (p ∷ c ∷ st) cs s2 hx (er ∙ e2)))
      (follows_known code k.scene t _ (body t) (StmtEnd next (Some leave) (Some next) (p ∷ c ∷ st) cs) (B p t) (BA t)))
      (λ f3 s3 y3 p3. each_body_follows next leave to out2 again2 st cs t c p f3 s3 y3 (each_turns n k.scene xs c (i + 1) body) hp p3.0 p3.1
      (λ a3. each_follow xs body at start begin next leave to out2 again2 st cs c w e1 e2 ht hx hn hp B BA n (i + 1) s3 (let l2 = p2.1 in let l3 = a3.no_more in let l4 = (write_slots_after s2 k xs row s2 (after_same s2)).no_more in omega arith)))
      (λ z s3 y3 p3. p3.0 ∙ sink (p ∷ c ∷ []) z cs st s3 w))
      (λ z s2 y2 p2. p2 ∙ top_sink row (p ∷ c ∷ st) z cs s2 (within_more cs _ (within_more cs _ w)) ∙ sink (p ∷ c ∷ []) z cs st s2 w)))

  -- where the items begin
  abbrev BeginEnd : ℕ → List Value → List Catching → End Value → Next → Type 0
  BeginEnd to st cs (Gives c s) y = y ≡ goes to (zero_value ∷ c ∷ st) cs s
  BeginEnd to st cs (Stops w s) y = y ≡ stopped w cs st s

  begin_end : (n from mid to : ℕ) (st : List Value) (cs : List Catching) (v : Value) (s : State) (e : End Value) → copied v s ≡ e → One code (EachBegin n) from mid → slice_get code.instrs mid ≡ Some (Jump to) → Follows code k.scene (goes from (v ∷ st) cs s) (Over e) (BeginEnd to st cs)
  begin_end n from mid to st cs v s (Gives c t) e h j =
      (goes to (zero_value ∷ c ∷ st) cs t, comes_trans (comes_to (one_step code k.scene (EachBegin n) from (v ∷ st) cs s h.0) (ap (λ e. end_then e cs st (λ copy s. goes (from + 1) (zero_value ∷ copy ∷ st) cs s)) e ∙ ap (λ p. goes p (zero_value ∷ c ∷ st) cs t) (sym h.1))) (one_step code k.scene (Jump to) mid (zero_value ∷ c ∷ st) cs t j), refl)
  begin_end n from mid to st cs v s (Stops w t) e h j =
      (stopped w cs st t, comes_to (one_step code k.scene (EachBegin n) from (v ∷ st) cs s h.0) (ap (λ e. end_then e cs st (λ copy s. goes (from + 1) (zero_value ∷ copy ∷ st) cs s)) e), refl)

  reach : (to : Option ℕ) (from next : ℕ) (st : List Value) (cs : List Catching) (s : State) → Jumps code to from next → (y : Next) × Comes code k.scene (goes from st cs s) y × Reaches to st cs s y
  reach None from next st cs s h = absurd h
  reach (Some to) from next st cs s h = (goes to st cs s, one_step code k.scene (Jump to) from st cs s h.0, refl)

  -- after a statement that goes on
  then_follows : (m to : ℕ) (out again : Option ℕ) (st : List Value) (cs : List Catching) (f : Flow) (s : State) (y : Next) (next : State → Course Flow) → StmtEnd m out again st cs (Gives f s) y → Follows code k.scene (goes m st cs s) (next s) (StmtEnd to out again st cs) → Follows code k.scene y (then_next f s next) (StmtEnd to out again st cs)
  then_follows m to out again st cs On s y next p g =
      subst (λ z. Follows code k.scene z (next s) (StmtEnd to out again st cs)) (sym p) g
  then_follows m to out again st cs Out s y next p g = (y, there, p)
  then_follows m to out again st cs Again s y next p g = (y, there, p)
  then_follows m to out again st cs (Back v) s y next p g = (y, there, p)

  -- a jump from where a statement goes on
  jump_on : (m after to : ℕ) (out again : Option ℕ) (st : List Value) (cs : List Catching) → One code (Jump to) m after → (e : End Flow) (y : Next) → StmtEnd m out again st cs e y → (z : Next) × Comes code k.scene y z × StmtEnd to out again st cs e z
  jump_on m after to out again st cs h (Gives On s) y p =
      (goes to st cs s, subst (λ y. Comes code k.scene y (goes to st cs s)) (sym p) (one_step code k.scene (Jump to) m st cs s h.0), refl)
  jump_on m after to out again st cs h (Gives Out s) y p = (y, there, p)
  jump_on m after to out again st cs h (Gives Again s) y p = (y, there, p)
  jump_on m after to out again st cs h (Gives (Back v) s) y p = (y, there, p)
  jump_on m after to out again st cs h (Stops w s) y p = (y, there, p)

  -- the jump over an `else`, or none
  over_on : (x : ElseTree) (ns : Names) (m after to : ℕ) (out again : Option ℕ) (st : List Value) (cs : List Catching) → JumpsOver code x to m after → MakesElse k.tree ns x out again code after to → (e : End Flow) (y : Next) → StmtEnd m out again st cs e y → (z : Next) × Comes code k.scene y z × StmtEnd to out again st cs e z
  over_on NoElse ns m after to out again st cs h g e y p = (y, there, subst (λ q. StmtEnd q out again st cs e y) (sym (g ∙ h)) p)
  over_on (Else d) ns m after to out again st cs h g e y p = jump_on m after to out again st cs h e y p

  -- what only goes on, as a statement
  on_stmt : (to : ℕ) (out again : Option ℕ) (st : List Value) (cs : List Catching) (e : End Flow) (y : Next) → OnEnd to st cs e y → (z : Next) × Comes code k.scene y z × StmtEnd to out again st cs e z
  on_stmt to out again st cs (Gives f s) y p = (y, there, subst (λ f. StmtEnd to out again st cs (Gives f s) y) (sym p.1) p.0)
  on_stmt to out again st cs (Stops w s) y p = (y, there, p)

-- labels lead to parts: where none is chosen, to the place for that
abbrev Leads : Option ℕ → (ℕ → ℕ) → ℕ → ℕ → Type 0
Leads None place other t = t ≡ other
Leads (Some n) place other t = t ≡ place n

counted_leads : (o : Option ℕ) (place after : ℕ → ℕ) (other t : ℕ) → ((n : ℕ) → place (suc n) ≡ after n) → Leads o after other t → Leads (counted o) place other t
counted_leads None place after other t g h = h
counted_leads (Some n) place after other t g h = h ∙ sym (g n)

cond_leads : (b : Bool) (o : Option ℕ) (place after : ℕ → ℕ) (other at t : ℕ) → at ≡ place 0 → ((n : ℕ) → place (suc n) ≡ after n) → Leads o after other t → Leads (cond b (Some 0) (counted o)) place other (cond b at t)
cond_leads true o place after other at t e g h = e
cond_leads false o place after other at t e g h = counted_leads o place after other t g h

abbrev Falls : Option ℕ → (ℕ → ℕ) → ℕ → Type 0
Falls None place other = ⊤
Falls (Some n) place other = other ≡ place n

counted_falls : (o : Option ℕ) (place after : ℕ → ℕ) (other : ℕ) → ((n : ℕ) → place (suc n) ≡ after n) → Falls o after other → Falls (counted o) place other
counted_falls None place after other g h = tt
counted_falls (Some n) place after other g h = h ∙ sym (g n)

-- a label in the table is the label of the tree
case_is : (code : Code) (c : Constant) (at : ℕ) (x : Case) (v : Value) → IsCase code c at x → (case_fits code x v ≡ constant_fits c v) × (case_place x ≡ at)
case_is code (constants.Int n) at x v h = (ap (λ x. case_fits code x v) h, ap case_place h)
case_is code (constants.Text t) at x v h =
    (ap (λ x. case_fits code x v) h.2 ∙ ap (λ o. is_text_at o v) h.1, ap case_place h.2)

module _ (code : Code) (k : Site) where
  -- where the parts of a switch begin
  abbrev part_place : (ps : PartTrees) (ns : Names) (ks : List Case) (other out : ℕ) (again : Option ℕ) (from to : ℕ) → MakesParts k.tree ns ps ks other out again code from to → ℕ → ℕ
  part_place NoPart ns ks other out again from to h n = from
  part_place (LabelPart l ps) ns ks other out again from to h zero = from
  part_place (LabelPart (labels.Case l c) ps) ns ks other out again from to h (suc n) = part_place ps ns h.1 other out again from to h.4 n
  part_place (LabelPart (labels.Range l a b) ps) ns ks other out again from to h (suc n) = part_place ps ns h.0 other out again from to h.2 n
  part_place (LabelPart (labels.Default l) ps) ns ks other out again from to h (suc n) = part_place ps ns ks other out again from to h.1 n
  part_place (StmtPart st ps) ns ks other out again from to h zero = from
  part_place (StmtPart st ps) ns ks other out again from to h (suc n) = part_place ps (behind ns st) ks other out again h.2.0 to h.2.2 n

  place_zero : (ps : PartTrees) (ns : Names) (ks : List Case) (other out : ℕ) (again : Option ℕ) (from to : ℕ) (h : MakesParts k.tree ns ps ks other out again code from to) → part_place ps ns ks other out again from to h zero ≡ from
  place_zero NoPart ns ks other out again from to h = refl
  place_zero (LabelPart (labels.Case l c) ps) ns ks other out again from to h = refl
  place_zero (LabelPart (labels.Range l a b) ps) ns ks other out again from to h = refl
  place_zero (LabelPart (labels.Default l) ps) ns ks other out again from to h = refl
  place_zero (StmtPart st ps) ns ks other out again from to h = refl

  -- the table leads to the part whose label fits
  table_leads : (v : Value) (ps : PartTrees) (ns : Names) (ks : List Case) (other out : ℕ) (again : Option ℕ) (from to : ℕ) (h : MakesParts k.tree ns ps ks other out again code from to) → Leads (first_label (λ l. fits l v) ps) (part_place ps ns ks other out again from to h) other (table_place code v ks other)
  table_leads v NoPart ns ks other out again from to h = ap (λ ks. table_place code v ks other) h.0
  table_leads v (LabelPart (labels.Case l c) ps) ns ks other out again from to h =
      let at = part_place (LabelPart (labels.Case l c) ps) ns ks other out again from to h in
      let go = part_place ps ns h.1 other out again from to h.4 in
      let i = case_is code c from h.0 v h.3 in
      let o = first_label (λ l. fits l v) ps in
      let b = constant_fits c v in
      let r = table_place code v h.1 other in
      subst (λ t. Leads (cond b (Some 0) (counted o)) at other t) (sym (ap (λ ks. table_place code v ks other) h.2 ∙ ap (λ b. cond b (case_place h.0) r) i.0))
      (cond_leads b o at go other (case_place h.0) r i.1 (λ n. refl) (table_leads v ps ns h.1 other out again from to h.4))
  table_leads v (LabelPart (labels.Range l a b) ps) ns ks other out again from to h =
      let at = part_place (LabelPart (labels.Range l a b) ps) ns ks other out again from to h in
      let go = part_place ps ns h.0 other out again from to h.2 in
      let o = first_label (λ l. fits l v) ps in
      subst (λ t. Leads (cond (is_between a b v) (Some 0) (counted o)) at other t) (sym (ap (λ ks. table_place code v ks other) h.1))
      (cond_leads (is_between a b v) o at go other from (table_place code v h.0 other) refl (λ n. refl) (table_leads v ps ns h.0 other out again from to h.2))
  table_leads v (LabelPart (labels.Default l) ps) ns ks other out again from to h =
      counted_leads (first_label (λ l. fits l v) ps) (part_place (LabelPart (labels.Default l) ps) ns ks other out again from to h) (part_place ps ns ks other out again from to h.1) other (table_place code v ks other) (λ n. refl) (table_leads v ps ns ks other out again from to h.1)
  table_leads v (StmtPart st ps) ns ks other out again from to h =
      counted_leads (first_label (λ l. fits l v) ps) (part_place (StmtPart st ps) ns ks other out again from to h) (part_place ps (behind ns st) ks other out again h.2.0 to h.2.2) other (table_place code v ks other) (λ n. refl) (table_leads v ps (behind ns st) ks other out again h.2.0 to h.2.2)

  -- the other place is that of `default`, where there is one
  default_falls : (ps : PartTrees) (ns : Names) (ks : List Case) (other out : ℕ) (again : Option ℕ) (from to : ℕ) (h : MakesParts k.tree ns ps ks other out again code from to) → Falls (first_label is_default ps) (part_place ps ns ks other out again from to h) other
  default_falls NoPart ns ks other out again from to h = tt
  default_falls (LabelPart (labels.Case l c) ps) ns ks other out again from to h =
      counted_falls (first_label is_default ps) (part_place (LabelPart (labels.Case l c) ps) ns ks other out again from to h) (part_place ps ns h.1 other out again from to h.4) other (λ n. refl) (default_falls ps ns h.1 other out again from to h.4)
  default_falls (LabelPart (labels.Range l a b) ps) ns ks other out again from to h =
      counted_falls (first_label is_default ps) (part_place (LabelPart (labels.Range l a b) ps) ns ks other out again from to h) (part_place ps ns h.0 other out again from to h.2) other (λ n. refl) (default_falls ps ns h.0 other out again from to h.2)
  default_falls (LabelPart (labels.Default l) ps) ns ks other out again from to h = h.0
  default_falls (StmtPart st ps) ns ks other out again from to h =
      counted_falls (first_label is_default ps) (part_place (StmtPart st ps) ns ks other out again from to h) (part_place ps (behind ns st) ks other out again h.2.0 to h.2.2) other (λ n. refl) (default_falls ps (behind ns st) ks other out again h.2.0 to h.2.2)

  none_chosen : (ps : PartTrees) (ns : Names) (s : State) → exec_chosen k ns ps None s ≡ gives On s
  none_chosen NoPart ns s = refl
  none_chosen (LabelPart l ps) ns s = refl
  none_chosen (StmtPart st ps) ns s = refl

  chosen_follows : (o d : Option ℕ) (ps : PartTrees) (ns : Names) (place : ℕ → ℕ) (other t to : ℕ) (again : Option ℕ) (st : List Value) (cs : List Catching) (s : State) → Leads o place other t → Falls d place other → OtherIs d other to → ((n : ℕ) → Follows code k.scene (goes (place n) st cs s) (exec_chosen k ns ps (Some n) s) (StmtEnd to (Some to) again st cs)) → Follows code k.scene (goes t st cs s) (exec_chosen k ns ps (or_default o d) s) (StmtEnd to (Some to) again st cs)
  chosen_follows (Some n) d ps ns place other t to again st cs s a b c g =
      subst (λ p. Follows code k.scene (goes p st cs s) (exec_chosen k ns ps (Some n) s) (StmtEnd to (Some to) again st cs)) (sym a) (g n)
  chosen_follows None (Some n) ps ns place other t to again st cs s a b c g =
      subst (λ p. Follows code k.scene (goes p st cs s) (exec_chosen k ns ps (Some n) s) (StmtEnd to (Some to) again st cs)) (sym (a ∙ b)) (g n)
  chosen_follows None None ps ns place other t to again st cs s a b c g =
      subst (λ u. Follows code k.scene (goes t st cs s) u (StmtEnd to (Some to) again st cs)) (sym (none_chosen ps ns s))
      (goes t st cs s, there, ap (λ p. goes p st cs s) (a ∙ c))

  -- a `break` leaves a switch
  switch_end : (to : ℕ) (out again : Option ℕ) (st : List Value) (cs : List Catching) (f : Flow) (s : State) (y : Next) → StmtEnd to (Some to) again st cs (Gives f s) y → StmtEnd to out again st cs (Gives (after_switch f) s) y
  switch_end to out again st cs On s y p = p
  switch_end to out again st cs Out s y p = p
  switch_end to out again st cs Again s y p = p
  switch_end to out again st cs (Back v) s y p = p

  slots_fit : (x : Slot) (xs : List Slot) → length xs ≤ 1 → (nat_eq (length (x ∷ xs)) 2 ≡ is_pair (x ∷ xs)) × (cond (is_pair (x ∷ xs)) 2 1 ≡ length (x ∷ xs))
  slots_fit x [] h = (refl, refl)
  slots_fit x (y ∷ []) h = (refl, refl)
  slots_fit x (y ∷ z ∷ xs) h = absurd (omega arith)

  second_fits : (ns : Names) (g : Option Each) → length (slots_of_second k.tree ns g) ≤ 1
  second_fits ns None = omega arith
  second_fits ns (Some e) = omega arith

  mutual
    pub stmt_follows : (a : StmtTree) (ns : Names) (out again : Option ℕ) (from to : ℕ) (st : List Value) (cs : List Catching) (s : State) → MakesStmt k.tree ns a out again code from to → Within cs (length st) → Follows code k.scene (goes from st cs s) (exec k ns a s) (StmtEnd to out again st cs)
    stmt_follows (Block l ss) ns out again from to st cs s h w = stmts_follow ss ns out again from to st cs s h w
    stmt_follows (Empty l) ns out again from to st cs s h w = (goes from st cs s, there, ap (λ p. goes p st cs s) (sym h))
    stmt_follows (Run l e) ns out again from to st cs s h w =
        follows_on code k.scene _ (run k ns e s) (OnEnd to st cs) (StmtEnd to out again st cs) (run_follows code k e ns from to st cs s h w) (on_stmt code k to out again st cs)
    stmt_follows (Declares l d) ns out again from to st cs s h w =
        follows_on code k.scene _ (declares k ns d.ones s) (OnEnd to st cs) (StmtEnd to out again st cs) (ones_follow code k d.ones ns from to st cs s h w) (on_stmt code k to out again st cs)
    stmt_follows (If l e y x) ns out again from to st cs s h w =
        let Q = StmtEnd to out again st cs in
        let g = h.1.2 in
        after_expr code k.scene _ (eval k ns e s) _ h.1.0 st cs Q (expr_follows code k e ns from h.1.0 st cs s h.1.1 w)
        (λ v s. follows_after code k.scene _ Q (one_step code k.scene (JumpIfZero h.0) h.1.0 (v ∷ st) cs s g.1.0)
        (follows_cond code k.scene (is_false s v) (goes h.0 st cs s) (goes (h.1.0 + 1) st cs s) (exec_else k (behind ns y) x s) (exec k ns y s) Q
        (else_follows x (behind ns y) out again h.0 to st cs s h.2 w)
        (subst (λ p. Follows code k.scene (goes p st cs s) (exec k ns y s) Q) g.1.1 (follows_on code k.scene _ (exec k ns y s) (StmtEnd g.2.0 out again st cs) Q (stmt_follows y ns out again g.0 g.2.0 st cs s g.2.1 w) (over_on code k x (behind ns y) g.2.0 h.0 to out again st cs g.2.2 h.2)))))
        (λ v s. refl)
    stmt_follows (While l e b) ns out again from to st cs s h w =
        follows_after code k.scene (turns (suc s.budget) (eval k ns e) (exec k ns b) goes_on s) (StmtEnd to out again st cs) (one_step code k.scene (Jump h.2) from st cs s h.3.0)
        (turns_follow code k (Some e) ns (exec k ns b) goes_on h.0 h.4.0 h.1 h.2 to out again st cs w h.4.1 h.6
        (λ s. stmt_follows b ns (Some to) (Some h.1) h.4.0 h.1 st cs s h.4.2 w)
        (λ s. (goes h.1 st cs s, there, (ap (λ p. goes p st cs s) (sym h.5), refl)))
        (λ s. exec_after s k b ns s (after_same s)) after_same
        (suc s.budget) s (omega arith))
    stmt_follows (DoWhile l b e) ns out again from to st cs s h w =
        do_follow code k e (behind ns b) (exec k ns b) from h.1.0 h.0 to out again st cs w h.1.1 h.2
        (λ s. stmt_follows b ns (Some to) (Some h.0) h.1.0 h.0 st cs s h.1.2 w)
        (λ s. exec_after s k b ns s (after_same s))
        (suc s.budget) s (omega arith)
    stmt_follows (For l i t f b) ns out again from to st cs s h w =
        let Q = StmtEnd to out again st cs in
        let ms = ns ++ declared_first i in
        let g = h.2 in
        follows_then code k.scene _ (first_of k ns i s) _ (OnEnd h.0 st cs) Q (first_follows code k i ns from h.0 st cs s h.1 w)
        (λ x s y p. subst (λ z. Follows code k.scene z (turns (suc s.budget) (test_if k ms t) (exec k ms b) (run_if k ms f) s) Q) (sym p.0)
        (follows_after code k.scene (turns (suc s.budget) (test_if k ms t) (exec k ms b) (run_if k ms f) s) Q (one_step code k.scene (Jump g.2) h.0 st cs s g.3.0)
        (turns_follow code k t ms (exec k ms b) (run_if k ms f) g.0 g.4.0 g.1 g.2 to out again st cs w g.4.1 g.6
        (λ s. stmt_follows b ms (Some to) (Some g.1) g.4.0 g.1 st cs s g.4.2 w)
        (λ s. run_if_follows code k f ms g.1 g.2 st cs s g.5 w)
        (λ s. exec_after s k b ms s (after_same s)) (λ s. run_if_after s k f ms s (after_same s))
        (suc s.budget) s (omega arith))))
        (λ x s y p. p)
    stmt_follows (Foreach l f d e b) ns out again from to st cs s h w =
        let Q = StmtEnd to out again st cs in
        let ms = ns ++ declared_each f ++ declared_second d in
        let xs = slots_of_each k.tree ns f d in
        let m = h.1.0 in
        let g = h.2 in
        let fit = slots_fit (slot_of_each k.tree ns f) (slots_of_second k.tree (ns ++ declared_each f) d) (second_fits (ns ++ declared_each f) d) in
        after_expr code k.scene _ (eval k ns e s) _ m st cs Q (expr_follows code k e ns from m st cs s h.1.1 w)
        (λ v s. follows_then code k.scene _ (Over (copied v s)) _ (BeginEnd code k g.1 st cs) Q (begin_end code k (length xs) m h.0 g.1 st cs v s (copied v s) refl h.1.2 g.3.0)
        (λ c s y p. subst (λ z. Follows code k.scene z (each_turns (suc s.budget) k.scene xs c 0 (exec k ms b) s) Q) (sym p)
        (each_follow code k xs (exec k ms b) g.0 g.4.0 g.4.2.0 g.1 g.2 to out again st cs c w fit.0 fit.1 g.4.1 g.4.2.1 g.5 g.6
        (λ p s. stmt_follows b ms (Some g.2) (Some g.1) g.4.2.0 g.1 (p ∷ c ∷ st) cs s g.4.2.2 (within_more cs _ (within_more cs _ w)))
        (λ s. exec_after s k b ms s (after_same s))
        (suc s.budget) 0 s (omega arith)))
        (λ z s y p. p))
        (λ v s. refl)
    stmt_follows (SwitchTree l e ps) ns out again from to st cs s h w =
        let Q = StmtEnd to out again st cs in
        let table = h.1 in
        let g = h.4.2 in
        let j = g.2 in
        let ks = slots_from (length ns) (declared_parts ps) in
        after_expr code k.scene _ (eval k ns e s) _ h.4.0 st cs Q (expr_follows code k e ns from h.4.0 st cs s h.4.1 w)
        (λ v s0.
        let s = cleared ks s0 in
        let u = labelled s v in
        follows_after code k.scene _ Q
        (comes_trans (clears_comes code k ks h.4.0 g.0 (v ∷ st) cs s0 g.1)
        (comes_to (one_step code k.scene (Switch h.0) g.0 (v ∷ st) cs s j.1.0) (ap (λ o. on_some o (λ table. goes (table_place code u table.cases table.other) st cs s)) h.2)))
        (follows_then code k.scene _ (exec_chosen k ns ps (chosen ps u) s) _ (StmtEnd to (Some to) again st cs) Q
        (chosen_follows (first_label (λ l. fits l u) ps) (first_label is_default ps) ps ns (part_place ps ns table.cases table.other to again j.0 to j.2) table.other (table_place code u table.cases table.other) to again st cs s
        (table_leads u ps ns table.cases table.other to again j.0 to j.2) (default_falls ps ns table.cases table.other to again j.0 to j.2) h.3
        (λ n. parts_follow ps ns n table.cases table.other to again j.0 to st cs s j.2 w))
        (λ f s y p. (y, there, switch_end to out again st cs f s y p))
        (λ z s y p. p)))
        (λ v s. refl)
    stmt_follows (Break l) ns out again from to st cs s h w = let r = reach code k out from to st cs s h in (r.0, r.1, r.2)
    stmt_follows (Continue l) ns out again from to st cs s h w = let r = reach code k again from to st cs s h in (r.0, r.1, r.2)
    stmt_follows (ReturnTree l None) ns out again from to st cs s h w = (Ended (Gives zero_value s), one_step code k.scene ReturnZero from st cs s h.0, refl)
    stmt_follows (ReturnTree l (Some e)) ns out again from to st cs s h w =
        after_expr code k.scene _ (eval k ns e s) _ h.0 st cs (StmtEnd to out again st cs) (expr_follows code k e ns from h.0 st cs s h.1 w)
        (λ v s. (Ended (Gives v s), one_step code k.scene Return h.0 (v ∷ st) cs s h.2.0, refl))
        (λ v s. refl)

    pub stmts_follow : (ss : StmtTrees) (ns : Names) (out again : Option ℕ) (from to : ℕ) (st : List Value) (cs : List Catching) (s : State) → MakesStmts k.tree ns ss out again code from to → Within cs (length st) → Follows code k.scene (goes from st cs s) (exec_all k ns ss s) (StmtEnd to out again st cs)
    stmts_follow NoStmt ns out again from to st cs s h w = (goes from st cs s, there, ap (λ p. goes p st cs s) (sym h))
    stmts_follow (MoreStmts a ss) ns out again from to st cs s h w =
        let t = before ns a s in
        follows_after code k.scene _ (StmtEnd to out again st cs) (clears_comes code k (loose a (length ns)) from h.0 st cs s h.1)
        (follows_then code k.scene _ (exec k ns a t) _ (StmtEnd h.2.0 out again st cs) (StmtEnd to out again st cs) (stmt_follows a ns out again h.0 h.2.0 st cs t h.2.1 w)
        (λ f s y p. then_follows code k h.2.0 to out again st cs f s y (exec_all k (behind ns a) ss) p (stmts_follow ss (behind ns a) out again h.2.0 to st cs s h.2.2 w))
        (λ x s y p. p))

    else_follows : (x : ElseTree) (ns : Names) (out again : Option ℕ) (from to : ℕ) (st : List Value) (cs : List Catching) (s : State) → MakesElse k.tree ns x out again code from to → Within cs (length st) → Follows code k.scene (goes from st cs s) (exec_else k ns x s) (StmtEnd to out again st cs)
    else_follows NoElse ns out again from to st cs s h w = (goes from st cs s, there, ap (λ p. goes p st cs s) (sym h))
    else_follows (Else a) ns out again from to st cs s h w = stmt_follows a ns out again from to st cs s h w

    parts_follow : (ps : PartTrees) (ns : Names) (n : ℕ) (ks : List Case) (other out : ℕ) (again : Option ℕ) (from to : ℕ) (st : List Value) (cs : List Catching) (s : State) → (h : MakesParts k.tree ns ps ks other out again code from to) → Within cs (length st) → Follows code k.scene (goes (part_place ps ns ks other out again from to h n) st cs s) (exec_chosen k ns ps (Some n) s) (StmtEnd to (Some out) again st cs)
    parts_follow NoPart ns n ks other out again from to st cs s h w = (goes from st cs s, there, ap (λ p. goes p st cs s) (sym h.1))
    parts_follow (LabelPart (labels.Case l c) ps) ns zero ks other out again from to st cs s h w =
        subst (λ p. Follows code k.scene (goes p st cs s) (exec_chosen k ns ps (Some zero) s) (StmtEnd to (Some out) again st cs)) (place_zero ps ns h.1 other out again from to h.4) (parts_follow ps ns zero h.1 other out again from to st cs s h.4 w)
    parts_follow (LabelPart (labels.Range l a b) ps) ns zero ks other out again from to st cs s h w =
        subst (λ p. Follows code k.scene (goes p st cs s) (exec_chosen k ns ps (Some zero) s) (StmtEnd to (Some out) again st cs)) (place_zero ps ns h.0 other out again from to h.2) (parts_follow ps ns zero h.0 other out again from to st cs s h.2 w)
    parts_follow (LabelPart (labels.Default l) ps) ns zero ks other out again from to st cs s h w =
        subst (λ p. Follows code k.scene (goes p st cs s) (exec_chosen k ns ps (Some zero) s) (StmtEnd to (Some out) again st cs)) (place_zero ps ns ks other out again from to h.1) (parts_follow ps ns zero ks other out again from to st cs s h.1 w)
    parts_follow (LabelPart (labels.Case l c) ps) ns (suc n) ks other out again from to st cs s h w = parts_follow ps ns n h.1 other out again from to st cs s h.4 w
    parts_follow (LabelPart (labels.Range l a b) ps) ns (suc n) ks other out again from to st cs s h w = parts_follow ps ns n h.0 other out again from to st cs s h.2 w
    parts_follow (LabelPart (labels.Default l) ps) ns (suc n) ks other out again from to st cs s h w = parts_follow ps ns n ks other out again from to st cs s h.1 w
    parts_follow (StmtPart a ps) ns zero ks other out again from to st cs s h w =
        let t = before ns a s in
        let m = h.2.0 in
        follows_after code k.scene _ (StmtEnd to (Some out) again st cs) (clears_comes code k (loose a (length ns)) from h.0 st cs s h.1)
        (follows_then code k.scene _ (exec k ns a t) _ (StmtEnd m (Some out) again st cs) (StmtEnd to (Some out) again st cs) (stmt_follows a ns (Some out) again h.0 m st cs t h.2.1 w)
        (λ f s y p. then_follows code k m to (Some out) again st cs f s y (exec_chosen k (behind ns a) ps (Some zero)) p
        (subst (λ p. Follows code k.scene (goes p st cs s) (exec_chosen k (behind ns a) ps (Some zero) s) (StmtEnd to (Some out) again st cs)) (place_zero ps (behind ns a) ks other out again m to h.2.2) (parts_follow ps (behind ns a) zero ks other out again m to st cs s h.2.2 w)))
        (λ x s y p. p))
    parts_follow (StmtPart a ps) ns (suc n) ks other out again from to st cs s h w = parts_follow ps (behind ns a) n ks other out again h.2.0 to st cs s h.2.2 w

  body_ends : (m n : ℕ) → One code ReturnZero m n → (f : Flow) (t : State) (y : Next) → StmtEnd m None None [] [] (Gives f t) y → Follows code k.scene y (gives (returned f) t) (λ e z. z ≡ Ended e)
  body_ends m n h On t y p =
      (Ended (Gives zero_value t), subst (λ y. Comes code k.scene y (Ended (Gives zero_value t))) (sym p) (one_step code k.scene ReturnZero m [] [] t h.0), refl)
  body_ends m n h Out t y p = absurd p
  body_ends m n h Again t y p = absurd p
  body_ends m n h (Back v) t y p = (y, there, p)

  stop_is : (o : Option Value) (w : Stop) (s : State) (y : Next) → caught w.cause ≡ o → y ≡ stopped w [] [] s → y ≡ Ended (Stops w s)
  stop_is None w s y e h = h ∙ ap (λ o. stop_at o w [] [] s) e
  stop_is (Some v) w s y e h = h ∙ ap (λ o. stop_at o w [] [] s) e

  stop_ends : (w : Stop) (s : State) (y : Next) → y ≡ stopped w [] [] s → y ≡ Ended (Stops w s)
  stop_ends w s y h = stop_is (caught w.cause) w s y refl h

  -- a function's code does what its body means
  pub fun_follows : (f : Function) (from : ℕ) (s : State) → MakesFun k.tree f code from → Follows code k.scene (goes from [] [] s) (body_of k f s) (λ e y. y ≡ Ended e)
  fun_follows f from s h =
      follows_then code k.scene _ (exec_all k f.parameters f.body s) _ (StmtEnd h.1.0 None None [] []) (λ e y. y ≡ Ended e) (stmts_follow f.body f.parameters None None from h.1.0 [] [] s h.1.1 tt)
      (λ f t y p. body_ends h.1.0 h.0 h.1.2 f t y p)
      (λ w t y p. stop_ends w t y p)

  -- where initialisers end
  abbrev InitEnd : ℕ → End Value → Next → Type 0
  InitEnd to (Gives v s) y = (y ≡ goes to [] [] s) × (v ≡ zero_value)
  InitEnd to (Stops w s) y = y ≡ stopped w [] [] s

  one_follows : (o : Option Tree) (i from m to : ℕ) (s : State) (next : State → Course Value) → MakesInitialiser k.tree i o code from m → ((s : State) → Follows code k.scene (goes m [] [] s) (next s) (InitEnd to)) → Follows code k.scene (goes from [] [] s) (initialise k i o s next) (InitEnd to)
  one_follows None i from m to s next h g = follows_after code k.scene (next s) (InitEnd to) (comes_to there (ap (λ p. goes p [] [] s) (sym h))) (g s)
  one_follows (Some e) i from m to s next h g =
      after_expr code k.scene _ (eval k [] e s) _ h.0 [] [] (InitEnd to) (expr_follows code k e [] from h.0 [] [] s h.1 tt)
      (λ v s.
      let t = with_global k.scene s i v in
      follows_after code k.scene (next t) (InitEnd to) (comes_trans (step_on code k.scene (SetGlobal i) h.0 (v ∷ []) (v ∷ []) [] [] s t h.2.0 refl) (step_to code k.scene Pop (h.0 + 1) m (v ∷ []) [] [] [] t t h.2.1 refl)) (g t))
      (λ v s. refl)

  all_follow : (vs : List Variable) (i from to : ℕ) (s : State) → MakesInitialisers k.tree i vs code from to → Follows code k.scene (goes from [] [] s) (initialises k i vs s) (InitEnd to)
  all_follow [] i from to s h = (goes from [] [] s, there, (ap (λ p. goes p [] [] s) (sym h), refl))
  all_follow (v ∷ vs) i from to s h = one_follows v.declared.value i from h.0 to s (initialises k (suc i) vs) h.1 (λ s. all_follow vs (suc i) h.0 to s h.2)

  zero_ends : (m n : ℕ) → One code ReturnZero m n → (e : End Value) (y : Next) → InitEnd m e y → (z : Next) × Comes code k.scene y z × (z ≡ Ended e)
  zero_ends m n h (Gives v s) y p =
      (Ended (Gives v s), subst (λ y. Comes code k.scene y (Ended (Gives v s))) (sym p.0) (comes_to (one_step code k.scene ReturnZero m [] [] s h.0) (ap (λ v. Ended (Gives v s)) (sym p.1))), refl)
  zero_ends m n h (Stops w s) y p = (y, there, stop_ends w s y p)

  -- and so do initialisers
  pub init_follows : (from : ℕ) (s : State) → MakesInitOf k.tree code from → Follows code k.scene (goes from [] [] s) (initialisers_of k s) (λ e y. y ≡ Ended e)
  init_follows from s h =
      follows_on code k.scene _ (initialisers_of k s) (InitEnd h.1.0) (λ e y. y ≡ Ended e) (all_follow (own_variables (version_of k.tree).items) (variables_before (parents_of k.tree)) from h.1.0 s h.1.1) (zero_ends h.1.0 h.0 h.1.2)
