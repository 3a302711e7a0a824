-- The code of an expression follows the expression.
use Rattle.std.proofs.Common.{◌≡◌, ℕ, zero, suc, ◌+◌, ◌*◌, true, false, cond, List, [], ◌∷◌, ◌++◌, length, ◌-◌, Option, Some, None, drop, pos, refl, sym, ap, ◌∙◌, subst, arith}
use Rattle.std.specs.Prelude.{slice_get, ⊤}
use Rattle.std.proofs.lemmas.List.{append-nil}
use Rattle.lp_tree.specs.declared.operator.BinOp.{BinOp}
use Rattle.lp_tree.specs.declared.operator.BinOp.TheVariants as ops
use Rattle.lp_tree.specs.declared.operator.AssignOp.TheVariants as sets
use Rattle.lp_tree.specs.declared.operator.Step.{Step as StepOf}
use Rattle.lp_tree.specs.declared.expr.Edge.{Edge}
use Rattle.lp_tree.specs.declared.expr.Edge.TheVariants.{Front, Back}
use Rattle.lp_tree.specs.Trees.{Tree, Int, Text, Name, Paren, Array, Mapping, Call, EfunCall, ParentCall, NamedParentCall, Catch, Sscanf, Index as IndexTree, Range as RangeTree, CallOther as CallOtherTree, PostStep, PreStep, Unary as UnaryTree, Cast, Binary as BinaryTree, AndThen, OrElse, Cond, Assign, Sequence, Trees, NoTree, OneMore, Pairs, NoPair, OnePair, End as EndTree, Open, At}
use Rattle.lp_values.specs.declared.value.Value.{Value}
use Rattle.lp_values.specs.declared.value.Value.TheVariants as values
use Rattle.lp_instr.specs.declared.efun.Efun.TheVariants as efun
use Rattle.lp_instr.specs.declared.instr.Instr.{Instr}
use Rattle.lp_instr.specs.declared.instr.Instr.TheVariants.{PushInt, PushText, PushLocal, SetLocal, PushGlobal, SetGlobal, Pop, Dup, Dup2, Unary, Binary, Step, Rotate, Index, SetIndex, Range, MakeArray, MakeMap, Jump, JumpIfZero, KeepIfZero, KeepIfNotZero, CallSlot, CallFixed, CallOther, CallEfun, CallSimul, Scan, CatchBegin, CatchEnd}
use Rattle.lp_instr.specs.EfunList.{efun_named}
use Rattle.lp_language.specs.Course.{State, Scene, Stop, End, Gives, Stops, Asked, Internal, Parent, OfEfun, end_of_outcome, Course, Over, Asks, and_then, asks, catching, caught, caught_end, zero_value, gives}
use Rattle.lp_language.specs.Resolve.{parent_with, parent_called}
use Rattle.lp_language.specs.Scope.{Names, Slot, OfLocal, OfGlobal, OfNothing, slot, Callee, AFunction, ASimul, AnEfun, Nobody, callee, as_efun}
use Rattle.lp_language.specs.Operations.{is_false, unary, binary, item, range, stepped, new_array, new_mapping, put_item, scan, local_of, with_local, global_of, with_global}
use Rattle.lp_language.specs.Eval.{Site, eval, eval_all, eval_last, eval_pairs, eval_end, write, change, write_all, read_slot, write_slot, calls, calls_parent, change_slot, by_operator, by_step, where_true, where_false, the_new, the_old, kind_of_end, tree_count, pair_count, simul_object}
use Rattle.lp_instr.specs.Code.{Code, Catching, parent_row}
use Rattle.lp_isa.specs.Machine.{Next, lowest, stop_at, stopped, goes, push_end, take_arguments, on_end, on_some, end_then, on_one, on_two, awaits, marked, act}
use Rattle.lp_isa.specs.Translates.{Piece, Nothing, Then, Line, One, Pushes, Reads, Writes, Calls, CallsParent, Makes, MakesAll, MakesPairs, MakesFirst, MakesMore, MakesEnd, MakesWrite, MakesChange, MakesScanned}
use Rattle.lp_isa.specs.Runs.{Comes, there, Follows}
use Rattle.lp_sim.proofs.Follow.{comes_trans, comes_to, one_step, step_on, step_to, follows_after, follows_then, follows_on, follows_cond, Within, sink, within_more, within_all, stopped_lower, ExprEnd}

-- the values of a list on the stack, the last on top
abbrev pub push_all : List Value → List Value → List Value
push_all [] st = st
push_all (x ∷ xs) st = push_all xs (x ∷ st)

-- where the code of a list of expressions ends
abbrev pub ListEnd : ℕ → ℕ → List Value → List Catching → End (List Value) → Next → Type 0
ListEnd n to st cs (Gives xs s) y = (y ≡ goes to (push_all xs st) cs s) × (length xs ≡ n)
ListEnd n to st cs (Stops w s) y = y ≡ stopped w cs st s

-- where code ends that leaves the stack as it was
abbrev pub SameEnd : ℕ → List Value → List Catching → End Value → Next → Type 0
SameEnd to st cs (Gives v s) y = y ≡ goes to st cs s
SameEnd to st cs (Stops w s) y = y ≡ stopped w cs st s

take_pushed : (xs taken st : List Value) (j k : ℕ) (go : List Value → List Value → Next) → j ≡ length xs + k → take_arguments j taken (push_all xs st) go ≡ take_arguments k (xs ++ taken) st go
take_pushed [] taken st j k go e = let e' : j ≡ k = omega arith in ap (λ i. take_arguments i taken st go) e'
take_pushed (x ∷ xs) taken st j k go e = take_pushed xs taken (x ∷ st) j (suc k) go (omega arith)

-- the arguments that were pushed are taken
take_all : (xs st : List Value) (j : ℕ) (go : List Value → List Value → Next) → length xs ≡ j → take_arguments j [] (push_all xs st) go ≡ go xs st
take_all xs st j go e = take_pushed xs [] st j 0 go (omega arith) ∙ ap (λ l. go l st) (append-nil xs)

lowest_all : (h : ℕ) (st : List Value) → h ≡ length st → lowest h st ≡ st
lowest_all h st e = let z : length st - h ≡ 0 = omega arith in ap (λ k. drop k st) z

-- 0 is false and 1 is not
pub zero_false : (s : State) → is_false s zero_value ≡ true
unfolding is_false
zero_false s = refl

pub one_true : (s : State) → is_false s (values.Int (pos 1)) ≡ false
unfolding is_false
one_true s = refl

-- an end of a range on the stack
abbrev bound_stack : EndTree → Value → List Value → List Value
bound_stack Open v st = st
bound_stack (At edge e) v st = v ∷ st

abbrev IsBound : EndTree → Value → Type 0
IsBound Open v = v ≡ zero_value
IsBound (At edge e) v = ⊤

abbrev BoundEnd : EndTree → ℕ → List Value → List Catching → End Value → Next → Type 0
BoundEnd t to st cs (Gives v s) y = (y ≡ goes to (bound_stack t v st) cs s) × IsBound t v
BoundEnd t to st cs (Stops w s) y = y ≡ stopped w cs st s

on_bound : (t : EndTree) (v : Value) (st : List Value) (go : Value → List Value → Next) → IsBound t v → on_end (kind_of_end t) (bound_stack t v st) go ≡ go v st
on_bound Open v st go h = ap (λ z. go z st) (sym h)
on_bound (At Front e) v st go h = refl
on_bound (At Back e) v st go h = refl

bound_within : (t : EndTree) (v : Value) (cs : List Catching) (st : List Value) → Within cs (length st) → Within cs (length (bound_stack t v st))
bound_within Open v cs st w = w
bound_within (At edge e) v cs st w = within_more cs _ w

bound_sink : (t : EndTree) (v : Value) (x : Stop) (cs : List Catching) (st : List Value) (s : State) → Within cs (length st) → stopped x cs (bound_stack t v st) s ≡ stopped x cs st s
bound_sink Open v x cs st s w = refl
bound_sink (At edge e) v x cs st s w = stopped_lower x cs v st s w

module _ (code : Code) (c : Scene) where
  -- an instruction that ends an expression
  pub end_step : (i : Instr) (from to : ℕ) (st0 st : List Value) (cs : List Catching) (s : State) (e : End Value) → One code i from to → act code c i from st0 cs s ≡ push_end e (from + 1) cs st → Follows code c (goes from st0 cs s) (Over e) (ExprEnd to st cs)
  end_step i from to st0 st cs s (Gives v t) h e =
      (goes to (v ∷ st) cs t, step_to code c i from to st0 (v ∷ st) cs cs s t h e, refl)
  end_step i from to st0 st cs s (Stops w t) h e =
      (stopped w cs st t, comes_to (one_step code c i from st0 cs s h.0) e, refl)

  -- after an expression
  pub after_expr : {B : Type 0} (x : Next) (t : Course Value) (go : Value → State → Course B) (to : ℕ) (st : List Value) (cs : List Catching) (Q : End B → Next → Type 0) → Follows code c x t (ExprEnd to st cs) → ((v : Value) (s : State) → Follows code c (goes to (v ∷ st) cs s) (go v s) Q) → ((w : Stop) (s : State) → Q (Stops w s) (stopped w cs st s)) → Follows code c x (and_then t go) Q
  after_expr x t go to st cs Q r f g =
      follows_then code c x t go (ExprEnd to st cs) Q r
      (λ v s y p. subst (λ z. Follows code c z (go v s) Q) (sym p) (f v s))
      (λ w s y p. subst (λ z. Q (Stops w s) z) (sym p) (g w s))

  -- a point that an instruction leads to, where an expression ends
  at_end : (p to : ℕ) (st : List Value) (cs : List Catching) (e : End Value) → to ≡ p + 1 → Follows code c (push_end e (p + 1) cs st) (Over e) (ExprEnd to st cs)
  at_end p to st cs (Gives v t) h = (goes (p + 1) (v ∷ st) cs t, there, ap (λ q. goes q (v ∷ st) cs t) (sym h))
  at_end p to st cs (Stops w t) h = (stopped w cs st t, there, refl)

  -- a question
  ask_follows : (x : Next) (what : Asked) (xs : List Value) (m to : ℕ) (st : List Value) (cs : List Catching) (s : State) → to ≡ m + 1 → Comes code c x (awaits what xs c s (m + 1) cs st) → Follows code c x (asks what xs c s) (ExprEnd to st cs)
  ask_follows x what xs m to st cs s h p =
      (λ o. push_end (end_of_outcome s o) (m + 1) cs st, p, λ o can. at_end m to st cs (end_of_outcome s o) h)

  calls_follow : (x : Callee) (name : List ℕ) (n m to : ℕ) (xs st : List Value) (cs : List Catching) (s : State) → Calls code x name n m to → length xs ≡ n → Follows code c (goes m (push_all xs st) cs s) (calls x name xs c s) (ExprEnd to st cs)
  calls_follow AFunction name n m to xs st cs s h e =
      ask_follows (goes m (push_all xs st) cs s) (Internal name) xs m to st cs s h.2.1
      (comes_to (one_step code c (CallSlot h.0 n) m (push_all xs st) cs s h.2.0) (take_all xs st n (λ xs rest. on_some (slice_get code.rows h.0) (λ name. awaits (Internal name) xs c s (m + 1) cs rest)) e ∙ ap (λ o. on_some o (λ name. awaits (Internal name) xs c s (m + 1) cs st)) h.1))
  calls_follow ASimul name n m to xs st cs s h e =
      ask_follows (goes m (push_all xs st) cs s) (OfEfun efun.CallOther) (simul_object s.world ∷ values.Str name ∷ xs) m to st cs s h.2.1
      (comes_to (one_step code c (CallSimul h.0 n) m (push_all xs st) cs s h.2.0) (take_all xs st n (λ xs rest. on_some (slice_get code.texts h.0) (λ name. awaits (OfEfun efun.CallOther) (simul_object s.world ∷ values.Str name ∷ xs) c s (m + 1) cs rest)) e ∙ ap (λ o. on_some o (λ name. awaits (OfEfun efun.CallOther) (simul_object s.world ∷ values.Str name ∷ xs) c s (m + 1) cs st)) h.1))
  calls_follow (AnEfun f) name n m to xs st cs s h e =
      ask_follows (goes m (push_all xs st) cs s) (OfEfun f) xs m to st cs s h.1
      (comes_to (one_step code c (CallEfun f n) m (push_all xs st) cs s h.0) (take_all xs st n (λ xs rest. awaits (OfEfun f) xs c s (m + 1) cs rest) e))
  calls_follow Nobody name n m to xs st cs s h e = absurd h

  parent_follows : (x : Option ℕ) (name : List ℕ) (n m to : ℕ) (xs st : List Value) (cs : List Catching) (s : State) → CallsParent code x name n m to → length xs ≡ n → Follows code c (goes m (push_all xs st) cs s) (calls_parent x name xs c s) (ExprEnd to st cs)
  parent_follows None name n m to xs st cs s h e = absurd h
  parent_follows (Some k) name n m to xs st cs s h e =
      ask_follows (goes m (push_all xs st) cs s) (Parent k name) xs m to st cs s h.2.1
      (comes_to (one_step code c (CallFixed k h.0 n) m (push_all xs st) cs s h.2.0) (take_all xs st n (λ xs rest. on_some (parent_row code k h.0) (λ name. awaits (Parent k name) xs c s (m + 1) cs rest)) e ∙ ap (λ o. on_some o (λ name. awaits (Parent k name) xs c s (m + 1) cs st)) h.1))

  -- a text is pushed
  pub push_comes : (t : List ℕ) (from to : ℕ) (st : List Value) (cs : List Catching) (s : State) → Pushes code t from to → Comes code c (goes from st cs s) (goes to (values.Str t ∷ st) cs s)
  push_comes t from to st cs s h =
      step_to code c (PushText h.0) from to st (values.Str t ∷ st) cs cs s s h.2 (ap (λ o. on_some o (λ t. goes (from + 1) (values.Str t ∷ st) cs s)) h.1)

  -- the code that ends a catch
  caught_follows : (to : ℕ) (st : List Value) (cs : List Catching) (o : Option Value) (w : Stop) (s : State) → caught w.cause ≡ o → (y : Next) → y ≡ stop_at o w (record { place = to; height = length st } ∷ cs) st s → Follows code c y (Over (caught_end o w s)) (ExprEnd to st cs)
  caught_follows to st cs (Some v) w s e y at =
      (y, there, at ∙ ap (λ r. goes to (v ∷ r) cs s) (lowest_all (length st) st refl))
  caught_follows to st cs None w s e y at = (y, there, at ∙ ap (λ o. stop_at o w cs st s) (sym e))

  catch_follows : (m to : ℕ) (st : List Value) (cs : List Catching) (t : Course Value) (x : Next) → Line code (Pop ∷ CatchEnd ∷ PushInt (pos 0) ∷ []) m to → Follows code c x t (ExprEnd m st (record { place = to; height = length st } ∷ cs)) → Follows code c x (catching t) (ExprEnd to st cs)
  catch_follows m to st cs (Over (Gives v s)) x h r =
      let k : Catching = record { place = to; height = length st } in (
        goes to (zero_value ∷ st) cs s,
        comes_trans (comes_to r.1 r.2) (comes_trans (step_on code c Pop m (v ∷ st) st (k ∷ cs) (k ∷ cs) s s h.0 refl) (comes_trans (step_on code c CatchEnd (m + 1) st st (k ∷ cs) cs s s h.1.0 refl) (step_to code c (PushInt (pos 0)) (m + 1 + 1) to st (zero_value ∷ st) cs cs s s h.1.1 refl))),
        refl,
      )
  catch_follows m to st cs (Over (Stops w s)) x h r =
      follows_after code c (Over (caught_end (caught w.cause) w s)) (ExprEnd to st cs) r.1 (caught_follows to st cs (caught w.cause) w s refl r.0 r.2)
  catch_follows m to st cs (Asks a f) x h r =
      (r.0, r.1, λ o can. catch_follows m to st cs (f o) (r.0 o) h (r.2 o can))

  -- a jump from where an expression ends
  jump_end : (k after to : ℕ) (st : List Value) (cs : List Catching) → One code (Jump to) k after → (e : End Value) (y : Next) → ExprEnd k st cs e y → (z : Next) × Comes code c y z × ExprEnd to st cs e z
  jump_end k after to st cs h (Gives v s) y p =
      (goes to (v ∷ st) cs s, subst (λ y. Comes code c y (goes to (v ∷ st) cs s)) (sym p) (one_step code c (Jump to) k (v ∷ st) cs s h.0), refl)
  jump_end k after to st cs h (Stops w s) y p = (y, there, p)

  -- variables
  reads_comes : (x : Slot) (from to : ℕ) (st : List Value) (cs : List Catching) (s : State) → Reads code x from to → Comes code c (goes from st cs s) (goes to (read_slot c x s ∷ st) cs s)
  reads_comes (OfLocal k) from to st cs s h = step_to code c (PushLocal k) from to st (local_of s k ∷ st) cs cs s s h refl
  reads_comes (OfGlobal k) from to st cs s h = step_to code c (PushGlobal k) from to st (global_of c s k ∷ st) cs cs s s h refl
  reads_comes OfNothing from to st cs s h = absurd h

  pub writes_comes : (x : Slot) (from to : ℕ) (v : Value) (st : List Value) (cs : List Catching) (s : State) → Writes code x from to → Comes code c (goes from (v ∷ st) cs s) (goes to (v ∷ st) cs (write_slot c x v s))
  writes_comes (OfLocal k) from to v st cs s h = step_to code c (SetLocal k) from to (v ∷ st) (v ∷ st) cs cs s (with_local s k v) h refl
  writes_comes (OfGlobal k) from to v st cs s h = step_to code c (SetGlobal k) from to (v ∷ st) (v ∷ st) cs cs s (with_global c s k v) h refl
  writes_comes OfNothing from to v st cs s h = absurd h

  -- What a change is made of: on the stack l with the old value on top, the first piece leaves the new value on m; and
  -- with the new value on m, the second piece leaves the value that the change gives.
  pub record Alters (A : Piece) (f : Value → State → Course Value) (low : List Value) (mid : Value → List Value) (cs : List Catching) : Type 0 where
    pub alters : (from to : ℕ) (old : Value) (s : State) → A from to → Follows code c (goes from (old ∷ low) cs s) (f old s) (ExprEnd to (mid old) cs)

  pub record EndsWith (E : Piece) (pick : Value → Value → Value) (mid : Value → List Value) (st : List Value) (cs : List Catching) : Type 0 where
    pub ends : (from to : ℕ) (old new : Value) (s : State) → E from to → Comes code c (goes from (new ∷ mid old) cs s) (goes to (pick old new ∷ st) cs s)

  slot_follows : (x : Slot) (f : Value → State → Course Value) (pick : Value → Value → Value) (A E : Piece) (low : List Value) (m : Value → List Value) (from to : ℕ) (st : List Value) (cs : List Catching) (s : State) → Then (Reads code x) (Then A (Then (Writes code x) E)) from to → Within cs (length st) → Alters A f low (λ old. m old ++ st) cs → EndsWith E pick (λ old. m old ++ st) st cs → Follows code c (goes from low cs s) (change_slot c x f pick s) (ExprEnd to st cs)
  slot_follows x f pick A E low m from to st cs s h w a e =
      let old = read_slot c x s in
      follows_after code c (change_slot c x f pick s) (ExprEnd to st cs) (reads_comes x from h.0 low cs s h.1)
      (after_expr _ (f old s) (λ new s. gives (pick old new) (write_slot c x new s)) h.2.0 (m old ++ st) cs (ExprEnd to st cs) (a.alters h.0 h.2.0 old s h.2.1)
      (λ new s. (goes to (pick old new ∷ st) cs (write_slot c x new s), comes_trans (writes_comes x h.2.0 h.2.2.0 new (m old ++ st) cs s h.2.2.1) (e.ends h.2.2.0 to old new (write_slot c x new s) h.2.2.2), refl))
      (λ z s. sink (m old) z cs st s w))

  -- a step of an operator on the old value
  step_alters : (st : StepOf) (base : List Value) (cs : List Catching) → Alters (One code (Step st)) (by_step st) base (λ old. base) cs
  step_alters st base cs = record { alters = λ from to old s h. end_step (Step st) from to (old ∷ base) base cs s (stepped st old s) h refl }

  nothing_ends : (pick : Value → Value → Value) (mid : List Value) (cs : List Catching) → ((old new : Value) → pick old new ≡ new) → EndsWith (λ from to. to ≡ from) pick (λ old. mid) mid cs
  nothing_ends pick mid cs g = record { ends = λ from to old new s h. comes_to there (ap (λ v. goes from (v ∷ mid) cs s) (sym (g old new)) ∙ ap (λ p. goes p (pick old new ∷ mid) cs s) (sym h)) }

  pop_ends : (st : List Value) (cs : List Catching) → EndsWith (Line code (Pop ∷ [])) the_old (λ old. old ∷ st) st cs
  pop_ends st cs = record { ends = λ from to old new s h. step_to code c Pop from to (new ∷ old ∷ st) (old ∷ st) cs cs s s h refl }

  dup_step_alters : (st : StepOf) (base : List Value) (cs : List Catching) → Alters (Line code (Dup ∷ Step st ∷ [])) (by_step st) base (λ old. old ∷ base) cs
  dup_step_alters st base cs = record {
    alters = λ from to old s h. follows_after code c (by_step st old s) (ExprEnd to (old ∷ base) cs) (step_on code c Dup from (old ∷ base) (old ∷ old ∷ base) cs cs s s h.0 refl)
        (end_step (Step st) (from + 1) to (old ∷ old ∷ base) (old ∷ base) cs s (stepped st old s) h.1 refl);
  }

  -- a right side between reading and writing
  true_alters : (right : State → Course Value) (R : Piece) (base : List Value) (cs : List Catching) → ((from to : ℕ) (s : State) → R from to → Follows code c (goes from base cs s) (right s) (ExprEnd to base cs)) → Alters (λ from to. Then (One code (KeepIfZero to)) R from to) (where_true right) base (λ old. base) cs
  true_alters right R base cs g = record {
    alters = λ from to old s h. follows_after code c (where_true right old s) (ExprEnd to base cs) (one_step code c (KeepIfZero to) from (old ∷ base) cs s h.1.0)
        (follows_cond code c (is_false s old) (goes to (old ∷ base) cs s) (goes (from + 1) base cs s) (gives old s) (right s) (ExprEnd to base cs)
        (goes to (old ∷ base) cs s, there, refl)
        (subst (λ p. Follows code c (goes p base cs s) (right s) (ExprEnd to base cs)) h.1.1 (g h.0 to s h.2)));
  }

  false_alters : (right : State → Course Value) (R : Piece) (base : List Value) (cs : List Catching) → ((from to : ℕ) (s : State) → R from to → Follows code c (goes from base cs s) (right s) (ExprEnd to base cs)) → Alters (λ from to. Then (One code (KeepIfNotZero to)) R from to) (where_false right) base (λ old. base) cs
  false_alters right R base cs g = record {
    alters = λ from to old s h. follows_after code c (where_false right old s) (ExprEnd to base cs) (one_step code c (KeepIfNotZero to) from (old ∷ base) cs s h.1.0)
        (follows_cond code c (is_false s old) (goes (from + 1) base cs s) (goes to (old ∷ base) cs s) (right s) (gives old s) (ExprEnd to base cs)
        (subst (λ p. Follows code c (goes p base cs s) (right s) (ExprEnd to base cs)) h.1.1 (g h.0 to s h.2))
        (goes to (old ∷ base) cs s, there, refl));
  }

  -- an operator with the value below
  op_alters : (op : BinOp) (v : Value) (st : List Value) (cs : List Catching) → Alters (Line code (Rotate 2 ∷ Binary op ∷ [])) (by_operator op v) (v ∷ st) (λ old. st) cs
  op_alters op v st cs = record {
    alters = λ from to old s h. follows_after code c (by_operator op v old s) (ExprEnd to st cs) (step_on code c (Rotate 2) from (old ∷ v ∷ st) (v ∷ old ∷ st) cs cs s s h.0 refl)
        (end_step (Binary op) (from + 1) to (v ∷ old ∷ st) st cs s (binary op old v s) h.1 refl);
  }

  -- the same for an item: container and index lie between
  pub record AltersItem (A : Piece) (f : Value → State → Course Value) (low : List Value) (mid : Value → List Value) (cs : List Catching) : Type 0 where
    pub alters : (from to : ℕ) (old x i : Value) (s : State) → A from to → Follows code c (goes from (old ∷ i ∷ x ∷ low) cs s) (f old s) (ExprEnd to (i ∷ x ∷ mid old) cs)

  plain_item : (A : Piece) (f : Value → State → Course Value) (low : List Value) (cs : List Catching) → ((x i : Value) → Alters A f (i ∷ x ∷ low) (λ old. i ∷ x ∷ low) cs) → AltersItem A f low (λ old. low) cs
  plain_item A f low cs g = record { alters = λ from to old x i s h. (g x i).alters from to old s h }

  op_item : (op : BinOp) (v : Value) (st : List Value) (cs : List Catching) → AltersItem (Line code (Rotate 4 ∷ Binary op ∷ [])) (by_operator op v) (v ∷ st) (λ old. st) cs
  op_item op v st cs = record {
    alters = λ from to old x i s h. follows_after code c (by_operator op v old s) (ExprEnd to (i ∷ x ∷ st) cs) (step_on code c (Rotate 4) from (old ∷ i ∷ x ∷ v ∷ st) (v ∷ old ∷ i ∷ x ∷ st) cs cs s s h.0 refl)
        (end_step (Binary op) (from + 1) to (v ∷ old ∷ i ∷ x ∷ st) (i ∷ x ∷ st) cs s (binary op old v s) h.1 refl);
  }

  -- the old value goes below container and index
  sunk_end : (st : StepOf) (m to : ℕ) (old x i : Value) (base : List Value) (cs : List Catching) → Within cs (length base) → Line code (Rotate 4 ∷ Rotate 4 ∷ Rotate 3 ∷ []) m to → (e : End Value) (y : Next) → ExprEnd m (old ∷ i ∷ x ∷ base) cs e y → (z : Next) × Comes code c y z × ExprEnd to (i ∷ x ∷ old ∷ base) cs e z
  sunk_end st m to old x i base cs w h (Gives new s) y p = (
    goes to (new ∷ i ∷ x ∷ old ∷ base) cs s,
    subst (λ y. Comes code c y (goes to (new ∷ i ∷ x ∷ old ∷ base) cs s)) (sym p) (comes_trans (step_on code c (Rotate 4) m (new ∷ old ∷ i ∷ x ∷ base) (x ∷ new ∷ old ∷ i ∷ base) cs cs s s h.0 refl) (comes_trans (step_on code c (Rotate 4) (m + 1) (x ∷ new ∷ old ∷ i ∷ base) (i ∷ x ∷ new ∷ old ∷ base) cs cs s s h.1.0 refl) (step_to code c (Rotate 3) (m + 1 + 1) to (i ∷ x ∷ new ∷ old ∷ base) (new ∷ i ∷ x ∷ old ∷ base) cs cs s s h.1.1 refl))),
    refl,
  )
  sunk_end st m to old x i base cs w h (Stops z s) y p =
      (y, there, p ∙ sink (old ∷ i ∷ x ∷ []) z cs base s w ∙ sym (sink (i ∷ x ∷ old ∷ []) z cs base s w))

  dup_step_item : (st : StepOf) (base : List Value) (cs : List Catching) → Within cs (length base) → AltersItem (Line code (Dup ∷ Step st ∷ Rotate 4 ∷ Rotate 4 ∷ Rotate 3 ∷ [])) (by_step st) base (λ old. old ∷ base) cs
  dup_step_item st base cs w = record {
    alters = λ from to old x i s h.
        let low = i ∷ x ∷ base in
        follows_on code c _ (by_step st old s) (ExprEnd (from + 1 + 1) (old ∷ low) cs) (ExprEnd to (i ∷ x ∷ old ∷ base) cs)
        ((dup_step_alters st low cs).alters from (from + 1 + 1) old s (h.0, (h.1.0, refl)))
        (sunk_end st (from + 1 + 1) to old x i base cs w h.1.1);
  }

  -- an item is read, changed and written
  item_changes : (edge : Edge) (f : Value → State → Course Value) (pick : Value → Value → Value) (A E : Piece) (l : List Value) (m : Value → List Value) (from to : ℕ) (x i : Value) (st : List Value) (cs : List Catching) (s : State) → Then (Line code (Dup2 ∷ Index edge ∷ [])) (Then A (Then (One code (SetIndex edge)) E)) from to → Within cs (length st) → AltersItem A f (l ++ st) (λ old. m old ++ st) cs → EndsWith E pick (λ old. m old ++ st) st cs → Follows code c (goes from (i ∷ x ∷ (l ++ st)) cs s) (and_then (Over (item edge x i s)) (λ old s. and_then (f old s) (λ new s. and_then (Over (put_item edge x i new s)) (λ v s. gives (pick old v) s)))) (ExprEnd to st cs)
  item_changes edge f pick A E l m from to x i st cs s h w a e =
      let low = l ++ st in
      let Q = ExprEnd to st cs in
      after_expr _ (Over (item edge x i s)) _ h.0 (i ∷ x ∷ low) cs Q
      (follows_after code c (Over (item edge x i s)) (ExprEnd h.0 (i ∷ x ∷ low) cs) (step_on code c Dup2 from (i ∷ x ∷ low) (i ∷ x ∷ i ∷ x ∷ low) cs cs s s h.1.0 refl)
      (end_step (Index edge) (from + 1) h.0 (i ∷ x ∷ i ∷ x ∷ low) (i ∷ x ∷ low) cs s (item edge x i s) h.1.1 refl))
      (λ old s. after_expr _ (f old s) _ h.2.0 (i ∷ x ∷ (m old ++ st)) cs Q (a.alters h.0 h.2.0 old x i s h.2.1)
      (λ new s. after_expr _ (Over (put_item edge x i new s)) _ h.2.2.0 (m old ++ st) cs Q
      (end_step (SetIndex edge) h.2.0 h.2.2.0 (new ∷ i ∷ x ∷ (m old ++ st)) (m old ++ st) cs s (put_item edge x i new s) h.2.2.1 refl)
      (λ v s. (goes to (pick old v ∷ st) cs s, e.ends h.2.2.0 to old v s h.2.2.2, refl))
      (λ z s. sink (m old) z cs st s w))
      (λ z s. sink (i ∷ x ∷ m old) z cs st s w))
      (λ z s. sink (i ∷ x ∷ l) z cs st s w)

  -- where a scan ends
  abbrev ScanEnd : ℕ → ℕ → List Value → List Catching → End (List Value) → Next → Type 0
  ScanEnd n to st cs (Gives vs s) y = y ≡ goes to (marked n vs (values.Int (pos (length vs)) ∷ st)) cs s
  ScanEnd n to st cs (Stops w s) y = y ≡ stopped w cs st s

  scan_follows : (n from to : ℕ) (x form : Value) (st : List Value) (cs : List Catching) (s : State) (e : End (List Value)) → scan n x form s ≡ e → One code (Scan n) from to → Follows code c (goes from (form ∷ x ∷ st) cs s) (Over e) (ScanEnd n to st cs)
  scan_follows n from to x form st cs s (Gives vs t) e h =
      (goes to (marked n vs (values.Int (pos (length vs)) ∷ st)) cs t, comes_to (one_step code c (Scan n) from (form ∷ x ∷ st) cs s h.0) (ap (λ e. end_then e cs st (λ vs s. goes (from + 1) (marked n vs (values.Int (pos (length vs)) ∷ st)) cs s)) e ∙ ap (λ p. goes p (marked n vs (values.Int (pos (length vs)) ∷ st)) cs t) (sym h.1)), refl)
  scan_follows n from to x form st cs s (Stops w t) e h =
      (stopped w cs st t, comes_to (one_step code c (Scan n) from (form ∷ x ∷ st) cs s h.0) (ap (λ e. end_then e cs st (λ vs s. goes (from + 1) (marked n vs (values.Int (pos (length vs)) ∷ st)) cs s)) e), refl)

range_act : (code : Code) (c : Scene) (a b : EndTree) (x y z : Value) (p : ℕ) (st : List Value) (cs : List Catching) (s : State) → IsBound a y → IsBound b z → act code c (Range (kind_of_end a) (kind_of_end b)) p (bound_stack b z (bound_stack a y (x ∷ st))) cs s ≡ push_end (range (kind_of_end a) (kind_of_end b) x y z s) (p + 1) cs st
range_act code c a b x y z p st cs s g h =
    let go = λ (w : Value) (rest : List Value). on_end (kind_of_end a) rest (λ v rest. on_one rest (λ x rest. push_end (range (kind_of_end a) (kind_of_end b) x v w s) (p + 1) cs rest)) in
    on_bound b z (bound_stack a y (x ∷ st)) go h ∙ on_bound a y (x ∷ st) (λ v rest. on_one rest (λ x rest. push_end (range (kind_of_end a) (kind_of_end b) x v z s) (p + 1) cs rest)) g

at_bound : (code : Code) (c : Scene) (edge : Edge) (t : Tree) (to : ℕ) (st : List Value) (cs : List Catching) (e : End Value) (y : Next) → ExprEnd to st cs e y → (z : Next) × Comes code c y z × BoundEnd (At edge t) to st cs e z
at_bound code c edge t to st cs (Gives v s) y p = (y, there, (p, tt))
at_bound code c edge t to st cs (Stops w s) y p = (y, there, p)

marked_is : (n : ℕ) (vs st : List Value) → marked n vs st ≡ marked n vs [] ++ st
marked_is zero vs st = refl
marked_is (suc n) [] st = ap (λ l. zero_value ∷ zero_value ∷ l) (marked_is n [] st)
marked_is (suc n) (v ∷ vs) st = ap (λ l. values.Int (pos 1) ∷ v ∷ l) (marked_is n vs st)

marked_within : (n : ℕ) (vs st : List Value) (cs : List Catching) → Within cs (length st) → Within cs (length (marked n vs st))
marked_within n vs st cs w = subst (λ l. Within cs (length l)) (sym (marked_is n vs st)) (within_all cs (marked n vs []) st w)

marked_sink : (n : ℕ) (vs st : List Value) (w : Stop) (cs : List Catching) (s : State) → Within cs (length st) → stopped w cs (marked n vs st) s ≡ stopped w cs st s
marked_sink n vs st w cs s h = ap (λ l. stopped w cs l s) (marked_is n vs st) ∙ sink (marked n vs []) w cs st s h

module _ (code : Code) (k : Site) where
  -- places that are not assigned are passed over
  skips_comes : (ps : Trees) (ns : Names) (from to : ℕ) (st : List Value) (cs : List Catching) (s : State) → MakesScanned k.tree ns ps code from to → Comes code k.scene (goes from (marked (tree_count ps) [] st) cs s) (goes to st cs s)
  skips_comes NoTree ns from to st cs s h = comes_to there (ap (λ p. goes p st cs s) (sym h))
  skips_comes (OneMore p ps) ns from to st cs s h =
      let M = marked (tree_count ps) [] st in
      comes_trans (comes_to (one_step code k.scene (JumpIfZero h.0) from (zero_value ∷ zero_value ∷ M) cs s h.1.1.0) (ap (λ b. cond b (goes h.0 (zero_value ∷ M) cs s) (goes (from + 1) (zero_value ∷ M) cs s)) (zero_false s)))
      (comes_trans (step_to code k.scene Pop h.0 h.2.0 (zero_value ∷ M) M cs cs s s h.2.1 refl) (skips_comes ps ns h.2.0 to st cs s h.2.2))

  -- the code of an expression follows it, wherever it stands
  abbrev ExprFollows : Tree → Names → Type 0
  ExprFollows e ns = (from to : ℕ) (st : List Value) (cs : List Catching) (s : State) → Makes k.tree ns e code from to → Within cs (length st) → Follows code k.scene (goes from st cs s) (eval k ns e s) (ExprEnd to st cs)

  -- container and index of a place
  abbrev PartsFollow : Tree → Names → Type 0
  PartsFollow (IndexTree l e edge i) ns = ExprFollows e ns × ExprFollows i ns
  PartsFollow _ ns = ⊤

  change_follows : (p : Tree) (ns : Names) → PartsFollow p ns → (f : Value → State → Course Value) (pick : Value → Value → Value) (A E AI EI : Piece) (l : List Value) (m : Value → List Value) (from to : ℕ) (st : List Value) (cs : List Catching) (s : State) → MakesChange k.tree ns p code A E AI EI from to → Within cs (length st) → Alters code k.scene A f (l ++ st) (λ old. m old ++ st) cs → EndsWith code k.scene E pick (λ old. m old ++ st) st cs → AltersItem code k.scene AI f (l ++ st) (λ old. m old ++ st) cs → EndsWith code k.scene EI pick (λ old. m old ++ st) st cs → Follows code k.scene (goes from (l ++ st) cs s) (change k ns p f pick s) (ExprEnd to st cs)
  change_follows (Name l x) ns _ f pick A E AI EI low m from to st cs s h w a e ai ei =
      slot_follows code k.scene (slot k.tree ns x) f pick A E (low ++ st) m from to st cs s h w a e
  change_follows (IndexTree l e edge i) ns b f pick A E AI EI low m from to st cs s h w a en ai ei =
      let w1 = within_all cs low st w in
      after_expr code k.scene _ (eval k ns e s) _ h.0 (low ++ st) cs (ExprEnd to st cs) (b.0 from h.0 (low ++ st) cs s h.1 w1)
      (λ x s. after_expr code k.scene _ (eval k ns i s) _ h.2.0 (x ∷ (low ++ st)) cs (ExprEnd to st cs) (b.1 h.0 h.2.0 (x ∷ (low ++ st)) cs s h.2.1 (within_more cs _ w1))
      (λ y s. item_changes code k.scene edge f pick AI EI low m h.2.0 to x y st cs s h.2.2 w ai ei)
      (λ z s. sink (x ∷ low) z cs st s w))
      (λ z s. sink low z cs st s w)
  change_follows _ ns _ f pick A E AI EI low m from to st cs s h w a e ai ei = absurd h

  mutual
    pub expr_follows : (e : Tree) (ns : Names) → ExprFollows e ns
    expr_follows (Int l n) ns from to st cs s h w = end_step code k.scene (PushInt n) from to st st cs s (Gives (values.Int n) s) h refl
    expr_follows (Text l t) ns from to st cs s h w = (goes to (values.Str t ∷ st) cs s, push_comes code k.scene t from to st cs s h, refl)
    expr_follows (Name l x) ns from to st cs s h w =
        (goes to (read_slot k.scene (slot k.tree ns x) s ∷ st) cs s, reads_comes code k.scene (slot k.tree ns x) from to st cs s h, refl)
    expr_follows (Paren l e) ns from to st cs s h w = expr_follows e ns from to st cs s h w
    expr_follows (Array l es) ns from to st cs s h w =
        let n = tree_count es in
        follows_then code k.scene _ (eval_all k ns es s) _ (ListEnd n h.0 st cs) (ExprEnd to st cs) (row_follows es ns from h.0 st cs s h.1 w)
        (λ xs s y p. subst (λ z. Follows code k.scene z (Over (new_array xs s)) (ExprEnd to st cs)) (sym p.0) (end_step code k.scene (MakeArray n) h.0 to (push_all xs st) st cs s (new_array xs s) h.2 (take_all xs st n (λ xs rest. push_end (new_array xs s) (h.0 + 1) cs rest) p.1)))
        (λ v s y p. p)
    expr_follows (Mapping l ps) ns from to st cs s h w =
        let n = pair_count ps in
        follows_then code k.scene _ (eval_pairs k ns ps s) _ (ListEnd (2 * n) h.0 st cs) (ExprEnd to st cs) (pairs_follow ps ns from h.0 st cs s h.1 w)
        (λ xs s y p. subst (λ z. Follows code k.scene z (Over (new_mapping xs s)) (ExprEnd to st cs)) (sym p.0) (end_step code k.scene (MakeMap n) h.0 to (push_all xs st) st cs s (new_mapping xs s) h.2 (take_all xs st (2 * n) (λ xs rest. push_end (new_mapping xs s) (h.0 + 1) cs rest) p.1)))
        (λ v s y p. p)
    expr_follows (Call l name es) ns from to st cs s h w =
        follows_then code k.scene _ (eval_all k ns es s) _ (ListEnd (tree_count es) h.0 st cs) (ExprEnd to st cs) (row_follows es ns from h.0 st cs s h.1 w)
        (λ xs s y p. subst (λ z. Follows code k.scene z (calls (callee k.tree name) name xs k.scene s) (ExprEnd to st cs)) (sym p.0) (calls_follow code k.scene (callee k.tree name) name (tree_count es) h.0 to xs st cs s h.2 p.1))
        (λ v s y p. p)
    expr_follows (EfunCall l name es) ns from to st cs s h w =
        follows_then code k.scene _ (eval_all k ns es s) _ (ListEnd (tree_count es) h.0 st cs) (ExprEnd to st cs) (row_follows es ns from h.0 st cs s h.1 w)
        (λ xs s y p. subst (λ z. Follows code k.scene z (calls (as_efun (efun_named name)) name xs k.scene s) (ExprEnd to st cs)) (sym p.0) (calls_follow code k.scene (as_efun (efun_named name)) name (tree_count es) h.0 to xs st cs s h.2 p.1))
        (λ v s y p. p)
    expr_follows (ParentCall l name es) ns from to st cs s h w =
        follows_then code k.scene _ (eval_all k ns es s) _ (ListEnd (tree_count es) h.0 st cs) (ExprEnd to st cs) (row_follows es ns from h.0 st cs s h.1 w)
        (λ xs s y p. subst (λ z. Follows code k.scene z (calls_parent (parent_with k.tree name) name xs k.scene s) (ExprEnd to st cs)) (sym p.0) (parent_follows code k.scene (parent_with k.tree name) name (tree_count es) h.0 to xs st cs s h.2 p.1))
        (λ v s y p. p)
    expr_follows (NamedParentCall l q name es) ns from to st cs s h w =
        follows_then code k.scene _ (eval_all k ns es s) _ (ListEnd (tree_count es) h.0 st cs) (ExprEnd to st cs) (row_follows es ns from h.0 st cs s h.1 w)
        (λ xs s y p. subst (λ z. Follows code k.scene z (calls_parent (parent_called k.tree q) name xs k.scene s) (ExprEnd to st cs)) (sym p.0) (parent_follows code k.scene (parent_called k.tree q) name (tree_count es) h.0 to xs st cs s h.2 p.1))
        (λ v s y p. p)
    expr_follows (Catch l e) ns from to st cs s h w =
        let r : Catching = record { place = to; height = length st } in
        follows_after code k.scene _ (ExprEnd to st cs) (step_to code k.scene (CatchBegin to) from h.0 st st cs (r ∷ cs) s s h.1 refl)
        (catch_follows code k.scene h.2.0 to st cs (eval k ns e s) _ h.2.2 (expr_follows e ns h.0 h.2.0 st (r ∷ cs) s h.2.1 (omega arith)))
    expr_follows (Sscanf l e form places) ns from to st cs s h w =
        let Q = ExprEnd to st cs in
        let n = tree_count places in
        let a = h.2.0 in
        let g = h.2.2 in
        after_expr code k.scene _ (eval k ns e s) _ h.0 st cs Q (expr_follows e ns from h.0 st cs s h.1 w)
        (λ x s. after_expr code k.scene _ (eval k ns form s) _ a (x ∷ st) cs Q (expr_follows form ns h.0 a (x ∷ st) cs s h.2.1 (within_more cs _ w))
        (λ y s. follows_then code k.scene _ (Over (scan n x y s)) _ (ScanEnd code k.scene n g.0 st cs) Q (scan_follows code k.scene n a g.0 x y st cs s (scan n x y s) refl g.1)
        (λ vs s z p.
        let stk = values.Int (pos (length vs)) ∷ st in
        subst (λ z. Follows code k.scene z (and_then (write_all k ns places vs s) (λ j s. gives (values.Int (pos (length vs))) s)) Q) (sym p)
        (follows_then code k.scene _ (write_all k ns places vs s) _ (SameEnd to stk cs) Q (scanned_follows places ns vs g.0 to stk cs s g.2 (within_more cs _ w))
        (λ j s z q. (z, there, q))
        (λ j s z q. q ∙ stopped_lower j cs (values.Int (pos (length vs))) st s w)))
        (λ j s z p. p))
        (λ v s. stopped_lower v cs x st s w))
        (λ v s. refl)
    expr_follows (IndexTree l e edge i) ns from to st cs s h w =
        after_expr code k.scene _ (eval k ns e s) _ h.0 st cs (ExprEnd to st cs) (expr_follows e ns from h.0 st cs s h.1 w)
        (λ x s. after_expr code k.scene _ (eval k ns i s) _ h.2.0 (x ∷ st) cs (ExprEnd to st cs) (expr_follows i ns h.0 h.2.0 (x ∷ st) cs s h.2.1 (within_more cs _ w))
        (λ y s. end_step code k.scene (Index edge) h.2.0 to (y ∷ x ∷ st) st cs s (item edge x y s) h.2.2 refl)
        (λ v s. stopped_lower v cs x st s w))
        (λ v s. refl)
    expr_follows (RangeTree l e a b) ns from to st cs s h w =
        let Q = ExprEnd to st cs in
        after_expr code k.scene _ (eval k ns e s) _ h.0 st cs Q (expr_follows e ns from h.0 st cs s h.1 w)
        (λ x s. follows_then code k.scene _ (eval_end k ns a s) _ (BoundEnd a h.2.0 (x ∷ st) cs) Q (end_follows a ns h.0 h.2.0 (x ∷ st) cs s h.2.1 (within_more cs _ w))
        (λ y s n p. subst (λ z. Follows code k.scene z (and_then (eval_end k ns b s) (λ z s. Over (range (kind_of_end a) (kind_of_end b) x y z s))) Q) (sym p.0)
        (follows_then code k.scene _ (eval_end k ns b s) _ (BoundEnd b h.2.2.0 (bound_stack a y (x ∷ st)) cs) Q (end_follows b ns h.2.0 h.2.2.0 (bound_stack a y (x ∷ st)) cs s h.2.2.1 (bound_within a y cs (x ∷ st) (within_more cs _ w)))
        (λ z s n q. subst (λ n. Follows code k.scene n (Over (range (kind_of_end a) (kind_of_end b) x y z s)) Q) (sym q.0)
        (end_step code k.scene (Range (kind_of_end a) (kind_of_end b)) h.2.2.0 to (bound_stack b z (bound_stack a y (x ∷ st))) st cs s (range (kind_of_end a) (kind_of_end b) x y z s) h.2.2.2
        (range_act code k.scene a b x y z h.2.2.0 st cs s p.1 q.1)))
        (λ v s n q. q ∙ bound_sink a y v cs (x ∷ st) s (within_more cs _ w) ∙ stopped_lower v cs x st s w)))
        (λ v s n p. p ∙ stopped_lower v cs x st s w))
        (λ v s. refl)
    expr_follows (CallOtherTree l e name es) ns from to st cs s h w =
        let Q = ExprEnd to st cs in
        let n = tree_count es in
        let g = h.2.2 in
        after_expr code k.scene _ (eval k ns e s) _ h.0 st cs Q (expr_follows e ns from h.0 st cs s h.1 w)
        (λ o s. follows_after code k.scene _ Q (push_comes code k.scene name h.0 h.2.0 (o ∷ st) cs s h.2.1)
        (follows_then code k.scene _ (eval_all k ns es s) _ (ListEnd n g.0 (values.Str name ∷ o ∷ st) cs) Q (row_follows es ns h.2.0 g.0 (values.Str name ∷ o ∷ st) cs s g.1 (within_more cs _ (within_more cs _ w)))
        (λ xs s y p. subst (λ z. Follows code k.scene z (asks (OfEfun efun.CallOther) (o ∷ values.Str name ∷ xs) k.scene s) Q) (sym p.0)
        (ask_follows code k.scene (goes g.0 (push_all xs (values.Str name ∷ o ∷ st)) cs s) (OfEfun efun.CallOther) (o ∷ values.Str name ∷ xs) g.0 to st cs s g.2.1
        (comes_to (one_step code k.scene (CallOther n) g.0 (push_all xs (values.Str name ∷ o ∷ st)) cs s g.2.0) (take_all xs (values.Str name ∷ o ∷ st) n (λ xs rest. on_two rest (λ o name rest. awaits (OfEfun efun.CallOther) (o ∷ name ∷ xs) k.scene s (g.0 + 1) cs rest)) p.1))))
        (λ v s y p. p ∙ sink (values.Str name ∷ o ∷ []) v cs st s w)))
        (λ v s. refl)
    expr_follows (PostStep l f p) ns from to st cs s h w =
        change_follows p ns (place_follows p ns) (by_step f) the_old (Line code (Dup ∷ Step f ∷ [])) (Line code (Pop ∷ [])) (Line code (Dup ∷ Step f ∷ Rotate 4 ∷ Rotate 4 ∷ Rotate 3 ∷ [])) (Line code (Pop ∷ [])) [] (λ old. old ∷ []) from to st cs s h w
        (dup_step_alters code k.scene f st cs) (pop_ends code k.scene st cs) (dup_step_item code k.scene f st cs w) (pop_ends code k.scene st cs)
    expr_follows (PreStep l f p) ns from to st cs s h w =
        change_follows p ns (place_follows p ns) (by_step f) the_new (One code (Step f)) Nothing (One code (Step f)) Nothing [] (λ old. []) from to st cs s h w
        (step_alters code k.scene f st cs) (nothing_ends code k.scene the_new st cs (λ a b. refl)) (plain_item code k.scene (One code (Step f)) (by_step f) st cs (λ x i. step_alters code k.scene f (i ∷ x ∷ st) cs)) (nothing_ends code k.scene the_new st cs (λ a b. refl))
    expr_follows (UnaryTree l op e) ns from to st cs s h w =
        after_expr code k.scene _ (eval k ns e s) _ h.0 st cs (ExprEnd to st cs) (expr_follows e ns from h.0 st cs s h.1 w)
        (λ x s. end_step code k.scene (Unary op) h.0 to (x ∷ st) st cs s (unary op x s) h.2 refl)
        (λ v s. refl)
    expr_follows (Cast l ty e) ns from to st cs s h w = expr_follows e ns from to st cs s h w
    expr_follows (BinaryTree l op a b) ns from to st cs s h w =
        after_expr code k.scene _ (eval k ns a s) _ h.0 st cs (ExprEnd to st cs) (expr_follows a ns from h.0 st cs s h.1 w)
        (λ x s. after_expr code k.scene _ (eval k ns b s) _ h.2.0 (x ∷ st) cs (ExprEnd to st cs) (expr_follows b ns h.0 h.2.0 (x ∷ st) cs s h.2.1 (within_more cs _ w))
        (λ y s. end_step code k.scene (Binary op) h.2.0 to (y ∷ x ∷ st) st cs s (binary op x y s) h.2.2 refl)
        (λ v s. stopped_lower v cs x st s w))
        (λ v s. refl)
    expr_follows (AndThen l a b) ns from to st cs s h w =
        after_expr code k.scene _ (eval k ns a s) _ h.0 st cs (ExprEnd to st cs) (expr_follows a ns from h.0 st cs s h.1 w)
        (λ x s. follows_after code k.scene _ (ExprEnd to st cs) (one_step code k.scene (KeepIfZero to) h.0 (x ∷ st) cs s h.2.1.0)
        (follows_cond code k.scene (is_false s x) (goes to (x ∷ st) cs s) (goes (h.0 + 1) st cs s) (gives x s) (eval k ns b s) (ExprEnd to st cs)
        (goes to (x ∷ st) cs s, there, refl)
        (subst (λ p. Follows code k.scene (goes p st cs s) (eval k ns b s) (ExprEnd to st cs)) h.2.1.1 (expr_follows b ns h.2.0 to st cs s h.2.2 w))))
        (λ v s. refl)
    expr_follows (OrElse l a b) ns from to st cs s h w =
        after_expr code k.scene _ (eval k ns a s) _ h.0 st cs (ExprEnd to st cs) (expr_follows a ns from h.0 st cs s h.1 w)
        (λ x s. follows_after code k.scene _ (ExprEnd to st cs) (one_step code k.scene (KeepIfNotZero to) h.0 (x ∷ st) cs s h.2.1.0)
        (follows_cond code k.scene (is_false s x) (goes (h.0 + 1) st cs s) (goes to (x ∷ st) cs s) (eval k ns b s) (gives x s) (ExprEnd to st cs)
        (subst (λ p. Follows code k.scene (goes p st cs s) (eval k ns b s) (ExprEnd to st cs)) h.2.1.1 (expr_follows b ns h.2.0 to st cs s h.2.2 w))
        (goes to (x ∷ st) cs s, there, refl)))
        (λ v s. refl)
    expr_follows (Cond l a b d) ns from to st cs s h w =
        let Q = ExprEnd to st cs in
        let g = h.1.2 in
        after_expr code k.scene _ (eval k ns a s) _ h.1.0 st cs Q (expr_follows a ns from h.1.0 st cs s h.1.1 w)
        (λ x s. follows_after code k.scene _ Q (one_step code k.scene (JumpIfZero h.0) h.1.0 (x ∷ st) cs s g.1.0)
        (follows_cond code k.scene (is_false s x) (goes h.0 st cs s) (goes (h.1.0 + 1) st cs s) (eval k ns d s) (eval k ns b s) Q
        (expr_follows d ns h.0 to st cs s h.2 w)
        (subst (λ p. Follows code k.scene (goes p st cs s) (eval k ns b s) Q) g.1.1 (follows_on code k.scene _ (eval k ns b s) (ExprEnd g.2.0 st cs) Q (expr_follows b ns g.0 g.2.0 st cs s g.2.1 w) (jump_end code k.scene g.2.0 h.0 to st cs g.2.2)))))
        (λ v s. refl)
    expr_follows (Assign l sets.Set p e) ns from to st cs s h w =
        after_expr code k.scene _ (eval k ns e s) _ h.0 st cs (ExprEnd to st cs) (expr_follows e ns from h.0 st cs s h.1 w)
        (λ v s. write_follows p ns h.0 to v st cs s h.2 w)
        (λ v s. refl)
    expr_follows (Assign l sets.AndThen p e) ns from to st cs s h w =
        let R = λ (from to : ℕ). Then (One code (KeepIfZero to)) (Makes k.tree ns e code) from to in
        change_follows p ns (place_follows p ns) (where_true (eval k ns e)) the_new R Nothing R Nothing [] (λ old. []) from to st cs s h w
        (true_alters code k.scene (eval k ns e) (Makes k.tree ns e code) st cs (λ from to s h. expr_follows e ns from to st cs s h w)) (nothing_ends code k.scene the_new st cs (λ a b. refl))
        (plain_item code k.scene R (where_true (eval k ns e)) st cs (λ x i. true_alters code k.scene (eval k ns e) (Makes k.tree ns e code) (i ∷ x ∷ st) cs (λ from to s h. expr_follows e ns from to (i ∷ x ∷ st) cs s h (within_more cs _ (within_more cs _ w))))) (nothing_ends code k.scene the_new st cs (λ a b. refl))
    expr_follows (Assign l sets.OrElse p e) ns from to st cs s h w =
        let R = λ (from to : ℕ). Then (One code (KeepIfNotZero to)) (Makes k.tree ns e code) from to in
        change_follows p ns (place_follows p ns) (where_false (eval k ns e)) the_new R Nothing R Nothing [] (λ old. []) from to st cs s h w
        (false_alters code k.scene (eval k ns e) (Makes k.tree ns e code) st cs (λ from to s h. expr_follows e ns from to st cs s h w)) (nothing_ends code k.scene the_new st cs (λ a b. refl))
        (plain_item code k.scene R (where_false (eval k ns e)) st cs (λ x i. false_alters code k.scene (eval k ns e) (Makes k.tree ns e code) (i ∷ x ∷ st) cs (λ from to s h. expr_follows e ns from to (i ∷ x ∷ st) cs s h (within_more cs _ (within_more cs _ w))))) (nothing_ends code k.scene the_new st cs (λ a b. refl))
    expr_follows (Assign l sets.Add p e) ns from to st cs s h w =
        after_expr code k.scene _ (eval k ns e s) _ h.0 st cs (ExprEnd to st cs) (expr_follows e ns from h.0 st cs s h.1 w)
        (λ v s. change_follows p ns (place_follows p ns) (by_operator ops.Add v) the_new (Line code (Rotate 2 ∷ Binary ops.Add ∷ [])) Nothing (Line code (Rotate 4 ∷ Binary ops.Add ∷ [])) Nothing (v ∷ []) (λ old. []) h.0 to st cs s h.2 w
        (op_alters code k.scene ops.Add v st cs) (nothing_ends code k.scene the_new st cs (λ a b. refl)) (op_item code k.scene ops.Add v st cs) (nothing_ends code k.scene the_new st cs (λ a b. refl)))
        (λ v s. refl)
    expr_follows (Assign l sets.Sub p e) ns from to st cs s h w =
        after_expr code k.scene _ (eval k ns e s) _ h.0 st cs (ExprEnd to st cs) (expr_follows e ns from h.0 st cs s h.1 w)
        (λ v s. change_follows p ns (place_follows p ns) (by_operator ops.Sub v) the_new (Line code (Rotate 2 ∷ Binary ops.Sub ∷ [])) Nothing (Line code (Rotate 4 ∷ Binary ops.Sub ∷ [])) Nothing (v ∷ []) (λ old. []) h.0 to st cs s h.2 w
        (op_alters code k.scene ops.Sub v st cs) (nothing_ends code k.scene the_new st cs (λ a b. refl)) (op_item code k.scene ops.Sub v st cs) (nothing_ends code k.scene the_new st cs (λ a b. refl)))
        (λ v s. refl)
    expr_follows (Assign l sets.Mul p e) ns from to st cs s h w =
        after_expr code k.scene _ (eval k ns e s) _ h.0 st cs (ExprEnd to st cs) (expr_follows e ns from h.0 st cs s h.1 w)
        (λ v s. change_follows p ns (place_follows p ns) (by_operator ops.Mul v) the_new (Line code (Rotate 2 ∷ Binary ops.Mul ∷ [])) Nothing (Line code (Rotate 4 ∷ Binary ops.Mul ∷ [])) Nothing (v ∷ []) (λ old. []) h.0 to st cs s h.2 w
        (op_alters code k.scene ops.Mul v st cs) (nothing_ends code k.scene the_new st cs (λ a b. refl)) (op_item code k.scene ops.Mul v st cs) (nothing_ends code k.scene the_new st cs (λ a b. refl)))
        (λ v s. refl)
    expr_follows (Assign l sets.Div p e) ns from to st cs s h w =
        after_expr code k.scene _ (eval k ns e s) _ h.0 st cs (ExprEnd to st cs) (expr_follows e ns from h.0 st cs s h.1 w)
        (λ v s. change_follows p ns (place_follows p ns) (by_operator ops.Div v) the_new (Line code (Rotate 2 ∷ Binary ops.Div ∷ [])) Nothing (Line code (Rotate 4 ∷ Binary ops.Div ∷ [])) Nothing (v ∷ []) (λ old. []) h.0 to st cs s h.2 w
        (op_alters code k.scene ops.Div v st cs) (nothing_ends code k.scene the_new st cs (λ a b. refl)) (op_item code k.scene ops.Div v st cs) (nothing_ends code k.scene the_new st cs (λ a b. refl)))
        (λ v s. refl)
    expr_follows (Assign l sets.Rem p e) ns from to st cs s h w =
        after_expr code k.scene _ (eval k ns e s) _ h.0 st cs (ExprEnd to st cs) (expr_follows e ns from h.0 st cs s h.1 w)
        (λ v s. change_follows p ns (place_follows p ns) (by_operator ops.Rem v) the_new (Line code (Rotate 2 ∷ Binary ops.Rem ∷ [])) Nothing (Line code (Rotate 4 ∷ Binary ops.Rem ∷ [])) Nothing (v ∷ []) (λ old. []) h.0 to st cs s h.2 w
        (op_alters code k.scene ops.Rem v st cs) (nothing_ends code k.scene the_new st cs (λ a b. refl)) (op_item code k.scene ops.Rem v st cs) (nothing_ends code k.scene the_new st cs (λ a b. refl)))
        (λ v s. refl)
    expr_follows (Assign l sets.And p e) ns from to st cs s h w =
        after_expr code k.scene _ (eval k ns e s) _ h.0 st cs (ExprEnd to st cs) (expr_follows e ns from h.0 st cs s h.1 w)
        (λ v s. change_follows p ns (place_follows p ns) (by_operator ops.And v) the_new (Line code (Rotate 2 ∷ Binary ops.And ∷ [])) Nothing (Line code (Rotate 4 ∷ Binary ops.And ∷ [])) Nothing (v ∷ []) (λ old. []) h.0 to st cs s h.2 w
        (op_alters code k.scene ops.And v st cs) (nothing_ends code k.scene the_new st cs (λ a b. refl)) (op_item code k.scene ops.And v st cs) (nothing_ends code k.scene the_new st cs (λ a b. refl)))
        (λ v s. refl)
    expr_follows (Assign l sets.Or p e) ns from to st cs s h w =
        after_expr code k.scene _ (eval k ns e s) _ h.0 st cs (ExprEnd to st cs) (expr_follows e ns from h.0 st cs s h.1 w)
        (λ v s. change_follows p ns (place_follows p ns) (by_operator ops.Or v) the_new (Line code (Rotate 2 ∷ Binary ops.Or ∷ [])) Nothing (Line code (Rotate 4 ∷ Binary ops.Or ∷ [])) Nothing (v ∷ []) (λ old. []) h.0 to st cs s h.2 w
        (op_alters code k.scene ops.Or v st cs) (nothing_ends code k.scene the_new st cs (λ a b. refl)) (op_item code k.scene ops.Or v st cs) (nothing_ends code k.scene the_new st cs (λ a b. refl)))
        (λ v s. refl)
    expr_follows (Assign l sets.Xor p e) ns from to st cs s h w =
        after_expr code k.scene _ (eval k ns e s) _ h.0 st cs (ExprEnd to st cs) (expr_follows e ns from h.0 st cs s h.1 w)
        (λ v s. change_follows p ns (place_follows p ns) (by_operator ops.Xor v) the_new (Line code (Rotate 2 ∷ Binary ops.Xor ∷ [])) Nothing (Line code (Rotate 4 ∷ Binary ops.Xor ∷ [])) Nothing (v ∷ []) (λ old. []) h.0 to st cs s h.2 w
        (op_alters code k.scene ops.Xor v st cs) (nothing_ends code k.scene the_new st cs (λ a b. refl)) (op_item code k.scene ops.Xor v st cs) (nothing_ends code k.scene the_new st cs (λ a b. refl)))
        (λ v s. refl)
    expr_follows (Assign l sets.Shl p e) ns from to st cs s h w =
        after_expr code k.scene _ (eval k ns e s) _ h.0 st cs (ExprEnd to st cs) (expr_follows e ns from h.0 st cs s h.1 w)
        (λ v s. change_follows p ns (place_follows p ns) (by_operator ops.Shl v) the_new (Line code (Rotate 2 ∷ Binary ops.Shl ∷ [])) Nothing (Line code (Rotate 4 ∷ Binary ops.Shl ∷ [])) Nothing (v ∷ []) (λ old. []) h.0 to st cs s h.2 w
        (op_alters code k.scene ops.Shl v st cs) (nothing_ends code k.scene the_new st cs (λ a b. refl)) (op_item code k.scene ops.Shl v st cs) (nothing_ends code k.scene the_new st cs (λ a b. refl)))
        (λ v s. refl)
    expr_follows (Assign l sets.Shr p e) ns from to st cs s h w =
        after_expr code k.scene _ (eval k ns e s) _ h.0 st cs (ExprEnd to st cs) (expr_follows e ns from h.0 st cs s h.1 w)
        (λ v s. change_follows p ns (place_follows p ns) (by_operator ops.Shr v) the_new (Line code (Rotate 2 ∷ Binary ops.Shr ∷ [])) Nothing (Line code (Rotate 4 ∷ Binary ops.Shr ∷ [])) Nothing (v ∷ []) (λ old. []) h.0 to st cs s h.2 w
        (op_alters code k.scene ops.Shr v st cs) (nothing_ends code k.scene the_new st cs (λ a b. refl)) (op_item code k.scene ops.Shr v st cs) (nothing_ends code k.scene the_new st cs (λ a b. refl)))
        (λ v s. refl)
    expr_follows (Sequence l es) ns from to st cs s h w = first_follows es ns from to st cs s h w

    row_follows : (es : Trees) (ns : Names) (from to : ℕ) (st : List Value) (cs : List Catching) (s : State) → MakesAll k.tree ns es code from to → Within cs (length st) → Follows code k.scene (goes from st cs s) (eval_all k ns es s) (ListEnd (tree_count es) to st cs)
    row_follows NoTree ns from to st cs s h w = (goes from st cs s, there, (ap (λ p. goes p st cs s) (sym h), refl))
    row_follows (OneMore e es) ns from to st cs s h w =
        let n = suc (tree_count es) in
        after_expr code k.scene _ (eval k ns e s) _ h.0 st cs (ListEnd n to st cs) (expr_follows e ns from h.0 st cs s h.1 w)
        (λ x s. follows_then code k.scene _ (eval_all k ns es s) _ (ListEnd (tree_count es) to (x ∷ st) cs) (ListEnd n to st cs) (row_follows es ns h.0 to (x ∷ st) cs s h.2 (within_more cs _ w))
        (λ xs s y p. (y, there, (p.0, (let e = p.1 in omega arith))))
        (λ v s y p. p ∙ stopped_lower v cs x st s w))
        (λ v s. refl)

    pairs_follow : (ps : Pairs) (ns : Names) (from to : ℕ) (st : List Value) (cs : List Catching) (s : State) → MakesPairs k.tree ns ps code from to → Within cs (length st) → Follows code k.scene (goes from st cs s) (eval_pairs k ns ps s) (ListEnd (2 * pair_count ps) to st cs)
    pairs_follow NoPair ns from to st cs s h w = (goes from st cs s, there, (ap (λ p. goes p st cs s) (sym h), refl))
    pairs_follow (OnePair a b ps) ns from to st cs s h w =
        let n = 2 * suc (pair_count ps) in
        let w1 = within_more cs (length st) w in
        after_expr code k.scene _ (eval k ns a s) _ h.0 st cs (ListEnd n to st cs) (expr_follows a ns from h.0 st cs s h.1 w)
        (λ x s. after_expr code k.scene _ (eval k ns b s) _ h.2.0 (x ∷ st) cs (ListEnd n to st cs) (expr_follows b ns h.0 h.2.0 (x ∷ st) cs s h.2.1 w1)
        (λ y s. follows_then code k.scene _ (eval_pairs k ns ps s) _ (ListEnd (2 * pair_count ps) to (y ∷ x ∷ st) cs) (ListEnd n to st cs) (pairs_follow ps ns h.2.0 to (y ∷ x ∷ st) cs s h.2.2 (within_more cs _ w1))
        (λ xs s y p. (y, there, (p.0, (let e = p.1 in omega arith))))
        (λ v s z p. p ∙ sink (y ∷ x ∷ []) v cs st s w))
        (λ v s. stopped_lower v cs x st s w))
        (λ v s. refl)

    first_follows : (es : Trees) (ns : Names) (from to : ℕ) (st : List Value) (cs : List Catching) (s : State) → MakesFirst k.tree ns es code from to → Within cs (length st) → Follows code k.scene (goes from st cs s) (eval_last k ns es zero_value s) (ExprEnd to st cs)
    first_follows NoTree ns from to st cs s h w = absurd h
    first_follows (OneMore e es) ns from to st cs s h w =
        after_expr code k.scene _ (eval k ns e s) _ h.0 st cs (ExprEnd to st cs) (expr_follows e ns from h.0 st cs s h.1 w)
        (λ x s. more_follows es ns h.0 to x st cs s h.2 w)
        (λ v s. refl)

    more_follows : (es : Trees) (ns : Names) (from to : ℕ) (v : Value) (st : List Value) (cs : List Catching) (s : State) → MakesMore k.tree ns es code from to → Within cs (length st) → Follows code k.scene (goes from (v ∷ st) cs s) (eval_last k ns es v s) (ExprEnd to st cs)
    more_follows NoTree ns from to v st cs s h w = (goes from (v ∷ st) cs s, there, ap (λ p. goes p (v ∷ st) cs s) (sym h))
    more_follows (OneMore e es) ns from to v st cs s h w =
        follows_after code k.scene _ (ExprEnd to st cs) (step_to code k.scene Pop from h.0 (v ∷ st) st cs cs s s h.1 refl)
        (after_expr code k.scene _ (eval k ns e s) _ h.2.0 st cs (ExprEnd to st cs) (expr_follows e ns h.0 h.2.0 st cs s h.2.1 w)
        (λ x s. more_follows es ns h.2.0 to x st cs s h.2.2 w)
        (λ v s. refl))

    end_follows : (t : EndTree) (ns : Names) (from to : ℕ) (st : List Value) (cs : List Catching) (s : State) → MakesEnd k.tree ns t code from to → Within cs (length st) → Follows code k.scene (goes from st cs s) (eval_end k ns t s) (BoundEnd t to st cs)
    end_follows Open ns from to st cs s h w = (goes from st cs s, there, (ap (λ p. goes p st cs s) (sym h), refl))
    end_follows (At edge e) ns from to st cs s h w =
        follows_on code k.scene _ (eval k ns e s) (ExprEnd to st cs) (BoundEnd (At edge e) to st cs) (expr_follows e ns from to st cs s h w) (at_bound code k.scene edge e to st cs)

    write_follows : (p : Tree) (ns : Names) (from to : ℕ) (v : Value) (st : List Value) (cs : List Catching) (s : State) → MakesWrite k.tree ns p code from to → Within cs (length st) → Follows code k.scene (goes from (v ∷ st) cs s) (write k ns p v s) (ExprEnd to st cs)
    write_follows (Name l x) ns from to v st cs s h w =
        (goes to (v ∷ st) cs (write_slot k.scene (slot k.tree ns x) v s), writes_comes code k.scene (slot k.tree ns x) from to v st cs s h, refl)
    write_follows (IndexTree l e edge i) ns from to v st cs s h w =
        let w1 = within_more cs (length st) w in
        let n = h.2.0 in
        after_expr code k.scene _ (eval k ns e s) _ h.0 (v ∷ st) cs (ExprEnd to st cs) (expr_follows e ns from h.0 (v ∷ st) cs s h.1 w1)
        (λ a s. after_expr code k.scene _ (eval k ns i s) _ n (a ∷ v ∷ st) cs (ExprEnd to st cs) (expr_follows i ns h.0 n (a ∷ v ∷ st) cs s h.2.1 (within_more cs _ w1))
        (λ b s. follows_after code k.scene (Over (put_item edge a b v s)) (ExprEnd to st cs) (step_on code k.scene (Rotate 3) n (b ∷ a ∷ v ∷ st) (v ∷ b ∷ a ∷ st) cs cs s s h.2.2.0 refl)
        (end_step code k.scene (SetIndex edge) (n + 1) to (v ∷ b ∷ a ∷ st) st cs s (put_item edge a b v s) h.2.2.1 refl))
        (λ x s. sink (a ∷ v ∷ []) x cs st s w))
        (λ x s. sink (v ∷ []) x cs st s w)
    write_follows _ ns from to v st cs s h w = absurd h

    -- the parts of a place
    place_follows : (p : Tree) (ns : Names) → PartsFollow p ns
    place_follows (IndexTree l e edge i) ns = (expr_follows e ns, expr_follows i ns)
    place_follows _ ns = tt

    scanned_follows : (ps : Trees) (ns : Names) (vs : List Value) (from to : ℕ) (st : List Value) (cs : List Catching) (s : State) → MakesScanned k.tree ns ps code from to → Within cs (length st) → Follows code k.scene (goes from (marked (tree_count ps) vs st) cs s) (write_all k ns ps vs s) (SameEnd to st cs)
    scanned_follows NoTree ns vs from to st cs s h w = (goes from st cs s, there, ap (λ p. goes p st cs s) (sym h))
    scanned_follows (OneMore p ps) ns [] from to st cs s h w = (goes to st cs s, skips_comes (OneMore p ps) ns from to st cs s h, refl)
    scanned_follows (OneMore p ps) ns (v ∷ vs) from to st cs s h w =
        let M = marked (tree_count ps) vs st in
        let one = values.Int (pos 1) in
        follows_after code k.scene (write_all k ns (OneMore p ps) (v ∷ vs) s) (SameEnd to st cs)
        (comes_to (one_step code k.scene (JumpIfZero h.0) from (one ∷ v ∷ M) cs s h.1.1.0) (ap (λ b. cond b (goes h.0 (v ∷ M) cs s) (goes (from + 1) (v ∷ M) cs s)) (one_true s) ∙ ap (λ q. goes q (v ∷ M) cs s) (sym h.1.1.1)))
        (after_expr code k.scene _ (write k ns p v s) _ h.0 M cs (SameEnd to st cs) (write_follows p ns h.1.0 h.0 v M cs s h.1.2 (marked_within (tree_count ps) vs st cs w))
        (λ x s. follows_after code k.scene (write_all k ns ps vs s) (SameEnd to st cs) (step_to code k.scene Pop h.0 h.2.0 (x ∷ M) M cs cs s s h.2.1 refl) (scanned_follows ps ns vs h.2.0 to st cs s h.2.2 w))
        (λ z s. marked_sink (tree_count ps) vs st z cs s w))
