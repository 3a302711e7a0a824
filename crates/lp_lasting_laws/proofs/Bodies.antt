-- Bodies of functions keep call-outs.
use Rattle.std.proofs.Common.{ℕ, zero, suc, Bool, true, false, cond, List, [], ◌∷◌, ◌++◌, length, Option, Some, None, ◌+◌}
use Rattle.lp_tree.specs.declared.operator.BinOp.{BinOp}
use Rattle.lp_tree.specs.declared.operator.BinOp.TheVariants as ops
use Rattle.lp_tree.specs.declared.operator.AssignOp.TheVariants as sets
use Rattle.lp_tree.specs.Trees.{Tree, Int, Text, Name, Paren, Array, Mapping, Call, EfunCall, ParentCall, NamedParentCall, Catch, Sscanf, Index, Range, CallOther, PostStep, PreStep, Unary, Cast, Binary, AndThen, OrElse, Cond, Assign, Sequence, Trees, NoTree, OneMore, Pairs, NoPair, OnePair, End as EndTree, Open, At}
use Rattle.lp_tree.specs.Statements.{DeclaratorTree, InitTree, Nothing, DeclaresFirst, RunsFirst, StmtTree, Block, Empty, Run, Declares, If, While, DoWhile, For, Foreach, Switch, Break, Continue, Return, StmtTrees, NoStmt, MoreStmts, ElseTree, NoElse, Else, PartTrees, NoPart, LabelPart, StmtPart}
use Rattle.lp_values.specs.declared.value.Value.{Value}
use Rattle.lp_instr.specs.EfunList.{efun_named}
use Rattle.lp_language.specs.Course.{State, Scene, Stop, Gives, Stops, Asked, after, Course, Over, Asks, and_then, asks, catching, caught, caught_end, zero_value, gives}
use Rattle.lp_language.specs.Resolve.{parent_with, parent_called}
use Rattle.lp_language.specs.Scope.{Names, Slot, OfLocal, OfGlobal, OfNothing, slot, Callee, AFunction, ASimul, AnEfun, Nobody, callee, as_efun, behind, declared_first, declared_each, declared_second, slots_of_each, slots_from, declared_parts, loose}
use Rattle.lp_language.specs.Operations.{is_false, binary, item, put_item, scan, copied, row_at, with_local, with_global, labelled}
use Rattle.lp_language.specs.Eval.{Site, eval, eval_all, eval_last, eval_pairs, eval_end, write, change, write_all, read_slot, write_slot, calls, calls_parent, change_slot, by_operator, by_step, where_true, where_false, the_new, the_old, kind_of_end, tree_count}
use Rattle.lp_language.specs.Exec.{Flow, On, Out, Again, Back, then_next, after_body, goes_on, run, run_if, test_if, value_if, turn, turns, do_turns, write_slots, with_row, is_pair, each_turns, cleared, before, declares, first_of, chosen, exec, exec_all, exec_else, exec_chosen}
use Rattle.lp_language.specs.Resolve.{Function, Variable, own_variables, parents_of, variables_before, version_of}
use Rattle.lp_language.specs.Exec.{body_of, initialise, initialises}
use Rattle.lp_lasting_laws.specs.Lasting.{After, EndsAfter, GoesAfter, BodiesKeep, InitialisersKeep}
use Rattle.lp_lasting_laws.proofs.Prices.{after_same, after_trans, pay_after, unary_after, binary_after_all, item_after, range_after_all, stepped_after, new_array_after, new_mapping_after, put_item_after, copied_after, scan_after, answer_after, local_after, global_after}

pub then_after : {A B : Type 0} (r : State) (t : Course A) (go : A → State → Course B) → GoesAfter r t → ((x : A) (s : State) → After r s → GoesAfter r (go x s)) → GoesAfter r (and_then t go)
then_after r (Over (Gives x s)) go h g = g x s h
then_after r (Over (Stops w s)) go h g = h
then_after r (Asks a k) go h g = (h.0, λ o can. then_after r (k o) go (h.1 o can) g)

cond_after : {A : Type 0} (r : State) (b : Bool) (t u : Course A) → GoesAfter r t → GoesAfter r u → GoesAfter r (cond b t u)
cond_after r true t u p q = p
cond_after r false t u p q = q

asks_after : (r : State) (what : Asked) (xs : List Value) (c : Scene) (s : State) → After r s → GoesAfter r (asks what xs c s)
asks_after r what xs c s h =
    (record { no_more = h.no_more; keeps = h.keeps; commands = h.commands }, λ o can. answer_after r o.answer (after s o) (after_trans r s (after s o) h (record { no_more = can.no_more; keeps = can.keeps; commands = can.commands })))

calls_after : (r : State) (x : Callee) (name : List ℕ) (xs : List Value) (c : Scene) (s : State) → After r s → GoesAfter r (calls x name xs c s)
calls_after r AFunction name xs c s h = asks_after r _ xs c s h
calls_after r ASimul name xs c s h = asks_after r _ _ c s h
calls_after r (AnEfun e) name xs c s h = asks_after r _ xs c s h
calls_after r Nobody name xs c s h = h

parent_after : (r : State) (x : Option ℕ) (name : List ℕ) (xs : List Value) (c : Scene) (s : State) → After r s → GoesAfter r (calls_parent x name xs c s)
parent_after r None name xs c s h = h
parent_after r (Some k) name xs c s h = asks_after r _ xs c s h

caught_after : (r : State) (k : Option Value) (w : Stop) (s : State) → After r s → EndsAfter r (caught_end k w s)
caught_after r (Some v) w s h = h
caught_after r None w s h = h

catching_after : (r : State) (t : Course Value) → GoesAfter r t → GoesAfter r (catching t)
catching_after r (Over (Gives v s)) h = h
catching_after r (Over (Stops w s)) h = caught_after r (caught w.cause) w s h
catching_after r (Asks a k) h = (h.0, λ o can. catching_after r (k o) (h.1 o can))

pub write_slot_after : (r : State) (c : Scene) (x : Slot) (v : Value) (s : State) → After r s → After r (write_slot c x v s)
write_slot_after r c (OfLocal k) v s h = local_after r s k v h
write_slot_after r c (OfGlobal k) v s h = global_after r c s k v h
write_slot_after r c OfNothing v s h = h

module _ (r : State) (k : Site) where
  change_slot_after : (x : Slot) (f : Value → State → Course Value) (pick : Value → Value → Value) (s : State) → ((old : Value) (s : State) → After r s → GoesAfter r (f old s)) → After r s → GoesAfter r (change_slot k.scene x f pick s)
  change_slot_after x f pick s g h = let old = read_slot k.scene x s in then_after r (f old s) _ (g old s h) (λ new s h. write_slot_after r k.scene x new s h)

  mutual
    pub eval_after : (e : Tree) (ns : Names) (s : State) → After r s → GoesAfter r (eval k ns e s)
    eval_after (Int l n) ns s h = h
    eval_after (Text l t) ns s h = h
    eval_after (Name l w) ns s h = h
    eval_after (Paren l e) ns s h = eval_after e ns s h
    eval_after (Array l es) ns s h = then_after r (eval_all k ns es s) _ (all_after es ns s h) (λ xs s h. new_array_after r xs s h)
    eval_after (Mapping l ps) ns s h = then_after r (eval_pairs k ns ps s) _ (pairs_after ps ns s h) (λ xs s h. new_mapping_after r xs s h)
    eval_after (Call l name es) ns s h = then_after r (eval_all k ns es s) _ (all_after es ns s h) (λ xs s h. calls_after r (callee k.tree name) name xs k.scene s h)
    eval_after (EfunCall l name es) ns s h = then_after r (eval_all k ns es s) _ (all_after es ns s h) (λ xs s h. calls_after r (as_efun (efun_named name)) name xs k.scene s h)
    eval_after (ParentCall l name es) ns s h = then_after r (eval_all k ns es s) _ (all_after es ns s h) (λ xs s h. parent_after r (parent_with k.tree name) name xs k.scene s h)
    eval_after (NamedParentCall l p name es) ns s h = then_after r (eval_all k ns es s) _ (all_after es ns s h) (λ xs s h. parent_after r (parent_called k.tree p) name xs k.scene s h)
    eval_after (Catch l e) ns s h = catching_after r (eval k ns e s) (eval_after e ns s h)
    eval_after (Sscanf l e form places) ns s h =
        then_after r (eval k ns e s) _ (eval_after e ns s h) (λ x s h.
        then_after r (eval k ns form s) _ (eval_after form ns s h) (λ y s h.
        then_after r (Over (scan (tree_count places) x y s)) _ (scan_after r (tree_count places) x y s h) (λ vs s h.
        then_after r (write_all k ns places vs s) _ (places_after places ns vs s h) (λ n s h. h))))
    eval_after (Index l e edge i) ns s h =
        then_after r (eval k ns e s) _ (eval_after e ns s h) (λ x s h. then_after r (eval k ns i s) _ (eval_after i ns s h) (λ y s h. item_after r edge x y s h))
    eval_after (Range l e a b) ns s h =
        then_after r (eval k ns e s) _ (eval_after e ns s h) (λ x s h.
        then_after r (eval_end k ns a s) _ (end_after a ns s h) (λ y s h.
        then_after r (eval_end k ns b s) _ (end_after b ns s h) (λ z s h. range_after_all r (kind_of_end a) (kind_of_end b) x y z s h)))
    eval_after (CallOther l e name es) ns s h =
        then_after r (eval k ns e s) _ (eval_after e ns s h) (λ o s h. then_after r (eval_all k ns es s) _ (all_after es ns s h) (λ xs s h. asks_after r _ _ k.scene s h))
    eval_after (PostStep l st p) ns s h = change_after p ns (by_step st) the_old s (λ old s h. stepped_after r st old s h) h
    eval_after (PreStep l st p) ns s h = change_after p ns (by_step st) the_new s (λ old s h. stepped_after r st old s h) h
    eval_after (Unary l op e) ns s h = then_after r (eval k ns e s) _ (eval_after e ns s h) (λ x s h. unary_after r op x s h)
    eval_after (Cast l ty e) ns s h = eval_after e ns s h
    eval_after (Binary l op a b) ns s h =
        then_after r (eval k ns a s) _ (eval_after a ns s h) (λ x s h. then_after r (eval k ns b s) _ (eval_after b ns s h) (λ y s h. binary_after_all r op x y s h))
    eval_after (AndThen l a b) ns s h =
        then_after r (eval k ns a s) _ (eval_after a ns s h) (λ x s h. cond_after r (is_false s x) (gives x s) (eval k ns b s) h (eval_after b ns s h))
    eval_after (OrElse l a b) ns s h =
        then_after r (eval k ns a s) _ (eval_after a ns s h) (λ x s h. cond_after r (is_false s x) (eval k ns b s) (gives x s) (eval_after b ns s h) h)
    eval_after (Cond l a b d) ns s h =
        then_after r (eval k ns a s) _ (eval_after a ns s h) (λ x s h. cond_after r (is_false s x) (eval k ns d s) (eval k ns b s) (eval_after d ns s h) (eval_after b ns s h))
    eval_after (Assign l sets.Set p e) ns s h = then_after r (eval k ns e s) _ (eval_after e ns s h) (λ v s h. write_after p ns v s h)
    eval_after (Assign l sets.AndThen p e) ns s h =
        change_after p ns (where_true (eval k ns e)) the_new s (λ old s h. cond_after r (is_false s old) (gives old s) (eval k ns e s) h (eval_after e ns s h)) h
    eval_after (Assign l sets.OrElse p e) ns s h =
        change_after p ns (where_false (eval k ns e)) the_new s (λ old s h. cond_after r (is_false s old) (eval k ns e s) (gives old s) (eval_after e ns s h) h) h
    eval_after (Assign l sets.Add p e) ns s h = then_after r (eval k ns e s) _ (eval_after e ns s h) (λ v s h. op_after p ns ops.Add v s h)
    eval_after (Assign l sets.Sub p e) ns s h = then_after r (eval k ns e s) _ (eval_after e ns s h) (λ v s h. op_after p ns ops.Sub v s h)
    eval_after (Assign l sets.Mul p e) ns s h = then_after r (eval k ns e s) _ (eval_after e ns s h) (λ v s h. op_after p ns ops.Mul v s h)
    eval_after (Assign l sets.Div p e) ns s h = then_after r (eval k ns e s) _ (eval_after e ns s h) (λ v s h. op_after p ns ops.Div v s h)
    eval_after (Assign l sets.Rem p e) ns s h = then_after r (eval k ns e s) _ (eval_after e ns s h) (λ v s h. op_after p ns ops.Rem v s h)
    eval_after (Assign l sets.And p e) ns s h = then_after r (eval k ns e s) _ (eval_after e ns s h) (λ v s h. op_after p ns ops.And v s h)
    eval_after (Assign l sets.Or p e) ns s h = then_after r (eval k ns e s) _ (eval_after e ns s h) (λ v s h. op_after p ns ops.Or v s h)
    eval_after (Assign l sets.Xor p e) ns s h = then_after r (eval k ns e s) _ (eval_after e ns s h) (λ v s h. op_after p ns ops.Xor v s h)
    eval_after (Assign l sets.Shl p e) ns s h = then_after r (eval k ns e s) _ (eval_after e ns s h) (λ v s h. op_after p ns ops.Shl v s h)
    eval_after (Assign l sets.Shr p e) ns s h = then_after r (eval k ns e s) _ (eval_after e ns s h) (λ v s h. op_after p ns ops.Shr v s h)
    eval_after (Sequence l es) ns s h = last_after es ns zero_value s h

    all_after : (es : Trees) (ns : Names) (s : State) → After r s → GoesAfter r (eval_all k ns es s)
    all_after NoTree ns s h = h
    all_after (OneMore e es) ns s h = then_after r (eval k ns e s) _ (eval_after e ns s h) (λ x s h. then_after r (eval_all k ns es s) _ (all_after es ns s h) (λ xs s h. h))

    last_after : (es : Trees) (ns : Names) (v : Value) (s : State) → After r s → GoesAfter r (eval_last k ns es v s)
    last_after NoTree ns v s h = h
    last_after (OneMore e es) ns v s h = then_after r (eval k ns e s) _ (eval_after e ns s h) (λ x s h. last_after es ns x s h)

    pairs_after : (ps : Pairs) (ns : Names) (s : State) → After r s → GoesAfter r (eval_pairs k ns ps s)
    pairs_after NoPair ns s h = h
    pairs_after (OnePair a b ps) ns s h =
        then_after r (eval k ns a s) _ (eval_after a ns s h) (λ x s h.
        then_after r (eval k ns b s) _ (eval_after b ns s h) (λ y s h.
        then_after r (eval_pairs k ns ps s) _ (pairs_after ps ns s h) (λ xs s h. h)))

    end_after : (e : EndTree) (ns : Names) (s : State) → After r s → GoesAfter r (eval_end k ns e s)
    end_after Open ns s h = h
    end_after (At edge e) ns s h = eval_after e ns s h

    write_after : (p : Tree) (ns : Names) (v : Value) (s : State) → After r s → GoesAfter r (write k ns p v s)
    write_after (Name l w) ns v s h = write_slot_after r k.scene (slot k.tree ns w) v s h
    write_after (Index l e edge i) ns v s h =
        then_after r (eval k ns e s) _ (eval_after e ns s h) (λ x s h. then_after r (eval k ns i s) _ (eval_after i ns s h) (λ y s h. put_item_after r edge x y v s h))
    write_after _ ns v s h = h

    change_after : (p : Tree) (ns : Names) (f : Value → State → Course Value) (pick : Value → Value → Value) (s : State) → ((old : Value) (s : State) → After r s → GoesAfter r (f old s)) → After r s → GoesAfter r (change k ns p f pick s)
    change_after (Name l w) ns f pick s g h = change_slot_after (slot k.tree ns w) f pick s g h
    change_after (Index l e edge i) ns f pick s g h =
        then_after r (eval k ns e s) _ (eval_after e ns s h) (λ x s h.
        then_after r (eval k ns i s) _ (eval_after i ns s h) (λ y s h.
        then_after r (Over (item edge x y s)) _ (item_after r edge x y s h) (λ old s h.
        then_after r (f old s) _ (g old s h) (λ new s h.
        then_after r (Over (put_item edge x y new s)) _ (put_item_after r edge x y new s h) (λ v s h. h)))))
    change_after _ ns f pick s g h = h

    op_after : (p : Tree) (ns : Names) (op : BinOp) (v : Value) (s : State) → After r s → GoesAfter r (change k ns p (by_operator op v) the_new s)
    op_after (Name l w) ns op v s h = change_slot_after (slot k.tree ns w) (by_operator op v) the_new s (λ old s h. binary_after_all r op old v s h) h
    op_after (Index l e edge i) ns op v s h =
        then_after r (eval k ns e s) _ (eval_after e ns s h) (λ x s h.
        then_after r (eval k ns i s) _ (eval_after i ns s h) (λ y s h.
        then_after r (Over (item edge x y s)) _ (item_after r edge x y s h) (λ old s h.
        then_after r (Over (binary op old v s)) _ (binary_after_all r op old v s h) (λ new s h.
        then_after r (Over (put_item edge x y new s)) _ (put_item_after r edge x y new s h) (λ v s h. h)))))
    op_after _ ns op v s h = h

    places_after : (ps : Trees) (ns : Names) (vs : List Value) (s : State) → After r s → GoesAfter r (write_all k ns ps vs s)
    places_after NoTree ns vs s h = h
    places_after (OneMore p ps) ns [] s h = h
    places_after (OneMore p ps) ns (v ∷ vs) s h = then_after r (write k ns p v s) _ (write_after p ns v s h) (λ x s h. places_after ps ns vs s h)

  flow_after : (f : Flow) (s : State) (next : State → Course Flow) → After r s → ((s : State) → After r s → GoesAfter r (next s)) → GoesAfter r (after_body f s next)
  flow_after On s next h g = g s h
  flow_after Again s next h g = g s h
  flow_after Out s next h g = h
  flow_after (Back v) s next h g = h

  next_after : (f : Flow) (s : State) (next : State → Course Flow) → After r s → ((s : State) → After r s → GoesAfter r (next s)) → GoesAfter r (then_next f s next)
  next_after On s next h g = g s h
  next_after Again s next h g = h
  next_after Out s next h g = h
  next_after (Back v) s next h g = h

  turn_after : (s : State) → After r s → GoesAfter r (turn s)
  turn_after s h = pay_after r 1 s (Gives On) h (λ t l. l)

  turns_after : (n : ℕ) (test : State → Course Value) (body step : State → Course Flow) → ((s : State) → After r s → GoesAfter r (test s)) → ((s : State) → After r s → GoesAfter r (body s)) → ((s : State) → After r s → GoesAfter r (step s)) → (s : State) → After r s → GoesAfter r (turns n test body step s)
  turns_after zero test body step T B S s h = h
  turns_after (suc n) test body step T B S s h =
      then_after r (test s) _ (T s h) (λ v s h. cond_after r (is_false s v) (gives On s) _ h
      (then_after r (turn s) _ (turn_after s h) (λ f s h.
      then_after r (body s) _ (B s h) (λ f s h. flow_after f s _ h (λ s h.
      then_after r (step s) _ (S s h) (λ f s h. turns_after n test body step T B S s h))))))

  do_after : (n : ℕ) (test : State → Course Value) (body : State → Course Flow) → ((s : State) → After r s → GoesAfter r (test s)) → ((s : State) → After r s → GoesAfter r (body s)) → (s : State) → After r s → GoesAfter r (do_turns n test body s)
  do_after zero test body T B s h = h
  do_after (suc n) test body T B s h =
      then_after r (turn s) _ (turn_after s h) (λ f s h.
      then_after r (body s) _ (B s h) (λ f s h. flow_after f s _ h (λ s h.
      then_after r (test s) _ (T s h) (λ v s h. cond_after r (is_false s v) (gives On s) (do_turns n test body s) h (do_after n test body T B s h)))))

  row_after : (o : Option (List Value)) (t : Course Flow) (go : List Value → Course Flow) → GoesAfter r t → ((v : List Value) → GoesAfter r (go v)) → GoesAfter r (with_row o t go)
  row_after None t go h g = h
  row_after (Some v) t go h g = g v

  pub write_slots_after : (xs : List Slot) (vs : List Value) (s : State) → After r s → After r (write_slots k.scene xs vs s)
  write_slots_after [] vs s h = h
  write_slots_after (x ∷ xs) [] s h = h
  write_slots_after (x ∷ xs) (v ∷ vs) s h = write_slots_after xs vs (write_slot k.scene x v s) (write_slot_after r k.scene x v s h)

  each_after : (n : ℕ) (xs : List Slot) (copy : Value) (i : ℕ) (body : State → Course Flow) → ((s : State) → After r s → GoesAfter r (body s)) → (s : State) → After r s → GoesAfter r (each_turns n k.scene xs copy i body s)
  each_after zero xs copy i body B s h = h
  each_after (suc n) xs copy i body B s h =
      row_after (row_at (is_pair xs) copy i s) (gives On s) _ h (λ row.
      then_after r (turn s) _ (turn_after s h) (λ f s h.
      then_after r (body (write_slots k.scene xs row s)) _ (B (write_slots k.scene xs row s) (write_slots_after xs row s h)) (λ f s h. flow_after f s _ h (each_after n xs copy (i + 1) body B))))

  pub cleared_after : (ks : List ℕ) (s : State) → After r s → After r (cleared ks s)
  cleared_after [] s h = h
  cleared_after (i ∷ ks) s h = cleared_after ks (with_local s i zero_value) (local_after r s i zero_value h)

  pub run_after : (e : Tree) (ns : Names) (s : State) → After r s → GoesAfter r (run k ns e s)
  run_after e ns s h = then_after r (eval k ns e s) _ (eval_after e ns s h) (λ v s h. h)

  pub run_if_after : (e : Option Tree) (ns : Names) (s : State) → After r s → GoesAfter r (run_if k ns e s)
  run_if_after None ns s h = h
  run_if_after (Some e) ns s h = run_after e ns s h

  pub test_if_after : (e : Option Tree) (ns : Names) (s : State) → After r s → GoesAfter r (test_if k ns e s)
  test_if_after None ns s h = h
  test_if_after (Some e) ns s h = eval_after e ns s h

  pub value_if_after : (e : Option Tree) (ns : Names) (s : State) → After r s → GoesAfter r (value_if k ns e s)
  value_if_after None ns s h = h
  value_if_after (Some e) ns s h = eval_after e ns s h

  pub ones_after : (ds : List DeclaratorTree) (ns : Names) (s : State) → After r s → GoesAfter r (declares k ns ds s)
  ones_after [] ns s h = h
  ones_after (d ∷ ds) ns s h =
      then_after r (value_if k ns d.value s) _ (value_if_after d.value ns s h) (λ v s h. ones_after ds (ns ++ d.name ∷ []) (with_local s (length ns) v) (local_after r s (length ns) v h))

  first_after : (i : InitTree) (ns : Names) (s : State) → After r s → GoesAfter r (first_of k ns i s)
  first_after Nothing ns s h = h
  first_after (DeclaresFirst d) ns s h = ones_after d.ones ns s h
  first_after (RunsFirst e) ns s h = run_after e ns s h

  mutual
    pub exec_after : (a : StmtTree) (ns : Names) (s : State) → After r s → GoesAfter r (exec k ns a s)
    exec_after (Block l ss) ns s h = exec_all_after ss ns s h
    exec_after (Empty l) ns s h = h
    exec_after (Run l e) ns s h = run_after e ns s h
    exec_after (Declares l d) ns s h = ones_after d.ones ns s h
    exec_after (If l e y x) ns s h =
        then_after r (eval k ns e s) _ (eval_after e ns s h) (λ v s h. cond_after r (is_false s v) (exec_else k (behind ns y) x s) (exec k ns y s) (exec_else_after x (behind ns y) s h) (exec_after y ns s h))
    exec_after (While l e b) ns s h = turns_after (suc s.budget) (eval k ns e) (exec k ns b) goes_on (eval_after e ns) (exec_after b ns) (λ s h. h) s h
    exec_after (DoWhile l b e) ns s h = do_after (suc s.budget) (eval k (behind ns b) e) (exec k ns b) (eval_after e (behind ns b)) (exec_after b ns) s h
    exec_after (For l i t st b) ns s h =
        let ms = ns ++ declared_first i in
        then_after r (first_of k ns i s) _ (first_after i ns s h) (λ f s h. turns_after (suc s.budget) (test_if k ms t) (exec k ms b) (run_if k ms st) (test_if_after t ms) (exec_after b ms) (run_if_after st ms) s h)
    exec_after (Foreach l f g e b) ns s h =
        let ms = ns ++ declared_each f ++ declared_second g in
        then_after r (eval k ns e s) _ (eval_after e ns s h) (λ v s h. then_after r (Over (copied v s)) _ (copied_after r v s h) (λ c s h. each_after (suc s.budget) (slots_of_each k.tree ns f g) c 0 (exec k ms b) (exec_after b ms) s h))
    exec_after (Switch l e ps) ns s h =
        then_after r (eval k ns e s) _ (eval_after e ns s h) (λ v s h.
        let t = cleared (slots_from (length ns) (declared_parts ps)) s in
        then_after r (exec_chosen k ns ps (chosen ps (labelled t v)) t) _ (exec_chosen_after ps ns (chosen ps (labelled t v)) t (cleared_after (slots_from (length ns) (declared_parts ps)) s h)) (λ f s h. h))
    exec_after (Break l) ns s h = h
    exec_after (Continue l) ns s h = h
    exec_after (Return l e) ns s h = then_after r (value_if k ns e s) _ (value_if_after e ns s h) (λ v s h. h)

    exec_all_after : (ss : StmtTrees) (ns : Names) (s : State) → After r s → GoesAfter r (exec_all k ns ss s)
    exec_all_after NoStmt ns s h = h
    exec_all_after (MoreStmts st ss) ns s h =
        let t = before ns st s in
        then_after r (exec k ns st t) _ (exec_after st ns t (cleared_after (loose st (length ns)) s h)) (λ f s h. next_after f s _ h (λ s h. exec_all_after ss (behind ns st) s h))

    exec_else_after : (x : ElseTree) (ns : Names) (s : State) → After r s → GoesAfter r (exec_else k ns x s)
    exec_else_after NoElse ns s h = h
    exec_else_after (Else st) ns s h = exec_after st ns s h

    exec_chosen_after : (ps : PartTrees) (ns : Names) (o : Option ℕ) (s : State) → After r s → GoesAfter r (exec_chosen k ns ps o s)
    exec_chosen_after NoPart ns o s h = h
    exec_chosen_after (LabelPart l ps) ns None s h = h
    exec_chosen_after (LabelPart l ps) ns (Some zero) s h = exec_chosen_after ps ns (Some zero) s h
    exec_chosen_after (LabelPart l ps) ns (Some (suc n)) s h = exec_chosen_after ps ns (Some n) s h
    exec_chosen_after (StmtPart st ps) ns None s h = h
    exec_chosen_after (StmtPart st ps) ns (Some zero) s h =
        let t = before ns st s in
        then_after r (exec k ns st t) _ (exec_after st ns t (cleared_after (loose st (length ns)) s h)) (λ f s h. next_after f s _ h (λ s h. exec_chosen_after ps (behind ns st) (Some zero) s h))
    exec_chosen_after (StmtPart st ps) ns (Some (suc n)) s h = exec_chosen_after ps (behind ns st) (Some n) s h

  body_after : (f : Function) (s : State) → After r s → GoesAfter r (body_of k f s)
  body_after f s h = then_after r (exec_all k f.parameters f.body s) _ (exec_all_after f.body f.parameters s h) (λ x s h. h)

  one_after : (o : Option Tree) (i : ℕ) (s : State) (next : State → Course Value) → After r s → ((s : State) → After r s → GoesAfter r (next s)) → GoesAfter r (initialise k i o s next)
  one_after None i s next h g = g s h
  one_after (Some e) i s next h g = then_after r (eval k [] e s) _ (eval_after e [] s h) (λ v s h. g (with_global k.scene s i v) (global_after r k.scene s i v h))

  init_after : (vs : List Variable) (i : ℕ) (s : State) → After r s → GoesAfter r (initialises k i vs s)
  init_after [] i s h = h
  init_after (v ∷ vs) i s h = one_after v.declared.value i s (initialises k (suc i) vs) h (λ s h. init_after vs (suc i) s h)

pub bodies_keep : BodiesKeep
bodies_keep k f s = body_after s k f s (after_same s)

pub initialisers_keep : InitialisersKeep
initialisers_keep k s = init_after s k (own_variables (version_of k.tree).items) (variables_before (parents_of k.tree)) s (after_same s)
