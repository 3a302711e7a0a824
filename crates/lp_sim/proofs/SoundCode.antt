-- Sound code never fails.
use Rattle.std.proofs.Common.{◌≡◌, ℕ, zero, suc, ◌+◌, ◌-◌, ◌*◌, ◌≤◌, Bool, true, false, cond, List, [], ◌∷◌, length, Option, Some, None, pos, refl, sym, ap, ◌∙◌, subst, arith}
use Rattle.std.specs.Prelude.{slice_get, nat_eq, IsSome}
use Rattle.std.proofs.lemmas.List.{length-drop}
use Rattle.lp_values.specs.declared.value.Value.{Value}
use Rattle.lp_values.specs.declared.value.Value.TheVariants as values
use Rattle.lp_instr.specs.declared.instr.Instr.{Instr}
use Rattle.lp_instr.specs.declared.instr.Instr.TheVariants.{PushInt, PushText, PushLocal, SetLocal, PushGlobal, SetGlobal, Pop, Dup, Dup2, Unary, Binary, Step, Rotate, Index, SetIndex, Range, MakeArray, MakeMap, Jump, JumpIfZero, JumpIfNotZero, KeepIfZero, KeepIfNotZero, LoopTurn, CallSlot, CallFixed, CallOther, CallEfun, CallSimul, Scan, CatchBegin, CatchEnd, Switch, EachBegin, EachNext, Return, ReturnZero}
use Rattle.lp_instr.specs.declared.instr.EndKind.{EndKind}
use Rattle.lp_instr.specs.declared.instr.EndKind.TheVariants as kinds
use Rattle.lp_instr.specs.declared.instr.Case.{Case}
use Rattle.lp_language.specs.Course.{State, Scene, Stop, End, Gives, Stops, end_of_outcome, caught, pay, zero_value}
use Rattle.lp_language.specs.Operations.{is_false, unary, binary, item, range, stepped, new_array, new_mapping, put_item, scan, copied, row_at, local_of, with_local, global_of, with_global, labelled}
use Rattle.lp_instr.specs.Code.{Code, Catching, Table, parent_row, case_place}
use Rattle.lp_isa.specs.Machine.{Next, lowest, stop_at, goes, push_end, end_then, take_arguments, on_one, on_two, on_three, on_end, bring, rotate, on_some, end_catch, marked, on_top, row_next, place_in, case_fits, table_place, act, act_at}
use Rattle.lp_instr.specs.Sound.{Shape, Shapes, shape, Bounds, By, IsNamed, IsAbove, CatchLeads, LeadsTo, Flows, end_count, CasesLead, TableLeads, Closes, IsFine}
use Rattle.lp_isa.specs.SoundCode.{NextMatches, SoundCodeNeverFails}
use Rattle.lp_sim.proofs.Stmts.{RowFits, row_fits}

marked_length : (n : ℕ) (vs st : List Value) → length (marked n vs st) ≡ 2 * n + length st
marked_length zero vs st = omega arith
marked_length (suc n) [] st = let e = marked_length n [] st in omega arith
marked_length (suc n) (v ∷ vs) st = let e = marked_length n vs st in omega arith

top_length : (row st : List Value) → length (on_top row st) ≡ length row + length st
top_length [] st = omega arith
top_length (v ∷ row) st = let e = top_length row st in omega arith

two_or_one : (n : ℕ) → 1 ≤ n → n ≤ 2 → cond (nat_eq n 2) 2 1 ≡ n
two_or_one zero a b = absurd (omega arith)
two_or_one (suc zero) a b = refl
two_or_one (suc (suc zero)) a b = refl
two_or_one (suc (suc (suc n))) a b = absurd (omega arith)

module _ (shapes : Shapes) where
  goes_match : (to n : ℕ) (st : List Value) (cs : List Catching) (s : State) → shapes to ≡ Some (shape n cs) → length st ≡ n → NextMatches shapes (goes to st cs s)
  goes_match to n st cs s r e = record { shape = shape n cs; reached = r; height = e; catches = refl }

  stop_match : (o : Option Value) (w : Stop) (cs : List Catching) (st : List Value) (s : State) → CatchLeads (By shapes) cs → IsAbove cs (length st) → NextMatches shapes (stop_at o w cs st s)
  stop_match None w cs st s h a = tt
  stop_match (Some v) w [] st s h a = tt
  stop_match (Some v) w (c ∷ cs) st s h a =
      let e = length-drop (length st - c.height) st in
      goes_match c.place (c.height + 1) (v ∷ lowest c.height st) cs s h (omega arith)

  cond_match : (b : Bool) (x y : Next) → NextMatches shapes x → NextMatches shapes y → NextMatches shapes (cond b x y)
  cond_match true x y p q = p
  cond_match false x y p q = q

  one_match : (k : ℕ) (st : List Value) (go : Value → List Value → Next) → length st ≡ suc k → ((x : Value) (rest : List Value) → length rest ≡ k → NextMatches shapes (go x rest)) → NextMatches shapes (on_one st go)
  one_match k [] go e g = absurd (omega arith)
  one_match k (x ∷ rest) go e g = g x rest (omega arith)

  two_match : (k : ℕ) (st : List Value) (go : Value → Value → List Value → Next) → length st ≡ suc (suc k) → ((x y : Value) (rest : List Value) → length rest ≡ k → NextMatches shapes (go x y rest)) → NextMatches shapes (on_two st go)
  two_match k st go e g = one_match (suc k) st _ e (λ y rest e. one_match k rest _ e (λ x rest e. g x y rest e))

  three_match : (k : ℕ) (st : List Value) (go : Value → Value → Value → List Value → Next) → length st ≡ suc (suc (suc k)) → ((x y z : Value) (rest : List Value) → length rest ≡ k → NextMatches shapes (go x y z rest)) → NextMatches shapes (on_three st go)
  three_match k st go e g = one_match (suc (suc k)) st _ e (λ z rest e. two_match k rest _ e (λ x y rest e. g x y z rest e))

  take_match : (n k : ℕ) (taken st : List Value) (go : List Value → List Value → Next) → length st ≡ n + k → ((xs rest : List Value) → length rest ≡ k → NextMatches shapes (go xs rest)) → NextMatches shapes (take_arguments n taken st go)
  take_match zero k taken st go e g = g taken st (omega arith)
  take_match (suc n) k taken [] go e g = absurd (omega arith)
  take_match (suc n) k taken (x ∷ st) go e g = take_match n k (x ∷ taken) st go (omega arith) g

  bring_match : (n k : ℕ) (st : List Value) (go : Value → List Value → Next) → length st ≡ suc k → n ≤ k → ((x : Value) (rest : List Value) → length rest ≡ k → NextMatches shapes (go x rest)) → NextMatches shapes (bring n st go)
  bring_match n k [] go e l g = absurd (omega arith)
  bring_match zero k (x ∷ st) go e l g = g x st (omega arith)
  bring_match (suc n) k (y ∷ st) go e l g = bring_match n (k - 1) st (λ x others. go x (y ∷ others)) (omega arith) (omega arith) (λ x others q. g x (y ∷ others) (omega arith))

  rotate_match : (n k : ℕ) (st : List Value) (go : Value → List Value → Next) → length st ≡ suc k → 1 ≤ n → n ≤ suc k → ((x : Value) (rest : List Value) → length rest ≡ k → NextMatches shapes (go x rest)) → NextMatches shapes (rotate n st go)
  rotate_match zero k st go e a l g = absurd (omega arith)
  rotate_match (suc n) k st go e a l g = bring_match n k st go e (omega arith) g

  end_match : (x : EndKind) (k : ℕ) (st : List Value) (go : Value → List Value → Next) → length st ≡ end_count x + k → ((v : Value) (rest : List Value) → length rest ≡ k → NextMatches shapes (go v rest)) → NextMatches shapes (on_end x st go)
  end_match kinds.Start k st go e g = one_match k st go (omega arith) g
  end_match kinds.Back k st go e g = one_match k st go (omega arith) g
  end_match kinds.Open k st go e g = g zero_value st (omega arith)

  some_match : {A : Type 0} (o : Option A) (go : A → Next) → IsSome o → ((x : A) → NextMatches shapes (go x)) → NextMatches shapes (on_some o go)
  some_match None go h g = absurd cc
  some_match (Some x) go h g = g x

  then_match : {A : Type 0} (e : End A) (cs : List Catching) (st : List Value) (go : A → State → Next) → CatchLeads (By shapes) cs → IsAbove cs (length st) → ((x : A) (s : State) → NextMatches shapes (go x s)) → NextMatches shapes (end_then e cs st go)
  then_match (Gives x s) cs st go h a g = g x s
  then_match (Stops w s) cs st go h a g = stop_match (caught w.cause) w cs st s h a

  row_match : (o : Option (List Value)) (n : ℕ) (none : Next) (some : List Value → Next) → RowFits o n → NextMatches shapes none → ((row : List Value) → length row ≡ n → NextMatches shapes (some row)) → NextMatches shapes (row_next o none some)
  row_match None n none some r p q = p
  row_match (Some row) n none some r p q = q row r

  cond_place : (b : Bool) (x y : ℕ) (o : Option Shape) → shapes x ≡ o → shapes y ≡ o → shapes (cond b x y) ≡ o
  cond_place true x y o p q = p
  cond_place false x y o p q = q

  module _ (code : Code) (c : Scene) (p : ℕ) (sh : Shape) (w : CatchLeads (By shapes) sh.catches) where
    -- on to the next instruction
    on_match : (n k : ℕ) → Flows code (By shapes) n k p sh → (st : List Value) (s : State) → length st ≡ sh.height - n + k → NextMatches shapes (goes (p + 1) st sh.catches s)
    on_match n k f st s e = goes_match (p + 1) (sh.height - n + k) st sh.catches s f.leads.reached e

    -- to another one
    to_match : (to n : ℕ) → LeadsTo code (By shapes) p to (shape n sh.catches) → (st : List Value) (s : State) → length st ≡ n → NextMatches shapes (goes to st sh.catches s)
    to_match to n l st s e = goes_match to n st sh.catches s l.reached e

    above_match : (n k : ℕ) → Flows code (By shapes) n k p sh → (rest : List Value) → length rest ≡ sh.height - n → IsAbove sh.catches (length rest)
    above_match n k f rest e = subst (λ m. IsAbove sh.catches m) (sym e) f.takes.above

    -- with what an operator gives
    push_match : (n : ℕ) → Flows code (By shapes) n 1 p sh → (rest : List Value) (e : End Value) → length rest ≡ sh.height - n → NextMatches shapes (push_end e (p + 1) sh.catches rest)
    push_match n f rest (Gives v s) e = on_match n 1 f (v ∷ rest) s (omega arith)
    push_match n f rest (Stops x s) e = stop_match (caught x.cause) x sh.catches rest s w (above_match n 1 f rest e)

    table_match : (v : Value) (n other : ℕ) (ks : List Case) → CasesLead code (By shapes) p (shape n sh.catches) ks → LeadsTo code (By shapes) p other (shape n sh.catches) → shapes (table_place code v ks other) ≡ Some (shape n sh.catches)
    table_match v n other [] h l = l.reached
    table_match v n other (k ∷ ks) h l = cond_place (case_fits code k v) (case_place k) (table_place code v ks other) (Some (shape n sh.catches)) h.0.reached (table_match v n other ks h.1 l)

    switch_match : (o : Option Table) (v : Value) (n : ℕ) (st : List Value) (s : State) → TableLeads code (By shapes) p (shape n sh.catches) o → length st ≡ n → NextMatches shapes (on_some o (λ table. goes (table_place code v table.cases table.other) st sh.catches s))
    switch_match None v n st s h e = absurd h
    switch_match (Some t) v n st s h e = goes_match (table_place code v t.cases t.other) n st sh.catches s (table_match v n t.other t.cases h.0 h.1) e

    close_match : (cs : List Catching) (st : List Value) (s : State) → Closes code (By shapes) p sh cs → length st ≡ sh.height → NextMatches shapes (end_catch cs (λ rest. goes (p + 1) st rest s))
    close_match [] st s h e = absurd h
    close_match (k ∷ cs) st s h e = goes_match (p + 1) sh.height st cs s h.reached e

    act_match : (b : Bounds) (i : Instr) (st : List Value) (s : State) → IsNamed code b i → IsFine code (By shapes) i p sh → length st ≡ sh.height → NextMatches shapes (act code c i p st sh.catches s)
    act_match b (PushInt z) st s nm h e = on_match 0 1 h _ s (omega arith)
    act_match b (PushText k) st s nm h e = some_match (slice_get code.texts k) _ nm (λ t. on_match 0 1 h (values.Str t ∷ st) s (omega arith))
    act_match b (PushLocal k) st s nm h e = on_match 0 1 h (local_of s k ∷ st) s (omega arith)
    act_match b (SetLocal k) st s nm h e =
        let f = h.takes.enough in one_match (sh.height - 1) st _ (omega arith) (λ v rest q. on_match 1 1 h (v ∷ rest) (with_local s k v) (omega arith))
    act_match b (PushGlobal k) st s nm h e = on_match 0 1 h (global_of c s k ∷ st) s (omega arith)
    act_match b (SetGlobal k) st s nm h e =
        let f = h.takes.enough in one_match (sh.height - 1) st _ (omega arith) (λ v rest q. on_match 1 1 h (v ∷ rest) (with_global c s k v) (omega arith))
    act_match b Pop st s nm h e = let f = h.takes.enough in one_match (sh.height - 1) st _ (omega arith) (λ v rest q. on_match 1 0 h rest s (omega arith))
    act_match b Dup st s nm h e = let f = h.takes.enough in one_match (sh.height - 1) st _ (omega arith) (λ v rest q. on_match 1 2 h (v ∷ v ∷ rest) s (omega arith))
    act_match b Dup2 st s nm h e =
        let f = h.takes.enough in two_match (sh.height - 2) st _ (omega arith) (λ x y rest q. on_match 2 4 h (y ∷ x ∷ y ∷ x ∷ rest) s (omega arith))
    act_match b (Unary op) st s nm h e = let f = h.takes.enough in one_match (sh.height - 1) st _ (omega arith) (λ x rest q. push_match 1 h rest (unary op x s) q)
    act_match b (Binary op) st s nm h e = let f = h.takes.enough in two_match (sh.height - 2) st _ (omega arith) (λ x y rest q. push_match 2 h rest (binary op x y s) q)
    act_match b (Step op) st s nm h e = let f = h.takes.enough in one_match (sh.height - 1) st _ (omega arith) (λ x rest q. push_match 1 h rest (stepped op x s) q)
    act_match b (Rotate n) st s nm h e =
        let f = h.takes.enough in
        let a = nm in
        rotate_match n (sh.height - 1) st _ (omega arith) nm (omega arith) (λ x rest q. on_match n n h (x ∷ rest) s (omega arith))
    act_match b (Index d) st s nm h e = let f = h.takes.enough in two_match (sh.height - 2) st _ (omega arith) (λ x i rest q. push_match 2 h rest (item d x i s) q)
    act_match b (SetIndex d) st s nm h e =
        let f = h.takes.enough in three_match (sh.height - 3) st _ (omega arith) (λ x i v rest q. push_match 3 h rest (put_item d x i v s) q)
    act_match b (Range x y) st s nm h e =
        let f = h.takes.enough in
        let m = sh.height - (1 + end_count x + end_count y) in
        end_match y (end_count x + suc m) st _ (omega arith) (λ z rest q.
        end_match x (suc m) rest _ q (λ u rest q.
        one_match m rest _ q (λ v rest q. push_match (1 + end_count x + end_count y) h rest (range x y v u z s) q)))
    act_match b (MakeArray n) st s nm h e = let f = h.takes.enough in take_match n (sh.height - n) [] st _ (omega arith) (λ xs rest q. push_match n h rest (new_array xs s) q)
    act_match b (MakeMap n) st s nm h e =
        let f = h.takes.enough in take_match (2 * n) (sh.height - 2 * n) [] st _ (omega arith) (λ xs rest q. push_match (2 * n) h rest (new_mapping xs s) q)
    act_match b (Jump to) st s nm h e = to_match to sh.height h st s e
    act_match b (JumpIfZero to) st s nm h e =
        let f = h.0.takes.enough in
        one_match (sh.height - 1) st _ (omega arith) (λ v rest q. cond_match (is_false s v) _ _ (to_match to (sh.height - 1) h.1 rest s q) (on_match 1 0 h.0 rest s (omega arith)))
    act_match b (JumpIfNotZero to) st s nm h e =
        let f = h.0.takes.enough in
        one_match (sh.height - 1) st _ (omega arith) (λ v rest q. cond_match (is_false s v) _ _ (on_match 1 0 h.0 rest s (omega arith)) (to_match to (sh.height - 1) h.1 rest s q))
    act_match b (KeepIfZero to) st s nm h e =
        let f = h.0.takes.enough in
        one_match (sh.height - 1) st _ (omega arith) (λ v rest q. cond_match (is_false s v) _ _ (to_match to sh.height h.1 (v ∷ rest) s (omega arith)) (on_match 1 0 h.0 rest s (omega arith)))
    act_match b (KeepIfNotZero to) st s nm h e =
        let f = h.0.takes.enough in
        one_match (sh.height - 1) st _ (omega arith) (λ v rest q. cond_match (is_false s v) _ _ (on_match 1 0 h.0 rest s (omega arith)) (to_match to sh.height h.1 (v ∷ rest) s (omega arith)))
    act_match b LoopTurn st s nm h e =
        then_match (pay 1 s (Gives zero_value)) sh.catches st _ w (above_match 0 0 h st (omega arith)) (λ x s. on_match 0 0 h st s (omega arith))
    act_match b (CallSlot k n) st s nm h e =
        let f = h.takes.enough in
        take_match n (sh.height - n) [] st _ (omega arith) (λ xs rest q. some_match (slice_get code.rows k) _ nm (λ name o. push_match n h rest (end_of_outcome s o) q))
    act_match b (CallFixed parent j n) st s nm h e =
        let f = h.takes.enough in
        take_match n (sh.height - n) [] st _ (omega arith) (λ xs rest q. some_match (parent_row code parent j) _ nm (λ name o. push_match n h rest (end_of_outcome s o) q))
    act_match b (CallOther n) st s nm h e =
        let f = h.takes.enough in
        take_match n (suc (suc (sh.height - (n + 2)))) [] st _ (omega arith) (λ xs rest q. two_match (sh.height - (n + 2)) rest _ q (λ x y rest q o. push_match (n + 2) h rest (end_of_outcome s o) q))
    act_match b (CallEfun f n) st s nm h e =
        let a = h.takes.enough in
        take_match n (sh.height - n) [] st _ (omega arith) (λ xs rest q o. push_match n h rest (end_of_outcome s o) q)
    act_match b (CallSimul k n) st s nm h e =
        let f = h.takes.enough in
        take_match n (sh.height - n) [] st _ (omega arith) (λ xs rest q. some_match (slice_get code.texts k) _ nm (λ name o. push_match n h rest (end_of_outcome s o) q))
    act_match b (Scan n) st s nm h e =
        let f = h.takes.enough in
        two_match (sh.height - 2) st _ (omega arith) (λ x form rest q. then_match (scan n x form s) sh.catches rest _ w (above_match 2 (2 * n + 1) h rest q)
        (λ vs s. on_match 2 (2 * n + 1) h (marked n vs (values.Int (pos (length vs)) ∷ rest)) s (let l = marked_length n vs (values.Int (pos (length vs)) ∷ rest) in omega arith)))
    act_match b (CatchBegin to) st s nm h e =
        goes_match (p + 1) sh.height st (record { place = to; height = length st } ∷ sh.catches) s (h.0.reached ∙ ap (λ n. Some (shape sh.height (record { place = to; height = n } ∷ sh.catches))) (sym e)) e
    act_match b CatchEnd st s nm h e = close_match sh.catches st s h e
    act_match b (Switch k) st s nm h e =
        let f = h.0.enough in
        one_match (sh.height - 1) st _ (omega arith) (λ v rest q. switch_match (slice_get code.switches k) (labelled s v) (sh.height - 1) rest s h.1 q)
    act_match b (EachBegin n) st s nm h e =
        let f = h.takes.enough in
        one_match (sh.height - 1) st _ (omega arith) (λ v rest q. then_match (copied v s) sh.catches rest _ w (above_match 1 2 h rest q) (λ copy s. on_match 1 2 h (zero_value ∷ copy ∷ rest) s (omega arith)))
    act_match b (EachNext to n) st s nm h e =
        let f = h.0.takes.enough in
        two_match (sh.height - 2) st _ (omega arith) (λ copy k rest q. row_match (row_at (nat_eq n 2) copy (place_in k) s) (cond (nat_eq n 2) 2 1) _ _ (row_fits (nat_eq n 2) copy (place_in k) s)
        (on_match 2 0 h.0 rest s (omega arith))
        (λ row r. to_match to (sh.height + n) h.1 (on_top row (values.Int (pos (place_in k + 1)) ∷ copy ∷ rest)) s (let l = top_length row (values.Int (pos (place_in k + 1)) ∷ copy ∷ rest) in let t = r ∙ two_or_one n nm.0 nm.1 in omega arith)))
    act_match b Return st s nm h e = let f = h.0.enough in one_match (sh.height - 1) st _ (omega arith) (λ v rest q. tt)
    act_match b ReturnZero st s nm h e = tt

pub sound_code : SoundCodeNeverFails
sound_code code b from to shapes c m sound h =
    let r = sound.well m.place h.shape h.reached in
    subst (λ o. NextMatches shapes (act_at code c o m)) (sym r.is)
    (subst (λ cs. NextMatches shapes (act code c r.instr m.place m.stack cs m.state)) (sym h.catches)
    (act_match shapes code c m.place h.shape r.catch b r.instr m.stack m.state r.named r.fine h.height))
