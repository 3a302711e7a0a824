-- No operator leaves more of the budget than there was.
use Rattle.std.proofs.Common.{◌≡◌, ℕ, ◌+◌, ◌-◌, Bool, true, false, cond, List, [], length, Option, Some, None, refl, unwrap_or, IsSome, arith}
use Rattle.std.specs.Prelude.{ℤ, pos, ◌&&◌, int_le, map, nat_lt}
use Rattle.std.proofs.lemmas.Bool.{ltb-true}
use Rattle.lp_tree.specs.declared.operator.BinOp.{BinOp}
use Rattle.lp_tree.specs.declared.operator.UnOp.{UnOp}
use Rattle.lp_tree.specs.declared.operator.Step.{Step}
use Rattle.lp_tree.specs.declared.expr.Edge.{Edge}
use Rattle.lp_tree.specs.declared.expr.Edge.TheVariants.{Front}
use Rattle.lp_values.specs.declared.id.CellId.{CellId}
use Rattle.lp_values.specs.declared.value.Value.{Value}
use Rattle.lp_ops.specs.declared.effect.Effect.{Effect}
use Rattle.lp_ops.specs.declared.effect.Effect.TheVariants as effects
use Rattle.lp_ops.specs.Effects.{reference, within}
use Rattle.lp_ops.specs.Operators as operators
use Rattle.lp_ops.specs.Operators.{array, from_zero, mapping, place_of}
use Rattle.lp_ops.specs.Operands.{Opened, Number, Chars, size_of}
use Rattle.lp_ops.specs.Prices.{share, size_made, binary_before, binary_after, range_before, range_after}
use Rattle.lp_cells.specs.Mapping.{pairs_of, pairs_put}
use Rattle.lp_cells.specs.Cells.{content_set, item_set, items_at, items_of, pairs_at, with_cell}
use Rattle.lp_cells.specs.declared.content.Content.TheVariants as content
use Rattle.lp_values.specs.Errors.{plain}
use Rattle.lp_values.specs.declared.error.ErrorKind.TheVariants.{BadIndex, TooLong, TooFewArgs}
use Rattle.lp_text.specs.Scans.{scanned}
use Rattle.lp_text.specs.Forms.{parts, fault_of, count_of}
use Rattle.lp_instr.specs.declared.instr.EndKind.{EndKind}
use Rattle.lp_language.specs.Course.{State, Scene, Spent, End, Gives, Stops, here, pay, Answer, Returned, Stopped, end_of_answer}
use Rattle.lp_language.specs.Operations.{unary, binary, item, range, stepped, new_array, new_mapping, put_item, scan, copied, finished, is_back, is_in, is_full_for, living, cells_of, seen, put, put_item_at, put_pair, part_between, bound_of, step_effect, literal, total_size, paired, copy_effect, scan_faults, scan_texts, scanned_value, fails, with_store, with_variable, with_local, with_global}
use Rattle.lp_values.specs.Read.{as_read}
use Rattle.lp_values.specs.declared.value.Value.TheVariants as values
use Rattle.lp_ops.specs.Operands.{opened}
use Rattle.lp_language.specs.World.{object_at, with_cells, with_object}
use Rattle.lp_language.specs.Afterwards.{After, EndsAfter}
use Rattle.lp_language.proofs.Kept.{keeps_same, keeps_trans, commands_same, commands_trans, keeps_cell, keeps_item, keeps_pairs, keeps_variable}

pub after_same : (s : State) → After s s
after_same s = record { no_more = omega arith; keeps = keeps_same s.world; commands = commands_same s.commands }

pub after_trans : (r s t : State) → After r s → After s t → After r t
after_trans r s t a b = record { no_more = (let x = a.no_more in let y = b.no_more in omega arith); keeps = keeps_trans r.world s.world t.world a.keeps b.keeps; commands = commands_trans r.commands s.commands t.commands a.commands b.commands }

pub after_cond : {A : Type 0} (r : State) (b : Bool) (x y : End A) → EndsAfter r x → EndsAfter r y → EndsAfter r (cond b x y)
after_cond r true x y p q = p
after_cond r false x y p q = q

pub pay_after : {A : Type 0} (r : State) (k : ℕ) (s : State) (f : State → End A) → After r s → ((t : State) → After r t → EndsAfter r (f t)) → EndsAfter r (pay k s f)
pay_after r k s f h g =
    let a = h.no_more in
    after_cond r (nat_lt s.budget k) (Stops (here Spent) (record s { budget = 0 })) (f (record s { budget = s.budget - k })) (record { no_more = omega arith; keeps = h.keeps; commands = h.commands }) (g (record s { budget = s.budget - k }) (record { no_more = omega arith; keeps = h.keeps; commands = h.commands }))

-- the same, where the state that is left counts
pub pay_at : {A : Type 0} (r : State) (k : ℕ) (s : State) (f : State → End A) → After r s → (After r (record s { budget = s.budget - k }) → EndsAfter r (f (record s { budget = s.budget - k }))) → EndsAfter r (pay k s f)
pay_at r k s f h g =
    let a = h.no_more in
    after_cond r (nat_lt s.budget k) (Stops (here Spent) (record s { budget = 0 })) (f (record s { budget = s.budget - k })) (record { no_more = omega arith; keeps = h.keeps; commands = h.commands }) (g (record { no_more = omega arith; keeps = h.keeps; commands = h.commands }))

pub finished_after : (r : State) (n : ℕ) (e : Effect) (s : State) → After r s → EndsAfter r (finished n e s)
finished_after r n (effects.Gives v) s h = pay_after r n s (Gives v) h (λ t l. l)
finished_after r n (effects.Makes x) s h =
    let w = with_cells s.world (with_cell (cells_of s) x) in
    pay_after r n (with_store s (with_cell (cells_of s) x)) (Gives (reference x (length (cells_of s)))) (record { no_more = h.no_more; keeps = keeps_trans r.world s.world w h.keeps (keeps_cell s.world x); commands = h.commands }) (λ t l. l)
finished_after r n (effects.Fault e) s h = h

effect_after : (r : State) (k n : ℕ) (e : Effect) (s : State) → After r s → EndsAfter r (pay k s (finished n e))
effect_after r k n e s h = pay_after r k s (finished n e) h (λ t l. finished_after r n e t l)

pub unary_after : (r : State) (op : UnOp) (x : Value) (s : State) → After r s → EndsAfter r (unary op x s)
unfolding unary
unary_after r op x s h = effect_after r 1 0 (operators.unary op (seen s x)) s h

pub binary_after_all : (r : State) (op : BinOp) (x y : Value) (s : State) → After r s → EndsAfter r (binary op x y s)
unfolding binary
binary_after_all r op x y s h =
    let e = operators.binary (living s) op (seen s x) (seen s y) in
    effect_after r (binary_before op (seen s x) (seen s y)) (binary_after (living s) op (cells_of s) e) e s h

pub item_after : (r : State) (edge : Edge) (x i : Value) (s : State) → After r s → EndsAfter r (item edge x i s)
unfolding item
item_after r edge x i s h = effect_after r 1 0 (operators.index (living s) (is_back edge) (seen s x) (seen s i)) s h

pub range_after_all : (r : State) (a b : EndKind) (x y z : Value) (s : State) → After r s → EndsAfter r (range a b x y z s)
unfolding range
range_after_all r a b x y z s h =
    let e = part_between (seen s x) (bound_of a (seen s y)) (bound_of b (seen s z)) in
    effect_after r (range_before (seen s x) (seen s y) (seen s z)) (range_after (living s) (cells_of s) e) e s h

pub stepped_after : (r : State) (st : Step) (x : Value) (s : State) → After r s → EndsAfter r (stepped st x s)
unfolding stepped
stepped_after r st x s h = effect_after r 1 0 (step_effect st (seen s x)) s h

literal_after : (r : State) (n : ℕ) (e : Effect) (s : State) → After r s → EndsAfter r (literal n e s)
literal_after r n e s h = effect_after r (1 + share n) (share (size_made (living s) (cells_of s) e)) e s h

pub new_array_after : (r : State) (vs : List Value) (s : State) → After r s → EndsAfter r (new_array vs s)
unfolding new_array
new_array_after r vs s h = literal_after r (total_size s vs) (within (array vs)) s h

pub new_mapping_after : (r : State) (vs : List Value) (s : State) → After r s → EndsAfter r (new_mapping vs s)
unfolding new_mapping
new_mapping_after r vs s h = literal_after r (total_size s vs) (within (mapping (pairs_of (paired s vs)))) s h

and_right : (b c : Bool) → b && c ≡ true → c ≡ true
and_right true c e = e
and_right false c e = absurd cc

put_item_at_after : (r : State) (k : CellId) (i : ℤ) (v : Value) (s : State) → After r s → EndsAfter r (put_item_at k i (items_of (cells_of s) k) v s)
put_item_at_after r k i v s h = item_cases r k i v s h (is_in i (length (items_of (cells_of s) k))) refl
  where
    is_there : (b : Bool) (o : Option (List Value)) (i : ℤ) → is_in i (length (unwrap_or o [])) ≡ true → IsSome o
    is_there b (Some vs) i e = refl
    is_there b None i e = let l = ltb-true (from_zero i) 0 (and_right (int_le (pos 0) i) (nat_lt (from_zero i) 0) e) in absurd (omega arith)

    item_cases : (r : State) (k : CellId) (i : ℤ) (v : Value) (s : State) → After r s → (b : Bool) → is_in i (length (items_of (cells_of s) k)) ≡ b → EndsAfter r (cond b (Gives v (with_store s (item_set (cells_of s) k (from_zero i) v))) (fails (plain BadIndex) s))
    item_cases r k i v s h true e =
        record { no_more = h.no_more; keeps = keeps_trans r.world s.world (with_cells s.world (item_set (cells_of s) k (from_zero i) v)) h.keeps (keeps_item s.world k (from_zero i) v (is_there true (items_at (cells_of s) k) i e)); commands = h.commands }
    item_cases r k i v s h false e = h

put_pair_after : (r : State) (k : CellId) (o : Option (List (Value × Value))) (i v : Value) (s : State) → pairs_at (cells_of s) k ≡ o → After r s → EndsAfter r (put_pair k o i v s)
put_pair_after r k None i v s e h = h
put_pair_after r k (Some ps) i v s e h =
    let qs = pairs_put (living s) ps i v in
    after_cond r (is_full_for s ps i) (fails (plain TooLong) s) (Gives v (with_store s (content_set (cells_of s) k (content.Mapping qs)))) h
    (record { no_more = h.no_more; keeps = keeps_trans r.world s.world (with_cells s.world (content_set (cells_of s) k (content.Mapping qs))) h.keeps (keeps_pairs s.world k ps qs e); commands = h.commands })

opened_put : (r : State) (edge : Edge) (x : Value) (i : Opened) (k v : Value) (s : State) → After r s → EndsAfter r (put edge (opened (living s) (cells_of s) x) i k v s)
opened_put r edge (values.Arr c) (Number n) k v s h = put_item_at_after r c (place_of (is_back edge) n (length (items_of (cells_of s) c))) v s h
opened_put r Front (values.Map c) i k v s h = put_pair_after r c (pairs_at (cells_of s) c) k v s refl h
opened_put r edge _ _ k v s h = h

pub put_item_after : (r : State) (edge : Edge) (x i v : Value) (s : State) → After r s → EndsAfter r (put_item edge x i v s)
unfolding put_item
put_item_after r edge x i v s h = pay_at r 1 s (put edge (seen s x) (seen s i) i v) h (λ l. opened_put r edge (as_read (living s) x) (seen s i) i v (record s { budget = s.budget - 1 }) l)

pub copied_after : (r : State) (v : Value) (s : State) → After r s → EndsAfter r (copied v s)
unfolding copied
copied_after r v s h = finished_after r 0 (copy_effect (seen s v)) s h

scan_faults_after : (r : State) (o : Option ℕ) (w n : ℕ) (vs : List Value) (s : State) → After r s → EndsAfter r (scan_faults o w n vs s)
scan_faults_after r (Some at) w n vs s h = h
scan_faults_after r None w n vs s h = after_cond r (nat_lt n w) (fails (plain TooFewArgs) s) (Gives vs s) h h

scan_texts_after : (r : State) (x y : Opened) (n : ℕ) (s : State) → After r s → EndsAfter r (scan_texts x y n s)
scan_texts_after r (Chars cs) (Chars form) n s h =
    scan_faults_after r (fault_of (parts form)) (count_of (parts form)) n (map scanned_value (scanned (parts form) cs)) s h
scan_texts_after r _ _ n s h = h

pub scan_after : (r : State) (n : ℕ) (x y : Value) (s : State) → After r s → EndsAfter r (scan n x y s)
unfolding scan
scan_after r n x y s h =
    pay_after r (1 + share (size_of (seen s x) + size_of (seen s y))) s (scan_texts (seen s x) (seen s y) n) h (λ t l. scan_texts_after r (seen s x) (seen s y) n t l)

pub answer_after : (r : State) (a : Answer) (s : State) → After r s → EndsAfter r (end_of_answer a s)
answer_after r (Returned v) s h = h
answer_after r (Stopped w) s h = h

pub local_after : (r s : State) (k : ℕ) (v : Value) → After r s → After r (with_local s k v)
unfolding with_local
local_after r s k v h = record { no_more = h.no_more; keeps = h.keeps; commands = h.commands }

pub global_after : (r : State) (c : Scene) (s : State) (k : ℕ) (v : Value) → After r s → After r (with_global c s k v)
unfolding with_global
global_after r c s k v h = record { no_more = h.no_more; keeps = keeps_trans r.world s.world (with_object s.world c.this (with_variable (object_at s.world c.this) (c.base + k) v)) h.keeps (keeps_variable s.world c.this (c.base + k) v); commands = h.commands }
