-- Writing at an index on the state and in the world.
use Rattle.std.proofs.Common.{◌≡◌, ◌++◌, ◌∷◌, [], ◌∙◌, ℕ, pos, ◌+◌, ◌-◌, Bool, true, false, List, Option, Some, None, Result, Ok, Err, All, IfOk, IsSome, refl, ap, sym, subst, if◌then◌else◌, nat_lt, length, slice_get, unwrap_or}
use Rattle.std.specs.Prelude.{⊤, slice_set}
use Rattle.std.proofs.lemmas.List.Elements.{All-head}
use Rattle.lp_tree.specs.declared.expr.Edge.{Edge}
use Rattle.lp_tree.specs.declared.expr.Edge.TheVariants.{Front, Back}
use Rattle.lp_cells.specs.Cells as cells_of_all
use Rattle.lp_cells.specs.Cells.{IsThere, KeepsThere, Store, as_pairs, content_at, content_set, item_set, items_of, pairs_at}
use Rattle.lp_cells.specs.Mapping.{pairs_put}
use Rattle.lp_cells.specs.declared.content.Content.{Content}
use Rattle.lp_cells.specs.declared.content.Content.TheVariants as contents
use Rattle.lp_values.specs.Errors.{plain}
use Rattle.lp_values.specs.declared.error.ErrorKind.TheVariants.{BadIndex, TooLong}
use Rattle.lp_values.specs.declared.id.CellId.{CellId}
use Rattle.lp_values.specs.declared.id.ObjId.{ObjId}
use Rattle.lp_values.specs.declared.value.Value.{Value}
use Rattle.lp_values.specs.declared.value.Value.TheVariants.{Int, Str, Arr, Map, Obj}
use Rattle.lp_ops.specs.Operands.{Opened, Number, Chars, Array, Mapping, Object, opened, operand}
use Rattle.lp_ops.specs.Operators.{from_zero, place_of}
use Rattle.lp_language.specs.Course.{End, State, Spent, Gives, Stops, here, pay}
use Rattle.lp_language.specs.Operations.{cells_of, fails, is_back, is_full_for, is_in, living, put, put_item, put_pair, seen, with_store}
use Rattle.lp_language.specs.World.{World, with_cells}
use Rattle.lp_isa.specs.Machine.{Moment, Next, on_one, on_two, on_three, push_end, stopped}
use Rattle.lp_world.specs.declared.frame.Frame.{Frame}
use Rattle.lp_world.specs.declared.live.Live.{Live}
use Rattle.lp_world.specs.declared.objects.Object.{Object as Row}
use Rattle.lp_world.specs.Rows.{live_in}
use Rattle.lp_world.specs.Stands.{IsPart, Stands}
use Rattle.lp_world.specs.Matches.{Around, Matches, laid}
use Rattle.lp_world.proofs.Keeping.{live_same, operand_same, pairs_same, stands_with_content}
use Rattle.lp_step.specs.declared.fault.StepFault.{StepFault}
use Rattle.lp_step.specs.declared.next.Next.{Next as Led}
use Rattle.lp_step.specs.declared.worked.Worked.{Worked}
use Rattle.lp_step.specs.declared.worked.Worked.TheVariants as worked
use Rattle.lp_step.specs.IndexWrites.{Write, Writes, Refuses, WritesBy, WritesFor, WritesOn, Wrote, pair_write, write}
use Rattle.lp_step.specs.Steps.{IsFine, IsFit, LeadsTo, told}
use Rattle.lp_step.proofs.Fits.{popped_fit, split_all}
use Rattle.lp_step.proofs.Led.{IsLeft, Left, at_world, is_left}
use Rattle.lp_step.proofs.Moves.{on_one_leads}
use Rattle.lp_step.proofs.Operated.{cells_fit}

-- What a write does to a state of the machine, with its value

abbrev done : Write → Value → State → End Value
done (Writes c x) v s = Gives v (with_store s (content_set (cells_of s) c x))
done (Refuses e) v s = fails e s

-- what an opened array holds is in the cells of the state
abbrev IsOf : State → Opened → Type 0
IsOf s (Number n) = ⊤
IsOf s (Chars t) = ⊤
IsOf s (Array c vs) = vs ≡ items_of (cells_of s) c
IsOf s (Mapping c ps) = ⊤
IsOf s (Object o) = ⊤

object_of : (s : State) (o : ObjId) (b : Bool) → IsOf s (opened (living s) (cells_of s) (unwrap_or (if b then Some (Obj o) else None) (Int (pos 0))))
object_of s o true = tt
object_of s o false = tt

seen_of : (s : State) (v : Value) → IsOf s (seen s v)
seen_of s (Int n) = tt
seen_of s (Str t) = tt
seen_of s (Arr c) = refl
seen_of s (Map c) = tt
seen_of s (Obj o) = object_of s o (living s o)

item_done : (s : State) (c : CellId) (k : ℕ) (vs : List Value) (v : Value) (b : Bool) → vs ≡ items_of (cells_of s) c
    → (if b then Gives v (with_store s (item_set (cells_of s) c k v)) else fails (plain BadIndex) s) ≡ done (if b then Writes c (contents.Array (slice_set vs k v)) else Refuses (plain BadIndex)) v s
item_done s c k vs v true e = ap (λ us. Gives v (with_store s (content_set (cells_of s) c (contents.Array (slice_set us k v))))) (sym e)
item_done s c k vs v false e = refl

full_done : (s : State) (c : CellId) (ps : List (Value × Value)) (v : Value) (b : Bool)
    → (if b then fails (plain TooLong) s else Gives v (with_store s (content_set (cells_of s) c (contents.Mapping ps)))) ≡ done (if b then Refuses (plain TooLong) else Writes c (contents.Mapping ps)) v s
full_done s c ps v true = refl
full_done s c ps v false = refl

pair_done : (s : State) (c : CellId) (o : Option (List (Value × Value))) (k v : Value) → put_pair c o k v s ≡ done (pair_write (living s) c o k v) v s
pair_done s c None k v = refl
pair_done s c (Some ps) k v = full_done s c (pairs_put (living s) ps k v) v (is_full_for s ps k)

put_done : (s : State) (edge : Edge) (x i : Opened) (k v : Value) → IsOf s x → put edge x i k v s ≡ done (write (living s) (cells_of s) edge x i k v) v s
put_done s edge (Array c vs) (Number n) k v h = item_done s c (from_zero (place_of (is_back edge) n (length vs))) vs v (is_in (place_of (is_back edge) n (length vs)) (length vs)) h
put_done s edge (Array c vs) (Chars t) k v h = refl
put_done s edge (Array c vs) (Array d us) k v h = refl
put_done s edge (Array c vs) (Mapping d ps) k v h = refl
put_done s edge (Array c vs) (Object o) k v h = refl
put_done s Front (Mapping c ps) i k v h = pair_done s c (pairs_at (cells_of s) c) k v
put_done s Back (Mapping c ps) i k v h = refl
put_done s edge (Number n) i k v h = refl
put_done s edge (Chars t) i k v h = refl
put_done s edge (Object o) i k v h = refl

-- The same write in the state's cells and in the world's

abbrev AreOneIn : Store → Store → Opened → Type 0
AreOneIn part whole (Number n) = ⊤
AreOneIn part whole (Chars t) = ⊤
AreOneIn part whole (Array c vs) = ⊤
AreOneIn part whole (Mapping c ps) = pairs_at part c ≡ pairs_at whole c
AreOneIn part whole (Object o) = ⊤

object_one : (l : ObjId → Bool) (part whole : Store) (o : ObjId) (b : Bool) → AreOneIn part whole (opened l part (unwrap_or (if b then Some (Obj o) else None) (Int (pos 0))))
object_one l part whole o true = tt
object_one l part whole o false = tt

one_in : (l : ObjId → Bool) (part whole : Store) (v : Value) → IsPart part whole → IsThere part v → AreOneIn part whole (operand l part v)
one_in l part whole (Int n) p t = tt
one_in l part whole (Str s) p t = tt
one_in l part whole (Arr c) p t = tt
one_in l part whole (Map c) p t = ap as_pairs (sym (pairs_same part whole c p t))
one_in l part whole (Obj o) p t = object_one l part whole o (l o)

write_same : (l : ObjId → Bool) (part whole : Store) (edge : Edge) (x i : Opened) (k v : Value) → AreOneIn part whole x → write l part edge x i k v ≡ write l whole edge x i k v
write_same l part whole edge (Array c vs) (Number n) k v h = refl
write_same l part whole edge (Array c vs) (Chars t) k v h = refl
write_same l part whole edge (Array c vs) (Array d us) k v h = refl
write_same l part whole edge (Array c vs) (Mapping d ps) k v h = refl
write_same l part whole edge (Array c vs) (Object o) k v h = refl
write_same l part whole Front (Mapping c ps) i k v h = ap (λ o. pair_write l c o k v) h
write_same l part whole Back (Mapping c ps) i k v h = refl
write_same l part whole edge (Number n) i k v h = refl
write_same l part whole edge (Chars t) i k v h = refl
write_same l part whole edge (Object o) i k v h = refl

-- What a write leads to

row_from : (o : Option (Option Content)) → IsSome (unwrap_or o None) → (x : Content) × (o ≡ Some (Some x))
row_from None h = absurd cc
row_from (Some None) h = absurd cc
row_from (Some (Some x)) h = (x, refl)

pub put_led : (a : Around) (live : Live) (cells : Store) (stack0 stack1 stack2 : List Value) (frame : Frame) (at2 old new : ℕ) (m : Moment) (ops : List Value) (w : Write) (v : Value) (d : Worked) (n : Led)
    → Matches a live stack0 frame old m → stack1 ≡ laid (a.below ++ m.state.locals) ops → WritesFor w v live.cells old d cells new → Left stack1 frame.at d n stack2 at2
    → LeadsTo a n (record live { cells = cells }) stack2 (record frame { at = at2 }) new (push_end (pay 1 m.state (done w v)) (m.place + 1) m.catches ops)
put_led a live cells stack0 stack1 stack2 frame at2 old new m ops w v d n h l z t = by (nat_lt m.state.budget 1) (subst (λ k. WritesFor w v live.cells k d cells new) h.left z)
  where
    To : Next → Type 0
    To x = LeadsTo a n (record live { cells = cells }) stack2 (record frame { at = at2 }) new x

    left : ℕ
    left = m.state.budget - 1

    isleft : IsLeft stack1 frame.at d n stack2 at2
    isleft = is_left stack1 frame.at d n stack2 at2 t

    same : cells ≡ live.cells → Stands a.told a.programs (record live { cells = cells }) m.state.world
    same c = subst (λ k. Stands a.told a.programs (record live { cells = k }) m.state.world) (sym c) h.stands

    written : (c : CellId) (x : Content) → IsSome (content_at live.cells c) → cells ≡ content_set live.cells c x → Stands a.told a.programs (record live { cells = cells }) (with_cells m.state.world (content_set m.state.world.cells c x))
    written c x g e =
        let r = row_from (slice_get live.cells c.0) g in
        subst (λ k. Stands a.told a.programs (record live { cells = k }) (with_cells m.state.world (content_set m.state.world.cells c x))) (sym e)
        (stands_with_content a.told a.programs live m.state.world c r.0 x h.stands r.1)

    is_spent : cells ≡ live.cells → d ≡ worked.Spent → new ≡ 0 → To (stopped (here Spent) m.catches ops (record m.state { budget = 0 }))
    is_spent c q z =
        let i : IsLeft stack1 frame.at worked.Spent n stack2 at2 = subst (λ x. IsLeft stack1 frame.at x n stack2 at2) q isleft in
        record {
          m = record { place = m.place; stack = ops; catches = m.catches; state = record m.state { budget = 0 } };
          matches = at_world a live cells stack0 stack2 frame old m m.state.world ops at2 m.place new 0 h (same c) (i.1 ∙ l) (i.2 ∙ h.sits.place) z;
          told = ap (λ x. told x a (record { place = m.place; stack = ops; catches = m.catches; state = record m.state { budget = 0 } })) (sym i.0);
        }

    acts : (w : Write) → Wrote w v live.cells left d cells new → To (push_end (done w v (record m.state { budget = left })) (m.place + 1) m.catches ops)
    acts (Writes c x) (g, q, e, z) =
        let u : World = with_cells m.state.world (content_set m.state.world.cells c x) in
        let i : IsLeft stack1 frame.at (worked.Value v) n stack2 at2 = subst (λ y. IsLeft stack1 frame.at y n stack2 at2) q isleft in
        record {
          m = record { place = m.place + 1; stack = v ∷ ops; catches = m.catches; state = record m.state { world = u; budget = left } };
          matches = at_world a live cells stack0 stack2 frame old m u (v ∷ ops) at2 (m.place + 1) new left h (written c x g e) (i.1 ∙ ap (λ s. s ++ v ∷ []) l) (i.2 ∙ ap (λ j. j + 1) h.sits.place) z;
          told = ap (λ y. told y a (record { place = m.place + 1; stack = v ∷ ops; catches = m.catches; state = record m.state { world = u; budget = left } })) (sym i.0);
        }
    acts (Refuses x) (q, e, z) =
        let i : IsLeft stack1 frame.at (worked.Error x) n stack2 at2 = subst (λ y. IsLeft stack1 frame.at y n stack2 at2) q isleft in
        record {
          m = record { place = m.place; stack = ops; catches = m.catches; state = record m.state { budget = left } };
          matches = at_world a live cells stack0 stack2 frame old m m.state.world ops at2 m.place new left h (same e) (i.1 ∙ l) (i.2 ∙ h.sits.place) z;
          told = ap (λ y. told y a (record { place = m.place; stack = ops; catches = m.catches; state = record m.state { budget = left } })) (sym i.0);
        }

    by : (b : Bool) → WritesBy b w v live.cells m.state.budget d cells new → To (push_end (if b then Stops (here Spent) (record m.state { budget = 0 }) else done w v (record m.state { budget = left })) (m.place + 1) m.catches ops)
    by true q = is_spent q.1 q.0 q.2
    by false q = acts w q

pub item_put : (a : Around) (live : Live) (whole : Store) (stack0 stack1 stack2 : List Value) (frame : Frame) (at2 old new : ℕ) (m : Moment) (edge : Edge) (d : Worked) (n : Led)
    → Matches a live stack0 frame old m → WritesOn edge stack0 stack1 live.objects live.cells old d whole new → Left stack1 frame.at d n stack2 at2
    → IsFine (on_three m.stack (λ x i v rest. push_end (put_item edge x i v m.state) (m.place + 1) m.catches rest))
    → LeadsTo a n (record live { cells = whole }) stack2 (record frame { at = at2 }) new (on_three m.stack (λ x i v rest. push_end (put_item edge x i v m.state) (m.place + 1) m.catches rest))
unfolding put_item
item_put a live whole stack0 stack1 stack2 frame at2 old new m edge d n h (x, i, v, e, tx, ti, tv, w) t fine =
    on_one_leads To (λ v st. on_two st (λ x i rest. push_end (put_item edge x i v m.state) (m.place + 1) m.catches rest)) base m.stack stack0 ((stack1 ++ x ∷ []) ++ i ∷ []) v h.sits.lies e fine
    (λ ops l f. on_one_leads To (λ i st. on_one st (λ x rest. push_end (put_item edge x i v m.state) (m.place + 1) m.catches rest)) base ops ((stack1 ++ x ∷ []) ++ i ∷ []) (stack1 ++ x ∷ []) i l refl f
    (λ ops l f. on_one_leads To (λ x rest. push_end (put_item edge x i v m.state) (m.place + 1) m.catches rest) base ops (stack1 ++ x ∷ []) stack1 x l refl f
    (λ ops l f. subst (λ z. To (push_end (if nat_lt m.state.budget 1 then Stops (here Spent) (record m.state { budget = 0 }) else z) (m.place + 1) m.catches ops))
    (sym (put_done (record m.state { budget = m.state.budget - 1 }) edge (seen m.state x) (seen m.state i) i v (seen_of m.state x)))
    (put_led a live whole stack0 stack1 stack2 frame at2 old new m ops (write (living m.state) (cells_of m.state) edge (seen m.state x) (seen m.state i) i v) v d n h l
    (subst (λ z. WritesFor z v live.cells old d whole new) same w) t))))
  where
    base : List Value
    base = a.below ++ m.state.locals

    To : Next → Type 0
    To z = LeadsTo a n (record live { cells = whole }) stack2 (record frame { at = at2 }) new z

    same : write (live_in live.objects) live.cells edge (operand (live_in live.objects) live.cells x) (operand (live_in live.objects) live.cells i) i v ≡ write (living m.state) (cells_of m.state) edge (seen m.state x) (seen m.state i) i v
    same = ap (λ l. write l live.cells edge (operand l live.cells x) (operand l live.cells i) i v) (live_same a.told a.programs live m.state.world h.stands)
        ∙ write_same (living m.state) live.cells m.state.world.cells edge (operand (living m.state) live.cells x) (operand (living m.state) live.cells i) i v (one_in (living m.state) live.cells m.state.world.cells x h.stands.cells tx)
        ∙ ap (λ q. write (living m.state) m.state.world.cells edge q (operand (living m.state) live.cells i) i v) (operand_same (living m.state) live.cells m.state.world.cells x h.stands.cells tx)
        ∙ ap (λ q. write (living m.state) m.state.world.cells edge (seen m.state x) q i v) (operand_same (living m.state) live.cells m.state.world.cells i h.stands.cells ti)

-- On the stack

-- the three that were taken are there
pub writes_ok : (edge : Edge) (old high mid new : List Value) (objects : List (Option Row)) (part whole : Store) (before after : ℕ) (x i v : Value) (r : Result Worked StepFault)
    → old ≡ high ++ v ∷ [] → high ≡ mid ++ i ∷ [] → mid ≡ new ++ x ∷ [] → All (IsThere part) old
    → IfOk r (λ d. WritesFor (write (live_in objects) part edge (operand (live_in objects) part x) (operand (live_in objects) part i) i v) v part before d whole after)
    → IfOk r (λ d. WritesOn edge old new objects part before d whole after)
writes_ok edge old high mid new objects part whole before after x i v (Ok d) e f g t w =
    let all : old ≡ ((new ++ x ∷ []) ++ i ∷ []) ++ v ∷ [] = e ∙ ap (λ l. l ++ v ∷ []) (f ∙ ap (λ l. l ++ i ∷ []) g) in
    let three = split_all (IsThere part) ((new ++ x ∷ []) ++ i ∷ []) (v ∷ []) (subst (All (IsThere part)) all t) in
    let two = split_all (IsThere part) (new ++ x ∷ []) (i ∷ []) three.0 in
    let one = split_all (IsThere part) new (x ∷ []) two.0 in
    (x, i, v, all, All-head (IsThere part) x [] one.1, All-head (IsThere part) i [] two.1, All-head (IsThere part) v [] three.1, w)
writes_ok edge old high mid new objects part whole before after x i v (Err k) e f g t w = w

-- a state whose cells changed so is fit, with what is left of the stack
pub written_fit : (live : Live) (whole : Store) (old new : List Value) (x i v : Value) → old ≡ ((new ++ x ∷ []) ++ i ∷ []) ++ v ∷ [] → KeepsThere live.cells whole → cells_of_all.IsClosed whole → IsFit live old → IsFit (record live { cells = whole }) new
written_fit live whole old new x i v e k c f = cells_fit live whole ((new ++ x ∷ []) ++ i ∷ []) new x i refl k c (popped_fit live old ((new ++ x ∷ []) ++ i ∷ []) v e f).0
