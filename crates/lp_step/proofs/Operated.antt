-- Binary operators on the state and in the world.
use Rattle.std.proofs.Common.{◌≡◌, ◌++◌, ◌∷◌, [], ◌∙◌, ℕ, ◌+◌, ◌-◌, Bool, true, false, List, Option, Result, Ok, Err, All, IfOk, refl, ap, sym, subst, nat_lt, length}
use Rattle.std.proofs.lemmas.List.Elements.{All-head, All-weaker}
use Rattle.lp_cells.specs.Cells as cells
use Rattle.lp_cells.specs.Cells.{IsThere, KeepsThere, Store, with_cell}
use Rattle.lp_values.specs.declared.id.ObjId.{ObjId}
use Rattle.lp_values.specs.declared.value.Value.{Value}
use Rattle.lp_values.specs.declared.error.RunError.{RunError}
use Rattle.lp_ops.specs.Effects.{Yields, reference}
use Rattle.lp_ops.specs.Operands.{Opened, operand}
use Rattle.lp_ops.specs.Operators as operators
use Rattle.lp_ops.specs.Prices.{binary_after, binary_before, price_after}
use Rattle.lp_ops.specs.declared.effect.Effect.{Effect}
use Rattle.lp_ops.specs.declared.effect.Effect.TheVariants as effects
use Rattle.lp_ops.specs.declared.operation.Operation.TheVariants as operations
use Rattle.lp_tree.specs.declared.operator.BinOp.{BinOp}
use Rattle.lp_isa.specs.Machine.{Moment, Next, on_one, on_two, push_end}
use Rattle.lp_language.specs.Operations.{binary, living, seen}
use Rattle.lp_world.specs.declared.frame.Frame.{Frame}
use Rattle.lp_world.specs.declared.live.Live.{Live}
use Rattle.lp_world.specs.declared.objects.Object.{Object}
use Rattle.lp_world.specs.Rows.{live_in}
use Rattle.lp_world.specs.Matches.{Around, Matches}
use Rattle.lp_world.proofs.Closing.{closed_with_cells}
use Rattle.lp_world.proofs.Keeping.{live_same, operand_same}
use Rattle.lp_step.specs.declared.fault.StepFault.{StepFault}
use Rattle.lp_step.specs.declared.next.Next.{Next as Led}
use Rattle.lp_step.specs.declared.worked.Worked.{Worked}
use Rattle.lp_step.specs.declared.worked.Worked.TheVariants as worked
use Rattle.lp_step.specs.Steps.{IsFine, IsFit, LeadsTo, Pays, PaysBy}
use Rattle.lp_step.specs.Works.{Acts, AreSizesSame, IsWorked, Works, WorksBy, WorksOn}
use Rattle.lp_step.proofs.Fits.{popped_fit, split_all}
use Rattle.lp_step.proofs.Led.{Left, led}
use Rattle.lp_step.proofs.Moves.{on_one_leads}

abbrev IfTrue : Bool → Type 0
IfTrue true = Unit {0}
IfTrue false = ⊥

-- The price of a result

worked_paid : (b : Bool) (n old new : ℕ) (v w : Value) (part whole : Store) → PaysBy b n old true new → v ≡ w → part ≡ whole → IsWorked b w whole (old - n) (worked.Value v) part new
worked_paid true n old new v w part whole p q c = absurd (subst IfTrue p.0 tt)
worked_paid false n old new v w part whole p q c = (ap worked.Value q, c, p.1)

worked_spent : (b : Bool) (n old new : ℕ) (w : Value) (part whole : Store) → PaysBy b n old false new → part ≡ whole → IsWorked b w whole (old - n) worked.Spent part new
worked_spent true n old new w part whole p c = (refl, c, p.1)
worked_spent false n old new w part whole p c = absurd (subst IfTrue (sym p.0) tt)

pub acts_paid : (e : Effect) (n k old new : ℕ) (paid : Bool) (v : Value) (before after : Store) → paid ≡ true → n ≡ k → Pays n old paid new → Yields e before after v → Acts e k before old (worked.Value v) after new
acts_paid (effects.Gives w) n k old new paid v before after t q p y =
    subst (λ k. IsWorked (nat_lt old k) w before (old - k) (worked.Value v) after new) q (worked_paid (nat_lt old n) n old new v w after before (subst (λ b. Pays n old b new) t p) y.0 y.1)
acts_paid (effects.Makes x) n k old new paid v before after t q p y =
    subst (λ k. IsWorked (nat_lt old k) (reference x (length before)) (with_cell before x) (old - k) (worked.Value v) after new) q
    (worked_paid (nat_lt old n) n old new v (reference x (length before)) after (with_cell before x) (subst (λ b. Pays n old b new) t p) y.0 y.1)
acts_paid (effects.Fault x) n k old new paid v before after t q p y = absurd y

pub acts_spent : (e : Effect) (n k old new : ℕ) (paid : Bool) (v : Value) (before after : Store) → paid ≡ false → n ≡ k → Pays n old paid new → Yields e before after v → Acts e k before old worked.Spent after new
acts_spent (effects.Gives w) n k old new paid v before after t q p y =
    subst (λ k. IsWorked (nat_lt old k) w before (old - k) worked.Spent after new) q (worked_spent (nat_lt old n) n old new w after before (subst (λ b. Pays n old b new) t p) y.1)
acts_spent (effects.Makes x) n k old new paid v before after t q p y =
    subst (λ k. IsWorked (nat_lt old k) (reference x (length before)) (with_cell before x) (old - k) worked.Spent after new) q
    (worked_spent (nat_lt old n) n old new (reference x (length before)) after (with_cell before x) (subst (λ b. Pays n old b new) t p) y.1)
acts_spent (effects.Fault x) n k old new paid v before after t q p y = absurd y

pub acts_refused : (e : Effect) (x : RunError) (k old : ℕ) (before after : Store) → e ≡ effects.Fault x → after ≡ before → Acts e k before old (worked.Error x) after old
acts_refused e x k old before after q c = subst (λ e. Acts e k before old (worked.Error x) after old) (sym q) (refl, c, refl)

-- The price before

works_paid_by : (b : Bool) (n k old new last : ℕ) (e : Effect) (part whole : Store) (d : Worked) → PaysBy b n old true new → Acts e k part new d whole last → WorksBy b n e k part old d whole last
works_paid_by true n k old new last e part whole d p w = absurd (subst IfTrue p.0 tt)
works_paid_by false n k old new last e part whole d p w = subst (λ j. Acts e k part j d whole last) p.1 w

pub works_paid : (n k old new last : ℕ) (paid : Bool) (e : Effect) (part whole : Store) (r : Result Worked StepFault) → paid ≡ true → Pays n old paid new → IfOk r (λ d. Acts e k part new d whole last) → IfOk r (λ d. Works n e k part old d whole last)
works_paid n k old new last paid e part whole (Ok d) t p w = works_paid_by (nat_lt old n) n k old new last e part whole d (subst (λ b. Pays n old b new) t p) w
works_paid n k old new last paid e part whole (Err f) t p w = w

works_spent_by : (b : Bool) (n k old new : ℕ) (e : Effect) (part : Store) → PaysBy b n old false new → WorksBy b n e k part old worked.Spent part new
works_spent_by true n k old new e part p = (refl, refl, p.1)
works_spent_by false n k old new e part p = absurd (subst IfTrue (sym p.0) tt)

pub works_spent : (n k old new : ℕ) (paid : Bool) (e : Effect) (part : Store) → paid ≡ false → Pays n old paid new → Works n e k part old worked.Spent part new
works_spent n k old new paid e part t p = works_spent_by (nat_lt old n) n k old new e part (subst (λ b. Pays n old b new) t p)

not_spent_by : (b : Bool) (n old new : ℕ) → PaysBy b n old false new → b ≡ false → ⊥
not_spent_by true n old new p q = subst IfTrue q tt
not_spent_by false n old new p q = subst IfTrue (sym p.0) tt

pub not_spent : (n old new : ℕ) (paid : Bool) → paid ≡ false → Pays n old paid new → nat_lt old n ≡ false → ⊥
not_spent n old new paid t p q = not_spent_by (nat_lt old n) n old new (subst (λ b. Pays n old b new) t p) q

pub sizes_ok : (P Q : Type 0) (r : Result Worked StepFault) → IfOk r (λ d. P) → IfOk r (λ d. Q → P)
sizes_ok P Q (Ok d) h = λ q. h
sizes_ok P Q (Err f) h = h

-- On the stack

pub works_ok : (op : BinOp) (old mid new : List Value) (objects : List (Option Object)) (part whole : Store) (before after : ℕ) (x y : Value) (r : Result Worked StepFault)
    → old ≡ mid ++ y ∷ [] → mid ≡ new ++ x ∷ [] → All (IsThere part) old
    → IfOk r (λ d. Works (binary_before op (operand (live_in objects) part x) (operand (live_in objects) part y)) (operators.binary (live_in objects) op (operand (live_in objects) part x) (operand (live_in objects) part y))
    (binary_after (live_in objects) op part (operators.binary (live_in objects) op (operand (live_in objects) part x) (operand (live_in objects) part y))) part before d whole after)
    → IfOk r (λ d. nat_lt before (binary_before op (operand (live_in objects) part x) (operand (live_in objects) part y)) ≡ false
    → AreSizesSame (live_in objects) part (operators.binary (live_in objects) op (operand (live_in objects) part x) (operand (live_in objects) part y)))
    → IfOk r (λ d. WorksOn op old new objects part before d whole after)
works_ok op old mid new objects part whole before after x y (Ok d) e f t w s =
    let all : old ≡ (new ++ x ∷ []) ++ y ∷ [] = e ∙ ap (λ l. l ++ y ∷ []) f in
    let both = split_all (IsThere part) (new ++ x ∷ []) (y ∷ []) (subst (All (IsThere part)) all t) in
    let one = split_all (IsThere part) new (x ∷ []) both.0 in
    (x, y, all, All-head (IsThere part) x [] one.1, All-head (IsThere part) y [] both.1, w, s)
works_ok op old mid new objects part whole before after x y (Err k) e f t w s = w

pub operated : (a : Around) (live : Live) (whole : Store) (stack0 stack1 stack2 : List Value) (frame : Frame) (at2 old new : ℕ) (m : Moment) (op : BinOp) (d : Worked) (n : Led)
    → Matches a live stack0 frame old m → WorksOn op stack0 stack1 live.objects live.cells old d whole new → Left stack1 frame.at d n stack2 at2
    → IsFine (on_two m.stack (λ x y rest. push_end (binary op x y m.state) (m.place + 1) m.catches rest))
    → LeadsTo a n (record live { cells = whole }) stack2 (record frame { at = at2 }) new (on_two m.stack (λ x y rest. push_end (binary op x y m.state) (m.place + 1) m.catches rest))
unfolding binary
operated a live whole stack0 stack1 stack2 frame at2 old new m op d n h (x, y, e, tx, ty, w, s) t fine =
    on_one_leads To (λ y st. on_one st (λ x rest. push_end (binary op x y m.state) (m.place + 1) m.catches rest)) base m.stack stack0 (stack1 ++ x ∷ []) y h.sits.lies e fine
    (λ ops l f. on_one_leads To (λ x rest. push_end (binary op x y m.state) (m.place + 1) m.catches rest) base ops (stack1 ++ x ∷ []) stack1 x l refl f
    (λ ops l f. led a live whole stack0 stack1 stack2 frame at2 old new m ops (binary_before op (seen m.state x) (seen m.state y)) (size_after live.cells) (size_after m.state.world.cells) effect d n h l
    (subst (λ q. WorksFor (living m.state) (seen m.state x) q) sy (subst (λ q. WorksFor (living m.state) q (operand (living m.state) live.cells y)) sx (subst (λ l. WorksFor l (operand l live.cells x) (operand l live.cells y)) live_is w)))
    (λ q. ap (λ k. price_after (operations.Binary op) k) (sizes q m.state.world.cells h.stands.cells)) t))
  where
    base : List Value
    base = a.below ++ m.state.locals

    To : Next → Type 0
    To z = LeadsTo a n (record live { cells = whole }) stack2 (record frame { at = at2 }) new z

    live_is : live_in live.objects ≡ living m.state
    live_is = live_same a.told a.programs live m.state.world h.stands

    sx : operand (living m.state) live.cells x ≡ seen m.state x
    sx = operand_same (living m.state) live.cells m.state.world.cells x h.stands.cells tx

    sy : operand (living m.state) live.cells y ≡ seen m.state y
    sy = operand_same (living m.state) live.cells m.state.world.cells y h.stands.cells ty

    effect : Effect
    effect = operators.binary (living m.state) op (seen m.state x) (seen m.state y)

    size_after : Store → ℕ
    size_after k = binary_after (living m.state) op k effect

    WorksFor : (ObjId → Bool) → Opened → Opened → Type 0
    WorksFor l p q = Works (binary_before op p q) (operators.binary l op p q) (binary_after l op live.cells (operators.binary l op p q)) live.cells old d whole new

    SizesFor : (ObjId → Bool) → Opened → Opened → Type 0
    SizesFor l p q = nat_lt old (binary_before op p q) ≡ false → AreSizesSame l live.cells (operators.binary l op p q)

    sizes : SizesFor (living m.state) (seen m.state x) (seen m.state y)
    sizes = subst (λ q. SizesFor (living m.state) (seen m.state x) q) sy (subst (λ q. SizesFor (living m.state) q (operand (living m.state) live.cells y)) sx (subst (λ l. SizesFor l (operand l live.cells x) (operand l live.cells y)) live_is s))

-- a state whose cells changed so is fit, with what is left of the stack
pub cells_fit : (live : Live) (whole : Store) (old new : List Value) (x y : Value) → old ≡ (new ++ x ∷ []) ++ y ∷ [] → KeepsThere live.cells whole → cells.IsClosed whole → IsFit live old → IsFit (record live { cells = whole }) new
cells_fit live whole old new x y e k c f =
    let g = (popped_fit live (new ++ x ∷ []) new x refl (popped_fit live old (new ++ x ∷ []) y e f).0).0 in
    record { closed = closed_with_cells live whole f.closed k c; there = All-weaker (IsThere live.cells) (IsThere whole) k new g.there }
