-- Ranges on the state and in the world.
use Rattle.std.proofs.Common.{◌≡◌, ◌++◌, ◌∷◌, [], ◌∙◌, ℕ, ◌+◌, Bool, true, false, List, Option, Some, None, Result, Ok, Err, All, IfOk, refl, ap, sym, subst, if◌then◌else◌, nat_lt, length}
use Rattle.std.proofs.lemmas.List.Elements.{All-head, All-weaker}
use Rattle.lp_instr.specs.declared.instr.EndKind.{EndKind}
use Rattle.lp_instr.specs.declared.instr.EndKind.TheVariants as kinds
use Rattle.lp_cells.specs.Cells as cells
use Rattle.lp_cells.specs.Cells.{IsThere, KeepsThere, Store}
use Rattle.lp_cells.specs.declared.content.Content.TheVariants as contents
use Rattle.lp_values.specs.Limits.{max_code_points, max_items}
use Rattle.lp_values.specs.declared.error.ErrorKind.TheVariants.{TextTooLong, TooLong}
use Rattle.lp_values.specs.declared.id.ObjId.{ObjId}
use Rattle.lp_values.specs.declared.value.Value.{Value}
use Rattle.lp_values.specs.declared.value.Value.TheVariants as values
use Rattle.lp_ops.specs.Effects.{refused}
use Rattle.lp_ops.specs.Operands.{Opened, Number, Chars, Array, Mapping, Object, operand}
use Rattle.lp_ops.specs.Operators.{between, first_place, last_place}
use Rattle.lp_ops.specs.Prices.{price_after, range_after, range_before}
use Rattle.lp_ops.specs.declared.effect.Effect.{Effect}
use Rattle.lp_ops.specs.declared.effect.Effect.TheVariants as effects
use Rattle.lp_ops.specs.declared.end.End.{End}
use Rattle.lp_ops.specs.declared.operation.Operation.TheVariants as operations
use Rattle.lp_isa.specs.Machine.{Moment, Next, on_end, on_one, push_end}
use Rattle.lp_language.specs.Operations.{bound_of, living, part_between, range, seen}
use Rattle.lp_world.specs.declared.frame.Frame.{Frame}
use Rattle.lp_world.specs.declared.live.Live.{Live}
use Rattle.lp_world.specs.declared.objects.Object.{Object as Row}
use Rattle.lp_world.specs.Rows.{live_in}
use Rattle.lp_world.specs.Matches.{Around, Matches, laid}
use Rattle.lp_world.proofs.Closing.{closed_with_cells}
use Rattle.lp_world.proofs.Keeping.{live_same, operand_same}
use Rattle.lp_step.specs.declared.fault.StepFault.{StepFault}
use Rattle.lp_step.specs.declared.next.Next.{Next as Led}
use Rattle.lp_step.specs.declared.worked.Worked.{Worked}
use Rattle.lp_step.specs.RangeWorks.{EndOn, RangesOn}
use Rattle.lp_step.specs.Steps.{IsFine, IsFit, LeadsTo}
use Rattle.lp_step.specs.Works.{AreSizesSame, Works}
use Rattle.lp_step.proofs.Fits.{split_all}
use Rattle.lp_step.proofs.Led.{Left, led}
use Rattle.lp_step.proofs.Moves.{on_one_leads}

-- Ends

on_end_leads : (P : Next → Type 0) (go : Value → List Value → Next) (kind : EndKind) (base stack old rest : List Value) (v : Value) → old ≡ laid base stack → EndOn kind old rest v
    → IsFine (on_end kind stack go) → ((ops : List Value) → rest ≡ laid base ops → IsFine (go v ops) → P (go v ops)) → P (on_end kind stack go)
on_end_leads P go kinds.Start base stack old rest v e f fine k = on_one_leads P go base stack old rest v e f fine k
on_end_leads P go kinds.Back base stack old rest v e f fine k = on_one_leads P go base stack old rest v e f fine k
on_end_leads P go kinds.Open base stack old rest v e f fine k = subst (λ u. P (go u stack)) f.1 (k stack (sym f.0 ∙ e) (subst (λ u. IsFine (go u stack)) (sym f.1) fine))

-- an end takes at most the topmost value, which is there
end_there : (part : Store) (kind : EndKind) (old rest : List Value) (v : Value) → EndOn kind old rest v → All (IsThere part) old → All (IsThere part) rest × IsThere part v
end_there part kinds.Start old rest v e t = let s = split_all (IsThere part) rest (v ∷ []) (subst (All (IsThere part)) e t) in (s.0, All-head (IsThere part) v [] s.1)
end_there part kinds.Back old rest v e t = let s = split_all (IsThere part) rest (v ∷ []) (subst (All (IsThere part)) e t) in (s.0, All-head (IsThere part) v [] s.1)
end_there part kinds.Open old rest v e t = (subst (All (IsThere part)) e.0 t, subst (IsThere part) (sym e.1) tt)

-- Sizes: what a range gives is a text, and what it makes is new

sizes_text : (l : ObjId → Bool) (part : Store) (s : List ℕ) (b : Bool) → AreSizesSame l part (if b then refused TextTooLong else effects.Gives (values.Str s))
sizes_text l part s true whole p = refl
sizes_text l part s false whole p = refl

sizes_items : (l : ObjId → Bool) (part : Store) (vs : List Value) (b : Bool) → AreSizesSame l part (if b then refused TooLong else effects.Makes (contents.Array vs))
sizes_items l part vs true whole p = refl
sizes_items l part vs false whole p = refl

sizes_range : (l : ObjId → Bool) (part : Store) (x : Opened) (a b : Option End) → AreSizesSame l part (part_between x a b)
sizes_range l part (Number n) (Some a) (Some b) whole p = refl
sizes_range l part (Chars s) (Some a) (Some b) whole p = sizes_text l part (between (first_place a (length s)) (last_place b (length s)) s) (nat_lt max_code_points (length (between (first_place a (length s)) (last_place b (length s)) s))) whole p
sizes_range l part (Array c vs) (Some a) (Some b) whole p = sizes_items l part (between (first_place a (length vs)) (last_place b (length vs)) vs) (nat_lt max_items (length (between (first_place a (length vs)) (last_place b (length vs)) vs))) whole p
sizes_range l part (Mapping c ps) (Some a) (Some b) whole p = refl
sizes_range l part (Object o) (Some a) (Some b) whole p = refl
sizes_range l part x (Some a) None whole p = refl
sizes_range l part x None b whole p = refl

-- What a range leads to

pub ranged : (a : Around) (live : Live) (whole : Store) (stack0 stack1 stack2 : List Value) (frame : Frame) (at2 old new : ℕ) (m : Moment) (from to : EndKind) (d : Worked) (n : Led)
    → Matches a live stack0 frame old m → RangesOn from to stack0 stack1 live.objects live.cells old d whole new → Left stack1 frame.at d n stack2 at2
    → IsFine (on_end to m.stack (λ b rest. on_end from rest (λ a rest. on_one rest (λ x rest. push_end (range from to x a b m.state) (m.place + 1) m.catches rest))))
    → LeadsTo a n (record live { cells = whole }) stack2 (record frame { at = at2 }) new (on_end to m.stack (λ b rest. on_end from rest (λ a rest. on_one rest (λ x rest. push_end (range from to x a b m.state) (m.place + 1) m.catches rest))))
unfolding range
ranged a live whole stack0 stack1 stack2 frame at2 old new m from to d n h (x, first, end, mid, eb, ea, tx, ta, tb, w) t fine =
    on_end_leads To (λ b st. on_end from st (λ a st. on_one st (λ x rest. push_end (range from to x a b m.state) (m.place + 1) m.catches rest))) to base m.stack stack0 mid end h.sits.lies eb fine
    (λ ops l f. on_end_leads To (λ a st. on_one st (λ x rest. push_end (range from to x a end m.state) (m.place + 1) m.catches rest)) from base ops mid (stack1 ++ x ∷ []) first l ea f
    (λ ops l f. on_one_leads To (λ x rest. push_end (range from to x first end m.state) (m.place + 1) m.catches rest) base ops (stack1 ++ x ∷ []) stack1 x l refl f
    (λ ops l f. led a live whole stack0 stack1 stack2 frame at2 old new m ops (range_before (seen m.state x) (seen m.state first) (seen m.state end)) (range_after (living m.state) live.cells effect) (range_after (living m.state) m.state.world.cells effect) effect d n h l works
    (λ q. ap (λ k. price_after operations.Range k) (sizes_range (living m.state) live.cells (seen m.state x) (bound_of from (seen m.state first)) (bound_of to (seen m.state end)) m.state.world.cells h.stands.cells)) t)))
  where
    base : List Value
    base = a.below ++ m.state.locals

    To : Next → Type 0
    To z = LeadsTo a n (record live { cells = whole }) stack2 (record frame { at = at2 }) new z

    effect : Effect
    effect = part_between (seen m.state x) (bound_of from (seen m.state first)) (bound_of to (seen m.state end))

    same : (v : Value) → IsThere live.cells v → operand (living m.state) live.cells v ≡ seen m.state v
    same v i = operand_same (living m.state) live.cells m.state.world.cells v h.stands.cells i

    WorksFor : (ObjId → Bool) → Opened → Opened → Opened → Type 0
    WorksFor l p q r = Works (range_before p q r) (part_between p (bound_of from q) (bound_of to r)) (range_after l live.cells (part_between p (bound_of from q) (bound_of to r))) live.cells old d whole new

    works : WorksFor (living m.state) (seen m.state x) (seen m.state first) (seen m.state end)
    works =
        subst (λ r. WorksFor (living m.state) (seen m.state x) (seen m.state first) r) (same end tb)
        (subst (λ q. WorksFor (living m.state) (seen m.state x) q (operand (living m.state) live.cells end)) (same first ta)
        (subst (λ p. WorksFor (living m.state) p (operand (living m.state) live.cells first) (operand (living m.state) live.cells end)) (same x tx)
        (subst (λ l. WorksFor l (operand l live.cells x) (operand l live.cells first) (operand l live.cells end)) (live_same a.told a.programs live m.state.world h.stands) w)))

-- On the stack

pub ranges_ok : (from to : EndKind) (old mid low new : List Value) (objects : List (Option Row)) (part whole : Store) (before after : ℕ) (x a b : Value) (r : Result Worked StepFault)
    → EndOn to old mid b → EndOn from mid low a → low ≡ new ++ x ∷ [] → All (IsThere part) old
    → IfOk r (λ d. Works (range_before (operand (live_in objects) part x) (operand (live_in objects) part a) (operand (live_in objects) part b)) (part_between (operand (live_in objects) part x) (bound_of from (operand (live_in objects) part a)) (bound_of to (operand (live_in objects) part b)))
    (range_after (live_in objects) part (part_between (operand (live_in objects) part x) (bound_of from (operand (live_in objects) part a)) (bound_of to (operand (live_in objects) part b)))) part before d whole after)
    → IfOk r (λ d. RangesOn from to old new objects part before d whole after)
ranges_ok from to old mid low new objects part whole before after x a b (Ok d) eb ea e t w =
    let high = end_there part to old mid b eb t in
    let more = end_there part from mid low a ea high.0 in
    let one = split_all (IsThere part) new (x ∷ []) (subst (All (IsThere part)) e more.0) in
    (x, a, b, mid, eb, subst (λ l. EndOn from mid l a) e ea, All-head (IsThere part) x [] one.1, more.1, high.1, w)
ranges_ok from to old mid low new objects part whole before after x a b (Err f) eb ea e t w = w

-- what is cut is there
pub cut_there : (from to : EndKind) (part : Store) (old mid low new : List Value) (x a b : Value) → EndOn to old mid b → EndOn from mid low a → low ≡ new ++ x ∷ [] → All (IsThere part) old → IsThere part x
cut_there from to part old mid low new x a b eb ea e t =
    let high = end_there part to old mid b eb t in
    let more = end_there part from mid low a ea high.0 in
    All-head (IsThere part) x [] (split_all (IsThere part) new (x ∷ []) (subst (All (IsThere part)) e more.0)).1

-- and so are its ends
pub first_there : (from to : EndKind) (part : Store) (old mid low : List Value) (a b : Value) → EndOn to old mid b → EndOn from mid low a → All (IsThere part) old → IsThere part a
first_there from to part old mid low a b eb ea t = (end_there part from mid low a ea (end_there part to old mid b eb t).0).1

pub last_there : (to : EndKind) (part : Store) (old mid : List Value) (b : Value) → EndOn to old mid b → All (IsThere part) old → IsThere part b
last_there to part old mid b eb t = (end_there part to old mid b eb t).1

-- a state whose cells changed so is fit, with what is left of the stack
pub ranged_fit : (live : Live) (whole : Store) (from to : EndKind) (old mid new : List Value) (x a b : Value) → EndOn to old mid b → EndOn from mid (new ++ x ∷ []) a → KeepsThere live.cells whole → cells.IsClosed whole → IsFit live old → IsFit (record live { cells = whole }) new
ranged_fit live whole from to old mid new x a b eb ea k c f = record {
  closed = closed_with_cells live whole f.closed k c;
  there =
      let high = end_there live.cells to old mid b eb f.there in
      let more = end_there live.cells from mid (new ++ x ∷ []) a ea high.0 in
      All-weaker (IsThere live.cells) (IsThere whole) k new (split_all (IsThere live.cells) new (x ∷ []) more.0).0;
}
