-- Reading at an index on the state and in the world.
use Rattle.std.proofs.Common.{◌≡◌, ◌++◌, ◌∷◌, [], ◌∙◌, ℕ, ◌+◌, Bool, List, Option, Result, Ok, Err, All, IfOk, refl, ap, subst}
use Rattle.std.proofs.lemmas.List.Elements.{All-head}
use Rattle.lp_cells.specs.Cells.{IsThere, Store}
use Rattle.lp_values.specs.declared.value.Value.{Value}
use Rattle.lp_ops.specs.Operands.{operand}
use Rattle.lp_ops.specs.Operators as operators
use Rattle.lp_tree.specs.declared.expr.Edge.{Edge}
use Rattle.lp_isa.specs.Machine.{Moment, Next, on_one, on_two, push_end}
use Rattle.lp_language.specs.Operations.{is_back, item, living, seen}
use Rattle.lp_world.specs.declared.frame.Frame.{Frame}
use Rattle.lp_world.specs.declared.live.Live.{Live}
use Rattle.lp_world.specs.declared.objects.Object.{Object}
use Rattle.lp_world.specs.Rows.{live_in}
use Rattle.lp_world.specs.Matches.{Around, Matches}
use Rattle.lp_world.proofs.Keeping.{live_same, operand_same}
use Rattle.lp_step.specs.declared.fault.StepFault.{StepFault}
use Rattle.lp_step.specs.declared.next.Next.{Next as Led}
use Rattle.lp_step.specs.declared.worked.Worked.{Worked}
use Rattle.lp_step.specs.Steps.{IsFine, IsFit, LeadsTo}
use Rattle.lp_step.specs.Works.{IndexesOn, Works}
use Rattle.lp_step.proofs.Fits.{popped_fit, split_all}
use Rattle.lp_step.proofs.Led.{Left, led}
use Rattle.lp_step.proofs.Moves.{on_one_leads}

pub indexed : (a : Around) (live : Live) (stack0 stack1 stack2 : List Value) (frame : Frame) (at2 old new : ℕ) (m : Moment) (edge : Edge) (d : Worked) (n : Led)
    → Matches a live stack0 frame old m → IndexesOn (is_back edge) stack0 stack1 live.objects live.cells old d new → Left stack1 frame.at d n stack2 at2
    → IsFine (on_two m.stack (λ x i rest. push_end (item edge x i m.state) (m.place + 1) m.catches rest))
    → LeadsTo a n live stack2 (record frame { at = at2 }) new (on_two m.stack (λ x i rest. push_end (item edge x i m.state) (m.place + 1) m.catches rest))
unfolding item
indexed a live stack0 stack1 stack2 frame at2 old new m edge d n h (x, i, e, tx, ti, w) t fine =
    on_one_leads To (λ y st. on_one st (λ x rest. push_end (item edge x y m.state) (m.place + 1) m.catches rest)) base m.stack stack0 (stack1 ++ x ∷ []) i h.sits.lies e fine
    (λ ops l f. on_one_leads To (λ x rest. push_end (item edge x i m.state) (m.place + 1) m.catches rest) base ops (stack1 ++ x ∷ []) stack1 x l refl f
    (λ ops l f. led a live live.cells stack0 stack1 stack2 frame at2 old new m ops 1 0 0 (operators.index (living m.state) (is_back edge) (seen m.state x) (seen m.state i)) d n h l
    (subst (λ z. Works 1 z 0 live.cells old d live.cells new) same w) (λ q. refl) t))
  where
    base : List Value
    base = a.below ++ m.state.locals

    To : Next → Type 0
    To y = LeadsTo a n live stack2 (record frame { at = at2 }) new y

    same : operators.index (live_in live.objects) (is_back edge) (operand (live_in live.objects) live.cells x) (operand (live_in live.objects) live.cells i) ≡ operators.index (living m.state) (is_back edge) (seen m.state x) (seen m.state i)
    same = ap (λ q. operators.index (live_in live.objects) (is_back edge) q (operand (live_in live.objects) live.cells i)) (operand_same (live_in live.objects) live.cells m.state.world.cells x h.stands.cells tx)
        ∙ ap (λ q. operators.index (live_in live.objects) (is_back edge) (operand (live_in live.objects) m.state.world.cells x) q) (operand_same (live_in live.objects) live.cells m.state.world.cells i h.stands.cells ti)
        ∙ ap (λ q. operators.index q (is_back edge) (operand q m.state.world.cells x) (operand q m.state.world.cells i)) (live_same a.told a.programs live m.state.world h.stands)

-- two values were taken
pub taken_two : (live : Live) (old new : List Value) (x y : Value) → old ≡ (new ++ x ∷ []) ++ y ∷ [] → IsFit live old → IsFit live new
taken_two live old new x y e f = (popped_fit live (new ++ x ∷ []) new x refl (popped_fit live old (new ++ x ∷ []) y e f).0).0

-- the two that were taken are there
pub indexes_ok : (back : Bool) (old mid new : List Value) (objects : List (Option Object)) (cells : Store) (before after : ℕ) (x i : Value) (r : Result Worked StepFault)
    → old ≡ mid ++ i ∷ [] → mid ≡ new ++ x ∷ [] → All (IsThere cells) old
    → IfOk r (λ d. Works 1 (operators.index (live_in objects) back (operand (live_in objects) cells x) (operand (live_in objects) cells i)) 0 cells before d cells after)
    → IfOk r (λ d. IndexesOn back old new objects cells before d after)
indexes_ok back old mid new objects cells before after x i (Ok d) e f t w =
    let whole : old ≡ (new ++ x ∷ []) ++ i ∷ [] = e ∙ ap (λ l. l ++ i ∷ []) f in
    let both = split_all (IsThere cells) (new ++ x ∷ []) (i ∷ []) (subst (All (IsThere cells)) whole t) in
    let one = split_all (IsThere cells) new (x ∷ []) both.0 in
    (x, i, whole, All-head (IsThere cells) x [] one.1, All-head (IsThere cells) i [] both.1, w)
indexes_ok back old mid new objects cells before after x i (Err f) e g t w = w
