-- Prefix operators on the state and in the world.
use Rattle.std.proofs.Common.{◌≡◌, ◌++◌, ◌∷◌, [], ◌∙◌, ℕ, ℤ, ◌+◌, Bool, true, false, List, Option, Result, Ok, Err, All, IfOk, refl, ap, sym, subst, if◌then◌else◌}
use Rattle.std.specs.Prelude.{⊤, neg_ℤ}
use Rattle.std.proofs.lemmas.List.Elements.{All-head}
use Rattle.lp_cells.specs.Cells.{IsThere, Store}
use Rattle.lp_values.specs.declared.error.ErrorKind.TheVariants.{Overflow}
use Rattle.lp_values.specs.declared.value.Value.{Value}
use Rattle.lp_ops.specs.Effects.{refused}
use Rattle.lp_ops.specs.Integers.{fits, int}
use Rattle.lp_ops.specs.Operands.{Opened, Number, Chars, Array, Mapping, Object, operand}
use Rattle.lp_ops.specs.Operators as operators
use Rattle.lp_ops.specs.declared.effect.Effect.{Effect}
use Rattle.lp_ops.specs.declared.effect.Effect.TheVariants as effects
use Rattle.lp_tree.specs.declared.operator.UnOp.{UnOp}
use Rattle.lp_tree.specs.declared.operator.UnOp.TheVariants.{Not, Flip, Neg}
use Rattle.lp_isa.specs.Machine.{Moment, Next, on_one, push_end}
use Rattle.lp_language.specs.Operations.{living, seen, unary}
use Rattle.lp_world.specs.declared.frame.Frame.{Frame}
use Rattle.lp_world.specs.declared.live.Live.{Live}
use Rattle.lp_world.specs.declared.objects.Object.{Object as Row}
use Rattle.lp_world.specs.Rows.{live_in}
use Rattle.lp_world.specs.Matches.{Around, Matches}
use Rattle.lp_world.proofs.Keeping.{live_same, operand_same}
use Rattle.lp_step.specs.declared.fault.StepFault.{StepFault}
use Rattle.lp_step.specs.declared.next.Next.{Next as Led}
use Rattle.lp_step.specs.declared.worked.Worked.{Worked}
use Rattle.lp_step.specs.Steps.{IsFine, IsFit, LeadsTo}
use Rattle.lp_step.specs.Works.{UnaryOn, Works}
use Rattle.lp_step.proofs.Fits.{popped_fit, split_all}
use Rattle.lp_step.proofs.Led.{Left, led}
use Rattle.lp_step.proofs.Moves.{on_one_leads}

-- what a prefix operator gives is there: it is an integer
abbrev IsGivenThere : Store → Effect → Type 0
IsGivenThere cells (effects.Gives v) = IsThere cells v
IsGivenThere cells (effects.Makes x) = ⊤
IsGivenThere cells (effects.Fault e) = ⊤

whole_given : (cells : Store) (n : ℤ) (b : Bool) → IsGivenThere cells (if b then int n else refused Overflow)
whole_given cells n true = tt
whole_given cells n false = tt

unary_given : (cells : Store) (op : UnOp) (x : Opened) → IsGivenThere cells (operators.unary op x)
unary_given cells Not x = tt
unary_given cells Flip (Number n) = tt
unary_given cells Flip (Chars s) = tt
unary_given cells Flip (Array c vs) = tt
unary_given cells Flip (Mapping c ps) = tt
unary_given cells Flip (Object o) = tt
unary_given cells Neg (Number n) = whole_given cells (neg_ℤ n) (fits (neg_ℤ n))
unary_given cells Neg (Chars s) = tt
unary_given cells Neg (Array c vs) = tt
unary_given cells Neg (Mapping c ps) = tt
unary_given cells Neg (Object o) = tt

pub unary_there : (cells : Store) (op : UnOp) (x : Opened) (v : Value) → operators.unary op x ≡ effects.Gives v → IsThere cells v
unary_there cells op x v e = subst (IsGivenThere cells) e (unary_given cells op x)

pub unary_ok : (op : UnOp) (old new : List Value) (objects : List (Option Row)) (cells : Store) (before after : ℕ) (x : Value) (r : Result Worked StepFault)
    → old ≡ new ++ x ∷ [] → All (IsThere cells) old
    → IfOk r (λ d. Works 1 (operators.unary op (operand (live_in objects) cells x)) 0 cells before d cells after)
    → IfOk r (λ d. UnaryOn op old new objects cells before d after)
unary_ok op old new objects cells before after x (Ok d) e t w =
    let one = split_all (IsThere cells) new (x ∷ []) (subst (All (IsThere cells)) e t) in
    (x, e, All-head (IsThere cells) x [] one.1, w)
unary_ok op old new objects cells before after x (Err f) e t w = w

pub prefixed : (a : Around) (live : Live) (whole : Store) (stack0 stack1 stack2 : List Value) (frame : Frame) (at2 old new : ℕ) (m : Moment) (op : UnOp) (d : Worked) (n : Led)
    → Matches a live stack0 frame old m → whole ≡ live.cells → UnaryOn op stack0 stack1 live.objects live.cells old d new → Left stack1 frame.at d n stack2 at2
    → IsFine (on_one m.stack (λ x rest. push_end (unary op x m.state) (m.place + 1) m.catches rest))
    → LeadsTo a n (record live { cells = whole }) stack2 (record frame { at = at2 }) new (on_one m.stack (λ x rest. push_end (unary op x m.state) (m.place + 1) m.catches rest))
unfolding unary
prefixed a live whole stack0 stack1 stack2 frame at2 old new m op d n h c (x, e, tx, w) t fine =
    on_one_leads To (λ x rest. push_end (unary op x m.state) (m.place + 1) m.catches rest) (a.below ++ m.state.locals) m.stack stack0 stack1 x h.sits.lies e fine
    (λ ops l f. led a live whole stack0 stack1 stack2 frame at2 old new m ops 1 0 0 (operators.unary op (seen m.state x)) d n h l
    (subst (λ k. Works 1 (operators.unary op (seen m.state x)) 0 live.cells old d k new) (sym c) (subst (λ q. Works 1 (operators.unary op q) 0 live.cells old d live.cells new) same w)) (λ q. refl) t)
  where
    To : Next → Type 0
    To y = LeadsTo a n (record live { cells = whole }) stack2 (record frame { at = at2 }) new y

    same : operand (live_in live.objects) live.cells x ≡ seen m.state x
    same = ap (λ l. operand l live.cells x) (live_same a.told a.programs live m.state.world h.stands) ∙ operand_same (living m.state) live.cells m.state.world.cells x h.stands.cells tx

pub same_cells_fit : (live : Live) (whole : Store) (old new : List Value) (x : Value) → old ≡ new ++ x ∷ [] → whole ≡ live.cells → IsFit live old → IsFit (record live { cells = whole }) new
same_cells_fit live whole old new x e c f = subst (λ k. IsFit (record live { cells = k }) new) (sym c) (popped_fit live old new x e f).0
