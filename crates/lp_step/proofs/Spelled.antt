-- Arrays and mappings that are spelled out, on the state and in the world.
use Rattle.std.proofs.Common.{◌≡◌, ◌++◌, ◌∷◌, [], ◌∙◌, ℕ, zero, suc, ◌+◌, Bool, true, false, List, Option, Result, Ok, Err, All, IfOk, refl, ap, sym, subst, arith, if◌then◌else◌, nat_lt, length}
use Rattle.std.specs.List.{fold, sum_by}
use Rattle.std.proofs.lemmas.List.Elements.{All-head, All-tail, All-weaker}
use Rattle.std.proofs.lemmas.List.Sums.{sum_by-cons, sum_by_from}
use mathlib.Core.Path.{fun_ext}
use Rattle.lp_cells.specs.Cells as cells
use Rattle.lp_cells.specs.Cells.{IsThere, KeepsThere, Store}
use Rattle.lp_cells.specs.Mapping.{pairs_of}
use Rattle.lp_cells.specs.declared.content.Content.{Content}
use Rattle.lp_values.specs.Limits.{max_items}
use Rattle.lp_values.specs.Read.{as_read}
use Rattle.lp_values.specs.declared.error.ErrorKind.TheVariants.{TooLong}
use Rattle.lp_values.specs.declared.id.ObjId.{ObjId}
use Rattle.lp_values.specs.declared.value.Value.{Value}
use Rattle.lp_ops.specs.Effects.{refused, within}
use Rattle.lp_ops.specs.Operands.{operand, size_of}
use Rattle.lp_ops.specs.Operators.{mapping}
use Rattle.lp_ops.specs.Prices.{literal_after, literal_before, share, size_made}
use Rattle.lp_ops.specs.declared.effect.Effect.{Effect}
use Rattle.lp_ops.specs.declared.effect.Effect.TheVariants as effects
use Rattle.lp_isa.specs.Machine.{Moment, Next, push_end, take_arguments}
use Rattle.lp_language.specs.Course.{State}
use Rattle.lp_language.specs.Operations.{cells_of, literal, living, new_array, new_mapping, paired, seen, total_size}
use Rattle.lp_world.specs.declared.frame.Frame.{Frame}
use Rattle.lp_world.specs.declared.live.Live.{Live}
use Rattle.lp_world.specs.declared.objects.Object.{Object}
use Rattle.lp_world.specs.Rows.{live_in}
use Rattle.lp_world.specs.Stands.{IsPart}
use Rattle.lp_world.specs.Matches.{Around, Matches, laid}
use Rattle.lp_world.proofs.Closing.{closed_with_cells}
use Rattle.lp_world.proofs.Keeping.{live_same, operand_same}
use Rattle.lp_step.specs.declared.fault.StepFault.{StepFault}
use Rattle.lp_step.specs.declared.next.Next.{Next as Led}
use Rattle.lp_step.specs.declared.worked.Worked.{Worked}
use Rattle.lp_step.specs.LiteralWorks.{SpellsOn, array_of, by_turns, mapping_of}
use Rattle.lp_step.specs.Steps.{IsFine, IsFit, LeadsTo}
use Rattle.lp_step.specs.Works.{AreSizesSame, Works}
use Rattle.lp_step.proofs.Fits.{split_all}
use Rattle.lp_step.proofs.Led.{Left, led}
use Rattle.lp_step.proofs.Moves.{last}

-- Operands

-- a list that is not empty has a last item
split_last : {A : Type 0} (n : ℕ) (xs : List A) → length xs ≡ suc n → (ys : List A) × (y : A) × (xs ≡ ys ++ y ∷ []) × (length ys ≡ n)
split_last n [] e = absurd (omega (arith, e))
split_last n (x ∷ []) e = ([], x, refl, omega (arith, e))
split_last zero (x ∷ y ∷ xs) e = absurd (omega (arith, e))
split_last (suc n) (x ∷ y ∷ xs) e =
    let t = split_last n (y ∷ xs) (omega (arith, e)) in
    (x ∷ t.0, t.1, ap (λ l. x ∷ l) t.2, omega (arith, t.3))

nothing : {A : Type 0} (xs : List A) → length xs ≡ 0 → xs ≡ []
nothing [] e = refl
nothing (x ∷ xs) e = absurd (omega (arith, e))

append_nothing : {A : Type 0} (xs : List A) → xs ++ [] ≡ xs
append_nothing [] = refl
append_nothing (x ∷ xs) = ap (λ l. x ∷ l) (append_nothing xs)

append_more : {A : Type 0} (xs ys zs : List A) → (xs ++ ys) ++ zs ≡ xs ++ (ys ++ zs)
append_more [] ys zs = refl
append_more (x ∷ xs) ys zs = ap (λ l. x ∷ l) (append_more xs ys zs)

pub take_leads : (P : Next → Type 0) (go : List Value → List Value → Next) (base : List Value) (n : ℕ) (taken stack old rest top : List Value) → old ≡ laid base stack → old ≡ rest ++ top → length top ≡ n
    → IsFine (take_arguments n taken stack go) → ((ops : List Value) → rest ≡ laid base ops → IsFine (go (top ++ taken) ops) → P (go (top ++ taken) ops)) → P (take_arguments n taken stack go)
take_leads P go base zero taken stack old rest top e f l fine k =
    let q : top ≡ [] = nothing top l in
    let r : rest ≡ laid base stack = sym (append_nothing rest) ∙ ap (λ t. rest ++ t) (sym q) ∙ sym f ∙ e in
    subst (λ t. P (go (t ++ taken) stack)) q (k stack r (subst (λ t. IsFine (go (t ++ taken) stack)) (sym q) fine))
take_leads P go base (suc n) taken [] old rest top e f l fine k = absurd fine
take_leads P go base (suc n) taken (x ∷ xs) old rest top e f l fine k =
    let s = split_last n top l in
    let g : old ≡ (rest ++ s.0) ++ s.1 ∷ [] = f ∙ ap (λ t. rest ++ t) s.2 ∙ sym (append_more rest s.0 (s.1 ∷ [])) in
    let t = last (laid base xs) (rest ++ s.0) x s.1 (sym e ∙ g) in
    let whole : s.0 ++ (x ∷ taken) ≡ top ++ taken = ap (λ u. s.0 ++ (u ∷ taken)) t.1 ∙ sym (append_more s.0 (s.1 ∷ []) taken) ∙ ap (λ l. l ++ taken) (sym s.2) in
    take_leads P go base n (x ∷ taken) xs (laid base xs) rest s.0 refl t.0 s.3 fine
    (λ ops r h. subst (λ l. P (go l ops)) (sym whole) (k ops r (subst (λ l. IsFine (go l ops)) whole h)))

-- Prices

sizes_sum : (l : ObjId → Bool) (part whole : Store) (xs : List Value) → IsPart part whole → All (IsThere part) xs → sum_by (λ v. size_of (operand l part v)) xs ≡ sum_by (λ v. size_of (operand l whole v)) xs
sizes_sum l part whole [] p t = refl
sizes_sum l part whole (x ∷ xs) p t =
    let one : size_of (operand l part x) ≡ size_of (operand l whole x) = ap size_of (operand_same l part whole x p (All-head (IsThere part) x xs t)) in
    let more : sum_by (λ v. size_of (operand l part v)) xs ≡ sum_by (λ v. size_of (operand l whole v)) xs = sizes_sum l part whole xs p (All-tail (IsThere part) x xs t) in
    sum_by-cons (λ v. size_of (operand l part v)) x xs ∙ ap (λ k. k + sum_by (λ v. size_of (operand l part v)) xs) one ∙ ap (λ k. size_of (operand l whole x) + k) more ∙ sym (sum_by-cons (λ v. size_of (operand l whole v)) x xs)

from_none : (f : Value → ℕ) (xs : List Value) → sum_by f xs ≡ fold (λ n v. n + f v) 0 xs
from_none f xs = omega (arith, sum_by_from f 0 xs)

before_same : (s : State) (part : Store) (xs : List Value) → IsPart part (cells_of s) → All (IsThere part) xs → literal_before (living s) part xs ≡ 1 + share (total_size s xs)
before_same s part xs p t = ap (λ n. 1 + share n) (sizes_sum (living s) part (cells_of s) xs p t ∙ from_none (λ v. size_of (seen s v)) xs)

-- what a literal makes is as long in any cells: nothing of it is looked up
sizes_if : (l : ObjId → Bool) (part : Store) (x : Content) (b : Bool) → AreSizesSame l part (if b then refused TooLong else effects.Makes x)
sizes_if l part x true whole p = refl
sizes_if l part x false whole p = refl

sizes_array : (l : ObjId → Bool) (part : Store) (xs : List Value) → AreSizesSame l part (array_of l xs)
sizes_array l part xs whole p = sizes_if l part (Content.Array xs) (nat_lt max_items (length xs)) whole p

sizes_mapping : (l : ObjId → Bool) (part : Store) (xs : List Value) → AreSizesSame l part (mapping_of l xs)
sizes_mapping l part xs whole p = sizes_if l part (Content.Mapping (pairs_of (by_turns l xs))) (nat_lt max_items (length (pairs_of (by_turns l xs)))) whole p

-- What a literal leads to

spelled : (a : Around) (live : Live) (whole : Store) (stack0 stack1 stack2 : List Value) (frame : Frame) (at2 old new : ℕ) (m : Moment) (k : ℕ) (make : (ObjId → Bool) → List Value → Effect) (d : Worked) (n : Led)
    → ((xs : List Value) → AreSizesSame (living m.state) live.cells (make (living m.state) xs))
    → Matches a live stack0 frame old m → SpellsOn make k stack0 stack1 live.objects live.cells old d whole new → Left stack1 frame.at d n stack2 at2
    → IsFine (take_arguments k [] m.stack (λ xs rest. push_end (literal (total_size m.state xs) (make (living m.state) xs) m.state) (m.place + 1) m.catches rest))
    → LeadsTo a n (record live { cells = whole }) stack2 (record frame { at = at2 }) new (take_arguments k [] m.stack (λ xs rest. push_end (literal (total_size m.state xs) (make (living m.state) xs) m.state) (m.place + 1) m.catches rest))
spelled a live whole stack0 stack1 stack2 frame at2 old new m k make d n sizes h (xs, e, l, t, w) left fine =
    take_leads To go (a.below ++ m.state.locals) k [] m.stack stack0 stack1 xs h.sits.lies e l fine
    (λ ops r f. subst (λ ys. To (go ys ops)) (sym (append_nothing xs))
    (led a live whole stack0 stack1 stack2 frame at2 old new m ops (1 + share (total_size m.state xs)) (literal_after (living m.state) live.cells (make (living m.state) xs)) (share (size_made (living m.state) m.state.world.cells (make (living m.state) xs))) (make (living m.state) xs) d n h r
    works (λ q. ap share (sizes xs m.state.world.cells h.stands.cells)) left))
  where
    To : Next → Type 0
    To z = LeadsTo a n (record live { cells = whole }) stack2 (record frame { at = at2 }) new z

    go : List Value → List Value → Next
    go xs rest = push_end (literal (total_size m.state xs) (make (living m.state) xs) m.state) (m.place + 1) m.catches rest

    works : Works (1 + share (total_size m.state xs)) (make (living m.state) xs) (literal_after (living m.state) live.cells (make (living m.state) xs)) live.cells old d whole new
    works = subst (λ b. Works b (make (living m.state) xs) (literal_after (living m.state) live.cells (make (living m.state) xs)) live.cells old d whole new) (before_same m.state live.cells xs h.stands.cells t)
        (subst (λ l. Works (literal_before l live.cells xs) (make l xs) (literal_after l live.cells (make l xs)) live.cells old d whole new) (live_same a.told a.programs live m.state.world h.stands) w)

pub array_spelled : (a : Around) (live : Live) (whole : Store) (stack0 stack1 stack2 : List Value) (frame : Frame) (at2 old new : ℕ) (m : Moment) (k : ℕ) (d : Worked) (n : Led)
    → Matches a live stack0 frame old m → SpellsOn array_of k stack0 stack1 live.objects live.cells old d whole new → Left stack1 frame.at d n stack2 at2
    → IsFine (take_arguments k [] m.stack (λ xs rest. push_end (new_array xs m.state) (m.place + 1) m.catches rest))
    → LeadsTo a n (record live { cells = whole }) stack2 (record frame { at = at2 }) new (take_arguments k [] m.stack (λ xs rest. push_end (new_array xs m.state) (m.place + 1) m.catches rest))
unfolding new_array
array_spelled a live whole stack0 stack1 stack2 frame at2 old new m k d n h w t fine =
    spelled a live whole stack0 stack1 stack2 frame at2 old new m k array_of d n (sizes_array (living m.state) live.cells) h w t fine

turns_same : (s : State) (xs : List Value) → paired s xs ≡ by_turns (living s) xs
turns_same s [] = refl
turns_same s (k ∷ []) = refl
turns_same s (k ∷ v ∷ vs) = ap (λ ps. (as_read (living s) k, v) ∷ ps) (turns_same s vs)

pub mapping_spelled : (a : Around) (live : Live) (whole : Store) (stack0 stack1 stack2 : List Value) (frame : Frame) (at2 old new : ℕ) (m : Moment) (k : ℕ) (d : Worked) (n : Led)
    → Matches a live stack0 frame old m → SpellsOn mapping_of k stack0 stack1 live.objects live.cells old d whole new → Left stack1 frame.at d n stack2 at2
    → IsFine (take_arguments k [] m.stack (λ xs rest. push_end (new_mapping xs m.state) (m.place + 1) m.catches rest))
    → LeadsTo a n (record live { cells = whole }) stack2 (record frame { at = at2 }) new (take_arguments k [] m.stack (λ xs rest. push_end (new_mapping xs m.state) (m.place + 1) m.catches rest))
unfolding new_mapping
mapping_spelled a live whole stack0 stack1 stack2 frame at2 old new m k d n h w t fine =
    subst (λ f. To (all f)) (sym turns)
    (spelled a live whole stack0 stack1 stack2 frame at2 old new m k mapping_of d n (sizes_mapping (living m.state) live.cells) h w t (subst (λ f. IsFine (all f)) turns fine))
  where
    To : Next → Type 0
    To z = LeadsTo a n (record live { cells = whole }) stack2 (record frame { at = at2 }) new z

    all : (List Value → List (Value × Value)) → Next
    all f = take_arguments k [] m.stack (λ xs rest. push_end (literal (total_size m.state xs) (within (mapping (pairs_of (f xs)))) m.state) (m.place + 1) m.catches rest)

    turns : paired m.state ≡ by_turns (living m.state)
    turns = fun_ext (λ xs. turns_same m.state xs)

-- On the stack

-- those that were taken are there
pub taken_there : (part : Store) (old new xs : List Value) → old ≡ new ++ xs → All (IsThere part) old → All (IsThere part) xs
taken_there part old new xs e t = (split_all (IsThere part) new xs (subst (All (IsThere part)) e t)).1

pub spells_ok : (make : (ObjId → Bool) → List Value → Effect) (k : ℕ) (old new xs : List Value) (objects : List (Option Object)) (part whole : Store) (before after : ℕ) (r : Result Worked StepFault)
    → old ≡ new ++ xs → length xs ≡ k → All (IsThere part) old
    → IfOk r (λ d. Works (literal_before (live_in objects) part xs) (make (live_in objects) xs) (literal_after (live_in objects) part (make (live_in objects) xs)) part before d whole after)
    → IfOk r (λ d. SpellsOn make k old new objects part before d whole after)
spells_ok make k old new xs objects part whole before after (Ok d) e l t w = (xs, e, l, taken_there part old new xs e t, w)
spells_ok make k old new xs objects part whole before after (Err f) e l t w = w

-- a state whose cells changed so is fit, with what is left of the stack
pub spelled_fit : (live : Live) (whole : Store) (old new xs : List Value) → old ≡ new ++ xs → KeepsThere live.cells whole → cells.IsClosed whole → IsFit live old → IsFit (record live { cells = whole }) new
spelled_fit live whole old new xs e k c f = record {
  closed = closed_with_cells live whole f.closed k c;
  there = All-weaker (IsThere live.cells) (IsThere whole) k new (split_all (IsThere live.cells) new xs (subst (All (IsThere live.cells)) e f.there)).0;
}
