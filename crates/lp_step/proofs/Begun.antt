-- The copy that a loop goes over, in the state and in the world.
use Rattle.std.proofs.Common.{◌≡◌, ◌++◌, ◌∷◌, [], ◌∙◌, ℕ, ◌+◌, ◌-◌, pos, Bool, true, false, List, Option, Result, Ok, Err, IfOk, refl, ap, sym, subst, arith, append-nil, append_assoc, length, map, nat_lt, if◌then◌else◌, is_some}
use Rattle.std.specs.List.{AllByRecursion, IsDistinct}
use Rattle.std.proofs.lemmas.Bool.{cond-false, le-ltb, true≢false}
use Rattle.std.proofs.lemmas.List.Elements.{All-weaker}
use Rattle.std.proofs.lemmas.Map.Made.{IsDistinct-keys_filter}
use Rattle.indexmap.specs.IndexMap.{insert_all, insert_entry}
use Rattle.lp_values.specs.Read.{as_read, live_part, value_eq}
use Rattle.lp_values.specs.declared.error.RunError.{RunError}
use Rattle.lp_values.specs.declared.id.ObjId.{ObjId}
use Rattle.lp_values.specs.declared.value.Value.{Value}
use Rattle.lp_values.specs.declared.value.Value.TheVariants.{Int}
use Rattle.lp_values.proofs.ReadLemmas.{value_eq_one, value_eq_refl}
use Rattle.lp_cells.specs.Cells.{IsThere, Store, with_cell}
use Rattle.lp_cells.specs.Mapping.{HasDistinctKeys, pairs_there}
use Rattle.lp_ops.specs.Effects.{IsEffectThere, Meets, Yields, reference}
use Rattle.lp_ops.specs.Operands.{Opened, Number, Chars, Array, Mapping, Object, operand}
use Rattle.lp_ops.specs.declared.effect.Effect.{Effect}
use Rattle.lp_ops.specs.declared.effect.Effect.TheVariants as effects
use Rattle.lp_ops.specs.declared.fault.OpFault.{OpFault}
use Rattle.lp_ops.specs.declared.fault.OpFault.TheVariants as faults
use Rattle.lp_ops.proofs.ClosedLemmas.{IsOpenedThere, meets_closed, meets_stay, opened_there}
use Rattle.lp_language.specs.Course.{State, Spent, Gives, Stops, here}
use Rattle.lp_language.specs.World.{World, with_cells}
use Rattle.lp_language.specs.Operations.{copied, copy_effect, finished, living, seen}
use Rattle.lp_isa.specs.Machine.{Moment, Next, end_then, goes, on_one}
use Rattle.lp_world.specs.declared.frame.Frame.{Frame}
use Rattle.lp_world.specs.declared.live.Live.{Live}
use Rattle.lp_world.specs.declared.objects.Object.{Object as Row}
use Rattle.lp_world.specs.Rows.{live_in}
use Rattle.lp_world.specs.Stands.{Stands}
use Rattle.lp_world.specs.Matches.{Around, Matches, laid}
use Rattle.lp_world.proofs.Closing.{closed_with_cells}
use Rattle.lp_world.proofs.Keeping.{live_same, operand_same, stands_with_cell}
use Rattle.lp_step.specs.declared.next.Next.TheVariants as nexts
use Rattle.lp_step.specs.Steps.{IsFine, IsFit, LeadsTo}
use Rattle.lp_step.specs.Each.{CopiesOn}
use Rattle.lp_step.proofs.Fits.{popped_fit}
use Rattle.lp_step.proofs.Led.{at_world}
use Rattle.lp_step.proofs.Moves.{on_one_leads}

-- Pairs with distinct keys, put one after another, are these pairs

flip : (x y : Value) → value_eq x y ≡ false → value_eq y x ≡ false
flip x y h = by (value_eq y x) refl
  where
    by : (b : Bool) → value_eq y x ≡ b → b ≡ false
    by true e = absurd (true≢false (sym (subst (λ v. value_eq x v ≡ true) (sym (value_eq_one y x e)) (value_eq_refl x)) ∙ h))
    by false e = refl

insert_last : (es : List (Value × Value)) (k v : Value) → AllByRecursion (λ e. value_eq k e.0 ≡ false) es → insert_entry value_eq es k v ≡ es ++ (k, v) ∷ []
insert_last [] k v h = refl
insert_last (e ∷ es) k v h = cond-false (value_eq k e.0) ((e.0, v) ∷ es) (e ∷ insert_entry value_eq es k v) h.0 ∙ ap (λ x. e ∷ x) (insert_last es k v h.1)

abbrev News : List (Value × Value) → List (Value × Value) → Type 0
News es rs = AllByRecursion (λ r. AllByRecursion (λ e. value_eq r.0 e.0 ≡ false) es) rs

news_one : (k : Value) (es : List (Value × Value)) (r : Value × Value) → AllByRecursion (λ e. value_eq k e.0 ≡ false) es → value_eq k r.0 ≡ false → AllByRecursion (λ e. value_eq k e.0 ≡ false) (es ++ r ∷ [])
news_one k [] r h g = (g, tt)
news_one k (e ∷ es) r h g = (h.0, news_one k es r h.1 g)

news_more : (es rs : List (Value × Value)) (r : Value × Value) → News es rs → AllByRecursion (λ y. value_eq r.0 y ≡ false) (map (λ p. p.0) rs) → News (es ++ r ∷ []) rs
news_more es [] r h g = tt
news_more es (q ∷ rs) r h g = (news_one q.0 es r h.0 (flip r.0 q.0 g.0), news_more es rs r h.1 g.1)

all_last : (es rs : List (Value × Value)) → News es rs → IsDistinct value_eq (map (λ p. p.0) rs) → insert_all value_eq es rs ≡ es ++ rs
unfolding IsDistinct
all_last es [] h a = sym (append-nil es)
all_last es (r ∷ rs) h a = ap (λ x. insert_all value_eq x rs) (insert_last es r.0 r.1 h.0) ∙ all_last (es ++ r ∷ []) rs (news_more es rs r h.1 a.0) a.1 ∙ append_assoc es (r ∷ []) rs

news_none : (rs : List (Value × Value)) → News [] rs
news_none [] = tt
news_none (r ∷ rs) = (tt, news_none rs)

pub there_again : (live : ObjId → Bool) (ps : List (Value × Value)) → HasDistinctKeys ps → insert_all value_eq [] (pairs_there live ps) ≡ pairs_there live ps
there_again live ps d = all_last [] (pairs_there live ps) (news_none (pairs_there live ps)) (IsDistinct-keys_filter value_eq (λ p. is_some (live_part live p.0)) ps d)

-- What a loop begins with

pub copies_ok : (old new : List Value) (x : Value) (objects : List (Option Row)) (cells0 cells1 : Store) (r : Result Value OpFault)
    → old ≡ new ++ x ∷ [] → IsThere cells0 x → Meets (copy_effect (operand (live_in objects) cells0 x)) cells0 cells1 r → CopiesOn old new objects cells0 cells1 r
copies_ok old new x objects cells0 cells1 r e t m = (x, e, t, m)

none_less : (n : ℕ) → nat_lt n 0 ≡ false
none_less n = le-ltb n 0 (omega arith)

pub begun : (a : Around) (live : Live) (whole : Store) (stack0 stack1 stack2 : List Value) (frame : Frame) (budget : ℕ) (m : Moment) (v : Value)
    → Matches a live stack0 frame budget m → CopiesOn stack0 stack1 live.objects live.cells whole (Ok v) → stack2 ≡ (stack1 ++ v ∷ []) ++ Int (pos 0) ∷ []
    → IsFine (on_one m.stack (λ v rest. end_then (copied v m.state) m.catches rest (λ copy s. goes (m.place + 1) (Int (pos 0) ∷ copy ∷ rest) m.catches s)))
    → LeadsTo a nexts.Again (record live { cells = whole }) stack2 (record frame { at = frame.at + 1 }) budget
    (on_one m.stack (λ v rest. end_then (copied v m.state) m.catches rest (λ copy s. goes (m.place + 1) (Int (pos 0) ∷ copy ∷ rest) m.catches s)))
unfolding copied
begun a live whole stack0 stack1 stack2 frame budget m v h (x, e, tx, y) z fine =
    on_one_leads To (λ v rest. end_then (copied v m.state) m.catches rest (next rest)) (a.below ++ m.state.locals) m.stack stack0 stack1 x h.sits.lies e fine
    (λ ops l f. by (copy_effect (seen m.state x)) (subst (λ q. Yields (copy_effect q) live.cells whole v) same y) ops l)
  where
    To : Next → Type 0
    To n = LeadsTo a nexts.Again (record live { cells = whole }) stack2 (record frame { at = frame.at + 1 }) budget n

    next : List Value → Value → State → Next
    next rest copy s = goes (m.place + 1) (Int (pos 0) ∷ copy ∷ rest) m.catches s

    same : operand (live_in live.objects) live.cells x ≡ seen m.state x
    same = ap (λ l. operand l live.cells x) (live_same a.told a.programs live m.state.world h.stands) ∙ operand_same (living m.state) live.cells m.state.world.cells x h.stands.cells tx

    goes_on : (w : World) (u : Value) (ops : List Value) → Stands a.told a.programs (record live { cells = whole }) w → v ≡ u → stack1 ≡ laid (a.below ++ m.state.locals) ops
        → To (end_then (if nat_lt m.state.budget 0 then Stops (here Spent) (record m.state { world = w; budget = 0 }) else Gives u (record m.state { world = w; budget = m.state.budget - 0 })) m.catches ops (next ops))
    goes_on w u ops s q l =
        subst (λ b. To (end_then (if b then Stops (here Spent) (record m.state { world = w; budget = 0 }) else Gives u (record m.state { world = w; budget = m.state.budget - 0 })) m.catches ops (next ops)))
        (sym (none_less m.state.budget))
        (record {
          m = record { place = m.place + 1; stack = Int (pos 0) ∷ u ∷ ops; catches = m.catches; state = record m.state { world = w; budget = m.state.budget - 0 } };
          matches = at_world a live whole stack0 stack2 frame budget m w (Int (pos 0) ∷ u ∷ ops) (frame.at + 1) (m.place + 1) budget (m.state.budget - 0) h s
              (z ∙ ap (λ b. (b ++ v ∷ []) ++ Int (pos 0) ∷ []) l ∙ ap (λ k. (laid (a.below ++ m.state.locals) ops ++ k ∷ []) ++ Int (pos 0) ∷ []) q) (ap (λ n. n + 1) h.sits.place) (omega (arith, h.left));
          told = refl;
        })

    by : (e : Effect) → Yields e live.cells whole v → (ops : List Value) → stack1 ≡ laid (a.below ++ m.state.locals) ops → To (end_then (finished 0 e m.state) m.catches ops (next ops))
    by (effects.Gives u) y ops l =
        goes_on m.state.world u ops (subst (λ k. Stands a.told a.programs (record live { cells = k }) m.state.world) (sym y.1) h.stands) y.0 l
    by (effects.Makes c) y ops l =
        goes_on (with_cells m.state.world (with_cell m.state.world.cells c)) (reference c (length m.state.world.cells)) ops
        (subst (λ k. Stands a.told a.programs (record live { cells = k }) (with_cells m.state.world (with_cell m.state.world.cells c))) (sym y.1) (stands_with_cell a.told a.programs live m.state.world c h.stands))
        (y.0 ∙ ap (λ k. reference c k) h.stands.cells.next) l
    by (effects.Fault f) y ops l = absurd y

pub not_begun : (a : Around) (live : Live) (whole : Store) (stack0 stack1 : List Value) (frame : Frame) (budget : ℕ) (m : Moment) (x : RunError)
    → Matches a live stack0 frame budget m → CopiesOn stack0 stack1 live.objects live.cells whole (Err (faults.Run x))
    → IsFine (on_one m.stack (λ v rest. end_then (copied v m.state) m.catches rest (λ copy s. goes (m.place + 1) (Int (pos 0) ∷ copy ∷ rest) m.catches s)))
    → LeadsTo a (nexts.Error x) (record live { cells = whole }) stack1 frame budget
    (on_one m.stack (λ v rest. end_then (copied v m.state) m.catches rest (λ copy s. goes (m.place + 1) (Int (pos 0) ∷ copy ∷ rest) m.catches s)))
unfolding copied
not_begun a live whole stack0 stack1 frame budget m x h (v, e, tv, y) fine =
    on_one_leads To (λ v rest. end_then (copied v m.state) m.catches rest (next rest)) (a.below ++ m.state.locals) m.stack stack0 stack1 v h.sits.lies e fine
    (λ ops l f. subst (λ k. To (end_then (finished 0 k m.state) m.catches ops (next ops))) (sym (ap copy_effect (sym same) ∙ y.0)) (record {
      m = record { place = m.place; stack = ops; catches = m.catches; state = m.state };
      matches = at_world a live whole stack0 stack1 frame budget m m.state.world ops frame.at m.place budget m.state.budget h (subst (λ k. Stands a.told a.programs (record live { cells = k }) m.state.world) (sym y.1) h.stands) l h.sits.place h.left;
      told = refl;
    }))
  where
    To : Next → Type 0
    To n = LeadsTo a (nexts.Error x) (record live { cells = whole }) stack1 frame budget n

    next : List Value → Value → State → Next
    next rest copy s = goes (m.place + 1) (Int (pos 0) ∷ copy ∷ rest) m.catches s

    same : operand (live_in live.objects) live.cells v ≡ seen m.state v
    same = ap (λ l. operand l live.cells v) (live_same a.told a.programs live m.state.world h.stands) ∙ operand_same (living m.state) live.cells m.state.world.cells v h.stands.cells tv

copy_there : (store : Store) (x : Opened) → IsOpenedThere store x → IsEffectThere store (copy_effect x)
copy_there store (Number n) i = tt
copy_there store (Chars cs) i = tt
copy_there store (Array c vs) i = i
copy_there store (Mapping c ps) i = i
copy_there store (Object o) i = tt

-- the state stays fit, and the copy is there
pub copies_fit : (live : Live) (whole : Store) (old new : List Value) (r : Result Value OpFault) → CopiesOn old new live.objects live.cells whole r → IsFit live old → IsFit (record live { cells = whole }) new × IfOk r (IsThere whole)
copies_fit live whole old new r (x, e, t, m) f =
    let g = (popped_fit live old new x e f).0 in
    let k = meets_stay (copy_effect (operand (live_in live.objects) live.cells x)) live.cells whole r m in
    let c = meets_closed (copy_effect (operand (live_in live.objects) live.cells x)) live.cells whole r m
    (copy_there live.cells (operand (live_in live.objects) live.cells x) (opened_there (live_in live.objects) live.cells (as_read (live_in live.objects) x) f.closed.cells)) f.closed.cells in
    (record { closed = closed_with_cells live whole f.closed k c.0; there = All-weaker (IsThere live.cells) (IsThere whole) k new g.there }, c.1)
