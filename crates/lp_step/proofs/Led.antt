-- An operator on the state and in the world, and what it leads to.
use Rattle.std.proofs.Common.{◌≡◌, ◌++◌, ◌∷◌, [], ◌∙◌, ℕ, ◌+◌, ◌-◌, List, Bool, true, false, length, refl, ap, sym, subst, if◌then◌else◌, nat_lt}
use Rattle.lp_cells.specs.Cells.{IsThere, Store, with_cell}
use Rattle.lp_cells.specs.declared.content.Content.{Content}
use Rattle.lp_ops.specs.Effects.{reference, Yields}
use Rattle.lp_ops.specs.Operands.{size_of}
use Rattle.lp_ops.specs.Prices.{size_made}
use Rattle.lp_ops.specs.declared.effect.Effect.{Effect}
use Rattle.lp_ops.specs.declared.effect.Effect.TheVariants as effects
use Rattle.lp_values.specs.declared.error.RunError.{RunError}
use Rattle.lp_values.specs.declared.id.ObjId.{ObjId}
use Rattle.lp_values.specs.declared.value.Value.{Value}
use Rattle.lp_language.specs.Course.{Spent, Failed, here, Gives, Stops, pay}
use Rattle.lp_language.specs.Operations.{finished}
use Rattle.lp_language.specs.World.{World, with_cells}
use Rattle.lp_isa.specs.Machine.{Moment, Next, push_end, stopped, goes}
use Rattle.lp_world.specs.declared.frame.Frame.{Frame}
use Rattle.lp_world.specs.declared.live.Live.{Live}
use Rattle.lp_world.specs.Stands.{Stands}
use Rattle.lp_world.specs.Matches.{Around, Matches, laid}
use Rattle.lp_world.proofs.Keeping.{operand_same, stands_with_cell}
use Rattle.lp_step.specs.declared.next.Next.{Next as Led}
use Rattle.lp_step.specs.declared.next.Next.TheVariants as nexts
use Rattle.lp_step.specs.declared.worked.Worked.{Worked}
use Rattle.lp_step.specs.declared.worked.Worked.TheVariants as worked
use Rattle.lp_step.specs.Steps.{LeadsTo, told}
use Rattle.lp_step.specs.Works.{Acts, AreSizesSame, IsWorked, Works, WorksBy}

-- what an operator came to, after which the stack and the place are so
pub data Left (stack : List Value) (at : ℕ) : Worked → Led → List Value → ℕ → Type 0 where
  value : {v : Value} {s : List Value} → s ≡ stack ++ v ∷ [] → Left stack at (worked.Value v) nexts.Again s (at + 1)
  error : {e : RunError} → Left stack at (worked.Error e) (nexts.Error e) stack at
  spent : Left stack at worked.Spent nexts.Spent stack at

-- by the kinds of what it came to
abbrev pub IsLeft : List Value → ℕ → Worked → Led → List Value → ℕ → Type 0
IsLeft stack at (worked.Value v) n s p = (n ≡ nexts.Again) × (s ≡ stack ++ v ∷ []) × (p ≡ at + 1)
IsLeft stack at (worked.Error e) n s p = (n ≡ nexts.Error e) × (s ≡ stack) × (p ≡ at)
IsLeft stack at worked.Spent n s p = (n ≡ nexts.Spent) × (s ≡ stack) × (p ≡ at)

pub is_left : (stack : List Value) (at : ℕ) (d : Worked) (n : Led) (s : List Value) (p : ℕ) → Left stack at d n s p → IsLeft stack at d n s p
is_left stack at _ _ _ _ (value e) = (refl, e, refl)
is_left stack at _ _ _ _ error = (refl, refl, refl)
is_left stack at _ _ _ _ spent = (refl, refl, refl)

-- a moment with another world, budget, stack and place
pub at_world : (a : Around) (live : Live) (cells : Store) (stack0 stack1 : List Value) (frame : Frame) (budget : ℕ) (m : Moment) (w : World) (ops : List Value) (at p n k : ℕ)
    → Matches a live stack0 frame budget m → Stands a.told a.programs (record live { cells = cells }) w → stack1 ≡ laid (a.below ++ m.state.locals) ops → at ≡ p → n ≡ k
    → Matches a (record live { cells = cells }) stack1 (record frame { at = at }) n (record { place = p; stack = ops; catches = m.catches; state = record m.state { world = w; budget = k } })
at_world a live cells stack0 stack1 frame budget m w ops at p n k h s e q z = record {
  stands = s;
  sits = record { lies = e; bottom = h.sits.bottom; locals = h.sits.locals; place = q; catches = h.sits.catches; belongs = h.sits.belongs };
  left = z;
  outputs = h.outputs;
  player = h.player;
  commands = h.commands;
}

pub led : (a : Around) (live : Live) (cells : Store) (stack0 stack1 stack2 : List Value) (frame : Frame) (at2 old new : ℕ) (m : Moment) (ops : List Value) (before after after' : ℕ) (e : Effect) (d : Worked) (n : Led)
    → Matches a live stack0 frame old m → stack1 ≡ laid (a.below ++ m.state.locals) ops → Works before e after live.cells old d cells new → (nat_lt old before ≡ false → after ≡ after') → Left stack1 frame.at d n stack2 at2
    → LeadsTo a n (record live { cells = cells }) stack2 (record frame { at = at2 }) new (push_end (pay before m.state (finished after' e)) (m.place + 1) m.catches ops)
led a live cells stack0 stack1 stack2 frame at2 old new m ops before after after' e d n h l w price t =
    by (nat_lt m.state.budget before) refl (subst (λ k. Works before e after live.cells k d cells new) h.left w)
  where
    To : Next → Type 0
    To x = LeadsTo a n (record live { cells = cells }) stack2 (record frame { at = at2 }) new x

    isleft : IsLeft stack1 frame.at d n stack2 at2
    isleft = is_left stack1 frame.at d n stack2 at2 t

    same : cells ≡ live.cells → Stands a.told a.programs (record live { cells = cells }) m.state.world
    same c = subst (λ k. Stands a.told a.programs (record live { cells = k }) m.state.world) (sym c) h.stands

    made : (x : Content) → cells ≡ with_cell live.cells x → Stands a.told a.programs (record live { cells = cells }) (with_cells m.state.world (with_cell m.state.world.cells x))
    made x c = subst (λ k. Stands a.told a.programs (record live { cells = k }) (with_cells m.state.world (with_cell m.state.world.cells x))) (sym c) (stands_with_cell a.told a.programs live m.state.world x h.stands)

    is_spent : (u : World) → Stands a.told a.programs (record live { cells = cells }) u → d ≡ worked.Spent → new ≡ 0 → To (stopped (here Spent) m.catches ops (record m.state { world = u; budget = 0 }))
    is_spent u s q z =
        let i : IsLeft stack1 frame.at worked.Spent n stack2 at2 = subst (λ x. IsLeft stack1 frame.at x n stack2 at2) q isleft in
        record {
          m = record { place = m.place; stack = ops; catches = m.catches; state = record m.state { world = u; budget = 0 } };
          matches = at_world a live cells stack0 stack2 frame old m u ops at2 m.place new 0 h s (i.1 ∙ l) (i.2 ∙ h.sits.place) z;
          told = ap (λ x. told x a (record { place = m.place; stack = ops; catches = m.catches; state = record m.state { world = u; budget = 0 } })) (sym i.0);
        }

    is_error : (x : RunError) (k : ℕ) → cells ≡ live.cells → d ≡ worked.Error x → new ≡ k → To (stopped (here (Failed x)) m.catches ops (record m.state { budget = k }))
    is_error x k c q z =
        let i : IsLeft stack1 frame.at (worked.Error x) n stack2 at2 = subst (λ y. IsLeft stack1 frame.at y n stack2 at2) q isleft in
        record {
          m = record { place = m.place; stack = ops; catches = m.catches; state = record m.state { budget = k } };
          matches = at_world a live cells stack0 stack2 frame old m m.state.world ops at2 m.place new k h (same c) (i.1 ∙ l) (i.2 ∙ h.sits.place) z;
          told = ap (λ y. told y a (record { place = m.place; stack = ops; catches = m.catches; state = record m.state { budget = k } })) (sym i.0);
        }

    is_value : (u : World) → Stands a.told a.programs (record live { cells = cells }) u → (v : Value) (k : ℕ) → d ≡ worked.Value v → new ≡ k → To (goes (m.place + 1) (v ∷ ops) m.catches (record m.state { world = u; budget = k }))
    is_value u s v k q z =
        let i : IsLeft stack1 frame.at (worked.Value v) n stack2 at2 = subst (λ y. IsLeft stack1 frame.at y n stack2 at2) q isleft in
        record {
          m = record { place = m.place + 1; stack = v ∷ ops; catches = m.catches; state = record m.state { world = u; budget = k } };
          matches = at_world a live cells stack0 stack2 frame old m u (v ∷ ops) at2 (m.place + 1) new k h s (i.1 ∙ ap (λ s. s ++ v ∷ []) l) (i.2 ∙ ap (λ j. j + 1) h.sits.place) z;
          told = ap (λ y. told y a (record { place = m.place + 1; stack = v ∷ ops; catches = m.catches; state = record m.state { world = u; budget = k } })) (sym i.0);
        }

    left : ℕ
    left = m.state.budget - before

    gives : (v : Value) (b : Bool) → IsWorked b v live.cells (left - after') d cells new
        → To (push_end (if b then Stops (here Spent) (record m.state { budget = 0 }) else Gives v (record m.state { budget = left - after' })) (m.place + 1) m.catches ops)
    gives v true w = is_spent m.state.world (same w.1) w.0 w.2
    gives v false w = is_value m.state.world (same w.1) v (left - after') w.0 w.2

    makes : (x : Content) (b : Bool) → IsWorked b (reference x (length live.cells)) (with_cell live.cells x) (left - after') d cells new
        → To (push_end (if b then Stops (here Spent) (record m.state { world = with_cells m.state.world (with_cell m.state.world.cells x); budget = 0 })
        else Gives (reference x (length m.state.world.cells)) (record m.state { world = with_cells m.state.world (with_cell m.state.world.cells x); budget = left - after' })) (m.place + 1) m.catches ops)
    makes x true w = is_spent (with_cells m.state.world (with_cell m.state.world.cells x)) (made x w.1) w.0 w.2
    makes x false w =
        is_value (with_cells m.state.world (with_cell m.state.world.cells x)) (made x w.1) (reference x (length m.state.world.cells)) (left - after') (w.0 ∙ ap (λ k. worked.Value (reference x k)) h.stands.cells.next) w.2

    acts : (e : Effect) → Acts e after' live.cells left d cells new → To (push_end (finished after' e (record m.state { budget = left })) (m.place + 1) m.catches ops)
    acts (effects.Gives v) w = gives v (nat_lt left after') w
    acts (effects.Makes x) w = makes x (nat_lt left after') w
    acts (effects.Fault x) w = is_error x left w.1 w.0 w.2

    by : (b : Bool) → nat_lt m.state.budget before ≡ b → WorksBy b before e after live.cells m.state.budget d cells new
        → To (push_end (if b then Stops (here Spent) (record m.state { budget = 0 }) else finished after' e (record m.state { budget = left })) (m.place + 1) m.catches ops)
    by true q w = is_spent m.state.world (same w.1) w.0 w.2
    by false q w = acts e (subst (λ k. Acts e k live.cells left d cells new) (price (ap (λ k. nat_lt k before) h.left ∙ q)) w)

-- Sizes

-- what an effect gave or made is there: it has one size in the state and in the world
pub sizes_yielded : (l : ObjId → Bool) (old new : Store) (e : Effect) (v : Value) → Yields e old new v → IsThere new v → AreSizesSame l old e
sizes_yielded l old new (effects.Gives w) v y t whole p =
    ap size_of (operand_same l old whole w p (subst (λ k. IsThere k w) y.1 (subst (IsThere new) y.0 t)))
sizes_yielded l old new (effects.Makes x) v y t whole p = refl
sizes_yielded l old new (effects.Fault e) v y t whole p = absurd y

pub sizes_refused : (l : ObjId → Bool) (old : Store) (e : Effect) (x : RunError) → e ≡ effects.Fault x → AreSizesSame l old e
sizes_refused l old e x q whole p = subst (λ e. size_made l old e ≡ size_made l whole e) (sym q) refl
