-- What is caught, on the stack and in the world.
use Rattle.std.proofs.Common.{◌≡◌, ◌⊎◌, ◌++◌, ◌∷◌, [], ◌∙◌, ℕ, zero, suc, ◌+◌, ◌-◌, ◌<◌, ◌≤◌, true, false, List, Some, refl, ap, sym, subst, inl, inr, arith, drop, take, length, length-append}
use Rattle.std.specs.Prelude.{Vec}
use Rattle.std.specs.Global.{Global}
use Rattle.std.proofs.lemmas.List.{take-append-le}
use Rattle.std.proofs.lemmas.List.Elements.{All-take}
use Rattle.lp_values.specs.declared.value.Value.{Value}
use Rattle.lp_cells.specs.Cells.{IsThere}
use Rattle.lp_instr.specs.Code.{Catching}
use Rattle.lp_language.specs.Course.{Stops}
use Rattle.lp_isa.specs.Machine.{Ended, Goes, lowest, stop_at, stopped}
use Rattle.lp_isa.specs.SoundCode.{NextMatches}
use Rattle.lp_world.specs.declared.frame.Catch.{Catch}
use Rattle.lp_world.specs.declared.frame.Frame.{Frame}
use Rattle.lp_world.specs.declared.live.Live.{Live}
use Rattle.lp_world.specs.Matches.{catch_of, floor, laid, stacked}
use Rattle.lp_step.specs.Steps.{IsFit}
use Rattle.lp_step.proofs.Fits.{pushed_fit}
use Rattle.lp_step.proofs.Moves.{last, length-laid}
use Rattle.lp_run.specs.Catches.{Catches, CatchesAt, CaughtRunsOn}

take_all : (n : ℕ) (xs : List Value) → length xs ≤ n → take n xs ≡ xs
take_all zero [] h = refl
take_all (suc n) [] h = refl
take_all zero (x ∷ xs) h = absurd (omega (arith, h))
take_all (suc n) (x ∷ xs) h = ap (λ l. x ∷ l) (take_all n xs (omega (arith, h)))

drop_none : {A : Type 0} (n : ℕ) → drop {A = A} n [] ≡ []
drop_none zero = refl
drop_none (suc n) = refl

low_or_not : (h n : ℕ) → (h ≤ n) ⊎ (n < h)
low_or_not zero n = inl (omega arith)
low_or_not (suc h) zero = inr (omega arith)
low_or_not (suc h) (suc n) = elim (low_or_not h n) [ inl l ↦ inl (omega (arith, l)) | inr g ↦ inr (omega (arith, g)) ]

-- as many operands as there are above what lies below them
pub cut_laid : (base ops : List Value) (n h : ℕ) → n ≡ length base + h → take n (laid base ops) ≡ laid base (lowest h ops)
cut_laid base [] n h e = take_all n base (omega (arith, e)) ∙ ap (laid base) (sym (drop_none (0 - h)))
cut_laid base (x ∷ xs) n h e = elim (low_or_not h (length xs)) [
  | inl l ↦
      let k : suc (length xs) - h ≡ suc (length xs - h) = omega (arith, l) in
      take-append-le n (laid base xs) (x ∷ []) (omega (arith, e, l, length-laid base xs)) ∙ cut_laid base xs n h e ∙ ap (λ j. laid base (drop j (x ∷ xs))) (sym k)
  | inr g ↦
      let k : suc (length xs) - h ≡ 0 = omega (arith, g) in
      take_all n (laid base (x ∷ xs)) (omega (arith, e, g, length-laid base (x ∷ xs))) ∙ ap (λ j. laid base (drop j (x ∷ xs))) (sym k)
]

pub not_caught : (v : Value) (stack : List Value) (frame : Frame) → frame.catches.items ≡ [] → Catches false v stack frame stack frame
not_caught v stack frame none a live budget m x h = by m.catches (sym h.sits.catches ∙ none)
  where
    by : (cs : List Catching) → stacked (floor a) cs ≡ [] → stop_at (Some v) x cs m.stack m.state ≡ Ended (Stops x m.state)
    by [] e = refl
    by (c ∷ cs) e = absurd (omega (arith, ap length e, length-append (stacked (floor a) cs) (catch_of (floor a) c ∷ [])))

pub caught_at : (v : Value) (stack0 stack1 : List Value) (frame : Frame) (catches : Vec Catch Global) (c : Catch) → frame.catches.items ≡ catches.items ++ c ∷ [] → stack1 ≡ take c.height stack0 ++ v ∷ []
    → Catches true v stack0 frame stack1 (record frame { catches = catches; at = c.to })
caught_at v stack0 stack1 frame catches c e s a live budget m x h = by m.catches h.sits.catches
  where
    by : (cs : List Catching) → frame.catches.items ≡ stacked (floor a) cs → CatchesAt true a live stack1 (record frame { catches = catches; at = c.to }) budget x m (stop_at (Some v) x cs m.stack m.state)
    by [] q = absurd (omega (arith, ap length (sym e ∙ q), length-append catches.items (c ∷ [])))
    by (d ∷ cs) q =
        let t = last catches.items (stacked (floor a) cs) c (catch_of (floor a) d) (sym e ∙ q) in
        let n : c.height ≡ length (a.below ++ m.state.locals) + d.height = omega (arith, ap (λ z. z.height) t.1, length-append a.below m.state.locals, h.sits.locals) in
        let lies : stack1 ≡ laid (a.below ++ m.state.locals) (v ∷ lowest d.height m.stack) =
        s ∙ ap (λ l. take c.height l ++ v ∷ []) h.sits.lies ∙ ap (λ l. l ++ v ∷ []) (cut_laid (a.below ++ m.state.locals) m.stack c.height d.height n) in (
          record { place = d.place; stack = v ∷ lowest d.height m.stack; catches = cs; state = m.state },
          refl,
          record {
            stands = h.stands;
            sits = record { lies = lies; bottom = h.sits.bottom; locals = h.sits.locals; place = ap (λ z. z.to) t.1; catches = t.0; belongs = h.sits.belongs };
            left = h.left;
            outputs = h.outputs;
            player = h.player;
            commands = h.commands;
          },
        )

pub caught_fit : (live : Live) (stack0 stack1 : List Value) (n : ℕ) (v : Value) → stack1 ≡ take n stack0 ++ v ∷ [] → IsThere live.cells v → IsFit live stack0 → IsFit live stack1
caught_fit live stack0 stack1 n v e t f = pushed_fit live (take n stack0) stack1 v t e (record { closed = f.closed; there = All-take (IsThere live.cells) n stack0 f.there })

pub caught_runs_on : CaughtRunsOn
caught_runs_on shapes a live stack0 stack1 frame0 frame1 budget m x v e s h catches fit home =
    let t = catches a live budget m x h in
    let q : stopped x m.catches m.stack m.state ≡ Goes t.0 = ap (λ o. stop_at o x m.catches m.stack m.state) e ∙ t.1 in
    (t.0, q, record { matches = t.2; shaped = subst (NextMatches shapes) q s; fit = fit; home = home })
