-- How jobs end: the price of a value is paid.
use Rattle.std.proofs.Common.{◌≡◌, ◌∙◌, ◌+◌, ◌-◌, ◌≤◌, ◌++◌, ◌∷◌, [], ℕ, zero, suc, Bool, true, false, List, Option, Some, None, All, refl, ap, sym, subst, length, slice_get, take, unwrap_or, nat_lt, arith}
use Rattle.std.proofs.lemmas.List.{take_at}
use Rattle.std.proofs.lemmas.List.Elements.{All-head, All-tail, All-take}
use Rattle.lp_values.specs.declared.id.ObjId.{ObjId}
use Rattle.lp_values.specs.declared.error.ErrorKind.{ErrorKind}
use Rattle.lp_values.specs.declared.error.RunError.{RunError}
use Rattle.lp_values.specs.Errors.{plain}
use Rattle.lp_values.specs.declared.value.Value.{Value}
use Rattle.lp_cells.specs.Cells.{IsThere, Store}
use Rattle.lp_instr.specs.declared.efun.Efun.{Efun}
use Rattle.lp_language.specs.Course.{Failed, Over, State, Stops, here, zero_value}
use Rattle.lp_meaning.specs.Questions.{value_end}
use Rattle.lp_world.specs.Rows.{live_in}
use Rattle.lp_world.specs.declared.live.Live.{Live}
use Rattle.lp_step.specs.Steps.{IsFit}
use Rattle.lp_efuns.specs.declared.answer.Answer.{Answer}
use Rattle.lp_efuns.specs.declared.answer.Answer.TheVariants as answers
use Rattle.lp_efuns.specs.declared.answer.Did.TheVariants as did
use Rattle.lp_efuns.specs.declared.caller.Turn.{Turn}
use Rattle.lp_efuns.specs.Deeds.{Gave}
use Rattle.lp_efuns.specs.Plain.{Finishes, PaysFor, price_of_value}
use Rattle.lp_efuns.specs.Turns.{At, Setting}
use Rattle.lp_efuns.proofs.Called.{finishes}
use Rattle.lp_calling.specs.declared.job.Stage.TheVariants as stages
use Rattle.lp_calling.specs.declared.job.Step.TheVariants as steps
use Rattle.lp_settling.proofs.Still.{still}
use Rattle.lp_calling.specs.Beginning.{IsOver, Settled}
use Rattle.lp_calling.specs.Going.{StageGoes}
use Rattle.lp_calling.specs.Jobs.{ended, first_value}
use Rattle.lp_calling.proofs.Lists.{get_above}
use Rattle.lp_calling.proofs.Settled.{end_settled, settled_here, value_settles}

-- what is taken from the stack leaves the state as fit
pub fit_cut : (live : Live) (stack : List Value) (n : ℕ) → IsFit live stack → IsFit live (take n stack)
fit_cut live stack n h = record { closed = h.closed; there = All-take (IsThere live.cells) n stack h.there }

pub fit_as : (live : Live) (stack0 stack1 : List Value) (n : ℕ) → stack1 ≡ take n stack0 → IsFit live stack0 → IsFit live stack1
fit_as live stack0 stack1 n e h = subst (λ s. IsFit live s) (sym e) (fit_cut live stack0 n h)

-- what lies below stays
pub cut_to : (stack0 stack1 low own : List Value) (n : ℕ) → stack1 ≡ take n stack0 → stack0 ≡ low ++ own → length low ≡ n → stack1 ≡ low
cut_to stack0 stack1 low own n e q k = e ∙ ap (take n) q ∙ take_at low own n k

-- a value is paid, and the course is over
pub value_over : (g : Setting) (live : Live) (turn : Turn) (old new : ℕ) (e : Efun) (v : Value) (a : Answer) (s : State) → At g live turn old s → IsThere live.cells v
    → Finishes e (live_in live.objects) live.cells (did.Value v) old a new → IsOver a (Settled s.world g live turn new) (ended e v s)
value_over g live turn old new e v a s h i f = (
  value_end e v s,
  refl,
  end_settled s.world g live turn new a (value_end e v s) (finishes g live turn old new e (did.Value v) a (Gave v s) (refl, h) i f) (value_settles s.world e v s (still s.world)),
)

-- an error ends a course
pub error_over : (g : Setting) (live : Live) (turn : Turn) (b : ℕ) (x : RunError) (s : State) → At g live turn b s → IsOver (answers.Error x) (Settled s.world g live turn b) (Over (Stops (here (Failed x)) s))
error_over g live turn b x s h = (Stops (here (Failed x)) s, refl, (refl, settled_here g live turn b s h))

pub value_goes : (e : Efun) (live : Live) (turn : Turn) (below : ℕ) (stack0 stack1 : List Value) (old new : ℕ) (v : Value) (a : Answer) → slice_get stack0 below ≡ Some v → stack1 ≡ take below stack0
    → IsThere live.cells v → Finishes e (live_in live.objects) live.cells (did.Value v) old a new → StageGoes (steps.Ends a) e stages.Value below live turn stack0 old live turn stack1 new
value_goes e live turn below stack0 stack1 old new v a at t i f low own q k =
    let z : below + 0 ≡ below = omega arith in
    let first : first_value own ≡ v =
    ap (λ o. unwrap_or o zero_value) (sym (get_above low own below 0 k) ∙ ap (slice_get (low ++ own)) z ∙ ap (λ s. slice_get s below) (sym q) ∙ at) in
    record {
      stack = cut_to stack0 stack1 low own below t q k;
      course = λ g by s h. subst (λ w. IsOver a (Settled s.world g live turn new) (ended e w s)) (sym first) (value_over g live turn old new e v a s h i f);
    }

pub zero_goes : (e : Efun) (live : Live) (turn : Turn) (below : ℕ) (stack0 stack1 : List Value) (old new : ℕ) (a : Answer) → stack1 ≡ take below stack0
    → Finishes e (live_in live.objects) live.cells (did.Value zero_value) old a new → StageGoes (steps.Ends a) e stages.Zero below live turn stack0 old live turn stack1 new
zero_goes e live turn below stack0 stack1 old new a t f low own q k = record {
  stack = cut_to stack0 stack1 low own below t q k;
  course = λ g by s h. value_over g live turn old new e zero_value a s h tt f;
}

-- an error
pub error_goes : (e : Efun) (kind : ErrorKind) (below : ℕ) (stack0 stack1 : List Value) (live : Live) (turn : Turn) (budget : ℕ) → stack1 ≡ take below stack0
    → StageGoes (steps.Ends (answers.Error (plain kind))) e (stages.Error kind) below live turn stack0 budget live turn stack1 budget
error_goes e kind below stack0 stack1 live turn budget t low own q k = record {
  stack = cut_to stack0 stack1 low own below t q k;
  course = λ g by s h. error_over g live turn budget (plain kind) s h;
}

-- what is left of the budget
pays_less : (b : Bool) (n old new : ℕ) (v : Value) (a : Answer) → PaysFor b n v old a new → new ≤ old
pays_less true n old new v a p = let z : new ≡ 0 = p.1 in omega arith
pays_less false n old new v a p = let z : new ≡ old - n = p.1 in omega arith

pub spends_less : (e : Efun) (l : ObjId → Bool) (cells : Store) (v : Value) (old new : ℕ) (a : Answer) → Finishes e l cells (did.Value v) old a new → new ≤ old
spends_less e l cells v old new a f = pays_less (nat_lt old (price_of_value e l cells v)) (price_of_value e l cells v) old new v a f

-- a value on the stack is there
ThereIf : Live → Option Value → Type 0
ThereIf live None = Unit {0}
ThereIf live (Some v) = IsThere live.cells v

found_there : (live : Live) (xs : List Value) (i : ℕ) → All (IsThere live.cells) xs → ThereIf live (slice_get xs i)
unfolding ThereIf
found_there live [] i a = tt
found_there live (x ∷ xs) zero a = All-head (IsThere live.cells) x xs a
found_there live (x ∷ xs) (suc i) a = found_there live xs i (All-tail (IsThere live.cells) x xs a)

pub there_at : (live : Live) (stack : List Value) (n : ℕ) (v : Value) → slice_get stack n ≡ Some v → IsFit live stack → IsThere live.cells v
unfolding ThereIf
there_at live stack n v e h = subst (λ o. ThereIf live o) e (found_there live stack n h.there)
