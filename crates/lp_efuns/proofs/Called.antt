-- A whole call, from its parts.
use Rattle.std.specs.Prelude.{⊤}
use Rattle.std.proofs.Common.{◌≡◌, ◌∙◌, ◌-◌, ℕ, Bool, true, false, List, Option, Some, None, refl, ap, sym, subst, length, All, nat_lt, [], unwrap_or, map, if◌then◌else◌}
use Rattle.lp_values.specs.declared.id.ObjId.{ObjId}
use Rattle.lp_values.specs.declared.value.Value.{Value}
use Rattle.lp_values.specs.Errors.{bad_arg}
use Rattle.lp_cells.specs.Cells.{IsThere, Store, as_items, as_pairs, size_read, with_cell}
use Rattle.lp_cells.specs.Mapping.{pairs_there}
use Rattle.lp_cells.specs.declared.content.Content.{Content}
use Rattle.lp_cells.specs.declared.content.Content.TheVariants.{Array, Mapping}
use Rattle.lp_ops.specs.declared.effect.Effect.{Effect}
use Rattle.lp_ops.specs.declared.effect.Effect.TheVariants as effects
use Rattle.lp_ops.specs.Effects.{reference}
use Rattle.lp_ops.specs.Operands.{operand, size_of}
use Rattle.lp_instr.specs.declared.efun.Efun.{Efun}
use Rattle.lp_instr.specs.EfunKinds.{kinds}
use Rattle.lp_instr.specs.EfunList.{efun_name}
use Rattle.lp_language.specs.Course.{Scene, State, Thrown, Failed, Spent, End, Gives, Stops, Over, here, pay}
use Rattle.lp_language.specs.Operations.{cells_of, living, seen, with_store}
use Rattle.lp_meaning.specs.Askers.{Asker}
use Rattle.lp_meaning.specs.EfunArguments.{first_bad, opened_args, price_after, price_before}
use Rattle.lp_meaning.specs.ComputingEfuns.{computes}
use Rattle.lp_meaning.specs.WorldEfuns.{Deed, Yields, Throws, deed}
use Rattle.lp_meaning.specs.Questions.{Group, Computes, OfWorld, Calls, OfFiles, acting, deed_end, efun_in, group, kinds_looked_at}
use Rattle.lp_world.specs.Rows.{live_in, variables_at}
use Rattle.lp_world.specs.declared.live.Live.{Live}
use Rattle.lp_world.proofs.Keeping.{get_end, live_same, operand_same}
use Rattle.lp_world.specs.declared.objects.Object.{Object}
use Rattle.lp_step.specs.Steps.{KeepsVariables, PaysBy}
use Rattle.lp_efuns.specs.declared.answer.Answer.{Answer}
use Rattle.lp_efuns.specs.declared.answer.Answer.TheVariants as answers
use Rattle.lp_efuns.specs.declared.answer.Did.{Did}
use Rattle.lp_efuns.specs.declared.answer.Did.TheVariants as did
use Rattle.lp_efuns.specs.declared.caller.Caller.{Caller}
use Rattle.lp_efuns.specs.declared.caller.Turn.{Turn}
use Rattle.lp_efuns.specs.Deeds.{Does, Done, Gave, IsDone, Refused, Threw, deed_done, effect_done, efun_done, group_done}
use Rattle.lp_efuns.specs.Plain.{CallsEfun, Finishes, IsDidThere, IsEnd, PaysFor, is_computing, is_deed, is_plain_in, price_of_value}
use Rattle.lp_efuns.specs.Turns.{At, Setting}
use Rattle.lp_efuns.proofs.Parted.{price_same}

differ : false ≡ true → ⊥
differ q = cc

-- the price of the result is paid
abbrev pub priced : Efun → Done → End Value
priced e (Gave v t) = pay (price_after e (size_of (seen t v))) t (Gives v)
priced e (Refused x t) = Stops (here (Failed x)) t
priced e (Threw v t) = Stops (here (Thrown v)) t

array_size : (o : Option (Option Content)) (vs : List Value) → o ≡ Some (Some (Array vs)) → length (unwrap_or (as_items (unwrap_or o None)) []) ≡ length vs
array_size o vs e = ap (λ o. length (unwrap_or (as_items (unwrap_or o None)) [])) e

-- a new cell is as long as what it was made of
new_size : (l : ObjId → Bool) (cells : Store) (x : Content) → size_of (operand l (with_cell cells x) (reference x (length cells))) ≡ size_read l x
new_size l cells (Array vs) = ap (λ o. length (unwrap_or (as_items (unwrap_or o None)) [])) (get_end cells (Some (Array vs)))
new_size l cells (Mapping ps) = ap (λ o. length (pairs_there l (unwrap_or (as_pairs (unwrap_or o None)) []))) (get_end cells (Some (Mapping ps)))

-- an effect is paid so
effect_priced : (e : Efun) (x : Effect) (s t : State) → deed_end e (Yields x t) s ≡ priced e (effect_done x t)
effect_priced e (effects.Gives v) s t = refl
effect_priced e (effects.Makes x) s t =
    ap (λ n. pay (price_after e n) (with_store t (with_cell (cells_of t) x)) (Gives (reference x (length (cells_of t))))) (sym (new_size (living t) (cells_of t) x))
effect_priced e (effects.Fault x) s t = refl

deed_priced : (e : Efun) (d : Deed) (s : State) → deed_end e d s ≡ priced e (deed_done d s)
deed_priced e (Yields x t) s = effect_priced e x s t
deed_priced e (Throws v) s = refl

-- efuns of this group call no LPC and use no files
abbrev pub AsksNothing : Group → Type 0
AsksNothing Computes = ⊤
AsksNothing OfWorld = ⊤
AsksNothing Calls = ⊥
AsksNothing OfFiles = ⊥

pub plain_asks_nothing : (k : Group) (e : Efun) → is_plain_in k e ≡ true → AsksNothing k
plain_asks_nothing Computes e p = tt
plain_asks_nothing OfWorld e p = tt
plain_asks_nothing Calls e p = absurd (differ p)
plain_asks_nothing OfFiles e p = absurd (differ p)

-- the course of such an efun, once its arguments fit
acts_so : (k : Group) (e : Efun) (by : Asker) (c : Scene) (vs : List Value) (s : State) → AsksNothing k → acting k e by c vs (opened_args s vs) s ≡ Over (priced e (group_done k e c s vs))
acts_so Computes e by c vs s n = ap Over (effect_priced e (computes e s vs (opened_args s vs)) s s)
acts_so OfWorld e by c vs s n = ap Over (deed_priced e (deed e c s vs (opened_args s vs)) s)
acts_so Calls e by c vs s n = absurd n
acts_so OfFiles e by c vs s n = absurd n

-- less is left of the budget
at_budget : (g : Setting) (live : Live) (turn : Turn) (b : ℕ) (s : State) (k : ℕ) → At g live turn b s → At g live turn k (record s { budget = k })
at_budget g live turn b s k h = record { stands = h.stands; left = refl; outputs = h.outputs; player = h.player; commands = h.commands }

-- the price of a result on the state is that in the meaning
price_is : (g : Setting) (live : Live) (turn : Turn) (b : ℕ) (e : Efun) (v w : Value) (t : State) → At g live turn b t → IsThere live.cells v → w ≡ v
    → price_of_value e (live_in live.objects) live.cells v ≡ price_after e (size_of (seen t w))
price_is g live turn b e v w t h i q =
    ap (λ l. price_of_value e l live.cells v) (live_same g.told g.programs live t.world h.stands)
    ∙ ap (λ x. price_after e (size_of x)) (operand_same (living t) live.cells t.world.cells v h.stands.cells i)
    ∙ ap (λ x. price_after e (size_of (seen t x))) (sym q)

paid_value : (g : Setting) (live : Live) (turn : Turn) (old new n : ℕ) (v w : Value) (t : State) (a : Answer) (b : Bool) → At g live turn old t → w ≡ v → PaysFor b n v old a new
    → IsEnd a (At g live turn new) (if b then Stops (here Spent) (record t { budget = 0 }) else Gives w (record t { budget = t.budget - n }))
paid_value g live turn old new n v w t a true h q p =
    subst (λ k. IsEnd a (At g live turn k) (Stops (here Spent) (record t { budget = 0 }))) (sym p.1)
    (subst (λ a. IsEnd a (At g live turn 0) (Stops (here Spent) (record t { budget = 0 }))) (sym p.0) (refl, at_budget g live turn old t 0 h))
paid_value g live turn old new n v w t a false h q p =
    subst (λ k. IsEnd a (At g live turn k) (Gives w (record t { budget = t.budget - n }))) (ap (λ k. k - n) h.left ∙ sym p.1)
    (subst (λ a. IsEnd a (At g live turn (t.budget - n)) (Gives w (record t { budget = t.budget - n }))) (sym p.0) (q, at_budget g live turn old t (t.budget - n) h))

-- what an efun came to, with the price of its result
pub finishes : (g : Setting) (live : Live) (turn : Turn) (old new : ℕ) (e : Efun) (d : Did) (a : Answer) (k : Done) → IsDone d (At g live turn old) k → IsDidThere live.cells d
    → Finishes e (live_in live.objects) live.cells d old a new → IsEnd a (At g live turn new) (priced e k)
finishes g live turn old new e (did.Value v) a (Gave w t) h i f =
    let n = price_of_value e (live_in live.objects) live.cells v in
    let same : n ≡ price_after e (size_of (seen t w)) = price_is g live turn old e v w t h.1 i h.0 in
    subst (λ n. IsEnd a (At g live turn new) (pay n t (Gives w))) same
    (subst (λ k. IsEnd a (At g live turn new) (if nat_lt k n then Stops (here Spent) (record t { budget = 0 }) else Gives w (record t { budget = t.budget - n }))) (sym h.1.left)
    (paid_value g live turn old new n v w t a (nat_lt old n) h.1 h.0 f))
finishes g live turn old new e (did.Error x) a (Refused y t) h i f =
    subst (λ k. IsEnd a (At g live turn k) (Stops (here (Failed y)) t)) (sym f.1)
    (subst (λ a. IsEnd a (At g live turn old) (Stops (here (Failed y)) t)) (sym f.0) (ap (λ x. here (Failed x)) h.0, h.1))
finishes g live turn old new e (did.Thrown v) a (Threw w t) h i f =
    subst (λ k. IsEnd a (At g live turn k) (Stops (here (Thrown w)) t)) (sym f.1)
    (subst (λ a. IsEnd a (At g live turn old) (Stops (here (Thrown w)) t)) (sym f.0) (ap (λ x. here (Thrown x)) h.0, h.1))
finishes g live turn old new e (did.Value v) a (Refused y t) h i f = absurd h
finishes g live turn old new e (did.Value v) a (Threw w t) h i f = absurd h
finishes g live turn old new e (did.Error x) a (Gave w t) h i f = absurd h
finishes g live turn old new e (did.Error x) a (Threw w t) h i f = absurd h
finishes g live turn old new e (did.Thrown v) a (Gave w t) h i f = absurd h
finishes g live turn old new e (did.Thrown v) a (Refused y t) h i f = absurd h

-- an efun that is plain and does not compute is one of the world
pub deed_of : (k : Group) (e : Efun) → is_plain_in k e ≡ true → is_computing k ≡ false → is_deed e ≡ true
deed_of Computes e p c = absurd (differ (sym c))
deed_of OfWorld e p c = p
deed_of Calls e p c = absurd (differ p)
deed_of OfFiles e p c = absurd (differ p)

pub world_of : (k : Group) (e : Efun) → is_plain_in k e ≡ true → is_computing k ≡ false → k ≡ OfWorld
world_of Computes e p c = absurd (differ (sym c))
world_of OfWorld e p c = refl
world_of Calls e p c = absurd (differ p)
world_of OfFiles e p c = absurd (differ p)

pub computing_of : (k : Group) → is_computing k ≡ true → k ≡ Computes
computing_of Computes c = refl
computing_of OfWorld c = absurd (differ c)
computing_of Calls c = absurd (differ c)
computing_of OfFiles c = absurd (differ c)

-- A whole call: its parts on the state, in order.

module _ (e : Efun) (caller : Caller) (vs : List Value) (live0 : Live) (turn0 : Turn) (old : ℕ) (asks : AsksNothing (group e)) (there : All (IsThere live0.cells) vs) where
  -- the price before, in the state and in the meaning
  before_is : (before : ℕ) (g : Setting) (s : State) → At g live0 turn0 old s → ((t : State) → living t ≡ live_in live0.objects → cells_of t ≡ live0.cells → before ≡ price_before e vs t) → before ≡ price_before e vs s
  before_is before g s h f =
      f (with_store s live0.cells) (sym (live_same g.told g.programs live0 s.world h.stands)) refl ∙ price_same e vs s live0.cells h.stands.cells there

  bad_is : (bad : Option ℕ) (g : Setting) (s : State) → At g live0 turn0 old s → ((cells : Store) → bad ≡ first_bad 1 (kinds e) (map (operand (live_in live0.objects) cells) vs)) → bad ≡ first_bad 1 (kinds e) (opened_args s vs)
  bad_is bad g s h f = f (cells_of s) ∙ ap (λ l. first_bad 1 (kinds e) (map (operand l (cells_of s)) vs)) (live_same g.told g.programs live0 s.world h.stands)

  -- the course behind the price
  course : (n : ℕ) (bad : Option ℕ) (by : Asker) (c : Scene) (s : State) → n ≡ price_before e vs s → bad ≡ first_bad 1 (kinds e) (opened_args s vs)
      → efun_in e by c vs s ≡ (if nat_lt s.budget n then Over (Stops (here Spent) (record s { budget = 0 })) else kinds_looked_at e by c vs bad (record s { budget = s.budget - n }))
  course n bad by c s a b =
      ap (λ m. if nat_lt s.budget m then Over (Stops (here Spent) (record s { budget = 0 })) else kinds_looked_at e by c vs (first_bad 1 (kinds e) (opened_args s vs)) (record s { budget = s.budget - m })) (sym a)
      ∙ ap (λ k. if nat_lt s.budget n then Over (Stops (here Spent) (record s { budget = 0 })) else kinds_looked_at e by c vs k (record s { budget = s.budget - n })) (sym b)

  -- the price before cannot be paid
  pub spent_call : (before paid : ℕ) → nat_lt old before ≡ true → paid ≡ 0 → ((t : State) → living t ≡ live_in live0.objects → cells_of t ≡ live0.cells → before ≡ price_before e vs t)
      → CallsEfun e caller vs live0 turn0 old answers.Spent live0 turn0 paid
  spent_call before paid less z f g by c s sc h =
      let k = at_budget g live0 turn0 old s paid h in (
        Stops (here Spent) (record s { budget = paid }),
        course before (first_bad 1 (kinds e) (opened_args s vs)) by c s (before_is before g s h f) refl
            ∙ ap (λ b. if b then Over (Stops (here Spent) (record s { budget = 0 })) else kinds_looked_at e by c vs (first_bad 1 (kinds e) (opened_args s vs)) (record s { budget = s.budget - before })) (ap (λ k. nat_lt k before) h.left ∙ less)
            ∙ ap (λ k. Over (Stops (here Spent) (record s { budget = k }))) (sym z),
        (refl, k),
      )

  -- an argument is of another kind
  pub bad_call : (before paid number : ℕ) (a : Answer) → nat_lt old before ≡ false → paid ≡ old - before → ((t : State) → living t ≡ live_in live0.objects → cells_of t ≡ live0.cells → before ≡ price_before e vs t)
      → ((cells : Store) → Some number ≡ first_bad 1 (kinds e) (map (operand (live_in live0.objects) cells) vs)) → a ≡ answers.Error (bad_arg number (efun_name e))
      → CallsEfun e caller vs live0 turn0 old a live0 turn0 paid
  bad_call before paid number a less z f k is g by c s sc h =
      let t : State = record s { budget = s.budget - before } in (
        Stops (here (Failed (bad_arg number (efun_name e)))) t,
        course before (Some number) by c s (before_is before g s h f) (bad_is (Some number) g s h k)
            ∙ ap (λ b. if b then Over (Stops (here Spent) (record s { budget = 0 })) else kinds_looked_at e by c vs (Some number) t) (ap (λ k. nat_lt k before) h.left ∙ less),
        subst (λ a. IsEnd a (At g live0 turn0 paid) (Stops (here (Failed (bad_arg number (efun_name e)))) t)) (sym is) (refl, subst (λ k. At g live0 turn0 k t) (ap (λ k. k - before) h.left ∙ sym z) (at_budget g live0 turn0 old s (s.budget - before) h)),
      )

  -- the efun acts, in a state in which it comes to what it means
  pub acted_at : (before paid new : ℕ) (d : Did) (a : Answer) (live1 : Live) (turn1 : Turn) → nat_lt old before ≡ false → paid ≡ old - before
      → ((t : State) → living t ≡ live_in live0.objects → cells_of t ≡ live0.cells → before ≡ price_before e vs t)
      → ((cells : Store) → None ≡ first_bad 1 (kinds e) (map (operand (live_in live0.objects) cells) vs))
      → IsDidThere live1.cells d → Finishes e (live_in live1.objects) live1.cells d paid a new
      → (g : Setting) (by : Asker) (c : Scene) (s : State) → At g live0 turn0 old s
      → ((t : State) → t.world ≡ s.world → At g live0 turn0 paid t → IsDone d (At g live1 turn1 paid) (efun_done e c t vs))
      → (end : End Value) × (efun_in e by c vs s ≡ Over end) × IsEnd a (At g live1 turn1 new) end
  acted_at before paid new d a live1 turn1 less z f k i fin g by c s h does =
      let t : State = record s { budget = s.budget - before } in
      let at : At g live0 turn0 paid t = subst (λ k. At g live0 turn0 k t) (ap (λ k. k - before) h.left ∙ sym z) (at_budget g live0 turn0 old s (s.budget - before) h) in (
        priced e (group_done (group e) e c t vs),
        course before None by c s (before_is before g s h f) (bad_is None g s h k)
            ∙ ap (λ b. if b then Over (Stops (here Spent) (record s { budget = 0 })) else kinds_looked_at e by c vs None t) (ap (λ k. nat_lt k before) h.left ∙ less)
            ∙ acts_so (group e) e by c vs t asks,
        finishes g live1 turn1 paid new e d a (group_done (group e) e c t vs) (does t refl at) i fin,
      )

  -- the same in each state
  pub acted_call : (before paid new : ℕ) (d : Did) (a : Answer) (live1 : Live) (turn1 : Turn) → nat_lt old before ≡ false → paid ≡ old - before
      → ((t : State) → living t ≡ live_in live0.objects → cells_of t ≡ live0.cells → before ≡ price_before e vs t)
      → ((cells : Store) → None ≡ first_bad 1 (kinds e) (map (operand (live_in live0.objects) cells) vs))
      → Does e caller vs live0 turn0 d live1 turn1 → IsDidThere live1.cells d → Finishes e (live_in live1.objects) live1.cells d paid a new
      → CallsEfun e caller vs live0 turn0 old a live1 turn1 new
  acted_call before paid new d a live1 turn1 less z f k does i fin g by c s sc h =
      acted_at before paid new d a live1 turn1 less z f k i fin g by c s h (λ t w at. does g paid c t sc at)

-- Prices

-- what paying tells
pub paid_is : (b paid : Bool) (n old new : ℕ) → PaysBy b n old paid new → paid ≡ true → (b ≡ false) × (new ≡ old - n)
paid_is true paid n old new p e = absurd (differ (sym p.0 ∙ e))
paid_is false paid n old new p e = (refl, p.1)

pub unpaid_is : (b paid : Bool) (n old new : ℕ) → PaysBy b n old paid new → paid ≡ false → (b ≡ true) × (new ≡ 0)
unpaid_is true paid n old new p e = (refl, p.1)
unpaid_is false paid n old new p e = absurd (differ (sym e ∙ p.0))

pub paid_for : (b paid : Bool) (n old new : ℕ) (v : Value) → PaysBy b n old paid new → paid ≡ true → PaysFor b n v old (answers.Value v) new
paid_for b paid n old new v p e = let q = paid_is b paid n old new p e in subst (λ b. PaysFor b n v old (answers.Value v) new) (sym q.0) (refl, q.1)

pub unpaid_for : (b paid : Bool) (n old new : ℕ) (v : Value) → PaysBy b n old paid new → paid ≡ false → PaysFor b n v old answers.Spent new
unpaid_for b paid n old new v p e = let q = unpaid_is b paid n old new p e in subst (λ b. PaysFor b n v old answers.Spent new) (sym q.0) (refl, q.1)

-- an object keeps its variables where none changes
pub same_variables : (old new : List (Option Object)) → new ≡ old → KeepsVariables old new
same_variables old new e o vs h = (vs, ap (λ rows. variables_at rows o) e ∙ h, refl)
