-- Calls keep call-outs.
use Rattle.lp_meaning.specs.Limits.{max_depth}
use Rattle.std.proofs.Common.{ℕ, ◌-◌, ◌*◌, ◌≤◌, cond, List, ◌∷◌, Option, Some, None, refl, arith}
use Rattle.std.specs.Prelude.{nat_lt, codes}
use Rattle.lp_values.specs.declared.id.ObjId.{ObjId}
use Rattle.lp_values.specs.declared.value.Value.{Value}
use Rattle.lp_language.specs.Course.{Scene, State, Place, Failed, End, Gives, Stops, Ask, Course, Over, stops}
use Rattle.lp_lasting_laws.specs.Lasting.{After, EndsAfter, GoesAfter}
use Rattle.lp_language.specs.Exec.{body_of, initialisers_of, first_locals}
use Rattle.lp_language.specs.Resolve.{Found, Target, internal, of_parent, shadow_target, first_with, chain_of, function_of}
use Rattle.lp_lasting_laws.proofs.Bodies.{bodies_keep, initialisers_keep}
use Rattle.lp_lasting_laws.proofs.Prices.{after_same}
use Rattle.lp_values.specs.declared.error.ErrorKind.TheVariants.{TooDeep}
use Rattle.lp_values.specs.Errors.{plain}
use Rattle.lp_meaning.specs.WorldSteps.{entered}
use Rattle.lp_meaning.specs.Askers.{asker_of, state_of}
use Rattle.lp_meaning.specs.FunctionCalls.{placed_end, placed, entering, calling, nothing_called, calling_if, calling_target, internal_call, parent_call, other_call, apply_call, initialise_call, callers_behind, goes_to_shadows, place_of, site_in}
use Rattle.lp_lasting_laws.specs.Lasting.{StaysBelow}
use Rattle.lp_lasting_laws.proofs.KeptCalls.{keeps_entered}
use Rattle.lp_lasting_laws.proofs.Stays.{after_world, stays_from, stays_body, case_stays, cond_stays, paid_stays, either_stays, plainly_stays}

-- Calls

placed_after : {A : Type 0} (r : State) (p : Place) (e : End A) → EndsAfter r e → EndsAfter r (placed_end p e)
placed_after r p (Gives x s) h = h
placed_after r p (Stops x s) h = h

pub entering_stays : (n : ℕ) (r : State) (c : Scene) (body : State → Course Value) (s : State) → 2 * s.budget ≤ n → After r s → ((t : State) → GoesAfter t (body t)) → StaysBelow n r (entering c body s)
entering_stays n r c body s low h B =
    let inside : State → Course Value = λ s. placed (place_of s.world c) (body (record s { world = entered s.world c.this c.version })) in
    paid_stays n r 1 s (λ s. cond (nat_lt max_depth c.depth) (stops (Failed (plain TooDeep)) s) (inside s)) h (λ enough l.
    let s1 : State = record s { budget = s.budget - 1 } in
    let t : State = record s1 { world = entered s1.world c.this c.version } in
    let at = after_world r s1 t l refl refl (keeps_entered s1.world c.this c.version) in
    cond_stays n r (nat_lt max_depth c.depth) (stops (Failed (plain TooDeep)) s1) (inside s1) l
    (case_stays n r (body t) (λ e. Over (placed_end (place_of s1.world c) e)) (stays_from n r t (body t) at (stays_body n t (body t) (omega (arith, low, enough)) (B t))) (λ e h. placed_after r (place_of s1.world c) e h)))

module _ (n : ℕ) (a : Ask) (low : 2 * a.budget ≤ n) where
  r : State
  r = state_of a

  pub nothing_stays : StaysBelow n (state_of a) (nothing_called a)
  nothing_stays = after_same (state_of a)

  calling_stays : (o : ObjId) (callers : List ObjId) (f : Found) → StaysBelow n (state_of a) (calling a o callers f)
  calling_stays o callers f =
      let c = site_in (asker_of a) a.world o f.part f.function.name callers in
      let s = record (state_of a) { locals = first_locals f.function a.arguments } in
      plainly_stays n (state_of a) _ (entering_stays n (state_of a) c.scene (body_of c f.function) s low (record { no_more = omega arith; keeps = (after_same (state_of a)).keeps; commands = (after_same (state_of a)).commands }) (bodies_keep c f.function))

  calling_if_stays : (o : ObjId) (callers : List ObjId) (f : Option Found) → StaysBelow n (state_of a) (calling_if a o callers f)
  calling_if_stays o callers None = nothing_stays
  calling_if_stays o callers (Some f) = calling_stays o callers f

  calling_target_stays : (callers : List ObjId) (t : Option Target) → StaysBelow n (state_of a) (calling_target a callers t)
  calling_target_stays callers None = nothing_stays
  calling_target_stays callers (Some t) = calling_stays t.object callers t.found

  pub internal_stays : (name : List ℕ) → StaysBelow n (state_of a) (internal_call a name)
  internal_stays name = either_stays n (state_of a) a.scene _ _ (λ c. calling_if_stays c.this c.callers (internal a.world c name)) nothing_stays

  pub parent_stays : (inherit : ℕ) (name : List ℕ) → StaysBelow n (state_of a) (parent_call a inherit name)
  parent_stays inherit name = either_stays n (state_of a) a.scene _ _ (λ c. calling_if_stays c.this c.callers (of_parent a.world c inherit name)) nothing_stays

  pub other_stays : (o : ObjId) (name : List ℕ) → StaysBelow n (state_of a) (other_call a o name)
  other_stays o name = either_stays n (state_of a) a.scene _ _ (λ c. calling_target_stays (c.this ∷ c.callers) (shadow_target a.world c.this o name)) nothing_stays

  pub apply_stays : (o : ObjId) (name : List ℕ) → StaysBelow n (state_of a) (apply_call a o name)
  apply_stays o name =
      cond_stays n (state_of a) (goes_to_shadows name) _ _ (calling_target_stays (callers_behind a.scene) (first_with a.world (chain_of a.world o) name)) (calling_if_stays o (callers_behind a.scene) (function_of a.world o name))

  pub initialise_stays : (o : ObjId) (part : ℕ) → StaysBelow n (state_of a) (initialise_call a o part)
  initialise_stays o part =
      let c = site_in (asker_of a) a.world o part (codes "__INIT") (callers_behind a.scene) in
      plainly_stays n (state_of a) _ (entering_stays n (state_of a) c.scene (initialisers_of c) (state_of a) low (after_same (state_of a)) (initialisers_keep c))
