-- How runs of the code are put together.
use Rattle.std.proofs.Common.{◌≡◌, ℕ, suc, ◌+◌, ◌-◌, ◌≤◌, Bool, true, false, cond, List, [], ◌∷◌, ◌++◌, length, drop, Option, Some, None, refl, sym, ap, ◌∙◌, subst, arith}
use Rattle.std.specs.Prelude.{slice_get}
use Rattle.lp_values.specs.declared.value.Value.{Value}
use Rattle.lp_instr.specs.declared.instr.Instr.{Instr}
use Rattle.lp_language.specs.Course.{Scene, State, Stop, End, Gives, Stops, Course, Over, Asks, and_then, caught}
use Rattle.lp_instr.specs.Code.{Code, Catching}
use Rattle.lp_isa.specs.Machine.{Moment, Next, stop_at, stopped, goes, act, act_at}
use Rattle.lp_isa.specs.Translates.{One}
use Rattle.lp_language.specs.Afterwards.{EndsAfter, GoesAfter}
use Rattle.lp_isa.specs.Runs.{Comes, there, later, Follows}

pub comes_trans : {code : Code} {c : Scene} {x y z : Next} → Comes code c x y → Comes code c y z → Comes code c x z
comes_trans there q = q
comes_trans (later p) q = later (comes_trans p q)

pub comes_to : {code : Code} {c : Scene} {x y z : Next} → Comes code c x y → y ≡ z → Comes code c x z
comes_to {code} {c} {x} p e = subst (λ y. Comes code c x y) e p

module _ (code : Code) (c : Scene) where
  -- one instruction
  pub one_step : (i : Instr) (from : ℕ) (st : List Value) (cs : List Catching) (s : State) → slice_get code.instrs from ≡ Some i → Comes code c (goes from st cs s) (act code c i from st cs s)
  one_step i from st cs s h =
      let m : Moment = record { place = from; stack = st; catches = cs; state = s } in
      later (comes_to there (ap (λ o. act_at code c o m) h))

  -- one instruction that leads to the next one
  pub step_on : (i : Instr) (from : ℕ) (st st' : List Value) (cs cs' : List Catching) (s s' : State) → slice_get code.instrs from ≡ Some i → act code c i from st cs s ≡ goes (from + 1) st' cs' s' → Comes code c (goes from st cs s) (goes (from + 1) st' cs' s')
  step_on i from st st' cs cs' s s' h e = comes_to (one_step i from st cs s h) e

  -- the same, where the next place has a name
  pub step_to : (i : Instr) (from to : ℕ) (st st' : List Value) (cs cs' : List Catching) (s s' : State) → One code i from to → act code c i from st cs s ≡ goes (from + 1) st' cs' s' → Comes code c (goes from st cs s) (goes to st' cs' s')
  step_to i from to st st' cs cs' s s' h e =
      comes_to (comes_to (one_step i from st cs s h.0) e) (ap (λ p. goes p st' cs' s') (sym h.1))

  pub follows_after : {A : Type 0} {x y : Next} (t : Course A) (Q : End A → Next → Type 0) → Comes code c x y → Follows code c y t Q → Follows code c x t Q
  follows_after (Over e) Q p r = (r.0, comes_trans p r.1, r.2)
  follows_after (Asks a k) Q p r = (r.0, comes_trans p r.1, r.2)

  pub follows_then : {A B : Type 0} (x : Next) (t : Course A) (go : A → State → Course B) (P : End A → Next → Type 0) (Q : End B → Next → Type 0) → Follows code c x t P → ((v : A) (s : State) (y : Next) → P (Gives v s) y → Follows code c y (go v s) Q) → ((w : Stop) (s : State) (y : Next) → P (Stops w s) y → Q (Stops w s) y) → Follows code c x (and_then t go) Q
  follows_then x (Over (Gives v s)) go P Q r f g = follows_after (go v s) Q r.1 (f v s r.0 r.2)
  follows_then x (Over (Stops w s)) go P Q r f g = (r.0, r.1, g w s r.0 r.2)
  follows_then x (Asks a k) go P Q r f g =
      (r.0, r.1, λ o can. follows_then (r.0 o) (k o) go P Q (r.2 o can) f g)

  -- from where it ends, the code goes on a little
  pub follows_on : {A : Type 0} (x : Next) (t : Course A) (P Q : End A → Next → Type 0) → Follows code c x t P → ((e : End A) (y : Next) → P e y → (z : Next) × Comes code c y z × Q e z) → Follows code c x t Q
  follows_on x (Over e) P Q r f = let g = f e r.0 r.2 in (g.0, comes_trans r.1 g.1, g.2)
  follows_on x (Asks a k) P Q r f = (r.0, r.1, λ o can. follows_on (r.0 o) (k o) P Q (r.2 o can) f)

  -- what is known of where a course ends is known where the code ends
  pub follows_known : {A : Type 0} (r : State) (x : Next) (t : Course A) (P : End A → Next → Type 0) → Follows code c x t P → GoesAfter r t → Follows code c x t (λ e y. P e y × EndsAfter r e)
  follows_known r x (Over e) P f g = (f.0, f.1, (f.2, g))
  follows_known r x (Asks a k) P f g = (f.0, f.1, λ o can. follows_known r (f.0 o) (k o) P (f.2 o can) (g.1 o can))

  pub follows_cond : {A : Type 0} (b : Bool) (y z : Next) (t u : Course A) (Q : End A → Next → Type 0) → Follows code c y t Q → Follows code c z u Q → Follows code c (cond b y z) (cond b t u) Q
  follows_cond true y z t u Q p q = p
  follows_cond false y z t u Q p q = q

-- the innermost catch has at most this height
abbrev pub Within : List Catching → ℕ → Type 0
Within [] n = Unit {0}
Within (k ∷ cs) n = k.height ≤ n

pub within_more : (cs : List Catching) (n : ℕ) → Within cs n → Within cs (suc n)
within_more [] n h = tt
within_more (k ∷ cs) n h = omega arith

drop-lower : (h n : ℕ) (v : Value) (st : List Value) → h ≤ n → drop (suc n - h) (v ∷ st) ≡ drop (n - h) st
drop-lower h n v st le = let e : suc n - h ≡ suc (n - h) = omega arith in ap (λ k. drop k (v ∷ st)) e

stop_lower : (k : Option Value) (w : Stop) (cs : List Catching) (v : Value) (st : List Value) (s : State) → Within cs (length st) → stop_at k w cs (v ∷ st) s ≡ stop_at k w cs st s
stop_lower None w cs v st s h = refl
stop_lower (Some x) w [] v st s h = refl
stop_lower (Some x) w (k ∷ cs) v st s h = ap (λ l. goes k.place (x ∷ l) cs s) (drop-lower k.height (length st) v st h)

-- a value above the catches' heights is lost at a stop
pub stopped_lower : (w : Stop) (cs : List Catching) (v : Value) (st : List Value) (s : State) → Within cs (length st) → stopped w cs (v ∷ st) s ≡ stopped w cs st s
stopped_lower w cs v st s h = stop_lower (caught w.cause) w cs v st s h

pub within_all : (cs : List Catching) (l st : List Value) → Within cs (length st) → Within cs (length (l ++ st))
within_all cs [] st h = h
within_all cs (x ∷ l) st h = within_more cs _ (within_all cs l st h)

-- the same for several values
pub sink : (l : List Value) (w : Stop) (cs : List Catching) (st : List Value) (s : State) → Within cs (length st) → stopped w cs (l ++ st) s ≡ stopped w cs st s
sink [] w cs st s h = refl
sink (x ∷ l) w cs st s h = stopped_lower w cs x (l ++ st) s (within_all cs l st h) ∙ sink l w cs st s h

-- where the code of an expression ends
abbrev pub ExprEnd : ℕ → List Value → List Catching → End Value → Next → Type 0
ExprEnd to st cs (Gives v s) y = y ≡ goes to (v ∷ st) cs s
ExprEnd to st cs (Stops w s) y = y ≡ stopped w cs st s
