-- What lies on the stack at a call.
use Rattle.std.proofs.Common.{◌≡◌, ◌++◌, ◌∷◌, [], ◌∙◌, ℕ, zero, suc, List, Option, Some, None, refl, ap, sym, subst, arith, append-nil, append_assoc, length, length-append, slice_get}
use Rattle.lp_values.specs.declared.value.Value.{Value}
use Rattle.lp_values.specs.declared.value.Value.TheVariants as values
use Rattle.lp_instr.specs.declared.efun.Efun.TheVariants as efun
use Rattle.lp_instr.specs.Code.{parent_row}
use Rattle.lp_language.specs.Course.{Internal, OfEfun, Parent}
use Rattle.lp_language.specs.Eval.{simul_object}
use Rattle.lp_isa.specs.Machine.{Moment, Next, awaits, on_some, on_two, take_arguments}
use Rattle.lp_world.specs.declared.frame.Frame.{Frame}
use Rattle.lp_world.specs.declared.live.Live.{Live}
use Rattle.lp_world.specs.Matches.{Around, Matches, Sits, laid}
use Rattle.lp_step.specs.declared.next.Target.TheVariants as targets
use Rattle.lp_step.specs.Steps.{IsFine}
use Rattle.lp_frames.specs.Calls.{CallsPart, WaitsThere}

record Taken (go : List Value → List Value → Next) (n : ℕ) (taken base stack old : List Value) : Type 0 where
  xs : List Value
  rest : List Value
  lies : old ≡ laid base rest ++ xs
  many : length xs ≡ n
  told : take_arguments n taken stack go ≡ go (xs ++ taken) rest

taken_of : (go : List Value → List Value → Next) (n : ℕ) (taken base stack old : List Value) → old ≡ laid base stack → IsFine (take_arguments n taken stack go) → Taken go n taken base stack old
taken_of go zero taken base stack old e f = record { xs = []; rest = stack; lies = e ∙ sym (append-nil (laid base stack)); many = refl; told = refl }
taken_of go (suc n) taken base [] old e f = absurd f
taken_of go (suc n) taken base (x ∷ stack) old e f =
    let t = taken_of go n (x ∷ taken) base stack (laid base stack) refl f in
    record {
      xs = t.xs ++ x ∷ [];
      rest = t.rest;
      lies = e ∙ ap (λ l. l ++ x ∷ []) t.lies ∙ append_assoc (laid base t.rest) t.xs (x ∷ []);
      many = omega (arith, length-append t.xs (x ∷ []), t.many);
      told = t.told ∙ ap (λ l. go l t.rest) (sym (append_assoc t.xs (x ∷ []) taken));
    }

arguments_of : (go : List Value → List Value → Next) (n : ℕ) (base stack old : List Value) → old ≡ laid base stack → IsFine (take_arguments n [] stack go)
    → (t : Taken go n [] base stack old) × (take_arguments n [] stack go ≡ go t.xs t.rest)
arguments_of go n base stack old e f = let t = taken_of go n [] base stack old e f in (t, t.told ∙ ap (λ l. go l t.rest) (append-nil t.xs))

some_of : {A : Type 0} (o : Option A) (go : A → Next) → IsFine (on_some o go) → (x : A) × (o ≡ Some x) × (on_some o go ≡ go x)
some_of None go f = absurd f
some_of (Some x) go f = (x, refl, refl)

record Two (base stack old : List Value) (go : Value → Value → List Value → Next) : Type 0 where
  x : Value
  y : Value
  rest : List Value
  lies : old ≡ laid base rest ++ x ∷ y ∷ []
  told : on_two stack go ≡ go x y rest

two_of : (base stack old : List Value) (go : Value → Value → List Value → Next) → old ≡ laid base stack → IsFine (on_two stack go) → Two base stack old go
two_of base [] old go e f = absurd f
two_of base (y ∷ []) old go e f = absurd f
two_of base (y ∷ x ∷ rest) old go e f = record { x = x; y = y; rest = rest; lies = e ∙ append_assoc (laid base rest) (x ∷ []) (y ∷ []); told = refl }

waiting : (a : Around) (live : Live) (stack : List Value) (frame : Frame) (budget : ℕ) (m : Moment) (rest : List Value) → Matches a live stack frame budget m → Sits a (laid (a.below ++ m.state.locals) rest) frame (record m { stack = rest })
waiting a live stack frame budget m rest h = record { lies = refl; bottom = h.sits.bottom; locals = h.sits.locals; place = h.sits.place; catches = h.sits.catches; belongs = h.sits.belongs }

pub calls_part : CallsPart
calls_part (targets.Slot k) n a live stack frame budget m h f =
    let go : List Value → List Value → Next = λ xs rest. on_some (slice_get a.code.rows k) (λ name. awaits (Internal name) xs a.scene m.state m.place m.catches rest) in
    let t = arguments_of go n (a.below ++ m.state.locals) m.stack stack h.sits.lies f in
    let o = some_of (slice_get a.code.rows k) (λ name. awaits (Internal name) t.0.xs a.scene m.state m.place m.catches t.0.rest) (subst IsFine t.1 f) in
    record {
      what = Internal o.0;
      given = t.0.xs;
      rest = t.0.rest;
      low = laid (a.below ++ m.state.locals) t.0.rest;
      taken = [];
      xs = t.0.xs;
      told = t.1 ∙ o.2;
      asks = (o.0, o.1, refl, refl);
      lies = t.0.lies ∙ ap (λ l. l ++ t.0.xs) (sym (append-nil (laid (a.below ++ m.state.locals) t.0.rest)));
      under = refl;
      arguments = t.0.many;
      sits = waiting a live stack frame budget m t.0.rest h;
    }
calls_part (targets.Fixed parent j) n a live stack frame budget m h f =
    let go : List Value → List Value → Next = λ xs rest. on_some (parent_row a.code parent j) (λ name. awaits (Parent parent name) xs a.scene m.state m.place m.catches rest) in
    let t = arguments_of go n (a.below ++ m.state.locals) m.stack stack h.sits.lies f in
    let o = some_of (parent_row a.code parent j) (λ name. awaits (Parent parent name) t.0.xs a.scene m.state m.place m.catches t.0.rest) (subst IsFine t.1 f) in
    record {
      what = Parent parent o.0;
      given = t.0.xs;
      rest = t.0.rest;
      low = laid (a.below ++ m.state.locals) t.0.rest;
      taken = [];
      xs = t.0.xs;
      told = t.1 ∙ o.2;
      asks = (o.0, o.1, refl, refl);
      lies = t.0.lies ∙ ap (λ l. l ++ t.0.xs) (sym (append-nil (laid (a.below ++ m.state.locals) t.0.rest)));
      under = refl;
      arguments = t.0.many;
      sits = waiting a live stack frame budget m t.0.rest h;
    }
calls_part targets.Other n a live stack frame budget m h f =
    let go : List Value → List Value → Next = λ xs rest. on_two rest (λ o name rest. awaits (OfEfun efun.CallOther) (o ∷ name ∷ xs) a.scene m.state m.place m.catches rest) in
    let t = arguments_of go n (a.below ++ m.state.locals) m.stack stack h.sits.lies f in
    let o = two_of (a.below ++ m.state.locals) t.0.rest (laid (a.below ++ m.state.locals) t.0.rest) (λ o name rest. awaits (OfEfun efun.CallOther) (o ∷ name ∷ t.0.xs) a.scene m.state m.place m.catches rest) refl (subst IsFine t.1 f) in
    record {
      what = OfEfun efun.CallOther;
      given = o.x ∷ o.y ∷ t.0.xs;
      rest = o.rest;
      low = laid (a.below ++ m.state.locals) o.rest;
      taken = o.x ∷ o.y ∷ [];
      xs = t.0.xs;
      told = t.1 ∙ o.told;
      asks = (refl, refl);
      lies = t.0.lies ∙ ap (λ l. l ++ t.0.xs) o.lies;
      under = refl;
      arguments = t.0.many;
      sits = waiting a live stack frame budget m o.rest h;
    }
calls_part (targets.Simul k) n a live stack frame budget m h f =
    let go : List Value → List Value → Next = λ xs rest. on_some (slice_get a.code.texts k) (λ name. awaits (OfEfun efun.CallOther) (simul_object m.state.world ∷ values.Str name ∷ xs) a.scene m.state m.place m.catches rest) in
    let t = arguments_of go n (a.below ++ m.state.locals) m.stack stack h.sits.lies f in
    let o = some_of (slice_get a.code.texts k) (λ name. awaits (OfEfun efun.CallOther) (simul_object m.state.world ∷ values.Str name ∷ t.0.xs) a.scene m.state m.place m.catches t.0.rest) (subst IsFine t.1 f) in
    record {
      what = OfEfun efun.CallOther;
      given = simul_object m.state.world ∷ values.Str o.0 ∷ t.0.xs;
      rest = t.0.rest;
      low = laid (a.below ++ m.state.locals) t.0.rest;
      taken = [];
      xs = t.0.xs;
      told = t.1 ∙ o.2;
      asks = (o.0, o.1, refl, refl);
      lies = t.0.lies ∙ ap (λ l. l ++ t.0.xs) (sym (append-nil (laid (a.below ++ m.state.locals) t.0.rest)));
      under = refl;
      arguments = t.0.many;
      sits = waiting a live stack frame budget m t.0.rest h;
    }

pub waits_there : WaitsThere
waits_there target n a inner stack frame m p below outputs programs = record {
  low = p.low;
  taken = p.taken;
  below = below;
  count = p.under;
  sits = p.sits;
  outputs = outputs;
  there = ap (λ ps. slice_get ps frame.program.0) programs ∙ p.sits.belongs.program;
}
