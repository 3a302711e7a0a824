-- What is planned, carried out.
use Rattle.std.proofs.Common.{◌≡◌, ◌∙◌, ◌++◌, ◌∷◌, [], ◌+◌, ◌<◌, ◌≤◌, ℕ, pos, Bool, true, false, List, Option, All, refl, ap, sym, subst, map, drop, length, if◌then◌else◌, inl, inr, ◌⊎◌, Ok, Err}
use Rattle.std.proofs.lemmas.Bool.{cases_Bool, le-ltb, lt-ltb, ltb-false, ltb-true}
use Rattle.std.specs.Prelude.{nat_lt}
use Rattle.std.proofs.lemmas.List.Elements.{All-drop}
use Rattle.lp_values.specs.declared.id.ObjId.{ObjId}
use Rattle.lp_values.specs.declared.value.Value.{Value}
use Rattle.lp_values.specs.declared.value.Value.TheVariants as values
use Rattle.lp_values.specs.declared.error.ErrorKind.TheVariants as errors
use Rattle.lp_values.specs.Errors.{plain}
use Rattle.lp_actions.specs.Actions.{Sentence}
use Rattle.lp_actions.specs.Held.{Lists, next_in}
use Rattle.lp_actions.specs.declared.actions.Actions.{Actions}
use Rattle.lp_cells.specs.Cells.{IsThere, Store}
use Rattle.lp_events.specs.declared.out.Out.{Out}
use Rattle.lp_events.specs.declared.out.Out.TheVariants as outs
use Rattle.lp_ops.specs.Effects.{refused}
use Rattle.lp_ops.specs.Operands.{Opened, operand}
use Rattle.lp_timers.specs.Timers.{max_call_outs}
use Rattle.lp_timers.specs.Timing.{Timing}
use Rattle.lp_language.specs.Course.{State}
use Rattle.lp_language.specs.Operations.{cells_of, living, with_world}
use Rattle.lp_meaning.specs.Askers.{told}
use Rattle.lp_meaning.specs.EfunArguments.{int_arg, opened_args, text_arg}
use Rattle.lp_meaning.specs.WorldEfuns.{Deed, Yields, changes, is_flag, with_call_out, with_sentence, with_waiting, zero}
use Rattle.lp_world.specs.Closed.{IsClosed}
use Rattle.lp_world.specs.Connecting.{Connecting}
use Rattle.lp_world.specs.Laws as laws
use Rattle.lp_world.specs.Stands.{Stands}
use Rattle.lp_world.proofs.Closing.{closed_with_call_out}
use Rattle.lp_swapfile.specs.Device.{Bytes}
use Rattle.lp_timers.specs.declared.fault.TimerFault.TheVariants.{TooMany}
use Rattle.lp_world.specs.declared.connections.Waiting.{Waiting}
use Rattle.lp_world.specs.declared.live.Live.{Live}
use Rattle.lp_efuns.specs.declared.answer.Did.{Did}
use Rattle.lp_efuns.specs.declared.answer.Did.TheVariants as did
use Rattle.lp_efuns.specs.declared.caller.Turn.{Turn}
use Rattle.lp_efuns.specs.Deeds.{IsDone, deed_done}
use Rattle.lp_efuns.specs.Turns.{At, Setting}
use Rattle.lp_putting.specs.Plans.{StandsStill}
use Rattle.lp_putting.specs.Plans.{AnswersPlan, CarriesPlan, IsWaiting, plan_done}
use Rattle.lp_putting.specs.declared.plans.Plan.{Plan}
use Rattle.lp_putting.specs.declared.plans.Plan.TheVariants as plans
use Rattle.lp_putting.proofs.Standing.{at_call_out, at_sentence, at_waiting, awaiting, waiting_more, closed_outputs, closed_waiting, sentence, still_outputs}

-- an action comes
pub action_comes : (holder this : ObjId) (vs : List Value) (live : Live) (a : Actions) (fun verb : List ℕ) (f : Bool)
    → ((l : ObjId → Bool) (cells : Store) → fun ≡ text_arg (map (operand l cells) vs) 0) → ((l : ObjId → Bool) (cells : Store) → verb ≡ text_arg (map (operand l cells) vs) 1)
    → ((l : ObjId → Bool) (cells : Store) → f ≡ is_flag (int_arg (map (operand l cells) vs) 2))
    → ((ss : List Sentence) → Lists live.actions ss → Lists a (sentence (next_in live.actions) holder this fun verb f ∷ ss)) → next_in a ≡ next_in live.actions + 1
    → CarriesPlan (plans.Action holder) this vs live (did.Value (values.Int (pos 1))) (record live { actions = a })
action_comes holder this vs live a fun verb f ef ev el first next g turn b s h =
    let P : List ℕ → List ℕ → Bool → Type 0 = λ t u k. At g (record live { actions = a }) turn b (with_world s (with_sentence s.world holder this t u k)) in
    let xs : List Opened = opened_args s vs in (
      refl,
      subst (λ t. P t (text_arg xs 1) (is_flag (int_arg xs 2))) (ef (living s) (cells_of s))
          (subst (λ u. P fun u (is_flag (int_arg xs 2))) (ev (living s) (cells_of s))
          (subst (λ k. P fun verb k) (el (living s) (cells_of s)) (at_sentence g live turn b s a holder this fun verb f first next h))),
    )

-- a function waits for a line
abbrev hidden : ℕ → Bool → List Out
hidden k f = if f then outs.Hide k ∷ [] else []

-- the connections with one more that waits
abbrev pub IsAwaitedBy : Live → Waiting → Connecting → Type 0
IsAwaitedBy live x c = c ≡ record { opened = live.connections.opened; highest = live.connections.highest; present = live.connections.present; waiting = live.connections.waiting ++ x ∷ [] }

waits : (k : ℕ) (this : ObjId) (vs : List Value) (live : Live) (f : Bool) (x : Waiting) → ((l : ObjId → Bool) (cells : Store) → f ≡ is_flag (int_arg (map (operand l cells) vs) 1)) → IsWaiting k this f vs x
    → CarriesPlan (plans.Line k) this vs live (did.Value (values.Int (pos 1))) (awaiting live (hidden k f) x)
waits k this vs live f x ef ex g turn b s h =
    let xs : List Opened = opened_args s vs in (
      refl,
      subst (λ f. At g (awaiting live (hidden k f) x) turn b (told (hidden k (is_flag (int_arg xs 1))) (with_world s (with_waiting s.world k this (text_arg xs 0) (is_flag (int_arg xs 1)) (drop 2 vs))))) (sym (ef (living s) (cells_of s)))
          (at_waiting g live turn b s (hidden k (is_flag (int_arg xs 1))) k this (text_arg xs 0) (is_flag (int_arg xs 1)) (drop 2 vs) x
          (ex (living s) (cells_of s) ∙ ap (λ f. record { connection = k; object = this; function = text_arg xs 0; hides = f; arguments = drop 2 vs }) (ef (living s) (cells_of s))) h),
    )

pub line_waits : (k : ℕ) (this : ObjId) (vs : List Value) (live live1 : Live) (f : Bool) (x : Waiting) (c : Connecting) → ((l : ObjId → Bool) (cells : Store) → f ≡ is_flag (int_arg (map (operand l cells) vs) 1)) → IsWaiting k this f vs x
    → live1 ≡ record live { outputs = live.outputs ++ (if f then outs.Hide k ∷ [] else []) } → IsAwaitedBy live1 x c
    → CarriesPlan (plans.Line k) this vs live (did.Value (values.Int (pos 1))) (record live1 { connections = c })
line_waits k this vs live live1 f x c ef ex e q =
    subst (λ c. CarriesPlan (plans.Line k) this vs live (did.Value (values.Int (pos 1))) (record live1 { connections = c })) (sym q)
    (subst (λ l. CarriesPlan (plans.Line k) this vs live (did.Value (values.Int (pos 1))) (waiting_more l x)) (sym e) (waits k this vs live f x ef ex))

pub line_closed : (k : ℕ) (this : ObjId) (vs : List Value) (live live1 : Live) (f : Bool) (x : Waiting) (c : Connecting) → IsWaiting k this f vs x → All (IsThere live.cells) vs
    → live1 ≡ record live { outputs = live.outputs ++ (if f then outs.Hide k ∷ [] else []) } → IsAwaitedBy live1 x c → IsClosed live → IsClosed (record live1 { connections = c })
line_closed k this vs live live1 f x c ex there e q h =
    subst (λ c. IsClosed (record live1 { connections = c })) (sym q)
    (subst (λ (l : Live). IsClosed (waiting_more l x)) (sym e)
    (closed_waiting live (hidden k f) x (subst (λ (y : Waiting). All (IsThere live.cells) y.arguments) (sym (ex (λ o. true) [])) (All-drop (IsThere live.cells) 2 vs there)) h))

-- where memory is wanting nothing waits
pub hidden_closed : (live live1 : Live) (os : List Out) → live1 ≡ record live { outputs = os } → IsClosed live → IsClosed live1
hidden_closed live live1 os e h = subst IsClosed (sym e) (closed_outputs live os h)

pub hidden_still : (file : Option Bytes) (live live1 : Live) (os : List Out) → live1 ≡ record live { outputs = os } → StandsStill file live live1
hidden_still file live live1 os e = subst (StandsStill file live) (sym e) (still_outputs file live os)

-- a call-out comes
less_or_not : (n m : ℕ) → (n < m) ⊎ (m ≤ n)
less_or_not n m = elim (cases_Bool (nat_lt n m)) [
  | inl t ↦ inl (ltb-true n m t)
  | inr f ↦ inr (ltb-false n m f)
]

below_true : (n m : ℕ) → n < m → nat_lt n m ≡ true
below_true n m h = lt-ltb n m h

below_false : (n m : ℕ) → m ≤ n → nat_lt n m ≡ false
below_false n m h = le-ltb n m h

-- by whether there is room
abbrev delayed : State → ObjId → List ℕ → ℕ → List Value → Bool → Deed
delayed s o t n vs b = if b then changes (with_call_out s.world o t n (drop 2 vs)) zero s else Yields (refused errors.TooMany) s

count_same : (g : Setting) (live : Live) (turn : Turn) (b : ℕ) (s : State) → At g live turn b s → length s.world.call_outs ≡ length live.timers.call_outs
count_same g live turn b s h = ap (λ (t : Timing). length t.call_outs) (sym h.stands.rest.timing)

pub call_out_comes : (n : ℕ) (this : ObjId) (vs : List Value) (live : Live) (fun : List ℕ) (kept : List Value) (t : Timing) → ((l : ObjId → Bool) (cells : Store) → fun ≡ text_arg (map (operand l cells) vs) 0)
    → kept ≡ drop 2 vs → length live.timers.call_outs < max_call_outs → t ≡ laws.with_call_out live.timers this fun (live.clock + n) kept
    → CarriesPlan (plans.Delay n) this vs live (did.Value (values.Int (pos 0))) (record live { timers = t })
call_out_comes n this vs live fun kept t ef k room e g turn b s h =
    let xs : List Opened = opened_args s vs in
    subst (λ d. IsDone (did.Value (values.Int (pos 0))) (At g (record live { timers = t }) turn b) (deed_done d s))
    (sym (ap (delayed s this (text_arg xs 0) n vs) (ap (λ k. nat_lt k max_call_outs) (count_same g live turn b s h) ∙ below_true (length live.timers.call_outs) max_call_outs room))) (
      refl,
      subst (λ u. At g (record live { timers = t }) turn b (with_world s (with_call_out s.world this u n (drop 2 vs)))) (ef (living s) (cells_of s)) (at_call_out g live turn b s this fun n (drop 2 vs) t (e ∙ ap (laws.with_call_out live.timers this fun (live.clock + n)) k) h),
    )

pub too_many : (n : ℕ) (this : ObjId) (vs : List Value) (live : Live) (t : Timing) → max_call_outs ≤ length live.timers.call_outs → t ≡ live.timers
    → CarriesPlan (plans.Delay n) this vs live (did.Error (plain errors.TooMany)) (record live { timers = t })
too_many n this vs live t full e g turn b s h =
    let xs : List Opened = opened_args s vs in
    subst (λ d. IsDone (did.Error (plain errors.TooMany)) (At g (record live { timers = t }) turn b) (deed_done d s))
    (sym (ap (delayed s this (text_arg xs 0) n vs) (ap (λ k. nat_lt k max_call_outs) (count_same g live turn b s h) ∙ below_false (length live.timers.call_outs) max_call_outs full)))
    (refl, subst (λ t. At g (record live { timers = t }) turn b s) (sym e) h)

pub call_out_closed : (n : ℕ) (this : ObjId) (vs : List Value) (live : Live) (fun : List ℕ) (kept : List Value) (t : Timing) → kept ≡ drop 2 vs → All (IsThere live.cells) vs
    → t ≡ laws.with_call_out live.timers this fun (live.clock + n) kept → IsClosed live → IsClosed (record live { timers = t })
call_out_closed n this vs live fun kept t k there e h =
    subst (λ t. IsClosed (record live { timers = t })) (sym e)
    (closed_with_call_out live this fun (live.clock + n) kept h (subst (All (IsThere live.cells)) (sym k) (All-drop (IsThere live.cells) 2 vs there)))

-- where none came
pub timers_closed : (live : Live) (t : Timing) → t ≡ live.timers → IsClosed live → IsClosed (record live { timers = t })
timers_closed live t e h = subst (λ t. IsClosed (record live { timers = t })) (sym e) h

pub timers_still : (file : Option Bytes) (live : Live) (t : Timing) → t ≡ live.timers → StandsStill file live (record live { timers = t })
timers_still file live t e programs w h = subst (λ t. Stands file programs (record live { timers = t }) w) (sym e) h

-- one that came had room
pub room_for : {A : Type 0} (n m : ℕ) (x : A) → (m ≤ n → Ok x ≡ Err TooMany) → n < m
room_for n m x f = elim (less_or_not n m) [
  | inl l ↦ l
  | inr l ↦ let e = f l in absurd cc
]

-- the object has the function, or not
pub plan_answered : (p : Plan) (o : ObjId) (vs : List Value) (live0 live1 : Live) (d : Did) → CarriesPlan p o vs live0 d live1 → AnswersPlan p o vs true live0 d live1
plan_answered p o vs live0 live1 d k g turn b s h e =
    let xs : List Opened = opened_args s vs in
    subst (λ v. IsDone d (At g live1 turn b) (deed_done (if v then plan_done p s o vs xs else Yields (refused errors.NoFunction) s) s)) (sym e) (k g turn b s h)

pub plan_refused : (p : Plan) (o : ObjId) (vs : List Value) (live : Live) → AnswersPlan p o vs false live (did.Error (plain errors.NoFunction)) live
plan_refused p o vs live g turn b s h e =
    let xs : List Opened = opened_args s vs in
    subst (λ v. IsDone (did.Error (plain errors.NoFunction)) (At g live turn b) (deed_done (if v then plan_done p s o vs xs else Yields (refused errors.NoFunction) s) s)) (sym e) (refl, h)
