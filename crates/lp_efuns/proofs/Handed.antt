-- Connections that go from one object to another, and the objects that have them.
use Rattle.std.proofs.Common.{◌≡◌, ◌∙◌, ◌≤◌, ◌∷◌, [], ℕ, pos, Bool, true, false, List, Option, Some, None, All, is_some, refl, ap, sym, subst, map, length, nat_eq, nat_lt, if◌then◌else◌}
use Rattle.std.proofs.lemmas.Bool.{le-ltb}
use Rattle.std.proofs.lemmas.List.{length-map}
use Rattle.std.proofs.lemmas.List.Elements.{All-cons, All-nil}
use Rattle.lp_values.specs.Limits.{max_items}
use Rattle.lp_values.specs.declared.id.ObjId.{ObjId}
use Rattle.lp_values.specs.declared.value.Value.{Value}
use Rattle.lp_values.specs.declared.value.Value.TheVariants as values
use Rattle.lp_cells.specs.Cells.{IsThere, Store}
use Rattle.lp_cells.specs.declared.content.Content.TheVariants.{Array}
use Rattle.lp_ops.specs.declared.effect.Effect.{Effect}
use Rattle.lp_ops.specs.declared.effect.Effect.TheVariants.{Makes}
use Rattle.lp_ops.specs.Effects.{IsEffectThere, refused}
use Rattle.lp_ops.specs.Operands.{operand}
use Rattle.lp_ops.specs.Operators.{array}
use Rattle.lp_values.specs.declared.error.ErrorKind.TheVariants.{TooLong}
use Rattle.lp_instr.specs.declared.efun.Efun.TheVariants as efuns
use Rattle.lp_language.specs.Course.{State}
use Rattle.lp_language.specs.Operations.{with_world}
use Rattle.lp_meaning.specs.EfunArguments.{object_arg, opened_args}
use Rattle.lp_meaning.specs.WorldEfuns.{Deed, Yields, changes, deed, exec, object_values, of_live, one, zero}
use Rattle.lp_meaning.specs.WorldSteps as steps
use Rattle.lp_meaning.specs.WorldSteps.{connection_of, with_holder}
use Rattle.lp_world.specs.Closed.{IsClosed}
use Rattle.lp_world.specs.Connecting.{Connecting, given_to}
use Rattle.lp_world.specs.Rows.{live_in}
use Rattle.lp_world.specs.Stands as stands
use Rattle.lp_world.specs.declared.connections.Connection.{Connection}
use Rattle.lp_world.specs.declared.connections.Waiting.{Waiting}
use Rattle.lp_world.specs.declared.live.Live.{Live}
use Rattle.lp_efuns.specs.declared.answer.Did.{Did}
use Rattle.lp_efuns.specs.declared.answer.Did.TheVariants as did
use Rattle.lp_efuns.specs.declared.caller.Caller.{Caller}
use Rattle.lp_efuns.specs.declared.caller.Turn.{Turn}
use Rattle.lp_efuns.specs.Deeds.{Does, HandsOver, IsDone, Looks, bounded, deed_done}
use Rattle.lp_efuns.specs.Subjects.{IsGivenTo, IsGivenUnless, handed, number_of}
use Rattle.lp_efuns.specs.Turns.{At, Setting}
use Rattle.lp_efuns.proofs.Looking.{connection_same, object_same}

-- Another holder

given_here : (o : ObjId) (c : Connection) (b : Bool) → stands.connection_of (if b then record c { object = o } else c) ≡ (if b then record (stands.connection_of c) { object = o } else stands.connection_of c)
given_here o c true = refl
given_here o c false = refl

given_same : (o : ObjId) (k : ℕ) (cs : List Connection) → map stands.connection_of (map (given_to o k) cs) ≡ map (steps.given_to o k) (map stands.connection_of cs)
given_same o k [] = refl
given_same o k (c ∷ cs) =
    ap (λ x. x ∷ map stands.connection_of (map (given_to o k) cs)) (given_here o c (nat_eq c.number k)) ∙ ap (λ l. steps.given_to o k (stands.connection_of c) ∷ l) (given_same o k cs)

at_handed : (g : Setting) (live : Live) (turn : Turn) (b : ℕ) (s : State) (k : ℕ) (o : ObjId) → At g live turn b s → At g (handed live k o) turn b (with_world s (with_holder s.world k o))
at_handed g live turn b s k o h = record {
  stands = record {
    cells = h.stands.cells;
    objects = h.stands.objects;
    names = h.stands.names;
    versions = h.stands.versions;
    kept = h.stands.kept;
    rest = record {
      files = h.stands.rest.files;
      simul = h.stands.rest.simul;
      places = h.stands.rest.places;
      sentences = h.stands.rest.sentences;
      next_sentence = h.stands.rest.next_sentence;
      timing = h.stands.rest.timing;
      connections = given_same o k live.connections.opened ∙ ap (map (steps.given_to o k)) h.stands.rest.connections;
      highest = h.stands.rest.highest;
      present = h.stands.rest.present;
      waiting = h.stands.rest.waiting;
      clock = h.stands.rest.clock;
      generator = h.stands.rest.generator;
      next_clone = h.stands.rest.next_clone;
    };
  };
  left = h.left;
  outputs = h.outputs;
  player = h.player;
  commands = h.commands;
}

-- a state stays closed where the same waits for lines
pub closed_handed : (live : Live) (c : Connecting) → IsClosed live → c.waiting ≡ live.connections.waiting → IsClosed (record live { connections = c })
closed_handed live c h e = record {
  clock = h.clock;
  cells = h.cells;
  objects = h.objects;
  apart = h.apart;
  versions = h.versions;
  call_outs = h.call_outs;
  waiting = subst (λ (ws : List Waiting). All (λ (x : Waiting). All (IsThere live.cells) x.arguments) ws) (sym e) h.waiting;
  placed = h.placed;
  numbered = h.numbered;
  room = h.room;
}

-- `exec`

pub given_none : (live : Live) (k : ℕ) (o : ObjId) (c : Connecting) → number_of live o ≡ None
    → c ≡ record { opened = map (given_to o k) live.connections.opened; highest = live.connections.highest; present = live.connections.present; waiting = live.connections.waiting }
    → IsGivenUnless live k o (did.Value (values.Int (pos 1))) (record live { connections = c })
given_none live k o c e q = subst (λ j. IsGivenTo j live k o (did.Value (values.Int (pos 1))) (record live { connections = c })) (sym e) (refl, ap (λ x. record live { connections = x }) q)

found_some : (j : Option ℕ) → is_some j ≡ true → (n : ℕ) × (j ≡ Some n)
found_some None h = cc
found_some (Some n) h = (n, refl)

pub none_found : (j : Option ℕ) → is_some j ≡ false → j ≡ None
none_found None h = refl
none_found (Some n) h = cc

pub given_some : (live : Live) (k : ℕ) (o : ObjId) → is_some (number_of live o) ≡ true → IsGivenUnless live k o (did.Value (values.Int (pos 0))) live
given_some live k o h =
    let f = found_some (number_of live o) h in
    subst (λ j. IsGivenTo j live k o (did.Value (values.Int (pos 0))) live) (sym f.1) (refl, refl)

-- what becomes of a connection, by whether the object has one
abbrev given_in : State → ObjId → ℕ → Option ℕ → Deed
given_in s to k j = if is_some j then Yields zero s else changes (with_holder s.world k to) one s

gave : (g : Setting) (live live1 : Live) (turn : Turn) (b : ℕ) (s : State) (to : ObjId) (k : ℕ) (d : Did) (j : Option ℕ) → At g live turn b s → IsGivenTo j live k to d live1
    → IsDone d (At g live1 turn b) (deed_done (given_in s to k j) s)
gave g live live1 turn b s to k d None h e =
    subst (λ d. IsDone d (At g live1 turn b) (deed_done (given_in s to k None) s)) (sym e.0)
    (subst (λ l. IsDone (did.Value (values.Int (pos 1))) (At g l turn b) (deed_done (given_in s to k None) s)) (sym e.1) (refl, at_handed g live turn b s k to h))
gave g live live1 turn b s to k d (Some n) h e =
    subst (λ d. IsDone d (At g live1 turn b) (deed_done (given_in s to k (Some n)) s)) (sym e.0)
    (subst (λ l. IsDone (did.Value (values.Int (pos 0))) (At g l turn b) (deed_done (given_in s to k (Some n)) s)) (sym e.1) (refl, h))

abbrev exec_in : State → ObjId → Option ℕ → Deed
exec_in s to i = elim i [ None ↦ Yields zero s | Some k ↦ given_in s to k (connection_of s.world to) ]

pub hands_over : (live live1 : Live) (to from : ObjId) (k : ℕ) (d : Did) → number_of live from ≡ Some k → IsGivenUnless live k to d live1 → HandsOver to from live d live1
hands_over live live1 to from k d e i g turn b s h =
    subst (λ i. IsDone d (At g live1 turn b) (deed_done (exec_in s to i) s)) (sym (connection_same g live turn b s from h ∙ e))
    (subst (λ j. IsDone d (At g live1 turn b) (deed_done (given_in s to k j) s)) (sym (connection_same g live turn b s to h)) (gave g live live1 turn b s to k d (number_of live to) h i))

pub hands_nothing : (live : Live) (to from : ObjId) → number_of live from ≡ None → HandsOver to from live (did.Value (values.Int (pos 0))) live
hands_nothing live to from e g turn b s h =
    subst (λ i. IsDone (did.Value (values.Int (pos 0))) (At g live turn b) (deed_done (exec_in s to i) s)) (sym (connection_same g live turn b s from h ∙ e)) (refl, h)

pub exec_does : (caller : Caller) (vs : List Value) (live live1 : Live) (turn : Turn) (to from : ObjId) (d : Did)
    → ((cells : Store) → Some to ≡ object_arg (map (operand (live_in live.objects) cells) vs) 0) → ((cells : Store) → Some from ≡ object_arg (map (operand (live_in live.objects) cells) vs) 1)
    → HandsOver to from live d live1 → Does efuns.Exec caller vs live turn d live1 turn
unfolding deed
exec_does caller vs live live1 turn to from d f k i g b c s sc h =
    subst (λ o. IsDone d (At g live1 turn b) (deed_done (of_live o s (λ a. of_live (object_arg (opened_args s vs) 1) s (λ b. exec a b s))) s)) (sym (object_same g live turn b s vs 0 (Some to) h f))
    (subst (λ o. IsDone d (At g live1 turn b) (deed_done (of_live o s (λ b. exec to b s)) s)) (sym (object_same g live turn b s vs 1 (Some from) h k)) (i g turn b s h))

pub exec_to_nothing : (caller : Caller) (vs : List Value) (live : Live) (turn : Turn) → ((cells : Store) → None ≡ object_arg (map (operand (live_in live.objects) cells) vs) 0)
    → Does efuns.Exec caller vs live turn (did.Value (values.Int (pos 0))) live turn
unfolding deed
exec_to_nothing caller vs live turn f g b c s sc h =
    subst (λ o. IsDone (did.Value (values.Int (pos 0))) (At g live turn b) (deed_done (of_live o s (λ a. of_live (object_arg (opened_args s vs) 1) s (λ b. exec a b s))) s)) (sym (object_same g live turn b s vs 0 None h f)) (refl, h)

pub exec_from_nothing : (caller : Caller) (vs : List Value) (live : Live) (turn : Turn) (to : ObjId)
    → ((cells : Store) → Some to ≡ object_arg (map (operand (live_in live.objects) cells) vs) 0) → ((cells : Store) → None ≡ object_arg (map (operand (live_in live.objects) cells) vs) 1)
    → Does efuns.Exec caller vs live turn (did.Value (values.Int (pos 0))) live turn
unfolding deed
exec_from_nothing caller vs live turn to f k g b c s sc h =
    subst (λ o. IsDone (did.Value (values.Int (pos 0))) (At g live turn b) (deed_done (of_live o s (λ a. of_live (object_arg (opened_args s vs) 1) s (λ b. exec a b s))) s)) (sym (object_same g live turn b s vs 0 (Some to) h f))
    (subst (λ o. IsDone (did.Value (values.Int (pos 0))) (At g live turn b) (deed_done (of_live o s (λ b. exec to b s)) s)) (sym (object_same g live turn b s vs 1 None h k)) (refl, h))

-- `users`

holders_same : (cs : List Connection) → object_values (map (λ x. x.object) (map stands.connection_of cs)) ≡ map (λ (c : Connection). values.Obj c.object) cs
holders_same [] = refl
holders_same (c ∷ cs) = ap (λ l. values.Obj c.object ∷ l) (holders_same cs)

-- an array that is short enough is made
short_array : (m : ℕ) (vs : List Value) → length vs ≤ m → (if nat_lt m (length vs) then refused TooLong else Makes (Array vs)) ≡ Makes (Array vs)
short_array m vs h = ap (λ b. if b then refused TooLong else Makes (Array vs)) (le-ltb m (length vs) h)

pub users_look : (caller : Caller) (vs us : List Value) (live : Live) (turn : Turn) (e : Effect) → length live.connections.opened ≤ max_items
    → us ≡ map (λ (c : Connection). values.Obj c.object) live.connections.opened → e ≡ Makes (Array us) → Looks efuns.Users caller vs live turn e
unfolding deed
users_look caller vs us live turn e short q r g b c s sc h =
    let count : length us ≡ length live.connections.opened = ap length q ∙ length-map live.connections.opened (λ (c : Connection). values.Obj c.object) in
    ap (λ l. Yields (array l) s) (ap (λ os. object_values (map (λ x. x.object) os)) (sym h.stands.rest.connections) ∙ holders_same live.connections.opened)
    ∙ ap (λ x. Yields x s)
    (ap (λ l. Makes (Array l)) (sym q) ∙ sym (short_array max_items us (subst (λ n. n ≤ max_items) (sym count) short)) ∙ ap bounded (sym r))

holders_there : (cells : Store) (cs : List Connection) → All (IsThere cells) (map (λ (c : Connection). values.Obj c.object) cs)
holders_there cells [] = All-nil (IsThere cells)
holders_there cells (c ∷ cs) = All-cons (IsThere cells) (values.Obj c.object) (map (λ (c : Connection). values.Obj c.object) cs) tt (holders_there cells cs)

pub users_there : (cells : Store) (us : List Value) (cs : List Connection) (e : Effect) → us ≡ map (λ (c : Connection). values.Obj c.object) cs → e ≡ Makes (Array us) → IsEffectThere cells e
users_there cells us cs e q r = subst (IsEffectThere cells) (sym r) (subst (All (IsThere cells)) (sym q) (holders_there cells cs))
