-- Connections that are closed.
use Rattle.std.proofs.Common.{◌≡◌, ◌++◌, ◌∷◌, [], ◌∙◌, ℕ, pos, Bool, true, false, not, List, Option, Some, None, All, refl, ap, sym, subst, map, filter, nat_eq, if◌then◌else◌}
use Rattle.std.proofs.lemmas.List.{append_assoc}
use Rattle.std.proofs.lemmas.List.Elements.{All-filter}
use Rattle.lp_values.specs.declared.id.ObjId.{ObjId}
use Rattle.lp_values.specs.declared.value.Value.{Value}
use Rattle.lp_values.specs.declared.value.Value.TheVariants as values
use Rattle.lp_cells.specs.Cells.{IsThere, Store}
use Rattle.lp_events.specs.declared.out.Out.{Out}
use Rattle.lp_events.specs.declared.out.Out.TheVariants as outs
use Rattle.lp_ops.specs.Operands.{operand}
use Rattle.lp_instr.specs.declared.efun.Efun.TheVariants as efuns
use Rattle.lp_language.specs.Course.{State}
use Rattle.lp_language.specs.Operations.{with_world}
use Rattle.lp_meaning.specs.Askers.{told}
use Rattle.lp_meaning.specs.EfunArguments.{object_arg}
use Rattle.lp_meaning.specs.WorldEfuns.{Yields, deed, of_live, remove_interactive, zero}
use Rattle.lp_meaning.specs.WorldSteps.{connection_of, without_connection}
use Rattle.lp_world.specs.Closed.{IsClosed}
use Rattle.lp_world.specs.Rows.{live_in}
use Rattle.lp_world.specs.Stands as stands
use Rattle.lp_world.specs.Connecting.{Connecting}
use Rattle.lp_world.specs.declared.connections.Waiting.{Waiting}
use Rattle.lp_world.specs.declared.live.Live.{Live}
use Rattle.lp_efuns.specs.declared.answer.Did.TheVariants as did
use Rattle.lp_efuns.specs.declared.caller.Caller.{Caller}
use Rattle.lp_efuns.specs.declared.caller.Turn.{Turn}
use Rattle.lp_efuns.specs.Deeds.{Does, IsDone, deed_done}
use Rattle.lp_efuns.specs.Subjects.{IsHungUp, hung_up, number_of}
use Rattle.lp_efuns.specs.Turns.{At, Setting}
use Rattle.lp_efuns.proofs.Looking.{connection_same, object_same}

-- what is left of lists
module _ {A B : Type 0} (f : A → B) (p : B → Bool) where
  filter_map : (xs : List A) → map f (filter (λ x. p (f x)) xs) ≡ filter p (map f xs)
  filter_map [] = refl
  filter_map (x ∷ xs) = here (p (f x)) (filter_map xs)
    where
      here : (b : Bool) → map f (filter (λ x. p (f x)) xs) ≡ filter p (map f xs) → map f (if b then x ∷ filter (λ x. p (f x)) xs else filter (λ x. p (f x)) xs) ≡ (if b then f x ∷ filter p (map f xs) else filter p (map f xs))
      here true i = ap (λ l. f x ∷ l) i
      here false i = i

-- the connection is closed in the state and in the world
at_closed : (g : Setting) (live : Live) (turn : Turn) (b : ℕ) (s : State) (k : ℕ) → At g live turn b s → At g (hung_up live (Some k)) turn b (told (outs.Close k ∷ []) (with_world s (without_connection s.world k)))
at_closed g live turn b s k h = record {
  stands = record {
    cells = h.stands.cells;
    objects = h.stands.objects;
    names = h.stands.names;
    versions = h.stands.versions;
    kept = h.stands.kept;
    rest = record {
      files = h.stands.rest.files;
      simul = h.stands.rest.simul;
      places = h.stands.rest.places;
      sentences = h.stands.rest.sentences;
      next_sentence = h.stands.rest.next_sentence;
      timing = h.stands.rest.timing;
      connections = filter_map stands.connection_of (λ c. not (nat_eq c.number k)) live.connections.opened ∙ ap (filter (λ c. not (nat_eq c.number k))) h.stands.rest.connections;
      highest = h.stands.rest.highest;
      present = h.stands.rest.present;
      waiting = filter_map stands.waiting_of (λ x. not (nat_eq x.connection k)) live.connections.waiting ∙ ap (filter (λ x. not (nat_eq x.connection k))) h.stands.rest.waiting;
      clock = h.stands.rest.clock;
      generator = h.stands.rest.generator;
      next_clone = h.stands.rest.next_clone;
    };
  };
  left = h.left;
  outputs = ap (λ l. l ++ outs.Close k ∷ []) h.outputs ∙ append_assoc g.before s.outputs (outs.Close k ∷ []);
  player = h.player;
  commands = h.commands;
}

pub closed_connections : (live : Live) (os : List Out) (c : Connecting) (k : ℕ) → IsClosed live
    → c ≡ record { opened = filter (λ c. not (nat_eq c.number k)) live.connections.opened; highest = live.connections.highest; present = live.connections.present; waiting = filter (λ x. not (nat_eq x.connection k)) live.connections.waiting }
    → IsClosed (record live { outputs = os; connections = c })
closed_connections live os c k h e = record {
  clock = h.clock;
  cells = h.cells;
  objects = h.objects;
  apart = h.apart;
  versions = h.versions;
  call_outs = h.call_outs;
  waiting = subst (λ (c : Connecting). All (λ (x : Waiting). All (IsThere live.cells) x.arguments) c.waiting) (sym e)
      (All-filter (λ x. not (nat_eq x.connection k)) (λ (x : Waiting). All (IsThere live.cells) x.arguments) live.connections.waiting h.waiting);
  placed = h.placed;
  numbered = h.numbered;
  room = h.room;
}

hung : (g : Setting) (live : Live) (turn : Turn) (b : ℕ) (s : State) (o : ObjId) (k : Option ℕ) → At g live turn b s → connection_of s.world o ≡ k
    → IsDone (did.Value (values.Int (pos 0))) (At g (hung_up live k) turn b) (deed_done (remove_interactive o s) s)
hung g live turn b s o None h e =
    subst (λ k. IsDone (did.Value (values.Int (pos 0))) (At g live turn b) (deed_done (elim k [ None ↦ Yields zero s | Some k ↦ Yields zero (told (outs.Close k ∷ []) (with_world s (without_connection s.world k))) ]) s)) (sym e) (refl, h)
hung g live turn b s o (Some k) h e =
    subst (λ j. IsDone (did.Value (values.Int (pos 0))) (At g (hung_up live (Some k)) turn b) (deed_done (elim j [ None ↦ Yields zero s | Some k ↦ Yields zero (told (outs.Close k ∷ []) (with_world s (without_connection s.world k))) ]) s)) (sym e)
    (refl, at_closed g live turn b s k h)

pub removed_does : (caller : Caller) (vs : List Value) (live live1 : Live) (turn : Turn) (o : ObjId) → ((cells : Store) → Some o ≡ object_arg (map (operand (live_in live.objects) cells) vs) 0) → IsHungUp live o live1
    → Does efuns.RemoveInteractive caller vs live turn (did.Value (values.Int (pos 0))) live1 turn
unfolding deed
removed_does caller vs live live1 turn o f e g b c s sc h =
    subst (λ d. IsDone (did.Value (values.Int (pos 0))) (At g live1 turn b) (deed_done d s)) (sym (ap (λ o. of_live o s (λ o. remove_interactive o s)) (object_same g live turn b s vs 0 (Some o) h f)))
    (subst (λ l. IsDone (did.Value (values.Int (pos 0))) (At g l turn b) (deed_done (remove_interactive o s) s)) (sym e) (hung g live turn b s o (number_of live o) h (connection_same g live turn b s o h)))

pub nothing_removed : (caller : Caller) (vs : List Value) (live : Live) (turn : Turn) → ((cells : Store) → None ≡ object_arg (map (operand (live_in live.objects) cells) vs) 0)
    → Does efuns.RemoveInteractive caller vs live turn (did.Value (values.Int (pos 0))) live turn
unfolding deed
nothing_removed caller vs live turn f g b c s sc h =
    subst (λ d. IsDone (did.Value (values.Int (pos 0))) (At g live turn b) (deed_done d s)) (sym (ap (λ o. of_live o s (λ o. remove_interactive o s)) (object_same g live turn b s vs 0 None h f))) (refl, h)
