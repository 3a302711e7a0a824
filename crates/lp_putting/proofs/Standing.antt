-- The state stands, and is closed, where an action comes, a function that waits for a line, or a call-out, and the same in the world.
use Rattle.std.proofs.Common.{◌≡◌, ◌++◌, ◌∷◌, [], ◌∙◌, ◌+◌, ℕ, Bool, true, false, List, Option, All, refl, ap, sym, subst, map, if◌then◌else◌, Result, Ok, Err}
use Rattle.std.specs.Prelude.{OnErr}
use Rattle.std.proofs.lemmas.List.{append_assoc, append-nil}
use Rattle.std.proofs.lemmas.List.Elements.{All-append, All-cons, All-nil}
use Rattle.lp_values.specs.declared.id.ObjId.{ObjId}
use Rattle.lp_values.specs.declared.value.Value.{Value}
use Rattle.lp_cells.specs.Cells.{IsThere}
use Rattle.lp_events.specs.declared.out.Out.{Out}
use Rattle.lp_events.specs.declared.out.Out.TheVariants as outs
use Rattle.lp_actions.specs.Actions.{Sentence}
use Rattle.lp_actions.specs.Held.{AreFallingBelow, IsSame, Lists, next_in}
use Rattle.lp_actions.specs.declared.actions.Actions.{Actions}
use Rattle.lp_timers.specs.Timing.{Timing}
use Rattle.lp_language.specs.World as world
use Rattle.lp_language.specs.Course.{State}
use Rattle.lp_language.specs.Operations.{with_world}
use Rattle.lp_meaning.specs.Askers.{told}
use Rattle.lp_meaning.specs.WorldEfuns.{with_call_out, with_sentence, with_waiting}
use Rattle.lp_swapfile.specs.Device.{Bytes}
use Rattle.lp_world.specs.Closed.{IsClosed}
use Rattle.lp_world.specs.Connecting.{Connecting}
use Rattle.lp_world.specs.Laws as laws
use Rattle.lp_world.specs.Stands.{waiting_of}
use Rattle.lp_world.specs.declared.connections.Waiting.{Waiting}
use Rattle.lp_world.specs.declared.live.Live.{Live}
use Rattle.lp_efuns.specs.declared.caller.Turn.{Turn}
use Rattle.lp_efuns.specs.Turns.{At, Setting}
use Rattle.lp_putting.specs.Plans.{IsOnlyPut, StandsStill}

-- Actions

-- the action that comes
abbrev pub sentence : ℕ → ObjId → ObjId → List ℕ → List ℕ → Bool → Sentence
sentence n holder giver fun verb f = record { number = n; holder = holder; giver = giver; function = fun; verb = verb; is_front = f }

pub at_sentence : (g : Setting) (live : Live) (turn : Turn) (b : ℕ) (s : State) (a : Actions) (holder giver : ObjId) (fun verb : List ℕ) (f : Bool)
    → ((ss : List Sentence) → Lists live.actions ss → Lists a (sentence (next_in live.actions) holder giver fun verb f ∷ ss)) → next_in a ≡ next_in live.actions + 1
    → At g live turn b s → At g (record live { actions = a }) turn b (with_world s (with_sentence s.world holder giver fun verb f))
at_sentence g live turn b s a holder giver fun verb f first next h = record {
  stands = record {
    cells = h.stands.cells;
    objects = h.stands.objects;
    names = h.stands.names;
    versions = h.stands.versions;
    kept = h.stands.kept;
    rest = record {
      files = h.stands.rest.files;
      simul = h.stands.rest.simul;
      places = h.stands.rest.places;
      sentences = subst (λ n. Lists a (sentence n holder giver fun verb f ∷ s.world.sentences)) h.stands.rest.next_sentence (first s.world.sentences h.stands.rest.sentences);
      next_sentence = next ∙ ap (λ n. n + 1) h.stands.rest.next_sentence;
      timing = h.stands.rest.timing;
      connections = h.stands.rest.connections;
      highest = h.stands.rest.highest;
      present = h.stands.rest.present;
      waiting = h.stands.rest.waiting;
      clock = h.stands.rest.clock;
      generator = h.stands.rest.generator;
      next_clone = h.stands.rest.next_clone;
    };
  };
  left = h.left;
  outputs = h.outputs;
  player = h.player;
  commands = h.commands;
}

-- where none came
lists_same : (old new : Actions) (ss : List Sentence) → IsSame old new → Lists old ss → Lists new ss
lists_same old new ss k h = record {
  each = λ o. h.each o ∙ sym (k.held o);
  numbers = subst (λ n. AreFallingBelow n ss) (sym k.next) h.numbers;
}

pub still_actions : (file : Option Bytes) (live : Live) (a : Actions) → IsSame live.actions a → StandsStill file live (record live { actions = a })
still_actions file live a k programs w h = record {
  cells = h.cells;
  objects = h.objects;
  names = h.names;
  versions = h.versions;
  kept = h.kept;
  rest = record {
    files = h.rest.files;
    simul = h.rest.simul;
    places = h.rest.places;
    sentences = lists_same live.actions a w.sentences k h.rest.sentences;
    next_sentence = k.next ∙ h.rest.next_sentence;
    timing = h.rest.timing;
    connections = h.rest.connections;
    highest = h.rest.highest;
    present = h.rest.present;
    waiting = h.rest.waiting;
    clock = h.rest.clock;
    generator = h.rest.generator;
    next_clone = h.rest.next_clone;
  };
}

pub closed_actions : (live : Live) (a : Actions) → IsClosed live → IsClosed (record live { actions = a })
closed_actions live a h = record {
  clock = h.clock;
  cells = h.cells;
  objects = h.objects;
  apart = h.apart;
  versions = h.versions;
  call_outs = h.call_outs;
  waiting = h.waiting;
  placed = h.placed;
  numbered = h.numbered;
  room = h.room;
}

-- Lines

-- one more that waits, and outputs before
abbrev pub waiting_more : Live → Waiting → Live
waiting_more live x = record live { connections = record { opened = live.connections.opened; highest = live.connections.highest; present = live.connections.present; waiting = live.connections.waiting ++ x ∷ [] } }

abbrev pub awaiting : Live → List Out → Waiting → Live
awaiting live os x = waiting_more (record live { outputs = live.outputs ++ os }) x

map_more : (xs : List Waiting) (x : Waiting) → map waiting_of (xs ++ x ∷ []) ≡ map waiting_of xs ++ waiting_of x ∷ []
map_more [] x = refl
map_more (y ∷ ys) x = ap (λ l. waiting_of y ∷ l) (map_more ys x)

pub at_waiting : (g : Setting) (live : Live) (turn : Turn) (b : ℕ) (s : State) (os : List Out) (k : ℕ) (o : ObjId) (fun : List ℕ) (hides : Bool) (vs : List Value) (x : Waiting)
    → x ≡ record { connection = k; object = o; function = fun; hides = hides; arguments = vs } → At g live turn b s
    → At g (awaiting live os x) turn b (told os (with_world s (with_waiting s.world k o fun hides vs)))
at_waiting g live turn b s os k o fun hides vs x e h = record {
  stands = record {
    cells = h.stands.cells;
    objects = h.stands.objects;
    names = h.stands.names;
    versions = h.stands.versions;
    kept = h.stands.kept;
    rest = record {
      files = h.stands.rest.files;
      simul = h.stands.rest.simul;
      places = h.stands.rest.places;
      sentences = h.stands.rest.sentences;
      next_sentence = h.stands.rest.next_sentence;
      timing = h.stands.rest.timing;
      connections = h.stands.rest.connections;
      highest = h.stands.rest.highest;
      present = h.stands.rest.present;
      waiting = map_more live.connections.waiting x ∙ ap (λ l. l ++ waiting_of x ∷ []) h.stands.rest.waiting ∙ ap (λ y. s.world.waiting ++ waiting_of y ∷ []) e;
      clock = h.stands.rest.clock;
      generator = h.stands.rest.generator;
      next_clone = h.stands.rest.next_clone;
    };
  };
  left = h.left;
  outputs = ap (λ l. l ++ os) h.outputs ∙ append_assoc g.before s.outputs os;
  player = h.player;
  commands = h.commands;
}

pub closed_waiting : (live : Live) (os : List Out) (x : Waiting) → All (IsThere live.cells) x.arguments → IsClosed live → IsClosed (awaiting live os x)
closed_waiting live os x a h = record {
  clock = h.clock;
  cells = h.cells;
  objects = h.objects;
  apart = h.apart;
  versions = h.versions;
  call_outs = h.call_outs;
  waiting = All-append (λ (x : Waiting). All (IsThere live.cells) x.arguments) live.connections.waiting (x ∷ []) h.waiting
      (All-cons (λ (x : Waiting). All (IsThere live.cells) x.arguments) x [] a (All-nil (λ (x : Waiting). All (IsThere live.cells) x.arguments)));
  placed = h.placed;
  numbered = h.numbered;
  room = h.room;
}

pub closed_outputs : (live : Live) (os : List Out) → IsClosed live → IsClosed (record live { outputs = os })
closed_outputs live os h = record {
  clock = h.clock;
  cells = h.cells;
  objects = h.objects;
  apart = h.apart;
  versions = h.versions;
  call_outs = h.call_outs;
  waiting = h.waiting;
  placed = h.placed;
  numbered = h.numbered;
  room = h.room;
}

-- outputs are not of the world
pub still_outputs : (file : Option Bytes) (live : Live) (os : List Out) → StandsStill file live (record live { outputs = os })
still_outputs file live os programs w h = record {
  cells = h.cells;
  objects = h.objects;
  names = h.names;
  versions = h.versions;
  kept = h.kept;
  rest = h.rest;
}

-- Call-outs

pub at_call_out : (g : Setting) (live : Live) (turn : Turn) (b : ℕ) (s : State) (o : ObjId) (fun : List ℕ) (n : ℕ) (vs : List Value) (t : Timing)
    → t ≡ laws.with_call_out live.timers o fun (live.clock + n) vs → At g live turn b s
    → At g (record live { timers = t }) turn b (with_world s (with_call_out s.world o fun n vs))
at_call_out g live turn b s o fun n vs t e h = record {
  stands = record {
    cells = h.stands.cells;
    objects = h.stands.objects;
    names = h.stands.names;
    versions = h.stands.versions;
    kept = h.stands.kept;
    rest = record {
      files = h.stands.rest.files;
      simul = h.stands.rest.simul;
      places = h.stands.rest.places;
      sentences = h.stands.rest.sentences;
      next_sentence = h.stands.rest.next_sentence;
      timing = e ∙ ap (λ c. laws.with_call_out live.timers o fun (c + n) vs) h.stands.rest.clock ∙ ap (λ x. laws.with_call_out x o fun (s.world.clock + n) vs) h.stands.rest.timing;
      connections = h.stands.rest.connections;
      highest = h.stands.rest.highest;
      present = h.stands.rest.present;
      waiting = h.stands.rest.waiting;
      clock = h.stands.rest.clock;
      generator = h.stands.rest.generator;
      next_clone = h.stands.rest.next_clone;
    };
  };
  left = h.left;
  outputs = h.outputs;
  player = h.player;
  commands = h.commands;
}

-- the input is hidden, or not
pub nothing_hidden : (live : Live) (k : ℕ) (f : Bool) → f ≡ false → live ≡ record live { outputs = live.outputs ++ (if f then outs.Hide k ∷ [] else []) }
nothing_hidden live k f e = ap (λ os. record live { outputs = os }) (sym (append-nil live.outputs) ∙ ap (λ b. live.outputs ++ (if b then outs.Hide k ∷ [] else [])) (sym e))

pub something_hidden : (live : Live) (k : ℕ) (f : Bool) (os : List Out) → f ≡ true → os ≡ live.outputs ++ outs.Hide k ∷ [] → record live { outputs = os } ≡ record live { outputs = live.outputs ++ (if f then outs.Hide k ∷ [] else []) }
something_hidden live k f os e q = ap (λ os. record live { outputs = os }) (q ∙ ap (λ b. live.outputs ++ (if b then outs.Hide k ∷ [] else [])) (sym e))

-- what changed is only what is put
pub put_line : (live live1 : Live) (os : List Out) (c : Connecting) → live1 ≡ record live { outputs = os } → IsOnlyPut live (record live1 { connections = c })
put_line live live1 os c e = subst (λ l. IsOnlyPut live (record l { connections = c })) (sym e) refl

pub put_nothing : (live live1 : Live) → live1 ≡ live → IsOnlyPut live live1
put_nothing live live1 e = subst (IsOnlyPut live) (sym e) refl

-- where nothing waits after all
pub unawaited_closed : (live live1 : Live) (os : List Out) (c : Connecting) → live1 ≡ record live { outputs = os } → c ≡ live1.connections → IsClosed live → IsClosed (record live1 { connections = c })
unawaited_closed live live1 os c e q h = subst (λ c. IsClosed (record live1 { connections = c })) (sym q) (subst IsClosed (sym e) (closed_outputs live os h))

pub unawaited_still : (file : Option Bytes) (live live1 : Live) (os : List Out) (c : Connecting) → live1 ≡ record live { outputs = os } → c ≡ live1.connections → StandsStill file live (record live1 { connections = c })
unawaited_still file live live1 os c e q = subst (λ c. StandsStill file live (record live1 { connections = c })) (sym q) (subst (StandsStill file live) (sym e) (still_outputs file live os))

pub still_same : (file : Option Bytes) (live live1 : Live) → live1 ≡ live → StandsStill file live live1
still_same file live live1 e = subst (StandsStill file live) (sym e) (λ programs w h. h)

pub closed_same : (live live1 : Live) → live1 ≡ live → IsClosed live → IsClosed live1
closed_same live live1 e h = subst IsClosed (sym e) h

-- what holds after a fault
pub on_err_any : {A E : Type 0} (r : Result A E) (P : Type 0) → P → OnErr r P
on_err_any (Ok x) P h = tt
on_err_any (Err e) P h = h
