-- What the state still stands for where a part of it changes that is neither objects, versions nor cells, and the same part of
-- the world.
use Rattle.std.proofs.Common.{◌≡◌, ℕ, List, All}
use Rattle.lp_cells.specs.Cells.{IsThere}
use Rattle.lp_places.specs.Places.{Shadowing}
use Rattle.lp_places.specs.Stands.{Stands}
use Rattle.lp_places.specs.declared.places.Places.{Places}
use Rattle.lp_timers.specs.Timers.{Beat, CallOut}
use Rattle.lp_timers.specs.Timing.{Timing}
use Rattle.lp_language.specs.Course.{State}
use Rattle.lp_language.specs.Operations.{with_world}
use Rattle.lp_meaning.specs.WorldEfuns.{with_generator}
use Rattle.lp_world.specs.Closed.{AreNumbered, ArePlaced, IsClosed}
use Rattle.lp_world.specs.declared.live.Live.{Live}
use Rattle.lp_world.proofs.Closing.{closed_with_places, closed_with_timers}
use Rattle.lp_efuns.specs.declared.caller.Turn.{Turn}
use Rattle.lp_efuns.specs.Turns.{At, Setting}

-- the word of the generator
pub at_generator : (g : Setting) (live : Live) (turn : Turn) (b : ℕ) (s : State) (k j : ℕ) → k ≡ j → At g live turn b s → At g (record live { generator = k }) turn b (with_world s (with_generator s.world j))
at_generator g live turn b s k j e h = record {
  stands = record {
    cells = h.stands.cells;
    objects = h.stands.objects;
    names = h.stands.names;
    versions = h.stands.versions;
    kept = h.stands.kept;
    rest = record {
      files = h.stands.rest.files;
      simul = h.stands.rest.simul;
      places = h.stands.rest.places;
      sentences = h.stands.rest.sentences;
      next_sentence = h.stands.rest.next_sentence;
      timing = h.stands.rest.timing;
      connections = h.stands.rest.connections;
      highest = h.stands.rest.highest;
      present = h.stands.rest.present;
      waiting = h.stands.rest.waiting;
      clock = h.stands.rest.clock;
      generator = e;
      next_clone = h.stands.rest.next_clone;
    };
  };
  left = h.left;
  outputs = h.outputs;
  player = h.player;
  commands = h.commands;
}

pub closed_generator : (live : Live) (k : ℕ) → IsClosed live → IsClosed (record live { generator = k })
closed_generator live k h = record {
  clock = h.clock;
  cells = h.cells;
  objects = h.objects;
  apart = h.apart;
  versions = h.versions;
  call_outs = h.call_outs;
  waiting = h.waiting;
  placed = h.placed;
  numbered = h.numbered;
  room = h.room;
}

-- what is to come
pub at_timing : (g : Setting) (live : Live) (turn : Turn) (b : ℕ) (s : State) (t : Timing) (cs : List CallOut) (bs : List Beat)
    → t ≡ record { next = s.world.next_call_out; call_outs = cs; beats = bs; watches = s.world.watches } → At g live turn b s
    → At g (record live { timers = t }) turn b (with_world s (record s.world { call_outs = cs; beats = bs }))
at_timing g live turn b s t cs bs e h = record {
  stands = record {
    cells = h.stands.cells;
    objects = h.stands.objects;
    names = h.stands.names;
    versions = h.stands.versions;
    kept = h.stands.kept;
    rest = record {
      files = h.stands.rest.files;
      simul = h.stands.rest.simul;
      places = h.stands.rest.places;
      sentences = h.stands.rest.sentences;
      next_sentence = h.stands.rest.next_sentence;
      timing = e;
      connections = h.stands.rest.connections;
      highest = h.stands.rest.highest;
      present = h.stands.rest.present;
      waiting = h.stands.rest.waiting;
      clock = h.stands.rest.clock;
      generator = h.stands.rest.generator;
      next_clone = h.stands.rest.next_clone;
    };
  };
  left = h.left;
  outputs = h.outputs;
  player = h.player;
  commands = h.commands;
}

pub closed_timing : (live : Live) (t : Timing) → IsClosed live → All (λ (c : CallOut). All (IsThere live.cells) c.arguments) t.call_outs → AreNumbered t → IsClosed (record live { timers = t })
closed_timing = closed_with_timers

-- the chains of shadows
pub at_places : (g : Setting) (live : Live) (turn : Turn) (b : ℕ) (s : State) (p : Places) (ss : List Shadowing) → Stands p s.world.places ss → At g live turn b s
    → At g (record live { places = p }) turn b (with_world s (record s.world { shadows = ss }))
at_places g live turn b s p ss e h = record {
  stands = record {
    cells = h.stands.cells;
    objects = h.stands.objects;
    names = h.stands.names;
    versions = h.stands.versions;
    kept = h.stands.kept;
    rest = record {
      files = h.stands.rest.files;
      simul = h.stands.rest.simul;
      places = e;
      sentences = h.stands.rest.sentences;
      next_sentence = h.stands.rest.next_sentence;
      timing = h.stands.rest.timing;
      connections = h.stands.rest.connections;
      highest = h.stands.rest.highest;
      present = h.stands.rest.present;
      waiting = h.stands.rest.waiting;
      clock = h.stands.rest.clock;
      generator = h.stands.rest.generator;
      next_clone = h.stands.rest.next_clone;
    };
  };
  left = h.left;
  outputs = h.outputs;
  player = h.player;
  commands = h.commands;
}

pub closed_places : (live : Live) (p : Places) → IsClosed live → ArePlaced p → IsClosed (record live { places = p })
closed_places = closed_with_places
