-- A state whose store lists other paths.
use Rattle.std.proofs.Common.{◌≡◌, ◌∙◌, ℕ, List, Option}
use Rattle.lp_code.specs.declared.program.RawProgram.{RawProgram}
use Rattle.lp_files.specs.Store.{file_at}
use Rattle.lp_files.specs.declared.store.Store.{Store}
use Rattle.lp_swapfile.specs.Device.{Bytes}
use Rattle.lp_language.specs.World.{World}
use Rattle.lp_world.specs.Stands.{Stands}
use Rattle.lp_world.specs.declared.live.Live.{Live}
use Rattle.lp_making.proofs.Reloaded.{closed_with_store}
use Rattle.lp_driver.specs.Driving.{IsAtRest}
use Rattle.lp_state.specs.States.{GoesOn}
use Rattle.lp_state.specs.declared.state.State.{State}

-- the same world, since the files are the same
stored : (told : Option Bytes) (programs : List RawProgram) (live : Live) (w : World) (s : Store) → Stands told programs live w → ((q : List ℕ) → file_at s q ≡ file_at live.store q) → Stands told programs (record live { store = s }) w
stored told programs live w s h f = record {
  cells = h.cells;
  objects = h.objects;
  names = h.names;
  versions = h.versions;
  kept = h.kept;
  rest = record {
    files = λ q. f q ∙ h.rest.files q;
    simul = h.rest.simul;
    places = h.rest.places;
    sentences = h.rest.sentences;
    next_sentence = h.rest.next_sentence;
    timing = h.rest.timing;
    connections = h.rest.connections;
    highest = h.rest.highest;
    present = h.rest.present;
    waiting = h.rest.waiting;
    clock = h.rest.clock;
    generator = h.rest.generator;
    next_clone = h.rest.next_clone;
  };
}

-- and at rest as before
pub rests_stored : (told : Option Bytes) (live : Live) (w : World) (s : Store) → ((q : List ℕ) → file_at s q ≡ file_at live.store q) → IsAtRest told live w → IsAtRest told (record live { store = s }) w
rests_stored told live w s f h = record {
  programs = h.programs;
  world = record { stands = stored told h.programs live w s h.world.stands f; compiled = h.world.compiled; shadows = h.world.shadows };
  outputs = h.outputs;
}

pub goes_stored : (told : Option Bytes) (old : State) (s : Store) → ((q : List ℕ) → file_at s q ≡ file_at old.live.store q) → GoesOn told old → GoesOn told (record old { live = record old.live { store = s } })
goes_stored told old s f g = λ fresh.
    let r = g fresh in
    let h = r.rest.1 in
    record {
      closed = closed_with_store old.live s r.closed;
      rest = (
        r.rest.0,
        record {
          programs = h.programs;
          world = record { stands = stored told h.programs old.live r.rest.0 s h.world.stands f; compiled = h.world.compiled; shadows = h.world.shadows };
          outputs = h.outputs;
        },
      );
    }
