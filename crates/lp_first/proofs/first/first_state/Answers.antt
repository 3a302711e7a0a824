use Rattle.lp_first.proofs.Firsts.{first_world}
use Rattle.lp_first.proofs.first.first_state.Goals as goal

pub returns-clause-world : goal.returns-clause-world
returns-clause-world c = λ told files h. first_world told _ files c.args.seed c.args.moment (record {
  cells = c.empty_state-live.ensures.cells;
  objects = c.empty_state-live.ensures.objects;
  versions = c.empty_state-live.ensures.versions;
  names = c.empty_state-live.ensures.names;
  next_clone = c.empty_state-live.ensures.next_clone;
  places = c.empty_state-live.ensures.places;
  actions = c.empty_state-live.ensures.actions;
  next_sentence = c.empty_state-live.ensures.next_sentence;
  timers = c.empty_state-live.ensures.timers;
  connections = c.empty_state-live.ensures.connections;
  simul = c.empty_state-live.ensures.simul;
}) h c.empty_state-live.ensures.generator c.empty_state-live.ensures.clock
