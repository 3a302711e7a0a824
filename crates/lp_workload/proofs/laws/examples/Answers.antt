use Rattle.std.specs.Prelude.{refl}
use Rattle.lp_events.specs.Script.{numeral, spelling, event_spelling}
use Rattle.lp_workload.specs.Workload.{box_source, event_for, events_from, master_source}
use Rattle.lp_workload.proofs.laws.examples.Goals as goal

pub returns : goal.returns
unfolding numeral spelling event_spelling box_source event_for events_from master_source
returns c = record { one_event = refl; ten_events = refl }
