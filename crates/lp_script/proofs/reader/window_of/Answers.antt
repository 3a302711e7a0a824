use Rattle.lp_events.specs.Script.{longest_input}
use Rattle.lp_script.proofs.ReaderLemmas.{short_window}
use Rattle.lp_script.proofs.reader.window_of.Goals as goal

pub returns : goal.returns
returns g = short_window longest_input _ _ g.min.ensures
