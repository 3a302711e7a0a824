use Rattle.lp_workload.proofs.ScriptLemmas.{one_script}
use Rattle.lp_workload.proofs.LengthLemmas.{within_an_input}
use Rattle.lp_workload.proofs.laws.one_script.Goals as goal

pub returns : goal.returns
returns c = record { script = one_script; short = within_an_input }
