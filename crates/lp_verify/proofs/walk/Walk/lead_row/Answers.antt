use Rattle.std.proofs.Common.{ap}
use Rattle.std.specs.Option.{option_copied}
use Rattle.lp_verify.proofs.Leading.{row_then}
use Rattle.lp_verify.proofs.walk.Walk.lead_row.Goals as goal

pub returns-in_ok-lead_cases-in-Some : goal.returns-in_ok-lead_cases-in-Some
returns-in_ok-lead_cases-in-Some c = row_then c.args.body.now c.args.at c.args.effect c.args.known (option_copied c.args.row) c.in-Some.row.now c.other_exit.result c.as_slice.result.now c.args.self.now c.lead.new.self c.lead_cases.new.self c.requires.ready (ap option_copied c.in-Some.is) c.other_exit.ensures c.as_slice.ensures c.in_ok-lead-in-Some.ensures c.in_ok-lead_cases-in-Some.ensures
