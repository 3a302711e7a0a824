use Rattle.std.proofs.Common.{rules, sym, ◌∙◌}
use Rattle.lp_sessions.proofs.Outputs.{takes_other}
use Rattle.lp_sessions.proofs.each.take_one.Goals as goal

pub returns-in-None-place_among-clause-ok : goal.returns-in-None-place_among-clause-ok
returns-in-None-place_among-clause-ok c = takes_other c.args.out.now c.in-Some.k _ (sym c.number_of.ensures ∙ c.in-Some.is) (search rules)
