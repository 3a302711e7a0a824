use Rattle.std.proofs.Common.{sym, ◌∙◌}
use Rattle.lp_preproc.proofs.ResultLemmas.{argument_none, argument_some}
use Rattle.lp_preproc.proofs.result.argument_of.Goals as goal

pub returns-in-Some : goal.returns-in-Some
returns-in-Some c = c.argument_in.ensures ∙ sym (argument_some c.args.name.now c.args.params.now c.args.args.now c.in-Some.i (sym c.place.ensures ∙ c.in-Some.is))

pub returns-in-None : goal.returns-in-None
returns-in-None c = sym (argument_none c.args.name.now c.args.params.now c.args.args.now (sym c.place.ensures ∙ c.in-None.is))
