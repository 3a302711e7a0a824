use Rattle.std.proofs.Common.{◌∙◌, ap}
use Rattle.std.proofs.lemmas.Str.{chars-IsAscii}
use Rattle.lp_values.specs.Errors.{bad_save}
use Rattle.lp_filing.specs.declared.outcome.Outcome.TheVariants as outcomes
use Rattle.lp_filing.proofs.restoring.faulty.Goals as goal

pub returns : goal.returns
returns c = ap (λ e. outcomes.Error e) (c.in_ok-bad_save.ensures ∙ ap (λ t. bad_save t c.args.line) (chars-IsAscii c.args.path.now c.requires))
