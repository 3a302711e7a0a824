use Rattle.std.proofs.Common.{◌∙◌, ap}
use Rattle.std.specs.Str.{chars}
use Rattle.lp_values.specs.Errors.{bad_arg}
use Rattle.lp_value_efuns.proofs.ArgumentLemmas.{name_chars}
use Rattle.lp_efuns.specs.declared.answer.Did.TheVariants.{Error}
use Rattle.lp_putting.proofs.refusing.bad_second.Goals as goal

pub returns : goal.returns
returns c = ap Error (c.in_ok-bad_arg.ensures ∙ ap (λ t. bad_arg 2 (chars t)) c.name.ensures ∙ ap (bad_arg 2) (name_chars c.args.efun))
