use Rattle.std.proofs.Common.{◌∙◌, ap}
use Rattle.lp_values.specs.Errors.{bad_arg}
use Rattle.lp_value_efuns.proofs.ArgumentLemmas.{name_chars}
use Rattle.lp_efuns.specs.declared.answer.Answer.TheVariants.{Error}
use Rattle.std.specs.Str.{chars}
use Rattle.lp_efuns.proofs.plain.bad_argument.Goals as goal

pub returns : goal.returns
returns c =
    ap Error (c.in_ok-bad_arg.ensures ∙ ap (λ t. bad_arg c.args.number (chars t)) c.name.ensures ∙ ap (bad_arg c.args.number) (name_chars c.args.efun))
