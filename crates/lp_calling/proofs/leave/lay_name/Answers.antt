use Rattle.std.proofs.Common.{◌∙◌, ◌++◌, ◌∷◌, [], ap}
use Rattle.std.specs.Str.{chars}
use Rattle.lp_values.specs.declared.value.Value.TheVariants as values
use Rattle.lp_value_efuns.proofs.ArgumentLemmas.{name_chars}
use Rattle.lp_calling.proofs.leave.lay_name.Goals as goal

pub returns-clause-items : goal.returns-clause-items
returns-clause-items c =
    c.in_ok-push.ensures.items ∙ ap (λ t. c.args.stack.now.items ++ values.Str t ∷ []) (c.in_ok-name.ensures ∙ ap chars c.name.ensures ∙ name_chars c.args.efun)
