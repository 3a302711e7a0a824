use Rattle.std.proofs.Common.{◌∙◌, ap, None}
use Rattle.std.specs.Str.{chars}
use Rattle.lp_values.specs.Errors.{bad_arg}
use Rattle.lp_values.specs.declared.error.RunError.{RunError}
use Rattle.lp_instr.specs.declared.efun.Efun.TheVariants as efuns
use Rattle.lp_value_efuns.proofs.ArgumentLemmas.{name_chars}
use Rattle.lp_asking.specs.declared.ending.Cause.TheVariants as causes
use Rattle.lp_asking.specs.declared.ending.Ending.TheVariants as endings
use Rattle.lp_cloning.proofs.begin.refused.Goals as goal

pub returns : goal.returns
returns c =
    ap (λ (e : RunError). endings.Stopped (record { cause = causes.Failed e; place = None }))
    (c.in_ok-error.ensures ∙ ap (λ t. bad_arg c.args.number (chars t)) c.name.ensures ∙ ap (bad_arg c.args.number) (name_chars efuns.CloneObject))
