use Rattle.std.proofs.Common.{◌≡◌, ◌∙◌, Err, ap, subst, sym}
use Rattle.std.proofs.lemmas.Result.{IfOk-weaker}
use Rattle.lp_values.specs.declared.error.ErrorKind.TheVariants as errors
use Rattle.lp_values.specs.Errors.{bad_arg, plain}
use Rattle.lp_format.specs.Answers.{Gives}
use Rattle.lp_instr.specs.EfunList.{efun_name}
use Rattle.lp_instr.specs.declared.efun.Efun.TheVariants as efuns
use Rattle.lp_ops.specs.declared.effect.Effect.TheVariants as effects
use Rattle.lp_meaning.specs.ComputingEfuns.{as_text}
use Rattle.std.specs.Str.{chars}
use Rattle.lp_value_efuns.proofs.ArgumentLemmas.{name_chars}
use Rattle.lp_calling.proofs.messages.format_error.Goals as goal

pub returns-in-BadFormat : goal.returns-in-BadFormat
returns-in-BadFormat c =
    IfOk-weaker c.plain.result (λ e. e ≡ plain errors.BadFormat) _
    (λ e q. λ w k. ap (as_text efuns.Printf) (subst (λ f. Gives (Err f) w) c.in-BadFormat.is k) ∙ ap effects.Fault (sym q)) c.plain.ensures

pub returns-in-TooFewArgs : goal.returns-in-TooFewArgs
returns-in-TooFewArgs c =
    IfOk-weaker c.plain-in-TooFewArgs.result (λ e. e ≡ plain errors.TooFewArgs) _
    (λ e q. λ w k. ap (as_text efuns.Printf) (subst (λ f. Gives (Err f) w) c.in-TooFewArgs.is k) ∙ ap effects.Fault (sym q)) c.plain-in-TooFewArgs.ensures

pub returns-in-BadArg : goal.returns-in-BadArg
returns-in-BadArg c =
    let name : chars c.name.result.now ≡ efun_name efuns.Printf = ap chars c.name.ensures ∙ name_chars efuns.Printf in
    IfOk-weaker c.bad_arg.result (λ e. e ≡ bad_arg c.in-BadArg.n (chars c.name.result.now)) _
    (λ e q. λ w k. ap (as_text efuns.Printf) (subst (λ f. Gives (Err f) w) c.in-BadArg.is k) ∙ ap effects.Fault (sym (q ∙ ap (bad_arg c.in-BadArg.n) name))) c.bad_arg.ensures

pub returns-in-TooLong : goal.returns-in-TooLong
returns-in-TooLong c =
    IfOk-weaker c.plain-in-TooLong.result (λ e. e ≡ plain errors.TextTooLong) _
    (λ e q. λ w k. ap (as_text efuns.Printf) (subst (λ f. Gives (Err f) w) c.in-TooLong.is k) ∙ ap effects.Fault (sym q)) c.plain-in-TooLong.ensures
