use Rattle.std.proofs.Common.{◌∙◌, ap, sym}
use Rattle.std.specs.Prelude.{Some}
use Rattle.lp_targets.proofs.Lookups.{if_ok}
use Rattle.lp_beginning.proofs.Words.{function_named}
use Rattle.lp_beginning.proofs.report.function_name.Goals as goal

pub returns-in-Some : goal.returns-in-Some
returns-in-Some c =
    if_ok c.name_in.result (λ v f. function_named c.args.live.now c.args.p c.args.fun c.raw.result.now v.items (sym c.in-Some.ensures ∙ ap (λ z. Some z) (sym c.raw.ensures.same)) f) c.name_in.ensures
