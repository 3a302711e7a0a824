use Rattle.std.proofs.Common.{◌∙◌, ap, sym}
use Rattle.lp_language.specs.Resolve.{without_c}
use Rattle.lp_targets.proofs.Lookups.{if_ok}
use Rattle.lp_beginning.proofs.Words.{program_named}
use Rattle.lp_beginning.proofs.report.program_name.Goals as goal

pub returns-in-Some : goal.returns-in-Some
returns-in-Some c = if_ok c.copied.result (λ v e. program_named c.args.live.now c.args.p c.in-Some.v.now v.items (sym c.in-Some.ensures) (e ∙ c.without_c.ensures ∙ ap without_c c.as_slice.ensures)) c.copied.ensures
