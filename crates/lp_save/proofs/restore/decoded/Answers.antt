use Rattle.std.proofs.Common.{sym, ap, ◌∙◌}
use Rattle.std.specs.Prelude.{chars}
use Rattle.lp_save.proofs.LineLemmas.{valid_all, valid_len}
use Rattle.lp_save.proofs.restore.decoded.Goals as goal

pub returns-in_ok-code_points-in-Ok-clause-points : goal.returns-in_ok-code_points-in-Ok-clause-points
returns-in_ok-code_points-in-Ok-clause-points c = c.in_ok-code_points-in-Ok.ensures ∙ ap chars (c.in-Ok.ensures.cases.0 ∙ sym (valid_all c.args.bytes.now c.in-Ok.ensures.cases.1))

pub returns-in_ok-code_points-in-Ok-clause-all : goal.returns-in_ok-code_points-in-Ok-clause-all
returns-in_ok-code_points-in-Ok-clause-all c = sym (valid_len c.args.bytes.now c.in-Ok.ensures.cases.1)
