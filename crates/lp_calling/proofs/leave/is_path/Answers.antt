use Rattle.std.proofs.Common.{◌∙◌}
use Rattle.lp_calling.proofs.Leaving.{is_path_by}
use Rattle.lp_calling.proofs.leave.is_path.Goals as goal

pub returns : goal.returns
returns c = c.is_some.ensures ∙ is_path_by c.args.text.now c.in_ok-path.path c.in_ok-path.ensures
