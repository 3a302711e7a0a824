use Rattle.std.proofs.Common.{sym}
use Rattle.lp_types_expr.proofs.Judged.{whole}
use Rattle.lp_types_expr.proofs.visits.law_parts.Goals as goal

pub returns : goal.returns
returns c = λ f t. sym (whole f t)
