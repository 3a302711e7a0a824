use Rattle.std.proofs.Common.{◌∙◌, ap}
use Rattle.std.specs.Str.{chars}
use Rattle.lp_instr.specs.EfunList.{is_name}
use Rattle.lp_turn.proofs.Words.{chars-master}
use Rattle.lp_turn.proofs.start_feed.is_master_name.Goals as goal

pub returns : goal.returns
returns c = c.eq.ensures ∙ ap (λ x. is_name x c.in_ok-wanted.wanted) c.in_ok-points.ensures ∙ ap (λ x. is_name (chars c.args.name.now) x) (c.in_ok-wanted.ensures ∙ chars-master)
