use Rattle.std.proofs.Common.{ap, subst}
use Rattle.lp_actions.specs.Actions.{kept_by}
use Rattle.lp_actions.specs.Held.{Lists}
use Rattle.lp_moving.proofs.Placed.{reach_same}
use Rattle.lp_moving.proofs.reach.drop_unreached.Goals as goal

pub returns-clause-kept : goal.returns-clause-kept
returns-clause-kept c = λ ps ss acts st l. subst (Lists c.keep_reach.new.self) (ap (λ r. kept_by r acts) (reach_same c.args.places.now ps ss st)) (c.keep_reach.ensures.kept acts l)
