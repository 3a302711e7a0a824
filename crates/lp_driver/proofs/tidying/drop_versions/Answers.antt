use Rattle.std.proofs.Common.{◌∙◌, ap}
use Rattle.lp_driver.specs.Tidying.{drops_behind}
use Rattle.lp_driver.proofs.Rested.{on_ok_of}
use Rattle.lp_driver.proofs.Swaps.{both_ways}
use Rattle.lp_driver.proofs.Tidied.{none_made, over_still}
use Rattle.lp_driver.proofs.tidying.drop_versions.Goals as goal

pub returns-then-drops_behind-clause-needed : goal.returns-then-drops_behind-clause-needed
returns-then-drops_behind-clause-needed c = on_ok_of c.drop_unneeded.result (λ h t. h) c.drop_unneeded.ensures.needed

pub returns-then-drops_behind-clause-over : goal.returns-then-drops_behind-clause-over
returns-then-drops_behind-clause-over c = λ first o. over_still first c.args.live.now c.drop_unneeded.new.live c.drop_unneeded.ensures.world c.drop_unneeded.ensures.only o

pub returns-clause-needed : goal.returns-clause-needed
returns-clause-needed c = none_made c.args.live.now c.args.event.now c.args.before c.drops_behind.result (c.drops_behind.ensures ∙ ap (drops_behind c.args.event.now c.args.before) c.len.ensures) c.if-drops_behind.false

pub returns-then-drops_behind-clause-quiet : goal.returns-then-drops_behind-clause-quiet
returns-then-drops_behind-clause-quiet c = λ none. absurd (both_ways c.drops_behind.result _ (c.drops_behind.ensures ∙ ap (drops_behind c.args.event.now c.args.before) c.len.ensures) c.if-drops_behind.true none)
