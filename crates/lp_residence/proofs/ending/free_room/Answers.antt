use Rattle.std.proofs.Common.{[], subst}
use Rattle.lp_residence.specs.Entering.{AreTakenWithout}
use Rattle.lp_residence.proofs.ending.free_room.Goals as goal

pub returns-in-Some-clause-taken : goal.returns-in-Some-clause-taken
returns-in-Some-clause-taken c =
    subst (λ t. AreTakenWithout t c.args.swapper.now c.drop_ticket.new.self) c.in-Some.ensures (λ es t. c.drop_ticket.ensures.parted [] es t)
