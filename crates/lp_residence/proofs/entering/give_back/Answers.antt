use Rattle.std.proofs.Common.{[], subst, sym}
use Rattle.lp_world.specs.Rows.{object_ticket}
use Rattle.lp_residence.specs.Entering.{AreTakenWithout}
use Rattle.lp_residence.proofs.entering.give_back.Goals as goal

pub returns-clause-taken : goal.returns-clause-taken
returns-clause-taken c =
    subst (λ s. AreTakenWithout (object_ticket s) c.args.swapper.now c.drop_ticket.new.self) (sym c.in-Swapped.is) (λ es t. c.drop_ticket.ensures.parted [] es t)
