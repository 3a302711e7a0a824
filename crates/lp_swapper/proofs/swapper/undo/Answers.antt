use Rattle.std.proofs.Common.{[]}
use Rattle.lp_swapper.proofs.swapper.undo.Goals as goal

pub returns-clause-parted : goal.returns-clause-parted
returns-clause-parted c = λ es t. c.give_back.ensures.parted [] es t
