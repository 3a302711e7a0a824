use Rattle.lp_targets.proofs.Lookups.{if_ok}
use Rattle.lp_beginning.proofs.SeenParts.{tells_part}
use Rattle.lp_beginning.proofs.parts.look_at_part.Goals as goal

pub returns-in-Some-clause-tells : goal.returns-in-Some-clause-tells
returns-in-Some-clause-tells g c =
    if_ok c.look_at_version.result (λ b t. tells_part (g.W.SwapFile.content c.args.swap.now) c.args.live.now c.args.version c.args.part c.in-Some.p b c.requires.here c.in-Some.ensures t) c.look_at_version.ensures.tells
