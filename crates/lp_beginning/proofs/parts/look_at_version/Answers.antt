use Rattle.lp_beginning.proofs.SeenParts.{tells_version}
use Rattle.lp_beginning.proofs.parts.look_at_version.Goals as goal

pub returns-in-Ok-clause-tells : goal.returns-in-Ok-clause-tells
returns-in-Ok-clause-tells g c = λ programs w s e.
    tells_version (g.W.SwapFile.content c.bring_program.new.swap) c.bring_program.new.live c.args.p c.has_initialisers.result c.in-Ok.ensures.here c.has_initialisers.ensures programs w (c.in-Ok.ensures.stands c.in-Ok.ensures.truthful programs w s) e
