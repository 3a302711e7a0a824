use Rattle.lp_targets.proofs.Lookups.{if_ok}
use Rattle.lp_targets.proofs.Memory.{brings_more}
use Rattle.lp_beginning.proofs.SeenParts.{all_parts}
use Rattle.lp_beginning.proofs.parts.initialised_parts.Goals as goal

pub returns-in-Ok-clause-brings : goal.returns-in-Ok-clause-brings
returns-in-Ok-clause-brings g c = brings_more c.in-Ok.ensures.brings c.in-Ok.ensures.stands c.parts_below.ensures.brings

pub returns-in-Ok-clause-parts : goal.returns-in-Ok-clause-parts
returns-in-Ok-clause-parts g c =
    if_ok c.parts_below.result (λ v below programs w s k.
    all_parts (g.W.SwapFile.content c.bring_program.new.swap) c.bring_program.new.live c.args.version c.part_count-end.result v.items c.in-Ok.ensures.here c.part_count-end.ensures below programs w (c.in-Ok.ensures.stands c.in-Ok.ensures.truthful programs w s) k)
    c.parts_below.ensures.parts
