use Rattle.lp_meaning.specs.FileLoads.{clone_name}
use Rattle.lp_cloning.proofs.Telling.{taken_entered, taken_still, tells_entered, tells_then}
use Rattle.std.specs.Str.{chars}
use Rattle.lp_targets.proofs.Lookups.{if_ok}
use Rattle.lp_cloning.specs.Beginning.{made_of}
use Rattle.lp_cloning.proofs.Cloned.{brought_starts, outputs_brought}
use Rattle.lp_cloning.proofs.clone.clone_version.Goals as goal

pub returns-in-Ok-clause-starts : goal.returns-in-Ok-clause-starts
returns-in-Ok-clause-starts g c =
    let e = c.in-Ok.ensures in
    let mid = c.bring_program.new.live in
    if_ok c.clone_inside.result (λ r h.
    brought_starts r (made_of (chars c.args.name.now) c.args.version) (g.W.SwapFile.content c.args.swap.now) (g.W.SwapFile.content c.bring_program.new.swap) c.args.live.now mid c.clone_inside.new.live e.brings.kept (e.stands e.truthful) (outputs_brought c.args.live.now mid e.brings.stays) h)
    c.clone_inside.ensures.starts

pub returns-in-Ok-clause-tells : goal.returns-in-Ok-clause-tells
returns-in-Ok-clause-tells g c = tells_then c.in-Ok.ensures.brings c.in-Ok.ensures.stands c.clone_inside.ensures.tells

pub returns-in-Ok-clause-refused : goal.returns-in-Ok-clause-refused
returns-in-Ok-clause-refused g c =
    taken_still (g.W.SwapFile.content c.args.swap.now) (g.W.SwapFile.content c.bring_program.new.swap) c.args.live.now c.bring_program.new.live (λ w. clone_name w (chars c.args.name.now)) c.clone_inside.result
    (c.in-Ok.ensures.stands c.in-Ok.ensures.truthful) c.clone_inside.ensures.refused

pub returns-in-Err-clause-tells : goal.returns-in-Err-clause-tells
returns-in-Err-clause-tells g c = tells_entered c.in-Err.e c.from.result c.from.ensures c.in-Err.ensures.brings

pub returns-in-Err-clause-refused : goal.returns-in-Err-clause-refused
returns-in-Err-clause-refused g c = taken_entered (g.W.SwapFile.content c.args.swap.now) c.args.live.now (λ w. clone_name w (chars c.args.name.now)) c.in-Err.e c.from.result c.from.ensures
