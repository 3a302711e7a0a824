use Rattle.std.proofs.Common.{sym}
use Rattle.lp_targets.proofs.Memory.{some_row, stays_same}
use Rattle.lp_targets.proofs.Worlds.{internal_text, kept_reached}
use Rattle.lp_targets.proofs.internal.internal_at.Goals as goal

pub returns-in-Some-clause-stays : goal.returns-in-Some-clause-stays
returns-in-Some-clause-stays c = stays_same c.args.live.now

pub returns-in-Some-clause-found : goal.returns-in-Some-clause-found
returns-in-Some-clause-found c = λ told programs w o h e p who.
    let z = some_row _ c.requires.there in
    c.callee_of.ensures.is told programs w o z.0 _ h c.requires.closed e p z.1 (internal_text programs w c.args.this c.args.part c.args.code.now c.args.row.now.name who)
    (kept_reached told programs c.args.live.now w c.args.this o c.args.version c.args.part c.args.code.now c.args.slot c.args.row.now c.in-Some.answer h e p who c.requires.slot (sym c.in-Some.ensures))
