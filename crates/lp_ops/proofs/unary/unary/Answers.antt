use Rattle.lp_ops.proofs.unary.unary.Goals as goal

pub returns-in-Flip-clause-value : goal.returns-in-Flip-clause-value
returns-in-Flip-clause-value g c = rw (c.in-Flip.is, ← c.in_ok-a.ensures) (c.flipped.ensures (g.L.Living.live c.args.live.now) c.args.cells.now)

pub returns-clause-value : goal.returns-clause-value
returns-clause-value g c = rw (c.in-Neg.is, ← c.in_ok-a.ensures) (c.negated.ensures (g.L.Living.live c.args.live.now) c.args.cells.now)
