use Rattle.lp_step.proofs.counting.stepped.Goals as goal

pub returns-in-Up : goal.returns-in-Up
returns-in-Up g c = rw (c.in-Up.is, ← c.in_ok-x.ensures) (c.raised.ensures (g.L.Living.live c.args.live.now) c.args.cells.now)

pub returns : goal.returns
returns g c = rw (c.in-Down.is, ← c.in_ok-x.ensures) (c.lowered.ensures (g.L.Living.live c.args.live.now) c.args.cells.now)
