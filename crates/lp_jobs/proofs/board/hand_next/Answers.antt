use Rattle.lp_jobs.proofs.Handed.{anyway, handed-more}
use Rattle.lp_jobs.proofs.board.hand_next.Goals as goal

pub returns-then-runs-clause-started : goal.returns-then-runs-clause-started
returns-then-runs-clause-started g c = λ told s.
    anyway c.add_running.result
    (handed-more told (g.P.Spawner.started c.args.spawn.now) (g.P.Spawner.started c.hand.new.spawn) c.args.entries.now c.args.input.now c.args.board.now.handed c.index-entries-board.result c.requires.place c.index-entries-board.is s c.in_ok-runs.ensures.started)

pub returns-clause-started : goal.returns-clause-started
returns-clause-started g c = λ told s.
    handed-more told (g.P.Spawner.started c.args.spawn.now) (g.P.Spawner.started c.hand.new.spawn) c.args.entries.now c.args.input.now c.args.board.now.handed c.index-entries-board.result c.requires.place c.index-entries-board.is s c.in_ok-runs.ensures.started
