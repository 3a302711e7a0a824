use Rattle.lp_state.proofs.Stored.{goes_stored, rests_stored}
use Rattle.lp_state.proofs.state.State.written.Goals as goal

pub returns-clause-goes : goal.returns-clause-goes
returns-clause-goes c = λ told g. goes_stored told c.args.self.now c.written.new.self c.written.ensures.files g

pub returns-clause-rest : goal.returns-clause-rest
returns-clause-rest c = λ told w h. rests_stored told c.args.self.now.live w c.written.new.self c.written.ensures.files h
