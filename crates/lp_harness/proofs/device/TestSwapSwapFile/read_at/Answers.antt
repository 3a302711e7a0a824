use Rattle.lp_harness.proofs.device.TestSwapSwapFile.read_at.Goals as goal

pub returns-clause-truthful : goal.returns-clause-truthful
returns-clause-truthful c = rw (← c.self.view_is) c.read_at-answer.ensures.truthful
