use Rattle.lp_host.proofs.Played.{played_alike}
use Rattle.lp_host.proofs.state.HostedStateCore.written.Goals as goal

pub returns-clause-goes : goal.returns-clause-goes
returns-clause-goes g c = λ swap h. c.written.ensures.goes (g.W.SwapFile.content swap) h

pub returns-clause-ran : goal.returns-clause-ran
returns-clause-ran g c = λ swap origin turns h. played_alike origin (g.W.SwapFile.content swap) _ _ turns (λ w r. c.written.ensures.rest (g.W.SwapFile.content swap) w r) h
