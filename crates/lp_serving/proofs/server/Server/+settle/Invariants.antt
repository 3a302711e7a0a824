use Rattle.std.proofs.Common.{length}
use Rattle.lp_serving.proofs.server.Server.+settle.Given as goal

abbrev pub decreases-settle : goal.decreases-settle
decreases-settle g l = length l.self.now.connections.sessions
