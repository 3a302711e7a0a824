use Rattle.std.proofs.Common.{[]}
use Rattle.lp_telnet.proofs.LineLemmas.{of_piece}
use Rattle.lp_telnet.proofs.telnet.Telnet.feed.Goals as goal

pub returns-in-Ok-clause-lines : goal.returns-in-Ok-clause-lines
returns-in-Ok-clause-lines c =
    of_piece c.args.self.now c.take_all.new.self c.take_all.new.lines.items c.args.bytes.now (rw c.new-lines.ensures.items at (c.in-Ok.ensures.ok []))
