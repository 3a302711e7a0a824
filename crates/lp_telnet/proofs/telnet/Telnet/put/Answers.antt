use Rattle.std.proofs.Common.{◌≤◌, length, arith}
use Rattle.lp_telnet.proofs.LineLemmas.{ended-alike, full_kept}
use Rattle.lp_telnet.proofs.telnet.Telnet.put.Goals as goal

pub returns-else-len-lt-MAX_LINE-clause-ok : goal.returns-else-len-lt-MAX_LINE-clause-ok
returns-else-len-lt-MAX_LINE-clause-ok c =
    let full : 4096 ≤ length c.args.self.now.line = rw (← c.self.view_is) (omega (arith, c.self.inside.line.ok)) in
    λ rest. ended-alike _ _ rest (full_kept c.args.self.now.line c.args.byte full)
