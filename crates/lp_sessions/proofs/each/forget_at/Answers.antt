use Rattle.std.proofs.Common.{◌≡◌, false, rules}
use Rattle.lp_sessions.proofs.Index.{index_removed}
use Rattle.lp_sessions.proofs.each.forget_at.Goals as goal

pub returns-then-not-is_waiting-clause-index : goal.returns-then-not-is_waiting-clause-index
returns-then-not-is_waiting-clause-index c =
    let idle : c.is_waiting.result ≡ false = search rules in
    rw c.remove.ensures.items (index_removed c.args.listed.now.items c.args.at c.index.result.now c.index.result.now c.args.sessions.now c.requires.within c.index.ensures (c.is_waiting.ensures idle) c.requires.index)
