use Rattle.std.proofs.Common.{◌≡◌, length, rules}
use Rattle.lp_efuns.proofs.Commanded.{fail_at}
use Rattle.lp_efuns.proofs.commands.set_fail.Goals as goal

pub returns-then-n-gt0 : goal.returns-then-n-gt0
returns-then-n-gt0 c =
    let l : c.len-n.result ≡ length c.args.commands.now.items = search rules in
    fail_at c.args.commands.now.items c.len-n.result c.index_mut.result.now c.args.fail l (search rules) c.index_mut.ensures.value
