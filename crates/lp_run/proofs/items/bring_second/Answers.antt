use Rattle.std.proofs.Common.{◌≡◌, rules, length}
use Rattle.lp_run.proofs.Reading.{second_brought}
use Rattle.lp_run.proofs.items.bring_second.Goals as goal

pub returns : goal.returns
returns c =
    let l : c.len-n.result ≡ length c.args.stack.now.items = search rules in
    second_brought c.args.stack.now.items c.swap.new.self.items c.len-n.result l c.requires c.swap.ensures.items
