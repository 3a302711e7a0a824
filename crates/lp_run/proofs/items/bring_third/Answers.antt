use Rattle.std.proofs.Common.{◌≡◌, rules, length}
use Rattle.lp_run.proofs.Reading.{third_brought}
use Rattle.lp_run.proofs.items.bring_third.Goals as goal

pub returns : goal.returns
returns c =
    let l : c.len-n.result ≡ length c.args.stack.now.items = search rules in
    third_brought c.args.stack.now.items c.swap.new.self.items c.swap-2.new.self.items c.len-n.result l c.requires c.swap.ensures.items c.swap-2.ensures.items
