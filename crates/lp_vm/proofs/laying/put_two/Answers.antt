use Rattle.lp_vm.proofs.Fitting.{put_in_fit, twice_in}
use Rattle.lp_vm.proofs.laying.put_two.Goals as goal

pub returns-clause-keeps : goal.returns-clause-keeps
returns-clause-keeps c = λ l there also fit.
    put_in_fit l c.args.stack.now.items c.insert-2.new.self.items c.args.low c.args.first c.args.second
    (twice_in c.args.stack.now.items c.insert.new.self.items c.insert-2.new.self.items c.args.low c.args.first c.args.second c.requires c.in_ok-insert.ensures.items c.in_ok-insert-2.ensures.items) there also fit
