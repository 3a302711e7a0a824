use Rattle.std.proofs.Common.{IfOk, subst}
use Rattle.lp_targets.proofs.Lookups.{if_ok}
use Rattle.lp_vm.specs.Jobs.{Feeds}
use Rattle.lp_vm.proofs.Fitting.{on_ok_all}
use Rattle.lp_vm.proofs.Workings.{some_there}
use Rattle.lp_vm.proofs.working.feed_loaded.Goals as goal

pub returns-clause-feeds : goal.returns-clause-feeds
returns-clause-feeds c =
    subst (λ e. IfOk c.feed_back.result (λ r. Feeds r e c.args.job.now c.args.live.now c.args.stack.now.items c.feed_back.new.job c.feed_back.new.stack.items)) c.in_ok-ending.ensures.ending c.feed_back.ensures.feeds

pub returns-clause-back : goal.returns-clause-back
returns-clause-back c = on_ok_all c.feed_back.result c.feed_back.ensures.back

pub returns-clause-there : goal.returns-clause-there
returns-clause-there c = if_ok c.feed_back.result (λ r h. some_there c.args.live.now.cells c.in_ok-ending.ending r (c.in_ok-ending.ensures.there c.args.live.now.cells c.requires.there) h) c.feed_back.ensures.same
