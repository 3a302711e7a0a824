use Rattle.std.proofs.Common.{subst, sym, []}
use Rattle.lp_suite.specs.Suite.{AddsEntries, none}
use Rattle.lp_suite.proofs.Items.{one_more_file}
use Rattle.lp_suite.proofs.suite.add_files.Goals as goal

pub loop-path-init : goal.loop-path-init
loop-path-init c = λ ls k. subst (AddsEntries c.args.files.now ls []) (sym c.requires) none

pub loop-path-preserved : goal.loop-path-preserved
loop-path-preserved c = λ ls k.
    one_more_file c.args.files.now ls c.args.paths.now c.loop-path.path-index c.path-item.result _ c.loop-path.entries.items c.add_file.new.entries.items c.loop-path-test.true c.path-item.is c.as_str.ensures
    (c.loop-path.invariant ls k) (c.in_ok-add_file.ensures ls k)
