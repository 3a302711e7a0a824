use Rattle.std.proofs.Common.{refl, subst, ◌+◌}
use Rattle.lp_step.specs.declared.scans.Scanning.TheVariants as scanning
use Rattle.lp_step.specs.Scans.{ScansOn}
use Rattle.lp_step.proofs.Scanned.{found_fit, scanned_on, scans_fit}
use Rattle.lp_step.proofs.scans.scan_operator.Goals as goal

pub returns-in_ok-push_found-in-Values : goal.returns-in_ok-push_found-in-Values
returns-in_ok-push_found-in-Values c = record {
  table = λ a m h fine named. scanned_on a c.args.live.now c.args.stack.now.items c.scan_top.new.stack.items c.push_found.new.stack.items c.args.frame.now (c.args.frame.now.at + 1) c.args.budget.now c.scan_top.new.budget m c.args.places (scanning.Values c.in-Values.found) _ h
      (subst (λ d. ScansOn c.args.places c.args.stack.now.items c.scan_top.new.stack.items c.args.live.now.objects c.args.live.now.cells c.args.budget.now d c.scan_top.new.budget) c.in-Values.is c.in_ok-found.ensures) (refl, c.in_ok-push_found-in-Values.ensures, refl) fine;
  keeps = λ f. (found_fit c.args.live.now c.args.places c.scan_top.new.stack.items c.push_found.new.stack.items _ c.in-Values.found.items c.in_ok-push_found-in-Values.ensures (scans_fit c.args.live.now c.args.places c.args.stack.now.items c.scan_top.new.stack.items c.args.budget.now c.scan_top.new.budget _ c.in_ok-found.ensures f), tt);
}

pub returns-in-Error : goal.returns-in-Error
returns-in-Error c = record {
  table = λ a m h fine named. scanned_on a c.args.live.now c.args.stack.now.items c.scan_top.new.stack.items c.scan_top.new.stack.items c.args.frame.now c.args.frame.now.at c.args.budget.now c.scan_top.new.budget m c.args.places (scanning.Error c.in-Error.e) _ h
      (subst (λ d. ScansOn c.args.places c.args.stack.now.items c.scan_top.new.stack.items c.args.live.now.objects c.args.live.now.cells c.args.budget.now d c.scan_top.new.budget) c.in-Error.is c.in_ok-found.ensures) (refl, refl, refl) fine;
  keeps = λ f. (scans_fit c.args.live.now c.args.places c.args.stack.now.items c.scan_top.new.stack.items c.args.budget.now c.scan_top.new.budget _ c.in_ok-found.ensures f, tt);
}

pub returns-in-Spent : goal.returns-in-Spent
returns-in-Spent c = record {
  table = λ a m h fine named. scanned_on a c.args.live.now c.args.stack.now.items c.scan_top.new.stack.items c.scan_top.new.stack.items c.args.frame.now c.args.frame.now.at c.args.budget.now c.scan_top.new.budget m c.args.places scanning.Spent _ h
      (subst (λ d. ScansOn c.args.places c.args.stack.now.items c.scan_top.new.stack.items c.args.live.now.objects c.args.live.now.cells c.args.budget.now d c.scan_top.new.budget) c.in-Spent.is c.in_ok-found.ensures) (refl, refl, refl) fine;
  keeps = λ f. (scans_fit c.args.live.now c.args.places c.args.stack.now.items c.scan_top.new.stack.items c.args.budget.now c.scan_top.new.budget _ c.in_ok-found.ensures f, tt);
}
