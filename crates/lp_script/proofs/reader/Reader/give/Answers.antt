use Rattle.std.proofs.Common.{subst, Err}
use Rattle.lp_script.specs.Behind.{Behind}
use Rattle.lp_script.specs.Reader.{window, is_whole}
use Rattle.lp_script.proofs.ReaderLemmas.{large_none, same_but}
use Rattle.lp_script.proofs.reader.Reader.give.Goals as goal

pub returns-in-Err-Large-clause-steps : goal.returns-in-Err-Large-clause-steps
returns-in-Err-Large-clause-steps g = (
  large_none g.args.self.now g.end_large.result (subst (λ f. Behind g.args.self.now.before (window g.args.self.now) (is_whole g.args.self.now) g.args.self.now.cut (Err f)) g.in-Err-Large.field-0-is (subst (λ e. Behind g.args.self.now.before (window g.args.self.now) (is_whole g.args.self.now) g.args.self.now.cut e) g.in-Err-Large.is g.look.ensures)) g.end_large.ensures.fault,
  same_but g.args.self.now g.end_large.new.self _ g.end_large.ensures.phase,
)
