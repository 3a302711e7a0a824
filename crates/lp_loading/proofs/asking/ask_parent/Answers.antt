use Rattle.lp_loading.proofs.ParentAsked.{parent_goes}
use Rattle.lp_loading.proofs.asking.ask_parent.Goals as goal

pub returns-clause-goes : goal.returns-clause-goes
returns-clause-goes c = λ job loads told live budget turn a. parent_goes c.law_missing_goes_on.ensures c.law_names_have_files.ensures job loads told live budget turn c.args.name c.in_ok-parent.parent c.in_ok-parent.ensures a
