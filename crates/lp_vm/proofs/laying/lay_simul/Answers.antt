use Rattle.lp_vm.proofs.Fitting.{on_ok_all}
use Rattle.lp_vm.proofs.laying.lay_simul.Goals as goal

pub returns-clause-keeps : goal.returns-clause-keeps
returns-clause-keeps c = on_ok_all c.two_more.result (λ l fit. c.in_ok-put_two.ensures.keeps l (c.in_ok-object.ensures.there l.cells) (c.in_ok-name.ensures.there l.cells) fit)
