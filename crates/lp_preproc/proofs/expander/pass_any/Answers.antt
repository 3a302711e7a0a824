use Rattle.lp_preproc.specs.Steps.{whole_of}
use Rattle.lp_preproc.proofs.Leading.{does_reached}
use Rattle.lp_preproc.proofs.expander.pass_any.Goals as goal

pub returns-in_default : goal.returns-in_default
returns-in_default c = λ c' i. does_reached c' _ c.pass_directive.result (whole_of c.pass_directive.new.expander) c.pass_directive.ensures
