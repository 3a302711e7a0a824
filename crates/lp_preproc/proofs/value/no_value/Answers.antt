use Rattle.lp_preproc.proofs.ConditionLemmas.{no_value_nested, no_value_unexpected}
use Rattle.lp_preproc.proofs.value.no_value.Goals as goal

pub returns-in-Unexpected : goal.returns-in-Unexpected
returns-in-Unexpected c = λ ws ts same f. let g = rw c.in-Unexpected.is at f in no_value_unexpected ws ts g.0 same g.1

pub returns-in-TooNested : goal.returns-in-TooNested
returns-in-TooNested c = λ ws ts same f. let g = rw c.in-TooNested.is at f in no_value_nested ws ts g.0 same g.1
