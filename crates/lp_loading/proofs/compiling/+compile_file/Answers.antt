use Rattle.lp_loading.proofs.Brought.{brought_more, stands_more}
use Rattle.lp_loading.proofs.compiling.+compile_file.Goals as goal

pub returns-in-Ok-None-clause-brings : goal.returns-in-Ok-None-clause-brings
returns-in-Ok-None-clause-brings g t c = brought_more c.in-Ok-None.ensures.brings c.attempt.ensures.stands c.compile_file.ensures.brings

pub returns-in-Ok-None-clause-stands : goal.returns-in-Ok-None-clause-stands
returns-in-Ok-None-clause-stands g t c = λ h. stands_more (c.attempt.ensures.stands (c.compile_file.ensures.brings.truthful h)) (c.compile_file.ensures.stands h)
