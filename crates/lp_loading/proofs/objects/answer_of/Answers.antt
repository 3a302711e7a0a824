use Rattle.std.proofs.Common.{subst}
use Rattle.lp_beginning.specs.Ends.{IsReplyEnd}
use Rattle.lp_asking.specs.declared.ending.Ending.TheVariants as endings
use Rattle.lp_asking.specs.Endings.{IsEndingThere}
use Rattle.lp_loading.proofs.ObjectsMade.{answer_there, reply_answers}
use Rattle.lp_loading.proofs.objects.answer_of.Goals as goal

pub returns-in-Value-clause-same : goal.returns-in-Value-clause-same
returns-in-Value-clause-same c = λ programs e h. reply_answers programs (endings.Value c.in-Value.v) e (subst (λ x. IsReplyEnd programs x e) c.in-Value.is h)

pub returns-in-Stopped-clause-same : goal.returns-in-Stopped-clause-same
returns-in-Stopped-clause-same c = λ programs e h. reply_answers programs (endings.Stopped c.in-Stopped.stop) e (subst (λ x. IsReplyEnd programs x e) c.in-Stopped.is h)

pub returns-in-Value-clause-there : goal.returns-in-Value-clause-there
returns-in-Value-clause-there c = λ cells h. answer_there cells (endings.Value c.in-Value.v) (subst (λ x. IsEndingThere cells x) c.in-Value.is h)

pub returns-in-Stopped-clause-there : goal.returns-in-Stopped-clause-there
returns-in-Stopped-clause-there c = λ cells h. answer_there cells (endings.Stopped c.in-Stopped.stop) (subst (λ x. IsEndingThere cells x) c.in-Stopped.is h)
