use Rattle.lp_beginning.proofs.Brought.{first_err, first_left, first_ok}
use Rattle.lp_beginning.proofs.feed.log.Goals as goal

pub returns-in-Ok-push-clause-brings : goal.returns-in-Ok-push-clause-brings
returns-in-Ok-push-clause-brings g c = first_ok c.in-Ok.ensures.brings

pub returns-in-Err-push-clause-brings : goal.returns-in-Err-push-clause-brings
returns-in-Err-push-clause-brings g c = first_left c.in-Ok.ensures.brings

pub returns-in-Err-clause-brings : goal.returns-in-Err-clause-brings
returns-in-Err-clause-brings g c = first_err c.in-Err.ensures.brings
