use Rattle.std.proofs.Common.{subst}
use Rattle.std.specs.Prelude.{IfSome}
use Rattle.lp_jobs.specs.Jobs.{IsVerdictIn}
use Rattle.lp_jobs.proofs.Heard.{noted-true}
use Rattle.lp_jobs.proofs.hearing.note_ended.Goals as goal

pub returns-in-Some : goal.returns-in-Some
returns-in-Some c = λ jobs input h t a.
    let es = c.args.entries.now in
    let told : IfSome c.in_ok-verdict.field-0 (IsVerdictIn es c.args.ended.now) = c.in_ok-verdict.ensures in
    let is = subst (λ r. IfSome r (IsVerdictIn es c.args.ended.now)) c.in-Some.is told in
    noted-true jobs es input c.args.ended.now c.in-Some.verdict c.args.verdicts.now.items c.note.new.verdicts.items h t is c.note.ensures.same c.note.ensures.noted a
