use Rattle.std.proofs.Common.{subst, sym}
use Rattle.std.proofs.lemmas.Result.{IfOk-weaker}
use Rattle.std.specs.Option.{option_copied}
use Rattle.lp_meaning.specs.FileEfuns.{bytes_of, read_value, size_value, written_to}
use Rattle.lp_filing.specs.Filing.{Comes}
use Rattle.lp_filing.specs.declared.outcome.Outcome.TheVariants as outcomes
use Rattle.lp_calling.specs.Leave.{file_deed}
use Rattle.lp_calling.proofs.Granted.{shows_comes}
use Rattle.lp_calling.proofs.deeds.do_deed.Goals as goal

pub returns-in-Read-clause-comes : goal.returns-in-Read-clause-comes
returns-in-Read-clause-comes c =
    IfOk-weaker c.read_text.result _ _
    (λ v k. subst (λ d. Comes (file_deed d (option_copied c.args.path)) c.args.live.now (outcomes.Value v) c.args.live.now) (sym c.in-Read.is)
    (shows_comes (λ w. read_value (bytes_of w (option_copied c.args.path))) c.args.live.now v k)) c.read_text.ensures.shows

pub returns-in-Size-clause-comes : goal.returns-in-Size-clause-comes
returns-in-Size-clause-comes c =
    subst (λ d. Comes (file_deed d (option_copied c.args.path)) c.args.live.now (outcomes.Value c.size.result) c.args.live.now) (sym c.in-Size.is)
    (shows_comes (λ w. size_value (bytes_of w (option_copied c.args.path))) c.args.live.now c.size.result c.size.ensures.shows)

pub returns-in-Write-clause-comes : goal.returns-in-Write-clause-comes
returns-in-Write-clause-comes c =
    IfOk-weaker c.append.result _ _
    (λ v k. subst (λ d. Comes (file_deed d (option_copied c.args.path)) c.args.live.now (outcomes.Value v) c.append.new.live) (sym c.in-Write.is)
    (subst (λ t. Comes (written_to (option_copied c.args.path) t) c.args.live.now (outcomes.Value v) c.append.new.live) c.as_slice.ensures k)) c.append.ensures.comes

pub returns-in-Remove-clause-comes : goal.returns-in-Remove-clause-comes
returns-in-Remove-clause-comes c =
    IfOk-weaker c.remove.result _ _
    (λ v k. subst (λ d. Comes (file_deed d (option_copied c.args.path)) c.args.live.now (outcomes.Value v) c.remove.new.live) (sym c.in-Remove.is) k) c.remove.ensures.comes
