use Rattle.std.proofs.Common.{◌≡◌, Some, ap, pos, subst, sym}
use Rattle.std.specs.Option.{option_copied}
use Rattle.lp_values.specs.declared.value.Value.TheVariants.{Int}
use Rattle.lp_meaning.specs.FileEfuns.{written_to}
use Rattle.lp_filing.specs.Filing.{Comes}
use Rattle.lp_filing.specs.declared.outcome.Outcome.TheVariants as outcomes
use Rattle.lp_filing.proofs.Coming.{comes_written}
use Rattle.lp_filing.proofs.Worlds.{closed_with_store}
use Rattle.lp_filing.proofs.writing.append.Goals as goal

pub returns-in-Ok-clause-comes : goal.returns-in-Ok-clause-comes
returns-in-Ok-clause-comes c =
    let q : option_copied c.args.path ≡ Some c.in-Some.path.now = ap option_copied c.in-Some.is in
    subst (λ p. Comes (written_to p c.args.text.now) c.args.live.now (outcomes.Value (Int (pos 1))) c.append_to.new.live) (sym q)
    (comes_written c.args.live.now c.append_to.new.live c.in-Some.path.now c.args.text.now c.in-Ok.ensures.others c.in-Ok.ensures.files)

pub returns-in-Ok-clause-closed : goal.returns-in-Ok-clause-closed
returns-in-Ok-clause-closed c = closed_with_store c.args.live.now c.append_to.new.live c.in-Ok.ensures.others c.requires.closed

pub returns-in-Err-clause-closed : goal.returns-in-Err-clause-closed
returns-in-Err-clause-closed c = closed_with_store c.args.live.now c.append_to.new.live c.in-Err.ensures.others c.requires.closed
