use Rattle.std.proofs.Common.{◌≡◌, Some, ap, subst, sym, IfOk}
use Rattle.std.specs.Option.{option_copied}
use Rattle.lp_language.specs.Course.{Scene}
use Rattle.lp_meaning.specs.FileEfuns.{restoring}
use Rattle.lp_filing.specs.Filing.{ComesWith}
use Rattle.lp_filing.proofs.restoring.restore_object.Goals as goal

pub returns-in-Some-clause-comes : goal.returns-in-Some-clause-comes
returns-in-Some-clause-comes c =
    let q : option_copied c.args.path ≡ Some c.in-Some.path.now = ap option_copied c.in-Some.is in
    subst (λ p. IfOk c.restore_from.result (λ d. (k : Scene) → k.this ≡ c.args.this → ComesWith c.args.code.now c.args.this (restoring k p) c.args.live.now d c.restore_from.new.live)) (sym q) c.restore_from.ensures.comes
