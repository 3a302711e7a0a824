use Rattle.std.proofs.Common.{◌≡◌, Some, ap, subst, sym, IfOk}
use Rattle.std.specs.Option.{option_copied}
use Rattle.lp_language.specs.Course.{Scene}
use Rattle.lp_meaning.specs.FileEfuns.{saving}
use Rattle.lp_filing.specs.Filing.{ComesWith}
use Rattle.lp_filing.proofs.Worlds.{closed_with_store}
use Rattle.lp_filing.proofs.saving.save_object.Goals as goal

pub returns-in-Some-clause-comes : goal.returns-in-Some-clause-comes
returns-in-Some-clause-comes c =
    let q : option_copied c.args.path ≡ Some c.in-Some.path.now = ap option_copied c.in-Some.is in
    subst (λ p. IfOk c.save_to.result (λ d. (k : Scene) → k.this ≡ c.args.this → ComesWith c.args.code.now c.args.this (saving k p) c.args.live.now d c.save_to.new.live)) (sym q) c.save_to.ensures.comes

pub returns-in-Some-clause-closed : goal.returns-in-Some-clause-closed
returns-in-Some-clause-closed c = closed_with_store c.args.live.now c.save_to.new.live c.save_to.ensures.others c.requires.closed
