use Rattle.std.proofs.Common.{◌≡◌, Some, ap, refl, subst, sym}
use Rattle.std.specs.Option.{option_copied}
use Rattle.lp_meaning.specs.FileEfuns.{removed}
use Rattle.lp_world.specs.declared.live.Live.{Live}
use Rattle.lp_filing.specs.Filing.{Comes}
use Rattle.lp_filing.specs.declared.outcome.Outcome.TheVariants as outcomes
use Rattle.lp_filing.proofs.Coming.{comes_removed}
use Rattle.lp_filing.proofs.writing.remove.Goals as goal

pub returns-in-Ok-clause-comes : goal.returns-in-Ok-clause-comes
returns-in-Ok-clause-comes c =
    let old : Live = c.args.live.now in
    let new : Live = record old { store = c.remove.new.self } in
    let q : option_copied c.args.path ≡ Some c.in-Some.path.now = ap option_copied c.in-Some.is in
    subst (λ p. Comes (removed p) old (outcomes.Value c.done_value.result) new) (sym q)
    (subst (λ v. Comes (removed (Some c.in-Some.path.now)) old (outcomes.Value v) new) (sym c.done_value.ensures.value)
    (comes_removed old new c.in-Some.path.now c.in-Ok.was_there refl c.in-Ok.ensures.found c.in-Ok.ensures.files))
