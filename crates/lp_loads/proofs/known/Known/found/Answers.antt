use Rattle.std.proofs.Common.{subst, sym}
use Rattle.std.specs.Option.{option_map}
use Rattle.lp_loads.specs.Known.{IsInside, load_as}
use Rattle.lp_loads.proofs.known.Known.found.Goals as goal

pub returns-in_ok-copied-in-Some-clause-inside : goal.returns-in_ok-copied-in-Some-clause-inside
returns-in_ok-copied-in-Some-clause-inside c = λ ls k.
    c.in_ok-copied-in-Some.ensures.inside
    (subst (λ o. IsInside (option_map (load_as c.args.file.now) o)) (sym c.in-Some.ensures.value) (subst IsInside (sym (k.same c.args.file.now)) (k.inside c.args.file.now)))
