use Rattle.std.proofs.Common.{◌+◌, length, arith}
use Rattle.lp_search.specs.Places.{Stands}
use Rattle.lp_search.proofs.MismatchLemmas.{begins}
use Rattle.lp_search.proofs.PlaceLemmas.{IsFirst-earlier}
use Rattle.lp_search.proofs.two_way.first_place.Goals as goal

pub returns-in-Some : goal.returns-in-Some
returns-in-Some c =
    let found = c.in-Some.ensures.0 in
    let low = found.low in
    IsFirst-earlier (Stands c.args.needle.now c.args.hay.now) c.args.from c.in-Some.first (length c.args.hay.now + 1) c.place_from.result (omega arith) (λ k a b occurs. found.before k a b (begins c.args.needle.now c.args.hay.now c.requires.some k occurs)) c.place_from.ensures

pub returns-in-None : goal.returns-in-None
returns-in-None c = λ k a b occurs. let fits = occurs.fits in c.in-None.ensures k a (omega arith) (begins c.args.needle.now c.args.hay.now c.requires.some k occurs)
