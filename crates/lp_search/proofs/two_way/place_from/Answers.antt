use Rattle.std.proofs.Common.{refl, sym, arith}
use Rattle.lp_search.proofs.two_way.place_from.Goals as goal

pub returns-then-matches_between : goal.returns-then-matches_between
returns-then-matches_between c =
    let fits = c.requires.fits in
    let all = c.if-matches_between.ensures.0 refl in (
      record { low = omega arith; high = omega arith; before = λ k a b. absurd (omega arith) },
      record { fits = omega arith; reads = λ j l. sym (all j (omega arith) l) },
    )
