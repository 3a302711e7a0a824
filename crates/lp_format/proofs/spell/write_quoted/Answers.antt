use Rattle.std.proofs.lemmas.Result.{err_from_is_err_and}
use Rattle.lp_format.proofs.SpellLemmas.{quoted_stops}
use Rattle.lp_format.proofs.spell.write_quoted.Goals as goal

pub returns-in_err-write_point : goal.returns-in_err-write_point
returns-in_err-write_point c =
    let p = err_from_is_err_and c.from_residual-in_err-write_point.result c.from_residual-in_err-write_point.ensures.1 in
    rw (p.1, p.2) (quoted_stops _ _ _ _ _ c.args.s.now _ _ c.loop-c-test.true c.c-item.is c.loop-c.invariant c.in_err-write_point.ensures)
