use Rattle.std.proofs.lemmas.Result.{err_from_is_err_and}
use Rattle.lp_workload.proofs.WholeLemmas.{cut_in_beginning, cut_in_events, cut_in_mudlib, to_the_end}
use Rattle.lp_workload.proofs.writing.write_all.Goals as goal

pub returns-in_err-write_mudlib : goal.returns-in_err-write_mudlib
returns-in_err-write_mudlib g c =
    let p = err_from_is_err_and c.from_residual.result c.from_residual.ensures.1 in
    rw (p.1, p.2) (cut_in_mudlib _ _ _ c.args.count c.args.seed c.in_err-write_mudlib.ensures)

pub returns-in_err-write_beginning : goal.returns-in_err-write_beginning
returns-in_err-write_beginning g c =
    let p = err_from_is_err_and c.from_residual-in_err-write_beginning.result c.from_residual-in_err-write_beginning.ensures.1 in
    rw (p.1, p.2) (cut_in_beginning _ _ _ _ c.args.count c.args.seed c.in_ok-write_mudlib.ensures c.in_err-write_beginning.ensures)

pub returns-in_err-write_events : goal.returns-in_err-write_events
returns-in_err-write_events g c =
    let p = err_from_is_err_and c.from_residual-in_err-write_events.result c.from_residual-in_err-write_events.ensures.1 in
    rw (p.1, p.2) (cut_in_events _ _ _ _ _ c.args.count c.args.seed c.in_ok-write_mudlib.ensures c.in_ok-write_beginning.ensures c.in_err-write_events.ensures)

pub returns : goal.returns
returns g c = to_the_end _ _ _ _ _ _ c.args.count c.args.seed c.in_ok-write_mudlib.ensures c.in_ok-write_beginning.ensures c.in_ok-write_events.ensures c.write_one.ensures
