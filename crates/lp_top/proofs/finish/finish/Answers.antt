use Rattle.std.proofs.Common.{sym, take, drop}
use Rattle.std.proofs.lemmas.List.{take-append-drop}
use Rattle.lp_top.proofs.finish.finish.Goals as goal

pub returns-in-Err-clause-end : goal.returns-in-Err-clause-end
returns-in-Err-clause-end g c =
    let n = c.in-Err.ensures.cut.0 in
    (take n c.args.last.now, (drop n c.args.last.now, sym (take-append-drop n c.args.last.now)), c.in-Err.ensures.cut.2)
