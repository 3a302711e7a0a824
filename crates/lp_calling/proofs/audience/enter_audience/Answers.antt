use Rattle.std.proofs.Common.{◌≤◌, arith, length}
use Rattle.lp_calling.proofs.Audiences.{advances_out, advances_to}
use Rattle.lp_calling.proofs.audience.enter_audience.Goals as goal

pub returns-then-n-len-clause-advances : goal.returns-then-n-len-clause-advances
returns-then-n-len-clause-advances c = λ turn. advances_to c.args.audience c.args.live.now c.hear_all.new.live turn c.in_ok-n.n c.in_ok-n.ensures.heard.done

pub returns-clause-advances : goal.returns-clause-advances
returns-clause-advances c =
    let out : length c.args.audience.listeners.items ≤ c.in_ok-n.n = omega arith in
    λ turn. advances_out c.args.audience c.args.live.now c.hear_all.new.live turn c.in_ok-n.n out c.in_ok-n.ensures.heard.done
