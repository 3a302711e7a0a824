use Rattle.std.proofs.Common.{◌∙◌, ap}
use Rattle.lp_efuns.specs.Subjects.{seconds_from}
use Rattle.lp_efuns.proofs.Timed.{found_call_out}
use Rattle.lp_efuns.proofs.timing.find_call_out.Goals as goal

pub returns-clause-looks : goal.returns-clause-looks
returns-clause-looks c = λ turn.
    found_call_out c.args.caller.now c.args.args.now c.args.live.now turn c.in_ok-fun.fun c.in_ok-left.left c.in_ok-fun.ensures (c.in_ok-left.ensures ∙ ap (seconds_from c.args.live.now.clock) c.left.ensures)
