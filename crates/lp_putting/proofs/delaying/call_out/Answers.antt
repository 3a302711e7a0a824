use Rattle.lp_putting.proofs.Carried.{call_out_closed, call_out_comes, room_for}
use Rattle.lp_putting.proofs.delaying.call_out.Goals as goal

pub returns-in-Ok-clause-does : goal.returns-in-Ok-clause-does
returns-in-Ok-clause-does c =
    call_out_comes c.args.seconds c.args.this c.args.args.now c.args.live.now c.in_ok-function.function c.in_ok-kept.kept.items c.call_out.new.self c.in_ok-function.ensures c.in_ok-kept.ensures (room_for _ _ _ c.in-Ok.ensures.full) c.in-Ok.ensures.ok.1

pub returns-in-Ok-clause-closed : goal.returns-in-Ok-clause-closed
returns-in-Ok-clause-closed c =
    call_out_closed c.args.seconds c.args.this c.args.args.now c.args.live.now c.in_ok-function.function c.in_ok-kept.kept.items c.call_out.new.self c.in_ok-kept.ensures c.requires.there c.in-Ok.ensures.ok.1 c.requires.closed
