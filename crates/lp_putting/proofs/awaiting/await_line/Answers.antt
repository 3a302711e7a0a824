use Rattle.std.proofs.Common.{Option}
use Rattle.lp_swapfile.specs.Device.{Bytes}
use Rattle.lp_putting.specs.Plans.{StandsStill}
use Rattle.lp_putting.proofs.Carried.{line_closed, line_waits}
use Rattle.lp_putting.proofs.Standing.{closed_same, on_err_any, put_line, put_nothing, still_same, unawaited_closed, unawaited_still}
use Rattle.lp_putting.proofs.awaiting.await_line.Goals as goal

pub returns-clause-does : goal.returns-clause-does
returns-clause-does c =
    line_waits c.args.number c.args.this c.args.args.now c.args.live.now c.hide.new.live c.flag_at-hides.result c.in_ok-waiting.waiting c.wait.new.self c.flag_at-hides.ensures c.in_ok-waiting.ensures c.in_ok-hide.ensures.ok c.in_ok-wait.ensures.ok

pub returns-clause-closed : goal.returns-clause-closed
returns-clause-closed c =
    line_closed c.args.number c.args.this c.args.args.now c.args.live.now c.hide.new.live c.flag_at-hides.result c.in_ok-waiting.waiting c.wait.new.self c.in_ok-waiting.ensures c.requires.there c.in_ok-hide.ensures.ok c.in_ok-wait.ensures.ok c.requires.closed

pub returns-clause-put : goal.returns-clause-put
returns-clause-put c = put_line c.args.live.now c.hide.new.live _ c.wait.new.self c.in_ok-hide.ensures.ok

pub returns-in_err-hide-clause-still : goal.returns-in_err-hide-clause-still
returns-in_err-hide-clause-still c =
    let h : (told : Option Bytes) → StandsStill told c.args.live.now c.hide.new.live = λ told. still_same told c.args.live.now c.hide.new.live c.in_err-hide.ensures.err in
    on_err_any c.from_residual-in_err-hide.result _ h

pub returns-in_err-hide-clause-put : goal.returns-in_err-hide-clause-put
returns-in_err-hide-clause-put c = put_nothing c.args.live.now c.hide.new.live c.in_err-hide.ensures.err

pub returns-in_err-hide-clause-closed : goal.returns-in_err-hide-clause-closed
returns-in_err-hide-clause-closed c = closed_same c.args.live.now c.hide.new.live c.in_err-hide.ensures.err c.requires.closed

pub returns-in_err-wait-clause-still : goal.returns-in_err-wait-clause-still
returns-in_err-wait-clause-still c =
    let h : (told : Option Bytes) → StandsStill told c.args.live.now (record c.hide.new.live { connections = c.wait.new.self }) =
    λ told. unawaited_still told c.args.live.now c.hide.new.live _ c.wait.new.self c.in_ok-hide.ensures.ok c.in_err-wait.ensures.err in
    on_err_any c.from_residual-in_err-wait.result _ h

pub returns-in_err-wait-clause-put : goal.returns-in_err-wait-clause-put
returns-in_err-wait-clause-put c = put_line c.args.live.now c.hide.new.live _ c.wait.new.self c.in_ok-hide.ensures.ok

pub returns-in_err-wait-clause-closed : goal.returns-in_err-wait-clause-closed
returns-in_err-wait-clause-closed c = unawaited_closed c.args.live.now c.hide.new.live _ c.wait.new.self c.in_ok-hide.ensures.ok c.in_err-wait.ensures.err c.requires.closed
