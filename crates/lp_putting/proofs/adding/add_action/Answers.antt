use Rattle.std.proofs.Common.{Option}
use Rattle.lp_swapfile.specs.Device.{Bytes}
use Rattle.lp_putting.specs.Plans.{StandsStill}
use Rattle.lp_putting.proofs.Carried.{action_comes}
use Rattle.lp_putting.proofs.Standing.{closed_actions, on_err_any, still_actions}
use Rattle.lp_putting.proofs.adding.add_action.Goals as goal

pub returns-clause-does : goal.returns-clause-does
returns-clause-does c =
    action_comes c.args.holder c.args.this c.args.args.now c.args.live.now c.add.new.self c.in_ok-function.function c.in_ok-verb.verb c.flag_at-is_front.result
    c.in_ok-function.ensures c.in_ok-verb.ensures c.flag_at-is_front.ensures c.in_ok-add.ensures.first c.in_ok-add.ensures.number.1

pub returns-clause-closed : goal.returns-clause-closed
returns-clause-closed c = closed_actions c.args.live.now c.add.new.self c.requires.closed

pub returns-in_err-add-clause-closed : goal.returns-in_err-add-clause-closed
returns-in_err-add-clause-closed c = closed_actions c.args.live.now c.add.new.self c.requires.closed

pub returns-in_err-add-clause-still : goal.returns-in_err-add-clause-still
returns-in_err-add-clause-still c =
    let h : (told : Option Bytes) → StandsStill told c.args.live.now (record c.args.live.now { actions = c.add.new.self }) = λ told. still_actions told c.args.live.now c.add.new.self c.in_err-add.ensures.err in
    on_err_any c.from_residual-in_err-add.result _ h
