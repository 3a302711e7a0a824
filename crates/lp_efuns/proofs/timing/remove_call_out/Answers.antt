use Rattle.std.proofs.Common.{◌∙◌, All, ap, subst, sym}
use Rattle.std.specs.Option.{option_map}
use Rattle.lp_cells.specs.Cells.{IsThere}
use Rattle.lp_timers.specs.Timers.{CallOut, earliest}
use Rattle.lp_timers.specs.Timing.{Timing}
use Rattle.lp_efuns.specs.Subjects.{seconds_from}
use Rattle.lp_efuns.proofs.Rested.{closed_timing}
use Rattle.lp_efuns.proofs.Timed.{left_numbered, left_there, removed_call_out}
use Rattle.lp_efuns.proofs.timing.remove_call_out.Goals as goal

pub returns-clause-does : goal.returns-clause-does
returns-clause-does c = λ turn.
    removed_call_out c.args.caller.now c.args.args.now c.args.live.now turn c.in_ok-fun.fun c.in_ok-left.left c.remove.new.self c.in_ok-fun.ensures
    (c.in_ok-left.ensures ∙ ap (seconds_from c.args.live.now.clock) (c.due_of-due.ensures ∙ ap (option_map (λ c. c.due)) c.remove.ensures.earliest)) c.remove.ensures.left

pub returns-in_err-left-clause-closed : goal.returns-in_err-left-clause-closed
returns-in_err-left-clause-closed c =
    closed_timing c.args.live.now c.remove.new.self c.requires.closed
    (subst (λ (t : Timing). All (λ (x : CallOut). All (IsThere c.args.live.now.cells) x.arguments) t.call_outs) (sym c.remove.ensures.left)
    (left_there c.args.live.now.cells c.args.live.now.timers.call_outs (earliest c.args.live.now.timers.call_outs c.args.caller.now.this c.in_ok-fun.fun) c.requires.closed.call_outs))
    (left_numbered c.args.live.now.timers c.remove.new.self (earliest c.args.live.now.timers.call_outs c.args.caller.now.this c.in_ok-fun.fun) (ap (λ (t : Timing). t.next) c.remove.ensures.left)
    (ap (λ (t : Timing). t.call_outs) c.remove.ensures.left) c.requires.closed.numbered)

pub returns-clause-closed : goal.returns-clause-closed
returns-clause-closed c =
    closed_timing c.args.live.now c.remove.new.self c.requires.closed
    (subst (λ (t : Timing). All (λ (x : CallOut). All (IsThere c.args.live.now.cells) x.arguments) t.call_outs) (sym c.remove.ensures.left)
    (left_there c.args.live.now.cells c.args.live.now.timers.call_outs (earliest c.args.live.now.timers.call_outs c.args.caller.now.this c.in_ok-fun.fun) c.requires.closed.call_outs))
    (left_numbered c.args.live.now.timers c.remove.new.self (earliest c.args.live.now.timers.call_outs c.args.caller.now.this c.in_ok-fun.fun) (ap (λ (t : Timing). t.next) c.remove.ensures.left)
    (ap (λ (t : Timing). t.call_outs) c.remove.ensures.left) c.requires.closed.numbered)
