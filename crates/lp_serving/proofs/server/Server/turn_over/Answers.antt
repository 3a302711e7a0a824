use Rattle.std.proofs.Common.{rules, ◌≡◌, true, false}
use Rattle.std.specs.Result.{is_err}
use Rattle.lp_serving.proofs.Causes.{flush_no_fall}
use Rattle.lp_serving.proofs.EventsRecorded.{turned_over, ok_is}
use Rattle.lp_serving.specs.declared.server.End.TheVariants.{NoMemory}
use Rattle.lp_serving.proofs.Cutting.{cut_behind, cut_written, err_is}
use Rattle.lp_serving.proofs.server.Server.turn_over.Goals as goal

pub returns-in-Ok-write_changed-clause-turns : goal.returns-in-Ok-write_changed-clause-turns
returns-in-Ok-write_changed-clause-turns g c = λ origin from.
    let fine : is_err c.send_outs.result ≡ false = search rules in
    let kept : is_err c.write_event.result ≡ false = search rules in
    turned_over c.args.event c.in-Ok.outs _ _ _ _ from _ _ _ _ _ _ (c.in-Ok.ensures.ran origin) (c.write_changed.ensures.ran c.turn.new.swap origin) (ok_is c.write_event.result _ kept c.write_event.ensures.whole) (ok_is c.send_outs.result _ fine c.send_outs.ensures.sends)

pub returns-in-Ok-write_changed-clause-files : goal.returns-in-Ok-write_changed-clause-files
returns-in-Ok-write_changed-clause-files g c = flush_no_fall c.write_changed.result _ _ _ _ _ _ _ c.write_changed.ensures.flushes c.write_changed.ensures.cut

pub returns-clause-files : goal.returns-clause-files
returns-clause-files g c = flush_no_fall c.write_changed.result _ _ _ _ _ _ _ c.write_changed.ensures.flushes c.write_changed.ensures.cut

pub returns-then-is_err-clause-cut : goal.returns-then-is_err-clause-cut
returns-then-is_err-clause-cut g c =
    let bad : is_err c.write_event.result ≡ true = search rules in
    cut_written _ _ g.C.Core.ran c.args.core.now c.turn.new.self c.args.swap.now c.turn.new.swap _ _ _ c.args.event c.in-Ok.outs c.in-Ok.ensures.ran (err_is c.write_event.result _ bad c.write_event.ensures.cut)

pub returns-then-is_err-2-clause-cut : goal.returns-then-is_err-2-clause-cut
returns-then-is_err-2-clause-cut g c =
    let kept : is_err c.write_event.result ≡ false = search rules in
    cut_behind _ _ g.C.Core.ran c.args.core.now c.turn.new.self c.args.swap.now c.turn.new.swap _ _ _ c.args.event c.in-Ok.outs NoMemory c.in-Ok.ensures.ran (ok_is c.write_event.result _ kept c.write_event.ensures.whole)

pub returns-clause-cut : goal.returns-clause-cut
returns-clause-cut g c =
    let kept : is_err c.write_event.result ≡ false = search rules in
    cut_behind _ _ g.C.Core.ran c.args.core.now c.turn.new.self c.args.swap.now c.turn.new.swap _ _ _ c.args.event c.in-Ok.outs NoMemory c.in-Ok.ensures.ran (ok_is c.write_event.result _ kept c.write_event.ensures.whole)
