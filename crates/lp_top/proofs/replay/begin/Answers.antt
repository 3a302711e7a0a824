use Rattle.std.proofs.Common.{◌∙◌, sym, subst}
use Rattle.lp_driver.specs.Driving.{HasNoMasterIf}
use Rattle.lp_top.proofs.Beginning.{may-start, going-start, replays-none, replays-unstarted, stop-not-done}
use Rattle.lp_top.proofs.Swapping.{begun-tells, stop-tells}
use Rattle.lp_top.specs.Items.{world_files}
use Rattle.lp_top.proofs.replay.begin.Goals as goal

pub start-requires-clause-moment : goal.start-requires-clause-moment
start-requires-clause-moment g c = may-start c.args.reader.now c.args.opening c.requires

pub start-requires-clause-files : goal.start-requires-clause-files
start-requires-clause-files g c = (world_files c.requires.files, c.requires.noted.files)

pub begun-requires : goal.begun-requires
begun-requires g c = (_, going-start c.args.swap_time c.args.reader.now c.args.opening _ c.in-Ok.live c.in-Ok.outs c.requires c.in-Ok.ensures.starts c.in-Ok.ensures.closed c.in-Ok.ensures.rest)

pub returns-in-Err-NoMaster-clause-replays : goal.returns-in-Err-NoMaster-clause-replays
returns-in-Err-NoMaster-clause-replays g c = λ b h.
    rw c.from_vec.ensures
    (replays-none c.args.swap_time c.args.asks_report b c.args.reader.now _ _ c.args.opening c.in-Err-NoMaster.faults.items c.requires h
    (subst (HasNoMasterIf c.args.opening.store c.args.opening.seed c.args.opening.moment) c.in-Err-NoMaster.field-0-is c.in-Err-NoMaster.ensures.none))

pub returns-in-Err-Stopped-clause-replays : goal.returns-in-Err-Stopped-clause-replays
returns-in-Err-Stopped-clause-replays g c = λ b h. rw c.stopped.ensures (replays-unstarted c.args.swap_time c.args.asks_report b c.args.reader.now _ _ c.args.opening c.in-Err-Stopped.fault c.requires h)

pub returns-in-Err-Stopped-clause-whole : goal.returns-in-Err-Stopped-clause-whole
returns-in-Err-Stopped-clause-whole g c = λ e. absurd (stop-not-done c.in-Err-Stopped.fault (sym c.stopped.ensures ∙ e))

pub returns-in-Err-Stopped-clause-swap : goal.returns-in-Err-Stopped-clause-swap
returns-in-Err-Stopped-clause-swap g c =
    let t = rw c.in-Err-Stopped.field-0-is at c.in-Err-Stopped.ensures.tells in
    rw c.stopped.ensures (stop-tells c.in-Err-Stopped.fault _ _ _ _ _ _ _ _ t.0 (begun-tells t.1))
