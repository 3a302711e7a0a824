use Rattle.std.proofs.Common.{◌∙◌, ◌<◌, ◌≤◌, ◌++◌, ◌∷◌, [], subst, refl, arith}
use Rattle.std.proofs.Math.Nat.{le_trans}
use Rattle.std.specs.Prelude.{Ok}
use Rattle.lp_events.specs.Script.{longest_input, IsScript}
use Rattle.lp_script.specs.Reader.{HasGiven, IsAfter}
use Rattle.lp_top.specs.declared.status.Status.TheVariants.{Done}
use Rattle.lp_top.proofs.Reading.{goes_on, cut_within}
use Rattle.lp_top.proofs.Going.{running-more, may-come, goes-running, replays-reading, replays-stopped, replays-finished, first-not-late, rose-wider, rose-wider-either, kind-interrupted, kind-finished, read-whole}
use Rattle.lp_top.proofs.Swapping.{still-tells, then-tells, calm-tells, reading-calm, conclude-calm}
use Rattle.lp_top.proofs.replay.events.Goals as goal

pub loop-item-init : goal.loop-item-init
loop-item-init g c = record {
  running = λ from h. h;
  reads = λ b h. h;
  source_faults = omega arith;
  sink_faults = omega arith;
  zeros = omega arith;
  swap = still-tells Done _ _ _ _ _ refl;
}

pub returns-in-Err-clause-replays : goal.returns-in-Err-clause-replays
returns-in-Err-clause-replays g c = λ b from run h.
    let i = c.loop-item.invariant.running from run in
    let goes = goes-running c.args.swap_time c.loop-item.reader _ c.loop-item.live _ _ i in
    replays-reading c.args.swap_time c.args.asks_report b c.loop-item.reader _ c.loop-item.live _ _ c.in-Err.status i (c.in-Err.ensures.fault b i.read goes i.going.given (c.loop-item.invariant.reads b h)) c.in-Err.ensures.kind

pub returns-in-Err-clause-input_cause : goal.returns-in-Err-clause-input_cause
returns-in-Err-clause-input_cause g c = λ e.
    let i = c.loop-item.invariant.running c.requires.0 c.requires.1 in
    rose-wider _ _ _ _ c.loop-item.invariant.source_faults (omega arith) (c.in-Err.ensures.cause (goes-running c.args.swap_time c.loop-item.reader _ c.loop-item.live _ _ i) e)

pub carry-requires-clause-closed : goal.carry-requires-clause-closed
carry-requires-clause-closed g c = let i = c.loop-item.invariant.running c.requires.0 c.requires.1 in i.going.closed

pub carry-requires-clause-may : goal.carry-requires-clause-may
carry-requires-clause-may g c =
    let i = c.loop-item.invariant.running c.requires.0 c.requires.1 in
    let goes = goes-running c.args.swap_time c.loop-item.reader _ c.loop-item.live _ _ i in
    may-come c.next_item.new.reader i.read c.in-Event.event (subst (λ x. HasGiven c.next_item.new.reader (i.read ++ x ∷ [])) c.in-Event.is (c.in-Ok.ensures.given i.read goes i.going.given))

pub carry-requires-clause-rest : goal.carry-requires-clause-rest
carry-requires-clause-rest g c = let i = c.loop-item.invariant.running c.requires.0 c.requires.1 in i.going.rest

pub returns-in-Err-clause-most : goal.returns-in-Err-clause-most
returns-in-Err-clause-most g c = λ b h. c.in-Err.ensures.most b (c.loop-item.invariant.reads b h)

pub returns-in-Err-clause-swap : goal.returns-in-Err-clause-swap
returns-in-Err-clause-swap g c = calm-tells c.in-Err.status _ _ _ _ _ _ _ _ (reading-calm c.in-Err.status c.in-Err.ensures.kind) c.loop-item.invariant.swap

pub returns-in-Err-carry-clause-replays : goal.returns-in-Err-carry-clause-replays
returns-in-Err-carry-clause-replays g c = λ b from run h.
    let i = c.loop-item.invariant.running from run in
    let goes = goes-running c.args.swap_time c.loop-item.reader _ c.loop-item.live _ _ i in
    replays-stopped c.args.swap_time c.args.asks_report b c.loop-item.reader c.next_item.new.reader _ c.loop-item.live _ _ _ _ c.in-Err-carry.status c.in-Event.event i
    (c.in-Ok.ensures.reads b (c.loop-item.invariant.reads b h))
    (subst (λ x. HasGiven c.next_item.new.reader (i.read ++ x ∷ [])) c.in-Event.is (c.in-Ok.ensures.given i.read goes i.going.given))
    (subst (λ x. IsAfter (Ok x) c.next_item.new.reader.phase) c.in-Event.is c.in-Ok.ensures.phase) c.in-Err-carry.ensures.end

pub returns-in-Err-carry-clause-most : goal.returns-in-Err-carry-clause-most
returns-in-Err-carry-clause-most g c = λ b h. c.in-Ok.ensures.most b (c.loop-item.invariant.reads b h)

pub returns-in-Err-carry-clause-kind : goal.returns-in-Err-carry-clause-kind
returns-in-Err-carry-clause-kind g c = kind-interrupted _ _ _ c.in-Err-carry.status c.in-Err-carry.ensures.end

pub returns-in-Err-carry-clause-output_cause : goal.returns-in-Err-carry-clause-output_cause
returns-in-Err-carry-clause-output_cause g c = λ e.
    rose-wider-either _ _ _ _ _ _ _ _ c.loop-item.invariant.sink_faults (omega arith) c.loop-item.invariant.zeros (omega arith) (c.in-Err-carry.ensures.cause e)

pub returns-in-Err-carry-clause-swap : goal.returns-in-Err-carry-clause-swap
returns-in-Err-carry-clause-swap g c = then-tells c.in-Err-carry.status _ _ _ _ _ _ _ _ _ _ _ _ _ c.loop-item.invariant.swap c.in-Err-carry.ensures.swap

pub loop-item-smaller : goal.loop-item-smaller
loop-item-smaller g c =
    let i = c.loop-item.invariant.running c.requires.0 c.requires.1 in
    let goes = goes-running c.args.swap_time c.loop-item.reader _ c.loop-item.live _ _ i in
    let v = c.in-Ok.ensures.given i.read goes i.going.given in
    let more : c.loop-item.reader.cut < c.next_item.new.reader.cut = goes_on c.loop-item.reader c.next_item.new.reader i.read c.in-Ok.item i.going.given v in
    let within : c.next_item.new.reader.cut ≤ longest_input = cut_within c.next_item.new.reader _ v in
    omega arith

pub loop-item-preserved : goal.loop-item-preserved
loop-item-preserved g c =
    record {
      running = λ from h.
          let j = c.loop-item.invariant.running from h in
          let go = goes-running c.args.swap_time c.loop-item.reader _ c.loop-item.live _ _ j in
          running-more c.args.swap_time c.loop-item.reader c.next_item.new.reader _ _ c.loop-item.live c.carry.new.live _ _ _ c.in-Event.event j
          (subst (λ x. HasGiven c.next_item.new.reader (j.read ++ x ∷ [])) c.in-Event.is (c.in-Ok.ensures.given j.read go j.going.given))
          (subst (λ x. IsAfter (Ok x) c.next_item.new.reader.phase) c.in-Event.is c.in-Ok.ensures.phase) c.in-Ok-carry.ensures.done;
      reads = λ b h. c.in-Ok.ensures.reads b (c.loop-item.invariant.reads b h);
      source_faults = le_trans c.loop-item.invariant.source_faults c.in-Ok.ensures.no_fall;
      sink_faults = le_trans c.loop-item.invariant.sink_faults c.carry.ensures.no_fall;
      zeros = le_trans c.loop-item.invariant.zeros c.carry.ensures.zeros_no_fall;
      swap = then-tells Done _ _ _ _ _ _ _ _ _ _ _ _ _ c.loop-item.invariant.swap c.in-Ok-carry.ensures.swap;
    }

pub returns-in-End-clause-replays : goal.returns-in-End-clause-replays
returns-in-End-clause-replays g c = λ b from run h.
    let i = c.loop-item.invariant.running from run in
    let goes = goes-running c.args.swap_time c.loop-item.reader _ c.loop-item.live _ _ i in
    let script = c.in-Ok.ensures.end b i.read goes i.going.given (c.loop-item.invariant.reads b h) c.in-End.is in
    replays-finished c.args.swap_time c.args.asks_report b c.loop-item.reader _ c.loop-item.live _ _ _ c.conclude.result i (subst (λ x. IsScript b (i.read ++ x ∷ [])) c.in-End.is script.0, script.1) c.conclude.ensures.end

pub returns-in-End-clause-whole : goal.returns-in-End-clause-whole
returns-in-End-clause-whole g c = λ e b h.
    let i = c.loop-item.invariant.running c.requires.0 c.requires.1 in
    let goes = goes-running c.args.swap_time c.loop-item.reader _ c.loop-item.live _ _ i in
    let v = c.in-Ok.ensures.given i.read goes i.going.given in
    let script = c.in-Ok.ensures.end b i.read goes i.going.given (c.loop-item.invariant.reads b h) c.in-End.is in
    read-whole b c.next_item.new.reader _ (subst (λ x. IsAfter (Ok x) c.next_item.new.reader.phase) c.in-End.is c.in-Ok.ensures.phase) (c.in-Ok.ensures.reads b (c.loop-item.invariant.reads b h)) script.1

pub returns-in-End-clause-most : goal.returns-in-End-clause-most
returns-in-End-clause-most g c = λ b h. c.in-Ok.ensures.most b (c.loop-item.invariant.reads b h)

pub returns-in-End-clause-kind : goal.returns-in-End-clause-kind
returns-in-End-clause-kind g c = kind-finished _ _ _ _ c.conclude.result c.conclude.ensures.end

pub returns-in-End-clause-output_cause : goal.returns-in-End-clause-output_cause
returns-in-End-clause-output_cause g c = λ e.
    rose-wider-either _ _ _ _ _ _ _ _ c.loop-item.invariant.sink_faults (omega arith) c.loop-item.invariant.zeros (omega arith) (c.conclude.ensures.cause e)

pub returns-in-End-clause-swap : goal.returns-in-End-clause-swap
returns-in-End-clause-swap g c = calm-tells c.conclude.result _ _ _ _ _ _ _ _ (conclude-calm _ _ _ _ c.conclude.result c.conclude.ensures.end) c.loop-item.invariant.swap

pub unreachable-requires : goal.unreachable-requires
unreachable-requires g c =
    let i = c.loop-item.invariant.running c.requires.0 c.requires.1 in
    let goes = goes-running c.args.swap_time c.loop-item.reader _ c.loop-item.live _ _ i in
    let v = c.in-Ok.ensures.given i.read goes i.going.given in
    first-not-late c.next_item.new.reader i.read _ i.going.started refl (subst (λ x. HasGiven c.next_item.new.reader (i.read ++ x ∷ [])) c.in-Head.is v)

pub unreachable-requires-in-File : goal.unreachable-requires-in-File
unreachable-requires-in-File g c =
    let i = c.loop-item.invariant.running c.requires.0 c.requires.1 in
    let goes = goes-running c.args.swap_time c.loop-item.reader _ c.loop-item.live _ _ i in
    let v = c.in-Ok.ensures.given i.read goes i.going.given in
    first-not-late c.next_item.new.reader i.read _ i.going.started refl (subst (λ x. HasGiven c.next_item.new.reader (i.read ++ x ∷ [])) c.in-File.is v)

pub unreachable-requires-in-Start : goal.unreachable-requires-in-Start
unreachable-requires-in-Start g c =
    let i = c.loop-item.invariant.running c.requires.0 c.requires.1 in
    let goes = goes-running c.args.swap_time c.loop-item.reader _ c.loop-item.live _ _ i in
    let v = c.in-Ok.ensures.given i.read goes i.going.given in
    first-not-late c.next_item.new.reader i.read _ i.going.started refl (subst (λ x. HasGiven c.next_item.new.reader (i.read ++ x ∷ [])) c.in-Start.is v)
