use Rattle.std.proofs.Common.{◌≡◌, ◌≤◌, ◌<◌, ◌+◌, ℕ, [], true, false, rules, refl, ap, sym, subst, ◌∙◌, arith}
use Rattle.lp_recording.specs.Recorded.{ending}
use Rattle.lp_serving.proofs.Causes.{output_then}
use Rattle.lp_serve.specs.declared.run.Served.{Served}
use Rattle.lp_serve.specs.Served.{AsEnded}
use Rattle.lp_serve.proofs.Blaming.{blameless, early_files_as, early_output_as, early_swap_as, early_wire_as, files_since, still_wire}
use Rattle.lp_serve.proofs.Running.{early_as, has_run, round_keeps, runs_begin, runs_more, runs_stops, runs_vain, stop_ends, stop_faults, written_none}
use Rattle.lp_serve.proofs.Shortened.{cut_keeping, early_cut, output_cut, rounds_recorded, stopped_cut}
use Rattle.lp_serve.proofs.run.serve.Goals as goal

pub loop-polls-init : goal.loop-polls-init
loop-polls-init g c = record {
  running = c.requires.running;
  runs = λ origin from. runs_begin _ _ _ _ c.new-game.ensures.connections (c.new-game.ensures.moment ∙ c.opening.ensures.moment) c.new-game.ensures.control;
  keeps = c.new-game.ensures.keeps;
  faults = refl;
  first = refl;
  output = (refl, refl);
  files = omega arith;
  swap = λ from q. q;
}

pub loop-polls-preserved : goal.loop-polls-preserved
loop-polls-preserved g c = record {
  running = c.round.ensures.running;
  runs = λ origin from. runs_stops _ _ _ _ _ _ _ _ _ c.in-Ok-false.field-0-test
      (runs_more _ _ _ _ _ _ _ _ _ _ _ (c.loop-polls.invariant.runs origin from) (round_keeps _ _ _ _ _ _ _ _ _ _ _ _ c.loop-polls.invariant.keeps (c.in-Ok-false.ensures.goes origin from)));
  keeps = c.round.ensures.keeps ∙ c.loop-polls.invariant.keeps;
  faults = c.in-Ok-false.ensures.faults ∙ c.loop-polls.invariant.faults;
  first = c.round.ensures.first ∙ c.loop-polls.invariant.first;
  output = output_then false _ _ _ _ _ _ c.loop-polls.invariant.output c.in-Ok-false.ensures.output;
  files = omega (arith, c.loop-polls.invariant.files, c.round.ensures.files);
  swap = λ from q. c.in-Ok-false.ensures.swap from (c.loop-polls.invariant.swap from q);
}

pub returns-in-Ok-true-clause-run : goal.returns-in-Ok-true-clause-run
returns-in-Ok-true-clause-run g c = λ origin began.
    let within : c.loop-polls.polls + 1 ≤ c.args.turns = omega (arith, c.loop-polls-test.true) in
    stop_ends c.stop.result _ _ (ending c.args.keeps) c.args.turns c.stop.ensures.written
    (λ written. has_run _ (c.loop-polls.polls + 1) _ _ _ c.args.keeps _ _ _ (ending c.args.keeps) _ true (λ polls. polls ≤ c.args.turns) _ _
    (runs_stops _ _ _ _ _ _ _ _ _ c.in-Ok-true.field-0-test (runs_more _ _ _ _ _ _ _ _ _ _ _ (c.loop-polls.invariant.runs origin (g.K.Sink.written c.args.out.now))
    (round_keeps _ _ _ _ _ _ _ _ _ _ _ _ c.loop-polls.invariant.keeps (c.in-Ok-true.ensures.goes origin (g.K.Sink.written c.args.out.now)))))
    began (c.stop.ensures.ran c.round.new.swap origin) written within)

pub returns-in-Err-clause-run : goal.returns-in-Err-clause-run
returns-in-Err-clause-run g c = λ origin began.
    let within : c.loop-polls.polls < c.args.turns = omega (arith, c.loop-polls-test.true) in
    early_as c.served_early.result c.in-Err.early _ _ (ending c.args.keeps) c.args.turns c.served_early.ensures c.in-Err.ensures.vain
    (λ vain. has_run _ c.loop-polls.polls _ _ _ c.args.keeps _ _ _ [] c.loop-polls.game false (λ polls. polls < c.args.turns) _ _
    (runs_vain _ _ _ _ _ _ _ _ _ vain.4 (c.loop-polls.invariant.runs origin (g.K.Sink.written c.args.out.now))) began
    (λ turns r. subst (λ (x : g.row.C.Denot). g.C.Core.ran x c.round.new.swap origin turns) (sym vain.1) (subst (λ (y : g.row.W.Denot). g.C.Core.ran c.loop-polls.core y origin turns) (sym vain.2) r))
    (written_none _ _ (ap g.K.Sink.written vain.3)) within)

pub returns-in-Ok-clause-run : goal.returns-in-Ok-clause-run
returns-in-Ok-clause-run g c = λ origin began.
    let spent : c.loop-polls.polls ≡ c.args.turns = omega (arith, c.loop-polls-test.false, c.loop-polls.auto.polls-end) in
    has_run _ c.loop-polls.polls _ _ _ c.args.keeps _ _ _ (ending c.args.keeps) _ false (λ polls. polls ≡ c.args.turns) _ _ (c.loop-polls.invariant.runs origin (g.K.Sink.written c.args.out.now)) began (λ turns r. r) c.in-Ok.ensures.whole spent

pub returns-in-Ok-true-clause-output_fault : goal.returns-in-Ok-true-clause-output_fault
returns-in-Ok-true-clause-output_fault g c = output_then _ _ _ _ _ _ _ (output_then false _ _ _ _ _ _ c.loop-polls.invariant.output c.in-Ok-true.ensures.output) c.stop.ensures.output

pub returns-in-Ok-true-clause-files_fault : goal.returns-in-Ok-true-clause-files_fault
returns-in-Ok-true-clause-files_fault g c =
    let low : g.F.Files.faults c.args.files.now ≤ g.F.Files.faults c.round.new.files = omega (arith, c.loop-polls.invariant.files, c.round.ensures.files) in
    files_since c.stop.result _ _ _ _ _ _ low c.stop.ensures.files

pub returns-in-Ok-true-clause-complete : goal.returns-in-Ok-true-clause-complete
returns-in-Ok-true-clause-complete g c = blameless c.stop.result _ _ _ _ _ _ _ _ _ (returns-in-Ok-true-clause-output_fault g c) (returns-in-Ok-true-clause-files_fault g c)
    (still_wire c.stop.result _ _ (stop_faults c.stop.result _ c.stop.ensures.written) (c.in-Ok-true.ensures.faults ∙ c.loop-polls.invariant.faults))

pub returns-in-Err-clause-output_fault : goal.returns-in-Err-clause-output_fault
returns-in-Err-clause-output_fault g c = early_output_as c.served_early.result c.in-Err.early _ _ _ _ c.served_early.ensures (output_then _ _ _ _ _ _ _ c.loop-polls.invariant.output c.in-Err.ensures.output)

pub returns-in-Err-clause-files_fault : goal.returns-in-Err-clause-files_fault
returns-in-Err-clause-files_fault g c = early_files_as c.served_early.result c.in-Err.early _ _ c.served_early.ensures

pub returns-in-Err-clause-swap_fault : goal.returns-in-Err-clause-swap_fault
returns-in-Err-clause-swap_fault g c = λ from q. early_swap_as c.served_early.result c.in-Err.early _ _ c.served_early.ensures (c.in-Err.ensures.swap from (c.loop-polls.invariant.swap from q))

pub returns-in-Err-clause-wire_fault : goal.returns-in-Err-clause-wire_fault
returns-in-Err-clause-wire_fault g c = early_wire_as c.served_early.result c.in-Err.early _ _ _ c.served_early.ensures c.loop-polls.invariant.faults c.in-Err.ensures.faults

pub returns-in-Err-clause-complete : goal.returns-in-Err-clause-complete
returns-in-Err-clause-complete g c = blameless c.served_early.result _ _ _ _ (g.F.Files.faults c.args.files.now) (g.F.Files.faults c.round.new.files) _ _ (λ failed. Unit {0}) (returns-in-Err-clause-output_fault g c)
    (early_files_as c.served_early.result c.in-Err.early _ _ c.served_early.ensures) (returns-in-Err-clause-wire_fault g c)

pub returns-in-Ok-true-clause-cut : goal.returns-in-Ok-true-clause-cut
returns-in-Ok-true-clause-cut g c = λ origin began.
    let all = rounds_recorded _ _ _ _ c.args.keeps _ _ _ _ _ _ (runs_more _ _ _ _ _ _ _ _ _ _ _ (c.loop-polls.invariant.runs origin (g.K.Sink.written c.args.out.now))
    (round_keeps _ _ _ _ _ _ _ _ _ _ _ _ c.loop-polls.invariant.keeps (c.in-Ok-true.ensures.goes origin (g.K.Sink.written c.args.out.now)))) began in
    stopped_cut c.stop.result _ _ c.args.keeps _ _ _ all.0 c.stop.ensures.written c.stop.ensures.cut (c.round.new.core, c.round.new.swap, all.1.did) all.1.written

pub returns-in-Err-clause-cut : goal.returns-in-Err-clause-cut
returns-in-Err-clause-cut g c = λ origin began.
    let all = rounds_recorded _ _ _ _ c.args.keeps _ _ _ _ _ _ (c.loop-polls.invariant.runs origin (g.K.Sink.written c.args.out.now)) began in
    early_cut c.served_early.result c.in-Err.early _ _ c.args.keeps origin _ _ _ all.0 c.served_early.ensures (cut_keeping c.in-Err.early _ _ _ _ _ _ c.loop-polls.invariant.keeps c.in-Err.ensures.cut) all.1

pub returns-clause-cut : goal.returns-clause-cut
returns-clause-cut g c = λ origin began.
    let all = rounds_recorded _ _ _ _ c.args.keeps _ _ _ _ _ _ (c.loop-polls.invariant.runs origin (g.K.Sink.written c.args.out.now)) began in
    output_cut _ c.args.keeps _ _ _ all.0 (c.loop-polls.core, c.loop-polls.swap, all.1.did) all.1.written c.in-Err-write_end.ensures.cut
