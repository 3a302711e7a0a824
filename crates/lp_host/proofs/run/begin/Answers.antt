use Rattle.std.proofs.Common.{[], ap, refl, subst, sym, ◌∙◌}
use Rattle.lp_io.specs.Told.{IsCut, after_adding}
use Rattle.lp_core.specs.Turning.{Origin}
use Rattle.lp_driver.specs.Driving.{StartsAs}
use Rattle.lp_recording.specs.Recorded.{files_in}
use Rattle.lp_serve.proofs.Blaming.{put_err}
use Rattle.lp_serving.proofs.Causes.{output_then}
use Rattle.lp_state.specs.States.{live_in}
use Rattle.lp_host.specs.CutGames.{origin_of}
use Rattle.lp_host.specs.Hosting.{opening_written}
use Rattle.lp_host.specs.Playing.{IsPlayed, world_files}
use Rattle.lp_host.proofs.Blaming.{master_as, no_master_of, quiet_output, start_blames, start_quiet, unstarted_files, unstarted_master, unstarted_output, unstarted_wire}
use Rattle.lp_host.proofs.HostedRuns.{has_files, hosted_as, unstarted_as}
use Rattle.lp_host.proofs.Played.{played_begun}
use Rattle.lp_host.proofs.Shortened.{beginning_cuts, game_cuts, unstarted_cuts}
use Rattle.lp_host.proofs.run.begin.Goals as goal

pub start-started-requires-clause-files : goal.start-started-requires-clause-files
start-started-requires-clause-files g c = (world_files (files_in c.args.loaded.items), has_files c.args.loaded.items c.args.store c.requires.stored)

pub returns-in-Err : goal.returns-in-Err
returns-in-Err g c = record {
  run = rw c.not_started.ensures (unstarted_as c.in-Err.fault _ _ _ _ _);
  cut = rw c.not_started.ensures (unstarted_cuts c.in-Err.fault _ _ _ _ refl);
  output = rw c.not_started.ensures (unstarted_output c.in-Err.fault _ _);
  files = rw c.not_started.ensures (unstarted_files c.in-Err.fault _ _);
  wire = rw c.not_started.ensures (unstarted_wire c.in-Err.fault _);
  swap = rw c.not_started.ensures (start_blames c.in-Err.fault c.in-Err.ensures.tells);
  master = rw c.not_started.ensures (unstarted_master c.in-Err.fault _ _
      (no_master_of c.in-Err.fault c.args.store c.args.hosting.now.seed c.opening-moment.result (g.N.Wire.first c.args.wire.now) (world_files (files_in c.args.loaded.items)) c.opening-moment.ensures.moment (has_files c.args.loaded.items c.args.store c.requires.stored) c.in-Err.ensures.none) (refl, refl));
}

pub returns-in-Err-written : goal.returns-in-Err-written
returns-in-Err-written g c = record {
  run = tt;
  cut =
      let first = g.N.Wire.first c.args.wire.now in
      let files = c.args.loaded.items in
      let keeps = c.args.hosting.now.keeps in
      let seed = c.args.hosting.now.seed in
      let outs = c.in-Ok.both.1 in
      let before = g.K.Sink.written c.args.out.now in
      let now = g.K.Sink.written c.write_beginning-written.new.out in
      let began = subst (λ n. StartsAs c.args.store seed n (g.W.SwapFile.content c.start-started.new.swap) (live_in c.in-Ok.both.0) outs) c.opening-moment.ensures.moment c.in-Ok.ensures.starts in
      beginning_cuts seed first keeps files outs (g.W.SwapFile.content c.start-started.new.swap) (live_in c.in-Ok.both.0) before now
      (played_begun (origin_of seed first files outs) c.args.store _ _ (has_files files c.args.store c.requires.stored) began)
      (subst (λ n. IsCut before now (opening_written keeps seed n files outs)) c.opening-moment.ensures.moment
      (subst (λ fs. IsCut before now (opening_written keeps seed c.opening-moment.result fs outs)) c.as_slice.ensures.value c.in-Err-written.ensures.cut));
  output = put_err c.in-Err-written.field-0 _ _ _ _ c.in-Err-written.ensures.faults c.in-Err-written.ensures.zeros;
  files = tt;
  wire = refl;
  swap = quiet_output (start_quiet c.in-Ok.ensures.tells);
  master = tt;
}

pub returns-in-Ok-written : goal.returns-in-Ok-written
returns-in-Ok-written g c = record {
  run =
      let first = g.N.Wire.first c.args.wire.now in
      let files = c.args.loaded.items in
      let outs = c.in-Ok.both.1 in
      let origin : Origin = record { seed = c.args.hosting.now.seed; moment = first; files = files_in files; outputs = outs } in
      let began = subst (λ n. StartsAs c.args.store c.args.hosting.now.seed n (g.W.SwapFile.content c.start-started.new.swap) (live_in c.in-Ok.both.0) outs) c.opening-moment.ensures.moment c.in-Ok.ensures.starts in
      let wrote = c.in-Ok-written.ensures.whole ∙ ap (λ fs. after_adding (g.K.Sink.written c.args.out.now) (opening_written c.args.hosting.now.keeps c.args.hosting.now.seed c.opening-moment.result fs outs)) c.as_slice.ensures.value ∙ ap (λ n. after_adding (g.K.Sink.written c.args.out.now) (opening_written c.args.hosting.now.keeps c.args.hosting.now.seed n files outs)) c.opening-moment.ensures.moment in
      hosted_as c.play.result _ _ _ _ _ _ _ (λ e b p l r. (outs, subst (λ o. IsPlayed first origin c.args.hosting.now.keeps o (g.K.Sink.written c.play.new.out) e b p l (g.N.Wire.calls c.args.wire.now) (g.N.Wire.calls c.play.new.wire)) wrote r)) (λ u. u)
      (c.play.ensures.run origin (played_begun origin c.args.store _ _ (has_files files c.args.store c.requires.stored) began));
  cut =
      let first = g.N.Wire.first c.args.wire.now in
      let files = c.args.loaded.items in
      let outs = c.in-Ok.both.1 in
      let origin = origin_of c.args.hosting.now.seed first files outs in
      let began = subst (λ n. StartsAs c.args.store c.args.hosting.now.seed n (g.W.SwapFile.content c.start-started.new.swap) (live_in c.in-Ok.both.0) outs) c.opening-moment.ensures.moment c.in-Ok.ensures.starts in
      let played = played_begun origin c.args.store (g.W.SwapFile.content c.start-started.new.swap) (live_in c.in-Ok.both.0) (has_files files c.args.store c.requires.stored) began in
      let wrote = c.in-Ok-written.ensures.whole ∙ ap (λ fs. after_adding (g.K.Sink.written c.args.out.now) (opening_written c.args.hosting.now.keeps c.args.hosting.now.seed c.opening-moment.result fs outs)) c.as_slice.ensures.value ∙ ap (λ n. after_adding (g.K.Sink.written c.args.out.now) (opening_written c.args.hosting.now.keeps c.args.hosting.now.seed n files outs)) c.opening-moment.ensures.moment in
      game_cuts c.play.result c.args.hosting.now.seed first c.args.hosting.now.keeps files outs (g.W.SwapFile.content c.start-started.new.swap) (live_in c.in-Ok.both.0) _ _ _ played wrote (c.play.ensures.cut origin played);
  output = output_then _ _ _ _ _ _ _ (c.in-Ok-written.ensures.faults, c.in-Ok-written.ensures.zeros) c.play.ensures.output;
  files = c.play.ensures.files;
  wire = c.play.ensures.wire;
  swap = c.play.ensures.swap c.args.swap.now (start_quiet c.in-Ok.ensures.tells);
  master = master_as c.play.result _ _ _ _ (λ fs h. absurd h) (λ h. absurd h) c.play.ensures.master;
}
