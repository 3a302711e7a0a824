use Rattle.std.proofs.Common.{◌≡◌, refl, inl}
use Rattle.lp_io.specs.Counts.{Counts}
use Rattle.lp_serving.specs.Causes.{OutputTells}
use Rattle.lp_host.specs.Causes.{BlamesFiles, HasNoMaster, IsNoMaster, SwapTells, is_output_end, is_wire_end}
use Rattle.lp_host.specs.CutGames.{CutsGame, WasHosted}
use Rattle.lp_host.specs.declared.run.Hosted.{Hosted}
use Rattle.lp_host.proofs.Blaming.{failed_rose, in_order, still_memory, still_swap, unloaded_so}
use Rattle.lp_host.proofs.HostedRuns.{unloaded_as}
use Rattle.lp_host.proofs.Shortened.{held_cuts}
use Rattle.lp_host.proofs.run.host.Goals as goal

pub returns-in-Err-Failed : goal.returns-in-Err-Failed
returns-in-Err-Failed g c =
    let f = g.K.Sink.faults c.args.out.now in
    let z = g.K.Sink.zeros c.args.out.now in
    let n = g.N.Wire.faults c.args.wire.now in
    let told = g.W.SwapFile.content c.args.swap.now in
    let last = g.W.SwapFile.last c.args.swap.now in
    let reads = g.W.SwapFile.read_faults c.args.swap.now in
    let truthful = g.W.SwapFile.is_truthful c.args.swap.now in
    let honest = g.W.SwapFile.is_honest c.args.swap.now in
    let s = c.no_files.result in
    let u = c.no_files.ensures in
    let output = unloaded_so (λ (e : Hosted). OutputTells (is_output_end e) f f z z) s u (λ p. (refl, refl)) (refl, refl) in
    let files = unloaded_so (λ (e : Hosted). BlamesFiles e (g.F.Files.faults c.args.files.now) (g.F.Files.faults c.load_all.new.self)) s u (λ p. failed_rose c.in-Err-Failed.field-0 _ _ c.in-Err-Failed.field-0-is c.in-Err-Failed.ensures.faults) tt in
    let wire = unloaded_so (λ (e : Hosted). Counts (is_wire_end e) n n) s u (λ p. refl) refl in
    let swap = unloaded_so (λ (e : Hosted). SwapTells e told last reads reads truthful truthful honest honest) s u (λ p. still_swap told last reads truthful honest p) (still_memory told last reads truthful honest) in
    record {
      hosts = unloaded_as s _ _ _ _ _ u (refl, refl);
      cut = unloaded_so (λ (e : Hosted). CutsGame e (WasHosted c.args.hosting.now.seed c.args.hosting.now.keeps (g.F.Files.held c.args.files.now) (g.N.Wire.first c.args.wire.now)) c.args.hosting.now.keeps (g.K.Sink.written c.args.out.now) (g.K.Sink.written c.args.out.now)) s u (λ p. tt) (inl refl);
      output_fault = output;
      files_fault = files;
      wire_fault = wire;
      swap_fault = swap;
      no_master = unloaded_so (λ (e : Hosted). IsNoMaster e (HasNoMaster c.args.hosting.now.seed (g.N.Wire.first c.args.wire.now) (g.F.Files.held c.args.files.now)) ((c.args.wire.now ≡ c.args.wire.now) × (c.args.out.now ≡ c.args.out.now))) s u (λ p. tt) tt;
      complete = λ none. in_order s _ _ _ _ _ _ _ _ _ _ _ _ _ _ _ _ output files wire swap none;
    }

pub returns-in-Ok-store_of-clause-cut : goal.returns-in-Ok-store_of-clause-cut
returns-in-Ok-store_of-clause-cut g c = held_cuts c.begin.result _ _ _ _ c.in-Ok.loaded.items _ _ c.in-Ok.ensures.all c.in-Ok.ensures.paths c.begin.ensures.cut
