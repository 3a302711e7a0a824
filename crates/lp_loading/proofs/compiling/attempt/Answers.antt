use Rattle.std.proofs.Common.{◌<◌}
use Rattle.lp_loading.specs.Present.{all_made, out_count}
use Rattle.lp_loading.proofs.Parents.{is_unknown, made_found, refused_found}
use Rattle.lp_loading.proofs.Worlds.{worlds_are_ready}
use Rattle.lp_loading.proofs.Brought.{none_brought}
use Rattle.lp_loading.proofs.compiling.attempt.Goals as goal

pub compile_present-requires : goal.compile_present-requires
compile_present-requires g c = let h = c.requires.world in record { ready = worlds_are_ready (g.W.SwapFile.content c.args.swap.now) h.programs c.args.live.now h.world h.is }

pub refused-requires-clause-unknown : goal.refused-requires-clause-unknown
refused-requires-clause-unknown g c = is_unknown c.args.live.now.store c.args.path.now (all_made c.args.made.now) c.args.live.now c.args.simuls.now c.in-Err.fault c.in-Err.ensures.fault

pub returns-in-Ok-clause-found : goal.returns-in-Ok-clause-found
returns-in-Ok-clause-found g c = λ name e.
    made_found c.law_compiled_is_sound.ensures c.law_refused_is_told.ensures c.law_stores_are_read.ensures c.law_files_are_of_names.ensures (g.W.SwapFile.content c.args.swap.now) c.args.live.now (all_made c.args.made.now) c.args.path.now name c.args.own
    c.args.simuls.now c.in-Ok.program c.in-Ok.ensures.program e

pub returns-in-Err-clause-found : goal.returns-in-Err-clause-found
returns-in-Err-clause-found g c =
    let e = c.refused.ensures in
    refused_found c.law_compiled_is_sound.ensures c.law_refused_is_told.ensures c.law_stores_are_read.ensures c.law_files_are_of_names.ensures (g.W.SwapFile.content c.args.swap.now) (g.W.SwapFile.content c.refused.new.swap) c.args.live.now c.refused.new.live
    (all_made c.args.made.now) c.args.path.now c.args.own c.args.simuls.now c.in-Err.fault c.refused.result (out_count c.refused.new.live.versions < out_count c.args.live.now.versions) c.in-Err.ensures.fault e.worlds e.store e.found

pub returns-in-Ok-clause-brings : goal.returns-in-Ok-clause-brings
returns-in-Ok-clause-brings g c = none_brought (g.W.SwapFile.content c.args.swap.now) (g.W.SwapFile.last c.args.swap.now) (g.W.SwapFile.read_faults c.args.swap.now) (g.W.SwapFile.write_faults c.args.swap.now) (g.W.SwapFile.is_truthful c.args.swap.now) (g.W.SwapFile.is_honest c.args.swap.now) c.args.live.now
