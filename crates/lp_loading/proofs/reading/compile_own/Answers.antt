use Rattle.std.proofs.Common.{◌∙◌, ap}
use Rattle.lp_front_end.specs.Parents.{file_bytes}
use Rattle.lp_loading.specs.Present.{KeepsWorlds}
use Rattle.lp_loading.proofs.FilesRead.{has_read, if_ok_on}
use Rattle.lp_loading.proofs.Parents.{world_stays}
use Rattle.lp_targets.specs.Brought.{Brings}
use Rattle.lp_targets.proofs.Memory.{brings_no_memory}
use Rattle.lp_loading.specs.declared.job.LoadFault.TheVariants as faults
use Rattle.lp_loading.proofs.Brought.{brought_more, exit, stands_more}
use Rattle.lp_loading.proofs.reading.compile_own.Goals as goal

pub compile_file-requires-clause-world : goal.compile_file-requires-clause-world
compile_file-requires-clause-world g c =
    world_stays (g.W.SwapFile.content c.args.swap.now) (g.W.SwapFile.content c.simul_names.new.swap) c.args.live.now c.simul_names.new.live c.in_ok-simuls.ensures.worlds c.requires.world

pub returns-clause-read : goal.returns-clause-read
returns-clause-read g c =
    let told0 = g.W.SwapFile.content c.args.swap.now in
    let told1 = g.W.SwapFile.content c.simul_names.new.swap in
    let told2 = g.W.SwapFile.content c.compile_file.new.swap in
    let live0 = c.args.live.now in
    let live1 = c.simul_names.new.live in
    let live2 = c.compile_file.new.live in
    let e = c.compile_file.ensures in
    let one = c.in_ok-simuls.ensures in
    if_ok_on c.compile_file.result _ _ (KeepsWorlds told1 live1 told2 live2)
    (λ r t k. has_read r c.args.job.now c.args.loads.now _ c.as_slice-2.result.now c.as_str.result.now _ told0 told1 told2 live0 live1 live2 c.requires.world one.worlds k one.sees c.as_slice-2.ensures.value
    (c.as_str.ensures.value ∙ c.in_ok-path.ensures ∙ ap file_bytes c.as_slice.ensures) c.len.ensures one.outputs e.outputs one.cells e.cells t)
    e.compiles e.worlds

pub returns-in_err-simuls-clause-brings : goal.returns-in_err-simuls-clause-brings
returns-in_err-simuls-clause-brings g c = exit (λ r. Brings (g.W.SwapFile.content c.args.swap.now) (g.W.SwapFile.content c.simul_names.new.swap) (g.W.SwapFile.last c.simul_names.new.swap) (g.W.SwapFile.read_faults c.args.swap.now) (g.W.SwapFile.read_faults c.simul_names.new.swap) (g.W.SwapFile.write_faults c.args.swap.now) (g.W.SwapFile.write_faults c.simul_names.new.swap) (g.W.SwapFile.is_truthful c.args.swap.now) (g.W.SwapFile.is_truthful c.simul_names.new.swap) (g.W.SwapFile.is_honest c.args.swap.now) (g.W.SwapFile.is_honest c.simul_names.new.swap) c.args.live.now c.simul_names.new.live r) c.from_residual.result c.in_err-simuls.field-0.0 c.from_residual.ensures.1 c.in_err-simuls.ensures.brings

pub returns-in_err-path-clause-brings : goal.returns-in_err-path-clause-brings
returns-in_err-path-clause-brings g c = exit (λ r. Brings (g.W.SwapFile.content c.args.swap.now) (g.W.SwapFile.content c.simul_names.new.swap) (g.W.SwapFile.last c.simul_names.new.swap) (g.W.SwapFile.read_faults c.args.swap.now) (g.W.SwapFile.read_faults c.simul_names.new.swap) (g.W.SwapFile.write_faults c.args.swap.now) (g.W.SwapFile.write_faults c.simul_names.new.swap) (g.W.SwapFile.is_truthful c.args.swap.now) (g.W.SwapFile.is_truthful c.simul_names.new.swap) (g.W.SwapFile.is_honest c.args.swap.now) (g.W.SwapFile.is_honest c.simul_names.new.swap) c.args.live.now c.simul_names.new.live r) c.from_residual-in_err-path.result faults.NoMemory c.from_residual-in_err-path.ensures.1 (brings_no_memory c.in_ok-simuls.ensures.brings)

pub returns-clause-brings : goal.returns-clause-brings
returns-clause-brings g c = brought_more c.in_ok-simuls.ensures.brings c.simul_names.ensures.stands c.compile_file.ensures.brings

pub returns-clause-stands : goal.returns-clause-stands
returns-clause-stands g c = λ h. stands_more (c.simul_names.ensures.stands (c.compile_file.ensures.brings.truthful h)) (c.compile_file.ensures.stands h)
