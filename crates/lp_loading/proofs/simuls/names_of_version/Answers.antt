use Rattle.std.proofs.Common.{◌∙◌, ◌++◌, ap}
use Rattle.lp_language.specs.Resolve.{heritage}
use Rattle.lp_loading.specs.Simuls.{open_in}
use Rattle.lp_loading.proofs.SeenNames.{all_open}
use Rattle.lp_targets.specs.Brought.{Brings}
use Rattle.lp_targets.proofs.Memory.{brings_no_memory}
use Rattle.lp_loading.specs.declared.job.LoadFault.TheVariants as faults
use Rattle.lp_loading.proofs.Brought.{brought_more, exit, stands_more}
use Rattle.lp_loading.proofs.simuls.names_of_version.Goals as goal

pub returns-clause-names : goal.returns-clause-names
returns-clause-names g c = λ programs w h.
    let told = g.W.SwapFile.content c.args.swap.now in
    let whole = c.in_ok-whole.whole in
    c.in_ok-from_vec.ensures
    ∙ c.in_ok-put_tree.ensures.names programs w (c.in_ok-whole.ensures.worlds programs w h)
    ∙ ap (λ ns. ns ++ open_in whole (heritage w c.args.v)) c.new-names.ensures.items
    ∙ all_open c.law_open.ensures told programs c.args.live.now w c.args.v whole h (c.in_ok-whole.ensures.code programs w h)

pub returns-in_err-whole-clause-brings : goal.returns-in_err-whole-clause-brings
returns-in_err-whole-clause-brings g c = exit (λ r. Brings (g.W.SwapFile.content c.args.swap.now) (g.W.SwapFile.content c.bring_shared.new.swap) (g.W.SwapFile.last c.bring_shared.new.swap) (g.W.SwapFile.read_faults c.args.swap.now) (g.W.SwapFile.read_faults c.bring_shared.new.swap) (g.W.SwapFile.write_faults c.args.swap.now) (g.W.SwapFile.write_faults c.bring_shared.new.swap) (g.W.SwapFile.is_truthful c.args.swap.now) (g.W.SwapFile.is_truthful c.bring_shared.new.swap) (g.W.SwapFile.is_honest c.args.swap.now) (g.W.SwapFile.is_honest c.bring_shared.new.swap) c.args.live.now c.bring_shared.new.live r) c.from_residual.result c.in_err-whole.field-0.0 c.from_residual.ensures.1 c.in_err-whole.ensures.brings

pub returns-in_err-put_tree-clause-brings : goal.returns-in_err-put_tree-clause-brings
returns-in_err-put_tree-clause-brings g c =
    exit (λ r. Brings (g.W.SwapFile.content c.args.swap.now) (g.W.SwapFile.content c.put_tree.new.swap) (g.W.SwapFile.last c.put_tree.new.swap) (g.W.SwapFile.read_faults c.args.swap.now) (g.W.SwapFile.read_faults c.put_tree.new.swap) (g.W.SwapFile.write_faults c.args.swap.now) (g.W.SwapFile.write_faults c.put_tree.new.swap) (g.W.SwapFile.is_truthful c.args.swap.now) (g.W.SwapFile.is_truthful c.put_tree.new.swap) (g.W.SwapFile.is_honest c.args.swap.now) (g.W.SwapFile.is_honest c.put_tree.new.swap) c.args.live.now c.put_tree.new.live r) c.from_residual-in_err-put_tree.result c.in_err-put_tree.field-0.0 c.from_residual-in_err-put_tree.ensures.1 (brought_more c.in_ok-whole.ensures.brings c.bring_shared.ensures.stands c.in_err-put_tree.ensures.brings)

pub returns-in_err-from_vec-clause-brings : goal.returns-in_err-from_vec-clause-brings
returns-in_err-from_vec-clause-brings g c =
    exit (λ r. Brings (g.W.SwapFile.content c.args.swap.now) (g.W.SwapFile.content c.put_tree.new.swap) (g.W.SwapFile.last c.put_tree.new.swap) (g.W.SwapFile.read_faults c.args.swap.now) (g.W.SwapFile.read_faults c.put_tree.new.swap) (g.W.SwapFile.write_faults c.args.swap.now) (g.W.SwapFile.write_faults c.put_tree.new.swap) (g.W.SwapFile.is_truthful c.args.swap.now) (g.W.SwapFile.is_truthful c.put_tree.new.swap) (g.W.SwapFile.is_honest c.args.swap.now) (g.W.SwapFile.is_honest c.put_tree.new.swap) c.args.live.now c.put_tree.new.live r) c.from_residual-in_err-from_vec.result faults.NoMemory c.from_residual-in_err-from_vec.ensures.1 (brings_no_memory (brought_more c.in_ok-whole.ensures.brings c.bring_shared.ensures.stands c.in_ok-put_tree.ensures.brings))

pub returns-clause-brings : goal.returns-clause-brings
returns-clause-brings g c = brought_more c.in_ok-whole.ensures.brings c.bring_shared.ensures.stands c.in_ok-put_tree.ensures.brings

pub returns-in_err-put_tree-clause-stands : goal.returns-in_err-put_tree-clause-stands
returns-in_err-put_tree-clause-stands g c = λ h. stands_more (c.bring_shared.ensures.stands (c.put_tree.ensures.brings.truthful h)) (c.put_tree.ensures.stands h)

pub returns-in_err-from_vec-clause-stands : goal.returns-in_err-from_vec-clause-stands
returns-in_err-from_vec-clause-stands g c = λ h. stands_more (c.bring_shared.ensures.stands (c.put_tree.ensures.brings.truthful h)) (c.put_tree.ensures.stands h)

pub returns-clause-stands : goal.returns-clause-stands
returns-clause-stands g c = λ h. stands_more (c.bring_shared.ensures.stands (c.put_tree.ensures.brings.truthful h)) (c.put_tree.ensures.stands h)
