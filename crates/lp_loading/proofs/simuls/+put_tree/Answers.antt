use Rattle.std.proofs.Common.{◌≡◌, ◌∙◌, ◌+◌, ◌-◌, ◌++◌, suc, ap, arith, drop, get_or, sym}
use Rattle.lp_language.specs.Resolve.{each_heritage, heritage_within}
use Rattle.lp_loading.specs.Rows.{open_names}
use Rattle.lp_loading.specs.Simuls.{open_before, open_in}
use Rattle.lp_loading.proofs.SeenNames.{item_drop, tree_alone, tree_begins, tree_goes}
use Rattle.lp_targets.specs.Brought.{Brings}
use Rattle.lp_targets.proofs.Memory.{brings_no_memory}
use Rattle.lp_loading.specs.declared.job.LoadFault.TheVariants as faults
use Rattle.lp_loading.proofs.Brought.{brought_more, exit, stands_more}
use Rattle.lp_loading.proofs.simuls.+put_tree.Goals as goal

pub returns-then-depth-eq0-clause-names : goal.returns-then-depth-eq0-clause-names
returns-then-depth-eq0-clause-names g t c = λ programs w h.
    let code = c.in_ok-program.program in
    let old = c.args.names.now.items in
    let whole = c.args.whole.now in
    let named = c.in_ok-put_names.ensures ∙ ap (λ x. old ++ open_names x c.raw-2.result.now) c.raw.ensures.same ∙ ap (λ x. old ++ open_names whole x) c.raw-2.ensures.same in
    tree_alone c.law_names.ensures (g.W.SwapFile.content c.args.swap.now) programs c.args.live.now w c.args.version whole code old c.put_names.new.names.items h (c.in_ok-program.ensures.code programs w h) named
    ∙ ap (λ d. old ++ open_in whole (heritage_within d w c.args.version)) (sym c.if-depth-eq0.true)

pub loop-p-init : goal.loop-p-init
loop-p-init g t c = record {
  closed = c.bring_shared.ensures.closed;
  worlds = c.in_ok-program.ensures.worlds;
  store = c.bring_shared.ensures.store;
  outputs = c.bring_shared.ensures.outputs;
  objects = c.bring_shared.ensures.objects;
  cells = c.bring_shared.ensures.cells;
  brings = c.in_ok-program.ensures.brings;
  stands = c.bring_shared.ensures.stands;
  names = λ programs w h.
      let code = c.in_ok-program.program in
      let old = c.args.names.now.items in
      let whole = c.args.whole.now in
      let named = c.in_ok-put_names.ensures ∙ ap (λ x. old ++ open_names x c.raw-2.result.now) c.raw.ensures.same ∙ ap (λ x. old ++ open_names whole x) c.raw-2.ensures.same in
      let more : suc (c.args.depth - 1) ≡ c.args.depth = omega (arith, c.if-depth-eq0.false) in
      ap (λ ps. c.put_names.new.names.items ++ open_before whole (each_heritage (heritage_within (c.args.depth - 1) w) ps)) (c.as_slice-parents.ensures ∙ ap (λ q. q.tables.parents) c.raw-3.ensures.same)
      ∙ tree_begins c.law_names.ensures (g.W.SwapFile.content c.args.swap.now) programs c.args.live.now w c.args.version whole code (c.args.depth - 1) old c.put_names.new.names.items h (c.in_ok-program.ensures.code programs w h) named
      ∙ ap (λ d. old ++ open_in whole (heritage_within d w c.args.version)) more;
}

pub loop-p-preserved : goal.loop-p-preserved
loop-p-preserved g t c = record {
  closed = c.put_tree.ensures.closed;
  worlds = λ programs w h. c.in_ok-put_tree.ensures.worlds programs w (c.loop-p.invariant.worlds programs w h);
  store = c.put_tree.ensures.store ∙ c.loop-p.invariant.store;
  outputs = c.put_tree.ensures.outputs ∙ c.loop-p.invariant.outputs;
  objects = c.put_tree.ensures.objects ∙ c.loop-p.invariant.objects;
  cells = c.put_tree.ensures.cells ∙ c.loop-p.invariant.cells;
  brings = brought_more c.loop-p.invariant.brings c.loop-p.invariant.stands c.in_ok-put_tree.ensures.brings;
  stands = λ t. stands_more (c.loop-p.invariant.stands (c.put_tree.ensures.brings.truthful t)) (c.put_tree.ensures.stands t);
  names = λ programs w h.
      let told = c.in_ok-put_tree.ensures.names programs w (c.loop-p.invariant.worlds programs w h) in
      let parents = c.as_slice-parents.result.now in
      let i = c.loop-p.p-index in
      let p = get_or parents i (record { 0 = 0 }) in
      tree_goes w c.args.whole.now (c.args.depth - 1) p (drop (i + 1) parents) c.loop-p.names.items c.put_tree.new.names.items (c.args.names.now.items ++ open_in c.args.whole.now (heritage_within c.args.depth w c.args.version)) told
      (ap (λ ps. c.loop-p.names.items ++ open_before c.args.whole.now (each_heritage (heritage_within (c.args.depth - 1) w) ps)) (sym (item_drop parents i (record { 0 = 0 }) c.loop-p-test.true)) ∙ c.loop-p.invariant.names programs w h);
}

pub returns-in_err-program-clause-brings : goal.returns-in_err-program-clause-brings
returns-in_err-program-clause-brings g t c = exit (λ r. Brings (g.W.SwapFile.content c.args.swap.now) (g.W.SwapFile.content c.bring_shared.new.swap) (g.W.SwapFile.last c.bring_shared.new.swap) (g.W.SwapFile.read_faults c.args.swap.now) (g.W.SwapFile.read_faults c.bring_shared.new.swap) (g.W.SwapFile.write_faults c.args.swap.now) (g.W.SwapFile.write_faults c.bring_shared.new.swap) (g.W.SwapFile.is_truthful c.args.swap.now) (g.W.SwapFile.is_truthful c.bring_shared.new.swap) (g.W.SwapFile.is_honest c.args.swap.now) (g.W.SwapFile.is_honest c.bring_shared.new.swap) c.args.live.now c.bring_shared.new.live r) c.from_residual.result c.in_err-program.field-0.0 c.from_residual.ensures.1 c.in_err-program.ensures.brings

pub returns-in_err-put_names-clause-brings : goal.returns-in_err-put_names-clause-brings
returns-in_err-put_names-clause-brings g t c = exit (λ r. Brings (g.W.SwapFile.content c.args.swap.now) (g.W.SwapFile.content c.bring_shared.new.swap) (g.W.SwapFile.last c.bring_shared.new.swap) (g.W.SwapFile.read_faults c.args.swap.now) (g.W.SwapFile.read_faults c.bring_shared.new.swap) (g.W.SwapFile.write_faults c.args.swap.now) (g.W.SwapFile.write_faults c.bring_shared.new.swap) (g.W.SwapFile.is_truthful c.args.swap.now) (g.W.SwapFile.is_truthful c.bring_shared.new.swap) (g.W.SwapFile.is_honest c.args.swap.now) (g.W.SwapFile.is_honest c.bring_shared.new.swap) c.args.live.now c.bring_shared.new.live r) c.from_residual-in_err-put_names.result faults.NoMemory c.from_residual-in_err-put_names.ensures.1 (brings_no_memory c.in_ok-program.ensures.brings)

pub returns-in_err-put_tree-clause-brings : goal.returns-in_err-put_tree-clause-brings
returns-in_err-put_tree-clause-brings g t c =
    exit (λ r. Brings (g.W.SwapFile.content c.args.swap.now) (g.W.SwapFile.content c.put_tree.new.swap) (g.W.SwapFile.last c.put_tree.new.swap) (g.W.SwapFile.read_faults c.args.swap.now) (g.W.SwapFile.read_faults c.put_tree.new.swap) (g.W.SwapFile.write_faults c.args.swap.now) (g.W.SwapFile.write_faults c.put_tree.new.swap) (g.W.SwapFile.is_truthful c.args.swap.now) (g.W.SwapFile.is_truthful c.put_tree.new.swap) (g.W.SwapFile.is_honest c.args.swap.now) (g.W.SwapFile.is_honest c.put_tree.new.swap) c.args.live.now c.put_tree.new.live r) c.from_residual-in_err-put_tree.result c.in_err-put_tree.field-0.0 c.from_residual-in_err-put_tree.ensures.1 (brought_more c.loop-p.invariant.brings c.loop-p.invariant.stands c.in_err-put_tree.ensures.brings)

pub returns-in_err-put_tree-clause-stands : goal.returns-in_err-put_tree-clause-stands
returns-in_err-put_tree-clause-stands g t c = λ h. stands_more (c.loop-p.invariant.stands (c.put_tree.ensures.brings.truthful h)) (c.put_tree.ensures.stands h)
