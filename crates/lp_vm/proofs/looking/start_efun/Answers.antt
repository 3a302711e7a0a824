use Rattle.std.proofs.Common.{◌∙◌, sym}
use Rattle.lp_vm.proofs.Lookings.{begins_alone}
use Rattle.lp_targets.proofs.Lookups.{if_ok}
use Rattle.lp_vm.proofs.looking.start_efun.Goals as goal

pub begin_efun-requires-clause-can : goal.begin_efun-requires-clause-can
begin_efun-requires-clause-can g c = (g.W.SwapFile.content c.args.swap.now, c.requires.can)

pub returns-clause-begins : goal.returns-clause-begins
returns-clause-begins g c =
    if_ok c.begin_efun.result
    (λ r h. begins_alone r c.args.at c.args.efun c.args.args c.args.live.now c.begin_efun.new.live c.args.stack.now.items c.begin_efun.new.stack.items c.args.asker.now c.begin_efun.new.asker c.args.budget.now c.begin_efun.new.budget (g.W.SwapFile.content c.args.swap.now) h)
    c.begin_efun.ensures.starts

pub begin_efun-requires-clause-nothing : goal.begin_efun-requires-clause-nothing
begin_efun-requires-clause-nothing g c = (sym c.is_with_program.ensures ∙ c.if-is_with_program.false, sym c.is_shadow.ensures.value ∙ c.if-is_shadow.false, c.requires.steps)
