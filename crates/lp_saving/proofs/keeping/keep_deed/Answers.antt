use Rattle.std.proofs.Common.{IfOk, string_bytes, subst, sym}
use Rattle.std.specs.Option.{option_map}
use Rattle.lp_saving.specs.Saving.{KeepsOver}
use Rattle.lp_saving.proofs.keeping.keep_deed.Goals as goal

pub returns-in-Save-clause-keeps : goal.returns-in-Save-clause-keeps
returns-in-Save-clause-keeps g c = λ t.
    let a = c.args in
    subst (λ d. IfOk c.keep_saved.result (λ r. KeepsOver r a.efun d (option_map string_bytes a.path.now) (g.W.SwapFile.content a.swap.now) a.live.now a.stack.now.items a.low a.budget.now c.keep_saved.new.live c.keep_saved.new.stack.items c.keep_saved.new.budget)) (sym c.in-Save.is) (c.keep_saved.ensures.keeps t)

pub returns-in-Restore-clause-keeps : goal.returns-in-Restore-clause-keeps
returns-in-Restore-clause-keeps g c = λ t.
    let a = c.args in
    subst (λ d. IfOk c.keep_restored.result (λ r. KeepsOver r a.efun d (option_map string_bytes a.path.now) (g.W.SwapFile.content a.swap.now) a.live.now a.stack.now.items a.low a.budget.now c.keep_restored.new.live c.keep_restored.new.stack.items c.keep_restored.new.budget)) (sym c.in-Restore.is) (c.keep_restored.ensures.keeps t)
