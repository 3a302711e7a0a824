use Rattle.std.proofs.Common.{subst, sym}
use Rattle.std.specs.Option.{option_copied}
use Rattle.lp_calling.specs.declared.wish.FileDeed.TheVariants as deeds
use Rattle.lp_saving.specs.Saving.{IsKeeper, KeepsOver}
use Rattle.lp_saving.proofs.Kept.{brought_stay, brought_variables, kept_over, only_brought, reads_no_memory, reads_of, reads_ok, still_brought}
use Rattle.lp_targets.proofs.Memory.{brings_err}
use Rattle.lp_saving.proofs.keeping.keep_restored.Goals as goal

pub returns-in-Ok-restore-clause-reads : goal.returns-in-Ok-restore-clause-reads
returns-in-Ok-restore-clause-reads g c = reads_ok c.in-Ok.ensures.brings

pub returns-in-Err-restore-clause-reads : goal.returns-in-Err-restore-clause-reads
returns-in-Err-restore-clause-reads g c = reads_no_memory c.in-Ok.ensures.brings

pub returns-in-Err-clause-reads : goal.returns-in-Err-clause-reads
returns-in-Err-clause-reads g c = reads_of (brings_err c.in-Err.ensures.brings)

pub returns-in-Ok-restore-clause-keeps : goal.returns-in-Ok-restore-clause-keeps
returns-in-Ok-restore-clause-keeps g c = λ t.
    let a = c.args in
    let told = g.W.SwapFile.content a.swap.now in
    subst (λ p. KeepsOver c.in-Ok-restore.a a.efun (deeds.Restore a.this) p told a.live.now a.stack.now.items a.low a.budget.now c.restore.new.live c.restore.new.stack.items c.restore.new.budget) c.text_of-in-Ok.ensures
    (kept_over c.in-Ok-restore.a a.efun (deeds.Restore a.this) (option_copied c.text_of-in-Ok.result) a.this c.raw.result.now told (g.W.SwapFile.content c.bring_keeper.new.swap) a.live.now c.bring_keeper.new.live c.restore.new.live a.stack.now.items c.restore.new.stack.items a.low a.budget.now c.restore.new.budget
    c.in-Ok.ensures.brings.kept c.in-Ok.ensures.brings.stays (c.in-Ok.ensures.stands t) (subst (λ x. IsKeeper c.bring_keeper.new.live a.this x) (sym c.raw.ensures.same) c.in-Ok.ensures.keeper) c.in-Ok-restore.ensures.keeps)

pub returns-in-Ok-restore-clause-stay : goal.returns-in-Ok-restore-clause-stay
returns-in-Ok-restore-clause-stay g c = brought_stay c.args.live.now c.bring_keeper.new.live c.restore.new.live c.in-Ok.ensures.brings.stays c.in-Ok-restore.ensures.stay

pub returns-in-Err-restore-clause-stay : goal.returns-in-Err-restore-clause-stay
returns-in-Err-restore-clause-stay g c = brought_stay c.args.live.now c.bring_keeper.new.live c.restore.new.live c.in-Ok.ensures.brings.stays c.in-Err-restore.ensures.stay

pub returns-in-Err-clause-stay : goal.returns-in-Err-clause-stay
returns-in-Err-clause-stay g c = (only_brought c.args.live.now c.bring_keeper.new.live c.in-Err.ensures.brings.stays).0

pub returns-in-Ok-restore-clause-variables : goal.returns-in-Ok-restore-clause-variables
returns-in-Ok-restore-clause-variables g c = brought_variables c.args.live.now c.bring_keeper.new.live c.restore.new.live c.in-Ok.ensures.brings.stays c.in-Ok-restore.ensures.variables

pub returns-in-Err-restore-clause-variables : goal.returns-in-Err-restore-clause-variables
returns-in-Err-restore-clause-variables g c = brought_variables c.args.live.now c.bring_keeper.new.live c.restore.new.live c.in-Ok.ensures.brings.stays c.in-Err-restore.ensures.variables

pub returns-in-Err-clause-variables : goal.returns-in-Err-clause-variables
returns-in-Err-clause-variables g c = (only_brought c.args.live.now c.bring_keeper.new.live c.in-Err.ensures.brings.stays).1

pub returns-in-Err-restore-clause-still : goal.returns-in-Err-restore-clause-still
returns-in-Err-restore-clause-still g c = λ t.
    still_brought (g.W.SwapFile.content c.args.swap.now) (g.W.SwapFile.content c.bring_keeper.new.swap) c.args.live.now c.bring_keeper.new.live c.restore.new.live (c.in-Ok.ensures.stands t) c.in-Err-restore.ensures.still
