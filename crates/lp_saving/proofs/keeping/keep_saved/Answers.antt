use Rattle.std.proofs.Common.{subst, sym}
use Rattle.std.specs.Option.{option_copied}
use Rattle.lp_calling.specs.declared.wish.FileDeed.TheVariants as deeds
use Rattle.lp_saving.specs.Saving.{IsKeeper, KeepsOver}
use Rattle.lp_saving.proofs.Kept.{brought_stay, brought_variables, kept_over, only_brought, reads_no_memory, reads_of, reads_ok, still_brought}
use Rattle.lp_targets.proofs.Memory.{brings_err}
use Rattle.lp_saving.proofs.keeping.keep_saved.Goals as goal

pub returns-in-Ok-save-clause-reads : goal.returns-in-Ok-save-clause-reads
returns-in-Ok-save-clause-reads g c = reads_ok c.in-Ok.ensures.brings

pub returns-in-Err-save-clause-reads : goal.returns-in-Err-save-clause-reads
returns-in-Err-save-clause-reads g c = reads_no_memory c.in-Ok.ensures.brings

pub returns-in-Err-clause-reads : goal.returns-in-Err-clause-reads
returns-in-Err-clause-reads g c = reads_of (brings_err c.in-Err.ensures.brings)

pub returns-in-Ok-save-clause-keeps : goal.returns-in-Ok-save-clause-keeps
returns-in-Ok-save-clause-keeps g c = λ t.
    let a = c.args in
    let told = g.W.SwapFile.content a.swap.now in
    subst (λ p. KeepsOver c.in-Ok-save.a a.efun (deeds.Save a.this) p told a.live.now a.stack.now.items a.low a.budget.now c.save.new.live c.save.new.stack.items c.save.new.budget) c.text_of.ensures
    (kept_over c.in-Ok-save.a a.efun (deeds.Save a.this) (option_copied c.text_of.result) a.this c.raw.result.now told (g.W.SwapFile.content c.bring_keeper.new.swap) a.live.now c.bring_keeper.new.live c.save.new.live a.stack.now.items c.save.new.stack.items a.low a.budget.now c.save.new.budget
    c.in-Ok.ensures.brings.kept c.in-Ok.ensures.brings.stays (c.in-Ok.ensures.stands t) (subst (λ x. IsKeeper c.bring_keeper.new.live a.this x) (sym c.raw.ensures.same) c.in-Ok.ensures.keeper) c.in-Ok-save.ensures.keeps)

pub returns-in-Ok-save-clause-stay : goal.returns-in-Ok-save-clause-stay
returns-in-Ok-save-clause-stay g c = brought_stay c.args.live.now c.bring_keeper.new.live c.save.new.live c.in-Ok.ensures.brings.stays c.in-Ok-save.ensures.stay

pub returns-in-Err-save-clause-stay : goal.returns-in-Err-save-clause-stay
returns-in-Err-save-clause-stay g c = brought_stay c.args.live.now c.bring_keeper.new.live c.save.new.live c.in-Ok.ensures.brings.stays c.in-Err-save.ensures.stay

pub returns-in-Err-clause-stay : goal.returns-in-Err-clause-stay
returns-in-Err-clause-stay g c = (only_brought c.args.live.now c.bring_keeper.new.live c.in-Err.ensures.brings.stays).0

pub returns-in-Ok-save-clause-variables : goal.returns-in-Ok-save-clause-variables
returns-in-Ok-save-clause-variables g c = brought_variables c.args.live.now c.bring_keeper.new.live c.save.new.live c.in-Ok.ensures.brings.stays c.in-Ok-save.ensures.variables

pub returns-in-Err-save-clause-variables : goal.returns-in-Err-save-clause-variables
returns-in-Err-save-clause-variables g c = brought_variables c.args.live.now c.bring_keeper.new.live c.save.new.live c.in-Ok.ensures.brings.stays c.in-Err-save.ensures.variables

pub returns-in-Err-clause-variables : goal.returns-in-Err-clause-variables
returns-in-Err-clause-variables g c = (only_brought c.args.live.now c.bring_keeper.new.live c.in-Err.ensures.brings.stays).1

pub returns-in-Err-save-clause-still : goal.returns-in-Err-save-clause-still
returns-in-Err-save-clause-still g c = λ t.
    still_brought (g.W.SwapFile.content c.args.swap.now) (g.W.SwapFile.content c.bring_keeper.new.swap) c.args.live.now c.bring_keeper.new.live c.save.new.live (c.in-Ok.ensures.stands t) c.in-Err-save.ensures.still
