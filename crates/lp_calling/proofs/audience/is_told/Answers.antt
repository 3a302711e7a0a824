use Rattle.std.proofs.Common.{◌∙◌, sym}
use Rattle.lp_calling.proofs.Audiences.{dead_untold, living_told}
use Rattle.lp_calling.proofs.audience.is_told.Goals as goal

pub returns-then-not-is_live-clause-told : goal.returns-then-not-is_live-clause-told
returns-then-not-is_live-clause-told c = dead_untold c.args.live.now c.args.but c.args.o (sym c.is_live.ensures ∙ c.if-not-is_live.true)

pub returns-clause-told : goal.returns-clause-told
returns-clause-told c =
    living_told c.args.live.now c.args.but c.args.o c.is_living.result (sym c.is_live.ensures ∙ c.if-not-is_live.false) (sym c.is_at.ensures ∙ c.if-is_at.false) c.is_living.ensures
