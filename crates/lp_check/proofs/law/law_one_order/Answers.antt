use Rattle.std.proofs.Common.{◌∙◌, sym}
use Rattle.lp_check.proofs.Unique.{rising_same}
use Rattle.lp_check.proofs.law.law_one_order.Goals as goal

pub returns : goal.returns
returns c = λ ls ps qs a b. rising_same ps qs a.rising b.rising (λ x. a.each x ∙ sym (b.each x))
