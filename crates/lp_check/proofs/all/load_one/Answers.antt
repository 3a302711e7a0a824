use Rattle.std.proofs.Common.{◌∙◌, sym}
use Rattle.std.proofs.lemmas.Result.{on_ok_weaker}
use Rattle.lp_check.proofs.Loading.{one_known, one_new}
use Rattle.lp_check.proofs.all.load_one.Goals as goal

pub returns-then-has : goal.returns-then-has
returns-then-has c = λ ls k. record { after = ls; is = k; holds = one_known c.args.files.now c.args.simuls.now c.args.file.now ls (sym (c.has.ensures ls k) ∙ c.if-has.true) }

pub returns : goal.returns
returns c = λ ls k.
    on_ok_weaker c.load_first.result (λ g. record { after = g.after; is = g.is; holds = one_new c.args.files.now c.args.simuls.now c.args.file.now ls g.after (sym (c.has.ensures ls k) ∙ c.if-has.false) g.holds }) (c.load_first.ensures ls k)
