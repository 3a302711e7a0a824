use Rattle.std.proofs.Common.{subst, sym}
use Rattle.lp_filing.specs.Rows.{Become, with_given}
use Rattle.lp_filing.proofs.Putting.{become_none}
use Rattle.lp_filing.proofs.restoring.put_given.Goals as goal

pub returns-in-None : goal.returns-in-None
returns-in-None c =
    subst (λ y. Become c.args.objects.now c.args.objects.now c.args.this (λ vs. with_given vs c.args.place y)) (sym c.in-None.is) (become_none c.args.objects.now c.args.this c.args.place)
