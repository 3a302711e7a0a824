use Rattle.std.proofs.Common.{◌∙◌, codes, subst, sym}
use Rattle.std.specs.Str.{chars}
use Rattle.lp_calling.specs.Leaving.{IsMaster}
use Rattle.lp_calling.proofs.Leaving.{chars-master, found_master, no_master}
use Rattle.lp_calling.proofs.leave.master.Goals as goal

pub returns-in-Some-clause-master : goal.returns-in-Some-clause-master
returns-in-Some-clause-master c =
    subst (λ m. IsMaster c.args.live.now m) (sym c.where_live.ensures.value)
    (found_master c.args.live.now (chars (codes "/secure/master")) c.in-Some.m chars-master c.in-Some.ensures)

pub returns-in-None-clause-master : goal.returns-in-None-clause-master
returns-in-None-clause-master c = no_master c.args.live.now (chars (codes "/secure/master")) chars-master (λ objects st. sym c.in-None.is ∙ c.find.ensures objects st)
