use Rattle.std.proofs.Common.{subst, sym}
use Rattle.std.specs.Prelude.{IsTrue}
use Rattle.lp_driver.specs.Knowing.{KnowsFor}
use Rattle.lp_driver.proofs.starting.knows_for.Goals as goal

pub returns-in-First : goal.returns-in-First
returns-in-First c = subst (λ w. IsTrue c.knows_all.result → KnowsFor w c.args.live.now) (sym c.in-First.is) c.knows_all.ensures
