use Rattle.std.proofs.Common.{subst, sym}
use Rattle.std.proofs.lemmas.Result.{IfOk-weaker}
use Rattle.lp_calling.specs.Searches.{IsFirstSearch}
use Rattle.lp_calling.proofs.search.first_search.Goals as goal

pub returns-in-Some : goal.returns-in-Some
returns-in-Some c = IfOk-weaker c.search_in.result _ _ (λ k i. subst (λ x. IsFirstSearch k c.args.live.now c.args.this x c.args.text) (sym c.in-Some.is) i) c.search_in.ensures

pub returns-in-None : goal.returns-in-None
returns-in-None c = IfOk-weaker c.search_in-in-None.result _ _ (λ k i. subst (λ x. IsFirstSearch k c.args.live.now c.args.this x c.args.text) (sym c.in-None.is) i) c.search_in-in-None.ensures
