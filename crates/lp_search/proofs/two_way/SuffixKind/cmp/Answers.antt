use Rattle.std.proofs.Common.{sym, subst}
use Rattle.lp_search.specs.Cuts.{Precedes}
use Rattle.lp_search.proofs.OrderLemmas.{Precedes-minimal, Precedes-maximal}
use Rattle.lp_search.proofs.two_way.SuffixKind.cmp.Goals as goal

pub returns-in-Minimal-clause-accept : goal.returns-in-Minimal-clause-accept
returns-in-Minimal-clause-accept c _ =
    subst (λ k. Precedes k c.args.current c.args.candidate) (sym c.in-Minimal.is) (Precedes-minimal _ _ c.if-candidate-current.true)

pub returns-in-Minimal-2-clause-skip : goal.returns-in-Minimal-2-clause-skip
returns-in-Minimal-2-clause-skip c _ =
    subst (λ k. Precedes k c.args.candidate c.args.current) (sym c.in-Minimal.is) (Precedes-minimal _ _ c.if-candidate-current-2.true)

pub returns-in-Maximal-clause-accept : goal.returns-in-Maximal-clause-accept
returns-in-Maximal-clause-accept c _ =
    subst (λ k. Precedes k c.args.current c.args.candidate) (sym c.in-Maximal.is) (Precedes-maximal _ _ c.if-candidate-current-3.true)

pub returns-in-Maximal-2-clause-skip : goal.returns-in-Maximal-2-clause-skip
returns-in-Maximal-2-clause-skip c _ =
    subst (λ k. Precedes k c.args.candidate c.args.current) (sym c.in-Maximal.is) (Precedes-maximal _ _ c.if-candidate-current-4.true)
