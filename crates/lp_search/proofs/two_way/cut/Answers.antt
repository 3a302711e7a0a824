use Rattle.std.proofs.Common.{arith}
use Rattle.lp_search.specs.Cuts.{Precedes}
use Rattle.lp_search.specs.declared.two_way.SuffixKind.TheVariants.{Minimal, Maximal}
use Rattle.lp_search.proofs.CriticalLemmas.{IsCutPlace-of}
use Rattle.lp_search.proofs.OrderLemmas.{Precedes-trans, Precedes-irrefl, Precedes-opposed}
use Rattle.lp_search.proofs.two_way.cut.Goals as goal

pub cut_at-requires : goal.cut_at-requires
cut_at-requires c =
    let least = c.greatest_suffix-least.ensures in
    let most = c.greatest_suffix-most.ensures in
    let fits = least.fits in
    let some = least.some in
    IsCutPlace-of (Precedes Minimal) (Precedes Maximal) (Precedes-trans Minimal) (Precedes-irrefl Minimal) (Precedes-irrefl Maximal)
    (λ a b p q. Precedes-opposed a b q p) _ _ _ _ (omega arith) least.greatest most.greatest (omega arith) _ least

pub cut_at-requires-else-least-most : goal.cut_at-requires-else-least-most
cut_at-requires-else-least-most c =
    let least = c.greatest_suffix-least.ensures in
    let most = c.greatest_suffix-most.ensures in
    let fits = most.fits in
    let some = most.some in
    IsCutPlace-of (Precedes Maximal) (Precedes Minimal) (Precedes-trans Maximal) (Precedes-irrefl Maximal) (Precedes-irrefl Minimal)
    Precedes-opposed _ _ _ _ (omega arith) most.greatest least.greatest (omega arith) _ most
