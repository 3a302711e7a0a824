use Rattle.std.proofs.Common.{◌≡◌, ◌≢◌, ◌++◌, ℕ, List, Bor}
use Rattle.std.proofs.lemmas.Bool.Decides.{Decides-eqb}
use Rattle.std.proofs.lemmas.Slice.Eq.{strip_prefix_is}
use Rattle.lp_verdicts.proofs.Showing.{some_of}
use Rattle.lp_verdicts.proofs.reading.behind.Goals as goal

pub returns : goal.returns
returns c =
    let bytes = c.args.bytes.now in
    let front = c.args.front.now in
    some_of {A = Bor (List ℕ)} c.strip_prefix.result ((rest : List ℕ) → bytes ≢ front ++ rest) (λ x. bytes ≡ front ++ x.now)
    (strip_prefix_is Decides-eqb bytes front c.strip_prefix.result c.strip_prefix.ensures.cases)
