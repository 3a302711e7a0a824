use Rattle.std.proofs.Common.{◌≡◌, ◌-◌, List, ℕ, length, get_or, ap, ◌∙◌, arith}
use Rattle.lp_save.proofs.DeskLemmas.{shared_one}
use Rattle.lp_save.proofs.read.Reader.shared_value.Goals as goal

pub returns : goal.returns
returns c =
    let shared = c.self.inside.shared in
    let place = c.index.result.now in
    let same : shared.items ≡ c.args.self.now.shared = ap (λ d. d.shared) c.self.view_is in
    shared_one c.args.self.now c.args.number place c.named.result (omega arith) (omega (arith, shared.ok.0, ap length same))
    (c.index.ensures ∙ ap (λ (xs : List ℕ). get_or xs (c.args.number - 1) place) same) c.named.ensures
