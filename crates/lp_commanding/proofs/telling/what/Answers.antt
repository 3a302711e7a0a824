use Rattle.std.specs.Str.{chars}
use Rattle.std.proofs.Common.{◌≡◌, ◌∙◌, codes, refl}
use Rattle.std.proofs.lemmas.Result.{IfOk-weaker}
use Rattle.lp_commanding.proofs.telling.what.Goals as goal

chars-what : chars (codes "What?\n") ≡ codes "What?\n"
unfolding chars
chars-what = refl

pub returns : goal.returns
returns c = IfOk-weaker c.from_str.result (λ t. t ≡ chars (codes "What?\n")) _ (λ t k. k ∙ chars-what) c.from_str.ensures
