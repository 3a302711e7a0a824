use Rattle.std.specs.Str.{chars}
use Rattle.std.proofs.Common.{◌≡◌, ◌∙◌, codes, refl}
use Rattle.std.proofs.lemmas.Result.{IfOk-weaker}
use Rattle.lp_calling.proofs.search.id_name.Goals as goal

chars-id : chars (codes "id") ≡ codes "id"
unfolding chars
chars-id = refl

pub returns : goal.returns
returns c = IfOk-weaker c.from_str.result (λ t. t ≡ chars (codes "id")) _ (λ t k. k ∙ chars-id) c.from_str.ensures
