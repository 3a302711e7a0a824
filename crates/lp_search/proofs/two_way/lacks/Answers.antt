use Rattle.std.proofs.Common.{◌≡◌, Bool, true, false, not, sym, ◌∙◌}
use Rattle.std.proofs.lemmas.Bool.{false≢true}
use Rattle.lp_search.proofs.PlaceLemmas.{group-lacks}
use Rattle.lp_search.proofs.two_way.lacks.Goals as goal

is_false : (b : Bool) → not b ≡ true → b ≡ false
is_false true h = absurd (false≢true h)
is_false false h = λ _. false

pub returns : goal.returns
returns c t = group-lacks c.args.hay.now c.args.c c.args.at 32 c.requires (sym c.contains.ensures.value ∙ is_false c.contains.result t)
