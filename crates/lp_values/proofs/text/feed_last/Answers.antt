use Rattle.std.proofs.Common.{◌∙◌, ap, sym}
use Rattle.std.specs.List.{fold}
use Rattle.lp_values.proofs.HashLemmas.{few_fours}
use Rattle.lp_values.proofs.text.feed_last.Goals as goal

pub returns : goal.returns
returns g c = c.hash_slice.ensures ∙ ap (fold g.H.Hasher.write c.args.state.now) (sym (few_fours c.args.chars.now c.requires))
