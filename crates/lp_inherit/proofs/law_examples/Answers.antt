use Rattle.std.proofs.Common.{refl}
use Rattle.lp_inherit.proofs.law_examples.Goals as goal

pub returns : goal.returns
returns c = record { once = refl; twice = refl; overridden = refl; unseen = refl; not_inherited = refl; ambiguous = refl; arguments = refl; names = refl }
