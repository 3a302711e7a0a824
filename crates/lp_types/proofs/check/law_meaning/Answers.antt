use Rattle.std.proofs.Common.{[]}
use Rattle.lp_types.proofs.Clearing.{items}
use Rattle.lp_types.proofs.Spelled as spelled
use Rattle.lp_types.proofs.check.law_meaning.Goals as goal

pub returns : goal.returns
returns c = λ is pragmas parents simuls tokens s h. record { clear = items (record { mode = pragmas.types; items = is; parents = parents; simuls = simuls }) [] [] is h; places = spelled.items s }
