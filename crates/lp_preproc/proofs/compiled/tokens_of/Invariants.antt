use Rattle.std.proofs.Common.{◌≡◌, ◌++◌, length, map}
use Rattle.lp_preproc.specs.Expansion.{came_out}
use Rattle.lp_preproc.proofs.compiled.tokens_of.Given as goal

abbrev pub invariant-words : goal.invariant-words
invariant-words l = l.tokens.items ++ map came_out l.left ≡ map came_out l.fn.words

abbrev pub decreases-words : goal.decreases-words
decreases-words l = length l.left
