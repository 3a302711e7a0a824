use Rattle.std.proofs.Common.{◌≡◌, map, take}
use Rattle.lp_tree.specs.Seen.{seen}
use Rattle.lp_preproc.specs.Conditions.{sight}
use Rattle.lp_preproc.proofs.value.operands.Given as goal

abbrev pub invariant-words : goal.invariant-words
invariant-words l = map seen l.tokens.items ≡ map sight (take l.word-index l.words)
