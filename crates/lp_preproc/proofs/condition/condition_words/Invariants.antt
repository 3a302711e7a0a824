use Rattle.std.proofs.Common.{◌≡◌, map, take}
use Rattle.lp_preproc.specs.Directives.{in_condition}
use Rattle.lp_preproc.proofs.condition.condition_words.Given as goal

abbrev pub invariant-tokens : goal.invariant-tokens
invariant-tokens l = l.words ≡ map (in_condition l.line) (take l.token-index l.rest)
