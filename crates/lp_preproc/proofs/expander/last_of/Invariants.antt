use Rattle.std.proofs.Common.{◌≡◌, drop}
use Rattle.lp_preproc.specs.Directives.{last_of}
use Rattle.lp_preproc.proofs.expander.last_of.Given as goal

abbrev pub invariant-tokens : goal.invariant-tokens
invariant-tokens l = last_of l.last (drop l.token-index l.rest) ≡ last_of l.first l.rest
