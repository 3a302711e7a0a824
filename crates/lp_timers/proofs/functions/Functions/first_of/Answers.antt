use Rattle.std.proofs.Common.{subst}
use Rattle.std.specs.List.Sorted.{IsStrictlySortedBy}
use Rattle.lp_timers.specs.Spots.{spot_cmp}
use Rattle.lp_timers.specs.Functions.{keys_or_none}
use Rattle.lp_timers.proofs.FunctionLemmas.{none_sorted}
use Rattle.lp_timers.proofs.functions.Functions.first_of.Goals as goal

pub returns-in-None-clause-ordered : goal.returns-in-None-clause-ordered
returns-in-None-clause-ordered c = subst (λ o. IsStrictlySortedBy spot_cmp (keys_or_none o)) c.in-None.ensures.value none_sorted
