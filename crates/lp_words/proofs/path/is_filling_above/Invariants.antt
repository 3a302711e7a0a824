use Rattle.std.proofs.Common.{◌≡◌, drop, replicate}
use Rattle.lp_words.specs.Paths.{is_above}
use Rattle.lp_words.proofs.path.is_filling_above.Given as goal

-- what is left of both stands as the whole does
abbrev pub invariant-loop-c : goal.invariant-loop-c
invariant-loop-c l = is_above (drop l.c-index l.last) (replicate l.room 122) ≡ is_above l.last (replicate l.fn.room 122)
