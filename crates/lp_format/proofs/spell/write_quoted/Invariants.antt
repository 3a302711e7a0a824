use Rattle.std.proofs.Common.{◌≡◌, [], ◌∷◌, ◌++◌, drop}
use Rattle.std.specs.List.{flat_map}
use Rattle.lp_format.specs.Spelled.{quoted, quoted_point}
use Rattle.lp_format.proofs.spell.write_quoted.Given as goal

abbrev pub invariant-loop-c : goal.invariant-loop-c
invariant-loop-c l = l.fn.out ++ quoted l.s ≡ l.out ++ (flat_map quoted_point (drop l.c-index l.s) ++ 34 ∷ [])
