use Rattle.std.proofs.Common.{◌≡◌, [], ◌∷◌, map, take}
use Rattle.lp_text.proofs.pieces.singles.Given as goal

abbrev pub invariant-loop-c : goal.invariant-loop-c
invariant-loop-c l = l.all.items ≡ map (λ c. c ∷ []) (take l.c-index l.s)
