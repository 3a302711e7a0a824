use Rattle.std.proofs.Common.{◌≡◌, ◌++◌, drop, map, take}
use Rattle.lp_world.specs.Connecting.{given_to}
use Rattle.lp_world.proofs.connections.give_in.Given as goal

-- what was gone over is given, and the rest is as it was
abbrev pub invariant-loop-i : goal.invariant-loop-i
invariant-loop-i l = l.open ≡ map (given_to l.ob l.number) (take l.i l.initial.open) ++ drop l.i l.initial.open
