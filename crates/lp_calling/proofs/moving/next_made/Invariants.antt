use Rattle.std.proofs.Common.{◌-◌, ◌≤◌, length}
use Rattle.lp_calling.specs.Moving.{Passes}
use Rattle.lp_calling.proofs.moving.next_made.Given as goal

-- the calls before this one are passed
abbrev pub invariant-loop-at : goal.invariant-loop-at
invariant-loop-at l = record { within : l.at ≤ length l.calls.items; order : l.from ≤ l.at; passes : Passes l.live l.item l.dest l.calls.items l.from l.at }

abbrev pub decreases-loop-at : goal.decreases-loop-at
decreases-loop-at l = length l.calls.items - l.at
