use Rattle.std.proofs.Common.{◌≡◌, ◌-◌, ◌^◌, min, take}
use Rattle.lp_script.specs.Reading.{value_from}
use Rattle.lp_script.proofs.number.value.Given as goal

abbrev pub invariant-loop-b : goal.invariant-loop-b
invariant-loop-b l = l.value ≡ min (value_from 0 (take l.b-index l.word)) (2 ^ 128 - 1)
