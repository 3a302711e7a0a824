use Rattle.std.proofs.Common.{◌≡◌, ◌++◌, take}
use Rattle.std.specs.Prelude.{string_bytes}
use Rattle.std.specs.Str.{encode_utf8_all}
use Rattle.lp_verdicts.specs.Verdicts.{shown}
use Rattle.lp_verdicts.proofs.shown.put_shown.Given as goal

abbrev pub invariant-loop-point : goal.invariant-loop-point
invariant-loop-point l = string_bytes l.text ≡ string_bytes l.fn.text ++ encode_utf8_all (shown (take l.point-index l.points))
