use Rattle.std.proofs.Common.{◌≡◌, [], false, drop}
use Rattle.lp_save.specs.Reading.{text_at}
use Rattle.lp_save.proofs.read.quoted.Given as goal

abbrev pub invariant-loop-i : goal.invariant-loop-i
invariant-loop-i l = text_at [] false l.text ≡ text_at l.points.items l.escapes (drop l.i l.text)
