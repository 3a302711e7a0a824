use Rattle.std.proofs.Common.{◌≡◌, ◌++◌, ◌-◌, length, drop}
use Rattle.lp_preproc.specs.Directives.{unjoined}
use Rattle.lp_preproc.proofs.bytes.unjoined.Given as goal

abbrev pub invariant-bytes : goal.invariant-bytes
invariant-bytes l = l.all.items ++ unjoined (drop l.i l.bytes) ≡ unjoined l.bytes

abbrev pub decreases-bytes : goal.decreases-bytes
decreases-bytes l = length l.bytes - l.i
