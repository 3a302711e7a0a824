use Rattle.std.proofs.Common.{◌≡◌, length}
use Rattle.lp_keeping.specs.Needs.{all_named}
use Rattle.lp_keeping.proofs.settling.need_all_named.Given as goal

abbrev pub invariant-versions : goal.invariant-versions
invariant-versions l = all_named l.versions l.n l.marks ≡ all_named l.versions (length l.versions) l.fn.marks

abbrev pub decreases-versions : goal.decreases-versions
decreases-versions l = l.n
